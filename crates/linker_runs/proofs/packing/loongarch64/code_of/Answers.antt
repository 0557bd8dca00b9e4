use Rattle.linker_runs.proofs.Imports.{IsOutOfReach, IsRelocated, arith, code_bytes, inl, inr, subst, ◌∙◌}
use Rattle.linker_runs.proofs.LoongArch.{becomes_short, becomes_long, short_accepts, long_accepts}
use Rattle.linker_runs.proofs.packing.loongarch64.code_of.Goals as goal

pub returns-in-Some-relocated-clause-becomes : goal.returns-in-Some-relocated-clause-becomes
returns-in-Some-relocated-clause-becomes c =
    let laws = c.loongarch64.ensures in
    let code = c.in-Some-relocated.code in
    becomes_short c.args.section.now c.args.offset c.args.place c.args.target (code_bytes code) laws.branches laws.calls laws.relative (omega arith) (omega arith)
    c.in-Some.kind c.in-Some.ensures (c.in-Some-relocated.ensures.len ∙ c.short_of.ensures.len)
    (subst (λ t. IsRelocated t c.args.place c.args.target (code_bytes code)) c.short_of.ensures.template c.in-Some-relocated.ensures.applied)

pub returns-in-Some-relocated-clause-accepts : goal.returns-in-Some-relocated-clause-accepts
returns-in-Some-relocated-clause-accepts c =
    let code = c.in-Some-relocated.code in
    short_accepts c.args.section.now c.args.offset c.args.kept c.args.place c.args.target c.in-Some.kind (code_bytes code) c.in-Some.ensures c.in-4.is
    (subst (λ t. IsRelocated t c.args.place c.args.target (code_bytes code)) c.short_of.ensures.template c.in-Some-relocated.ensures.applied)

pub returns-in-None-clause-rejected : goal.returns-in-None-clause-rejected
returns-in-None-clause-rejected c =
    (c.in-Some.kind, c.in-Some.ensures, inl (c.in-4.is, subst (λ t. IsOutOfReach t c.args.place c.args.target) c.short_of.ensures.template c.in-None.ensures.applied))

pub returns-in-Some-long_of-clause-becomes : goal.returns-in-Some-long_of-clause-becomes
returns-in-Some-long_of-clause-becomes c =
    let laws = c.loongarch64.ensures in
    becomes_long c.args.section.now c.args.offset c.args.place c.args.target (code_bytes c.in-Some-long_of.code) laws.branches laws.calls laws.relative (omega arith) (omega arith)
    c.in-Some.kind c.in-Some.ensures c.in-Some-long_of.ensures.len c.in-Some-long_of.ensures.long

pub returns-in-Some-long_of-clause-accepts : goal.returns-in-Some-long_of-clause-accepts
returns-in-Some-long_of-clause-accepts c =
    let code = c.in-Some-long_of.code in
    long_accepts c.args.section.now c.args.offset c.args.kept c.args.place c.args.target c.in-Some.kind (code_bytes code) c.in-Some.ensures c.in-8.is c.in-Some-long_of.ensures.long

pub returns-in-None-long_of-clause-rejected : goal.returns-in-None-long_of-clause-rejected
returns-in-None-long_of-clause-rejected c =
    (c.in-Some.kind, c.in-Some.ensures, inr (c.in-8.is, c.in-None-long_of.ensures.long))
