use Rattle.linker_runs.proofs.Imports.{arith, code_bytes, subst, sym, ◌∙◌}
use Rattle.linker_runs.proofs.RiscV.{IsRelocated, becomes}
use Rattle.linker_runs.proofs.packing.riscv64.code_of.Goals as goal

pub returns-in-Some-relocated-clause-becomes : goal.returns-in-Some-relocated-clause-becomes
returns-in-Some-relocated-clause-becomes c =
    let written = code_bytes c.in-Some-relocated.code in
    let template = c.in-Some-template_of.ensures.some in
    becomes c.args.machine c.args.section.now c.args.offset c.args.place c.args.target written c.riscv64.ensures.jumps c.riscv64.ensures.calls (omega arith) (omega arith)
    c.args.kept (c.in-Some-relocated.ensures.len ∙ template.1)
    (subst (IsRelocated c.args.place c.args.target written) (sym template.0) c.in-Some-relocated.ensures.applied)
