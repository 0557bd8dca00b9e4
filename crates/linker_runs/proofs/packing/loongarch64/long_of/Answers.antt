use Rattle.linker_runs.proofs.Imports.{IsApplied, IsLongOf, IsLongOutOfReach, IsRejected, IsSomeAnd, MatchOption, code_bytes, drop, operands_of, subst, sym, take}
use Rattle.linker_runs.proofs.packing.loongarch64.long_of.Goals as goal

pub returns-in-Call-clause-long : goal.returns-in-Call-clause-long
returns-in-Call-clause-long c =
    let a = c.args in
    let o = operands_of a.place a.target in
    let found = c.relocated.result in
    subst (λ k. MatchOption found (IsLongOutOfReach a.section.now a.offset k a.place a.target) (λ code. IsLongOf a.section.now a.offset k a.place a.target (code_bytes code))) (sym c.in-Call.is)
    (subst (λ x. MatchOption found (IsSomeAnd x (λ r. IsRejected r o (take 8 (drop a.offset a.section.now)))) (λ code. IsSomeAnd x (λ r. IsApplied r o (take 8 (drop a.offset a.section.now)) (code_bytes code)))) (sym c.row_of.ensures)
    (subst (λ b. MatchOption found (IsRejected c.row_of.result o b) (λ code. IsApplied c.row_of.result o b (code_bytes code))) c.pair_at.ensures
    c.relocated.ensures.applied))
