use Rattle.linker_rewriting.proofs.Imports.{arith, decision_at, decision_in, end_by, map, subst, sym, ◌≤◌}
use Rattle.linker_rewriting.proofs.covered.span_at.Goals as goal

pub span_of-requires : goal.span_of-requires
span_of-requires c =
    let a = c.args in
    let ds = map decision_in a.windows.now.decisions.now in
    let same = c.relocation_in.ensures in
    subst (λ d. end_by d c.relocation_in.result.offset ≤ 0xffffffffffffffff) (sym c.decision_in-decision.ensures)
    (subst (λ r. end_by (decision_at ds a.index) r.offset ≤ 0xffffffffffffffff) (sym same)
    (c.requires.searchable.bounded a.index c.requires.within (subst (λ r. r.offset ≤ 0xffffffffffffffff) same (omega arith))))
