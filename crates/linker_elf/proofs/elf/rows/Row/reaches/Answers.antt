use Rattle.linker_elf.proofs.Imports.{FitsSigned, IsInReach, IsTrue, ReachesValue, of_z, rules, subst, sym, to_z, to_z-of_z, true≢false, w64, ◌↔◌, ◌∙◌}
use Rattle.linker_elf.proofs.Terms.{given, not_given}
use Rattle.linker_elf.proofs.elf.rows.Row.reaches.Goals as goal

pub returns-in-Ok : goal.returns-in-Ok
returns-in-Ok c =
    let row = c.args.self.now in
    let v = c.in-Ok.value in
    let fits : FitsSigned w64 v = search rules in
    let is = given row c.args.operands.now v (sym c.value.ensures ∙ c.in-Ok.is) in
    let reach : IsTrue c.is_in_reach.result ↔ IsInReach row v =
    subst (λ n. IsTrue c.is_in_reach.result ↔ IsInReach row n) (to_z-of_z w64 v fits)
    (subst (λ info. IsTrue c.is_in_reach.result ↔ IsInReach info (to_z w64 (of_z w64 v))) c.info.ensures.row c.is_in_reach.ensures) in (
      λ yes. (is.0, subst (ReachesValue row) (sym (is.1)) (reach.0 yes)),
      λ both. reach.1 (subst (ReachesValue row) (is.1) (both.1)),
    )

pub returns-in-Err : goal.returns-in-Err
returns-in-Err c =
    let row = c.args.self.now in (
      λ yes. absurd (true≢false (sym yes)),
      λ both. absurd (subst (λ x. ReachesValue row x)
          (not_given row c.args.operands.now c.in-Err.field-0 (sym c.value.ensures ∙ c.in-Err.is) (both.0)) (both.1)),
    )
