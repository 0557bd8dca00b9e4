use Rattle.linker_rewriting.proofs.Imports.{IsHighAt, IsHighFrom, None, Some, relative_high, subst, sym, ◌∙◌}
use Rattle.linker_rewriting.proofs.global_pointer.labelled.Goals as goal

pub returns : goal.returns
returns c =
    let bytes = c.args.relocations.now in
    λ up. (
      c.in_ok-high.high,
      subst (λ offset. IsHighFrom bytes relative_high offset (Some c.in_ok-high.high))
          (sym (sym c.label_at.ensures ∙ c.in_ok-at.was))
          (subst (λ r_type. IsHighAt bytes r_type c.in_ok-at.at (Some c.in_ok-high.high)) c.r_type-r_type.ensures
          (c.in_ok-high.ensures.high up)),
      c.relocation_in.ensures,
    )

pub returns-in_err-high : goal.returns-in_err-high
returns-in_err-high c =
    let bytes = c.args.relocations.now in
    rw c.from_residual-in_err-high.ensures (λ up. subst (λ offset. IsHighFrom bytes relative_high offset None)
    (sym (sym c.label_at.ensures ∙ c.in_ok-at.was))
    (subst (λ r_type. IsHighAt bytes r_type c.in_ok-at.at None) c.r_type-r_type.ensures
    (c.in_err-high.ensures.high up)))
