use Rattle.linker_section.proofs.Imports.{IsRow, ap, arith, false, is_of_pair, leb-true, subst, sym, window_len, ◌-◌, ◌∙◌, ◌≡◌}
use Rattle.linker_section.proofs.Rows.{one_info}
use Rattle.linker_section.proofs.Runs.{len_within}
use Rattle.linker_section.proofs.order.is_past.Goals as goal

pub returns-then-not-is_of_pair : goal.returns-then-not-is_of_pair
returns-then-not-is_of_pair c fits =
    let a = c.args in
    let later = c.if-next-last.false in
    let window = c.window.ensures in (
      (omega (arith, later)),
      (λ row there is_row small.
          let same : c.in-Some.row ≡ row = one_info a.architecture _ c.in-Some.row row
          (subst (IsRow a.architecture a.last.now.r_type) c.in-Some.is c.row.ensures) is_row in
          let within = len_within row there (subst (λ x. is_of_pair x ≡ false) (c.info.ensures.row ∙ same) (sym c.is_of_pair.ensures ∙ c.if-not-is_of_pair.true)) in
          omega (arith, later, (leb-true c.window.result (a.next.now.offset - a.last.now.offset) fits), window, within, (ap window_len same))),
    )
