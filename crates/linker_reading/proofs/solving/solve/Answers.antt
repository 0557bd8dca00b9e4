use Rattle.linker_reading.proofs.Imports.{FieldHolds, Some, ap, base, bias_number, difference_64, false, field, has_base, if◌then◌else◌, is_paged, is_solvable, nat_lt, not, page_if, subst, sum_64, sym, terms_of, true, ◌&&◌, ◌==◌, ◌↔◌, ◌∙◌, ◌≡◌, ◌≤◌}
use Rattle.linker_reading.proofs.Formulas.{solves, rounding_after, known_above}
use Rattle.linker_reading.proofs.solving.solve.Goals.{else-paged-via-then-paged+else-field-lt12, else-paged-via-else-paged}
use Rattle.linker_reading.proofs.solving.solve.Goals as goal

pub returns-else-paged-clause-solved : goal.returns-else-paged-clause-solved
returns-else-paged-clause-solved c =
    let row = c.args.row.now in
    let f = c.args.field.now in
    let o = c.args.operands.now in
    let t = c.in-Some.terms in
    let p = is_paged t.reference row.mask in
    let is : terms_of row.kind row.size ≡ Some t = sym c.terms_of.ensures ∙ c.in-Some.is in
    let above : p ≡ true → 12 ≤ f.known.start =
    λ paged. elim c.else-paged.branch [
      | else-paged-via-then-paged+else-field-lt12 w ↦ w.if-field-lt12.false
      | else-paged-via-else-paged w ↦
          let differ : true ≡ false = sym paged ∙ sym c.is_paged-paged.ensures ∙ w.if-paged.false in
          cc
    ] in
    let rest : c.page_if.result ≡ page_if p (difference_64 f.rounding (base t.origin row o)) =
    c.page_if.ensures
    ∙ ap (λ b. page_if b (difference_64 f.rounding c.base-base.result)) c.is_paged-paged.ensures
    ∙ ap (λ x. page_if p (difference_64 f.rounding x)) c.base-base.ensures in
    let rounding : sum_64 c.bias_or_zero-bias.result c.page_if.result
    ≡ rounding_after t row f.rounding o =
    ap (λ b. sum_64 b c.page_if.result) c.bias_or_zero-bias.ensures
    ∙ ap (sum_64 (bias_number row.bias)) rest in
    let there : has_base t.origin o ≡ true =
    sym c.has_base.ensures ∙ c.if-not-has_base.false in
    let known : not (p && nat_lt f.known.start 12) ≡ true =
    elim c.else-paged.branch [
      | else-paged-via-then-paged+else-field-lt12 w ↦ known_above p f.known.start w.if-field-lt12.false
      | else-paged-via-else-paged w ↦
          ap (λ b. not (b && nat_lt f.known.start 12))
          (sym c.is_paged-paged.ensures ∙ w.if-paged.false)
    ] in
    let solvable : is_solvable t row f o ≡ true =
    ap (λ b. b && not (p && nat_lt f.known.start 12)) there ∙ known in
    rw is (record {
      solvable = solvable;
      known = c.without_rounding.ensures.known;
      rounding = c.without_rounding.ensures.rounding
          ∙ ap (λ r. if f.known.start == 0 then 0 else r) rounding;
      solves = solves row f o t c.without_rounding.result is above
          (λ n. subst (λ r. FieldHolds c.without_rounding.result n
          ↔ (field (sum_64 n r) f.known.start f.known.end ≡ f.bits)) rounding
          (c.without_rounding.ensures.same n));
    })
