-- Shapes that are compared.
use Rattle.linker_runs.proofs.Imports.{Bool, Shape, Shapes, and_parts, eqb, eqb-true, refl, rules, subst, sym, true, ◌&&◌, ◌∙◌, ◌≡◌}
use Rattle.std.specs.Bool.{Decides}
use Rattle.std.proofs.lemmas.Slice.Eq.{slice_eq-Decides}
use Rattle.std.specs.Cmp.Lexicographic.{pointwise}

abbrev shape_eq : Shape → Shape → Bool
shape_eq a b = eqb a.max_backward b.max_backward && (eqb a.max_forward b.max_forward && (eqb a.kept b.kept && eqb a.granularity b.granularity))

pub shape_decides : (a b : Shape) → Decides (shape_eq a b) (a ≡ b)
shape_decides a b = (
  λ h.
      let p = and_parts (eqb a.max_backward b.max_backward) (eqb a.max_forward b.max_forward && (eqb a.kept b.kept && eqb a.granularity b.granularity)) h in
      let q = and_parts (eqb a.max_forward b.max_forward) (eqb a.kept b.kept && eqb a.granularity b.granularity) p.1 in
      let r = and_parts (eqb a.kept b.kept) (eqb a.granularity b.granularity) q.1 in
      let following = eqb-true a.max_backward b.max_backward p.0 in
      let ahead = eqb-true a.max_forward b.max_forward q.0 in
      λ i. record { max_backward = following i; max_forward = ahead i; kept = (eqb-true a.kept b.kept r.0) i; granularity = (eqb-true a.granularity b.granularity r.1) i },
  λ e. subst (λ c. shape_eq a c ≡ true) e (same a),
)
  where
    same : (c : Shape) → shape_eq c c ≡ true
    same c = search rules

abbrev shapes_eq : Shapes → Shapes → Bool
shapes_eq a b = pointwise shape_eq a.short b.short && (eqb a.longest b.longest && eqb a.count b.count)

pub shapes_decide : (a b : Shapes) (r : Bool) → r ≡ shapes_eq a b → Decides r (a ≡ b)
shapes_decide a b r told = (
  λ h.
      let p = and_parts (pointwise shape_eq a.short b.short) (eqb a.longest b.longest && eqb a.count b.count) (sym told ∙ h) in
      let q = and_parts (eqb a.longest b.longest) (eqb a.count b.count) p.1 in
      let short = (slice_eq-Decides shape_decides a.short b.short (pointwise shape_eq a.short b.short) refl).0 p.0 in
      λ i. record { short = short i; longest = (eqb-true a.longest b.longest q.0) i; count = (eqb-true a.count b.count q.1) i },
  λ e. told ∙ subst (λ c. shapes_eq a c ≡ true) e (same a),
)
  where
    same : (c : Shapes) → shapes_eq c c ≡ true
    same c = rw ((slice_eq-Decides shape_decides c.short c.short (pointwise shape_eq c.short c.short) refl).1 refl) (search rules)
