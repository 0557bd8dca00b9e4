use Rattle.linker_riscv64.proofs.Imports.{Err, FitsSigned, IsEven, IsJalDistance, IsOk, JumpsAt, OddDistance, OfAuipc, OnOk, SiteDeleted, TooFar, arith, deletions_of, ints, length, of_z, rules, subst, to_z, to_z-of_z, w64, ℤ, ◌+◌, ◌↔◌, ◌∙◌, ◌≡◌, ◌≤◌}
use Rattle.linker_riscv64.proofs.Packed.{jal_rejected}
use Rattle.linker_riscv64.proofs.calls.relax_call_over.Goals as goal

-- what holds of the distance that was passed holds of the one that it is
passed : (P : ℤ → Type 0) (d e : ℤ) → FitsSigned w64 d → d ≡ e → P (to_z w64 (of_z w64 d)) → P e
passed P d e wide same = subst P (to_z-of_z w64 d wide ∙ same)

pub returns-clause-accepted : goal.returns-clause-accepted
returns-clause-accepted c = λ valid.
    let inside = c.in_ok-jump.ensures.inside in
    let jump = c.in_ok-jump.ensures.jump valid in
    let wide : FitsSigned w64 c.in_ok-jump.jump.distance = first_of (search rules, omega (arith, ints)) in
    let both = passed (λ d. IsOk c.jal_site.result ↔ ((c.args.site + 4 ≤ length c.args.section.now) × IsEven d × IsJalDistance d)) _ _ wide jump.distance c.jal_site.ensures.accepted in
    (λ ok. (inside, jump.kept, (both.0 ok).1, (both.0 ok).2), λ can. both.1 (inside.0, can.2, can.3))

pub returns-clause-jumps : goal.returns-clause-jumps
returns-clause-jumps c = λ valid.
    let wide : FitsSigned w64 c.in_ok-jump.jump.distance = first_of (search rules, omega (arith, ints)) in
    passed (λ d. OnOk c.jal_site.result (JumpsAt c.args.section.now c.jal_site.new.section c.args.site d)) _ _ wide (c.in_ok-jump.ensures.jump valid).distance c.jal_site.ensures.jumps

pub returns-clause-site_deleted : goal.returns-clause-site_deleted
returns-clause-site_deleted c = λ valid.
    let inside = c.in_ok-jump.ensures.inside in
    let jump = c.in_ok-jump.ensures.jump valid in
    let wide : FitsSigned w64 c.in_ok-jump.jump.distance = first_of (search rules, omega (arith, ints)) in
    let test = c.jal_site.ensures in (
      λ is. absurd ((jal_rejected OfAuipc (deletions_of c.args.deltas.now.deltas) c.args.section.now (c.args.site, c.args.target) (to_z w64 (of_z w64 c.in_ok-jump.jump.distance)) c.jal_site.result
          (c.args.site + 4 ≤ length c.args.section.now) (to_z-of_z w64 c.in_ok-jump.jump.distance wide ∙ jump.distance) inside jump.kept tt inside.0
          test.accepted (λ is room. omega (arith, test.out_of_section.0 is)) test.odd_distance test.too_far SiteDeleted is).1 jump.kept),
      λ fails. absurd (fails.1 jump.kept),
    )

pub returns-clause-odd_distance : goal.returns-clause-odd_distance
returns-clause-odd_distance c = λ valid.
    let inside = c.in_ok-jump.ensures.inside in
    let jump = c.in_ok-jump.ensures.jump valid in
    let wide : FitsSigned w64 c.in_ok-jump.jump.distance = first_of (search rules, omega (arith, ints)) in
    let both = passed (λ d. (c.jal_site.result ≡ Err OddDistance) ↔ ((c.args.site + 4 ≤ length c.args.section.now) × ¬ IsEven d)) _ _ wide jump.distance c.jal_site.ensures.odd_distance in
    (λ is. (inside, jump.kept, (both.0 is).1), λ can. both.1 (inside.0, can.2))

pub returns-clause-too_far : goal.returns-clause-too_far
returns-clause-too_far c = λ valid.
    let inside = c.in_ok-jump.ensures.inside in
    let jump = c.in_ok-jump.ensures.jump valid in
    let wide : FitsSigned w64 c.in_ok-jump.jump.distance = first_of (search rules, omega (arith, ints)) in
    let both = passed (λ d. (c.jal_site.result ≡ Err TooFar) ↔ ((c.args.site + 4 ≤ length c.args.section.now) × IsEven d × ¬ IsJalDistance d)) _ _ wide jump.distance c.jal_site.ensures.too_far in
    (λ is. (inside, jump.kept, (both.0 is).1, (both.0 is).2), λ can. both.1 (inside.0, can.2, can.3))

pub returns-clause-out_of_section : goal.returns-clause-out_of_section
returns-clause-out_of_section c =
    let inside = c.in_ok-jump.ensures.inside in
    (λ is _. omega (arith, inside, c.jal_site.ensures.out_of_section.0 is), λ out. absurd (out inside))
