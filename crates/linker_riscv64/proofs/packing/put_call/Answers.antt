use Rattle.linker_riscv64.proofs.Imports.{FitsSigned, IsEven, IsJalDistance, JumpsAndLinks, ap, arith, call_len, deletions_of, drop, false≢true, ints, length, length-drop, length-take, link_register, of_z, rank, refl, rules, subst, sym, take, to_z, to_z-of_z, w64, ◌+◌, ◌-◌, ◌∙◌, ◌≡◌, ◌≤◌}
use Rattle.std.proofs.lemmas.Result.{err_from_is_err_and}
use Rattle.linker_riscv64.proofs.CallSites.{four_of, site_fits}
use Rattle.linker_riscv64.proofs.Packed.{jal_rejected, jump_put}
use Rattle.linker_riscv64.proofs.packing.put_call.Goals as goal

pub returns-then-not-has_window-clause-jumps : goal.returns-then-not-has_window-clause-jumps
returns-then-not-has_window-clause-jumps c = λ valid room.
    let ds = deletions_of c.args.deltas.now.deltas in
    let jump = c.in_ok-jump.ensures.jump valid in
    let four : c.args.site + 4 ≤ length c.args.section.now = omega (arith, c.in_ok-jump.ensures.inside, four_of c.args.link) in
    let fits = (site_fits ds c.args.site (length c.args.section.now) jump.kept four).1 in
    absurd (false≢true (sym c.if-not-has_window.true ∙ c.has_window.ensures.1 (omega arith, omega (arith, jump.output_offset, fits, room))))

pub returns-in_err-jal_site-clause-rejected : goal.returns-in_err-jal_site-clause-rejected
returns-in_err-jal_site-clause-rejected c = λ valid.
    let jump = c.in_ok-jump.ensures.jump valid in
    let at = c.in_ok-jump.jump.output_offset in
    let test = c.jal_site.ensures in
    let wide : FitsSigned w64 c.in_ok-jump.jump.distance = first_of (search rules, omega (arith, ints)) in
    let far = to_z-of_z w64 c.in_ok-jump.jump.distance wide ∙ jump.distance in
    let fits : at + 4 ≤ length c.overwrite.new.section = omega (arith, (c.has_window.ensures.0 c.if-not-has_window.false).1, c.overwrite.auto.section) in
    let stops = err_from_is_err_and c.from_residual-in_err-jal_site.result c.from_residual-in_err-jal_site.ensures.1 in
    rw (stops.1, stops.2) (jal_rejected c.args.link (deletions_of c.args.deltas.now.deltas) c.args.section.now (c.args.site, c.args.target) (to_z w64 (of_z w64 c.in_ok-jump.jump.distance)) c.jal_site.result
    (at + 4 ≤ length c.overwrite.new.section) far c.in_ok-jump.ensures.inside jump.kept c.in-Some.ensures.some.0 fits
    test.accepted (λ is room. omega (arith, test.out_of_section.0 is)) test.odd_distance test.too_far c.in_err-jal_site.field-0.0 c.in_err-jal_site.was)

pub returns-clause-accepted : goal.returns-clause-accepted
returns-clause-accepted c = λ valid.
    let jump = c.in_ok-jump.ensures.jump valid in
    let wide : FitsSigned w64 c.in_ok-jump.jump.distance = first_of (search rules, omega (arith, ints)) in
    let far = to_z-of_z w64 c.in_ok-jump.jump.distance wide ∙ jump.distance in
    let test = c.in_ok-jal_site.ensures.accepted.0 refl in
    record {
      inside = c.in_ok-jump.ensures.inside;
      kept = jump.kept;
      names = c.in-Some.ensures.some.0;
      even = subst IsEven far test.1;
      near = subst IsJalDistance far test.2;
    }

pub returns-clause-jumps : goal.returns-clause-jumps
returns-clause-jumps c = λ valid room.
    let s = c.args.section.now in
    let ds = deletions_of c.args.deltas.now.deltas in
    let jump = c.in_ok-jump.ensures.jump valid in
    let at = c.in_ok-jump.jump.output_offset in
    let wide : FitsSigned w64 c.in_ok-jump.jump.distance = first_of (search rules, omega (arith, ints)) in
    let far = to_z-of_z w64 c.in_ok-jump.jump.distance wide ∙ jump.distance in
    let start = c.args.site + c.call_len.result - 4 in
    let bytes = take (start + 4 - start) (drop start s) in
    let taken : bytes ≡ take 4 (drop (c.args.site + call_len c.args.link - 4) s) =
    ap (λ n. take n (drop start s)) (let e : start + 4 - start ≡ 4 = omega arith in e)
    ∙ ap (λ n. take 4 (drop (c.args.site + n - 4) s)) c.call_len.ensures in
    let four : length bytes ≡ 4 = length-take (start + 4 - start) (drop start s) ∙ omega (arith, length-drop start s, c.call_len.ensures, c.in_ok-jump.ensures.inside, four_of c.args.link) in
    let fits : at + 4 ≤ length c.args.packed.now = omega (arith, (c.has_window.ensures.0 c.if-not-has_window.false).1) in
    let put = jump_put s c.args.packed.now bytes c.overwrite.new.section c.jal_site.new.section c.args.link c.args.site at (to_z w64 (of_z w64 c.in_ok-jump.jump.distance))
    four taken fits c.overwrite.ensures c.in_ok-jal_site.ensures.jumps in
    subst (λ d. JumpsAndLinks c.args.packed.now c.jal_site.new.section (rank ds c.args.site) (link_register c.args.link s c.args.site) d) far
    (subst (λ n. JumpsAndLinks c.args.packed.now c.jal_site.new.section n (link_register c.args.link s c.args.site) (to_z w64 (of_z w64 c.in_ok-jump.jump.distance))) jump.output_offset put)
