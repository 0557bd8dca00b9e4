use Rattle.linker_riscv64.proofs.Imports.{FitsSigned, arith, deletions_of, ints, length, rules, w64, ◌+◌, ◌≤◌}
use Rattle.linker_riscv64.proofs.CallSites.{distance_is, four_of}
use Rattle.linker_riscv64.proofs.calls.jump_of.Goals as goal

pub returns-clause-jump : goal.returns-clause-jump
returns-clause-jump c = λ valid.
    let room = (c.has_window.ensures.0 c.if-not-has_window.false).1 in
    let four : c.args.site + 4 ≤ length c.args.section.now = omega (arith, room, c.call_len.ensures, four_of c.args.link) in
    let kept = c.in-Some.ensures valid in
    let wide : FitsSigned w64 c.cast_signed-distance.result = first_of (search rules, omega (arith, ints)) in
    record {
      kept = kept.0;
      output_offset = kept.1;
      distance = distance_is (deletions_of c.args.deltas.now.deltas) c.args.site c.args.target c.in-Some.output_offset c.input_to_output_offset-to.result (length c.args.section.now) c.cast_signed-distance.result wide
          (λ low high. first_of (search rules, omega (arith, ints, c.cast_signed-distance.ensures))) four c.if-target-section.false (omega arith) kept.1 (c.input_to_output_offset-to.ensures valid);
    }
