use Rattle.linker_utils_c.proofs.Imports.{None, Some, arith, get_or, get_or-set_other, length-set, rules, ◌∙◌, ◌≡◌, ◌≢◌}
use Rattle.linker_utils_c.proofs.Found.{found_more, none_more}
use Rattle.linker_utils_c.proofs.recognising.write_found.Goals.{in-Some, in_default}
use Rattle.linker_utils_c.proofs.recognising.write_found.Goals as goal

pub loop-index-preserved : goal.loop-index-preserved
loop-index-preserved c =
    let made = c.args.made.now in
    let i = c.loop-index.index in
    let found = c.loop-index.found in
    let count = c.loop-index.count in
    let before = c.loop-index.invariant in
    elim c.match-made-index.branch [
      | in-Some w ↦
          let here : get_or made i None ≡ Some w.in-Some.one = w.in-Some.is in
          rw (w.found-is, w.count-is) (record {
            room = length-set found count w.numbers_of.result ∙ before.room;
            few = omega (arith, before.few);
            written = found_more made found i count w.in-Some.one w.numbers_of.result c.loop-index-test.true (omega (arith, before.room, before.few)) here w.numbers_of.ensures before.written;
            left = λ k numbers up. (let other : k ≢ count = omega arith in get_or-set_other found count k w.numbers_of.result numbers other ∙ before.left k numbers (omega arith));
          })
      | in_default w ↦
          let here : get_or made i None ≡ None = search rules in
          rw (w.found-is, w.count-is) (record {
            room = before.room;
            few = omega (arith, before.few);
            written = none_more made i _ c.loop-index-test.true here before.written;
            left = before.left;
          })
    ]
