use Rattle.linker_base.proofs.Imports.{Ok, add-one, ap, arith, below_more, slice_index, ◌≡◌, ◌≤◌}
use Rattle.linker_base.proofs.UlebLemmas.{groups_or, is_read, one_reading}
use Rattle.linker_base.proofs.utils.read_uleb128.Goals as goal
use Rattle.linker_base.proofs.utils.read_uleb128.Goals.{else-i-eq9-via-then-i-eq9+else-byte-gt1, else-i-eq9-via-else-i-eq9}

pub loop-i-preserved : goal.loop-i-preserved
loop-i-preserved c =
    let tenth : c.loop-i.i ≡ 9 → slice_index c.args.content.now.now c.loop-i.i ≤ 1 = λ at. elim c.else-i-eq9.branch [
      | else-i-eq9-via-then-i-eq9+else-byte-gt1 w ↦ omega arith
      | else-i-eq9-via-else-i-eq9 w ↦ absurd (w.if-i-eq9.false at)
    ] in
    record {
      still = c.loop-i.invariant.still;
      within_ten = grind (arith, tenth);
      continue = below_more _ _ c.loop-i.invariant.continue c.if-byte-lt128.false;
      value = rw add-one (groups_or c.args.content.now.now c.loop-i.i c.loop-i.value c.from.result c.loop-i.invariant.within_ten tenth c.loop-i.invariant.value c.from.ensures);
    }

pub returns-then-byte-lt128-clause-number : goal.returns-then-byte-lt128-clause-number
returns-then-byte-lt128-clause-number c =
    let tenth : c.loop-i.i ≡ 9 → slice_index c.args.content.now.now c.loop-i.i ≤ 1 = λ at. elim c.else-i-eq9.branch [
      | else-i-eq9-via-then-i-eq9+else-byte-gt1 w ↦ w.if-byte-gt1.false
      | else-i-eq9-via-else-i-eq9 w ↦ absurd (w.if-i-eq9.false at)
    ] in
    is_read c.args.content.now.now c.loop-i.i _ c.loop-i-test.true c.loop-i.invariant.within_ten
    c.loop-i.invariant.continue c.if-byte-lt128.true tenth
    (groups_or c.args.content.now.now c.loop-i.i c.loop-i.value c.from.result c.loop-i.invariant.within_ten tenth
    c.loop-i.invariant.value c.from.ensures)

pub returns-then-byte-lt128-clause-accepted : goal.returns-then-byte-lt128-clause-accepted
returns-then-byte-lt128-clause-accepted c n rest reading =
    let same = one_reading c.args.content.now.now _ n _ rest (returns-then-byte-lt128-clause-number c) reading in
    (ap Ok same.0, same.1)
