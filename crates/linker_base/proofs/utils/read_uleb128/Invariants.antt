use Rattle.linker_base.proofs.Imports.{AllContinue, ◌≡◌, ◌≤◌}
use Rattle.linker_base.proofs.UlebLemmas.{low_groups}
use Rattle.linker_base.proofs.utils.read_uleb128.Given as goal

abbrev pub invariant-loop-i : goal.invariant-loop-i
invariant-loop-i l = record {
  still : l.content.now ≡ l.bytes;
  within_ten : l.i ≤ 9;
  continue : AllContinue l.i l.bytes;
  value : l.value ≡ low_groups l.bytes l.i;
}
