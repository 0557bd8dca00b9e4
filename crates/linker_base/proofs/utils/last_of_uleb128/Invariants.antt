use Rattle.linker_base.proofs.Imports.{AllContinue, ◌≤◌}
use Rattle.linker_base.proofs.utils.last_of_uleb128.Given as goal

abbrev pub invariant-loop-i : goal.invariant-loop-i
invariant-loop-i l = record {
  within_ten : l.i ≤ 9;
  continue : AllContinue l.i l.bytes;
}
