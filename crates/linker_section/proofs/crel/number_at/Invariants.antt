use Rattle.linker_section.proofs.Imports.{AllContinue, low_groups, ◌≡◌}
use Rattle.linker_section.proofs.crel.number_at.Given as goal

abbrev pub invariant-loop-i : goal.invariant-loop-i
invariant-loop-i l = record {
  continue : AllContinue l.i l.bytes;
  value : l.low ≡ low_groups l.bytes l.i;
}
