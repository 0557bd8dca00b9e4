use Rattle.linker_utils_c.proofs.Imports.{AreRelocated, length, take, ◌-◌, ◌≡◌, ◌≤◌}
use Rattle.linker_utils_c.proofs.relocate.relocate_all.Given as goal

abbrev pub invariant-loop-at : goal.invariant-loop-at
invariant-loop-at l = record {
  inside : l.at ≤ length l.relocations;
  done : AreRelocated l.architecture (take l.at l.relocations) l.fn.section l.section;
  same : l.faulty ≡ l.fn.faulty;
}

abbrev pub decreases-loop-at : goal.decreases-loop-at
decreases-loop-at l = length l.relocations - l.at
