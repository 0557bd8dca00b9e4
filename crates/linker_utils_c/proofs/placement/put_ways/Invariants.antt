use Rattle.linker_utils_c.proofs.Imports.{None, get_or, length, way_number, ℕ, ◌<◌, ◌≡◌}
use Rattle.linker_output.specs.Placement.{at}
use Rattle.linker_utils_c.proofs.placement.put_ways.Given as goal

abbrev pub invariant-loop-index : goal.invariant-loop-index
invariant-loop-index l = record {
  room : length l.ways ≡ length l.initial.ways;
  written : (k : ℕ) → k < l.index → at l.ways k ≡ way_number (get_or l.stubs k None);
}
