use Rattle.linker_riscv64.proofs.Imports.{All, AreInReach, AreRunsOf, AreValidDeltas, Bool, IsPartOf, List, chosen_count, deletions_of, length, map, ◌≡◌}
use Rattle.linker_riscv64.proofs.shrinking.shrink_calls_into.Given as goal

abbrev pub invariant-loop-runs : goal.invariant-loop-runs
invariant-loop-runs g l = record {
  runs : AreRunsOf l.runs (map g.A.AsChoice.choice l.answer);
  has_others : AreValidDeltas l.deltas → (other : List Bool) → length other ≡ length (map g.C.AsCall.call l.calls) → AreInReach (deletions_of l.deltas) (map g.C.AsCall.call l.calls) other
      → IsPartOf other (map g.A.AsChoice.choice l.answer);
  written : All g.A.AsChoice.is_written l.answer;
}

abbrev pub decreases-loop-runs : goal.decreases-loop-runs
decreases-loop-runs g l = chosen_count (map g.A.AsChoice.choice l.answer)
