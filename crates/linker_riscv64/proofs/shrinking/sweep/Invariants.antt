use Rattle.linker_riscv64.proofs.Imports.{All, AreRunsOf, AreShrinkable, AreValidDeltas, HadTurn, IsChosen, IsInReachAt, KeepsOthers, chosen_count, deletions_of, false, length, map, true, ℕ, ◌<◌, ◌≡◌, ◌≤◌}
use Rattle.linker_riscv64.proofs.shrinking.sweep.Given as goal

abbrev pub invariant-loop-turn : goal.invariant-loop-turn
invariant-loop-turn g l = record {
  runs : AreRunsOf l.runs (map g.A.AsChoice.choice l.answer);
  keeps : AreValidDeltas l.deltas → AreShrinkable (deletions_of l.deltas) (map g.C.AsCall.call l.calls)
      → KeepsOthers (deletions_of l.deltas) (map g.C.AsCall.call l.calls) (map g.A.AsChoice.choice l.initial.answer) (map g.A.AsChoice.choice l.answer);
  in_reach : AreValidDeltas l.deltas → AreShrinkable (deletions_of l.deltas) (map g.C.AsCall.call l.calls) → l.dropped ≡ false
      → (i : ℕ) → i < length l.calls → HadTurn l.down (length l.calls) l.turn i → IsChosen (map g.A.AsChoice.choice l.answer) i → IsInReachAt (deletions_of l.deltas) (map g.C.AsCall.call l.calls) (map g.A.AsChoice.choice l.answer) i;
  no_more : chosen_count (map g.A.AsChoice.choice l.answer) ≤ chosen_count (map g.A.AsChoice.choice l.initial.answer);
  fewer : l.dropped ≡ true → chosen_count (map g.A.AsChoice.choice l.answer) < chosen_count (map g.A.AsChoice.choice l.initial.answer);
  written : All g.A.AsChoice.is_written l.initial.answer → All g.A.AsChoice.is_written l.answer;
}
