use Rattle.linker_rewriting.proofs.Imports.{facts_now, length, slice_get, ℕ, ◌<◌, ◌≡◌}
use Rattle.linker_rewriting.proofs.kept.snapshot_facts.Given as goal

abbrev pub invariant-loop-index : goal.invariant-loop-index
invariant-loop-index l = record {
  kept : (n : ℕ) → n < l.index → slice_get l.kept n ≡ facts_now l.output (slice_get l.symbols n);
  room : length l.symbols ≡ length l.kept;
}
