use Rattle.linker_runs.proofs.Imports.{Aligns, map, relocation_at, ℕ, ◌<◌}
use Rattle.linker_runs.proofs.riscv64.next_alignment.Given as goal

abbrev pub invariant-loop-next : goal.invariant-loop-next
invariant-loop-next g l = (k : ℕ) → l.index < k → k < l.next → ¬ Aligns (relocation_at (map g.R.AsRelocation.relocation l.relocations) k)
