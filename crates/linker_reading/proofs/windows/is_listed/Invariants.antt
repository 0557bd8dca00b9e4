use Rattle.linker_reading.proofs.Imports.{Some, slice_get, ℕ, ◌<◌, ◌≡◌}
use Rattle.linker_reading.proofs.windows.is_listed.Given as goal

abbrev pub invariant-loop-index : goal.invariant-loop-index
invariant-loop-index g l = (i : ℕ) → i < l.index → slice_get l.choices.0 i ≡ Some l.choice → ⊥
