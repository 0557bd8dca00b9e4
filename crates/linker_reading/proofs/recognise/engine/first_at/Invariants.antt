use Rattle.linker_reading.proofs.Imports.{slice_get, ℕ, ◌<◌, ◌≡◌}
use Rattle.linker_reading.proofs.recognise.engine.first_at.Given as goal

abbrev pub invariant-loop-earlier : goal.invariant-loop-earlier
invariant-loop-earlier g l = (i : ℕ) → i < l.earlier → slice_get l.choices i ≡ slice_get l.choices l.index → ⊥
