-- One more deletion of a run.
use Rattle.linker_base.proofs.Imports.{All-push, EndFits, IsRun, List, [], arith, get_or_push, length, length_push, max, refl, ℕ, ◌++◌, ◌+◌, ◌∷◌, ◌≤◌}
use Rattle.linker_base.proofs.Together.{below_push}

pub IsRun-push : (from next : ℕ) (ds : List (ℕ × ℕ)) (d : ℕ × ℕ) → IsRun from next ds → next ≤ d.0 → EndFits d → IsRun from (d.0 + max d.1 1) (ds ++ d ∷ [])
IsRun-push from next ds d run begins fits =
    let below = below_push ds d next (d.0 + max d.1 1) (record { valid = run.valid; below = run.end }) begins fits refl in
    record {
      valid = below.valid;
      rise = omega (arith, run.rise);
      begin = All-push (λ e. from ≤ e.0) ds d run.begin (omega (arith, run.rise));
      end = below.below;
      least = λ i le below.
          let last = rw (get_or_push ds d (0, 0) (length ds) refl) at (below (length ds) (0, 0) (omega (arith, length_push ds d))) in
          omega (arith, last.0, last.1);
    }
