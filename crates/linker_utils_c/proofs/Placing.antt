-- The cases of a call that places stubs.
use Rattle.linker_utils_c.proofs.Imports.{Arrays, DifferentLengths, HaveLengths, IsCodeOf, IsPlacing, IsPlacingOf, List, ShortMemory, arith, code, length, refl, ℕ, ◌*◌, ◌<◌, ◌≡◌, ◌≤◌}
use Rattle.linker_output.specs.declared.placement.Branch.{Branch}
use Rattle.linker_output.specs.declared.placement.Code.{Code}
use Rattle.linker_output.specs.declared.placement.StubShape.{StubShape}

pub of_different : (branches : List Branch) (targets boundaries : List ℕ) (shape : StubShape)
    (old : Arrays) (faulty status : ℕ) → ¬ HaveLengths branches boundaries old
    → status ≡ code DifferentLengths
    → IsPlacingOf branches targets boundaries shape old old faulty faulty status
of_different branches targets boundaries shape old faulty status lacks is =
    record {
      different = λ _. (is, record { same_arrays = refl; same_index = refl });
      short = λ have. absurd (lacks have);
      placed = λ have. absurd (lacks have);
    }

pub of_short : (branches : List Branch) (targets boundaries : List ℕ) (shape : StubShape)
    (old : Arrays) (faulty status : ℕ) → HaveLengths branches boundaries old
    → length old.stubs < 2 * length branches → status ≡ code ShortMemory
    → IsPlacingOf branches targets boundaries shape old old faulty faulty status
of_short branches targets boundaries shape old faulty status have less is =
    record {
      different = λ lacks. absurd (lacks have);
      short = λ _ _. (is, record { same_arrays = refl; same_index = refl });
      placed = λ _ room. absurd (omega (arith, less, room));
    }

pub of_placed : (branches : List Branch) (targets boundaries : List ℕ) (shape : StubShape)
    (old new : Arrays) (old_faulty faulty status : ℕ) → HaveLengths branches boundaries old
    → 2 * length branches ≤ length old.stubs → (code_of : Code)
    → IsCodeOf code_of branches targets boundaries shape
    → IsPlacing code_of old new old_faulty faulty status
    → IsPlacingOf branches targets boundaries shape old new old_faulty faulty status
of_placed branches targets boundaries shape old new old_faulty faulty status have room code_of is placing =
    record {
      different = λ lacks. absurd (lacks have);
      short = λ _ less. absurd (omega (arith, less, room));
      placed = λ _ _. (code_of, is, placing);
    }
