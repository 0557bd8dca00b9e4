-- What packers have in common: positions by deltas, and the bytes of a section that stay, copied.
use Rattle.std.specs.Prelude.{◌≡◌, ℕ, ◌+◌, ◌-◌, ◌<◌, ◌≤◌, List, length, min, IsTrue, slice_index}
use Rattle.std.specs.Prelude.{slice_index_or, false}
use Rattle.linker_base.specs.declared.relaxation.RelaxDelta.{RelaxDelta}
use Rattle.linker_base.specs.declared.packing.Position.{Position}
use Rattle.linker_base.specs.Deletions.{is_kept, rank}
use Rattle.linker_base.specs.Deltas.{deletions_of}

-- what stands at an index outside of a list of deltas
abbrev pub no_delta : RelaxDelta
no_delta = record { input_offset = 0; cumulative_deleted = 0; bytes_deleted = 0 }

abbrev pub delta_at : List RelaxDelta → ℕ → RelaxDelta
delta_at deltas k = slice_index_or deltas k no_delta

-- n of the deltas, which ascend, begin below an offset
pub record AreBegun (deltas : List RelaxDelta) (offset begun : ℕ) : Type 0 where
  pub within : begun ≤ length deltas
  pub below : 0 < begun → (delta_at deltas (begun - 1)).input_offset < offset
  pub above : begun < length deltas → offset ≤ (delta_at deltas begun).input_offset

-- it is the position of its input offset
pub record IsPosition (deltas : List RelaxDelta) (position : Position) : Type 0 where
  pub begun : AreBegun deltas position.input_offset position.begun
  pub output : position.output_offset ≡ rank (deletions_of deltas) position.input_offset

-- the first deletions end at an offset or below it, and the others begin at it or above
pub record IsRunStart (deletions : List (ℕ × ℕ)) (passed from : ℕ) : Type 0 where
  pub ended : (j : ℕ) (d : ℕ × ℕ) → j < passed
      → (slice_index_or deletions j d).0 + (slice_index_or deletions j d).1 ≤ from
  pub ahead : (j : ℕ) (d : ℕ × ℕ) → passed ≤ j → j < length deletions
      → from ≤ (slice_index_or deletions j d).0

-- such an offset, which is the base or above, and what lies between is deleted
pub record IsFirstRun (deletions : List (ℕ × ℕ)) (base first from : ℕ) : Type 0 where
  pub start : IsRunStart deletions first from
  pub above : base ≤ from
  pub gone : (p : ℕ) → base ≤ p → p < from → is_kept deletions p ≡ false

-- the bytes of a section from its base up to an offset that stay stand where they go
abbrev pub IsFilledTo : List (ℕ × ℕ) → ℕ → List ℕ → ℕ → List ℕ → Type 0
IsFilledTo deletions base section upto packed = (p : ℕ) → p < length section → base + p < upto
    → IsTrue (is_kept deletions (base + p))
    → slice_index packed (rank deletions (base + p) - rank deletions base) ≡ slice_index section p

-- all of them do
abbrev pub IsFilled : List (ℕ × ℕ) → ℕ → List ℕ → List ℕ → Type 0
IsFilled deletions base section packed =
    IsFilledTo deletions base section (base + length section) packed

-- the kept bytes up to the run that begins at an offset are copied, and the next goes to an index
pub record IsCopied (deletions : List (ℕ × ℕ)) (base : ℕ) (section : List ℕ) (passed from at : ℕ)
    (packed : List ℕ) : Type 0 where
  pub start : IsRunStart deletions passed from
  pub above : base ≤ from
  pub at_is : at + rank deletions base ≡ rank deletions (min from (base + length section))
  pub filled : IsFilledTo deletions base section (min from (base + length section)) packed
