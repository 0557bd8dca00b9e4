-- Packed sections of a run, in the numbers that C sees.
use Rattle.std.specs.Prelude.{◌≡◌, ◌≢◌, ◌+◌, ◌^◌, ◌<◌, ◌≤◌, ◌⊎◌, ◌↔◌, ℕ, List, [], ◌∷◌, length}
use Rattle.linker_utils_c.specs.Imports.{AreValidDeltas, DeletedOutside}
use Rattle.linker_utils_c.specs.Imports.{DifferentLengths, EndsTooHigh, Item, ItemOutOfSection}
use Rattle.linker_utils_c.specs.Imports.{ItemsOverlap, Machine, NoShape, NotItsFirstBytes}
use Rattle.linker_utils_c.specs.Imports.{NotItsInstructions, RelaxDelta, Status, Success}
use Rattle.linker_utils_c.specs.Imports.{TargetOutOfReach, deletions_of}
use Rattle.linker_runs.specs.declared.packing.ItemError.{ItemError}
use Rattle.linker_runs.specs.declared.packing.ItemError.TheVariants as errors
use Rattle.linker_runs.specs.Moved.{AreMoved}
use Rattle.linker_runs.specs.Origins.{HasItsInstructions}
use Rattle.linker_runs.specs.Packing.{Section, section_of, packed_offset, IsPackedRun}
use Rattle.linker_runs.specs.Packing.{IsFirstRejected}
use Rattle.linker_utils_c.specs.Status.{code, IsOneOf}

-- the status of why an item isn't written
abbrev pub item_status : ItemError → Status
item_status errors.Overlaps = ItemsOverlap
item_status errors.OutOfSection = ItemOutOfSection
item_status errors.DeletedOutside = DeletedOutside
item_status errors.NotItsFirstBytes = NotItsFirstBytes
item_status errors.NotItsInstructions = NotItsInstructions
item_status errors.NoShape = NoShape
item_status errors.OutOfReach = TargetOutOfReach

-- what is returned that is about one of the items
abbrev pub item_statuses : List Status
item_statuses = ItemsOverlap ∷ ItemOutOfSection ∷ DeletedOutside ∷ NotItsFirstBytes
    ∷ NotItsInstructions ∷ NoShape ∷ TargetOutOfReach ∷ []

-- the status says why the item at the index isn't written, and it is the first that can't be
pub record IsItemRejected (machine : Machine) (s : Section) (items : List Item) (at status : ℕ)
    : Type 0 where
  pub error : ItemError
  pub says : status ≡ code (item_status error)
  pub first : IsFirstRejected machine s items (record { index = at; error = error })

abbrev pub IsRunPackedOrRejected : Machine → Section → List Item → List ℕ → List ℕ → List ℕ → ℕ → ℕ
    → Type 0
IsRunPackedOrRejected machine s items before after packed at status =
    ((status ≡ code Success) × IsPackedRun machine s items packed
    × AreMoved machine s items before after)
    ⊎ IsItemRejected machine s items at status

-- the status says whether an item of a section has its instructions
abbrev pub SaysOfInstructions : Machine → List ℕ → ℕ → Item → ℕ → Type 0
SaysOfInstructions machine section base item status =
    ((status ≡ code Success) × HasItsInstructions machine section base item)
    ⊎ ((status ≡ code NotItsInstructions) × ¬ HasItsInstructions machine section base item)

-- what a pack of a section that begins at the input offset `base` returns, with any deltas
pub record IsRunReturned (machine : Machine) (deltas : List RelaxDelta) (section : List ℕ)
    (base start : ℕ) (items : List Item) (before after packed_before packed : List ℕ)
    (faulty_before faulty status : ℕ) : Type 0 where
  pub listed : IsOneOf (Success ∷ EndsTooHigh ∷ DifferentLengths ∷ item_statuses) status
  pub too_high : (status ≡ code EndsTooHigh) ↔ (2 ^ 64 ≤ base + length section)
  pub different_lengths : AreValidDeltas deltas → base + length section < 2 ^ 64
      → (status ≡ code DifferentLengths)
      ↔ (length packed_before
      ≢ packed_offset (section_of section base (deletions_of deltas) start)
      (base + length section))
  pub outcome : AreValidDeltas deltas → (status ≡ code EndsTooHigh)
      ⊎ (status ≡ code DifferentLengths)
      ⊎ IsRunPackedOrRejected machine (section_of section base (deletions_of deltas) start) items
      before after packed faulty status
  pub unchanged : status ≢ code Success → (packed ≡ packed_before) × (after ≡ before)
  pub faulty_stays : ¬ IsOneOf item_statuses status → faulty ≡ faulty_before
