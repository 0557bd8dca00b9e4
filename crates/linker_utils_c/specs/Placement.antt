-- Places of stubs, in arrays of the caller's.
use Rattle.std.specs.Prelude.{◌≡◌, ◌≤◌, ◌<◌, ◌+◌, ◌-◌, ◌*◌, ◌^◌, ◌⊎◌, ℕ, List, length}
use Rattle.std.specs.Prelude.{slice_index_or}
use Rattle.std.specs.Prelude.{Option, Some, None, ⊤}
use Rattle.linker_output.specs.Placement.{at, stub_at, IsPlaced, IsPlaceCause, SharesStubs}
use Rattle.linker_output.specs.declared.placement.Branch.{Branch}
use Rattle.linker_output.specs.declared.placement.Code.{Code}
use Rattle.linker_output.specs.declared.placement.Layout.{Layout}
use Rattle.linker_output.specs.declared.placement.PlaceError.{PlaceError}
use Rattle.linker_output.specs.declared.placement.PlaceError.TheVariants as errors
use Rattle.linker_output.specs.declared.placement.Placement.{Placement}
use Rattle.linker_output.specs.declared.placement.StubShape.{StubShape}
use Rattle.linker_utils_c.specs.Status.{code}
use Rattle.linker_utils_c.specs.declared.placement.PlacedStub.{PlacedStub}
use Rattle.linker_utils_c.specs.Imports.{CodeTooLong, DifferentLengths, NoBoundary, NoTarget}
use Rattle.linker_utils_c.specs.Imports.{NotAscending, ShortMemory, Status, StubTooFar}
use Rattle.linker_utils_c.specs.Imports.{StubWithoutLength, Success}
use Rattle.linker_utils_c.specs.declared.status.Status.TheVariants.{OutOfMemory}

-- arrays are those of code
pub record IsCodeOf (code : Code) (branches : List Branch) (targets boundaries : List ℕ)
    (shape : StubShape) : Type 0 where
  pub branches_are : code.branches.now ≡ branches
  pub targets_are : code.targets.now ≡ targets
  pub boundaries_are : code.boundaries.now ≡ boundaries
  pub shape_is : code.shape ≡ shape

-- ---- what is placed

abbrev pub placed_at : List PlacedStub → ℕ → PlacedStub
placed_at stubs j = slice_index_or stubs j (record { place = 0; boundary = 0; target = 0 })

abbrev pub placed_stub : Layout → ℕ → PlacedStub
placed_stub layout j =
    record {
      place = at layout.places.items j;
      boundary = (stub_at layout.stubs.items j).boundary;
      target = (stub_at layout.stubs.items j).target;
    }

-- an array begins with the stubs of a layout, and what stands after them is left
pub record AreStubs (layout : Layout) (before after : List PlacedStub) : Type 0 where
  pub same_length : length after ≡ length before
  pub stubs : (j : ℕ) → j < length layout.stubs.items
      → placed_at after j ≡ placed_stub layout j
  pub others : (j : ℕ) → length layout.stubs.items ≤ j → placed_at after j ≡ placed_at before j

-- the stub that a branch goes by, or the largest number where it goes to its target
abbrev pub way_number : Option ℕ → ℕ
way_number None = 2 ^ 64 - 1
way_number (Some stub) = stub

pub record AreWays (stubs : List (Option ℕ)) (ways : List ℕ) : Type 0 where
  pub one_each : length ways ≡ length stubs
  pub each : (i : ℕ) → i < length stubs → at ways i ≡ way_number (slice_index_or stubs i None)

-- all arrays of a call
pub record Arrays : Type 0 where
  pub stubs : List PlacedStub
  pub stubs_used : ℕ
  pub ways : List ℕ
  pub before : List ℕ

pub record ArePut (placement : Placement) (old new : Arrays) : Type 0 where
  pub stubs : AreStubs placement.layout old.stubs new.stubs
  pub stubs_used : new.stubs_used ≡ length placement.layout.stubs.items
  pub ways : AreWays placement.stubs.items new.ways
  pub before : new.before ≡ placement.layout.before.items

-- ---- why nothing is placed

abbrev pub place_status : PlaceError → Status
place_status errors.OutOfMemory = OutOfMemory
place_status errors.NoLength = StubWithoutLength
place_status (errors.NotAscending k) = NotAscending
place_status (errors.NoTarget i) = NoTarget
place_status errors.TooLong = CodeTooLong
place_status (errors.NoBoundary i layout) = NoBoundary
place_status (errors.StubTooFar j layout) = StubTooFar

-- the index at fault, if the error has one: of a stub that of its target
abbrev pub faulty_by : PlaceError → ℕ → ℕ
faulty_by (errors.NotAscending k) old = k
faulty_by (errors.NoTarget i) old = i
faulty_by (errors.NoBoundary i layout) old = i
faulty_by (errors.StubTooFar j layout) old = (stub_at layout.stubs.items j).target
faulty_by error old = old

-- an error names a stub of its layout
abbrev pub NamesStub : PlaceError → Type 0
NamesStub (errors.StubTooFar j layout) = j < length layout.stubs.items
NamesStub error = ⊤

-- all stubs are placed, or none is and the status says why
abbrev pub IsPlacing : Code → Arrays → Arrays → ℕ → ℕ → ℕ → Type 0
IsPlacing code_of old new old_faulty faulty status =
    ((placement : Placement) × (status ≡ code Success) × IsPlaced code_of placement
    × SharesStubs code_of placement × ArePut placement old new × (faulty ≡ old_faulty))
    ⊎ ((error : PlaceError) × (status ≡ code (place_status error)) × IsPlaceCause code_of error
    × (new ≡ old) × (faulty ≡ faulty_by error old_faulty))

-- ---- a call

pub record HaveLengths (branches : List Branch) (boundaries : List ℕ) (arrays : Arrays)
    : Type 0 where
  pub ways : length arrays.ways ≡ length branches
  pub before : length arrays.before ≡ length boundaries + 1

pub record AreSame (old new : Arrays) (old_faulty faulty : ℕ) : Type 0 where
  pub same_arrays : new ≡ old
  pub same_index : faulty ≡ old_faulty

-- The arrays have other lengths than the call takes, or `stubs` has fewer elements than two for
-- each branch; else stubs are placed in code of these arrays.
pub record IsPlacingOf (branches : List Branch) (targets boundaries : List ℕ) (shape : StubShape)
    (old new : Arrays) (old_faulty faulty status : ℕ) : Type 0 where
  pub different : ¬ HaveLengths branches boundaries old
      → (status ≡ code DifferentLengths) × AreSame old new old_faulty faulty
  pub short : HaveLengths branches boundaries old → length old.stubs < 2 * length branches
      → (status ≡ code ShortMemory) × AreSame old new old_faulty faulty
  pub placed : HaveLengths branches boundaries old → 2 * length branches ≤ length old.stubs
      → (code_of : Code) × IsCodeOf code_of branches targets boundaries shape
      × IsPlacing code_of old new old_faulty faulty status
