-- Places of stubs between sections.
use Rattle.std.specs.Prelude.{◌≡◌, ◌≢◌, ℕ, List, length, nat_le, Option, Some, None, slice_index_or}
use Rattle.std.specs.Prelude.{◌≤◌, ◌<◌, ◌+◌, ◌-◌, ◌*◌, ◌/◌, ◌%◌, ◌^◌, ◌⊎◌}
use Rattle.linker_output.specs.Imports.{Branch, Code, Group, Part, StubShape, prefix_len, sum_by}
use Rattle.linker_output.specs.declared.placement.Layout.{Layout}
use Rattle.linker_output.specs.declared.placement.Part.TheVariants.{Front, Middle, Back}
use Rattle.linker_output.specs.declared.placement.PlaceError.{PlaceError}
use Rattle.linker_output.specs.declared.placement.PlaceError.TheVariants as errors
use Rattle.linker_output.specs.declared.placement.Placement.{Placement}
use Rattle.linker_output.specs.declared.placement.StubAt.{StubAt}

-- What lies at most so far below, and less than so far above, is in reach.
pub record Reaches (max_backward max_forward from to : ℕ) : Type 0 where
  pub forward : to < from + max_forward
  pub backward : from ≤ to + max_backward

-- ---- the elements of lists

abbrev pub at : List ℕ → ℕ → ℕ
at xs k = slice_index_or xs k 0

abbrev pub branch_at : List Branch → ℕ → Branch
branch_at xs k =
    slice_index_or xs k (record { offset = 0; target = 0; max_backward = 0; max_forward = 0 })

abbrev pub stub_at : List StubAt → ℕ → StubAt
stub_at xs k = slice_index_or xs k (record { boundary = 0; part = Front; index = 0; target = 0 })

abbrev pub group_at : List Group → ℕ → Group
group_at xs k = slice_index_or xs k (record { front = 0; middle = 0; back = 0 })

-- ---- the code

abbrev pub IsAscending : List ℕ → Type 0
IsAscending xs = (i j : ℕ) → i ≤ j → j < length xs → at xs i ≤ at xs j

-- a stub has no bytes, or the unit is 0
abbrev pub HasNoLength : StubShape → Type 0
HasNoLength shape = (shape.len ≡ 0) ⊎ (shape.unit ≡ 0)

-- the boundary after the one at an index is below it
abbrev pub IsDescent : List ℕ → ℕ → Type 0
IsDescent boundaries k = (k + 1 < length boundaries) × (at boundaries (k + 1) < at boundaries k)

-- the target of a branch is in the table
abbrev pub HasTarget : Code → ℕ → Type 0
HasTarget code i = (branch_at code.branches.now i).target < length code.targets.now

-- how many bytes all stubs take at most: two for each branch and one more, and a unit for each
-- boundary
abbrev pub most_bytes : Code → ℕ
most_bytes code =
    code.shape.unit * length code.boundaries.now
    + code.shape.len * (2 * length code.branches.now + 1)

-- an offset, or all that the stubs take at most, isn't below 2^62
abbrev pub IsTooLong : Code → Type 0
IsTooLong code = ((i : ℕ) × (2 ^ 62 ≤ (branch_at code.branches.now i).offset))
    ⊎ ((t : ℕ) × (2 ^ 62 ≤ at code.targets.now t))
    ⊎ ((k : ℕ) × (2 ^ 62 ≤ at code.boundaries.now k))
    ⊎ (2 ^ 62 ≤ most_bytes code)

-- stubs can be placed in the code
pub record IsCode (code : Code) : Type 0 where
  pub len : 0 < code.shape.len
  pub unit : 0 < code.shape.unit
  pub ascending : IsAscending code.boundaries.now
  pub in_table : (i : ℕ) → i < length code.branches.now → HasTarget code i
  pub branches : (i : ℕ) → (branch_at code.branches.now i).offset < 2 ^ 62
  pub targets : (t : ℕ) → at code.targets.now t < 2 ^ 62
  pub boundaries : (k : ℕ) → at code.boundaries.now k < 2 ^ 62
  pub room : most_bytes code < 2 ^ 62

-- ---- the layout

-- how many boundaries, which ascend, are at or below an offset
abbrev pub passed : List ℕ → ℕ → ℕ
passed boundaries offset = prefix_len (λ b. nat_le b offset) boundaries

-- how many stubs are at a boundary
abbrev pub stubs_in : Group → ℕ
stubs_in group = group.front + group.middle + group.back

-- the least multiple of a unit that isn't below
abbrev pub padded : ℕ → ℕ → ℕ
padded unit n = n + (unit - n % unit) % unit

-- how many bytes the stubs at a boundary take
abbrev pub size_of : StubShape → Group → ℕ
size_of shape group = padded shape.unit (shape.len * stubs_in group)

-- how many bytes of stubs there are before those at each boundary, and at the end how many in all
pub record IsLaidOut (shape : StubShape) (groups : List Group) (before : List ℕ) : Type 0 where
  pub len : length before ≡ length groups + 1
  pub first : at before 0 ≡ 0
  pub next : (k : ℕ) → k < length groups
      → at before (k + 1) ≡ at before k + size_of shape (group_at groups k)

-- where what was at an offset is: the stubs at boundaries at or below it are before it
abbrev pub moved : List ℕ → List ℕ → ℕ → ℕ
moved boundaries before offset = offset + at before (passed boundaries offset)

-- where the stubs at a boundary begin and end
abbrev pub start_of : List ℕ → List ℕ → ℕ → ℕ
start_of boundaries before k = at boundaries k + at before k

abbrev pub end_of : List ℕ → List ℕ → ℕ → ℕ
end_of boundaries before k = at boundaries k + at before (k + 1)

abbrev pub place_in : Part → ℕ → ℕ → ℕ → Group → ℕ → ℕ
place_in Front start end len group index = start + len * index
place_in Middle start end len group index = start + len * (group.front + index)
place_in Back start end len group index = end - len * (index + 1)

-- where a stub is
abbrev pub place_of : Code → List Group → List ℕ → StubAt → ℕ
place_of code groups before stub =
    place_in stub.part (start_of code.boundaries.now before stub.boundary)
    (end_of code.boundaries.now before stub.boundary) code.shape.len
    (group_at groups stub.boundary) stub.index

-- ---- stubs

abbrev pub part_of : Part → Group → ℕ
part_of Front group = group.front
part_of Middle group = group.middle
part_of Back group = group.back

-- the stub is one of those at its boundary
pub record HasPart (code : Code) (groups : List Group) (stub : StubAt) : Type 0 where
  pub boundary : stub.boundary < length code.boundaries.now
  pub index : stub.index < part_of stub.part (group_at groups stub.boundary)
  pub target : stub.target < length code.targets.now

-- two stubs aren't the same one
abbrev pub AreTwo : StubAt → StubAt → Type 0
AreTwo s t = s.boundary ≡ t.boundary → s.part ≡ t.part → s.index ≢ t.index

-- ---- what is in reach

-- a branch reaches an address by a layout
abbrev pub ReachesAt : Code → List ℕ → Branch → ℕ → Type 0
ReachesAt code before branch place =
    Reaches branch.max_backward branch.max_forward
    (moved code.boundaries.now before branch.offset) place

abbrev pub target_place : Code → List ℕ → ℕ → ℕ
target_place code before t = moved code.boundaries.now before (at code.targets.now t)

-- ---- the layout of stubs

-- Each stub is at a boundary, and they are all of those that the layout has room for. None overlap.
pub record IsLayout (code : Code) (layout : Layout) : Type 0 where
  pub boundaries : length layout.groups.items ≡ length code.boundaries.now
  pub laid_out : IsLaidOut code.shape layout.groups.items layout.before.items
  pub total : sum_by stubs_in layout.groups.items ≡ length layout.stubs.items
  pub stubs : (j : ℕ) → j < length layout.stubs.items
      → HasPart code layout.groups.items (stub_at layout.stubs.items j)
  pub two : (i j : ℕ) → i < j → j < length layout.stubs.items
      → AreTwo (stub_at layout.stubs.items i) (stub_at layout.stubs.items j)
  pub one_each : length layout.places.items ≡ length layout.stubs.items
  pub places : (j : ℕ) → j < length layout.stubs.items
      → at layout.places.items j
      ≡ place_of code layout.groups.items layout.before.items (stub_at layout.stubs.items j)
  pub inside : (j : ℕ) → j < length layout.stubs.items
      → (start_of code.boundaries.now layout.before.items (stub_at layout.stubs.items j).boundary
      ≤ at layout.places.items j)
      × (at layout.places.items j + code.shape.len
      ≤ end_of code.boundaries.now layout.before.items (stub_at layout.stubs.items j).boundary)
  pub apart : (i j : ℕ) → i < j → j < length layout.stubs.items
      → (at layout.places.items i + code.shape.len ≤ at layout.places.items j)
      ⊎ (at layout.places.items j + code.shape.len ≤ at layout.places.items i)

-- two stubs aren't of the same target in the same part of a boundary
abbrev pub AreOfTwo : StubAt → StubAt → Type 0
AreOfTwo s t = s.boundary ≡ t.boundary → s.part ≡ t.part → s.target ≢ t.target

-- a branch reaches its target, or the stub of it that it goes by
abbrev pub Goes : Code → Layout → Branch → Option ℕ → Type 0
Goes code layout branch None =
    ReachesAt code layout.before.items branch
    (target_place code layout.before.items branch.target)
Goes code layout branch (Some s) = (s < length layout.stubs.items)
    × ((stub_at layout.stubs.items s).target ≡ branch.target)
    × ReachesAt code layout.before.items branch (at layout.places.items s)

-- a stub reaches its target
abbrev pub StubReaches : Code → Layout → ℕ → Type 0
StubReaches code layout j =
    Reaches code.shape.max_backward code.shape.max_forward (at layout.places.items j)
    (target_place code layout.before.items (stub_at layout.stubs.items j).target)

-- A branch reaches its target also with the bytes of all stubs that there may be in between.
pub record HasSpare (code : Code) (branch : Branch) : Type 0 where
  pub forward : at code.targets.now branch.target + most_bytes code
      < branch.offset + branch.max_forward
  pub backward : branch.offset + most_bytes code
      ≤ at code.targets.now branch.target + branch.max_backward

-- a branch goes by each of the stubs
abbrev pub AreUsed : List (Option ℕ) → ℕ → Type 0
AreUsed stubs len = (j : ℕ) → j < len
    → (i : ℕ) × (i < length stubs) × (slice_index_or stubs i None ≡ Some j)

-- Each branch and each stub reaches where it goes. A stub's target has no other one in the same
-- part of the boundary. A branch with bytes to spare goes by none.
pub record IsPlacement (code : Code) (placement : Placement) : Type 0 where
  pub is_code : IsCode code
  pub layout : IsLayout code placement.layout
  pub one_each : length placement.stubs.items ≡ length code.branches.now
  pub goes : (i : ℕ) → i < length code.branches.now
      → Goes code placement.layout (branch_at code.branches.now i)
      (slice_index_or placement.stubs.items i None)
  pub stubs_reach : (j : ℕ) → j < length placement.layout.stubs.items
      → StubReaches code placement.layout j
  pub shared : (i j : ℕ) → i < j → j < length placement.layout.stubs.items
      → AreOfTwo (stub_at placement.layout.stubs.items i) (stub_at placement.layout.stubs.items j)
  pub spared : (i : ℕ) → i < length code.branches.now
      → HasSpare code (branch_at code.branches.now i)
      → slice_index_or placement.stubs.items i None ≡ None

abbrev pub HasAllUsed : Placement → Type 0
HasAllUsed placement = AreUsed placement.stubs.items (length placement.layout.stubs.items)

-- Each branch and each stub reaches where it goes, and a branch goes by each stub.
abbrev pub IsPlaced : Code → Placement → Type 0
IsPlaced code placement = IsPlacement code placement × HasAllUsed placement

-- ---- shared stubs

-- the last boundary within half of a branch's reach ahead is beyond the next one
pub record IsFar (code : Code) (branch : Branch) (boundary : ℕ) : Type 0 where
  pub beyond : passed code.boundaries.now branch.offset < boundary
  pub last : boundary + 1 ≡ passed code.boundaries.now (branch.offset + branch.max_forward / 2)

abbrev pub HasNoFar : Code → Branch → Type 0
HasNoFar code branch = (boundary : ℕ) → ¬ IsFar code branch boundary

-- a stub stands so far ahead of a branch, of the same target, that may not reach it
pub record IsFarFrom (code : Code) (stub : StubAt) (i : ℕ) : Type 0 where
  pub within : i < length code.branches.now
  pub target : stub.target ≡ (branch_at code.branches.now i).target
  pub needed : ¬ HasSpare code (branch_at code.branches.now i)
  pub far : IsFar code (branch_at code.branches.now i) stub.boundary

-- a boundary is the next one ahead of an offset, or the one before it
abbrev pub IsNextTo : Code → ℕ → ℕ → Type 0
IsNextTo code offset boundary = (boundary ≡ passed code.boundaries.now offset)
    ⊎ (boundary + 1 ≡ passed code.boundaries.now offset)

-- of the stubs of a target it is the first one
abbrev pub IsFirst : List StubAt → ℕ → Type 0
IsFirst stubs j = (k : ℕ) → k < j → (stub_at stubs k).target ≢ (stub_at stubs j).target

-- Each stub is far ahead of a branch, or a branch next to it goes by it. Of the first stub of a
-- target that branch has no boundary far ahead.
abbrev pub IsShared : Code → Placement → Type 0
IsShared code placement = (j : ℕ) → j < length placement.layout.stubs.items
    → ((i : ℕ) × IsFarFrom code (stub_at placement.layout.stubs.items j) i)
    ⊎ ((i : ℕ) × (i < length code.branches.now)
    × (slice_index_or placement.stubs.items i None ≡ Some j)
    × IsNextTo code (branch_at code.branches.now i).offset
    (stub_at placement.layout.stubs.items j).boundary
    × (IsFirst placement.layout.stubs.items j → HasNoFar code (branch_at code.branches.now i)))

-- Stubs stand far ahead of branches, which share them, or next to one where no boundary is far
-- ahead; unless stubs placed so have one that no branch goes by.
abbrev pub SharesStubs : Code → Placement → Type 0
SharesStubs code placement = IsShared code placement
    ⊎ ((shared : Placement) × IsPlacement code shared × IsShared code shared × ¬ HasAllUsed shared)

-- ---- errors

-- In the layout a branch reaches neither its target nor a stub of it. Nor is a boundary in reach:
-- of those ahead the place after the first stubs, of those after the place before the last ones.
pub record IsStuck (code : Code) (layout : Layout) (branch : Branch) : Type 0 where
  pub target : ¬ ReachesAt code layout.before.items branch
      (target_place code layout.before.items branch.target)
  pub stubs : (j : ℕ) → j < length layout.stubs.items
      → (stub_at layout.stubs.items j).target ≡ branch.target
      → ¬ ReachesAt code layout.before.items branch (at layout.places.items j)
  pub ahead : (k : ℕ) → passed code.boundaries.now branch.offset ≤ k
      → k < length code.boundaries.now
      → ¬ ReachesAt code layout.before.items branch
      (start_of code.boundaries.now layout.before.items k
      + code.shape.len * (group_at layout.groups.items k).front)
  pub following : (k : ℕ) → k < passed code.boundaries.now branch.offset
      → ¬ Reaches branch.max_backward branch.max_forward
      (moved code.boundaries.now layout.before.items branch.offset
      + code.shape.len * ((group_at layout.groups.items k).back + 1))
      (end_of code.boundaries.now layout.before.items k)

-- the branches with an index below a limit reach their target or a stub of it
abbrev pub AllGo : Code → Layout → ℕ → Type 0
AllGo code layout limit = (i : ℕ) → i < limit
    → (stub : Option ℕ) × Goes code layout (branch_at code.branches.now i) stub

-- Why no stubs are placed: the first that applies, in the order `NoLength`, `NotAscending`,
-- `NoTarget`, `TooLong`, `OutOfMemory`, `NoBoundary`, `StubTooFar`, and the first index of it.
abbrev pub IsPlaceCause : Code → PlaceError → Type 0
IsPlaceCause code errors.NoLength = HasNoLength code.shape
IsPlaceCause code (errors.NotAscending k) = (¬ HasNoLength code.shape)
    × IsDescent code.boundaries.now k × ((j : ℕ) → j < k → ¬ IsDescent code.boundaries.now j)
IsPlaceCause code (errors.NoTarget i) = (¬ HasNoLength code.shape)
    × IsAscending code.boundaries.now × (i < length code.branches.now) × (¬ HasTarget code i)
    × ((j : ℕ) → j < i → HasTarget code j)
IsPlaceCause code errors.TooLong = (¬ HasNoLength code.shape) × IsAscending code.boundaries.now
    × ((i : ℕ) → i < length code.branches.now → HasTarget code i) × IsTooLong code
IsPlaceCause code errors.OutOfMemory = IsCode code
IsPlaceCause code (errors.NoBoundary i layout) = IsCode code × (i < length code.branches.now)
    × IsLayout code layout × IsStuck code layout (branch_at code.branches.now i)
    × AllGo code layout i
IsPlaceCause code (errors.StubTooFar j layout) = (j < length layout.stubs.items) × IsCode code
    × IsLayout code layout × (¬ StubReaches code layout j)
    × ((k : ℕ) → k < j → StubReaches code layout k)
    × AllGo code layout (length code.branches.now)
