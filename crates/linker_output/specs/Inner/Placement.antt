-- What holds while stubs are placed.
use Rattle.std.specs.Prelude.{◌≡◌, ℕ, zero, List, length, slice_index_or, true, Option, Some, None}
use Rattle.std.specs.Prelude.{◌≢◌, ◌≤◌, ◌<◌, ◌+◌, ◌*◌, ◌%◌, ◌⊎◌, suc, ⊤}
use Rattle.linker_output.specs.Imports.{Branch, Code, Group, Part, StubShape, sum_by}
use Rattle.linker_output.specs.Placement.{Reaches, at, branch_at, stub_at, group_at}
use Rattle.linker_output.specs.Placement.{passed, stubs_in, size_of, place_of}
use Rattle.linker_output.specs.Placement.{part_of, HasPart, AreTwo, ReachesAt, target_place}
use Rattle.linker_output.specs.Placement.{AreOfTwo, HasNoFar, HasSpare, IsFar, IsFarFrom, IsFirst}
use Rattle.linker_output.specs.declared.placement.Part.TheVariants.{Front, Middle, Back}
use Rattle.linker_output.specs.declared.placement.State.{State}
use Rattle.linker_output.specs.declared.placement.StubAt.{StubAt}
use Rattle.linker_output.specs.declared.placement.Sweep.{Sweep}
use Rattle.linker_output.specs.declared.placement.Sweep.TheVariants.{Settled, Changed, Stuck}
use Rattle.linker_output.specs.declared.placement.Visit.{Visit}
use Rattle.linker_output.specs.declared.placement.Visit.TheVariants.{Served, Raised, Lost}
use Rattle.linker_output.specs.declared.placement.Way.{Way}
use Rattle.linker_output.specs.declared.placement.Way.TheVariants.{Direct, Far, Near}

abbrev pub way_at : List Way → ℕ → Way
way_at xs k = slice_index_or xs k Direct

abbrev pub level : Way → ℕ
level Direct = 0
level (Far s) = 1
level (Near s) = 2

-- what the level of a branch becomes by a new stub
abbrev pub level_of : Part → ℕ
level_of Front = 2
level_of Middle = 1
level_of Back = 2

abbrev pub with_one : Part → Group → Group
with_one Front group = record group { front = group.front + 1 }
with_one Middle group = record group { middle = group.middle + 1 }
with_one Back group = record group { back = group.back + 1 }

abbrev pub new_way : Part → ℕ → Way
new_way Front s = Near s
new_way Middle s = Far s
new_way Back s = Near s

-- The stub is at the boundary next to a branch, and in its reach, since nothing is added between
-- them.
abbrev pub IsNearIn : Part → Code → Branch → StubAt → Type 0
IsNearIn Front code branch stub = (stub.boundary ≡ passed code.boundaries.now branch.offset)
    × Reaches branch.max_backward branch.max_forward branch.offset
    (at code.boundaries.now stub.boundary + code.shape.len * stub.index)
IsNearIn Middle code branch stub = ⊥
IsNearIn Back code branch stub = (stub.boundary + 1 ≡ passed code.boundaries.now branch.offset)
    × Reaches branch.max_backward branch.max_forward
    (branch.offset + code.shape.len * (stub.index + 1)) (at code.boundaries.now stub.boundary)

abbrev pub IsNear : Code → Branch → StubAt → Type 0
IsNear code branch stub = IsNearIn stub.part code branch stub

abbrev pub IsWay : Code → List StubAt → Branch → Way → Type 0
IsWay code stubs branch Direct = ⊤
IsWay code stubs branch (Far s) =
    (s < length stubs) × ((stub_at stubs s).target ≡ branch.target)
IsWay code stubs branch (Near s) =
    (s < length stubs) × ((stub_at stubs s).target ≡ branch.target)
    × IsNear code branch (stub_at stubs s)

-- in which of the lists the stubs of a target at a boundary are
unfoldable pub list_of : ℕ → ℕ → ℕ → ℕ
list_of lists boundary target = (boundary % 0x9e3779b1 * 0x9e3779b1 + target % 0x9e3779b1) % lists

abbrev pub list_at : ℕ → List StubAt → ℕ → ℕ
list_at lists stubs j = list_of lists (stub_at stubs j).boundary (stub_at stubs j).target

-- A stub is far ahead of a branch, or a branch next to it goes by it for good. Of the first stub of
-- a target that branch has no boundary far ahead, where stubs may be shared.
abbrev pub HasOwner : Code → State → ℕ → Type 0
HasOwner code state j =
    ((state.may_share ≡ true) × ((i : ℕ) × IsFarFrom code (stub_at state.stubs.items j) i))
    ⊎ ((i : ℕ) × (i < length code.branches.now) × (way_at state.ways.items i ≡ Near j)
    × (state.may_share ≡ true → IsFirst state.stubs.items j
    → HasNoFar code (branch_at code.branches.now i)))

-- Each list has all its stubs: its head is the last one, and each is followed by the one before it.
pub record AreLists (lists : ℕ) (stubs : List StubAt) (heads nexts : List ℕ) : Type 0 where
  pub one_each : length heads ≡ lists
  pub one_next : length nexts ≡ length stubs
  pub within : (l : ℕ) → at heads l ≤ length stubs
  pub lower : (j : ℕ) → j < length stubs → at nexts j ≤ j
  pub first : (j : ℕ) → j < length stubs → j < at heads (list_at lists stubs j)
  pub next : (i j : ℕ) → i < j → j < length stubs
      → list_at lists stubs i ≡ list_at lists stubs j → i < at nexts j
  pub first_is : (l j : ℕ) → at heads l ≡ j + 1 → list_at lists stubs j ≡ l
  pub next_is : (i j : ℕ) → j < length stubs → at nexts j ≡ i + 1
      → list_at lists stubs i ≡ list_at lists stubs j

pub record IsState (code : Code) (state : State) : Type 0 where
  pub groups : length state.groups.items ≡ length code.boundaries.now
  pub ways : length state.ways.items ≡ length code.branches.now
  pub last : length state.last.items ≡ length code.targets.now
  pub parts : (j : ℕ) → j < length state.stubs.items
      → HasPart code state.groups.items (stub_at state.stubs.items j)
  pub two : (i j : ℕ) → i < j → j < length state.stubs.items
      → AreTwo (stub_at state.stubs.items i) (stub_at state.stubs.items j)
  pub total : sum_by stubs_in state.groups.items ≡ length state.stubs.items
  pub few : length state.stubs.items ≤ sum_by level state.ways.items
  pub way : (i : ℕ) → i < length code.branches.now
      → IsWay code state.stubs.items (branch_at code.branches.now i) (way_at state.ways.items i)
  pub lists : AreLists (length code.branches.now) state.stubs.items state.heads.items
      state.nexts.items
  pub shared : (i j : ℕ) → i < j → j < length state.stubs.items
      → AreOfTwo (stub_at state.stubs.items i) (stub_at state.stubs.items j)
  pub owners : (j : ℕ) → j < length state.stubs.items → HasOwner code state j
  pub spared : (i : ℕ) → i < length code.branches.now
      → HasSpare code (branch_at code.branches.now i) → way_at state.ways.items i ≡ Direct

-- where each stub is
pub record ArePlaces (code : Code) (state : State) (before places : List ℕ) : Type 0 where
  pub len : length places ≡ length state.stubs.items
  pub each : (j : ℕ) → j < length places
      → at places j ≡ place_of code state.groups.items before (stub_at state.stubs.items j)

-- The branch reaches what it goes by: its target, or the stub, if that has a place.
abbrev pub IsServedBy : Code → List ℕ → List ℕ → Branch → Way → Type 0
IsServedBy code before places branch Direct =
    ReachesAt code before branch (target_place code before branch.target)
IsServedBy code before places branch (Far s) =
    (s < length places → ReachesAt code before branch (at places s))
    ⊎ ReachesAt code before branch (target_place code before branch.target)
IsServedBy code before places branch (Near s) =
    (s < length places → ReachesAt code before branch (at places s))
    ⊎ ReachesAt code before branch (target_place code before branch.target)

abbrev pub IsOutOf : Code → List ℕ → List ℕ → Branch → Way → Type 0
IsOutOf code before places branch Direct = ⊤
IsOutOf code before places branch (Far s) =
    (s < length places) × ¬ ReachesAt code before branch (at places s)
IsOutOf code before places branch (Near s) =
    (s < length places) × ¬ ReachesAt code before branch (at places s)

pub record IsLostBy (code : Code) (before places : List ℕ) (branch : Branch) (way : Way)
    : Type 0 where
  pub target : ¬ ReachesAt code before branch (target_place code before branch.target)
  pub stub : IsOutOf code before places branch way

-- a stub is of a target in a part of a boundary
pub record IsStubAt (stub : StubAt) (boundary : ℕ) (part : Part) (target : ℕ) : Type 0 where
  pub at_boundary : stub.boundary ≡ boundary
  pub in_part : stub.part ≡ part
  pub of_target : stub.target ≡ target

pub record IsAt (stubs : List StubAt) (boundary : ℕ) (part : Part) (target s : ℕ) : Type 0 where
  pub within : s < length stubs
  pub there : IsStubAt (stub_at stubs s) boundary part target

-- there is none
abbrev pub HasNoneAt : List StubAt → ℕ → Part → ℕ → Type 0
HasNoneAt stubs boundary part target = (s : ℕ) → ¬ IsAt stubs boundary part target s

-- the stub that a branch would get in a part of a boundary
abbrev pub new_stub : Code → State → Branch → ℕ → Part → StubAt
new_stub code state branch boundary part =
    record {
      boundary = boundary;
      part = part;
      index = part_of part (group_at state.groups.items boundary);
      target = branch.target;
    }

-- no boundary is far ahead of a branch, where stubs may be shared and its target has none
abbrev pub StaysUnshared : Code → State → Branch → Type 0
StaysUnshared code state branch = state.may_share ≡ true
    → ((j : ℕ) → j < length state.stubs.items
    → (stub_at state.stubs.items j).target ≢ branch.target)
    → HasNoFar code branch

-- a new stub would be far ahead of a branch, or near it
abbrev pub IsNewFar : Code → State → Branch → ℕ → Type 0
IsNewFar code state branch boundary = (state.may_share ≡ true) × IsFar code branch boundary

abbrev pub IsNewNear : Code → State → Branch → ℕ → Part → Type 0
IsNewNear code state branch boundary part =
    IsNear code branch (new_stub code state branch boundary part) × StaysUnshared code state branch

abbrev pub IsNew : Code → State → Branch → ℕ → Part → Type 0
IsNew code state branch boundary Middle = IsNewFar code state branch boundary
IsNew code state branch boundary Front = IsNewNear code state branch boundary Front
IsNew code state branch boundary Back = IsNewNear code state branch boundary Back

-- a branch is near no stub of its target in a part of a boundary, nor to a new one
pub record IsOutThere (code : Code) (state : State) (branch : Branch) (boundary : ℕ) (part : Part)
    : Type 0 where
  pub old : (s : ℕ) → IsAt state.stubs.items boundary part branch.target s
      → ¬ IsNear code branch (stub_at state.stubs.items s)
  pub new : ¬ IsNear code branch (new_stub code state branch boundary part)

-- at the next boundary ahead of it, and at the one before it
abbrev pub IsOutAhead : Code → State → Branch → Type 0
IsOutAhead code state branch =
    passed code.boundaries.now branch.offset < length code.boundaries.now
    → IsOutThere code state branch (passed code.boundaries.now branch.offset) Front

abbrev pub IsOutAfter : Code → State → Branch → Type 0
IsOutAfter code state branch =
    (b : ℕ) → b + 1 ≡ passed code.boundaries.now branch.offset
    → IsOutThere code state branch b Back

abbrev pub IsOut : Code → State → Branch → Type 0
IsOut code state branch = IsOutAhead code state branch × IsOutAfter code state branch

-- how many bytes of stubs there are at boundaries before an index
unfoldable pub bytes_before : StubShape → List Group → ℕ → ℕ
bytes_before shape groups zero = 0
bytes_before shape groups (suc k) =
    bytes_before shape groups k + size_of shape (group_at groups k)

-- what a sweep leaves but for the stubs used last
pub record SameStubs (old new : State) : Type 0 where
  pub stubs : new.stubs ≡ old.stubs
  pub groups : new.groups ≡ old.groups
  pub ways : new.ways ≡ old.ways
  pub may_share : new.may_share ≡ old.may_share

-- the branches with an index below a limit reach what they go by
abbrev pub AreServed : Code → List ℕ → List ℕ → List Way → ℕ → Type 0
AreServed code before places ways limit = (i : ℕ) → i < limit
    → IsServedBy code before places (branch_at code.branches.now i) (way_at ways i)

-- a branch reaches neither its target nor a boundary next to it, nor a stub of its target there
pub record IsStuckIn (code : Code) (before places : List ℕ) (state : State) (i : ℕ) : Type 0 where
  pub within : i < length code.branches.now
  pub lost : IsLostBy code before places (branch_at code.branches.now i) (way_at state.ways.items i)
  pub out : IsOut code state (branch_at code.branches.now i)

abbrev pub Swept : Code → List ℕ → List ℕ → State → State → Sweep → Type 0
Swept code before places old new Settled =
    SameStubs old new × AreServed code before places new.ways.items (length code.branches.now)
Swept code before places old new Changed =
    sum_by level old.ways.items < sum_by level new.ways.items
Swept code before places old new (Stuck i) =
    SameStubs old new × IsStuckIn code before places new i
    × AreServed code before places new.ways.items i

-- A branch goes by a stub next to it. By another one it goes if it doesn't reach its target.
abbrev pub IsStubOf : Code → List ℕ → Branch → Way → Option ℕ → Type 0
IsStubOf code before branch Direct stub = stub ≡ None
IsStubOf code before branch (Near s) stub = stub ≡ Some s
IsStubOf code before branch (Far s) stub =
    ((stub ≡ None) × ReachesAt code before branch (target_place code before branch.target))
    ⊎ ((stub ≡ Some s)
    × ¬ ReachesAt code before branch (target_place code before branch.target))

pub record AreStubsOf (code : Code) (before : List ℕ) (ways : List Way) (stubs : List (Option ℕ))
    : Type 0 where
  pub len : length stubs ≡ length code.branches.now
  pub each : (i : ℕ) → i < length stubs
      → IsStubOf code before (branch_at code.branches.now i) (way_at ways i)
      (slice_index_or stubs i None)

-- what a sweep does at a branch
abbrev pub Visited : Code → List ℕ → List ℕ → State → State → ℕ → Visit → Type 0
Visited code before places old new i Served = SameStubs old new
    × (IsServedBy code before places (branch_at code.branches.now i) (way_at old.ways.items i)
    ⊎ ((s : ℕ) × (way_at old.ways.items i ≡ Near s)))
Visited code before places old new i Raised =
    sum_by level old.ways.items < sum_by level new.ways.items
Visited code before places old new i Lost =
    (new ≡ old) × IsStuckIn code before places old i
