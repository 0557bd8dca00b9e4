-- What is wrong with the items of a run that can't be relaxed.
use Rattle.linker_runs.specs.Imports.{Aligned, Alignment, AlignmentBelowGranularity, BadAlignment}
use Rattle.linker_runs.specs.Imports.{BadGranularity, BadReach, IsPowerOfTwo, Item, List}
use Rattle.linker_runs.specs.Imports.{MatchOption, MayBeMisaligned, Misaligned, Option}
use Rattle.linker_runs.specs.Imports.{ShapeTooLong, Shapes, ShapesNotAscending, Site, TargetInside}
use Rattle.linker_runs.specs.Imports.{TooFewNops, TooHigh, TooManyShapes, UnevenEnd, UnevenNops}
use Rattle.linker_runs.specs.Imports.{UnevenShape, length, ℕ, ⊤}
use Rattle.std.specs.Prelude.{◌≡◌, ◌+◌, ◌-◌, ◌%◌, ◌^◌, ◌<◌, ◌≤◌, ◌⊎◌}
use Rattle.linker_runs.specs.declared.relaxation.faults.Fault.{Fault}
use Rattle.linker_runs.specs.declared.relaxation.faults.Fault.TheVariants.{Overlaps}
use Rattle.linker_runs.specs.declared.relaxation.faults.ItemFault.{ItemFault}
use Rattle.linker_runs.specs.Relaxing.{offset_of, end_of, target_of, item_at, shape_len}
use Rattle.linker_runs.specs.Relaxing.{short_shape}
use Rattle.linker_runs.specs.Choosing.{run_granularity, HasUnit, IsClear, HasItsNops, IsStill}
use Rattle.linker_runs.specs.Choosing.{IsInWords}

-- the order in which faults are returned: of an item that has several, the one with the least
-- number
abbrev pub number_of : Fault → ℕ
number_of Overlaps = 0
number_of TooHigh = 1
number_of TooManyShapes = 2
number_of ShapeTooLong = 3
number_of ShapesNotAscending = 4
number_of BadGranularity = 5
number_of BadReach = 6
number_of BadAlignment = 7
number_of UnevenShape = 8
number_of Misaligned = 9
number_of AlignmentBelowGranularity = 10
number_of UnevenEnd = 11
number_of TooFewNops = 12
number_of UnevenNops = 13
number_of TargetInside = 14
number_of MayBeMisaligned = 15

-- what the shapes of a site of n bytes meet that doesn't have the fault
abbrev pub ShapesMeet : Shapes → ℕ → Fault → Type 0
ShapesMeet shapes len TooManyShapes = shapes.count ≤ 2
ShapesMeet shapes len ShapeTooLong = (shapes.longest ≤ len)
    × ((k : ℕ) → k < shapes.count → (short_shape shapes k).kept ≤ len)
ShapesMeet shapes len ShapesNotAscending =
    (k : ℕ) → k < shapes.count → shape_len shapes k < shape_len shapes (k + 1)
ShapesMeet shapes len BadGranularity =
    ((k : ℕ) → k < shapes.count → HasUnit (short_shape shapes k))
    × ((k : ℕ) → k + 1 < shapes.count
    → (short_shape shapes (k + 1)).granularity ≤ (short_shape shapes k).granularity)
ShapesMeet shapes len BadReach =
    ((k : ℕ) → k < shapes.count → 0 < (short_shape shapes k).max_forward)
    × ((k : ℕ) → k + 1 < shapes.count
    → ((short_shape shapes k).max_backward ≤ (short_shape shapes (k + 1)).max_backward)
    × ((short_shape shapes k).max_forward ≤ (short_shape shapes (k + 1)).max_forward))
ShapesMeet shapes len other = ⊤

-- what an item meets by itself that doesn't have the fault
abbrev pub ItemMeets : Item → Fault → Type 0
ItemMeets (Site site) fault = ShapesMeet site.shapes site.len fault
ItemMeets (Aligned alignment) BadAlignment = IsPowerOfTwo alignment.alignment
ItemMeets (Aligned alignment) other = ⊤

-- what the item at an index meets by itself and by its place
abbrev pub OwnMeets : ℕ → List Item → ℕ → Fault → Type 0
OwnMeets start items i Overlaps =
    0 < i → end_of (item_at items (i - 1)) ≤ offset_of (item_at items i)
OwnMeets start items i TooHigh = start + end_of (item_at items i) < 2 ^ 64
OwnMeets start items i other = ItemMeets (item_at items i) other

-- what an alignment meets in a run of granularity u at an address
abbrev pub AlignmentMeets : ℕ → ℕ → Alignment → Fault → Type 0
AlignmentMeets u start alignment AlignmentBelowGranularity =
    (alignment.alignment % u ≡ 0) ⊎ IsStill u start alignment
AlignmentMeets u start alignment UnevenEnd =
    ((start + alignment.offset + alignment.nops) % u ≡ 0) ⊎ IsStill u start alignment
AlignmentMeets u start alignment TooFewNops =
    MatchOption alignment.max_skip ⊤
    (λ most. (alignment.alignment ≤ alignment.nops + u) ⊎ (most ≤ alignment.nops))
AlignmentMeets u start alignment UnevenNops =
    MatchOption alignment.max_skip ⊤ (λ most. alignment.nops % u ≡ 0)
AlignmentMeets u start alignment other = ⊤

-- what an item meets there
abbrev pub UnitMeets : ℕ → ℕ → Item → Fault → Type 0
UnitMeets u start (Site site) UnevenShape =
    (k : ℕ) → (site.len - shape_len site.shapes k) % u ≡ 0
UnitMeets u start (Site site) Misaligned = IsInWords (Site site)
UnitMeets u start (Site site) other = ⊤
UnitMeets u start (Aligned alignment) fault = AlignmentMeets u start alignment fault

-- what the item at an index meets among the others
abbrev pub RunMeets : ℕ → ℕ → List Item → ℕ → Fault → Type 0
RunMeets u start items i TargetInside = (j : ℕ) → j < length items
    → IsClear (item_at items j) (target_of (item_at items i))
RunMeets u start items i MayBeMisaligned = HasItsNops u start items i (item_at items i)
RunMeets u start items i other = UnitMeets u start (item_at items i) other

-- no item has a fault by itself or by its place
abbrev pub AreSound : ℕ → List Item → Type 0
AreSound start items = (i : ℕ) → i < length items → (fault : Fault) → OwnMeets start items i fault

-- The item at an index doesn't have the fault. Those that require the other items count only where
-- no item has one by itself or by its place.
abbrev pub Meets : ℕ → List Item → ℕ → Fault → Type 0
Meets start items i fault = OwnMeets start items i fault
    × (AreSound start items → RunMeets (run_granularity items) start items i fault)

-- the first fault, by number, of what is to be met
pub record IsFirstOf (Met : Fault → Type 0) (fault : Fault) : Type 0 where
  pub here : ¬ Met fault
  pub earlier : (other : Fault) → number_of other < number_of fault → Met other

-- all is met, or the fault is the first
abbrev pub IsFirstIn : (Fault → Type 0) → Option Fault → Type 0
IsFirstIn Met found = MatchOption found ((fault : Fault) → Met fault) (IsFirstOf Met)

-- the first fault of the first item that has one
pub record IsFirstAt (Met : ℕ → Fault → Type 0) (len : ℕ) (found : ItemFault) : Type 0 where
  pub within : found.index < len
  pub before : (i : ℕ) → i < found.index → (fault : Fault) → Met i fault
  pub first : IsFirstOf (Met found.index) found.fault

abbrev pub IsFirstFault : ℕ → List Item → ItemFault → Type 0
IsFirstFault start items found = IsFirstAt (Meets start items) (length items) found
