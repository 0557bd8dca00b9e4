-- What holds while a run is relaxed.
use Rattle.linker_runs.specs.Imports.{Bool, Item, List, length, slice_index_or, true, ℕ}
use Rattle.std.specs.Prelude.{◌≡◌, ◌+◌, ◌<◌, ◌≤◌, ◌⊎◌}
use Rattle.linker_runs.specs.Relaxing.{place_of, target_of, item_at, is_in_reach, item_reaches}
use Rattle.linker_runs.specs.Relaxing.{choice_of}
use Rattle.linker_runs.specs.Choosing.{cautious_before, IsInReachCautiously, AreNotLonger}

-- the item at an index is in reach where each alignment keeps all
abbrev pub is_in_reach_cautiously : List Item → (ℕ → ℕ) → ℕ → Bool
is_in_reach_cautiously items choice i = item_reaches (item_at items i) (choice i)
    (cautious_before items choice i)
    (cautious_before items choice (place_of items (target_of (item_at items i))))

-- whatever is chosen, the item at an index is in reach of its target
pub record IsAlwaysInReach (start : ℕ) (items : List Item) (i : ℕ) : Type 0 where
  pub exactly : (choice : ℕ → ℕ) → is_in_reach start items choice i ≡ true
  pub cautiously : (choice : ℕ → ℕ) → is_in_reach_cautiously items choice i ≡ true

-- The numbers are what the items before each index free where each alignment keeps all, and from an
-- index on n more.
pub record AreCautious (items : List Item) (shapes freed : List ℕ) (split more : ℕ) : Type 0 where
  pub below : (j : ℕ) → j < split
      → slice_index_or freed j 0 ≡ cautious_before items (choice_of shapes) j
  pub above : (j : ℕ) → split ≤ j → j ≤ length items
      → slice_index_or freed j 0 ≡ cautious_before items (choice_of shapes) j + more

-- shapes are no longer than in any choice that is in reach where each alignment keeps all
abbrev pub AreForced : List Item → List ℕ → Type 0
AreForced items shapes =
    (other : ℕ → ℕ) → IsInReachCautiously items other → AreNotLonger items shapes other

-- The numbers are the places of the items' targets, or greater than all places where an item is
-- always in reach.
pub record ArePlaces (start : ℕ) (items : List Item) (places : List ℕ) : Type 0 where
  pub each : (i : ℕ) → i < length items
      → (slice_index_or places i 0 ≡ place_of items (target_of (item_at items i)))
      ⊎ ((length items < slice_index_or places i 0) × IsAlwaysInReach start items i)
  pub within : (i : ℕ) → i < length items
      → place_of items (target_of (item_at items i)) ≤ length items
