-- The deletions of a run, and that they translate offsets as the layout does.
use Rattle.linker_runs.specs.Imports.{Item, List, [], length, nat_lt, rank, slice_index_or, suc}
use Rattle.linker_runs.specs.Imports.{zero, ℕ}
use Rattle.std.specs.Prelude.{◌≡◌, ◌+◌, ◌-◌, ◌<◌, ◌∷◌, ◌++◌, if◌then◌else◌}
use Rattle.linker_runs.specs.Relaxing.{offset_of, len_of, target_of, item_at, place_of, choice_of}
use Rattle.linker_runs.specs.Relaxing.{freed_before}
use Rattle.linker_runs.specs.Choosing.{AreItems, IsRelaxation}

-- what an item loses of which n bytes stay
abbrev pub deletion_at : Item → ℕ → List (ℕ × ℕ)
deletion_at item kept =
    if nat_lt kept (len_of item) then (offset_of item + kept, len_of item - kept) ∷ [] else []

-- what the items before an index lose
unfoldable pub deletions_before : List Item → List ℕ → ℕ → List (ℕ × ℕ)
deletions_before items kept zero = []
deletions_before items kept (suc i) =
    deletions_before items kept i ++ deletion_at (item_at items i) (slice_index_or kept i 0)

abbrev pub deletions_of_run : List Item → List ℕ → List (ℕ × ℕ)
deletions_of_run items kept = deletions_before items kept (length items)

-- The deletions of a relaxed run translate the offset of each item, and of each target, to what is
-- left of it by the layout.
abbrev pub TranslationsAreExact : Type 0
TranslationsAreExact = (start : ℕ) (items : List Item) (shapes kept freed : List ℕ)
    → AreItems start items → IsRelaxation start items shapes kept freed
    → (i : ℕ) → i < length items
    → (rank (deletions_of_run items kept) (offset_of (item_at items i))
    ≡ offset_of (item_at items i) - freed_before start items (choice_of shapes) i)
    × (rank (deletions_of_run items kept) (target_of (item_at items i))
    ≡ target_of (item_at items i)
    - freed_before start items (choice_of shapes)
    (place_of items (target_of (item_at items i))))
