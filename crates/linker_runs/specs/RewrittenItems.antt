-- The items of a section that was rewritten: those that its relocations make, and what rewrites
-- delete.
use Rattle.linker_runs.specs.Imports.{Aligned, Item, List, Machine, Misplaced, Overlaps, Relocation}
use Rattle.linker_runs.specs.Imports.{Site, [], length, slice_index_or, suc, zero, ℕ}
use Rattle.std.specs.Prelude.{◌≡◌, ◌+◌, ◌<◌, ◌≤◌, ◌⊎◌, ◌∷◌, ◌++◌}
use Rattle.linker_runs.specs.declared.items.rewritten.RewrittenItemsError.{RewrittenItemsError}
use Rattle.linker_runs.specs.declared.items.rewritten.RewrittenItemsError.TheVariants.{Malformed}
use Rattle.linker_runs.specs.Relaxing.{offset_of, end_of}
use Rattle.linker_runs.specs.Relocations.{IsFirstMalformed, AreWellFormed}
use Rattle.linker_runs.specs.SectionItems.{Makes, IsFormed}

-- ---- what is deleted

-- the deletion at an index: the offset of its first byte in the section, and how many it has
abbrev pub deleted_at : List (ℕ × ℕ) → ℕ → ℕ × ℕ
deleted_at deletions k = slice_index_or deletions k (0, 0)

abbrev pub deleted_end : List (ℕ × ℕ) → ℕ → ℕ
deleted_end deletions k = (deleted_at deletions k).0 + (deleted_at deletions k).1

-- where the one before it ends
abbrev pub deleted_before : List (ℕ × ℕ) → ℕ → ℕ
deleted_before deletions zero = 0
deleted_before deletions (suc k) = deleted_end deletions k

-- it begins there or above, and ends in a section of n bytes
abbrev pub IsPlaced : ℕ → List (ℕ × ℕ) → ℕ → Type 0
IsPlaced len deletions k = (deleted_before deletions k ≤ (deleted_at deletions k).0)
    × (deleted_end deletions k ≤ len)

abbrev pub ArePlaced : ℕ → List (ℕ × ℕ) → ℕ → Type 0
ArePlaced len deletions n = (k : ℕ) → k < n → IsPlaced len deletions k

-- the deletion at the index is the first that doesn't
pub record IsFirstMisplaced (len : ℕ) (deletions : List (ℕ × ℕ)) (at : ℕ) : Type 0 where
  pub within : at < length deletions
  pub before : ArePlaced len deletions at
  pub here : ¬ IsPlaced len deletions at

-- A deletion in a section that begins at an input offset, as an item: a site that loses all of its
-- bytes wherever its target is.
abbrev pub IsDeleted : ℕ → ℕ × ℕ → Item → Type 0
IsDeleted base d (Site site) = (site.offset ≡ base + d.0) × (site.len ≡ d.1)
    × (site.shapes.count ≡ 0) × (site.shapes.longest ≡ 0)
IsDeleted base d (Aligned alignment) = ⊥

-- ---- items

-- The items that the relocations below an index i make, each at most one, and the deletions below
-- an index g. They ascend: none begins below the end of the one before it, and the last one ends at
-- `end`. The makers are the indexes of the relocations and, above all n of these, of the deletions.
pub data AreListed (Makes : ℕ → Item → Type 0) (base n : ℕ) (deletions : List (ℕ × ℕ))
    : ℕ → ℕ → ℕ → List Item → List ℕ → Type 0 where
  none : AreListed Makes base n deletions zero zero 0 [] []
  left_out : {i g end : ℕ} {items : List Item} {makers : List ℕ}
      → AreListed Makes base n deletions i g end items makers
      → ((item : Item) → ¬ Makes i item)
      → AreListed Makes base n deletions (suc i) g end items makers
  made : {i g end : ℕ} {items : List Item} {makers : List ℕ} (item : Item)
      → AreListed Makes base n deletions i g end items makers
      → Makes i item → end ≤ offset_of item
      → AreListed Makes base n deletions (suc i) g (end_of item) (items ++ item ∷ [])
      (makers ++ i ∷ [])
  deleted : {i g end : ℕ} {items : List Item} {makers : List ℕ} (item : Item)
      → AreListed Makes base n deletions i g end items makers
      → IsDeleted base (deleted_at deletions g) item → end ≤ offset_of item
      → AreListed Makes base n deletions i (suc g) (end_of item) (items ++ item ∷ [])
      (makers ++ (n + g) ∷ [])

-- all of them
abbrev pub AreRewrittenItems : Machine → List ℕ → ℕ → List Relocation → List (ℕ × ℕ) → List Item
    → List ℕ → Type 0
AreRewrittenItems machine section base relocations deletions items makers = (end : ℕ)
    × AreListed (Makes machine section base relocations) base (length relocations) deletions
    (length relocations) (length deletions) end items makers

-- ---- why none are listed

-- The relocation at an index makes an item that begins below the end of one of an earlier
-- relocation, or of which bytes are deleted, or one that has deleted bytes inside.
pub record IsOverlapping (Makes : ℕ → Item → Type 0) (base : ℕ) (deletions : List (ℕ × ℕ))
    (i : ℕ) : Type 0 where
  pub item : Item
  pub makes : Makes i item
  pub overlap : ((j : ℕ) × (other : Item) × (j < i) × Makes j other
      × (offset_of item < end_of other))
      ⊎ ((g : ℕ) × (g < length deletions)
      × (base + (deleted_at deletions g).0 < end_of item)
      × (offset_of item < base + deleted_end deletions g))

-- the first of these that applies
abbrev pub IsRewrittenCause : Machine → List ℕ → ℕ → List Relocation → List (ℕ × ℕ)
    → RewrittenItemsError → Type 0
IsRewrittenCause machine section base relocations deletions (Malformed at) =
    IsFirstMalformed (IsFormed machine section) relocations at
IsRewrittenCause machine section base relocations deletions (Misplaced at) =
    AreWellFormed (IsFormed machine section) relocations (length relocations)
    × IsFirstMisplaced (length section) deletions at
IsRewrittenCause machine section base relocations deletions (Overlaps at) =
    AreWellFormed (IsFormed machine section) relocations (length relocations)
    × ArePlaced (length section) deletions (length deletions) × (at < length relocations)
    × IsOverlapping (Makes machine section base relocations) base deletions at
