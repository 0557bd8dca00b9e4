-- Runs of RISC-V calls between which nothing is aligned, with deletions that are decided already.
use Rattle.linker_runs.specs.Imports.{Aligned, Bool, Item, List, Shapes, Site, [], length}
use Rattle.linker_runs.specs.Imports.{slice_index_or, true, ℕ}
use Rattle.std.specs.Prelude.{◌≡◌, ◌<◌, ◌⊎◌, ◌↔◌, ◌∷◌}
use Rattle.linker_runs.specs.Relaxing.{item_at, no_shape, shape_len, shape_reaches, choice_of}
use Rattle.linker_runs.specs.Choosing.{AreItems, IsRelaxation}
use Rattle.linker_riscv64.specs.Shrinking.{IsChosen, IsGreatest}

-- `jal`, and the call as it stands
abbrev pub call_shapes : Shapes
call_shapes = record {
  short = record { kept = 4; max_backward = 1048576; max_forward = 1048576; granularity = 2 }
      ∷ no_shape ∷ [];
  count = 1;
  longest = 8;
}

-- the site of a call: its offset and its target
abbrev pub IsCallItem : ℕ × ℕ → Item → Type 0
IsCallItem call (Site site) = (site.offset ≡ call.0) × (site.target ≡ call.1) × (site.len ≡ 8)
    × (site.shapes ≡ call_shapes)
IsCallItem call (Aligned alignment) = ⊥

-- a deletion that is decided: none of its bytes stays, wherever its target is
abbrev pub IsDeletedItem : ℕ × ℕ → Item → Type 0
IsDeletedItem deletion (Site site) = (site.offset ≡ deletion.0) × (site.len ≡ deletion.1)
    × ((k : ℕ) → shape_len site.shapes k ≡ 0)
    × ((k from to : ℕ) → shape_reaches site.shapes k from to ≡ true)
IsDeletedItem deletion (Aligned alignment) = ⊥

abbrev pub pair_at : List (ℕ × ℕ) → ℕ → ℕ × ℕ
pair_at pairs i = slice_index_or pairs i (0, 0)

-- The items of the run are the calls, each at the index that is given, and the deletions.
pub record IsRunOf (deletions calls : List (ℕ × ℕ)) (items : List Item) (place : ℕ → ℕ)
    : Type 0 where
  pub calls_in : (i : ℕ) → i < length calls
      → (place i < length items) × IsCallItem (pair_at calls i) (item_at items (place i))
  pub once : (i j : ℕ) → i < length calls → j < length calls → place i ≡ place j → i ≡ j
  pub deletions_in : (i : ℕ) → i < length deletions
      → (j : ℕ) × (j < length items) × IsDeletedItem (pair_at deletions i) (item_at items j)
  pub all : (j : ℕ) → j < length items
      → ((i : ℕ) × (i < length calls) × (place i ≡ j))
      ⊎ ((i : ℕ) × (i < length deletions) × IsDeletedItem (pair_at deletions i) (item_at items j))

-- A call has its `jal` exactly where it is in the greatest choice beside the deletions.
abbrev pub CallsAreShrunkAlike : Type 0
CallsAreShrunkAlike = (start : ℕ) (deletions calls : List (ℕ × ℕ)) (items : List Item)
    (place : ℕ → ℕ) (shapes kept freed : List ℕ) (chosen : List Bool)
    → AreItems start items → IsRunOf deletions calls items place
    → IsRelaxation start items shapes kept freed → IsGreatest deletions calls chosen
    → (i : ℕ) → i < length calls
    → (choice_of shapes (place i) ≡ 0) ↔ IsChosen chosen i
