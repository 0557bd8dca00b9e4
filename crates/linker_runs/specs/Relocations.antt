-- The items that the relocations of a section make.
use Rattle.linker_runs.specs.Imports.{Item, List, None, Relocation, [], false, length, pos}
use Rattle.linker_runs.specs.Imports.{slice_index_or, suc, zero, ℕ, ⊤}
use Rattle.std.specs.Prelude.{◌≡◌, ◌+◌, ◌<◌, ◌∷◌, ◌++◌}
use Rattle.linker_runs.specs.declared.items.ItemsError.{ItemsError}
use Rattle.linker_runs.specs.declared.items.ItemsError.TheVariants.{OutOfMemory, Malformed}

-- what stands at an index outside of a list of relocations
abbrev pub no_relocation : Relocation
no_relocation = record {
  offset = 0;
  r_type = 0;
  has_symbol = false;
  addend = pos 0;
  target = None;
  may_compress = false;
}

abbrev pub relocation_at : List Relocation → ℕ → Relocation
relocation_at relocations i = slice_index_or relocations i no_relocation

-- The relocation after the one at an index has an `r_type`, and is at the same place: so a linker
-- may relax what is there, if the `r_type` is that of the psABI's relocation for this.
pub record IsMarked (r_type : ℕ) (relocations : List Relocation) (i : ℕ) : Type 0 where
  pub follows : i + 1 < length relocations
  pub r_type_is : (relocation_at relocations (i + 1)).r_type ≡ r_type
  pub same_place :
      (relocation_at relocations (i + 1)).offset ≡ (relocation_at relocations i).offset

-- The items that the relocations below an index make, in their order, each at most one, which
-- `Makes` says, and the indexes of the relocations that make them.
pub data AreMade (Makes : ℕ → Item → Type 0) : ℕ → List Item → List ℕ → Type 0 where
  none : AreMade Makes zero [] []
  left_out : {i : ℕ} {items : List Item} {makers : List ℕ} → AreMade Makes i items makers
      → ((item : Item) → ¬ Makes i item) → AreMade Makes (suc i) items makers
  made : {i : ℕ} {items : List Item} {makers : List ℕ} {item : Item}
      → AreMade Makes i items makers → Makes i item
      → AreMade Makes (suc i) (items ++ item ∷ []) (makers ++ i ∷ [])

-- the relocations below an index are well formed
abbrev pub AreWellFormed : (Relocation → Type 0) → List Relocation → ℕ → Type 0
AreWellFormed IsWellFormed relocations n =
    (k : ℕ) → k < n → IsWellFormed (relocation_at relocations k)

-- the relocation at the index is the first that isn't
pub record IsFirstMalformed (IsWellFormed : Relocation → Type 0) (relocations : List Relocation)
    (at : ℕ) : Type 0 where
  pub within : at < length relocations
  pub before : AreWellFormed IsWellFormed relocations at
  pub here : ¬ IsWellFormed (relocation_at relocations at)

-- why no items are made
abbrev pub IsItemsCause : (Relocation → Type 0) → List Relocation → ItemsError → Type 0
IsItemsCause IsWellFormed relocations OutOfMemory = ⊤
IsItemsCause IsWellFormed relocations (Malformed at) =
    IsFirstMalformed IsWellFormed relocations at
