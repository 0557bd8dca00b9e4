-- The relocations of a section that make items, and what is returned of these, in the numbers that
-- C sees.
use Rattle.std.specs.Prelude.{◌≡◌, ◌≢◌, ◌≤◌, ◌<◌, ◌^◌, ◌⊎◌, if◌then◌else◌, ℕ, List, map, length}
use Rattle.std.specs.Prelude.{All, None, Some}
use Rattle.linker_runs.specs.Relocations.{AreMade, AreWellFormed, IsFirstMalformed}
use Rattle.linker_runs.specs.RewrittenItems.{AreRewrittenItems, IsRewrittenCause}
use Rattle.linker_runs.specs.SectionItems.{Makes, IsFormed}
use Rattle.linker_runs.specs.declared.items.Relocation.{Relocation}
use Rattle.linker_runs.specs.declared.items.rewritten.RewrittenItemsError.TheVariants as why
use Rattle.linker_utils_c.specs.Imports.{DifferentLengths, EndsTooHigh, InvalidDeletions}
use Rattle.linker_utils_c.specs.Imports.{ItemsOverlap, Machine, MalformedRelocation, Success}
use Rattle.linker_runs.specs.declared.items.numbers.ItemNumbers.{ItemNumbers}
use Rattle.linker_utils_c.specs.declared.section_items.Rela.{Rela}
use Rattle.linker_utils_c.specs.Choices.{is_set}
use Rattle.linker_runs.specs.Relaxing.{items_in, HasKind}
use Rattle.linker_utils_c.specs.Status.{code}

-- the relocation that C's struct is
abbrev pub relocation_of : Rela → Relocation
relocation_of relocation = record {
  offset = relocation.offset;
  r_type = relocation.r_type;
  has_symbol = is_set relocation.has_symbol;
  addend = relocation.addend;
  target = if is_set relocation.has_target then Some relocation.target else None;
  may_compress = is_set relocation.may_compress;
}

abbrev pub relocations_in : List Rela → List Relocation
relocations_in relocations = map relocation_of relocations

-- ---- what is returned

-- An array has another length than the most items that can be made, or else the address after the
-- section is above 2^64 - 1, or else there is this outcome.
abbrev pub AreListedBy : ℕ → ℕ → ℕ → ℕ → Type 0 → ℕ → Type 0
AreListedBy most items makers end outcome status =
    ((status ≡ code DifferentLengths) × ((items ≢ most) ⊎ (makers ≢ most)))
    ⊎ ((status ≡ code EndsTooHigh) × (items ≡ most) × (makers ≡ most) × (2 ^ 64 ≤ end))
    ⊎ ((items ≡ most) × (makers ≡ most) × (end < 2 ^ 64) × outcome)

-- the items are those of the relocations, or the relocation at the index is malformed
abbrev pub AreItemsOrMalformed : Machine → List ℕ → ℕ → List Relocation → List ItemNumbers → List ℕ
    → ℕ → ℕ → Type 0
AreItemsOrMalformed machine section base relocations items makers faulty status =
    ((status ≡ code Success)
    × AreMade (Makes machine section base relocations) (length relocations) (items_in items) makers
    × All HasKind items
    × AreWellFormed (IsFormed machine section) relocations (length relocations))
    ⊎ ((status ≡ code MalformedRelocation)
    × IsFirstMalformed (IsFormed machine section) relocations faulty)

-- the items are those of the rewritten section, or the status says what is wrong with the
-- relocation or the deletion at the index
abbrev pub AreRewrittenOrFaulty : Machine → List ℕ → ℕ → List Relocation → List (ℕ × ℕ)
    → List ItemNumbers → List ℕ → ℕ → ℕ → Type 0
AreRewrittenOrFaulty machine section base relocations deletions items makers faulty status =
    let Because = IsRewrittenCause machine section base relocations deletions in
    ((status ≡ code Success)
    × AreRewrittenItems machine section base relocations deletions (items_in items) makers
    × All HasKind items)
    ⊎ ((status ≡ code MalformedRelocation) × Because (why.Malformed faulty))
    ⊎ ((status ≡ code InvalidDeletions) × Because (why.Misplaced faulty))
    ⊎ ((status ≡ code ItemsOverlap) × Because (why.Overlaps faulty))
