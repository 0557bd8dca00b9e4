-- What becomes of the items of a section that was rewritten, in a relaxed run.
use Rattle.linker_runs.specs.Imports.{Item, List, Machine, Relocation, false, length, ℕ}
use Rattle.std.specs.Prelude.{◌≡◌, ◌<◌}
use Rattle.linker_runs.specs.Relaxing.{item_at}
use Rattle.linker_runs.specs.Choosing.{AreItems, IsRelaxation}
use Rattle.linker_runs.specs.Deleting.{deletions_of_run}
use Rattle.linker_runs.specs.Origins.{HasItsInstructions}
use Rattle.linker_runs.specs.Packing.{is_fixed, kept_len}
use Rattle.linker_runs.specs.Relocations.{AreWellFormed}
use Rattle.linker_runs.specs.RewrittenItems.{AreRewrittenItems, IsDeleted}
use Rattle.linker_runs.specs.SectionItems.{IsFormed}

-- Each site with short shapes has its instructions.
abbrev pub RewrittenSitesHaveInstructions : Type 0
RewrittenSitesHaveInstructions = (machine : Machine) (section : List ℕ) (base : ℕ)
    (relocations : List Relocation) (deletions : List (ℕ × ℕ)) (items : List Item)
    (makers : List ℕ)
    → AreRewrittenItems machine section base relocations deletions items makers
    → AreWellFormed (IsFormed machine section) relocations (length relocations)
    → (j : ℕ) → j < length items → is_fixed (item_at items j) ≡ false
    → HasItsInstructions machine section base (item_at items j)

-- Of a deletion among the items of a relaxed run no byte stays, with the deletions of the run.
abbrev pub DeletedBytesGo : Type 0
DeletedBytesGo = (start : ℕ) (items : List Item) (shapes kept freed : List ℕ)
    → AreItems start items → IsRelaxation start items shapes kept freed
    → (j base : ℕ) (d : ℕ × ℕ) → j < length items → IsDeleted base d (item_at items j)
    → kept_len (deletions_of_run items kept) (item_at items j) ≡ 0
