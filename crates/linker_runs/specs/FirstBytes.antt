-- What stays of the items of a relaxed run, where it is packed with the
-- deletions of its relaxation.
use Rattle.linker_runs.specs.Imports.{Item, List, Machine, NotItsFirstBytes, length, slice_index_or}
use Rattle.linker_runs.specs.Imports.{ℕ}
use Rattle.std.specs.Prelude.{◌≡◌, ◌<◌}
use Rattle.linker_runs.specs.Relaxing.{item_at}
use Rattle.linker_runs.specs.Choosing.{AreItems, IsRelaxation}
use Rattle.linker_runs.specs.Deleting.{deletions_of_run}
use Rattle.linker_runs.specs.Packing.{section_of, kept_len, IsUnwritable}

-- As many bytes of each item stay as the relaxation says, and they are its first ones: `pack_run`
-- rejects none of them for other bytes.
abbrev pub FirstBytesAreKept : Type 0
FirstBytesAreKept = (start : ℕ) (items : List Item) (shapes kept freed : List ℕ)
    → AreItems start items → IsRelaxation start items shapes kept freed
    → (i : ℕ) → i < length items
    → (kept_len (deletions_of_run items kept) (item_at items i) ≡ slice_index_or kept i 0)
    × ((machine : Machine) (bytes : List ℕ) (base : ℕ)
    → ¬ IsUnwritable machine (section_of bytes base (deletions_of_run items kept) start)
    (item_at items i) NotItsFirstBytes)
