-- What holds while items are written.
use Rattle.linker_runs.specs.Imports.{IsTrue, Item, List, Machine, drop, false, is_kept, length}
use Rattle.linker_runs.specs.Imports.{slice_index, take, ℕ}
use Rattle.std.specs.Prelude.{◌≡◌, ◌+◌, ◌<◌}
use Rattle.linker_runs.specs.Relaxing.{item_at, offset_of}
use Rattle.linker_runs.specs.Packing.{Section, IsNotIn, CanWrite, is_fixed, kept_len}
use Rattle.linker_runs.specs.Packing.{ItemBecomes, packed_offset}

-- the first items can be written
abbrev pub AreReady : Machine → Section → List Item → ℕ → Type 0
AreReady machine s items n = (i : ℕ) → i < n → CanWrite machine s items i

-- all is copied, and the first items are written
pub record IsWrittenTo (machine : Machine) (s : Section) (items : List Item) (n : ℕ)
    (packed : List ℕ) : Type 0 where
  pub kept : (p : ℕ) → p < length s.bytes → IsTrue (is_kept s.deletions (s.base + p))
      → ((i : ℕ) → i < n → IsNotIn s.deletions (s.base + p) (item_at items i))
      → slice_index packed (packed_offset s (s.base + p)) ≡ slice_index s.bytes p
  pub written : (i : ℕ) → i < n → is_fixed (item_at items i) ≡ false
      → ItemBecomes machine s (item_at items i)
      (take (kept_len s.deletions (item_at items i))
      (drop (packed_offset s (offset_of (item_at items i))) packed))
