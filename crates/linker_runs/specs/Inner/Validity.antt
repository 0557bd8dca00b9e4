-- What proofs use of runs that can be relaxed.
use Rattle.linker_runs.specs.Imports.{Aligned, Item, List, Shapes, Site, length, ℕ}
use Rattle.std.specs.Prelude.{◌≡◌, ◌+◌, ◌-◌, ◌%◌, ◌<◌, ◌≤◌, ◌⊎◌}
use Rattle.linker_runs.specs.Relaxing.{shape_len, short_shape, item_at, place_of, offset_of}
use Rattle.linker_runs.specs.Choosing.{least_len, AlignmentFits, IsStill}

-- Shapes of a site of n bytes in a run of granularity u: each frees a multiple of u, none
-- keeps more than the next, each short one reaches itself, and its granularity divides u.
pub record ShapesSuit (u len : ℕ) (shapes : Shapes) : Type 0 where
  pub freed : (k : ℕ) → (len - shape_len shapes k) % u ≡ 0
  pub ascending : (k : ℕ) → shape_len shapes k ≤ shape_len shapes (k + 1)
  pub ahead : (k : ℕ) → k < shapes.count → 0 < (short_shape shapes k).max_forward
  pub units : (k : ℕ) → k < shapes.count → u % (short_shape shapes k).granularity ≡ 0

abbrev pub ItemSuits : ℕ → ℕ → Item → Type 0
ItemSuits u start (Site site) = ShapesSuit u site.len site.shapes
ItemSuits u start (Aligned alignment) = AlignmentFits u start alignment ⊎ IsStill u start alignment

-- the item at the place of an offset, if there is one, has the offset no farther in than it keeps
abbrev pub IsClearRun : List Item → ℕ → Type 0
IsClearRun items offset = place_of items offset < length items
    → offset ≤ offset_of (item_at items (place_of items offset))
    + least_len (item_at items (place_of items offset))
