-- Which instructions of a run become shorter, where each alignment keeps as many nops as its output
-- address then needs. A choice gives each item the index of a shape, 0 for the shortest one. For an
-- alignment the index means nothing.
use Rattle.linker_runs.specs.Imports.{Aligned, Alignment, Bool, Item, List, None, Option, Shape}
use Rattle.linker_runs.specs.Imports.{Shapes, Site, Some, [], count_by, length, map, min, nat_eq}
use Rattle.linker_runs.specs.Imports.{nat_le, nat_lt, slice_index_or, suc, true, zero, ℕ}
use Rattle.std.specs.Prelude.{◌≡◌, ◌+◌, ◌-◌, ◌%◌, ◌^◌, ◌<◌, ◌≤◌, ◌&&◌, if◌then◌else◌, ◌==◌}
use Rattle.linker_runs.specs.declared.items.numbers.ItemNumbers.{ItemNumbers}

-- the item that numbers are, by its kind: 0 a site, 1 an alignment without limit, any other one
-- with a limit
abbrev pub item_of : ItemNumbers → Item
item_of item = if item.kind == 0
    then Site (record {
      offset = item.offset;
      len = item.len;
      target = item.target;
      shapes = item.shapes;
    })
    else Aligned (record {
      offset = item.offset;
      nops = item.len;
      alignment = item.alignment;
      max_skip = if item.kind == 1 then None else Some item.max_skip;
    })

-- its kind is one of those that `item_of` names: 0, 1 and, with a limit, 2
abbrev pub HasKind : ItemNumbers → Type 0
HasKind item = item.kind ≤ 2

abbrev pub items_in : List ItemNumbers → List Item
items_in items = map item_of items

-- the input offset of an item, how many bytes it has there, and the offset after them
abbrev pub offset_of : Item → ℕ
offset_of (Site site) = site.offset
offset_of (Aligned alignment) = alignment.offset

abbrev pub len_of : Item → ℕ
len_of (Site site) = site.len
len_of (Aligned alignment) = alignment.nops

abbrev pub end_of : Item → ℕ
end_of item = offset_of item + len_of item

-- what stands at an index outside of the run, or of a list of shapes
abbrev pub no_item : Item
no_item = Site (record {
  offset = 0;
  len = 0;
  target = 0;
  shapes = record { short = []; count = 0; longest = 0 };
})

abbrev pub no_shape : Shape
no_shape = record { kept = 0; max_backward = 0; max_forward = 0; granularity = 1 }

abbrev pub item_at : List Item → ℕ → Item
item_at items i = slice_index_or items i no_item

-- the shape at an index of a list of shapes, the longest of which isn't among the short ones
abbrev pub short_shape : Shapes → ℕ → Shape
short_shape shapes k = slice_index_or shapes.short k no_shape

-- how many bytes the shape at an index keeps
abbrev pub shape_len : Shapes → ℕ → ℕ
shape_len shapes k =
    if nat_lt k shapes.count then (short_shape shapes k).kept else shapes.longest

-- how many bytes are needed from an address up to the next multiple of a number
abbrev pub needed : ℕ → ℕ → ℕ
needed power address = (power - address % power) % power

-- how many nops an alignment may keep at most
abbrev pub limit_of : ℕ → Option ℕ → ℕ
limit_of nops None = nops
limit_of nops (Some most) = min most nops

-- how many nops an alignment keeps whose output address is given: those that are needed, and none
-- where more are needed than it may keep
abbrev pub padding_at : Alignment → ℕ → ℕ
padding_at alignment address =
    if nat_le (needed alignment.alignment address) (limit_of alignment.nops alignment.max_skip)
    then needed alignment.alignment address
    else 0

-- how many bytes of an item stay that has the shape at an index, where the items before it free so
-- many. The run begins at the address `start`.
abbrev pub kept_by : ℕ → Item → ℕ → ℕ → ℕ
kept_by start (Site site) k freed = shape_len site.shapes k
kept_by start (Aligned alignment) k freed =
    padding_at alignment (start + alignment.offset - freed)

-- how many bytes the items before an index free
unfoldable pub freed_before : ℕ → List Item → (ℕ → ℕ) → ℕ → ℕ
freed_before start items choice zero = 0
freed_before start items choice (suc i) = freed_before start items choice i
    + (len_of (item_at items i)
    - kept_by start (item_at items i) (choice i) (freed_before start items choice i))

-- how many items end at or below an input offset
abbrev pub place_of : List Item → ℕ → ℕ
place_of items offset = count_by (λ item. nat_le (end_of item) offset) items

-- whether a distance is a multiple of a granularity
abbrev pub is_multiple : ℕ → ℕ → Bool
is_multiple granularity distance = nat_eq (distance % granularity) 0

-- whether a shape at an output offset reaches another: it lies at most `max_backward` below, or
-- less than `max_forward` above, and the distance is a multiple of the granularity
abbrev pub is_reached : Shape → ℕ → ℕ → Bool
is_reached shape from to =
    if nat_le from to
    then nat_lt (to - from) shape.max_forward && is_multiple shape.granularity (to - from)
    else nat_le (from - to) shape.max_backward && is_multiple shape.granularity (from - to)

-- whether the shape at an index does. The longest one reaches everything.
abbrev pub shape_reaches : Shapes → ℕ → ℕ → ℕ → Bool
shape_reaches shapes k from to =
    if nat_lt k shapes.count then is_reached (short_shape shapes k) from to else true

-- The input offset that an item has to reach. What has nothing to reach reaches its own.
abbrev pub target_of : Item → ℕ
target_of (Site site) = if nat_lt 0 site.shapes.count then site.target else site.offset
target_of (Aligned alignment) = alignment.offset

-- whether an item that has the shape at an index reaches its target, where n bytes are freed
-- before the item, and n before the target
abbrev pub item_reaches : Item → ℕ → ℕ → ℕ → Bool
item_reaches (Site site) k here there =
    shape_reaches site.shapes k (site.offset - here) (target_of (Site site) - there)
item_reaches (Aligned alignment) k here there = true

-- whether the item at an index is in reach of its target, with what the whole choice frees
abbrev pub is_in_reach : ℕ → List Item → (ℕ → ℕ) → ℕ → Bool
is_in_reach start items choice i = item_reaches (item_at items i) (choice i)
    (freed_before start items choice i)
    (freed_before start items choice (place_of items (target_of (item_at items i))))

-- the choice in which each site that is out of reach has its next shape
abbrev pub lengthened : ℕ → List Item → (ℕ → ℕ) → ℕ → ℕ
lengthened start items choice i =
    if is_in_reach start items choice i then choice i else choice i + 1

-- the choice after n rounds: at first each site has its shortest shape
unfoldable pub after_rounds : ℕ → List Item → ℕ → ℕ → ℕ
after_rounds start items zero i = 0
after_rounds start items (suc r) i = lengthened start items (after_rounds start items r) i

-- the indices that a list has, and 0 outside of it
abbrev pub choice_of : List ℕ → ℕ → ℕ
choice_of shapes i = slice_index_or shapes i 0

-- how many rounds there are at most
abbrev pub most_rounds : ℕ
most_rounds = 64

-- The shapes are those of the first round after which every site is in reach.
pub record AreRelaxed (start : ℕ) (items : List Item) (shapes : List ℕ) : Type 0 where
  pub rounds : ℕ
  pub few : rounds ≤ most_rounds
  pub same : (i : ℕ) → choice_of shapes i ≡ after_rounds start items rounds i
  pub reached : (i : ℕ) → i < length items
      → is_in_reach start items (choice_of shapes) i ≡ true

-- The numbers are those of the bytes that the items before each index free, and of all at the end.
pub record AreFreed (start : ℕ) (items : List Item) (shapes freed : List ℕ) : Type 0 where
  pub each : (i : ℕ) → i ≤ length items
      → slice_index_or freed i 0 ≡ freed_before start items (choice_of shapes) i

-- The numbers are those of the bytes of each item that stay.
pub record AreKeptBytes (start : ℕ) (items : List Item) (shapes kept : List ℕ) : Type 0 where
  pub each : (i : ℕ) → i < length items
      → slice_index_or kept i 0 ≡ kept_by start (item_at items i) (choice_of shapes i)
      (freed_before start items (choice_of shapes) i)

-- a site's shapes keep no more bytes than it has, and each granularity is at least 1
abbrev pub IsSound : Item → Type 0
IsSound (Site site) = (site.shapes.count ≤ 2) × (site.shapes.longest ≤ site.len)
    × ((k : ℕ) → k < site.shapes.count → (short_shape site.shapes k).kept ≤ site.len)
    × ((k : ℕ) → k < site.shapes.count → 0 < (short_shape site.shapes k).granularity)
IsSound (Aligned alignment) = 0 < alignment.alignment

-- the items ascend, and none reaches past the next
abbrev pub AreApart : List Item → Type 0
AreApart items = (i : ℕ) → i + 1 < length items
    → end_of (item_at items i) ≤ offset_of (item_at items (i + 1))

-- The items ascend and none reaches past the next, the address after each is one of 64 bits, and
-- each by itself is sound.
pub record AreInOrder (start : ℕ) (items : List Item) : Type 0 where
  pub apart : AreApart items
  pub ends : (i : ℕ) → i < length items → start + end_of (item_at items i) < 2 ^ 64
  pub sound : (i : ℕ) → i < length items → IsSound (item_at items i)
