-- Which runs keep every distance a multiple of its granularity, and what the choice
-- for these is compared with.
use Rattle.linker_runs.specs.Imports.{Aligned, Alignment, IsNextPowerOfTwo, IsPowerOfTwo, Item}
use Rattle.linker_runs.specs.Imports.{List, MatchOption, None, Shape, Shapes, Site, length, max}
use Rattle.linker_runs.specs.Imports.{nat_lt, slice_index_or, suc, true, zero, ℕ, ⊤}
use Rattle.std.specs.Prelude.{◌≡◌, ◌+◌, ◌-◌, ◌%◌, ◌<◌, ◌≤◌, ◌⊎◌, if◌then◌else◌}
use Rattle.std.specs.List.{fold}
use Rattle.linker_runs.specs.declared.shapes.loongarch64.TheConstants.{CALL36}
use Rattle.linker_runs.specs.Relaxing.{freed_before, item_reaches, after_rounds, AreKeptBytes}
use Rattle.linker_runs.specs.Relaxing.{offset_of, short_shape, is_in_reach, most_rounds, AreInOrder}
use Rattle.linker_runs.specs.Relaxing.{target_of, place_of, shape_len, choice_of, AreRelaxed}
use Rattle.linker_runs.specs.Relaxing.{end_of, item_at, needed, AreFreed}

-- the greatest granularity of short shapes, of an item and of a run
abbrev pub shapes_granularity : Shapes → ℕ
shapes_granularity shapes = if nat_lt 1 shapes.count
    then max (short_shape shapes 0).granularity (short_shape shapes 1).granularity
    else if nat_lt 0 shapes.count then (short_shape shapes 0).granularity else 1

abbrev pub item_granularity : Item → ℕ
item_granularity (Site site) = shapes_granularity site.shapes
item_granularity (Aligned alignment) = 1

abbrev pub run_granularity : List Item → ℕ
run_granularity items = fold (λ granularity item. max granularity (item_granularity item)) 1 items

-- the granularity of a short shape is a power of two
pub record HasUnit (shape : Shape) : Type 0 where
  pub power : IsPowerOfTwo shape.granularity

-- Short shapes by themselves. Each keeps fewer bytes than the next, reaches its own offset, and its
-- granularity is a power of two. It reaches no farther than the next short one, and its granularity
-- is no less.
pub record AreNested (shapes : Shapes) : Type 0 where
  pub ascending : (k : ℕ) → k < shapes.count → shape_len shapes k < shape_len shapes (k + 1)
  pub powers : (k : ℕ) → k < shapes.count → HasUnit (short_shape shapes k)
  pub units : (k : ℕ) → k + 1 < shapes.count
      → (short_shape shapes (k + 1)).granularity ≤ (short_shape shapes k).granularity
  pub ahead : (k : ℕ) → k < shapes.count → 0 < (short_shape shapes k).max_forward
  pub reaches : (k : ℕ) → k + 1 < shapes.count
      → ((short_shape shapes k).max_backward ≤ (short_shape shapes (k + 1)).max_backward)
      × ((short_shape shapes k).max_forward ≤ (short_shape shapes (k + 1)).max_forward)

-- an item by itself
abbrev pub IsFormed : Item → Type 0
IsFormed (Site site) = AreNested site.shapes
IsFormed (Aligned alignment) = IsPowerOfTwo alignment.alignment

-- each shape of a site of n bytes frees a multiple of u
abbrev pub ShapesFit : ℕ → ℕ → Shapes → Type 0
ShapesFit u len shapes = (k : ℕ) → (len - shape_len shapes k) % u ≡ 0

-- An alignment of a run at an address: it and the address after its nops are multiples of u. One
-- with a limit has enough nops, or no more may stay than there are; since all may go, they are a
-- multiple of u.
pub record AlignmentFits (u start : ℕ) (alignment : Alignment) : Type 0 where
  pub power : alignment.alignment % u ≡ 0
  pub following : (start + alignment.offset + alignment.nops) % u ≡ 0
  pub limited : MatchOption alignment.max_skip ⊤ (λ most. (alignment.nops % u ≡ 0)
      × ((alignment.alignment ≤ alignment.nops + u) ⊎ (most ≤ alignment.nops)))

-- An alignment that divides u keeps the same nops in each layout, since no address changes modulo
-- u: those that its input address needs. It has these, and the others are a multiple of u.
pub record IsStill (u start : ℕ) (alignment : Alignment) : Type 0 where
  pub divides : u % alignment.alignment ≡ 0
  pub unlimited : alignment.max_skip ≡ None
  pub enough : needed alignment.alignment (start + alignment.offset) ≤ alignment.nops
  pub others :
      (alignment.nops - needed alignment.alignment (start + alignment.offset)) % u ≡ 0

abbrev pub ItemFits : ℕ → ℕ → Item → Type 0
ItemFits u start (Site site) = ShapesFit u site.len site.shapes
ItemFits u start (Aligned alignment) = AlignmentFits u start alignment ⊎ IsStill u start alignment

-- The item is an alignment without a limit, and w divides it and the bytes between its nops and the
-- offset o.
abbrev pub IsAnchor : ℕ → ℕ → Item → Type 0
IsAnchor w o (Site site) = ⊥
IsAnchor w o (Aligned alignment) = (alignment.max_skip ≡ None) × (alignment.alignment % w ≡ 0)
    × ((o - (alignment.offset + alignment.nops)) % w ≡ 0)

-- Where w divides the output address of o less what an item frees, it divides what the item frees.
abbrev pub FreesMultiples : ℕ → ℕ → Item → Type 0
FreesMultiples w o (Site site) = ShapesFit w site.len site.shapes
FreesMultiples w o (Aligned alignment) = ((o - alignment.offset) % w ≡ 0)
    × (alignment.alignment % w ≡ 0) × (alignment.nops % w ≡ 0)

-- In each layout w divides the output address of the offset o. The last items before it
-- tell: it is aligned by one of them, or is what the run's address makes it, and no
-- item in between changes that.
abbrev pub IsAlwaysMultiple : ℕ → ℕ → ℕ → List Item → ℕ → Type 0
IsAlwaysMultiple w start o items zero = (start + o) % w ≡ 0
IsAlwaysMultiple w start o items (suc i) = IsAnchor w o (item_at items i)
    ⊎ (FreesMultiples w o (item_at items i) × IsAlwaysMultiple w start o items i)

-- In each layout an alignment without a limit has as many nops as it needs: w is the least power of
-- two that leaves no more to fill than there are nops.
abbrev pub AreAlwaysEnough : ℕ → ℕ → List Item → ℕ → Alignment → Type 0
AreAlwaysEnough u start items i alignment = (alignment.alignment ≤ alignment.nops + u)
    ⊎ ((w : ℕ) × IsNextPowerOfTwo (alignment.alignment - alignment.nops) w
    × IsAlwaysMultiple w start alignment.offset items i)

abbrev pub HasItsNops : ℕ → ℕ → List Item → ℕ → Item → Type 0
HasItsNops u start items i (Site site) = ⊤
HasItsNops u start items i (Aligned alignment) =
    MatchOption alignment.max_skip (AreAlwaysEnough u start items i alignment) (λ most. ⊤)

-- how many bytes of an item stay in each choice
abbrev pub least_len : Item → ℕ
least_len (Site site) = shape_len site.shapes 0
least_len (Aligned alignment) = 0

-- no choice frees the bytes on both sides of the offset in the item
abbrev pub IsClear : Item → ℕ → Type 0
IsClear item offset = (offset ≤ offset_of item + least_len item) ⊎ (end_of item ≤ offset)

-- The target of an `R_LARCH_CALL36` is a multiple of 4 bytes away: its instructions, short or long,
-- count in words.
abbrev pub IsInWords : Item → Type 0
IsInWords (Site site) = site.shapes ≡ CALL36 → site.target % 4 ≡ site.offset % 4
IsInWords (Aligned alignment) = ⊤

-- the runs that are relaxed
pub record AreItems (start : ℕ) (items : List Item) : Type 0 where
  pub in_order : AreInOrder start items
  pub formed : (i : ℕ) → i < length items → IsFormed (item_at items i)
  pub fit : (i : ℕ) → i < length items → ItemFits (run_granularity items) start (item_at items i)
  pub in_words : (i : ℕ) → i < length items → IsInWords (item_at items i)
  pub clear : (i j : ℕ) → i < length items → j < length items
      → IsClear (item_at items j) (target_of (item_at items i))
  pub enough : (i : ℕ) → i < length items
      → HasItsNops (run_granularity items) start items i (item_at items i)

-- An alignment keeps exactly the bytes that are needed, and none where more are needed than it may
-- keep.
abbrev pub IsExact : Alignment → ℕ → ℕ → Type 0
IsExact alignment need kept = MatchOption alignment.max_skip (kept ≡ need)
    (λ most. (need ≤ most → kept ≡ need) × (most < need → kept ≡ 0))

abbrev pub IsExactItem : Item → ℕ → ℕ → ℕ → Type 0
IsExactItem (Site site) start freed kept = ⊤
IsExactItem (Aligned alignment) start freed kept =
    IsExact alignment (needed alignment.alignment (start + alignment.offset - freed)) kept

-- each alignment of the run is exact at its output address
abbrev pub AreAligned : ℕ → List Item → List ℕ → List ℕ → Type 0
AreAligned start items shapes kept = (i : ℕ) → i < length items
    → IsExactItem (item_at items i) start (freed_before start items (choice_of shapes) i)
    (slice_index_or kept i 0)

-- what the items before an index free where each alignment keeps all
abbrev pub freed_cautiously : Item → ℕ → ℕ
freed_cautiously (Site site) k = site.len - shape_len site.shapes k
freed_cautiously (Aligned alignment) k = 0

unfoldable pub cautious_before : List Item → (ℕ → ℕ) → ℕ → ℕ
cautious_before items choice zero = 0
cautious_before items choice (suc i) =
    cautious_before items choice i + freed_cautiously (item_at items i) (choice i)

-- the choice is in reach where each alignment keeps all
abbrev pub IsInReachCautiously : List Item → (ℕ → ℕ) → Type 0
IsInReachCautiously items choice = (i : ℕ) → i < length items
    → item_reaches (item_at items i) (choice i) (cautious_before items choice i)
    (cautious_before items choice (place_of items (target_of (item_at items i)))) ≡ true

-- the choice is in reach with what it frees
abbrev pub IsInReachExactly : ℕ → List Item → (ℕ → ℕ) → Type 0
IsInReachExactly start items choice =
    (i : ℕ) → i < length items → is_in_reach start items choice i ≡ true

-- no site has a longer shape than the other choice gives it
abbrev pub AreNotLonger : List Item → List ℕ → (ℕ → ℕ) → Type 0
AreNotLonger items shapes other = (i : ℕ) → i < length items → choice_of shapes i ≤ other i

abbrev pub IsSite : Item → Type 0
IsSite (Site site) = ⊤
IsSite (Aligned alignment) = ⊥

abbrev pub HaveNoAlignment : List Item → Type 0
HaveNoAlignment items = (i : ℕ) → i < length items → IsSite (item_at items i)

-- The shapes are in reach where each alignment keeps all, and no longer than in
-- any other choice that is.
pub record IsGreatestCautious (items : List Item) (shapes : List ℕ) : Type 0 where
  pub reached : IsInReachCautiously items (choice_of shapes)
  pub greatest : (other : ℕ → ℕ) → IsInReachCautiously items other
      → AreNotLonger items shapes other

-- after none of the rounds is every site in reach
abbrev pub AreTooFewRounds : ℕ → List Item → Type 0
AreTooFewRounds start items = (r : ℕ) → r ≤ most_rounds
    → ¬ IsInReachExactly start items (after_rounds start items r)

-- The shapes are those of the first round after which every site is in reach, or, where there are
-- too few rounds, those of the greatest choice where each alignment keeps all.
abbrev pub AreChosen : ℕ → List Item → List ℕ → Type 0
AreChosen start items shapes = AreRelaxed start items shapes
    ⊎ (AreTooFewRounds start items × IsGreatestCautious items shapes)

-- What a run becomes: the shape of each site, the bytes of each item that stay, and those that the
-- items before each free.
pub record IsRelaxation (start : ℕ) (items : List Item) (shapes kept freed : List ℕ) : Type 0 where
  pub chosen : AreChosen start items shapes
  pub reached : IsInReachExactly start items (choice_of shapes)
  pub kept_bytes : AreKeptBytes start items shapes kept
  pub freed_bytes : AreFreed start items shapes freed
  pub aligned : AreAligned start items shapes kept
  pub not_longer : (other : ℕ → ℕ) → IsInReachCautiously items other
      → AreNotLonger items shapes other
  pub greatest : HaveNoAlignment items → (other : ℕ → ℕ) → IsInReachExactly start items other
      → AreNotLonger items shapes other
