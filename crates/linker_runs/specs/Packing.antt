-- Sections of a relaxed run, packed: the bytes that stay, in order, with the instructions of sites
-- and the nops of alignments written anew.
use Rattle.linker_runs.specs.Imports.{Aligned, Bool, DeletedOutside, IsTrue, Item, ItemError, List}
use Rattle.linker_runs.specs.Imports.{LoongArch64, Machine, NoShape, NotItsFirstBytes}
use Rattle.linker_runs.specs.Imports.{NotItsInstructions, OutOfSection, RiscV, Site, [], drop}
use Rattle.linker_runs.specs.Imports.{false, is_kept, length, rank, slice_index, suc, sum_64, take}
use Rattle.linker_runs.specs.Imports.{zero, ℕ}
use Rattle.std.specs.Prelude.{◌≡◌, ◌≢◌, ◌+◌, ◌-◌, ◌/◌, ◌%◌, ◌<◌, ◌≤◌, ◌∷◌, ◌++◌, ◌==◌}
use Rattle.std.specs.Prelude.{if◌then◌else◌, ◌⊎◌}
use Rattle.linker_runs.specs.declared.relaxation.Site.{Site as site}
use Rattle.linker_runs.specs.Relaxing.{offset_of, end_of, item_at}
use Rattle.linker_runs.specs.RiscVSites.{RiscVBecomes, RiscVAccepts, RiscVCause}
use Rattle.linker_runs.specs.LoongArchSites.{LoongArchBecomes, LoongArchAccepts, LoongArchCause}
use Rattle.linker_runs.specs.declared.packing.ItemError.TheVariants.{Overlaps}
use Rattle.linker_runs.specs.declared.packing.RejectedItem.{RejectedItem}

-- A section of a run.
pub record Section : Type 0 where
  -- its bytes before relaxation
  pub bytes : List ℕ
  -- the input offset at which it begins
  pub base : ℕ
  -- what the run loses
  pub deletions : List (ℕ × ℕ)
  -- the address at which the run begins
  pub start : ℕ

abbrev pub section_of : List ℕ → ℕ → List (ℕ × ℕ) → ℕ → Section
section_of bytes base deletions start =
    record { bytes = bytes; base = base; deletions = deletions; start = start }

-- where an input offset goes in the packed section
abbrev pub packed_offset : Section → ℕ → ℕ
packed_offset s offset = rank s.deletions offset - rank s.deletions s.base

-- the address where an input offset of the run goes, modulo 2 ^ 64
abbrev pub address_of : Section → ℕ → ℕ
address_of s offset = sum_64 s.start (rank s.deletions offset)

-- ---- items

-- how many bytes of an item stay
abbrev pub kept_len : List (ℕ × ℕ) → Item → ℕ
kept_len deletions item = rank deletions (end_of item) - rank deletions (offset_of item)

-- these are its first ones
abbrev pub KeepsFirst : List (ℕ × ℕ) → Item → Type 0
KeepsFirst deletions item = rank deletions (offset_of item + kept_len deletions item)
    ≡ rank deletions (offset_of item) + kept_len deletions item

-- the linker has decided what stays of the item: its site has no short shape
abbrev pub is_fixed : Item → Bool
is_fixed (Site site) = site.shapes.count == 0
is_fixed (Aligned alignment) = false

-- how many bytes are written in place of those that stay
abbrev pub written_len : List (ℕ × ℕ) → Item → ℕ
written_len deletions item = if is_fixed item then 0 else kept_len deletions item

-- the item begins at the end of the one before it, or above
abbrev pub IsApart : List Item → ℕ → Type 0
IsApart items i = 0 < i → end_of (item_at items (i - 1)) ≤ offset_of (item_at items i)

-- it lies in the section
abbrev pub IsInside : Section → Item → Type 0
IsInside s item = (s.base ≤ offset_of item) × (end_of item ≤ s.base + length s.bytes)

-- where the bytes before the item at an index, which are of no item, begin
abbrev pub gap_start : Section → List Item → ℕ → ℕ
gap_start s items zero = s.base
gap_start s items (suc i) = end_of (item_at items i)

-- all bytes from an input offset up to another stay
abbrev pub StayWhole : List (ℕ × ℕ) → ℕ → ℕ → Type 0
StayWhole deletions from to = rank deletions to ≡ rank deletions from + (to - from)

-- those before the item at an index do, and those after the last item
abbrev pub KeepsGap : Section → List Item → ℕ → Type 0
KeepsGap s items i = StayWhole s.deletions (gap_start s items i) (offset_of (item_at items i))

abbrev pub KeepsEnd : Section → List Item → Type 0
KeepsEnd s items =
    StayWhole s.deletions (gap_start s items (length items)) (s.base + length s.bytes)

-- What the section loses is of its items.
pub record LosesItems (s : Section) (items : List Item) : Type 0 where
  pub gaps : (i : ℕ) → i < length items → KeepsGap s items i
  pub end : KeepsEnd s items

-- ---- nops

unfoldable pub repeated : List ℕ → ℕ → List ℕ
repeated word zero = []
repeated word (suc n) = word ++ repeated word n

-- the length of the shortest nop
abbrev pub nop_len : Machine → ℕ
nop_len (RiscV _) = 2
nop_len LoongArch64 = 4

-- n bytes of nops: of RISC-V `nop`, and at most one `c.nop` at the end; of LoongArch
-- `andi zero, zero, 0`
abbrev pub nops : Machine → ℕ → List ℕ
nops (RiscV _) n = repeated (0x13 ∷ 0x00 ∷ 0x00 ∷ 0x00 ∷ []) (n / 4)
    ++ (if n % 4 == 2 then 0x01 ∷ 0x00 ∷ [] else [])
nops LoongArch64 n = repeated (0x00 ∷ 0x00 ∷ 0x40 ∷ 0x03 ∷ []) (n / 4)

-- ---- what is written

-- what a site's instructions become
abbrev pub SiteBecomes : Machine → Section → site → List ℕ → Type 0
SiteBecomes (RiscV isa) s site written = RiscVBecomes (RiscV isa) s.bytes (site.offset - s.base)
    (address_of s site.offset) (address_of s site.target) written
SiteBecomes LoongArch64 s site written = LoongArchBecomes s.bytes (site.offset - s.base)
    (address_of s site.offset) (address_of s site.target) written

abbrev pub ItemBecomes : Machine → Section → Item → List ℕ → Type 0
ItemBecomes machine s (Site site) written = SiteBecomes machine s site written
ItemBecomes machine s (Aligned alignment) written = written ≡ nops machine (length written)

-- the input offset isn't that of a byte in whose place one is written
abbrev pub IsNotIn : List (ℕ × ℕ) → ℕ → Item → Type 0
IsNotIn deletions p item =
    offset_of item ≤ p → offset_of item + written_len deletions item ≤ p

-- The section's bytes that stay, in order, all those of no item among them, but for those of its
-- items that are written anew: there each site's instructions go, from the address where the site
-- goes, to the one where its target goes, or compute that, and each alignment has nops.
pub record IsPackedRun (machine : Machine) (s : Section) (items : List Item) (packed : List ℕ)
    : Type 0 where
  pub len : length packed ≡ packed_offset s (s.base + length s.bytes)
  pub lost : LosesItems s items
  pub kept : (p : ℕ) → p < length s.bytes → IsTrue (is_kept s.deletions (s.base + p))
      → ((i : ℕ) → i < length items → IsNotIn s.deletions (s.base + p) (item_at items i))
      → slice_index packed (packed_offset s (s.base + p)) ≡ slice_index s.bytes p
  pub written : (i : ℕ) → i < length items → is_fixed (item_at items i) ≡ false
      → ItemBecomes machine s (item_at items i)
      (take (kept_len s.deletions (item_at items i))
      (drop (packed_offset s (offset_of (item_at items i))) packed))

-- ---- what is accepted and rejected

-- there are instructions for a site in the section of which n bytes stay
abbrev pub SiteAccepts : Machine → Section → site → ℕ → Type 0
SiteAccepts (RiscV isa) s site kept =
    (site.len ≡ 8) × RiscVAccepts (RiscV isa) s.bytes (site.offset - s.base) kept
    (address_of s site.offset) (address_of s site.target)
SiteAccepts LoongArch64 s site kept =
    (site.len ≡ 8) × LoongArchAccepts s.bytes (site.offset - s.base) kept
    (address_of s site.offset) (address_of s site.target)

-- there is something to write of an item of which n bytes stay: of an alignment whole nops
abbrev pub ItemAccepts : Machine → Section → Item → ℕ → Type 0
ItemAccepts machine s (Site site) kept = SiteAccepts machine s site kept
ItemAccepts machine s (Aligned alignment) kept = kept % nop_len machine ≡ 0

-- an item in the section can be written
pub record IsWritable (machine : Machine) (s : Section) (item : Item) : Type 0 where
  pub keeps : KeepsFirst s.deletions item
  pub accepts : ItemAccepts machine s item (kept_len s.deletions item)

-- the item at an index can be written, or is left as it is
pub record CanWrite (machine : Machine) (s : Section) (items : List Item) (i : ℕ) : Type 0 where
  pub apart : IsApart items i
  pub inside : IsInside s (item_at items i)
  pub gap : KeepsGap s items i
  pub writable : is_fixed (item_at items i) ≡ false → IsWritable machine s (item_at items i)

-- why the instructions at an offset aren't written, of which n bytes stay
abbrev pub CodeCause : Machine → List ℕ → ℕ → ℕ → ℕ → ℕ → ItemError → Type 0
CodeCause (RiscV isa) section o kept place target error =
    RiscVCause (RiscV isa) section o kept place target error
CodeCause LoongArch64 section o kept place target error =
    LoongArchCause section o kept place target error

-- why nothing is written of a site in the section of which n bytes stay
abbrev pub SiteCause : Machine → Section → site → ℕ → ItemError → Type 0
SiteCause machine s site kept NotItsInstructions =
    site.len ≡ 8 → CodeCause machine s.bytes (site.offset - s.base) kept
    (address_of s site.offset) (address_of s site.target) NotItsInstructions
SiteCause machine s site kept error =
    (site.len ≡ 8) × CodeCause machine s.bytes (site.offset - s.base) kept
    (address_of s site.offset) (address_of s site.target) error

abbrev pub ItemCause : Machine → Section → Item → ℕ → ItemError → Type 0
ItemCause machine s (Site site) kept error = SiteCause machine s site kept error
ItemCause machine s (Aligned alignment) kept NoShape = kept % nop_len machine ≢ 0
ItemCause machine s (Aligned alignment) kept error = ⊥

-- why nothing is written of an item in the section
abbrev pub IsUnwritable : Machine → Section → Item → ItemError → Type 0
IsUnwritable machine s item NotItsFirstBytes = ¬ KeepsFirst s.deletions item
IsUnwritable machine s item error = KeepsFirst s.deletions item
    × ItemCause machine s item (kept_len s.deletions item) error

-- why the item at an index isn't written: the first of these that applies
abbrev pub IsCause : Machine → Section → List Item → ℕ → ItemError → Type 0
IsCause machine s items i Overlaps = ¬ IsApart items i
IsCause machine s items i OutOfSection = IsApart items i × ¬ IsInside s (item_at items i)
IsCause machine s items i DeletedOutside =
    IsApart items i × IsInside s (item_at items i) × ¬ KeepsGap s items i
IsCause machine s items i error = IsApart items i × IsInside s (item_at items i)
    × KeepsGap s items i × (is_fixed (item_at items i) ≡ false)
    × IsUnwritable machine s (item_at items i) error

-- an item isn't written, or bytes after the last one don't stay
abbrev pub IsRejectedAt : Machine → Section → List Item → RejectedItem → Type 0
IsRejectedAt machine s items rejected = ((rejected.index < length items)
    × IsCause machine s items rejected.index rejected.error)
    ⊎ ((rejected.index ≡ length items) × (rejected.error ≡ DeletedOutside) × ¬ KeepsEnd s items)

-- the item at the index is the first that can't be written, for this cause
pub record IsFirstRejected (machine : Machine) (s : Section) (items : List Item)
    (rejected : RejectedItem) : Type 0 where
  pub before : (i : ℕ) → i < rejected.index → CanWrite machine s items i
  pub here : IsRejectedAt machine s items rejected
