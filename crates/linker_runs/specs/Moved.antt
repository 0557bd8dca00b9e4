-- The relocations of a packed section: each at the place where its offset goes, with the type of
-- what is there then. So they can be written, and they say what is in the packed section.
use Rattle.linker_runs.specs.Imports.{Aligned, IsTrue, Item, List, LoongArch64, Machine, RiscV}
use Rattle.linker_runs.specs.Imports.{Site, drop, false, is_kept, length, loongarch_name, r_type_of}
use Rattle.linker_runs.specs.Imports.{riscv_name, ℕ}
use Rattle.std.specs.Prelude.{◌≡◌, ◌+◌, ◌*◌, ◌/◌, ◌<◌, ◌≤◌, ◌==◌, ◌||◌, if◌then◌else◌}
use Rattle.linker_elf.specs.declared.loongarch64.relocations.LoongArch64Relocation.TheVariants as loongarch
use Rattle.linker_elf.specs.declared.riscv64.relocations.RiscVRelocation.TheVariants as riscv
use Rattle.linker_runs.specs.Packing.{Section, kept_len, packed_offset}
use Rattle.linker_runs.specs.Relaxing.{end_of, item_at, offset_of}
use Rattle.linker_section.specs.Relocations.{relocation_in}
use Rattle.linker_section.specs.declared.relocations.Rela.{Rela}

-- ---- types

-- What the type of a relocation becomes at a site whose instructions became one of n bytes:
-- that of the one instruction. A relocation of another type has none then.
abbrev pub short_r_type : Machine → ℕ → ℕ → ℕ
short_r_type (RiscV _) kept r_type =
    if r_type == r_type_of (riscv_name riscv.R_RISCV_CALL)
    || r_type == r_type_of (riscv_name riscv.R_RISCV_CALL_PLT)
    then if kept == 2 then r_type_of (riscv_name riscv.R_RISCV_RVC_JUMP)
    else r_type_of (riscv_name riscv.R_RISCV_JAL)
    else 0
short_r_type LoongArch64 kept r_type =
    if r_type == r_type_of (loongarch_name loongarch.R_LARCH_CALL36)
    then r_type_of (loongarch_name loongarch.R_LARCH_B26)
    else if r_type == r_type_of (loongarch_name loongarch.R_LARCH_PCALA_HI20)
    then r_type_of (loongarch_name loongarch.R_LARCH_PCREL20_S2)
    else 0

-- the type of the relocation of an alignment
abbrev pub align_r_type : Machine → ℕ
align_r_type (RiscV _) = r_type_of (riscv_name riscv.R_RISCV_ALIGN)
align_r_type LoongArch64 = r_type_of (loongarch_name loongarch.R_LARCH_ALIGN)

-- What the type of a relocation at the begin of an item becomes of which n bytes stay. At a
-- site that stays whole, or of which the linker has decided, it is as it was. An alignment was made
-- by the packing.
abbrev pub r_type_at_item : Machine → Item → ℕ → ℕ → ℕ
r_type_at_item machine (Site site) kept r_type =
    if site.shapes.count == 0 || kept == site.len then r_type else short_r_type machine kept r_type
r_type_at_item machine (Aligned alignment) kept r_type =
    if r_type == align_r_type machine then 0 else r_type

-- the item has bytes, and the first is at an input offset
abbrev pub BeginsAt : Item → ℕ → Type 0
BeginsAt item p = (offset_of item ≡ p) × (p < end_of item)

-- What the type of a relocation at an input offset becomes. Where the byte is deleted, as that of
-- the second relocation of a site, there is none.
pub data BecomesType (machine : Machine) (s : Section) (items : List Item) (p r_type after : ℕ)
    : Type 0 where
  gone : is_kept s.deletions p ≡ false → after ≡ 0 → BecomesType machine s items p r_type after
  of_item : (i : ℕ) → IsTrue (is_kept s.deletions p) → i < length items
      → BeginsAt (item_at items i) p
      → after ≡ r_type_at_item machine (item_at items i) (kept_len s.deletions (item_at items i))
      r_type
      → BecomesType machine s items p r_type after
  other : IsTrue (is_kept s.deletions p)
      → ((i : ℕ) → i < length items → ¬ BeginsAt (item_at items i) p) → after ≡ r_type
      → BecomesType machine s items p r_type after

-- ---- relocations

-- A relocation goes where its place goes, and keeps its symbol and addend. One after the section's
-- end, where no field is, stays as it is.
pub record IsMoved (machine : Machine) (s : Section) (items : List Item) (before after : Rela)
    : Type 0 where
  pub offset : before.offset ≤ length s.bytes
      → after.offset ≡ packed_offset s (s.base + before.offset)
  pub r_type : before.offset < length s.bytes
      → BecomesType machine s items (s.base + before.offset) before.r_type after.r_type
  pub symbol : after.symbol ≡ before.symbol
  pub addend : after.addend ≡ before.addend
  pub end_r_type : length s.bytes ≤ before.offset → after.r_type ≡ before.r_type
  pub outside : length s.bytes < before.offset → after.offset ≡ before.offset

-- each of them does, and what is after the last whole one stays
pub record AreMoved (machine : Machine) (s : Section) (items : List Item) (before after : List ℕ)
    : Type 0 where
  pub as_many : length after ≡ length before
  pub each : (i : ℕ) → i < length before / 24
      → IsMoved machine s items (relocation_in before i) (relocation_in after i)
  pub rest : drop (length before / 24 * 24) after ≡ drop (length before / 24 * 24) before
