-- What the facts of a row say: what the relocation requires, and how its value is found.
use Rattle.std.specs.Prelude.{◌≡◌, ℕ, ℤ, pos, ◌/◌, ◌%◌, ◌^◌, ◌==◌, ◌&&◌, ◌||◌, not, nat_lt}
use Rattle.std.specs.Prelude.{if◌then◌else◌, Bool, true, false, List, Option, Some, None}
use Rattle.linker_section.specs.Imports.{Address, Addresses, Architecture, Descriptor, Entry}
use Rattle.linker_section.specs.Imports.{EntryClass, Length, Module, ModuleOffset, Operands}
use Rattle.linker_section.specs.Imports.{Requirements, RowInfo, ThreadOffset, cast_signed}
use Rattle.linker_section.specs.Imports.{cast_unsigned, difference_64, is_branch, is_offset}
use Rattle.linker_section.specs.Imports.{loads_plt_word, sum_64, value_of, w64, window_len}
use Rattle.linker_elf.specs.Facts.{facts_of, way_of}
use Rattle.linker_elf.specs.declared.elf.RelocationKind.TheVariants as kinds
use Rattle.linker_elf.specs.declared.elf.facts.EntryUse.{EntryUse}
use Rattle.linker_elf.specs.declared.elf.facts.EntryUse.TheVariants as entries
use Rattle.linker_elf.specs.declared.elf.facts.Length.TheVariants as lengths
use Rattle.linker_elf.specs.declared.elf.facts.RowFacts.{RowFacts}
use Rattle.linker_elf.specs.declared.elf.facts.Way.{Way}
use Rattle.linker_elf.specs.declared.elf.facts.Way.TheVariants as ways
use Rattle.linker_section.specs.Conditions.{shows_length, is_tp_off}
use Rattle.linker_section.specs.Fields.{is_of_pair}
use Rattle.linker_section.specs.Needed.{needs_of}
use Rattle.linker_section.specs.Values.{has_value, names_label, is_ppc64_branch}
use Rattle.linker_section.specs.Values.{origin_of, is_high_part, low_operands}
use Rattle.linker_elf.specs.declared.elf.architecture.Architecture.TheVariants as architectures

-- the class of an entry; LoongArch's low half is of an address or of two words for TLS
abbrev pub class_by : Bool → EntryUse → Option EntryClass
class_by is_thread_local entries.Without = None
class_by is_thread_local entries.Address = Some Address
class_by is_thread_local entries.ThreadOffset = Some ThreadOffset
class_by is_thread_local entries.ModuleOffset = Some ModuleOffset
class_by is_thread_local entries.Module = Some Module
class_by is_thread_local entries.Descriptor = Some Descriptor
class_by is_thread_local entries.LowHalf =
    if is_thread_local then Some ModuleOffset else Some Address

abbrev pub entry_by : RowFacts → ℤ → Option EntryClass → Option Entry
entry_by facts addend None = None
entry_by facts addend (Some class) =
    Some (record { class = class; addend = if facts.entry_has_addend then addend else pos 0 })

abbrev pub requirements_by : RowFacts → ℤ → Bool → Requirements
requirements_by facts addend is_thread_local =
    record {
      entry = entry_by facts addend (class_by is_thread_local facts.entry);
      is_branch = facts.is_branch;
      may_use_stub = facts.may_use_stub;
      stub_only_if_undefined = facts.stub_only_if_undefined;
      is_word = facts.is_word;
      depends_on_load = facts.depends_on_load;
    }

-- a row's facts say what it requires
abbrev pub SaysNeeds : RowInfo → Type 0
SaysNeeds row =
    (addend : ℤ) (is_thread_local : Bool)
    → requirements_by (facts_of row) addend is_thread_local ≡ needs_of row addend is_thread_local

-- ---- ways to a value

-- two are equal where a test holds
abbrev pub When : {A : Type 0} → Bool → A → A → Type 0
When test x y = (if test then x else y) ≡ y

abbrev pub is_plain_way : Way → Bool
is_plain_way ways.Plain = true
is_plain_way ways.ModuleOffset = true
is_plain_way ways.High = true
is_plain_way way = false

abbrev pub is_offset_way : Way → Bool
is_offset_way ways.ModuleOffset = true
is_offset_way way = false

abbrev pub is_high_way : Way → Bool
is_high_way ways.High = true
is_high_way way = false

abbrev pub is_low_way : Way → Bool
is_low_way ways.Low = true
is_low_way way = false

abbrev pub is_plain : RowInfo → Bool
is_plain row = is_plain_way (way_of row.size row.kind)

abbrev pub is_high : RowInfo → Bool
is_high row = is_high_way (way_of row.size row.kind)

abbrev pub is_low : RowInfo → Bool
is_low row = is_low_way (way_of row.size row.kind)

abbrev pub is_quick : RowInfo → Bool
is_quick row = is_plain row || is_low row

abbrev pub is_ppc64 : Architecture → Bool
is_ppc64 architectures.Ppc64 = true
is_ppc64 architecture = false

-- the value of a low part of RISC-V, by the operands that it takes
abbrev pub low_result : Operands → Option ℤ
low_result o =
    Some (cast_signed w64
    (difference_64 (sum_64 (sum_64 o.symbol (cast_unsigned w64 o.addend)) 0) o.place))

-- the instructions of an architecture have several lengths, which their bits show
abbrev pub shows_lengths : Architecture → Bool
shows_lengths architectures.RiscV = true
shows_lengths architectures.Ppc64 = true
shows_lengths architecture = false

-- a word of 8 bytes begins with an instruction of a length
abbrev pub word_shows : Length → ℕ → Bool
word_shows lengths.Any word = true
word_shows lengths.Two word = not (word % 4 == 3)
word_shows lengths.Four word = word % 4 == 3
word_shows lengths.Prefixed word = word / 2 ^ 26 % 64 == 1

-- the facts of an architecture's row say whether it is a branch of PowerPC64
abbrev pub SaysBranch : Architecture → RowInfo → Type 0
SaysBranch architecture row =
    is_ppc64_branch row.size ≡ (is_ppc64 architecture && is_branch row.size)

-- what the way says of a row
pub record SaysWay (architecture : Architecture) (row : RowInfo) : Type 0 where
  -- it has a value and a field, and is of no pair
  pub has_value : When (is_quick row) (has_value row.kind) true
  pub single : When (is_quick row) (is_of_pair row) false
  pub some : When (is_quick row) (nat_lt 0 (window_len row)) true
  pub narrow : nat_lt (window_len row) 11 ≡ true
  pub shown : shows_lengths architecture ≡ false → (there : List ℕ)
      → shows_length row.size there ≡ true
  -- which isn't an offset from the thread pointer, and is one in a TLS block only by its way
  pub unthreaded : When (is_quick row) (is_tp_off row.kind) false
  pub offset : When (is_quick row) (is_offset row.kind) (is_offset_way (way_of row.size row.kind))
  -- of a plain one the operands are those that most have
  pub unlabelled : When (is_plain row) (names_label row.size row.kind) false
  pub loads_none : When (is_plain row) (loads_plt_word row.size row.kind) false
  pub branch : When (is_plain row) (is_ppc64_branch row.size)
      (is_ppc64 architecture && is_branch row.size)
  pub origin : (addresses : Addresses)
      → When (is_plain row) (origin_of addresses row.kind) addresses.module_origin
  -- a low part has the value of a high part
  pub high : When (is_high row) (is_high_part kinds.RelativeRiscVLow12 (Some row)) true
  pub high_value : (o : Operands)
      → When (is_high row) (low_result (low_operands row o)) (value_of row o)
  pub labelled : When (is_low row) row.kind kinds.RelativeRiscVLow12
  pub low_value : (o : Operands) → When (is_low row) (value_of row o) (low_result o)
