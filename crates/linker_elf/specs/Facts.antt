-- What a relocation requires of a linker before addresses are known, and how its value is found, by
-- its row's kind and size. `linker_section` proves of each row that its facts say what `Needed` and
-- `Values` there do.
use Rattle.linker_elf.specs.Imports.{AArch64, BType, Bcond, BitMasking, ByteSize, CbType, CjType}
use Rattle.linker_elf.specs.Imports.{CluiType, IType, JType, LoongArch64, Ppc64, Prefixed}
use Rattle.linker_elf.specs.Imports.{RelocationKind, RiscV, RowSize, SType, TstBr, UType}
use Rattle.std.specs.Prelude.{Bool, false, nat_lt, true, ◌==◌, ◌&&◌, ◌||◌, if◌then◌else◌}
use Rattle.linker_elf.specs.Entries.{is_branch}
use Rattle.linker_elf.specs.Value.{names_got_entry, names_plt_entry}
use Rattle.linker_elf.specs.declared.elf.RelocationKind.TheVariants as kinds
use Rattle.linker_elf.specs.declared.elf.RowInfo.{RowInfo}
use Rattle.linker_elf.specs.declared.elf.facts.EntryUse.{EntryUse}
use Rattle.linker_elf.specs.declared.elf.facts.EntryUse.TheVariants as entries
use Rattle.linker_elf.specs.declared.elf.facts.Length.{Length}
use Rattle.linker_elf.specs.declared.elf.facts.Length.TheVariants as lengths
use Rattle.linker_elf.specs.declared.elf.facts.RowFacts.{RowFacts}
use Rattle.linker_elf.specs.declared.elf.facts.Way.{Way}
use Rattle.linker_elf.specs.declared.elf.facts.Way.TheVariants as ways

-- the entry whose address a formula names
abbrev pub class_of : RelocationKind → EntryUse
class_of kinds.GotTpOff = entries.ThreadOffset
class_of kinds.GotTpOffGot = entries.ThreadOffset
class_of kinds.GotTpOffGotBase = entries.ThreadOffset
class_of kinds.GotTpOffLoongArch64 = entries.ThreadOffset
class_of kinds.TlsGd = entries.ModuleOffset
class_of kinds.TlsGdGot = entries.ModuleOffset
class_of kinds.TlsGdGotBase = entries.ModuleOffset
class_of kinds.TlsLd = entries.Module
class_of kinds.TlsLdGot = entries.Module
class_of kinds.TlsLdGotBase = entries.Module
class_of kinds.TlsDesc = entries.Descriptor
class_of kinds.TlsDescGot = entries.Descriptor
class_of kinds.TlsDescGotBase = entries.Descriptor
class_of kinds.TlsDescLoongArch64 = entries.Descriptor
class_of kind = if names_got_entry kind then entries.Address else entries.Without

-- LoongArch's low half of an address, or of two words for TLS
abbrev pub low_half : EntryUse → EntryUse
low_half entries.Address = entries.LowHalf
low_half entry = entry

abbrev pub entry_of : RowSize → RelocationKind → EntryUse
entry_of (BitMasking bits (RiscV IType)) kind = entries.Without
entry_of (BitMasking bits (RiscV SType)) kind = entries.Without
entry_of (BitMasking bits (Ppc64 insn)) kind =
    if names_plt_entry kind then entries.Address else class_of kind
entry_of (BitMasking bits (LoongArch64 insn)) kind = low_half (class_of kind)
entry_of size kind = class_of kind

-- the module's entry has no addend
abbrev pub may_have_addend : EntryUse → Bool
may_have_addend entries.Without = false
may_have_addend entries.Module = false
may_have_addend entry = true

abbrev pub has_addend : RowSize → RelocationKind → Bool
has_addend (BitMasking bits (Ppc64 insn)) kind =
    may_have_addend (entry_of (BitMasking bits (Ppc64 insn)) kind)
has_addend (BitMasking bits (AArch64 insn)) kind = may_have_addend (class_of kind)
has_addend size kind = false

-- branches that go to the output's own definition
abbrev pub is_bound : RowSize → Bool
is_bound (BitMasking bits (AArch64 TstBr)) = true
is_bound (BitMasking bits (AArch64 Bcond)) = true
is_bound (BitMasking bits (RiscV BType)) = true
is_bound (BitMasking bits (RiscV JType)) = true
is_bound (BitMasking bits (RiscV CbType)) = true
is_bound (BitMasking bits (RiscV CjType)) = true
is_bound size = false

-- formulas with L, which isn't the word that PowerPC64's calls load
abbrev pub has_plt : RowSize → RelocationKind → Bool
has_plt (BitMasking bits (Ppc64 insn)) kind = false
has_plt size kind = names_plt_entry kind

abbrev pub is_word : RowSize → RelocationKind → Bool
is_word (ByteSize n) kinds.Absolute = n == 8
is_word size kind = false

-- addresses, of which bits from 12 up are written
abbrev pub is_address : RelocationKind → Bool
is_address kinds.Absolute = true
is_address kinds.AbsoluteLowPart = true
is_address kinds.Got = true
is_address kinds.TlsGdGot = true
is_address kinds.TlsLdGot = true
is_address kinds.GotTpOffGot = true
is_address kinds.TlsDescGot = true
is_address kind = false

abbrev pub has_page : RowSize → Bool
has_page (ByteSize n) = true
has_page (BitMasking bits (RiscV IType)) = false
has_page (BitMasking bits (RiscV SType)) = false
has_page (BitMasking bits insn) = nat_lt 12 bits.end

abbrev pub way_of : RowSize → RelocationKind → Way
way_of size kinds.RelativeRiscVLow12 = ways.Low
way_of (ByteSize n) kinds.PairSubtractionULEB128RiscV = ways.Other
way_of (ByteSize n) kinds.PairSubtractionULEB128LoongArch = ways.Other
way_of size kinds.TpOff = ways.Other
way_of size kinds.DtpOff = ways.ModuleOffset
way_of (ByteSize n) kind = if n == 0 then ways.Other else ways.Plain
way_of (BitMasking bits (RiscV IType)) kinds.TlsDesc = ways.Other
way_of (BitMasking bits (Ppc64 insn)) kinds.PltRelGotBase = ways.Other
way_of (BitMasking bits (Ppc64 insn)) kinds.PltRelative = ways.Other
way_of (BitMasking bits (RiscV UType)) kinds.Relative = ways.High
way_of (BitMasking bits (RiscV UType)) kinds.GotRelative = ways.High
way_of (BitMasking bits (RiscV UType)) kinds.GotTpOff = ways.High
way_of (BitMasking bits (RiscV UType)) kinds.TlsGd = ways.High
way_of size kind = ways.Plain

-- how long its instruction is
abbrev pub length_of : RowSize → Length
length_of (BitMasking bits (RiscV CbType)) = lengths.Two
length_of (BitMasking bits (RiscV CjType)) = lengths.Two
length_of (BitMasking bits (RiscV CluiType)) = lengths.Two
length_of (BitMasking bits (RiscV insn)) = lengths.Four
length_of (BitMasking bits (Ppc64 Prefixed)) = lengths.Prefixed
length_of size = lengths.Any

abbrev pub facts_of : RowInfo → RowFacts
facts_of row =
    record {
      entry = entry_of row.size row.kind;
      entry_has_addend = has_addend row.size row.kind;
      is_branch = is_branch row.size;
      may_use_stub = is_branch row.size || has_plt row.size row.kind;
      stub_only_if_undefined = is_bound row.size;
      is_word = is_word row.size row.kind;
      depends_on_load = is_address row.kind && has_page row.size;
      way = way_of row.size row.kind;
      length = length_of row.size;
    }
