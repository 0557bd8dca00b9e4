-- What a relocation requires of a linker before addresses are known (the psABIs' sections on
-- relocations and on thread-local storage, as `linker_elf` names them in `Value`).
use Rattle.std.specs.Prelude.{ℤ, pos, Bool, true, false, not, ◌&&◌, ◌||◌, ◌==◌, nat_lt}
use Rattle.std.specs.Prelude.{Option, Some, None, if◌then◌else◌}
use Rattle.linker_section.specs.Imports.{AArch64, Address, BType, BitMasking, ByteSize, CbType}
use Rattle.linker_section.specs.Imports.{CjType, Descriptor, Entry, EntryClass, IType, JType}
use Rattle.linker_section.specs.Imports.{LoongArch64, Module, ModuleOffset, Ppc64, RelocationKind}
use Rattle.linker_section.specs.Imports.{Requirements, RiscV, RowInfo, RowSize, SType, ThreadOffset}
use Rattle.linker_section.specs.Imports.{is_branch, loads_plt_word, names_plt_entry}
use Rattle.linker_elf.specs.declared.elf.RelocationKind.TheVariants as kinds
use Rattle.linker_elf.specs.declared.aarch64.forms.AArch64Instruction.TheVariants.{TstBr, Bcond}

-- ---- the entry of the GOT

-- what the entry holds whose address a formula names
abbrev pub class_of_kind : RelocationKind → Option EntryClass
class_of_kind kinds.GotRelative = Some Address
class_of_kind kinds.GotRelativeLoongArch64 = Some Address
class_of_kind kinds.GotRelGotBase = Some Address
class_of_kind kinds.Got = Some Address
class_of_kind kinds.GotTpOff = Some ThreadOffset
class_of_kind kinds.GotTpOffGot = Some ThreadOffset
class_of_kind kinds.GotTpOffGotBase = Some ThreadOffset
class_of_kind kinds.GotTpOffLoongArch64 = Some ThreadOffset
class_of_kind kinds.TlsGd = Some ModuleOffset
class_of_kind kinds.TlsGdGot = Some ModuleOffset
class_of_kind kinds.TlsGdGotBase = Some ModuleOffset
class_of_kind kinds.TlsLd = Some Module
class_of_kind kinds.TlsLdGot = Some Module
class_of_kind kinds.TlsLdGotBase = Some Module
class_of_kind kinds.TlsDesc = Some Descriptor
class_of_kind kinds.TlsDescGot = Some Descriptor
class_of_kind kinds.TlsDescGotBase = Some Descriptor
class_of_kind kinds.TlsDescLoongArch64 = Some Descriptor
class_of_kind kind = None

-- LoongArch's low halves of an address in the GOT are also those of an entry of general-dynamic or
-- local-dynamic TLS (LoongArch ELF psABI, "Relocation Types")
abbrev pub loongarch_class : Option EntryClass → Bool → Option EntryClass
loongarch_class (Some Address) true = Some ModuleOffset
loongarch_class class is_thread_local = class

-- RISC-V's low parts take the entry of the high part that their symbol labels
abbrev pub class_in : RowSize → RelocationKind → Bool → Option EntryClass
class_in (BitMasking bits (RiscV IType)) kind is_thread_local = None
class_in (BitMasking bits (RiscV SType)) kind is_thread_local = None
class_in (BitMasking bits (LoongArch64 insn)) kind is_thread_local =
    loongarch_class (class_of_kind kind) is_thread_local
class_in size kind is_thread_local = class_of_kind kind

abbrev pub class_of : RowSize → RelocationKind → Bool → Option EntryClass
class_of size kind is_thread_local =
    if loads_plt_word size kind then Some Address else class_in size kind is_thread_local

-- the entry is of S + A in the instructions of AArch64 and PowerPC64, else of S; that of the module
-- is of no symbol
abbrev pub addend_in : RowSize → ℤ → ℤ
addend_in (BitMasking bits (AArch64 insn)) addend = addend
addend_in (BitMasking bits (Ppc64 insn)) addend = addend
addend_in size addend = pos 0

abbrev pub addend_of_entry : RowSize → EntryClass → ℤ → ℤ
addend_of_entry size Module addend = pos 0
addend_of_entry size class addend = addend_in size addend

abbrev pub entry_with : RowSize → ℤ → Option EntryClass → Option Entry
entry_with size addend None = None
entry_with size addend (Some class) =
    Some (record { class = class; addend = addend_of_entry size class addend })

abbrev pub entry_of : RowInfo → ℤ → Bool → Option Entry
entry_of row addend is_thread_local =
    entry_with row.size addend (class_of row.size row.kind is_thread_local)

-- ---- branches and words

abbrev pub may_use_stub : RowSize → RelocationKind → Bool
may_use_stub size kind =
    is_branch size || (names_plt_entry kind && not (loads_plt_word size kind))

-- Branches that go to the output's own definition, also where another file may replace it, as GNU
-- ld and mold have it: those of AArch64 for which its psABI has no veneer (ELF for the Arm 64-bit
-- Architecture, "Call and Jump relocations"), and those of RISC-V whose formula has no L.
abbrev pub is_bound : RowSize → Bool
is_bound (BitMasking bits (AArch64 TstBr)) = true
is_bound (BitMasking bits (AArch64 Bcond)) = true
is_bound (BitMasking bits (RiscV BType)) = true
is_bound (BitMasking bits (RiscV JType)) = true
is_bound (BitMasking bits (RiscV CbType)) = true
is_bound (BitMasking bits (RiscV CjType)) = true
is_bound size = false

-- S + A in 8 bytes
abbrev pub is_word : RowSize → RelocationKind → Bool
is_word (ByteSize n) kinds.Absolute = n == 8
is_word size kind = false

-- ---- the load address

-- the value is an address: it isn't relative to another address
abbrev pub is_address : RelocationKind → Bool
is_address kinds.Absolute = true
is_address kinds.AbsoluteLowPart = true
is_address kinds.Got = true
is_address kinds.TlsGdGot = true
is_address kinds.TlsLdGot = true
is_address kinds.GotTpOffGot = true
is_address kinds.TlsDescGot = true
is_address kind = false

-- bits from 12 up are written, those of the page; RISC-V's low parts write bits below 12
abbrev pub takes_page : RowSize → Bool
takes_page (ByteSize n) = true
takes_page (BitMasking bits (RiscV IType)) = false
takes_page (BitMasking bits (RiscV SType)) = false
takes_page (BitMasking bits insn) = nat_lt 12 bits.end

-- ---- all

abbrev pub needs_of : RowInfo → ℤ → Bool → Requirements
needs_of row addend is_thread_local =
    record {
      entry = entry_of row addend is_thread_local;
      is_branch = is_branch row.size;
      may_use_stub = may_use_stub row.size row.kind;
      stub_only_if_undefined = is_bound row.size;
      is_word = is_word row.size row.kind;
      depends_on_load = is_address row.kind && takes_page row.size;
    }

abbrev pub needs_in : Option RowInfo → ℤ → Bool → Option Requirements
needs_in None addend is_thread_local = None
needs_in (Some row) addend is_thread_local = Some (needs_of row addend is_thread_local)
