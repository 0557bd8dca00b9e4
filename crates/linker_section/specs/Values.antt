-- The operands of a relocation's formula, from what a linker knows of symbols and of the output.
use Rattle.std.specs.Prelude.{◌≡◌, ◌≢◌, ◌⊎◌, ℕ, ℤ, pos, ◌/◌, ◌^◌, ◌<◌, ◌≤◌, Bool, true, false}
use Rattle.std.specs.Prelude.{◌&&◌, ◌||◌, ◌==◌, not, nat_lt, List, length, Option}
use Rattle.std.specs.Prelude.{Some, None, if◌then◌else◌, slice_get, Result, Ok, Err, is_some}
use Rattle.linker_section.specs.Imports.{Address, Addresses, Architecture, BitMasking, Descriptor}
use Rattle.linker_section.specs.Imports.{Entry, EntryClass, IsRow, Module, ModuleOffset, NoEntry}
use Rattle.linker_section.specs.Imports.{NoHighPart, NoSymbol, NoTlsBase, Operands, Ppc64, Rela}
use Rattle.linker_section.specs.Imports.{RelocationKind, RiscV, RowInfo, RowSize, Symbol}
use Rattle.linker_section.specs.Imports.{ThreadOffset, UType, UnknownType, ValueError}
use Rattle.linker_section.specs.Imports.{difference_64, int_eq, is_branch, is_of_high_part}
use Rattle.linker_section.specs.Imports.{is_offset, loads_plt_word, sum_64, value_of}
use Rattle.linker_elf.specs.declared.elf.RelocationKind.TheVariants as kinds
use Rattle.linker_section.specs.Needed.{class_of_kind, entry_of, may_use_stub}
use Rattle.linker_section.specs.Relocations.{relocation_in, relocation_at}
use Rattle.linker_elf.specs.declared.elf.architecture.Architecture.TheVariants as architectures

-- ---- the entry of the GOT

-- the address of a symbol's entry; 0 for none
abbrev pub entry_in : Addresses → Symbol → EntryClass → ℕ
entry_in addresses symbol Address = symbol.address_entry
entry_in addresses symbol ThreadOffset = symbol.thread_entry
entry_in addresses symbol ModuleOffset = symbol.module_entry
entry_in addresses symbol Module = addresses.module_entry
entry_in addresses symbol Descriptor = symbol.descriptor

-- the entry has the required addend; that of the module has none
abbrev pub has_addend : Symbol → EntryClass → ℤ → Bool
has_addend symbol Module addend = true
has_addend symbol class addend = int_eq symbol.entry_addend addend

abbrev pub is_there : Addresses → Symbol → Entry → Bool
is_there addresses symbol entry =
    not (entry_in addresses symbol entry.class == 0) && has_addend symbol entry.class entry.addend

-- the address of the entry that a relocation requires: 0 where it requires none, and none where it
-- requires one that there isn't
abbrev pub entry_address : Addresses → Symbol → Option Entry → Option ℕ
entry_address addresses symbol None = Some 0
entry_address addresses symbol (Some entry) =
    if is_there addresses symbol entry then Some (entry_in addresses symbol entry.class) else None

-- ---- the target

-- The formulas of x86-64's `R_X86_64_GOTPC32` and `R_X86_64_GOTPC64` have the GOT's address,
-- whatever the symbol is (x86-64 psABI, "Relocation Types").
abbrev pub is_of_got : Architecture → ℕ → Bool
is_of_got architectures.X86_64 r_type = r_type == 26 || r_type == 29
is_of_got architecture r_type = false

-- The local entry point of a function after its global one: bits 5 to 7 of `st_other` say the
-- logarithm of the distance, from 4 bytes on (64-Bit ELF V2 ABI, "Symbol Values").
abbrev pub local_entry : ℕ → ℕ
local_entry other = if nat_lt (other / 32) 2 then 0 else 2 ^ (other / 32)

abbrev pub is_ppc64_branch : RowSize → Bool
is_ppc64_branch (BitMasking bits (Ppc64 insn)) = is_branch (BitMasking bits (Ppc64 insn))
is_ppc64_branch size = false

-- a symbol's address, and where PowerPC64's branches go: to the local entry point
abbrev pub address_of : RowInfo → Symbol → ℕ
address_of row symbol =
    if is_ppc64_branch row.size then sum_64 symbol.address (local_entry symbol.other)
    else symbol.address

-- relative to the place
abbrev pub is_relative : RelocationKind → Bool
is_relative kinds.Relative = true
is_relative kinds.PltRelative = true
is_relative kind = false

-- What an undefined weak symbol counts for. AArch64's branches go to the next instruction, and what
-- else is relative to the place is 0 (ELF for the Arm 64-bit Architecture, "Weak References").
-- Branches of RISC-V and PowerPC64 go to themselves, as linkers make them: their psABIs say
-- nothing. Elsewhere its address is 0.
abbrev pub weak_address : Architecture → RowInfo → ℕ → ℕ
weak_address architectures.AArch64 row place =
    if is_branch row.size then sum_64 place 4 else (if is_relative row.kind then place else 0)
weak_address architectures.RiscV row place =
    if may_use_stub row.size row.kind then place else 0
weak_address architectures.Ppc64 row place = if is_branch row.size then place else 0
weak_address architecture row place = 0

-- what offsets of thread-local symbols count from
abbrev pub origin_of : Addresses → RelocationKind → ℕ
origin_of addresses kinds.TpOff = addresses.thread_origin
origin_of addresses kind = addresses.module_origin

-- S; the offset of an undefined weak thread-local symbol is 0
abbrev pub defined_or_weak : Architecture → Addresses → RowInfo → Symbol → ℕ → ℕ
defined_or_weak architecture addresses row symbol place =
    if symbol.is_undefined_weak then
    (if is_offset row.kind then origin_of addresses row.kind
    else weak_address architecture row place)
    else address_of row symbol

-- S, or the stub by which a branch goes
abbrev pub target_of : Architecture → Addresses → RowInfo → Symbol → ℕ → ℕ
target_of architecture addresses row symbol place =
    if may_use_stub row.size row.kind && not (symbol.stub == 0) then symbol.stub
    else defined_or_weak architecture addresses row symbol place

-- ---- all operands

abbrev pub operands_with : Architecture → Addresses → RowInfo → Symbol → Rela → ℕ
    → Operands
operands_with architecture addresses row symbol r entry =
    let place : ℕ = sum_64 addresses.section r.offset
    in let target : ℕ = target_of architecture addresses row symbol place
    in let loads : Bool = loads_plt_word row.size row.kind
    in record {
      symbol = if is_of_got architecture r.r_type then addresses.got_base else target;
      addend = if loads then pos 0 else r.addend;
      place = place;
      got_entry = entry;
      got_base = addresses.got_base;
      plt_entry = if loads then entry else target;
      symbol_size = symbol.size;
      tls_base = origin_of addresses row.kind;
      has_got_entry = true;
      has_plt_entry = true;
      has_tls_base = addresses.has_tls;
    }

-- what the formula of a relocation with a row takes, or why there is nothing to take
abbrev pub operands_by : Architecture → Addresses → RowInfo → Rela → Symbol → Option ℕ
    → Result Operands ValueError
operands_by architecture addresses row r symbol None = Err NoEntry
operands_by architecture addresses row r symbol (Some entry) =
    Ok (operands_with architecture addresses row symbol r entry)

abbrev pub operands_in : Architecture → Addresses → RowInfo → Rela → Option Symbol
    → Result Operands ValueError
operands_in architecture addresses row r None = Err NoSymbol
operands_in architecture addresses row r (Some symbol) =
    operands_by architecture addresses row r symbol
    (entry_address addresses symbol (entry_of row r.addend symbol.is_thread_local))

abbrev pub operands_of : Architecture → Addresses → List Symbol → RowInfo → Rela
    → Result Operands ValueError
operands_of architecture addresses symbols row r =
    operands_in architecture addresses row r (slice_get symbols r.symbol)

-- ---- values of relocations that stand alone

abbrev pub has_value : RelocationKind → Bool
has_value kinds.None = false
has_value kinds.Alignment = false
has_value kinds.TlsDescCall = false
has_value kind = true

abbrev pub is_defined : Option Symbol → Bool
is_defined None = false
is_defined (Some symbol) = not symbol.is_undefined_weak

-- The formula counts from an origin, and the output has no TLS segment. The offset of an undefined
-- weak symbol is 0 also then.
abbrev pub lacks_origin : Addresses → List Symbol → RowInfo → Rela → Bool
lacks_origin addresses symbols row r =
    is_offset row.kind && (not addresses.has_tls && is_defined (slice_get symbols r.symbol))

abbrev pub value_by : Bool → RowInfo → Result Operands ValueError
    → Result (Option ℤ) ValueError
value_by lacks row (Err error) = Err error
value_by true row (Ok operands) = Err NoTlsBase
value_by false row (Ok operands) = Ok (value_of row operands)

-- the value by the psABI's formula, and none of a relocation without one, whatever its symbol
abbrev pub own_value : Architecture → Addresses → List Symbol → RowInfo → Rela
    → Result (Option ℤ) ValueError
own_value architecture addresses symbols row r =
    if has_value row.kind then
    value_by (lacks_origin addresses symbols row r) row
    (operands_of architecture addresses symbols row r)
    else Ok None

-- ---- values of RISC-V's low parts

-- The symbol labels a high part (RISC-V ELF psABI, "PC-Relative Symbol Addresses" and "TLS
-- Descriptors").
abbrev pub names_label : RowSize → RelocationKind → Bool
names_label size kinds.RelativeRiscVLow12 = true
names_label size kinds.TlsDesc = is_of_high_part size
names_label size kind = false

-- an `auipc` of the kinds that low parts of a kind are of
abbrev pub is_auipc : RowSize → Bool
is_auipc (BitMasking bits (RiscV UType)) = true
is_auipc size = false

abbrev pub is_high_kind : RelocationKind → RelocationKind → Bool
is_high_kind kinds.TlsDesc kinds.TlsDesc = true
is_high_kind kinds.TlsDesc kind = false
is_high_kind low kinds.Relative = true
is_high_kind low kinds.GotRelative = true
is_high_kind low kinds.GotTpOff = true
is_high_kind low kinds.TlsGd = true
is_high_kind low kind = false

abbrev pub is_high_part : RelocationKind → Option RowInfo → Bool
is_high_part low None = false
is_high_part low (Some row) = is_auipc row.size && is_high_kind low row.kind

-- the offset of the relocation at an index, which there is
abbrev pub offset_at : List ℕ → ℕ → ℕ
offset_at bytes i = (relocation_in bytes i).offset

abbrev pub IsAscending : List ℕ → Type 0
IsAscending bytes =
    (i j : ℕ) → i ≤ j → j < length bytes / 24 → offset_at bytes i ≤ offset_at bytes j

-- a relocation that is a high part of low parts of a kind
pub record IsHighPart (architecture : Architecture) (bytes : List ℕ) (low : RelocationKind) (at : ℕ)
    (r : Rela) (row : RowInfo) : Type 0 where
  pub index : ℕ
  pub is_there : relocation_at bytes index ≡ Some r
  pub offset_is : r.offset ≡ at
  pub row_is : IsRow architecture r.r_type (Some row)
  pub is_high : is_high_part low (Some row) ≡ true

-- a relocation that is no high part at an offset
abbrev pub IsNoHighPart : Architecture → RelocationKind → ℕ → Rela → Type 0
IsNoHighPart architecture low at r =
    (r.offset ≢ at)
    ⊎ ((row : Option RowInfo) × IsRow architecture r.r_type row
    × (is_high_part low row ≡ false))

-- the high part at an offset, or none of the relocations is
abbrev pub IsHighPartAt : Architecture → List ℕ → RelocationKind → ℕ
    → Option (Rela × RowInfo) → Type 0
IsHighPartAt architecture bytes low at (Some found) =
    IsHighPart architecture bytes low at (found.0) (found.1)
IsHighPartAt architecture bytes low at None =
    (i : ℕ) (r : Rela) → relocation_at bytes i ≡ Some r → IsNoHighPart architecture low at r

-- A low part takes the operands of its high part, and where that requires an entry of the GOT, the
-- entry's address in place of S.
abbrev pub low_operands : RowInfo → Operands → Operands
low_operands high operands =
    if is_some (class_of_kind high.kind) then record operands { symbol = operands.got_entry }
    else operands

abbrev pub low_by : RowInfo → RowInfo → Result Operands ValueError
    → Result (Option ℤ) ValueError
low_by row high (Ok operands) = Ok (value_of row (low_operands high operands))
low_by row high (Err error) = Err error

abbrev pub low_value : Architecture → Addresses → List Symbol → RowInfo
    → Option (Rela × RowInfo) → Result (Option ℤ) ValueError
low_value architecture addresses symbols row None = Err NoHighPart
low_value architecture addresses symbols row (Some high) =
    low_by row (high.1) (operands_of architecture addresses symbols (high.1) (high.0))

abbrev pub IsLowValue : Architecture → Addresses → List ℕ → List Symbol → RowInfo
    → Option Symbol → Result (Option ℤ) ValueError → Type 0
IsLowValue architecture addresses bytes symbols row None result = result ≡ Err NoSymbol
IsLowValue architecture addresses bytes symbols row (Some label) result =
    (high : Option (Rela × RowInfo))
    × IsHighPartAt architecture bytes row.kind (difference_64 label.address addresses.section) high
    × (result ≡ low_value architecture addresses symbols row high)

-- ---- all values

abbrev pub IsValueBy : Bool → Architecture → Addresses → List ℕ → List Symbol → RowInfo
    → Rela → Result (Option ℤ) ValueError → Type 0
IsValueBy true architecture addresses bytes symbols row r result =
    IsLowValue architecture addresses bytes symbols row (slice_get symbols r.symbol) result
IsValueBy false architecture addresses bytes symbols row r result =
    result ≡ own_value architecture addresses symbols row r

abbrev pub IsValueIn : Architecture → Addresses → List ℕ → List Symbol → Rela
    → Option RowInfo → Result (Option ℤ) ValueError → Type 0
IsValueIn architecture addresses bytes symbols r None result = result ≡ Err UnknownType
IsValueIn architecture addresses bytes symbols r (Some row) result =
    IsValueBy (names_label row.size row.kind) architecture addresses bytes symbols row r result

-- the value of a relocation among those of its section
abbrev pub IsValue : Architecture → Addresses → List ℕ → List Symbol → Rela
    → Result (Option ℤ) ValueError → Type 0
IsValue architecture addresses bytes symbols r result =
    (row : Option RowInfo) × IsRow architecture r.r_type row
    × IsValueIn architecture addresses bytes symbols r row result
