-- The value of a relocation, one equation a kind (the sections on relocations of the psABIs:
-- "Relocation types" of ELF for the Arm 64-bit Architecture, "Relocations" of the RISC-V ELF psABI,
-- "Relocation Types" of the LoongArch ELF psABI, "Relocation Types" of the 64-bit ELF V2 ABI for
-- Power, "Relocation Types" of the x86-64 psABI). Addresses are modulo 2 ^ 64.
use Rattle.linker_elf.specs.Imports.{AArch64, BitMasking, ByteSize, FormulaError, GotBase}
use Rattle.linker_elf.specs.Imports.{GotEntryAndPosition, LoongArch64, NoEntry, NoTlsBase, NoValue}
use Rattle.linker_elf.specs.Imports.{Operands, PageMask, Ppc64, RelocationKind, RiscV, RowSize}
use Rattle.linker_elf.specs.Imports.{SymbolPlusAddendAndPosition, cast_signed, cast_unsigned, w64}
use Rattle.std.specs.Prelude.{Bool, Err, None, Ok, Option, Result, Some, false, not, true, ℕ, ℤ}
use Rattle.std.specs.Prelude.{◌+◌, ◌-◌, ◌%◌, ◌^◌, ◌==◌, if◌then◌else◌, ◌&&◌, ◌||◌}
use Rattle.linker_elf.specs.LoongArch.{page, high_distance}
use Rattle.linker_elf.specs.declared.elf.RelocationKind.TheVariants as kinds
use Rattle.linker_elf.specs.declared.elf.RowInfo.{RowInfo}

-- a + b and a - b, modulo 2 ^ 64
abbrev pub sum_64 : ℕ → ℕ → ℕ
sum_64 a b = (a + b) % 2 ^ 64

abbrev pub difference_64 : ℕ → ℕ → ℕ
difference_64 a b = (a + (2 ^ 64 - b)) % 2 ^ 64

-- whether the mask clears the offset in the page of S + A, of the GOT entry's address, of P, of the
-- GOT's address
abbrev pub masks_symbol : Option PageMask → Bool
masks_symbol None = false
masks_symbol (Some (SymbolPlusAddendAndPosition pattern)) = true
masks_symbol (Some (GotEntryAndPosition pattern)) = false
masks_symbol (Some (GotBase pattern)) = false

abbrev pub masks_entry : Option PageMask → Bool
masks_entry None = false
masks_entry (Some (SymbolPlusAddendAndPosition pattern)) = false
masks_entry (Some (GotEntryAndPosition pattern)) = true
masks_entry (Some (GotBase pattern)) = false

abbrev pub masks_place : Option PageMask → Bool
masks_place None = false
masks_place (Some (SymbolPlusAddendAndPosition pattern)) = true
masks_place (Some (GotEntryAndPosition pattern)) = true
masks_place (Some (GotBase pattern)) = false

abbrev pub masks_got : Option PageMask → Bool
masks_got None = false
masks_got (Some (SymbolPlusAddendAndPosition pattern)) = false
masks_got (Some (GotEntryAndPosition pattern)) = false
masks_got (Some (GotBase pattern)) = true

-- an address, or that of its page of 4 KiB
abbrev pub page_if : Bool → ℕ → ℕ
page_if true address = page address
page_if false address = address

abbrev pub bias_number : Option ℕ → ℕ
bias_number None = 0
bias_number (Some n) = n

-- the addend that is added to a GOT entry's address: none in the instructions of AArch64 and
-- PowerPC64, whose entry is that of S + A
abbrev pub entry_addend : RowSize → ℤ → ℕ
entry_addend (ByteSize n) addend = cast_unsigned w64 addend
entry_addend (BitMasking bits (AArch64 insn)) addend = 0
entry_addend (BitMasking bits (RiscV insn)) addend = cast_unsigned w64 addend
entry_addend (BitMasking bits (Ppc64 insn)) addend = 0
entry_addend (BitMasking bits (LoongArch64 insn)) addend = cast_unsigned w64 addend

-- the address of the first of LoongArch's five instructions plus 8: that of the third, which takes
-- bits 32 to 51, and 4 below that of the fourth, which takes bits 52 to 63
abbrev pub sequence_pc : RowSize → ℕ → ℕ
sequence_pc (ByteSize n) place = place
sequence_pc (BitMasking bits insn) place = if bits.start == 52 then difference_64 place 4 else place

-- ---- the parts of the formulas, the bias added first and the page masks applied last

-- S + A
abbrev pub symbol_term : RowInfo → Operands → ℕ
symbol_term row o =
    page_if (masks_symbol row.mask)
    (sum_64 (sum_64 o.symbol (cast_unsigned w64 o.addend)) (bias_number row.bias))

-- GOT + G + A, or the same of an entry of TLS
abbrev pub entry_term : RowInfo → Operands → ℕ
entry_term row o =
    page_if (masks_entry row.mask)
    (sum_64 (sum_64 o.got_entry (entry_addend row.size o.addend)) (bias_number row.bias))

-- L + A
abbrev pub plt_term : RowInfo → Operands → ℕ
plt_term row o = sum_64 (sum_64 o.plt_entry (cast_unsigned w64 o.addend)) (bias_number row.bias)

-- Z + A
abbrev pub size_term : RowInfo → Operands → ℕ
size_term row o = sum_64 (sum_64 o.symbol_size (cast_unsigned w64 o.addend)) (bias_number row.bias)

-- P
abbrev pub place_term : RowInfo → Operands → ℕ
place_term row o = page_if (masks_place row.mask) o.place

-- GOT
abbrev pub got_term : RowInfo → Operands → ℕ
got_term row o = page_if (masks_got row.mask) o.got_base

-- S + A - P; of no bytes, S + A: so are the rows of the first of a pair at a ULEB128 number, which
-- isn't relative to the place
abbrev pub relative_term : RowSize → RowInfo → Operands → ℕ
relative_term (ByteSize n) row o =
    if n == 0 then symbol_term row o else difference_64 (symbol_term row o) (place_term row o)
relative_term (BitMasking bits insn) row o = difference_64 (symbol_term row o) (place_term row o)

-- ---- the formulas

-- the value modulo 2 ^ 64, and none of a kind that has none
abbrev pub formula : RelocationKind → RowInfo → Operands → Option ℕ
formula kinds.None row o = None
formula kinds.Absolute row o = Some (symbol_term row o)
formula kinds.AbsoluteLowPart row o = Some (symbol_term row o)
formula kinds.AbsoluteSet row o = Some (symbol_term row o)
formula kinds.AbsoluteSetWord6 row o = Some (symbol_term row o)
formula kinds.AbsoluteAddition row o = Some (symbol_term row o)
formula kinds.AbsoluteAdditionWord6 row o = Some (symbol_term row o)
formula kinds.AbsoluteSubtraction row o = Some (symbol_term row o)
formula kinds.AbsoluteSubtractionWord6 row o = Some (symbol_term row o)
formula kinds.PairSubtractionULEB128RiscV row o = Some (symbol_term row o)
formula kinds.PairSubtractionULEB128LoongArch row o = Some (symbol_term row o)
formula kinds.Relative row o = Some (relative_term row.size row o)
formula kinds.RelativeRiscVLow12 row o = Some (difference_64 (symbol_term row o) (place_term row o))
formula kinds.RelativeLoongArchHigh row o =
    Some (high_distance (symbol_term row o) (sequence_pc row.size o.place))
formula kinds.GotRelative row o = Some (difference_64 (entry_term row o) (place_term row o))
formula kinds.GotRelativeLoongArch64 row o =
    Some (high_distance (entry_term row o) (sequence_pc row.size o.place))
formula kinds.GotRelGotBase row o = Some (difference_64 (entry_term row o) (got_term row o))
formula kinds.Got row o = Some (entry_term row o)
formula kinds.SymRelGotBase row o = Some (difference_64 (symbol_term row o) (got_term row o))
formula kinds.PltRelGotBase row o = Some (difference_64 (plt_term row o) (got_term row o))
formula kinds.PltRelative row o = Some (difference_64 (plt_term row o) (place_term row o))
formula kinds.SymbolSize row o = Some (size_term row o)
formula kinds.Alignment row o = None
formula kinds.TlsGd row o = Some (difference_64 (entry_term row o) (place_term row o))
formula kinds.TlsGdGot row o = Some (entry_term row o)
formula kinds.TlsGdGotBase row o = Some (difference_64 (entry_term row o) (got_term row o))
formula kinds.TlsLd row o = Some (difference_64 (entry_term row o) (place_term row o))
formula kinds.TlsLdGot row o = Some (entry_term row o)
formula kinds.TlsLdGotBase row o = Some (difference_64 (entry_term row o) (got_term row o))
formula kinds.DtpOff row o = Some (difference_64 (symbol_term row o) o.tls_base)
formula kinds.GotTpOff row o = Some (difference_64 (entry_term row o) (place_term row o))
formula kinds.GotTpOffGot row o = Some (entry_term row o)
formula kinds.GotTpOffGotBase row o = Some (difference_64 (entry_term row o) (got_term row o))
formula kinds.GotTpOffLoongArch64 row o =
    Some (high_distance (entry_term row o) (sequence_pc row.size o.place))
formula kinds.TpOff row o = Some (difference_64 (symbol_term row o) o.tls_base)
formula kinds.TlsDesc row o = Some (difference_64 (entry_term row o) (place_term row o))
formula kinds.TlsDescGot row o = Some (entry_term row o)
formula kinds.TlsDescGotBase row o = Some (difference_64 (entry_term row o) (got_term row o))
formula kinds.TlsDescLoongArch64 row o =
    Some (high_distance (entry_term row o) (sequence_pc row.size o.place))
formula kinds.TlsDescCall row o = None

abbrev pub read_signed : Option ℕ → Option ℤ
read_signed None = None
read_signed (Some n) = Some (cast_signed w64 n)

-- the value, read in two's complement
abbrev pub value_of : RowInfo → Operands → Option ℤ
value_of row o = read_signed (formula row.kind row o)

-- ---- what a formula reads

-- whether a formula names an entry of the GOT, or of the PLT
abbrev pub names_got_entry : RelocationKind → Bool
names_got_entry kinds.GotRelative = true
names_got_entry kinds.GotRelativeLoongArch64 = true
names_got_entry kinds.GotRelGotBase = true
names_got_entry kinds.Got = true
names_got_entry kinds.TlsGd = true
names_got_entry kinds.TlsGdGot = true
names_got_entry kinds.TlsGdGotBase = true
names_got_entry kinds.TlsLd = true
names_got_entry kinds.TlsLdGot = true
names_got_entry kinds.TlsLdGotBase = true
names_got_entry kinds.GotTpOff = true
names_got_entry kinds.GotTpOffGot = true
names_got_entry kinds.GotTpOffGotBase = true
names_got_entry kinds.GotTpOffLoongArch64 = true
names_got_entry kinds.TlsDesc = true
names_got_entry kinds.TlsDescGot = true
names_got_entry kinds.TlsDescGotBase = true
names_got_entry kinds.TlsDescLoongArch64 = true
names_got_entry kind = false

abbrev pub names_plt_entry : RelocationKind → Bool
names_plt_entry kinds.PltRelGotBase = true
names_plt_entry kinds.PltRelative = true
names_plt_entry kind = false

-- the value is an offset of a thread-local symbol
abbrev pub is_offset : RelocationKind → Bool
is_offset kinds.TpOff = true
is_offset kinds.DtpOff = true
is_offset kind = false

-- PowerPC64's calls that load the function's address themselves: L is the word that holds it
-- (64-Bit ELF V2 ABI, "Relocation Types")
abbrev pub loads_plt_word : RowSize → RelocationKind → Bool
loads_plt_word (BitMasking bits (Ppc64 insn)) kind = names_plt_entry kind
loads_plt_word size kind = false

-- ---- what there is of it

-- L is S where there is no entry of the PLT
abbrev pub completed : Operands → Operands
completed o = record o { plt_entry = if o.has_plt_entry then o.plt_entry else o.symbol }

-- the formula has an entry of the GOT, or the word that PowerPC64's calls load themselves, and
-- there is none
abbrev pub lacks_entry : RowInfo → Operands → Bool
lacks_entry row o =
    (names_got_entry row.kind && not o.has_got_entry)
    || (loads_plt_word row.size row.kind && not o.has_plt_entry)

-- it has the origin of thread-local offsets, and there is none
abbrev pub lacks_tls_base : RowInfo → Operands → Bool
lacks_tls_base row o = is_offset row.kind && not o.has_tls_base

abbrev pub lacks : RowInfo → Operands → Bool
lacks row o = lacks_entry row o || lacks_tls_base row o

abbrev pub or_no_value : Option ℤ → Result ℤ FormulaError
or_no_value None = Err NoValue
or_no_value (Some v) = Ok v

-- the value of what there is, or why there is none
abbrev pub value_given : RowInfo → Operands → Result ℤ FormulaError
value_given row o =
    if lacks_entry row o then Err NoEntry
    else (if lacks_tls_base row o then Err NoTlsBase else or_no_value (value_of row (completed o)))
