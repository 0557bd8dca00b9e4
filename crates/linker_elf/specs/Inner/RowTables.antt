-- Entries of the tables of rows.
use Rattle.linker_elf.specs.Imports.{AArch64, AbsoluteAddition, AbsoluteAdditionWord6}
use Rattle.linker_elf.specs.Imports.{AbsoluteLowPart, AbsoluteSetWord6, AbsoluteSubtraction}
use Rattle.linker_elf.specs.Imports.{AbsoluteSubtractionWord6, Alignment, AnyForm, BType}
use Rattle.linker_elf.specs.Imports.{BitMasking, BitRange, ByteSize, CbType, CjType, CluiType, Ds}
use Rattle.linker_elf.specs.Imports.{FormulaError, JType, LoongArch64, MachOLow12, Movnz, NoEntry}
use Rattle.linker_elf.specs.Imports.{Operands, PageMask, Ppc64, Relative, RelocationKind, RiscV}
use Rattle.linker_elf.specs.Imports.{RowSize, Shift10, Step, cast_signed, cast_unsigned, w64}
use Rattle.std.specs.Prelude.{Bool, Err, List, None, Ok, Option, Result, Some, [], bit_and, bit_or}
use Rattle.std.specs.Prelude.{false, map, get_or, slice_index_or, true, ℕ, ℤ, ◌≡◌}
use Rattle.std.specs.Prelude.{◌-◌, ◌/◌, ◌&&◌, ◌||◌, if◌then◌else◌, ◌==◌, ◌^◌}
use Rattle.std.specs.Borrow.{Bor}
use Rattle.linker_elf.specs.Agrees.{RowFits}
use Rattle.linker_elf.specs.LoongArch.{has_16_bits}
use Rattle.linker_elf.specs.Inner.Runs.{code_of}
use Rattle.linker_elf.specs.declared.elf.engine.Window.{Window}
use Rattle.linker_elf.specs.declared.elf.engine.Window.TheVariants.{Four, Eight}
use Rattle.linker_elf.specs.declared.elf.engine.WritePlan.{WritePlan}
use Rattle.linker_elf.specs.Bounds.{least_within, last_within}
use Rattle.linker_elf.specs.Facts.{facts_of}
use Rattle.linker_elf.specs.Numbers.{numbers_of}
use Rattle.linker_elf.specs.Reach.{reach_of}
use Rattle.linker_elf.specs.Relocate.{is_supported, window_len}
use Rattle.linker_elf.specs.Value.{sum_64, bias_number, masks_symbol, masks_entry, masks_place}
use Rattle.linker_elf.specs.Value.{masks_got, loads_plt_word}
use Rattle.linker_elf.specs.declared.elf.RelocationKind.TheVariants.{None as NoKind}
use Rattle.linker_elf.specs.declared.elf.RelocationKind.TheVariants as kinds
use Rattle.linker_elf.specs.declared.elf.RowInfo.{RowInfo}
use Rattle.linker_elf.specs.declared.elf.rows.TableRow.{TableRow}
use Rattle.linker_elf.specs.declared.elf.rows.WriteTests.{WriteTests}
use Rattle.linker_elf.specs.declared.elf.value.Formula.{Formula}
use Rattle.linker_elf.specs.declared.elf.value.Formula.TheVariants as formulas
use Rattle.linker_elf.specs.declared.elf.value.FormulaTerms.{FormulaTerms}

-- a relocation of whole bytes that changes the existing number
abbrev pub is_over : RelocationKind → Bool
is_over AbsoluteAddition = true
is_over AbsoluteSubtraction = true
is_over AbsoluteSetWord6 = true
is_over AbsoluteAdditionWord6 = true
is_over AbsoluteSubtractionWord6 = true
is_over kind = false

-- the alignments of the tables
abbrev pub is_unit : ℕ → Bool
is_unit a = a == 1 || (a == 2 || (a == 4 || (a == 8 || a == 16)))

-- No instruction at which such a row is written changes how a value is written or which values are,
-- and no encoding is reserved.
abbrev pub is_plain : RowSize → RelocationKind → Bool
is_plain (BitMasking bits (Ppc64 Ds)) kind = false
is_plain (BitMasking bits (LoongArch64 Shift10)) AbsoluteLowPart = false
is_plain (BitMasking bits (AArch64 Movnz)) kind = false
is_plain (BitMasking bits (AArch64 MachOLow12)) kind = false
is_plain (BitMasking bits (RiscV CluiType)) kind = false
is_plain size kind = true

-- each multiple of the row's alignment within its reach is written
abbrev pub takes_all : RowInfo → Bool
takes_all row = is_supported row && (is_plain row.size row.kind && is_unit row.alignment)

-- how many bytes become the lowest of the value
abbrev pub bytes_of : RowSize → RelocationKind → ℕ
bytes_of (ByteSize n) kind = if is_over kind then 0 else n
bytes_of (BitMasking bits insn) kind = 0

-- what a write of a row tests
abbrev pub tests_of : RowInfo → WriteTests
tests_of row =
    record {
      is_supported = is_supported row;
      takes_all = takes_all row;
      bytes = bytes_of row.size row.kind;
      low_bits = row.alignment - 1;
      window = window_len row;
      least = least_within (reach_of row);
      last = last_within (reach_of row);
    }

-- ---- what a write does to an instruction

-- forms of at most two steps and a window of 4 or 8 bytes
abbrev pub has_plan : AnyForm → Bool
has_plan (RiscV BType) = false
has_plan (RiscV JType) = false
has_plan (RiscV CbType) = false
has_plan (RiscV CjType) = false
has_plan (RiscV CluiType) = false
has_plan insn = true

-- The window's bits that are cleared because the form only ORs them. LoongArch's `Shift10` with an
-- immediate of 12 bits has a part of its opcode there.
abbrev pub cleared_by : AnyForm → BitRange → ℕ
cleared_by (LoongArch64 f) bits = if has_16_bits bits then (code_of (LoongArch64 f)).0.ored else 0
cleared_by insn bits = (code_of insn).0.ored

abbrev pub is_word : Window → Bool
is_word Four = true
is_word window = false

abbrev pub no_step : Step
no_step = record { added = 0; up = 0; mask = 0 }

abbrev pub plan_for : AnyForm → BitRange → WritePlan
plan_for insn bits =
    record {
      is_word = is_word (code_of insn).0.window;
      start = bits.start;
      taken = (2 ^ 64 - 1) / 2 ^ (64 - (bits.end - bits.start));
      replaced = bit_or (code_of insn).0.replaced (cleared_by insn bits);
      first = get_or (code_of insn).1 0 no_step;
      second = get_or (code_of insn).1 1 no_step;
    }

abbrev pub plan_of : RowSize → Option WritePlan
plan_of (ByteSize n) = None
plan_of (BitMasking bits insn) = if has_plan insn then Some (plan_for insn bits) else None

-- the window of a plan
abbrev pub plan_window : Bool → Window
plan_window true = Four
plan_window false = Eight

-- the bits of an address that count where it may be that of a page
abbrev pub bits_of : Bool → ℕ
bits_of true = 2 ^ 64 - 2 ^ 12
bits_of false = 2 ^ 64 - 1

-- the bits of an addend that are added to the address of an entry
abbrev pub addend_bits : RowSize → ℕ
addend_bits (BitMasking bits (AArch64 insn)) = 0
addend_bits (BitMasking bits (Ppc64 insn)) = 0
addend_bits size = 2 ^ 64 - 1

-- the first of a pair at a ULEB128 number, whose formula is S + A
abbrev pub is_set : RelocationKind → RowSize → Bool
is_set Relative (ByteSize n) = n == 0
is_set kind size = false

abbrev pub place_bits : RelocationKind → RowSize → Option PageMask → ℕ
place_bits kind size mask = if is_set kind size then 0 else bits_of (masks_place mask)

-- the terms of a kind's formula (`formula` of Value)
abbrev pub formula_of : RelocationKind → Formula
formula_of NoKind = formulas.Without
formula_of Alignment = formulas.Without
formula_of kinds.TlsDescCall = formulas.Without
formula_of Relative = formulas.SymbolLessPlace
formula_of kinds.RelativeRiscVLow12 = formulas.SymbolLessPlace
formula_of kinds.RelativeLoongArchHigh = formulas.LoongArchHigh
formula_of kinds.SymRelGotBase = formulas.SymbolLessGot
formula_of kinds.PltRelGotBase = formulas.PltLessGot
formula_of kinds.PltRelative = formulas.PltLessPlace
formula_of kinds.SymbolSize = formulas.Size
formula_of kinds.DtpOff = formulas.Offset
formula_of kinds.TpOff = formulas.Offset
formula_of kinds.GotRelative = formulas.EntryLessPlace
formula_of kinds.TlsGd = formulas.EntryLessPlace
formula_of kinds.TlsLd = formulas.EntryLessPlace
formula_of kinds.GotTpOff = formulas.EntryLessPlace
formula_of kinds.TlsDesc = formulas.EntryLessPlace
formula_of kinds.GotRelGotBase = formulas.EntryLessGot
formula_of kinds.TlsGdGotBase = formulas.EntryLessGot
formula_of kinds.TlsLdGotBase = formulas.EntryLessGot
formula_of kinds.GotTpOffGotBase = formulas.EntryLessGot
formula_of kinds.TlsDescGotBase = formulas.EntryLessGot
formula_of kinds.Got = formulas.Entry
formula_of kinds.TlsGdGot = formulas.Entry
formula_of kinds.TlsLdGot = formulas.Entry
formula_of kinds.GotTpOffGot = formulas.Entry
formula_of kinds.TlsDescGot = formulas.Entry
formula_of kinds.GotRelativeLoongArch64 = formulas.LoongArchEntry
formula_of kinds.GotTpOffLoongArch64 = formulas.LoongArchEntry
formula_of kinds.TlsDescLoongArch64 = formulas.LoongArchEntry
formula_of kind = formulas.Symbol

-- a row's formula, what it adds, and which bits of its terms count
abbrev pub terms_of : RowInfo → FormulaTerms
terms_of row =
    record {
      formula = formula_of row.kind;
      is_word = loads_plt_word row.size row.kind;
      bias = bias_number row.bias;
      symbol = bits_of (masks_symbol row.mask);
      entry = bits_of (masks_entry row.mask);
      entry_addend = addend_bits row.size;
      place = place_bits row.kind row.size row.mask;
      got = bits_of (masks_got row.mask);
    }

-- S + A, the address of the entry, and L + A by these
abbrev pub symbol_of : FormulaTerms → Operands → ℕ
symbol_of terms o =
    bit_and (sum_64 (sum_64 o.symbol (cast_unsigned w64 o.addend)) terms.bias) terms.symbol

abbrev pub entry_of_terms : FormulaTerms → Operands → Result ℕ FormulaError
entry_of_terms terms o =
    if o.has_got_entry
    then Ok (bit_and (sum_64 (sum_64 o.got_entry
    (bit_and (cast_unsigned w64 o.addend) terms.entry_addend)) terms.bias) terms.entry)
    else Err NoEntry

abbrev pub plt_of : FormulaTerms → Operands → Result ℕ FormulaError
plt_of terms o =
    if o.has_plt_entry
    then Ok (sum_64 (sum_64 o.plt_entry (cast_unsigned w64 o.addend)) terms.bias)
    else (if terms.is_word then Err NoEntry
    else Ok (sum_64 (sum_64 o.symbol (cast_unsigned w64 o.addend)) terms.bias))

-- what is made of an entry, if there is one
abbrev pub of_entry : (ℕ → ℕ) → Result ℕ FormulaError → Result ℕ FormulaError
of_entry made (Ok n) = Ok (made n)
of_entry made (Err error) = Err error

abbrev pub signed_in : Result ℕ FormulaError → Result ℤ FormulaError
signed_in (Ok n) = Ok (cast_signed w64 n)
signed_in (Err error) = Err error

-- with every entry and origin
abbrev pub as_given : Operands → Operands
as_given o =
    record o { has_got_entry = true; has_plt_entry = true; has_tls_base = true }

-- the entry of a row, which may be one of this library's own
abbrev pub entry_of : Bool → RowInfo → TableRow
entry_of is_own row =
    record {
      kind = row.kind;
      size = row.size;
      mask = row.mask;
      numbers = numbers_of row;
      tests = tests_of row;
      plan = plan_of row.size;
      reach = record { bounds = reach_of row };
      terms = terms_of row;
      facts = facts_of row;
      is_own = is_own;
    }

-- the row of an entry
abbrev pub info_of : TableRow → RowInfo
info_of entry =
    record {
      kind = entry.kind;
      size = entry.size;
      mask = entry.mask;
      range = record {
        bounds = if entry.numbers.has_range == 1 then Some (entry.numbers.min, entry.numbers.max)
            else None;
      };
      alignment = entry.numbers.alignment;
      bias = if entry.numbers.bias == 0 then None else Some entry.numbers.bias;
      thunkable = entry.numbers.thunkable == 1;
      implicit_addend = entry.numbers.implicit_addend == 1;
    }

-- the entry is that of its row, whose bits fit its instruction
pub record IsSound (entry : TableRow) : Type 0 where
  pub is : entry ≡ entry_of entry.is_own (info_of entry)
  pub fits : RowFits (info_of entry)

abbrev pub info_in : Option TableRow → Option RowInfo
info_in None = None
info_in (Some entry) = Some (info_of entry)

-- the same without this library's own rows
abbrev pub raw_info_in : Option TableRow → Option RowInfo
raw_info_in None = None
raw_info_in (Some entry) = if entry.is_own then None else Some (info_of entry)

-- the kind that the crate `linker-utils` has in LoongArch's rows: it has none for alignments
abbrev pub raw_kind : RelocationKind → RelocationKind
raw_kind Alignment = NoKind
raw_kind kind = kind

abbrev pub with_raw_kind : Option RowInfo → Option RowInfo
with_raw_kind None = None
with_raw_kind (Some row) = Some (record row { kind = raw_kind row.kind })

abbrev pub is_own_in : Option TableRow → Bool
is_own_in None = false
is_own_in (Some entry) = entry.is_own

abbrev pub entry_in : Bool → Option RowInfo → Option TableRow
entry_in is_own None = None
entry_in is_own (Some row) = Some (entry_of is_own row)

-- an entry of a table is the row of its name
pub record IsEntryOf (row : Option RowInfo) (entry : Option TableRow) : Type 0 where
  pub row_is : info_in entry ≡ row
  pub entry_is : entry ≡ entry_in (is_own_in entry) (info_in entry)

-- the text at an index of a table
abbrev pub nth_text : List (Bor (List ℕ)) → ℕ → List ℕ
nth_text texts index = slice_index_or (map (λ text. text.now) texts) index []
