-- The address that a relocation's value comes from: the inverse of the formulas of values.
use Rattle.linker_reading.specs.Imports.{BitMasking, Bool, ByteSize, FieldValue, None, Option}
use Rattle.linker_reading.specs.Imports.{Reference, RelocationKind, RowInfo, RowSize, Some}
use Rattle.linker_reading.specs.Imports.{bias_number, cast_unsigned, difference_64, entry_addend}
use Rattle.linker_reading.specs.Imports.{false, got_term, masks_entry, masks_symbol, nat_lt, not}
use Rattle.linker_reading.specs.Imports.{page_if, place_term, sum_64, true, value_of, w64, ℕ, ℤ}
use Rattle.std.specs.Prelude.{◌≡◌, ◌↔◌, ◌==◌, ◌&&◌, if◌then◌else◌}
use Rattle.linker_elf.specs.declared.elf.PageMask.{PageMask}
use Rattle.linker_elf.specs.declared.elf.RelocationKind.TheVariants as kinds
use Rattle.linker_elf.specs.declared.elf.value.Operands.{Operands}
use Rattle.linker_reading.specs.Fields.{FieldHolds, IsOfValue}
use Rattle.linker_reading.specs.declared.solving.Origin.{Origin}
use Rattle.linker_reading.specs.declared.solving.Origin.TheVariants.{Zero, Place, Got, Tls}
use Rattle.linker_reading.specs.declared.solving.Reference.TheVariants.{Symbol, GotEntry, PltEntry}
use Rattle.linker_reading.specs.declared.solving.Terms.{Terms}

abbrev pub terms : Reference → Origin → Option Terms
terms reference origin = Some (record { reference = reference; origin = origin })

-- which address a value is computed from, and what is taken off it; none of a kind without a value,
-- of sizes, of sums with what stood there, and of LoongArch's high parts
abbrev pub terms_of_kind : RelocationKind → Option Terms
terms_of_kind kinds.None = None
terms_of_kind kinds.Absolute = terms Symbol Zero
terms_of_kind kinds.AbsoluteLowPart = terms Symbol Zero
terms_of_kind kinds.AbsoluteSet = terms Symbol Zero
terms_of_kind kinds.AbsoluteSetWord6 = terms Symbol Zero
terms_of_kind kinds.AbsoluteAddition = None
terms_of_kind kinds.AbsoluteAdditionWord6 = None
terms_of_kind kinds.AbsoluteSubtraction = None
terms_of_kind kinds.AbsoluteSubtractionWord6 = None
terms_of_kind kinds.PairSubtractionULEB128RiscV = None
terms_of_kind kinds.PairSubtractionULEB128LoongArch = None
terms_of_kind kinds.Relative = terms Symbol Place
terms_of_kind kinds.RelativeRiscVLow12 = terms Symbol Place
terms_of_kind kinds.RelativeLoongArchHigh = None
terms_of_kind kinds.GotRelative = terms GotEntry Place
terms_of_kind kinds.GotRelativeLoongArch64 = None
terms_of_kind kinds.GotRelGotBase = terms GotEntry Got
terms_of_kind kinds.Got = terms GotEntry Zero
terms_of_kind kinds.SymRelGotBase = terms Symbol Got
terms_of_kind kinds.PltRelGotBase = terms PltEntry Got
terms_of_kind kinds.PltRelative = terms PltEntry Place
terms_of_kind kinds.SymbolSize = None
terms_of_kind kinds.Alignment = None
terms_of_kind kinds.TlsGd = terms GotEntry Place
terms_of_kind kinds.TlsGdGot = terms GotEntry Zero
terms_of_kind kinds.TlsGdGotBase = terms GotEntry Got
terms_of_kind kinds.TlsLd = terms GotEntry Place
terms_of_kind kinds.TlsLdGot = terms GotEntry Zero
terms_of_kind kinds.TlsLdGotBase = terms GotEntry Got
terms_of_kind kinds.DtpOff = terms Symbol Tls
terms_of_kind kinds.GotTpOff = terms GotEntry Place
terms_of_kind kinds.GotTpOffGot = terms GotEntry Zero
terms_of_kind kinds.GotTpOffGotBase = terms GotEntry Got
terms_of_kind kinds.GotTpOffLoongArch64 = None
terms_of_kind kinds.TpOff = terms Symbol Tls
terms_of_kind kinds.TlsDesc = terms GotEntry Place
terms_of_kind kinds.TlsDescGot = terms GotEntry Zero
terms_of_kind kinds.TlsDescGotBase = terms GotEntry Got
terms_of_kind kinds.TlsDescLoongArch64 = None
terms_of_kind kinds.TlsDescCall = None

-- none of a row without bytes, as that of the first of a pair at a ULEB128 number
abbrev pub terms_of : RelocationKind → RowSize → Option Terms
terms_of kind (ByteSize n) = if n == 0 then None else terms_of_kind kind
terms_of kind (BitMasking bits insn) = terms_of_kind kind

-- the address, with the addend where the value has it
abbrev pub address : Reference → RowSize → Operands → ℕ
address Symbol size o = sum_64 o.symbol (cast_unsigned w64 o.addend)
address GotEntry size o = sum_64 o.got_entry (entry_addend size o.addend)
address PltEntry size o = sum_64 o.plt_entry (cast_unsigned w64 o.addend)

-- whether its page is taken, after the bias is added
abbrev pub is_paged : Reference → Option PageMask → Bool
is_paged Symbol mask = masks_symbol mask
is_paged GotEntry mask = masks_entry mask
is_paged PltEntry mask = false

-- what is taken off it
abbrev pub base : Origin → RowInfo → Operands → ℕ
base Zero row o = 0
base Place row o = place_term row o
base Got row o = got_term row o
base Tls row o = o.tls_base

-- the same place, GOT and TLS base
pub record HaveSameBase (a b : Operands) : Type 0 where
  pub place : a.place ≡ b.place
  pub got_base : a.got_base ≡ b.got_base
  pub tls_base : a.tls_base ≡ b.tls_base

-- Of operands with the same place, GOT and TLS base, the address has the bits of s exactly where
-- the value has those of f.
abbrev pub Solves : Terms → RowInfo → FieldValue → Operands → FieldValue → Type 0
Solves t row f operands s =
    (o : Operands) (v : ℤ) → HaveSameBase operands o → value_of row o ≡ Some v
    → FieldHolds s (address t.reference row.size o) ↔ IsOfValue f v

-- what is taken off is there
abbrev pub has_base : Origin → Operands → Bool
has_base Tls o = o.has_tls_base
has_base origin o = true

-- The bits of a page aren't known from below bit 12.
abbrev pub is_solvable : Terms → RowInfo → FieldValue → Operands → Bool
is_solvable t row f o =
    has_base t.origin o && not (is_paged t.reference row.mask && nat_lt f.known.start 12)

-- What is added to the address before its bits are taken. It is nothing where bit 0 is known, and
-- else the bias, and the value's rounding less the base, of which a row of pages takes the page.
abbrev pub rounding_solved : Terms → RowInfo → FieldValue → Operands → ℕ
rounding_solved t row f o =
    if f.known.start == 0 then 0
    else sum_64 (bias_number row.bias)
    (page_if (is_paged t.reference row.mask) (difference_64 f.rounding (base t.origin row o)))

-- s is known of the address, by the same bits as of the value.
pub record IsSolution (t : Terms) (row : RowInfo) (f : FieldValue) (o : Operands)
    (s : FieldValue) : Type 0 where
  pub solvable : is_solvable t row f o ≡ true
  pub known : s.known ≡ f.known
  pub rounding : s.rounding ≡ rounding_solved t row f o
  pub solves : Solves t row f o s

abbrev pub IsSolvedBy : Option Terms → RowInfo → FieldValue → Operands
    → Option FieldValue → Type 0
IsSolvedBy None row f o solution = solution ≡ None
IsSolvedBy (Some t) row f o None = is_solvable t row f o ≡ false
IsSolvedBy (Some t) row f o (Some s) = IsSolution t row f o s

abbrev pub IsSolved : RowInfo → FieldValue → Operands → Option FieldValue → Type 0
IsSolved row f o solution = IsSolvedBy (terms_of row.kind row.size) row f o solution

-- ---- halves

-- the low half has all bits below the high half's, without rounding
abbrev pub are_halves : FieldValue → FieldValue → Bool
are_halves high low =
    low.known.start == 0 && (low.rounding == 0 && low.known.end == high.known.start)

-- Of the whole all bits from bit 0 up are known, without rounding. A number has them exactly where
-- it has those of both halves.
pub record IsWholeOf (high low whole : FieldValue) : Type 0 where
  pub halves : are_halves high low ≡ true
  pub start : whole.known.start ≡ 0
  pub end : whole.known.end ≡ high.known.end
  pub rounding : whole.rounding ≡ 0
  pub both : (n : ℕ) → FieldHolds whole n ↔ (FieldHolds high n × FieldHolds low n)

abbrev pub IsJoined : FieldValue → FieldValue → Option FieldValue → Type 0
IsJoined high low None = are_halves high low ≡ false
IsJoined high low (Some whole) = IsWholeOf high low whole
