-- The value of a relocation is its address, biased and cut to its page, less its base.
use Rattle.linker_reading.proofs.Imports.{BitMasking, Bool, ByteSize, FieldHolds, FieldValue, HaveSameBase, None, Option, RelocationKind, RowInfo, RowSize, Solves, Some, address, ap, arith, base, bias_number, cast_signed, cast_unsigned, difference_64, eqb, false, field, formula, if◌then◌else◌, is_paged, le-ltb, masks_got, masks_place, mod_below, nat_lt, not, of_z-to_z, page_if, read_signed, refl, sum_64, sym, terms_of, terms_of_kind, true, value_of, w64, ℕ, ℤ, ◌%◌, ◌&&◌, ◌+◌, ◌-◌, ◌<◌, ◌^◌, ◌↔◌, ◌∙◌, ◌≡◌, ◌≤◌}
use Rattle.linker_elf.specs.declared.elf.RelocationKind.TheVariants as kinds
use Rattle.linker_elf.specs.declared.elf.value.Operands.{Operands}
use Rattle.linker_reading.proofs.Shifts.{page_bits}
use Rattle.linker_reading.specs.declared.solving.Origin.{Origin}
use Rattle.linker_reading.specs.declared.solving.Origin.TheVariants.{Zero, Place, Got, Tls}
use Rattle.linker_reading.specs.declared.solving.Reference.TheVariants.{Symbol, GotEntry, PltEntry}
use Rattle.linker_reading.specs.declared.solving.Terms.{Terms}
use Rattle.linker_elf.proofs.Entries.{page_if_below}

-- the address, biased, or its page
abbrev pub target : Terms → RowInfo → Operands → ℕ
target t row o =
    page_if (is_paged t.reference row.mask)
    (sum_64 (address t.reference row.size o) (bias_number row.bias))

abbrev pub number : Terms → RowInfo → Operands → ℕ
number t row o = difference_64 (target t row o) (base t.origin row o)

target_below : (t : Terms) (row : RowInfo) (o : Operands) → target t row o < 2 ^ 64
target_below t row o =
    page_if_below (is_paged t.reference row.mask)
    (sum_64 (address t.reference row.size o) (bias_number row.bias))
    (mod_below (address t.reference row.size o + bias_number row.bias) (2 ^ 64) (omega arith))

-- less nothing
itself : (x : ℕ) → x < 2 ^ 64 → Some x ≡ Some (difference_64 x 0)
itself x small = ap Some (let same : x ≡ (x + (2 ^ 64 - 0)) % 2 ^ 64 = omega arith in same)

known_terms : (row : RowInfo) (o : Operands) (known t : Terms) (x : Option ℕ)
    → Some known ≡ Some t → x ≡ Some (number known row o) → x ≡ Some (number t row o)
known_terms row o known t x h e =
    let same : known ≡ t = cc in e ∙ ap (λ u. Some (number u row o)) same

abbrev symbol_zero : Terms
symbol_zero = record { reference = Symbol; origin = Zero }

abbrev entry_zero : Terms
entry_zero = record { reference = GotEntry; origin = Zero }

abbrev symbol_place : Terms
symbol_place = record { reference = Symbol; origin = Place }

of_kind : (kind : RelocationKind) (row : RowInfo) (o : Operands) (t : Terms)
    → (formula kinds.Relative row o ≡ Some (number symbol_place row o))
    → terms_of_kind kind ≡ Some t → formula kind row o ≡ Some (number t row o)
of_kind kinds.Absolute row o t r h =
    known_terms row o symbol_zero t (formula kinds.Absolute row o) h
    (itself (target symbol_zero row o) (target_below symbol_zero row o))
of_kind kinds.AbsoluteLowPart row o t r h =
    known_terms row o symbol_zero t (formula kinds.AbsoluteLowPart row o) h
    (itself (target symbol_zero row o) (target_below symbol_zero row o))
of_kind kinds.AbsoluteSet row o t r h =
    known_terms row o symbol_zero t (formula kinds.AbsoluteSet row o) h
    (itself (target symbol_zero row o) (target_below symbol_zero row o))
of_kind kinds.AbsoluteSetWord6 row o t r h =
    known_terms row o symbol_zero t (formula kinds.AbsoluteSetWord6 row o) h
    (itself (target symbol_zero row o) (target_below symbol_zero row o))
of_kind kinds.Got row o t r h =
    known_terms row o entry_zero t (formula kinds.Got row o) h
    (itself (target entry_zero row o) (target_below entry_zero row o))
of_kind kinds.TlsGdGot row o t r h =
    known_terms row o entry_zero t (formula kinds.TlsGdGot row o) h
    (itself (target entry_zero row o) (target_below entry_zero row o))
of_kind kinds.TlsLdGot row o t r h =
    known_terms row o entry_zero t (formula kinds.TlsLdGot row o) h
    (itself (target entry_zero row o) (target_below entry_zero row o))
of_kind kinds.GotTpOffGot row o t r h =
    known_terms row o entry_zero t (formula kinds.GotTpOffGot row o) h
    (itself (target entry_zero row o) (target_below entry_zero row o))
of_kind kinds.TlsDescGot row o t r h =
    known_terms row o entry_zero t (formula kinds.TlsDescGot row o) h
    (itself (target entry_zero row o) (target_below entry_zero row o))
of_kind kinds.Relative row o t r h =
    known_terms row o symbol_place t (formula kinds.Relative row o) h r
of_kind kinds.RelativeRiscVLow12 row o t r h =
    known_terms row o symbol_place t (formula kinds.RelativeRiscVLow12 row o) h refl
of_kind kinds.SymRelGotBase row o t r h =
    known_terms row o (record { reference = Symbol; origin = Got }) t (formula kinds.SymRelGotBase row o) h refl
of_kind kinds.DtpOff row o t r h =
    known_terms row o (record { reference = Symbol; origin = Tls }) t (formula kinds.DtpOff row o) h refl
of_kind kinds.TpOff row o t r h =
    known_terms row o (record { reference = Symbol; origin = Tls }) t (formula kinds.TpOff row o) h refl
of_kind kinds.GotRelative row o t r h =
    known_terms row o (record { reference = GotEntry; origin = Place }) t (formula kinds.GotRelative row o) h refl
of_kind kinds.TlsGd row o t r h =
    known_terms row o (record { reference = GotEntry; origin = Place }) t (formula kinds.TlsGd row o) h refl
of_kind kinds.TlsLd row o t r h =
    known_terms row o (record { reference = GotEntry; origin = Place }) t (formula kinds.TlsLd row o) h refl
of_kind kinds.GotTpOff row o t r h =
    known_terms row o (record { reference = GotEntry; origin = Place }) t (formula kinds.GotTpOff row o) h refl
of_kind kinds.TlsDesc row o t r h =
    known_terms row o (record { reference = GotEntry; origin = Place }) t (formula kinds.TlsDesc row o) h refl
of_kind kinds.GotRelGotBase row o t r h =
    known_terms row o (record { reference = GotEntry; origin = Got }) t (formula kinds.GotRelGotBase row o) h refl
of_kind kinds.TlsGdGotBase row o t r h =
    known_terms row o (record { reference = GotEntry; origin = Got }) t (formula kinds.TlsGdGotBase row o) h refl
of_kind kinds.TlsLdGotBase row o t r h =
    known_terms row o (record { reference = GotEntry; origin = Got }) t (formula kinds.TlsLdGotBase row o) h refl
of_kind kinds.GotTpOffGotBase row o t r h =
    known_terms row o (record { reference = GotEntry; origin = Got }) t (formula kinds.GotTpOffGotBase row o) h refl
of_kind kinds.TlsDescGotBase row o t r h =
    known_terms row o (record { reference = GotEntry; origin = Got }) t (formula kinds.TlsDescGotBase row o) h refl
of_kind kinds.PltRelative row o t r h =
    known_terms row o (record { reference = PltEntry; origin = Place }) t (formula kinds.PltRelative row o) h refl
of_kind kinds.PltRelGotBase row o t r h =
    known_terms row o (record { reference = PltEntry; origin = Got }) t (formula kinds.PltRelGotBase row o) h refl
of_kind kind row o t r h = cc

no_terms : (b : Bool) (x : Option Terms) (t : Terms) → (if b then None else x) ≡ Some t → b ≡ false
no_terms true x t h = cc
no_terms false x t h = refl

same_terms : (b : Bool) (x : Option Terms) (t : Terms) → (if b then None else x) ≡ Some t → x ≡ Some t
same_terms true x t h = cc
same_terms false x t h = h

relative : (size : RowSize) (kind : RelocationKind) (row : RowInfo) (o : Operands) (t : Terms)
    → row.size ≡ size → terms_of kind size ≡ Some t
    → formula kinds.Relative row o ≡ Some (number symbol_place row o)
relative (ByteSize n) kind row o t e h =
    rw (e, no_terms (eqb n 0) (terms_of_kind kind) t h) refl
relative (BitMasking bits insn) kind row o t e h = rw e refl

kind_terms : (size : RowSize) (kind : RelocationKind) (t : Terms)
    → terms_of kind size ≡ Some t → terms_of_kind kind ≡ Some t
kind_terms (ByteSize n) kind t h = same_terms (eqb n 0) (terms_of_kind kind) t h
kind_terms (BitMasking bits insn) kind t h = h

pub formula_is : (row : RowInfo) (o : Operands) (t : Terms)
    → terms_of row.kind row.size ≡ Some t → formula row.kind row o ≡ Some (number t row o)
formula_is row o t h =
    of_kind row.kind row o t (relative row.size row.kind row o t refl h)
    (kind_terms row.size row.kind t h)

-- the value's number
pub value_number : (row : RowInfo) (o : Operands) (t : Terms) (v : ℤ)
    → terms_of row.kind row.size ≡ Some t → value_of row o ≡ Some v
    → cast_unsigned w64 v ≡ number t row o
value_number row o t v h e =
    let signed : Some (cast_signed w64 (number t row o)) ≡ Some v =
    sym (ap read_signed (formula_is row o t h)) ∙ e in
    let same : cast_signed w64 (number t row o) ≡ v = cc in
    sym (ap (cast_unsigned w64) same)
    ∙ of_z-to_z w64 (number t row o)
    (mod_below (target t row o + (2 ^ 64 - base t.origin row o)) (2 ^ 64) (omega arith))

-- ---- solutions

-- the bits of the value are those of the address with another rounding
moved : (paged : Bool) (a bias b r s e : ℕ) → (paged ≡ true → 12 ≤ s)
    → field (sum_64 a (sum_64 bias (page_if paged (difference_64 r b)))) s e
    ≡ field (sum_64 (difference_64 (page_if paged (sum_64 a bias)) b) r) s e
moved false a bias b r s e h =
    ap (λ y. field y s e) (let same : sum_64 a (sum_64 bias (difference_64 r b))
    ≡ sum_64 (difference_64 (sum_64 a bias) b) r = omega arith in same)
moved true a bias b r s e h =
    let y = sum_64 a bias in
    let c = difference_64 r b in
    ap (λ z. field z s e) (regrouped a bias (c - c % 4096))
    ∙ sym (page_bits y c s e (h refl))
    ∙ ap (λ z. field z s e) (less (y - y % 4096) b r)
  where
    regrouped : (a bias c : ℕ) → sum_64 a (sum_64 bias c) ≡ sum_64 (sum_64 a bias) c
    regrouped a bias c = omega arith

    less : (p b r : ℕ) → sum_64 p (difference_64 r b) ≡ sum_64 (difference_64 p b) r
    less p b r = omega arith

same_base : (origin : Origin) (row : RowInfo) (a b : Operands) → HaveSameBase a b
    → base origin row a ≡ base origin row b
same_base Zero row a b h = refl
same_base Place row a b h = ap (page_if (masks_place row.mask)) h.place
same_base Got row a b h = ap (page_if (masks_got row.mask)) h.got_base
same_base Tls row a b h = h.tls_base

-- the rounding of the address
abbrev pub rounding_after : Terms → RowInfo → ℕ → Operands → ℕ
rounding_after t row r o =
    sum_64 (bias_number row.bias)
    (page_if (is_paged t.reference row.mask) (difference_64 r (base t.origin row o)))

pub solves : (row : RowInfo) (f : FieldValue) (operands : Operands) (t : Terms)
    (s : FieldValue) → terms_of row.kind row.size ≡ Some t
    → (is_paged t.reference row.mask ≡ true → 12 ≤ f.known.start)
    → ((n : ℕ) → FieldHolds s n
    ↔ (field (sum_64 n (rounding_after t row f.rounding operands)) f.known.start f.known.end ≡ f.bits))
    → Solves t row f operands s
solves row f operands t s h above is = λ o v same e.
    let a = address t.reference row.size o in
    let p = is_paged t.reference row.mask in
    let start = f.known.start in
    let end = f.known.end in
    let bases = same_base t.origin row operands o same in
    let fields : field (sum_64 a (rounding_after t row f.rounding operands)) start end
    ≡ field (sum_64 (cast_unsigned w64 v) f.rounding) start end =
    ap (λ b. field (sum_64 a (sum_64 (bias_number row.bias) (page_if p (difference_64 f.rounding b)))) start end) bases
    ∙ moved p a (bias_number row.bias) (base t.origin row o) f.rounding start end above
    ∙ ap (λ y. field (sum_64 y f.rounding) start end) (sym (value_number row o t v h e)) in
    let q = is a in
    ((λ x. sym fields ∙ q.0 x), (λ x. q.1 (fields ∙ x)))

-- bits of a page, from bit 12 up
pub known_above : (p : Bool) (n : ℕ) → 12 ≤ n → not (p && nat_lt n 12) ≡ true
known_above true n above = ap not (le-ltb n 12 above)
known_above false n above = refl
