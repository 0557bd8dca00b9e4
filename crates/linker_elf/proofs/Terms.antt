-- The value of a row by the bits that count of its formula's terms.
use Rattle.linker_elf.proofs.Imports.{AArch64, BitMasking, Bool, ByteSize, Err, FormulaError, LoongArch64, None, Ok, Operands, Option, Ppc64, Relative, RelocationKind, Result, RiscV, RowInfo, RowSize, Some, addend_bits, and_high_mask, and_mask, and_zero_r, ap, arith, bias_number, bit_and, cases_Bool, cast_signed, cast_unsigned, completed, cond-false, cond-true, difference_64, entry_addend, entry_of_terms, entry_term, eqb, false, formula, formula_of, got_term, high_distance, if◌then◌else◌, inl, inr, is_offset, is_set, lacks, lacks_entry, lacks_tls_base, loads_plt_word, masks_entry, masks_got, masks_place, masks_symbol, names_got_entry, names_plt_entry, not, of_entry, or_no_value, page, page_if, place_term, plt_of, plt_term, read_signed, refl, relative_term, sequence_pc, signed_in, size_term, subst, sum_64, sym, symbol_of, symbol_term, terms_of, true, true≢false, value_given, value_of, w64, ℕ, ℤ, ◌&&◌, ◌-◌, ◌<◌, ◌^◌, ◌||◌, ◌∙◌, ◌≡◌, ◌⊎◌}
use Rattle.linker_elf.specs.Inner.RowTables.{bits_of}
use Rattle.linker_elf.specs.declared.elf.RelocationKind.TheVariants as kinds
use Rattle.linker_elf.specs.declared.elf.value.Formula.{Formula}
use Rattle.linker_elf.specs.declared.elf.value.Formula.TheVariants as formulas
use Rattle.linker_elf.specs.declared.elf.value.FormulaError.TheVariants.{NoEntry, NoTlsBase, NoValue}
use Rattle.linker_elf.specs.declared.elf.value.FormulaTerms.{FormulaTerms}

-- ---- terms

all_bits : (x : ℕ) → x < 2 ^ 64 → bit_and x (2 ^ 64 - 1) ≡ x
all_bits x small = and_mask x 64 ∙ omega (arith, small)

page_bits : (x : ℕ) → x < 2 ^ 64 → bit_and x (2 ^ 64 - 2 ^ 12) ≡ page x
page_bits x small = and_high_mask 64 12 (omega arith) x small ∙ omega (arith, small)

-- all bits of an address, or those of its page
pub masked : (is : Bool) (x : ℕ) → x < 2 ^ 64 → bit_and x (bits_of is) ≡ page_if is x
masked true x small = page_bits x small
masked false x small = all_bits x small

symbol_is : (row : RowInfo) (o : Operands) → symbol_of (terms_of row) o ≡ symbol_term row o
symbol_is row o =
    masked (masks_symbol row.mask) (sum_64 (sum_64 o.symbol (cast_unsigned w64 o.addend)) (bias_number row.bias)) (omega arith)

pub symbol_found : (row : RowInfo) (o : Operands) (terms : FormulaTerms) (s : ℕ) → terms ≡ terms_of row
    → s ≡ symbol_of terms o → s ≡ symbol_term row o
symbol_found row o terms s is given = given ∙ (ap (λ t. symbol_of t o) is ∙ symbol_is row o)

whole : (base a : ℕ) → sum_64 base (bit_and a (2 ^ 64 - 1)) ≡ sum_64 base a
whole base a = ap (sum_64 base) (and_mask a 64) ∙ omega arith

added : (size : RowSize) (base : ℕ) (addend : ℤ)
    → sum_64 base (bit_and (cast_unsigned w64 addend) (addend_bits size))
    ≡ sum_64 base (entry_addend size addend)
added (ByteSize n) base addend = whole base (cast_unsigned w64 addend)
added (BitMasking bits (AArch64 insn)) base addend = ap (sum_64 base) (and_zero_r (cast_unsigned w64 addend))
added (BitMasking bits (RiscV insn)) base addend = whole base (cast_unsigned w64 addend)
added (BitMasking bits (Ppc64 insn)) base addend = ap (sum_64 base) (and_zero_r (cast_unsigned w64 addend))
added (BitMasking bits (LoongArch64 insn)) base addend = whole base (cast_unsigned w64 addend)

entry_is : (row : RowInfo) (o : Operands)
    → bit_and (sum_64 (sum_64 o.got_entry (bit_and (cast_unsigned w64 o.addend) (terms_of row).entry_addend)) (bias_number row.bias)) (terms_of row).entry
    ≡ entry_term row o
entry_is row o =
    ap (λ n. bit_and (sum_64 n (bias_number row.bias)) (terms_of row).entry) (added row.size o.got_entry o.addend)
    ∙ masked (masks_entry row.mask) (sum_64 (sum_64 o.got_entry (entry_addend row.size o.addend)) (bias_number row.bias)) (omega arith)

pub got_found : (row : RowInfo) (o : Operands) (terms : FormulaTerms) → terms ≡ terms_of row → o.got_base < 2 ^ 64
    → bit_and o.got_base terms.got ≡ got_term row o
got_found row o terms is small = ap (λ t. bit_and o.got_base t.got) is ∙ masked (masks_got row.mask) o.got_base small

placed : (row : RowInfo) (o : Operands) (set : Bool) → set ≡ false → o.place < 2 ^ 64
    → bit_and o.place (if set then 0 else bits_of (masks_place row.mask)) ≡ place_term row o
placed row o set unset small =
    ap (bit_and o.place) (cond-false set 0 (bits_of (masks_place row.mask)) unset)
    ∙ masked (masks_place row.mask) o.place small

pub place_found : (row : RowInfo) (o : Operands) (terms : FormulaTerms) → terms ≡ terms_of row
    → is_set row.kind row.size ≡ false → o.place < 2 ^ 64 → bit_and o.place terms.place ≡ place_term row o
place_found row o terms is unset small =
    ap (λ t. bit_and o.place t.place) is ∙ placed row o (is_set row.kind row.size) unset small

-- S + A of the first of a pair at a ULEB128 number, and else S + A - P
relative_by : (row : RowInfo) (o : Operands) (size : RowSize) → o.place < 2 ^ 64
    → symbol_term row o < 2 ^ 64
    → difference_64 (symbol_term row o) (bit_and o.place (if is_set Relative size then 0 else bits_of (masks_place row.mask)))
    ≡ relative_term size row o
relative_by row o (ByteSize n) small short =
    let s = symbol_term row o in
    elim (cases_Bool (eqb n 0)) [
      | inl none ↦
          ap (λ b. difference_64 s (bit_and o.place b)) (cond-true (eqb n 0) 0 (bits_of (masks_place row.mask)) none)
          ∙ (ap (difference_64 s) (and_zero_r o.place)
          ∙ (omega (arith, short) ∙ sym (cond-true (eqb n 0) s (difference_64 s (place_term row o)) none)))
      | inr some ↦
          ap (difference_64 s) (placed row o (eqb n 0) some small)
          ∙ sym (cond-false (eqb n 0) s (difference_64 s (place_term row o)) some)
    ]
relative_by row o (BitMasking bits insn) small short = ap (difference_64 (symbol_term row o)) (placed row o false refl small)

pub relative_is : (row : RowInfo) (o : Operands) → row.kind ≡ Relative → o.place < 2 ^ 64
    → symbol_term row o < 2 ^ 64
    → difference_64 (symbol_term row o) (bit_and o.place (terms_of row).place) ≡ relative_term row.size row o
relative_is row o is small short =
    ap (λ k. difference_64 (symbol_term row o) (bit_and o.place (if is_set k row.size then 0 else bits_of (masks_place row.mask)))) is
    ∙ relative_by row o row.size small short

-- ---- kinds

-- the formula of a kind has a term, all bits of P, and no L and no origin of offsets
pub record HasTerm (term : RowInfo → Operands → ℕ) (got : Bool) (kind : RelocationKind) : Type 0 where
  pub formula_is : (row : RowInfo) (o : Operands) → formula kind row (completed o) ≡ Some (term row o)
  pub got_is : names_got_entry kind ≡ got
  pub no_plt : names_plt_entry kind ≡ false
  pub no_offset : is_offset kind ≡ false
  pub unset : (size : RowSize) → is_set kind size ≡ false

no_word : (size : RowSize) (kind : RelocationKind) → names_plt_entry kind ≡ false → loads_plt_word size kind ≡ false
no_word (BitMasking bits (Ppc64 insn)) kind none = none
no_word size kind none = refl

-- L isn't the word that a call loads, or there is one
abbrev pub Loaded : RowInfo → Operands → Type 0
Loaded row o = (loads_plt_word row.size row.kind && not o.has_plt_entry) ≡ false

no_load : (row : RowInfo) (o : Operands) → names_plt_entry row.kind ≡ false → Loaded row o
no_load row o none = ap (λ b. b && not o.has_plt_entry) (no_word row.size row.kind none)

pub lacks_none : (row : RowInfo) (o : Operands) (n : ℕ) (got : Bool) → names_got_entry row.kind ≡ got
    → (got && not o.has_got_entry) ≡ false → Loaded row o → is_offset row.kind ≡ false
    → formula row.kind row (completed o) ≡ Some n → value_given row o ≡ Ok (cast_signed w64 n)
lacks_none row o n got is there loaded no_offset found =
    let entry = ap (λ b. (b && not o.has_got_entry) || (loads_plt_word row.size row.kind && not o.has_plt_entry)) is
    ∙ (ap (λ b. b || (loads_plt_word row.size row.kind && not o.has_plt_entry)) there ∙ loaded) in
    cond-false _ (Err NoEntry) _ entry
    ∙ (cond-false _ (Err NoTlsBase) _ (ap (λ b. b && not o.has_tls_base) no_offset)
    ∙ ap (λ x. or_no_value (read_signed x)) found)

-- a kind that names neither an entry nor L
without_entry : (row : RowInfo) (o : Operands) (kind : RelocationKind) → row.kind ≡ kind
    → names_got_entry kind ≡ false → names_plt_entry kind ≡ false
    → value_given row o
    ≡ (if is_offset kind && not o.has_tls_base then Err NoTlsBase else or_no_value (read_signed (formula kind row (completed o))))
without_entry row o kind is no_got no_plt =
    cond-false _ (Err NoEntry) _
    (ap (λ b. (b && not o.has_got_entry) || (loads_plt_word row.size row.kind && not o.has_plt_entry)) (ap names_got_entry is ∙ no_got)
    ∙ no_load row o (ap names_plt_entry is ∙ no_plt))
    ∙ ap (λ k. if is_offset k && not o.has_tls_base then Err NoTlsBase else or_no_value (read_signed (formula k row (completed o)))) is

-- the kind whose formula depends on the size
pub relative_value : (row : RowInfo) (o : Operands) → row.kind ≡ Relative
    → value_given row o ≡ Ok (cast_signed w64 (relative_term row.size row o))
relative_value row o is =
    lacks_none row o (relative_term row.size row o) false (ap names_got_entry is) refl (no_load row o (ap names_plt_entry is))
    (ap is_offset is) (ap (λ k. formula k row (completed o)) is ∙ ap Some (same row.size))
  where
    same : (size : RowSize) → relative_term size row (completed o) ≡ relative_term size row o
    same (ByteSize n) = refl
    same (BitMasking bits insn) = refl

-- a kind without an entry
pub plain_value : (row : RowInfo) (o : Operands) (term : RowInfo → Operands → ℕ)
    → HasTerm term false row.kind → value_given row o ≡ Ok (cast_signed w64 (term row o))
plain_value row o term has = lacks_none row o (term row o) false has.got_is refl (no_load row o has.no_plt) has.no_offset (has.formula_is row o)

-- a kind with one that is there
pub entry_value : (row : RowInfo) (o : Operands) (term : RowInfo → Operands → ℕ)
    → HasTerm term true row.kind → o.has_got_entry ≡ true → value_given row o ≡ Ok (cast_signed w64 (term row o))
entry_value row o term has there =
    lacks_none row o (term row o) true has.got_is (ap not there) (no_load row o has.no_plt) has.no_offset (has.formula_is row o)

pub no_entry_value : (row : RowInfo) (o : Operands) (term : RowInfo → Operands → ℕ)
    → HasTerm term true row.kind → o.has_got_entry ≡ false → value_given row o ≡ Err NoEntry
no_entry_value row o term has none =
    cond-true _ (Err NoEntry) _
    (ap (λ b. (b && not o.has_got_entry) || (loads_plt_word row.size row.kind && not o.has_plt_entry)) has.got_is
    ∙ ap (λ b. not b || (loads_plt_word row.size row.kind && not o.has_plt_entry)) none)

-- ---- formulas

-- what holds of a kind with a formula
abbrev pub Has : Formula → RelocationKind → Type 0
Has formulas.Without kind = (kind ≡ kinds.None) ⊎ ((kind ≡ kinds.Alignment) ⊎ (kind ≡ kinds.TlsDescCall))
Has formulas.Symbol kind = HasTerm symbol_term false kind
Has formulas.SymbolLessPlace kind = (kind ≡ Relative) ⊎ (kind ≡ kinds.RelativeRiscVLow12)
Has formulas.LoongArchHigh kind = HasTerm (λ r o. high_distance (symbol_term r o) (sequence_pc r.size o.place)) false kind
Has formulas.EntryLessPlace kind = HasTerm (λ r o. difference_64 (entry_term r o) (place_term r o)) true kind
Has formulas.LoongArchEntry kind = HasTerm (λ r o. high_distance (entry_term r o) (sequence_pc r.size o.place)) true kind
Has formulas.EntryLessGot kind = HasTerm (λ r o. difference_64 (entry_term r o) (got_term r o)) true kind
Has formulas.Entry kind = HasTerm entry_term true kind
Has formulas.SymbolLessGot kind = HasTerm (λ r o. difference_64 (symbol_term r o) (got_term r o)) false kind
Has formulas.PltLessGot kind = kind ≡ kinds.PltRelGotBase
Has formulas.PltLessPlace kind = kind ≡ kinds.PltRelative
Has formulas.Size kind = HasTerm size_term false kind
Has formulas.Offset kind = (kind ≡ kinds.DtpOff) ⊎ (kind ≡ kinds.TpOff)

has : (kind : RelocationKind) → Has (formula_of kind) kind
has kinds.None = inl refl
has kinds.Alignment = inr (inl refl)
has kinds.TlsDescCall = inr (inr refl)
has Relative = inl refl
has kinds.RelativeRiscVLow12 = inr refl
has kinds.PltRelGotBase = refl
has kinds.PltRelative = refl
has kinds.DtpOff = inl refl
has kinds.TpOff = inr refl
has kind = record { formula_is = λ r o. refl; got_is = refl; no_plt = refl; no_offset = refl; unset = λ size. refl }

pub has_formula : (row : RowInfo) (terms : FormulaTerms) (f : Formula) → terms ≡ terms_of row → terms.formula ≡ f
    → Has f row.kind
has_formula row terms f given is = subst (λ g. Has g row.kind) (sym (ap (λ t. t.formula) given) ∙ is) (has row.kind)

-- no formula
pub without_value : (row : RowInfo) (o : Operands) → Has formulas.Without row.kind → value_given row o ≡ Err NoValue
without_value row o (inl is) = without_entry row o kinds.None is refl refl
without_value row o (inr (inl is)) = without_entry row o kinds.Alignment is refl refl
without_value row o (inr (inr is)) = without_entry row o kinds.TlsDescCall is refl refl

-- an offset of a thread-local symbol
pub offset_value : (row : RowInfo) (o : Operands) → Has formulas.Offset row.kind
    → value_given row o
    ≡ (if not o.has_tls_base then Err NoTlsBase else Ok (cast_signed w64 (difference_64 (symbol_term row o) o.tls_base)))
offset_value row o (inl is) = without_entry row o kinds.DtpOff is refl refl
offset_value row o (inr is) = without_entry row o kinds.TpOff is refl refl

-- what is made of the entry, or that there is none
pub entry_given : (row : RowInfo) (o : Operands) (terms : FormulaTerms) (term : RowInfo → Operands → ℕ)
    (made : ℕ → ℕ) → terms ≡ terms_of row → HasTerm term true row.kind → made (entry_term row o) ≡ term row o
    → value_given row o ≡ signed_in (of_entry made (entry_of_terms terms o))
entry_given row o terms term made is has made_is =
    elim (cases_Bool o.has_got_entry) [
      | inl there ↦
          entry_value row o term has there
          ∙ sym (at (cond-true o.has_got_entry _ (Err NoEntry) there ∙ ap Ok (entry_is row o)) ∙ ap (λ n. Ok (cast_signed w64 n)) made_is)
      | inr none ↦ no_entry_value row o term has none ∙ sym (at (cond-false o.has_got_entry _ (Err NoEntry) none))
    ]
  where
    at : {e : Result ℕ FormulaError} → entry_of_terms (terms_of row) o ≡ e
        → signed_in (of_entry made (entry_of_terms terms o)) ≡ signed_in (of_entry made e)
    at given = ap (λ e. signed_in (of_entry made e)) (ap (λ t. entry_of_terms t o) is ∙ given)

pub and_false : (b : Bool) → (b && false) ≡ false
and_false true = refl
and_false false = refl

or_true : (b : Bool) → (b || true) ≡ true
or_true true = refl
or_true false = refl

-- what is made of L, or that there is none
pub plt_given : (row : RowInfo) (o : Operands) (terms : FormulaTerms) (made : ℕ → ℕ) → terms ≡ terms_of row
    → names_got_entry row.kind ≡ false → is_offset row.kind ≡ false
    → formula row.kind row (completed o) ≡ Some (made (plt_term row (completed o)))
    → value_given row o ≡ signed_in (of_entry made (plt_of terms o))
plt_given row o terms made is no_got no_offset made_is =
    elim (cases_Bool o.has_plt_entry) [
      | inl there ↦
          by (ap (λ b. word && not b) there ∙ and_false word)
          (cond-true o.has_plt_entry _ _ there ∙ ap (λ n. Ok (sum n)) (sym (cond-true o.has_plt_entry o.plt_entry o.symbol there)))
      | inr none ↦ elim (cases_Bool word) [
        | inl loads ↦
            cond-true _ (Err NoEntry) _
            (ap (λ b. got || (b && not o.has_plt_entry)) loads ∙ (ap (λ b. got || not b) none ∙ or_true got))
            ∙ sym (at (cond-false o.has_plt_entry _ _ none ∙ cond-true word (Err NoEntry) _ loads))
        | inr plain ↦
            by (ap (λ b. b && not o.has_plt_entry) plain)
            (cond-false o.has_plt_entry _ _ none
            ∙ (cond-false word (Err NoEntry) _ plain ∙ ap (λ n. Ok (sum n)) (sym (cond-false o.has_plt_entry o.plt_entry o.symbol none))))
      ]
    ]
  where
    word : Bool
    word = loads_plt_word row.size row.kind

    got : Bool
    got = names_got_entry row.kind && not o.has_got_entry

    sum : ℕ → ℕ
    sum base = sum_64 (sum_64 base (cast_unsigned w64 o.addend)) (bias_number row.bias)

    at : {e : Result ℕ FormulaError} → plt_of (terms_of row) o ≡ e
        → signed_in (of_entry made (plt_of terms o)) ≡ signed_in (of_entry made e)
    at given = ap (λ e. signed_in (of_entry made e)) (ap (λ t. plt_of t o) is ∙ given)

    by : Loaded row o → plt_of (terms_of row) o ≡ Ok (plt_term row (completed o))
        → value_given row o ≡ signed_in (of_entry made (plt_of terms o))
    by loaded found =
        lacks_none row o (made (plt_term row (completed o))) false no_got refl loaded no_offset made_is ∙ sym (at found)

-- ---- a value that is given

abbrev IsNoOk : Result ℤ FormulaError → Type 0
IsNoOk (Ok n) = ⊥
IsNoOk (Err error) = Unit

no_ok : (error : FormulaError) (v : ℤ) → Err error ≡ Ok v → ⊥
no_ok error v is = subst (λ x. IsNoOk x) is tt

value_or : ℤ → Result ℤ FormulaError → ℤ
value_or other (Ok v) = v
value_or other (Err error) = other

of_value : (x : Option ℤ) (v : ℤ) → or_no_value x ≡ Ok v → x ≡ Some v
unfolding value_or
of_value None v is = absurd (no_ok NoValue v is)
of_value (Some w) v is = ap (λ r. Some (value_or w r)) is

-- what the formula has is there, and it has that value
pub given : (row : RowInfo) (o : Operands) (v : ℤ) → value_given row o ≡ Ok v
    → (lacks row o ≡ false) × (value_of row (completed o) ≡ Some v)
given row o v is =
    elim (cases_Bool (lacks_entry row o)) [
      | inl entry ↦ absurd (no_ok NoEntry v (sym (cond-true (lacks_entry row o) (Err NoEntry) _ entry) ∙ is))
      | inr there ↦ elim (cases_Bool (lacks_tls_base row o)) [
        | inl base ↦
            absurd (no_ok NoTlsBase v (sym (cond-false (lacks_entry row o) (Err NoEntry) _ there
            ∙ cond-true (lacks_tls_base row o) (Err NoTlsBase) _ base) ∙ is))
        | inr also ↦ (
          ap (λ b. b || lacks_tls_base row o) there ∙ also,
          of_value (value_of row (completed o)) v (sym (cond-false (lacks_entry row o) (Err NoEntry) _ there
              ∙ cond-false (lacks_tls_base row o) (Err NoTlsBase) _ also) ∙ is),
        )
      ]
    ]

no_value : (x : Option ℤ) (error : FormulaError) → or_no_value x ≡ Err error → x ≡ None
no_value None error is = refl
no_value (Some v) error is = absurd (no_ok error v (sym is))

-- without one it has none of what there is
pub not_given : (row : RowInfo) (o : Operands) (error : FormulaError) → value_given row o ≡ Err error
    → lacks row o ≡ false → value_of row (completed o) ≡ None
not_given row o error is lacks_none =
    let parts = or_parts (lacks_entry row o) (lacks_tls_base row o) lacks_none in
    no_value (value_of row (completed o)) error
    (sym (cond-false (lacks_entry row o) (Err NoEntry) _ (parts.0)
    ∙ cond-false (lacks_tls_base row o) (Err NoTlsBase) _ (parts.1)) ∙ is)
  where
    or_parts : (a b : Bool) → (a || b) ≡ false → (a ≡ false) × (b ≡ false)
    or_parts true b is = absurd (true≢false is)
    or_parts false b is = (refl, is)
