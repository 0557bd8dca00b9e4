-- Which relocations have a value.
use Rattle.linker_section.proofs.Imports.{Addresses, Architecture, Bool, Err, IsMark, IsValue, List, None, Ok, Operands, Option, Rela, RelocationKind, Result, RowInfo, RowSize, Some, Symbol, ValueError, ap, cases_Bool, ends_pair, false, formula, has_value, inl, inr, is_of_pair, low_by, names_label, read_signed, refl, subst, sym, true, true≢false, value_by, value_of, ℕ, ℤ, ◌||◌, ◌∙◌, ◌≡◌}
use Rattle.linker_elf.specs.declared.elf.RelocationKind.TheVariants as kinds
use Rattle.linker_section.proofs.Composing.{unvalued_begins_none, unvalued_ends_none}

-- ---- what a result is

abbrev pub IsNoValue : Result (Option ℤ) ValueError → Type 0
IsNoValue (Ok None) = Unit
IsNoValue (Ok (Some v)) = ⊥
IsNoValue (Err error) = ⊥

abbrev pub IsSomeValue : Result (Option ℤ) ValueError → Type 0
IsSomeValue (Ok None) = ⊥
IsSomeValue (Ok (Some v)) = Unit
IsSomeValue (Err error) = ⊥

abbrev pub IsSomeRow : Option RowInfo → Type 0
IsSomeRow None = ⊥
IsSomeRow (Some row) = Unit

pub none_is_some : {row : RowInfo} {A : Type 0} → None ≡ Some row → A
none_is_some same = absurd (subst (λ x. IsSomeRow x) (sym same) tt)

-- ---- no value

read_none : (kind : RelocationKind) (n : Option ℕ) → (n ≡ None → has_value kind ≡ false)
    → IsNoValue (Ok (read_signed n)) → has_value kind ≡ false
read_none kind None none is = none refl
read_none kind (Some n) none is = absurd is

abbrev IsSomeNumber : Option ℕ → Type 0
IsSomeNumber None = ⊥
IsSomeNumber (Some n) = Unit

formula_some : (kind : RelocationKind) (row : RowInfo) (o : Operands)
    → has_value kind ≡ true → IsSomeNumber (formula kind row o)
formula_some kinds.None row o has = absurd (true≢false (sym has))
formula_some kinds.Alignment row o has = absurd (true≢false (sym has))
formula_some kinds.TlsDescCall row o has = absurd (true≢false (sym has))
formula_some _ row o has = tt

value_none : (row : RowInfo) (o : Operands) → IsNoValue (Ok (value_of row o))
    → has_value row.kind ≡ false
value_none row o is =
    read_none row.kind (formula row.kind row o)
    (λ none. elim (cases_Bool (has_value row.kind)) [
      | inl has ↦ absurd (subst (λ x. IsSomeNumber x) none (formula_some row.kind row o has))
      | inr has ↦ has
    ]) is

pub by_none : (lacks : Bool) (row : RowInfo) (operands : Result Operands ValueError)
    → IsNoValue (value_by lacks row operands) → has_value row.kind ≡ false
by_none true row (Ok o) is = absurd is
by_none false row (Ok o) is = value_none row o is
by_none lacks row (Err error) is = absurd is

pub low_by_none : (row high : RowInfo) (operands : Result Operands ValueError)
    → IsNoValue (low_by row high operands) → has_value row.kind ≡ false
low_by_none row high (Ok o) is = value_none row _ is
low_by_none row high (Err error) is = absurd is

-- what a mark says of the value
pub mark_none : (architecture : Architecture) (addresses : Addresses) (bytes : List ℕ)
    (symbols : List Symbol) (r : Rela) → IsMark architecture addresses bytes symbols r
    → IsValue architecture addresses bytes symbols r (Ok None)
mark_none architecture addresses bytes symbols r is = (is.0, is.1, is.2)

-- ---- a value

pub unlabelled : (size : RowSize) (kind : RelocationKind) → has_value kind ≡ false
    → names_label size kind ≡ false
unlabelled size kinds.None has = refl
unlabelled size kinds.Alignment has = refl
unlabelled size kinds.TlsDescCall has = refl
unlabelled size _ has = absurd (true≢false has)

pub unpaired : (row : RowInfo) → has_value row.kind ≡ false → is_of_pair row ≡ false
unpaired row none =
    ap (λ b. b || ends_pair row.size row.kind) (unvalued_begins_none row.size row.kind none)
    ∙ unvalued_ends_none row.size row.kind none
