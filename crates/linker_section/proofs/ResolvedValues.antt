-- Values that are found by what is known of symbols.
use Rattle.linker_section.proofs.Imports.{Addresses, Architecture, Bool, Err, IsLabelResolved, IsLowResolved, IsOutcome, IsResolvedBy, IsResolvedIn, IsResolvedUnless, IsRow, Knowledge, Known, List, None, Ok, Option, Outcome, Rela, RowInfo, Some, Values, and_parts, by_high, by_known, cases_Bool, cond-false, cond-true, difference_64, false, has_value, inl, inr, is_defined_in, is_left_out, is_of_pair, is_offset, is_skipped, known_operands, known_value, left_out, names_label, not, not-true, refl, relocation_in, subst, sym, true, true≢false, without, ℕ, ℤ, ◌&&◌, ◌∙◌, ◌≡◌}
use Rattle.linker_section.proofs.Rows.{one_row}
use Rattle.linker_section.proofs.Valued.{IsNoValue, IsSomeValue, by_none, low_by_none, unlabelled, unpaired}

-- ---- no value

value_none : (architecture : Architecture) (addresses : Addresses) (row : RowInfo)
    (r : Rela) (known : Option Known)
    → Ok None ≡ known_value architecture addresses row r known → has_value row.kind ≡ false
value_none architecture addresses row r known is =
    elim (cases_Bool (has_value row.kind)) [
      | inl has ↦ by_none (is_offset row.kind && (not addresses.has_tls && is_defined_in known)) row
          (known_operands architecture addresses row r known)
          (subst (λ x. IsNoValue x) (is ∙ cond-true (has_value row.kind) _ _ has) tt)
      | inr has ↦ has
    ]

low_none : (architecture : Architecture) (addresses : Addresses) (bytes : List ℕ) (knowledge : Knowledge)
    (row : RowInfo) (at : ℕ)
    → IsLowResolved architecture addresses bytes knowledge row at (Ok None)
    → has_value row.kind ≡ false
low_none architecture addresses bytes knowledge row at (without none is) =
    absurd (subst (λ x. IsNoValue x) is tt)
low_none architecture addresses bytes knowledge row at (by_high {r} {high} part is) =
    low_by_none row high (known_operands architecture addresses high r (knowledge part.index r))
    (subst (λ x. IsNoValue x) is tt)

label_none : (architecture : Architecture) (addresses : Addresses) (bytes : List ℕ)
    (knowledge : Knowledge) (row : RowInfo) (known : Option Known)
    → IsLabelResolved architecture addresses bytes knowledge row known (Ok None)
    → has_value row.kind ≡ false
label_none architecture addresses bytes knowledge row None is =
    absurd (subst (λ x. IsNoValue x) is tt)
label_none architecture addresses bytes knowledge row (Some label) is =
    low_none architecture addresses bytes knowledge row (difference_64 label.symbol.address addresses.section) is

resolved_none : (label : Bool) (architecture : Architecture) (addresses : Addresses)
    (bytes : List ℕ) (knowledge : Knowledge) (row : RowInfo) (r : Rela)
    (known : Option Known)
    → IsResolvedBy label architecture addresses bytes knowledge row r known (Ok None)
    → has_value row.kind ≡ false
resolved_none true architecture addresses bytes knowledge row r known is =
    label_none architecture addresses bytes knowledge row known is
resolved_none false architecture addresses bytes knowledge row r known is =
    value_none architecture addresses row r known is

-- ---- a value

resolved_some : (architecture : Architecture) (addresses : Addresses) (bytes : List ℕ)
    (knowledge : Knowledge) (i : ℕ) (row : RowInfo) (v : ℤ)
    → IsResolvedIn architecture addresses bytes knowledge i (Some row) (Ok (Some v))
    → has_value row.kind ≡ true
resolved_some architecture addresses bytes knowledge i row v is =
    let r = relocation_in bytes i in
    elim (cases_Bool (has_value row.kind)) [
      | inl has ↦ has
      | inr isnt ↦
          let own : Ok (Some v) ≡ known_value architecture addresses row r (knowledge i r) =
          subst (λ label. IsResolvedBy label architecture addresses bytes knowledge row r (knowledge i r) (Ok (Some v)))
          (unlabelled row.size row.kind isnt) is in
          absurd (subst (λ x. IsSomeValue x) (own ∙ cond-false (has_value row.kind) _ _ isnt) tt)
    ]

-- ---- what is found

abbrev IsFoundSome : Outcome → Type 0
IsFoundSome (Ok (Some found)) = Unit
IsFoundSome outcome = ⊥

-- the row of a relocation that is written nothing to isn't of a pair
alone_unless : (skipped : Bool) (architecture : Architecture) (addresses : Addresses)
    (bytes : List ℕ) (knowledge : Knowledge) (i : ℕ) (row : RowInfo)
    → skipped ≡ is_skipped (Some row) (knowledge i (relocation_in bytes i))
    → IsResolvedUnless skipped architecture addresses bytes knowledge i (Some row) (Ok None)
    → is_of_pair row ≡ false
alone_unless true architecture addresses bytes knowledge i row same is =
    not-true (is_of_pair row)
    ((and_parts (is_left_out (knowledge i (relocation_in bytes i))) (not (is_of_pair row)) (sym same)).1)
alone_unless false architecture addresses bytes knowledge i row same is =
    unpaired row (resolved_none (names_label row.size row.kind) architecture addresses bytes knowledge row
    (relocation_in bytes i) (knowledge i (relocation_in bytes i)) (is.0))

-- and it has no value, if it isn't left out
none_unless : (skipped : Bool) (architecture : Architecture) (addresses : Addresses)
    (bytes : List ℕ) (knowledge : Knowledge) (i : ℕ) (row : RowInfo)
    → skipped ≡ is_skipped (Some row) (knowledge i (relocation_in bytes i))
    → is_left_out (knowledge i (relocation_in bytes i)) ≡ false
    → IsResolvedUnless skipped architecture addresses bytes knowledge i (Some row) (Ok None)
    → has_value row.kind ≡ false
none_unless true architecture addresses bytes knowledge i row same isnt is =
    absurd (true≢false (sym ((and_parts (is_left_out (knowledge i (relocation_in bytes i))) (not (is_of_pair row)) (sym same)).0) ∙ isnt))
none_unless false architecture addresses bytes knowledge i row same isnt is =
    resolved_none (names_label row.size row.kind) architecture addresses bytes knowledge row
    (relocation_in bytes i) (knowledge i (relocation_in bytes i)) (is.0)

some_unless : (skipped : Bool) (architecture : Architecture) (addresses : Addresses)
    (bytes : List ℕ) (knowledge : Knowledge) (i : ℕ) (row : Option RowInfo)
    (found : RowInfo × ℤ)
    → IsResolvedUnless skipped architecture addresses bytes knowledge i row (Ok (Some found))
    → (row ≡ Some (found.0)) × (has_value (found.0).kind ≡ true)
some_unless true architecture addresses bytes knowledge i row found is =
    absurd (subst (λ x. IsFoundSome x) is tt)
some_unless false architecture addresses bytes knowledge i row found is = (
  is.is_row,
  resolved_some architecture addresses bytes knowledge i (found.0) (found.1)
      (subst (λ x. IsResolvedIn architecture addresses bytes knowledge i x (Ok (Some (found.1)))) is.is_row is.is_value),
)

pub known_outcome : (architecture : Architecture) (addresses : Addresses) (bytes : List ℕ)
    (knowledge : Knowledge) (i : ℕ) (outcome : Outcome) (values : Values)
    → ((x : Outcome) → by_known knowledge architecture addresses bytes i x
    → values architecture addresses bytes i x)
    → by_known knowledge architecture addresses bytes i outcome
    → IsOutcome architecture addresses bytes values (left_out knowledge bytes) i outcome
known_outcome architecture addresses bytes knowledge i (Ok (Some found)) values are is =
    let some = some_unless (is_skipped (is.0) (knowledge i (relocation_in bytes i))) architecture addresses bytes knowledge i (is.0) found (is.2) in
    record {
      is_row = subst (IsRow architecture (relocation_in bytes i).r_type) (some.0) (is.1);
      valued = some.1;
      is_value = are (Ok (Some found)) is;
    }
known_outcome architecture addresses bytes knowledge i (Ok None) values are is =
    let r_type = (relocation_in bytes i).r_type in
    let known = knowledge i (relocation_in bytes i) in
    let unless : (row : RowInfo) → IsRow architecture r_type (Some row)
    → IsResolvedUnless (is_skipped (Some row) known) architecture addresses bytes knowledge i (Some row) (Ok None) =
    λ row is_row. subst (λ x. IsResolvedUnless (is_skipped x known) architecture addresses bytes knowledge i x (Ok None))
    (one_row architecture r_type (is.0) (Some row) (is.1) is_row) (is.2) in
    record {
      row = is.0;
      is_row = is.1;
      is_value = are (Ok None) is;
      alone = λ row is_row. alone_unless (is_skipped (Some row) known) architecture addresses bytes knowledge i row refl (unless row is_row);
      none = λ isnt row is_row. none_unless (is_skipped (Some row) known) architecture addresses bytes knowledge i row refl isnt (unless row is_row);
    }
known_outcome architecture addresses bytes knowledge i (Err why) values are is = are (Err why) is
