-- What is found by a look-up is found once.
use Rattle.linker_section.proofs.Imports.{Addresses, Architecture, AreApart, Bool, Err, IsInReach, IsLabelResolved, IsLowResolved, IsResolvedBy, IsResolvedIn, IsResolvedUnless, IsResolvedValue, IsRow, IsUnresolved, IsValued, Knowledge, Known, List, None, Ok, Option, Outcome, Rela, Result, RowInfo, Some, ValueError, ap, by_high, by_known, difference_64, false, is_filled, is_skipped, known_operands, length, low_by, names_label, refl, relocation_in, stubless, subst, sym, too_far, true, true≢false, unfilled, valueless, without, ℕ, ℤ, ◌/◌, ◌∙◌, ◌≡◌}
use Rattle.linker_section.proofs.Exact.{AreUnique, first_of, is_ok, of_ok, no_high, one_high}
use Rattle.linker_section.proofs.ResolvedValues.{known_outcome}
use Rattle.linker_section.proofs.Rows.{one_row}

-- ---- what is in an outcome

abbrev of_found : Option (RowInfo × ℤ) → Outcome → Option (RowInfo × ℤ)
of_found x (Ok y) = y
of_found x (Err why) = x

abbrev is_found : Outcome → Bool
is_found (Ok x) = true
is_found (Err why) = false

module _ (architecture : Architecture) (addresses : Addresses) (bytes : List ℕ) (knowledge : Knowledge) (section : List ℕ) (apart : AreApart architecture bytes section (length bytes / 24)) where
  -- ---- one value

  one_low : (row : RowInfo) (at : ℕ) (x y : Result (Option ℤ) ValueError)
      → IsLowResolved architecture addresses bytes knowledge row at x
      → IsLowResolved architecture addresses bytes knowledge row at y → x ≡ y
  one_low row at x y (without none a) (without other b) = a ∙ sym b
  one_low row at x y (without none a) (by_high {r} {high} part b) =
      absurd (no_high architecture bytes section apart row.kind at r high part none)
  one_low row at x y (by_high {r} {high} part a) (without none b) =
      absurd (no_high architecture bytes section apart row.kind at r high part none)
  one_low row at x y (by_high {r} {high} part a) (by_high {r = s} {high = other} again b) =
      let one = one_high architecture bytes section apart row.kind at r s high other part again in
      a ∙ (ap (λ h. low_by row h (known_operands architecture addresses h r (knowledge part.index r))) one.row_is
      ∙ (ap (λ i. low_by row other (known_operands architecture addresses other r (knowledge i r))) one.index_is
      ∙ (ap (λ z. low_by row other (known_operands architecture addresses other z (knowledge again.index z))) one.relocation_is ∙ sym b)))

  one_label : (row : RowInfo) (known : Option Known) (x y : Result (Option ℤ) ValueError)
      → IsLabelResolved architecture addresses bytes knowledge row known x
      → IsLabelResolved architecture addresses bytes knowledge row known y → x ≡ y
  one_label row None x y a b = a ∙ sym b
  one_label row (Some label) x y a b = one_low row (difference_64 label.symbol.address addresses.section) x y a b

  one_by : (label : Bool) (row : RowInfo) (r : Rela) (known : Option Known)
      (x y : Result (Option ℤ) ValueError)
      → IsResolvedBy label architecture addresses bytes knowledge row r known x
      → IsResolvedBy label architecture addresses bytes knowledge row r known y → x ≡ y
  one_by true row r known x y a b = one_label row known x y a b
  one_by false row r known x y a b = a ∙ sym b

  one_in : (i : ℕ) (row : Option RowInfo) (x y : Result (Option ℤ) ValueError)
      → IsResolvedIn architecture addresses bytes knowledge i row x
      → IsResolvedIn architecture addresses bytes knowledge i row y → x ≡ y
  one_in i None x y a b = a ∙ sym b
  one_in i (Some row) x y a b =
      one_by (names_label row.size row.kind) row (relocation_in bytes i) (knowledge i (relocation_in bytes i)) x y a b

  -- ---- what is found once

  some_none : {A : Type 0} (i : ℕ) (row : Option RowInfo) (v : ℤ)
      → IsResolvedIn architecture addresses bytes knowledge i row (Ok (Some v))
      → IsResolvedIn architecture addresses bytes knowledge i row (Ok None) → A
  some_none i row v a b =
      absurd (subst IsNone (ap (of_ok None) (one_in i row (Ok None) (Ok (Some v)) b a)) tt)
    where
      IsNone : Option ℤ → Type 0
      IsNone None = Unit
      IsNone (Some v) = ⊥

  one_number : (i : ℕ) (row : Option RowInfo) (v w : ℤ)
      → IsResolvedIn architecture addresses bytes knowledge i row (Ok (Some v))
      → IsResolvedIn architecture addresses bytes knowledge i row (Ok (Some w)) → v ≡ w
  one_number i row v w a b = ap (first_of v) (ap (of_ok None) (one_in i row (Ok (Some v)) (Ok (Some w)) a b))

  found_once : (skipped : Bool) (i : ℕ) (row : Option RowInfo) (x y : Option (RowInfo × ℤ))
      → IsResolvedUnless skipped architecture addresses bytes knowledge i row (Ok x)
      → IsResolvedUnless skipped architecture addresses bytes knowledge i row (Ok y) → x ≡ y
  found_once true i row x y a b = ap (of_found x) (a ∙ sym b)
  found_once false i row None None a b = refl
  found_once false i row (Some f) None a b = some_none i row (f.1) a.is_value (b.0)
  found_once false i row None (Some f) a b = some_none i row (f.1) b.is_value (a.0)
  found_once false i row (Some f) (Some g) a b =
      ap (λ r. Some (r, f.1)) (ap (first_of (f.0)) (sym a.is_row ∙ b.is_row))
      ∙ ap (λ v. Some (g.0, v)) (one_number i row (f.1) (g.1) a.is_value b.is_value)

  -- ---- and isn't an error

  some_error : (i : ℕ) (row : Option RowInfo) (f : RowInfo × ℤ) (why : ValueError)
      → IsResolvedValue architecture addresses bytes knowledge i row f
      → IsUnresolved architecture addresses bytes knowledge i row why → ⊥
  some_error i row f why a (valueless is) =
      true≢false (ap is_ok (one_in i row (Ok (Some (f.1))) (Err why) a.is_value is))
  some_error i row f _ a (unfilled none isnt) = some_none i row (f.1) a.is_value none
  some_error i row f _ a (stubless v is lacks) = true≢false (sym lacks ∙ a.keeps)
  some_error i row f _ a (too_far v is isnt) =
      isnt (subst (IsInReach architecture bytes (relocation_in bytes i)) (one_number i row (f.1) v a.is_value is) a.in_reach)

  none_error : (i : ℕ) (row : Option RowInfo) (why : ValueError)
      → IsResolvedIn architecture addresses bytes knowledge i row (Ok None)
      → is_filled architecture addresses (relocation_in bytes i) ≡ true
      → IsUnresolved architecture addresses bytes knowledge i row why → ⊥
  none_error i row why a filled (valueless is) =
      true≢false (ap is_ok (one_in i row (Ok None) (Err why) a is))
  none_error i row _ a filled (unfilled none isnt) = true≢false (sym filled ∙ isnt)
  none_error i row _ a filled (stubless v is lacks) = some_none i row v is a
  none_error i row _ a filled (too_far v is isnt) = some_none i row v is a

  no_error : (skipped : Bool) (i : ℕ) (row : Option RowInfo) (x : Option (RowInfo × ℤ))
      (why : ValueError) → IsResolvedUnless skipped architecture addresses bytes knowledge i row (Ok x)
      → IsResolvedUnless skipped architecture addresses bytes knowledge i row (Err why) → ⊥
  no_error true i row x why a b = true≢false (sym (ap is_found b))
  no_error false i row (Some f) why a b = some_error i row f why a b
  no_error false i row None why a b = none_error i row why (a.0) (a.1) b

  -- ---- by the relocation's row

  same_row : (i : ℕ) (x y : Outcome) (a : by_known knowledge architecture addresses bytes i x)
      → by_known knowledge architecture addresses bytes i y
      → IsResolvedUnless (is_skipped (a.0) (knowledge i (relocation_in bytes i))) architecture addresses bytes knowledge i (a.0) y
  same_row i x y a b =
      subst (λ row. IsResolvedUnless (is_skipped row (knowledge i (relocation_in bytes i))) architecture addresses bytes knowledge i row y)
      (one_row architecture (relocation_in bytes i).r_type (b.0) (a.0) (b.1) (a.1)) (b.2)

  found_row : (i : ℕ) (row : RowInfo) (v : ℤ)
      → by_known knowledge architecture addresses bytes i (Ok (Some (row, v)))
      → IsRow architecture (relocation_in bytes i).r_type (Some row)
  found_row i row v is =
      let has : IsValued architecture addresses bytes (by_known knowledge) i row v =
      known_outcome architecture addresses bytes knowledge i (Ok (Some (row, v))) (by_known knowledge) (λ x is. is) is in
      has.is_row

  pub unique_by_known : AreUnique architecture addresses bytes (by_known knowledge)
  unique_by_known = record {
    same = λ i x y a b. found_once (is_skipped (a.0) (knowledge i (relocation_in bytes i))) i (a.0) x y (a.2) (same_row i (Ok x) (Ok y) a b);
    no_error = λ i x why a b. no_error (is_skipped (a.0) (knowledge i (relocation_in bytes i))) i (a.0) x why (a.2) (same_row i (Ok x) (Err why) a b);
    is_row = found_row;
  }
