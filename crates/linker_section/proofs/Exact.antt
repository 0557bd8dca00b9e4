-- A section that can be written has no fault: each relocation has one value.
use Rattle.linker_section.proofs.Imports.{Addresses, Architecture, AreApart, BeginsPair, BitMasking, BitRange, Bool, CanBeWrittenBy, Composes, DoesNotFit, Ended, Err, HasValue, IsAccepted, IsCause, IsCauseAt, IsField, IsFirstFaultBy, IsHighPart, IsHighPartAt, IsInReach, IsLowValue, IsNotAccepted, IsNumberOfPair, IsOfValue, IsOtherLength, IsPairRejected, IsRow, IsRowValue, IsUlebCause, IsValue, IsValueBy, IsValueIn, IsValueless, List, Misaligned, None, Ok, Option, OtherLength, OutOfReach, Overlaps, PairFits, Rela, RelocateError, RelocationError, RelocationKind, Result, RiscV, RowInfo, RowSize, SectionError, Some, Symbol, TooLarge, TooShort, UType, Uleb, Uleb128, Uleb128Error, Unsupported, Value, ValueError, Values, Write, and_parts, ap, arith, begins_pair, beyond, by_index, cases_Bool, cases_eq, cases_lt, cond-false, cond-true, drop, ends_pair, false, inl, inr, is_auipc, is_high_kind, is_high_part, is_of_pair, le-ltb, length, low_value, lt-ltb, ltb, names_label, no_stub, no_value, not_filled, of_number, of_pair, offset_at, or_left, refl, relocation_at, relocation_in, size_len, slice_get, slice_index, subst, sym, true, true≢false, ℕ, ℤ, ◌+◌, ◌/◌, ◌<◌, ◌^◌, ◌||◌, ◌∙◌, ◌≡◌, ◌≤◌, ◌⊎◌}
use Rattle.linker_elf.specs.declared.elf.RelocationKind.TheVariants as kinds
use Rattle.linker_section.proofs.Composing.{begun_ends_none}
use Rattle.linker_section.proofs.Fronts.{some_window}
use Rattle.linker_section.proofs.Rows.{one_row, one_info}
use Rattle.linker_section.proofs.Sized.{is_composing, first_composes, instruction_alone, auipc_valued}
use Rattle.linker_section.proofs.Stepping.{len_alone}
use Rattle.linker_section.proofs.Lengths.{pair_shows}
use Rattle.linker_section.proofs.Valued.{mark_none}

-- ---- one high part

record IsAuipcSize (size : RowSize) : Type 0 where
  pub bits : BitRange
  pub is : size ≡ BitMasking bits (RiscV UType)

auipc_size : (size : RowSize) → is_auipc size ≡ true → IsAuipcSize size
auipc_size (BitMasking bits (RiscV UType)) is = record { bits = bits; is = refl }
auipc_size _ is = absurd (true≢false (sym is))

-- what is at an index is there
record IsThere (bytes : List ℕ) (i : ℕ) (r : Rela) : Type 0 where
  pub within : i < length bytes / 24
  pub is : relocation_in bytes i ≡ r

abbrev pub first_of : {A : Type 0} → A → Option A → A
first_of x None = x
first_of x (Some y) = y

there_is : (bytes : List ℕ) (i : ℕ) (r : Rela) → relocation_at bytes i ≡ Some r → IsThere bytes i r
there_is bytes i r is =
    elim (cases_lt i (length bytes / 24)) [
      | inl within ↦ record {
        within = within;
        is = ap (first_of r) (sym (cond-true (ltb i (length bytes / 24)) (Some (relocation_in bytes i)) None (lt-ltb i (length bytes / 24) within)) ∙ is);
      }
      | inr past ↦ absurd (subst IsNone (sym (cond-false (ltb i (length bytes / 24)) (Some (relocation_in bytes i)) None (le-ltb i (length bytes / 24) past)) ∙ is) tt)
    ]
  where
    IsNone : Option Rela → Type 0
    IsNone None = Unit
    IsNone (Some r) = ⊥

-- a high part is of an instruction with a field
record IsHighField (architecture : Architecture) (bytes section : List ℕ) (i : ℕ)
    (row : RowInfo) : Type 0 where
  pub is_field : IsField architecture bytes section i row
  pub alone : is_composing row.kind ≡ false
  pub no_pair : is_of_pair row ≡ false

high_field : (architecture : Architecture) (bytes section : List ℕ) (low : RelocationKind) (at : ℕ)
    (r : Rela) (row : RowInfo) (high : IsHighPart architecture bytes low at r row)
    → IsHighField architecture bytes section high.index row
high_field architecture bytes section low at r row high =
    let i = high.index in
    let is_row : IsRow architecture (relocation_in bytes i).r_type (Some row) = subst (λ x. IsRow architecture x.r_type (Some row)) (sym (there_is bytes i r high.is_there).is) high.row_is in
    let auipc = auipc_size row.size (and_parts (is_auipc row.size) (is_high_kind low row.kind) high.is_high).0 in
    let no_pair : is_of_pair row ≡ false = ap (λ x. begins_pair x row.kind || ends_pair x row.kind) auipc.is in
    let len = len_alone row (drop (offset_at bytes i) section) (auipc_valued architecture _ row is_row (and_parts (is_auipc row.size) (is_high_kind low row.kind) high.is_high).0) no_pair in
    record {
      is_field = record { is_row = is_row; some = subst (λ k. 0 < k) (sym (len ∙ ap size_len auipc.is)) (some_window (RiscV UType)) };
      alone = instruction_alone architecture _ row auipc.bits (RiscV UType) is_row auipc.is;
      no_pair = no_pair;
    }

high_composes_none : {bytes : List ℕ} {i j : ℕ} {row other : RowInfo} {A : Type 0}
    → is_composing row.kind ≡ false → is_of_pair row ≡ false → Composes bytes i row j other → A
high_composes_none {bytes} {i} {j} {row} {other} alone no_pair composes =
    elim composes [
      | of_number offset window on ↦ absurd (true≢false (sym (first_composes row.kind other.kind on) ∙ alone))
      | of_pair offset next begins ends ↦
          absurd (true≢false (sym (or_left (begins_pair row.size row.kind) (ends_pair row.size row.kind) begins) ∙ no_pair))
    ]

abbrev pub of_ok : Option ℤ → Result (Option ℤ) ValueError → Option ℤ
of_ok x (Ok y) = y
of_ok x (Err error) = x

abbrev pub is_ok : Result (Option ℤ) ValueError → Bool
is_ok (Ok x) = true
is_ok (Err error) = false

module _ (architecture : Architecture) (bytes section : List ℕ) (apart : AreApart architecture bytes section (length bytes / 24)) where
  high_apart : (low : RelocationKind) (at : ℕ) (r s : Rela) (row other : RowInfo)
      (x : IsHighPart architecture bytes low at r row) (y : IsHighPart architecture bytes low at s other)
      → x.index < y.index → ⊥
  high_apart low at r s row other x y less =
      let f = high_field architecture bytes section low at r row x in
      let g = high_field architecture bytes section low at s other y in
      let b = there_is bytes y.index s y.is_there in
      let same : offset_at bytes x.index ≡ offset_at bytes y.index =
      ap (λ z. z.offset) (there_is bytes x.index r x.is_there).is ∙ (x.offset_is ∙ (sym y.offset_is ∙ sym (ap (λ z. z.offset) b.is))) in
      let fs = f.is_field.some in let gs = g.is_field.some in
      high_composes_none f.alone f.no_pair
      (apart x.index y.index row other less b.within f.is_field g.is_field ((omega (arith, same, gs)), (omega (arith, same, fs))))

  pub record IsOneHigh (r s : Rela) (row other : RowInfo) (i j : ℕ) : Type 0 where
    pub relocation_is : r ≡ s
    pub row_is : row ≡ other
    pub index_is : i ≡ j

  pub one_high : (low : RelocationKind) (at : ℕ) (r s : Rela) (row other : RowInfo)
      (x : IsHighPart architecture bytes low at r row) (y : IsHighPart architecture bytes low at s other)
      → IsOneHigh r s row other x.index y.index
  one_high low at r s row other x y =
      elim (cases_eq x.index y.index) [
        | inl is ↦
            let same : r ≡ s = sym (there_is bytes x.index r x.is_there).is ∙ (ap (relocation_in bytes) is ∙ (there_is bytes y.index s y.is_there).is) in
            record { relocation_is = same; row_is = one_info architecture _ row other x.row_is (subst (λ z. IsRow architecture z.r_type (Some other)) (sym same) y.row_is); index_is = is }
        | inr isnt ↦ elim (cases_lt x.index y.index) [
          | inl less ↦ absurd (high_apart low at r s row other x y less)
          | inr most ↦ absurd (high_apart low at s r other row y x (omega (arith, isnt, most)))
        ]
      ]

  pub no_high : (low : RelocationKind) (at : ℕ) (r : Rela) (row : RowInfo)
      → IsHighPart architecture bytes low at r row → IsHighPartAt architecture bytes low at None → ⊥
  no_high low at r row x none =
      elim (none x.index r x.is_there) [
        | inl elsewhere ↦ elsewhere x.offset_is
        | inr other ↦
            true≢false (sym x.is_high ∙ (ap (is_high_part low) (one_row architecture r.r_type (Some row) (other.0) x.row_is (other.1)) ∙ other.2))
      ]

  same_high : (low : RelocationKind) (at : ℕ) (x y : Option (Rela × RowInfo))
      → IsHighPartAt architecture bytes low at x → IsHighPartAt architecture bytes low at y → x ≡ y
  same_high low at (Some f) (Some g) x y =
      let one = one_high low at (f.0) (g.0) (f.1) (g.1) x y in
      ap (λ r. Some (r, f.1)) one.relocation_is ∙ ap (λ row. Some (g.0, row)) one.row_is
  same_high low at (Some f) None x y = absurd (no_high low at (f.0) (f.1) x y)
  same_high low at None (Some g) x y = absurd (no_high low at (g.0) (g.1) y x)
  same_high low at None None x y = refl

-- ---- one value

-- what is found of the relocation at an index is found once, and isn't an error
pub record AreUnique (architecture : Architecture) (addresses : Addresses) (bytes : List ℕ)
    (values : Values) : Type 0 where
  pub same : (i : ℕ) (x y : Option (RowInfo × ℤ)) → values architecture addresses bytes i (Ok x)
      → values architecture addresses bytes i (Ok y) → x ≡ y
  pub no_error : (i : ℕ) (x : Option (RowInfo × ℤ)) (why : ValueError)
      → values architecture addresses bytes i (Ok x) → values architecture addresses bytes i (Err why) → ⊥
  pub is_row : (i : ℕ) (row : RowInfo) (v : ℤ) → values architecture addresses bytes i (Ok (Some (row, v)))
      → IsRow architecture (relocation_in bytes i).r_type (Some row)

module _ (architecture : Architecture) (addresses : Addresses) (bytes : List ℕ) (symbols : List Symbol) (section : List ℕ) (apart : AreApart architecture bytes section (length bytes / 24)) where
  one_low : (row : RowInfo) (label : Option Symbol) (x y : Result (Option ℤ) ValueError)
      → IsLowValue architecture addresses bytes symbols row label x
      → IsLowValue architecture addresses bytes symbols row label y → x ≡ y
  one_low row None x y a b = a ∙ sym b
  one_low row (Some label) x y a b =
      a.2 ∙ (ap (low_value architecture addresses symbols row) (same_high architecture bytes section apart row.kind _ (a.0) (b.0) (a.1) (b.1)) ∙ sym (b.2))

  one_by : (labelled : Bool) (row : RowInfo) (r : Rela) (x y : Result (Option ℤ) ValueError)
      → IsValueBy labelled architecture addresses bytes symbols row r x
      → IsValueBy labelled architecture addresses bytes symbols row r y → x ≡ y
  one_by true row r x y a b = one_low row (slice_get symbols r.symbol) x y a b
  one_by false row r x y a b = a ∙ sym b

  one_in : (r : Rela) (row : Option RowInfo) (x y : Result (Option ℤ) ValueError)
      → IsValueIn architecture addresses bytes symbols r row x
      → IsValueIn architecture addresses bytes symbols r row y → x ≡ y
  one_in r None x y a b = a ∙ sym b
  one_in r (Some row) x y a b = one_by (names_label row.size row.kind) row r x y a b

  one_value : (r : Rela) (x y : Result (Option ℤ) ValueError)
      → IsValue architecture addresses bytes symbols r x
      → IsValue architecture addresses bytes symbols r y → x ≡ y
  one_value r x y a b =
      one_in r (a.0) x y (a.2)
      (subst (λ row. IsValueIn architecture addresses bytes symbols r row y) (one_row architecture r.r_type (b.0) (a.0) (b.1) (a.1)) (b.2))

  value_of_has : (r : Rela) (row : RowInfo) (v : ℤ)
      → HasValue architecture addresses bytes symbols r row v
      → IsValue architecture addresses bytes symbols r (Ok (Some v))
  value_of_has r row v has = (Some row, has.is_row, has.is_value)

  found_value : (r : Rela) (found : Option (RowInfo × ℤ)) → IsRowValue architecture addresses bytes symbols r (Ok found)
      → (x : Option ℤ) × IsValue architecture addresses bytes symbols r (Ok x)
  found_value r None is = (None, mark_none architecture addresses bytes symbols r is)
  found_value r (Some f) is = (Some (f.1), value_of_has r (f.0) (f.1) is)

  none_has : (r : Rela) (row : RowInfo) (v : ℤ) → IsValue architecture addresses bytes symbols r (Ok None)
      → HasValue architecture addresses bytes symbols r row v → ⊥
  none_has r row v none has =
      subst IsNone (ap (of_ok None) (one_value r (Ok None) (Ok (Some v)) none (value_of_has r row v has))) tt
    where
      IsNone : Option ℤ → Type 0
      IsNone None = Unit
      IsNone (Some v) = ⊥

  -- what is found is a relocation's row and value
  found_is : (r : Rela) (found : Option (RowInfo × ℤ)) (row : RowInfo) (v : ℤ)
      → IsRowValue architecture addresses bytes symbols r (Ok found)
      → HasValue architecture addresses bytes symbols r row v → found ≡ Some (row, v)
  found_is r None row v is has = absurd (none_has r row v (mark_none architecture addresses bytes symbols r is) has)
  found_is r (Some f) row v is has =
      ap (λ x. Some (x, f.1)) (one_info architecture r.r_type (f.0) row is.is_row has.is_row)
      ∙ ap (λ x. Some (row, x)) (ap (first_of v) (ap (of_ok None) (one_value r (Ok (Some (f.1))) (Ok (Some v)) (value_of_has r (f.0) (f.1) is) (value_of_has r row v has))))

  some_none : (r : Rela) (v : ℤ) → IsValue architecture addresses bytes symbols r (Ok (Some v))
      → IsValue architecture addresses bytes symbols r (Ok None) → ⊥
  some_none r v some none =
      subst IsNone (ap (of_ok None) (one_value r (Ok None) (Ok (Some v)) none some)) tt
    where
      IsNone : Option ℤ → Type 0
      IsNone None = Unit
      IsNone (Some v) = ⊥

  -- what is found has a value or is a mark
  no_valueless : (r : Rela) (found : Option (RowInfo × ℤ)) (why : ValueError)
      → IsRowValue architecture addresses bytes symbols r (Ok found)
      → IsValueless architecture addresses bytes symbols r why → ⊥
  no_valueless r found why is (no_value fails) =
      let one = found_value r found is in
      true≢false (ap is_ok (one_value r (Ok (one.0)) (Err why) (one.1) fails))
  no_valueless r None _ is (not_filled none isnt) = true≢false (sym (is.3) ∙ isnt)
  no_valueless r (Some f) _ is (not_filled none isnt) = some_none r (f.1) (value_of_has r (f.0) (f.1) is) none
  no_valueless r None _ is (no_stub {v} some lacks) = some_none r v some (mark_none architecture addresses bytes symbols r is)
  no_valueless r (Some f) _ is (no_stub some lacks) = true≢false (sym lacks ∙ is.keeps_toc)
  no_valueless r None _ is (beyond {v} some isnt) = some_none r v some (mark_none architecture addresses bytes symbols r is)
  no_valueless r (Some f) _ is (beyond {v} some isnt) =
      isnt (subst (IsInReach architecture bytes r) (ap (first_of v) (ap (of_ok None) (one_value r (Ok (Some (f.1))) (Ok (Some v)) (value_of_has r (f.0) (f.1) is) some))) is.in_reach)

  same_found : (r : Rela) (x y : Option (RowInfo × ℤ)) → IsRowValue architecture addresses bytes symbols r (Ok x)
      → IsRowValue architecture addresses bytes symbols r (Ok y) → x ≡ y
  same_found r (Some f) y a b = sym (found_is r y (f.0) (f.1) b a)
  same_found r None (Some g) a b = absurd (none_has r (g.0) (g.1) (mark_none architecture addresses bytes symbols r a) b)
  same_found r None None a b = refl

  row_of_value : (r : Rela) (row : RowInfo) (v : ℤ) → HasValue architecture addresses bytes symbols r row v
      → IsRow architecture r.r_type (Some row)
  row_of_value r row v has = has.is_row

  pub unique_by_index : AreUnique architecture addresses bytes (by_index symbols)
  unique_by_index = record {
    same = λ i. same_found (relocation_in bytes i);
    no_error = λ i. no_valueless (relocation_in bytes i);
    is_row = λ i. row_of_value (relocation_in bytes i);
  }

-- ---- what is accepted isn't rejected

accepted_no_cause : (row : RowInfo) (v : ℤ) (xs : List ℕ) (error : RelocateError)
    → IsAccepted row v xs → IsCause row v xs error → ⊥
accepted_no_cause row v xs Unsupported is cause = true≢false (sym is.supported ∙ cause)
accepted_no_cause row v xs TooShort is cause =
    let long = is.long in let short = cause.1 in omega (arith, long, short)
accepted_no_cause row v xs Misaligned is cause = cause.2 is.aligned
accepted_no_cause row v xs OutOfReach is cause = cause.3 is.reached

-- a number ends at one byte
not_before : (xs : List ℕ) (old other : ℕ) (rest more : List ℕ) (u : Uleb xs old rest) (t : Uleb xs other more)
    → u.last < t.last → ⊥
not_before xs old other rest more u t less =
    let on = t.continue u.last less in let ends = u.ends in omega (arith, on, ends)

fits_no_cause : (xs : List ℕ) (number old : ℕ) (rest : List ℕ) (error : Uleb128Error)
    (u : Uleb xs old rest) → number < 128 ^ (u.last + 1) → IsUlebCause xs number error → ⊥
fits_no_cause xs number old rest Ended u fits cause =
    let on = cause.continue u.last u.there in let ends = u.ends in omega (arith, on, ends)
fits_no_cause xs number old rest TooLarge u fits cause =
    let ends = u.ends in let ten = u.within_ten in
    elim (cases_eq u.last 9) [
      | inl is ↦
          omega (arith, (u.tenth is), (subst (λ k. 1 < slice_index xs k) (sym is) cause.tenth))
      | inr isnt ↦ let on = cause.continue u.last (omega (arith, isnt, ten)) in omega (arith, on, ends)
    ]
fits_no_cause xs number old rest DoesNotFit u fits cause =
    let t = cause.there in
    elim (cases_eq u.last t.last) [
      | inl is ↦ let above = subst (λ k. 128 ^ (k + 1) ≤ number) (sym is) cause.above in omega (arith, above, fits)
      | inr isnt ↦ elim (cases_lt u.last t.last) [
        | inl less ↦ not_before xs old cause.old rest cause.rest u t less
        | inr most ↦ not_before xs cause.old old cause.rest rest t u (omega (arith, isnt, most))
      ]
    ]

one_pair_number : (kind : RelocationKind) (there : List ℕ) (v w : ℤ) (n m old : ℕ) (rest : List ℕ)
    → Uleb there old rest → IsNumberOfPair kind there v w n → IsNumberOfPair kind there v w m → n ≡ m
one_pair_number kinds.PairSubtractionULEB128LoongArch there v w n m old rest u a b = a old rest u ∙ sym (b old rest u)
one_pair_number _ there v w n m old rest u a b = a ∙ sym b

-- what is found once is one row and one value
pub record IsOneFound (row other : RowInfo) (v w : ℤ) : Type 0 where
  pub row_is : row ≡ other
  pub value_is : v ≡ w

pub one_found : (found : Option (RowInfo × ℤ)) (row other : RowInfo) (v w : ℤ)
    → found ≡ Some (row, v) → found ≡ Some (other, w) → IsOneFound row other v w
one_found found row other v w a b =
    let same = ap (first_of (row, v)) (sym a ∙ b) in
    record { row_is = ap (λ (p : RowInfo × ℤ). p.0) same; value_is = ap (λ (p : RowInfo × ℤ). p.1) same }

begins_no_end : (row other : RowInfo) → row ≡ other → begins_pair row.size row.kind ≡ true
    → ends_pair other.size other.kind ≡ true → ⊥
begins_no_end row other same begins ends =
    true≢false (sym ends ∙ (ap (λ x. ends_pair x.size x.kind) (sym same) ∙ begun_ends_none row.size row.kind begins))

-- ---- no fault

module _ (architecture : Architecture) (addresses : Addresses) (bytes : List ℕ) (values : Values) (section : List ℕ) (unique : AreUnique architecture addresses bytes values) (can : CanBeWrittenBy architecture addresses bytes values section) (error : SectionError) (fault : IsFirstFaultBy architecture addresses bytes values section error) where
  found_at : (i : ℕ) (row : RowInfo) (v : ℤ) → i < length bytes / 24
      → values architecture addresses bytes i (Ok (Some (row, v))) → can.found i ≡ Some (row, v)
  found_at i row v within has = unique.same i (can.found i) (Some (row, v)) (can.are_found i within) has

  has_at : (i : ℕ) (row : RowInfo) (v : ℤ) → i < length bytes / 24 → can.found i ≡ Some (row, v)
      → values architecture addresses bytes i (Ok (Some (row, v)))
  has_at i row v within is =
      subst (λ x. values architecture addresses bytes i (Ok x)) is (can.are_found i within)

  row_at : (i : ℕ) (row : RowInfo) (v : ℤ) → i < length bytes / 24 → can.found i ≡ Some (row, v)
      → IsRow architecture (relocation_in bytes i).r_type (Some row)
  row_at i row v within is = unique.is_row i row v (has_at i row v within is)

  -- the second of a pair isn't the first that is rejected
  no_second : (first : ℕ) (fits : PairFits can.found bytes section first) → first + 1 < length bytes / 24
      → first + 1 ≡ fault.written → ⊥
  no_second first fits within next =
      let pair = fits.pair in
      let has = has_at first pair.row pair.value (omega (arith, within)) pair.is_first in
      let is : fault.found first ≡ Some (pair.row, pair.value) =
      unique.same first (fault.found first) (Some (pair.row, pair.value)) (fault.are_found first (omega (arith, next))) has in
      let paired = or_left (begins_pair pair.row.size pair.row.kind) (ends_pair pair.row.size pair.row.kind) pair.begins in
      let of = (fault.accepted first pair.row pair.value (omega (arith, next)) is).1 paired in
      elim (of.2) [
        | inl at ↦ omega (arith, at, of.1, next)
        | inr at ↦
            let other = (of.3).pair in
            let same = one_found (fault.found first) pair.row other.other pair.value other.subtracted is (ap fault.found at ∙ other.is_second) in
            begins_no_end pair.row other.other same.row_is pair.begins other.ends
      ]

  no_write : (i : ℕ) (why : RelocateError) → i < length bytes / 24 → i ≡ fault.written
      → IsNotAccepted architecture addresses bytes values i section why → ⊥
  no_write i why within next not =
      let row = not.row in
      let accepts = can.accepted i row not.value within (found_at i row not.value within not.has_value.is_value) in
      elim (cases_Bool (is_of_pair row)) [
        | inr alone ↦
            let here = accepts.0 alone in
            elim not.rejected [
              | inl rejected ↦ accepted_no_cause row not.value (drop (offset_at bytes i) section) why here.accepted (rejected.inside here.inside)
              | inr out ↦ true≢false (sym here.holds ∙ out.other)
            ]
        | inl paired ↦
            let of = accepts.1 paired in
            let below = of.1 in
            let pair = (of.3).pair in
            elim (of.2) [
              | inl at ↦ not.alone (subst (BeginsPair architecture bytes) (sym at) (record {
                within = below;
                same_offset = pair.same_offset;
                row = pair.row;
                is_row = row_at (of.0) pair.row pair.value (omega (arith, below)) pair.is_first;
                begins = pair.begins;
                other = pair.other;
                is_other = row_at (of.0 + 1) pair.other pair.subtracted below pair.is_second;
                ends = pair.ends;
              }))
              | inr at ↦ no_second (of.0) (of.3) below (sym at ∙ next)
            ]
      ]

  no_other_length : (i : ℕ) → i < length bytes / 24
      → IsOtherLength architecture addresses bytes values i section → ⊥
  no_other_length i within not =
      let row = not.row in
      elim (cases_Bool (is_of_pair row)) [
        | inr alone ↦ true≢false (sym (((can.accepted i row not.value within (found_at i row not.value within not.has_value.is_value)).0 alone).length_shown not.inside not.long) ∙ not.other)
        | inl paired ↦ true≢false (sym (pair_shows row (drop (offset_at bytes i) section) paired) ∙ not.other)
      ]

  no_number : (i : ℕ) (why : Uleb128Error) → i < length bytes / 24
      → IsPairRejected architecture addresses bytes values i section why → ⊥
  no_number i why within rejected =
      let pair = rejected.pair in
      let row = pair.row in
      let is = found_at i row pair.value within pair.has_value.is_value in
      let of = (can.accepted i row pair.value within is).1 (or_left (begins_pair row.size row.kind) (ends_pair row.size row.kind) pair.begins) in
      elim (of.2) [
        | inl at ↦
            let fits = subst (PairFits can.found bytes section) (sym at) (of.3) in
            let made = fits.pair in
            let under : i + 1 < length bytes / 24 = omega (arith, of.1, at) in
            let b = one_found (can.found (i + 1)) pair.other made.other pair.subtracted made.subtracted
            (found_at (i + 1) pair.other pair.subtracted under pair.has_subtracted.is_value) made.is_second in
            let there = drop (offset_at bytes i) section in
            let mine : IsNumberOfPair made.other.kind there made.value made.subtracted rejected.number =
            subst (λ x. IsNumberOfPair made.other.kind there made.value x rejected.number) b.value_is
            (subst (λ x. IsNumberOfPair made.other.kind there x pair.subtracted rejected.number) (one_found (can.found i) row made.row pair.value made.value is made.is_first).value_is
            (subst (λ x. IsNumberOfPair x.kind there pair.value pair.subtracted rejected.number) b.row_is pair.is_number)) in
            let same : rejected.number ≡ fits.number =
            one_pair_number made.other.kind there made.value made.subtracted rejected.number fits.number fits.old fits.rest fits.there mine made.is_number in
            fits_no_cause there rejected.number fits.old fits.rest why fits.there (subst (λ n. n < 128 ^ (fits.there.last + 1)) (sym same) fits.fits) rejected.cause
        | inr at ↦
            let made = (of.3).pair in
            begins_no_end row made.other (one_found (can.found i) row made.other pair.value made.subtracted is (ap can.found at ∙ made.is_second)).row_is pair.begins made.ends
      ]

  no_cause : (i : ℕ) (why : RelocationError) → i < length bytes / 24
      → (i ≡ fault.written) ⊎ ((i ≡ fault.written + 1) × BeginsPair architecture bytes fault.written × IsOfValue why)
      → IsCauseAt architecture addresses bytes values section i section why → ⊥
  no_cause i (Value why) within next cause = unique.no_error i (can.found i) why (can.are_found i within) cause
  no_cause i Overlaps within next cause =
      cause.apart (can.apart cause.earlier i cause.row cause.other cause.order within cause.is_field cause.is_other cause.overlap)
  no_cause i OtherLength within next cause = no_other_length i within (cause.1)
  no_cause i (Write why) within (inl is) cause =
      elim (cause.1) [
        | inl not ↦ no_write i why within is not
        | inr left ↦
            let past = left.past in omega (arith, (can.inside i within (unique.same i (can.found i) None (can.are_found i within) left.no_value) left.row left.is_field), past)
      ]
  no_cause i (Write why) within (inr is) cause = is.2
  no_cause i (Uleb128 why) within (inl is) cause = no_number i why within (cause.1)
  no_cause i (Uleb128 why) within (inr is) cause = is.2

  pub no_fault : ⊥
  no_fault = no_cause error.index error.error fault.within fault.is_next fault.cause
