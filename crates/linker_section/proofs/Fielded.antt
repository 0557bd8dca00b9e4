-- All fields of a section, after all writes.
use Rattle.linker_section.proofs.Imports.{Addresses, Architecture, AreAccepted, AreAllRelocatedBy, AreApart, AreFound, AreInside, AreRelocated, AreWrittenBy, BitMasking, ByteSize, Composes, Found, HoldsNumber, HoldsPair, HoldsValue, IsAcceptedAt, IsField, IsHeld, IsInside, IsPairWritten, IsUlebWritten, IsUnwritten, IsValued, List, MakePair, None, OfPair, Ok, Option, PairFits, RowInfo, RowSize, SizeNumber, Some, Uleb, Values, WritesRow, [], ap, arith, begins_pair, cases_Bool, cases_eq, cases_lt, composed, composed_by, composed_with, cond, cond-false, cond-true, drop, drop_at, ends_pair, eq-eqb, eqb, eqb-true, false, field_bytes, field_end, field_len, get_or-drop, get_or-take, get_or_past, has_value, inl, inr, is_of_pair, le-ltb, length, length-drop, length-take, length-take-le, lt-ltb, ltb, mark, ne_eqb, none, number_of_bytes, of_number, of_pair, offset_at, one, or_left, or_right, pair, pos, refl, size_len, slice_index, subst, suc, supported_size, sym, take, takes_size, true, true≢false, window_len, zero, ℕ, ℤ, ◌*◌, ◌+◌, ◌/◌, ◌<◌, ◌^◌, ◌||◌, ◌∙◌, ◌≡◌, ◌≤◌, ◌⊎◌}
use Rattle.linker_section.proofs.All.{AreUntouched, IsFirstAt, local_byte, pair_place, pair_first, untouched}
use Rattle.linker_section.proofs.Composing.{begun_has_value, begun_ends_none, first_is_none, second_is_none}
use Rattle.linker_section.proofs.Fronts.{HaveSameWindow, same_window, accepted_same, some_window, window_back}
use Rattle.linker_section.proofs.Held.{IsMet, is_ahead, is_after, is_same, is_later, is_earlier, meet, field_untouched, IsJoined, is_kept, is_own, is_joined, step, pair_kept}
use Rattle.linker_section.proofs.Lengths.{offset_same, IsSameFront, length_same}
use Rattle.linker_section.proofs.Local.{one_local, small_bytes}
use Rattle.linker_section.proofs.Numbers.{is_word6, holds_first, holds_next, number_small}
use Rattle.linker_section.proofs.Rows.{one_info}
use Rattle.linker_section.proofs.Sized.{is_composing, second_composes, whole_bytes, instruction_alone}
use Rattle.linker_section.proofs.Stepping.{len_alone, written_alone, same_place}
use Rattle.linker_section.proofs.Ulebs.{uleb_len_is, uleb_same, uleb_front, same_last, written_front, uleb_below, pair_number_same}
use Rattle.linker_section.proofs.Exact.{one_found}

-- ---- what is composed

pub next_index : (n : ℕ) → n + 1 ≡ suc n
next_index n = omega arith

composed_more : (found : Found) (bytes section : List ℕ) (at : ℕ) (number : ℤ) (n : ℕ)
    → composed found bytes section at number (n + 1)
    ≡ cond (eqb (offset_at bytes n) at)
    (composed_by (drop at section) (found n) (composed found bytes section at number n))
    (composed found bytes section at number n)
composed_more found bytes section at number n =
    ap (composed found bytes section at number) (next_index n)

-- a relocation without a value changes nothing
composed_mark : (found : Found) (bytes section : List ℕ) (at : ℕ) (number : ℤ) (n : ℕ)
    → found n ≡ None
    → composed found bytes section at number (n + 1) ≡ composed found bytes section at number n
composed_mark found bytes section at number n is =
    let so_far = composed found bytes section at number n in
    composed_more found bytes section at number n
    ∙ elim (cases_Bool (eqb (offset_at bytes n) at)) [
      | inl here ↦
          cond-true (eqb (offset_at bytes n) at) (composed_by (drop at section) (found n) so_far) so_far here
          ∙ ap (λ x. composed_by (drop at section) x so_far) is
      | inr there ↦
          cond-false (eqb (offset_at bytes n) at) (composed_by (drop at section) (found n) so_far) so_far there
    ]

-- nor does one without a field at the offset
composed_far : (found : Found) (bytes section : List ℕ) (at : ℕ) (number : ℤ) (n : ℕ)
    (row : RowInfo) (v : ℤ) → found n ≡ Some (row, v)
    → (0 < field_len row (drop (offset_at bytes n) section) → offset_at bytes n ≡ at → ⊥)
    → composed found bytes section at number (n + 1) ≡ composed found bytes section at number n
composed_far found bytes section at number n row v is far =
    let so_far = composed found bytes section at number n in
    composed_more found bytes section at number n
    ∙ elim (cases_Bool (eqb (offset_at bytes n) at)) [
      | inl here ↦
          let same = eqb-true (offset_at bytes n) at here in
          cond-true (eqb (offset_at bytes n) at) (composed_by (drop at section) (found n) so_far) so_far here
          ∙ (ap (λ x. composed_by (drop at section) x so_far) is
          ∙ cond-false (ltb 0 (field_len row (drop at section))) (composed_with row.kind v so_far) so_far
          (le-ltb 0 (field_len row (drop at section)) (elim (cases_lt 0 (field_len row (drop at section))) [
            | inl some ↦ absurd (far (subst (λ x. 0 < field_len row (drop x section)) (sym same) some) same)
            | inr empty ↦ empty
          ])))
      | inr there ↦
          cond-false (eqb (offset_at bytes n) at) (composed_by (drop at section) (found n) so_far) so_far there
    ]

-- one with a field there does
composed_here : (found : Found) (bytes section : List ℕ) (at : ℕ) (number : ℤ) (n : ℕ)
    (row : RowInfo) (v : ℤ) → found n ≡ Some (row, v) → offset_at bytes n ≡ at
    → 0 < field_len row (drop at section)
    → composed found bytes section at number (n + 1)
    ≡ composed_with row.kind v (composed found bytes section at number n)
composed_here found bytes section at number n row v is same some =
    let so_far = composed found bytes section at number n in
    composed_more found bytes section at number n
    ∙ (cond-true (eqb (offset_at bytes n) at) (composed_by (drop at section) (found n) so_far) so_far (eq-eqb (offset_at bytes n) at same)
    ∙ (ap (λ x. composed_by (drop at section) x so_far) is
    ∙ cond-true (ltb 0 (field_len row (drop at section))) (composed_with row.kind v so_far) so_far (lt-ltb 0 (field_len row (drop at section)) some)))

-- ---- the rows and values of a chain of writes

abbrev pub found_of : {architecture : Architecture} {addresses : Addresses} {bytes : List ℕ} {values : Values} {before : List ℕ} {n : ℕ} {now : List ℕ}
    → AreRelocated architecture addresses bytes values before n now → Found
found_of none i = None
found_of (mark {n} relocated value inside) i = cond (eqb i n) None (found_of relocated i)
found_of (one {n} {middle} {after} {row} {v} relocated has written) i =
    cond (eqb i n) (Some (row, v)) (found_of relocated i)
found_of (pair {n} {middle} {after} relocated written) i =
    cond (eqb i n) (Some (written.pair.row, written.pair.value))
    (cond (eqb i (n + 1)) (Some (written.pair.other, written.pair.subtracted)) (found_of relocated i))

none_some : {A B : Type 0} {o : Option A} {x : A} → o ≡ None → o ≡ Some x → B
none_some {A} {B} {o} {x} a b = absurd (subst IsOne (sym b ∙ a) tt)
  where
    IsOne : Option A → Type 0
    IsOne None = ⊥
    IsOne (Some y) = Unit

-- a field that isn't of a pair has no byte of a pair's
pair_far : {bytes before : List ℕ} (i : ℕ) (row : RowInfo) (n : ℕ) (first : RowInfo)
    → IsMet bytes before i row n first → is_of_pair row ≡ false → begins_pair first.size first.kind ≡ true
    → (i ≡ n → row ≡ first)
    → (field_end bytes before i row ≤ offset_at bytes n) ⊎ (field_end bytes before n first ≤ offset_at bytes i)
pair_far i row n first met alone begins as_one =
    let paired = or_left (begins_pair first.size first.kind) (ends_pair first.size first.kind) begins in
    elim met [
      | is_ahead x ↦ inl x
      | is_after x ↦ inr x
      | is_same is ↦ absurd (true≢false (sym paired ∙ (ap is_of_pair (sym (as_one is)) ∙ alone)))
      | is_later less composes ↦ elim composes [
        | of_number offset window on ↦ absurd (true≢false (sym paired ∙ second_is_none row.kind first.kind first.size on))
        | of_pair offset next begun ended ↦ absurd (true≢false (sym ended ∙ begun_ends_none first.size first.kind begins))
      ]
      | is_earlier less composes ↦ elim composes [
        | of_number offset window on ↦ absurd (true≢false (sym paired ∙ first_is_none first.kind row.kind first.size on))
        | of_pair offset next begun ended ↦ absurd (true≢false (sym (or_right (begins_pair row.size row.kind) (ends_pair row.size row.kind) ended) ∙ alone))
      ]
    ]

-- ---- a field of which no other relocation has a byte

-- no relocation composes with a row's
abbrev StandsAlone : RowInfo → Type 0
StandsAlone row = (is_composing row.kind ≡ false) × (is_of_pair row ≡ false)

alone_joins_none : {bytes before : List ℕ} {i n : ℕ} {row other : RowInfo} {A : Type 0}
    → IsJoined bytes before i row n other → is_composing row.kind ≡ false → A
alone_joins_none joins alone = absurd (true≢false (sym joins.own_composes ∙ alone))

alone_composes_none : {bytes : List ℕ} {i n : ℕ} {row other : RowInfo} {A : Type 0}
    → StandsAlone row → Composes bytes n other i row → A
alone_composes_none {bytes} {i} {n} {row} {other} alone composes =
    elim composes [
      | of_number offset window on ↦ absurd (true≢false (sym (second_composes other.kind row.kind on) ∙ alone.0))
      | of_pair offset next begins ends ↦
          absurd (true≢false (sym (or_right (begins_pair row.size row.kind) (ends_pair row.size row.kind) ends) ∙ alone.1))
    ]

pub alone_first : (architecture : Architecture) (bytes before : List ℕ) (n : ℕ)
    (row : RowInfo) → AreApart architecture bytes before (n + 1)
    → IsField architecture bytes before n row → StandsAlone row
    → IsFirstAt architecture bytes before n row
alone_first architecture bytes before n row apart is_field alone i other below is_other overlap =
    alone_composes_none alone (apart i n other row below (omega arith) is_other is_field overlap)

small_field : (bytes before : List ℕ) (i : ℕ) (row : RowInfo)
    → ((j : ℕ) → slice_index before j < 256)
    → (j : ℕ) → slice_index (field_bytes bytes before i row before) j < 256
small_field bytes before i row small j =
    let o = offset_at bytes i in
    let w = field_len row (drop o before) in
    elim (cases_lt j w) [
      | inl under ↦
          subst (λ b. b < 256) (sym (get_or-take w (drop o before) j 0 under ∙ get_or-drop o before j 0)) (small (o + j))
      | inr past ↦
          subst (λ b. b < 256) (sym (get_or_past (take w (drop o before)) j 0 (omega (arith, past, (length-take w (drop o before)))))) (omega arith)
    ]

of_pair_more : {Said : ℕ → Type 0} {i : ℕ} (n m : ℕ) → n ≤ m → OfPair Said n i → OfPair Said m i
of_pair_more n m most of = let within = of.1 in (of.0, omega (arith, within, most), of.2, of.3)

module _ (architecture : Architecture) (addresses : Addresses) (bytes : List ℕ) (values : Values) (before : List ℕ) (total : ℕ) (apart : AreApart architecture bytes before total) (found : Found) where
  abbrev pub Uses : {n : ℕ} {now : List ℕ} → AreRelocated architecture addresses bytes values before n now → Type 0
  Uses none = Unit
  Uses (mark {n} relocated value inside) = (found n ≡ None) × Uses relocated
  Uses (one {n} {middle} {after} {row} {v} relocated has written) = (found n ≡ Some (row, v)) × Uses relocated
  Uses (pair {n} {middle} {after} relocated written) =
      (found n ≡ Some (written.pair.row, written.pair.value))
      × (found (n + 1) ≡ Some (written.pair.other, written.pair.subtracted)) × Uses relocated

  not_last : (i n : ℕ) → i < n → eqb i n ≡ false
  not_last i n below = ne_eqb i n (λ same. omega (arith, below, same))

  pub uses : {n : ℕ} {now : List ℕ} (relocated : AreRelocated architecture addresses bytes values before n now)
      → ((i : ℕ) → i < n → found i ≡ found_of relocated i) → Uses relocated
  uses none agree = tt
  uses (mark {n} relocated value inside) agree = (
    agree n (omega arith) ∙ cond-true (eqb n n) None (found_of relocated n) (eq-eqb n n refl),
    uses relocated (λ i below. agree i (omega (arith, below)) ∙ cond-false (eqb i n) None (found_of relocated i) (not_last i n below)),
  )
  uses (one {n} {middle} {after} {row} {v} relocated has written) agree = (
    agree n (omega arith) ∙ cond-true (eqb n n) (Some (row, v)) (found_of relocated n) (eq-eqb n n refl),
    uses relocated (λ i below. agree i (omega (arith, below)) ∙ cond-false (eqb i n) (Some (row, v)) (found_of relocated i) (not_last i n below)),
  )
  uses (pair {n} {middle} {after} relocated written) agree =
      let first : Option (RowInfo × ℤ) = Some (written.pair.row, written.pair.value) in
      let second : Option (RowInfo × ℤ) = Some (written.pair.other, written.pair.subtracted) in (
        agree n (omega arith) ∙ cond-true (eqb n n) first _ (eq-eqb n n refl),
        agree (n + 1) (omega arith) ∙ (cond-false (eqb (n + 1) n) first _ (ne_eqb (n + 1) n (λ same. omega (arith, same)))
            ∙ cond-true (eqb (n + 1) (n + 1)) second (found_of relocated (n + 1)) (eq-eqb (n + 1) (n + 1) refl)),
        uses relocated (λ i below. agree i (omega (arith, below)) ∙ (cond-false (eqb i n) first _ (not_last i n below)
            ∙ cond-false (eqb i (n + 1)) second (found_of relocated i) (not_last i (n + 1) (omega (arith, below))))),
      )

  -- ---- they are the rows and values of the relocations

  pub found_are : {n : ℕ} {now : List ℕ} (relocated : AreRelocated architecture addresses bytes values before n now)
      → Uses relocated → AreFound architecture addresses bytes values n found
  found_are none used i below = absurd (omega (arith, below))
  found_are (mark {n} relocated value inside) used i below =
      elim (cases_eq i n) [
        | inl is ↦
            subst (λ j. values architecture addresses bytes j (Ok (found j))) (sym is)
            (subst (λ x. values architecture addresses bytes n (Ok x)) (sym (used.0)) value)
        | inr isnt ↦ found_are relocated (used.1) i (omega (arith, below, isnt))
      ]
  found_are (one {n} {middle} {after} {row} {v} relocated has written) used i below =
      elim (cases_eq i n) [
        | inl is ↦
            subst (λ j. values architecture addresses bytes j (Ok (found j))) (sym is)
            (subst (λ x. values architecture addresses bytes n (Ok x)) (sym (used.0)) has.is_value)
        | inr isnt ↦ found_are relocated (used.1) i (omega (arith, below, isnt))
      ]
  found_are (pair {n} {middle} {after} relocated written) used i below =
      elim (cases_eq i n) [
        | inl is ↦
            subst (λ j. values architecture addresses bytes j (Ok (found j))) (sym is)
            (subst (λ x. values architecture addresses bytes n (Ok x)) (sym (used.0)) written.pair.has_value.is_value)
        | inr isnt ↦ elim (cases_eq i (n + 1)) [
          | inl is ↦
              subst (λ j. values architecture addresses bytes j (Ok (found j))) (sym is)
              (subst (λ x. values architecture addresses bytes (n + 1) (Ok x)) (sym (used.1)) written.pair.has_subtracted.is_value)
          | inr far ↦ found_are relocated (used.2) i (omega (arith, below, isnt, far))
        ]
      ]

  valued_as : (i n : ℕ) (row other : RowInfo) (v w : ℤ) → i ≡ n → found i ≡ Some (row, v)
      → found n ≡ Some (other, w) → IsValued architecture addresses bytes values n other w
      → IsValued architecture addresses bytes values i row v
  valued_as i n row other v w at is used has =
      let same = one_found (found n) row other v w (ap found (sym at) ∙ is) used in
      subst (λ j. IsValued architecture addresses bytes values j row v) (sym at)
      (subst (λ x. IsValued architecture addresses bytes values n row x) (sym same.value_is)
      (subst (λ x. IsValued architecture addresses bytes values n x w) (sym same.row_is) has))

  valued_at : {n : ℕ} {now : List ℕ} (relocated : AreRelocated architecture addresses bytes values before n now)
      → Uses relocated → (i : ℕ) (row : RowInfo) (v : ℤ) → i < n → found i ≡ Some (row, v)
      → IsValued architecture addresses bytes values i row v
  valued_at none used i row v below is = absurd (omega (arith, below))
  valued_at (mark {n} relocated value inside) used i row v below is =
      elim (cases_eq i n) [
        | inl at ↦ none_some (used.0) (ap found (sym at) ∙ is)
        | inr isnt ↦ valued_at relocated (used.1) i row v (omega (arith, below, isnt)) is
      ]
  valued_at (one {n} {middle} {after} {row = other} {v = w} relocated has written) used i row v below is =
      elim (cases_eq i n) [
        | inl at ↦ valued_as i n row other v w at is (used.0) has
        | inr isnt ↦ valued_at relocated (used.1) i row v (omega (arith, below, isnt)) is
      ]
  valued_at (pair {n} {middle} {after} relocated written) used i row v below is =
      let both = written.pair in
      elim (cases_eq i n) [
        | inl at ↦ valued_as i n row both.row v both.value at is (used.0) both.has_value
        | inr isnt ↦ elim (cases_eq i (n + 1)) [
          | inl at ↦ valued_as i (n + 1) row both.other v both.subtracted at is (used.1) both.has_subtracted
          | inr far ↦ valued_at relocated (used.2) i row v (omega (arith, below, isnt, far)) is
        ]
      ]

  -- ---- those that nothing is written of

  pub are_inside : {n : ℕ} {now : List ℕ} (relocated : AreRelocated architecture addresses bytes values before n now)
      → Uses relocated → AreInside architecture bytes found before n
  are_inside none used i below is_none = absurd (omega (arith, below))
  are_inside (mark {n} relocated value inside) used i below is_none =
      elim (cases_eq i n) [
        | inl at ↦ subst (IsInside architecture bytes before) (sym at) inside
        | inr isnt ↦ are_inside relocated (used.1) i (omega (arith, below, isnt)) is_none
      ]
  are_inside (one {n} {middle} {after} {row} {v} relocated has written) used i below is_none =
      elim (cases_eq i n) [
        | inl at ↦ none_some is_none (ap found at ∙ used.0)
        | inr isnt ↦ are_inside relocated (used.1) i (omega (arith, below, isnt)) is_none
      ]
  are_inside (pair {n} {middle} {after} relocated written) used i below is_none =
      elim (cases_eq i n) [
        | inl at ↦ none_some is_none (ap found at ∙ used.0)
        | inr isnt ↦ elim (cases_eq i (n + 1)) [
          | inl at ↦ none_some is_none (ap found at ∙ used.1)
          | inr far ↦ are_inside relocated (used.2) i (omega (arith, below, isnt, far)) is_none
        ]
      ]

  -- ---- numbers of whole bytes

  -- the relocation's own, or another that composes with it
  joined_holds : (i : ℕ) (row : RowInfo) (k n : ℕ) (other : RowInfo) (v : ℤ) (now after : List ℕ)
      → row.size ≡ ByteSize (suc k) → other.size ≡ ByteSize (suc k)
      → offset_at bytes n ≡ offset_at bytes i
      → field_len other (drop (offset_at bytes n) before) ≡ field_len row (drop (offset_at bytes i) before)
      → is_word6 other.kind ≡ is_word6 row.kind
      → found n ≡ Some (other, v) → 0 < field_len other (drop (offset_at bytes n) before)
      → WritesRow other v (field_bytes bytes before n other now) (field_bytes bytes before n other after)
      → number_of_bytes (suc k) (field_bytes bytes before i row before) < 2 ^ (8 * suc k)
      → HoldsNumber row.kind (suc k) (composed found bytes before (offset_at bytes i) (pos (number_of_bytes (suc k) (field_bytes bytes before i row before))) n)
      (field_bytes bytes before i row before) (field_bytes bytes before i row now)
      → HoldsNumber row.kind (suc k) (composed found bytes before (offset_at bytes i) (pos (number_of_bytes (suc k) (field_bytes bytes before i row before))) (n + 1))
      (field_bytes bytes before i row before) (field_bytes bytes before i row after)
  joined_holds i row k n other v now after size other_size offset len same_bits is some writes small so_far =
      let o = offset_at bytes i in
      let old = field_bytes bytes before i row before in
      let number = pos (number_of_bytes (suc k) old) in
      let bytes_is : (section : List ℕ) → field_bytes bytes before n other section ≡ field_bytes bytes before i row section =
      λ section. ap (λ w. take w (drop (offset_at bytes n) section)) len ∙ ap (λ p. take (field_len row (drop o before)) (drop p section)) offset in
      let written : SizeNumber (ByteSize (suc k)) other.kind v (field_bytes bytes before i row now) (field_bytes bytes before i row after) =
      subst (λ x. SizeNumber (ByteSize (suc k)) other.kind v (field_bytes bytes before i row now) x) (bytes_is after)
      (subst (λ x. SizeNumber (ByteSize (suc k)) other.kind v x (field_bytes bytes before n other after)) (bytes_is now)
      (subst (λ size. SizeNumber size other.kind v (field_bytes bytes before n other now) (field_bytes bytes before n other after)) other_size writes.number)) in
      subst (λ c. HoldsNumber row.kind (suc k) c old (field_bytes bytes before i row after))
      (sym (composed_here found bytes before o number n other v is offset (subst (λ p. 0 < field_len other (drop p before)) offset some)))
      (holds_next row.kind other.kind k v (composed found bytes before o number n) old (field_bytes bytes before i row now) (field_bytes bytes before i row after) same_bits small so_far written)

  held_number : {n : ℕ} {now : List ℕ} (relocated : AreRelocated architecture addresses bytes values before n now)
      → n ≤ total → Uses relocated → (i : ℕ) (row : RowInfo) (k : ℕ) → i < total
      → IsField architecture bytes before i row → is_of_pair row ≡ false → has_value row.kind ≡ true
      → row.size ≡ ByteSize (suc k)
      → number_of_bytes (suc k) (field_bytes bytes before i row before) < 2 ^ (8 * suc k)
      → HoldsNumber row.kind (suc k) (composed found bytes before (offset_at bytes i) (pos (number_of_bytes (suc k) (field_bytes bytes before i row before))) n)
      (field_bytes bytes before i row before) (field_bytes bytes before i row now)
  held_number none most used i row k below is_field alone valued size small =
      holds_first row.kind (suc k) (field_bytes bytes before i row before) small
  held_number (mark {n} {middle} relocated value inside) most used i row k below is_field alone valued size small =
      let old = field_bytes bytes before i row before in
      subst (λ c. HoldsNumber row.kind (suc k) c old (field_bytes bytes before i row middle))
      (sym (composed_mark found bytes before (offset_at bytes i) (pos (number_of_bytes (suc k) old)) n (used.0)))
      (held_number relocated (omega (arith, most)) (used.1) i row k below is_field alone valued size small)
  held_number (one {n} {middle} {after} {row = other} {v} relocated has written) most used i row k below is_field alone valued size small =
      let o = offset_at bytes i in
      let old = field_bytes bytes before i row before in
      let so_far = held_number relocated (omega (arith, most)) (used.1) i row k below is_field alone valued size small in
      let other_alone = written_alone other v (offset_at bytes n) middle after written in
      let len = len_alone row (drop o before) valued alone in
      elim (step architecture addresses bytes values before total i row n other v middle after apart below (omega (arith, most)) is_field has written) [
        | is_kept same far ↦
            subst (λ c. HoldsNumber row.kind (suc k) c old (field_bytes bytes before i row after))
            (sym (composed_far found bytes before o (pos (number_of_bytes (suc k) old)) n other v (used.0) far))
            (subst (λ x. HoldsNumber row.kind (suc k) (composed found bytes before o (pos (number_of_bytes (suc k) old)) n) old x) (sym same) so_far)
        | is_own is writes some ↦
            let same_row : other ≡ row = one_info architecture _ other row has.is_row (subst (λ j. IsField architecture bytes before j row) is is_field).is_row in
            joined_holds i row k n other v middle after size (ap (λ x. x.size) same_row ∙ size) (ap (offset_at bytes) (sym is))
            (ap (λ j. field_len other (drop (offset_at bytes j) before)) (sym is) ∙ ap (λ x. field_len x (drop o before)) same_row)
            (ap (λ x. is_word6 x.kind) same_row) (used.0) some writes small so_far
        | is_joined joins writes some ↦
            joined_holds i row k n other v middle after size
            (whole_bytes architecture _ other (suc k) has.is_row joins.other_composes (joins.len ∙ (ap size_len size)))
            joins.offset ((len_alone other (drop (offset_at bytes n) before) has.valued other_alone) ∙ (joins.len ∙ sym len)) joins.alike (used.0) some writes small so_far
      ]
  held_number (pair {n} {middle} {after} relocated written) most used i row k below is_field alone valued size small =
      let o = offset_at bytes i in
      let old = field_bytes bytes before i row before in
      let number = pos (number_of_bytes (suc k) old) in
      let first = written.pair.row in
      let apart_here : AreApart architecture bytes before (n + 2) = λ a b x y less under. apart a b x y less (omega (arith, under, most)) in
      let place = pair_place architecture addresses bytes before middle after values n apart_here
      (untouched architecture addresses bytes before values (λ a b x y less under. apart a b x y less (omega (arith, under, most))) relocated) written in
      let width = is_field.some in let first_width = place.is_field.some in
      let far = pair_far i row n first (meet architecture bytes before total i row n first apart below (omega (arith, most)) is_field place.is_field) alone written.pair.begins
      (λ is. one_info architecture _ row first (subst (λ j. IsField architecture bytes before j row) is is_field).is_row place.is_field.is_row) in
      let apart_from : (offset_at bytes n) ≡ o → ⊥ = λ at. elim far [ inl x ↦ omega (arith, x, at, width) | inr x ↦ omega (arith, x, at, first_width) ] in
      let next : n + 2 ≡ n + 1 + 1 = omega arith in
      subst (λ m. HoldsNumber row.kind (suc k) (composed found bytes before o number m) old (field_bytes bytes before i row after)) (sym next)
      (subst (λ c. HoldsNumber row.kind (suc k) c old (field_bytes bytes before i row after))
      (sym (composed_far found bytes before o number (n + 1) written.pair.other written.pair.subtracted (used.1) (λ _ at. apart_from (sym written.pair.same_offset ∙ at))
      ∙ composed_far found bytes before o number n first written.pair.value (used.0) (λ _ at. apart_from at)))
      (subst (λ x. HoldsNumber row.kind (suc k) (composed found bytes before o number n) old x)
      (sym (pair_kept bytes before i row n first middle after place.local far)) (held_number relocated (omega (arith, most)) (used.2) i row k below is_field alone valued size small)))

  -- ---- instructions

  fewer_apart : (n m : ℕ) → m ≤ total → AreApart architecture bytes before m
  fewer_apart n m most a b x y less under = apart a b x y less (omega (arith, under, most))

  untouched_at : {n : ℕ} {now : List ℕ} → n ≤ total → AreRelocated architecture addresses bytes values before n now
      → AreUntouched architecture bytes before n now
  untouched_at {n} most relocated = untouched architecture addresses bytes before values (fewer_apart n n most) relocated

  held_alone : {n : ℕ} {now : List ℕ} (relocated : AreRelocated architecture addresses bytes values before n now)
      → n ≤ total → Uses relocated → (i : ℕ) (row : RowInfo) (v : ℤ) → i < n
      → found i ≡ Some (row, v) → IsField architecture bytes before i row → StandsAlone row
      → WritesRow row v (field_bytes bytes before i row before) (field_bytes bytes before i row now)
  held_alone none most used i row v below is is_field alone = absurd (omega (arith, below))
  held_alone (mark {n} relocated value inside) most used i row v below is is_field alone =
      elim (cases_eq i n) [
        | inl at ↦ none_some (used.0) (ap found (sym at) ∙ is)
        | inr isnt ↦ held_alone relocated (omega (arith, most)) (used.1) i row v (omega (arith, below, isnt)) is is_field alone
      ]
  held_alone (one {n} {middle} {after} {row = other} {v = w} relocated has written) most used i row v below is is_field alone =
      elim (step architecture addresses bytes values before total i row n other w middle after apart (omega (arith, below, most)) (omega (arith, most)) is_field has written) [
        | is_kept same far ↦
            elim (cases_eq i n) [
              | inl at ↦
                  let same_row = one_found (found n) row other v w (ap found (sym at) ∙ is) (used.0) in
                  let some = is_field.some in
                  absurd (far (subst (λ x. 0 < field_len x (drop (offset_at bytes n) before)) same_row.row_is (subst (λ j. 0 < field_len row (drop (offset_at bytes j) before)) at some)) (ap (offset_at bytes) (sym at)))
              | inr isnt ↦
                  subst (WritesRow row v (field_bytes bytes before i row before)) (sym same)
                  (held_alone relocated (omega (arith, most)) (used.1) i row v (omega (arith, below, isnt)) is is_field alone)
            ]
        | is_own at writes some ↦
            let same_row = one_found (found n) row other v w (ap found (sym at) ∙ is) (used.0) in
            let here : WritesRow row v (field_bytes bytes before n row middle) (field_bytes bytes before n row after) =
            subst (λ x. WritesRow row x (field_bytes bytes before n row middle) (field_bytes bytes before n row after)) (sym same_row.value_is)
            (subst (λ x. WritesRow x w (field_bytes bytes before n x middle) (field_bytes bytes before n x after)) (sym same_row.row_is) writes) in
            subst (λ j. WritesRow row v (field_bytes bytes before j row before) (field_bytes bytes before j row after)) (sym at)
            (subst (λ x. WritesRow row v x (field_bytes bytes before n row after))
            (field_untouched architecture bytes before n row middle (untouched_at (omega (arith, most)) relocated)
            (alone_first architecture bytes before n row (fewer_apart n (n + 1) most) (subst (λ j. IsField architecture bytes before j row) at is_field) alone)) here)
        | is_joined joins writes some ↦ alone_joins_none joins (alone.0)
      ]
  held_alone (pair {n} {middle} {after} relocated written) most used i row v below is is_field alone =
      elim (cases_eq i n) [
        | inl at ↦
            absurd (true≢false (sym (or_left (begins_pair written.pair.row.size written.pair.row.kind) (ends_pair written.pair.row.size written.pair.row.kind) written.pair.begins)
            ∙ (ap is_of_pair (sym (one_found (found n) row written.pair.row v written.pair.value (ap found (sym at) ∙ is) (used.0)).row_is) ∙ alone.1)))
        | inr isnt ↦ elim (cases_eq i (n + 1)) [
          | inl at ↦
              absurd (true≢false (sym (or_right (begins_pair written.pair.other.size written.pair.other.kind) (ends_pair written.pair.other.size written.pair.other.kind) written.pair.ends)
              ∙ (ap is_of_pair (sym (one_found (found (n + 1)) row written.pair.other v written.pair.subtracted (ap found (sym at) ∙ is) (used.1)).row_is) ∙ alone.1)))
          | inr far ↦
              let first = written.pair.row in
              let place = pair_place architecture addresses bytes before middle after values n (fewer_apart n (n + 2) most) (untouched_at (omega (arith, most)) relocated) written in
              let far_of = pair_far i row n first (meet architecture bytes before total i row n first apart (omega (arith, below, most)) (omega (arith, most)) is_field place.is_field) (alone.1) written.pair.begins (λ at. absurd (isnt at)) in
              subst (WritesRow row v (field_bytes bytes before i row before)) (sym (pair_kept bytes before i row n first middle after place.local far_of))
              (held_alone relocated (omega (arith, most)) (used.2) i row v (omega (arith, below, isnt, far)) is is_field alone)
        ]
      ]

  -- ---- pairs

  -- what is written in place of a ULEB128 number, by the section before
  record IsPairHere (n number : ℕ) (first : RowInfo) (after : List ℕ) : Type 0 where
    pub held : MakePair found bytes n (field_bytes bytes before n first before) number
    pub written : IsUlebWritten (field_bytes bytes before n first before) number (field_bytes bytes before n first after)
    pub fits : PairFits found bytes before n

  pair_here : {n : ℕ} {middle : List ℕ} (after : List ℕ) (relocated : AreRelocated architecture addresses bytes values before n middle)
      → n + 2 ≤ total
      → (written : IsPairWritten architecture addresses bytes values n middle after)
      → found n ≡ Some (written.pair.row, written.pair.value)
      → found (n + 1) ≡ Some (written.pair.other, written.pair.subtracted)
      → IsPairHere n written.number written.pair.row after
  pair_here {n} {middle} after relocated most written is_first is_second =
      let p = offset_at bytes n in
      let pair = written.pair in
      let first = pair.row in
      let so_far = untouched_at (omega (arith, most)) relocated in
      let place = pair_place architecture addresses bytes before middle after values n (fewer_apart n (n + 2) most) so_far written in
      let w = field_len first (drop p before) in
      let was = written.written.was in
      let whole : w ≡ was.last + 1 = place.len_is ∙ uleb_len_is (drop p middle) written.written.old written.written.rest was in
      let same : take w (drop p middle) ≡ take w (drop p before) =
      field_untouched architecture bytes before n first middle so_far (pair_first architecture bytes before n first (fewer_apart n (n + 1) (omega (arith, most))) place.is_field pair.begins) in
      let rest : drop p after ≡ written.rest = ap (drop p) written.around ∙ drop_at (take p middle) written.rest p (length-take-le p middle written.inside) in
      let old : Uleb (take w (drop p before)) written.written.old [] =
      subst (λ x. Uleb x written.written.old []) same (uleb_front (drop p middle) written.written.old written.written.rest was w whole) in
      let d = length-drop p before in let dm = length-drop p middle in let len = so_far.0 in
      let there = uleb_same (drop p middle) (drop p before) written.written.old written.written.rest was
      (subst (λ k. take k (drop p before) ≡ take k (drop p middle)) whole (sym same)) (omega (arith, d, dm, len, was.there)) in
      let last = same_last (drop p middle) written.number written.rest written.written in
      let make : (xs : List ℕ) (xs_rest : List ℕ) → Uleb xs written.written.old xs_rest → MakePair found bytes n xs written.number =
      λ xs xs_rest u. record {
        row = first;
        value = pair.value;
        is_first = is_first;
        begins = pair.begins;
        other = pair.other;
        subtracted = pair.subtracted;
        is_second = is_second;
        ends = pair.ends;
        same_offset = pair.same_offset;
        is_number = pair_number_same pair.other.kind (drop p middle) xs pair.value pair.subtracted written.number written.written.old written.written.rest xs_rest was u pair.is_number;
      } in
      record {
        held = make (take w (drop p before)) [] old;
        written = subst (λ x. IsUlebWritten (take w (drop p before)) written.number (take w x)) (sym rest)
            (subst (λ x. IsUlebWritten x written.number (take w written.rest)) same (written_front (drop p middle) written.number written.rest written.written w whole));
        fits = record {
          number = written.number;
          pair = make (drop p before) _ (there.0);
          old = written.written.old;
          rest = drop (was.last + 1) (drop p before);
          there = there.0;
          fits = subst (λ k. written.number < 128 ^ (k + 1)) (sym last ∙ sym (there.1)) (uleb_below written.rest written.number written.written.rest written.written.is);
        };
      }

  second_bytes : {n : ℕ} {middle : List ℕ} (after : List ℕ) (relocated : AreRelocated architecture addresses bytes values before n middle)
      → n + 2 ≤ total
      → (written : IsPairWritten architecture addresses bytes values n middle after)
      → (section : List ℕ)
      → field_bytes bytes before n written.pair.row section ≡ field_bytes bytes before (n + 1) written.pair.other section
  second_bytes {n} {middle} after relocated most written section =
      let pair = written.pair in
      let some = begun_has_value pair.row.size pair.row.kind pair.begins in
      ap (λ w. take w (drop (offset_at bytes n) section)) (sym (same_place architecture bytes before n pair.row pair.other pair.same_offset some pair.begins pair.ends).len_is)
      ∙ ap (λ p. take (field_len pair.other (drop (offset_at bytes (n + 1)) before)) (drop p section)) (sym pair.same_offset)

  held_pair : {n : ℕ} {now : List ℕ} (relocated : AreRelocated architecture addresses bytes values before n now)
      → n ≤ total → Uses relocated → (i : ℕ) (row : RowInfo) (v : ℤ) → i < n
      → found i ≡ Some (row, v) → IsField architecture bytes before i row → is_of_pair row ≡ true
      → OfPair (HoldsPair found bytes (field_bytes bytes before i row before) (field_bytes bytes before i row now)) n i
  held_pair none most used i row v below is is_field paired = absurd (omega (arith, below))
  held_pair (mark {n} relocated value inside) most used i row v below is is_field paired =
      elim (cases_eq i n) [
        | inl at ↦ none_some (used.0) (ap found (sym at) ∙ is)
        | inr isnt ↦ of_pair_more n (n + 1) (omega arith) (held_pair relocated (omega (arith, most)) (used.1) i row v (omega (arith, below, isnt)) is is_field paired)
      ]
  held_pair (one {n} {middle} {after} {row = other} {v = w} relocated has written) most used i row v below is is_field paired =
      let alone = written_alone other w (offset_at bytes n) middle after written in
      elim (cases_eq i n) [
        | inl at ↦
            absurd (true≢false (sym paired ∙ (ap is_of_pair (one_found (found n) row other v w (ap found (sym at) ∙ is) (used.0)).row_is ∙ alone)))
        | inr isnt ↦ elim (step architecture addresses bytes values before total i row n other w middle after apart (omega (arith, below, most)) (omega (arith, most)) is_field has written) [
          | is_kept same far ↦
              subst (λ x. OfPair (HoldsPair found bytes (field_bytes bytes before i row before) x) (n + 1) i) (sym same)
              (of_pair_more n (n + 1) (omega arith) (held_pair relocated (omega (arith, most)) (used.1) i row v (omega (arith, below, isnt)) is is_field paired))
          | is_own at writes some ↦ absurd (isnt at)
          | is_joined joins writes some ↦ absurd (true≢false (sym paired ∙ joins.alone))
        ]
      ]
  held_pair (pair {n} {middle} {after} relocated written) most used i row v below is is_field paired =
      let here = pair_here after relocated most written (used.0) (used.1) in
      let first = written.pair.row in
      elim (cases_eq i n) [
        | inl at ↦
            let same_row = one_found (found n) row first v written.pair.value (ap found (sym at) ∙ is) (used.0) in (
              n,
              omega arith,
              inl at,
              subst (λ j. HoldsPair found bytes (field_bytes bytes before j row before) (field_bytes bytes before j row after) n) (sym at)
                  (subst (λ x. HoldsPair found bytes (field_bytes bytes before n x before) (field_bytes bytes before n x after) n) (sym same_row.row_is)
                  (record { number = written.number; pair = here.held; written = here.written })),
            )
        | inr isnt ↦ elim (cases_eq i (n + 1)) [
          | inl at ↦
              let same_row = one_found (found (n + 1)) row written.pair.other v written.pair.subtracted (ap found (sym at) ∙ is) (used.1) in
              let place = second_bytes after relocated most written in (
                n,
                omega arith,
                inr at,
                subst (λ j. HoldsPair found bytes (field_bytes bytes before j row before) (field_bytes bytes before j row after) n) (sym at)
                    (subst (λ x. HoldsPair found bytes (field_bytes bytes before (n + 1) x before) (field_bytes bytes before (n + 1) x after) n) (sym same_row.row_is)
                    (subst (λ x. HoldsPair found bytes (field_bytes bytes before (n + 1) written.pair.other before) x n) (place after)
                    (subst (λ x. HoldsPair found bytes x (field_bytes bytes before n first after) n) (place before)
                    (record { number = written.number; pair = here.held; written = here.written })))),
              )
          | inr far ↦
              let place = pair_place architecture addresses bytes before middle after values n (fewer_apart n (n + 2) most) (untouched_at (omega (arith, most)) relocated) written in
              let so_far = held_pair relocated (omega (arith, most)) (used.2) i row v (omega (arith, below, isnt, far)) is is_field paired in
              let kept : field_bytes bytes before i row after ≡ field_bytes bytes before i row middle =
              pair_kept bytes before i row n first middle after place.local
              (elim (meet architecture bytes before total i row n first apart (omega (arith, below, most)) (omega (arith, most)) is_field place.is_field) [
                | is_ahead x ↦ inl x
                | is_after x ↦ inr x
                | is_same at ↦ absurd (isnt at)
                | is_later less composes ↦ elim composes [
                  | of_number offset window on ↦ absurd (true≢false (sym paired ∙ first_is_none row.kind first.kind row.size on))
                  | of_pair offset next begun ended ↦ absurd (true≢false (sym ended ∙ begun_ends_none first.size first.kind written.pair.begins))
                ]
                | is_earlier less composes ↦ absurd (omega (arith, less, below, isnt, far))
              ]) in
              subst (λ x. OfPair (HoldsPair found bytes (field_bytes bytes before i row before) x) (n + 2) i) (sym kept) (of_pair_more n (n + 2) (omega arith) so_far)
        ]
      ]

  -- ---- values that are accepted

  pub front_at : {n : ℕ} {middle : List ℕ} (other : RowInfo) (v : ℤ) (size : RowSize)
      → other.size ≡ size → n + 1 ≤ total
      → AreRelocated architecture addresses bytes values before n middle
      → IsValued architecture addresses bytes values n other v
      → IsSameFront size (drop (offset_at bytes n) middle) (drop (offset_at bytes n) before)
  front_at other v (ByteSize k) is most relocated has = tt
  front_at {n} {middle} other v (BitMasking bits insn) is most relocated has =
      let p = offset_at bytes n in
      let alone : is_of_pair other ≡ false = ap (λ x. begins_pair x other.kind || ends_pair x other.kind) is in
      let len : field_len other (drop p before) ≡ size_len (BitMasking bits insn) = len_alone other (drop p before) has.valued alone ∙ ap size_len is in
      subst (λ k. take k (drop p middle) ≡ take k (drop p before)) len
      (field_untouched architecture bytes before n other middle (untouched_at (omega (arith, most)) relocated)
      (alone_first architecture bytes before n other (fewer_apart n (n + 1) most) (record { is_row = has.is_row; some = subst (λ k. 0 < k) (sym len) (some_window insn) })
      (instruction_alone architecture _ other bits insn has.is_row is, alone)))

  pub same_at : {n : ℕ} {middle : List ℕ} (other : RowInfo) (v : ℤ) (size : RowSize)
      → other.size ≡ size → n + 1 ≤ total
      → AreRelocated architecture addresses bytes values before n middle
      → IsValued architecture addresses bytes values n other v
      → HaveSameWindow size (drop (offset_at bytes n) middle) (drop (offset_at bytes n) before)
  same_at other v (ByteSize k) is most relocated has = tt
  same_at {n} {middle} other v (BitMasking bits insn) is most relocated has =
      same_window (BitMasking bits insn) (drop (offset_at bytes n) middle) (drop (offset_at bytes n) before)
      (front_at other v (BitMasking bits insn) is most relocated has)

  accepted_more : (n m i : ℕ) (row : RowInfo) {v : ℤ} → n ≤ m
      → (is_of_pair row ≡ false → IsAcceptedAt row v (offset_at bytes i) before)
      × (is_of_pair row ≡ true → OfPair (PairFits found bytes before) n i)
      → (is_of_pair row ≡ false → IsAcceptedAt row v (offset_at bytes i) before)
      × (is_of_pair row ≡ true → OfPair (PairFits found bytes before) m i)
  accepted_more n m i row most accepts = (accepts.0, λ paired. of_pair_more n m most (accepts.1 paired))

  pub are_accepted : {n : ℕ} {now : List ℕ} (relocated : AreRelocated architecture addresses bytes values before n now)
      → n ≤ total → Uses relocated → AreAccepted found bytes before n
  are_accepted none most used i row v below is = absurd (omega (arith, below))
  are_accepted (mark {n} relocated value inside) most used i row v below is =
      elim (cases_eq i n) [
        | inl at ↦ none_some (used.0) (ap found (sym at) ∙ is)
        | inr isnt ↦ accepted_more n (n + 1) i row (omega arith) (are_accepted relocated (omega (arith, most)) (used.1) i row v (omega (arith, below, isnt)) is)
      ]
  are_accepted (one {n} {middle} {after} {row = other} {v = w} relocated has written) most used i row v below is =
      elim (cases_eq i n) [
        | inl at ↦
            let p = offset_at bytes n in
            let same_row = one_found (found n) row other v w (ap found (sym at) ∙ is) (used.0) in
            let len = (untouched_at (omega (arith, most)) relocated).0 in let inside = written.inside in
            let d = length-drop p before in let dm = length-drop p middle in
            let here : IsAcceptedAt other w p before =
            record {
              inside = omega (arith, inside, len);
              length_shown = length_same other p middle before
                  (front_at other w other.size refl (omega (arith, most)) relocated has) len written.length_shown;
              holds = offset_same other w (drop p before) (drop p middle) (window_back other.size (drop p middle) (drop p before)
                  (same_at other w other.size refl (omega (arith, most)) relocated has)) ∙ written.holds;
              accepted = accepted_same other w (drop p middle) (drop p before)
                  (same_at other w other.size refl (omega (arith, most)) relocated has) (omega (arith, written.written.accepted.long, d, dm, len)) written.written.accepted;
            } in (
              (λ _. subst (λ j. IsAcceptedAt row v (offset_at bytes j) before) (sym at)
                  (subst (λ x. IsAcceptedAt row x p before) (sym same_row.value_is)
                  (subst (λ x. IsAcceptedAt x w p before) (sym same_row.row_is) here))),
              (λ paired. absurd (true≢false (sym paired ∙ (ap is_of_pair same_row.row_is ∙ (written_alone other w p middle after written))))),
            )
        | inr isnt ↦ accepted_more n (n + 1) i row (omega arith) (are_accepted relocated (omega (arith, most)) (used.1) i row v (omega (arith, below, isnt)) is)
      ]
  are_accepted (pair {n} {middle} {after} relocated written) most used i row v below is =
      let fits = (pair_here after relocated most written (used.0) (used.1)).fits in
      elim (cases_eq i n) [
        | inl at ↦
            let same_row = one_found (found n) row written.pair.row v written.pair.value (ap found (sym at) ∙ is) (used.0) in
            let paired = or_left (begins_pair written.pair.row.size written.pair.row.kind) (ends_pair written.pair.row.size written.pair.row.kind) written.pair.begins in (
              (λ alone. absurd (true≢false (sym paired ∙ (ap is_of_pair (sym same_row.row_is) ∙ alone)))),
              (λ _. (n, omega arith, inl at, fits)),
            )
        | inr isnt ↦ elim (cases_eq i (n + 1)) [
          | inl at ↦
              let same_row = one_found (found (n + 1)) row written.pair.other v written.pair.subtracted (ap found (sym at) ∙ is) (used.1) in
              let paired = or_right (begins_pair written.pair.other.size written.pair.other.kind) (ends_pair written.pair.other.size written.pair.other.kind) written.pair.ends in (
                (λ alone. absurd (true≢false (sym paired ∙ (ap is_of_pair (sym same_row.row_is) ∙ alone)))),
                (λ _. (n, omega arith, inr at, fits)),
              )
          | inr far ↦ accepted_more n (n + 2) i row (omega arith) (are_accepted relocated (omega (arith, most)) (used.2) i row v (omega (arith, below, isnt, far)) is)
        ]
      ]

  -- ---- bytes that nothing is written to

  stays : {n : ℕ} {now : List ℕ} (relocated : AreRelocated architecture addresses bytes values before n now)
      → n ≤ total → Uses relocated → (p : ℕ) → IsUnwritten found bytes before n p
      → slice_index now p ≡ slice_index before p
  stays none most used p outside = refl
  stays (mark {n} relocated value inside) most used p outside =
      stays relocated (omega (arith, most)) (used.1) p (λ i row v below. outside i row v (omega (arith, below)))
  stays (one {n} {middle} {after} {row} {v} relocated has written) most used p outside =
      let o = offset_at bytes n in
      local_byte o (window_len row) p middle after (one_local row v o middle after written)
      (elim (outside n row v (omega arith) (used.0)) [
        | inl below ↦ inl below
        | inr following ↦ inr (omega (arith, following, (len_alone row (drop o before) has.valued (written_alone row v o middle after written))))
      ])
      ∙ stays relocated (omega (arith, most)) (used.1) p (λ i row v below. outside i row v (omega (arith, below)))
  stays (pair {n} {middle} {after} relocated written) most used p outside =
      let first = written.pair.row in
      let place = pair_place architecture addresses bytes before middle after values n (fewer_apart n (n + 2) most) (untouched_at (omega (arith, most)) relocated) written in
      local_byte (offset_at bytes n) (field_len first (drop (offset_at bytes n) before)) p middle after place.local
      (outside n first written.pair.value (omega arith) (used.0))
      ∙ stays relocated (omega (arith, most)) (used.2) p (λ i row v below. outside i row v (omega (arith, below)))

  -- ---- each field

  value_held : {now : List ℕ} (relocated : AreRelocated architecture addresses bytes values before total now)
      → Uses relocated → ((j : ℕ) → slice_index before j < 256)
      → (i : ℕ) (row : RowInfo) (v : ℤ) → i < total
      → found i ≡ Some (row, v) → IsField architecture bytes before i row → has_value row.kind ≡ true
      → is_of_pair row ≡ false → takes_size row.kind row.size ≡ true
      → (size : RowSize) → row.size ≡ size
      → HoldsValue size row v (λ number. composed found bytes before (offset_at bytes i) number total)
      (field_bytes bytes before i row before) (field_bytes bytes before i row now)
  value_held relocated used small i row v below is is_field valued alone supported_size (BitMasking bits insn) size =
      held_alone relocated (omega arith) used i row v below is is_field
      (instruction_alone architecture _ row bits insn is_field.is_row size, alone)
  value_held relocated used small i row v below is is_field valued alone supported_size (ByteSize zero) size =
      absurd (omega (arith, (len_alone row (drop (offset_at bytes i) before) valued alone ∙ ap size_len size), is_field.some))
  value_held relocated used small i row v below is is_field valued alone supported_size (ByteSize (suc k)) size =
      let most = small_bytes row.kind (suc k) (subst (λ x. takes_size row.kind x ≡ true) size supported_size) in
      held_number relocated (omega arith) used i row k below is_field alone valued size
      (number_small (field_bytes bytes before i row before) k (small_field bytes before i row small) most)

  held : {now : List ℕ} (relocated : AreRelocated architecture addresses bytes values before total now)
      → Uses relocated → ((j : ℕ) → slice_index before j < 256)
      → (i : ℕ) (row : RowInfo) (v : ℤ) → i < total → found i ≡ Some (row, v)
      → 0 < field_len row (drop (offset_at bytes i) before)
      → IsHeld found bytes before now total i row v
  held relocated used small i row v below is some =
      let has = valued_at relocated used i row v below is in
      let is_field : IsField architecture bytes before i row = record { is_row = has.is_row; some = some } in
      let accepts = are_accepted relocated (omega arith) used i row v below is in
      record {
        value = λ alone. value_held relocated used small i row v below is is_field has.valued alone (supported_size row (accepts.0 alone).accepted.supported) row.size refl;
        pair = λ paired. held_pair relocated (omega arith) used i row v below is is_field paired;
      }

pub are_written : (architecture : Architecture) (addresses : Addresses) (bytes : List ℕ)
    (values : Values) (before after : List ℕ) → ((j : ℕ) → slice_index before j < 256)
    → AreAllRelocatedBy architecture addresses bytes values before after
    → AreWrittenBy architecture addresses bytes values before after
are_written architecture addresses bytes values before after small all =
    let n = length bytes / 24 in
    let found = found_of all.relocated in
    let used = uses architecture addresses bytes values before n all.apart found all.relocated (λ i below. refl) in
    record {
      can = record {
        found = found;
        are_found = found_are architecture addresses bytes values before n all.apart found all.relocated used;
        apart = all.apart;
        accepted = are_accepted architecture addresses bytes values before n all.apart found all.relocated (omega arith) used;
        inside = are_inside architecture addresses bytes values before n all.apart found all.relocated used;
      };
      fields = held architecture addresses bytes values before n all.apart found all.relocated used small;
      left = stays architecture addresses bytes values before n all.apart found all.relocated (omega arith) used;
      same_length = all.same_length;
    }
