-- What is written to a section, byte by byte.
use Rattle.linker_section.proofs.Imports.{Addresses, Architecture, AreAllRelocatedBy, AreApart, AreRelocated, IsField, IsInNoField, IsPairWritten, IsValued, IsWritten, List, Overlap, RowInfo, Values, [], ap, arith, begins_pair, cases_Bool, cases_eq, cases_lt, cond, cond-false, cond-true, cond_both, drop, ends_pair, field_end, field_len, get_or, get_or-drop, get_or-take, inl, inr, length, length-drop, ltb, mark, none, of_number, of_pair, offset_at, one, or_left, pair, refl, slice_index, subst, suc, sym, take, true, true≢false, uleb_len, window_len, zero, ℕ, ℤ, ◌+◌, ◌-◌, ◌/◌, ◌<◌, ◌∙◌, ◌∷◌, ◌≡◌, ◌≤◌, ◌⊎◌}
use Rattle.linker_section.proofs.Ulebs.{some_uleb}
use Rattle.linker_section.proofs.Composing.{begun_is_continued_none, begun_ends_none, begun_has_value}
use Rattle.linker_section.proofs.Local.{IsLocal, one_local, pair_local}
use Rattle.linker_section.proofs.Stepping.{len_alone, len_paired, written_alone, unchanged, split}

-- ---- bytes outside of a field

pub local_byte : (o w p : ℕ) (now after : List ℕ) → IsLocal o w now after
    → (p < o) ⊎ (o + w ≤ p) → slice_index after p ≡ slice_index now p
local_byte o w p now after local outside =
    elim outside [
      | inl below ↦
          sym (get_or-take o after p 0 below) ∙ (ap (λ x. get_or x p 0) local.kept ∙ get_or-take o now p 0 below)
      | inr following ↦
          ap (λ n. get_or after n 0) (split o w p following)
          ∙ (sym (get_or-drop (o + w) after (p - (o + w)) 0)
          ∙ (ap (λ x. get_or x (p - (o + w)) 0) local.following
          ∙ (get_or-drop (o + w) now (p - (o + w)) 0 ∙ ap (λ n. get_or now n 0) (sym (split o w p following)))))
    ]

-- ---- a ULEB128 number of the same bytes

pub same_uleb : (fuel : ℕ) (xs ys : List ℕ) → length ys ≡ length xs
    → ((j : ℕ) → j < uleb_len (take fuel xs) → slice_index ys j ≡ slice_index xs j)
    → uleb_len (take fuel ys) ≡ uleb_len (take fuel xs)
same_uleb zero xs ys len same = refl
same_uleb (suc fuel) [] [] len same = refl
same_uleb (suc fuel) [] (y ∷ ys) len same = absurd (omega (arith, len))
same_uleb (suc fuel) (x ∷ xs) [] len same = absurd (omega (arith, len))
same_uleb (suc fuel) (x ∷ xs) (y ∷ ys) len same =
    ap (λ z. cond (ltb z 0x80) 1 (1 + uleb_len (take fuel ys))) (same 0 (cond_both (ltb x 0x80) 1 (1 + uleb_len (take fuel xs)) (λ n. 0 < n) (λ _. omega arith) (λ _. omega arith)))
    ∙ elim (cases_Bool (ltb x 0x80)) [
      | inl ends ↦
          cond-true (ltb x 0x80) 1 (1 + uleb_len (take fuel ys)) ends
          ∙ sym (cond-true (ltb x 0x80) 1 (1 + uleb_len (take fuel xs)) ends)
      | inr on ↦
          let more = cond-false (ltb x 0x80) 1 (1 + uleb_len (take fuel xs)) on in
          cond-false (ltb x 0x80) 1 (1 + uleb_len (take fuel ys)) on
          ∙ (ap (λ n. 1 + n) (same_uleb fuel xs ys (omega (arith, len)) (λ j below. same (suc j) (omega (arith, below, more))))
          ∙ sym more)
    ]

-- ---- all writes

-- the bytes that no field below an index has
abbrev pub AreUntouched : Architecture → List ℕ → List ℕ → ℕ → List ℕ → Type 0
AreUntouched architecture bytes before n now =
    (length now ≡ length before)
    × ((p : ℕ) → IsInNoField architecture bytes before n p → slice_index now p ≡ slice_index before p)

fewer : (architecture : Architecture) (bytes before : List ℕ) (n m p : ℕ) → n ≤ m
    → IsInNoField architecture bytes before m p → IsInNoField architecture bytes before n p
fewer architecture bytes before n m p most outside i row below is_field =
    outside i row (omega (arith, below, most)) is_field

one_untouched : (architecture : Architecture) (addresses : Addresses) (bytes before middle now : List ℕ)
    (values : Values) (n : ℕ) (row : RowInfo) (v : ℤ)
    → AreUntouched architecture bytes before n middle
    → IsValued architecture addresses bytes values n row v
    → IsWritten row v (offset_at bytes n) middle now
    → AreUntouched architecture bytes before (n + 1) now
one_untouched architecture addresses bytes before middle now values n row v so_far has written =
    let o = offset_at bytes n in
    let local = one_local row v o middle now written in
    let len : field_len row (drop o before) ≡ window_len row = len_alone row (drop o before) has.valued (written_alone row v o middle now written) in (
      (local.same_length ∙ so_far.0),
      (λ p outside. elim (cases_eq (window_len row) 0) [
        | inl empty ↦
            ap (λ x. slice_index x p) (unchanged o (window_len row) middle now local empty)
            ∙ so_far.1 p (fewer architecture bytes before n (n + 1) p (omega arith) outside)
        | inr wide ↦
            local_byte o (window_len row) p middle now local
            (elim (outside n row (omega arith) (record { is_row = has.is_row; some = omega (arith, wide, len) })) [
              | inl below ↦ inl below
              | inr following ↦ inr (omega (arith, following, len))
            ])
            ∙ so_far.1 p (fewer architecture bytes before n (n + 1) p (omega arith) outside)
      ]),
    )

-- no earlier relocation has a byte of the field of one
abbrev pub IsFirstAt : Architecture → List ℕ → List ℕ → ℕ → RowInfo → Type 0
IsFirstAt architecture bytes before n row =
    (i : ℕ) (other : RowInfo) → i < n → IsField architecture bytes before i other
    → Overlap bytes before i other n row → ⊥

pub first_byte : (architecture : Architecture) (bytes before : List ℕ) (n : ℕ)
    (row : RowInfo) (p : ℕ) → IsFirstAt architecture bytes before n row
    → offset_at bytes n ≤ p → p < field_end bytes before n row
    → IsInNoField architecture bytes before n p
first_byte architecture bytes before n row p first from to i other below is_other =
    elim (cases_lt p (offset_at bytes i)) [
      | inl under ↦ inl under
      | inr at ↦ elim (cases_lt p (field_end bytes before i other)) [
        | inr following ↦ inr following
        | inl inside ↦ absurd (first i other below is_other ((omega (arith, at, to)), (omega (arith, from, inside))))
      ]
    ]

-- as of the first of a pair
pub pair_first : (architecture : Architecture) (bytes before : List ℕ) (n : ℕ)
    (row : RowInfo) → AreApart architecture bytes before (n + 1)
    → IsField architecture bytes before n row → begins_pair row.size row.kind ≡ true
    → IsFirstAt architecture bytes before n row
pair_first architecture bytes before n row apart is_field begins i other below is_other overlap =
    elim (apart i n other row below (omega arith) is_other is_field overlap) [
      | of_number offset window on ↦ true≢false (sym on ∙ begun_is_continued_none row.size row.kind other.kind begins)
      | of_pair offset after begun ended ↦ true≢false (sym ended ∙ begun_ends_none row.size row.kind begins)
    ]

-- the bytes that a pair changes are a field of the section before
pub record IsPairPlace (architecture : Architecture) (bytes before middle now : List ℕ) (n : ℕ)
    (row : RowInfo) : Type 0 where
  pub is_field : IsField architecture bytes before n row
  pub len_is : field_len row (drop (offset_at bytes n) before)
      ≡ uleb_len (take 10 (drop (offset_at bytes n) middle))
  pub local : IsLocal (offset_at bytes n) (field_len row (drop (offset_at bytes n) before)) middle now

pub pair_place : (architecture : Architecture) (addresses : Addresses) (bytes before middle now : List ℕ)
    (values : Values) (n : ℕ) → AreApart architecture bytes before (n + 2)
    → AreUntouched architecture bytes before n middle
    → (written : IsPairWritten architecture addresses bytes values n middle now)
    → IsPairPlace architecture bytes before middle now n written.pair.row
pair_place architecture addresses bytes before middle now values n apart so_far written =
    let o = offset_at bytes n in
    let pair = written.pair in
    let row = pair.row in
    let paired = or_left (begins_pair row.size row.kind) (ends_pair row.size row.kind) pair.begins in
    let len : field_len row (drop o before) ≡ uleb_len (take 10 (drop o before)) = len_paired row (drop o before) (begun_has_value row.size row.kind pair.begins) paired in
    let same = so_far.0 in
    let d = length-drop o before in let dm = length-drop o middle in
    let some = some_uleb (drop o before) (omega (arith, written.written.was.there, d, dm, same)) in
    let is_field : IsField architecture bytes before n row = record { is_row = pair.has_value.is_row; some = omega (arith, some, len) } in
    let first = pair_first architecture bytes before n row (λ i j x y less under. apart i j x y less (omega (arith, under))) is_field pair.begins in
    let uleb : uleb_len (take 10 (drop o middle)) ≡ uleb_len (take 10 (drop o before)) =
    same_uleb 10 (drop o before) (drop o middle) (omega (arith, d, dm, same))
    (λ j below. get_or-drop o middle j 0 ∙ (so_far.1 (o + j)
    (first_byte architecture bytes before n row (o + j) first (omega arith) (omega (arith, below, len)))
    ∙ sym (get_or-drop o before j 0))) in
    record {
      is_field = is_field;
      len_is = len ∙ sym uleb;
      local = subst (λ w. IsLocal o w middle now) (uleb ∙ sym len) (pair_local architecture addresses bytes values n middle now written);
    }

pair_untouched : (architecture : Architecture) (addresses : Addresses) (bytes before middle now : List ℕ)
    (values : Values) (n : ℕ) → AreApart architecture bytes before (n + 2)
    → AreUntouched architecture bytes before n middle
    → IsPairWritten architecture addresses bytes values n middle now
    → AreUntouched architecture bytes before (n + 2) now
pair_untouched architecture addresses bytes before middle now values n apart so_far written =
    let row = written.pair.row in
    let split = pair_place architecture addresses bytes before middle now values n apart so_far written in (
      (split.local.same_length ∙ so_far.0),
      (λ p outside.
          local_byte (offset_at bytes n) (field_len row (drop (offset_at bytes n) before)) p middle now split.local
          (outside n row (omega arith) split.is_field)
          ∙ so_far.1 p (fewer architecture bytes before n (n + 2) p (omega arith) outside)),
    )

pub untouched : (architecture : Architecture) (addresses : Addresses) (bytes before : List ℕ)
    (values : Values) {n : ℕ} {now : List ℕ} → AreApart architecture bytes before n
    → AreRelocated architecture addresses bytes values before n now
    → AreUntouched architecture bytes before n now
untouched architecture addresses bytes before values apart none = (refl, λ p outside. refl)
untouched architecture addresses bytes before values apart (mark {n} {middle} relocated value inside) =
    let so_far = untouched architecture addresses bytes before values (λ i j row other below under. apart i j row other below (omega (arith, under))) relocated in (
      (so_far.0),
      (λ p outside. so_far.1 p (fewer architecture bytes before n (n + 1) p (omega arith) outside)),
    )
untouched architecture addresses bytes before values apart (one {n} {middle} {after} {row} {v} relocated has written) =
    one_untouched architecture addresses bytes before middle after values n row v
    (untouched architecture addresses bytes before values (λ i j row other below under. apart i j row other below (omega (arith, under))) relocated) has written
untouched architecture addresses bytes before values apart (pair {n} {middle} {after} relocated written) =
    pair_untouched architecture addresses bytes before middle after values n apart
    (untouched architecture addresses bytes before values (λ i j row other below under. apart i j row other below (omega (arith, under))) relocated) written

pub all_relocated : (architecture : Architecture) (addresses : Addresses)
    (bytes before after : List ℕ) (values : Values)
    → AreApart architecture bytes before (length bytes / 24)
    → AreRelocated architecture addresses bytes values before (length bytes / 24) after
    → AreAllRelocatedBy architecture addresses bytes values before after
all_relocated architecture addresses bytes before after values apart relocated =
    let all = untouched architecture addresses bytes before values apart relocated in
    record { apart = apart; relocated = relocated; others = all.1; same_length = all.0 }
