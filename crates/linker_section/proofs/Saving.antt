-- Bytes that are kept, put back.
use Rattle.linker_section.proofs.Imports.{Architecture, IsRow, IsSavedAt, List, Option, Restores, RowInfo, Some, ap, append-nil, ap₂, arith, cases_lt, cond-false, cond-true, drop, drop-drop, drop_all, drop_at, ends_pair, false, from_le_bytes, get_or, get_or-append_right, get_or-drop, get_or-replicate, get_or-set_other, get_or-set_same, get_or_append_left, get_or_past, inl, inr, le-leb, le_bytes_8, leb, length, length-append, length-drop, length-replicate, length-set, length-take-le, lt-leb, min, min-eq_left, min-eq_right, refl, relocation_in, replicate, saved_place, set, slice_index, subst, suc, sum_64, sym, take, take-append-drop, take-append-le, take-take, take_all, take_at, to_le_bytes, true, w64, with_word, zero, ℕ, ◌++◌, ◌+◌, ◌-◌, ◌<◌, ◌∙◌, ◌≡◌, ◌≤◌}

-- ---- one word

-- what is after the 8 bytes is as before
pub put_back : (place word : ℕ) (before after : List ℕ)
    → drop (place + 8) after ≡ drop (place + 8) before → length after ≡ length before
    → IsSavedAt place before word → with_word place word after ≡ take place after ++ drop place before
put_back place word before after following same saved =
    elim (cases_lt (length after) place) [
      | inl past ↦
          cond-false (leb place (length after)) _ after (lt-leb place (length after) past)
          ∙ sym (ap (λ x. take place after ++ x) (drop_all place before (omega (arith, past, same)))
          ∙ (append-nil (take place after) ∙ take_all place after (omega (arith, past))))
      | inr within ↦
          cond-true (leb place (length after)) _ after (le-leb place (length after) within)
          ∙ ap (λ x. take place after ++ x)
          (ap (λ x. x ++ drop (place + 8) after) (ap (λ n. take (n - place) (to_le_bytes w64 word)) same ∙ saved)
          ∙ (ap (λ x. take 8 (drop place before) ++ x) (following ∙ sym (drop-drop 8 place before))
          ∙ take-append-drop 8 (drop place before)))
    ]

pub undone : (place word : ℕ) (before after : List ℕ)
    → take place after ≡ take place before → drop (place + 8) after ≡ drop (place + 8) before
    → length after ≡ length before → IsSavedAt place before word
    → with_word place word after ≡ before
undone place word before after kept following same saved =
    put_back place word before after following same saved
    ∙ (ap (λ x. x ++ drop place before) kept ∙ take-append-drop place before)

plus : (place : ℕ) → place + 8 + 8 ≡ place + 16
plus place = omega arith

-- two words, of 16 bytes
pub both_undone : (place word next : ℕ) (before after : List ℕ)
    → take place after ≡ take place before → drop (place + 16) after ≡ drop (place + 16) before
    → length after ≡ length before → IsSavedAt place before word → IsSavedAt (place + 8) before next
    → with_word place word (with_word (place + 8) next after) ≡ before
both_undone place word next before after kept following same saved saved_next =
    elim (cases_lt (length after) (place + 8)) [
      | inl past ↦
          ap (with_word place word) (cond-false (leb (place + 8) (length after)) _ after (lt-leb (place + 8) (length after) past))
          ∙ undone place word before after kept
          (drop_all (place + 8) after (omega (arith, past)) ∙ sym (drop_all (place + 8) before (omega (arith, past, same)))) same saved
      | inr within ↦
          let n = length-take-le (place + 8) after within in
          ap (with_word place word) (put_back (place + 8) next before after (ap (λ k. drop k after) (plus place) ∙ (following ∙ ap (λ k. drop k before) (sym (plus place)))) same saved_next)
          ∙ undone place word before (take (place + 8) after ++ drop (place + 8) before)
          (take-append-le place (take (place + 8) after) _ (omega (arith, n)) ∙ (take-take place (place + 8) after (omega arith) ∙ kept))
          (drop_at (take (place + 8) after) (drop (place + 8) before) (place + 8) n)
          (length-append (take (place + 8) after) _ ∙ (let d = length-drop (place + 8) before in omega (arith, n, d, within, same)))
          saved
    ]

-- ---- words of relocations

pub restores_by : (architecture : Architecture) (bytes memory other : List ℕ) (n : ℕ)
    (now before : List ℕ) → ((i : ℕ) → i < n → slice_index other i ≡ slice_index memory i)
    → Restores architecture bytes memory n now before
    → Restores architecture bytes other n now before
restores_by architecture bytes memory other zero now before same restores = restores
restores_by architecture bytes memory other (suc n) now before same restores =
    let row = restores.0 in
    let place = saved_place row (relocation_in bytes n).offset in (
      row,
      (restores.1),
      restores_by architecture bytes memory other n (with_word place (slice_index other n) now) before
          (λ i below. same i (omega (arith, below)))
          (subst (λ w. Restores architecture bytes memory n (with_word place w now) before) (sym (same n (omega arith))) (restores.2)),
    )

-- a word that is kept of one more relocation
pub restores_more : (architecture : Architecture) (bytes memory : List ℕ) (n word : ℕ)
    (middle now before : List ℕ) (row : Option RowInfo) → n < length memory
    → IsRow architecture (relocation_in bytes n).r_type row
    → with_word (saved_place row (relocation_in bytes n).offset) word now ≡ middle
    → Restores architecture bytes memory n middle before
    → Restores architecture bytes (set memory n word) (suc n) now before
restores_more architecture bytes memory n word middle now before row room is_row back restores = (
  row,
  is_row,
  subst (λ w. Restores architecture bytes (set memory n word) n (with_word (saved_place row (relocation_in bytes n).offset) w now) before)
      (sym (get_or-set_same memory n word 0 room))
      (subst (λ x. Restores architecture bytes (set memory n word) n x before) (sym back)
      (restores_by architecture bytes memory (set memory n word) n middle before
      (λ i below. get_or-set_other memory n i word 0 (λ same. omega (arith, same, below))) restores)),
)

pub plus_one : (n : ℕ) → suc n ≡ n + 1
plus_one n = omega arith

plus_two : (n : ℕ) → suc (n + 1) ≡ n + 2
plus_two n = omega arith

-- after a write of a relocation's field
pub restores_local : (architecture : Architecture) (bytes memory : List ℕ) (n word : ℕ)
    (now after before : List ℕ) (row : RowInfo) → n < length memory
    → IsRow architecture (relocation_in bytes n).r_type (Some row)
    → ends_pair row.size row.kind ≡ false
    → take (relocation_in bytes n).offset after ≡ take (relocation_in bytes n).offset now
    → drop ((relocation_in bytes n).offset + 8) after ≡ drop ((relocation_in bytes n).offset + 8) now
    → length after ≡ length now → IsSavedAt (relocation_in bytes n).offset now word
    → Restores architecture bytes memory n now before
    → Restores architecture bytes (set memory n word) (n + 1) after before
restores_local architecture bytes memory n word now after before row room is_row ends kept following same saved restores =
    let o = (relocation_in bytes n).offset in
    subst (λ k. Restores architecture bytes (set memory n word) k after before) (plus_one n)
    (restores_more architecture bytes memory n word now after before (Some row) room is_row
    (ap (λ p. with_word p word after) (cond-false (ends_pair row.size row.kind) (sum_64 o 8) o ends)
    ∙ undone o word now after kept following same saved) restores)

-- after that of a pair
pub restores_pair : (architecture : Architecture) (bytes memory : List ℕ) (n word next : ℕ)
    (now after before : List ℕ) (row other : RowInfo) → n + 1 < length memory
    → IsRow architecture (relocation_in bytes n).r_type (Some row)
    → ends_pair row.size row.kind ≡ false
    → IsRow architecture (relocation_in bytes (n + 1)).r_type (Some other)
    → ends_pair other.size other.kind ≡ true
    → (relocation_in bytes (n + 1)).offset ≡ (relocation_in bytes n).offset
    → sum_64 (relocation_in bytes n).offset 8 ≡ (relocation_in bytes n).offset + 8
    → take (relocation_in bytes n).offset after ≡ take (relocation_in bytes n).offset now
    → drop ((relocation_in bytes n).offset + 16) after ≡ drop ((relocation_in bytes n).offset + 16) now
    → length after ≡ length now → IsSavedAt (relocation_in bytes n).offset now word
    → IsSavedAt ((relocation_in bytes n).offset + 8) now next
    → Restores architecture bytes memory n now before
    → Restores architecture bytes (set (set memory n word) (n + 1) next) (n + 2) after before
restores_pair architecture bytes memory n word next now after before row other room is_row ends is_other other_ends same_offset small kept following same saved saved_next restores =
    let o = (relocation_in bytes n).offset in
    let middle = with_word (o + 8) next after in
    subst (λ k. Restores architecture bytes (set (set memory n word) (n + 1) next) k after before) (plus_two n)
    (restores_more architecture bytes (set memory n word) (n + 1) next middle after before (Some other)
    (let l = length-set memory n word in omega (arith, l, room)) is_other
    (ap (λ p. with_word p next after) (cond-true (ends_pair other.size other.kind) _ _ other_ends ∙ (ap (λ x. sum_64 x 8) same_offset ∙ small)))
    (subst (λ k. Restores architecture bytes (set memory n word) k middle before) (plus_one n)
    (restores_more architecture bytes memory n word now middle before (Some row) (omega (arith, room)) is_row
    (ap (λ p. with_word p word middle) (cond-false (ends_pair row.size row.kind) (sum_64 o 8) o ends)
    ∙ both_undone o word next now after kept following same saved saved_next) restores)))

-- ---- words and bytes

abbrev pub AreBytes : List ℕ → Type 0
AreBytes bytes = (i : ℕ) → get_or bytes i 0 < 256

zero_at : (i : ℕ) → get_or {A = ℕ} (replicate 8 0) i 0 ≡ 0
zero_at i =
    elim (cases_lt i 8) [
      | inl below ↦ get_or-replicate {A = ℕ} 8 i 0 0 below
      | inr past ↦ get_or_past (replicate 8 0) i 0 (let r = length-replicate {A = ℕ} 8 0 in omega (arith, r, past))
    ]

small_or_zero : (rest : List ℕ) (k : ℕ) → AreBytes rest → AreBytes (rest ++ drop k (replicate 8 0))
small_or_zero rest k small i =
    elim (cases_lt i (length rest)) [
      | inl below ↦ let s = small i in let e = get_or_append_left rest (drop k (replicate 8 0)) 0 i below in omega (arith, s, e)
      | inr past ↦
          let e = get_or-append_right rest (drop k (replicate 8 0)) (length rest) i 0 refl past ∙ get_or-drop k (replicate 8 0) (i - length rest) 0 in
          omega (arith, e, (zero_at (k + (i - length rest))))
    ]

pub saved_last : (offset word : ℕ) (section : List ℕ) (k : ℕ) → AreBytes section
    → offset ≤ length section → length section < offset + 8 → k ≡ length section - offset
    → word ≡ from_le_bytes w64 (drop offset section ++ drop k (replicate 8 0))
    → IsSavedAt offset section word
saved_last offset word section k small inside short len is =
    let rest = drop offset section in
    let zeros : List ℕ = replicate 8 0 in
    let d = length-drop offset section in
    let bytes = rest ++ drop k zeros in
    let l : length bytes ≡ 8 = length-append rest (drop k zeros) ∙ omega (arith, d, (length-drop k zeros), (length-replicate {A = ℕ} 8 0), inside, short, len) in
    ap (take (length section - offset)) (le_bytes_8 bytes word l (λ i. small_or_zero rest k (λ j. let s = small (offset + j) in let e = get_or-drop offset section j 0 in omega (arith, s, e)) i) is)
    ∙ (take_at rest (drop k zeros) (length section - offset) d ∙ sym (take_all 8 rest (omega (arith, d, short))))

pub put_is : (offset word k : ℕ) (section : List ℕ) → offset ≤ length section
    → k ≡ min (length section - offset) 8
    → take offset section ++ (take k (to_le_bytes w64 word) ++ drop k (drop offset section))
    ≡ with_word offset word section
put_is offset word k section inside is =
    ap (λ x. take offset section ++ x)
    (elim (cases_lt (length section - offset) 8) [
      | inl short ↦
          let e : k ≡ length section - offset = is ∙ min-eq_left (omega (arith, short)) in
          ap₂ (λ x y. x ++ y) (ap (λ n. take n (to_le_bytes w64 word)) e)
          (drop-drop k offset section ∙ (drop_all (offset + k) section (omega (arith, e)) ∙ sym (drop_all (offset + 8) section (omega (arith, short)))))
      | inr long ↦
          let e : k ≡ 8 = is ∙ min-eq_right long in
          ap₂ (λ x y. x ++ y)
          (take_all k (to_le_bytes w64 word) (omega (arith, e)) ∙ sym (take_all (length section - offset) (to_le_bytes w64 word) long))
          (drop-drop k offset section ∙ ap (λ n. drop (offset + n) section) e)
    ])
    ∙ sym (cond-true (leb offset (length section)) _ section (le-leb offset (length section) inside))
