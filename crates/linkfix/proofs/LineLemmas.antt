-- What the first line of an input is, by the parts in which its bytes come.
use Rattle.linkfix.proofs.Imports.{All, All-append, Bool, Consumes, IfSome, IsNextLine, IsTrue, List, None, Option, Some, [], ap, append-nil, append_assoc, arith, cond, drop, drop-drop, drop-take, drop_through, ends_with_byte, false, false≢true, first_line, get_or, get_or_push, inl, inr, length, length-take, length_push, ne_eqb, not, prepend_known, refl, slice_index, slice_range, strip_last, sym, take, take-append-drop, take_at, take_more, take_through, true, ℕ, ◌++◌, ◌+◌, ◌-◌, ◌<◌, ◌==◌, ◌↔◌, ◌∙◌, ◌∷◌, ◌≡◌, ◌≢◌, ◌≤◌, ◌⊎◌}
use Rattle.std.proofs.BufReadLemmas.{take_through-append, drop_through-append}

-- no LF among the bytes
abbrev pub IsOneLine : List ℕ → Type 0
IsOneLine bytes = All (λ byte. byte ≢ 10) bytes

-- the first line, of the bytes up to the first LF
abbrev without_end : List ℕ → List ℕ
without_end l = cond (ends_with_byte 10 l) (strip_last 13 (strip_last 10 l)) (strip_last 10 l)

ends_at_lf : (front : List ℕ) → ends_with_byte 10 (front ++ 10 ∷ []) ≡ true
ends_at_lf front =
    let len = length_push front 10 in
    let last = get_or_push front 10 0 (length (front ++ 10 ∷ []) - 1) (omega (arith, len)) in grind (arith, len, last)

lf_taken : (front : List ℕ) → strip_last 10 (front ++ 10 ∷ []) ≡ front
lf_taken front = rw (ends_at_lf front) (take_at front (10 ∷ []) (length (front ++ 10 ∷ []) - 1) (omega (arith, length_push front 10)))

no_lf_at_end : (line : List ℕ) → IsOneLine line → ends_with_byte 10 line ≡ false
no_lf_at_end [] one = refl
no_lf_at_end (c ∷ cs) one = let last = one (length (c ∷ cs) - 1) 0 (omega arith) in grind (arith, last)

module _ (front rest : List ℕ) (one : IsOneLine front) where
  line_before_lf : first_line (front ++ 10 ∷ rest) ≡ strip_last 13 front
  line_before_lf = ap without_end (take_through-append 10 front (10 ∷ rest) one)
      ∙ ap (λ b. cond b (strip_last 13 (strip_last 10 (front ++ 10 ∷ []))) (strip_last 10 (front ++ 10 ∷ []))) (ends_at_lf front)
      ∙ ap (strip_last 13) (lf_taken front)

  left_after_lf : drop_through 10 (front ++ 10 ∷ rest) ≡ rest
  left_after_lf = drop_through-append 10 front (10 ∷ rest) one

module _ (line : List ℕ) (one : IsOneLine line) where
  line_to_end : first_line line ≡ line
  line_to_end =
      let all = ap (take_through 10) (sym (append-nil line)) ∙ take_through-append 10 line [] one ∙ append-nil line in
      ap without_end all ∙ rw (no_lf_at_end line one) refl

  none_left : drop_through 10 line ≡ []
  none_left = ap (drop_through 10) (sym (append-nil line)) ∙ drop_through-append 10 line [] one

-- a part is what stands before its first LF, that LF, and what stands after it
split_at_lf : (part : List ℕ) (i : ℕ) → i < length part → slice_index part i ≡ 10 → part ≡ take i part ++ 10 ∷ drop (i + 1) part
split_at_lf part i low lf =
    sym (take-append-drop (i + 1) part) ∙ ap (λ l. l ++ drop (i + 1) part) (take_more part i 0 low)
    ∙ append_assoc (take i part) (get_or part i 0 ∷ []) (drop (i + 1) part) ∙ ap (λ b. take i part ++ b ∷ drop (i + 1) part) lf

-- a part without its first n bytes
pub part_after : (bytes : List ℕ) (start end n : ℕ) → start ≤ end → n ≤ length (slice_range bytes start end)
    → slice_range bytes (start + n) end ≡ drop n (slice_range bytes start end)
part_after bytes start end n ordered inside =
    let whole : end - start ≡ n + (end - (start + n)) = omega (arith, inside, ordered, length-take (end - start) (drop start bytes)) in
    sym (ap (λ k. drop n (take k (drop start bytes))) whole ∙ drop-take n (end - (start + n)) (drop start bytes)
    ∙ ap (take (end - (start + n))) (drop-drop n start bytes))

-- nothing stands between an offset and itself
pub no_part : (bytes : List ℕ) (end : ℕ) → slice_range bytes end end ≡ []
no_part bytes end = let none : end - end ≡ 0 = omega arith in ap (λ n. take n (drop end bytes)) none

pub found_of : (line : List ℕ) (empty : Bool) (n : ℕ) → n ≡ length line → empty ≡ (n == 0) → IsTrue (not empty) ↔ (line ≢ [])
found_of [] empty n len e = (λ h. absurd (false≢true (sym (ap not (e ∙ ap (λ k. k == 0) len)) ∙ h)), λ some. absurd (some refl))
found_of (c ∷ cs) empty n len e = (λ _ none. cc none, λ _. ap not (e ∙ ne_eqb n 0 (λ none. omega (arith, none, len))))

not_empty : (front rest : List ℕ) → front ++ 10 ∷ rest ≡ [] → ⊥
not_empty [] rest e = cc e
not_empty (c ∷ cs) rest e = cc e

-- the line ends at an LF in the part that comes after its front
pub next_line_at_lf : (known rest : Option (List ℕ)) (front part line after : List ℕ) (i : ℕ) → IsOneLine front → Consumes known (prepend_known part rest) front
    → i < length part → slice_index part i ≡ 10 → IsOneLine (take i part) → line ≡ strip_last 13 (front ++ take i part) → after ≡ drop (i + 1) part
    → IsNextLine known (prepend_known after rest) line true
next_line_at_lf None rest front part line after i one kept low lf more is left = tt
next_line_at_lf (Some xs) None front part line after i one kept low lf more is left = absurd kept
next_line_at_lf (Some xs) (Some zs) front part line after i one kept low lf more is left =
    let before = front ++ take i part in
    let following = drop (i + 1) part ++ zs in
    let all : xs ≡ before ++ 10 ∷ following = kept ∙ ap (λ l. front ++ (l ++ zs)) (split_at_lf part i low lf)
    ∙ ap (λ l. front ++ l) (append_assoc (take i part) (10 ∷ drop (i + 1) part) zs) ∙ sym (append_assoc front (take i part) (10 ∷ following)) in
    let whole = All-append (λ byte. byte ≢ 10) front (take i part) one more in (
      is ∙ sym (line_before_lf before following whole) ∙ ap first_line (sym all),
      ap (λ l. Some (l ++ zs)) left ∙ ap Some (sym (left_after_lf before following whole) ∙ ap (drop_through 10) (sym all)),
      (λ _ none. not_empty before following (sym all ∙ none), λ _. refl),
    )

-- the input ends with the line
pub next_line_at_end : (known rest left : Option (List ℕ)) (front part line gap : List ℕ) (more found : Bool) → IsOneLine front → IsOneLine part
    → Consumes known (prepend_known part rest) front → line ≡ front ++ part → gap ≡ []
    → IfSome (prepend_known gap rest) (λ ys. (left ≡ Some ys) × (IsTrue more ⊎ (ys ≡ []))) → more ≡ false
    → (IsTrue found ↔ (line ≢ [])) → IsNextLine known left line found
next_line_at_end None rest left front part line gap more found one two kept is none refilled last some = tt
next_line_at_end (Some xs) None left front part line gap more found one two kept is none refilled last some = absurd kept
next_line_at_end (Some xs) (Some zs) left front part line gap more found one two kept is none refilled last some =
    let ys_end : gap ++ zs ≡ [] = elim refilled.1 [
      | inl some_more ↦ absurd (false≢true (sym last ∙ some_more))
      | inr end ↦ end
    ] in
    let ended : zs ≡ [] = ap (λ l. l ++ zs) (sym none) ∙ ys_end in
    let all : xs ≡ line = kept ∙ sym (append_assoc front part zs) ∙ ap (λ l. (front ++ part) ++ l) ended ∙ append-nil (front ++ part) ∙ sym is in
    let whole : IsOneLine line = rw is (All-append (λ byte. byte ≢ 10) front part one two) in (
      rw all (sym (line_to_end line whole)),
      refilled.0 ∙ ap Some (ys_end ∙ sym (none_left line whole) ∙ ap (drop_through 10) (sym all)),
      rw all some,
    )
