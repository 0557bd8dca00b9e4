-- The words of a line, the first of them and the others.
use Rattle.linkfix.proofs.Imports.{List, [], arith, begins_word, cases_Bool, drop, false, inl, inr, is_space, length, one-add, prepend_to_first, refl, sym, take, true, words_of, ℕ, ◌<◌, ◌∙◌, ◌∷◌, ◌≡◌}
use Rattle.std.specs.List.{position_or_len, prefix_len}

-- what is left after the spaces in front
abbrev pub after_spaces : List ℕ → List ℕ
after_spaces line = drop (prefix_len is_space line) line

-- the front of a line up to the first space, and what is left from there on
abbrev pub front_word : List ℕ → List ℕ
front_word line = take (position_or_len is_space line) line

abbrev pub after_word : List ℕ → List ℕ
after_word line = drop (position_or_len is_space line) line

-- ---- one byte in front

words_of-space : (c : ℕ) (cs : List ℕ) → is_space c ≡ true → words_of (c ∷ cs) ≡ words_of cs
unfolding words_of
words_of-space c cs space = rw space refl

words_of-letter : (c : ℕ) (cs : List ℕ) → is_space c ≡ false → words_of (c ∷ cs) ≡ prepend_to_first c (begins_word cs) (words_of cs)
unfolding words_of
words_of-letter c cs letter = rw letter refl

words_of-end : words_of [] ≡ []
unfolding words_of
words_of-end = refl

-- ---- the first word

-- a line with nothing after its spaces has no word
pub words_of-none : (line : List ℕ) → after_spaces line ≡ [] → words_of line ≡ []
words_of-none [] h = words_of-end
words_of-none (c ∷ cs) h =
    elim (cases_Bool (is_space c)) [
      | inl space ↦ words_of-space c cs space ∙ words_of-none cs (rw (space, one-add) at h)
      | inr letter ↦ let p = rw letter at h in cc p
    ]

-- a line that begins with a word has it first
words_of-word : (c : ℕ) (cs : List ℕ) → is_space c ≡ false → words_of (c ∷ cs) ≡ front_word (c ∷ cs) ∷ words_of (after_word (c ∷ cs))
words_of-word c [] letter = words_of-letter c [] letter ∙ rw (words_of-end, letter) (rw words_of-end refl)
words_of-word c (d ∷ ds) letter =
    elim (cases_Bool (is_space d)) [
      | inl space ↦ words_of-letter c (d ∷ ds) letter ∙ rw (letter, space) refl
      | inr next ↦ words_of-letter c (d ∷ ds) letter ∙ rw (words_of-word d ds next) (rw (letter, next) (simp one-add))
    ]

-- the first word goes up to the next space, and the other words stand after it
pub words_of-first : (line : List ℕ) → 0 < length (after_spaces line)
    → words_of line ≡ front_word (after_spaces line) ∷ words_of (after_word (after_spaces line))
words_of-first [] h = absurd (omega arith)
words_of-first (c ∷ cs) h =
    elim (cases_Bool (is_space c)) [
      | inl space ↦ words_of-space c cs space ∙ rw (space, one-add) (words_of-first cs (rw (space, one-add) at h))
      | inr letter ↦ rw letter (words_of-word c cs letter)
    ]

-- ---- the same of the parts that were cut off

nil_from_length : (xs : List ℕ) → length xs ≡ 0 → xs ≡ []
nil_from_length [] h = refl
nil_from_length (x ∷ xs) h = absurd (omega arith)

module _ (line rest : List ℕ) (spaces : ℕ) (counted : spaces ≡ prefix_len is_space line) (cut : rest ≡ drop spaces line) where
  pub no_word_left : length rest ≡ 0 → words_of line ≡ []
  no_word_left h = words_of-none line (sym (rw counted at cut) ∙ nil_from_length rest h)

  pub word_left : (word after : List ℕ) (n : ℕ) → 0 < length rest → n ≡ position_or_len is_space rest → word ≡ take n rest
      → after ≡ drop n rest → words_of line ≡ word ∷ words_of after
  word_left word after n h len front back =
      let e : rest ≡ after_spaces line = rw counted at cut in
      rw (front, back, len, e) (words_of-first line (rw e at h))
