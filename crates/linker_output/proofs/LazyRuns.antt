-- Runs of words, and the words of a lazy PLT's code.
use Rattle.linker_output.proofs.Imports.{AreAddresses, Bool, LazyEntry, LazyField, List, None, Option, Some, [], ap, arith, cond-true, continue_by, difference_64, drop, drop_at, eq-eqb, eqb, false, ints, length, length-take, moved, negsuc, operands_at, or_parts, pos, run_by, suc, sum_64, sym, take, take_at, target_at, words, wrapped_is, ℕ, ◌*◌, ◌++◌, ◌+ℤ◌, ◌+◌, ◌/◌, ◌<◌, ◌^◌, ◌||◌, ◌∙◌, ◌∷◌, ◌≡◌, ◌≤◌}
use Rattle.linker_output.proofs.StubWords.{word, front_word}

pub run_more : {S : Type 0} (pc : S → ℕ) (step : ℕ → S → Option S) (x y : ℕ) (rest : List ℕ)
    (s t : S) (end : Option S) → step x s ≡ Some t → pc t ≡ sum_64 (pc s) 4
    → run_by pc step (y ∷ rest) t ≡ end → run_by pc step (x ∷ y ∷ rest) s ≡ end
run_more pc step x y rest s t end first on then =
    ap (continue_by pc (sum_64 (pc s) 4) (λ e. run_by pc step (y ∷ rest) e)) first
    ∙ cond-true (eqb (pc t) (sum_64 (pc s) 4)) (run_by pc step (y ∷ rest) t) None (eq-eqb (pc t) (sum_64 (pc s) 4) on)
    ∙ then

pub second_and_last : (a b c d : Bool) → ((a || b) || (c || d)) ≡ false → (b || d) ≡ false
second_and_last a b c d e =
    let parts = or_parts (a || b) (c || d) e in
    ap (λ v. v || d) (or_parts a b parts.0).1 ∙ (or_parts c d parts.1).1

-- ---- places

pub eight_on : (n : ℕ) → n < 2 ^ 64 → moved n (pos 8) ≡ sum_64 n 8
eight_on n small = omega (arith, ints, small)

pub no_move : (n : ℕ) → n < 2 ^ 64 → moved n (pos 0) ≡ n
no_move n small = omega (arith, ints, small)

-- the offset of the word, from the difference of addresses, in headers of 32 bytes
pub offset_is : (header index address : ℕ) → header < 2 ^ 64 → index < 2 ^ 59
    → address ≡ sum_64 header (32 + 16 * index)
    → moved (difference_64 (sum_64 address 12) header) (negsuc 43) / 2 ^ 1 ≡ 8 * index
offset_is header index address inside small is =
    let distance : difference_64 (sum_64 address 12) header ≡ 44 + 16 * index = omega (arith, inside, small, is) in
    let less : moved (44 + 16 * index) (negsuc 43) ≡ 16 * index =
    wrapped_is (pos (44 + 16 * index) +ℤ negsuc 43) 0 (16 * index) (omega (arith, ints)) ∙ omega (arith, small) in
    ap (λ n. moved n (negsuc 43) / 2 ^ 1) distance ∙ ap (λ n. n / 2 ^ 1) less ∙ omega arith

-- ---- code that begins with a piece

module _ (piece others code : List ℕ) (len : length piece ≡ 8) where
  pub following : (n : ℕ) → n ≤ 8 → code ≡ take n piece ++ others → drop n code ≡ others
  following n most is =
      ap (drop n) is ∙ drop_at (take n piece) others n (length-take n piece ∙ omega (arith, most, len))

  first_four : code ≡ take 4 piece ++ others → take 4 code ≡ take 4 piece
  first_four is =
      ap (take 4) is ∙ take_at (take 4 piece) others 4 (length-take 4 piece ∙ omega (arith, len))

  pub word_of_piece : code ≡ take 4 piece ++ others → word code ≡ word piece
  word_of_piece is =
      sym (front_word code) ∙ ap word (first_four is) ∙ front_word piece

  -- a piece of a word
  pub one_word : (n w : ℕ) (ws : List ℕ) → code ≡ take 4 piece ++ others → word piece ≡ w
      → words n others ≡ ws → words (suc n) code ≡ w ∷ ws
  one_word n w ws is first rest =
      ap (λ v. v ∷ words n (drop 4 code)) (word_of_piece is ∙ first)
      ∙ ap (λ l. w ∷ words n l) (following 4 (omega arith) is) ∙ ap (λ l. w ∷ l) rest

-- code that is a pair of words and what stands after it
pub of_pair : (n : ℕ) (code pair tail : List ℕ) → length pair ≡ 8 → code ≡ pair ++ tail
    → words (suc (suc n)) code ≡ word pair ∷ word (drop 4 pair) ∷ words n tail
of_pair n code (a ∷ b ∷ c ∷ d ∷ e ∷ f ∷ g ∷ h ∷ []) tail len is = ap (words (suc (suc n))) is
of_pair n code other tail len is = absurd (omega arith)

-- ---- operands

pub are_addresses_at : (field : LazyField) (entry : LazyEntry) → target_at field.target entry < 2 ^ 64
    → AreAddresses (operands_at field entry)
are_addresses_at field entry small =
    record {
      symbol = small;
      place = omega arith;
      got_entry = small;
      got_base = omega arith;
      plt_entry = small;
      tls_base = omega arith;
    }
