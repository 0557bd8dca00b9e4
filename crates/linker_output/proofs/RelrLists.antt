-- Lists of numbers that are written one after the other, and words without a fault.
use Rattle.linker_output.proofs.Imports.{Bool, Leaves, List, None, Option, RejectsWords, RelrError, Some, TooShort, [], ap, append-nil, append_assoc, are_addresses, arith, bit_at, capped, cond, drop, drop-set-lt, false, get_or, if◌then◌else◌, length, length-append, length-set, list_all, marked, nat_eq, nat_lt, nat_tests, refl, relocated, relr_fault, set, subst, suc, sym, take, take-append-drop, take_more_set, true, word_fault, zero, ℕ, ◌%◌, ◌&&◌, ◌*◌, ◌++◌, ◌+◌, ◌-◌, ◌<◌, ◌==◌, ◌^◌, ◌||◌, ◌∙◌, ◌∷◌, ◌≡◌, ◌≢◌, ◌≤◌}
use Rattle.std.proofs.lemmas.List.Folds.{list_all-append}
use Rattle.linker_output.proofs.RelrWords.{leaves_more}
use Rattle.linker_output.specs.Inner.Relr.{put_all}
use Rattle.linker_elf.proofs.Terms.{and_false}

-- each number where the one before it ends
put_written : (ws xs : List ℕ) (n : ℕ) → n + length ws ≤ length xs → length xs < 2 ^ 64 → put_all n ws xs ≡ take n xs ++ (ws ++ drop (n + length ws) xs)
put_written [] xs n within small = let z : n + 0 ≡ n = omega arith in rw z (sym (take-append-drop n xs))
put_written (w ∷ ws) xs n within small =
    let next : capped (n + 1) ≡ n + 1 = omega arith in
    let len : length (set xs n w) ≡ length xs = length-set xs n w in
    let e : put_all (n + 1) ws (set xs n w) ≡ take (n + 1) (set xs n w) ++ (ws ++ drop (n + 1 + length ws) (set xs n w)) = put_written ws (set xs n w) (n + 1) (omega arith) (omega arith) in
    let i : n + 1 + length ws ≡ n + suc (length ws) = omega arith in
    rw (next, e, (take_more_set xs n w (omega arith)), (drop-set-lt (n + 1 + length ws) xs n w (omega arith)), i) (append_assoc (take n xs) (w ∷ []) (ws ++ drop (n + suc (length ws)) xs))

-- from the beginning
pub put_first : (ws xs : List ℕ) → length ws ≤ length xs → length xs < 2 ^ 64 → put_all 0 ws xs ≡ ws ++ drop (length ws) xs
put_first ws xs within small = let z : 0 + length ws ≡ length ws = omega arith in put_written ws xs 0 (omega arith) small ∙ ap (λ n. ws ++ drop n xs) z

-- a word that is even is a multiple of 8
abbrev pub is_sound : ℕ → Bool
is_sound word = nat_eq (word % 2) 1 || nat_eq (word % 8) 0

fault_step : (base word : ℕ) (ws : List ℕ) → (are_addresses (relocated (word + 8) ws) ≡ true → list_all is_sound ws ≡ true → word_fault (word + 8) ws ≡ None) → (are_addresses (relocated (base + 504) ws) ≡ true → list_all is_sound ws ≡ true → word_fault (base + 504) ws ≡ None) → are_addresses (relocated base (word ∷ ws)) ≡ true → list_all is_sound (word ∷ ws) ≡ true → word_fault base (word ∷ ws) ≡ None
fault_step base word ws even odd a s =
    let e = list_all-append (λ n. nat_lt n (2 ^ 64)) (marked 63 base word) (relocated (base + 504) ws) in grind (arith, nat_tests, e)

pub no_fault : (ws : List ℕ) (base : ℕ) → are_addresses (relocated base ws) ≡ true → list_all is_sound ws ≡ true → word_fault base ws ≡ None
no_fault [] base a s = refl
no_fault (w ∷ ws) base a s = fault_step base w ws (no_fault ws (w + 8)) (no_fault ws (base + 504)) a s

pub all_fit : (xs : List ℕ) → ((i : ℕ) → get_or xs i 0 < 2 ^ 64) → are_addresses xs ≡ true
all_fit [] h = refl
all_fit (x ∷ xs) h =
    let one : nat_lt x (2 ^ 64) ≡ true = (let f = h 0 in grind (arith, nat_tests)) in
    rw (one, all_fit xs (λ i. h (suc i)))

-- numbers after others
pub put_append : (xs ys numbers : List ℕ) (n : ℕ) → n < 2 ^ 64 → put_all n (xs ++ ys) numbers ≡ put_all (capped (n + length xs)) ys (put_all n xs numbers)
put_append [] ys numbers n fits = let e : capped (n + 0) ≡ n = omega arith in rw e
put_append (x ∷ xs) ys numbers n fits =
    let e : capped (n + suc (length xs)) ≡ capped (capped (n + 1) + length xs) = omega arith in
    rw e (put_append xs ys (set numbers n x) (capped (n + 1)) (omega arith))

pub leaves_others : (n : ℕ) (xs ys numbers : List ℕ) (len : ℕ) (whole : List ℕ) → n < 2 ^ 64 → Leaves n (xs ++ ys) numbers len whole → Leaves (capped (n + length xs)) ys (put_all n xs numbers) len whole
leaves_others n xs ys numbers len whole fits h = record {
  counted = (let e = length-append xs ys in let k = h.counted in omega arith);
  written = sym (put_append xs ys numbers n fits) ∙ h.written;
}

-- ---- one bit of a bitmap more

marked_without : (n base bitmap : ℕ) → bit_at bitmap (n + 1) ≢ 1 → marked (n + 1) base bitmap ≡ marked n base bitmap
unfolding marked
marked_without n base bitmap h =
    let s : n + 1 ≡ suc n = omega arith in
    let e : nat_eq (bit_at bitmap (n + 1)) 1 ≡ false = grind (arith, nat_tests) in
    rw s (subst (λ b. marked n base bitmap ++ cond b ((base + 8 * n) ∷ []) [] ≡ marked n base bitmap) (sym e) (append-nil (marked n base bitmap)))

marked_with : (n base bitmap : ℕ) → bit_at bitmap (n + 1) ≡ 1 → marked (n + 1) base bitmap ≡ marked n base bitmap ++ (base + 8 * n) ∷ []
unfolding marked
marked_with n base bitmap h =
    let s : n + 1 ≡ suc n = omega arith in
    let e : nat_eq (bit_at bitmap (n + 1)) 1 ≡ true = grind (arith, nat_tests) in
    rw s (subst (λ b. marked n base bitmap ++ cond b ((base + 8 * n) ∷ []) [] ≡ marked n base bitmap ++ (base + 8 * n) ∷ []) (sym e) refl)

faulty_step : (n base bitmap : ℕ) → are_addresses (marked n base bitmap) ≡ false → are_addresses (marked (suc n) base bitmap) ≡ false
unfolding marked
faulty_step n base bitmap h =
    let others = if◌then◌else◌ (bit_at bitmap (n + 1) == 1) ((base + 8 * n) ∷ []) [] in
    list_all-append (λ a. nat_lt a (2 ^ 64)) (marked n base bitmap) others ∙ ap (λ b. b && are_addresses others) h

-- further bits mend no fault
marked_faulty : (m n base bitmap : ℕ) → are_addresses (marked n base bitmap) ≡ false → are_addresses (marked (m + n) base bitmap) ≡ false
marked_faulty zero n base bitmap h = let e : 0 + n ≡ n = omega arith in rw e h
marked_faulty (suc m) n base bitmap h =
    let e : suc m + n ≡ suc (m + n) = omega arith in rw e (faulty_step (m + n) base bitmap (marked_faulty m n base bitmap h))

-- an address of 2^64 or more is a fault
pub marked_wraps : (n base bitmap : ℕ) → bit_at bitmap (n + 1) ≡ 1 → n < 63 → 2 ^ 64 ≤ base + 8 * n → are_addresses (marked 63 base bitmap) ≡ false
marked_wraps n base bitmap set small past =
    let e : are_addresses (marked n base bitmap ++ (base + 8 * n) ∷ []) ≡ are_addresses (marked n base bitmap) && are_addresses ((base + 8 * n) ∷ []) = list_all-append (λ a. nat_lt a (2 ^ 64)) (marked n base bitmap) ((base + 8 * n) ∷ []) in
    let f : are_addresses ((base + 8 * n) ∷ []) ≡ false = grind (arith, nat_tests) in
    let g : are_addresses (marked (n + 1) base bitmap) ≡ false = rw (marked_with n base bitmap set, e, f) (and_false (are_addresses (marked n base bitmap))) in
    let whole : 63 - (n + 1) + (n + 1) ≡ 63 = omega arith in
    subst (λ m. are_addresses (marked m base bitmap) ≡ false) whole (marked_faulty (63 - (n + 1)) (n + 1) base bitmap g)

-- what is known after n bits
pub record Marks (n base bitmap index : ℕ) (before : List ℕ) (next : ℕ) (after : List ℕ) : Type 0 where
  pub sound : are_addresses (marked n base bitmap) ≡ true
  pub next_is : next ≡ capped (index + length (marked n base bitmap))
  pub written : after ≡ put_all index (marked n base bitmap) before

pub marks_none : (base bitmap index : ℕ) (before : List ℕ) → index < 2 ^ 64 → Marks 0 base bitmap index before index before
unfolding marked
marks_none base bitmap index before fits = record { sound = refl; next_is = omega arith; written = refl }

pub marks_without : (n base bitmap index : ℕ) (before : List ℕ) (next : ℕ) (after : List ℕ) → bit_at bitmap (n + 1) ≢ 1 → Marks n base bitmap index before next after → Marks (n + 1) base bitmap index before next after
marks_without n base bitmap index before next after clear h =
    let e = marked_without n base bitmap clear in record { sound = rw e h.sound; next_is = rw e h.next_is; written = rw e h.written }

pub marks_with : (n base bitmap index : ℕ) (before : List ℕ) (next : ℕ) (after : List ℕ) → bit_at bitmap (n + 1) ≡ 1 → base + 8 * n < 2 ^ 64 → index < 2 ^ 64 → Marks n base bitmap index before next after → Marks (n + 1) base bitmap index before (capped (next + 1)) (set after next (base + 8 * n))
marks_with n base bitmap index before next after one fits small h =
    let a = (base + 8 * n) ∷ [] in
    let e : marked (n + 1) base bitmap ≡ marked n base bitmap ++ a = marked_with n base bitmap one in
    let k = h.next_is in
    let s : are_addresses a ≡ true = grind (arith, nat_tests) in
    let l = length-append (marked n base bitmap) a in record {
      sound = rw (e, list_all-append (λ x. nat_lt x (2 ^ 64)) (marked n base bitmap) a, h.sound) s;
      next_is = rw e (omega arith);
      written = rw (e, (put_append (marked n base bitmap) a before index small), ← h.written, ← h.next_is);
    }

-- ---- one word more

-- what is known before a word, and after it
pub record Reads (base : ℕ) (ws : List ℕ) (index : ℕ) (numbers : List ℕ) (fault : Option RelrError) (len : ℕ) (whole : List ℕ) : Type 0 where
  pub fault_is : word_fault base ws ≡ fault
  pub leaves : Leaves index (relocated base ws) numbers len whole
  pub fits : index < 2 ^ 64

pub reads_address : (base w : ℕ) (ws : List ℕ) (index : ℕ) (numbers : List ℕ) (fault : Option RelrError) (len : ℕ) (whole : List ℕ) → w % 2 ≡ 0 → w % 8 ≡ 0 → Reads base (w ∷ ws) index numbers fault len whole → Reads (w + 8) ws (capped (index + 1)) (set numbers index w) fault len whole
reads_address base w ws index numbers fault len whole even multiple h =
    let e : relocated base (w ∷ ws) ≡ w ∷ relocated (w + 8) ws = rw even in record {
      fault_is = rw (even, multiple) at h.fault_is;
      leaves = leaves_more index w (relocated (w + 8) ws) numbers len whole (subst (λ ys. Leaves index ys numbers len whole) e h.leaves);
      fits = omega arith;
    }

pub reads_bitmap : (base w : ℕ) (ws : List ℕ) (index : ℕ) (numbers : List ℕ) (fault : Option RelrError) (len : ℕ) (whole : List ℕ) → w % 2 ≢ 0 → are_addresses (marked 63 base w) ≡ true → Reads base (w ∷ ws) index numbers fault len whole → Reads (base + 504) ws (capped (index + length (marked 63 base w))) (put_all index (marked 63 base w) numbers) fault len whole
reads_bitmap base w ws index numbers fault len whole odd sound h =
    let o : nat_eq (w % 2) 0 ≡ false = grind (arith, nat_tests) in
    let e : relocated base (w ∷ ws) ≡ marked 63 base w ++ relocated (base + 504) ws = rw o in record {
      fault_is = rw (o, sound) at h.fault_is;
      leaves = leaves_others index (marked 63 base w) (relocated (base + 504) ws) numbers len whole h.fits (subst (λ ys. Leaves index ys numbers len whole) e h.leaves);
      fits = omega arith;
    }

-- ---- outcomes

short_step : (base w : ℕ) (ws : List ℕ) (n : ℕ) → (word_fault (w + 8) ws ≡ Some (TooShort n) → ⊥) → (word_fault (base + 504) ws ≡ Some (TooShort n) → ⊥) → word_fault base (w ∷ ws) ≡ Some (TooShort n) → ⊥
short_step base w ws n even odd h = grind (arith, nat_tests)

-- no fault of words is that of the slice
none_short : (ws : List ℕ) (base n : ℕ) → word_fault base ws ≡ Some (TooShort n) → ⊥
none_short [] base n h = absurd (cc)
none_short (w ∷ ws) base n h = short_step base w ws n (none_short ws (w + 8) n) (none_short ws (base + 504) n) h

first_step : (w : ℕ) (ws : List ℕ) (n : ℕ) → (word_fault 0 (w ∷ ws) ≡ Some (TooShort n) → ⊥) → relr_fault (w ∷ ws) ≡ Some (TooShort n) → ⊥
first_step w ws n h f = grind (arith, nat_tests)

first_short : (ws : List ℕ) (n : ℕ) → relr_fault ws ≡ Some (TooShort n) → ⊥
first_short [] n h = absurd (cc)
first_short (w ∷ ws) n h = first_step w ws n (none_short (w ∷ ws) 0 n) h

pub refused : (ws : List ℕ) (room : ℕ) (error : RelrError) → relr_fault ws ≡ Some error → RejectsWords ws room error
refused ws room (TooShort n) h = absurd (first_short ws n h)
refused ws room other h = h
