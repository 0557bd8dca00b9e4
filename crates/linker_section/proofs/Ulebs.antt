-- How many bytes a ULEB128 number has.
use Rattle.linker_section.proofs.Imports.{AllContinue, IsNumberOfPair, IsUlebWritten, List, RelocationKind, Uleb, [], ap, arith, cond, cond-false, cond-true, cond_both, drop, drop_all, drop_more, get_or-take, le-ltb, length, length-drop, length-take, length-take-le, lt-ltb, ltb, mod_below, mul-le, one_reading, pow-suc, refl, slice_index, subst, suc, sum_through, sym, take, take-take, uleb_len, uleb_number, zero, ℕ, ℤ, ◌%◌, ◌*◌, ◌+◌, ◌-◌, ◌<◌, ◌^◌, ◌∙◌, ◌∷◌, ◌≡◌, ◌≤◌}
use Rattle.linker_elf.specs.declared.elf.RelocationKind.TheVariants as kinds

-- the number's last byte is the first below 0x80
len_of : (last fuel : ℕ) (bytes : List ℕ) → last < fuel → last < length bytes
    → AllContinue last bytes → slice_index bytes last < 0x80 → uleb_len (take fuel bytes) ≡ last + 1
len_of last zero bytes small there continue ends = absurd (omega (arith, small))
len_of last (suc fuel) [] small there continue ends = absurd (omega (arith, there))
len_of zero (suc fuel) (b ∷ bytes) small there continue ends =
    cond-true (ltb b 0x80) 1 (1 + uleb_len (take fuel bytes)) (lt-ltb b 0x80 ends)
len_of (suc last) (suc fuel) (b ∷ bytes) small there continue ends =
    cond-false (ltb b 0x80) 1 (1 + uleb_len (take fuel bytes)) (le-ltb b 0x80 (continue 0 (omega arith)))
    ∙ ap (λ n. 1 + n) (len_of last fuel bytes (omega (arith, small)) (omega (arith, there))
    (λ j below. continue (suc j) (omega (arith, below))) ends)
    ∙ omega arith

pub uleb_len_is : (bytes : List ℕ) (n : ℕ) (rest : List ℕ) (number : Uleb bytes n rest)
    → uleb_len (take 10 bytes) ≡ number.last + 1
uleb_len_is bytes n rest number =
    len_of number.last 10 bytes number.within_ten number.there number.continue number.ends

-- there is one byte at least
pub some_uleb : (bytes : List ℕ) → 0 < length bytes → 0 < uleb_len (take 10 bytes)
some_uleb [] some = absurd (omega (arith, some))
some_uleb (b ∷ bytes) some =
    cond_both (ltb b 0x80) 1 (1 + uleb_len (take 9 bytes)) (λ n. 0 < n) (λ _. omega arith) (λ _. omega arith)

pub uleb_len_most : (fuel : ℕ) (bytes : List ℕ) → uleb_len (take fuel bytes) ≤ fuel
uleb_len_most zero bytes = omega arith
uleb_len_most (suc fuel) [] = omega arith
uleb_len_most (suc fuel) (b ∷ bytes) =
    cond_both (ltb b 0x80) 1 (1 + uleb_len (take fuel bytes)) (λ n. n ≤ suc fuel) (λ _. omega arith)
    (λ _. let l = uleb_len_most fuel bytes in omega (arith, l))

one_less : (i : ℕ) → i < 10 → 10 - i ≡ suc (10 - (i + 1))
one_less i within = omega (arith, within)

pub uleb_step : (bytes : List ℕ) (i : ℕ) → i < length bytes → i < 10
    → uleb_len (take (10 - i) (drop i bytes))
    ≡ cond (ltb (slice_index bytes i) 0x80) 1 (1 + uleb_len (take (10 - (i + 1)) (drop (i + 1) bytes)))
uleb_step bytes i inside within =
    ap (λ xs. uleb_len (take (10 - i) xs)) (drop_more bytes i 0 inside)
    ∙ ap (λ n. uleb_len (take n (slice_index bytes i ∷ drop (i + 1) bytes))) (one_less i within)

pub uleb_ends : (bytes : List ℕ) (i : ℕ) → i < length bytes → i < 10
    → slice_index bytes i < 0x80 → uleb_len (take (10 - i) (drop i bytes)) ≡ 1
uleb_ends bytes i inside within ends =
    uleb_step bytes i inside within
    ∙ cond-true (ltb (slice_index bytes i) 0x80) 1 (1 + uleb_len (take (10 - (i + 1)) (drop (i + 1) bytes)))
    (lt-ltb (slice_index bytes i) 0x80 ends)

pub uleb_goes_on : (bytes : List ℕ) (i : ℕ) → i < length bytes → i < 10
    → 0x80 ≤ slice_index bytes i
    → uleb_len (take (10 - i) (drop i bytes)) ≡ 1 + uleb_len (take (10 - (i + 1)) (drop (i + 1) bytes))
uleb_goes_on bytes i inside within on =
    uleb_step bytes i inside within
    ∙ cond-false (ltb (slice_index bytes i) 0x80) 1 (1 + uleb_len (take (10 - (i + 1)) (drop (i + 1) bytes)))
    (le-ltb (slice_index bytes i) 0x80 on)

-- ---- a number by its own bytes

pub sum_same : (f g : ℕ → ℕ) (k : ℕ) → ((i : ℕ) → i ≤ k → f i ≡ g i)
    → sum_through f k ≡ sum_through g k
sum_same f g zero same = same 0 (omega arith)
sum_same f g (suc k) same =
    ap (λ x. x + f (suc k)) (sum_same f g k (λ i most. same i (omega (arith, most))))
    ∙ ap (λ x. sum_through g k + x) (same (suc k) (omega arith))

pub no_rest : (n : ℕ) (xs : List ℕ) → drop n (take n xs) ≡ []
no_rest n xs = let l = length-take n xs in drop_all n (take n xs) (omega (arith, l))

-- bytes that begin with those of a number have it
pub uleb_same : (xs ys : List ℕ) (n : ℕ) (rest : List ℕ) (u : Uleb xs n rest)
    → take (u.last + 1) ys ≡ take (u.last + 1) xs → u.last < length ys
    → (v : Uleb ys n (drop (u.last + 1) ys)) × (v.last ≡ u.last)
uleb_same xs ys n rest u same there =
    let byte : (j : ℕ) → j < u.last + 1 → slice_index xs j ≡ slice_index ys j =
    λ j below. sym (get_or-take (u.last + 1) xs j 0 below)
    ∙ (ap (λ l. slice_index l j) (sym same) ∙ get_or-take (u.last + 1) ys j 0 below) in
    let last = byte u.last (omega arith) in (
      record {
        last = u.last;
        there = there;
        within_ten = u.within_ten;
        continue = λ j below. subst (λ b. 0x80 ≤ b) (byte j (omega (arith, below))) (u.continue j below);
        ends = subst (λ b. b < 0x80) last u.ends;
        tenth = λ is. subst (λ b. b ≤ 1) last (u.tenth is);
        number = u.number
            ∙ sum_same (λ j. slice_index xs j % 128 * 128 ^ j) (λ j. slice_index ys j % 128 * 128 ^ j) u.last
            (λ j most. ap (λ b. b % 128 * 128 ^ j) (byte j (omega (arith, most))));
        rest_is = refl;
      },
      refl,
    )

pub uleb_front : (xs : List ℕ) (n : ℕ) (rest : List ℕ) (u : Uleb xs n rest) (w : ℕ)
    → w ≡ u.last + 1 → Uleb (take w xs) n []
uleb_front xs n rest u w whole =
    subst (Uleb (take w xs) n) (ap (λ k. drop k (take w xs)) (sym whole) ∙ no_rest w xs)
    (uleb_same xs (take w xs) n rest u (take-take (u.last + 1) w xs (omega (arith, whole))) (omega (arith, (length-take-le w xs (omega (arith, u.there, whole))), whole))).0

-- a number in place of another has as many bytes
pub same_last : (before : List ℕ) (n : ℕ) (after : List ℕ) (w : IsUlebWritten before n after)
    → w.was.last ≡ w.is.last
same_last before n after w =
    let was = w.was in
    let is = w.is in
    omega (arith, (ap length was.rest_is ∙ length-drop (was.last + 1) before), (ap length is.rest_is ∙ length-drop (is.last + 1) after), w.same_length, was.there, is.there)

pub written_front : (before : List ℕ) (n : ℕ) (after : List ℕ) (written : IsUlebWritten before n after)
    (w : ℕ) → w ≡ written.was.last + 1 → IsUlebWritten (take w before) n (take w after)
written_front before n after written w whole =
    let last = same_last before n after written in
    record {
      old = written.old;
      rest = [];
      was = uleb_front before written.old written.rest written.was w whole;
      is = uleb_front after n written.rest written.is w (whole ∙ ap (λ k. k + 1) last);
      same_length = length-take-le w after (omega (arith, written.is.there, last, whole))
          ∙ sym (length-take-le w before (omega (arith, written.was.there, whole)));
    }

-- a number is below 128 to the count of its bytes
groups_below : (bytes : List ℕ) (last : ℕ) → uleb_number bytes last < 128 ^ suc last
groups_below bytes zero =
    let group = mod_below (slice_index bytes 0) 128 (omega arith) in omega (arith, group)
groups_below bytes (suc last) =
    let b = slice_index bytes (suc last) % 128 in
    let group : b < 128 = mod_below (slice_index bytes (suc last)) 128 (omega arith) in
    omega (arith, (groups_below bytes last), (mul-le b (128 ^ suc last) 127 (128 ^ suc last) (omega (arith, group)) (omega arith)), (pow-suc 128 (suc last)))

pub uleb_below : (bytes : List ℕ) (n : ℕ) (rest : List ℕ) (u : Uleb bytes n rest)
    → n < 128 ^ (u.last + 1)
uleb_below bytes n rest u =
    let e : u.last + 1 ≡ suc u.last = omega arith in
    subst (λ k. n < 128 ^ k) (sym e) (subst (λ m. m < 128 ^ suc u.last) (sym u.number) (groups_below bytes u.last))

-- the number of a pair over bytes that have any number of others
pub pair_number_from : (kind : RelocationKind) (xs ys : List ℕ) (v w : ℤ) (number : ℕ)
    → ((old : ℕ) (rest : List ℕ) → Uleb ys old rest → (other : List ℕ) × Uleb xs old other)
    → IsNumberOfPair kind xs v w number → IsNumberOfPair kind ys v w number
pair_number_from kinds.PairSubtractionULEB128LoongArch xs ys v w number from is =
    λ old rest u. let x = from old rest u in is old (x.0) (x.1)
pair_number_from _ xs ys v w number from is = is

pub pair_number_same : (kind : RelocationKind) (xs ys : List ℕ) (v w : ℤ) (number old : ℕ)
    (xs_rest ys_rest : List ℕ) → Uleb xs old xs_rest → Uleb ys old ys_rest
    → IsNumberOfPair kind xs v w number → IsNumberOfPair kind ys v w number
pair_number_same kind xs ys v w number old xs_rest ys_rest x y is =
    pair_number_from kind xs ys v w number
    (λ other rest u. (xs_rest, subst (λ n. Uleb xs n xs_rest) (one_reading ys old other ys_rest rest y u).0 x)) is
