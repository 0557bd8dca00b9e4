-- The groups of seven bits of a ULEB128 number.
use Rattle.linker_base.proofs.Imports.{AllContinue, HasOneReading, IsUlebWritten, List, Uleb, and_mask, ap, arith, bit_and, bit_or, cases_lt, div-lt_iff_lt-mul, div_below, drop, inl, inr, length, length-drop, mod-eq_of_lt, mod-pow-add, mod_below, mul-le, or_comm, or_shifted, pow-add, pow-suc, pow_pos, refl, shl_whole, shr_below, slice_index, suc, sym, take, take_all, uleb_number, zero, ℕ, ◌%◌, ◌*◌, ◌+◌, ◌-◌, ◌/◌, ◌<◌, ◌^◌, ◌∙◌, ◌≡◌, ◌≤◌, ◌⊎◌}

-- the number that the first i bytes give
abbrev pub low_groups : List ℕ → ℕ → ℕ
low_groups bytes zero = 0
low_groups bytes (suc i) = uleb_number bytes i

groups_grow : (bytes : List ℕ) (i : ℕ) → low_groups bytes (suc i) ≡ low_groups bytes i + slice_index bytes i % 128 * 128 ^ i
groups_grow bytes zero = omega arith
groups_grow bytes (suc i) = refl

pub groups_lt : (bytes : List ℕ) (i : ℕ) → low_groups bytes i < 128 ^ i
groups_lt bytes zero = omega arith
groups_lt bytes (suc i) =
    let before : low_groups bytes i < 128 ^ i = groups_lt bytes i in
    let group : slice_index bytes i % 128 < 128 = mod_below (slice_index bytes i) 128 (omega arith) in
    let most : slice_index bytes i % 128 * 128 ^ i ≤ 127 * 128 ^ i = mul-le (slice_index bytes i % 128) (128 ^ i) 127 (128 ^ i) (omega arith) (omega arith) in
    let next : 128 ^ suc i ≡ 128 ^ i * 128 = pow-suc 128 i in
    omega (arith, groups_grow bytes i, before, most, next)

pub pow_128 : (i : ℕ) → 128 ^ i ≡ 2 ^ (7 * i)
pow_128 zero = refl
pow_128 (suc i) =
    let more : 7 * suc i ≡ 7 * i + 7 = omega arith in
    rw more (pow-suc 128 i ∙ ap (λ n. n * 128) (pow_128 i) ∙ sym (pow-add 2 (7 * i) 7))

-- a group of seven bits, shifted to its place, stays whole
group_whole : (b i : ℕ) → i ≤ 9 → (i ≡ 9 → b ≤ 1) → (i < 9) ⊎ (9 ≤ i) → b % 128 * 2 ^ (7 * i) % 2 ^ 64 ≡ b % 128 * 2 ^ (7 * i)
group_whole b i within tenth (inl early) =
    shl_whole (b % 128) 7 (7 * i) 64 (mod_below b 128 (omega arith)) (omega arith)
group_whole b i within tenth (inr late) =
    let last : i ≡ 9 = omega arith in
    let small : b ≤ 1 = tenth last in
    shl_whole (b % 128) 1 (7 * i) 64 (omega arith) (omega arith)

-- the code puts the group of byte i above those before it
pub groups_or : (bytes : List ℕ) (i v d : ℕ) → i ≤ 9 → (i ≡ 9 → slice_index bytes i ≤ 1) → v ≡ low_groups bytes i
    → d ≡ bit_and (slice_index bytes i) 127 → bit_or v (d * 2 ^ (7 * i) % 18446744073709551616) ≡ uleb_number bytes i
groups_or bytes i v d within tenth before masked =
    let b = slice_index bytes i in
    let group : d ≡ b % 128 = masked ∙ and_mask b 7 in
    let whole : b % 128 * 2 ^ (7 * i) % 18446744073709551616 ≡ b % 128 * 2 ^ (7 * i) = group_whole b i within tenth (cases_lt i 9) in
    let below : v < 2 ^ (7 * i) = rw (before, ← pow_128 i) (groups_lt bytes i) in
    let joined : bit_or v (b % 128 * 2 ^ (7 * i)) ≡ b % 128 * 2 ^ (7 * i) + v
    = or_comm v (b % 128 * 2 ^ (7 * i)) ∙ or_shifted (b % 128) (7 * i) v below in
    rw (group, whole, joined) (omega (arith, groups_grow bytes i, ap (λ p. b % 128 * p) (pow_128 i), before))

-- what `&bytes[n..]` holds
tail_whole : (n : ℕ) (bytes : List ℕ) → take (length bytes - n) (drop n bytes) ≡ drop n bytes
tail_whole n bytes = take_all (length bytes - n) (drop n bytes) (omega (arith, length-drop n bytes))

-- where the code returns a number, the grammar has it
pub is_read : (bytes : List ℕ) (i v : ℕ) → i < length bytes → i ≤ 9 → AllContinue i bytes → slice_index bytes i < 128
    → (i ≡ 9 → slice_index bytes i ≤ 1) → v ≡ uleb_number bytes i → Uleb bytes v (take (length bytes - (i + 1)) (drop (i + 1) bytes))
is_read bytes i v there within before ends tenth value = record {
  last = i;
  there = there;
  within_ten = omega arith;
  continue = before;
  ends = ends;
  tenth = tenth;
  number = value;
  rest_is = tail_whole (i + 1) bytes;
}

pub one_reading : HasOneReading
one_reading bytes m n x y a b =
    let same : a.last ≡ b.last = grind (arith, a.continue b.last, b.continue a.last) in (
      a.number ∙ ap (uleb_number bytes) same ∙ sym b.number,
      a.rest_is ∙ ap (λ k. drop (k + 1) bytes) same ∙ sym b.rest_is,
    )

-- n / 128 ^ k, of which the lowest seven bits are group k of n
abbrev pub shifted : ℕ → ℕ → ℕ
shifted n k = n / 2 ^ (7 * k)

-- groups that are those of a number give its lowest bits
groups_of : (bytes : List ℕ) (n i : ℕ)
    → ((k : ℕ) → k < i → slice_index bytes k % 128 ≡ shifted n k % 128)
    → low_groups bytes i ≡ n % 2 ^ (7 * i)
groups_of bytes n zero each = omega arith
groups_of bytes n (suc i) each =
    let low = n % 2 ^ (7 * i) in
    let before : low_groups bytes i ≡ low = groups_of bytes n i (λ k h. each k (omega arith)) in
    let group : slice_index bytes i % 128 ≡ shifted n i % 128 = each i (omega arith) in
    let more : 7 * suc i ≡ 7 + 7 * i = omega arith in
    let grown : low_groups bytes (suc i) ≡ low + shifted n i % 128 * 2 ^ (7 * i)
    = groups_grow bytes i ∙ ap (λ m. m + slice_index bytes i % 128 * 128 ^ i) before
    ∙ ap (λ g. low + g * 128 ^ i) group
    ∙ ap (λ p. low + shifted n i % 128 * p) (pow_128 i) in
    rw more (grown ∙ sym (mod-pow-add n 7 (7 * i) ∙ omega arith))

-- a number is below 2 ^ k where nothing of it stands from bit k up
below_shift : (n k : ℕ) → n / 2 ^ k ≡ 0 → n < 2 ^ k
below_shift n k none = omega (arith, (div-lt_iff_lt-mul {k = 2 ^ k} {x = n} {y = 1} (pow_pos k)).0 (omega arith))

pub above_shift : (n k : ℕ) → ¬ (n / 2 ^ k ≡ 0) → 2 ^ k ≤ n
above_shift n k some = elim (cases_lt n (2 ^ k)) [
  | inl low ↦ absurd (some (omega (arith, div_below n (2 ^ k) 1 (pow_pos k) (omega (arith, low)))))
  | inr high ↦ high
]

-- the code has written the groups of a number that fits
pub is_written : (before after : List ℕ) (last n : ℕ) → last < length before → last < 10
    → AllContinue last before → slice_index before last < 128
    → (last ≡ 9 → slice_index before last ≤ 1)
    → n < 2 ^ 64 → (last < 9 → n / 2 ^ (7 * last + 7) ≡ 0)
    → ((k : ℕ) → k < last → slice_index after k ≡ 128 + shifted n k % 128)
    → slice_index after last ≡ shifted n last
    → drop (last + 1) after ≡ drop (last + 1) before → length after ≡ length before
    → IsUlebWritten before n after
is_written before after last n there within continue ends tenth word fits groups end rest same =
    let most : n < 2 ^ (7 + 7 * last) = elim (cases_lt last 9) [
      | inl early ↦ let turned : 7 + 7 * last ≡ 7 * last + 7 = omega arith in rw turned (below_shift n (7 * last + 7) (fits early))
      | inr late ↦ let at : last ≡ 9 = omega arith in rw at (omega (arith, word))
    ] in
    let group : (k : ℕ) → k < suc last → slice_index after k % 128 ≡ shifted n k % 128 = λ k h. elim (cases_lt k last) [
      | inl early ↦ rw (groups k early) (omega arith)
      | inr late ↦ let at : k ≡ last = omega arith in rw (at, end) refl
    ] in
    let more : 7 * suc last ≡ 7 + 7 * last = omega arith in
    record {
      old = uleb_number before last;
      rest = drop (last + 1) before;
      was = record {
        last = last;
        there = there;
        within_ten = within;
        continue = continue;
        ends = ends;
        tenth = tenth;
        number = refl;
        rest_is = refl;
      };
      is = record {
        last = last;
        there = rw same there;
        within_ten = within;
        continue = λ k early. rw (groups k early) (omega arith);
        ends = rw end (shr_below n 7 (7 * last) most);
        tenth = λ at. rw (end, at) (omega (arith, shr_below n 1 63 word));
        number = sym (groups_of after n (suc last) group ∙ ap (λ k. n % 2 ^ k) more ∙ mod-eq_of_lt most);
        rest_is = sym rest;
      };
      same_length = same;
    }
