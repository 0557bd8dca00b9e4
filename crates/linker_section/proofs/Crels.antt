-- Numbers of compact relocations, and relocations one after the other.
use Rattle.linker_section.proofs.Imports.{AllContinue, Bool, Err, List, None, Ok, Rela, Some, [], add-one, after, and_mask, ap, arith, below_more, bit_and, bit_or, cases_lt, delta_at, drop, drop-append-le, false, flags_of, followed, groups_lt, inl, inr, length, length-drop, low_groups, mod_below, mul-le, mul-mod_first, nat_le, nat_lt, nat_tests, next_of, number_at, number_in, number_to, one_shl, or_comm, or_shifted, pow-le-pow_right, pow-suc, pow_128, prefix_len, refl, relocation_in, relocation_of, relocation_of_place, slice_index, suc, sym, take, take-append-le, take_all, true, true≢false, uleb_number, word_of, zero, ℕ, ℤ, ◌%◌, ◌&&◌, ◌*◌, ◌++◌, ◌+◌, ◌-◌, ◌/◌, ◌<◌, ◌==◌, ◌^◌, ◌∙◌, ◌∷◌, ◌≡◌, ◌≢◌, ◌≤◌, ◌⊎◌}
use Rattle.std.proofs.lemmas.List.Sums.{prefix_len-le-length}
use Rattle.linker_section.specs.declared.crel.CrelError.TheVariants.{CutOff, TooLarge}
use Rattle.linker_section.specs.declared.crel.CrelError.{CrelError}
use Rattle.linker_section.specs.declared.crel.Header.{Header}
use Rattle.linker_section.specs.declared.crel.Number.{Number}
use Rattle.linker_section.specs.declared.crel.Place.{Place}

-- ---- the last byte of a number

last_is : (bytes : List ℕ) (i : ℕ) → AllContinue i bytes → slice_index bytes i < 0x80
    → prefix_len (nat_le 0x80) bytes ≡ i
last_is [] zero continue ends = refl
last_is [] (suc i) continue ends = let h = continue 0 (omega arith) in absurd (omega arith)
last_is (b ∷ bs) zero continue ends = let e : nat_le 0x80 b ≡ false = grind (arith, nat_tests) in rw e
last_is (b ∷ bs) (suc i) continue ends =
    let h : 0x80 ≤ b = continue 0 (omega arith) in
    let e : nat_le 0x80 b ≡ true = grind (arith, nat_tests) in
    rw (e, (last_is bs i (λ j below. continue (suc j) (omega arith)) ends)) (omega arith)

last_from : (bytes : List ℕ) (k : ℕ) → AllContinue k bytes → k ≤ prefix_len (nat_le 0x80) bytes
last_from bytes zero continue = omega arith
last_from [] (suc k) continue = let h = continue 0 (omega arith) in absurd (omega arith)
last_from (b ∷ bs) (suc k) continue =
    let h : 0x80 ≤ b = continue 0 (omega arith) in
    let e : nat_le 0x80 b ≡ true = grind (arith, nat_tests) in
    let rest = last_from bs k (λ j below. continue (suc j) (omega arith)) in
    rw e (omega arith)

pub cut_off : (s : Bool) (bytes : List ℕ) (at i : ℕ) → AllContinue i bytes → length bytes ≤ i → i ≤ 9
    → number_in s bytes at ≡ Err (CutOff at)
cut_off s bytes at i continue end short =
    let least = last_from bytes i continue in
    let most = prefix_len-le-length (nat_le 0x80) bytes in
    let no : nat_lt 9 (prefix_len (nat_le 0x80) bytes) ≡ false = grind (arith, nat_tests) in
    let is : (prefix_len (nat_le 0x80) bytes == length bytes) ≡ true = grind (arith, nat_tests) in
    rw (no, is)

too_long : (s : Bool) (bytes : List ℕ) (at : ℕ) → AllContinue 10 bytes
    → number_in s bytes at ≡ Err (TooLarge at)
too_long s bytes at continue =
    let least = last_from bytes 10 continue in
    let yes : nat_lt 9 (prefix_len (nat_le 0x80) bytes) ≡ true = grind (arith, nat_tests) in
    rw yes

number_is : (s : Bool) (bytes : List ℕ) (at i : ℕ) → i < length bytes → i ≤ 9
    → AllContinue i bytes → slice_index bytes i < 0x80
    → number_in s bytes at ≡ number_to (word_of s (128 ^ (i + 1)) (uleb_number bytes i)) at (at + i + 1)
number_is s bytes at i there short continue ends =
    let no : nat_lt 9 i ≡ false = grind (arith, nat_tests) in
    let not : (i == length bytes) ≡ false = grind (arith, nat_tests) in
    rw ((last_is bytes i continue ends), no, not)

-- ---- the groups of a number

grown : (bytes : List ℕ) (i : ℕ)
    → uleb_number bytes i ≡ low_groups bytes i + slice_index bytes i % 128 * 128 ^ i
grown bytes zero = omega arith
grown bytes (suc i) = refl

-- ---- words

plain : (limit n : ℕ) → n < 2 ^ 64 → word_of false limit n ≡ Some n
plain limit n small = let t : nat_lt n (2 ^ 64) ≡ true = grind (arith, nat_tests) in rw t

positive : (limit n : ℕ) → 2 * n < limit → n < 2 ^ 63 → word_of true limit n ≡ Some n
positive limit n half small =
    let t : nat_lt (2 * n) limit ≡ true = grind (arith, nat_tests) in
    let u : nat_lt n (2 ^ 63) ≡ true = grind (arith, nat_tests) in
    rw (t, u)

negative : (limit n : ℕ) → limit ≤ 2 * n → limit ≤ n + 2 ^ 63
    → word_of true limit n ≡ Some (n + 2 ^ 64 - limit)
negative limit n half small =
    let t : nat_lt (2 * n) limit ≡ false = grind (arith, nat_tests) in
    let u : nat_le limit (n + 2 ^ 63) ≡ true = grind (arith, nat_tests) in
    rw (t, u)

limit_le : (i : ℕ) → i < 9 → 128 ^ (i + 1) ≤ 2 ^ 63
limit_le i short = pow-le-pow_right {n = 128} (omega arith) {i = i + 1} {j = 9} (omega arith)

-- a number of nine bytes or fewer
pub short_number : (s : Bool) (bytes : List ℕ) (at i low : ℕ) → i < length bytes → i < 9
    → AllContinue i bytes → slice_index bytes i < 0x80 → low ≡ uleb_number bytes i
    → (s ≡ false) ⊎ (slice_index bytes i < 0x40)
    → number_in s bytes at ≡ Ok (record { value = low; next = at + i + 1 })
short_number false bytes at i low there short continue ends value which =
    let le = limit_le i short in
    let e : suc i ≡ i + 1 = omega arith in
    let below : uleb_number bytes i < 128 ^ (i + 1) = rw e at (groups_lt bytes (suc i)) in
    let word : word_of false (128 ^ (i + 1)) (uleb_number bytes i) ≡ Some (uleb_number bytes i) =
    plain (128 ^ (i + 1)) (uleb_number bytes i) (omega arith) in
    number_is false bytes at i there (omega arith) continue ends
    ∙ ap (λ w. number_to w at (at + i + 1)) (word ∙ ap Some (sym value))
short_number true bytes at i low there short continue ends value (inl not) = absurd (true≢false not)
short_number true bytes at i low there short continue ends value (inr clear) =
    let lt = groups_lt bytes i in
    let le = limit_le i short in
    let grows = grown bytes i in
    let next : 128 ^ (i + 1) ≡ 128 ^ i * 128 = ap (λ n. 128 ^ n) (add-one i) ∙ pow-suc 128 i in
    let most = mul-le ((slice_index bytes i) % 128) (128 ^ i) 63 (128 ^ i) (omega arith) (omega arith) in
    let word : word_of true (128 ^ (i + 1)) (uleb_number bytes i) ≡ Some (uleb_number bytes i) =
    positive (128 ^ (i + 1)) (uleb_number bytes i) (omega arith) (omega arith) in
    number_is true bytes at i there (omega arith) continue ends
    ∙ ap (λ w. number_to w at (at + i + 1)) (word ∙ ap Some (sym value))

pub short_negative : (s : Bool) (bytes : List ℕ) (at i low value : ℕ) → s ≡ true → i < length bytes → i < 9
    → AllContinue i bytes → slice_index bytes i < 0x80 → low ≡ uleb_number bytes i
    → 0x40 ≤ slice_index bytes i
    → value ≡ (low + (2 ^ 64 - 1 * 2 ^ (7 * i + 7) % 2 ^ 64)) % 2 ^ 64
    → number_in s bytes at ≡ Ok (record { value = value; next = at + i + 1 })
short_negative s bytes at i low value signed there short continue ends is set made =
    let lt = groups_lt bytes (suc i) in
    let le = limit_le i short in
    let grows = grown bytes i in
    let next : 128 ^ suc i ≡ 128 ^ i * 128 = pow-suc 128 i in
    let same : 128 ^ (i + 1) ≡ 128 ^ suc i = ap (λ n. 128 ^ n) (add-one i) in
    let least = mul-le 64 (128 ^ i) ((slice_index bytes i) % 128) (128 ^ i) (omega arith) (omega arith) in
    let word : word_of true (128 ^ (i + 1)) (uleb_number bytes i) ≡ Some (uleb_number bytes i + 2 ^ 64 - 128 ^ (i + 1)) =
    negative (128 ^ (i + 1)) (uleb_number bytes i) (omega arith) (omega arith) in
    let power : 1 * 2 ^ (7 * i + 7) % 2 ^ 64 ≡ 128 ^ (i + 1) =
    one_shl (7 * i + 7) 64 (omega arith) ∙ ap (λ n. 2 ^ n) (let t : 7 * i + 7 ≡ 7 * (i + 1) = omega arith in t) ∙ sym (pow_128 (i + 1)) in
    let whole : uleb_number bytes i + 2 ^ 64 - 128 ^ (i + 1) ≡ value = omega arith in
    rw signed (number_is true bytes at i there (omega arith) continue ends
    ∙ ap (λ w. number_to w at (at + i + 1)) (word ∙ ap Some whole))

-- ---- a number of ten bytes

-- what its last byte may be
abbrev pub most_of : Bool → ℕ
most_of true = 0x7f
most_of false = 1

high_is : (bytes : List ℕ) (b : ℕ) → b ≡ slice_index bytes 9 → b < 0x80
    → uleb_number bytes 9 ≡ low_groups bytes 9 + b * 2 ^ 63
high_is bytes b is small = let g = grown bytes 9 in omega arith

none_word : (s : Bool) (low b n : ℕ) → low < 2 ^ 63 → n ≡ low + b * 2 ^ 63 → b ≢ 0 → b ≢ most_of s
    → b < 0x80 → word_of s (128 ^ 10) n ≡ None
none_word false low b n lt is nonzero most small =
    let t : nat_lt n (2 ^ 64) ≡ false = grind (arith, nat_tests) in rw t
none_word true low b n lt is nonzero most small =
    elim (cases_lt (2 * n) (128 ^ 10)) [
      | inl half ↦
          let t : nat_lt (2 * n) (128 ^ 10) ≡ true = grind (arith, nat_tests) in
          let u : nat_lt n (2 ^ 63) ≡ false = grind (arith, nat_tests) in rw (t, u)
      | inr half ↦
          let t : nat_lt (2 * n) (128 ^ 10) ≡ false = grind (arith, nat_tests) in
          let u : nat_le (128 ^ 10) (n + 2 ^ 63) ≡ false = grind (arith, nat_tests) in rw (t, u)
    ]

pub long_fault : (s : Bool) (bytes : List ℕ) (at b : ℕ) → 9 < length bytes → AllContinue 9 bytes
    → b ≡ slice_index bytes 9 → b ≢ 0 → b ≢ most_of s → number_in s bytes at ≡ Err (TooLarge at)
long_fault s bytes at b there continue is nonzero most =
    elim (cases_lt b 0x80) [
      | inl small ↦
          number_is s bytes at 9 there (omega arith) continue (omega arith)
          ∙ ap (λ w. number_to w at (at + 9 + 1)) (none_word s (low_groups bytes 9) b (uleb_number bytes 9) (groups_lt bytes 9) (high_is bytes b is small) nonzero most small)
      | inr large ↦ too_long s bytes at (below_more _ _ continue (omega arith))
    ]

-- bit 0 of the last byte is bit 63
some_word : (s : Bool) (low b n : ℕ) → low < 2 ^ 63 → n ≡ low + b * 2 ^ 63 → (b ≡ 0) ⊎ (b ≡ most_of s)
    → word_of s (128 ^ 10) n ≡ Some (low + b % 2 * 2 ^ 63)
some_word false low b n lt is which =
    let least : b ≤ 1 = elim which [ inl z ↦ omega arith | inr o ↦ omega arith ] in
    plain (128 ^ 10) n (omega arith) ∙ ap Some (omega arith)
some_word true low b n lt is (inl z) = positive (128 ^ 10) n (omega arith) (omega arith) ∙ ap Some (omega arith)
some_word true low b n lt is (inr o) = negative (128 ^ 10) n (omega arith) (omega arith) ∙ ap Some (omega arith)

joined : (low b d : ℕ) → low < 2 ^ 63 → d ≡ bit_and b 1
    → bit_or low (d * 2 ^ 63 % 2 ^ 64) ≡ low + b % 2 * 2 ^ 63
joined low b d lt is =
    let bit : d ≡ b % 2 = is ∙ and_mask b 1 in
    let m = mod_below b 2 (omega arith) in
    let whole : d * 2 ^ 63 % 2 ^ 64 ≡ d * 2 ^ 63 = omega arith in
    ap (bit_or low) whole ∙ or_comm low (d * 2 ^ 63) ∙ or_shifted d 63 low lt
    ∙ (let e = ap (λ k. k * 2 ^ 63) bit in omega arith)

at_most : (s : Bool) (b : ℕ) → (b ≡ 0) ⊎ (b ≡ most_of s) → b < 0x80
at_most s b (inl z) = omega arith
at_most false b (inr o) = omega arith
at_most true b (inr o) = omega arith

pub long_number : (s : Bool) (bytes : List ℕ) (at b low d : ℕ) → 9 < length bytes → AllContinue 9 bytes
    → b ≡ slice_index bytes 9 → low ≡ low_groups bytes 9 → (b ≡ 0) ⊎ (b ≡ most_of s) → d ≡ bit_and b 1
    → number_in s bytes at ≡ Ok (record { value = bit_or low (d * 2 ^ 63 % 2 ^ 64); next = at + 10 })
long_number s bytes at b low d there continue is value which bit =
    let small : b < 0x80 = at_most s b which in
    let lt = groups_lt bytes 9 in
    let word : word_of s (128 ^ 10) (uleb_number bytes 9) ≡ Some (bit_or low (d * 2 ^ 63 % 2 ^ 64)) =
    some_word s low b (uleb_number bytes 9) (omega arith) (let h = high_is bytes b is small in omega arith) which
    ∙ ap Some (sym (joined low b d (omega arith) bit)) in
    number_is s bytes at 9 there (omega arith) continue (omega arith)
    ∙ ap (λ w. number_to w at (at + 9 + 1)) word
    ∙ ap (λ n. Ok (record { value = bit_or low (d * 2 ^ 63 % 2 ^ 64); next = n })) (omega arith)

-- what `&section[at..]` begins with
pub whole : (s : Bool) (section : List ℕ) (at : ℕ)
    → number_in s (take (length section - at) (drop at section)) at ≡ number_at s section at
whole s section at =
    ap (λ bytes. number_in s bytes at)
    (take_all (length section - at) (drop at section) (omega (arith, length-drop at section)))

-- ---- relocations

grows : (p h k l s : ℕ)
    → (p + (h * k % 2 ^ 64 + l) % 2 ^ 64 * s % 2 ^ 64) % 2 ^ 64 ≡ (p + (h * k + l) * s) % 2 ^ 64
grows p h k l s =
    let inner : (h * k % 2 ^ 64 + l) % 2 ^ 64 ≡ (h * k + l) % 2 ^ 64 = omega arith in
    let outer : (h * k + l) % 2 ^ 64 * s % 2 ^ 64 ≡ (h * k + l) * s % 2 ^ 64 =
    mul-mod_first (h * k + l) s (2 ^ 64) in
    rw (inner, outer) (omega arith)

-- what a place is made of
abbrev pub place_by : Header → Place → ℕ → ℕ → ℕ → Number → Number → Number → Place
place_by header prior first flags high symbol r_type addend = record {
  next = addend.next;
  offset = (prior.offset + (high * (128 / flags) % 2 ^ 64 + first % 128 / flags) % 2 ^ 64 * header.scale % 2 ^ 64) % 2 ^ 64;
  r_type = (prior.r_type + r_type.value % 2 ^ 32) % 2 ^ 32;
  symbol = (prior.symbol + symbol.value % 2 ^ 32) % 2 ^ 32;
  addend = (prior.addend + addend.value) % 2 ^ 64;
}

pub next_is : (header : Header) (section : List ℕ) (prior : Place) (first flags : ℕ) (has : Bool)
    (high symbol r_type addend : Number) → prior.next < length section
    → first ≡ slice_index section prior.next → flags ≡ flags_of header
    → has ≡ (header.has_addends && (first / 4 % 2 == 1))
    → delta_at false (nat_le 128 first) section (prior.next + 1) ≡ Ok high
    → delta_at true (first % 2 == 1) section high.next ≡ Ok symbol
    → delta_at true (first / 2 % 2 == 1) section symbol.next ≡ Ok r_type
    → delta_at true has section r_type.next ≡ Ok addend
    → next_of header section prior
    ≡ Ok (place_by header prior first flags high.value symbol r_type addend)
next_is header section prior first flags has high symbol r_type addend there is bits test one two three four =
    let t : nat_lt prior.next (length section) ≡ true = grind (arith, nat_tests) in
    let last : delta_at true (header.has_addends && (first / 4 % 2 == 1)) section r_type.next ≡ Ok addend =
    ap (λ b. delta_at true b section r_type.next) (sym test) ∙ four in
    let r_type_is : (prior.r_type + r_type.value % 2 ^ 32) % 2 ^ 32 ≡ (prior.r_type + r_type.value) % 2 ^ 32 = omega arith in
    let symbol_is : (prior.symbol + symbol.value % 2 ^ 32) % 2 ^ 32 ≡ (prior.symbol + symbol.value) % 2 ^ 32 = omega arith in
    rw (t, ← is, one, two, three, last, (grows prior.offset high.value (128 / flags) (first % 128 / flags) header.scale), r_type_is, symbol_is, bits)

pub after_next : (n : ℕ) (header : Header) (section : List ℕ) (prior : Place) → after n header section ≡ Ok prior
    → after (n + 1) header section ≡ next_of header section prior
unfolding after
after_next n header section prior reached =
    ap (λ m. after m header section) (add-one n) ∙ ap (λ r. followed r (next_of header section)) reached

-- an error stays
stays : (m n : ℕ) (header : Header) (section : List ℕ) (error : CrelError) → after n header section ≡ Err error
    → after (m + n) header section ≡ Err error
unfolding after
stays zero n header section error is = ap (λ k. after k header section) (let e : 0 + n ≡ n = omega arith in e) ∙ is
stays (suc m) n header section error is =
    ap (λ k. after k header section) (let e : suc m + n ≡ suc (m + n) = omega arith in e)
    ∙ ap (λ r. followed r (next_of header section)) (stays m n header section error is)

pub fails : (n count : ℕ) (header : Header) (section : List ℕ) (prior : Place) (error : CrelError)
    → n < count → after n header section ≡ Ok prior → next_of header section prior ≡ Err error
    → after count header section ≡ Err error
fails n count header section prior error below reached is =
    let sum : count - (n + 1) + (n + 1) ≡ count = omega arith in
    ap (λ k. after k header section) (sym sum)
    ∙ stays (count - (n + 1)) (n + 1) header section error (after_next n header section prior reached ∙ is)

-- relocations that are there have no error
pub no_error : (count : ℕ) (header : Header) (section : List ℕ) (error : CrelError)
    → ((k : ℕ) → k < count → (place : Place) × (after (k + 1) header section ≡ Ok place))
    → after count header section ≡ Err error → ⊥
unfolding after
no_error zero header section error there is = cc
no_error (suc n) header section error there is =
    let last = there n (omega arith) in
    let e : after (suc n) header section ≡ Ok last.0 = rw add-one at last.1 in cc

-- a relocation by its addend
abbrev pub rela_of : Place → ℤ → Rela
rela_of place addend = record {
  offset = place.offset;
  r_type = place.r_type;
  symbol = place.symbol;
  addend = addend;
}

-- the first n relocations are there, and bytes with room for some have these
abbrev pub AreWritten : Header → List ℕ → ℕ → ℕ → List ℕ → Type 0
AreWritten header section n room bytes =
    (k : ℕ) → k < n → (place : Place) × (after (k + 1) header section ≡ Ok place)
    × (k < room → relocation_in bytes k ≡ relocation_of_place place)

pub written_more : (header : Header) (section : List ℕ) (n room : ℕ) (before bytes : List ℕ) (place : Place)
    → after (n + 1) header section ≡ Ok place → AreWritten header section n room before
    → ((k : ℕ) → k < n → k < room → relocation_in bytes k ≡ relocation_in before k)
    → (n < room → relocation_in bytes n ≡ relocation_of_place place)
    → AreWritten header section (n + 1) room bytes
written_more header section n room before bytes place reached each same last = λ k below. elim (cases_lt k n) [
  | inl less ↦ let w = each k less in (w.0, w.1, λ within. same k less within ∙ w.2 within)
  | inr more ↦
      let e : k ≡ n = omega arith in
      (place, rw e reached, λ within. ap (relocation_in bytes) e ∙ last (omega arith))
]

-- a relocation of bytes that others follow
pub in_front : (bytes rest : List ℕ) (count k : ℕ) → length bytes ≡ count * 24 → k < count
    → relocation_in (bytes ++ rest) k ≡ relocation_in bytes k
in_front bytes rest count k len below =
    let l = length-drop (k * 24) bytes in
    ap (λ xs. relocation_of (take 24 xs)) (drop-append-le (k * 24) bytes rest (omega arith))
    ∙ ap relocation_of (take-append-le 24 (drop (k * 24) bytes) rest (omega arith))
