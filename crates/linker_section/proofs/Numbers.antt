-- Numbers that relocations compose, modulo the size of their field.
use Rattle.linker_section.proofs.Imports.{Bool, ByteSize, HoldsNumber, HoldsWord6, List, RelocationKind, SizeNumber, add-mul-mod_self_right, ap, arith, byte_worth, cases_Bool, cases_lt, composed_with, div-add-mod', false, get_or-append_right, get_or-replicate, get_or-take, get_or_append_left, get_or_past, inl, inr, int_rem_euclid, int_rem_euclid_is, ints, length, length-replicate, length-take, mod-eq_of_lt, mod_below, mul-le, neg_ℤ, negsuc, never, number_of_bytes, pos, pow-add, pow-suc, pow_pos, refl, replicate, shr_below, slice_index, subst, suc, sum_through, sym, take, true, unsigned_abs, whole_number, zero, ℕ, ℤ, ◌%◌, ◌*◌, ◌++◌, ◌+ℤ◌, ◌+◌, ◌-ℤ◌, ◌-◌, ◌/◌, ◌<◌, ◌^◌, ◌∙◌, ◌≡◌, ◌≤◌}
use Rattle.linker_elf.proofs.Agreement.{rem_rem, rem_below}
use Rattle.linker_elf.specs.declared.elf.RelocationKind.TheVariants as kinds

-- ---- sums and differences modulo a number

-- a number is its remainder, up to multiples
record IsRest (z : ℤ) (m : ℕ) : Type 0 where
  pub up : ℕ
  pub down : ℕ
  pub rest : ℕ
  pub is : z +ℤ pos (up * m) ≡ pos (rest + down * m)
  pub rest_is : int_rem_euclid z (pos m) ≡ pos rest

rest_of : (z : ℤ) (m : ℕ) → 0 < m → IsRest z m
rest_of (pos a) m some =
    record { up = 0; down = a / m; rest = a % m; is = omega (arith, ints, (div-add-mod' a m)); rest_is = refl }
rest_of (negsuc a) m some =
    let more : (a / m + 1) * m ≡ a / m * m + m = omega arith in
    record { up = a / m + 1; down = 0; rest = m - 1 - a % m; is = omega (arith, ints, (div-add-mod' a m), (mod_below a m some), more); rest_is = refl }

left_distrib : (a b m : ℕ) → (a + b) * m ≡ a * m + b * m
left_distrib a b m = omega arith

sum_rest : (a b : ℤ) (m : ℕ) (some : 0 < m) (x : IsRest a m) (y : IsRest b m)
    → int_rem_euclid (a +ℤ b) (pos m) ≡ pos ((x.rest + y.rest) % m)
sum_rest a b m some x y =
    let p = x.is in let q = y.is in
    int_rem_euclid_is (a +ℤ b) (pos m) m (x.up + y.up) (x.rest + y.rest + (x.down + y.down) * m) some refl
    (omega (arith, ints, p, q, (left_distrib x.up y.up m), (left_distrib x.down y.down m)))
    ∙ ap pos (add-mul-mod_self_right (x.rest + y.rest) (x.down + y.down) m)

pub same_sum : (a b v : ℤ) (m : ℕ) → 0 < m → int_rem_euclid a (pos m) ≡ int_rem_euclid b (pos m)
    → int_rem_euclid (a +ℤ v) (pos m) ≡ int_rem_euclid (b +ℤ v) (pos m)
same_sum a b v m some same =
    let x = rest_of a m some in
    let y = rest_of b m some in
    let z = rest_of v m some in
    sum_rest a v m some x z ∙ (ap (λ n. pos ((n + z.rest) % m)) (ap unsigned_abs (sym x.rest_is ∙ (same ∙ y.rest_is))) ∙ sym (sum_rest b v m some y z))

pub same_difference : (a b v : ℤ) (m : ℕ) → 0 < m
    → int_rem_euclid a (pos m) ≡ int_rem_euclid b (pos m)
    → int_rem_euclid (a -ℤ v) (pos m) ≡ int_rem_euclid (b -ℤ v) (pos m)
same_difference a b v m some same = same_sum a b (neg_ℤ v) m some same

-- ---- whole bytes

-- the low 6 bits of a byte are a number of its own
abbrev pub is_word6 : RelocationKind → Bool
is_word6 kinds.AbsoluteSetWord6 = true
is_word6 kinds.AbsoluteAdditionWord6 = true
is_word6 kinds.AbsoluteSubtractionWord6 = true
is_word6 kind = false

-- the number of n bytes is below 2 ^ (8 * n)
low_sum : (s : ℕ → ℕ) (k : ℕ) → ((i : ℕ) → s i < 256)
    → sum_through (λ i. byte_worth i (s i)) k < 256 ^ (k + 1)
low_sum s zero small = let l = small 0 in omega (arith, l)
low_sum s (suc k) small =
    let same : 256 ^ (suc k + 1) ≡ 256 ^ suc (suc k) = ap (λ n. 256 ^ n) (let e : suc k + 1 ≡ suc (suc k) = omega arith in e) in
    let here : 256 ^ (k + 1) ≡ 256 ^ suc k = ap (λ n. 256 ^ n) (let e : k + 1 ≡ suc k = omega arith in e) in
    omega (arith, (low_sum s k small), (mul-le (s (suc k)) (256 ^ suc k) 255 (256 ^ suc k) (omega (arith, (small (suc k)))) (omega arith)), (pow-suc 256 (suc k)), same, here)

zero_sum : (s : ℕ → ℕ) (k j : ℕ) → ((i : ℕ) → k < i → s i ≡ 0)
    → sum_through (λ i. byte_worth i (s i)) (k + j) ≡ sum_through (λ i. byte_worth i (s i)) k
zero_sum s k zero none = ap (sum_through (λ i. byte_worth i (s i))) (let e : k + 0 ≡ k = omega arith in e)
zero_sum s k (suc j) none =
    ap (sum_through (λ i. byte_worth i (s i))) (let e : k + suc j ≡ suc (k + j) = omega arith in e)
    ∙ (ap (λ x. sum_through (λ i. byte_worth i (s i)) (k + j) + x * 256 ^ suc (k + j)) (none (suc (k + j)) (omega arith)) ∙ omega (arith, (zero_sum s k j none)))

pow_256 : (i : ℕ) → 256 ^ i ≡ 2 ^ (8 * i)
pow_256 zero = refl
pow_256 (suc i) =
    let more : 8 * suc i ≡ 8 * i + 8 = omega arith in
    rw more (pow-suc 256 i ∙ ap (λ n. n * 256) (pow_256 i) ∙ sym (pow-add 2 (8 * i) 8))

zero_of : (k j : ℕ) → slice_index (replicate k 0) j ≡ 0
zero_of k j =
    elim (cases_lt j k) [
      | inl under ↦ get_or-replicate k j 0 0 under
      | inr past ↦ get_or_past (replicate k 0) j 0 (subst (λ n. n ≤ j) (sym (length-replicate {A = ℕ} k 0)) past)
    ]

zero_byte : (xs : List ℕ) (n z i : ℕ) → length (take n xs) ≤ i
    → slice_index (take n xs ++ replicate z 0) i ≡ 0
zero_byte xs n z i past =
    get_or-append_right (take n xs) (replicate z 0) (length (take n xs)) i 0 refl past
    ∙ zero_of z (i - length (take n xs))

byte_below : (xs : List ℕ) (n z i : ℕ) → ((j : ℕ) → slice_index xs j < 256)
    → slice_index (take n xs ++ replicate z 0) i < 256
byte_below xs n z i small =
    elim (cases_lt i (length (take n xs))) [
      | inl under ↦
          let e : slice_index (take n xs ++ replicate z 0) i ≡ slice_index xs i =
          get_or_append_left (take n xs) (replicate z 0) 0 i under ∙ get_or-take n xs i 0 (omega (arith, under, (length-take n xs))) in
          omega (arith, e, (small i))
      | inr past ↦ let e = zero_byte xs n z i past in omega (arith, e)
    ]

last_of : (k : ℕ) → suc k ≤ 8 → k + (7 - k) ≡ 7
last_of k most = omega (arith, most)

pub number_small : (xs : List ℕ) (k : ℕ) → ((j : ℕ) → slice_index xs j < 256) → suc k ≤ 8
    → number_of_bytes (suc k) xs < 2 ^ (8 * suc k)
number_small xs k small most =
    let s : ℕ → ℕ = λ i. slice_index (take (suc k) xs ++ replicate (8 - suc k) 0) i in
    let none : (i : ℕ) → k < i → s i ≡ 0 = λ i above. zero_byte xs (suc k) (8 - suc k) i (omega (arith, above, (length-take (suc k) xs))) in
    let sum : number_of_bytes (suc k) xs ≡ sum_through (λ i. byte_worth i (s i)) k =
    ap (λ n. sum_through (λ i. byte_worth i (s i)) n) (sym (last_of k most)) ∙ zero_sum s k (7 - k) none in
    let below = low_sum s k (λ i. byte_below xs (suc k) (8 - suc k) i small) in
    subst (λ n. n < 2 ^ (8 * suc k)) (sym sum)
    (subst (λ n. sum_through (λ i. byte_worth i (s i)) k < n) (ap (λ n. 256 ^ n) (let e : k + 1 ≡ suc k = omega arith in e) ∙ pow_256 (suc k)) below)

-- ---- one more value

plain_with : (kind : RelocationKind) (v c : ℤ) (a m : ℕ) → 0 < m → is_word6 kind ≡ false
    → int_rem_euclid (pos a) (pos m) ≡ int_rem_euclid c (pos m)
    → int_rem_euclid (whole_number kind v a) (pos m) ≡ int_rem_euclid (composed_with kind v c) (pos m)
plain_with kinds.AbsoluteAddition v c a m some plain same = same_sum (pos a) c v m some same
plain_with kinds.AbsoluteSubtraction v c a m some plain same = same_difference (pos a) c v m some same
plain_with kinds.AbsoluteSetWord6 v c a m some plain same = never (sym plain)
plain_with kinds.AbsoluteAdditionWord6 v c a m some plain same = never (sym plain)
plain_with kinds.AbsoluteSubtractionWord6 v c a m some plain same = never (sym plain)
plain_with _ v c a m some plain same = refl

word6_whole : (kind : RelocationKind) (v : ℤ) (a : ℕ) → is_word6 kind ≡ true
    → whole_number kind v a ≡ pos (a - a % 64) +ℤ int_rem_euclid (composed_with kind v (pos a)) (pos 64)
word6_whole kinds.AbsoluteSetWord6 v a is = refl
word6_whole kinds.AbsoluteAdditionWord6 v a is = refl
word6_whole kinds.AbsoluteSubtractionWord6 v a is = refl
word6_whole _ v a is = never is

word6_with : (kind : RelocationKind) (v c : ℤ) (a : ℕ) → is_word6 kind ≡ true
    → int_rem_euclid (pos a) (pos 64) ≡ int_rem_euclid c (pos 64)
    → int_rem_euclid (composed_with kind v (pos a)) (pos 64) ≡ int_rem_euclid (composed_with kind v c) (pos 64)
word6_with kinds.AbsoluteSetWord6 v c a is same = refl
word6_with kinds.AbsoluteAdditionWord6 v c a is same = same_sum (pos a) c v 64 (omega arith) same
word6_with kinds.AbsoluteSubtractionWord6 v c a is same = same_difference (pos a) c v 64 (omega arith) same
word6_with _ v c a is same = never is

-- what a number of more than 6 bits is above its low 6 bits
above_6 : (a k : ℕ) → a < 2 ^ (8 * suc k) → a / 64 < 2 ^ (8 * k + 2)
above_6 a k small =
    let e : 8 * suc k ≡ 8 * k + 2 + 6 = omega arith in
    shr_below a (8 * k + 2) 6 (subst (λ n. a < 2 ^ n) e small)

below_whole : (a k : ℕ) → a / 64 < 2 ^ (8 * k + 2) → a < 2 ^ (8 * suc k)
below_whole a k above =
    let e : 8 * suc k ≡ 8 * k + 2 + 6 = omega arith in
    subst (λ n. a < 2 ^ n) (sym e) (omega (arith, (pow-add 2 (8 * k + 2) 6), above))

word6_step : (kind : RelocationKind) (v c : ℤ) (k a b : ℕ) → is_word6 kind ≡ true
    → a < 2 ^ (8 * suc k) → pos (a % 64) ≡ int_rem_euclid c (pos 64)
    → pos b ≡ int_rem_euclid (whole_number kind v a) (pos (2 ^ (8 * suc k)))
    → (pos (b % 64) ≡ int_rem_euclid (composed_with kind v c) (pos 64)) × (b / 64 ≡ a / 64)
word6_step kind v c k a b is small low written =
    let z = composed_with kind v (pos a) in
    let r = rest_of z 64 (omega arith) in
    let x = r.rest in
    let below : x < 2 ^ 6 = rem_below z x 6 (sym r.rest_is) in
    let whole : whole_number kind v a ≡ pos (a - a % 64 + x) =
    word6_whole kind v a is ∙ ap (λ y. pos (a - a % 64) +ℤ y) r.rest_is in
    let same : b ≡ a - a % 64 + x =
    ap unsigned_abs (written ∙ ap (λ y. int_rem_euclid y (pos (2 ^ (8 * suc k)))) whole) ∙ mod-eq_of_lt (below_whole (a - a % 64 + x) k (omega (arith, (above_6 a k small), below))) in (
      ap pos (omega (arith, same, below)) ∙ (sym r.rest_is ∙ word6_with kind v c a is low),
      omega (arith, same, below),
    )

-- ---- what a field holds

plain_from : (kind : RelocationKind) (n : ℕ) (c : ℤ) (old now : List ℕ) → is_word6 kind ≡ false
    → HoldsNumber kind n c old now
    → pos (number_of_bytes n now) ≡ int_rem_euclid c (pos (2 ^ (8 * n)))
plain_from kinds.AbsoluteSetWord6 n c old now plain is = never (sym plain)
plain_from kinds.AbsoluteAdditionWord6 n c old now plain is = never (sym plain)
plain_from kinds.AbsoluteSubtractionWord6 n c old now plain is = never (sym plain)
plain_from _ n c old now plain is = is

plain_to : (kind : RelocationKind) (n : ℕ) (c : ℤ) (old now : List ℕ) → is_word6 kind ≡ false
    → pos (number_of_bytes n now) ≡ int_rem_euclid c (pos (2 ^ (8 * n)))
    → HoldsNumber kind n c old now
plain_to kinds.AbsoluteSetWord6 n c old now plain is = never (sym plain)
plain_to kinds.AbsoluteAdditionWord6 n c old now plain is = never (sym plain)
plain_to kinds.AbsoluteSubtractionWord6 n c old now plain is = never (sym plain)
plain_to _ n c old now plain is = is

word6_from : (kind : RelocationKind) (n : ℕ) (c : ℤ) (old now : List ℕ) → is_word6 kind ≡ true
    → HoldsNumber kind n c old now → HoldsWord6 n c old now
word6_from kinds.AbsoluteSetWord6 n c old now word is = is
word6_from kinds.AbsoluteAdditionWord6 n c old now word is = is
word6_from kinds.AbsoluteSubtractionWord6 n c old now word is = is
word6_from _ n c old now word is = never word

word6_to : (kind : RelocationKind) (n : ℕ) (c : ℤ) (old now : List ℕ) → is_word6 kind ≡ true
    → HoldsWord6 n c old now → HoldsNumber kind n c old now
word6_to kinds.AbsoluteSetWord6 n c old now word is = is
word6_to kinds.AbsoluteAdditionWord6 n c old now word is = is
word6_to kinds.AbsoluteSubtractionWord6 n c old now word is = is
word6_to _ n c old now word is = never word

-- nothing is composed yet
pub holds_first : (kind : RelocationKind) (n : ℕ) (old : List ℕ) → number_of_bytes n old < 2 ^ (8 * n)
    → HoldsNumber kind n (pos (number_of_bytes n old)) old old
holds_first kind n old small =
    elim (cases_Bool (is_word6 kind)) [
      | inl word ↦ word6_to kind n _ old old word (record { low = refl; high = refl })
      | inr plain ↦ plain_to kind n _ old old plain (ap pos (sym (mod-eq_of_lt small)))
    ]

-- one more value is composed
pub holds_next : (kind other : RelocationKind) (k : ℕ) (v c : ℤ) (old now next : List ℕ)
    → is_word6 other ≡ is_word6 kind → number_of_bytes (suc k) old < 2 ^ (8 * suc k)
    → HoldsNumber kind (suc k) c old now
    → SizeNumber (ByteSize (suc k)) other v now next
    → HoldsNumber kind (suc k) (composed_with other v c) old next
holds_next kind other k v c old now next alike small holds written =
    let n = suc k in
    let a = number_of_bytes n now in
    elim (cases_Bool (is_word6 kind)) [
      | inl word ↦
          let so_far = word6_from kind n c old now word holds in
          let high = so_far.high in
          let step = word6_step other v c k a (number_of_bytes n next) (alike ∙ word) (below_whole a k (omega (arith, high, (above_6 (number_of_bytes n old) k small)))) so_far.low written in
          word6_to kind n _ old next word (record { low = step.0; high = step.1 ∙ high })
      | inr plain ↦
          let so_far = plain_from kind n c old now plain holds in
          plain_to kind n _ old next plain (written ∙ plain_with other v c a (2 ^ (8 * n)) (pow_pos (8 * n)) (alike ∙ plain) (rem_rem c a (8 * n) (8 * n) (omega arith) so_far))
    ]
