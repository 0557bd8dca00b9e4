-- Moves of 16 bits of AArch64.
use Rattle.linker_laws.proofs.Imports.{AArch64, AgreesInReach, AllowedRange, AreAddresses, BitRange, Bool, IsAddress, IsApplied, IsSameIn, IsSameModulo, IsWithin, Law, List, MoveReads, Movkz, Movnz, None, Operands, Option, PageMask, Premise, PremiseHolds, RelocationKind, RowInfo, Some, [], aarch64_form, aarch64_reads, and_parts, ap, arith, bit_at, bits_from, cast_signed, div-add-mod', div-mul-add, eqb, eqb-true, false, field, from_le_bytes, int_rem_euclid, int_rem_euclid_is, ints, is_movk, ltb, mod_below, movk, movn_or_movz, movz, mul-add-mod_self_right, negsuc, none, not, number_at, of_words, pos, pow-add, pow_pos, reach_of, refl, shift_of, stays_movk, subst, suc, sum_64, sym, taken_is_field, true, unsigned_abs, value_of, w32, w64, ℕ, ℤ, ◌%◌, ◌&&◌, ◌*ℤ◌, ◌*◌, ◌+ℤ◌, ◌+◌, ◌-ℤ◌, ◌-◌, ◌/◌, ◌<◌, ◌==◌, ◌^◌, ◌∙◌, ◌∷◌, ◌≡◌, ◌≤◌}
use Rattle.linker_laws.proofs.Applied.{value_is, reads, taken_bits}
use Rattle.linker_laws.proofs.Instructions.{HasNumber, IsNumber, first_step, row_of, is_read, reads_bits, field_sum, step_of}
use Rattle.linker_laws.proofs.Sums.{halves_sum, lift, lifted_is, euclid, small_cast}

-- ---- numbers in two parts

-- the low bits of a number in two parts
rem_of : (t : ℤ) (r m k : ℕ)
    → int_rem_euclid ((t *ℤ pos (2 ^ m * 2 ^ k)) +ℤ pos r) (pos (2 ^ k)) ≡ pos (r % 2 ^ k)
rem_of (pos a) r m k =
    let turn : a * (2 ^ m * 2 ^ k) + r ≡ a * 2 ^ m * 2 ^ k + r = turned a (2 ^ m) (2 ^ k) r in
    ap pos (ap (λ x. x % 2 ^ k) turn ∙ mul-add-mod_self_right (a * 2 ^ m) (2 ^ k) r)
  where
    turned : (a b c r : ℕ) → a * (b * c) + r ≡ a * b * c + r
    turned a b c r = grind arith
rem_of (negsuc a) r m k =
    int_rem_euclid_is ((negsuc a *ℤ pos (2 ^ m * 2 ^ k)) +ℤ pos r) (pos (2 ^ k)) (2 ^ k)
    (suc a * 2 ^ m) r (pow_pos k) refl (whole a (2 ^ m) (2 ^ k) r)
  where
    whole : (a b c r : ℕ) → ((negsuc a *ℤ pos (b * c)) +ℤ pos r) +ℤ pos (suc a * b * c) ≡ pos r
    whole a b c r =
        let turn : suc a * (b * c) ≡ suc a * b * c = grind arith in omega (arith, ints)

-- a number's part above bit s, and the rest
pub record Parts (s : ℕ) (v : ℤ) : Type 0 where
  pub rest : ℕ
  pub below : rest < 2 ^ s
  pub is : v ≡ (bits_from s v *ℤ pos (2 ^ s)) +ℤ pos rest

parts : (s : ℕ) (v : ℤ) → Parts s v
parts s (pos b) =
    record {
      rest = b % 2 ^ s;
      below = mod_below b (2 ^ s) (pow_pos s);
      is = sym (euclid (pos b) s);
    }
parts s (negsuc b) =
    record {
      rest = 2 ^ s - 1 - b % 2 ^ s;
      below = let some = pow_pos s in omega arith;
      is = sym (euclid (negsuc b) s);
    }

-- ---- MOVK

-- MOVK of a number in two parts
movk_parts : (s : ℕ) (t : ℤ) (r m imm word : ℕ)
    → (aarch64_form Movkz).machine word ≡ pos imm
    → movk s ((t *ℤ pos (2 ^ (m + (s + 16)))) +ℤ pos r) word
    ≡ (t *ℤ pos (2 ^ (m + (s + 16)))) +ℤ pos (r - r % 2 ^ (s + 16) + imm * 2 ^ s + r % 2 ^ s)
movk_parts s t r m imm word is =
    let d = 2 ^ (m + (s + 16)) in
    let high : int_rem_euclid ((t *ℤ pos d) +ℤ pos r) (pos (2 ^ (s + 16)))
    ≡ pos (r % 2 ^ (s + 16)) =
    subst (λ x. int_rem_euclid ((t *ℤ pos x) +ℤ pos r) (pos (2 ^ (s + 16)))
    ≡ pos (r % 2 ^ (s + 16))) (sym (pow-add 2 m (s + 16))) (rem_of t r m (s + 16)) in
    let low : int_rem_euclid ((t *ℤ pos d) +ℤ pos r) (pos (2 ^ s)) ≡ pos (r % 2 ^ s) =
    subst (λ x. int_rem_euclid ((t *ℤ pos (2 ^ x)) +ℤ pos r) (pos (2 ^ s)) ≡ pos (r % 2 ^ s))
    (let same : m + 16 + s ≡ m + (s + 16) = omega arith in same)
    (subst (λ x. int_rem_euclid ((t *ℤ pos x) +ℤ pos r) (pos (2 ^ s)) ≡ pos (r % 2 ^ s))
    (sym (pow-add 2 (m + 16) s)) (rem_of t r (m + 16) s)) in
    let smaller : r % 2 ^ (s + 16) ≤ r = at_most r (2 ^ (s + 16)) in
    ap (λ z. ((((t *ℤ pos d) +ℤ pos r) -ℤ z)
    +ℤ ((aarch64_form Movkz).machine word *ℤ pos (2 ^ s)))
    +ℤ int_rem_euclid ((t *ℤ pos d) +ℤ pos r) (pos (2 ^ s))) high
    ∙ ap (λ z. ((((t *ℤ pos d) +ℤ pos r) -ℤ pos (r % 2 ^ (s + 16)))
    +ℤ ((aarch64_form Movkz).machine word *ℤ pos (2 ^ s))) +ℤ z) low
    ∙ ap (λ z. ((((t *ℤ pos d) +ℤ pos r) -ℤ pos (r % 2 ^ (s + 16)))
    +ℤ (z *ℤ pos (2 ^ s))) +ℤ pos (r % 2 ^ s)) is
    ∙ joined (t *ℤ pos d) r (r % 2 ^ (s + 16)) (imm * 2 ^ s) (r % 2 ^ s) smaller
  where
    at_most : (r d : ℕ) → r % d ≤ r
    at_most r d = let split = div-add-mod' r d in omega arith

    joined : (z : ℤ) (r h i l : ℕ) → h ≤ r
        → (((z +ℤ pos r) -ℤ pos h) +ℤ pos i) +ℤ pos l ≡ z +ℤ pos (r - h + i + l)
    joined z r h i l le = omega (arith, ints)

-- the 16 bits of a MOVK
movk_reads : (kind : RelocationKind) (s : ℕ) (mask : Option PageMask) (range : AllowedRange) (a : ℕ)
    (bias : Option ℕ) (thunkable implicit : Bool) (o : Operands) (before after : List ℕ)
    (applied : IsApplied (row_of kind s (s + 16) (AArch64 Movkz) mask range a bias thunkable
    implicit) o before after) (n : ℕ) → n < 2 ^ 64 → s + 16 < 65
    → value_of (row_of kind s (s + 16) (AArch64 Movkz) mask range a bias thunkable implicit) o
    ≡ Some (cast_signed w64 n)
    → (aarch64_form Movkz).machine (from_le_bytes w32 after) ≡ pos (field n s (s + 16))
movk_reads kind s mask range a bias thunkable implicit o before after applied n below inside e =
    let sum = field_sum kind s (s + 16) (AArch64 Movkz) mask range a bias thunkable implicit o
    before after applied refl refl (omega arith) n below e in
    let width : s + 16 - s ≡ 16 = omega arith in
    let f = field n s (s + 16) in
    let small : f < 2 ^ 16 =
    subst (λ w. f < 2 ^ w) width
    (mod_below (n / 2 ^ s) (2 ^ (s + 16 - s)) (pow_pos (s + 16 - s))) in
    ap pos (sum ∙ (let same : (f - f % 2 ^ 0) % 2 ^ 16 ≡ f = omega arith in same))

-- ---- sequences

-- The first move has the value's bits from bit s up, by the operands' number.
pub record IsFirst (row : RowInfo) (premise : Premise) (s : ℕ) (move : ℕ → ℤ)
    (begin target number : Operands → ℕ) : Type 0 where
  pub leads : IsNumber begin target number
  pub bits : (o : Operands) → AreAddresses o → (before after : List ℕ) (applied : IsApplied row o before after)
      → PremiseHolds premise (number_at row.size before) applied.value
      → bits_from s (move (number_at row.size after)) ≡ bits_from s (cast_signed w64 (number o))

-- what the moves come to
reached : (s : ℕ) {begin target number : Operands → ℕ} → IsNumber begin target number
    → s < 65 → (o : Operands) → AreAddresses o → (t v : ℤ)
    → t ≡ bits_from s (cast_signed w64 (number o))
    → v ≡ (t *ℤ pos (2 ^ s)) +ℤ pos (number o % 2 ^ s)
    → IsAddress (pos (begin o) +ℤ v) (target o)
reached s {begin} {target} {number} leads short o small t v e is =
    let n = number o in
    let numbers = leads o small in
    let below = numbers.below in
    let same : n ≡ sum_64 n 0 = omega arith in
    ap (λ z. int_rem_euclid (pos (begin o) +ℤ z) (pos (2 ^ 64))) is
    ∙ ap (λ z. int_rem_euclid z (pos (2 ^ 64)))
    (regroup (begin o) (t *ℤ pos (2 ^ s)) (pos (n % 2 ^ s)))
    ∙ halves_sum s 0 (begin o) (target o) n n t (pos (n % 2 ^ s)) short (omega arith) numbers.small
    below numbers.leads same e (none_added (n % 2 ^ s))
  where
    regroup : (p : ℕ) (a b : ℤ) → pos p +ℤ (a +ℤ b) ≡ (pos p +ℤ a) +ℤ b
    regroup p a b = omega (arith, ints)

    none_added : (r : ℕ) → pos r +ℤ pos 0 ≡ pos r
    none_added r = ap pos (omega arith)

first_16 : (r n f : ℕ) → r < 2 ^ 16 → f ≡ field n 0 16
    → r - r % 2 ^ 16 + f * 2 ^ 0 + r % 2 ^ 0 ≡ n % 2 ^ 16
first_16 r n f small e = omega arith

after_32 : (r n f g : ℕ) → r < 2 ^ 32 → g ≡ field n 16 32 → f ≡ field n 0 16
    → (r - r % 2 ^ 32 + g * 2 ^ 16 + r % 2 ^ 16)
    - (r - r % 2 ^ 32 + g * 2 ^ 16 + r % 2 ^ 16) % 2 ^ 16
    + f * 2 ^ 0 + (r - r % 2 ^ 32 + g * 2 ^ 16 + r % 2 ^ 16) % 2 ^ 0 ≡ n % 2 ^ 32
after_32 r n f g small eg ef =
    let low : r % 2 ^ 16 < 2 ^ 16 = omega arith in
    let whole : r - r % 2 ^ 32 ≡ 0 = omega arith in
    ap (λ h. (h + g * 2 ^ 16 + r % 2 ^ 16) - (h + g * 2 ^ 16 + r % 2 ^ 16) % 2 ^ 16 + f * 2 ^ 0
    + (h + g * 2 ^ 16 + r % 2 ^ 16) % 2 ^ 0) whole
    ∙ rest (r % 2 ^ 16) n f g low eg ef
  where
    rest : (l n f g : ℕ) → l < 2 ^ 16 → g ≡ field n 16 32 → f ≡ field n 0 16
        → (0 + g * 2 ^ 16 + l) - (0 + g * 2 ^ 16 + l) % 2 ^ 16 + f * 2 ^ 0
        + (0 + g * 2 ^ 16 + l) % 2 ^ 0 ≡ n % 2 ^ 32
    rest l n f g small eg ef = omega arith

pub moves1 : {begin target number : Operands → ℕ} {row : RowInfo} {premise : Premise} {move : ℕ → ℤ}
    → IsFirst row premise 0 move begin target number
    → Law (first_step row premise ∷ []) (λ o x. pos (begin o) +ℤ move x) target
moves1 {begin} {target} {number} {row} {premise} {move} first =
    λ o small at before after step holds.
    let v = move (number_at row.size after) in
    let p = parts 0 v in
    let below = p.below in
    let none : p.rest ≡ number o % 2 ^ 0 = omega arith in
    reached 0 first.leads (omega arith) o small (bits_from 0 v) v (first.bits o small before after step holds)
    (p.is ∙ ap (λ r. (bits_from 0 v *ℤ pos (2 ^ 0)) +ℤ pos r) none)

pub moves2 : {begin target number : Operands → ℕ} {row : RowInfo} {premise : Premise} {move : ℕ → ℤ}
    → IsFirst row premise 16 move begin target number
    → (operands2 : Operands → ℕ → Operands)
    → {kind2 : RelocationKind} {mask2 : Option PageMask} {range2 : AllowedRange} {a2 : ℕ}
    {bias2 : Option ℕ} {thunkable2 implicit2 : Bool}
    → HasNumber (row_of kind2 0 16 (AArch64 Movkz) mask2 range2 a2 bias2 thunkable2 implicit2) operands2 number
    → Law
    (first_step row premise
    ∷ step_of (row_of kind2 0 16 (AArch64 Movkz) mask2 range2 a2 bias2 thunkable2 implicit2) operands2 none
    ∷ []) (λ o x y. pos (begin o) +ℤ movk 0 (move x) y) target
moves2 {begin} {target} {number} {row} {premise} {move} first operands2 e2 =
    λ o small at before after step holds at2 before2 after2 step2 any2.
    let n = number o in
    let numbers = first.leads o small in
    let v = move (number_at row.size after) in
    let t = bits_from 16 v in
    let p = parts 16 v in
    let f = movk_reads _ 0 _ _ _ _ _ _ _ before2 after2 step2 n numbers.below (omega arith)
    (e2 o small at2) in
    reached 16 first.leads (omega arith) o small t (movk 0 v (from_le_bytes w32 after2))
    (first.bits o small before after step holds)
    (ap (λ z. movk 0 z (from_le_bytes w32 after2)) p.is
    ∙ movk_parts 0 t p.rest 0 (field n 0 16) (from_le_bytes w32 after2) f
    ∙ ap (λ r. (t *ℤ pos (2 ^ 16)) +ℤ pos r) (first_16 p.rest n (field n 0 16) p.below refl))

pub moves3 : {begin target number : Operands → ℕ} {row : RowInfo} {premise : Premise} {move : ℕ → ℤ}
    → IsFirst row premise 32 move begin target number
    → (operands2 operands3 : Operands → ℕ → Operands)
    → {kind2 : RelocationKind} {mask2 : Option PageMask} {range2 : AllowedRange} {a2 : ℕ}
    {bias2 : Option ℕ} {thunkable2 implicit2 : Bool}
    {kind3 : RelocationKind} {mask3 : Option PageMask} {range3 : AllowedRange} {a3 : ℕ}
    {bias3 : Option ℕ} {thunkable3 implicit3 : Bool}
    → HasNumber (row_of kind2 16 32 (AArch64 Movkz) mask2 range2 a2 bias2 thunkable2 implicit2) operands2 number
    → HasNumber (row_of kind3 0 16 (AArch64 Movkz) mask3 range3 a3 bias3 thunkable3 implicit3) operands3 number
    → Law
    (first_step row premise
    ∷ step_of (row_of kind2 16 32 (AArch64 Movkz) mask2 range2 a2 bias2 thunkable2 implicit2) operands2 none
    ∷ step_of (row_of kind3 0 16 (AArch64 Movkz) mask3 range3 a3 bias3 thunkable3 implicit3) operands3 none
    ∷ []) (λ o x y z. pos (begin o) +ℤ movk 0 (movk 16 (move x) y) z) target
moves3 {begin} {target} {number} {row} {premise} {move} first operands2 operands3 e2 e3 =
    λ o small at before after step holds at2 before2 after2 step2 any2 at3 before3 after3 step3
    any3.
    let n = number o in
    let numbers = first.leads o small in
    let v = move (number_at row.size after) in
    let t = bits_from 32 v in
    let p = parts 32 v in
    let g = movk_reads _ 16 _ _ _ _ _ _ _ before2 after2 step2 n numbers.below (omega arith)
    (e2 o small at2) in
    let f = movk_reads _ 0 _ _ _ _ _ _ _ before3 after3 step3 n numbers.below (omega arith)
    (e3 o small at3) in
    let r1 = p.rest - p.rest % 2 ^ 32 + field n 16 32 * 2 ^ 16 + p.rest % 2 ^ 16 in
    reached 32 first.leads (omega arith) o small t
    (movk 0 (movk 16 v (from_le_bytes w32 after2)) (from_le_bytes w32 after3))
    (first.bits o small before after step holds)
    (ap (λ z. movk 0 (movk 16 z (from_le_bytes w32 after2)) (from_le_bytes w32 after3)) p.is
    ∙ ap (λ z. movk 0 z (from_le_bytes w32 after3))
    (movk_parts 16 t p.rest 0 (field n 16 32) (from_le_bytes w32 after2) g)
    ∙ movk_parts 0 t r1 16 (field n 0 16) (from_le_bytes w32 after3) f
    ∙ ap (λ r. (t *ℤ pos (2 ^ 32)) +ℤ pos r)
    (after_32 p.rest n (field n 0 16) (field n 16 32) p.below refl refl))

-- ---- four moves

-- The first move of the highest 16 bits has them modulo 2 ^ 16.
pub record IsHighest (row : RowInfo) (premise : Premise) (move : ℕ → ℤ)
    (begin target number : Operands → ℕ) : Type 0 where
  pub leads : IsNumber begin target number
  pub bits : (o : Operands) → AreAddresses o → (before after : List ℕ) (applied : IsApplied row o before after)
      → PremiseHolds premise (number_at row.size before) applied.value
      → IsSameModulo 16 (bits_from 48 (move (number_at row.size after))) (bits_from 48 (cast_signed w64 (number o)))

rem_lifted : (z : ℤ) (j w : ℕ) → z +ℤ pos (j * 2 ^ 64) ≡ pos w
    → int_rem_euclid z (pos (2 ^ 16)) ≡ pos (w % 2 ^ 16)
rem_lifted z j w e =
    int_rem_euclid_is z (pos (2 ^ 16)) (2 ^ 16) (j * 2 ^ 48) w (omega arith) refl
    (let turn : j * 2 ^ 64 ≡ j * 2 ^ 48 * 2 ^ 16 = omega arith in
    subst (λ x. z +ℤ pos x ≡ pos w) turn e)

scaled_sum : (p l : ℕ) (t : ℤ) (j w : ℕ) → t +ℤ pos (j * 2 ^ 64) ≡ pos w
    → IsAddress (pos p +ℤ ((t *ℤ pos (2 ^ 48)) +ℤ pos l)) ((p + w * 2 ^ 48 + l) % 2 ^ 64)
scaled_sum p l t j w e =
    lifted_is (pos p +ℤ ((t *ℤ pos (2 ^ 48)) +ℤ pos l)) (j * 2 ^ 48) (p + w * 2 ^ 48 + l)
    (omega (arith, ints))

same_high : (p l w x : ℕ) → w % 2 ^ 16 ≡ x % 2 ^ 16
    → (p + w * 2 ^ 48 + l) % 2 ^ 64 ≡ (p + x * 2 ^ 48 + l) % 2 ^ 64
same_high p l w x e = omega arith

congruent_sum : (p l s : ℕ) (t u : ℤ) → IsSameModulo 16 t u
    → IsAddress (pos p +ℤ ((u *ℤ pos (2 ^ 48)) +ℤ pos l)) s
    → IsAddress (pos p +ℤ ((t *ℤ pos (2 ^ 48)) +ℤ pos l)) s
congruent_sum p l s t u same h =
    let a = lift t in
    let b = lift u in
    let numbers : a.number % 2 ^ 16 ≡ b.number % 2 ^ 16 =
    ap unsigned_abs (sym (rem_lifted t a.times a.number a.is) ∙ same
    ∙ rem_lifted u b.times b.number b.is) in
    scaled_sum p l t a.times a.number a.is
    ∙ ap pos (same_high p l a.number b.number numbers)
    ∙ sym (scaled_sum p l u b.times b.number b.is) ∙ h

step_48 : (r h : ℕ) → r < 2 ^ 48
    → r - r % 2 ^ 48 + h * 2 ^ 32 + r % 2 ^ 32 ≡ h * 2 ^ 32 + r % 2 ^ 32
step_48 r h small = omega arith

step_32 : (l g h : ℕ) → l < 2 ^ 32
    → (h * 2 ^ 32 + l) - (h * 2 ^ 32 + l) % 2 ^ 32 + g * 2 ^ 16 + (h * 2 ^ 32 + l) % 2 ^ 16
    ≡ h * 2 ^ 32 + (g * 2 ^ 16 + l % 2 ^ 16)
step_32 l g h small = omega arith

step_16 : (l f g h n : ℕ) → l < 2 ^ 16 → h ≡ field n 32 48 → g ≡ field n 16 32 → f ≡ field n 0 16
    → (h * 2 ^ 32 + (g * 2 ^ 16 + l)) - (h * 2 ^ 32 + (g * 2 ^ 16 + l)) % 2 ^ 16 + f * 2 ^ 0
    + (h * 2 ^ 32 + (g * 2 ^ 16 + l)) % 2 ^ 0 ≡ n % 2 ^ 48
step_16 l f g h n small eh eg ef =
    let cleared : (h * 2 ^ 32 + (g * 2 ^ 16 + l)) % 2 ^ 16 ≡ l = omega arith in
    let whole : h * 2 ^ 32 + (g * 2 ^ 16 + f) ≡ n % 2 ^ 48 = omega arith in
    omega arith

rest_below : (r k : ℕ) → r % 2 ^ k < 2 ^ k
rest_below r k = mod_below r (2 ^ k) (pow_pos k)

pub moves4 : {begin target number : Operands → ℕ} {row : RowInfo} {premise : Premise} {move : ℕ → ℤ}
    → IsHighest row premise move begin target number
    → (operands2 operands3 operands4 : Operands → ℕ → Operands)
    → {kind2 : RelocationKind} {mask2 : Option PageMask} {range2 : AllowedRange} {a2 : ℕ}
    {bias2 : Option ℕ} {thunkable2 implicit2 : Bool}
    {kind3 : RelocationKind} {mask3 : Option PageMask} {range3 : AllowedRange} {a3 : ℕ}
    {bias3 : Option ℕ} {thunkable3 implicit3 : Bool}
    {kind4 : RelocationKind} {mask4 : Option PageMask} {range4 : AllowedRange} {a4 : ℕ}
    {bias4 : Option ℕ} {thunkable4 implicit4 : Bool}
    → HasNumber (row_of kind2 32 48 (AArch64 Movkz) mask2 range2 a2 bias2 thunkable2 implicit2) operands2 number
    → HasNumber (row_of kind3 16 32 (AArch64 Movkz) mask3 range3 a3 bias3 thunkable3 implicit3) operands3 number
    → HasNumber (row_of kind4 0 16 (AArch64 Movkz) mask4 range4 a4 bias4 thunkable4 implicit4) operands4 number
    → Law
    (first_step row premise
    ∷ step_of (row_of kind2 32 48 (AArch64 Movkz) mask2 range2 a2 bias2 thunkable2 implicit2) operands2 none
    ∷ step_of (row_of kind3 16 32 (AArch64 Movkz) mask3 range3 a3 bias3 thunkable3 implicit3) operands3 none
    ∷ step_of (row_of kind4 0 16 (AArch64 Movkz) mask4 range4 a4 bias4 thunkable4 implicit4) operands4 none
    ∷ []) (λ o x y z u. pos (begin o) +ℤ movk 0 (movk 16 (movk 32 (move x) y) z) u) target
moves4 {begin} {target} {number} {row} {premise} {move} first operands2 operands3 operands4 e2 e3 e4 =
    λ o small at before after step holds at2 before2 after2 step2 any2 at3 before3 after3 step3 any3
    at4 before4 after4 step4 any4.
    let n = number o in
    let numbers = first.leads o small in
    let v = move (number_at row.size after) in
    let t = bits_from 48 v in
    let p = parts 48 v in
    let y = from_le_bytes w32 after2 in
    let z = from_le_bytes w32 after3 in
    let u = from_le_bytes w32 after4 in
    let h = movk_reads _ 32 _ _ _ _ _ _ _ before2 after2 step2 n numbers.below (omega arith)
    (e2 o small at2) in
    let g = movk_reads _ 16 _ _ _ _ _ _ _ before3 after3 step3 n numbers.below (omega arith)
    (e3 o small at3) in
    let f = movk_reads _ 0 _ _ _ _ _ _ _ before4 after4 step4 n numbers.below (omega arith)
    (e4 o small at4) in
    let l1 = p.rest % 2 ^ 32 in
    let l2 = l1 % 2 ^ 16 in
    let r1 = field n 32 48 * 2 ^ 32 + l1 in
    let r2 = field n 32 48 * 2 ^ 32 + (field n 16 32 * 2 ^ 16 + l2) in
    let w = cast_signed w64 n in
    let same : movk 0 (movk 16 (movk 32 v y) z) u ≡ (t *ℤ pos (2 ^ 48)) +ℤ pos (n % 2 ^ 48) =
    ap (λ k. movk 0 (movk 16 (movk 32 k y) z) u) p.is
    ∙ ap (λ k. movk 0 (movk 16 k z) u) (movk_parts 32 t p.rest 0 (field n 32 48) y h
    ∙ ap (λ r. (t *ℤ pos (2 ^ 48)) +ℤ pos r) (step_48 p.rest (field n 32 48) p.below))
    ∙ ap (λ k. movk 0 k u) (movk_parts 16 t r1 16 (field n 16 32) z g
    ∙ ap (λ r. (t *ℤ pos (2 ^ 48)) +ℤ pos r)
    (step_32 l1 (field n 16 32) (field n 32 48) (rest_below p.rest 32)))
    ∙ movk_parts 0 t r2 32 (field n 0 16) u f
    ∙ ap (λ r. (t *ℤ pos (2 ^ 48)) +ℤ pos r)
    (step_16 l2 (field n 0 16) (field n 16 32) (field n 32 48) n (rest_below l1 16) refl refl refl)
    in
    ap (λ k. int_rem_euclid (pos (begin o) +ℤ k) (pos (2 ^ 64))) same
    ∙ congruent_sum (begin o) (n % 2 ^ 48) (target o) t (bits_from 48 w)
    (first.bits o small before after step holds)
    (reached 48 first.leads (omega arith) o small (bits_from 48 w)
    ((bits_from 48 w *ℤ pos (2 ^ 48)) +ℤ pos (n % 2 ^ 48)) refl refl)

-- ---- first moves

scaled : (f s : ℕ) → bits_from s (pos f *ℤ pos (2 ^ s)) ≡ pos f
scaled f s =
    ap pos (subst (λ x. x / 2 ^ s ≡ f) (let none : f * 2 ^ s + 0 ≡ f * 2 ^ s = omega arith in none)
    (div-mul-add f (2 ^ s) 0 (pow_pos s)))

pub movz_first : (s : ℕ) {begin target number : Operands → ℕ} → IsNumber begin target number
    → s + 16 < 65 → {kind : RelocationKind} {mask : Option PageMask} {range : AllowedRange} {a : ℕ}
    {bias : Option ℕ} {thunkable implicit : Bool} {b : ℤ × ℤ}
    → reach_of (row_of kind s (s + 16) (AArch64 Movkz) mask range a bias
    thunkable implicit) ≡ Some b
    → is_read (AArch64 Movkz) s (s + 16) b a ≡ true
    → ((o : Operands) → value_of (row_of kind s (s + 16) (AArch64 Movkz) mask range a bias
    thunkable implicit) o ≡ Some (cast_signed w64 (number o)))
    → IsFirst (row_of kind s (s + 16) (AArch64 Movkz) mask range a bias
    thunkable implicit) none s (movz s) begin target number
movz_first s {begin} {target} {number} leads short within ok e =
    record {
      leads = leads;
      bits = λ o small before after applied any.
          let n = number o in
          let below = (leads o small).below in
          let m = movk_reads _ s _ _ _ _ _ _ o before after applied n below short (e o) in
          let r = reads_bits _ _ _ _ _ _ _ _ _ _ o before after applied _
          (subst (λ b. IsWithin b applied.value) within applied.accepted.reached.0) ok n below (e o) in
          ap (λ z. bits_from s (z *ℤ pos (2 ^ s))) m ∙ scaled (field n s (s + 16)) s ∙ sym m ∙ r;
    }

-- a MOVK alone stays one
no_movk : (x : ℕ) (bits : BitRange) → not (is_movk x) ≡ true
    → stays_movk (AArch64 Movnz) bits x ≡ false
no_movk x bits h = by_word (is_movk x) h
  where
    by_word : (is : Bool) → not is ≡ true → (is && ltb (bits.end - bits.start) 17) ≡ false
    by_word true h = cc
    by_word false h = refl

-- a move of 64 bits
wide_reads : (bits : BitRange) (b : Option (ℤ × ℤ)) (v : ℤ) (before after : ℕ)
    → bit_at before 31 ≡ 1 → MoveReads (bit_at before 31 == 0) bits b v after
    → IsSameIn b (bits.end - bits.start) (aarch64_reads Movnz bits.start after)
    (bits_from bits.start v)
wide_reads bits b v before after wide reads =
    subst (λ k. MoveReads (k == 0) bits b v after) wide reads

pub movn_first : (s : ℕ) {begin target number : Operands → ℕ} → IsNumber begin target number
    → {kind : RelocationKind} {mask : Option PageMask} {range : AllowedRange} {a : ℕ}
    {bias : Option ℕ} {thunkable implicit : Bool} {b : ℤ × ℤ}
    → reach_of (row_of kind s (s + 16) (AArch64 Movnz) mask range a bias
    thunkable implicit) ≡ Some b
    → AgreesInReach false (row_of kind s (s + 16) (AArch64 Movnz) mask range a bias
    thunkable implicit)
    → ((o : Operands) → value_of (row_of kind s (s + 16) (AArch64 Movnz) mask range a bias
    thunkable implicit) o ≡ Some (cast_signed w64 (number o)))
    → IsFirst (row_of kind s (s + 16) (AArch64 Movnz) mask range a bias
    thunkable implicit)
    (of_words (λ x. (shift_of x == s && bit_at x 31 == 1) && not (is_movk x))) s movn_or_movz begin target number
movn_first s {begin} {target} {number} leads within agrees e =
    record {
      leads = leads;
      bits = λ o small before after applied holds.
          let n = number o in
          let below = (leads o small).below in
          let is = value_is _ o before after applied (cast_signed w64 n) (e o) in
          let x = from_le_bytes w32 before in
          let parts = and_parts (eqb (shift_of x) s && eqb (bit_at x 31) 1) (not (is_movk x)) holds in
          let both = and_parts (eqb (shift_of x) s) (eqb (bit_at x 31) 1) parts.0 in
          let wide = eqb-true (bit_at x 31) 1 both.1 in
          let same = wide_reads _ _ applied.value x (from_le_bytes w32 after) wide
          ((reads _ o before after applied n below is false agrees).other (no_movk x (record { start = s; end = s + 16 }) parts.1) refl
          (eqb-true (shift_of x) s both.0) (λ narrow. absurd (let e : 1 ≡ 0 = sym wide ∙ narrow in omega arith))) in
          subst (λ b. IsSameIn b (s + 16 - s) (aarch64_reads Movnz s (from_le_bytes w32 after))
          (bits_from s applied.value)) within same
          ∙ ap (bits_from s) (sym is);
    }

pub movn_highest : {begin target number : Operands → ℕ} → IsNumber begin target number
    → {kind : RelocationKind} {mask : Option PageMask} {range : AllowedRange} {a : ℕ}
    {bias : Option ℕ} {thunkable implicit : Bool}
    → reach_of (row_of kind 48 64 (AArch64 Movnz) mask range a bias
    thunkable implicit) ≡ None
    → AgreesInReach false (row_of kind 48 64 (AArch64 Movnz) mask range a bias
    thunkable implicit)
    → ((o : Operands) → value_of (row_of kind 48 64 (AArch64 Movnz) mask range a bias
    thunkable implicit) o ≡ Some (cast_signed w64 (number o)))
    → IsHighest (row_of kind 48 64 (AArch64 Movnz) mask range a bias
    thunkable implicit)
    (of_words (λ x. (shift_of x == 48 && bit_at x 31 == 1) && not (is_movk x))) movn_or_movz begin target number
movn_highest {begin} {target} {number} leads within agrees e =
    record {
      leads = leads;
      bits = λ o small before after applied holds.
          let n = number o in
          let below = (leads o small).below in
          let is = value_is _ o before after applied (cast_signed w64 n) (e o) in
          let x = from_le_bytes w32 before in
          let parts = and_parts (eqb (shift_of x) 48 && eqb (bit_at x 31) 1) (not (is_movk x)) holds in
          let both = and_parts (eqb (shift_of x) 48) (eqb (bit_at x 31) 1) parts.0 in
          let wide = eqb-true (bit_at x 31) 1 both.1 in
          let same = wide_reads _ _ applied.value x (from_le_bytes w32 after) wide
          ((reads _ o before after applied n below is false agrees).other (no_movk x (record { start = 48; end = 64 }) parts.1) refl
          (eqb-true (shift_of x) 48 both.0) (λ narrow. absurd (let e : 1 ≡ 0 = sym wide ∙ narrow in omega arith))) in
          (subst (λ b. IsSameIn b 16 (aarch64_reads Movnz 48 (from_le_bytes w32 after))
          (bits_from 48 applied.value)) within same).0
          ∙ ap (λ z. int_rem_euclid (bits_from 48 z) (pos (2 ^ 16))) (sym is);
    }

pub movz_highest : {begin target number : Operands → ℕ} → IsNumber begin target number
    → {kind : RelocationKind} {mask : Option PageMask} {range : AllowedRange} {a : ℕ}
    {bias : Option ℕ} {thunkable implicit : Bool}
    → ((o : Operands) → value_of (row_of kind 48 64 (AArch64 Movkz) mask range a bias
    thunkable implicit) o ≡ Some (cast_signed w64 (number o)))
    → IsHighest (row_of kind 48 64 (AArch64 Movkz) mask range a bias
    thunkable implicit) none (movz 48) begin target number
movz_highest {begin} {target} {number} leads e =
    record {
      leads = leads;
      bits = λ o small before after applied any.
          let n = number o in
          let below = (leads o small).below in
          let m = movk_reads _ 48 _ _ _ _ _ _ o before after applied n below (omega arith) (e o) in
          let f = field n 48 64 in
          let bits = taken_is_field (record { start = 48; end = 64 }) (cast_signed w64 n)
          (small_cast n below) (omega arith) (omega arith) in
          let taken = taken_bits (record { start = 48; end = 64 }) n (cast_signed w64 n) below refl in
          let short : f % 2 ^ 16 ≡ f = omega arith in
          ap (λ z. int_rem_euclid (bits_from 48 (z *ℤ pos (2 ^ 48))) (pos (2 ^ 16))) m
          ∙ ap (λ z. int_rem_euclid z (pos (2 ^ 16))) (scaled f 48)
          ∙ ap pos short ∙ ap pos (sym taken) ∙ bits;
    }
