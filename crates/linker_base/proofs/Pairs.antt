-- Values in two parts: a rounded high one and a signed low one, or bits that are held and others.
use Rattle.linker_base.proofs.Imports.{All, All-append, BitsWritten, ImmediateBit, List, Mark, [], and_parts, ap, arith, bit_at, bit_at-zero, bit_for, cases_lt, cast_unsigned, cleared, cond_both, inl, inr, int_rem_euclid, int_rem_euclid_is, ints, lt-leb, ltb, ltb-false, ltb-true, ored, place_sum, placed_bit, pos, refl, replaced, same_from_bits, signed, sum_by-cons, sym, true, w64, worth, ℕ, ℤ, ◌%◌, ◌&&◌, ◌*◌, ◌++◌, ◌+ℤ◌, ◌+◌, ◌-ℤ◌, ◌-◌, ◌/◌, ◌<◌, ◌^◌, ◌∙◌, ◌∷◌, ◌≡◌, ◌≤◌}
pub use Rattle.linker_base.proofs.Fields.{signed_cases}
use Rattle.linker_base.proofs.Fields.{bit_at_mod, bit_at_mod_above, cast_rem}
use Rattle.linker_base.proofs.Immediates.{has_value_fills, values_apart_fills, place_sum_below}
use Rattle.linker_base.proofs.Listed.{All-front, All-back}
use Rattle.linker_base.proofs.Parts.{unchanged, is_cleared, all_cleared, cleared_kept, ored_from, ored_kept}
use Rattle.linker_base.proofs.Places.{bit_at-place_sum, value_bit_none, sums}
use Rattle.linker_base.proofs.Rounded.{IsSoundPart, part_kept}

-- ---- numbers in two's complement

pub added : (x y a b : ℤ) → x ≡ a → y ≡ b → x +ℤ y ≡ a +ℤ b
added x y a b e f = cc

-- ---- both parts of what is written

-- the bits below a part's own are 0
pub part_aligned : (low n r : ℕ) (ps : List ImmediateBit) (x : ℕ) → IsSoundPart low n r ps
    → place_sum ps x % 2 ^ low ≡ 0
part_aligned low n r ps x sound =
    same_from_bits (place_sum ps x % 2 ^ low) 0 (λ i. elim (cases_lt i low) [
      | inl inside ↦
          bit_at_mod (place_sum ps x) low i inside
          ∙ bit_at-place_sum ps x i (values_apart_fills low n ps sound.filled)
          ∙ value_bit_none ps i x (has_value_fills low n ps i sound.short sound.filled ∙ ap (λ b. b && ltb i n) (lt-leb low i inside))
          ∙ sym (bit_at-zero i)
      | inr above ↦ bit_at_mod_above (place_sum ps x) low i above ∙ sym (bit_at-zero i)
    ])

part_below : (low n r : ℕ) (ps : List ImmediateBit) (x : ℕ) → IsSoundPart low n r ps → place_sum ps x < 2 ^ n
part_below low n r ps x sound = place_sum_below ps n x (values_apart_fills low n ps sound.filled) sound.below

-- two parts whose sums are those before are written without a change
parts_restored : (a b r c d s : ℕ) (high low : List ImmediateBit) (v before after : ℕ) → IsSoundPart a b r high → IsSoundPart c d s low → BitsWritten (high ++ low) v before after
    → (v + r) % 2 ^ 64 / 2 ^ a % 2 ^ (b - a) * 2 ^ a ≡ place_sum high before
    → (v + s) % 2 ^ 64 / 2 ^ c % 2 ^ (d - c) * 2 ^ c ≡ place_sum low before
    → after ≡ before
parts_restored a b r c d s high low v before after high_sound low_sound laid high_same low_same =
    let Placed : ImmediateBit → Type 0 = λ p. bit_at after p.insn_bit ≡ placed_bit p.mark (bit_for p v) (bit_at before p.insn_bit) in
    unchanged (high ++ low) v before after laid
    (All-append (λ (p : ImmediateBit). bit_at after p.insn_bit ≡ bit_at before p.insn_bit) high low
    (part_kept a b r high v before after high_sound high_same (All-front Placed high low laid.placed))
    (part_kept c d s low v before after low_sound low_same (All-back Placed high low laid.placed)))

-- ---- a high part of 20 bits and a signed low part of 12

-- the value that reading both parts gives has their bits
pair_bits : (v h l : ℕ) → h < 2 ^ 32 → h % 4096 ≡ 0 → l < 4096 → v ≡ cast_unsigned w64 (signed 32 h +ℤ signed 12 l) % 2 ^ 64
    → ((v + 0x800) % 2 ^ 64 / 4096 % 1048576 * 4096 ≡ h) × (v % 4096 ≡ l)
pair_bits v h l hb hm lb e =
    elim (signed_cases 32 h) [
      | inl a ↦ elim (signed_cases 12 l) [
        | inl b ↦ pair_found (pos h) (pos l) (h + l + 18446744073709551616) a.1 b.1 (omega (arith, ints)) (λ w. let k = b.0 in let j = a.0 in (omega arith, omega arith))
        | inr b ↦ pair_found (pos h) (pos l -ℤ pos 4096) (h + l + 18446744073709547520) a.1 b.1 (omega (arith, ints)) (λ w. let k = b.0 in let j = a.0 in (omega arith, omega arith))
      ]
      | inr a ↦ elim (signed_cases 12 l) [
        | inl b ↦ pair_found (pos h -ℤ pos (2 ^ 32)) (pos l) (h + l + 18446744069414584320) a.1 b.1 (omega (arith, ints)) (λ w. let k = b.0 in let j = a.0 in (omega arith, omega arith))
        | inr b ↦ pair_found (pos h -ℤ pos (2 ^ 32)) (pos l -ℤ pos 4096) (h + l + 18446744069414580224) a.1 b.1 (omega (arith, ints)) (λ w. let k = b.0 in let j = a.0 in (omega arith, omega arith))
      ]
    ]
  where
    pair_found : (a b : ℤ) (m : ℕ) → signed 32 h ≡ a → signed 12 l ≡ b → a +ℤ b +ℤ pos (2 ^ 64) ≡ pos m
        → (v ≡ m % 2 ^ 64 → ((v + 0x800) % 2 ^ 64 / 4096 % 1048576 * 4096 ≡ h) × (v % 4096 ≡ l))
        → ((v + 0x800) % 2 ^ 64 / 4096 % 1048576 * 4096 ≡ h) × (v % 4096 ≡ l)
    pair_found a b m x y whole found =
        found (e ∙ ap (λ z. cast_unsigned w64 z % 2 ^ 64) (added (signed 32 h) (signed 12 l) a b x y) ∙ cast_rem (a +ℤ b) m whole)

-- writing back the sum of the parts, with 0x800 added for the high one, changes nothing
pub pair_restored : (high low : List ImmediateBit) (v before after : ℕ) → IsSoundPart 12 32 0x800 high → IsSoundPart 0 12 0 low → BitsWritten (high ++ low) v before after → v < 2 ^ 64
    → v ≡ cast_unsigned w64 (signed 32 (place_sum high before) +ℤ signed 12 (place_sum low before)) % 2 ^ 64 → after ≡ before
pair_restored high low v before after high_sound low_sound laid wide e =
    let bits = pair_bits v (place_sum high before) (place_sum low before) (part_below 12 32 0x800 high before high_sound) (part_aligned 12 32 0x800 high before high_sound)
    (part_below 0 12 0 low before low_sound) e in
    let whole : (v + 0) % 2 ^ 64 / 2 ^ 0 % 2 ^ (12 - 0) * 2 ^ 0 ≡ v % 4096 = omega arith in
    parts_restored 12 32 0x800 0 12 0 high low v before after high_sound low_sound laid bits.0 (whole ∙ bits.1)

-- ---- a high part of 20 bits and a signed low part of 16

read_low : (v h l : ℕ) → h < 2 ^ 20 → l < 2 ^ 15 → v ≡ (h * 2 ^ 16 + l) % 2 ^ 36 → ((v + 0x8000) % 2 ^ 64 / 2 ^ 16 % 2 ^ 20 ≡ h) × (v % 2 ^ 16 ≡ l)
read_low v h l a b e = (omega arith, omega arith)

read_high : (v h l : ℕ) → h < 2 ^ 20 → l < 2 ^ 16 → 2 ^ 15 ≤ l → v ≡ (h * 2 ^ 16 + l + (2 ^ 36 - 2 ^ 16)) % 2 ^ 36 → ((v + 0x8000) % 2 ^ 64 / 2 ^ 16 % 2 ^ 20 ≡ h) × (v % 2 ^ 16 ≡ l)
read_high v h l a b c e = (omega arith, omega arith)

-- what stands in the pair's fields, from the number that is read there
pub pair_read : (v h l : ℕ) → h < 2 ^ 20 → l < 2 ^ 16
    → v ≡ cast_unsigned w64 (int_rem_euclid (pos (h * 2 ^ 16) +ℤ signed 16 l) (pos (2 ^ 36))) % 2 ^ 36
    → ((v + 0x8000) % 2 ^ 64 / 2 ^ 16 % 2 ^ 20 ≡ h) × (v % 2 ^ 16 ≡ l)
pair_read v h l a b =
    cond_both (ltb l (2 ^ 15)) (pos l) (pos l -ℤ pos (2 ^ 16))
    (λ z. v ≡ cast_unsigned w64 (int_rem_euclid (pos (h * 2 ^ 16) +ℤ z) (pos (2 ^ 36))) % 2 ^ 36 → ((v + 0x8000) % 2 ^ 64 / 2 ^ 16 % 2 ^ 20 ≡ h) × (v % 2 ^ 16 ≡ l))
    (λ t. λ e. read_low v h l a (ltb-true l (2 ^ 15) t) (e ∙ omega arith))
    (λ t. λ e. read_high v h l a b (ltb-false l (2 ^ 15) t)
    (e ∙ ap (λ z. cast_unsigned w64 z % 2 ^ 36)
    (int_rem_euclid_is (pos (h * 2 ^ 16) +ℤ (pos l -ℤ pos (2 ^ 16))) (pos (2 ^ 36)) (2 ^ 36) 1 (h * 2 ^ 16 + l + (2 ^ 36 - 2 ^ 16)) (omega arith) refl (omega (arith, ints)))
    ∙ omega arith))

-- writing back the high part and the signed low one together, modulo 2 ^ 36, with 0x8000 added for
-- the high one, changes nothing
pub long_pair_restored : (high low : List ImmediateBit) (v before after : ℕ) → IsSoundPart 16 36 0x8000 high → IsSoundPart 0 16 0 low → BitsWritten (high ++ low) v before after → v < 2 ^ 64
    → v ≡ cast_unsigned w64 (int_rem_euclid (pos (place_sum high before) +ℤ signed 16 (place_sum low before)) (pos (2 ^ 36))) % 2 ^ 36 → after ≡ before
long_pair_restored high low v before after high_sound low_sound laid wide e =
    let h = place_sum high before / 2 ^ 16 in
    let l = place_sum low before in
    let aligned = part_aligned 16 36 0x8000 high before high_sound in
    let below = part_below 16 36 0x8000 high before high_sound in
    let same : place_sum high before ≡ h * 2 ^ 16 = omega arith in
    let bits = pair_read v h l (omega arith) (part_below 0 16 0 low before low_sound)
    (e ∙ ap (λ y. cast_unsigned w64 (int_rem_euclid (pos y +ℤ signed 16 l) (pos (2 ^ 36))) % 2 ^ 36) same) in
    let whole : (v + 0) % 2 ^ 64 / 2 ^ 0 % 2 ^ (16 - 0) * 2 ^ 0 ≡ v % 2 ^ 16 = omega arith in
    parts_restored 16 36 0x8000 0 16 0 high low v before after high_sound low_sound laid (ap (λ y. y * 2 ^ 16) bits.0 ∙ sym same) (whole ∙ bits.1)

-- ---- bits that are held, and others that stay

part_restored : (n : ℕ) (held others : List ImmediateBit) (v before after : ℕ) → IsSoundPart 0 n 0 held → v < 2 ^ 64 → v % 2 ^ n ≡ place_sum held before
    → All (λ (p : ImmediateBit). bit_at after p.insn_bit ≡ bit_at before p.insn_bit) others → BitsWritten (held ++ others) v before after → after ≡ before
part_restored n held others v before after sound wide same stay laid =
    let whole : (v + 0) % 2 ^ 64 / 2 ^ 0 % 2 ^ (n - 0) * 2 ^ 0 ≡ v % 2 ^ n =
    ap (λ y. y / 2 ^ 0 % 2 ^ (n - 0) * 2 ^ 0) (let low : (v + 0) % 2 ^ 64 ≡ v = omega arith in low)
    ∙ ap (λ k. v / 2 ^ 0 % 2 ^ k * 2 ^ 0) (let same : n - 0 ≡ n = omega arith in same)
    ∙ ap (λ y. y % 2 ^ n * 2 ^ 0) (let one : v / 2 ^ 0 ≡ v = omega arith in one) ∙ omega arith in
    unchanged (held ++ others) v before after laid
    (All-append (λ (p : ImmediateBit). bit_at after p.insn_bit ≡ bit_at before p.insn_bit) held others
    (part_kept 0 n 0 held v before after sound (whole ∙ same)
    (All-front (λ (p : ImmediateBit). bit_at after p.insn_bit ≡ placed_bit p.mark (bit_for p v) (bit_at before p.insn_bit)) held others laid.placed))
    stay)

-- 12 bits are read of 16, of which the highest four are only ORed
pub low_restored : (held others : List ImmediateBit) (v before after : ℕ) → IsSoundPart 0 12 0 held → ored_from 12 others ≡ true → v < 2 ^ 64 → v ≡ place_sum held before % 2 ^ 16
    → BitsWritten (held ++ others) v before after → after ≡ before
low_restored held others v before after sound high wide e laid =
    let below = part_below 0 12 0 held before sound in
    part_restored 12 held others v before after sound wide (omega arith)
    (ored_kept 12 others v before after (omega arith) wide high
    (All-back (λ (p : ImmediateBit). bit_at after p.insn_bit ≡ placed_bit p.mark (bit_for p v) (bit_at before p.insn_bit)) held others laid.placed))
    laid

cleared_worth : (m : Mark) (k b : ℕ) → is_cleared m ≡ true → worth m k b ≡ 0
cleared_worth replaced k b h = cc
cleared_worth ored k b h = cc
cleared_worth cleared k b h = refl

-- places that are only cleared have no number
cleared_sum : (ps : List ImmediateBit) (x : ℕ) → all_cleared ps ≡ true → place_sum ps x ≡ 0
unfolding place_sum
cleared_sum [] x h = refl
cleared_sum (p ∷ ps) x h =
    let parts = and_parts (is_cleared p.mark) (all_cleared ps) h in
    sum_by-cons (λ (q : ImmediateBit). worth q.mark q.value (bit_at x q.insn_bit)) p ps
    ∙ ap (λ y. y + place_sum ps x) (cleared_worth p.mark p.value (bit_at x p.insn_bit) parts.0)
    ∙ ap (λ y. 0 + y) (cleared_sum ps x parts.1)

-- 20 bits, and others that held 0 and are cleared
pub clear_restored : (held others : List ImmediateBit) (v before after : ℕ) → IsSoundPart 0 20 0 held → all_cleared others ≡ true → All (λ (p : ImmediateBit). bit_at before p.insn_bit ≡ 0) others
    → v < 2 ^ 64 → v ≡ place_sum (held ++ others) before % 2 ^ 20 → BitsWritten (held ++ others) v before after → after ≡ before
clear_restored held others v before after sound clear none wide e laid =
    let below = part_below 0 20 0 held before sound in
    let sum : place_sum (held ++ others) before ≡ place_sum held before = sums held others before ∙ ap (λ y. place_sum held before + y) (cleared_sum others before clear) ∙ omega arith in
    part_restored 20 held others v before after sound wide (omega arith)
    (cleared_kept others v before after clear none
    (All-back (λ (p : ImmediateBit). bit_at after p.insn_bit ≡ placed_bit p.mark (bit_for p v) (bit_at before p.insn_bit)) held others laid.placed))
    laid
