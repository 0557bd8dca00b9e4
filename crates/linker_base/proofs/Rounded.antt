-- The laws of forms whose places hold bits of the value plus a constant.
use Rattle.linker_base.proofs.Imports.{All, BitsWritten, Bool, ImmediateBit, IsClear, IsReadBack, List, MachineReads, Width, WriteBackChangesNothing, Written, and_from, and_parts, ap, arith, bit_at, bit_for, cast_unsigned, cond-true, cond_both, field_of, int_rem_euclid, ints, le-leb, leb, leb-true, lt-ltb, ltb, mod-eq_of_lt, mod_below, mod_low, place_sum, placed_bit, pos, pow_pos, signed, suc, sym, true, values_below, w64, ℕ, ◌%◌, ◌&&◌, ◌*◌, ◌+◌, ◌-ℤ◌, ◌-◌, ◌/◌, ◌<◌, ◌^◌, ◌∙◌, ◌≡◌, ◌≤◌}
use Rattle.linker_base.specs.Rounded.{rounded_immediate}
use Rattle.linker_base.proofs.Places.{value_bit, adds, bit_at-place_sum}
use Rattle.linker_base.proofs.Fields.{mod_mod, bit_at_window, signed_rem, aligned_rem, cast_rem, whole_parts}
use Rattle.linker_base.proofs.Immediates.{fills, values_apart_fills, place_sum_laid, place_sum_below, restored, all_hold, own_bits, bits_kept, values_from}

-- bits low and up, below n, of x
inside_window : (x low n k : ℕ) → low ≤ k → k < n → bit_at (x / 2 ^ low % 2 ^ (n - low) * 2 ^ low) k ≡ bit_at x k
inside_window x low n k a b =
    bit_at_window x low n k ∙ cond-true (leb low k && ltb k n) (bit_at x k) 0 (and_from (leb low k) (ltb k n) (le-leb low k a) (lt-ltb k n b))

-- what the places of bits low to n need for `read_value` and a write to be inverse
pub record IsSoundPart (low n r : ℕ) (ps : List ImmediateBit) : Type 0 where
  pub ordered : low ≤ n
  pub short : n ≤ 64
  pub filled : fills low n ps ≡ true
  pub from : values_from low ps ≡ true
  pub below : values_below n ps ≡ true
  pub held : all_hold ps ≡ true
  pub added : adds r ps ≡ true

-- placing a value whose sum with r has the bits that stand at the places changes none of them
pub part_kept : (low n r : ℕ) (ps : List ImmediateBit) (v before after : ℕ) → IsSoundPart low n r ps
    → (v + r) % 2 ^ 64 / 2 ^ low % 2 ^ (n - low) * 2 ^ low ≡ place_sum ps before
    → All (λ (p : ImmediateBit). bit_at after p.insn_bit ≡ placed_bit p.mark (bit_for p v) (bit_at before p.insn_bit)) ps
    → All (λ (p : ImmediateBit). bit_at after p.insn_bit ≡ bit_at before p.insn_bit) ps
part_kept low n r ps v before after sound e placed =
    let apart = values_apart_fills low n ps sound.filled in
    let x = (v + r) % 2 ^ 64 in
    let same : (k : ℕ) → low ≤ k → k < n → bit_at x k ≡ value_bit ps k before =
    λ k a b. sym (inside_window x low n k a b) ∙ ap (λ y. bit_at y k) e ∙ bit_at-place_sum ps before k apart in
    bits_kept low n r v before after (λ k. value_bit ps k before) ps same sound.from sound.below sound.held sound.added (own_bits ps before apart sound.held) placed

-- a field below bit 64 doesn't see what is cut off there
field_of_sum : (x low n : ℕ) → low ≤ n → n ≤ 64 → x % 2 ^ 64 / 2 ^ low % 2 ^ (n - low) * 2 ^ low ≡ x / 2 ^ low % 2 ^ (n - low) * 2 ^ low
field_of_sum x low n a b =
    let apart : 64 ≡ (64 - low) + low = omega arith in
    ap (λ k. x % 2 ^ k / 2 ^ low % 2 ^ (n - low) * 2 ^ low) apart
    ∙ ap (λ y. y % 2 ^ (n - low) * 2 ^ low) (field_of x (64 - low) low)
    ∙ ap (λ y. y * 2 ^ low) (mod_mod (x / 2 ^ low) (64 - low) (n - low) (omega arith))

-- ---- two's complement less a constant

-- s less r, or also less m, to which r is added again
plus_part : (s r : ℕ) → s < 2 ^ 64 → r ≤ 2 ^ 64 → (cast_unsigned w64 (pos s -ℤ pos r) % 2 ^ 64 + r) % 2 ^ 64 ≡ s
plus_part s r small room = ap (λ y. (y + r) % 2 ^ 64) (cast_rem (pos s -ℤ pos r) (s + (2 ^ 64 - r)) (omega (arith, ints))) ∙ omega arith

minus_part : (s r m q : ℕ) → s < m → 2 ^ 64 ≡ suc q * m → m + r ≤ 2 ^ 64 → (cast_unsigned w64 (pos s -ℤ pos m -ℤ pos r) % 2 ^ 64 + r) % 2 ^ 64 ≡ q * m + s
minus_part s r m q small parts room =
    ap (λ y. (y + r) % 2 ^ 64) (cast_rem (pos s -ℤ pos m -ℤ pos r) (q * m + s - r) (omega (arith, ints))) ∙ omega arith

-- the bits of a signed number less r, to which r is added again
signed_less : (n s r q : ℕ) → s < 2 ^ n → 2 ^ 64 ≡ suc q * 2 ^ n → 2 ^ n + r ≤ 2 ^ 64
    → (cast_unsigned w64 (signed n s -ℤ pos r) % 2 ^ 64 + r) % 2 ^ 64 % 2 ^ n ≡ s
signed_less n s r q h e room =
    cond_both (ltb s (2 ^ (n - 1))) (pos s) (pos s -ℤ pos (2 ^ n)) (λ z. (cast_unsigned w64 (z -ℤ pos r) % 2 ^ 64 + r) % 2 ^ 64 % 2 ^ n ≡ s)
    (λ _. ap (λ y. y % 2 ^ n) (plus_part s r (omega arith) (omega arith)) ∙ mod-eq_of_lt h)
    (λ _. ap (λ y. y % 2 ^ n) (minus_part s r (2 ^ n) q h e room) ∙ mod_low q n s h)

-- ---- rounded immediates

-- what `rounded_immediate` requires of its numbers and places
abbrev pub is_sound_part : ℕ → ℕ → ℕ → List ImmediateBit → Bool
is_sound_part low n r ps =
    leb low n && (leb n 64 && (fills low n ps && (values_from low ps && (values_below n ps && (all_hold ps && adds r ps)))))

pub sound_part : (low n r : ℕ) (ps : List ImmediateBit) → is_sound_part low n r ps ≡ true → IsSoundPart low n r ps
sound_part low n r ps h =
    let a = and_parts (leb low n) (leb n 64 && (fills low n ps && (values_from low ps && (values_below n ps && (all_hold ps && adds r ps))))) h in
    let b = and_parts (leb n 64) (fills low n ps && (values_from low ps && (values_below n ps && (all_hold ps && adds r ps)))) a.1 in
    let c = and_parts (fills low n ps) (values_from low ps && (values_below n ps && (all_hold ps && adds r ps))) b.1 in
    let d = and_parts (values_from low ps) (values_below n ps && (all_hold ps && adds r ps)) c.1 in
    let e = and_parts (values_below n ps) (all_hold ps && adds r ps) d.1 in
    let f = and_parts (all_hold ps) (adds r ps) e.1 in
    record { ordered = leb-true low n a.0; short = leb-true n 64 b.0; filled = c.0; from = d.0; below = e.0; held = f.0; added = f.1 }

module _ (w : Width) (n low r : ℕ) (flags : Bool) (ps : List ImmediateBit) (sound : IsSoundPart low n r ps) where
  -- the number at the places after a write
  pub rounded_laid : (v before after : ℕ) → BitsWritten ps v before after → IsClear ps before → place_sum ps after ≡ (v + r - (v + r) % 2 ^ low) % 2 ^ n
  rounded_laid v before after laid clear =
      place_sum_laid low n r ps v before after sound.short sound.filled sound.added laid clear
      ∙ field_of_sum (v + r) low n sound.ordered sound.short
      ∙ sym (aligned_rem (v + r) low n sound.ordered)

  -- modulo 2 ^ n the machine reads the rounded value
  pub rounded_machine : (v : ℕ) (neg : Bool) (before after : ℕ)
      → Written (rounded_immediate w n low r flags ps) v neg before after
      → MachineReads (rounded_immediate w n low r flags ps) v neg before after
  rounded_machine v neg before after laid clear =
      ap (λ y. int_rem_euclid (signed n y) (pos (2 ^ n))) (rounded_laid v before after laid clear)
      ∙ signed_rem n ((v + r - (v + r) % 2 ^ low) % 2 ^ n) (mod_below (v + r - (v + r) % 2 ^ low) (2 ^ n) (pow_pos n))

  pub rounded_restored : 2 ^ n + r ≤ 2 ^ 64 → (v : ℕ) (neg : Bool) (before after : ℕ)
      → Written (rounded_immediate w n low r flags ps) v neg before after
      → IsReadBack (rounded_immediate w n low r flags ps) v neg before → after ≡ before
  rounded_restored room v neg before after laid back =
      let apart = values_apart_fills low n ps sound.filled in
      let sum = place_sum ps before in
      restored n r ps v before after apart sound.below sound.held sound.added
      (ap (λ y. (y + r) % 2 ^ 64 % 2 ^ n) back.value
      ∙ signed_less n sum r (2 ^ (64 - n) - 1) (place_sum_below ps n before apart sound.below) (whole_parts n sound.short) room)
      laid

pub rounded_restores : (w : Width) (n low r : ℕ) (flags : Bool) (ps : List ImmediateBit) → is_sound_part low n r ps ≡ true → leb (2 ^ n + r) (2 ^ 64) ≡ true
    → WriteBackChangesNothing (rounded_immediate w n low r flags ps)
rounded_restores w n low r flags ps h room v neg before after wide laid back =
    rounded_restored w n low r flags ps (sound_part low n r ps h) (leb-true (2 ^ n + r) (2 ^ 64) room) v neg before after laid back
