-- What a pair of halves adds up to.
use Rattle.linker_elf.proofs.Imports.{D, ImmediateBit, IsPairDistance, KeepsHigh, List, MachineReads, PairHolds, Written, agree_below_at, always_clear, ap, arith, bits_to, cases_lt, drop, false, field, from_le_bytes, inl, inr, int_rem_euclid, int_rem_euclid_is, ints, is_placed, le-ltb, lt-ltb, negsuc, pair, place_sum, place_sum_below, pos, pow_pos, ppc64_form, refl, same_fields, signed, signed_rem, sym, w32, ℕ, ℤ, ◌%◌, ◌*ℤ◌, ◌*◌, ◌+ℤ◌, ◌+◌, ◌-ℤ◌, ◌-◌, ◌/◌, ◌<ℤ◌, ◌<◌, ◌^◌, ◌∙◌, ◌≡◌, ◌≤ℤ◌, ◌≤◌}

abbrev d_places : List ImmediateBit
d_places = bits_to 0 15 0

-- the machine's reading of 16 bits gives them all
d_written : (v before after : ℕ) → v < 2 ^ 16 → MachineReads (ppc64_form D) v false before after → place_sum d_places after ≡ v
d_written v before after h reads =
    let sum = place_sum d_places after in
    let small : sum < 2 ^ 16 = place_sum_below d_places 16 after refl refl in
    let read : pos sum ≡ pos ((v - v % 2 ^ 0) % 2 ^ 16) = sym (signed_rem 16 sum small) ∙ reads (always_clear d_places before refl) in
    let same : sum ≡ (v - v % 2 ^ 0) % 2 ^ 16 = cc in
    omega arith

high_free : (w : ℕ) → 16 ≤ w → w < 32 → is_placed d_places w ≡ false
high_free w a b =
    ap (is_placed d_places) (let e : w ≡ 16 + (w - 16) = omega arith in e) ∙ agree_below_at (λ j. is_placed d_places (16 + j)) (λ _. false) 16 (w - 16) refl (omega arith)

-- bits 16 and up are no places
pub d_kept : (v : ℕ) (before after : List ℕ) → Written (ppc64_form D) v false (from_le_bytes w32 before) (from_le_bytes w32 after)
    → drop 4 after ≡ drop 4 before → KeepsHigh before after
d_kept v before after laid rest =
    record {
      high = same_fields (from_le_bytes w32 after) (from_le_bytes w32 before) 16 32 (λ w a b. laid.kept w (high_free w a b));
      rest = rest;
    }

signed_low : (f : ℕ) → f < 32768 → signed 16 f ≡ pos f
signed_low f h = rw (lt-ltb f 32768 h) refl

signed_high : (f : ℕ) → 32768 ≤ f → signed 16 f ≡ pos f -ℤ pos 65536
signed_high f h = rw (le-ltb f 32768 h) refl

-- how often 2^32 goes into the pair
turns : ℕ → ℕ → ℕ
turns v h = (v + 32768) / 4294967296 + h / 32768

halves : (v h l : ℕ) → h ≡ (v + 32768) / 65536 % 65536 → l ≡ v % 65536
    → signed 16 h *ℤ pos 65536 +ℤ signed 16 l +ℤ pos (turns v h * 4294967296) ≡ pos v
unfolding turns
halves v h l eh el =
    elim (cases_lt h 32768) [
      | inl low ↦ elim (cases_lt l 32768) [
        | inl down ↦ rw (signed_low h low, signed_low l down) (omega (arith, ints))
        | inr up ↦ rw (signed_low h low, signed_high l up) (omega (arith, ints))
      ]
      | inr high ↦ elim (cases_lt l 32768) [
        | inl down ↦ rw (signed_high h high, signed_low l down) (omega (arith, ints))
        | inr up ↦ rw (signed_high h high, signed_high l up) (omega (arith, ints))
      ]
    ]

pair_same : (v h l : ℕ) → h ≡ (v + 32768) / 65536 % 65536 → l ≡ v % 65536
    → int_rem_euclid (signed 16 h *ℤ pos 65536 +ℤ signed 16 l) (pos 4294967296) ≡ int_rem_euclid (pos v) (pos 4294967296)
pair_same v h l eh el = int_rem_euclid_is (signed 16 h *ℤ pos 65536 +ℤ signed 16 l) (pos 4294967296) 4294967296 (turns v h) v (pow_pos 32) refl (halves v h l eh el)

bounded : (h l : ℕ) → h < 65536 → l < 65536
    → (negsuc 2147516415 ≤ℤ (signed 16 h *ℤ pos 65536 +ℤ signed 16 l)) × ((signed 16 h *ℤ pos 65536 +ℤ signed 16 l) <ℤ pos 2147450880)
bounded h l hs ls =
    elim (cases_lt h 32768) [
      | inl low ↦ elim (cases_lt l 32768) [
        | inl down ↦ rw (signed_low h low, signed_low l down) (omega (arith, ints), omega (arith, ints))
        | inr up ↦ rw (signed_low h low, signed_high l up) (omega (arith, ints), omega (arith, ints))
      ]
      | inr high ↦ elim (cases_lt l 32768) [
        | inl down ↦ rw (signed_high h high, signed_low l down) (omega (arith, ints), omega (arith, ints))
        | inr up ↦ rw (signed_high h high, signed_high l up) (omega (arith, ints), omega (arith, ints))
      ]
    ]

wide_low : (v : ℕ) → v < 9223372036854775808 → signed 64 v ≡ pos v
wide_low v h = rw (lt-ltb v 9223372036854775808 h) refl

wide_high : (v : ℕ) → 9223372036854775808 ≤ v → signed 64 v ≡ pos v -ℤ pos 18446744073709551616
wide_high v h = rw (le-ltb v 9223372036854775808 h) refl

nearest : (v k : ℕ) (p : ℤ) → v < 2 ^ 64 → p +ℤ pos (k * 4294967296) ≡ pos v → negsuc 2147516415 ≤ℤ p → p <ℤ pos 2147450880
    → IsPairDistance (signed 64 v) → p ≡ signed 64 v
nearest v k p small sum least most near =
    elim (cases_lt v 9223372036854775808) [
      | inl low ↦ let is = wide_low v low in let reach = rw is at near in rw is (let a = reach.0 in let b = reach.1 in omega (arith, ints))
      | inr high ↦ let is = wide_high v high in let reach = rw is at near in rw is (let a = reach.0 in let b = reach.1 in omega (arith, ints))
    ]

pub pair_holds : (v h l x y ha lo : ℕ) → v < 2 ^ 64 → h ≡ field ((v + 0x8000) % 2 ^ 64) 16 32 → l ≡ v % 2 ^ 16
    → MachineReads (ppc64_form D) h false x ha → MachineReads (ppc64_form D) l false y lo → PairHolds ha lo v
pair_holds v h l x y ha lo small eh el high low =
    let above : h ≡ (v + 32768) / 65536 % 65536 = omega arith in
    let hs : h < 65536 = omega arith in
    let ls : l < 65536 = omega arith in
    let up : place_sum d_places ha ≡ h = d_written h x ha hs high in
    let down : place_sum d_places lo ≡ l = d_written l y lo ls low in
    let is : pair ha lo ≡ signed 16 h *ℤ pos 65536 +ℤ signed 16 l = ap (λ a. signed 16 a *ℤ pos 65536 +ℤ signed 16 (place_sum d_places lo)) up ∙ ap (λ b. signed 16 h *ℤ pos 65536 +ℤ signed 16 b) down in
    let reach = bounded h l hs ls in
    record {
      same = ap (λ z. int_rem_euclid z (pos 4294967296)) is ∙ pair_same v h l above el;
      exact = λ near. is ∙ nearest v (turns v h) (signed 16 h *ℤ pos 65536 +ℤ signed 16 l) small (halves v h l above el) reach.0 reach.1 near;
    }
