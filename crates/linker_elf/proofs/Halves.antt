-- Pairs of instructions hold each value within their reach.
use Rattle.linker_elf.proofs.Imports.{AArch64, AnyForm, BitMasking, BitRange, Bool, Bounds, ByteSize, Call36, CluiType, CompletesHigh, D, Ds, FitsSigned, IType, InstructionHolds, InstructionWritten, IsAccepted, IsAligned, IsDistanceModulo, IsInUnits, IsWithin, IsWritten, List, LoongArch64, LoongArch64Instruction, LoongArchHolds, Ppc64, Ppc64Form, Ppc64Holds, RelocationKind, RiscV, RiscVHolds, RiscVInstruction, RowInfo, RowSize, SType, Signed, SizeHolds, Some, UType, UiType, Written, added, always_clear, ap, arith, bit_bounds, bits_from, bits_taken, call36_bounds, cases_lt, cast_unsigned, clui_bounds, field, inl, inr, int_lt, int_rem_euclid, int_rem_euclid_is, ints, layout_laid, loongarch_form, loongarch_reach, negsuc, place_sum, pos, ppc64_form, ppc64_layout, reach, reach_of_size, refl, relocation_form, riscv_form, riscv_layout, riscv_pair_bounds, riscv_places, riscv_reach, signed, signed_cases, suc, sym, takes_size, true, twos_complement, ui_high, ui_low, unsigned_abs, w64, window_of, ℕ, ℤ, ◌%◌, ◌*ℤ◌, ◌*◌, ◌+ℤ◌, ◌+◌, ◌-ℤ◌, ◌-◌, ◌/◌, ◌<◌, ◌^◌, ◌∙◌, ◌≡◌, ◌≤◌}
use Rattle.linker_elf.proofs.Agreement.{number_agrees}
use Rattle.linker_elf.proofs.LoongArch.{loongarch_reaches}
use Rattle.linker_elf.proofs.Placed.{reads_as}
use Rattle.linker_elf.proofs.Relocated.{supported_size, taken_bits_inside}
use Rattle.linker_elf.proofs.RiscV.{u_laid, clui_laid, ui_high_laid, ui_low_laid}
use Rattle.linker_elf.proofs.Taken.{taken_is_field, taken_low, taken_below, taken_in_units}

-- The halves of f, whose low 32 bits are those of v, add up to v.
module _ (f h l : ℕ) (high : h ≡ (f + 0x800) % 2 ^ 64 / 4096 % 1048576 * 4096) (low : l ≡ f % 4096) where
  up : (n : ℕ) → f % 2 ^ 32 ≡ n → n < 2 ^ 31 - 0x800 → signed 32 h +ℤ signed 12 l ≡ pos n
  up n e small =
      elim (signed_cases 32 h) [
        | inl a ↦ elim (signed_cases 12 l) [
          | inl b ↦ added (signed 32 h) (signed 12 l) (pos h) (pos l) a.1 b.1 ∙ (let k = b.0 in let j = a.0 in omega (arith, ints))
          | inr b ↦ added (signed 32 h) (signed 12 l) (pos h) (pos l -ℤ pos 4096) a.1 b.1 ∙ (let k = b.0 in let j = a.0 in omega (arith, ints))
        ]
        | inr a ↦ absurd (let j = a.0 in omega arith)
      ]

  down : (n : ℕ) → f % 2 ^ 32 ≡ 2 ^ 32 - suc n → n < 2 ^ 31 + 0x800 → signed 32 h +ℤ signed 12 l ≡ negsuc n
  down n e small =
      elim (signed_cases 32 h) [
        | inl a ↦ elim (signed_cases 12 l) [
          | inl b ↦ added (signed 32 h) (signed 12 l) (pos h) (pos l) a.1 b.1 ∙ (let k = b.0 in let j = a.0 in omega (arith, ints))
          | inr b ↦ added (signed 32 h) (signed 12 l) (pos h) (pos l -ℤ pos 4096) a.1 b.1 ∙ (let k = b.0 in let j = a.0 in omega (arith, ints))
        ]
        | inr a ↦ elim (signed_cases 12 l) [
          | inl b ↦ added (signed 32 h) (signed 12 l) (pos h -ℤ pos (2 ^ 32)) (pos l) a.1 b.1 ∙ (let k = b.0 in let j = a.0 in omega (arith, ints))
          | inr b ↦ added (signed 32 h) (signed 12 l) (pos h -ℤ pos (2 ^ 32)) (pos l -ℤ pos 4096) a.1 b.1 ∙ (let k = b.0 in let j = a.0 in omega (arith, ints))
        ]
      ]

  pub halves_make : (v : ℤ) → pos (f % 2 ^ 32) ≡ int_rem_euclid v (pos (2 ^ 32)) → IsWithin (Some riscv_pair_bounds) v → signed 32 h +ℤ signed 12 l ≡ v
  halves_make (pos n) e within =
      let small : n < 2 ^ 31 - 0x800 = omega (arith, ints, within.1) in
      let same : f % 2 ^ 32 ≡ n % 2 ^ 32 = ap unsigned_abs e in
      up n (omega arith) small
  halves_make (negsuc n) e within =
      let small : n < 2 ^ 31 + 0x800 = omega (arith, ints, within.0) in
      let same : f % 2 ^ 32 ≡ 2 ^ 32 - 1 - n % 2 ^ 32 = ap unsigned_abs e in
      down n (omega arith) small

-- ---- what a written row holds

completes : (low : RiscVInstruction) (bits : BitRange) (v : ℤ) (l after : ℕ) → (riscv_form low).machine after ≡ signed 12 l → l ≡ bits_taken bits v % 4096
    → pos (bits_taken bits v % 2 ^ 32) ≡ int_rem_euclid v (pos (2 ^ 32)) → IsWithin (Some riscv_pair_bounds) v → CompletesHigh low bits v after
completes low bits v l after reads is same within = λ neg before high laid.
    let f = bits_taken bits v in
    let h = place_sum (riscv_places UType) high in
    added ((riscv_form UType).machine high) ((riscv_form low).machine after) (signed 32 h) (signed 12 l) refl reads
    ∙ halves_make f h l (u_laid f before high laid) is v same within

-- the same of the halves whose high one has 6 bits
clui_make : (f h l : ℕ) → h ≡ (f + 0x800) % 2 ^ 64 / 4096 % 64 * 4096 → l ≡ f % 4096 → (v : ℤ)
    → pos (f % 2 ^ 32) ≡ int_rem_euclid v (pos (2 ^ 32)) → IsWithin (Some clui_bounds) v
    → signed 18 h +ℤ signed 12 l ≡ v
clui_make f h l high low (pos n) e within =
    let small : n < 0x1f800 = omega (arith, ints, within.1) in
    let same : f % 2 ^ 32 ≡ n % 2 ^ 32 = ap unsigned_abs e in
    elim (signed_cases 18 h) [
      | inl a ↦ elim (signed_cases 12 l) [
        | inl b ↦ added (signed 18 h) (signed 12 l) (pos h) (pos l) a.1 b.1
            ∙ (let k = b.0 in let j = a.0 in omega (arith, ints))
        | inr b ↦ added (signed 18 h) (signed 12 l) (pos h) (pos l -ℤ pos 4096) a.1 b.1
            ∙ (let k = b.0 in let j = a.0 in omega (arith, ints))
      ]
      | inr a ↦ absurd (let j = a.0 in omega arith)
    ]
clui_make f h l high low (negsuc n) e within =
    let small : n < 0x20800 = omega (arith, ints, within.0) in
    let same : f % 2 ^ 32 ≡ 2 ^ 32 - 1 - n % 2 ^ 32 = ap unsigned_abs e in
    elim (signed_cases 18 h) [
      | inl a ↦ elim (signed_cases 12 l) [
        | inl b ↦ added (signed 18 h) (signed 12 l) (pos h) (pos l) a.1 b.1
            ∙ (let k = b.0 in let j = a.0 in omega (arith, ints))
        | inr b ↦ added (signed 18 h) (signed 12 l) (pos h) (pos l -ℤ pos 4096) a.1 b.1
            ∙ (let k = b.0 in let j = a.0 in omega (arith, ints))
      ]
      | inr a ↦ elim (signed_cases 12 l) [
        | inl b ↦ added (signed 18 h) (signed 12 l) (pos h -ℤ pos (2 ^ 18)) (pos l) a.1 b.1
            ∙ (let k = b.0 in let j = a.0 in omega (arith, ints))
        | inr b ↦ added (signed 18 h) (signed 12 l) (pos h -ℤ pos (2 ^ 18))
            (pos l -ℤ pos 4096) a.1 b.1 ∙ (let k = b.0 in let j = a.0 in omega (arith, ints))
      ]
    ]

-- what stands in the low part of a pair
i_laid : (f : ℕ) (neg : Bool) (before after : ℕ) → f < 2 ^ 64
    → Written (riscv_form IType) f neg before after
    → place_sum (riscv_places IType) after ≡ f % 4096
i_laid f neg before after wide laid =
    let sum = layout_laid (riscv_layout IType) refl f neg before after wide laid
    (always_clear (riscv_places IType) before refl) in
    sum ∙ omega arith

s_laid : (f : ℕ) (neg : Bool) (before after : ℕ) → f < 2 ^ 64
    → Written (riscv_form SType) f neg before after
    → place_sum (riscv_places SType) after ≡ f % 4096
s_laid f neg before after wide laid =
    let sum = layout_laid (riscv_layout SType) refl f neg before after wide laid
    (always_clear (riscv_places SType) before refl) in
    sum ∙ omega arith

riscv_holds : (f : RiscVInstruction) (bits : BitRange) (own : Bounds) (v : ℤ) (neg : Bool) (before after : ℕ) → FitsSigned w64 v → bits.end ≤ 64
    → IsWithin (riscv_reach f own) v → Written (riscv_form f) (bits_taken bits v) neg before after → bits.start ≡ 0 → 32 ≤ bits.end → RiscVHolds f bits v after
riscv_holds IType bits own v neg before after small inside within laid start long =
    completes IType bits v (place_sum (riscv_places IType) after) after refl
    (i_laid (bits_taken bits v) neg before after (taken_below bits v inside) laid)
    (taken_low 32 bits v small start long inside (omega arith)) within
riscv_holds SType bits own v neg before after small inside within laid start long =
    completes SType bits v (place_sum (riscv_places SType) after) after refl
    (s_laid (bits_taken bits v) neg before after (taken_below bits v inside) laid)
    (taken_low 32 bits v small start long inside (omega arith)) within
riscv_holds UType bits own v neg before after small inside within laid start long =
    let f = bits_taken bits v in
    let wide = taken_below bits v inside in
    let high = u_laid f before after laid in
    let same = taken_low 32 bits v small start long inside (omega arith) in (
      (λ n x y low. halves_make f (place_sum (riscv_places UType) after)
          (place_sum (riscv_places IType) y) high (i_laid f n x y wide low) v same within),
      (λ n x y low. halves_make f (place_sum (riscv_places UType) after)
          (place_sum (riscv_places SType) y) high (s_laid f n x y wide low) v same within),
    )
riscv_holds CluiType bits own v neg before after small inside within laid start long =
    let f = bits_taken bits v in
    let wide = taken_below bits v inside in
    let high = clui_laid f before after laid in
    let same = taken_low 32 bits v small start long inside (omega arith) in (
      (λ n x y low. clui_make f (place_sum (riscv_places CluiType) after)
          (place_sum (riscv_places IType) y) high (i_laid f n x y wide low) v same within),
      (λ n x y low. clui_make f (place_sum (riscv_places CluiType) after)
          (place_sum (riscv_places SType) y) high (s_laid f n x y wide low) v same within),
    )
riscv_holds UiType bits own v neg before after small inside within laid start long =
    let f = bits_taken bits v in
    let wide = taken_below bits v inside in
    halves_make f (place_sum ui_high after) (place_sum ui_low after) (ui_high_laid f before after wide laid) (ui_low_laid f before after wide laid) v
    (taken_low 32 bits v small start long inside (omega arith)) within
riscv_holds f bits own v neg before after small inside within laid start long = tt

-- bits 2 to 37 of a distance below -2 ^ 37 are those of one 2 ^ 38 above it
far_below : (n : ℕ) → 2 ^ 37 ≤ n → n < 2 ^ 37 + 2 ^ 17 → (2 ^ 64 - suc n) / 4 % 2 ^ 36 ≡ (2 ^ 38 - suc n) / 4 % 2 ^ 36
far_below n low high = omega arith

call36_holds : (f after : ℕ) (v : ℤ) → IsDistanceModulo f after → int_rem_euclid v (pos 4) ≡ pos 0 → f ≡ field (cast_unsigned w64 v) 2 38 → IsWithin (Some call36_bounds) v → reach after ≡ v
call36_holds f after (pos n) goes aligned is within =
    goes.near (pos n) (record { aligned = aligned; bits = is }) (omega (arith, ints)) (let u = within.1 in omega (arith, ints))
call36_holds f after (negsuc n) goes aligned is within =
    let reached : n < 2 ^ 37 + 2 ^ 17 = omega (arith, ints, within.0) in
    elim (cases_lt n (2 ^ 37)) [
      | inl near ↦ goes.near (negsuc n) (record { aligned = aligned; bits = is }) (omega (arith, ints)) (omega (arith, ints))
      | inr past ↦
          let d : ℤ = pos (2 ^ 38 - suc n) in
          let multiple : 3 - n % 4 ≡ 0 = ap unsigned_abs aligned in
          let even : int_rem_euclid d (pos 4) ≡ pos 0 = ap pos (let t : (2 ^ 38 - suc n) % 4 ≡ 0 = omega arith in t) in
          let same : f ≡ field (2 ^ 38 - suc n) 2 38 = is ∙ far_below n past reached in
          goes.far d (record { aligned = even; bits = same }) (omega (arith, ints)) (omega (arith, ints)) ∙ (omega (arith, ints))
    ]

loongarch_holds : (f : LoongArch64Instruction) (bits : BitRange) (own : Bounds) (v : ℤ) (neg : Bool) (before after : ℕ) → bits.end ≤ 64
    → IsWithin (loongarch_reach f own) v → Written (loongarch_form f) (bits_taken bits v) neg before after → bits.start ≡ 2 → bits.end ≡ 38 → IsAligned 4 v → LoongArchHolds f v after
loongarch_holds Call36 bits own v neg before after inside within laid start end aligned =
    let f = bits_taken bits v in
    let is : f ≡ field (cast_unsigned w64 v) 2 38 = ap (λ s. field (cast_unsigned w64 v) s bits.end) start ∙ ap (λ e. field (cast_unsigned w64 v) 2 e) end in
    call36_holds f after v (loongarch_reaches Call36 f neg before after (taken_below bits v inside) laid) aligned is within
loongarch_holds f bits own v neg before after inside within laid start end aligned = tt

-- ---- PowerPC64

-- a high half that was rounded, and the low half in two's complement
pub rounded_halves : (v : ℤ) (l : ℕ) → l < 65536
    → int_rem_euclid v (pos (2 ^ 16)) ≡ pos ((l + 0x8000) % 65536)
    → (bits_from 16 v *ℤ pos (2 ^ 16)) +ℤ signed 16 l ≡ v +ℤ negsuc 0x7fff
rounded_halves (pos b) l small h =
    let rest : b % 65536 ≡ (l + 0x8000) % 65536 = ap unsigned_abs h in
    elim (signed_cases 16 l) [
      | inl a ↦ let low = a.0 in ap (λ z. (bits_from 16 (pos b) *ℤ pos (2 ^ 16)) +ℤ z) a.1
          ∙ omega (arith, ints)
      | inr a ↦ let high = a.0 in ap (λ z. (bits_from 16 (pos b) *ℤ pos (2 ^ 16)) +ℤ z) a.1
          ∙ omega (arith, ints)
    ]
rounded_halves (negsuc b) l small h =
    let rest : 65536 - 1 - b % 65536 ≡ (l + 0x8000) % 65536 = ap unsigned_abs h in
    elim (signed_cases 16 l) [
      | inl a ↦ let low = a.0 in ap (λ z. (bits_from 16 (negsuc b) *ℤ pos (2 ^ 16)) +ℤ z) a.1
          ∙ omega (arith, ints)
      | inr a ↦ let high = a.0 in ap (λ z. (bits_from 16 (negsuc b) *ℤ pos (2 ^ 16)) +ℤ z) a.1
          ∙ omega (arith, ints)
    ]

fits_64 : (w : ℤ) → IsWithin (Some (bit_bounds 32 Signed)) w → FitsSigned w64 w
fits_64 (pos n) within = record { sfits = (let high = within.1 in omega (arith, ints)) }
fits_64 (negsuc n) within = record { sfits = (let low = within.0 in omega (arith, ints)) }

adjusted_rest : (v : ℤ) (l : ℕ) → int_rem_euclid v (pos (2 ^ 16)) ≡ pos l
    → int_rem_euclid (v +ℤ pos 0x8000) (pos (2 ^ 16)) ≡ pos ((l + 0x8000) % 65536)
adjusted_rest (pos n) l e = let low : n % 65536 ≡ l = ap unsigned_abs e in
    ap pos (let same : (n + 0x8000) % 65536 ≡ (l + 0x8000) % 65536 = omega arith in same)
adjusted_rest (negsuc n) l e =
    let low : 65536 - 1 - n % 65536 ≡ l = ap unsigned_abs e in
    let k = n / 65536 + 1 in
    int_rem_euclid_is (negsuc n +ℤ pos 0x8000) (pos (2 ^ 16)) (2 ^ 16) k
    (k * 65536 - suc n + 0x8000) (omega arith) refl (omega (arith, ints)) ∙ ap pos (omega arith)

taken_back : (v : ℤ) → (v +ℤ pos 0x8000) +ℤ negsuc 0x7fff ≡ v
taken_back v = omega (arith, ints)

d_laid : (f : ℕ) (neg : Bool) (before after : ℕ) → f < 2 ^ 64
    → Written (ppc64_form D) f neg before after
    → place_sum ((ppc64_form D).places 0) after ≡ f % 65536
d_laid f neg before after wide laid =
    let sum = layout_laid (ppc64_layout D) refl f neg before after wide laid
    (always_clear ((ppc64_form D).places 0) before refl) in
    sum ∙ omega arith

completes_adjusted : (v : ℤ) (l : ℕ) → l < 65536 → int_rem_euclid v (pos (2 ^ 16)) ≡ pos l
    → (neg : Bool) (before high : ℕ) → IsWithin (Some (bit_bounds 32 Signed)) (v +ℤ pos 0x8000)
    → Written (ppc64_form D) (bits_taken (record { start = 16; end = 32 }) (v +ℤ pos 0x8000)) neg
    before high
    → ((ppc64_form D).machine high *ℤ pos (2 ^ 16)) +ℤ signed 16 l ≡ v
completes_adjusted v l small low neg before high within laid =
    let w = v +ℤ pos 0x8000 in
    let bits : BitRange = record { start = 16; end = 32 } in
    let g = bits_taken bits w in
    let sum = d_laid g neg before high (taken_below bits w (omega arith)) laid in
    let reads : signed 16 (g % 65536) ≡ bits_from 16 w =
    number_agrees twos_complement 16 16 16 (Some (bit_bounds 32 Signed)) refl w g within
    (taken_is_field bits w (fits_64 w within) (omega arith) (omega arith)) in
    ap (λ x. (signed 16 x *ℤ pos (2 ^ 16)) +ℤ signed 16 l) sum
    ∙ ap (λ z. (z *ℤ pos (2 ^ 16)) +ℤ signed 16 l) reads
    ∙ rounded_halves w l small (adjusted_rest v l low) ∙ taken_back v

ds_holds : (bits : BitRange) (v : ℤ) (neg : Bool) (before after : ℕ) → FitsSigned w64 v
    → bits.end ≤ 64 → Written (ppc64_form Ds) (bits_taken bits v) neg before after
    → bits.start ≡ 0 → 16 ≤ bits.end → IsAligned 4 v → (neg : Bool) (x high : ℕ)
    → IsWithin (Some (bit_bounds 32 Signed)) (v +ℤ pos 0x8000)
    → Written (ppc64_form D) (bits_taken (record { start = 16; end = 32 }) (v +ℤ pos 0x8000)) neg
    x high
    → ((ppc64_form D).machine high *ℤ pos (2 ^ 16)) +ℤ (ppc64_form Ds).machine after ≡ v
ds_holds bits v neg before after small inside laid start long aligned n x high within high_laid =
    let f = bits_taken bits v in
    let wide = taken_below bits v inside in
    let low = layout_laid (ppc64_layout Ds) refl f neg before after wide laid
    (always_clear ((ppc64_form Ds).places 0) before refl) in
    let none : f % 2 ^ 2 ≡ 0 =
    ap unsigned_abs (taken_low 2 bits v small start (omega arith) inside (omega arith) ∙ aligned) in
    let sum : place_sum ((ppc64_form Ds).places 0) after ≡ f % 65536 = low ∙ omega arith in
    ap (λ y. ((ppc64_form D).machine high *ℤ pos (2 ^ 16)) +ℤ signed 16 y) sum
    ∙ completes_adjusted v (f % 65536) (omega arith)
    (sym (taken_low 16 bits v small start long inside (omega arith))) n x high within high_laid

ppc64_holds : (f : Ppc64Form) (bits : BitRange) (v : ℤ) (before after : List ℕ)
    → FitsSigned w64 v → bits.end ≤ 64 → IsInUnits (BitMasking bits (Ppc64 f)) v before
    → InstructionWritten (Ppc64 f) bits v before after → bits.start ≡ 0 → 16 ≤ bits.end
    → Ppc64Holds f v (window_of (ppc64_form f) after)
ppc64_holds D bits v before after small inside units w start long =
    λ n x high within high_laid.
    let f = bits_taken bits v in
    let sum = d_laid f (int_lt v (pos 0)) w.clear (window_of (ppc64_form D) after)
    (taken_below bits v inside) w.written in
    ap (λ y. ((ppc64_form D).machine high *ℤ pos (2 ^ 16)) +ℤ signed 16 y) sum
    ∙ completes_adjusted v (f % 65536) (omega arith)
    (sym (taken_low 16 bits v small start long inside (omega arith))) n x high within high_laid
ppc64_holds Ds bits v before after small inside units w start long =
    λ aligned n x high within high_laid.
    let r = reads_as (bits_taken bits v) (window_of (ppc64_form Ds) before) w.clear
    (window_of (ppc64_form Ds) after) (int_lt v (pos 0)) (taken_below bits v inside)
    (λ is. taken_in_units bits v small start inside (omega arith) (units is)) w.clears w.written in
    ap (λ z. ((ppc64_form D).machine high *ℤ pos (2 ^ 16)) +ℤ z) r.reads
    ∙ ds_holds bits v (int_lt v (pos 0)) r.old r.window small inside r.written start long aligned n x
    high within high_laid
ppc64_holds f bits v before after small inside units w start long = tt

instruction_holds : (insn : AnyForm) (kind : RelocationKind) (bits : BitRange)
    (own : Bounds) (v : ℤ) (before after : List ℕ) → FitsSigned w64 v → bits.end ≤ 64
    → IsWithin (reach_of_size kind (BitMasking bits insn) own) v
    → IsInUnits (BitMasking bits insn) v before → IsWritten (BitMasking bits insn) kind v before after
    → InstructionHolds insn bits v (window_of (relocation_form insn) after)
instruction_holds (AArch64 f) kind bits own v before after small inside within units w = tt
instruction_holds (RiscV f) kind bits own v before after small inside within units w =
    riscv_holds f bits own v (int_lt v (pos 0)) w.clear (window_of (riscv_form f) after) small inside within w.written
instruction_holds (Ppc64 f) kind bits own v before after small inside within units w =
    ppc64_holds f bits v before after small inside units w
instruction_holds (LoongArch64 Call36) kind bits own v before after small inside within units w =
    loongarch_holds Call36 bits own v (int_lt v (pos 0)) w.clear (window_of (loongarch_form Call36) after) inside within w.written
instruction_holds (LoongArch64 f) kind bits own v before after small inside within units w =
    λ start end aligned. tt

size_holds : (size : RowSize) (kind : RelocationKind) (own : Bounds) (v : ℤ)
    (before after : List ℕ) → FitsSigned w64 v → takes_size kind size ≡ true
    → IsWithin (reach_of_size kind size own) v → IsInUnits size v before
    → IsWritten size kind v before after → SizeHolds size v after
size_holds (ByteSize n) kind own v before after small takes within units w = tt
size_holds (BitMasking bits insn) kind own v before after small takes within units w =
    let t = taken_bits_inside kind bits insn takes in
    instruction_holds insn kind bits own v before after small t.1 within units w

pub row_holds : (row : RowInfo) (v : ℤ) (before after : List ℕ) → FitsSigned w64 v
    → IsAccepted row v before → IsWritten row.size row.kind v before after → SizeHolds row.size v after
row_holds row v before after small accepted w =
    size_holds row.size row.kind row.range.bounds v before after small
    (supported_size row accepted.supported) accepted.reached.0 accepted.aligned.1 w
