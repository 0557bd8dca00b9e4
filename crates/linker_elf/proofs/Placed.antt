-- The numbers placed in instructions of DQ-form, and moves of 32 bits.
use Rattle.linker_elf.proofs.Imports.{AArch64, AArch64Instruction, AnyForm, BitRange, BitsWritten, Bool, Ds, ImmediateBit, List, Movnz, Ppc64, Written, [], aarch64_form, always_clear, ap, arith, bit_at, bit_at_mod, bit_for, bits_taken, bits_to, consecutive_bits_all, consecutive_bits_sum, false, field, if◌then◌else◌, inl, inr, int_lt, is_32_bit_move, is_dq_form, layout_laid, move_opcode, movnz, number_placed, place_sum, placed_bit, pos, ppc64_form, ppc64_layout, ppc64_reads, refl, relocation_form, replaced, same_fields, subst, sym, true, with_low_4, ℕ, ℤ, ◌%◌, ◌&&◌, ◌*◌, ◌+◌, ◌-◌, ◌/◌, ◌<◌, ◌==◌, ◌^◌, ◌||◌, ◌∙◌, ◌≡◌, ◌≤◌}
use Rattle.linker_elf.proofs.Clearing.{same_window}
use Rattle.linker_elf.proofs.Steps.{consecutive_bits_outside}

-- ---- DQ-form

-- the bits that DS-form holds
abbrev ds_places : List ImmediateBit
ds_places = bits_to 2 15 2

-- What the machine reads of a word is what it reads of another, in which DS-form holds f.
pub record ReadsAs (f : ℕ) (neg : Bool) (after : ℕ) : Type 0 where
  pub old : ℕ
  pub window : ℕ
  pub written : Written (ppc64_form Ds) f neg old window
  pub reads : ppc64_reads Ds after ≡ (ppc64_form Ds).machine window

-- a write keeps the opcode and the lowest two bits
same_dq_form : (f : ℕ) (neg : Bool) (before after : ℕ) → Written (ppc64_form Ds) f neg before after
    → is_dq_form after ≡ is_dq_form before
same_dq_form f neg before after laid =
    let high : field after 26 32 ≡ field before 26 32 =
    same_fields after before 26 32 (λ w from below.
    laid.kept w (consecutive_bits_outside 14 2 2 0 replaced w (inr (omega arith)))) in
    let low : field after 0 2 ≡ field before 0 2 =
    same_fields after before 0 2 (λ w from below.
    laid.kept w (consecutive_bits_outside 14 2 2 0 replaced w (inl (omega arith)))) in
    ap (λ o. o == 56 || (o == 6 || (o == 61 && field after 0 2 == 1))) high
    ∙ ap (λ q. field before 26 32 == 56
    || (field before 26 32 == 6 || (field before 26 32 == 61 && q == 1))) low

-- a word that has the low 16 bits of f has those of DS-form
holds_already : (f x : ℕ) (neg : Bool) → f < 2 ^ 64 → x % 2 ^ 16 ≡ f % 2 ^ 16
    → Written (ppc64_form Ds) f neg x x
holds_already f x neg small same =
    let whole : (f + 0) % 2 ^ 64 ≡ f = omega arith in
    record {
      placed = consecutive_bits_all (λ (p : ImmediateBit). bit_at x p.insn_bit
          ≡ placed_bit p.mark (bit_for p f) (bit_at x p.insn_bit)) 14 2 2 0 replaced
          (λ j l. sym (bit_at_mod x 16 (2 + j) (omega arith)) ∙ ap (λ n. bit_at n (2 + j)) same
          ∙ bit_at_mod f 16 (2 + j) (omega arith) ∙ ap (λ n. bit_at n (2 + j)) (sym whole));
      kept = λ w free. refl;
    }

-- the displacement of a word of DQ-form, without the four bits that were kept
low_16 : (f x after : ℕ) → f < 2 ^ 64 → f % 16 ≡ 0
    → after / 4 % 16384 * 4 ≡ (with_low_4 f x - with_low_4 f x % 4) % 65536
    → (after - after % 16) % 65536 ≡ f % 65536
low_16 f x after small none is = omega arith

ds_sum : (x : ℕ) → place_sum ds_places x ≡ x / 4 % 16384 * 4
ds_sum x = consecutive_bits_sum replaced 14 2 2 0 x refl

either_reads : (b : Bool) (f x after : ℕ) (neg : Bool) → f < 2 ^ 64 → (b ≡ true → f % 16 ≡ 0)
    → is_dq_form after ≡ b
    → Written (ppc64_form Ds) (if b then with_low_4 f x else f) neg x after → ReadsAs f neg after
either_reads false f x after neg small none is laid =
    record {
      old = x;
      window = after;
      written = laid;
      reads = ap (λ b. if b then (ppc64_form Ds).machine (after - after % 16)
          else (ppc64_form Ds).machine after) is;
    }
either_reads true f x after neg small none is laid =
    let y = after - after % 16 in
    let wide : with_low_4 f x < 2 ^ 64 = omega arith in
    let sum = sym (ds_sum after)
    ∙ layout_laid (ppc64_layout Ds) refl (with_low_4 f x) neg x after wide laid
    (always_clear ds_places x refl) in
    record {
      old = y;
      window = y;
      written = holds_already f y neg small (low_16 f x after small (none refl) sum);
      reads = ap (λ b. if b then (ppc64_form Ds).machine y else (ppc64_form Ds).machine after) is;
    }

pub reads_as : (f x clear after : ℕ) (neg : Bool) → f < 2 ^ 64
    → (is_dq_form x ≡ true → f % 16 ≡ 0) → BitsWritten [] 0 x clear
    → Written (ppc64_form Ds) (number_placed (Ppc64 Ds) x f) neg clear after → ReadsAs f neg after
reads_as f x clear after neg small none clears laid =
    let whole : Written (ppc64_form Ds) (number_placed (Ppc64 Ds) x f) neg x after =
    subst (λ c. Written (ppc64_form Ds) (number_placed (Ppc64 Ds) x f) neg c after)
    (same_window 0 x clear clears) laid in
    either_reads (is_dq_form x) f x after neg small none
    (same_dq_form (number_placed (Ppc64 Ds) x f) neg x after whole) whole

-- ---- moves of 32 bits

-- a move that was written is one of 64 bits
wide_move : (v : ℕ) (neg : Bool) (before after : ℕ) → Written movnz v neg before after
    → 2 ^ 31 ≤ after
wide_move v true before after laid =
    let set : bit_at after 31 ≡ bit_at (move_opcode true * 2 ^ 23 + before % 2 ^ 23) 31 =
    laid.kept 31 refl in
    omega arith
wide_move v false before after laid =
    let set : bit_at after 31 ≡ bit_at (move_opcode false * 2 ^ 23 + before % 2 ^ 23) 31 =
    laid.kept 31 refl in
    omega arith

pub bit_31_is_set : (f : AArch64Instruction) (number : ℕ) (neg : Bool) (x clear after : ℕ)
    → is_32_bit_move (AArch64 f) x ≡ true → Written (aarch64_form f) number neg clear after
    → 2 ^ 31 ≤ after
bit_31_is_set Movnz number neg x clear after h laid = wide_move number neg clear after laid
bit_31_is_set f number neg x clear after h laid = cc

-- ---- the value

-- the code has a value from its bits
pub of_value : (insn : AnyForm) (bits : BitRange) (v z : ℤ) (n x clear after : ℕ)
    → n ≡ bits_taken bits z → z ≡ v
    → Written (relocation_form insn) (number_placed insn x n) (int_lt z (pos 0)) clear after
    → Written (relocation_form insn) (number_placed insn x (bits_taken bits v)) (int_lt v (pos 0))
    clear after
of_value insn bits v z n x clear after is e laid =
    subst (λ y. Written (relocation_form insn) (number_placed insn x (bits_taken bits y))
    (int_lt y (pos 0)) clear after) e
    (subst (λ m. Written (relocation_form insn) (number_placed insn x m) (int_lt z (pos 0)) clear
    after) is laid)
