-- Which instructions those of a TLS descriptor and of a load from the GOT are.
use Rattle.linker_laws.proofs.Imports.{IType, IsApplied, List, Operands, RelocationKind, Some, UType, action_of, adds, agree_below, ap, arith, auipc, cast_negative, cast_signed, cast_unsigned, consecutive_bits_sum, false, field, from_le_bytes, inl, inr, ints, is_placed, jumps, length, loads, lui, of_word, of_z-to_z, pair_row, pos, refl, replaced, rewritten, riscv_form, riscv_places, rs1_of, signed, signed_cases, sums, sym, to_z_pos, true, w32, w64, ℕ, ◌%◌, ◌*◌, ◌+◌, ◌-◌, ◌/◌, ◌<◌, ◌^◌, ◌∙◌, ◌≡◌, ◌≢◌}
use Rattle.linker_riscv64.specs.RiscVFields.{funct3_of, opcode_of, rd_of}
use Rattle.linker_utils.specs.RiscVRewrites.{rewrites_word}
use Rattle.linker_laws.specs.Machine.{extended}
use Rattle.linker_laws.proofs.RiscVLowParts.{is_action, word_there}
use Rattle.linker_laws.proofs.RiscVMachine.{is_long, is_lui, is_auipc, is_jalr, written}
use Rattle.linker_laws.proofs.Words.{kept_field}

-- ---- registers

-- a load of 64 bits
pub whole_number : (v : ℕ) → v < 2 ^ 64 → extended 64 v ≡ v
whole_number v small =
    let same : signed 64 v ≡ cast_signed w64 v = elim (signed_cases 64 v) [
      | inl a ↦ a.1 ∙ sym (to_z_pos w64 v a.0)
      | inr a ↦ a.1 ∙ (let high = a.0 in omega (arith, ints)) ∙ sym (cast_negative v small a.0)
    ] in
    ap (cast_unsigned w64) same ∙ of_z-to_z w64 v small

pub ten : ◌≢◌ {A = ℕ} 10 0
ten e = absurd (omega (arith, e))

-- ---- words after a relocation

module _ (kind : RelocationKind) (x : Operands) (before code : List ℕ) (applied : IsApplied (pair_row kind 32 UType) x before code) where
  u_kept : (s n : ℕ) → agree_below (λ i. is_placed (riscv_places UType) (s + i)) (λ _. false) n ≡ true
      → field (from_le_bytes w32 code) s (s + n) ≡ field (from_le_bytes w32 before) s (s + n)
  u_kept s n check = kept_field UType (record { start = 0; end = 32 }) applied.value before code applied.written (λ b w. refl) s n check

  pub upper_word : (rd : ℕ) → opcode_of (from_le_bytes w32 before) ≡ 0x17 → rd_of (from_le_bytes w32 before) ≡ rd
      → of_word (from_le_bytes w32 code) ≡ Some (auipc rd ((riscv_form UType).machine (from_le_bytes w32 code)))
  upper_word rd op at =
      is_auipc (from_le_bytes w32 code) (u_kept 0 7 refl ∙ op)
      ∙ ap (λ r. Some (auipc r ((riscv_form UType).machine (from_le_bytes w32 code)))) (u_kept 7 5 refl ∙ at)

  pub lui_word : (rd : ℕ) → opcode_of (from_le_bytes w32 before) ≡ 0x37 → rd_of (from_le_bytes w32 before) ≡ rd
      → of_word (from_le_bytes w32 code) ≡ Some (lui rd ((riscv_form UType).machine (from_le_bytes w32 code)))
  lui_word rd op at =
      is_lui (from_le_bytes w32 code) (u_kept 0 7 refl ∙ op)
      ∙ ap (λ r. Some (lui r ((riscv_form UType).machine (from_le_bytes w32 code)))) (u_kept 7 5 refl ∙ at)

  pub upper_long : (op : ℕ) → op % 4 ≡ 3 → opcode_of (from_le_bytes w32 before) ≡ op → field (from_le_bytes w32 code) 0 2 ≡ 3
  upper_long op long is = is_long (from_le_bytes w32 code) op (u_kept 0 7 refl ∙ is) long

module _ (kind : RelocationKind) (x : Operands) (before code : List ℕ) (applied : IsApplied (pair_row kind 32 IType) x before code) where
  l_kept : (s n : ℕ) → agree_below (λ i. is_placed (riscv_places IType) (s + i)) (λ _. false) n ≡ true
      → field (from_le_bytes w32 code) s (s + n) ≡ field (from_le_bytes w32 before) s (s + n)
  l_kept s n check = kept_field IType (record { start = 0; end = 32 }) applied.value before code applied.written (λ b w. refl) s n check

  pub low_long : (op : ℕ) → op % 4 ≡ 3 → opcode_of (from_le_bytes w32 before) ≡ op → field (from_le_bytes w32 code) 0 2 ≡ 3
  low_long op long is = is_long (from_le_bytes w32 code) op (l_kept 0 7 refl ∙ is) long

  pub sum_word : (rd rs1 : ℕ) → opcode_of (from_le_bytes w32 before) ≡ 0x13 → funct3_of (from_le_bytes w32 before) ≡ 0
      → rd_of (from_le_bytes w32 before) ≡ rd → rs1_of (from_le_bytes w32 before) ≡ rs1
      → of_word (from_le_bytes w32 code) ≡ Some (sums adds rd rs1 0 ((riscv_form IType).machine (from_le_bytes w32 code)))
  sum_word rd rs1 op f at from =
      let w = from_le_bytes w32 code in
      is_action w adds (ap (λ n. action_of n (funct3_of w)) (l_kept 0 7 refl ∙ op) ∙ ap (action_of 0x13) (l_kept 12 3 refl ∙ f))
      ∙ ap (λ r. Some (sums adds r (rs1_of w) 0 ((riscv_form IType).machine w))) (l_kept 7 5 refl ∙ at)
      ∙ ap (λ r. Some (sums adds rd r 0 ((riscv_form IType).machine w))) (l_kept 15 5 refl ∙ from)

  pub load_word : (rd rs1 : ℕ) → opcode_of (from_le_bytes w32 before) ≡ 0x03 → funct3_of (from_le_bytes w32 before) ≡ 3
      → rd_of (from_le_bytes w32 before) ≡ rd → rs1_of (from_le_bytes w32 before) ≡ rs1
      → of_word (from_le_bytes w32 code) ≡ Some (sums (loads 3) rd rs1 0 ((riscv_form IType).machine (from_le_bytes w32 code)))
  load_word rd rs1 op f at from =
      let w = from_le_bytes w32 code in
      is_action w (loads 3) (ap (λ n. action_of n (funct3_of w)) (l_kept 0 7 refl ∙ op) ∙ ap (action_of 0x03) (l_kept 12 3 refl ∙ f))
      ∙ ap (λ r. Some (sums (loads 3) r (rs1_of w) 0 ((riscv_form IType).machine w))) (l_kept 7 5 refl ∙ at)
      ∙ ap (λ r. Some (sums (loads 3) rd r 0 ((riscv_form IType).machine w))) (l_kept 15 5 refl ∙ from)

-- `jalr t0, 0(rY)`
no_immediate : (w : ℕ) → field w 20 32 ≡ 0 → (riscv_form IType).machine w ≡ pos 0
no_immediate w e =
    ap (signed 12) (consecutive_bits_sum replaced 12 0 20 0 w refl ∙ (let z : w / 2 ^ 20 % 2 ^ 12 * 2 ^ 0 ≡ 0 = omega (arith, e) in z))

pub call_word : (w rs1 : ℕ) → opcode_of w ≡ 0x67 → funct3_of w ≡ 0 → rd_of w ≡ 5 → rs1_of w ≡ rs1 → field w 20 32 ≡ 0
    → of_word w ≡ Some (sums jumps 5 rs1 0 (pos 0))
call_word w rs1 op f at from none =
    is_jalr w op f
    ∙ ap (λ r. Some (sums jumps r (rs1_of w) 0 ((riscv_form IType).machine w))) at
    ∙ ap (λ r. Some (sums jumps 5 r 0 ((riscv_form IType).machine w))) from
    ∙ ap (λ z. Some (sums jumps 5 rs1 0 z)) (no_immediate w none)

pub made_word : (new : ℕ) (s : List ℕ) → length s ≡ 4 → new < 2 ^ 32 → from_le_bytes w32 (rewritten (Some (rewrites_word (λ _. new))) s 0) ≡ new
made_word new s e small = word_there s 0 (λ _. new) (omega (arith, e)) small
