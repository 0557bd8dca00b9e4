-- Words of LoongArch to which a relocation was applied, and which instructions they are.
use Rattle.linker_laws.proofs.Imports.{All-nil, BitsWritten, ImmediateBit, InstructionWritten, List, LoongArch64, Shift10, Shift5, [], and_parts, arith, bit_at, bit_for, bits_taken, eqb-true, field, from_le_bytes, high_kept, if◌then◌else◌, inl, inr, leb-true, ltb, max, nat_le, nat_tests, or_cases, ored, ored_cleared, placed_bit, refl, same_window, shift10_field, shift10_places, shift5_places, subst, true, w32, ℕ, ℤ, ◌%◌, ◌&&◌, ◌+◌, ◌-◌, ◌/◌, ◌<◌, ◌==◌, ◌^◌, ◌||◌, ◌∙◌, ◌≡◌, ◌≤◌, ◌⊎◌}
use Rattle.linker_utils.specs.LoongArchRewrites.{adds_low12, rj_of, rd_of}
use Rattle.linker_laws.specs.LoongArchMachine.{decode, pcalau_12, pcadd_2, lu12i_w, sums, action_of, adds, loads, ori}
use Rattle.linker_laws.proofs.AArch64Words.{field_kept, top_kept}

-- ---- which instruction a word is

pub decodes_page : (x : ℕ) → x / 2 ^ 25 ≡ 0x0d → decode x ≡ pcalau_12
decodes_page x op = grind (arith, nat_tests)

pub decodes_near : (x : ℕ) → x / 2 ^ 25 ≡ 0x0c → decode x ≡ pcadd_2
decodes_near x op = grind (arith, nat_tests)

pub decodes_high : (x : ℕ) → x / 2 ^ 25 ≡ 0x0a → decode x ≡ lu12i_w
decodes_high x op = grind (arith, nat_tests)

-- ---- those that add a low half

-- by their upper 10 bits
pub record IsLow12 (op : ℕ) : Type 0 where
  pub is : (op < 12) ⊎ (0x0a0 ≤ op)
  pub below : op < 0x0b4

pub low12_is : (op : ℕ) → adds_low12 op ≡ true → IsLow12 op
low12_is op is =
    elim (or_cases (op == 0x00a || op == 0x00b) (nat_le 0x0a0 op && nat_le op 0x0b3) is) [
      | inl sum ↦ elim (or_cases (op == 0x00a) (op == 0x00b) sum) [
        | inl a ↦ let e = eqb-true op 0x00a a in record { is = inl (omega arith); below = omega arith }
        | inr b ↦ let e = eqb-true op 0x00b b in record { is = inl (omega arith); below = omega arith }
      ]
      | inr between ↦
          let p = and_parts (nat_le 0x0a0 op) (nat_le op 0x0b3) between in
          let from = leb-true 0x0a0 op p.0 in
          let to = leb-true op 0x0b3 p.1 in
          record { is = inr from; below = omega arith }
    ]

pub decodes_action : (x op : ℕ) → x / 2 ^ 22 ≡ op → adds_low12 op ≡ true → decode x ≡ sums (action_of op)
decodes_action x op is low = grind (arith, nat_tests)

pub decodes_sum : (x : ℕ) → x / 2 ^ 22 ≡ 0x00b → decode x ≡ sums adds
decodes_sum x op = decodes_action x 0x00b op refl

pub decodes_load : (x : ℕ) → x / 2 ^ 22 ≡ 0x0a3 → decode x ≡ sums (loads 8)
decodes_load x op = decodes_action x 0x0a3 op refl

pub decodes_or : (x : ℕ) → x / 2 ^ 22 ≡ 0x00e → decode x ≡ ori
decodes_or x op = grind (arith, nat_tests)

-- ---- words after a relocation

-- 20 bits from bit 5 up: the register and the opcode stay
pub record IsHigh (op rd : ℕ) (word : ℕ) : Type 0 where
  pub opcode : word / 2 ^ 25 ≡ op
  pub rd_is : rd_of word ≡ rd

-- of a range of 20 bits
pub high_after : (start : ℕ) (op rd : ℕ) (v : ℤ) (before after : List ℕ)
    → InstructionWritten (LoongArch64 Shift5) (record { start = start; end = start + 20 }) v before after
    → from_le_bytes w32 before / 2 ^ 25 ≡ op → rd_of (from_le_bytes w32 before) ≡ rd → IsHigh op rd (from_le_bytes w32 after)
high_after start op rd v before after w is same =
    let wide : start + 20 - start ≡ 20 = omega arith in
    let clears : BitsWritten (ored_cleared shift5_places) 0 (from_le_bytes w32 before) w.clear =
    subst (λ n. BitsWritten (if ltb 12 n then ored_cleared shift5_places else []) 0 (from_le_bytes w32 before) w.clear) wide w.clears in
    record {
      opcode = top_kept (ored_cleared shift5_places) shift5_places _ _ _ _ _ clears w.written 25 refl refl ∙ is;
      rd_is = field_kept (ored_cleared shift5_places) shift5_places _ _ _ _ _ clears w.written 0 5 refl refl ∙ same;
    }

-- 12 bits from bit 10 up, of a form that ORs four more, which are 0
pub record IsLow (op rd rj : ℕ) (word : ℕ) : Type 0 where
  pub opcode : word / 2 ^ 22 ≡ op
  pub rd_is : rd_of word ≡ rd
  pub rj_is : rj_of word ≡ rj

ored_with_0 : (old new : ℕ) → new ≡ 0 → max old new ≡ old
ored_with_0 old new e = rw e (omega arith)

same_opcode : (x y : ℕ) → bit_at x 22 ≡ bit_at y 22 → bit_at x 23 ≡ bit_at y 23 → bit_at x 24 ≡ bit_at y 24
    → bit_at x 25 ≡ bit_at y 25 → x / 2 ^ 26 ≡ y / 2 ^ 26 → x / 2 ^ 22 ≡ y / 2 ^ 22
same_opcode x y a b c d e = omega arith

low_kept : (v before after : ℕ) → v < 2 ^ 12 → BitsWritten shift10_places v before after → after / 2 ^ 22 ≡ before / 2 ^ 22
low_kept v before after small laid =
    let any : ImmediateBit = record { value = 0; insn_bit = 0; added = 0; mark = ored } in
    same_opcode after before
    (laid.placed 12 any (omega arith) ∙ ored_with_0 _ _ (let z : bit_at ((v + 0) % 2 ^ 64) 12 ≡ 0 = omega arith in z))
    (laid.placed 13 any (omega arith) ∙ ored_with_0 _ _ (let z : bit_at ((v + 0) % 2 ^ 64) 13 ≡ 0 = omega arith in z))
    (laid.placed 14 any (omega arith) ∙ ored_with_0 _ _ (let z : bit_at ((v + 0) % 2 ^ 64) 14 ≡ 0 = omega arith in z))
    (laid.placed 15 any (omega arith) ∙ ored_with_0 _ _ (let z : bit_at ((v + 0) % 2 ^ 64) 15 ≡ 0 = omega arith in z))
    (high_kept shift10_places v before after laid 26 refl)

pub low_after : (op rd rj : ℕ) (v : ℤ) (before after : List ℕ)
    → InstructionWritten (LoongArch64 Shift10) (record { start = 0; end = 12 }) v before after
    → from_le_bytes w32 before / 2 ^ 22 ≡ op → rd_of (from_le_bytes w32 before) ≡ rd → rj_of (from_le_bytes w32 before) ≡ rj
    → IsLow op rd rj (from_le_bytes w32 after)
low_after op rd rj v before after w is same same2 =
    let x = from_le_bytes w32 before in
    let clear : w.clear ≡ x = same_window 0 x w.clear w.clears in
    let written : BitsWritten shift10_places (bits_taken (record { start = 0; end = 12 }) v) x (from_le_bytes w32 after) =
    subst (λ c. BitsWritten shift10_places (bits_taken (record { start = 0; end = 12 }) v) c (from_le_bytes w32 after)) clear w.written in
    let kept = field_kept [] shift10_places 0 _ x x (from_le_bytes w32 after) (none x) written in
    record {
      opcode = low_kept _ x _ (omega arith) written ∙ is;
      rd_is = kept 0 5 refl refl ∙ same;
      rj_is = kept 5 10 refl refl ∙ same2;
    }
  where
    none : (x : ℕ) → BitsWritten [] 0 x x
    none x = record { placed = All-nil (λ (p : ImmediateBit). bit_at x p.insn_bit ≡ placed_bit p.mark (bit_for p 0) (bit_at x p.insn_bit)); kept = λ w h. refl }

-- what stands in the 12 bits
pub low_is : (v : ℤ) (before after : List ℕ)
    → InstructionWritten (LoongArch64 Shift10) (record { start = 0; end = 12 }) v before after
    → field (from_le_bytes w32 after) 10 22 ≡ bits_taken (record { start = 0; end = 12 }) v
low_is v before after w = shift10_field _ w.clear (from_le_bytes w32 after) (omega arith) w.written
