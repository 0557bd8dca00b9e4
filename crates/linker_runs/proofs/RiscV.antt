-- What calls of RISC-V become.
use Rattle.linker_runs.proofs.Imports.{AreAddresses, BitRange, Bool, InstructionWritten, IsAddress, IsApplied, IsJal, IsShortJump, IsSomeAnd, List, Machine, None, OfJalr, Option, RiscV, RiscVBecomes, Some, Template, agree_below, and_parts, ap, arith, bits_taken, cases_Bool, drop, eqb-true, false, field, from_le_bytes, from_le_bytes-to_le_bytes_4, has_short_jump, if◌then◌else◌, inl, inr, int_lt, is_placed, length, link_register, operands_of, pos, refl, riscv_row, riscv_template, short_bytes, short_jump, subst, take, to_le_bytes, true, w16, w32, w64, whole, window_of, ℕ, ℤ, ◌%◌, ◌&&◌, ◌*ℤ◌, ◌*◌, ◌+ℤ◌, ◌+◌, ◌-◌, ◌<◌, ◌==◌, ◌^◌, ◌∙◌, ◌≡◌}
use Rattle.linker_elf.specs.RiscV.{riscv_form}
use Rattle.linker_elf.specs.declared.elf.AnyForm.TheVariants.{RiscV}
use Rattle.linker_elf.specs.declared.riscv64.forms.RiscVInstruction.{RiscVInstruction}
use Rattle.linker_elf.specs.declared.riscv64.forms.RiscVInstruction.TheVariants.{JType, CjType, UiType}
use Rattle.linker_laws.specs.RiscVRelocationLaws.{Jumps, Calls, without_bit_0}
use Rattle.linker_runs.specs.RiscVSites.{IsFarCall, jump, call}
use Rattle.linker_runs.proofs.Sites.{kept_field, operands_small, unit_sum}
use Rattle.linker_elf.specs.declared.riscv64.relocations.RiscVRelocation.TheVariants as r

-- what writing an immediate keeps: n bits from bit s up, of which none is placed
riscv_kept : (f : RiscVInstruction) (bits : BitRange) (v : ℤ) (before after : List ℕ) (w : InstructionWritten (RiscV f) bits v before after)
    (same : (b : Bool) (x : ℕ) → (riscv_form f).base b x ≡ x) (s n : ℕ)
    → agree_below (λ i. is_placed ((riscv_form f).places w.clear) (s + i)) (λ _. false) n ≡ true
    → field (window_of (riscv_form f) after) s (s + n) ≡ field (window_of (riscv_form f) before) s (s + n)
riscv_kept f bits v before after w same s n outside =
    kept_field (riscv_form f) (bits_taken bits v) (int_lt v (pos 0)) (window_of (riscv_form f) before) w.clear (window_of (riscv_form f) after)
    (λ i. w.clears.kept i refl) w.written (same (int_lt v (pos 0)) w.clear) s n outside

-- the template's relocation is applied
abbrev pub IsRelocated : ℕ → ℕ → List ℕ → Option Template → Type 0
IsRelocated place target written template =
    IsSomeAnd template (λ t. IsSomeAnd t.row (λ row. IsApplied row (operands_of place target) t.bytes written))

short_fields : (link : ℕ) → (field (window_of (riscv_form CjType) (short_bytes link)) 0 2 ≡ 1) × (field (window_of (riscv_form CjType) (short_bytes link)) 13 16 ≡ (if link == 0 then 5 else 1))
short_fields link = elim (cases_Bool (link == 0)) [
  | inl none ↦ rw none (refl, refl)
  | inr some ↦ rw some (refl, refl)
]

module _ (machine : Machine) (section : List ℕ) (o place target : ℕ) (written : List ℕ) (jumps : Jumps) (calls : Calls)
    (p : place < 2 ^ 64) (t : target < 2 ^ 64) where
  small : AreAddresses (operands_of place target)
  small = operands_small place target p t

  cj_is : (link : ℕ) → IsRelocated place target written (Some (record { row = riscv_row r.R_RISCV_RVC_JUMP; bytes = short_bytes link })) → IsShortJump (from_le_bytes w16 written) link place target
  cj_is link applied = record {
    quadrant = riscv_kept CjType (record { start = 0; end = 16 }) applied.value (short_bytes link) written applied.written (λ b w. refl) 0 2 refl ∙ (short_fields link).0;
    function = riscv_kept CjType (record { start = 0; end = 16 }) applied.value (short_bytes link) written applied.written (λ b w. refl) 13 3 refl ∙ (short_fields link).1;
    goes = subst (λ s. IsAddress s target) (unit_sum (pos place) ((riscv_form CjType).machine (from_le_bytes w16 written)))
        (subst (λ a. IsAddress (pos place +ℤ ((riscv_form CjType).machine (from_le_bytes w16 written) *ℤ pos 1)) a) (whole target t)
        (jumps.2 (operands_of place target) small place (short_bytes link) written applied tt));
  }

  jal_word : from_le_bytes w32 (to_le_bytes w32 (0x6f + link_register OfJalr section o * 2 ^ 7)) ≡ 0x6f + link_register OfJalr section o * 2 ^ 7
  jal_word = from_le_bytes-to_le_bytes_4 (0x6f + link_register OfJalr section o * 2 ^ 7) (omega arith)

  jal_is : IsRelocated place target written (Some (record { row = riscv_row r.R_RISCV_JAL; bytes = to_le_bytes w32 (0x6f + link_register OfJalr section o * 2 ^ 7) })) → IsJal (from_le_bytes w32 written) (link_register OfJalr section o) place target
  jal_is applied =
      let bytes : List ℕ = to_le_bytes w32 (0x6f + link_register OfJalr section o * 2 ^ 7) in
      let word : from_le_bytes w32 bytes ≡ 0x6f + link_register OfJalr section o * 2 ^ 7 = jal_word in
      record {
        opcode = riscv_kept JType (record { start = 0; end = 32 }) applied.value bytes written applied.written (λ b w. refl) 0 7 refl ∙ ap (λ w. field w 0 7) word ∙ omega arith;
        links = riscv_kept JType (record { start = 0; end = 32 }) applied.value bytes written applied.written (λ b w. refl) 7 5 refl ∙ ap (λ w. field w 7 12) word ∙ omega arith;
        goes = subst (λ s. IsAddress s target) (unit_sum (pos place) ((riscv_form JType).machine (from_le_bytes w32 written)))
            (subst (λ a. IsAddress (pos place +ℤ ((riscv_form JType).machine (from_le_bytes w32 written) *ℤ pos 1)) a) (whole target t)
            (jumps.0 (operands_of place target) small place bytes written applied tt));
      }

  call_is : IsRelocated place target written (Some (record { row = riscv_row r.R_RISCV_CALL_PLT; bytes = take 8 (drop o section) })) → IsFarCall section o place target written
  call_is applied = record {
    relocated = applied;
    goes = subst (λ a. IsAddress (without_bit_0 (pos place +ℤ (riscv_form UiType).machine (from_le_bytes w64 written))) (a - a % 2)) (whole target t)
        (calls.1 (operands_of place target) small place (take 8 (drop o section)) written applied tt);
  }

  pub becomes : (kept : ℕ) → length written ≡ kept → IsRelocated place target written (riscv_template machine section o kept) → RiscVBecomes machine section o place target written
  becomes kept len applied =
      let link = link_register OfJalr section o in
      let cj : Option Template = Some (record { row = riscv_row r.R_RISCV_RVC_JUMP; bytes = short_bytes link }) in
      let jal : Option Template = Some (record { row = riscv_row r.R_RISCV_JAL; bytes = to_le_bytes w32 (0x6f + link * 2 ^ 7) }) in
      let far : Option Template = Some (record { row = riscv_row r.R_RISCV_CALL_PLT; bytes = take 8 (drop o section) }) in
      let others : Option Template = if kept == 8 then far else None in
      let longer : Option Template = if kept == 4 then jal else others in
      elim (cases_Bool (kept == 2 && has_short_jump machine section o)) [
        | inl two ↦
            let a = and_parts (kept == 2) (has_short_jump machine section o) two in
            short_jump (len ∙ eqb-true kept 2 a.0) a.1
            (cj_is link (subst (IsRelocated place target written) (ap (λ b. if b then cj else longer) two) applied))
        | inr more ↦
            let rest = subst (IsRelocated place target written) (ap (λ b. if b then cj else longer) more) applied in
            elim (cases_Bool (kept == 4)) [
              | inl four ↦ jump (len ∙ eqb-true kept 4 four) (jal_is (subst (IsRelocated place target written) (ap (λ b. if b then jal else others) four) rest))
              | inr more ↦
                  let rest = subst (IsRelocated place target written) (ap (λ b. if b then jal else others) more) rest in
                  elim (cases_Bool (kept == 8)) [
                    | inl eight ↦ call (len ∙ eqb-true kept 8 eight) (call_is (subst (IsRelocated place target written) (ap (λ b. if b then far else None) eight) rest))
                    | inr none ↦ absurd (subst (IsRelocated place target written) (ap (λ b. if b then far else None) none) rest)
                  ]
            ]
      ]
