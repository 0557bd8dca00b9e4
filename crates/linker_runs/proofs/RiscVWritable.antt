-- Calls of RISC-V that a relaxation made shorter can be written.
use Rattle.linker_runs.proofs.Imports.{CALL, HasRiscVShapes, IsOutOfReach, IsSomeAnd, ItemError, List, Machine, NoShape, None, NotItsInstructions, OfJalr, OutOfReach, R_RISCV_JAL, R_RISCV_RVC_JUMP, RiscVCause, Shapes, TAIL_C, ap, arith, cases_Bool, cases_lt, false, false≢true, has_short_jump, inl, inr, ints, is_reached, length, link_register, refl, riscv_fits, riscv_template, short_bytes, short_shape, subst, sum_64, to_le_bytes, true, w32, ℕ, ⊎_elim, ◌*◌, ◌+◌, ◌<◌, ◌==◌, ◌^◌, ◌∙◌, ◌≡◌, ◌≤◌}
use Rattle.linker_runs.proofs.RiscVReaches.{riscv_shapes}
use Rattle.linker_runs.proofs.Distances.{not_rejected}

short_long : (link : ℕ) → 2 ≤ length (short_bytes link)
short_long link = elim (cases_Bool (link == 0)) [
  | inl none ↦ rw none (omega arith)
  | inr some ↦ rw some (omega arith)
]

module _ (machine : Machine) (section : List ℕ) (o start from to : ℕ) where
  jal_near : is_reached (short_shape CALL 0) from to ≡ true → IsSomeAnd (riscv_template machine section o 4) (λ t. IsOutOfReach t (sum_64 start from) (sum_64 start to)) → ⊥
  jal_near reached far =
      not_rejected start from to _ (to_le_bytes w32 (0x6f + link_register OfJalr section o * 2 ^ 7)) (riscv_fits R_RISCV_JAL) (omega arith) (λ v. tt) (λ v e. absurd (false≢true e))
      (λ v w. (omega (arith, ints, w.0), omega (arith, ints, w.1))) refl
      ((((riscv_shapes.0).each 0 (omega arith)).reach from to).0 reached) far

  cj_near : has_short_jump machine section o ≡ true → is_reached (short_shape TAIL_C 0) from to ≡ true → IsSomeAnd (riscv_template machine section o 2) (λ t. IsOutOfReach t (sum_64 start from) (sum_64 start to)) → ⊥
  cj_near link reached far =
      not_rejected start from to _ (short_bytes (link_register OfJalr section o)) (riscv_fits R_RISCV_RVC_JUMP) (short_long (link_register OfJalr section o)) (λ v. tt) (λ v e. absurd (false≢true e))
      (λ v w. (omega (arith, ints, w.0), omega (arith, ints, w.1))) refl
      ((((riscv_shapes.1).each 0 (omega arith)).reach from to).0 reached) (rw link at far)

  pub riscv_not : (kept : ℕ) (shapes : Shapes) (k : ℕ) → HasRiscVShapes machine section o shapes → k < shapes.count → kept ≡ (short_shape shapes k).kept → is_reached (short_shape shapes k) from to ≡ true
      → (error : ItemError) → RiscVCause machine section o kept (sum_64 start from) (sum_64 start to) error → ⊥
  riscv_not kept shapes k has short len reached error cause = ⊎_elim
      (λ (call : shapes ≡ CALL).
      let below : k < 1 = subst (λ s. k < s.count) call short in
      let first : k ≡ 0 = omega arith in
      jal_only (len ∙ ap (λ s. (short_shape s k).kept) call ∙ ap (λ n. (short_shape CALL n).kept) first)
      (subst (λ n. is_reached (short_shape CALL n) from to ≡ true) first (subst (λ s. is_reached (short_shape s k) from to ≡ true) call reached)) error cause)
      (λ (tail : (shapes ≡ TAIL_C) × (has_short_jump machine section o ≡ true)).
      let below : k < 2 = subst (λ s. k < s.count) tail.0 short in
      let same = len ∙ ap (λ s. (short_shape s k).kept) tail.0 in
      let near = subst (λ s. is_reached (short_shape s k) from to ≡ true) tail.0 reached in
      ⊎_elim
      (λ (later : 0 < k).
      let second : k ≡ 1 = omega arith in
      jal_only (same ∙ ap (λ n. (short_shape TAIL_C n).kept) second) (subst (λ n. is_reached (short_shape TAIL_C n) from to ≡ true) second near) error cause)
      (λ (least : k ≤ 0).
      let first : k ≡ 0 = omega arith in
      cj_only tail.1 (same ∙ ap (λ n. (short_shape TAIL_C n).kept) first) (subst (λ n. is_reached (short_shape TAIL_C n) from to ≡ true) first near) error cause)
      (cases_lt 0 k))
      has.1
    where
      jal_only : kept ≡ 4 → is_reached (short_shape CALL 0) from to ≡ true → (error : ItemError) → RiscVCause machine section o kept (sum_64 start from) (sum_64 start to) error → ⊥
      jal_only four near NotItsInstructions cause = cause has.0
      jal_only four near NoShape cause = let no = subst (λ n. riscv_template machine section o n ≡ None) four cause.1 in cc
      jal_only four near OutOfReach cause = jal_near near (subst (λ n. IsSomeAnd (riscv_template machine section o n) (λ t. IsOutOfReach t (sum_64 start from) (sum_64 start to))) four cause.1)
      jal_only four near other cause = cause

      cj_only : has_short_jump machine section o ≡ true → kept ≡ 2 → is_reached (short_shape TAIL_C 0) from to ≡ true → (error : ItemError) → RiscVCause machine section o kept (sum_64 start from) (sum_64 start to) error → ⊥
      cj_only link two near NotItsInstructions cause = cause has.0
      cj_only link two near NoShape cause = let no = subst (λ n. riscv_template machine section o n ≡ None) two cause.1 in let none = rw link at no in cc
      cj_only link two near OutOfReach cause = cj_near link near (subst (λ n. IsSomeAnd (riscv_template machine section o n) (λ t. IsOutOfReach t (sum_64 start from) (sum_64 start to))) two cause.1)
      cj_only link two near other cause = cause
