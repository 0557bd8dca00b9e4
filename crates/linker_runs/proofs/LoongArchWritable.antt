-- Calls and addresses of LoongArch that a relaxation made shorter can be written.
use Rattle.linker_runs.proofs.Imports.{Address, CALL36, Call, HasLoongArchShapes, IsCall36At, IsKindAt, IsOutOfReach, IsPcalaAt, ItemError, Kind, List, LoongArchCause, PCALA, R_LARCH_B26, R_LARCH_PCREL20_S2, Shapes, ap, arith, branch_template, destination, false, false≢true, inl, ints, is_reached, loongarch_fits, pcaddi_template, refl, short_shape, short_template, subst, sum_64, to_le_bytes, true, w32, ℕ, ⊎_elim, ◌*◌, ◌+◌, ◌<◌, ◌^◌, ◌∙◌, ◌≡◌}
use Rattle.linker_runs.proofs.LoongArchReaches.{loongarch_shapes}
use Rattle.linker_runs.proofs.LoongArch.{code_not}
use Rattle.linker_runs.proofs.Distances.{not_rejected}

module _ (section : List ℕ) (o start from to : ℕ) where
  branch_near : is_reached (short_shape CALL36 0) from to ≡ true → IsOutOfReach (branch_template (destination section o)) (sum_64 start from) (sum_64 start to) → ⊥
  branch_near reached far =
      not_rejected start from to _ (to_le_bytes w32 (0x50000000 + destination section o * 2 ^ 26)) (loongarch_fits R_LARCH_B26) (omega arith) (λ v. tt) (λ v e. absurd (false≢true e))
      (λ v w. (omega (arith, ints, w.0), omega (arith, ints, w.1))) refl
      ((((loongarch_shapes.0).each 0 (omega arith)).reach from to).0 reached) far

  pcaddi_near : is_reached (short_shape PCALA 0) from to ≡ true → IsOutOfReach (pcaddi_template (destination section o)) (sum_64 start from) (sum_64 start to) → ⊥
  pcaddi_near reached far =
      not_rejected start from to _ (to_le_bytes w32 (0x18000000 + destination section o)) (loongarch_fits R_LARCH_PCREL20_S2) (omega arith) (λ v. tt) (λ v e. absurd (false≢true e))
      (λ v w. (omega (arith, ints, w.0), omega (arith, ints, w.1))) refl
      ((((loongarch_shapes.1).each 0 (omega arith)).reach from to).0 reached) far

  pub loongarch_not : (kept : ℕ) (shapes : Shapes) (k : ℕ) → HasLoongArchShapes section o shapes → k < shapes.count → kept ≡ (short_shape shapes k).kept → is_reached (short_shape shapes k) from to ≡ true
      → (error : ItemError) → LoongArchCause section o kept (sum_64 start from) (sum_64 start to) error → ⊥
  loongarch_not kept shapes k has short len reached error cause = ⊎_elim
      (λ (call : IsCall36At section o × (shapes ≡ CALL36)).
      let below : k < 1 = subst (λ s. k < s.count) call.1 short in
      let first : k ≡ 0 = omega arith in
      short_not Call call.0 (len ∙ ap (λ s. (short_shape s k).kept) call.1 ∙ ap (λ n. (short_shape CALL36 n).kept) first)
      (branch_near (subst (λ n. is_reached (short_shape CALL36 n) from to ≡ true) first (subst (λ s. is_reached (short_shape s k) from to ≡ true) call.1 reached))))
      (λ (pair : IsPcalaAt section o × (shapes ≡ PCALA)).
      let below : k < 1 = subst (λ s. k < s.count) pair.1 short in
      let first : k ≡ 0 = omega arith in
      short_not Address pair.0 (len ∙ ap (λ s. (short_shape s k).kept) pair.1 ∙ ap (λ n. (short_shape PCALA n).kept) first)
      (pcaddi_near (subst (λ n. is_reached (short_shape PCALA n) from to ≡ true) first (subst (λ s. is_reached (short_shape s k) from to ≡ true) pair.1 reached))))
      has
    where
      short_not : (kind : Kind) → IsKindAt section o kind → kept ≡ 4 → (IsOutOfReach (short_template section o kind) (sum_64 start from) (sum_64 start to) → ⊥) → ⊥
      short_not kind here four near = code_not section o kept (sum_64 start from) (sum_64 start to) kind here (inl four) (λ _. near) (λ eight. absurd (omega (arith, four, eight))) error cause
