-- What calls and addresses of LoongArch become.
use Rattle.linker_runs.proofs.Imports.{Address, AreAddresses, AreRelocated, BitRange, Bool, Branch26, CALL36, Call, HasLoongArchShapes, InstructionWritten, IsAddress, IsAddressInReach, IsAddressOutOfReach, IsBranch, IsCall36At, IsFarAddress, IsFarCall, IsInReach, IsKindAt, IsLongInReach, IsLongOf, IsLongOutOfReach, IsOutOfReach, IsPcaddi, IsPcalaAt, IsRelocated, IsSiteAt, IsSomeAnd, IsTrue, IsWithin, ItemError, Kind, List, LoongArchAccepts, LoongArchBecomes, LoongArchCause, NoShape, NotItsInstructions, OutOfReach, PCALA, Shapes, Shift5, Signed, Some, address, agree_below, ap, arith, bit_bounds, bits_taken, branch_template, call, call_template, destination, drop, eqb, false, far_address, far_call, far_high, far_low, far_pages, field, from_le_bytes, from_le_bytes-to_le_bytes_4, high_template, inl, inr, int_lt, is_jirl, is_placed, jump, length, loongarch_form, low_template, not, operands_of, pcaddi_template, places_cleared, pos, reach, refl, short_template, subst, sum_64, take, to_le_bytes, true, w32, w64, whole, window_of, ℕ, ℤ, ⊎_elim, ◌*ℤ◌, ◌*◌, ◌+ℤ◌, ◌+◌, ◌<◌, ◌^◌, ◌↔◌, ◌∙◌, ◌≡◌, ◌⊎◌}
use Rattle.linker_elf.specs.declared.elf.AnyForm.TheVariants.{LoongArch64}
use Rattle.linker_elf.specs.declared.loongarch64.forms.LoongArch64Instruction.{LoongArch64Instruction}
use Rattle.linker_laws.specs.LoongArchRelocationLaws.{Branches, Calls, RelativeAddresses, page_and_low}
use Rattle.linker_runs.proofs.Sites.{kept_field, operands_small, unit_sum, in_reach}
use Rattle.linker_base.proofs.Words.{word_of_front}

-- what writing an immediate keeps: n bits from bit s up, of which none is placed
loongarch_kept : (f : LoongArch64Instruction) (bits : BitRange) (v : ℤ) (before after : List ℕ) (w : InstructionWritten (LoongArch64 f) bits v before after)
    (none : (x i : ℕ) → is_placed (places_cleared (LoongArch64 f) bits x) i ≡ false)
    (same : (b : Bool) (x : ℕ) → (loongarch_form f).base b x ≡ x) (s n : ℕ)
    → agree_below (λ i. is_placed ((loongarch_form f).places w.clear) (s + i)) (λ _. false) n ≡ true
    → field (window_of (loongarch_form f) after) s (s + n) ≡ field (window_of (loongarch_form f) before) s (s + n)
loongarch_kept f bits v before after w none same s n outside =
    kept_field (loongarch_form f) (bits_taken bits v) (int_lt v (pos 0)) (window_of (loongarch_form f) before) w.clear (window_of (loongarch_form f) after)
    (λ i. w.clears.kept i (none (window_of (loongarch_form f) before) i)) w.written (same (int_lt v (pos 0)) w.clear) s n outside

-- `addi.d` is no `jirl`
pub no_jirl : (section : List ℕ) (o : ℕ) → IsPcalaAt section o → is_jirl (from_le_bytes w32 (take 4 (drop (o + 4) section))) ≡ false
no_jirl section o pair =
    let opcode : field (from_le_bytes w32 (drop (o + 4) section)) 26 32 ≡ 0 = let second = pair.second in omega arith in
    ap (λ w. eqb (field w 26 32) 19) (word_of_front (drop (o + 4) section)) ∙ ap (λ q. eqb q 19) opcode

-- ---- what is written

module _ (section : List ℕ) (o place target : ℕ) (written : List ℕ) (branches : Branches) (calls : Calls) (relative : RelativeAddresses)
    (p : place < 2 ^ 64) (t : target < 2 ^ 64) where
  small : AreAddresses (operands_of place target)
  small = operands_small place target p t

  branch_is : (link opcode : ℕ) → link < 2 → opcode ≡ 0x14 + link → IsRelocated (branch_template link) place target written → IsBranch opcode (from_le_bytes w32 written) place target
  branch_is link opcode low is applied =
      let bytes : List ℕ = to_le_bytes w32 (0x50000000 + link * 2 ^ 26) in
      let word : from_le_bytes w32 bytes ≡ 0x50000000 + link * 2 ^ 26 = from_le_bytes-to_le_bytes_4 (0x50000000 + link * 2 ^ 26) (omega arith) in
      record {
        opcode_is = loongarch_kept Branch26 (record { start = 2; end = 28 }) applied.value bytes written applied.written (λ x i. refl) (λ b w. refl) 26 6 refl ∙ ap (λ w. field w 26 32) word ∙ omega arith;
        goes = subst (λ a. IsAddress (pos place +ℤ ((loongarch_form Branch26).machine (from_le_bytes w32 written) *ℤ pos 4)) a) (whole target t)
            (branches.2 (operands_of place target) small place bytes written applied tt);
      }

  pcaddi_is : (register : ℕ) → register < 32 → IsRelocated (pcaddi_template register) place target written → IsPcaddi (from_le_bytes w32 written) register place target
  pcaddi_is register low applied =
      let bytes : List ℕ = to_le_bytes w32 (0x18000000 + register) in
      let word : from_le_bytes w32 bytes ≡ 0x18000000 + register = from_le_bytes-to_le_bytes_4 (0x18000000 + register) (omega arith) in
      record {
        opcode = loongarch_kept Shift5 (record { start = 2; end = 22 }) applied.value bytes written applied.written (λ x i. refl) (λ b w. refl) 25 7 refl ∙ ap (λ w. field w 25 32) word ∙ omega arith;
        register_is = loongarch_kept Shift5 (record { start = 2; end = 22 }) applied.value bytes written applied.written (λ x i. refl) (λ b w. refl) 0 5 refl ∙ ap (λ w. field w 0 5) word ∙ omega arith;
        computes = subst (λ a. IsAddress (pos place +ℤ ((loongarch_form Shift5).machine (from_le_bytes w32 written) *ℤ pos 4)) a) (whole target t)
            (branches.3 (operands_of place target) small place bytes written applied tt);
      }

  call_is : IsRelocated (call_template section o) place target written → IsFarCall section o place target written
  call_is applied = record {
    relocated = applied;
    goes = subst (λ s. IsAddress s target) (unit_sum (pos place) (reach (from_le_bytes w64 written)))
        (subst (λ a. IsAddress (pos place +ℤ (reach (from_le_bytes w64 written) *ℤ pos 1)) a) (whole target t)
        (calls (operands_of place target) small place (take 8 (drop o section)) written applied tt));
  }

  address_is : IsPcalaAt section o → AreRelocated section o place target written → IsFarAddress section o place target written
  address_is pair applied = record {
    high = applied.high;
    low = applied.low;
    computes = subst (λ a. IsAddress (page_and_low (operands_of place target) (from_le_bytes w32 (take 4 written)) (from_le_bytes w32 (drop 4 written))) a) (whole target t)
        (relative.0 (operands_of place target) small place (take 4 (drop o section)) (take 4 written) applied.high
        (subst (λ v. IsSomeAnd v (IsWithin (Some (bit_bounds 32 Signed)))) applied.high.value_is applied.pages)
        (sum_64 place 4) (take 4 (drop (o + 4) section)) (drop 4 written) applied.low (ap not (no_jirl section o pair)));
  }

  pub becomes_short : (kind : Kind) → IsKindAt section o kind → length written ≡ 4 → IsRelocated (short_template section o kind) place target written → LoongArchBecomes section o place target written
  becomes_short Call (inl one) len applied = call one len
      (branch_is (destination section o) 0x15 (let h = one.links in omega arith) (let h = one.links in omega arith) applied)
  becomes_short Call (inr none) len applied = jump none len
      (branch_is (destination section o) 0x14 (let h = none.links in omega arith) (let h = none.links in omega arith) applied)
  becomes_short Address pair len applied = address pair len
      (pcaddi_is (destination section o) (omega arith) applied)

  pub becomes_long : (kind : Kind) → IsKindAt section o kind → length written ≡ 8 → IsLongOf section o kind place target written → LoongArchBecomes section o place target written
  becomes_long Call here len applied = far_call here len (call_is applied)
  becomes_long Address pair len applied = far_address pair len (address_is pair applied)

-- ---- what is accepted and rejected

pub not_both : (section : List ℕ) (o : ℕ) → IsCall36At section o → IsPcalaAt section o → ⊥
not_both section o (inl one) pair = let a = one.first in let b = pair.one_register.first in omega arith
not_both section o (inr none) pair = let a = none.first in let b = pair.one_register.first in omega arith

address_excludes : (section : List ℕ) (o place target : ℕ) → IsAddressInReach section o place target → IsAddressOutOfReach section o place target → ⊥
address_excludes section o place target reached (far_pages out) = out reached.pages
address_excludes section o place target reached (far_high out) = in_reach (high_template section o) place target reached.high out
address_excludes section o place target reached (far_low out) = in_reach (low_template section o) (sum_64 place 4) target reached.low out

long_excludes : (section : List ℕ) (o place target : ℕ) (kind : Kind) → IsLongInReach section o kind place target → IsLongOutOfReach section o kind place target → ⊥
long_excludes section o place target Call reached out = in_reach (call_template section o) place target reached out
long_excludes section o place target Address reached out = address_excludes section o place target reached out

-- the instructions at an offset are of one kind
one_kind : (section : List ℕ) (o : ℕ) (kind other : Kind) → IsKindAt section o kind → IsKindAt section o other → other ≡ kind
one_kind section o Call Call here there = refl
one_kind section o Address Address here there = refl
one_kind section o Call Address here there = absurd (not_both section o here there)
one_kind section o Address Call here there = absurd (not_both section o there here)

site_is : (section : List ℕ) (o : ℕ) (kind : Kind) → IsKindAt section o kind → IsSiteAt section o
site_is section o Call here = inl here
site_is section o Address here = inr here

module _ (section : List ℕ) (o kept place target : ℕ) (kind : Kind) (here : IsKindAt section o kind) where
  -- nothing is wrong with a site whose instructions of four or eight bytes aren't out of reach
  pub code_not : (kept ≡ 4) ⊎ (kept ≡ 8) → (kept ≡ 4 → IsOutOfReach (short_template section o kind) place target → ⊥) → (kept ≡ 8 → IsLongOutOfReach section o kind place target → ⊥)
      → (error : ItemError) → LoongArchCause section o kept place target error → ⊥
  code_not len short long NotItsInstructions cause = cause (site_is section o kind here)
  code_not len short long NoShape cause = ⊎_elim (λ (four : kept ≡ 4). cause.1 four) (λ (eight : kept ≡ 8). cause.2 eight) len
  code_not len short long OutOfReach far =
      ⊎_elim
      (λ (out : (kept ≡ 4) × IsOutOfReach (short_template section o kind) place target). short out.0 out.1)
      (λ (out : (kept ≡ 8) × IsLongOutOfReach section o kind place target). long out.0 out.1)
      (subst (λ k. ((kept ≡ 4) × IsOutOfReach (short_template section o k) place target) ⊎ ((kept ≡ 8) × IsLongOutOfReach section o k place target)) (one_kind section o kind far.0 here far.1) far.2)
  code_not len short long other cause = cause

pub loongarch_excludes : (section : List ℕ) (o kept place target : ℕ) (error : ItemError) → LoongArchAccepts section o kept place target → LoongArchCause section o kept place target error → ⊥
loongarch_excludes section o kept place target error a cause = ⊎_elim
    (λ (four : (kept ≡ 4) × IsInReach (short_template section o a.0) place target).
    code_not section o kept place target a.0 a.1 (inl four.0) (λ _ out. in_reach (short_template section o a.0) place target four.1 out) (λ eight out. absurd (omega (arith, four.0, eight))) error cause)
    (λ (eight : (kept ≡ 8) × IsLongInReach section o a.0 place target).
    code_not section o kept place target a.0 a.1 (inr eight.0) (λ four out. absurd (omega (arith, four, eight.0))) (λ _ out. long_excludes section o place target a.0 eight.1 out) error cause)
    a.2

module _ (section : List ℕ) (o kept place target : ℕ) where
  pub short_accepts : (kind : Kind) (written : List ℕ) → IsKindAt section o kind → kept ≡ 4 → IsRelocated (short_template section o kind) place target written → LoongArchAccepts section o kept place target
  short_accepts Call written here len applied = (Call, here, inl (len, (written, applied)))
  short_accepts Address written here len applied = (Address, here, inl (len, (written, applied)))

  pub long_accepts : (kind : Kind) (written : List ℕ) → IsKindAt section o kind → kept ≡ 8 → IsLongOf section o kind place target written → LoongArchAccepts section o kept place target
  long_accepts Call written here len applied = (Call, here, inr (len, (written, applied)))
  long_accepts Address written here len applied = (Address, here, inr (len, record { pages = applied.pages; high = (take 4 written, applied.high); low = (drop 4 written, applied.low) }))

-- ---- which shapes a site can have

pub call_shapes : (section : List ℕ) (o : ℕ) (shapes : Shapes) (same : Bool) → IsCall36At section o → (IsTrue same ↔ (shapes ≡ CALL36)) → IsTrue same ↔ HasLoongArchShapes section o shapes
call_shapes section o shapes same here is = (
  λ h. inl (here, is.0 h),
  λ h. ⊎_elim (λ (call : IsCall36At section o × (shapes ≡ CALL36)). is.1 call.1) (λ (pair : IsPcalaAt section o × (shapes ≡ PCALA)). absurd (not_both section o here pair.0)) h,
)

pub pair_shapes : (section : List ℕ) (o : ℕ) (shapes : Shapes) (same : Bool) → IsPcalaAt section o → (IsTrue same ↔ (shapes ≡ PCALA)) → IsTrue same ↔ HasLoongArchShapes section o shapes
pair_shapes section o shapes same here is = (
  λ h. inr (here, is.0 h),
  λ h. ⊎_elim (λ (call : IsCall36At section o × (shapes ≡ CALL36)). absurd (not_both section o call.0 here)) (λ (pair : IsPcalaAt section o × (shapes ≡ PCALA)). is.1 pair.1) h,
)
