-- Upper and low parts of RISC-V, and calls.
use Rattle.linker_laws.proofs.Imports.{AllowedRange, BitMasking, BitRange, Bool, InstructionWritten, IsAddress, IsCompletedBy, Law, Operands, Option, PageMask, RelocationKind, RiscV, RiscVHolds, RiscVInstruction, SizeHolds, Some, UiType, [], ap, arith, cast_signed, even, int_lt, int_rem_euclid, int_rem_euclid_is, ints, none, place, pos, refl, riscv_form, subst, sym, unsigned_abs, upper_and_low, value_of, w64, window_of, without_bit_0, ℕ, ℤ, ◌%◌, ◌*◌, ◌+ℤ◌, ◌-ℤ◌, ◌-◌, ◌^◌, ◌∙◌, ◌∷◌, ◌≡◌}
use Rattle.linker_laws.proofs.Applied.{value_is, holds}
use Rattle.linker_laws.proofs.Instructions.{IsNumber, first_step, row_of, step_of}
use Rattle.linker_laws.proofs.Sums.{goes, lift, lifted_is}

-- Each low part completes the upper part of the same value.
abbrev pub Completes : RiscVInstruction → RiscVInstruction → Type 0
Completes upper low =
    (bits : BitRange) (v : ℤ) (after : ℕ) → RiscVHolds upper bits v after
    → IsCompletedBy low upper bits v after

pub pairs : {begin target number : Operands → ℕ} → IsNumber begin target number
    → (upper low : RiscVInstruction) → Completes upper low
    → (operands : Operands → ℕ → Operands)
    → {kind : RelocationKind} {mask : Option PageMask} {range : AllowedRange} {a : ℕ}
    {bias : Option ℕ} {thunkable implicit : Bool}
    {kind' : RelocationKind} {mask' : Option PageMask} {range' : AllowedRange} {a' : ℕ}
    {bias' : Option ℕ} {thunkable' implicit' : Bool}
    → ((o : Operands)
    → value_of (row_of kind 0 32 (RiscV upper) mask range a bias thunkable implicit) o
    ≡ Some (cast_signed w64 (number o)))
    → ((o : Operands) (at : ℕ)
    → value_of (row_of kind' 0 32 (RiscV low) mask' range' a' bias' thunkable' implicit')
    (operands o at) ≡ Some (cast_signed w64 (number o)))
    → Law
    (first_step (row_of kind 0 32 (RiscV upper) mask range a bias thunkable implicit) none
    ∷ step_of (row_of kind' 0 32 (RiscV low) mask' range' a' bias' thunkable' implicit') operands none
    ∷ []) (upper_and_low begin upper low) target
pairs {begin} {target} {number} leads upper low completes operands e e' =
    λ o small at before after high any at' before' after' rest any'.
    let n = number o in
    let numbers = leads o small in
    let is = value_is _ o before after high (cast_signed w64 n) (e o) in
    let is' = value_is _ _ before' after' rest (cast_signed w64 n) (e' o at') in
    let same : rest.value ≡ high.value = sym is' ∙ is in
    let bits : BitRange = record { start = 0; end = 32 } in
    let held : SizeHolds (BitMasking bits (RiscV upper)) high.value after =
    holds _ o before after high n numbers.below is in
    let written : InstructionWritten (RiscV low) bits high.value before' after' =
    subst (λ v. InstructionWritten (RiscV low) bits v before' after') same rest.written in
    let sum = completes bits high.value (window_of (riscv_form upper) after)
    (held refl (omega arith)) (int_lt high.value (pos 0)) written.clear
    (window_of (riscv_form low) after') written.written in
    ap (λ z. int_rem_euclid (pos (begin o) +ℤ z) (pos (2 ^ 64))) (sum ∙ sym is)
    ∙ goes (begin o) n (target o) numbers.below numbers.leads

-- ---- calls

pub bit_cleared : (z : ℤ) (s : ℕ) → IsAddress z s → IsAddress (without_bit_0 z) (s - s % 2)
bit_cleared z s h =
    let l = lift z in
    let is = l.is in
    let there : l.number % 2 ^ 64 ≡ s =
    ap unsigned_abs (sym (lifted_is z l.times l.number l.is) ∙ h) in
    let bit : int_rem_euclid z (pos 2) ≡ pos (l.number % 2) =
    int_rem_euclid_is z (pos 2) 2 (l.times * 2 ^ 63) l.number (omega arith) refl
    (omega (arith, ints)) in
    ap (λ b. int_rem_euclid (z -ℤ b) (pos (2 ^ 64))) bit
    ∙ lifted_is (z -ℤ pos (l.number % 2)) l.times (l.number - l.number % 2) (omega (arith, ints))
    ∙ ap pos (let e : (l.number - l.number % 2) % 2 ^ 64 ≡ s - s % 2 = omega arith in e)

pub calls : {target number : Operands → ℕ} → IsNumber place target number
    → {kind : RelocationKind} {mask : Option PageMask} {range : AllowedRange} {a : ℕ}
    {bias : Option ℕ} {thunkable implicit : Bool}
    → ((o : Operands)
    → value_of (row_of kind 0 64 (RiscV UiType) mask range a bias thunkable implicit) o
    ≡ Some (cast_signed w64 (number o)))
    → Law (first_step (row_of kind 0 64 (RiscV UiType) mask range a bias thunkable implicit) none ∷ [])
    (λ o x. without_bit_0 (pos o.place +ℤ (riscv_form UiType).machine x)) (even target)
calls {target} {number} leads e = λ o small at before after applied any.
    let n = number o in
    let numbers = leads o small in
    let is = value_is _ o before after applied (cast_signed w64 n) (e o) in
    let sum : (riscv_form UiType).machine (window_of (riscv_form UiType) after) ≡ applied.value =
    holds _ o before after applied n numbers.below is refl (omega arith) in
    bit_cleared (pos o.place +ℤ (riscv_form UiType).machine (window_of (riscv_form UiType) after))
    (target o)
    (ap (λ z. int_rem_euclid (pos o.place +ℤ z) (pos (2 ^ 64))) (sum ∙ sym is)
    ∙ goes o.place n (target o) numbers.below numbers.leads)
