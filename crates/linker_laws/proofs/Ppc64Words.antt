-- Words of PowerPC64 to which a relocation was applied, and the steps of their instructions.
use Rattle.linker_laws.proofs.Imports.{BitRange, Branch24, D, Ds, InstructionWritten, IsAddress, List, Ppc64, Some, [], ap, arith, bits_to, cond-false, cond-true, difference_64, eq-eqb, eqb, field, from_le_bytes, ints, loaded, moved, ne_eqb, opcode_of, pos, ppc64_form, ra_of, rb_of, refl, rt_of, sum_64, sym, w32, wrapped, ℕ, ℤ, ◌%◌, ◌*ℤ◌, ◌+ℤ◌, ◌+◌, ◌<◌, ◌^◌, ◌∙◌, ◌≡◌, ◌≢◌}
use Rattle.linker_utils.specs.Ppc64Rewrites.{nop}
use Rattle.linker_laws.proofs.Sums.{lift, wrapped_is}
use Rattle.linker_laws.specs.Ppc64Machine.{State, Formats, step, execute, by_opcode, of_58, base, write, go_on, go_to, next_pc, shifted_sum, d_address, ds_address}
use Rattle.linker_laws.proofs.AArch64Words.{field_kept}
use Rattle.linker_laws.proofs.RiscVMachine.{address_is, moved_twice}

-- ---- what a write keeps

-- the registers and the opcode of a word
pub record HasParts (opcode rt ra word : ℕ) : Type 0 where
  pub opcode_is : opcode_of word ≡ opcode
  pub rt_is : rt_of word ≡ rt
  pub ra_is : ra_of word ≡ ra

high_parts : (x y : ℕ) → field y 16 32 ≡ field x 16 32 → HasParts (opcode_of x) (rt_of x) (ra_of x) y
high_parts x y same =
    record { opcode_is = omega arith; rt_is = omega arith; ra_is = omega arith }

pub d_after : (bits : BitRange) (v : ℤ) (before after : List ℕ)
    → InstructionWritten (Ppc64 D) bits v before after
    → HasParts (opcode_of (from_le_bytes w32 before)) (rt_of (from_le_bytes w32 before))
    (ra_of (from_le_bytes w32 before)) (from_le_bytes w32 after)
d_after bits v before after w =
    high_parts (from_le_bytes w32 before) (from_le_bytes w32 after)
    (field_kept [] (bits_to 0 15 0) _ _ _ _ _ w.clears w.written 16 32 refl refl)

pub ds_after : (bits : BitRange) (v : ℤ) (before after : List ℕ)
    → InstructionWritten (Ppc64 Ds) bits v before after
    → HasParts (opcode_of (from_le_bytes w32 before)) (rt_of (from_le_bytes w32 before))
    (ra_of (from_le_bytes w32 before)) (from_le_bytes w32 after)
    × (field (from_le_bytes w32 after) 0 2 ≡ field (from_le_bytes w32 before) 0 2)
ds_after bits v before after w = (
  high_parts (from_le_bytes w32 before) (from_le_bytes w32 after)
      (field_kept [] (bits_to 2 15 2) _ _ _ _ _ w.clears w.written 16 32 refl refl),
  field_kept [] (bits_to 2 15 2) _ _ _ _ _ w.clears w.written 0 2 refl refl,
)

-- ---- sums

-- what a pair of halves adds up to
pub sum_leads : (t target : ℕ) (a b : ℤ) → IsAddress ((pos t +ℤ a) +ℤ b) target
    → moved (moved t a) b ≡ target
sum_leads t target a b h =
    moved_twice t a b ∙ ap wrapped (let e : pos t +ℤ (a +ℤ b) ≡ (pos t +ℤ a) +ℤ b = omega (arith, ints) in e)
    ∙ address_is _ _ h

-- The same halves lead from another begin to what is as far from there.
pub sum_from : (begin target t : ℕ) (a b : ℤ) → begin < 2 ^ 64 → target < 2 ^ 64
    → IsAddress ((pos begin +ℤ a) +ℤ b) target
    → moved (moved t a) b ≡ sum_64 (difference_64 target begin) t
sum_from begin target t a b small below h =
    let x = lift (a +ℤ b) in
    let is = x.is in
    let there : (begin + x.number) % 2 ^ 64 ≡ target =
    sym (wrapped_is ((pos begin +ℤ a) +ℤ b) x.times (begin + x.number) (omega (arith, ints)))
    ∙ address_is _ _ h in
    moved_twice t a b
    ∙ wrapped_is (pos t +ℤ (a +ℤ b)) x.times (t + x.number) (omega (arith, ints))
    ∙ (let same : (t + x.number) % 2 ^ 64 ≡ sum_64 (difference_64 target begin) t = omega arith in same)

-- ---- steps

-- the state after an instruction that writes a register and goes on
abbrev pub set : ℕ → ℕ → State → State
set r v s = go_on (write r v s)

-- what is read of the register that was written
pub base_back : (r v : ℕ) (s : State) → r ≢ 0 → base r (set r v s) ≡ v
base_back r v s some =
    cond-false (eqb r 0) 0 _ (ne_eqb r 0 some) ∙ cond-true (eqb r r) v (s.registers r) (eq-eqb r r refl)

pub step_addis : (f : Formats) (x r b : ℕ) (s : State) → HasParts 15 r b x
    → step f x s ≡ Some (set r (moved (base b s) ((ppc64_form D).machine x *ℤ pos (2 ^ 16))) s)
step_addis f x r b s p =
    ap (λ op. execute f (by_opcode op x) x s) p.opcode_is
    ∙ ap (λ n. Some (set n (shifted_sum x s) s)) p.rt_is
    ∙ ap (λ n. Some (set r (moved (base n s) ((ppc64_form D).machine x *ℤ pos (2 ^ 16))) s)) p.ra_is

pub step_addi : (f : Formats) (x r b : ℕ) (s : State) → HasParts 14 r b x
    → step f x s ≡ Some (set r (moved (base b s) ((ppc64_form D).machine x)) s)
step_addi f x r b s p =
    ap (λ op. execute f (by_opcode op x) x s) p.opcode_is
    ∙ ap (λ n. Some (set n (d_address x s) s)) p.rt_is
    ∙ ap (λ n. Some (set r (moved (base n s) ((ppc64_form D).machine x)) s)) p.ra_is

pub step_ld : (f : Formats) (x r b : ℕ) (s : State) → HasParts 58 r b x → field x 0 2 ≡ 0
    → step f x s
    ≡ Some (set r (loaded 8 s.memory (moved (base b s) ((ppc64_form Ds).machine x))) s)
step_ld f x r b s p low =
    ap (λ op. execute f (by_opcode op x) x s) p.opcode_is
    ∙ ap (λ l. execute f (of_58 l) x s) low
    ∙ ap (λ n. Some (set n (loaded 8 s.memory (ds_address x s)) s)) p.rt_is
    ∙ ap (λ n. Some (set r (loaded 8 s.memory (moved (base n s) ((ppc64_form Ds).machine x))) s)) p.ra_is

pub step_add : (f : Formats) (x r a b : ℕ) (s : State) → HasParts 31 r a x → rb_of x ≡ b
    → field x 0 11 ≡ 0x214
    → step f x s ≡ Some (set r (sum_64 (s.registers a) (s.registers b)) s)
step_add f x r a b s p rb low =
    ap (λ op. execute f (by_opcode op x) x s) p.opcode_is
    ∙ ap (λ i. execute f i x s) (cond-true _ _ _ (eq-eqb (field x 0 11) 0x214 low))
    ∙ ap (λ n. Some (set n (sum_64 (s.registers (ra_of x)) (s.registers (rb_of x))) s)) p.rt_is
    ∙ ap (λ n. Some (set r (sum_64 (s.registers n) (s.registers (rb_of x))) s)) p.ra_is
    ∙ ap (λ n. Some (set r (sum_64 (s.registers a) (s.registers n)) s)) rb

pub step_nop : (f : Formats) (x : ℕ) (s : State) → x ≡ nop → step f x s ≡ Some (go_on s)
step_nop f x s is = ap (λ w. step f w s) is

pub step_bl : (f : Formats) (x : ℕ) (s : State) → opcode_of x ≡ 18 → field x 0 2 ≡ 1
    → step f x s ≡ Some (go_to (moved s.pc ((ppc64_form Branch24).machine x)) (record s { link = next_pc s }))
step_bl f x s op low =
    ap (λ k. execute f (by_opcode k x) x s) op
    ∙ ap (λ i. execute f i x s) (cond-true (eqb (field x 0 2) 1) _ _ (eq-eqb _ _ low))
