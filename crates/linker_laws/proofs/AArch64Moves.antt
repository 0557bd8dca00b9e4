-- The moves of an offset from the thread pointer.
use Rattle.linker_laws.proofs.Imports.{AArch64, AreAddresses, IsAddress, List, Movkz, Movnz, Operands, Some, TpOff, aarch64_form, ap, arith, bit_at, cond-false, difference_64, eq-eqb, eqb, false, field, following, in_64_bits, int_rem_euclid, int_rem_euclid_is, ints, is_movk, movk, movn_or_movz, nat_lt, ne_eqb, not, plain_written, pos, rd_of, read_x, refl, shift_of, step, subst, sum_64, sym, symbol_address, thread_offset, unsigned_abs, with_moved, word_of, ℕ, ℤ, ◌%◌, ◌&&◌, ◌*ℤ◌, ◌*◌, ◌+ℤ◌, ◌+◌, ◌-ℤ◌, ◌-◌, ◌<◌, ◌^◌, ◌∙◌, ◌≡◌, ◌≢◌}
use Rattle.linker_laws.specs.AArch64Groups.{IsRelocated}
use Rattle.linker_elf.specs.declared.aarch64.relocations.AArch64Relocation.TheVariants as names
use Rattle.linker_laws.specs.AArch64RelocationLaws as relocation_laws
use Rattle.linker_laws.proofs.Sums.{lift, lifted_is, sum_below}
use Rattle.linker_laws.specs.AArch64Machine.{State, moved}
use Rattle.linker_laws.proofs.AArch64Steps.{set, step_move, step_movk, address_is, read_back}
use Rattle.linker_laws.proofs.AArch64Words.{movnz_after, movk_after}

-- ---- numbers modulo 2 ^ 64

-- MOVK of a number that is t times 2 ^ 64 below n
pub movk_lifted : (v : ℤ) (t n : ℕ) → v +ℤ pos (t * 2 ^ 64) ≡ pos n → (word : ℕ) (b m : ℕ)
    → ((aarch64_form Movkz).machine word *ℤ pos (2 ^ 0)) +ℤ pos (b * 2 ^ 64) ≡ pos m
    → in_64_bits (movk 0 v word) ≡ (n - n % 2 ^ 16 + m) % 2 ^ 64
movk_lifted v t n is word b m im =
    let high : int_rem_euclid v (pos (2 ^ 16)) ≡ pos (n % 2 ^ 16) =
    int_rem_euclid_is v (pos (2 ^ 16)) (2 ^ 16) (t * 2 ^ 48) n (omega arith) refl
    (let turn : t * 2 ^ 64 ≡ t * 2 ^ 48 * 2 ^ 16 = omega arith in
    subst (λ x. v +ℤ pos x ≡ pos n) turn is) in
    let low : int_rem_euclid v (pos (2 ^ 0)) ≡ pos 0 =
    int_rem_euclid_is v (pos (2 ^ 0)) (2 ^ 0) (t * 2 ^ 64) n (omega arith) refl
    (let turn : t * 2 ^ 64 ≡ t * 2 ^ 64 * 2 ^ 0 = omega arith in
    subst (λ x. v +ℤ pos x ≡ pos n) turn is)
    ∙ ap pos (let none : n % 2 ^ 0 ≡ 0 = omega arith in none) in
    let z = (aarch64_form Movkz).machine word *ℤ pos (2 ^ 0) in
    ap (λ l. in_64_bits (((v -ℤ int_rem_euclid v (pos (2 ^ 16))) +ℤ z) +ℤ l)) low
    ∙ ap (λ h. in_64_bits (((v -ℤ h) +ℤ z) +ℤ pos 0)) high
    ∙ address_is (((v -ℤ pos (n % 2 ^ 16)) +ℤ z) +ℤ pos 0) _
    (lifted_is (((v -ℤ pos (n % 2 ^ 16)) +ℤ z) +ℤ pos 0) (t + b) (n - n % 2 ^ 16 + m)
    (joined v z t b n m is im))
  where
    joined : (v z : ℤ) (t b n m : ℕ) → v +ℤ pos (t * 2 ^ 64) ≡ pos n → z +ℤ pos (b * 2 ^ 64) ≡ pos m
        → (((v -ℤ pos (n % 2 ^ 16)) +ℤ z) +ℤ pos 0) +ℤ pos ((t + b) * 2 ^ 64)
        ≡ pos (n - n % 2 ^ 16 + m)
    joined v z t b n m is im = omega (arith, ints)

-- MOVK of what a register holds of a number
movk_in_register : (v : ℤ) (word : ℕ)
    → in_64_bits (movk 0 (pos (in_64_bits v)) word) ≡ in_64_bits (movk 0 v word)
movk_in_register v word =
    let l = lift v in
    let k = lift ((aarch64_form Movkz).machine word *ℤ pos (2 ^ 0)) in
    let n = l.number in
    let m = k.number in
    let held : in_64_bits v ≡ n % 2 ^ 64 = address_is v _ (lifted_is v l.times n l.is) in
    ap (λ r. in_64_bits (movk 0 (pos r) word)) held
    ∙ movk_lifted (pos (n % 2 ^ 64)) 0 (n % 2 ^ 64) (omega (arith, ints)) word k.times m k.is
    ∙ (let same : (n % 2 ^ 64 - n % 2 ^ 64 % 2 ^ 16 + m) % 2 ^ 64 ≡ (n - n % 2 ^ 16 + m) % 2 ^ 64 =
    omega arith in same)
    ∙ sym (movk_lifted v l.times n l.is word k.times m k.is)

-- what leads from p to s
pub distance_is : (v : ℤ) (p s : ℕ) → p < 2 ^ 64 → s < 2 ^ 64 → IsAddress (pos p +ℤ v) s
    → in_64_bits v ≡ difference_64 s p
distance_is v p s small below leads =
    let l = lift v in
    let is = l.is in
    let there : (p + l.number) % 2 ^ 64 ≡ s =
    ap unsigned_abs (sym (lifted_is (pos p +ℤ v) l.times (p + l.number) (omega (arith, ints)))
    ∙ leads) in
    address_is v _ (lifted_is v l.times l.number l.is)
    ∙ (let same : l.number % 2 ^ 64 ≡ difference_64 s p = omega arith in same)

-- ---- the moves

-- Two moves into register n leave a value.
pub record Moves (n x y value : ℕ) (s : State) : Type 0 where
  pub first : step x s ≡ Some (set n (moved x) s)
  pub second : step y (set n (moved x) s)
      ≡ Some (set n (with_moved y (set n (moved x) s)) (set n (moved x) s))
  pub value_is : with_moved y (set n (moved x) s) ≡ value

pub movz_is_no_movk : (word n : ℕ) → n < 32 → word ≡ 0xd2a00000 + n → is_movk word ≡ false
movz_is_no_movk word n below is =
    let opcode : field word 23 31 ≡ 0xa5 = omega arith in ap (λ o. eqb o 0xe5) opcode

pub offset_moves : relocation_laws.ThreadMoves → (o : Operands) → AreAddresses o → (n : ℕ) → n < 32
    → n ≢ 31 → (movz movk movz1 movk1 : List ℕ) → word_of movz ≡ 0xd2a00000 + n
    → word_of movk ≡ 0xf2800000 + n
    → IsRelocated names.R_AARCH64_TLSLE_MOVW_TPREL_G1 o movz movz1
    → IsRelocated names.R_AARCH64_TLSLE_MOVW_TPREL_G0_NC (following 4 o) movk movk1
    → (s : State) → Moves n (word_of movz1) (word_of movk1) (thread_offset o) s
offset_moves laws o small n below named movz movk_bytes movz1 movk1 is_movz is_kept a b s =
    let x = word_of movz1 in
    let y = word_of movk1 in
    let shift : shift_of (word_of movz) ≡ 16 = omega arith in
    let wide : bit_at (word_of movz) 31 ≡ 1 = omega arith in
    let no_movk = movz_is_no_movk (word_of movz) n below is_movz in
    let moved_in = plain_written (AArch64 Movnz) TpOff (record { start = 16; end = 32 }) a.value movz
    movz1 (ap (λ b. b && nat_lt 16 17) no_movk) refl a.written in
    let first = movnz_after _ _ movz movz1 moved_in wide in
    let second = movk_after _ _ movk_bytes movk1 b.written (omega arith) in
    let rd1 : rd_of x ≡ n = first.rd_is ∙ (let e : rd_of (word_of movz) ≡ n = omega arith in e) in
    let rd2 : rd_of y ≡ n =
    second.rd_is ∙ (let e : rd_of (word_of movk_bytes) ≡ n = omega arith in e) in
    let t = set n (moved x) s in
    let held : read_x (rd_of y) t ≡ moved x =
    ap (λ r. read_x r t) rd2
    ∙ cond-false (eqb n 31) 0 (t.registers n) (ne_eqb n 31 named)
    ∙ read_back n (moved x) n s refl in
    let leads = laws.0.1 o small o.place movz movz1 a
    (ap (λ k. (eqb k 16 && eqb (bit_at (word_of movz) 31) 1) && not (is_movk (word_of movz))) shift
    ∙ ap (λ b. b && not (is_movk (word_of movz))) (eq-eqb _ _ wide) ∙ ap not no_movk)
    (sum_64 o.place 4) movk_bytes movk1 b tt in
    record {
      first = step_move x n s first.decodes rd1 named;
      second = step_movk y n t second.decodes rd2 named;
      value_is =
          ap (λ k. in_64_bits (movk k (pos (read_x (rd_of y) t)) y)) second.shift_is
          ∙ ap (λ r. in_64_bits (movk 0 (pos r) y)) held
          ∙ movk_in_register (movn_or_movz x) y
          ∙ distance_is (movk 0 (movn_or_movz x) y) o.tls_base (symbol_address o) small.tls_base
          (sum_below o.symbol _) leads;
    }
