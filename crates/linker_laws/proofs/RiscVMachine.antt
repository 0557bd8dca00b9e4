-- What RISC-V's instructions are, by their bits, and what they leave.
use Rattle.linker_laws.proofs.Imports.{CjType, Hart, IType, Instruction, IsAddress, JType, List, Option, Some, Steps, UType, UiType, action_of, ap, arith, auipc, consecutive_bits_sum, difference_64, drop, false, fetched, field, from_le_bytes, if◌then◌else◌, ints, jal, jumps, length, lui, moved, nat_tests, negsuc, of_half, of_word, option_map, place_sum, pos, refl, replaced, riscv_form, riscv_places, rs1_of, rs2_of, signed, sum_64, sums, sym, ui_high, ui_low, unsigned_abs, w16, w32, with_action, with_integer, without_bit_0, wrapped, ℕ, ℤ, ◌%◌, ◌&&◌, ◌*ℤ◌, ◌*◌, ◌+ℤ◌, ◌+◌, ◌-◌, ◌/◌, ◌<◌, ◌==◌, ◌^◌, ◌∙◌, ◌≡◌, ◌≢◌, ◌≤◌}
use Rattle.linker_riscv64.specs.RiscVFields.{funct3_of, opcode_of, rd_of}
use Rattle.linker_laws.proofs.RiscV.{bit_cleared}
use Rattle.linker_laws.proofs.Sums.{lift}
pub use Rattle.linker_laws.proofs.Sums.{wrapped_is}
use Rattle.linker_laws.specs.RiscVMachine.{register, add, executed, sized}
use Rattle.linker_laws.proofs.Words.{same_low_two}

-- ---- sums of addresses

pub is_address : (z : ℤ) → IsAddress z (wrapped z)
is_address (pos n) = refl
is_address (negsuc n) = refl

pub address_is : (z : ℤ) (t : ℕ) → IsAddress z t → wrapped z ≡ t
address_is z t e = ap unsigned_abs e

-- a sum in two steps
pub moved_twice : (n : ℕ) (a b : ℤ) → moved (moved n a) b ≡ moved n (a +ℤ b)
moved_twice n a b =
    let x = lift a in
    let y = lift b in
    let e = x.is in
    let f = y.is in
    let first : moved n a ≡ (n + x.number) % 2 ^ 64 =
    wrapped_is (pos n +ℤ a) x.times (n + x.number) (omega (arith, ints)) in
    let second : moved ((n + x.number) % 2 ^ 64) b ≡ ((n + x.number) % 2 ^ 64 + y.number) % 2 ^ 64 =
    wrapped_is (pos ((n + x.number) % 2 ^ 64) +ℤ b) y.times ((n + x.number) % 2 ^ 64 + y.number)
    (omega (arith, ints)) in
    let both : moved n (a +ℤ b) ≡ (n + x.number + y.number) % 2 ^ 64 =
    wrapped_is (pos n +ℤ (a +ℤ b)) (x.times + y.times) (n + x.number + y.number)
    (omega (arith, ints)) in
    ap (λ m. moved m b) first ∙ second
    ∙ (let same : ((n + x.number) % 2 ^ 64 + y.number) % 2 ^ 64
    ≡ (n + x.number + y.number) % 2 ^ 64 = omega arith in same)
    ∙ sym both

-- `jalr` clears bit 0 of the sum, modulo 2 ^ 64
pub cleared_sum : (z : ℤ) (t : ℕ) → IsAddress (without_bit_0 z) t → wrapped z - wrapped z % 2 ≡ t
cleared_sum z t e =
    sym (address_is (without_bit_0 z) (wrapped z - wrapped z % 2)
    (bit_cleared z (wrapped z) (is_address z)))
    ∙ address_is (without_bit_0 z) t e

pub times_one : (n : ℕ) (z : ℤ) → moved n z ≡ wrapped (pos n +ℤ (z *ℤ pos 1))
times_one n z = ap (λ y. wrapped (pos n +ℤ y)) (omega (arith, ints))

-- ---- where the code is

pub at_start : (pc : ℕ) → pc < 2 ^ 64 → difference_64 pc pc ≡ 0
at_start pc small = omega arith

pub at_second : (pc : ℕ) → pc < 2 ^ 64 → difference_64 (sum_64 pc 4) pc ≡ 4
at_second pc small = omega arith

-- ---- instructions by their bits

pub is_long : (x : ℕ) (opcode : ℕ) → opcode_of x ≡ opcode → opcode % 4 ≡ 3 → field x 0 2 ≡ 3
is_long x opcode e long = omega arith

pub fetched_word : (bytes : List ℕ) (i : Instruction) → field (from_le_bytes w32 bytes) 0 2 ≡ 3
    → 4 ≤ length bytes → of_word (from_le_bytes w32 bytes) ≡ Some i → fetched bytes ≡ Some (4, i)
fetched_word bytes i low long is = grind (arith, nat_tests, same_low_two bytes, ap (sized 4) is)

pub fetched_half : (bytes : List ℕ) (i : Instruction) → field (from_le_bytes w16 bytes) 0 2 ≡ 1
    → 2 ≤ length bytes → of_half (from_le_bytes w16 bytes) ≡ Some i → fetched bytes ≡ Some (2, i)
fetched_half bytes i low long is = grind (arith, nat_tests, ap (sized 2) is)

-- an instruction at the hart's pc is executed
pub steps : (code : List ℕ) (start k n : ℕ) (i : Instruction) (h : Hart)
    → difference_64 h.pc start ≡ k → fetched (drop k code) ≡ Some (n, i)
    → Steps code start h (executed n i h)
steps code start k n i h at is =
    ap (option_map (λ j. executed j.0 j.1 h)) (ap (λ o. fetched (drop o code)) at ∙ is)

module _ (x : ℕ) where
  by_opcode : ℕ → Option Instruction
  by_opcode o =
      if o == 0x37 then Some (lui (rd_of x) ((riscv_form UType).machine x))
      else (if o == 0x17 then Some (auipc (rd_of x) ((riscv_form UType).machine x))
      else (if o == 0x6f then Some (jal (rd_of x) ((riscv_form JType).machine x))
      else (if o == 0x33 && (funct3_of x == 0 && field x 25 32 == 0)
      then Some (add (rd_of x) (rs1_of x) (rs2_of x))
      else with_action x (action_of o (funct3_of x)))))

  pub is_lui : opcode_of x ≡ 0x37 → of_word x ≡ Some (lui (rd_of x) ((riscv_form UType).machine x))
  unfolding by_opcode
  is_lui e = ap by_opcode e

  pub is_auipc : opcode_of x ≡ 0x17
      → of_word x ≡ Some (auipc (rd_of x) ((riscv_form UType).machine x))
  unfolding by_opcode
  is_auipc e = ap by_opcode e

  pub is_jal : opcode_of x ≡ 0x6f → of_word x ≡ Some (jal (rd_of x) ((riscv_form JType).machine x))
  unfolding by_opcode
  is_jal e = ap by_opcode e

  pub is_jalr : opcode_of x ≡ 0x67 → funct3_of x ≡ 0
      → of_word x ≡ Some (sums jumps (rd_of x) (rs1_of x) 0 ((riscv_form IType).machine x))
  unfolding by_opcode
  is_jalr e f = ap by_opcode e ∙ ap (λ n. with_action x (action_of 0x67 n)) f

  pub is_sum : opcode_of x ≡ 0x33 → funct3_of x ≡ 0 → field x 25 32 ≡ 0
      → of_word x ≡ Some (add (rd_of x) (rs1_of x) (rs2_of x))
  unfolding by_opcode
  is_sum e f g =
      let rest = with_action x (action_of 0x33 (funct3_of x)) in
      ap by_opcode e
      ∙ ap (λ n. if n == 0 && field x 25 32 == 0
      then Some (add (rd_of x) (rs1_of x) (rs2_of x)) else rest) f
      ∙ ap (λ n. if n == 0 then Some (add (rd_of x) (rs1_of x) (rs2_of x)) else rest) g

pub is_cj : (half : ℕ) → field half 0 2 ≡ 1 → field half 13 16 ≡ 5
    → of_half half ≡ Some (jal 0 ((riscv_form CjType).machine half))
is_cj half quadrant function = grind (arith, nat_tests, quadrant, function)

-- ---- a window of two words

pub ui_of_words : (lo hi : ℕ) → lo < 2 ^ 32 → (riscv_form UiType).machine (lo + hi * 2 ^ 32)
    ≡ (riscv_form UType).machine lo +ℤ (riscv_form IType).machine hi
ui_of_words lo hi small =
    let x = lo + hi * 2 ^ 32 in
    let high : place_sum ui_high x ≡ place_sum ui_high lo =
    consecutive_bits_sum replaced 20 12 12 0x800 x refl
    ∙ (let e : x / 2 ^ 12 % 2 ^ 20 * 2 ^ 12 ≡ lo / 2 ^ 12 % 2 ^ 20 * 2 ^ 12 = omega arith in e)
    ∙ sym (consecutive_bits_sum replaced 20 12 12 0x800 lo refl) in
    let low : place_sum ui_low x ≡ place_sum (riscv_places IType) hi =
    consecutive_bits_sum replaced 12 0 52 0 x refl
    ∙ (let e : x / 2 ^ 52 % 2 ^ 12 * 2 ^ 0 ≡ hi / 2 ^ 20 % 2 ^ 12 * 2 ^ 0 = omega arith in e)
    ∙ sym (consecutive_bits_sum replaced 12 0 20 0 hi refl) in
    ap (λ n. signed 32 n +ℤ signed 12 (place_sum ui_low x)) high
    ∙ ap (λ n. signed 32 (place_sum ui_high lo) +ℤ signed 12 n) low

-- ---- registers

pub other : (rd n : ℕ) (h : Hart) (q : ℕ) → (q == rd) ≡ false
    → register (with_integer rd n h) q ≡ register h q
other rd n h q e = grind (arith, nat_tests, e)

pub written : (rd n : ℕ) (h : Hart) → rd ≢ 0 → register (with_integer rd n h) rd ≡ n
written rd n h some = grind (arith, nat_tests)

-- x0 keeps nothing
pub unwritten : (n : ℕ) (h : Hart) (q : ℕ) → register (with_integer 0 n h) q ≡ register h q
unwritten n h q = grind (arith, nat_tests)
