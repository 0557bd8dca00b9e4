-- RISC-V's stub goes to the address in its word.
use Rattle.linker_output.proofs.Imports.{IType, List, Relative, RelativeRiscVLow12, Some, UType, address_is, ap, arith, at_second, at_start, difference_64, drop, false, fetched_word, field, field_of, length, length-append, length-drop, load_word, loaded, low_long, moved, moved_twice, operands_of, other, place_sum, pos, refl, riscv_form, riscv_name, riscv_relocation, steps, subst, sum_64, sum_zero, sym, unwritten, upper_long, upper_word, whole_number, word_of, wrapped, ℕ, ℤ, ◌%◌, ◌+ℤ◌, ◌-◌, ◌<◌, ◌==◌, ◌^◌, ◌∙◌, ◌≡◌}
use Rattle.linker_laws.specs.RiscVMachine.{Hart, register, auipc, sums, jumps, executed, of_word, load_number, Runs, fetched, rs1_of, loads}
use Rattle.linker_riscv64.specs.RiscVFields.{opcode_of, funct3_of, rd_of}
use Rattle.linker_laws.specs.RiscVRelocationLaws.{RelativeAddresses}
use Rattle.linker_elf.specs.declared.riscv64.relocations.RiscVRelocation.TheVariants as r
use Rattle.linker_output.specs.RiscVOutput.{riscv_output}
use Rattle.linker_output.specs.RiscVStubs.{GoesTo}
use Rattle.linker_output.specs.RiscVStubs as stubs
use Rattle.linker_output.proofs.LazyRuns.{no_move}
use Rattle.linker_output.proofs.StubWords.{front_word, first_is, second_is, third_is, applies, no_addend, are_addresses}

at_third : (pc : ℕ) → pc < 2 ^ 64 → difference_64 (sum_64 (sum_64 pc 4) 4) pc ≡ 8
at_third pc small = omega arith

-- `jr t3`
pub jr_is : of_word 0x000e0067 ≡ Some (sums jumps 0 28 0 (pos 0))
unfolding place_sum
jr_is = refl

-- the three instructions, the last of which puts the address after it in a register
module _ (h : Hart) (u : ℤ) (i : ℤ) (l word target : ℕ) (small : target < 2 ^ 64) (even : target % 2 ≡ 0)
    (leads : moved (moved h.pc u) i ≡ word) (holds : loaded 8 h.memory word ≡ target) where
  unfoldable pub one : Hart
  one = executed 4 (auipc 28 u) h

  unfoldable pub two : Hart
  two = executed 4 (sums (loads 3) 28 28 0 i) one

  unfoldable pub three : Hart
  three = executed 4 (sums jumps l 28 0 (pos 0)) two

  pub target_is : register two 28 ≡ target
  unfolding one two
  target_is =
      ap (λ n. load_number 3 (loaded 8 h.memory n)) leads ∙ ap (load_number 3) holds
      ∙ whole_number target small

  pub pc_is : three.pc ≡ target
  unfolding three
  pc_is =
      ap (λ n. moved n (pos 0) - moved n (pos 0) % 2) target_is
      ∙ ap (λ n. n - n % 2) (no_move target small) ∙ omega (arith, even)

  pub others : (r : ℕ) → register three r ≡ register two r → (r == 28) ≡ false → register three r ≡ register h r
  unfolding one two three
  others r same a =
      same ∙ other 28 (load_number 3 (loaded 8 one.memory (moved (register one 28) i))) one r a
      ∙ other 28 (moved h.pc u) h r a

module _ (h : Hart) (u : ℤ) (i : ℤ) (word target : ℕ) (small : target < 2 ^ 64) (even : target % 2 ≡ 0)
    (leads : moved (moved h.pc u) i ≡ word) (holds : loaded 8 h.memory word ≡ target) where
  abbrev before : Hart
  before = two h u i 0 word target small even leads holds

  abbrev pub end : Hart
  end = three h u i 0 word target small even leads holds

  pub goes : GoesTo target h end
  unfolding one two three
  goes =
      record {
        pc = pc_is h u i 0 word target small even leads holds;
        integers = λ r. others h u i 0 word target small even leads holds r (unwritten (sum_64 before.pc 4) before r);
        floats = refl;
        memory = refl;
      }

  pub runs : (code : List ℕ) → h.pc < 2 ^ 64 → fetched code ≡ Some (4, auipc 28 u)
      → fetched (drop 4 code) ≡ Some (4, sums (loads 3) 28 28 0 i)
      → fetched (drop 8 code) ≡ Some (4, sums jumps 0 28 0 (pos 0))
      → Runs 3 code h.pc h end
  unfolding one two three
  runs code inside first second third = (
    one h u i 0 word target small even leads holds,
    steps code h.pc 0 4 (auipc 28 u) h (at_start h.pc inside) first,
    (
      before,
      steps code h.pc 4 4 (sums (loads 3) 28 28 0 i) (one h u i 0 word target small even leads holds) (at_second h.pc inside) second,
      (end, steps code h.pc 8 4 (sums jumps 0 28 0 (pos 0)) before (at_third h.pc inside) third, refl),
    ),
  )

pub loads_go : RelativeAddresses → stubs.Loads
loads_go relative place word target inside below small even code is h at holds =
    let stub = riscv_output.load_stub in
    let o = operands_of stub place word in
    let pair = is.0 in
    let half = is.2.0 in
    let template = stub.pair in
    let high = applies riscv_name (λ name. (riscv_relocation name).row) r.R_RISCV_PCREL_HI20 stub.first o template half tt refl is.2.1 in
    let low = applies riscv_name (λ name. (riscv_relocation name).row) r.R_RISCV_PCREL_LO12_I (field_of 4 (riscv_name r.R_RISCV_PCREL_LO12_I)) o half pair tt refl is.2.2 in
    let a = high.applied in
    let b = low.applied in
    let old : word_of (drop 4 half) ≡ 0x000e3e03 = ap word_of a.written.rest in
    let front : word_of code ≡ word_of half =
    first_is code pair stub.tail is.1 is.3 ∙ sym (front_word pair) ∙ ap word_of low.kept ∙ front_word half in
    let next = second_is code pair stub.tail is.1 is.3 in
    let rest = third_is code pair stub.tail is.1 is.3 in
    let len : length code ≡ 12 = ap length is.3 ∙ length-append pair stub.tail ∙ omega (arith, is.1) in
    let u = (riscv_form UType).machine (word_of half) in
    let i = (riscv_form IType).machine (word_of (drop 4 pair)) in
    let leads : moved (moved h.pc u) i ≡ word =
    moved_twice h.pc u i ∙ ap (λ p. wrapped (pos p +ℤ (u +ℤ i))) (at ∙ sym (sum_zero place inside))
    ∙ address_is _ _ (relative.0 o (are_addresses stub place word below) o.place template half a tt o.place (drop 4 half) (drop 4 pair) b tt)
    ∙ no_addend word below in
    let first : fetched code ≡ Some (4, auipc 28 u) =
    fetched_word code (auipc 28 u)
    (ap (λ w. field w 0 2) front ∙ upper_long Relative o template half a 0x17 refl refl)
    (omega (arith, len)) (ap of_word front ∙ upper_word Relative o template half a 28 refl refl) in
    let second : fetched (drop 4 code) ≡ Some (4, sums (loads 3) 28 28 0 i) =
    fetched_word (drop 4 code) (sums (loads 3) 28 28 0 i)
    (ap (λ w. field w 0 2) next ∙ low_long RelativeRiscVLow12 o (drop 4 half) (drop 4 pair) b 0x03 refl (ap opcode_of old))
    (omega (arith, len, length-drop 4 code))
    (ap of_word next ∙ load_word RelativeRiscVLow12 o (drop 4 half) (drop 4 pair) b 28 28 (ap opcode_of old) (ap funct3_of old) (ap rd_of old) (ap rs1_of old)) in
    let third : fetched (drop 8 code) ≡ Some (4, sums jumps 0 28 0 (pos 0)) =
    fetched_word (drop 8 code) (sums jumps 0 28 0 (pos 0)) (ap (λ b. field (word_of b) 0 2) rest)
    (omega (arith, len, length-drop 8 code)) (ap (λ b. of_word (word_of b)) rest ∙ jr_is) in (
      end h u i word target small even leads holds,
      subst (λ p. Runs 3 code p h (end h u i word target small even leads holds)) at
          (runs h u i word target small even leads holds code (subst (λ p. p < 2 ^ 64) (sym at) inside) first second third),
      goes h u i word target small even leads holds,
    )
