-- RISC-V's lazy PLT.
use Rattle.linker_output.proofs.Imports.{IType, IsSomeAnd, LazyEntry, List, Operands, Option, Relative, RelativeRiscVLow12, RiscV, RowInfo, Some, UType, Word, [], address_is, ap, arith, code_of_words, difference_64, false, field_of, header_places, load_word, loaded, moved, moved_twice, negsuc, operands_at, or_else, or_parts, other, padded, place_sum, pos, refl, riscv_entry, riscv_form, riscv_name, riscv_relocation, subst, sum_64, sum_word, sum_zero, sym, take, three_words, unwritten, upper_word, whole_number, word_of, words, wrapped, ℕ, ℤ, ◌%◌, ◌++◌, ◌+ℤ◌, ◌-◌, ◌/◌, ◌<◌, ◌==◌, ◌^◌, ◌||◌, ◌∙◌, ◌∷◌, ◌≡◌}
use Rattle.linker_laws.specs.RiscVMachine.{Hart, register, auipc, sums, jumps, executed, of_word, load_number, Instruction, with_integer, goes_on, adds, loads}
use Rattle.linker_elf.specs.Applied.{IsApplied}
use Rattle.linker_elf.specs.declared.riscv64.relocations.RiscVRelocation.TheVariants as r
use Rattle.linker_elf.specs.declared.riscv64.relocations.RiscVRelocation.{RiscVRelocation}
use Rattle.linker_laws.specs.RiscVRelocationLaws.{RelativeAddresses}
use Rattle.linker_output.proofs.LazyRuns.{run_more, second_and_last, one_word, are_addresses_at, eight_on, no_move, offset_is}
use Rattle.linker_output.proofs.RiscVStubLaws.{jr_is, one, two, three, target_is, pc_is, others}
use Rattle.linker_output.proofs.StubWords.{applies, no_addend}
use Rattle.linker_output.specs.LazyPlt.{IsCode}
use Rattle.linker_output.specs.RiscVLazyPlt.{step, stepped, further, run, GoesTo, Asks}
use Rattle.linker_output.specs.RiscVLazyPlt as laws

-- ---- steps

steps_as : (w : ℕ) (i : Instruction) (h : Hart) → of_word w ≡ Some i → step w h ≡ Some (executed 4 i h)
steps_as w i h is = ap (λ v. or_else (stepped v h) (further w h)) is

-- ---- an entry

module _ (entry : LazyEntry) (h : Hart) (u i : ℤ) (target : ℕ) (small : target < 2 ^ 64) (even : target % 2 ≡ 0)
    (at : h.pc ≡ entry.address) (leads : moved (moved h.pc u) i ≡ entry.word) (holds : loaded 8 h.memory entry.word ≡ target) where
  abbrev first_two : Hart
  first_two = two h u i 6 entry.word target small even leads holds

  abbrev pub end : Hart
  end = three h u i 6 entry.word target small even leads holds

  pub goes : GoesTo entry target h end
  unfolding one two three
  goes =
      record {
        pc = pc_is h u i 6 entry.word target small even leads holds;
        t1 = three_words h.pc ∙ ap (λ p. sum_64 p 12) at;
        t3 = target_is h u i 6 entry.word target small even leads holds;
        integers = λ n e.
            others h u i 6 entry.word target small even leads holds n
            (other 6 (sum_64 first_two.pc 4) first_two n (or_parts (n == 6) (n == 28) e).0) (or_parts (n == 6) (n == 28) e).1;
        floats = refl;
        memory = refl;
      }

  pub runs : (x y : ℕ) → of_word x ≡ Some (auipc 28 u) → of_word y ≡ Some (sums (loads 3) 28 28 0 i)
      → run (x ∷ y ∷ 0x000e0367 ∷ []) h ≡ Some end
  unfolding one two three place_sum
  runs x y first second =
      let first_one = one h u i 6 entry.word target small even leads holds in
      run_more (λ h. h.pc) step x y (0x000e0367 ∷ []) h first_one (Some end) (steps_as x (auipc 28 u) h first) refl
      (run_more (λ h. h.pc) step y 0x000e0367 [] first_one first_two (Some end) (steps_as y (sums (loads 3) 28 28 0 i) first_one second) refl
      (steps_as 0x000e0367 (sums jumps 6 28 0 (pos 0)) first_two refl))

-- a word that the relocations lead to

abbrev operands : LazyEntry → Operands
operands entry =
    operands_at
    (record {
      field = field_of 0 (riscv_name r.R_RISCV_PCREL_HI20);
      target = Word;
      origin = 0;
      addend = pos 0;
    })
    entry

leads_to : RelativeAddresses → (entry : LazyEntry) → entry.address < 2 ^ 64 → entry.word < 2 ^ 64
    → (pc : ℕ) → pc ≡ entry.address → (before high before' low : List ℕ)
    → IsSomeAnd (riscv_relocation r.R_RISCV_PCREL_HI20).row (λ row. IsApplied row (operands entry) before high)
    → IsSomeAnd (riscv_relocation r.R_RISCV_PCREL_LO12_I).row (λ row. IsApplied row (operands entry) before' low)
    → moved (moved pc ((riscv_form UType).machine (word_of high))) ((riscv_form IType).machine (word_of low)) ≡ entry.word
leads_to relative entry inside below pc at before high before' low a b =
    let o = operands entry in
    let u = (riscv_form UType).machine (word_of high) in
    let i = (riscv_form IType).machine (word_of low) in
    let addresses = are_addresses_at (record { field = field_of 0 (riscv_name r.R_RISCV_PCREL_HI20); target = Word; origin = 0; addend = pos 0 }) entry below in
    moved_twice pc u i ∙ ap (λ p. wrapped (pos p +ℤ (u +ℤ i))) (at ∙ sym (sum_zero entry.address inside))
    ∙ address_is _ _ (relative.0 o addresses o.place before high a tt o.place before' low b tt)
    ∙ no_addend entry.word below

abbrev row_of : RiscVRelocation → Option RowInfo
row_of name = (riscv_relocation name).row

pub enters : RelativeAddresses → (entry : LazyEntry) → entry.address < 2 ^ 64 → entry.word < 2 ^ 64
    → (code : List ℕ) → IsCode RiscV riscv_entry entry code
    → (target : ℕ) → target < 2 ^ 64 → target % 2 ≡ 0
    → (h : Hart) → h.pc ≡ entry.address → loaded 8 h.memory entry.word ≡ target
    → (t : Hart) × (run (words 3 code) h ≡ Some t) × GoesTo entry target h t
enters relative entry inside below code is target small even h at holds =
    let o = operands entry in
    let second = is.3 in
    let third = second.3 in
    let auipc_t3 = padded (code_of_words (0x00000e17 ∷ [])) in
    let ld_t3 = padded (code_of_words (0x000e3e03 ∷ [])) in
    let high = applies riscv_name row_of r.R_RISCV_PCREL_HI20 (field_of 0 (riscv_name r.R_RISCV_PCREL_HI20)) o auipc_t3 is.0 tt refl is.2.1 in
    let low = applies riscv_name row_of r.R_RISCV_PCREL_LO12_I (field_of 0 (riscv_name r.R_RISCV_PCREL_LO12_I)) o ld_t3 second.0 tt refl second.2.1 in
    let a = high.applied in
    let b = low.applied in
    let x = word_of is.0 in
    let y = word_of second.0 in
    let u = (riscv_form UType).machine x in
    let i = (riscv_form IType).machine y in
    let leads = leads_to relative entry inside below h.pc at auipc_t3 is.0 ld_t3 second.0 a b in
    let last : words 1 second.1 ≡ 0x000e0367 ∷ [] =
    ap (words 1) (third.4 ∙ ap (λ p. take 8 p ++ third.1) third.2.1) in
    let all : words 3 code ≡ x ∷ y ∷ 0x000e0367 ∷ [] =
    one_word is.0 is.1 code is.2.0 2 x (y ∷ 0x000e0367 ∷ []) is.4 refl
    (one_word second.0 second.1 is.1 second.2.0 1 y (0x000e0367 ∷ []) second.4 refl last) in (
      end entry h u i target small even at leads holds,
      ap (λ ws. run ws h) all
          ∙ runs entry h u i target small even at leads holds x y (upper_word Relative o auipc_t3 is.0 a 28 refl refl)
          (load_word RelativeRiscVLow12 o ld_t3 second.0 b 28 28 refl refl refl refl),
      goes entry h u i target small even at leads holds,
    )

pub enters_so : RelativeAddresses → laws.Enters
enters_so relative entry inside below code is target small even h at holds =
    let e = enters relative entry inside below code is target small even h at holds in
    subst (λ end. IsSomeAnd end (GoesTo entry target h)) (sym e.1) e.2

-- ---- the header

module _ (t : Hart) (u i j : ℤ) where
  a1 : Hart
  a1 = executed 4 (auipc 7 u) t

  a2 : Hart
  a2 = goes_on 4 (with_integer 6 (difference_64 (register a1 6) (register a1 28)) a1)

  a3 : Hart
  a3 = executed 4 (sums (loads 3) 28 7 0 i) a2

  a4 : Hart
  a4 = executed 4 (sums adds 6 6 0 (negsuc 43)) a3

  a5 : Hart
  a5 = executed 4 (sums adds 5 7 0 j) a4

  a6 : Hart
  a6 = goes_on 4 (with_integer 6 (register a5 6 / 2 ^ 1) a5)

  a7 : Hart
  a7 = executed 4 (sums (loads 3) 5 5 0 (pos 8)) a6

  pub a8 : Hart
  a8 = executed 4 (sums jumps 0 28 0 (pos 0)) a7

  pub runs_header : (x y z : ℕ) → of_word x ≡ Some (auipc 7 u) → of_word y ≡ Some (sums (loads 3) 28 7 0 i)
      → of_word z ≡ Some (sums adds 5 7 0 j)
      → run (x ∷ 0x41c30333 ∷ y ∷ 0xfd430313 ∷ z ∷ 0x00135313 ∷ 0x0082b283 ∷ 0x000e0067 ∷ []) t ≡ Some a8
  unfolding a1 a2 a3 a4 a5 a6 a7 a8 place_sum
  runs_header x y z first third fifth =
      run_more (λ h. h.pc) step x 0x41c30333 (y ∷ 0xfd430313 ∷ z ∷ 0x00135313 ∷ 0x0082b283 ∷ 0x000e0067 ∷ []) t a1 (Some a8) (steps_as x (auipc 7 u) t first) refl
      (run_more (λ h. h.pc) step 0x41c30333 y (0xfd430313 ∷ z ∷ 0x00135313 ∷ 0x0082b283 ∷ 0x000e0067 ∷ []) a1 a2 (Some a8) refl refl
      (run_more (λ h. h.pc) step y 0xfd430313 (z ∷ 0x00135313 ∷ 0x0082b283 ∷ 0x000e0067 ∷ []) a2 a3 (Some a8) (steps_as y (sums (loads 3) 28 7 0 i) a2 third) refl
      (run_more (λ h. h.pc) step 0xfd430313 z (0x00135313 ∷ 0x0082b283 ∷ 0x000e0067 ∷ []) a3 a4 (Some a8) (steps_as 0xfd430313 (sums adds 6 6 0 (negsuc 43)) a3 refl) refl
      (run_more (λ h. h.pc) step z 0x00135313 (0x0082b283 ∷ 0x000e0067 ∷ []) a4 a5 (Some a8) (steps_as z (sums adds 5 7 0 j) a4 fifth) refl
      (run_more (λ h. h.pc) step 0x00135313 0x0082b283 (0x000e0067 ∷ []) a5 a6 (Some a8) refl refl
      (run_more (λ h. h.pc) step 0x0082b283 0x000e0067 [] a6 a7 (Some a8) (steps_as 0x0082b283 (sums (loads 3) 5 5 0 (pos 8)) a6 refl) refl
      (steps_as 0x000e0067 (sums jumps 0 28 0 (pos 0)) a7 jr_is)))))))

  kept : (n : ℕ) → ((n == 5 || n == 6) || (n == 7 || n == 28)) ≡ false → register a8 n ≡ register t n
  unfolding a1 a2 a3 a4 a5 a6 a7 a8
  kept n e =
      let both = or_parts (n == 5 || n == 6) (n == 7 || n == 28) e in
      let low = or_parts (n == 5) (n == 6) both.0 in
      let high = or_parts (n == 7) (n == 28) both.1 in
      unwritten (sum_64 a7.pc 4) a7 n
      ∙ other 5 (load_number 3 (loaded 8 a6.memory (moved (register a6 5) (pos 8)))) a6 n low.0
      ∙ other 6 (register a5 6 / 2 ^ 1) a5 n low.1
      ∙ other 5 (moved (register a4 7) j) a4 n low.0
      ∙ other 6 (moved (register a3 6) (negsuc 43)) a3 n low.1
      ∙ other 28 (load_number 3 (loaded 8 a2.memory (moved (register a2 7) i))) a2 n high.1
      ∙ other 6 (difference_64 (register a1 6) (register a1 28)) a1 n low.1
      ∙ other 7 (moved t.pc u) t n high.0

pub resolves : RelativeAddresses → laws.Resolves
unfolding a1 a2 a3 a4 a5 a6 a7 a8
resolves relative entry first inside below bounded within aligned small_index placed code is header is_header resolver object
    resolver_small resolver_even object_small h at to_header holds next =
    let e = enters relative entry inside below code is entry.header within (omega (arith, aligned)) h at to_header in
    let t = e.0 in
    let gone = e.2 in
    let places = header_places entry.header first in
    let o = operands places in
    let p2 = is_header.3 in
    let p3 = p2.3 in
    let p4 = p3.3 in
    let p5 = p4.3 in
    let p6 = p5.3 in
    let p7 = p6.3 in
    let auipc_t2 = padded (code_of_words (0x00000397 ∷ [])) in
    let ld_t3 = padded (code_of_words (0x0003be03 ∷ [])) in
    let addi_t0 = padded (code_of_words (0x00038293 ∷ [])) in
    let high = applies riscv_name row_of r.R_RISCV_PCREL_HI20 (field_of 0 (riscv_name r.R_RISCV_PCREL_HI20)) o auipc_t2 is_header.0 tt refl is_header.2.1 in
    let low = applies riscv_name row_of r.R_RISCV_PCREL_LO12_I (field_of 0 (riscv_name r.R_RISCV_PCREL_LO12_I)) o ld_t3 p3.0 tt refl p3.2.1 in
    let sum = applies riscv_name row_of r.R_RISCV_PCREL_LO12_I (field_of 0 (riscv_name r.R_RISCV_PCREL_LO12_I)) o addi_t0 p5.0 tt refl p5.2.1 in
    let a = high.applied in
    let b = low.applied in
    let c = sum.applied in
    let x = word_of is_header.0 in
    let y = word_of p3.0 in
    let z = word_of p5.0 in
    let u = (riscv_form UType).machine x in
    let i = (riscv_form IType).machine y in
    let j = (riscv_form IType).machine z in
    let w1 : words 8 header ≡ x ∷ 0x41c30333 ∷ y ∷ 0xfd430313 ∷ z ∷ 0x00135313 ∷ 0x0082b283 ∷ 0x000e0067 ∷ [] =
    one_word is_header.0 is_header.1 header is_header.2.0 7 x (0x41c30333 ∷ y ∷ 0xfd430313 ∷ z ∷ 0x00135313 ∷ 0x0082b283 ∷ 0x000e0067 ∷ []) is_header.4 refl
    (ap (words 7) (p2.4 ∙ ap (λ p. take 4 p ++ p2.1) p2.2.1) ∙ ap (λ l. 0x41c30333 ∷ l)
    (one_word p3.0 p3.1 p2.1 p3.2.0 5 y (0xfd430313 ∷ z ∷ 0x00135313 ∷ 0x0082b283 ∷ 0x000e0067 ∷ []) p3.4 refl
    (ap (words 5) (p4.4 ∙ ap (λ p. take 4 p ++ p4.1) p4.2.1) ∙ ap (λ l. 0xfd430313 ∷ l)
    (one_word p5.0 p5.1 p4.1 p5.2.0 3 z (0x00135313 ∷ 0x0082b283 ∷ 0x000e0067 ∷ []) p5.4 refl
    (ap (words 3) (p6.4 ∙ ap (λ p. take 8 p ++ p6.1) p6.2.1) ∙ ap (λ l. 0x00135313 ∷ 0x0082b283 ∷ l) (ap (words 1) (p7.4 ∙ ap (λ p. take 4 p ++ p7.1) p7.2.1))))))) in
    let ran : run (words 8 header) t ≡ Some (a8 t u i j) =
    ap (λ ws. run ws t) w1
    ∙ runs_header t u i j x y z (upper_word Relative o auipc_t2 is_header.0 a 7 refl refl)
    (load_word RelativeRiscVLow12 o ld_t3 p3.0 b 28 7 refl refl refl refl)
    (sum_word RelativeRiscVLow12 o addi_t0 p5.0 c 5 7 refl refl refl refl) in
    let memory : loaded 8 t.memory first ≡ resolver = ap (λ m. loaded 8 m first) gone.memory ∙ holds in
    let to : register (a7 t u i j) 28 ≡ resolver =
    ap (λ n. load_number 3 (loaded 8 t.memory n)) (leads_to relative places within bounded t.pc gone.pc auipc_t2 is_header.0 ld_t3 p3.0 a b) ∙ ap (load_number 3) memory
    ∙ whole_number resolver resolver_small in
    let asked : Asks entry.index resolver object h (a8 t u i j) =
    record {
      pc =
          ap (λ n. moved n (pos 0) - moved n (pos 0) % 2) to
          ∙ ap (λ n. n - n % 2) (no_move resolver resolver_small) ∙ omega (arith, resolver_even);
      t0 =
          ap (λ n. load_number 3 (loaded 8 t.memory (moved n (pos 8)))) (leads_to relative places within bounded t.pc gone.pc auipc_t2 is_header.0 addi_t0 p5.0 a c)
          ∙ ap (λ n. load_number 3 (loaded 8 t.memory n)) (eight_on first bounded)
          ∙ ap (λ m. load_number 3 (loaded 8 m (sum_64 first 8))) gone.memory
          ∙ ap (load_number 3) next ∙ whole_number object object_small;
      t1 =
          ap (λ n. moved (difference_64 n (register t 28)) (negsuc 43) / 2 ^ 1) gone.t1
          ∙ ap (λ n. moved (difference_64 (sum_64 entry.address 12) n) (negsuc 43) / 2 ^ 1) gone.t3
          ∙ offset_is entry.header entry.index entry.address within small_index placed;
      integers = λ n e. kept t u i j n e ∙ gone.integers n (second_and_last (n == 5) (n == 6) (n == 7) (n == 28) e);
      floats = gone.floats;
      memory = gone.memory;
    } in
    subst (λ end. IsSomeAnd end (λ t. (t.pc ≡ entry.header)
    × IsSomeAnd (run (words 8 header) t) (Asks entry.index resolver object h))) (sym e.1)
    (gone.pc, subst (λ end. IsSomeAnd end (Asks entry.index resolver object h)) (sym ran) asked)
