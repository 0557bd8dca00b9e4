-- LoongArch's lazy PLT.
use Rattle.linker_output.proofs.Imports.{IsAddress, IsHigh, IsLow, IsSomeAnd, LazyEntry, List, LoongArch64, Operands, Some, Word, [], ap, arith, code_of_words, cond, cond-false, cond-true, decodes_load, decodes_sum, difference_64, eqb, false, field, field_of, field_of_32, header_places, high_after, loaded, loongarch_entry, loongarch_name, loongarch_row, low_after, ne_eqb, negsuc, operands_at, or_else, or_parts, padded, pos, rd_of, refl, rj_of, signed, subst, sum_64, sum_zero, sym, symbol_address, take, three_words, word_of, words, wrapped, ℕ, ◌*ℤ◌, ◌++◌, ◌+ℤ◌, ◌/◌, ◌<◌, ◌==◌, ◌^◌, ◌||◌, ◌∙◌, ◌∷◌, ◌≡◌, ◌≢◌, ◌≤◌}
use Rattle.linker_laws.specs.LoongArchMachine.{next_pc, register_target, read, sum_of, State, write, go_to}
use Rattle.linker_laws.proofs.LoongArchSteps.{loaded_of, step_load, step_sum, written, set}
use Rattle.linker_laws.proofs.AArch64Steps.{in_two_steps, address_is}
use Rattle.linker_elf.specs.declared.loongarch64.relocations.LoongArch64Relocation.TheVariants as r
use Rattle.linker_laws.specs.LoongArchMachine as machine
use Rattle.linker_laws.specs.LoongArchRelocationLaws as relocation_laws
use Rattle.linker_output.proofs.LazyRuns.{run_more, second_and_last, one_word, are_addresses_at, eight_on, offset_is}
use Rattle.linker_output.proofs.LoongArchStubLaws.{stays}
use Rattle.linker_output.proofs.StubWords.{applies, no_addend}
use Rattle.linker_output.specs.LazyPlt.{IsCode}
use Rattle.linker_output.specs.LoongArchLazyPlt.{step, upper_address, run, GoesTo, Asks}
use Rattle.linker_output.specs.LoongArchLazyPlt as laws

-- ---- steps

step_upper : (x n : ℕ) (s : State) → IsHigh 0x0e n x → n ≢ 0 → step x s ≡ Some (set n (upper_address x s) s)
step_upper x n s is named =
    ap (λ v. or_else v (machine.step x s))
    (cond-true _ _ _ (ap (λ t. eqb t 0x0e) is.opcode) ∙ written n (rd_of x) _ s is.rd_is named)

-- none of the further instructions
of_machine : (x k : ℕ) (s : State) → x / 2 ^ 22 ≡ k → 2 ≤ k → k / 8 ≢ 0x0e → step x s ≡ machine.step x s
of_machine x k s op most not_upper =
    ap (λ v. or_else v (machine.step x s))
    (cond-false _ _ _ (ne_eqb (x / 2 ^ 25) 0x0e (λ e. not_upper (omega (arith, op, e))))
    ∙ cond-false _ _ _ (ne_eqb (x / 2 ^ 15) 0x23 (λ e. omega (arith, op, most, e)))
    ∙ cond-false _ _ _ (ne_eqb (x / 2 ^ 16) 0x45 (λ e. omega (arith, op, most, e))))

loads_word : (x n m : ℕ) (s : State) → IsLow 0x0a3 n m x → n ≢ 0 → step x s ≡ Some (set n (loaded_of x s) s)
loads_word x n m s is named =
    of_machine x 0x0a3 s is.opcode (omega arith) (λ e. omega (arith, e))
    ∙ step_load x n s (decodes_load x is.opcode) is.rd_is named

adds_number : (x n m : ℕ) (s : State) → IsLow 0x00b n m x → n ≢ 0 → step x s ≡ Some (set n (sum_of x s) s)
adds_number x n m s is named =
    of_machine x 0x00b s is.opcode (omega arith) (λ e. omega (arith, e))
    ∙ step_sum x n s (decodes_sum x is.opcode) is.rd_is named

-- the sum of a register and the number of an instruction
sum_at : (x n m : ℕ) (s : State) → rj_of x ≡ m → read m s ≡ n → sum_of x s ≡ wrapped (pos n +ℤ signed 12 (field x 10 22))
sum_at x n m s rj is = ap (λ k. wrapped (pos (read k s) +ℤ signed 12 (field x 10 22))) rj ∙ ap (λ k. wrapped (pos k +ℤ signed 12 (field x 10 22))) is

-- another register than one that is written
other : (n v m : ℕ) (s : State) → (m == n) ≡ false → read m (set n v s) ≡ read m s
other n v m s e = ap (λ b. cond (eqb m 0) 0 (cond b v (s.registers m))) e

-- ---- a word that the relocations lead to

abbrev operands : LazyEntry → Operands
operands entry =
    operands_at
    (record {
      field = field_of_32 0 (loongarch_name r.R_LARCH_TLS_LE_HI20_R);
      target = Word;
      origin = 0;
      addend = pos 0;
    })
    entry

-- the high part and the low part, from an address on
abbrev led_to : ℕ → ℕ → ℕ → ℕ
led_to pc x y = wrapped (pos (wrapped (pos pc +ℤ (signed 20 (field x 5 25) *ℤ pos 4096))) +ℤ signed 12 (field y 10 22))

leads : (entry : LazyEntry) → entry.address < 2 ^ 64 → entry.word < 2 ^ 64
    → (pc : ℕ) → pc ≡ entry.address → (x y : ℕ)
    → IsAddress ((pos (operands entry).tls_base +ℤ (signed 20 (field x 5 25) *ℤ pos 4096)) +ℤ signed 12 (field y 10 22)) (symbol_address (operands entry))
    → led_to pc x y ≡ entry.word
leads entry inside below pc at x y is =
    ap (λ p. led_to p x y) (at ∙ sym (sum_zero entry.address inside))
    ∙ in_two_steps (pos (operands entry).tls_base +ℤ (signed 20 (field x 5 25) *ℤ pos 4096)) (signed 12 (field y 10 22))
    ∙ address_is _ _ is ∙ no_addend entry.word below

-- ---- an entry

module _ (entry : LazyEntry) (s : State) (x y target : ℕ) (small : target < 2 ^ 64) (at : s.pc ≡ entry.address)
    (high : IsHigh 0x0e 15 x) (low : IsLow 0x0a3 15 15 y)
    (leads : led_to s.pc x y ≡ entry.word) (holds : loaded 8 s.memory entry.word ≡ target) where
  one : State
  one = set 15 (upper_address x s) s

  two : State
  two = set 15 (loaded_of y one) one

  pub three : State
  three = go_to (register_target 0x4c0001ed two) (write 13 (next_pc two) two)

  target_is : read 15 two ≡ target
  unfolding one two
  target_is =
      ap (loaded 8 s.memory) (sum_at y (upper_address x s) 15 one low.rj_is refl ∙ leads) ∙ holds

  others : (n : ℕ) → (n == 13 || n == 15) ≡ false → read n three ≡ read n s
  unfolding one two three
  others n e =
      let not = or_parts (n == 13) (n == 15) e in
      other 13 (next_pc two) n two not.0 ∙ other 15 (loaded_of y one) n one not.1 ∙ other 15 (upper_address x s) n s not.1

  pub goes : GoesTo entry target s three
  unfolding one two three
  goes =
      record {
        pc = ap (λ v. wrapped (pos v +ℤ (pos 0 *ℤ pos 4))) target_is ∙ stays target small;
        t1 = three_words s.pc ∙ ap (λ p. sum_64 p 12) at;
        t3 = target_is;
        registers = others;
        floats = refl;
        memory = refl;
      }

  pub runs : run (x ∷ y ∷ 0x4c0001ed ∷ []) s ≡ Some three
  unfolding one two three
  runs =
      run_more (λ s. s.pc) step x y (0x4c0001ed ∷ []) s one (Some three) (step_upper x 15 s high (omega arith)) refl
      (run_more (λ s. s.pc) step y 0x4c0001ed [] one two (Some three) (loads_word y 15 15 one low (omega arith)) refl refl)

pub enters : relocation_laws.ThreadAddresses → (entry : LazyEntry) → entry.address < 2 ^ 64 → entry.word < 2 ^ 64
    → (code : List ℕ) → IsCode LoongArch64 loongarch_entry entry code
    → (target : ℕ) → target < 2 ^ 64
    → (s : State) → s.pc ≡ entry.address → loaded 8 s.memory entry.word ≡ target
    → (t : State) × (run (words 3 code) s ≡ Some t) × GoesTo entry target s t
enters thread entry inside below code is target small s at holds =
    let o = operands entry in
    let second = is.3 in
    let third = second.3 in
    let pcadd = padded (code_of_words (0x1c00000f ∷ [])) in
    let ld = padded (code_of_words (0x28c001ef ∷ [])) in
    let f = field_of_32 0 (loongarch_name r.R_LARCH_TLS_LE_HI20_R) in
    let a = applies loongarch_name loongarch_row r.R_LARCH_TLS_LE_HI20_R f o pcadd is.0 tt refl is.2.1 in
    let b = applies loongarch_name loongarch_row r.R_LARCH_TLS_LE_LO12_R (field_of 0 (loongarch_name r.R_LARCH_TLS_LE_LO12_R)) o ld second.0 tt refl second.2.1 in
    let x = word_of is.0 in
    let y = word_of second.0 in
    let addresses = are_addresses_at (record { field = f; target = Word; origin = 0; addend = pos 0 }) entry below in
    let high : IsHigh 0x0e 15 x = high_after 12 0x0e 15 _ pcadd is.0 a.applied.written refl refl in
    let low : IsLow 0x0a3 15 15 y = low_after 0x0a3 15 15 _ ld second.0 b.applied.written refl refl refl in
    let to = leads entry inside below s.pc at x y (thread.2 o addresses o.place pcadd is.0 a.applied a.within o.place ld second.0 b.applied tt) in
    let all : words 3 code ≡ x ∷ y ∷ 0x4c0001ed ∷ [] =
    one_word is.0 is.1 code is.2.0 2 x (y ∷ 0x4c0001ed ∷ []) is.4 refl
    (one_word second.0 second.1 is.1 second.2.0 1 y (0x4c0001ed ∷ []) second.4 refl (ap (words 1) (third.4 ∙ ap (λ p. take 8 p ++ third.1) third.2.1))) in (
      three entry s x y target small at high low to holds,
      ap (λ ws. run ws s) all ∙ runs entry s x y target small at high low to holds,
      goes entry s x y target small at high low to holds,
    )

pub enters_so : relocation_laws.ThreadAddresses → laws.Enters
enters_so thread entry inside below code is target small s at holds =
    let e = enters thread entry inside below code is target small s at holds in
    subst (λ end. IsSomeAnd end (GoesTo entry target s)) (sym e.1) e.2

-- ---- the header

module _ (s : State) (x y z : ℕ) where
  a1 : State
  a1 = set 14 (upper_address x s) s

  a2 : State
  a2 = set 13 (difference_64 (read 13 a1) (read 15 a1)) a1

  a3 : State
  a3 = set 15 (loaded_of y a2) a2

  a4 : State
  a4 = set 13 (wrapped (pos (read 13 a3) +ℤ negsuc 43)) a3

  a5 : State
  a5 = set 12 (sum_of z a4) a4

  a6 : State
  a6 = set 13 (read 13 a5 / 2 ^ 1) a5

  a7 : State
  a7 = set 12 (loaded 8 a6.memory (wrapped (pos (read 12 a6) +ℤ pos 8))) a6

  pub a8 : State
  a8 = go_to (register_target 0x4c0001e0 a7) a7

  module _ (first : IsHigh 0x0e 14 x) (third : IsLow 0x0a3 15 14 y) (fifth : IsLow 0x00b 12 14 z) where
    pub runs_header : run (x ∷ 0x0011bdad ∷ y ∷ 0x02ff51ad ∷ z ∷ 0x004505ad ∷ 0x28c0218c ∷ 0x4c0001e0 ∷ []) s ≡ Some a8
    unfolding a1 a2 a3 a4 a5 a6 a7 a8
    runs_header =
        run_more (λ s. s.pc) step x 0x0011bdad (y ∷ 0x02ff51ad ∷ z ∷ 0x004505ad ∷ 0x28c0218c ∷ 0x4c0001e0 ∷ []) s a1 (Some a8) (step_upper x 14 s first (omega arith)) refl
        (run_more (λ s. s.pc) step 0x0011bdad y (0x02ff51ad ∷ z ∷ 0x004505ad ∷ 0x28c0218c ∷ 0x4c0001e0 ∷ []) a1 a2 (Some a8) refl refl
        (run_more (λ s. s.pc) step y 0x02ff51ad (z ∷ 0x004505ad ∷ 0x28c0218c ∷ 0x4c0001e0 ∷ []) a2 a3 (Some a8) (loads_word y 15 14 a2 third (omega arith)) refl
        (run_more (λ s. s.pc) step 0x02ff51ad z (0x004505ad ∷ 0x28c0218c ∷ 0x4c0001e0 ∷ []) a3 a4 (Some a8) refl refl
        (run_more (λ s. s.pc) step z 0x004505ad (0x28c0218c ∷ 0x4c0001e0 ∷ []) a4 a5 (Some a8) (adds_number z 12 14 a4 fifth (omega arith)) refl
        (run_more (λ s. s.pc) step 0x004505ad 0x28c0218c (0x4c0001e0 ∷ []) a5 a6 (Some a8) refl refl
        (run_more (λ s. s.pc) step 0x28c0218c 0x4c0001e0 [] a6 a7 (Some a8) refl refl refl))))))

    t3_ends : read 15 a7 ≡ loaded 8 s.memory (led_to s.pc x y)
    unfolding a1 a2 a3 a4 a5 a6 a7
    t3_ends = ap (loaded 8 s.memory) (sum_at y (upper_address x s) 14 a2 third.rj_is refl)

    t0_is : read 12 a8 ≡ loaded 8 s.memory (wrapped (pos (led_to s.pc x z) +ℤ pos 8))
    unfolding a1 a2 a3 a4 a5 a6 a7 a8
    t0_is = ap (λ n. loaded 8 s.memory (wrapped (pos n +ℤ pos 8))) (sum_at z (upper_address x s) 14 a4 fifth.rj_is refl)

  kept : (n : ℕ) → ((n == 12 || n == 13) || (n == 14 || n == 15)) ≡ false → read n a8 ≡ read n s
  unfolding a1 a2 a3 a4 a5 a6 a7 a8
  kept n e =
      let both = or_parts (n == 12 || n == 13) (n == 14 || n == 15) e in
      let low = or_parts (n == 12) (n == 13) both.0 in
      let high = or_parts (n == 14) (n == 15) both.1 in
      other 12 (loaded 8 a6.memory (wrapped (pos (read 12 a6) +ℤ pos 8))) n a6 low.0
      ∙ other 13 (read 13 a5 / 2 ^ 1) n a5 low.1
      ∙ other 12 (sum_of z a4) n a4 low.0
      ∙ other 13 (wrapped (pos (read 13 a3) +ℤ negsuc 43)) n a3 low.1
      ∙ other 15 (loaded_of y a2) n a2 high.1
      ∙ other 13 (difference_64 (read 13 a1) (read 15 a1)) n a1 low.1
      ∙ other 14 (upper_address x s) n s high.0

pub resolves : relocation_laws.ThreadAddresses → laws.Resolves
unfolding a1 a2 a3 a4 a5 a6 a7 a8
resolves thread entry first inside below bounded within small_index placed code is header is_header resolver object
    resolver_small s at to_header holds next =
    let e = enters thread entry inside below code is entry.header within s at to_header in
    let t = e.0 in
    let gone = e.2 in
    let places = header_places entry.header first in
    let o = operands places in
    let p2 = is_header.3 in
    let p3 = p2.3 in
    let p4 = p3.3 in
    let p5 = p4.3 in
    let p6 = p5.3 in
    let p7 = p6.3 in
    let pcadd = padded (code_of_words (0x1c00000e ∷ [])) in
    let ld = padded (code_of_words (0x28c001cf ∷ [])) in
    let addi = padded (code_of_words (0x02c001cc ∷ [])) in
    let f = field_of_32 0 (loongarch_name r.R_LARCH_TLS_LE_HI20_R) in
    let g = field_of 0 (loongarch_name r.R_LARCH_TLS_LE_LO12_R) in
    let a = applies loongarch_name loongarch_row r.R_LARCH_TLS_LE_HI20_R f o pcadd is_header.0 tt refl is_header.2.1 in
    let b = applies loongarch_name loongarch_row r.R_LARCH_TLS_LE_LO12_R g o ld p3.0 tt refl p3.2.1 in
    let c = applies loongarch_name loongarch_row r.R_LARCH_TLS_LE_LO12_R g o addi p5.0 tt refl p5.2.1 in
    let x = word_of is_header.0 in
    let y = word_of p3.0 in
    let z = word_of p5.0 in
    let addresses = are_addresses_at (record { field = f; target = Word; origin = 0; addend = pos 0 }) places bounded in
    let high : IsHigh 0x0e 14 x = high_after 12 0x0e 14 _ pcadd is_header.0 a.applied.written refl refl in
    let low : IsLow 0x0a3 15 14 y = low_after 0x0a3 15 14 _ ld p3.0 b.applied.written refl refl refl in
    let sum : IsLow 0x00b 12 14 z = low_after 0x00b 12 14 _ addi p5.0 c.applied.written refl refl refl in
    let to = leads places within bounded t.pc gone.pc x y (thread.2 o addresses o.place pcadd is_header.0 a.applied a.within o.place ld p3.0 b.applied tt) in
    let sums_to = leads places within bounded t.pc gone.pc x z (thread.2 o addresses o.place pcadd is_header.0 a.applied a.within o.place addi p5.0 c.applied tt) in
    let w1 : words 8 header ≡ x ∷ 0x0011bdad ∷ y ∷ 0x02ff51ad ∷ z ∷ 0x004505ad ∷ 0x28c0218c ∷ 0x4c0001e0 ∷ [] =
    one_word is_header.0 is_header.1 header is_header.2.0 7 x (0x0011bdad ∷ y ∷ 0x02ff51ad ∷ z ∷ 0x004505ad ∷ 0x28c0218c ∷ 0x4c0001e0 ∷ []) is_header.4 refl
    (ap (words 7) (p2.4 ∙ ap (λ p. take 4 p ++ p2.1) p2.2.1) ∙ ap (λ l. 0x0011bdad ∷ l)
    (one_word p3.0 p3.1 p2.1 p3.2.0 5 y (0x02ff51ad ∷ z ∷ 0x004505ad ∷ 0x28c0218c ∷ 0x4c0001e0 ∷ []) p3.4 refl
    (ap (words 5) (p4.4 ∙ ap (λ p. take 4 p ++ p4.1) p4.2.1) ∙ ap (λ l. 0x02ff51ad ∷ l)
    (one_word p5.0 p5.1 p4.1 p5.2.0 3 z (0x004505ad ∷ 0x28c0218c ∷ 0x4c0001e0 ∷ []) p5.4 refl
    (ap (words 3) (p6.4 ∙ ap (λ p. take 8 p ++ p6.1) p6.2.1) ∙ ap (λ l. 0x004505ad ∷ 0x28c0218c ∷ l) (ap (words 1) (p7.4 ∙ ap (λ p. take 4 p ++ p7.1) p7.2.1))))))) in
    let loads : read 15 (a7 t x y z) ≡ resolver =
    t3_ends t x y z high low sum ∙ ap (loaded 8 t.memory) to ∙ ap (λ m. loaded 8 m first) gone.memory ∙ holds in
    let asked : Asks entry.index resolver object s (a8 t x y z) =
    record {
      pc = ap (λ v. wrapped (pos v +ℤ (pos 0 *ℤ pos 4))) loads ∙ stays resolver resolver_small;
      t0 =
          t0_is t x y z high low sum ∙ ap (λ n. loaded 8 t.memory (wrapped (pos n +ℤ pos 8))) sums_to
          ∙ ap (loaded 8 t.memory) (eight_on first bounded)
          ∙ ap (λ m. loaded 8 m (sum_64 first 8)) gone.memory ∙ next;
      t1 =
          ap (λ n. wrapped (pos (difference_64 n (read 15 t)) +ℤ negsuc 43) / 2 ^ 1) gone.t1
          ∙ ap (λ n. wrapped (pos (difference_64 (sum_64 entry.address 12) n) +ℤ negsuc 43) / 2 ^ 1) gone.t3
          ∙ offset_is entry.header entry.index entry.address within small_index placed;
      registers = λ n e. kept t x y z n e ∙ gone.registers n (second_and_last (n == 12) (n == 13) (n == 14) (n == 15) e);
      floats = gone.floats;
      memory = gone.memory;
    } in
    subst (λ end. IsSomeAnd end (λ t. (t.pc ≡ entry.header)
    × IsSomeAnd (run (words 8 header) t) (Asks entry.index resolver object s))) (sym e.1)
    (gone.pc, subst (λ end. IsSomeAnd end (Asks entry.index resolver object s)) (sym (ap (λ ws. run ws t) w1 ∙ runs_header t x y z high low sum)) asked)
