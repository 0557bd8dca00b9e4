-- AArch64's stubs to anywhere go there.
use Rattle.linker_output.proofs.Imports.{Bool, Fields, IsSomeAnd, List, None, Some, [], aarch64_name, aarch64_output, aarch64_row, ap, append-nil, arith, cast_unsigned, cond, cond-true, drop, eq-eqb, eqb, false, low_bytes, number_of_bytes, operands_of, place_sum, pos, refl, run_by, subst, sum_64, sym, true, w64, ℕ, ◌%◌, ◌*◌, ◌++◌, ◌+ℤ◌, ◌+◌, ◌<◌, ◌^◌, ◌||◌, ◌∙◌, ◌∷◌, ◌≡◌}
use Rattle.linker_output.specs.AArch64Stubs.{GoesTo, literal, registers_added, stub_step, run_stub}
use Rattle.linker_laws.specs.AArch64Machine.{load_64, go_to, in_64_bits, write_x, adr_address, State, go_on, next_pc}
use Rattle.linker_elf.specs.declared.aarch64.relocations.AArch64Relocation.TheVariants as r
use Rattle.linker_output.proofs.StubWords.{applies, are_addresses, some_or}
use Rattle.linker_output.specs.AArch64Stubs as stubs

-- ---- numbers

low_number : (number : ℕ) (rest : List ℕ) → number_of_bytes 8 (low_bytes 8 number ++ rest) ≡ number % 2 ^ 64
low_number number rest = omega arith

whole_below : (before after : List ℕ) (number : ℕ) → after ≡ low_bytes 8 number ++ drop 8 before
    → number_of_bytes 8 after < 2 ^ 64
whole_below before after number written =
    let e : number_of_bytes 8 after ≡ number % 2 ^ 64 =
    ap (number_of_bytes 8) written ∙ low_number number (drop 8 before) in omega arith

same_number : (n target : ℕ) → n < 2 ^ 64 → target < 2 ^ 64
    → (0 + n) % 2 ^ (8 * 8) ≡ sum_64 target (cast_unsigned w64 (pos 0)) % 2 ^ (8 * 8) → n ≡ target
same_number n target small below e = omega arith

distance_leads : (n place target : ℕ) → target < 2 ^ 64
    → (sum_64 place 16 + n) % 2 ^ (8 * 8) ≡ sum_64 target (cast_unsigned w64 (pos 12)) % 2 ^ (8 * 8)
    → sum_64 n (sum_64 place 4) ≡ target
distance_leads n place target below e = omega arith

above : (p n : ℕ) → in_64_bits (pos p +ℤ pos n) ≡ sum_64 p n
above p n = omega arith

no_more : (p : ℕ) → sum_64 (sum_64 p 4) 0 ≡ sum_64 p 4
no_more p = omega arith

-- registers that no instruction writes
kept_once : (b c : Bool) (v r : ℕ) → (b || c) ≡ false → cond b v r ≡ r
kept_once true c v r e = cc
kept_once false c v r e = refl

kept_thrice : (b c : Bool) (u v w r : ℕ) → (b || c) ≡ false → cond b u (cond c v (cond b w r)) ≡ r
kept_thrice true c u v w r e = cc
kept_thrice false true u v w r e = cc
kept_thrice false false u v w r e = refl

-- what the instructions' immediates are
far_literal : (s : State) → literal 0x58000050 s ≡ load_64 s.memory (sum_64 s.pc 8)
unfolding place_sum
far_literal s = ap (load_64 s.memory) (above s.pc 8)

relative_literal : (s : State) → literal 0x58000090 s ≡ load_64 s.memory (sum_64 s.pc 16)
unfolding place_sum
relative_literal s = ap (load_64 s.memory) (above s.pc 16)

relative_start : (s : State) → adr_address 0x10000011 s ≡ sum_64 s.pc 0
unfolding place_sum
relative_start s = above s.pc 0

-- ---- by the address

far_runs : (s : State) → run_by (λ s. s.pc) stub_step (0x58000050 ∷ 0xd61f0200 ∷ []) s
    ≡ Some (go_to (literal 0x58000050 s) (go_on (write_x 16 (literal 0x58000050 s) s)))
far_runs s =
    cond-true (eqb (next_pc s) (next_pc s)) _ None (eq-eqb (next_pc s) (next_pc s) refl)

pub reaches_go : Fields → stubs.Reaches
reaches_go fields place target inside below code is s at loads =
    let stub = some_or aarch64_output.load_stub aarch64_output.far_stub in
    let o = operands_of stub place target in
    let half = is.2.0 in
    let template = stub.pair in
    let f = applies aarch64_name aarch64_row r.R_AARCH64_ABS64 stub.first o template half tt refl is.2.1 in
    let bytes : code ≡ stub.head ++ half =
    is.3 ∙ ap (λ b. stub.head ++ (b ++ [])) is.2.2 ∙ ap (λ b. stub.head ++ b) (append-nil half) in
    let n = number_of_bytes 8 half in
    let value : literal 0x58000050 s ≡ target =
    far_literal s ∙ ap (λ p. load_64 s.memory (sum_64 p 8)) at ∙ loads ∙ ap (λ c. number_of_bytes 8 (drop 8 c)) bytes
    ∙ same_number n target (whole_below template half _ f.applied.written) below
    (fields.0 o (are_addresses stub place target below) template half f.applied) in
    subst (λ end. IsSomeAnd end (GoesTo target s))
    (sym (ap (λ c. run_stub 2 c s) bytes ∙ far_runs s))
    (record {
      pc = value;
      registers = λ n e. kept_once (eqb n 16) (eqb n 17) _ _ e;
      memory = refl;
      thread_pointer = refl;
    })

-- ---- by the distance

abbrev first : State → State
first s = go_on (write_x 16 (literal 0x58000090 s) s)

abbrev second : State → State
second s = go_on (write_x 17 (adr_address 0x10000011 (first s)) (first s))

abbrev sum : State → ℕ
sum s = registers_added 0x8b110210 (second s)

abbrev third : State → State
third s = go_on (write_x 16 (sum s) (second s))

relative_runs : (s : State) → run_by (λ s. s.pc) stub_step (0x58000090 ∷ 0x10000011 ∷ 0x8b110210 ∷ 0xd61f0200 ∷ []) s
    ≡ Some (go_to (sum s) (third s))
relative_runs s =
    cond-true (eqb (next_pc s) (next_pc s)) _ None (eq-eqb (next_pc s) (next_pc s) refl)
    ∙ cond-true (eqb (next_pc (first s)) (next_pc (first s))) _ None (eq-eqb (next_pc (first s)) (next_pc (first s)) refl)
    ∙ cond-true (eqb (next_pc (second s)) (next_pc (second s))) _ None (eq-eqb (next_pc (second s)) (next_pc (second s)) refl)

pub reaches_relative_go : Fields → stubs.ReachesRelative
reaches_relative_go fields place target inside below code is s at loads =
    let stub = some_or aarch64_output.load_stub aarch64_output.far_relative_stub in
    let o = operands_of stub place target in
    let half = is.2.0 in
    let template = stub.pair in
    let f = applies aarch64_name aarch64_row r.R_AARCH64_PREL64 stub.first o template half tt refl is.2.1 in
    let bytes : code ≡ stub.head ++ half =
    is.3 ∙ ap (λ b. stub.head ++ (b ++ [])) is.2.2 ∙ ap (λ b. stub.head ++ b) (append-nil half) in
    let n = number_of_bytes 8 half in
    let distance : literal 0x58000090 s ≡ n =
    relative_literal s ∙ ap (λ p. load_64 s.memory (sum_64 p 16)) at ∙ loads ∙ ap (λ c. number_of_bytes 8 (drop 16 c)) bytes in
    let begins : adr_address 0x10000011 (first s) ≡ sum_64 place 4 =
    relative_start (first s) ∙ no_more s.pc ∙ ap (λ p. sum_64 p 4) at in
    let value : sum s ≡ target =
    ap (λ v. sum_64 v (adr_address 0x10000011 (first s))) distance ∙ ap (sum_64 n) begins
    ∙ distance_leads n place target below
    (fields.3 o (are_addresses stub place target below) template half f.applied) in
    subst (λ end. IsSomeAnd end (GoesTo target s))
    (sym (ap (λ c. run_stub 4 c s) bytes ∙ relative_runs s))
    (record {
      pc = value;
      registers = λ n e. kept_thrice (eqb n 16) (eqb n 17) _ _ _ _ e;
      memory = refl;
      thread_pointer = refl;
    })
