-- AArch64's stubs go to their targets.
use Rattle.linker_output.proofs.Imports.{AArch64, Bool, IsInstructionOf, IsSomeAnd, IsTrue, None, Option, RelativeAddresses, Some, WritesPair, [], aarch64_name, aarch64_output, aarch64_row, add_after, adds_pair, adrp_after, ap, arith, cond, drop, eqb, false, field, field_of, ldr_after, loads, of_registers, operands_of, or_else, refl, run_by, subst, sum_64, sum_zero, sym, symbol_address, true, word_of, words, ℕ, ◌++◌, ◌||◌, ◌∙◌, ◌∷◌, ◌≡◌}
use Rattle.linker_output.specs.AArch64Stubs.{GoesTo, run_stub, further, stub_step}
use Rattle.linker_laws.specs.AArch64Machine.{load_64, adrp_address, added, add, ldr, go_to, State, step, loaded, go_on}
use Rattle.linker_laws.proofs.AArch64Steps.{set}
use Rattle.linker_utils.specs.AArch64Rewrites.{rd_of, rn_of, IsLdr64}
use Rattle.linker_elf.specs.declared.aarch64.relocations.AArch64Relocation.TheVariants as r
use Rattle.linker_output.proofs.LazyRuns.{run_more, of_pair}
use Rattle.linker_output.proofs.StubWords.{front_word, applies, no_addend, are_addresses, some_or}
use Rattle.linker_output.specs.AArch64Stubs as stubs

-- two instructions of the machine, and BR
runs : (x y z : ℕ) (s t u v : State) → step x s ≡ Some t → t.pc ≡ sum_64 s.pc 4 → step y t ≡ Some u → u.pc ≡ sum_64 t.pc 4
    → stub_step z u ≡ Some v → run_by (λ s. s.pc) stub_step (x ∷ y ∷ z ∷ []) s ≡ Some v
runs x y z s t u v first on second on2 third =
    run_more (λ s. s.pc) stub_step x y (z ∷ []) s t (Some v) (ap (λ e. or_else e (further x s)) first) on
    (run_more (λ s. s.pc) stub_step y z [] t u (Some v) (ap (λ e. or_else e (further y t)) second) on2 third)

-- a register that neither instruction writes
kept : (b c : Bool) (v w r : ℕ) → (b || c) ≡ false → cond c w (cond b v r) ≡ r
kept true c v w r e = cc
kept false true v w r e = cc
kept false false v w r e = refl

kept_once : (b c : Bool) (v w r : ℕ) → (b || c) ≡ false → cond b w (cond b v r) ≡ r
kept_once true c v w r e = cc
kept_once false c v w r e = refl

pub loads_go : RelativeAddresses → stubs.Loads
loads_go relative place target inside below code is s at =
    let stub = aarch64_output.load_stub in
    let o = operands_of stub place target in
    let pair = is.0 in
    let half = is.2.0 in
    let template = stub.pair in
    let high = applies aarch64_name aarch64_row r.R_AARCH64_ADR_PREL_PG_HI21 stub.first o template half tt refl is.2.1 in
    let low = applies aarch64_name aarch64_row r.R_AARCH64_LDST64_ABS_LO12_NC (field_of 4 (aarch64_name r.R_AARCH64_LDST64_ABS_LO12_NC)) o half pair tt refl is.2.2 in
    let x = word_of half in
    let y = word_of (drop 4 pair) in
    let old : word_of (drop 4 half) ≡ 0xf9400211 = ap word_of high.applied.written.rest in
    let all : words 3 code ≡ x ∷ y ∷ 0xd61f0220 ∷ [] =
    of_pair 1 code pair stub.tail is.1 is.3 ∙ ap (λ w. w ∷ y ∷ 0xd61f0220 ∷ []) (sym (front_word pair) ∙ ap word_of low.kept ∙ front_word half) in
    let second : IsInstructionOf ldr 17 16 y =
    of_registers (ap rd_of old) (ap rn_of old)
    (ldr_after _ _ (drop 4 half) (drop 4 pair) low.applied.written (subst IsLdr64 (sym old) refl)) in
    let l = loads o 16 17 x y (symbol_address o) s (adrp_after _ _ template half high.applied.written refl) second (omega arith) (omega arith) (at ∙ sym (sum_zero place inside))
    (relative.0.4 o (are_addresses stub place target below) o.place template half high.applied tt o.place (drop 4 half) (drop 4 pair) low.applied tt) in
    let t = set 16 (adrp_address x s) s in
    let u = set 17 (loaded y t) t in
    subst (λ end. IsSomeAnd end (GoesTo (load_64 s.memory target) s))
    (sym (ap (λ ws. run_by (λ s. s.pc) stub_step ws s) all ∙ runs x y 0xd61f0220 s t u (go_to (u.registers 17) u) l.first refl l.second refl refl))
    (record {
      pc = l.value_is ∙ ap (load_64 s.memory) (no_addend target below);
      registers = λ n e. kept (eqb n 16) (eqb n 17) _ _ _ e;
      memory = refl;
      thread_pointer = refl;
    })

pub jumps_go : RelativeAddresses → stubs.Jumps
jumps_go relative place target inside below code is s at =
    let stub = some_or aarch64_output.load_stub aarch64_output.jump_stub in
    let o = operands_of stub place target in
    let pair = is.0 in
    let half = is.2.0 in
    let template = stub.pair in
    let high = applies aarch64_name aarch64_row r.R_AARCH64_ADR_PREL_PG_HI21 stub.first o template half tt refl is.2.1 in
    let low = applies aarch64_name aarch64_row r.R_AARCH64_ADD_ABS_LO12_NC (field_of 4 (aarch64_name r.R_AARCH64_ADD_ABS_LO12_NC)) o half pair tt refl is.2.2 in
    let x = word_of half in
    let y = word_of (drop 4 pair) in
    let old : word_of (drop 4 half) ≡ 0x91000210 = ap word_of high.applied.written.rest in
    let all : words 3 code ≡ x ∷ y ∷ 0xd61f0200 ∷ [] =
    of_pair 1 code pair stub.tail is.1 is.3 ∙ ap (λ w. w ∷ y ∷ 0xd61f0200 ∷ []) (sym (front_word pair) ∙ ap word_of low.kept ∙ front_word half) in
    let second : IsInstructionOf add 16 16 y =
    of_registers (ap rd_of old) (ap rn_of old)
    (add_after _ _ (drop 4 half) (drop 4 pair) low.applied.written (ap (λ w. field w 22 32) old)) in
    let l = adds_pair o 16 x y (symbol_address o) s (adrp_after _ _ template half high.applied.written refl) second (omega arith) (at ∙ sym (sum_zero place inside))
    (relative.0.0 o (are_addresses stub place target below) o.place template half high.applied tt o.place (drop 4 half) (drop 4 pair) low.applied tt) in
    let t = set 16 (adrp_address x s) s in
    let u = set 16 (added y t) t in
    subst (λ end. IsSomeAnd end (GoesTo target s))
    (sym (ap (λ ws. run_by (λ s. s.pc) stub_step ws s) all ∙ runs x y 0xd61f0200 s t u (go_to (u.registers 16) u) l.first refl l.second refl refl))
    (record {
      pc = l.value_is ∙ no_addend target below;
      registers = λ n e. kept_once (eqb n 16) (eqb n 17) _ _ _ e;
      memory = refl;
      thread_pointer = refl;
    })

-- ---- after `bti c`

after_landing : (target : ℕ) (s : State) (end : Option State) → IsSomeAnd end (GoesTo target (go_on s)) → IsSomeAnd end (GoesTo target s)
after_landing target s None is = is
after_landing target s (Some t) is =
    record { pc = is.pc; registers = is.registers; memory = is.memory; thread_pointer = is.thread_pointer }

pub landing_loads_go : RelativeAddresses → stubs.LandingLoads
landing_loads_go relative place target inside below code is s at =
    let stub = aarch64_output.load_stub in
    let plain = is.0 ++ stub.tail in
    let later = sum_64 place 4 in
    let writes : WritesPair AArch64 stub (operands_of stub later target) is.0 =
    subst (λ p. WritesPair AArch64 stub (record (operands_of stub place target) { place = p; got_base = p }) is.0)
    (sym (sum_zero later (omega arith))) is.2 in
    let goes =
    loads_go relative later target (omega arith) below plain (is.0, is.1, writes, refl) (go_on s) (ap (λ p. sum_64 p 4) at) in
    let lands : run_stub 4 code s ≡ run_stub 3 plain (go_on s) =
    ap (λ c. run_stub 4 c s) is.3
    ∙ run_more (λ s. s.pc) stub_step 0xd503245f (word_of plain) (words 2 (drop 4 plain)) s (go_on s) (run_stub 3 plain (go_on s)) refl refl refl in (
      subst (λ c. IsTrue (stubs.is_bti_c (word_of c))) (sym is.3) refl,
      subst (λ end. IsSomeAnd end (GoesTo (load_64 s.memory target) s)) (sym lands)
          (after_landing (load_64 s.memory target) s (run_stub 3 plain (go_on s)) goes),
    )
