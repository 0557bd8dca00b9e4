-- LoongArch's stubs go to their targets.
use Rattle.linker_output.proofs.Imports.{AreBytes, Bool, IsCall, IsLow, IsSomeAnd, None, Relocated, Some, [], ap, append-nil, arith, cond, cond-true, drop, entry_and_addend, eq-eqb, eqb, false, field_of, high_after, ints, length, loaded, loongarch_name, loongarch_row, low_after, operands_of, pos, rd_of, refl, rj_of, subst, sum_zero, sym, true, word_of, wrapped, ℕ, ◌*ℤ◌, ◌+ℤ◌, ◌/◌, ◌<◌, ◌^◌, ◌∙◌, ◌∷◌, ◌≡◌}
use Rattle.linker_laws.specs.LoongArchMachine.{next_pc, register_target, execute, page_address, far_address, State, step, run, write, continue, go_to, go_on}
use Rattle.linker_laws.proofs.LoongArchSteps.{loaded_of, set, run_pair}
use Rattle.std.proofs.lemmas.List.Elements.{All-cons, All-nil}
use Rattle.linker_elf.specs.declared.loongarch64.relocations.LoongArch64Relocation.TheVariants as r
use Rattle.linker_laws.specs.LoongArchRelocationLaws as relocation_laws
use Rattle.linker_laws.proofs.LoongArchCalls.{call_is, decodes_far, decodes_jirl, new_first, new_second, target_is}
use Rattle.linker_laws.proofs.LoongArchPairs.{loads}
use Rattle.linker_output.proofs.StubWords.{front_word, first_is, second_is, third_is, applies, no_addend, are_addresses, some_or}
use Rattle.linker_output.specs.LoongArchOutput.{loongarch_output}
use Rattle.linker_output.specs.LoongArchStubs.{GoesTo}
use Rattle.linker_output.specs.LoongArchStubs as stubs

-- ---- steps

run_three : (x y z : ℕ) (s t u v : State) → step x s ≡ Some t → t.pc ≡ next_pc s → step y t ≡ Some u
    → u.pc ≡ next_pc t → step z u ≡ Some v → run (x ∷ y ∷ z ∷ []) s ≡ Some v
run_three x y z s t u v first on second on2 third =
    ap (continue (next_pc s) (λ r. run (y ∷ z ∷ []) r)) first
    ∙ cond-true (eqb t.pc (next_pc s)) (run (y ∷ z ∷ []) t) None (eq-eqb t.pc (next_pc s) on)
    ∙ run_pair y z t u v second on2 third

-- `jirl` adds 0
pub stays : (v : ℕ) → v < 2 ^ 64 → wrapped (pos v +ℤ (pos 0 *ℤ pos 4)) ≡ v
stays v small = omega (arith, ints)

kept_twice : (c b : Bool) (w v r : ℕ) → b ≡ false → cond c 0 (cond b w (cond b v r)) ≡ cond c 0 r
kept_twice c true w v r e = cc
kept_twice c false w v r e = refl

kept_once : (c b : Bool) (v r : ℕ) → b ≡ false → cond c 0 (cond b v r) ≡ cond c 0 r
kept_once c true v r e = cc
kept_once c false v r e = refl

-- ---- the laws

pub loads_go : relocation_laws.RelativeAddresses → stubs.Loads
loads_go relative place word target inside below small code is s at holds =
    let stub = loongarch_output.load_stub in
    let o = operands_of stub place word in
    let pair = is.0 in
    let half = is.2.0 in
    let template = stub.pair in
    let high = applies loongarch_name loongarch_row r.R_LARCH_GOT_PC_HI20 stub.first o template half tt refl is.2.1 in
    let low = applies loongarch_name loongarch_row r.R_LARCH_GOT_PC_LO12 (field_of 4 (loongarch_name r.R_LARCH_GOT_PC_LO12)) o half pair tt refl is.2.2 in
    let x = word_of half in
    let y = word_of (drop 4 pair) in
    let z : ℕ = 0x4c0001e0 in
    let old : word_of (drop 4 half) ≡ 0x28c001ef = ap word_of high.applied.written.rest in
    let front : word_of code ≡ x =
    first_is code pair stub.tail is.1 is.3 ∙ sym (front_word pair) ∙ ap word_of low.kept ∙ front_word half in
    let second : IsLow 0x0a3 15 15 y =
    low_after 0x0a3 15 15 _ (drop 4 half) (drop 4 pair) low.applied.written (ap (λ w. w / 2 ^ 22) old) (ap rd_of old) (ap rj_of old) in
    let l = loads o 15 x y (entry_and_addend o) s (high_after 12 0x0d 15 _ template half high.applied.written refl refl) second (omega arith) (at ∙ sym (sum_zero place inside))
    (relative.1 o (are_addresses stub place word below) o.place template half high.applied high.within o.place (drop 4 half) (drop 4 pair) low.applied tt) in
    let t = set 15 (page_address x s) s in
    let u = set 15 (loaded_of y t) t in
    subst (λ end. IsSomeAnd end (GoesTo target s))
    (sym (ap (λ w. run (w ∷ word_of (drop 4 code) ∷ word_of (drop 8 code) ∷ []) s) front
    ∙ ap (λ w. run (x ∷ w ∷ word_of (drop 8 code) ∷ []) s) (second_is code pair stub.tail is.1 is.3)
    ∙ ap (λ w. run (x ∷ y ∷ w ∷ []) s) (ap word_of (third_is code pair stub.tail is.1 is.3))
    ∙ run_three x y z s t u (go_to (register_target z u) u) l.first refl l.second refl refl))
    (record {
      pc = ap (λ v. wrapped (pos v +ℤ (pos 0 *ℤ pos 4))) (l.value_is ∙ ap (loaded 8 s.memory) (no_addend word below) ∙ holds) ∙ stays target small;
      registers = λ n e. kept_twice (eqb n 0) (eqb n 15) _ _ (s.registers n) e;
      floats = refl;
      memory = refl;
    })

template_bytes : AreBytes (0x0f ∷ 0 ∷ 0 ∷ 0x1e ∷ 0xe0 ∷ 1 ∷ 0 ∷ 0x4c ∷ [])
template_bytes =
    let P : ℕ → Type 0 = λ byte. byte < 2 ^ 8 in
    All-cons P 15 (0 ∷ 0 ∷ 30 ∷ 224 ∷ 1 ∷ 0 ∷ 76 ∷ []) (omega arith)
    (All-cons P 0 (0 ∷ 30 ∷ 224 ∷ 1 ∷ 0 ∷ 76 ∷ []) (omega arith)
    (All-cons P 0 (30 ∷ 224 ∷ 1 ∷ 0 ∷ 76 ∷ []) (omega arith)
    (All-cons P 30 (224 ∷ 1 ∷ 0 ∷ 76 ∷ []) (omega arith)
    (All-cons P 224 (1 ∷ 0 ∷ 76 ∷ []) (omega arith)
    (All-cons P 1 (0 ∷ 76 ∷ []) (omega arith)
    (All-cons P 0 (76 ∷ []) (omega arith)
    (All-cons P 76 ([]) (omega arith)
    (All-nil P))))))))

pub jumps_go : relocation_laws.Calls → stubs.Jumps
jumps_go calls place target inside below code bytes is s at =
    let stub = some_or loongarch_output.load_stub loongarch_output.jump_stub in
    let o = operands_of stub place target in
    let half = is.2.0 in
    let template = stub.pair in
    let both = applies loongarch_name loongarch_row r.R_LARCH_CALL36 stub.first o template half tt refl is.2.1 in
    let same : code ≡ half = is.3 ∙ append-nil is.0 ∙ is.2.2 in
    let made : Relocated (loongarch_row r.R_LARCH_CALL36) o template half =
    record { applied = both.applied; len = (ap length (sym is.2.2) ∙ is.1); old_bytes = template_bytes; bytes = subst AreBytes same bytes } in
    let call : IsCall 0 template 0 =
    record { within = omega arith; first = refl; base_not_zero = omega arith; second = refl; base = refl; links = refl } in
    let c = call_is 0 o template half call made in
    let p = word_of half in
    let q = word_of (drop 4 half) in
    let u = set 15 (far_address p s) s in
    let first : step p s ≡ Some u =
    ap (λ i. execute i p s) (decodes_far p c.far) ∙ ap (λ m. Some (go_on (write m (far_address p s) s))) c.far_rd in
    let second : step q u ≡ Some (go_to (register_target q u) u) =
    ap (λ i. execute i q u) (decodes_jirl q c.jumps) ∙ ap (λ m. Some (go_to (register_target q u) (write m (next_pc u) u))) c.links in
    let reached = target_is o 15 p q s half (new_first 0 o template half call made) (new_second 0 o template half call made)
    refl refl c.base (omega arith) (at ∙ sym (sum_zero place inside)) (calls o (are_addresses stub place target below) o.place template half both.applied tt) in
    subst (λ end. IsSomeAnd end (GoesTo target s))
    (sym (ap (λ b. run (word_of b ∷ word_of (drop 4 b) ∷ []) s) same
    ∙ run_pair p q s u (go_to (register_target q u) u) first refl second))
    (record {
      pc = reached ∙ no_addend target below;
      registers = λ n e. kept_once (eqb n 0) (eqb n 15) _ (s.registers n) e;
      floats = refl;
      memory = refl;
    })
