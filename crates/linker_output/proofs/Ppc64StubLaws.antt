-- PowerPC64's stubs go to their targets.
use Rattle.linker_output.proofs.Imports.{Bool, Counted, D, Ds, IsAddress, IsSomeAnd, List, None, Option, Some, TocAddresses, [], ap, arith, at_count, cond, drop, eqb, false, field, field_of, if◌then◌else◌, is_mflr, is_mtctr, is_mtlr, length, lifted, linked, loaded, moved, moved_from_link, moved_to_link, opcode_of, operands_of, place_sum, pos, ppc64_form, ppc64_name, ppc64_output, ppc64_row, ra_of, reads_ds, refl, rt_of, run, same_parts, step_counted, stepped, subst, sum_64, sym, symbol_address, three_words, true, with_state, word_of, words, ℕ, ◌%◌, ◌&&◌, ◌*ℤ◌, ◌++◌, ◌+ℤ◌, ◌-◌, ◌==◌, ◌^◌, ◌||◌, ◌∙◌, ◌∷◌, ◌≡◌}
use Rattle.linker_laws.specs.Ppc64Machine.{Formats, base, go_on, State, step}
use Rattle.linker_laws.proofs.Ppc64Words.{HasParts, d_after, ds_after, sum_leads, step_addis, step_ld, step_addi, set}
use Rattle.linker_elf.specs.declared.ppc64.relocations.Ppc64Relocation.TheVariants as r
use Rattle.linker_output.proofs.LazyRuns.{run_more, of_pair}
use Rattle.linker_output.proofs.StubWords.{front_word, applies, no_addend, are_addresses, some_or}
use Rattle.linker_output.specs.Ppc64Stubs.{at, GoesTo}
use Rattle.linker_output.specs.Ppc64Stubs as stubs

-- ---- steps

-- an instruction of none of the opcodes that the further ones have
by_tests : (p q e : Bool) → Formats → ℕ → Counted → Option Counted
by_tests p q e f x c =
    if p && is_mflr x then Some (with_state (moved_from_link (rt_of x) c.state) c)
    else (if p && is_mtlr x then Some (with_state (moved_to_link (rt_of x) c.state) c)
    else (if p && is_mtctr x
    then Some (record { state = go_on c.state; count = c.state.registers (rt_of x) })
    else (if q && x == 0x429f0005 then Some (with_state (linked c.state) c)
    else (if e && x == 0x4e800420 then Some (at_count c)
    else lifted c (step f x c.state)))))

other_opcode : (p q e : Bool) (f : Formats) (x : ℕ) (c : Counted) → p ≡ false → q ≡ false
    → e ≡ false → by_tests p q e f x c ≡ lifted c (step f x c.state)
unfolding by_tests
other_opcode true q e f x c a b d = cc
other_opcode false true e f x c a b d = cc
other_opcode false false true f x c a b d = cc
other_opcode false false false f x c a b d = refl

-- an instruction of the machine
pub of_machine : (f : Formats) (x k : ℕ) (c : Counted) (s : State) → opcode_of x ≡ k → (k == 31) ≡ false
    → (k == 16) ≡ false → (k == 19) ≡ false → step f x c.state ≡ Some s
    → step_counted f x c ≡ Some (with_state s c)
unfolding by_tests
of_machine f x k c s is a b d stepping =
    ap (λ o. stepped f o x c) is
    ∙ other_opcode (k == 31) (k == 16) (k == 19) f x c a b d ∙ ap (lifted c) stepping

-- ---- a pair of instructions, `mtctr 12` and `bctr`

-- what `addis` puts in r12, and the states after the pair, of which the second puts w there
abbrev pub upper : ℕ → ℕ → Counted → ℕ
upper b x c = moved (base b c.state) ((ppc64_form D).machine x *ℤ pos (2 ^ 16))

abbrev pub after_1 : ℕ → Counted → Counted
after_1 v c = with_state (set 12 v c.state) c

abbrev pub after_2 : ℕ → ℕ → Counted → Counted
after_2 v w c = with_state (set 12 w (after_1 v c).state) (after_1 v c)

abbrev after_3 : ℕ → ℕ → Counted → Counted
after_3 v w c = record { state = go_on (after_2 v w c).state; count = w }

pub once : (a b : Bool) (v r : ℕ) → (a || b) ≡ false → cond b v r ≡ r
once true b v r e = cc
once false true v r e = cc
once false false v r e = refl

pub four_go : (f : Formats) (c : Counted) (x y b w target : ℕ) → HasParts 15 12 b x
    → step_counted f y (after_1 (upper b x c) c) ≡ Some (after_2 (upper b x c) w c) → w ≡ target → target % 4 ≡ 0
    → IsSomeAnd (run f (x ∷ y ∷ 0x7d8903a6 ∷ 0x4e800420 ∷ []) c) (GoesTo target c)
four_go f c x y b w target first second is even =
    let v = upper b x c in
    subst (λ end. IsSomeAnd end (GoesTo target c))
    (sym (run_more (λ c. c.state.pc) (step_counted f) x y (0x7d8903a6 ∷ 0x4e800420 ∷ []) c (after_1 v c) (Some (at_count (after_3 v w c)))
    (of_machine f x 15 c (after_1 v c).state first.opcode_is refl refl refl (step_addis f x 12 b c.state first)) refl
    (run_more (λ c. c.state.pc) (step_counted f) y 0x7d8903a6 (0x4e800420 ∷ []) (after_1 v c) (after_2 v w c) (Some (at_count (after_3 v w c))) second refl
    (run_more (λ c. c.state.pc) (step_counted f) 0x7d8903a6 0x4e800420 [] (after_2 v w c) (after_3 v w c) (Some (at_count (after_3 v w c))) refl refl refl))))
    (record {
      pc = ap (λ n. n - n % 4) is ∙ omega (arith, even);
      r12 = is;
      registers = λ n e. once (eqb n 0) (eqb n 12) w _ e ∙ once (eqb n 0) (eqb n 12) v (c.state.registers n) e;
      floats = refl;
      link = refl;
      memory = refl;
    })

-- ---- the instructions before them, by which r12 has an address

abbrev first_1 : Counted → Counted
first_1 c = with_state (moved_from_link 0 c.state) c

abbrev first_2 : Counted → Counted
first_2 c = with_state (linked (first_1 c).state) (first_1 c)

abbrev first_3 : Counted → Counted
first_3 c = with_state (moved_from_link 12 (first_2 c).state) (first_2 c)

abbrev first_4 : Counted → Counted
first_4 c = with_state (moved_to_link 0 (first_3 c).state) (first_3 c)

begins : (f : Formats) (c : Counted) (x : ℕ) (rest : List ℕ)
    → run f (0x7c0802a6 ∷ 0x429f0005 ∷ 0x7d8802a6 ∷ 0x7c0803a6 ∷ x ∷ rest) c ≡ run f (x ∷ rest) (first_4 c)
begins f c x rest =
    let end = run f (x ∷ rest) (first_4 c) in
    run_more (λ c. c.state.pc) (step_counted f) 0x7c0802a6 0x429f0005 (0x7d8802a6 ∷ 0x7c0803a6 ∷ x ∷ rest) c (first_1 c) end refl refl
    (run_more (λ c. c.state.pc) (step_counted f) 0x429f0005 0x7d8802a6 (0x7c0803a6 ∷ x ∷ rest) (first_1 c) (first_2 c) end refl refl
    (run_more (λ c. c.state.pc) (step_counted f) 0x7d8802a6 0x7c0803a6 (x ∷ rest) (first_2 c) (first_3 c) end refl refl
    (run_more (λ c. c.state.pc) (step_counted f) 0x7c0803a6 x rest (first_3 c) (first_4 c) end refl refl refl)))

neither : (a b : Bool) (v l r : ℕ) → (a || b) ≡ false → cond b v (cond a l r) ≡ r
neither true b v l r e = cc
neither false true v l r e = cc
neither false false v l r e = refl

begun : (c : Counted) (target : ℕ) (end : Option Counted) → IsSomeAnd end (GoesTo target (first_4 c)) → IsSomeAnd end (GoesTo target c)
begun c target None is = is
begun c target (Some d) is =
    record {
      pc = is.pc;
      r12 = is.r12;
      registers = λ n e. is.registers n e ∙ neither (eqb n 0) (eqb n 12) _ _ (c.state.registers n) e;
      floats = is.floats;
      link = is.link;
      memory = is.memory;
    }

-- from where a call enters, by the pair
enters : (f : Formats) (c : Counted) (code pair : List ℕ) (x y target : ℕ) → length pair ≡ 8
    → code ≡ ppc64_output.load_stub.head ++ (pair ++ ppc64_output.load_stub.tail)
    → word_of pair ≡ x → word_of (drop 4 pair) ≡ y
    → IsSomeAnd (run f (x ∷ y ∷ 0x7d8903a6 ∷ 0x4e800420 ∷ []) (first_4 c)) (GoesTo target (first_4 c))
    → IsSomeAnd (run f (words 8 (drop 4 code)) c) (GoesTo target c)
enters f c code pair x y target len is first second goes =
    let tail = ppc64_output.load_stub.tail in
    subst (λ end. IsSomeAnd end (GoesTo target c))
    (sym (ap (λ b. run f (words 8 (drop 4 b)) c) is
    ∙ ap (λ ws. run f (0x7c0802a6 ∷ 0x429f0005 ∷ 0x7d8802a6 ∷ 0x7c0803a6 ∷ ws) c)
    (of_pair 2 (pair ++ tail) pair tail len refl
    ∙ ap (λ w. w ∷ word_of (drop 4 pair) ∷ 0x7d8903a6 ∷ 0x4e800420 ∷ []) first
    ∙ ap (λ w. x ∷ w ∷ 0x7d8903a6 ∷ 0x4e800420 ∷ []) second)
    ∙ begins f c x (y ∷ 0x7d8903a6 ∷ 0x4e800420 ∷ [])))
    (begun c target (run f (x ∷ y ∷ 0x7d8903a6 ∷ 0x4e800420 ∷ []) (first_4 c)) goes)

-- ---- the laws

pub loads_go : TocAddresses → stubs.Loads
loads_go toc place word target inside below small even code is f c entry holds =
    let stub = ppc64_output.load_stub in
    let o = operands_of stub place word in
    let pair = is.0 in
    let half = is.2.0 in
    let template = stub.pair in
    let high = applies ppc64_name ppc64_row r.R_PPC64_TOC16_HA stub.first o template half tt refl is.2.1 in
    let low = applies ppc64_name ppc64_row r.R_PPC64_TOC16_LO_DS (field_of 4 (ppc64_name r.R_PPC64_TOC16_LO_DS)) o half pair tt refl is.2.2 in
    let x = word_of half in
    let y = word_of (drop 4 pair) in
    let old : word_of (drop 4 half) ≡ 0xe98c0000 = ap word_of high.applied.written.rest in
    let first : HasParts 15 12 12 x = d_after _ _ template half high.applied.written in
    let after = ds_after _ _ (drop 4 half) (drop 4 pair) low.applied.written in
    let second : HasParts 58 12 12 y =
    same_parts (ap opcode_of old) (ap rt_of old) (ap ra_of old) after.0 in
    let a = (ppc64_form D).machine x *ℤ pos (2 ^ 16) in
    let b = (ppc64_form Ds).machine y in
    let v = upper 12 x (first_4 c) in
    let leads : moved v b ≡ word =
    ap (λ p. moved (moved p a) b) (ap (λ p. sum_64 (sum_64 p 4) 4) entry ∙ three_words place)
    ∙ sum_leads o.got_base (symbol_address o) a b
    (subst (λ z. IsAddress ((pos o.got_base +ℤ a) +ℤ z) (symbol_address o)) (reads_ds y second.opcode_is)
    (toc.1 o (are_addresses stub place word below) o.place template half high.applied tt o.place (drop 4 half) (drop 4 pair) low.applied tt))
    ∙ no_addend word below in
    enters f c code pair x y target is.1 is.3 (sym (front_word pair) ∙ ap word_of low.kept ∙ front_word half) refl
    (four_go f (first_4 c) x y 12 (loaded 8 c.state.memory (moved v b)) target first
    (of_machine f y 58 (after_1 v (first_4 c)) (after_2 v (loaded 8 c.state.memory (moved v b)) (first_4 c)).state second.opcode_is refl refl refl
    (step_ld f y 12 12 (after_1 v (first_4 c)).state second (after.1 ∙ ap (λ n. field n 0 2) old)))
    (ap (loaded 8 c.state.memory) leads ∙ holds) even)

pub jumps_go : TocAddresses → stubs.Jumps
jumps_go toc place target inside below even code is f c entry =
    let stub = some_or ppc64_output.load_stub ppc64_output.jump_stub in
    let o = operands_of stub place target in
    let pair = is.0 in
    let half = is.2.0 in
    let template = stub.pair in
    let high = applies ppc64_name ppc64_row r.R_PPC64_TOC16_HA stub.first o template half tt refl is.2.1 in
    let low = applies ppc64_name ppc64_row r.R_PPC64_TOC16_LO (field_of 4 (ppc64_name r.R_PPC64_TOC16_LO)) o half pair tt refl is.2.2 in
    let x = word_of half in
    let y = word_of (drop 4 pair) in
    let old : word_of (drop 4 half) ≡ 0x398c0000 = ap word_of high.applied.written.rest in
    let first : HasParts 15 12 12 x = d_after _ _ template half high.applied.written in
    let second : HasParts 14 12 12 y =
    same_parts (ap opcode_of old) (ap rt_of old) (ap ra_of old)
    (d_after _ _ (drop 4 half) (drop 4 pair) low.applied.written) in
    let a = (ppc64_form D).machine x *ℤ pos (2 ^ 16) in
    let b = (ppc64_form D).machine y in
    let v = upper 12 x (first_4 c) in
    let value : moved v b ≡ target =
    ap (λ p. moved (moved p a) b) (ap (λ p. sum_64 (sum_64 p 4) 4) entry ∙ three_words place)
    ∙ sum_leads o.got_base (symbol_address o) a b
    (toc.0 o (are_addresses stub place target below) o.place template half high.applied tt o.place (drop 4 half) (drop 4 pair) low.applied tt)
    ∙ no_addend target below in
    enters f c code pair x y target is.1 is.3 (sym (front_word pair) ∙ ap word_of low.kept ∙ front_word half) refl
    (four_go f (first_4 c) x y 12 (moved v b) target first
    (of_machine f y 14 (after_1 v (first_4 c)) (after_2 v (moved v b) (first_4 c)).state second.opcode_is refl refl refl
    (step_addi f y 12 12 (after_1 v (first_4 c)).state second))
    value even)

pub first_stores : stubs.FirstStoresToc
unfolding place_sum
first_stores = (
  λ place target code is f s. ap (λ b. step f (at 0 b) s) is.3,
  λ place target code is f s. ap (λ b. step f (at 0 b) s) is.3,
)
