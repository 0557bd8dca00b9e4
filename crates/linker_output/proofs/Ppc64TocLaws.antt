-- PowerPC64's stubs by the TOC pointer and by prefixed instructions go to their targets.
use Rattle.linker_output.proofs.Imports.{Counted, D, Ds, IsAddress, IsSomeAnd, List, None, Prefixed, Prefixes, Some, TocAddresses, WritesPair, [], address_is, ap, arith, at_count, by_prefixed, by_toc, code_of_words, cond-true, continue_by, drop, eq-eqb, eqb, field, field_of, jump_to_r12, length, lifted, loaded, moved, opcode_of, operands_of, pos, ppc64_form, ppc64_name, ppc64_row, prefixed_of, ra_of, reads_ds, refl, rt_of, run, run_prefixed, same_parts, step_counted, subst, sum_64, sum_zero, sym, symbol_address, take, take-append_seam, times_one, with_state, word_of, words, ℕ, ◌%◌, ◌*ℤ◌, ◌++◌, ◌+ℤ◌, ◌-◌, ◌<◌, ◌^◌, ◌∙◌, ◌∷◌, ◌≡◌}
use Rattle.linker_elf.specs.declared.elf.architecture.Architecture.TheVariants.{Ppc64}
use Rattle.linker_laws.specs.Ppc64Machine.{Formats, go_on, step_prefixed, State}
use Rattle.linker_laws.proofs.Ppc64Words.{HasParts, d_after, ds_after, sum_leads, step_ld}
use Rattle.linker_elf.specs.declared.ppc64.relocations.Ppc64Relocation.TheVariants as r
use Rattle.linker_laws.proofs.Ppc64Prefixed.{HasPrefixedParts, prefixed_after, set_8, step_pld, step_paddi}
use Rattle.linker_output.proofs.LazyRuns.{run_more, of_pair}
use Rattle.linker_output.proofs.Ppc64StubLaws.{of_machine, upper, after_1, after_2, once, four_go}
use Rattle.linker_output.proofs.StubWords.{front_word, third_is, applies, no_addend, are_addresses}
use Rattle.linker_output.specs.Ppc64Stubs.{GoesTo}
use Rattle.linker_output.specs.Ppc64Stubs as stubs

-- `mtctr 12` and `bctr`
abbrev tail : List ℕ
tail = code_of_words jump_to_r12

-- ---- by the TOC pointer

four_are : (code pair : List ℕ) (x y : ℕ) → length pair ≡ 8 → code ≡ pair ++ tail → word_of pair ≡ x
    → word_of (drop 4 pair) ≡ y → words 4 code ≡ x ∷ y ∷ 0x7d8903a6 ∷ 0x4e800420 ∷ []
four_are code pair x y len is first second =
    of_pair 2 code pair tail len is
    ∙ ap (λ w. w ∷ word_of (drop 4 pair) ∷ 0x7d8903a6 ∷ 0x4e800420 ∷ []) first
    ∙ ap (λ w. x ∷ w ∷ 0x7d8903a6 ∷ 0x4e800420 ∷ []) second

goes : TocAddresses → (toc word target : ℕ) → toc < 2 ^ 64 → word < 2 ^ 64 → target % 4 ≡ 0
    → (code pair : List ℕ) → length pair ≡ 8 → WritesPair Ppc64 by_toc (operands_of by_toc toc word) pair
    → code ≡ pair ++ tail → (f : Formats) (c : Counted) → c.state.registers 2 ≡ toc
    → loaded 8 c.state.memory word ≡ target
    → IsSomeAnd (run f (words 4 code) c) (GoesTo target c)
goes law toc word target inside below even code pair len writes is f c base holds =
    let o = operands_of by_toc toc word in
    let half = writes.0 in
    let template = by_toc.pair in
    let high = applies ppc64_name ppc64_row r.R_PPC64_TOC16_HA by_toc.first o template half tt refl writes.1 in
    let low = applies ppc64_name ppc64_row r.R_PPC64_TOC16_LO_DS (field_of 4 (ppc64_name r.R_PPC64_TOC16_LO_DS)) o half pair tt refl writes.2 in
    let x = word_of half in
    let y = word_of (drop 4 pair) in
    let old : word_of (drop 4 half) ≡ 0xe98c0000 = ap word_of high.applied.written.rest in
    let first : HasParts 15 12 2 x = d_after _ _ template half high.applied.written in
    let after = ds_after _ _ (drop 4 half) (drop 4 pair) low.applied.written in
    let second : HasParts 58 12 12 y =
    same_parts (ap opcode_of old) (ap rt_of old) (ap ra_of old) after.0 in
    let a = (ppc64_form D).machine x *ℤ pos (2 ^ 16) in
    let b = (ppc64_form Ds).machine y in
    let v = upper 2 x c in
    let w = loaded 8 c.state.memory (moved v b) in
    let leads : moved v b ≡ word =
    ap (λ p. moved (moved p a) b) (base ∙ sym (sum_zero toc inside))
    ∙ sum_leads o.got_base (symbol_address o) a b
    (subst (λ z. IsAddress ((pos o.got_base +ℤ a) +ℤ z) (symbol_address o)) (reads_ds y second.opcode_is)
    (law.1 o (are_addresses by_toc toc word below) o.place template half high.applied tt o.place (drop 4 half) (drop 4 pair) low.applied tt))
    ∙ no_addend word below in
    subst (λ ws. IsSomeAnd (run f ws c) (GoesTo target c))
    (sym (four_are code pair x y len is (sym (front_word pair) ∙ ap word_of low.kept ∙ front_word half) refl))
    (four_go f c x y 2 w target first
    (of_machine f y 58 (after_1 v c) (after_2 v w c).state second.opcode_is refl refl refl
    (step_ld f y 12 12 (after_1 v c).state second (after.1 ∙ ap (λ n. field n 0 2) old)))
    (ap (loaded 8 c.state.memory) leads ∙ holds) even)

pub toc_loads_go : TocAddresses → stubs.TocLoads
toc_loads_go law toc word target inside below small even code is f c =
    goes law toc word target inside below even (drop 4 code) is.0 is.1 is.2 (ap (drop 4) is.3) f c

pub toc_reaches_go : TocAddresses → stubs.TocReaches
toc_reaches_go law toc word target inside below small even code is f c =
    goes law toc word target inside below even code is.0 is.1 is.2 is.3 f c

-- ---- by a prefixed instruction

-- the state after it, which puts v in r12, and after `mtctr 12`
abbrev prefixed_1 : ℕ → Counted → Counted
prefixed_1 v c = with_state (set_8 12 v c.state) c

abbrev prefixed_2 : ℕ → Counted → Counted
prefixed_2 v c = record { state = go_on (prefixed_1 v c).state; count = v }

prefixed_left : (c : Counted) (v target : ℕ) → v ≡ target → target % 4 ≡ 0
    → GoesTo target c (at_count (prefixed_2 v c))
prefixed_left c v target is even =
    record {
      pc = ap (λ n. n - n % 4) is ∙ omega (arith, even);
      r12 = is;
      registers = λ n e. once (eqb n 0) (eqb n 12) v (c.state.registers n) e;
      floats = refl;
      link = refl;
      memory = refl;
    }

prefixed_runs : (f : Formats) (c : Counted) (code pair : List ℕ) (v target : ℕ) → length pair ≡ 8
    → code ≡ pair ++ tail → step_prefixed f (prefixed_of pair) c.state ≡ Some (set_8 12 v c.state)
    → v ≡ target → target % 4 ≡ 0 → IsSomeAnd (run_prefixed f code c) (GoesTo target c)
prefixed_runs f c code pair v target len is steps value even =
    let front : take 8 code ≡ pair =
    ap (take 8) is ∙ ap (λ n. take n (pair ++ tail)) (sym len) ∙ take-append_seam pair tail in
    let last : words 2 (drop 8 code) ≡ 0x7d8903a6 ∷ 0x4e800420 ∷ [] = ap (words 2) (third_is code pair tail len is) in
    let next = sum_64 c.state.pc 8 in
    let rest = run f (0x7d8903a6 ∷ 0x4e800420 ∷ []) in
    subst (λ end. IsSomeAnd end (GoesTo target c))
    (sym (ap (λ ws. continue_by (λ c. c.state.pc) next (run f ws) (lifted c (step_prefixed f (prefixed_of (take 8 code)) c.state))) last
    ∙ ap (λ b. continue_by (λ c. c.state.pc) next rest (lifted c (step_prefixed f (prefixed_of b) c.state))) front
    ∙ ap (λ s. continue_by (λ c. c.state.pc) next rest (lifted c s)) steps
    ∙ cond-true (eqb next next) (rest (prefixed_1 v c)) None (eq-eqb next next refl)
    ∙ run_more (λ c. c.state.pc) (step_counted f) 0x7d8903a6 0x4e800420 [] (prefixed_1 v c) (prefixed_2 v c) _ refl refl refl))
    (prefixed_left c v target value even)

-- what the instruction computes, by its 8 bytes and those that have its parts
leads_to : Prefixes → (prefix suffix place target : ℕ) → place < 2 ^ 64 → target < 2 ^ 64 → (pair : List ℕ)
    → WritesPair Ppc64 (by_prefixed prefix suffix) (operands_of (by_prefixed prefix suffix) place target) pair
    → (s : State) → s.pc ≡ place
    → moved s.pc ((ppc64_form Prefixed).machine (prefixed_of pair)) ≡ target
leads_to law prefix suffix place target inside below pair writes s at_pc =
    let stub = by_prefixed prefix suffix in
    let o = operands_of stub place target in
    let high = applies ppc64_name ppc64_row r.R_PPC64_PCREL34 stub.first o stub.pair writes.0 tt refl writes.1 in
    let m = (ppc64_form Prefixed).machine (prefixed_of writes.0) in
    ap (λ b. moved s.pc ((ppc64_form Prefixed).machine (prefixed_of b))) writes.2
    ∙ ap (λ t. moved t m) (at_pc ∙ sym (sum_zero place inside)) ∙ times_one o.place m
    ∙ address_is _ _ (law.0 o (are_addresses stub place target below) o.place stub.pair writes.0 high.applied tt)
    ∙ no_addend target below

pub prefixed_loads_go : Prefixes → stubs.PrefixedLoads
prefixed_loads_go law place word target inside below even code is f c entry holds =
    let stub = by_prefixed 0x04100000 0xe5800000 in
    let pair = is.0 in
    let high = applies ppc64_name ppc64_row r.R_PPC64_PCREL34 stub.first (operands_of stub place word) stub.pair is.2.0 tt refl is.2.1 in
    let template : HasPrefixedParts 0x104 57 12 0 (prefixed_of stub.pair) =
    record { prefix_is = refl; opcode_is = refl; rt_is = refl; ra_is = refl } in
    let both : HasPrefixedParts 0x104 57 12 0 (prefixed_of pair) =
    subst (λ b. HasPrefixedParts 0x104 57 12 0 (prefixed_of b)) (sym is.2.2) (prefixed_after _ _ stub.pair is.2.0 0x104 57 12 0 high.applied.written template) in
    prefixed_runs f c code pair _ target is.1 is.3 (step_pld f (prefixed_of pair) 12 c.state both)
    (ap (loaded 8 c.state.memory) (leads_to law 0x04100000 0xe5800000 place word inside below pair is.2 c.state entry) ∙ holds) even

pub prefixed_jumps_go : Prefixes → stubs.PrefixedJumps
prefixed_jumps_go law place target inside below even code is f c entry =
    let stub = by_prefixed 0x06100000 0x39800000 in
    let pair = is.0 in
    let high = applies ppc64_name ppc64_row r.R_PPC64_PCREL34 stub.first (operands_of stub place target) stub.pair is.2.0 tt refl is.2.1 in
    let template : HasPrefixedParts 0x184 14 12 0 (prefixed_of stub.pair) =
    record { prefix_is = refl; opcode_is = refl; rt_is = refl; ra_is = refl } in
    let both : HasPrefixedParts 0x184 14 12 0 (prefixed_of pair) =
    subst (λ b. HasPrefixedParts 0x184 14 12 0 (prefixed_of b)) (sym is.2.2) (prefixed_after _ _ stub.pair is.2.0 0x184 14 12 0 high.applied.written template) in
    prefixed_runs f c code pair _ target is.1 is.3 (step_paddi f (prefixed_of pair) 12 c.state both)
    (leads_to law 0x06100000 0x39800000 place target inside below pair is.2 c.state entry) even
