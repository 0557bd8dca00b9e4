-- AArch64's groups.
use Rattle.linker_laws.proofs.Imports.{Agree, AreOf, Has, IsLdr64, IsPair, List, Operands, Program, ReplaceWithNop, Some, State, and_parts, anything, ap, ap₂, arith, branch_target, cond-false, eq-eqb, eqb, eqb-true, executed, field, following, go_to, half, link, load_64, loaded, machine, ne_eqb, nop, page, put, rd_of, refl, rn_of, run, seen, step, subst, sum_64, sym, symbol_address, thread_offset, word_of, ℕ, ◌+◌, ◌/◌, ◌<◌, ◌==◌, ◌^◌, ◌∙◌, ◌≡◌}
use Rattle.linker_laws.specs.AArch64Groups.{IsRewritten}
use Rattle.linker_elf.specs.declared.aarch64.relocations.AArch64Relocation.TheVariants as names
use Rattle.linker_laws.specs.AArch64Groups as groups
use Rattle.linker_laws.specs.AArch64Machine.{execute, moved}
use Rattle.linker_laws.specs.AArch64RelocationLaws as relocation_laws
use Rattle.linker_laws.proofs.AArch64Halves.{HasHigh, high_steps, low_steps}
use Rattle.linker_laws.proofs.AArch64Pairs.{word_is, adds_pair, loads, word_made}
use Rattle.linker_laws.proofs.AArch64Steps.{branch_leads, set}
use Rattle.linker_laws.proofs.AArch64Words.{branch_after, decodes_b, decodes_bl, add_after, adr_of_register, adrp_after, ldr_after, of_registers}
use Rattle.linker_laws.proofs.Agreement.{agree_go, agree_put, agree_put_old, both_true, group_of, last_counts, unchanged, value_group}
use Rattle.linker_laws.proofs.CoveredRuns.{run_first, holds_of}
use Rattle.linker_laws.proofs.Sums.{eight, sum_below}

-- ---- runs

-- one instruction that writes a register
pub sets : (others : ℕ → Program) (bytes : ℕ → ℕ) (s : State) (x n v : ℕ) → loaded 4 bytes s.pc ≡ x
    → step x (seen s) ≡ Some (set n v (seen s))
    → machine others bytes s ≡ Some (put n v (sum_64 s.pc 4) s)
sets others bytes s x n v stands goes =
    ap (λ w. executed others w s (step w (seen s))) stands ∙ ap (executed others x s) goes

-- the thread pointer is no register that an instruction writes
pub still_seen : (s : State) (n u : ℕ) → n < 32 → seen (put n u (sum_64 s.pc 4) s) ≡ set n u (seen s)
still_seen s n u small =
    ap (λ p. record (set n u (seen s)) { thread_pointer = p })
    (cond-false (eqb 32 n) u (s.registers 32) (ne_eqb 32 n (λ e. omega arith)))

-- two that write one register
pub sets_twice : (others : ℕ → Program) (bytes : ℕ → ℕ) (s : State) (place x y n u v value : ℕ)
    → s.pc ≡ place → n < 32 → loaded 4 bytes place ≡ x → loaded 4 bytes (sum_64 place 4) ≡ y
    → step x (seen s) ≡ Some (set n u (seen s))
    → step y (set n u (seen s)) ≡ Some (set n v (set n u (seen s))) → v ≡ value
    → run 2 (machine others bytes) s ≡ Some (put n value (sum_64 place 8) s)
sets_twice others bytes s place x y n u v value at small here after first second is =
    let s1 = put n u (sum_64 s.pc 4) s in
    run_first 1 (machine others bytes) s s1 _
    (sets others bytes s x n u (ap (loaded 4 bytes) at ∙ here) first)
    (run_first 0 (machine others bytes) s1 (put n v (sum_64 s1.pc 4) s1) _
    (sets others bytes s1 y n v
    (ap (λ a. loaded 4 bytes (sum_64 a 4)) at ∙ after)
    (subst (λ q. step y q ≡ Some (set n v q)) (sym (still_seen s n u small)) second))
    (ap Some (last_counts n u v (sum_64 s.pc 4) (sum_64 s1.pc 4) s
    ∙ ap (λ v. put n v (sum_64 s1.pc 4) s) is
    ∙ ap (λ a. put n value a s) (ap (λ a. sum_64 (sum_64 a 4) 4) at ∙ eight place))))

pub below_32 : (word : ℕ) → rd_of word < 32
below_32 word = omega arith

-- ---- loads

-- `adrp xN` and `ldr xN, [xN]` of an entry that holds the address
pub load_goes : relocation_laws.EntryAddresses → (others : ℕ → Program) (code : ℕ → ℕ) (o : Operands)
    (s : State) (adrp ldr : List ℕ) → IsPair IsLdr64 o (seen s) adrp ldr
    → load_64 s.memory o.got_entry ≡ symbol_address o
    → Has code names.R_AARCH64_ADR_GOT_PAGE o adrp
    → Has code names.R_AARCH64_LD64_GOT_LO12_NC (following 4 o) ldr
    → run 2 (machine others code) s
    ≡ Some (put (rd_of (word_of ldr)) (symbol_address o) (sum_64 o.place 8) s)
load_goes entries others code o s adrp ldr p holds first second =
    let n = rd_of (word_of ldr) in
    let one = p.one_register in
    let own = one.into_own_source in
    let x = word_of first.relocated in
    let y = word_of second.relocated in
    let l = loads o n n x y o.got_entry (seen s)
    (adr_of_register one.register (adrp_after _ _ adrp first.relocated first.applied.written one.first))
    (of_registers refl own.same (ldr_after _ _ ldr second.relocated second.applied.written p.second_is))
    own.not_31 own.not_31 p.at
    (entries.0 o p.small o.place adrp first.relocated first.applied tt (sum_64 o.place 4) ldr second.relocated
    second.applied tt) in
    sets_twice others code s o.place x y n _ _ (symbol_address o) p.at (below_32 (word_of ldr)) first.stands
    second.stands l.first l.second (l.value_is ∙ holds)

pub are_loads : relocation_laws.RelativeAddresses → relocation_laws.EntryAddresses → groups.GotToAddress
are_loads relative entries c o k s adrp ldr add p holds made adrp1 ldr1 adrp2 add2 =
    let n = rd_of (word_of ldr) in
    let one = p.one_register in
    let own = one.into_own_source in
    let made_word = word_made (λ x. 0x91000000 + field x 0 21) ldr add (omega arith) made in
    let op : field (word_of add) 22 32 ≡ 0x244 = omega arith in
    let rd : rd_of (word_of add) ≡ n = omega arith in
    let rn : rn_of (word_of add) ≡ rn_of (word_of ldr) = omega arith in
    let x = word_of adrp2.relocated in
    let y = word_of add2.relocated in
    value_group (link c) 1 1 k _ s _ n (symbol_address o) (sum_64 o.place 8) (sum_below o.place 8)
    (load_goes entries c.others c.old o s adrp ldr p holds adrp1 ldr1)
    (unchanged _ _)
    (λ t agree.
    let at = agree.pc ∙ p.at in
    let d = adds_pair o n x y _ (seen t)
    (adr_of_register one.register (adrp_after _ _ adrp adrp2.relocated adrp2.applied.written one.first))
    (of_registers rd (rn ∙ own.same) (add_after _ _ add add2.relocated add2.applied.written op)) own.not_31 at
    (relative.0.0 o p.small o.place adrp adrp2.relocated adrp2.applied tt (sum_64 o.place 4) add add2.relocated
    add2.applied tt) in
    sets_twice c.others c.new t o.place x y n _ _ (symbol_address o) at (below_32 (word_of ldr)) adrp2.stands
    add2.stands d.first d.second d.value_is)

-- ---- halves

-- one instruction that writes a register, at a place
pub sets_at : (others : ℕ → Program) (bytes : ℕ → ℕ) (s : State) (place x n v : ℕ) → s.pc ≡ place
    → loaded 4 bytes place ≡ x → step x (seen s) ≡ Some (set n v (seen s))
    → run 1 (machine others bytes) s ≡ Some (put n v (sum_64 place 4) s)
sets_at others bytes s place x n v at here goes =
    run_first 0 (machine others bytes) s (put n v (sum_64 s.pc 4) s) _
    (sets others bytes s x n v (ap (loaded 4 bytes) at ∙ here) goes)
    (ap (λ a. Some (put n v (sum_64 a 4) s)) at)

pub are_high_halves : groups.HighHalfToMovz
are_high_halves c h o k s adrp movz small at entry offset is named made adrp1 movz1 =
    let n = rd_of (word_of adrp) in
    let v = moved (word_of movz1.relocated) in
    let next = sum_64 o.place 4 in
    group_of (link c) 0 0
    (sets_at c.others c.old s o.place (word_of adrp1.relocated) n (page o.got_entry) at adrp1.stands
    (high_steps o (seen s) (seen s) adrp movz small at is named made adrp1.relocated
    movz1.relocated adrp1.applied movz1.applied).first)
    (λ t agree.
    let steps = high_steps o (seen s) (seen t) adrp movz small at is named made adrp1.relocated
    movz1.relocated adrp1.applied movz1.applied in
    holds_of (run 1 (machine c.others c.new) t) _ (put n v next t)
    (sets_at c.others c.new t o.place (word_of movz1.relocated) n v (agree.pc ∙ at) movz1.stands
    steps.second)
    (agree_put (link c) k s t n (half h) (page o.got_entry) v next next agree
    (sum_below o.place 4) refl
    (both_true (page o.got_entry == page (c.entry h)) (v / 2 ^ 16 == c.offset h / 2 ^ 16)
    (eq-eqb _ _ (ap page (sym entry)))
    (eq-eqb _ _ (steps.bits_are ∙ ap (λ d. d / 2 ^ 16) (sym offset))))))

pub are_low_halves : groups.LowHalfToMovk
are_low_halves c h o k s ldr movk small at entry offset is own made holds known has ldr1 movk1 =
    let n = rd_of (word_of ldr) in
    let d = thread_offset o in
    value_group (link c) 0 0 k _ s _ n d (sum_64 o.place 4) (sum_below o.place 4)
    (sets_at c.others c.old s o.place (word_of ldr1.relocated) n d at ldr1.stands
    (low_steps o (seen s) (record (seen s) { registers = λ m. d }) ldr movk small is own holds
    (record { page_is = has; bits_are = refl }) made ldr1.relocated movk1.relocated ldr1.applied
    movk1.applied).first)
    (unchanged _ _)
    (λ t agree.
    sets_at c.others c.new t o.place (word_of movk1.relocated) n d (agree.pc ∙ at) movk1.stands
    (low_steps o (seen s) (seen t) ldr movk small is own holds (high t agree) made ldr1.relocated
    movk1.relocated ldr1.applied movk1.applied).second)
  where
    high : (t : State) → Agree (link c) k s t → HasHigh (rd_of (word_of ldr)) o (seen s) (seen t)
    high t agree =
        let n = rd_of (word_of ldr) in
        let halves = subst (λ k. AreOf (link c) 8 k (s.registers n) (t.registers n)) known
        (agree.registers n) in
        record {
          page_is = has;
          bits_are = eqb-true _ _ (and_parts (s.registers n == page (c.entry h))
              (t.registers n / 2 ^ 16 == c.offset h / 2 ^ 16) halves).1
              ∙ ap (λ d. d / 2 ^ 16) offset;
        }

-- ---- branches

-- `nop`
pub nop_goes : (others : ℕ → Program) (code : ℕ → ℕ) (t : State) (place word : ℕ) → t.pc ≡ place
    → loaded 4 code place ≡ word → word ≡ nop
    → machine others code t ≡ Some (go_to (sum_64 t.pc 4) t)
nop_goes others code t place word at stands is =
    ap (λ w. executed others w t (step w (seen t))) (ap (loaded 4 code) at ∙ stands ∙ is)

-- one that was made `nop`
pub goes_on : (others : ℕ → Program) (code : ℕ → ℕ) (t : State) (place : ℕ) (branch made : List ℕ)
    → t.pc ≡ place → IsRewritten ReplaceWithNop branch made → loaded 4 code place ≡ word_of made
    → run 1 (machine others code) t ≡ Some (go_to (sum_64 place 4) t)
goes_on others code t place branch made at is stands =
    run_first 0 (machine others code) t (go_to (sum_64 t.pc 4) t) _
    (nop_goes others code t place (word_of made) at stands (word_is nop made (omega arith) is))
    (ap (λ a. Some (go_to (sum_64 a 4) t)) at)

pub are_branches : relocation_laws.Branches → groups.WeakBranches
are_branches laws = (
  λ c o k s branch made small at next is rewritten on new.
      let x = word_of on.relocated in
      let op = branch_after _ _ branch on.relocated on.applied.written ∙ eqb-true _ _ is in
      group_of (link c) 0 0
      (run_first 0 (machine c.others c.old) s (go_to (branch_target x (seen s)) s) _
      (ap (λ w. executed c.others w s (step w (seen s))) (ap (loaded 4 c.old) at ∙ on.stands)
      ∙ ap (λ i. executed c.others x s (execute i x (seen s))) (decodes_b x op))
      (ap (λ p. Some (go_to p s)) (branch_leads o x (seen s) at
      (laws.1 o small o.place branch on.relocated on.applied tt) ∙ next)))
      (λ t agree.
      holds_of (run 1 (machine c.others c.new) t) _ (go_to (sum_64 o.place 4) t)
      (goes_on c.others c.new t o.place branch made (agree.pc ∙ at) rewritten new)
      (agree_go (link c) k s t (sum_64 o.place 4) (sum_64 o.place 4) agree (sum_below o.place 4)
      refl)),
  λ c o k s branch made small at next is rewritten on new.
      let x = word_of on.relocated in
      let n = sum_64 o.place 4 in
      let op = branch_after _ _ branch on.relocated on.applied.written ∙ eqb-true _ _ is in
      group_of (link c) 0 0
      (run_first 0 (machine c.others c.old) s
      (put 30 (sum_64 s.pc 4) (branch_target x (seen s)) s) _
      (ap (λ w. executed c.others w s (step w (seen s))) (ap (loaded 4 c.old) at ∙ on.stands)
      ∙ ap (λ i. executed c.others x s (execute i x (seen s))) (decodes_bl x op))
      (ap₂ (λ r p. Some (put 30 (sum_64 r 4) p s)) at (branch_leads o x (seen s) at
      (laws.0 o small o.place branch on.relocated on.applied tt) ∙ next)))
      (λ t agree.
      holds_of (run 1 (machine c.others c.new) t) _ (go_to n t)
      (goes_on c.others c.new t o.place branch made (agree.pc ∙ at) rewritten new)
      (agree_put_old (link c) k (go_to n s) (go_to n t) 30 anything n n
      (agree_go (link c) k s t n n agree (sum_below o.place 4) refl) (sum_below o.place 4) refl tt)),
)
