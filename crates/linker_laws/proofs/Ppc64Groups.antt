-- PowerPC64's groups.
use Rattle.linker_laws.proofs.Imports.{Agree, AreAddresses, AreOf, Bool, Branch24, D, Ds, Group, IsRelocated, IsRewritten, IsTrue, Kind, Kinds, List, LowHalfLeads, Operands, Ppc64Form, Ppc64Relocation, Prefixed, RewriteKind, Some, State, Use, addi_of_thread, addis_of_thread, and_parts, anything, ap, arith, cases_lt, cond-false, cond-true, drop, eq-eqb, eqb, eqb-true, eqb_tells, false, field, from_thread, go_to, half, if◌then◌else◌, inl, inr, ints, is_addi, is_addis_over, is_ld, is_pla, is_pld, is_some, le-ltb, loaded, lt-ltb, moved, nat_lt, ne_eqb, not, of_link, opcode_of, pos, ppc64_form, prefixed_of, prefixed_target, put, ra_of, refl, registers_of, rt_of, run, same, subst, subst₂, suc, sum_64, sym, symbol_address, take, thread_offset, true≢false, two_words as two_words_of, with_register, word_of, ℕ, ◌*ℤ◌, ◌*◌, ◌+ℤ◌, ◌+◌, ◌-◌, ◌/◌, ◌<◌, ◌==◌, ◌^◌, ◌∙◌, ◌≡◌, ◌≢◌, ◌≤◌}
use Rattle.linker_elf.specs.declared.ppc64.relocations.Ppc64Relocation.TheVariants as names
use Rattle.linker_laws.specs.Ppc64Groups as groups
use Rattle.linker_laws.specs.Ppc64Groups.{AreHalves, Code, Has, Leaves, Processor, Returns, Stands, Takes, Uses, called, executed, execute, high_part, instruction_at, is_prefix, left, link, machine, seen, used}
use Rattle.linker_laws.specs.Ppc64Machine as ppc64_machine
use Rattle.linker_laws.specs.Ppc64Machine.{Formats, base, by_opcode, go_on, shifted_sum, step, step_prefixed, write}
use Rattle.linker_laws.specs.Ppc64RelocationLaws as relocation_laws
use Rattle.linker_laws.proofs.AArch64Pairs.{word_is, word_made}
use Rattle.linker_laws.proofs.Agreement.{agree_go, agree_put, agree_put_old, both_true, group_of, last_counts, others_agree, unchanged as nothing_changes, value_group}
use Rattle.linker_laws.proofs.CoveredRuns.{holds_of, run_first}
use Rattle.linker_laws.proofs.Ppc64Addresses.{ld_parts, reads_ds, same_parts, some_of}
use Rattle.linker_laws.proofs.Ppc64Apart.{addis_13_parts, adds_4096, no_immediate, nothing_added, thread_halves, Does, High, IsBase, Keeps, base_some, general_leads, got_leads, module_leads, offset_leads, toc_leads}
use Rattle.linker_laws.proofs.Ppc64Calls.{first_made, restores_toc, second_made}
use Rattle.linker_laws.proofs.Ppc64Entries.{LeavesToc, address_leaves, distance_leaves}
use Rattle.linker_laws.proofs.Ppc64LowHalves.{OverSteps, access_over, addi_over, thread_d, thread_ds, toc_d, toc_ds, vector_over, word_access_over}
use Rattle.linker_laws.proofs.Ppc64Offsets.{OffsetSteps, accesses_offset, adds_offset, words_offset}
use Rattle.linker_laws.proofs.Ppc64Prefixed.{HasPrefixedParts, paddi_parts, paddi_sets, pld_parts, pld_sets, prefixed_after, set_8, step_paddi, step_paddi_over, step_pld}
use Rattle.linker_laws.proofs.Ppc64PrefixedThreads.{VariableSteps, access_to_direct, displacement_is, general_entry, loads_thread, module_entry, offset_entry, over_thread, pla_parts, sum_to_move, variable_there}
use Rattle.linker_laws.proofs.Ppc64Words.{HasParts, d_after, ds_after, set, step_addi, step_bl, step_ld, step_nop}
use Rattle.linker_laws.proofs.RiscVMachine.{address_is, times_one}
use Rattle.linker_laws.proofs.Sums.{sum_below, eight, wrapped_is}
use Rattle.linker_laws.proofs.Words.{two_words}
use Rattle.linker_utils.specs.Ppc64Rewrites.{nop}
use Rattle.linker_utils.specs.declared.ppc64.rewrites.RewriteKind.TheVariants as kinds

-- ---- states

-- what `left` takes of a register, by its number
by_number : (r a b c d v : ℕ) → (r < 32 → a ≡ v) → (32 ≤ r → r < 64 → b ≡ v) → (r ≡ 64 → c ≡ v) → (64 < r → d ≡ v)
    → (if nat_lt r 32 then a else (if nat_lt r 64 then b else (if r == 64 then c else d))) ≡ v
by_number r a b c d v general float link other =
    elim (cases_lt r 32) [
      | inl low ↦ cond-true (nat_lt r 32) a _ (lt-ltb r 32 low) ∙ general low
      | inr high ↦
          cond-false (nat_lt r 32) a _ (le-ltb r 32 high)
          ∙ elim (cases_lt r 64) [
            | inl low ↦ cond-true (nat_lt r 64) b _ (lt-ltb r 64 low) ∙ float high low
            | inr higher ↦
                cond-false (nat_lt r 64) b _ (le-ltb r 64 higher)
                ∙ elim (eqb_tells r 64) [
                  | inl is ↦ cond-true (r == 64) c d is.0 ∙ link is.1
                  | inr differs ↦
                      let some = differs.1 in
                      cond-false (r == 64) c d differs.0 ∙ other (above r higher some)
                ]
          ]
    ]
  where
    above : (r : ℕ) → 64 ≤ r → r ≢ 64 → 64 < r
    above r high some =
        elim (cases_lt 64 r) [
          | inl more ↦ more
          | inr less ↦ absurd (some (let e : r ≡ 64 = omega (arith, high, less) in e))
        ]

back : (r : ℕ) → 32 ≤ r → 32 + (r - 32) ≡ r
back r high = omega arith

-- an address is next
went : (s : State) (next : ℕ) → left s (ppc64_machine.go_to next (seen s)) ≡ go_to next s
went s next =
    λ i. record s {
      pc = next;
      registers = λ r. by_number r (s.registers r) (s.registers (32 + (r - 32))) (s.registers 64) (s.registers r)
          (s.registers r) (λ e. refl) (λ high low. ap s.registers (back r high)) (λ e. ap s.registers (sym e)) (λ e. refl) i;
    }

-- a register is written, and an address is next
wrote : (s : State) (n v next : ℕ) → n < 32 → left s (ppc64_machine.go_to next (write n v (seen s))) ≡ put n v next s
wrote s n v next small =
    λ i. record s {
      pc = next;
      registers = λ r. by_number r (if r == n then v else s.registers r) (s.registers (32 + (r - 32))) (s.registers 64)
          (s.registers r) (if r == n then v else s.registers r) (λ e. refl)
          (λ high low. ap s.registers (back r high) ∙ other r (ne_eqb r n (λ e. omega arith)))
          (λ e. ap s.registers (sym e) ∙ other r (ne_eqb r n (λ f. omega arith)))
          (λ high. other r (ne_eqb r n (λ e. omega arith))) i;
    }
  where
    other : (r : ℕ) → (r == n) ≡ false → s.registers r ≡ (if r == n then v else s.registers r)
    other r differs = sym (cond-false (r == n) v (s.registers r) differs)

-- the link register is
linked : (s : State) (v next : ℕ)
    → left s (ppc64_machine.go_to next (record (seen s) { link = v })) ≡ put 64 v next s
linked s v next =
    λ i. record s {
      pc = next;
      registers = λ r. by_number r (s.registers r) (s.registers (32 + (r - 32))) v (s.registers r)
          (if r == 64 then v else s.registers r) (λ low. other r (ne_eqb r 64 (λ e. omega arith)))
          (λ high low. ap s.registers (back r high) ∙ other r (ne_eqb r 64 (λ e. omega arith)))
          (λ e. sym (cond-true (r == 64) v (s.registers r) (eq-eqb r 64 e)))
          (λ high. other r (ne_eqb r 64 (λ e. omega arith))) i;
    }
  where
    other : (r : ℕ) → (r == 64) ≡ false → s.registers r ≡ (if r == 64 then v else s.registers r)
    other r differs = sym (cond-false (r == 64) v (s.registers r) differs)

-- what is seen after a register is written
still_seen : (s : State) (n v next : ℕ) → n < 32
    → seen (put n v next s) ≡ ppc64_machine.go_to next (write n v (seen s))
still_seen s n v next small =
    λ i. record (seen (put n v next s)) {
      floats = λ r. cond-false (32 + r == n) v (s.registers (32 + r)) (ne_eqb (32 + r) n (λ e. omega arith)) i;
      link = cond-false (64 == n) v (s.registers 64) (ne_eqb 64 n (λ e. omega arith)) i;
    }

-- A register has the number that is written.
unchanged : (n v next : ℕ) (s : State) → s.registers n ≡ v → put n v next s ≡ go_to next s
unchanged n v next s is = λ i. record s { pc = next; registers = λ m. by m i }
  where
    by : (m : ℕ) → (if m == n then v else s.registers m) ≡ s.registers m
    by m = elim (eqb_tells m n) [
      | inl equal ↦ cond-true (eqb m n) v (s.registers m) equal.0 ∙ sym is ∙ ap s.registers (sym equal.1)
      | inr differs ↦ cond-false (eqb m n) v (s.registers m) differs.0
    ]

below_32 : (word : ℕ) → rt_of word < 32
below_32 word = omega arith

-- ---- steps

-- No instruction of 4 bytes begins as one of 8.
no_prefix : (f : Formats) (x : ℕ) (s u : ppc64_machine.State) → step f x s ≡ Some u → is_prefix x ≡ false
no_prefix f x s u goes = elim (eqb_tells (opcode_of x) 1) [
  | inl one ↦
      absurd (true≢false (sym (ap is_some (sym (ap (λ op. ppc64_machine.execute f (by_opcode op x) x s) one.1) ∙ goes))))
  | inr other ↦ other.0
]

goes : (p : Processor) (code : ℕ → ℕ) (s : State) (x : ℕ) (u : ppc64_machine.State) → loaded 4 code s.pc ≡ x
    → step p.formats x (seen s) ≡ Some u → machine p code s ≡ Some (left s u)
goes p code s x u stands is =
    let none = no_prefix p.formats x (seen s) u is in
    let word = loaded 4 code s.pc in
    ap (λ n. execute p n s)
    (cond-false (is_prefix word) (word + loaded 4 code (sum_64 s.pc 4) * 2 ^ 32) word (ap is_prefix stands ∙ none) ∙ stands)
    ∙ ap (executed p.others x s)
    (cond-false (is_prefix x) (step_prefixed p.formats x (seen s)) (step p.formats x (seen s)) none ∙ is)

-- one that writes a register
sets : (p : Processor) (code : ℕ → ℕ) (s : State) (x n v : ℕ) → loaded 4 code s.pc ≡ x → n < 32
    → step p.formats x (seen s) ≡ Some (set n v (seen s)) → machine p code s ≡ Some (put n v (sum_64 s.pc 4) s)
sets p code s x n v stands small is =
    goes p code s x (set n v (seen s)) stands is ∙ ap Some (wrote s n v (sum_64 s.pc 4) small)

-- a `nop`
passes : (p : Processor) (code : ℕ → ℕ) (s : State) (x : ℕ) → loaded 4 code s.pc ≡ x → x ≡ nop
    → machine p code s ≡ Some (go_to (sum_64 s.pc 4) s)
passes p code s x stands is =
    goes p code s x (go_on (seen s)) stands (step_nop p.formats x (seen s) is) ∙ ap Some (went s (sum_64 s.pc 4))

-- one instruction is a run
once : (p : Processor) (code : ℕ → ℕ) (s t : State) → machine p code s ≡ Some t → run 1 (machine p code) s ≡ Some t
once p code s t first = run_first 0 (machine p code) s t (Some t) first refl

-- ---- groups of one instruction

are_half : (c : Code) (h u v : ℕ) → AreHalves c h u v → AreOf (link c) 8 (half h) u v
are_half c h u v are =
    both_true (u == c.old_half h) (v == c.new_half h) (eq-eqb _ _ (sym are.0)) (eq-eqb _ _ (sym are.1))

-- what a register has in new, that is the same
same_register : (c : Code) (k : Kinds) (s t : State) (r : ℕ) → k.registers r ≡ same → Agree (link c) k s t
    → t.registers r ≡ s.registers r
same_register c k s t r is agree =
    sym (subst (λ kind. AreOf (link c) 8 kind (s.registers r) (t.registers r)) is (agree.registers r))

leaves : (c : Code) (k : Kinds) (s : State) (n r : ℕ) (kind : Kind) (u v : ℕ)
    → machine c.processor c.old s ≡ Some (put r u (sum_64 s.pc n) s)
    → ((t : State) → Agree (link c) k s t → machine c.processor c.new t ≡ Some (put r v (sum_64 t.pc n) t))
    → AreOf (link c) 8 kind u v → Leaves n c k s r kind u
leaves c k s n r kind u v first second are =
    group_of (link c) 0 0 (once c.processor c.old s (put r u (sum_64 s.pc n) s) first) (λ t agree.
    holds_of (run 1 (machine c.processor c.new) t) _ (put r v (sum_64 t.pc n) t)
    (once c.processor c.new t (put r v (sum_64 t.pc n) t) (second t agree))
    (agree_put (link c) k s t r kind u v (sum_64 s.pc n) (sum_64 t.pc n) agree (sum_below s.pc n)
    (ap (λ p. sum_64 p n) agree.pc) are))

-- New has a `nop`.
leaves_old : (c : Code) (k : Kinds) (s : State) (r u x : ℕ)
    → machine c.processor c.old s ≡ Some (put r u (sum_64 s.pc 4) s) → loaded 4 c.new s.pc ≡ x → x ≡ nop
    → Leaves 4 c k s r anything u
leaves_old c k s r u x first stands blank =
    group_of (link c) 0 0 (once c.processor c.old s (put r u (sum_64 s.pc 4) s) first) (λ t agree.
    let next = sum_64 s.pc 4 in
    holds_of (run 1 (machine c.processor c.new) t) _ (go_to (sum_64 t.pc 4) t)
    (once c.processor c.new t (go_to (sum_64 t.pc 4) t)
    (passes c.processor c.new t x (ap (loaded 4 c.new) agree.pc ∙ stands) blank))
    (agree_put_old (link c) k (go_to next s) (go_to (sum_64 t.pc 4) t) r anything u next
    (agree_go (link c) k s t next (sum_64 t.pc 4) agree (sum_below s.pc 4) (ap (λ p. sum_64 p 4) agree.pc))
    (sum_below s.pc 4) (ap (λ p. sum_64 p 4) agree.pc) tt))

-- ---- high halves

step_high : (f : Formats) (x r b : ℕ) (s : ppc64_machine.State) → HasParts 15 r b x
    → step f x s ≡ Some (set r (shifted_sum x s) s)
step_high f x r b s p =
    ap (λ op. ppc64_machine.execute f (by_opcode op x) x s) p.opcode_is ∙ ap (λ n. Some (set n (shifted_sum x s) s)) p.rt_is

high_is : (r b x : ℕ) (s : State) → HasParts 15 r b x → IsBase b
    → shifted_sum x (seen s) ≡ moved (s.registers b) ((ppc64_form D).machine x *ℤ pos (2 ^ 16))
high_is r b x s p is_base =
    let m = (ppc64_form D).machine x *ℤ pos (2 ^ 16) in
    ap (λ n. moved (base n (seen s)) m) p.ra_is ∙ ap (λ n. moved n m) (is_base (seen s))

to_nop : (r : ℕ) (kind : RewriteKind) (name : Ppc64Relocation) (address : Operands → ℕ → ℕ)
    (Leads : Operands → ℕ → ℕ → Type 0) → IsBase r
    → ((addis blank : List ℕ) → IsRewritten kind addis blank → word_of blank ≡ nop) → Keeps name
    → High name address Leads → groups.Holds (groups.word (is_addis_over r)) kind
    (groups.ToNop r (λ o n b. Leads o n (address o b)) name names.R_PPC64_NONE)
to_nop r kind name address Leads is_base is_blank keeps leads addis blank is made c o k s small old new =
    let x = rt_of (word_of addis) in
    let both = and_parts (opcode_of (word_of addis) == 15) (ra_of (word_of addis) == r) is in
    let w = word_of old.relocated in
    let parts : HasParts 15 x r w =
    same_parts (eqb-true _ _ both.0) refl (eqb-true _ _ both.1) (keeps o addis old.relocated old.applied) in (
      subst (λ n. Leads o n (address o (s.registers r))) (sym (high_is x r w s parts is_base))
          (leads o small (s.registers r) addis old.relocated old.applied),
      leaves_old c k s x (high_part old.relocated s) (word_of blank)
          (sets c.processor c.old s w x (high_part old.relocated s) old.stands.0 (below_32 (word_of addis))
          (step_high c.processor.formats w x r (seen s) parts))
          new.0 (is_blank addis blank made),
    )

kept_high : (name after : Ppc64Relocation) (address address_after : Operands → ℕ → ℕ)
    (OldLeads NewLeads : Operands → ℕ → ℕ → Type 0) → Keeps name → Keeps after → High name address OldLeads
    → High after address_after NewLeads
    → groups.Holds groups.kept kinds.KeepAddis
    (groups.Kept (λ o n b. OldLeads o n (address o b)) (λ o n b. NewLeads o n (address_after o b)) name after)
kept_high name after address address_after OldLeads NewLeads keeps keeps_after leads leads_after addis is none c h x y k s
    small below toc old new halves =
    let r = rt_of (word_of addis) in
    let both = and_parts (opcode_of (word_of addis) == 15) (ra_of (word_of addis) == 2) is in
    let v = word_of old.relocated in
    let w = word_of new.relocated in
    let first : HasParts 15 r 2 v =
    same_parts (eqb-true _ _ both.0) refl (eqb-true _ _ both.1) (keeps x addis old.relocated old.applied) in
    let second : HasParts 15 r 2 w =
    same_parts (eqb-true _ _ both.0) refl (eqb-true _ _ both.1) (keeps_after y addis new.relocated new.applied) in (
      subst (λ n. OldLeads x n (address x (s.registers 2))) (sym (halves.0 ∙ high_is r 2 v s first (λ s. refl)))
          (leads x small (s.registers 2) addis old.relocated old.applied),
      subst (λ n. NewLeads y n (address_after y (s.registers 2))) (sym (halves.1 ∙ high_is r 2 w s second (λ s. refl)))
          (leads_after y below (s.registers 2) addis new.relocated new.applied),
      leaves c k s 4 r (half h) (c.old_half h) (c.new_half h)
          (sets c.processor c.old s v r (high_part old.relocated s) old.stands.0 (below_32 (word_of addis))
          (step_high c.processor.formats v r 2 (seen s) first)
          ∙ ap (λ n. Some (put r n (sum_64 s.pc 4) s)) (sym halves.0))
          (λ t agree.
          sets c.processor c.new t w r (shifted_sum w (seen t)) (ap (loaded 4 c.new) agree.pc ∙ new.stands.0)
          (below_32 (word_of addis)) (step_high c.processor.formats w r 2 (seen t) second)
          ∙ ap (λ n. Some (put r n (sum_64 t.pc 4) t))
          (high_is r 2 w t second (λ s. refl)
          ∙ ap (λ n. moved n ((ppc64_form D).machine w *ℤ pos (2 ^ 16))) (same_register c k s t 2 toc agree)
          ∙ sym (halves.1 ∙ high_is r 2 w s second (λ s. refl))))
          (are_half c h _ _ (refl, refl)),
    )

-- ---- low halves

-- a relocation that keeps what isn't the field of a DS-form
abbrev KeepsDs : Ppc64Relocation → Type 0
KeepsDs name =
    (o : Operands) (before after : List ℕ) → IsRelocated name o before after
    → HasParts (opcode_of (word_of before)) (rt_of (word_of before)) (ra_of (word_of before)) (word_of after)
    × (field (word_of after) 0 2 ≡ field (word_of before) 0 2)

-- a load of a number by a low half
ld_sets : (f : Formats) (low : Ppc64Relocation) (o : Operands) (s : State) (ld ld_of : List ℕ) (rt ra number : ℕ)
    → KeepsDs low → HasParts 58 rt ra (word_of ld) → field (word_of ld) 0 2 ≡ 0 → ra ≢ 0 → IsRelocated low o ld ld_of
    → Takes low o s (s.registers ra) number → step f (word_of ld_of) (seen s) ≡ Some (set rt number (seen s))
ld_sets f low o s ld ld_of rt ra number keeps parts zero some a takes =
    let w = word_of ld_of in
    let after = keeps o ld ld_of a in
    let b = (ppc64_form Ds).machine w in
    step_ld f w rt ra (seen s) (same_parts parts.opcode_is parts.rt_is parts.ra_is after.0) (after.1 ∙ zero)
    ∙ ap (λ n. Some (set rt n (seen s)))
    (ap (loaded 8 s.memory)
    (ap (λ n. moved n b) (base_some ra (seen s) some)
    ∙ ap (moved (s.registers ra)) (sym (reads_ds w (after.0.opcode_is ∙ parts.opcode_is)))
    ∙ takes.leads o.place ld ld_of a)
    ∙ takes.holds)

-- a sum with a low half
addi_sets : (f : Formats) (low : Ppc64Relocation) (o : Operands) (s : State) (addi addi_of : List ℕ) (rt ra number : ℕ)
    → Keeps low → HasParts 14 rt ra (word_of addi) → ra ≢ 0 → IsRelocated low o addi addi_of
    → groups.Leads low D o (s.registers ra) number → step f (word_of addi_of) (seen s) ≡ Some (set rt number (seen s))
addi_sets f low o s addi addi_of rt ra number keeps parts some a leads =
    let w = word_of addi_of in
    step_addi f w rt ra (seen s) (same_parts parts.opcode_is parts.rt_is parts.ra_is (keeps o addi addi_of a))
    ∙ ap (λ n. Some (set rt n (seen s)))
    (ap (λ n. moved n ((ppc64_form D).machine w)) (base_some ra (seen s) some) ∙ leads o.place addi addi_of a)

are_loads : groups.Holds (groups.word is_ld) kinds.LdToAddi
    (groups.LoadToSum names.R_PPC64_GOT16_LO_DS names.R_PPC64_TOC16_LO)
are_loads ld addi is made c address x y k s takes leads old new =
    let w = word_of ld in
    let load = ld_parts w is in
    let word : word_of addi ≡ 0x38000000 + registers_of w =
    word_made (λ w. 0x38000000 + registers_of w) ld addi (omega arith) made in
    let parts : HasParts 14 (rt_of w) (ra_of w) (word_of addi) =
    record { opcode_is = omega arith; rt_is = omega arith; ra_is = omega arith } in
    leaves c k s 4 (rt_of w) same address address
    (sets c.processor c.old s (word_of old.relocated) (rt_of w) address old.stands.0 (below_32 w)
    (ld_sets c.processor.formats names.R_PPC64_GOT16_LO_DS x s ld old.relocated (rt_of w) (ra_of w) address
    (λ o x y a. ds_after _ _ x y a.written) load.parts load.low load.over_some old.applied takes))
    (λ t agree.
    sets c.processor c.new t (word_of new.relocated) (rt_of w) address (ap (loaded 4 c.new) agree.pc ∙ new.stands.0)
    (below_32 w)
    (addi_sets c.processor.formats names.R_PPC64_TOC16_LO y t addi new.relocated (rt_of w) (ra_of w) address
    (λ o x y a. d_after _ _ x y a.written) parts load.over_some new.applied (leads t agree)))
    refl

-- Both do the same with an address.
uses : (c : Code) (how : Use) (word address : ℕ) (k : Kinds) (s : State) (x y : ℕ) → loaded 4 c.old s.pc ≡ x
    → loaded 4 c.new s.pc ≡ y → Does c.processor.formats (how.does c.processor.formats word address) x (seen s)
    → ((t : State) → Agree (link c) k s t
    → Does c.processor.formats (how.does c.processor.formats word address) y (seen t))
    → Uses c how word address k s
uses c how word address k s x y old new first second k' keeps =
    let p = c.processor in
    group_of (link c) 0 0
    (once p c.old s (used p how word address s)
    (goes p c.old s x (go_on (how.does p.formats word address (seen s))) old first))
    (λ t agree.
    holds_of (run 1 (machine p c.new) t) _ (used p how word address t)
    (once p c.new t (used p how word address t)
    (goes p c.new t y (go_on (how.does p.formats word address (seen t))) (ap (loaded 4 c.new) agree.pc ∙ new)
    (second t agree)))
    (keeps t agree))

-- A sum keeps agreement.
pub sum_keeps : (c : Code) (k : Kinds) (s t : State) (test : ℕ → Bool) (word address : ℕ) → Agree (link c) k s t
    → Agree (link c) (with_register (rt_of word) same k) (used c.processor (groups.adds test) word address s)
    (used c.processor (groups.adds test) word address t)
sum_keeps c k s t test word address agree =
    let r = rt_of word in
    subst₂ (Agree (link c) (with_register r same k)) (sym (wrote s r address (sum_64 s.pc 4) (below_32 word)))
    (sym (wrote t r address (sum_64 t.pc 4) (below_32 word)))
    (agree_put (link c) k s t r same address address (sum_64 s.pc 4) (sum_64 t.pc 4) agree (sum_below s.pc 4)
    (ap (λ p. sum_64 p 4) agree.pc) refl)

over_base : (r : ℕ) (kind : RewriteKind) (low whole : Ppc64Relocation) (form : Ppc64Form)
    (address : Operands → ℕ → ℕ) (how : Use) → OverSteps r kind low whole form address how
    → (insn over : List ℕ) → IsRewritten kind insn over → groups.OverBase r form address how low whole insn over
over_base r kind low whole form address how steps insn over made c o k s small is stays leads old new =
    let f = c.processor.formats in
    let target = address o (s.registers r) in
    uses c how (word_of insn) target k s (word_of old.relocated) (word_of new.relocated) old.stands.0 new.stands.0
    (steps.old f o (seen s) insn old.relocated target o.place is leads old.applied)
    (λ t agree.
    subst (λ n. Does f (how.does f (word_of insn) (address o n)) (word_of new.relocated) (seen t))
    (same_register c k s t r stays agree)
    (steps.new f o (seen t) insn over new.relocated small is made new.applied))

-- ---- initial-exec

makes_high : relocation_laws.ThreadAddresses → (c : Code) (o : Operands) (k : Kinds) (s : State) (number rt : ℕ)
    (addis_13 : List ℕ) → AreAddresses o → rt < 32 → word_of addis_13 ≡ addis_of_thread rt
    → machine c.processor c.old s ≡ Some (put rt number (sum_64 s.pc 4) s)
    → groups.MakesHighHalf c o k s number rt addis_13
makes_high thread c o k s number rt addis_13 small below word first h stays new halves =
    let made = addis_13_parts rt (word_of addis_13) below word in
    let w = word_of new.relocated in
    let parts : HasParts 15 rt 13 w =
    same_parts made.opcode_is made.rt_is made.ra_is (d_after _ _ addis_13 new.relocated new.applied.written) in (
      subst (λ n. LowHalfLeads o n (from_thread o (s.registers 13)))
          (sym (halves.1 ∙ high_is rt 13 w s parts (λ s. refl)))
          (thread_halves thread o small (s.registers 13) addis_13 new.relocated new.applied),
      leaves c k s 4 rt (half h) number (c.new_half h) first
          (λ t agree.
          sets c.processor c.new t w rt (shifted_sum w (seen t)) (ap (loaded 4 c.new) agree.pc ∙ new.stands.0) below
          (step_high c.processor.formats w rt 13 (seen t) parts)
          ∙ ap (λ n. Some (put rt n (sum_64 t.pc 4) t))
          (high_is rt 13 w t parts (λ s. refl)
          ∙ ap (λ n. moved n ((ppc64_form D).machine w *ℤ pos (2 ^ 16))) (same_register c k s t 13 stays agree)
          ∙ sym (halves.1 ∙ high_is rt 13 w s parts (λ s. refl))))
          (are_half c h _ _ (halves.0, refl)),
    )

offsets : relocation_laws.ThreadAddresses → (low : Ppc64Relocation) → KeepsDs low
    → groups.Holds (groups.word is_ld) kinds.LdToAddisThread (groups.OffsetToHighHalf low names.R_PPC64_TPREL16_HA)
offsets thread low keeps ld addis_13 is made c o k s small takes old =
    let w = word_of ld in
    let load = ld_parts w is in
    makes_high thread c o k s (thread_offset o) (rt_of w) addis_13 small (below_32 w)
    (word_made (λ w. addis_of_thread (rt_of w)) ld addis_13 (omega arith) made)
    (sets c.processor c.old s (word_of old.relocated) (rt_of w) (thread_offset o) old.stands.0 (below_32 w)
    (ld_sets c.processor.formats low o s ld old.relocated (rt_of w) (ra_of w) (thread_offset o) keeps load.parts load.low
    load.over_some old.applied takes))

over_offset : (kind : RewriteKind) (low : Ppc64Relocation) (how : Use) → OffsetSteps kind low how
    → groups.Holds (groups.word how.test) kind (groups.OverOffset how names.R_PPC64_TLS low)
over_offset kind low how steps insn direct is made c o k s has leads old new =
    let f = c.processor.formats in
    let target = from_thread o (s.registers 13) in
    uses c how (word_of insn) target k s (word_of insn) (word_of new.relocated) old.0 new.stands.0
    (steps.sum.old f (seen s) insn (thread_offset o) is has)
    (λ t agree.
    steps.new f o (seen t) insn direct new.relocated target o.place is made (leads t agree) new.applied)

-- ---- arguments of `__tls_get_addr`

argument : (low : Ppc64Relocation) → Keeps low → (c : Code) (o : Operands) (entry : ℕ) (s : State) (addi : List ℕ)
    → IsTrue (is_addi (word_of addi)) → groups.IsArgument low c o entry s addi
    → machine c.processor c.old s ≡ Some (put (rt_of (word_of addi)) entry (sum_64 s.pc 4) s)
argument low keeps c o entry s addi is p =
    let x = word_of addi in
    let both = and_parts (opcode_of x == 14) (not (ra_of x == 0)) is in
    sets c.processor c.old s (word_of p.old.relocated) (rt_of x) entry p.old.stands.0 (below_32 x)
    (addi_sets c.processor.formats low o s addi p.old.relocated (rt_of x) (ra_of x) entry keeps
    (record { opcode_is = eqb-true _ _ both.0; rt_is = refl; ra_is = refl }) (some_of (ra_of x) both.1) p.old.applied p.leads)

arguments : relocation_laws.ThreadAddresses → (low : Ppc64Relocation) → Keeps low
    → groups.Holds (groups.word is_addi) kinds.AddiToAddisThread (groups.ArgumentToHighHalf low names.R_PPC64_TPREL16_HA)
arguments thread low keeps addi addis_13 is made c o entry k s p =
    makes_high thread c o k s entry (rt_of (word_of addi)) addis_13 p.small (below_32 (word_of addi))
    (word_made (λ w. addis_of_thread (rt_of w)) addi addis_13 (omega arith) made) (argument low keeps c o entry s addi is p)

argument_offsets : (low after : Ppc64Relocation) → Keeps low → KeepsDs after
    → groups.Holds (groups.word is_addi) kinds.AddiToLd (groups.ArgumentToOffset low after)
argument_offsets low after keeps keeps_ds addi ld is made c h x y entry k s p old_is takes new =
    let w = word_of addi in
    let both = and_parts (opcode_of w == 14) (not (ra_of w == 0)) is in
    let word : word_of ld ≡ 0xe8000000 + registers_of w =
    word_made (λ w. 0xe8000000 + registers_of w) addi ld (omega arith) made in
    let parts : HasParts 58 (rt_of w) (ra_of w) (word_of ld) =
    record { opcode_is = omega arith; rt_is = omega arith; ra_is = omega arith } in
    let zero : field (word_of ld) 0 2 ≡ 0 = omega arith in
    leaves c k s 4 (rt_of w) (half h) entry (c.new_half h) (argument low keeps c x entry s addi is p)
    (λ t agree.
    sets c.processor c.new t (word_of new.relocated) (rt_of w) (c.new_half h) (ap (loaded 4 c.new) agree.pc ∙ new.stands.0)
    (below_32 w)
    (ld_sets c.processor.formats after y t ld new.relocated (rt_of w) (ra_of w) (c.new_half h) keeps_ds parts zero
    (some_of (ra_of w) both.1) new.applied (takes t agree)))
    (are_half c h _ _ (old_is, refl))

module_arguments : (low : Ppc64Relocation) → Keeps low
    → groups.Holds (groups.word is_addi) kinds.AddiToAddisThread (groups.ArgumentToThread low names.R_PPC64_NONE)
module_arguments low keeps addi addis_13 is made c h o entry k s p stays halves new =
    let rt = rt_of (word_of addi) in
    let w = word_of addis_13 in
    let word = word_made (λ w. addis_of_thread (rt_of w)) addi addis_13 (omega arith) made in
    let parts = addis_13_parts rt w (below_32 (word_of addi)) word in
    leaves c k s 4 rt (half h) entry (sum_64 (s.registers 13) 0) (argument low keeps c o entry s addi is p)
    (λ t agree.
    sets c.processor c.new t w rt (shifted_sum w (seen t)) (ap (loaded 4 c.new) agree.pc ∙ new.0) (below_32 (word_of addi))
    (step_high c.processor.formats w rt 13 (seen t) parts)
    ∙ ap (λ n. Some (put rt n (sum_64 t.pc 4) t))
    (high_is rt 13 w t parts (λ s. refl)
    ∙ nothing_added (t.registers 13) ((ppc64_form D).machine w) (no_immediate rt w (below_32 (word_of addi)) word)
    ∙ ap (λ n. sum_64 n 0) (same_register c k s t 13 stays agree)))
    (are_half c h _ _ halves)

-- ---- calls of `__tls_get_addr`

-- Old calls the function, and goes on after it.
calls : (n : ℕ) (c : Code) (number : ℕ) (k k' : Kinds) (s s' : State) (bl : List ℕ) (r : Returns n c number k s k' s' bl)
    → loaded 4 c.old s.pc ≡ word_of bl → run (suc r.executes) (machine c.processor c.old) s ≡ Some s'
calls n c number k k' s s' bl r stands =
    let p = c.processor in
    let w = word_of bl in
    let parts = and_parts (opcode_of w == 18) (field w 0 2 == 1) r.is in
    let target = moved s.pc ((ppc64_form Branch24).machine w) in
    run_first r.executes (machine p c.old) s (called bl s) (Some s')
    (goes p c.old s w (ppc64_machine.go_to target (record (seen s) { link = sum_64 s.pc 4 })) stands
    (step_bl p.formats w (seen s) (eqb-true _ _ parts.0) (eqb-true _ _ parts.1))
    ∙ ap Some (linked s (sum_64 s.pc 4) target))
    r.returns

-- New executes a `nop`, and an instruction that writes register 3.
in_place : (c : Code) (t : State) (first second value : ℕ) → loaded 4 c.new t.pc ≡ first
    → loaded 4 c.new (sum_64 t.pc 4) ≡ second → first ≡ nop
    → step c.processor.formats second (seen (go_to (sum_64 t.pc 4) t))
    ≡ Some (set 3 value (seen (go_to (sum_64 t.pc 4) t)))
    → run 2 (machine c.processor c.new) t ≡ Some (put 3 value (sum_64 t.pc 8) t)
in_place c t first second value stands stands_after blank goes_on =
    let p = c.processor in
    let u = go_to (sum_64 t.pc 4) t in
    run_first 1 (machine p c.new) t u _ (passes p c.new t first stands blank)
    (once p c.new u (put 3 value (sum_64 t.pc 8) t)
    (sets p c.new u second 3 value stands_after (omega arith) goes_on ∙ ap (λ a. Some (put 3 value a t)) (eight t.pc)))

are_call_low_halves : groups.Holds groups.any kinds.CallToAddi
    (groups.CallToLowHalf names.R_PPC64_TLSGD names.R_PPC64_TPREL16_LO)
are_call_low_halves before made is_made c o k k' s s' bl r leads first low =
    let f = c.processor.formats in
    let number = from_thread o (s.registers 13) in
    let blank = first_made made nop 0x38630000 (omega arith) (omega arith) is_made in
    let last = second_made made nop 0x38630000 (omega arith) (omega arith) is_made in
    let w = word_of low.relocated in
    value_group (link c) 1 r.executes k k' s s' 3 number (sum_64 s.pc 8) (sum_below s.pc 8)
    (calls 2 c number k k' s s' bl r r.stands.0) r.changes
    (λ t agree.
    in_place c t (word_of made) w number (ap (loaded 4 c.new) agree.pc ∙ first.0)
    (ap (λ a. loaded 4 c.new (sum_64 a 4)) agree.pc ∙ low.stands.0) blank
    (step_addi f w 3 3 (seen (go_to (sum_64 t.pc 4) t))
    (same_parts (ap opcode_of last) (ap rt_of last) (ap ra_of last)
    (d_after _ _ (drop 4 made) low.relocated low.applied.written))
    ∙ ap (λ n. Some (set 3 n (seen (go_to (sum_64 t.pc 4) t))))
    ((leads t agree).0 o.place (drop 4 made) low.relocated low.applied))
    ∙ ap (λ a. Some (put 3 number (sum_64 a 8) t)) agree.pc)

-- what two words are, that take the place of a call
record AreMade (second : ℕ) (made : List ℕ) : Type 0 where
  blank : word_of made ≡ nop
  last : word_of (drop 4 made) ≡ second

call_of_two : (kind : RewriteKind) (result : ℕ → ℕ → ℕ) (second : ℕ)
    → ((bl made : List ℕ) → IsRewritten kind bl made → AreMade second made)
    → ((f : Formats) (s : ppc64_machine.State)
    → step f second s ≡ Some (set 3 (result (s.registers 3) (s.registers 13)) s))
    → groups.Holds groups.any kind (groups.CallTo 2 result names.R_PPC64_TLSGD names.R_PPC64_NONE)
call_of_two kind result second are steps before made is_made c number k k' s s' bl r stays has new =
    let f = c.processor.formats in
    let words = are before made is_made in
    let value = result number (s.registers 13) in
    value_group (link c) 1 r.executes k k' s s' 3 value (sum_64 s.pc 8) (sum_below s.pc 8)
    (calls 2 c value k k' s s' bl r r.stands.0) r.changes
    (λ t agree.
    let u = seen (go_to (sum_64 t.pc 4) t) in
    in_place c t (word_of made) (word_of (drop 4 made)) value (ap (loaded 4 c.new) agree.pc ∙ new.0)
    (ap (λ a. loaded 4 c.new (sum_64 a 4)) agree.pc ∙ new.1.0) words.blank
    (ap (λ w. step f w u) words.last ∙ steps f u
    ∙ ap (λ n. Some (set 3 (result n (t.registers 13)) u)) (has t agree)
    ∙ ap (λ n. Some (set 3 (result number n) u)) (same_register c k s t 13 stays agree))
    ∙ ap (λ a. Some (put 3 value (sum_64 a 8) t)) agree.pc)

call_of_one : (kind : RewriteKind) (result : ℕ → ℕ → ℕ)
    → ((p : Processor) (code : ℕ → ℕ) (t : State) (bl made : List ℕ) (number : ℕ) → IsRewritten kind bl made
    → loaded 4 code t.pc ≡ word_of made → t.registers 3 ≡ number
    → machine p code t ≡ Some (put 3 (result number (t.registers 13)) (sum_64 t.pc 4) t))
    → groups.Holds groups.any kind (groups.CallTo 1 result names.R_PPC64_TLSGD names.R_PPC64_NONE)
call_of_one kind result steps before made is_made c number k k' s s' bl r stays has new =
    let p = c.processor in
    let value = result number (s.registers 13) in
    value_group (link c) 0 r.executes k k' s s' 3 value (sum_64 s.pc 4) (sum_below s.pc 4)
    (calls 1 c value k k' s s' bl r r.stands.0) r.changes
    (λ t agree.
    once p c.new t (put 3 value (sum_64 s.pc 4) t)
    (steps p c.new t before made number is_made (ap (loaded 4 c.new) agree.pc ∙ new.0) (has t agree)
    ∙ ap (λ n. Some (put 3 (result number n) (sum_64 t.pc 4) t)) (same_register c k s t 13 stays agree)
    ∙ ap (λ a. Some (put 3 value (sum_64 a 4) t)) agree.pc))

adds_thread : (f : Formats) (s : ppc64_machine.State)
    → step f 0x7c636a14 s ≡ Some (set 3 (sum_64 (s.registers 3) (s.registers 13)) s)
adds_thread f s = refl

-- ---- prefixed instructions

-- one that writes a register
sets_8 : (p : Processor) (code : ℕ → ℕ) (s : State) (bytes : List ℕ) (prefix op ra rt v : ℕ) → Stands 2 code s.pc bytes
    → HasPrefixedParts prefix op rt ra (prefixed_of bytes) → prefix / 2 ^ 8 ≡ 1 → rt < 32
    → step_prefixed p.formats (prefixed_of bytes) (seen s) ≡ Some (set_8 rt v (seen s))
    → machine p code s ≡ Some (put rt v (sum_64 s.pc 8) s)
sets_8 p code s bytes prefix op ra rt v stands parts one small steps =
    let w = word_of bytes in
    let both = prefixed_of bytes in
    let next = word_of (drop 4 bytes) in
    let whole : both ≡ w + next * 2 ^ 32 = two_words bytes in
    let prefix_is = parts.prefix_is in
    let long : opcode_of both ≡ 1 = omega (arith, prefix_is, one) in
    let long_word : opcode_of w ≡ 1 = omega (arith, whole, long) in
    let a = loaded 4 code s.pc in
    let b = loaded 4 code (sum_64 s.pc 4) in
    ap (λ n. execute p n s)
    (cond-true (is_prefix a) (a + b * 2 ^ 32) a (ap is_prefix stands.0 ∙ eq-eqb (opcode_of w) 1 long_word)
    ∙ ap (λ a. a + b * 2 ^ 32) stands.0 ∙ ap (λ b. w + b * 2 ^ 32) stands.1.0 ∙ sym whole)
    ∙ ap (executed p.others both s)
    (cond-true (is_prefix both) (step_prefixed p.formats both (seen s)) (step p.formats both (seen s))
    (eq-eqb (opcode_of both) 1 long) ∙ steps)
    ∙ ap Some (wrote s rt v (sum_64 s.pc 8) small)

below_prefixed : (insn : List ℕ) → prefixed_target insn < 32
below_prefixed insn = omega arith

-- where new has the same place
new_stands : (c : Code) (k : Kinds) (s t : State) (bytes : List ℕ) → Agree (link c) k s t → Stands 2 c.new s.pc bytes
    → Stands 2 c.new t.pc bytes
new_stands c k s t bytes agree stands = subst (λ a. Stands 2 c.new a bytes) (sym agree.pc) stands

are_prefixed : relocation_laws.Prefixes → groups.Holds (groups.both is_pld) kinds.PldToPaddi
    (groups.PldToPaddi names.R_PPC64_GOT_PCREL34 names.R_PPC64_PCREL34)
are_prefixed prefixes pld paddi is made c o k s r holds new =
    let p = c.processor in
    let rt = prefixed_target pld in
    leaves c k s 8 rt same (symbol_address o) (symbol_address o)
    (sets_8 p c.old s r.old.relocated 0x104 57 0 rt (symbol_address o) r.old.stands
    (prefixed_after _ _ pld r.old.relocated 0x104 57 rt 0 r.old.applied.written
    (pld_parts pld is.prefix_below is.word_below is.is)) refl (below_prefixed pld)
    (pld_sets prefixes p.formats o (seen s) pld r.old.relocated (symbol_address o) r.small r.at is r.old.applied holds))
    (λ t agree.
    sets_8 p c.new t new.relocated 0x184 14 0 rt (symbol_address o) (new_stands c k s t new.relocated agree new.stands)
    (prefixed_after _ _ paddi new.relocated 0x184 14 rt 0 new.applied.written (paddi_parts pld paddi made)) refl
    (below_prefixed pld)
    (paddi_sets prefixes p.formats o (seen t) pld paddi new.relocated r.small (agree.pc ∙ r.at) made new.applied))
    refl

-- a relocation that keeps what isn't the field of a prefixed instruction
abbrev KeepsPrefixed : Ppc64Relocation → Type 0
KeepsPrefixed name =
    (o : Operands) (before after : List ℕ) (prefix op rt ra : ℕ) → IsRelocated name o before after
    → HasPrefixedParts prefix op rt ra (prefixed_of before) → HasPrefixedParts prefix op rt ra (prefixed_of after)

-- `paddi rT` of a GOT entry
pla_sets : (c : Code) (name : Ppc64Relocation) (o : Operands) (s : State) (insn : List ℕ)
    → KeepsPrefixed name → groups.IsPrefixed is_pla insn → (r : groups.IsRelative name c o s insn)
    → moved s.pc ((ppc64_form Prefixed).machine (prefixed_of r.old.relocated)) ≡ o.got_entry
    → machine c.processor c.old s ≡ Some (put (prefixed_target insn) o.got_entry (sum_64 s.pc 8) s)
pla_sets c name o s insn keeps is r leads =
    let rt = prefixed_target insn in
    let parts =
    keeps o insn r.old.relocated 0x184 14 rt 0 r.old.applied (pla_parts insn is.prefix_below is.word_below is.is) in
    sets_8 c.processor c.old s r.old.relocated 0x184 14 0 rt o.got_entry r.old.stands parts refl (below_prefixed insn)
    (step_paddi c.processor.formats (prefixed_of r.old.relocated) rt (seen s) parts
    ∙ ap (λ n. Some (set_8 rt n (seen s))) leads)

-- `paddi rT,13` of the offset
variable_sets : relocation_laws.Prefixes → (c : Code) (o : Operands) (k : Kinds) (s t : State) (insn over : List ℕ)
    → AreAddresses o → take 8 over ≡ two_words_of 0x06000000 (addi_of_thread 0 (rt_of (word_of (drop 4 (take 8 insn)))))
    → k.registers 13 ≡ same → (new : Has 2 c.new s.pc names.R_PPC64_TPREL34 o over) → Agree (link c) k s t
    → machine c.processor c.new t
    ≡ Some (put (prefixed_target insn) (from_thread o (s.registers 13)) (sum_64 t.pc 8) t)
variable_sets prefixes c o k s t insn over small made stays new agree =
    let rt = prefixed_target insn in
    let parts =
    prefixed_after _ _ over new.relocated 0x180 14 rt 13 new.applied.written (over_thread 0 insn over (omega arith) made).parts in
    sets_8 c.processor c.new t new.relocated 0x180 14 13 rt (from_thread o (s.registers 13))
    (new_stands c k s t new.relocated agree new.stands) parts refl (below_prefixed insn)
    (step_paddi_over c.processor.formats (prefixed_of new.relocated) rt 13 (seen t) parts
    ∙ ap (λ n. Some (set_8 rt n (seen t)))
    (variable_there prefixes o (t.registers 13) over new.relocated small new.applied
    ∙ ap (from_thread o) (same_register c k s t 13 stays agree)))

argument_variables : relocation_laws.Prefixes
    → groups.Holds (groups.both is_pla) kinds.PaddiToPaddiThread
    (groups.MakesVariable (λ o s number. number ≡ o.got_entry) names.R_PPC64_GOT_TLSGD_PCREL34 names.R_PPC64_TPREL34)
argument_variables prefixes paddi over is made c o number k s r number_is stays new h halves =
    leaves c k s 8 (prefixed_target paddi) (half h) number (from_thread o (s.registers 13))
    (pla_sets c names.R_PPC64_GOT_TLSGD_PCREL34 o s paddi
    (λ o x y p op rt ra a. prefixed_after _ _ x y p op rt ra a.written) is r
    (general_entry prefixes o (seen s) paddi r.old.relocated r.small r.at r.old.applied)
    ∙ ap (λ n. Some (put (prefixed_target paddi) n (sum_64 s.pc 8) s)) (sym number_is))
    (λ t agree. variable_sets prefixes c o k s t paddi over r.small made stays new agree)
    (are_half c h _ _ halves)

loaded_variables : relocation_laws.Prefixes
    → groups.Holds (groups.both is_pld) kinds.PldToPaddiThread
    (groups.MakesVariable (λ o s number. (number ≡ thread_offset o) × (loaded 8 s.memory o.got_entry ≡ number))
    names.R_PPC64_GOT_TPREL_PCREL34 names.R_PPC64_TPREL34)
loaded_variables prefixes pld over is made c o number k s r holds stays new h halves =
    let rt = prefixed_target pld in
    let parts =
    prefixed_after _ _ pld r.old.relocated 0x104 57 rt 0 r.old.applied.written
    (pld_parts pld is.prefix_below is.word_below is.is) in
    leaves c k s 8 rt (half h) number (from_thread o (s.registers 13))
    (sets_8 c.processor c.old s r.old.relocated 0x104 57 0 rt number r.old.stands parts refl (below_prefixed pld)
    (step_pld c.processor.formats (prefixed_of r.old.relocated) rt (seen s) parts
    ∙ ap (λ n. Some (set_8 rt n (seen s)))
    (ap (loaded 8 s.memory) (offset_entry prefixes o (seen s) pld r.old.relocated r.small r.at r.old.applied) ∙ holds.1)))
    (λ t agree. variable_sets prefixes c o k s t pld over r.small made stays new agree)
    (are_half c h _ _ halves)

are_prefixed_loads : relocation_laws.Prefixes
    → groups.Holds (groups.both is_pla) kinds.PaddiToPld
    (groups.ArgumentToLoad names.R_PPC64_GOT_TLSGD_PCREL34 names.R_PPC64_GOT_TPREL_PCREL34)
are_prefixed_loads prefixes paddi pld is made c x y offset k s r small at holds new h halves =
    let rt = prefixed_target paddi in
    let parts =
    prefixed_after _ _ pld new.relocated 0x104 57 rt 0 new.applied.written (loads_thread paddi pld made) in
    leaves c k s 8 rt (half h) x.got_entry offset
    (pla_sets c names.R_PPC64_GOT_TLSGD_PCREL34 x s paddi
    (λ o x y p op rt ra a. prefixed_after _ _ x y p op rt ra a.written) is r
    (general_entry prefixes x (seen s) paddi r.old.relocated r.small r.at r.old.applied))
    (λ t agree.
    sets_8 c.processor c.new t new.relocated 0x104 57 0 rt offset (new_stands c k s t new.relocated agree new.stands) parts
    refl (below_prefixed paddi)
    (step_pld c.processor.formats (prefixed_of new.relocated) rt (seen t) parts
    ∙ ap (λ n. Some (set_8 rt n (seen t)))
    (ap (loaded 8 t.memory) (offset_entry prefixes y (seen t) pld new.relocated small (agree.pc ∙ at) new.applied)
    ∙ holds t agree)))
    (are_half c h _ _ halves)

are_prefixed_blocks : relocation_laws.Prefixes
    → groups.Holds (groups.both is_pla) kinds.PaddiToPaddi4096
    (groups.ArgumentToBlock names.R_PPC64_GOT_TLSLD_PCREL34 names.R_PPC64_NONE)
are_prefixed_blocks prefixes paddi over is made c o k s r stays new h halves =
    let rt = prefixed_target paddi in
    let there = over_thread 0x1000 paddi over (omega arith) made in
    leaves c k s 8 rt (half h) o.got_entry (sum_64 (s.registers 13) 0x1000)
    (pla_sets c names.R_PPC64_GOT_TLSLD_PCREL34 o s paddi
    (λ o x y p op rt ra a. prefixed_after _ _ x y p op rt ra a.written) is r
    (module_entry prefixes o (seen s) paddi r.old.relocated r.small r.at r.old.applied))
    (λ t agree.
    sets_8 c.processor c.new t over 0x180 14 13 rt (sum_64 (s.registers 13) 0x1000) (new_stands c k s t over agree new)
    there.parts refl (below_prefixed paddi)
    (step_paddi_over c.processor.formats (prefixed_of over) rt 13 (seen t) there.parts
    ∙ ap (λ n. Some (set_8 rt n (seen t)))
    (ap (moved (t.registers 13)) (displacement_is rt (prefixed_of over) there.number_is)
    ∙ wrapped_is (pos (t.registers 13) +ℤ pos 0x1000) 0 (t.registers 13 + 0x1000) (omega (arith, ints))
    ∙ ap (λ n. sum_64 n 0x1000) (same_register c k s t 13 stays agree))))
    (are_half c h _ _ halves)

over_variable : (kind : RewriteKind) (how : Use) → VariableSteps kind how
    → groups.Holds (groups.word how.test) kind (groups.OverVariable how names.R_PPC64_TLS names.R_PPC64_NONE)
over_variable kind how steps insn direct is made c offset k s has leads old new =
    let f = c.processor.formats in
    uses c how (word_of insn) (sum_64 offset (s.registers 13)) k s (word_of insn) (word_of direct) old.0 new.0
    (steps.sum.old f (seen s) insn offset is has)
    (λ t agree. steps.new f (seen t) insn direct offset (s.registers 13) is made (leads t agree))

-- ---- the TOC pointer

-- two instructions that leave it
toc_goes : (p : Processor) (code : ℕ → ℕ) (s : State) (first second target : ℕ) → loaded 4 code s.pc ≡ first
    → loaded 4 code (sum_64 s.pc 4) ≡ second → LeavesToc p.formats first second target (seen s)
    → run 2 (machine p code) s ≡ Some (put 2 target (sum_64 s.pc 8) s)
toc_goes p code s first second target stands stands_after l =
    let s1 = put 2 l.high (sum_64 s.pc 4) s in
    run_first 1 (machine p code) s s1 _ (sets p code s first 2 l.high stands (omega arith) l.first)
    (once p code s1 (put 2 target (sum_64 s.pc 8) s)
    (sets p code s1 second 2 target stands_after (omega arith)
    (subst (λ q. step p.formats second q ≡ Some (set 2 target q)) (sym (still_seen s 2 l.high (sum_64 s.pc 4) (omega arith)))
    l.second)
    ∙ ap Some (last_counts 2 l.high target (sum_64 s.pc 4) (sum_64 s1.pc 4) s)
    ∙ ap (λ a. Some (put 2 target a s)) (eight s.pc)))

are_entries : relocation_laws.RelativeAddresses → relocation_laws.AbsoluteAddresses → groups.TocAtEntry
are_entries relative absolute c o k s addis addi lis following small at has is_addis is_addi made made_after old old_after
    new new_after =
    let p = c.processor in
    value_group (link c) 1 1 k (with_register 2 same k) s _ 2 (symbol_address o) (sum_64 s.pc 8) (sum_below s.pc 8)
    (toc_goes p c.old s (word_of old.relocated) (word_of old_after.relocated) (symbol_address o) old.stands.0
    old_after.stands.0
    (distance_leaves relative p.formats o (seen s) addis addi old.relocated old_after.relocated small has is_addis is_addi
    old.applied old_after.applied))
    (nothing_changes _ _)
    (λ t agree.
    toc_goes p c.new t (word_of new.relocated) (word_of new_after.relocated) (symbol_address o)
    (ap (loaded 4 c.new) agree.pc ∙ new.stands.0) (ap (λ a. loaded 4 c.new (sum_64 a 4)) agree.pc ∙ new_after.stands.0)
    (address_leaves absolute p.formats o (seen t) addis addi lis following new.relocated new_after.relocated small made
    made_after new.applied new_after.applied)
    ∙ ap (λ a. Some (put 2 (symbol_address o) (sum_64 a 8) t)) agree.pc)

are_toc : groups.Holds groups.after_call kinds.NopToRestoreToc
    (groups.RestoresToc names.R_PPC64_REL24 names.R_PPC64_REL24)
are_toc call restored is made c k s old new holds =
    let p = c.processor in
    let toc = s.registers 2 in
    let next = sum_64 s.pc 4 in
    subst (λ u. Group (of_link (link c)) 1 k s (with_register 2 same k) u) (unchanged 2 toc next s refl)
    (leaves c k s 4 2 same toc toc
    (goes p c.old s (word_of (drop 4 call)) (go_on (seen s)) old.0 (restores_toc p.formats (seen s) call restored is.prefix_below is.is made).0
    ∙ ap Some (went s next ∙ sym (unchanged 2 toc next s refl)))
    (λ t agree.
    sets p c.new t (word_of (drop 4 restored)) 2 (loaded 8 t.memory (sum_64 (t.registers 1) 24))
    (ap (loaded 4 c.new) agree.pc ∙ new.0) (omega arith) (restores_toc p.formats (seen t) call restored is.prefix_below is.is made).1
    ∙ ap (λ n. Some (put 2 n (sum_64 t.pc 4) t)) (holds t agree))
    refl)

-- ---- all

low_over : (r : ℕ) (kind : RewriteKind) {low whole : Ppc64Relocation} {address : Operands → ℕ → ℕ}
    → OverSteps r kind low whole D address (groups.adds is_addi) → OverSteps r kind low whole D address groups.is_d_over
    → groups.Holds groups.any kind (groups.LowOverBase r address low whole)
low_over r kind sum access insn over made =
    (over_base r kind _ _ _ _ _ sum insn over made, over_base r kind _ _ _ _ _ access insn over made)

branch_to_nop : groups.Holds groups.any kinds.BranchToNop
    (groups.CallTo 1 (λ number thread. number) names.R_PPC64_TLSGD names.R_PPC64_NONE)
branch_to_nop =
    call_of_one kinds.BranchToNop (λ number thread. number)
    (λ p code t bl made number is stands has.
    passes p code t (word_of made) stands (word_is nop made (omega arith) is)
    ∙ ap Some (sym (unchanged 3 number (sum_64 t.pc 4) t has)))

module _ (toc : relocation_laws.TocAddresses) (entries : relocation_laws.EntryAddresses)
    (got : relocation_laws.GotAddresses) (thread : relocation_laws.ThreadAddresses)
    (prefixes : relocation_laws.Prefixes) (near : relocation_laws.Displacements) where
  rewrites : (name : Ppc64Relocation) (kind : RewriteKind)
      → let l = groups.law_of name kind in groups.Holds l.sort kind (l.IsGroup name (groups.name_of l.left))
  rewrites names.R_PPC64_REL24 kinds.NopToRestoreToc = are_toc
  rewrites names.R_PPC64_TOC16_HA kinds.AddisToNop =
      to_nop 2 kinds.AddisToNop names.R_PPC64_TOC16_HA groups.from_toc (λ o n a. groups.Leads names.R_PPC64_TOC16_LO D o n a × groups.Leads names.R_PPC64_TOC16_LO_DS Ds o n a)
      (λ s. refl) (λ addis blank made. word_is nop blank (omega arith) made) (λ o x y a. d_after _ _ x y a.written) (toc_leads toc)
  rewrites names.R_PPC64_TOC16_LO kinds.BaseToToc =
      low_over 2 kinds.BaseToToc (addi_over 2 _ _ _ _ (toc_d near)) (access_over 2 _ _ _ _ (toc_d near))
  rewrites names.R_PPC64_TOC16_LO_DS kinds.BaseToToc =
      λ insn over made. (
        over_base 2 _ _ _ _ _ _ (word_access_over 2 _ _ _ _ (toc_ds near) (λ o x y a. (ds_after _ _ x y a.written).1) (λ o x y a. (ds_after _ _ x y a.written).1)) insn over made,
        vector_over 2 _ _ _ _ (toc_ds near) insn over made,
      )
  rewrites names.R_PPC64_TPREL16_HA kinds.AddisThreadToNop =
      to_nop 13 kinds.AddisThreadToNop names.R_PPC64_TPREL16_HA groups.from_thread LowHalfLeads
      (λ s. refl) (λ addis blank made. word_is nop blank (omega arith) made) (λ o x y a. d_after _ _ x y a.written) (thread_halves thread)
  rewrites names.R_PPC64_TPREL16_LO kinds.BaseToThread =
      low_over 13 kinds.BaseToThread (addi_over 13 _ _ _ _ (thread_d near)) (access_over 13 _ _ _ _ (thread_d near))
  rewrites names.R_PPC64_TPREL16_LO_DS kinds.BaseToThread =
      λ insn over made. (
        over_base 13 _ _ _ _ _ _ (word_access_over 13 _ _ _ _ (thread_ds near) (λ o x y a. (ds_after _ _ x y a.written).1) (λ o x y a. (ds_after _ _ x y a.written).1)) insn over made,
        vector_over 13 _ _ _ _ (thread_ds near) insn over made,
      )
  rewrites names.R_PPC64_GOT_PCREL34 kinds.PldToPaddi = are_prefixed prefixes
  rewrites names.R_PPC64_GOT16_HA kinds.KeepAddis =
      kept_high names.R_PPC64_GOT16_HA names.R_PPC64_TOC16_HA groups.entry_from_toc groups.from_toc
      (groups.Leads names.R_PPC64_GOT16_LO_DS Ds) (groups.Leads names.R_PPC64_TOC16_LO D) (λ o x y a. d_after _ _ x y a.written) (λ o x y a. d_after _ _ x y a.written)
      (got_leads got) (λ o small n addis after a. (toc_leads toc o small n addis after a).0)
  rewrites names.R_PPC64_GOT16_LO_DS kinds.LdToAddi = are_loads
  rewrites names.R_PPC64_GOT_TPREL16_HA kinds.AddisToNop =
      to_nop 2 kinds.AddisToNop names.R_PPC64_GOT_TPREL16_HA groups.entry_from_toc (groups.Leads names.R_PPC64_GOT_TPREL16_LO_DS Ds)
      (λ s. refl) (λ addis blank made. word_is nop blank (omega arith) made) (λ o x y a. d_after _ _ x y a.written) (offset_leads entries)
  rewrites names.R_PPC64_GOT_TPREL16_LO_DS kinds.LdToAddisThread =
      offsets thread names.R_PPC64_GOT_TPREL16_LO_DS (λ o x y a. ds_after _ _ x y a.written)
  rewrites names.R_PPC64_GOT_TPREL16_DS kinds.LdToAddisThread =
      offsets thread names.R_PPC64_GOT_TPREL16_DS (λ o x y a. ds_after _ _ x y a.written)
  rewrites names.R_PPC64_GOT_TPREL_PCREL34 kinds.PldToPaddiThread = loaded_variables prefixes
  rewrites names.R_PPC64_TLS kinds.AddToAddi = over_offset _ _ _ adds_offset
  rewrites names.R_PPC64_TLS kinds.IndexedToD = over_offset _ _ _ accesses_offset
  rewrites names.R_PPC64_TLS kinds.IndexedToDs = over_offset _ _ _ words_offset
  rewrites names.R_PPC64_TLS kinds.AddToMove = over_variable _ _ sum_to_move
  rewrites names.R_PPC64_TLS kinds.IndexedToDirect = over_variable _ _ access_to_direct
  rewrites names.R_PPC64_GOT_TLSGD16_HA kinds.AddisToNop =
      to_nop 2 kinds.AddisToNop names.R_PPC64_GOT_TLSGD16_HA groups.entry_from_toc (groups.Leads names.R_PPC64_GOT_TLSGD16_LO D)
      (λ s. refl) (λ addis blank made. word_is nop blank (omega arith) made) (λ o x y a. d_after _ _ x y a.written) (general_leads entries)
  rewrites names.R_PPC64_GOT_TLSGD16_HA kinds.KeepAddis =
      kept_high names.R_PPC64_GOT_TLSGD16_HA names.R_PPC64_GOT_TPREL16_HA groups.entry_from_toc groups.entry_from_toc
      (groups.Leads names.R_PPC64_GOT_TLSGD16_LO D) (groups.Leads names.R_PPC64_GOT_TPREL16_LO_DS Ds) (λ o x y a. d_after _ _ x y a.written) (λ o x y a. d_after _ _ x y a.written)
      (general_leads entries) (offset_leads entries)
  rewrites names.R_PPC64_GOT_TLSGD16_LO kinds.AddiToAddisThread =
      arguments thread names.R_PPC64_GOT_TLSGD16_LO (λ o x y a. d_after _ _ x y a.written)
  rewrites names.R_PPC64_GOT_TLSGD16_LO kinds.AddiToLd =
      argument_offsets names.R_PPC64_GOT_TLSGD16_LO names.R_PPC64_GOT_TPREL16_LO_DS (λ o x y a. d_after _ _ x y a.written) (λ o x y a. ds_after _ _ x y a.written)
  rewrites names.R_PPC64_GOT_TLSGD16 kinds.AddiToAddisThread =
      arguments thread names.R_PPC64_GOT_TLSGD16 (λ o x y a. d_after _ _ x y a.written)
  rewrites names.R_PPC64_GOT_TLSGD16 kinds.AddiToLd =
      argument_offsets names.R_PPC64_GOT_TLSGD16 names.R_PPC64_GOT_TPREL16_DS (λ o x y a. d_after _ _ x y a.written) (λ o x y a. ds_after _ _ x y a.written)
  rewrites names.R_PPC64_GOT_TLSGD_PCREL34 kinds.PaddiToPaddiThread = argument_variables prefixes
  rewrites names.R_PPC64_GOT_TLSGD_PCREL34 kinds.PaddiToPld = are_prefixed_loads prefixes
  rewrites names.R_PPC64_TLSGD kinds.BranchToNop = branch_to_nop
  rewrites names.R_PPC64_TLSGD kinds.BranchToAdd =
      call_of_one kinds.BranchToAdd sum_64
      (λ p code t bl made number is stands has.
      sets p code t (word_of made) 3 (sum_64 (t.registers 3) (t.registers 13)) stands (omega arith)
      (ap (λ w. step p.formats w (seen t)) (word_is 0x7c636a14 made (omega arith) is) ∙ adds_thread p.formats (seen t))
      ∙ ap (λ n. Some (put 3 (sum_64 n (t.registers 13)) (sum_64 t.pc 4) t)) has)
  rewrites names.R_PPC64_TLSGD kinds.CallToAddi = are_call_low_halves
  rewrites names.R_PPC64_TLSGD kinds.CallToAdd =
      call_of_two kinds.CallToAdd sum_64 0x7c636a14
      (λ bl made is. record {
        blank = first_made made nop 0x7c636a14 (omega arith) (omega arith) is;
        last = second_made made nop 0x7c636a14 (omega arith) (omega arith) is;
      })
      adds_thread
  rewrites names.R_PPC64_GOT_TLSLD16_HA kinds.AddisToNop =
      to_nop 2 kinds.AddisToNop names.R_PPC64_GOT_TLSLD16_HA groups.entry_from_toc (groups.Leads names.R_PPC64_GOT_TLSLD16_LO D)
      (λ s. refl) (λ addis blank made. word_is nop blank (omega arith) made) (λ o x y a. d_after _ _ x y a.written) (module_leads entries)
  rewrites names.R_PPC64_GOT_TLSLD16_LO kinds.AddiToAddisThread =
      module_arguments names.R_PPC64_GOT_TLSLD16_LO (λ o x y a. d_after _ _ x y a.written)
  rewrites names.R_PPC64_GOT_TLSLD16 kinds.AddiToAddisThread =
      module_arguments names.R_PPC64_GOT_TLSLD16 (λ o x y a. d_after _ _ x y a.written)
  rewrites names.R_PPC64_GOT_TLSLD_PCREL34 kinds.PaddiToPaddi4096 = are_prefixed_blocks prefixes
  rewrites names.R_PPC64_TLSLD kinds.BranchToNop = branch_to_nop
  rewrites names.R_PPC64_TLSLD kinds.CallToAddi4096 =
      call_of_two kinds.CallToAddi4096 (λ number thread. sum_64 number 0x1000) 0x38631000
      (λ bl made is. record {
        blank = first_made made nop 0x38631000 (omega arith) (omega arith) is;
        last = second_made made nop 0x38631000 (omega arith) (omega arith) is;
      })
      (λ f s. step_addi f 0x38631000 3 3 s (record { opcode_is = refl; rt_is = refl; ra_is = refl })
      ∙ ap (λ n. Some (set 3 n s)) (adds_4096 (s.registers 3)))
  rewrites name kind = tt

pub are_groups : relocation_laws.AbsoluteAddresses → relocation_laws.RelativeAddresses → relocation_laws.TocAddresses
    → relocation_laws.EntryAddresses → relocation_laws.GotAddresses → relocation_laws.ThreadAddresses
    → relocation_laws.Prefixes → relocation_laws.Displacements → groups.Groups
are_groups absolute relative toc entries got thread prefixes near =
    record {
      rewrites = rewrites toc entries got thread prefixes near;
      entries = are_entries relative absolute;
      near_entries = λ o small. (
        λ at insn over a. times_one o.got_base _ ∙ address_is _ _ (near.3 o small o.place insn over
            (record { value = a.value; value_is = a.value_is; accepted = a.accepted; written = a.written }) tt),
        λ at insn over a. times_one o.got_base _ ∙ address_is _ _ (near.4 o small o.place insn over
            (record { value = a.value; value_is = a.value_is; accepted = a.accepted; written = a.written }) tt),
        λ at insn over a. times_one o.got_base _ ∙ address_is _ _ (near.5 o small o.place insn over
            (record { value = a.value; value_is = a.value_is; accepted = a.accepted; written = a.written }) tt),
      );
      others = λ c. others_agree (λ code at. execute c.processor (instruction_at code at)) (link c) (λ code s. refl);
    }
