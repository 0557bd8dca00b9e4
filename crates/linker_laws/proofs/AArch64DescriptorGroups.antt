-- AArch64's groups of TLS descriptors.
use Rattle.linker_laws.proofs.Imports.{Add, Agree, AreAddresses, Bool, Code, Descriptor, EndsInNops, Group, IsAdrp, IsLdr64, Kinds, List, Operands, Program, Some, State, aarch64_form, added, adrp_address, ap, ap₂, arith, called, cond, cond-false, cond-true, eq-eqb, eqb, executed, false, go_to, in_64_bits, link, load_64, loaded, machine, ne_eqb, nop, of_link, pos, put, rd_of, refl, rn_of, run, seen, step, subst, suc-add, sum_64, sym, true, with_entry, word_of, ℕ, ◌+ℤ◌, ◌+◌, ◌∙◌, ◌≡◌}
use Rattle.linker_laws.specs.AArch64Groups as groups
use Rattle.linker_laws.specs.AArch64Machine as aarch64_machine
use Rattle.linker_laws.specs.AArch64RelocationLaws as relocation_laws
use Rattle.linker_laws.proofs.AArch64Groups.{below_32, nop_goes, sets, sets_twice, still_seen}
use Rattle.linker_laws.proofs.AArch64Moves.{offset_moves}
use Rattle.linker_laws.proofs.AArch64Pairs.{adds_up, loads, word_is}
use Rattle.linker_laws.proofs.AArch64Steps.{step_add, step_blr, step_ldr}
use Rattle.linker_laws.proofs.AArch64Words.{add_after, adr_of_register, adrp_after, blr_of, ldr_of_register_after, masked_field, of_registers}
use Rattle.linker_laws.proofs.Agreement.{value_group}
use Rattle.linker_laws.proofs.CoveredRuns.{run_first, run_on}
use Rattle.linker_laws.proofs.Relocated.{addresses as are_addresses}
use Rattle.linker_laws.proofs.Sums.{eight, sum_on, three_words, sum_below}

-- ---- the call

four_words : (a : ℕ) → sum_64 (sum_64 (sum_64 (sum_64 a 4) 4) 4) 4 ≡ sum_64 a 16
four_words a = omega arith

-- what is written last counts
last_counts : (e f u t link a b d next : ℕ) (s : State)
    → put 30 link next (put 0 e a (put t f b (put 0 u d s))) ≡ put 30 link next (put 0 e f (put t f f s))
last_counts e f u t link a b d next s =
    λ i. record s { pc = next; registers = λ m. cond (eqb m 30) link (by (eqb m 0) (eqb m t) (s.registers m) i) }
  where
    by : (b c : Bool) (r : ℕ) → cond b e (cond c f (cond b u r)) ≡ cond b e (cond c f r)
    by true c r = refl
    by false c r = refl

-- `blr xT`
calls : (others : ℕ → Program) (code : ℕ → ℕ) (s : State) (word t : ℕ) → loaded 4 code s.pc ≡ word
    → step word (seen s)
    ≡ Some (aarch64_machine.go_to (s.registers t) (aarch64_machine.write_x_or_sp 30 (sum_64 s.pc 4) (seen s)))
    → machine others code s ≡ Some (put 30 (sum_64 s.pc 4) (s.registers t) s)
calls others code s word t stands goes =
    ap (λ w. executed others w s (step w (seen s))) stands ∙ ap (executed others word s) goes

-- The sequence ends at the function.
descriptor_goes : relocation_laws.EntryAddresses → (c : Code) (o : Operands) (offset : ℕ) (k : Kinds)
    (s : State) (k' : Kinds) (s' : State) (adrp ldr add blr : List ℕ)
    → Descriptor c o offset k s k' s' adrp ldr add blr
    → run 4 (machine c.others c.old) s ≡ Some (called o (rd_of (word_of ldr)) s)
descriptor_goes entries c o offset k s k' s' adrp ldr add blr d =
    let i = d.instructions in
    let p = machine c.others c.old in
    let x = word_of d.page.relocated in
    let y = word_of d.low.relocated in
    let z = word_of d.sum.relocated in
    let t = rd_of (word_of ldr) in
    let entry = o.got_entry in
    let f = load_64 s.memory entry in
    let l = loads o 0 t x y entry (seen s)
    (adr_of_register i.adrp_into_x0 (adrp_after _ _ adrp d.page.relocated d.page.applied.written i.adrp_opcode))
    (of_registers refl i.ldr_from_x0 (ldr_of_register_after _ _ ldr d.low.relocated d.low.applied.written
    i.ldr_opcode))
    (λ e. omega arith) i.not_31 d.at
    (entries.4 o d.small o.place adrp d.page.relocated d.page.applied tt (sum_64 o.place 4) ldr
    d.low.relocated d.low.applied tt) in
    let second = of_registers refl i.ldr_from_x0 (ldr_of_register_after _ _ ldr d.low.relocated
    d.low.applied.written i.ldr_opcode) in
    let third = of_registers i.add_into_x0 i.add_from_x0 (add_after _ _ add d.sum.relocated
    d.sum.applied.written
    (masked_field (word_of add) 0xffc00000 0x91000000 22 32 i.add_opcode refl)) in
    let fourth = blr_of t (word_of blr) (below_32 (word_of ldr)) i.calls in
    let u = adrp_address x (seen s) in
    let s1 = put 0 u (sum_64 s.pc 4) s in
    let v = aarch64_machine.loaded y (seen s1) in
    let s2 = put t v (sum_64 s1.pc 4) s1 in
    let w = added z (seen s2) in
    let s3 = put 0 w (sum_64 s2.pc 4) s2 in
    let value : v ≡ f =
    ap (aarch64_machine.loaded y) (still_seen s 0 u (omega arith)) ∙ l.value_is in
    let sum : w ≡ entry =
    ap (λ r. in_64_bits (pos (s2.registers r) +ℤ (aarch64_form Add).machine z)) third.rn_is
    ∙ ap (λ r. in_64_bits (pos r +ℤ (aarch64_form Add).machine z))
    (cond-false (eqb 0 t) v u (ne_eqb 0 t (λ e. i.not_into_x0 (sym e))))
    ∙ adds_up o x z entry (seen s) d.at
    (entries.5 o d.small o.place adrp d.page.relocated d.page.applied tt (sum_64 o.place 8) add
    d.sum.relocated d.sum.applied tt) in
    let target : s3.registers t ≡ f =
    cond-false (eqb t 0) w (s2.registers t) (ne_eqb t 0 i.not_into_x0)
    ∙ cond-true (eqb t t) v (s1.registers t) (eq-eqb t t refl) ∙ value in
    let at = d.at in
    run_first 3 p s s1 _ (sets c.others c.old s x 0 u (ap (loaded 4 c.old) at ∙ d.page.stands) l.first)
    (run_first 2 p s1 s2 _
    (sets c.others c.old s1 y t v (ap (λ a. loaded 4 c.old (sum_64 a 4)) at ∙ d.low.stands)
    (step_ldr y t (seen s1) second.decodes second.rd_is i.not_31))
    (run_first 1 p s2 s3 _
    (sets c.others c.old s2 z 0 w
    (ap (loaded 4 c.old) (ap (λ a. sum_64 (sum_64 a 4) 4) at ∙ eight o.place) ∙ d.sum.stands)
    (step_add z 0 (seen s2) third.decodes third.rd_is))
    (run_first 0 p s3 (put 30 (sum_64 s3.pc 4) (s3.registers t) s3) _
    (calls c.others c.old s3 (word_of blr) t
    (ap (loaded 4 c.old) (ap (λ a. sum_64 (sum_64 (sum_64 a 4) 4) 4) at ∙ three_words o.place) ∙ d.call)
    (step_blr (word_of blr) t (seen s3) fourth.decodes fourth.rn_is i.not_31))
    (ap Some (written at v w f entry u t (s3.registers t) value sum target)))))
  where
    written : s.pc ≡ o.place → (v w f entry u t n : ℕ) → v ≡ f → w ≡ entry → n ≡ f
        → put 30 (sum_64 (sum_64 (sum_64 (sum_64 s.pc 4) 4) 4) 4) n
        (put 0 w (sum_64 (sum_64 (sum_64 s.pc 4) 4) 4)
        (put t v (sum_64 (sum_64 s.pc 4) 4) (put 0 u (sum_64 s.pc 4) s)))
        ≡ put 30 (sum_64 o.place 16) f (put 0 entry f (put t f f s))
    written at v w f entry u t n is is2 is3 =
        ap (λ a. put 30 a n (put 0 w (sum_64 (sum_64 (sum_64 s.pc 4) 4) 4)
        (put t v (sum_64 (sum_64 s.pc 4) 4) (put 0 u (sum_64 s.pc 4) s))))
        (ap (λ a. sum_64 (sum_64 (sum_64 (sum_64 a 4) 4) 4) 4) at ∙ four_words o.place)
        ∙ ap (λ n. put 30 (sum_64 o.place 16) n (put 0 w (sum_64 (sum_64 (sum_64 s.pc 4) 4) 4)
        (put t v (sum_64 (sum_64 s.pc 4) 4) (put 0 u (sum_64 s.pc 4) s)))) is3
        ∙ ap₂ (λ w v. put 30 (sum_64 o.place 16) f (put 0 w (sum_64 (sum_64 (sum_64 s.pc 4) 4) 4)
        (put t v (sum_64 (sum_64 s.pc 4) 4) (put 0 u (sum_64 s.pc 4) s)))) is2 is
        ∙ last_counts entry f u t (sum_64 o.place 16) (sum_64 (sum_64 (sum_64 s.pc 4) 4) 4)
        (sum_64 (sum_64 s.pc 4) 4) (sum_64 s.pc 4) f s

-- ---- what takes its place

-- two `nop` after a number in X0
end_in_nops : (c : Code) (o : Operands) (t : State) (v : ℕ) (add blr nop1 nop2 : List ℕ)
    → EndsInNops c o add blr nop1 nop2
    → run 2 (machine c.others c.new) (put 0 v (sum_64 o.place 8) t) ≡ Some (put 0 v (sum_64 o.place 16) t)
end_in_nops c o t v add blr nop1 nop2 is =
    let p = machine c.others c.new in
    let u = put 0 v (sum_64 o.place 8) t in
    let w = go_to (sum_64 u.pc 4) u in
    run_first 1 p u w _
    (nop_goes c.others c.new u (sum_64 o.place 8) (word_of nop1) refl is.first
    (word_is nop nop1 (omega arith) is.first_made))
    (run_first 0 p w (go_to (sum_64 w.pc 4) w) _
    (nop_goes c.others c.new w (sum_64 o.place 12) (word_of nop2) (sum_on o.place 8 4) is.second
    (word_is nop nop2 (omega arith) is.second_made))
    (ap (λ a. Some (put 0 v a t)) (ap (λ a. sum_64 a 4) (sum_on o.place 8 4) ∙ sum_on o.place 12 4)))

-- The function returns after the sequence, and new leaves the same in X0.
group_of : relocation_laws.EntryAddresses → (c : Code) (o : Operands) (v : ℕ) (k k' : Kinds)
    (s s' : State) (adrp ldr add blr nop1 nop2 : List ℕ)
    → Descriptor c o v k s k' s' adrp ldr add blr → EndsInNops c o add blr nop1 nop2
    → ((t : State) → Agree (link c) k s t
    → run 2 (machine c.others c.new) t ≡ Some (put 0 v (sum_64 o.place 8) t))
    → Group (of_link (link c)) 4 k s k' s'
group_of entries c o v k k' s s' adrp ldr add blr nop1 nop2 d ends leaves =
    value_group (link c) 3 (3 + d.executes) k k' s s' 0 v (sum_64 o.place 16) (sum_below o.place 16)
    (subst (λ n. run n (machine c.others c.old) s ≡ Some s') (suc-add 3 d.executes)
    (run_on 4 d.executes (machine c.others c.old) s (called o (rd_of (word_of ldr)) s) (Some s')
    (descriptor_goes entries c o v k s k' s' adrp ldr add blr d) d.returns))
    d.changes
    (λ t agree.
    run_on 2 2 (machine c.others c.new) t _ _ (leaves t agree)
    (end_in_nops c o t v add blr nop1 nop2 ends))

pub are_to_local_exec : relocation_laws.EntryAddresses → relocation_laws.ThreadMoves
    → groups.DescriptorToLocalExec
are_to_local_exec entries moves c o k k' s s' adrp ldr add blr movz movk nop1 nop2 d ends made_movz
    made_movk high low =
    group_of entries c o _ k k' s s' adrp ldr add blr nop1 nop2 d ends
    (λ t agree.
    let m = offset_moves moves o d.small 0 (omega arith) (λ e. omega arith) movz movk high.relocated
    low.relocated (word_is 0xd2a00000 movz (omega arith) made_movz)
    (word_is 0xf2800000 movk (omega arith) made_movk) high.applied low.applied (seen t) in
    sets_twice c.others c.new t o.place (word_of high.relocated) (word_of low.relocated) 0 _ _ _
    (agree.pc ∙ d.at) (omega arith) high.stands low.stands m.first m.second m.value_is)

pub are_to_initial_exec : relocation_laws.EntryAddresses → groups.DescriptorToInitialExec
are_to_initial_exec entries c o v entry k k' s s' adrp ldr add blr adrp0 ldr0 nop1 nop2 d ends below holds
    made_adrp made_ldr high low =
    let e = with_entry entry o in
    let small : AreAddresses e =
    are_addresses e d.small.symbol d.small.place below d.small.got_base d.small.plt_entry d.small.tls_base in
    let x = word_is 0x90000000 adrp0 (omega arith) made_adrp in
    let y = word_is 0xf9400000 ldr0 (omega arith) made_ldr in
    group_of entries c o v k k' s s' adrp ldr add blr nop1 nop2 d ends
    (λ t agree.
    let l = loads e 0 0 (word_of high.relocated) (word_of low.relocated) entry (seen t)
    (adr_of_register (ap rd_of x)
    (adrp_after _ _ adrp0 high.relocated high.applied.written (subst IsAdrp (sym x) refl)))
    (of_registers (ap rd_of y) (ap rn_of y) (ldr_of_register_after _ _ ldr0 low.relocated
    low.applied.written (subst IsLdr64 (sym y) refl)))
    (λ e. omega arith) (λ e. omega arith) (agree.pc ∙ d.at)
    (entries.3 e small o.place adrp0 high.relocated high.applied tt
    (sum_64 o.place 4) ldr0 low.relocated low.applied tt) in
    sets_twice c.others c.new t o.place (word_of high.relocated) (word_of low.relocated) 0 _ _ v
    (agree.pc ∙ d.at) (omega arith) high.stands low.stands l.first l.second (l.value_is ∙ holds t agree))
