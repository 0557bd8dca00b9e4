-- LoongArch's groups.
use Rattle.linker_laws.proofs.Imports.{Agree, AreAddresses, AreOf, Bool, Branch26, ChangesOpen, Group, InstructionWritten, IsAddress, IsTrue, IsWithin, ⊤, Kind, Kinds, List, LoongArch64, LoongArch64Relocation, Operands, OthersAgree, Relocated, RowIsWithin, Shift10, Shift5, Some, State, ValueIsWithin, anything, ap, ap₂, arith, cast_signed, cond-false, difference_64, drop, entry_and_addend, eq-eqb, false, field, go_to, half, if◌then◌else◌, loaded, loongarch_form, loongarch_row, ne_eqb, not, of_link, of_place, or_shifted, page, pcalau12i, plt_address, pos, put, refl, run, same, signed, subst, suc, sum_64, sym, symbol_address, thread_offset, tls_base, true, w64, with_register, word_of, wrapped, ℕ, ℤ, ◌*ℤ◌, ◌*◌, ◌+ℤ◌, ◌+◌, ◌-◌, ◌/◌, ◌<◌, ◌==◌, ◌^◌, ◌∙◌, ◌≡◌, ◌≢◌}
use Rattle.linker_utils.specs.LoongArchRewrites.{IsAddTp, IsCall, IsLu12i, adds_low12, IsLowOfDescriptor, rj_of, signed_12, signed_32, IsAddi, IsCallOfDescriptor, IsLd, IsLoadOfDescriptor, IsPcalau12i, rd_of, unsigned_12}
use Rattle.linker_elf.specs.declared.loongarch64.relocations.LoongArch64Relocation.TheVariants as names
use Rattle.linker_laws.specs.LoongArchGroups as groups
use Rattle.linker_laws.specs.LoongArchGroups.{AreBefore, AreDeleted, Code, HighHalf, IsFollowed, LowHalfIf, LowOfDescriptor, Processor, Stands, executed, left, link, machine, seen, uses, put_unless_zero, register, with_unless_zero}
use Rattle.linker_laws.specs.LoongArchMachine as loongarch_machine
use Rattle.linker_laws.specs.LoongArchMachine.{action_of, added, branch_target, execute, far_address, read, register_target, step, used}
use Rattle.linker_laws.specs.LoongArchRelocationLaws as relocation_laws
use Rattle.linker_laws.specs.LoongArchGroups.{Fits32, IsPair, IsRelocated, IsRewritten, high_offset, near_entry}
use Rattle.linker_laws.proofs.AArch64Pairs.{word_made}
use Rattle.linker_laws.proofs.AArch64Steps.{address_is}
use Rattle.linker_laws.proofs.Agreement.{agree_go, agree_open, agree_put, agree_put_old, both_parts, both_true, group_of, last_counts, one_written, others_agree}
use Rattle.linker_laws.proofs.CoveredRuns.{holds_of, run_first}
use Rattle.linker_laws.proofs.Instructions.{relative}
use Rattle.linker_laws.proofs.LoongArchCalls.{branch_after, call_is, decodes_b, decodes_bl, decodes_far, decodes_jirl, new_first, new_second, target_is}
use Rattle.linker_laws.proofs.LoongArchHalves.{descriptor_low, high_made, high_step, load_bits, load_step, nop_step, offset_is, or_step, or_value, ori_bits, page_made, page_step, reached, whole, put as leaves}
use Rattle.linker_laws.proofs.LoongArchOffsets.{decodes_add, no_high_part, offset_sum, step_action}
use Rattle.linker_laws.proofs.LoongArchPairs.{adds, loads, low_written, nears, no_jirl, pcaddi_of, small_number}
use Rattle.linker_laws.proofs.LoongArchSteps.{set}
use Rattle.linker_laws.proofs.LoongArchWords.{IsHigh, IsLow, high_after, low_after, low12_is}
use Rattle.linker_laws.proofs.RiscVGroups.{counts}
use Rattle.linker_laws.proofs.Sums.{difference_below, sum_below, eight}
use Rattle.linker_utils.specs.declared.loongarch64.rewrites.RewriteKind.TheVariants as kinds

-- ---- states

-- an address is next
went : (p : Processor) (s : State) (next : ℕ) → left s (loongarch_machine.go_to next (seen p s)) ≡ go_to next s
went p s next = λ i. record s { pc = next; registers = λ r. both_parts s.registers r i }

-- a register is written, and an address is next
wrote : (p : Processor) (s : State) (n v next : ℕ) → n < 32
    → left s (loongarch_machine.go_to next (loongarch_machine.with_register n v (seen p s))) ≡ put n v next s
wrote p s n v next small = λ i. record s { pc = next; registers = λ r. one_written s.registers n v r small i }

-- the same of any register, as an instruction writes it
pub wrote_any : (p : Processor) (s : State) (n v : ℕ) → n < 32
    → left s (leaves n v (seen p s)) ≡ put_unless_zero n v (sum_64 s.pc 4) s
wrote_any p s n v small = by (n == 0)
  where
    by : (b : Bool)
        → left s (loongarch_machine.go_on (if b then seen p s else loongarch_machine.with_register n v (seen p s)))
        ≡ (if b then go_to (sum_64 s.pc 4) s else put n v (sum_64 s.pc 4) s)
    by true = went p s (sum_64 s.pc 4)
    by false = wrote p s n v (sum_64 s.pc 4) small

-- what is seen then
still_seen : (p : Processor) (s : State) (n v next : ℕ) → n < 32
    → seen p (put n v next s) ≡ loongarch_machine.go_to next (loongarch_machine.with_register n v (seen p s))
still_seen p s n v next small =
    λ i. record (seen p (put n v next s)) {
      floats = record { numbers = λ r. by r i; widened = p.widened };
    }
  where
    by : (r : ℕ) → (if 32 + r == n then v else s.registers (32 + r)) ≡ s.registers (32 + r)
    by r = cond-false (32 + r == n) v (s.registers (32 + r)) (ne_eqb (32 + r) n (λ e. omega arith))

below_32 : (word : ℕ) → rd_of word < 32
below_32 word = omega arith

-- ---- steps

-- the instruction that stands at the pc
goes : (p : Processor) (code : ℕ → ℕ) (s : State) (at x : ℕ) (u : loongarch_machine.State) → s.pc ≡ at
    → loaded 4 code at ≡ x → step x (seen p s) ≡ Some u → machine p code s ≡ Some (left s u)
goes p code s at x u here stands is =
    ap (λ w. executed p.others w s (step w (seen p s))) (ap (loaded 4 code) here ∙ stands) ∙ ap (executed p.others x s) is

-- one instruction is a run
once : (p : Processor) (code : ℕ → ℕ) (s : State) (t : State) → machine p code s ≡ Some t
    → run 1 (machine p code) s ≡ Some t
once p code s t first = run_first 0 (machine p code) s t (Some t) first refl

-- one that writes a register
sets : (p : Processor) (code : ℕ → ℕ) (s : State) (at x n v : ℕ) → s.pc ≡ at → loaded 4 code at ≡ x → n < 32
    → step x (seen p s) ≡ Some (leaves n v (seen p s))
    → run 1 (machine p code) s ≡ Some (put_unless_zero n v (sum_64 at 4) s)
sets p code s at x n v here stands small is =
    once p code s (put_unless_zero n v (sum_64 at 4) s)
    (goes p code s at x (leaves n v (seen p s)) here stands is
    ∙ ap Some (wrote_any p s n v small ∙ ap (λ a. put_unless_zero n v (sum_64 a 4) s) here))

-- two that write the same register, which isn't `zero`
sets_twice : (p : Processor) (code : ℕ → ℕ) (s : State) (at x y n u v value : ℕ) → s.pc ≡ at → n < 32
    → loaded 4 code at ≡ x → loaded 4 code (sum_64 at 4) ≡ y
    → step x (seen p s) ≡ Some (set n u (seen p s))
    → step y (set n u (seen p s)) ≡ Some (set n v (set n u (seen p s))) → v ≡ value
    → run 2 (machine p code) s ≡ Some (put n value (sum_64 at 8) s)
sets_twice p code s at x y n u v value here small stands stands_after first second is =
    let s1 = put n u (sum_64 s.pc 4) s in
    run_first 1 (machine p code) s s1 _
    (goes p code s at x (set n u (seen p s)) here stands first ∙ ap Some (wrote p s n u (sum_64 s.pc 4) small))
    (once p code s1 (put n value (sum_64 at 8) s)
    (goes p code s1 (sum_64 at 4) y (set n v (seen p s1)) (ap (λ a. sum_64 a 4) here) stands_after
    (subst (λ q. step y q ≡ Some (set n v q)) (sym (still_seen p s n u (sum_64 s.pc 4) small)) second)
    ∙ ap Some (wrote p s1 n v (sum_64 s1.pc 4) small ∙ last_counts n u v (sum_64 s.pc 4) (sum_64 s1.pc 4) s
    ∙ ap₂ (λ v a. put n v a s) is (ap (λ a. sum_64 (sum_64 a 4) 4) here ∙ eight at))))

-- a `nop`
passes : (p : Processor) (code : ℕ → ℕ) (t : State) (at x : ℕ) → t.pc ≡ at → loaded 4 code at ≡ x
    → x ≡ 0x03400000 → run 1 (machine p code) t ≡ Some (go_to (sum_64 at 4) t)
passes p code t at x here stands nop =
    once p code t (go_to (sum_64 at 4) t)
    (goes p code t at x (loongarch_machine.go_on (seen p t)) here stands (nop_step x (seen p t) nop)
    ∙ ap Some (went p t (sum_64 t.pc 4) ∙ ap (λ a. go_to (sum_64 a 4) t) here))

-- ---- agreement

module _ (c : Code) (k : Kinds) (s t : State) (n : ℕ) (next : ℕ) (agree : Agree (link c) k s t)
    (small : next < 2 ^ 64) where
  -- both write a register
  both_write : (kind : Kind) (u v next' : ℕ) → next' ≡ c.moved next → AreOf (link c) 8 kind u v
      → Agree (link c) (with_unless_zero n kind k) (put_unless_zero n u next s) (put_unless_zero n v next' t)
  both_write kind u v next' at are = by (n == 0)
    where
      by : (b : Bool) → Agree (link c) (if b then k else with_register n kind k)
          (if b then go_to next s else put n u next s) (if b then go_to next' t else put n v next' t)
      by true = agree_go (link c) k s t next next' agree small at
      by false = agree_put (link c) k s t n kind u v next next' agree small at are

  -- old alone does
  old_writes : (u next' : ℕ) → next' ≡ c.moved next
      → Agree (link c) (with_unless_zero n anything k) (put_unless_zero n u next s) (go_to next' t)
  old_writes u next' at = by (n == 0)
    where
      by : (b : Bool) → Agree (link c) (if b then k else with_register n anything k)
          (if b then go_to next s else put n u next s) (go_to next' t)
      by true = agree_go (link c) k s t next next' agree small at
      by false =
          agree_put_old (link c) k (go_to next s) (go_to next' t) n anything u next
          (agree_go (link c) k s t next next' agree small at) small at tt

-- ---- groups of one instruction

-- Both write a register.
both_set : (c : Code) (x y : Operands) (k : Kinds) (s : State) (kind : Kind) (n u v wx wy : ℕ)
    → AreBefore c 4 4 x y s → n < 32 → loaded 4 c.old x.place ≡ wx → loaded 4 c.new y.place ≡ wy
    → step wx (seen c.processor s) ≡ Some (leaves n u (seen c.processor s))
    → ((t : State) → Agree (link c) k s t → t.pc ≡ y.place
    → step wy (seen c.processor t) ≡ Some (leaves n v (seen c.processor t)))
    → AreOf (link c) 8 kind u v
    → Group (of_link (link c)) 1 k s (with_unless_zero n kind k) (put_unless_zero n u (sum_64 x.place 4) s)
both_set c x y k s kind n u v wx wy at small old new first second are =
    group_of (link c) 0 0 (sets c.processor c.old s x.place wx n u at.at old small first) (λ t agree.
    let here = agree.pc ∙ ap c.moved at.at ∙ sym at.place in
    holds_of (run 1 (machine c.processor c.new) t) _ (put_unless_zero n v (sum_64 y.place 4) t)
    (sets c.processor c.new t y.place wy n v here new small (second t agree here))
    (both_write c k s t n (sum_64 x.place 4) agree (sum_below x.place 4) kind u v (sum_64 y.place 4) at.next are))

-- New has a `nop`.
old_sets : (c : Code) (k : Kinds) (s : State) (n u wx wy : ℕ) → IsFollowed c 4 4 s → n < 32
    → loaded 4 c.old s.pc ≡ wx → loaded 4 c.new (c.moved s.pc) ≡ wy → wy ≡ 0x03400000
    → step wx (seen c.processor s) ≡ Some (leaves n u (seen c.processor s))
    → Group (of_link (link c)) 1 k s (with_unless_zero n anything k) (put_unless_zero n u (sum_64 s.pc 4) s)
old_sets c k s n u wx wy next small old new nop first =
    group_of (link c) 0 0 (sets c.processor c.old s s.pc wx n u refl old small first) (λ t agree.
    let after = sum_64 (c.moved s.pc) 4 in
    holds_of (run 1 (machine c.processor c.new) t) _ (go_to after t)
    (passes c.processor c.new t (c.moved s.pc) wy agree.pc new nop)
    (old_writes c k s t n (sum_64 s.pc 4) agree (sum_below s.pc 4) u after next))

-- New has nothing.
nothing_left : (c : Code) (k : Kinds) (s : State) (n u wx : ℕ) → AreDeleted c 4 s → n < 32
    → loaded 4 c.old s.pc ≡ wx → step wx (seen c.processor s) ≡ Some (leaves n u (seen c.processor s))
    → Group (of_link (link c)) 0 k s (with_unless_zero n anything k) (put_unless_zero n u (sum_64 s.pc 4) s)
nothing_left c k s n u wx d small old first =
    let next : sum_64 s.pc 4 ≡ s.pc + 4 = omega (arith, d.small) in
    record {
      more = 0;
      old_goes = sets c.processor c.old s s.pc wx n u refl old small first;
      new_goes = λ t agree.
          old_writes c k s t n (sum_64 s.pc 4) agree (sum_below s.pc 4) u t.pc (agree.pc ∙ d.moved ∙ ap c.moved (sym next));
      forward = λ none. advances (n == 0);
    }
  where
    advances : (b : Bool) → s.pc < (if b then go_to (sum_64 s.pc 4) s else put n u (sum_64 s.pc 4) s).pc
    advances true = omega (arith, d.small)
    advances false = omega (arith, d.small)

-- ---- high halves

-- a `pcalau12i` with a relocation
pub record MakesPage (n : ℕ) (x : Operands) (word : ℕ) : Type 0 where
  pub is : IsHigh 0x0d n word
  pub page : wrapped (pcalau12i x.place word) ≡ near_entry x

high_half : (name after_name : LoongArch64Relocation) (number : Operands → ℕ) (x y : Operands) (before after : List ℕ)
    → ((of : List ℕ) → AreAddresses x → Fits32 name x → IsRelocated name x before of
    → MakesPage (rd_of (word_of before)) x (word_of of))
    → (Fits32 after_name y → (t : loongarch_machine.State) → t.pc ≡ y.place
    → step (word_of after) t ≡ Some (leaves (rd_of (word_of before)) (number y) t))
    → HighHalf name after_name number before after x y
high_half name after_name number x y before after made new c h k s small at halves fits new_fits old stands =
    let n = rd_of (word_of before) in
    let m = made old.relocated small fits old.applied in
    both_set c x y k s (half h) n (near_entry x) (number y) (word_of old.relocated) (word_of after) at
    (below_32 (word_of before)) old.stands stands
    (page_step x n (word_of old.relocated) (near_entry x) (seen c.processor s) m.is at.at m.page)
    (λ t agree here. new new_fits (seen c.processor t) here)
    (both_true (near_entry x == c.old_half h) (number y == c.new_half h) (eq-eqb _ _ (sym halves.0))
    (eq-eqb _ _ (sym halves.1)))

-- what relocations of a name make of a `pcalau12i`
abbrev pub ArePages : LoongArch64Relocation → Type 0
ArePages name =
    (x : Operands) (pcala of : List ℕ) → IsPcalau12i (word_of pcala) → AreAddresses x → Fits32 name x
    → IsRelocated name x pcala of → MakesPage (rd_of (word_of pcala)) x (word_of of)

pub page_of_entry : ArePages names.R_LARCH_TLS_IE_PC_HI20
page_of_entry x pcala of is small fits a =
    record {
      is = high_after 12 0x0d (rd_of (word_of pcala)) _ pcala of a.written is refl;
      page = page_made x small refl pcala of a (subst (ValueIsWithin signed_32) a.value_is fits);
    }

pub page_of_descriptor : ArePages names.R_LARCH_TLS_DESC_PC_HI20
page_of_descriptor x pcala of is small fits a =
    record {
      is = high_after 12 0x0d (rd_of (word_of pcala)) _ pcala of a.written is refl;
      page = page_made x small refl pcala of a (subst (ValueIsWithin signed_32) a.value_is fits);
    }

-- `lu12i.w` in place of a `pcalau12i`
high_goes : (y : Operands) (pcala lu12i of : List ℕ) → IsRewritten kinds.PcalaToLu12i pcala lu12i
    → IsRelocated names.R_LARCH_TLS_LE_HI20 y lu12i of → Fits32 names.R_LARCH_TLS_LE_HI20 y
    → (t : loongarch_machine.State) → step (word_of of) t ≡ Some (leaves (rd_of (word_of pcala)) (high_offset y) t)
high_goes y pcala lu12i of made b fits t =
    let n = rd_of (word_of pcala) in
    let word = word_made (λ x. 0x14000000 + rd_of x) pcala lu12i (omega arith) made in
    let op : word_of lu12i / 2 ^ 25 ≡ 0x0a = omega arith in
    let rd : rd_of (word_of lu12i) ≡ n = omega arith in
    high_step n (word_of of) (high_offset y) t (high_after 12 0x0a n _ lu12i of b.written op rd)
    (high_made y (relative symbol_address tls_base y) (difference_below _ _) refl lu12i of b
    (subst (ValueIsWithin signed_32) b.value_is fits) ∙ ap page (offset_is y))

pub high_half_made : (name : LoongArch64Relocation) → ArePages name → groups.HighHalfToLu12i name
high_half_made name page x y pcala lu12i of is made b =
    high_half name names.R_LARCH_TLS_LE_HI20 high_offset x y pcala of (λ old. page x pcala old is)
    (λ fits t here. high_goes y pcala lu12i of made b fits t)

pub are_descriptor_pages : (x y : Operands) (pcala of : List ℕ) → IsPcalau12i (word_of pcala)
    → IsRelocated names.R_LARCH_TLS_IE_PC_HI20 y pcala of → groups.HighEntry pcala of x y
are_descriptor_pages x y pcala of is b small =
    high_half names.R_LARCH_TLS_DESC_PC_HI20 names.R_LARCH_TLS_IE_PC_HI20 near_entry x y pcala of
    (λ old. page_of_descriptor x pcala old is)
    (λ fits t here.
    let m = page_of_entry y pcala of is small fits b in
    page_step y (rd_of (word_of pcala)) (word_of of) (near_entry y) t m.is here m.page)

nop_is : (before nop : List ℕ) → IsRewritten kinds.ReplaceWithNop before nop → word_of nop ≡ 0x03400000
nop_is before nop made = word_made (λ _. 0x03400000) before nop (omega arith) made

pub no_high_half : (name : LoongArch64Relocation) → ArePages name → groups.BecomesNop IsPcalau12i (groups.HighHalfGoes name)
no_high_half name page pcala nop is made c x k s gone small at fits old =
    let n = rd_of (word_of pcala) in
    let m = page x pcala old.relocated is small fits old.applied in
    old_sets c k s n (near_entry x) (word_of old.relocated) (word_of nop) gone.0 (below_32 (word_of pcala))
    (ap (loaded 4 c.old) at ∙ old.stands) gone.1 (nop_is pcala nop made)
    (page_step x n (word_of old.relocated) (near_entry x) (seen c.processor s) m.is at m.page)

pub are_deleted_descriptor_high_halves : groups.IsDeleted IsPcalau12i (groups.HighHalfGoes names.R_LARCH_TLS_DESC_PC_HI20)
are_deleted_descriptor_high_halves pcala is c x k s d small at fits old =
    let n = rd_of (word_of pcala) in
    let m = page_of_descriptor x pcala old.relocated is small fits old.applied in
    nothing_left c k s n (near_entry x) (word_of old.relocated) d (below_32 (word_of pcala))
    (ap (loaded 4 c.old) at ∙ old.stands)
    (page_step x n (word_of old.relocated) (near_entry x) (seen c.processor s) m.is at m.page)

-- ---- low halves

low_half : (Holds : Code → Kinds → State → Type 0) (x y : Operands) (ld after : List ℕ)
    → word_of ld / 2 ^ 22 ≡ 0x0a3
    → ((c : Code) (k : Kinds) (s t : State) → Agree (link c) k s t → Holds c k s
    → step (word_of after) (seen c.processor t) ≡ Some (leaves (rd_of (word_of ld)) (thread_offset y) (seen c.processor t)))
    → LowHalfIf Holds ld after x y
low_half Holds x y ld after is new c k s small at one holds page held old stands =
    let n = rd_of (word_of ld) in
    let j = rj_of (word_of ld) in
    let e = entry_and_addend x in
    let w = word_of old.relocated in
    let u = seen c.processor s in
    both_set c x y k s same n (thread_offset x) (thread_offset y) w (word_of after) at (below_32 (word_of ld)) old.stands
    stands
    (load_step n j w e u (low_after 0x0a3 n j _ ld old.relocated old.applied.written is refl refl)
    (reached e (field w 10 22) (read j u) (sum_below x.got_entry _) (load_bits x ld old.relocated old.applied) page)
    ∙ ap (λ v. Some (leaves n v u)) holds)
    (λ t agree here. new c k s t agree held) one

pub are_low_halves : groups.Becomes IsLd kinds.LowToOri names.R_LARCH_TLS_LE_LO12 groups.LowHalf
are_low_halves x y ld ori of is made b =
    let n = rd_of (word_of ld) in
    let j = rj_of (word_of ld) in
    let word = word_made (λ x. 0x03800000 + field x 0 10) ld ori (omega arith) made in
    let op : word_of ori / 2 ^ 22 ≡ 0x00e = omega arith in
    let rd : rd_of (word_of ori) ≡ n = omega arith in
    let rj : rj_of (word_of ori) ≡ j = omega arith in
    low_half _ x y ld of is
    (λ c k s t agree held.
    or_step n j (word_of of) (thread_offset y) (seen c.processor t) (low_after 0x00e n j _ ori of b.written op rd rj)
    (or_value y j (word_of of) (seen c.processor t) (held t agree) (ori_bits y ori of b)))

-- an `ori` from `zero` with an offset of 12 bits
short_or : (y : Operands) (n : ℕ) (low ori of : List ℕ) → rd_of (word_of low) ≡ n
    → IsRewritten kinds.LowToOriZero low ori
    → RowIsWithin (loongarch_row names.R_LARCH_TLS_LE_LO12) unsigned_12 y → IsRelocated names.R_LARCH_TLS_LE_LO12 y ori of
    → (t : loongarch_machine.State) → step (word_of of) t ≡ Some (leaves n (thread_offset y) t)
short_or y n low ori of into made fits b t =
    let word = word_made (λ x. 0x03800000 + rd_of x) low ori (omega arith) made in
    let op : word_of ori / 2 ^ 22 ≡ 0x00e = omega arith in
    let rd : rd_of (word_of ori) ≡ n = omega arith in
    let rj : rj_of (word_of ori) ≡ 0 = omega arith in
    let d = relative symbol_address tls_base y in
    let few : d < 2 ^ 12 = small_number d (difference_below _ _) fits in
    let f = field (word_of of) 10 22 in
    or_step n 0 (word_of of) (thread_offset y) t (low_after 0x00e n 0 _ ori of b.written op rd rj)
    (or_shifted 0 12 f (omega arith) ∙ (let z : 0 * 2 ^ 12 + f ≡ f = omega arith in z)
    ∙ ori_bits y ori of b ∙ (let z : field d 0 12 ≡ d = omega arith in z) ∙ offset_is y)

pub are_short_low_halves : groups.Becomes IsLd kinds.LowToOriZero names.R_LARCH_TLS_LE_LO12
    (groups.OfShortOffset (LowHalfIf (λ c k s. ⊤)))
are_short_low_halves x y ld ori of is made b fits =
    low_half _ x y ld of is
    (λ c k s t agree held. short_or y (rd_of (word_of ld)) ld ori of refl made fits b (seen c.processor t))

-- ---- TLS descriptors

low_of_descriptor : (Makes : Code → Kinds → State → Operands → ℕ → Type 0) (x y : Operands) (addi after : List ℕ)
    → IsLowOfDescriptor (word_of addi)
    → ((c : Code) (k : Kinds) (s t : State) (number : ℕ) → Agree (link c) k s t → Makes c k s y number
    → step (word_of after) (seen c.processor t) ≡ Some (leaves 4 number (seen c.processor t)))
    → LowOfDescriptor Makes addi after x y
low_of_descriptor Makes x y addi after is new c h k s small at page old_is makes old stands =
    let e = entry_and_addend x in
    both_set c x y k s (half h) 4 e (c.new_half h) (word_of old.relocated) (word_of after) at (omega arith) old.stands stands
    (descriptor_low x (seen c.processor s) addi old.relocated is page old.applied)
    (λ t agree here. new c k s t (c.new_half h) agree makes)
    (both_true (e == c.old_half h) (c.new_half h == c.new_half h) (eq-eqb _ _ (sym old_is)) (eq-eqb _ _ refl))

pub are_descriptor_low_halves : groups.Becomes IsLowOfDescriptor kinds.LowToOri names.R_LARCH_TLS_LE_LO12
    (LowOfDescriptor groups.MakesOffset)
are_descriptor_low_halves x y addi ori of is made b =
    let word = word_made (λ x. 0x03800000 + field x 0 10) addi ori (omega arith) made in
    let op : word_of ori / 2 ^ 22 ≡ 0x00e = omega arith in
    let rd : rd_of (word_of ori) ≡ rd_of (word_of addi) = omega arith in
    let rj : rj_of (word_of ori) ≡ rj_of (word_of addi) = omega arith in
    low_of_descriptor groups.MakesOffset x y addi of is
    (λ c k s t number agree makes.
    or_step 4 4 (word_of of) number (seen c.processor t)
    (low_after 0x00e 4 4 _ ori of b.written op (rd ∙ is.1) (rj ∙ is.2))
    (or_value y 4 (word_of of) (seen c.processor t) (makes.0 t agree) (ori_bits y ori of b) ∙ makes.1))

pub are_short_descriptor_low_halves : groups.Becomes IsLowOfDescriptor kinds.LowToOriZero
    names.R_LARCH_TLS_LE_LO12 (groups.OfShortOffset (LowOfDescriptor (λ c k s y number. thread_offset y ≡ number)))
are_short_descriptor_low_halves x y addi ori of is made b fits =
    low_of_descriptor (λ c k s y number. thread_offset y ≡ number) x y addi of is
    (λ c k s t number agree makes.
    short_or y 4 addi ori of is.1 made fits b (seen c.processor t)
    ∙ ap (λ v. Some (leaves 4 v (seen c.processor t))) makes)

pub are_descriptor_entry_loads : groups.Becomes IsLowOfDescriptor kinds.AddiToLd names.R_LARCH_TLS_IE_PC_LO12
    (LowOfDescriptor groups.LoadsOffset)
are_descriptor_entry_loads x y addi ld of is made b =
    let e = entry_and_addend y in
    let word = word_made (λ x. 0x28c00000 + field x 0 22) addi ld (omega arith) made in
    let op : word_of ld / 2 ^ 22 ≡ 0x0a3 = omega arith in
    let rd : rd_of (word_of ld) ≡ rd_of (word_of addi) = omega arith in
    let rj : rj_of (word_of ld) ≡ rj_of (word_of addi) = omega arith in
    low_of_descriptor groups.LoadsOffset x y addi of is
    (λ c k s t number agree makes.
    let u = seen c.processor t in
    load_step 4 4 (word_of of) e u (low_after 0x0a3 4 4 _ ld of b.written op (rd ∙ is.1) (rj ∙ is.2))
    (reached e (field (word_of of) 10 22) (read 4 u) (sum_below y.got_entry _) (load_bits y ld of b) (makes.0 t agree))
    ∙ ap (λ v. Some (leaves 4 v u)) (makes.1 t agree))

load_sets : (p : Processor) (s : State) (ld : List ℕ) → IsLoadOfDescriptor (word_of ld) → s.registers 4 < 2 ^ 64
    → step (word_of ld) (seen p s) ≡ Some (leaves 1 (loaded 8 s.memory (s.registers 4)) (seen p s))
load_sets p s ld is small =
    let u = seen p s in
    ap (λ w. step w u) is ∙ ap (λ a. Some (leaves 1 (loaded 8 s.memory a) u)) (whole (s.registers 4) small)

pub are_descriptor_loads : groups.BecomesNop IsLoadOfDescriptor groups.LoadGoes
are_descriptor_loads ld nop is made c k s gone small old =
    old_sets c k s 1 (loaded 8 s.memory (s.registers 4)) (word_of ld) (word_of nop) gone.0 (omega arith) old gone.1
    (nop_is ld nop made) (load_sets c.processor s ld is small)

pub are_deleted_descriptor_loads : groups.IsDeleted IsLoadOfDescriptor groups.LoadGoes
are_deleted_descriptor_loads ld is c k s d small old =
    nothing_left c k s 1 (loaded 8 s.memory (s.registers 4)) (word_of ld) d (omega arith) old (load_sets c.processor s ld is small)

module _ (c : Code) (s : State) (jirl : List ℕ) (is : IsCallOfDescriptor (word_of jirl)) (offset executes : ℕ) (k k' : Kinds)
    (s' : State) (small : s.registers 1 < 2 ^ 64) where
  -- old's call
  called : Stands c.old s.pc jirl
      → run executes (machine c.processor c.old) (put 1 (sum_64 s.pc 4) (s.registers 1) s) ≡ Some s'
      → run (suc executes) (machine c.processor c.old) s ≡ Some s'
  called old returns =
      let p = c.processor in
      let f = s.registers 1 in
      let back = sum_64 s.pc 4 in
      run_first executes (machine p c.old) s (put 1 back f s) (Some s')
      (goes p c.old s s.pc (word_of jirl)
      (loongarch_machine.go_to (wrapped (pos f +ℤ pos 0)) (loongarch_machine.with_register 1 back (seen p s))) refl old
      (ap (λ w. step w (seen p s)) is)
      ∙ ap Some (wrote p s 1 back (wrapped (pos f +ℤ pos 0)) (omega arith)
      ∙ ap (λ a. put 1 back a s) (whole f small)))
      returns

  -- new goes to an address, and agrees
  agreed : (t : State) → Agree (link c) k s t → register t 4 ≡ offset
      → ChangesOpen (with_register 4 same k) (put 4 offset (sum_64 s.pc 4) s) k' s'
      → (next : ℕ) → next ≡ c.moved (sum_64 s.pc 4) → Agree (link c) k' s' (go_to next t)
  agreed t agree has changes next at =
      let back = sum_64 s.pc 4 in
      agree_open (link c) (with_register 4 same k) k' (put 4 offset back s) s' (go_to next t)
      (agree_put_old (link c) k (go_to back s) (go_to next t) 4 same offset back
      (agree_go (link c) k s t back next agree (sum_below s.pc 4) at) (sum_below s.pc 4) at (sym has)) changes

pub are_descriptor_calls : groups.BecomesNop IsCallOfDescriptor groups.CallGoes
are_descriptor_calls jirl nop is made c offset executes k k' s s' gone small held old returns changes =
    let after = sum_64 (c.moved s.pc) 4 in
    group_of (link c) 0 executes (called c s jirl is offset executes k k' s' small old returns) (λ t agree.
    holds_of (run 1 (machine c.processor c.new) t) (Agree (link c) k' s') (go_to after t)
    (passes c.processor c.new t (c.moved s.pc) (word_of nop) agree.pc gone.1 (nop_is jirl nop made))
    (agreed c s jirl is offset executes k k' s' small t agree (held t agree) changes after gone.0))

pub are_deleted_descriptor_calls : groups.IsDeleted IsCallOfDescriptor groups.CallGoes
are_deleted_descriptor_calls jirl is c offset executes k k' s s' d small held old returns changes =
    let below = d.small in
    let next : sum_64 s.pc 4 ≡ s.pc + 4 = omega (arith, below) in
    let back = changes.pc in
    record {
      more = executes;
      old_goes = called c s jirl is offset executes k k' s' small old returns;
      new_goes = λ t agree.
          agreed c s jirl is offset executes k k' s' small t agree (held t agree) changes t.pc
          (agree.pc ∙ d.moved ∙ ap c.moved (sym next));
      forward = λ none. omega (arith, back, next);
    }

-- ---- local-exec

pub are_high_offsets : groups.IsDeleted IsLu12i groups.OffsetGoes
are_high_offsets lu12i is c x k s d small at fits old =
    let n = rd_of (word_of lu12i) in
    let w = word_of old.relocated in
    nothing_left c k s n 0 w d (below_32 (word_of lu12i)) (ap (loaded 4 c.old) at ∙ old.stands)
    (high_step n w 0 (seen c.processor s) (high_after 12 0x0a n _ lu12i old.relocated old.applied.written is refl)
    (no_high_part x lu12i old.relocated small fits old.applied))

pub are_sums : groups.IsDeleted IsAddTp groups.SumGoes
are_sums add is c k s d none wide stands =
    let w = word_of add in
    let n = rd_of w in
    let u = seen c.processor s in
    let rk : field w 10 15 ≡ 2 = omega (arith, is) in
    let number : added w u ≡ s.registers 2 =
    ap (λ v. sum_64 v (read (field w 10 15) u)) none ∙ ap (λ r. sum_64 0 (read r u)) rk
    ∙ (let e : sum_64 0 (s.registers 2) ≡ s.registers 2 = omega (arith, wide) in e) in
    nothing_left c k s n (s.registers 2) w d (below_32 w) stands
    (ap (λ i. execute i w u) (decodes_add w is) ∙ ap (λ v. Some (leaves n v u)) number)

pub are_low_offsets : groups.Becomes (λ word. IsTrue (adds_low12 (word / 2 ^ 22))) kinds.BaseToTp
    names.R_LARCH_TLS_LE_LO12_R groups.LowPart
are_low_offsets x y low base of is made b c k k' s at one fits there held old stands keeps =
    let p = c.processor in
    let n = rd_of (word_of low) in
    let op = word_of low / 2 ^ 22 in
    let a = action_of op in
    let bounded : op < 0x0b4 = (low12_is op is).below in
    let word = word_made (λ w. w - rj_of w * 2 ^ 5 + 2 * 2 ^ 5) low base (omega (arith, bounded)) made in
    let base_op : word_of base / 2 ^ 22 ≡ op = omega (arith, word) in
    let base_rd : rd_of (word_of base) ≡ n = omega (arith, word) in
    let base_rj : rj_of (word_of base) ≡ 2 = omega (arith, word) in
    let l = low_after op n (rj_of (word_of low)) _ low old.relocated old.applied.written refl refl refl in
    let m = low_after op n 2 _ base of b.written base_op base_rd base_rj in
    let nx = difference_64 (sum_64 (symbol_address x) 0) x.tls_base in
    let ny = difference_64 (sum_64 (symbol_address y) 0) y.tls_base in
    let numbers : ny ≡ nx =
    (let e : ny ≡ thread_offset y = omega arith in e) ∙ sym one ∙ (let e : thread_offset x ≡ nx = omega arith in e) in
    let fits_x : RowIsWithin (loongarch_row names.R_LARCH_TLS_LE_LO12_R) signed_12 x =
    subst (λ m. IsWithin (Some signed_12) (cast_signed w64 m)) numbers fits in
    let sum = sum_64 (s.registers 2) (thread_offset x) in
    let action = λ (r : State). uses p a n sum r in
    group_of (link c) 0 0
    (once p c.old s (action s)
    (goes p c.old s x.place (word_of old.relocated) (loongarch_machine.go_on (used a n sum (seen p s))) at.at old.stands
    (step_action (word_of old.relocated) op n (seen p s) l.opcode is l.rd_is
    ∙ ap (λ v. Some (loongarch_machine.go_on (used a n v (seen p s))))
    (offset_sum x low old.relocated (seen p s) (rj_of (word_of low)) (s.registers 2) fits_x old.applied l.rj_is there))))
    (λ t agree.
    holds_of (run 1 (machine p c.new) t) (Agree (link c) k' (action s)) (action t)
    (once p c.new t (action t)
    (goes p c.new t y.place (word_of of) (loongarch_machine.go_on (used a n sum (seen p t)))
    (agree.pc ∙ ap c.moved at.at ∙ sym at.place) stands
    (step_action (word_of of) op n (seen p t) m.opcode is m.rd_is
    ∙ ap (λ v. Some (loongarch_machine.go_on (used a n v (seen p t))))
    (offset_sum y base of (seen p t) 2 (s.registers 2) fits b m.rj_is (held t agree)
    ∙ ap (sum_64 (s.registers 2)) (sym one)))))
    (keeps t agree))

-- ---- addresses by two instructions

-- Old leaves one address in a register that isn't `zero`, and new another.
addresses : (c : Code) (n m : ℕ) (x y : Operands) (k : Kinds) (s : State) (kind : Kind) (r u v : ℕ)
    → AreBefore c 8 m x y s → AreOf (link c) 8 kind u v
    → run 2 (machine c.processor c.old) s ≡ Some (put r u (sum_64 x.place 8) s)
    → ((t : State) → t.pc ≡ y.place
    → run (suc n) (machine c.processor c.new) t ≡ Some (put r v (sum_64 y.place m) t))
    → Group (of_link (link c)) (suc n) k s (with_register r kind k) (put r u (sum_64 x.place 8) s)
addresses c n m x y k s kind r u v at are old new =
    group_of (link c) n 1 (old) (λ t agree.
    holds_of (run (suc n) (machine c.processor c.new) t) _ (put r v (sum_64 y.place m) t)
    (new t (agree.pc ∙ ap c.moved at.at ∙ sym at.place))
    (agree_put (link c) k s t r kind u v (sum_64 x.place 8) (sum_64 y.place m) agree (sum_below x.place 8) at.next are))

-- `pcalau12i rd` and `ld.d rd, rd` of an entry that holds the address
load_goes : relocation_laws.RelativeAddresses → (c : Code) (x : Operands) (s : State) (pcala ld : List ℕ)
    → IsPair IsLd pcala ld → groups.Loads c x s pcala ld → s.pc ≡ x.place
    → run 2 (machine c.processor c.old) s ≡ Some (put (rd_of (word_of ld)) (symbol_address x) (sum_64 x.place 8) s)
load_goes relative_laws c x s pcala ld pair l at =
    let one = pair.one_register in
    let n = rd_of (word_of ld) in
    let a = l.high.applied in
    let r = loads x n (word_of l.high.relocated) (word_of l.low.relocated) (entry_and_addend x) (seen c.processor s)
    (high_after 12 0x0d n _ pcala l.high.relocated a.written one.first one.register)
    (low_after 0x0a3 n n _ ld l.low.relocated l.low.applied.written pair.second_is refl one.into_own_source.same)
    one.into_own_source.not_zero at
    (relative_laws.1 x l.small x.place pcala l.high.relocated a (subst (ValueIsWithin signed_32) a.value_is l.fits)
    (sum_64 x.place 4) ld l.low.relocated l.low.applied tt) in
    sets_twice c.processor c.old s x.place (word_of l.high.relocated) (word_of l.low.relocated) n _ _ (symbol_address x) at
    (below_32 (word_of ld)) l.high.stands l.low.stands r.first r.second (r.value_is ∙ l.holds)

-- `pcalau12i rd` and `addi.d rd, rd`
sum_goes : (code : ℕ → ℕ) (p : Processor) (x : Operands) (s : State) (n target : ℕ) (high low : List ℕ)
    → IsHigh 0x0d n (word_of high) → IsLow 0x00b n n (word_of low) → n ≢ 0 → n < 32 → s.pc ≡ x.place
    → Stands code x.place high → Stands code (sum_64 x.place 4) low
    → IsAddress (pcalau12i x.place (word_of high) +ℤ signed 12 (field (word_of low) 10 22)) target
    → run 2 (machine p code) s ≡ Some (put n target (sum_64 x.place 8) s)
sum_goes code p x s n target high low is_high is_low named small at stands stands_after leads =
    let r = adds x n (word_of high) (word_of low) target (seen p s) is_high is_low named at leads in
    sets_twice p code s x.place (word_of high) (word_of low) n _ _ target at small stands stands_after r.first r.second r.value_is

-- `pcaddi rd`
near_goes : (code : ℕ → ℕ) (p : Processor) (y : Operands) (t : State) (n target : ℕ) (of : List ℕ)
    → IsHigh 0x0c n (word_of of) → n ≢ 0 → n < 32 → t.pc ≡ y.place → Stands code y.place of
    → IsAddress (pos y.place +ℤ ((loongarch_form Shift5).machine (word_of of) *ℤ pos 4)) target
    → run 1 (machine p code) t ≡ Some (put n target (sum_64 y.place 4) t)
near_goes code p y t n target of is named small at stands leads =
    let m = nears y n (word_of of) target (seen p t) is named at leads in
    once p code t (put n target (sum_64 y.place 4) t)
    (goes p code t y.place (word_of of) (set n _ (seen p t)) at stands m.only
    ∙ ap Some (wrote p t n _ (sum_64 t.pc 4) small ∙ ap₂ (λ v a. put n v (sum_64 a 4) t) m.value_is at))

pub are_loads : relocation_laws.RelativeAddresses → groups.GotToAddress
are_loads relative_laws c x y k s pcala ld addi pair l made small fits high low kind at are =
    let one = pair.one_register in
    let n = rd_of (word_of ld) in
    let a = high.applied in
    let word = word_made (λ x. 0x02c00000 + field x 0 22) ld addi (omega arith) made in
    let op : word_of addi / 2 ^ 22 ≡ 0x00b = omega arith in
    let rd : rd_of (word_of addi) ≡ n = omega arith in
    let rj : rj_of (word_of addi) ≡ rj_of (word_of ld) = omega arith in
    addresses c 1 8 x y k s kind n (symbol_address x) (symbol_address y) at are
    (load_goes relative_laws c x s pcala ld pair l at.at)
    (λ t here.
    sum_goes c.new c.processor y t n (symbol_address y) high.relocated low.relocated
    (high_after 12 0x0d n _ pcala high.relocated a.written one.first one.register)
    (low_after 0x00b n n _ addi low.relocated (low_written low.applied.value addi low.relocated op low.applied.written) op rd
    (rj ∙ one.into_own_source.same)) one.into_own_source.not_zero (below_32 (word_of ld)) here high.stands low.stands
    (relative_laws.0 y small y.place pcala high.relocated a (subst (ValueIsWithin signed_32) a.value_is fits)
    (sum_64 y.place 4) addi low.relocated low.applied (ap not (no_jirl (word_of addi) op))))

-- that a `pcalau12i` of the register was made
near_after : (n : ℕ) (v : ℤ) (pcala pcaddi of : List ℕ) → rd_of (word_of pcala) ≡ n
    → IsRewritten kinds.PcalaToPcaddi pcala pcaddi
    → InstructionWritten (LoongArch64 Shift5) (record { start = 2; end = 22 }) v pcaddi of → IsHigh 0x0c n (word_of of)
near_after n v pcala pcaddi of register_is made written =
    let is = pcaddi_of pcala pcaddi made in
    high_after 2 0x0c n v pcaddi of written is.opcode (is.rd_is ∙ register_is)

pub are_near_loads : relocation_laws.RelativeAddresses → relocation_laws.Branches → groups.GotToPcaddi
are_near_loads relative_laws branches c x y k s pcala ld pcaddi pair l made small near kind at are =
    let one = pair.one_register in
    let n = rd_of (word_of ld) in
    addresses c 0 4 x y k s kind n (symbol_address x) (symbol_address y) at are
    (load_goes relative_laws c x s pcala ld pair l at.at)
    (λ t here.
    near_goes c.new c.processor y t n (symbol_address y) near.relocated
    (near_after n _ pcala pcaddi near.relocated one.register made near.applied.written) one.into_own_source.not_zero
    (below_32 (word_of ld)) here near.stands (branches.3 y small y.place pcaddi near.relocated near.applied tt))

-- Addresses by two instructions become one by `pcaddi`, by what relocations wrote.
near_sum : (c : Code) (x y : Operands) (k : Kinds) (s : State) (pcala addi pcaddi high low near : List ℕ) (u v : ℕ)
    {a b d : ℤ} → IsPair IsAddi pcala addi → IsRewritten kinds.PcalaToPcaddi pcala pcaddi
    → InstructionWritten (LoongArch64 Shift5) (record { start = 12; end = 32 }) a pcala high
    → InstructionWritten (LoongArch64 Shift10) (record { start = 0; end = 12 }) b addi low
    → InstructionWritten (LoongArch64 Shift5) (record { start = 2; end = 22 }) d pcaddi near
    → Stands c.old x.place high → Stands c.old (sum_64 x.place 4) low → Stands c.new y.place near
    → IsAddress (pcalau12i x.place (word_of high) +ℤ signed 12 (field (word_of low) 10 22)) u
    → IsAddress (pos y.place +ℤ ((loongarch_form Shift5).machine (word_of near) *ℤ pos 4)) v
    → (kind : Kind) → AreBefore c 8 4 x y s → AreOf (link c) 8 kind u v
    → Group (of_link (link c)) 1 k s (with_register (rd_of (word_of addi)) kind k)
    (put (rd_of (word_of addi)) u (sum_64 x.place 8) s)
near_sum c x y k s pcala addi pcaddi high low near u v {a} {b} {d} pair made wa wb wd stands stands' stands_near leads leads_near kind at are =
    let one = pair.one_register in
    let some = one.into_own_source.not_zero in
    let n = rd_of (word_of addi) in
    addresses c 0 4 x y k s kind n u v at are
    (sum_goes c.old c.processor x s n u high low (high_after 12 0x0d n a pcala high wa one.first one.register)
    (low_after 0x00b n n b addi low wb pair.second_is refl one.into_own_source.same) some (below_32 (word_of addi)) at.at
    stands stands' leads)
    (λ t here.
    near_goes c.new c.processor y t n v near (near_after n d pcala pcaddi near one.register made wd) some
    (below_32 (word_of addi)) here stands_near leads_near)

pub are_near_sums : relocation_laws.RelativeAddresses → relocation_laws.Branches → groups.SumToPcaddi names.R_LARCH_PCALA_HI20
    names.R_LARCH_PCALA_LO12 names.R_LARCH_PCREL20_S2 kinds.Delete symbol_address
are_near_sums relative_laws branches c x y k s pcala addi pcaddi pair l made small near =
    let op = pair.second_is in
    let a = l.high.applied in
    near_sum c x y k s pcala addi pcaddi l.high.relocated l.low.relocated near.relocated (symbol_address x)
    (symbol_address y) pair made a.written
    (low_written l.low.applied.value addi l.low.relocated op l.low.applied.written) near.applied.written
    l.high.stands l.low.stands near.stands
    (relative_laws.0 x l.small x.place pcala l.high.relocated a (subst (ValueIsWithin signed_32) a.value_is l.fits)
    (sum_64 x.place 4) addi l.low.relocated l.low.applied (ap not (no_jirl (word_of addi) op)))
    (branches.3 y small y.place pcaddi near.relocated near.applied tt)

pub are_near_entries : relocation_laws.RelativeAddresses → relocation_laws.Branches → groups.EntriesToPcaddi
are_near_entries relative_laws branches = (
  λ c x y k s pcala addi pcaddi pair l made small near.
      let a = l.high.applied in
      near_sum c x y k s pcala addi pcaddi l.high.relocated l.low.relocated near.relocated (entry_and_addend x)
      (entry_and_addend y) pair made a.written l.low.applied.written near.applied.written l.high.stands l.low.stands near.stands
      (relative_laws.2 x l.small x.place pcala l.high.relocated a (subst (ValueIsWithin signed_32) a.value_is l.fits)
      (sum_64 x.place 4) addi l.low.relocated l.low.applied tt)
      (branches.4 y small y.place pcaddi near.relocated near.applied tt),
  λ c x y k s pcala addi pcaddi pair l made small near.
      let a = l.high.applied in
      near_sum c x y k s pcala addi pcaddi l.high.relocated l.low.relocated near.relocated (entry_and_addend x)
      (entry_and_addend y) pair made a.written l.low.applied.written near.applied.written l.high.stands l.low.stands near.stands
      (relative_laws.3 x l.small x.place pcala l.high.relocated a (subst (ValueIsWithin signed_32) a.value_is l.fits)
      (sum_64 x.place 4) addi l.low.relocated l.low.applied tt)
      (branches.5 y small y.place pcaddi near.relocated near.applied tt),
  λ c x y k s pcala addi pcaddi pair l made small near.
      let a = l.high.applied in
      near_sum c x y k s pcala addi pcaddi l.high.relocated l.low.relocated near.relocated (entry_and_addend x)
      (entry_and_addend y) pair made a.written l.low.applied.written near.applied.written l.high.stands l.low.stands near.stands
      (relative_laws.5 x l.small x.place pcala l.high.relocated a (subst (ValueIsWithin signed_32) a.value_is l.fits)
      (sum_64 x.place 4) addi l.low.relocated l.low.applied tt)
      (branches.6 y small y.place pcaddi near.relocated near.applied tt),
)

-- ---- calls

-- Old goes to a target by both instructions, of which the second leaves a state.
call_goes : relocation_laws.Calls → (c : Code) (links : ℕ) (x : Operands) (s u : State) (call of : List ℕ)
    → AreAddresses x → s.pc ≡ x.place → (is : IsCall links call 0)
    → (r : Relocated (loongarch_row names.R_LARCH_CALL36) x call of)
    → Stands c.old x.place of → Stands c.old (sum_64 x.place 4) (drop 4 of)
    → let far = far_address (word_of of) (seen c.processor s) in
    let s1 = put (rd_of (word_of call)) far (sum_64 s.pc 4) s in
    left s1 (loongarch_machine.go_to (plt_address x) (loongarch_machine.write links (sum_64 s1.pc 4) (seen c.processor s1))) ≡ u
    → run 2 (machine c.processor c.old) s ≡ Some u
call_goes calls c links x s u call of small at is r stands stands_after ends =
    let p = c.processor in
    let n = rd_of (word_of call) in
    let w = call_is links x call of is r in
    let first = word_of of in
    let second = word_of (drop 4 of) in
    let far = far_address first (seen p s) in
    let s1 = put n far (sum_64 s.pc 4) s in
    let target : register_target second (seen p s1) ≡ plt_address x =
    ap (register_target second) (still_seen p s n far (sum_64 s.pc 4) (below_32 (word_of call)))
    ∙ target_is x n first second (seen p s) of (new_first links x call of is r) (new_second links x call of is r) refl refl
    w.base is.base_not_zero at (calls x small x.place call of r.applied tt) in
    run_first 1 (machine p c.old) s s1 _
    (goes p c.old s x.place first (set n far (seen p s)) at stands
    (ap (λ i. execute i first (seen p s)) (decodes_far first w.far)
    ∙ ap (λ m. Some (leaves m far (seen p s))) w.far_rd
    ∙ ap (λ a. Some (loongarch_machine.go_on a)) (cond-false _ _ _ (ne_eqb n 0 is.base_not_zero)))
    ∙ ap Some (wrote p s n far (sum_64 s.pc 4) (below_32 (word_of call))))
    (once p c.old s1 u
    (goes p c.old s1 (sum_64 x.place 4) second
    (loongarch_machine.go_to (plt_address x) (loongarch_machine.write links (sum_64 s1.pc 4) (seen p s1)))
    (ap (λ a. sum_64 a 4) at) stands_after
    (ap (λ i. execute i second (seen p s1)) (decodes_jirl second w.jumps)
    ∙ ap₂ (λ a m. Some (loongarch_machine.go_to a (loongarch_machine.write m (sum_64 s1.pc 4) (seen p s1)))) target w.links)
    ∙ ap Some ends))

-- a branch goes to its target
branch_leads : relocation_laws.Branches → (y : Operands) (t : loongarch_machine.State) (branch of : List ℕ) → AreAddresses y
    → t.pc ≡ y.place → IsRelocated names.R_LARCH_B26 y branch of → branch_target (word_of of) t ≡ plt_address y
branch_leads branches y t branch of small at b =
    ap (λ a. wrapped (pos a +ℤ ((loongarch_form Branch26).machine (word_of of) *ℤ pos 4))) at
    ∙ address_is _ _ (branches.2 y small y.place branch of b tt)

pub are_calls : relocation_laws.Calls → relocation_laws.Branches → groups.Calls
are_calls calls branches = (
  λ c x y k s call of branch small new_small at target is made r stands stands_after new.
      let p = c.processor in
      let n = rd_of (word_of call) in
      let far = far_address (word_of of) (seen p s) in
      let s1 = put n far (sum_64 s.pc 4) s in
      let w = word_of new.relocated in
      let word = word_made (λ _. 0x54000000) call branch (omega arith) made in
      let op : w / 2 ^ 26 ≡ 0x15 =
      branch_after _ branch new.relocated new.applied.written ∙ (let e : word_of branch / 2 ^ 26 ≡ 0x15 = omega arith in e) in
      group_of (link c) 0 1
      (call_goes calls c 1 x s (put 1 (sum_64 x.place 8) (plt_address x) s1) call of small at.at is r stands stands_after
      (wrote p s1 1 (sum_64 s1.pc 4) (plt_address x) (omega arith)
      ∙ ap (λ a. put 1 a (plt_address x) s1) (ap (λ a. sum_64 (sum_64 a 4) 4) at.at ∙ eight x.place)))
      (λ t agree.
      let here = agree.pc ∙ ap c.moved at.at ∙ sym at.place in
      holds_of (run 1 (machine p c.new) t) _ (put 1 (sum_64 y.place 4) (plt_address y) t)
      (once p c.new t (put 1 (sum_64 y.place 4) (plt_address y) t)
      (goes p c.new t y.place w
      (loongarch_machine.go_to (plt_address y) (loongarch_machine.with_register 1 (sum_64 t.pc 4) (seen p t))) here new.stands
      (ap (λ i. execute i w (seen p t)) (decodes_bl w op)
      ∙ ap (λ a. Some (loongarch_machine.go_to a (loongarch_machine.with_register 1 (sum_64 t.pc 4) (seen p t))))
      (branch_leads branches y (seen p t) branch new.relocated new_small here new.applied))
      ∙ ap Some (wrote p t 1 (sum_64 t.pc 4) (plt_address y) (omega arith)
      ∙ ap (λ a. put 1 (sum_64 a 4) (plt_address y) t) here)))
      (agree_put (link c) (with_register n anything k) (put n far s.pc s) t 1 (of_place (sum_64 x.place 8))
      (sum_64 x.place 8) (sum_64 y.place 4) (plt_address x) (plt_address y)
      (agree_put_old (link c) k s t n anything far s.pc agree agree.small agree.pc tt)
      (sum_below x.plt_entry _) target (
        counts (sum_64 x.place 8) (sum_64 x.place 8) refl (sum_below x.place 8),
        counts (c.moved (sum_64 x.place 8)) (sum_64 y.place 4) (sym at.next) (sum_below y.place 4),
      ))),
  λ c x y k s call of branch small new_small at target is made r stands stands_after new.
      let p = c.processor in
      let n = rd_of (word_of call) in
      let far = far_address (word_of of) (seen p s) in
      let s1 = put n far (sum_64 s.pc 4) s in
      let w = word_of new.relocated in
      let word = word_made (λ _. 0x50000000) call branch (omega arith) made in
      let op : w / 2 ^ 26 ≡ 0x14 =
      branch_after _ branch new.relocated new.applied.written ∙ (let e : word_of branch / 2 ^ 26 ≡ 0x14 = omega arith in e) in
      group_of (link c) 0 1
      (call_goes calls c 0 x s (put n far (plt_address x) s) call of small at.at is r stands stands_after
      (went p s1 (plt_address x)))
      (λ t agree.
      let here = agree.pc ∙ ap c.moved at.at ∙ sym at.place in
      holds_of (run 1 (machine p c.new) t) _ (go_to (plt_address y) t)
      (once p c.new t (go_to (plt_address y) t)
      (goes p c.new t y.place w (loongarch_machine.go_to (plt_address y) (seen p t)) here new.stands
      (ap (λ i. execute i w (seen p t)) (decodes_b w op)
      ∙ ap (λ a. Some (loongarch_machine.go_to a (seen p t)))
      (branch_leads branches y (seen p t) branch new.relocated new_small here new.applied))
      ∙ ap Some (went p t (plt_address y))))
      (agree_put_old (link c) k (go_to (plt_address x) s) (go_to (plt_address y) t) n anything far (plt_address x)
      (agree_go (link c) k s t (plt_address x) (plt_address y) agree (sum_below x.plt_entry _) target)
      (sum_below x.plt_entry _) target tt)),
)

-- ---- other instructions

pub are_others : (c : Code) → OthersAgree (groups.does c.processor) (link c)
are_others c = others_agree (groups.does c.processor) (link c) (λ code s. refl)
