-- PowerPC64: instructions with a low half over the base of the high half, each in two runs.
use Rattle.linker_laws.proofs.Imports.{AreAddresses, D, Ds, IsAddress, IsRelocated, IsRewritten, List, Operands, Ppc64Form, Ppc64Relocation, RewriteKind, Some, access_number, and_parts, ap, arith, at_place, difference_64, ds_access, eqb-true, field, ints, is_addi, is_d_over, is_ds_access, is_over_base, is_vector_access, moved, not, opcode_of, over_base, pos, ppc64_form, ppc64_reads, ra_of, refl, rt_of, sum_64, sym, symbol_address, true, word_of, ℕ, ℤ, ◌%◌, ◌*ℤ◌, ◌+ℤ◌, ◌+◌, ◌<◌, ◌==◌, ◌^◌, ◌∙◌, ◌≡◌}
use Rattle.linker_elf.specs.declared.ppc64.relocations.Ppc64Relocation.TheVariants as names
use Rattle.linker_utils.specs.declared.ppc64.rewrites.RewriteKind.TheVariants as kinds
use Rattle.linker_laws.specs.Ppc64RelocationLaws as relocation_laws
use Rattle.linker_laws.specs.Ppc64Groups as groups
use Rattle.linker_laws.specs.Ppc64Machine.{State, Formats, base, go_on, accessed, access_with}
use Rattle.linker_laws.proofs.AArch64Pairs.{word_made}
use Rattle.linker_laws.proofs.Ppc64Accesses.{step_access, d_access_parts, ds_parts, step_word}
use Rattle.linker_laws.proofs.Ppc64Addresses.{same_parts, some_of}
use Rattle.linker_laws.proofs.Ppc64Apart.{Does, IsBase, Keeps, base_some}
use Rattle.linker_laws.proofs.Ppc64Words.{HasParts, d_after, ds_after, set, step_addi}
use Rattle.linker_laws.proofs.RiscVMachine.{address_is}
use Rattle.linker_laws.proofs.Sums.{lift, sum_below, wrapped_is}

-- The whole distance leads from another begin to what is as far from there.
pub whole_from : (begin target t : ℕ) (a : ℤ) → begin < 2 ^ 64 → target < 2 ^ 64
    → IsAddress (pos begin +ℤ (a *ℤ pos 1)) target → moved t a ≡ sum_64 (difference_64 target begin) t
whole_from begin target t a small below h =
    let x = lift a in
    let is = x.is in
    let there : (begin + x.number) % 2 ^ 64 ≡ target =
    sym (wrapped_is (pos begin +ℤ (a *ℤ pos 1)) x.times (begin + x.number) (omega (arith, ints)))
    ∙ address_is _ _ h in
    wrapped_is (pos t +ℤ a) x.times (t + x.number) (omega (arith, ints))
    ∙ (let same : (t + x.number) % 2 ^ 64 ≡ sum_64 (difference_64 target begin) t = omega arith in same)

-- a word with another base
over_base_parts : (r x word : ℕ) → r < 32 → word ≡ over_base r x → HasParts (opcode_of x) (rt_of x) r word
over_base_parts r x word small is =
    record { opcode_is = omega arith; rt_is = omega arith; ra_is = omega arith }

over_base_low : (r x word : ℕ) → word ≡ over_base r x → field word 0 2 ≡ field x 0 2
over_base_low r x word is = omega arith

-- what is known of a base register, a rewrite to it, and the relocations before and after
pub record IsOver (r : ℕ) (kind : RewriteKind) (low whole : Ppc64Relocation) (form : Ppc64Form)
    (address : Operands → ℕ → ℕ) : Type 0 where
  pub small : r < 32
  pub is_base : IsBase r
  pub made : (insn over : List ℕ) → IsRewritten kind insn over → word_of over ≡ over_base r (word_of insn)
  pub low_keeps : Keeps low
  pub whole_keeps : Keeps whole
  pub leads : (o : Operands) → AreAddresses o → (n : ℕ) (over after : List ℕ) → IsRelocated whole o over after
      → moved n (ppc64_reads form (word_of after)) ≡ address o n

abbrev pub KeepsLow : Ppc64Relocation → Type 0
KeepsLow name =
    (o : Operands) (before after : List ℕ) → IsRelocated name o before after
    → field (word_of after) 0 2 ≡ field (word_of before) 0 2

-- The steps of instructions by a low half over any register, and of those over r.
pub record OverSteps (r : ℕ) (kind : RewriteKind) (low whole : Ppc64Relocation) (form : Ppc64Form)
    (address : Operands → ℕ → ℕ) (how : groups.Use) : Type 0 where
  pub old : (f : Formats) (o : Operands) (s : State) (insn insn_of : List ℕ) (target at : ℕ)
      → how.test (word_of insn) ≡ true → groups.Leads low form o (s.registers (ra_of (word_of insn))) target
      → IsRelocated low (at_place at o) insn insn_of
      → Does f (how.does f (word_of insn) target) (word_of insn_of) s
  pub new : (f : Formats) (o : Operands) (t : State) (insn over over_of : List ℕ) → AreAddresses o
      → how.test (word_of insn) ≡ true → IsRewritten kind insn over → IsRelocated whole o over over_of
      → Does f (how.does f (word_of insn) (address o (t.registers r))) (word_of over_of) t

pub addi_over : (r : ℕ) (kind : RewriteKind) (low whole : Ppc64Relocation) (address : Operands → ℕ → ℕ)
    → IsOver r kind low whole D address → OverSteps r kind low whole D address (groups.adds is_addi)
addi_over r kind low whole address e =
    record {
      old = λ f o s insn insn_of target at is leads l.
          let x = word_of insn in
          let w = word_of insn_of in
          let both = and_parts (opcode_of x == 14) (not (ra_of x == 0)) is in
          step_addi f w (rt_of x) (ra_of x) s
          (same_parts (eqb-true _ _ both.0) refl refl (e.low_keeps (at_place at o) insn insn_of l))
          ∙ ap (λ n. Some (set (rt_of x) n s))
          (ap (λ n. moved n ((ppc64_form D).machine w)) (base_some (ra_of x) s (some_of (ra_of x) both.1))
          ∙ leads at insn insn_of l);
      new = λ f o t insn over over_of small is made d.
          let x = word_of insn in
          let y = word_of over_of in
          let both = and_parts (opcode_of x == 14) (not (ra_of x == 0)) is in
          let parts = over_base_parts r x (word_of over) e.small (e.made insn over made) in
          step_addi f y (rt_of x) r t
          (same_parts (parts.opcode_is ∙ eqb-true _ _ both.0) parts.rt_is parts.ra_is (e.whole_keeps o over over_of d))
          ∙ ap (λ n. Some (set (rt_of x) n t))
          (ap (λ n. moved n ((ppc64_form D).machine y)) (e.is_base t) ∙ e.leads o small (t.registers r) over over_of d);
    }

pub access_over : (r : ℕ) (kind : RewriteKind) (low whole : Ppc64Relocation) (address : Operands → ℕ → ℕ)
    → IsOver r kind low whole D address → OverSteps r kind low whole D address is_d_over
access_over r kind low whole address e =
    record {
      old = λ f o s insn insn_of target at is leads l.
          let x = word_of insn in
          let w = word_of insn_of in
          let p = d_access_parts x is in
          let before = e.low_keeps (at_place at o) insn insn_of l in
          step_access f w (access_number x) (rt_of x) (ra_of x) s (before.opcode_is ∙ p.opcode_is) p.known before.rt_is
          before.ra_is
          ∙ ap (λ k. Some (go_on (accessed f (access_with (access_number x)) (rt_of x) k s)))
          (ap (λ n. moved n ((ppc64_form D).machine w)) (base_some (ra_of x) s p.over_some) ∙ leads at insn insn_of l);
      new = λ f o t insn over over_of small is made d.
          let x = word_of insn in
          let y = word_of over_of in
          let p = d_access_parts x is in
          let parts = over_base_parts r x (word_of over) e.small (e.made insn over made) in
          let after = e.whole_keeps o over over_of d in
          step_access f y (access_number x) (rt_of x) r t (after.opcode_is ∙ parts.opcode_is ∙ p.opcode_is) p.known
          (after.rt_is ∙ parts.rt_is) (after.ra_is ∙ parts.ra_is)
          ∙ ap (λ k. Some (go_on (accessed f (access_with (access_number x)) (rt_of x) k t)))
          (ap (λ n. moved n ((ppc64_form D).machine y)) (e.is_base t) ∙ e.leads o small (t.registers r) over over_of d);
    }

pub word_access_over : (r : ℕ) (kind : RewriteKind) (low whole : Ppc64Relocation) (address : Operands → ℕ → ℕ)
    → IsOver r kind low whole Ds address → KeepsLow low → KeepsLow whole
    → OverSteps r kind low whole Ds address (groups.accesses (is_over_base is_ds_access) ds_access)
word_access_over r kind low whole address e low_bits whole_bits =
    record {
      old = λ f o s insn insn_of target at is leads l.
          let x = word_of insn in
          let w = word_of insn_of in
          let both = and_parts (is_ds_access x) (not (ra_of x == 0)) is in
          let p = ds_parts x both.0 in
          let before = e.low_keeps (at_place at o) insn insn_of l in
          step_word f w (rt_of x) (ra_of x) (ds_access x) s
          (p.decodes w before.opcode_is (low_bits (at_place at o) insn insn_of l)) before.rt_is before.ra_is
          ∙ ap (λ k. Some (go_on (accessed f (ds_access x) (rt_of x) k s)))
          (ap (λ n. moved n ((ppc64_form Ds).machine w)) (base_some (ra_of x) s (some_of (ra_of x) both.1))
          ∙ ap (moved (s.registers (ra_of x))) (sym (p.reads w before.opcode_is)) ∙ leads at insn insn_of l);
      new = λ f o t insn over over_of small is made d.
          let x = word_of insn in
          let y = word_of over_of in
          let both = and_parts (is_ds_access x) (not (ra_of x == 0)) is in
          let p = ds_parts x both.0 in
          let word = e.made insn over made in
          let parts = over_base_parts r x (word_of over) e.small word in
          let after = e.whole_keeps o over over_of d in
          let op = after.opcode_is ∙ parts.opcode_is in
          step_word f y (rt_of x) r (ds_access x) t
          (p.decodes y op (whole_bits o over over_of d ∙ over_base_low r x (word_of over) word))
          (after.rt_is ∙ parts.rt_is) (after.ra_is ∙ parts.ra_is)
          ∙ ap (λ k. Some (go_on (accessed f (ds_access x) (rt_of x) k t)))
          (ap (λ n. moved n ((ppc64_form Ds).machine y)) (e.is_base t)
          ∙ ap (moved (t.registers r)) (sym (p.reads y op)) ∙ e.leads o small (t.registers r) over over_of d);
    }

pub vector_over : (r : ℕ) (kind : RewriteKind) (low whole : Ppc64Relocation) (address : Operands → ℕ → ℕ)
    → IsOver r kind low whole Ds address → (insn over : List ℕ) → IsRewritten kind insn over
    → groups.VectorOverBase r address low whole insn over
vector_over r kind low whole address e insn over made o s t small is leads insn_of over_of l d =
    let x = word_of insn in
    let both = and_parts (is_vector_access x) (not (ra_of x == 0)) is in
    let w = word_of insn_of in
    let y = word_of over_of in
    let parts = over_base_parts r x (word_of over) e.small (e.made insn over made) in
    let before = e.low_keeps o insn insn_of l in
    let after = e.whole_keeps o over over_of d in
    let old : groups.address_read w s ≡ address o (t.registers r) =
    ap (λ k. moved (base k s) (ppc64_reads Ds w)) before.ra_is
    ∙ ap (λ n. moved n (ppc64_reads Ds w)) (base_some (ra_of x) s (some_of (ra_of x) both.1))
    ∙ leads o.place insn insn_of l in
    let new : groups.address_read y t ≡ address o (t.registers r) =
    ap (λ k. moved (base k t) (ppc64_reads Ds y)) (after.ra_is ∙ parts.ra_is)
    ∙ ap (λ n. moved n (ppc64_reads Ds y)) (e.is_base t)
    ∙ e.leads o small (t.registers r) over over_of d in (
      old ∙ sym new,
      before.opcode_is ∙ sym (after.opcode_is ∙ parts.opcode_is),
      before.rt_is ∙ sym (after.rt_is ∙ parts.rt_is),
    )

-- ---- near the TOC pointer and the thread pointer

pub toc_d : relocation_laws.Displacements
    → IsOver 2 kinds.BaseToToc names.R_PPC64_TOC16_LO names.R_PPC64_TOC16 D groups.from_toc
toc_d near =
    record {
      small = omega arith;
      is_base = λ s. refl;
      made = λ insn over made. word_made (over_base 2) insn over (omega arith) made;
      low_keeps = λ o x y a. d_after _ _ x y a.written;
      whole_keeps = λ o x y a. d_after _ _ x y a.written;
      leads = λ o small n over after a.
          whole_from o.got_base (symbol_address o) n _ small.got_base (sum_below o.symbol _)
          (near.1 o small o.place over after a tt);
    }

pub toc_ds : relocation_laws.Displacements
    → IsOver 2 kinds.BaseToToc names.R_PPC64_TOC16_LO_DS names.R_PPC64_TOC16_DS Ds groups.from_toc
toc_ds near =
    record {
      small = omega arith;
      is_base = λ s. refl;
      made = λ insn over made. word_made (over_base 2) insn over (omega arith) made;
      low_keeps = λ o x y a. (ds_after _ _ x y a.written).0;
      whole_keeps = λ o x y a. (ds_after _ _ x y a.written).0;
      leads = λ o small n over after a.
          whole_from o.got_base (symbol_address o) n _ small.got_base (sum_below o.symbol _)
          (near.2 o small o.place over after a tt);
    }

pub thread_d : relocation_laws.Displacements
    → IsOver 13 kinds.BaseToThread names.R_PPC64_TPREL16_LO names.R_PPC64_TPREL16 D groups.from_thread
thread_d near =
    record {
      small = omega arith;
      is_base = λ s. refl;
      made = λ insn over made. word_made (over_base 13) insn over (omega arith) made;
      low_keeps = λ o x y a. d_after _ _ x y a.written;
      whole_keeps = λ o x y a. d_after _ _ x y a.written;
      leads = λ o small n over after a.
          whole_from o.tls_base (symbol_address o) n _ small.tls_base (sum_below o.symbol _)
          (near.6 o small o.place over after a tt);
    }

pub thread_ds : relocation_laws.Displacements
    → IsOver 13 kinds.BaseToThread names.R_PPC64_TPREL16_LO_DS names.R_PPC64_TPREL16_DS Ds groups.from_thread
thread_ds near =
    record {
      small = omega arith;
      is_base = λ s. refl;
      made = λ insn over made. word_made (over_base 13) insn over (omega arith) made;
      low_keeps = λ o x y a. (ds_after _ _ x y a.written).0;
      whole_keeps = λ o x y a. (ds_after _ _ x y a.written).0;
      leads = λ o small n over after a.
          whole_from o.tls_base (symbol_address o) n _ small.tls_base (sum_below o.symbol _)
          (near.7 o small o.place over after a tt);
    }
