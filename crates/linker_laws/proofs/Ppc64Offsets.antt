-- PowerPC64: instructions of initial-exec, each in two runs.
use Rattle.linker_laws.proofs.Imports.{D, Ds, IsRelocated, IsRewritten, List, Operands, Ppc64Relocation, RewriteKind, Some, access_of, ap, arith, by_displacement, by_word_displacement, is_add_of_thread, is_indexed, is_indexed_word, moved, opcode_of, ppc64_form, ra_of, refl, registers_of, rt_of, sum_64, sym, true, word_of, ℕ, ◌+◌, ◌==◌, ◌∙◌, ◌≡◌}
use Rattle.linker_utils.specs.declared.ppc64.rewrites.RewriteKind.TheVariants as kinds
use Rattle.linker_elf.specs.declared.ppc64.relocations.Ppc64Relocation.TheVariants as names
use Rattle.linker_laws.specs.Ppc64Groups as groups
use Rattle.linker_laws.specs.Ppc64Machine.{State, Formats, go_on, accessed, access_with, word_access_with}
use Rattle.linker_laws.proofs.AArch64Pairs.{word_made}
use Rattle.linker_laws.proofs.Ppc64Accesses.{step_access, step_indexed, indexed_parts, indexed_word_parts, is_direct, step_indexed_word, below, step_word}
use Rattle.linker_laws.proofs.Ppc64Addresses.{same_parts, add_parts}
use Rattle.linker_laws.proofs.Ppc64Apart.{Does, base_some}
use Rattle.linker_laws.proofs.Ppc64Words.{HasParts, d_after, ds_after, set, step_addi, step_add}

-- The steps of instructions by the sum of an offset and the thread pointer.
pub record SumSteps (how : groups.Use) : Type 0 where
  pub old : (f : Formats) (s : State) (insn : List ℕ) (offset : ℕ) → how.test (word_of insn) ≡ true
      → s.registers (ra_of (word_of insn)) ≡ offset
      → Does f (how.does f (word_of insn) (sum_64 offset (s.registers 13))) (word_of insn) s

pub record OffsetSteps (kind : RewriteKind) (low : Ppc64Relocation) (how : groups.Use) : Type 0 where
  pub sum : SumSteps how
  pub new : (f : Formats) (o : Operands) (t : State) (insn direct direct_of : List ℕ) (target at : ℕ)
      → how.test (word_of insn) ≡ true → IsRewritten kind insn direct
      → groups.LowHalfLeads o (t.registers (ra_of (word_of insn))) target
      → IsRelocated low (groups.at_place at o) direct direct_of
      → Does f (how.does f (word_of insn) target) (word_of direct_of) t

pub adds_sum : SumSteps (groups.adds is_add_of_thread)
adds_sum =
    record {
      old = λ f s insn offset is has.
          let x = word_of insn in
          let p = add_parts x is in
          step_add f x (rt_of x) (ra_of x) 13 s
          (record { opcode_is = p.opcode_is; rt_is = refl; ra_is = refl }) p.rb_is p.low
          ∙ ap (λ n. Some (set (rt_of x) (sum_64 n (s.registers 13)) s)) has;
    }

pub accesses_sum : SumSteps (groups.accesses is_indexed (λ word. access_with (access_of word)))
accesses_sum =
    record {
      old = λ f s insn offset is has.
          let x = word_of insn in
          let p = indexed_parts x is in
          step_indexed f x 13 s p.opcode_is p.low p.known p.rb_is
          ∙ ap (λ k. Some (go_on (accessed f (access_with (access_of x)) (rt_of x) (sum_64 k (s.registers 13)) s)))
          (base_some (ra_of x) s p.over_some ∙ has);
    }

pub words_sum : SumSteps (groups.accesses is_indexed_word (λ word. word_access_with (access_of word)))
words_sum =
    record {
      old = λ f s insn offset is has.
          let x = word_of insn in
          let p = indexed_word_parts x is in
          step_indexed_word f x 13 s p.opcode_is p.low p.known p.rb_is
          ∙ ap (λ k. Some (go_on (accessed f (word_access_with (access_of x)) (rt_of x) (sum_64 k (s.registers 13)) s)))
          (base_some (ra_of x) s p.over_some ∙ has);
    }

pub adds_offset : OffsetSteps kinds.AddToAddi names.R_PPC64_TPREL16_LO (groups.adds is_add_of_thread)
adds_offset =
    record {
      sum = adds_sum;
      new = λ f o t insn direct direct_of target at is made leads d.
          let x = word_of insn in
          let z = rt_of x in
          let p = add_parts x is in
          let y = word_of direct_of in
          let word : word_of direct ≡ 0x38000000 + registers_of x =
          word_made (λ w. 0x38000000 + registers_of w) insn direct (omega arith) made in
          let parts : HasParts 14 z (ra_of x) (word_of direct) =
          record { opcode_is = omega arith; rt_is = omega arith; ra_is = omega arith } in
          step_addi f y z (ra_of x) t
          (same_parts parts.opcode_is parts.rt_is parts.ra_is (d_after _ _ direct direct_of d.written))
          ∙ ap (λ n. Some (set z n t))
          (ap (λ n. moved n ((ppc64_form D).machine y)) (base_some (ra_of x) t p.over_some) ∙ leads.0 at direct direct_of d);
    }

pub accesses_offset : OffsetSteps kinds.IndexedToD names.R_PPC64_TPREL16_LO
    (groups.accesses is_indexed (λ word. access_with (access_of word)))
accesses_offset =
    record {
      sum = accesses_sum;
      new = λ f o t insn direct direct_of target at is made leads d.
          let x = word_of insn in
          let z = rt_of x in
          let n = access_of x in
          let p = indexed_parts x is in
          let word : word_of direct ≡ by_displacement x =
          word_made by_displacement insn direct (omega arith) made in
          let op : opcode_of (word_of direct) ≡ 32 + n = omega arith in
          let rt : rt_of (word_of direct) ≡ z = omega arith in
          let ra : ra_of (word_of direct) ≡ ra_of x = omega arith in
          let after = d_after _ _ direct direct_of d.written in
          let y = word_of direct_of in
          step_access f y n z (ra_of x) t (after.opcode_is ∙ op) p.known (after.rt_is ∙ rt) (after.ra_is ∙ ra)
          ∙ ap (λ k. Some (go_on (accessed f (access_with n) z k t)))
          (ap (λ n. moved n ((ppc64_form D).machine y)) (base_some (ra_of x) t p.over_some) ∙ leads.0 at direct direct_of d);
    }

pub words_offset : OffsetSteps kinds.IndexedToDs names.R_PPC64_TPREL16_LO_DS
    (groups.accesses is_indexed_word (λ word. word_access_with (access_of word)))
words_offset =
    record {
      sum = words_sum;
      new = λ f o t insn direct direct_of target at is made leads d.
          let x = word_of insn in
          let z = rt_of x in
          let n = access_of x in
          let p = indexed_word_parts x is in
          let word : word_of direct ≡ by_word_displacement x =
          word_made by_word_displacement insn direct (below x (n == 4) (n == 10)) made in
          let turned = is_direct x (word_of direct) p.known word in
          let after = ds_after _ _ direct direct_of d.written in
          let y = word_of direct_of in
          step_word f y z (ra_of x) (word_access_with n) t (turned.decodes y after.0.opcode_is after.1)
          (after.0.rt_is ∙ turned.rt_is) (after.0.ra_is ∙ turned.ra_is)
          ∙ ap (λ k. Some (go_on (accessed f (word_access_with n) z k t)))
          (ap (λ n. moved n ((ppc64_form Ds).machine y)) (base_some (ra_of x) t p.over_some)
          ∙ ap (moved (t.registers (ra_of x))) (sym (turned.reads y after.0.opcode_is)) ∙ leads.1 at direct direct_of d);
    }
