-- What `apply_by` says, of the rewrite with the number.
use Rattle.linker_utils_c.proofs.Imports.{Some, ap, relaxation_rewrite, sym, ◌∙◌}
use Rattle.linker_utils_c.specs.Rewrites.{IsApplied}
use Rattle.linker_utils_c.proofs.Named.{of_named}
use Rattle.linker_utils_c.proofs.rewrites.apply_of.Goals as goal

pub returns-in-AArch64 : goal.returns-in-AArch64
returns-in-AArch64 c =
    let new = c.apply_by.new in
    record {
      outcome = of_named c.args.machine c.args.rewrite c.args.opcode_len _ _ _
          (λ named. IsApplied (relaxation_rewrite named) c.args.section.now new.section c.args.offset.now new.offset c.args.addend.now new.addend c.apply_by.result)
          (sym c.from_machine.ensures ∙ c.in-Some.is ∙ ap Some c.in-AArch64.is) c.from_number.ensures c.apply_by.ensures.outcome;
      unchanged = c.apply_by.ensures.unchanged;
    }

pub returns-in-LoongArch64 : goal.returns-in-LoongArch64
returns-in-LoongArch64 c =
    let new = c.apply_by-in-LoongArch64.new in
    record {
      outcome = of_named c.args.machine c.args.rewrite c.args.opcode_len _ _ _
          (λ named. IsApplied (relaxation_rewrite named) c.args.section.now new.section c.args.offset.now new.offset c.args.addend.now new.addend c.apply_by-in-LoongArch64.result)
          (sym c.from_machine.ensures ∙ c.in-Some.is ∙ ap Some c.in-LoongArch64.is) c.from_number-in-LoongArch64.ensures c.apply_by-in-LoongArch64.ensures.outcome;
      unchanged = c.apply_by-in-LoongArch64.ensures.unchanged;
    }

pub returns-in-Ppc64 : goal.returns-in-Ppc64
returns-in-Ppc64 c =
    let new = c.apply_by-in-Ppc64.new in
    record {
      outcome = of_named c.args.machine c.args.rewrite c.args.opcode_len _ _ _
          (λ named. IsApplied (relaxation_rewrite named) c.args.section.now new.section c.args.offset.now new.offset c.args.addend.now new.addend c.apply_by-in-Ppc64.result)
          (sym c.from_machine.ensures ∙ c.in-Some.is ∙ ap Some c.in-Ppc64.is) c.from_number-in-Ppc64.ensures c.apply_by-in-Ppc64.ensures.outcome;
      unchanged = c.apply_by-in-Ppc64.ensures.unchanged;
    }
