use Rattle.linker_elf.proofs.Imports.{IsPltAnswer, subst, sym, ◌∙◌}
use Rattle.linker_elf.proofs.Entries.{plt_answer}
use Rattle.linker_elf.proofs.elf.rows.Row.may_use_plt.Goals as goal

pub returns-else-is_branch : goal.returns-else-is_branch
returns-else-is_branch c =
    subst (λ row. IsPltAnswer row c.names_plt_entry.result) c.info-info.ensures.row
    (plt_answer c.info-info.result _ (sym c.is_branch.ensures ∙ c.if-is_branch.false)
    c.names_plt_entry.ensures)
