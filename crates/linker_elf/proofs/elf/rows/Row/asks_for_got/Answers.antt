use Rattle.linker_elf.proofs.Imports.{IsGotAnswer, subst, sym, ◌∙◌}
use Rattle.linker_elf.proofs.Entries.{got_answer}
use Rattle.linker_elf.proofs.elf.rows.Row.asks_for_got.Goals as goal

pub returns-then-not-is_of_high_part : goal.returns-then-not-is_of_high_part
returns-then-not-is_of_high_part c =
    subst (λ row. IsGotAnswer row c.names_got_entry.result) c.info-info.ensures.row
    (got_answer c.info-info.result _ (sym c.is_of_high_part.ensures ∙ c.if-not-is_of_high_part.true)
    c.names_got_entry.ensures)
