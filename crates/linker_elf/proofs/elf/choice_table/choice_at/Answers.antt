use Rattle.linker_elf.proofs.Imports.{EntryApplies, arith, sym, true≢false, ◌∙◌}
use Rattle.linker_elf.proofs.ChoiceTables.{item_chosen, item_not_chosen, none_at}
use Rattle.linker_elf.proofs.elf.choice_table.choice_at.Goals.{then-index-entries+else-applies, else-index-entries}
use Rattle.linker_elf.proofs.elf.choice_table.choice_at.Goals as goal

pub returns-then-applies : goal.returns-then-applies
returns-then-applies g c =
    item_chosen
    (EntryApplies g.K.RewriteSet.are_at g.K.Relocation.RelocationName.row_of g.K.RewriteSet.tables.after c.args.section.now c.args.offset c.args.facts.now)
    c.args.entries.now c.args.index c.index-entries-index.result c.if-index-entries.true c.index-entries-index.is
    (c.applies.ensures.0 c.if-applies.true)

pub returns : goal.returns
returns g c =
    elim c.if-index-entries.branch [
      | then-index-entries+else-applies w ↦
          item_not_chosen
          (EntryApplies g.K.RewriteSet.are_at g.K.Relocation.RelocationName.row_of g.K.RewriteSet.tables.after c.args.section.now c.args.offset c.args.facts.now)
          c.args.entries.now c.args.index w.index-entries-index.result w.if-index-entries.true w.index-entries-index.is
          (λ a. true≢false (sym (w.applies.ensures.1 a) ∙ w.if-applies.false))
      | else-index-entries w ↦
          none_at
          (EntryApplies g.K.RewriteSet.are_at g.K.Relocation.RelocationName.row_of g.K.RewriteSet.tables.after c.args.section.now c.args.offset c.args.facts.now)
          c.args.entries.now c.args.index (omega (arith, w.if-index-entries.false))
    ]
