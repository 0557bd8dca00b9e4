use Rattle.linker_elf.proofs.Imports.{IsTrue, ValuesHold, subst, sym, true≢false, ◌↔◌, ◌∙◌}
use Rattle.linker_elf.proofs.ChoiceTables.{without_seldom_fact, without_instructions, without_fact, without_addend, by_values}
use Rattle.linker_elf.proofs.elf.choice_table.applies.Goals as goal

pub returns-then-not-seldom_hold : goal.returns-then-not-seldom_hold
returns-then-not-seldom_hold g c =
    without_seldom_fact g.K.Relocation.RelocationName.row_of (g.K.RewriteSet.tables.after c.args.entry.now.kind c.args.offset c.args.facts.now.operands)
    c.args.facts.now c.args.entry.now (g.K.RewriteSet.are_at c.args.entry.now.originals c.args.entry.now.kind c.args.section.now c.args.offset)
    (sym c.seldom_hold.ensures ∙ c.if-not-seldom_hold.true)

pub returns-then-not-matches_at : goal.returns-then-not-matches_at
returns-then-not-matches_at g c =
    without_instructions (λ h. true≢false (sym (c.matches_at.ensures.1 h) ∙ c.if-not-matches_at.true))

pub returns-then-not-hold : goal.returns-then-not-hold
returns-then-not-hold g c =
    without_fact g.K.Relocation.RelocationName.row_of (g.K.RewriteSet.tables.after c.args.entry.now.kind c.args.offset c.args.facts.now.operands)
    c.args.facts.now c.args.entry.now (g.K.RewriteSet.are_at c.args.entry.now.originals c.args.entry.now.kind c.args.section.now c.args.offset)
    (sym c.hold.ensures ∙ c.if-not-hold.true)

pub returns-then-not-has_addend : goal.returns-then-not-has_addend
returns-then-not-has_addend g c =
    without_addend g.K.Relocation.RelocationName.row_of (g.K.RewriteSet.tables.after c.args.entry.now.kind c.args.offset c.args.facts.now.operands)
    c.args.facts.now c.args.entry.now (g.K.RewriteSet.are_at c.args.entry.now.originals c.args.entry.now.kind c.args.section.now c.args.offset)
    (λ h. true≢false (sym (c.has_addend.ensures.1 h) ∙ c.if-not-has_addend.true))

pub returns : goal.returns
returns g c =
    by_values g.K.Relocation.RelocationName.row_of (g.K.RewriteSet.tables.after c.args.entry.now.kind c.args.offset c.args.facts.now.operands)
    c.args.facts.now c.args.entry.now (g.K.RewriteSet.are_at c.args.entry.now.originals c.args.entry.now.kind c.args.section.now c.args.offset)
    c.all_hold.result (sym c.hold.ensures ∙ c.if-not-hold.false)
    (c.has_addend.ensures.0 c.if-not-has_addend.false) (c.matches_at.ensures.0 c.if-not-matches_at.false)
    (subst (λ o. IsTrue c.all_hold.result ↔ ValuesHold g.K.Relocation.RelocationName.row_of o c.args.facts.now c.args.entry.now.conditions.values)
    c.operands_after-after.ensures c.all_hold.ensures)
