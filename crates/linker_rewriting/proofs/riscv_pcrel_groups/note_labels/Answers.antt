use Rattle.linker_rewriting.proofs.Imports.{context_of, decision_in, map, sym, ◌∙◌}
use Rattle.linker_rewriting.proofs.LabelGroups.{no_labels}
use Rattle.linker_rewriting.proofs.riscv_pcrel_groups.note_labels.Goals as goal

pub returns-then-not-has_labels-clause-noted : goal.returns-then-not-has_labels-clause-noted
returns-then-not-has_labels-clause-noted c =
    let a = c.args in
    no_labels (context_of a.context.now) a.relocations.now a.section.now (map decision_in a.decisions.now)
    (sym c.has_labels.ensures ∙ c.if-not-has_labels.true)
