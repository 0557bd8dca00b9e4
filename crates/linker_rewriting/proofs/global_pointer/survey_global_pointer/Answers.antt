use Rattle.linker_rewriting.proofs.Imports.{IsKeepingSymbol, KeepsSymbol, context_of, subst}
use Rattle.linker_rewriting.proofs.WordsNoted.{more_words}
use Rattle.linker_rewriting.proofs.global_pointer.survey_global_pointer.Goals as goal

pub loop-index-preserved : goal.loop-index-preserved
loop-index-preserved c =
    let a = c.args in
    let k = c.loop-index.index in
    let s = context_of a.context.now in
    more_words (KeepsSymbol s a.gp a.relocations.now a.section.now) a.kept.now c.loop-index.kept
    c.keep_word.new.kept k c.keeping_symbol.result c.loop-index.invariant
    (subst (λ r. IsKeepingSymbol s a.gp a.relocations.now a.section.now k r c.keeping_symbol.result)
    c.relocation_in.ensures c.keeping_symbol.ensures)
    c.keep_word.ensures
