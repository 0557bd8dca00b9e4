use Rattle.linker_rewriting.proofs.Imports.{IsKeepingWord, KeepsWord, context_of, subst}
use Rattle.linker_rewriting.proofs.WordsNoted.{more_words}
use Rattle.linker_rewriting.proofs.toc_indirection.survey_toc_loads.Goals as goal

pub loop-index-preserved : goal.loop-index-preserved
loop-index-preserved c =
    let a = c.args in
    let k = c.loop-index.index in
    let s = context_of a.context.now in
    more_words (KeepsWord s a.words_start a.words.now a.relocations.now a.section.now) a.kept.now c.loop-index.kept
    c.keep_word.new.kept k c.keeping_word.result c.loop-index.invariant
    (subst (λ r. IsKeepingWord s a.words_start a.words.now a.relocations.now a.section.now k r c.keeping_word.result)
    c.relocation_in.ensures c.keeping_word.ensures)
    c.keep_word.ensures
