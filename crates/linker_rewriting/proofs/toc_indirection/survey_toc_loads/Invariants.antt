use Rattle.linker_rewriting.proofs.Imports.{AreLoadsSurveyed, context_of}
use Rattle.linker_rewriting.proofs.toc_indirection.survey_toc_loads.Given as goal

abbrev pub invariant-loop-index : goal.invariant-loop-index
invariant-loop-index l =
    AreLoadsSurveyed (context_of l.fn.context) l.words_start
    l.fn.words l.relocations l.section l.fn.kept l.kept l.index
