use Rattle.linker_rewriting.proofs.Imports.{AreSymbolsSurveyed, context_of}
use Rattle.linker_rewriting.proofs.global_pointer.survey_global_pointer.Given as goal

abbrev pub invariant-loop-index : goal.invariant-loop-index
invariant-loop-index l =
    AreSymbolsSurveyed (context_of l.fn.context) l.gp
    l.relocations l.section l.fn.kept l.kept l.index
