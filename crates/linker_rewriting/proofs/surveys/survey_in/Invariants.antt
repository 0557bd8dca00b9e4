use Rattle.linker_rewriting.proofs.Imports.{IsSurveyedIn, context_of, length, ◌-◌, ◌/◌, ◌≤◌}
use Rattle.linker_rewriting.proofs.surveys.survey_in.Given as goal

abbrev pub invariant-loop-index : goal.invariant-loop-index
invariant-loop-index l = record {
  within : l.index ≤ length l.relocations / 24;
  surveyed : IsSurveyedIn (context_of l.context) l.relocations
      l.section l.fn.kept l.kept l.index;
}

abbrev pub decreases-loop-index : goal.decreases-loop-index
decreases-loop-index l = length l.relocations / 24 - l.index
