use Rattle.linker_rewriting.proofs.Imports.{All, IsMadeBy, IsWrittenDecision, by_index, decision_in, drop, is_note, length, map, take, ◌/◌, ◌≡◌}
use Rattle.linker_rewriting.proofs.Deciding.{AreDecidedTo}
use Rattle.linker_rewriting.proofs.rules.decide_by.Given as goal

abbrev pub invariant-loop-index : goal.invariant-loop-index
invariant-loop-index g l = record {
  decided : AreDecidedTo (IsMadeBy (by_index l.relocations (g.R.Rule.decides l.rule l.relocations l.section)) g.R.Rule.start g.R.Rule.end l.relocations l.section) (λ n d. g.R.Rule.is_noted l.rule l.relocations l.section n (is_note d)) g.R.Rule.start g.R.Rule.end l.relocations (map decision_in l.decisions) l.end l.is_taken (length l.relocations / 24) l.index;
  form : All IsWrittenDecision (take l.index l.decisions);
  others : drop (length l.relocations / 24) l.decisions ≡ drop (length l.relocations / 24) l.fn.decisions;
}
