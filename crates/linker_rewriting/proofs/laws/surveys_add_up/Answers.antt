use Rattle.linker_rewriting.proofs.Noted.{notes_stay}
use Rattle.linker_rewriting.proofs.Order.{decisions_follow, surveys_commute}
use Rattle.linker_rewriting.proofs.laws.surveys_add_up.Goals as goal

pub returns : goal.returns
returns c = record {
  notes_stay = notes_stay;
  commute = surveys_commute;
  follow = decisions_follow;
}
