use Rattle.linker_rewriting.proofs.Imports.{decision_in, drop, map, pairs_in, ◌≡◌}
use Rattle.linker_rewriting.proofs.Listing.{AreListed}
use Rattle.linker_rewriting.proofs.sections.list_deletions.Given as goal

abbrev pub invariant-loop-index : goal.invariant-loop-index
invariant-loop-index l = record {
  listed : AreListed l.relocations (map decision_in l.decisions) (pairs_in l.initial.deleted) (pairs_in l.deleted) l.len l.index;
  left : drop l.len l.deleted ≡ drop l.len l.initial.deleted;
}
