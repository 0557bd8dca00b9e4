-- Deltas that list valid deletions, and the first faulty one of deletions that are not valid or
-- overlap.
use Rattle.std.specs.Prelude.{ℕ, ◌+◌, ◌++◌, ◌<◌, List, length, map, take}
use Rattle.linker_base.specs.declared.relaxation.RelaxDelta.{RelaxDelta}
use Rattle.linker_base.specs.Deletions.{AreDisjoint, IsValid}
use Rattle.linker_base.specs.Deltas.{deletion_of, RecordsDeletions}

-- the deltas list a valid list of deletions
pub record AreValidDeltas (deltas : List RelaxDelta) : Type 0 where
  pub valid : IsValid (map deletion_of deltas)
  pub listing : RecordsDeletions (map deletion_of deltas) deltas

-- both lists are valid, and no deletion of one overlaps one of the other
pub record AreValidTogether (deletions additional : List (ℕ × ℕ)) : Type 0 where
  pub old : IsValid deletions
  pub added : IsValid additional
  pub disjoint : AreDisjoint (deletions ++ additional)

-- the first of the deletions that is not valid after those before it
pub record IsFirstInvalid (deletions : List (ℕ × ℕ)) (at : ℕ) : Type 0 where
  pub within : at < length deletions
  pub before : IsValid (take at deletions)
  pub here : ¬ (IsValid (take (at + 1) deletions))

-- the first additional deletion that overlaps an old or an earlier one, or whose end does not fit
pub record IsFirstOverlapping (deletions additional : List (ℕ × ℕ)) (at : ℕ) : Type 0 where
  pub within : at < length additional
  pub before : AreDisjoint (deletions ++ take at additional)
  pub here : ¬ (AreDisjoint (deletions ++ take (at + 1) additional))
