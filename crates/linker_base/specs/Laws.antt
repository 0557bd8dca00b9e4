-- Laws of deletions, over the definitions alone.
use Rattle.std.specs.Prelude.{◌≡◌, ℕ, ◌-◌, ◌^◌, ◌<◌, ◌≤◌, List, [], ◌∷◌, ◌++◌, map, ⊤, IsTrue}
use Rattle.std.specs.Prelude.{IsFalse, All, Contains, ◌≢◌}
use Rattle.std.specs.FinMap as finite
use Rattle.linker_base.specs.Sections.{Sections}
use Rattle.linker_base.specs.Walk.{Walk, walk_to, CanTranslate, IsTranslation, AreAhead}
use Rattle.linker_base.specs.Deletions.{AreDisjoint, IsValid, IsSortedUnion, is_kept}
use Rattle.linker_base.specs.Deletions.{IsInsideDeletion, rank, IsSelected, HasInput}

-- the input offset of y isn't strictly inside a deletion, and its output offset is y
abbrev pub InAfterOutReturns : Type 0
InAfterOutReturns =
    (deletions : List (ℕ × ℕ)) (y p : ℕ) → IsSelected deletions y p
    → (¬ (IsInsideDeletion deletions p)) × (rank deletions p ≡ y)

-- p is the first kept position at or after i
pub record IsFirstKept (deletions : List (ℕ × ℕ)) (i p : ℕ) : Type 0 where
  pub kept : IsTrue (is_kept deletions p)
  pub at_or_after : i ≤ p
  pub none_between : (q : ℕ) → i ≤ q → q < p → IsFalse (is_kept deletions q)

-- the input offset of i's output offset is the first kept position at or after i
abbrev pub OutAfterInIsFirstKept : Type 0
OutAfterInIsFirstKept =
    (deletions : List (ℕ × ℕ)) (i p : ℕ) → IsSelected deletions (rank deletions i) p
    → IsFirstKept deletions i p

-- that of a kept i is i, and it is there
abbrev pub OutAfterInReturnsKept : Type 0
OutAfterInReturnsKept =
    (deletions : List (ℕ × ℕ)) (i : ℕ) → i < 2 ^ 64 → IsTrue (is_kept deletions i)
    → HasInput deletions (rank deletions i)
    × ((p : ℕ) → IsSelected deletions (rank deletions i) p → p ≡ i)

-- a later offset has no lower rank
abbrev pub RankNeverDecreases : Type 0
RankNeverDecreases =
    (deletions : List (ℕ × ℕ)) (a b : ℕ) → a ≤ b → rank deletions a ≤ rank deletions b

-- `second` may be merged before `first`, and both at once, and the last list is `both` then too
pub record MergesInAnyOrder (old first second both : List (ℕ × ℕ)) : Type 0 where
  pub second_at_first : AreDisjoint (old ++ second)
  pub then_first : (two : List (ℕ × ℕ)) → IsSortedUnion (old ++ second) two
      → AreDisjoint (two ++ first)
  pub same : (two swapped : List (ℕ × ℕ)) → IsSortedUnion (old ++ second) two
      → IsSortedUnion (two ++ first) swapped → swapped ≡ both
  pub at_once : AreDisjoint (old ++ (first ++ second))
  pub same_at_once : (sorted : List (ℕ × ℕ)) → IsSortedUnion (old ++ (first ++ second)) sorted
      → sorted ≡ both

-- where `first` is merged and then `second`, the order doesn't matter
abbrev pub MergeOrderIsFree : Type 0
MergeOrderIsFree =
    (old first second one both : List (ℕ × ℕ)) → IsSortedUnion (old ++ first) one
    → IsSortedUnion (one ++ second) both → MergesInAnyOrder old first second both

-- a cursor can translate each query, one after the other
abbrev pub CanTranslateEach : Walk → List ℕ → Type 0
CanTranslateEach walk [] = ⊤
CanTranslateEach walk (i ∷ queries) =
    CanTranslate walk i × CanTranslateEach (walk_to walk i) queries

-- what it gives for each
abbrev pub AreTranslations : Walk → List ℕ → List ℕ → Type 0
AreTranslations walk [] outputs = outputs ≡ []
AreTranslations walk (i ∷ queries) [] = ⊥
AreTranslations walk (i ∷ queries) (output ∷ outputs) =
    IsTranslation walk i output × AreTranslations (walk_to walk i) queries outputs

-- a cursor gives the output offsets of queries that don't decrease and begin ahead of it
abbrev pub CursorGivesRanks : Type 0
CursorGivesRanks =
    (walk : Walk) (queries : List ℕ) → IsValid walk.deletions → AreAhead walk queries
    → CanTranslateEach walk queries
    × ((outputs : List ℕ) → AreTranslations walk queries outputs
    → outputs ≡ map (rank walk.deletions) queries)

-- where `more` has all of `deletions`, two offsets are no farther apart after it; a rank never
-- decreases, so no difference is cut off at 0
abbrev pub MergesShortenDistances : Type 0
MergesShortenDistances =
    (deletions more : List (ℕ × ℕ)) (a b : ℕ) → All (Contains more) deletions → a ≤ b
    → rank more b - rank more a ≤ rank deletions b - rank deletions a

-- where a section has other deletions, those of all others are the same
abbrev pub OtherSectionsStay : Type 0
OtherSectionsStay =
    (sections : Sections) (index other : ℕ) (left : List (ℕ × ℕ)) → other ≢ index
    → finite.get (finite.insert sections index left) other ≡ finite.get sections other
