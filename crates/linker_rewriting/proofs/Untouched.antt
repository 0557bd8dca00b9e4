-- Sections that stay as they are in a phase, and runs of relocations that keep no group.
use Rattle.linker_rewriting.proofs.Imports.{AreDecidedIn, Decision, IsDecidedAfter, IsSurveyedIn, KeepsNone, List, NotRelaxable, RelaxContext, UnrelaxableGroups, [], ap, arith, decision_at, deleted_of, deletion_by, deletions_by, false, is_taken, refl, relocation_in, subst, suc, sym, takes_next, zero, ℕ, ◌++◌, ◌+◌, ◌-◌, ◌<◌, ◌∙◌, ◌≡◌, ◌≤◌}
use Rattle.linker_rewriting.proofs.Surveying.{one_left}
use Rattle.linker_rewriting.specs.Inner.Passed.{AreKept}
use Rattle.linker_rewriting.specs.Inner.RelocationTypes.{AreUnlisted}

-- ---- what is made

pub none_deleted : (bytes : List ℕ) (decisions : List Decision) (limit : ℕ)
    → AreKept decisions limit → deletions_by bytes decisions limit ≡ []
none_deleted bytes decisions zero are = refl
none_deleted bytes decisions (suc n) are =
    ap (λ d. deletions_by bytes decisions n ++ deletion_by (relocation_in bytes n).offset (deleted_of d))
    (are n (omega arith))
    ∙ ap (λ l. l ++ []) (none_deleted bytes decisions n (λ m less. are m (omega (arith, less))))

-- ---- what is decided

untaken : (decisions : List Decision) (limit n : ℕ) → AreKept decisions limit → n < limit
    → is_taken decisions n ≡ false
untaken decisions limit zero are less = refl
untaken decisions limit (suc n) are less = ap takes_next (are n (omega (arith, less)))

pub unlisted_decided : (s : RelaxContext) (kept : List UnrelaxableGroups) (bytes section : List ℕ)
    (decisions : List Decision) (limit : ℕ) → AreUnlisted s.architecture s.phase bytes limit
    → AreKept decisions limit → AreDecidedIn s kept bytes section decisions limit
unlisted_decided s kept bytes section decisions limit unlisted are n less =
    subst (λ t. IsDecidedAfter s kept bytes section n t (decision_at decisions n))
    (sym (untaken decisions limit n are less))
    (subst (IsDecidedAfter s kept bytes section n false) (sym (are n less)) (NotRelaxable, unlisted n less, refl))

-- ---- surveys

module _ (s : RelaxContext) (bytes section : List ℕ) (before mid : List UnrelaxableGroups) where
  left_so_far : (from count : ℕ) → IsSurveyedIn s bytes section before mid from
      → ((n : ℕ) → from ≤ n → n < from + count
      → KeepsNone s.architecture s.phase s.symbols (relocation_in bytes n))
      → IsSurveyedIn s bytes section before mid (from + count)
  left_so_far from zero surveyed none =
      let e : from ≡ from + 0 = omega arith in subst (IsSurveyedIn s bytes section before mid) e surveyed
  left_so_far from (suc count) surveyed none =
      let e : from + count + 1 ≡ from + suc count = omega arith in
      subst (IsSurveyedIn s bytes section before mid) e
      (one_left s bytes section before mid (from + count)
      (left_so_far from count surveyed (λ n le less. none n le (omega (arith, less))))
      (none (from + count) (omega arith) (omega arith)))

  -- what is surveyed up to an index is so up to a later one, where those between keep none
  pub left_between : (from to : ℕ) → from ≤ to → IsSurveyedIn s bytes section before mid from
      → ((n : ℕ) → from ≤ n → n < to → KeepsNone s.architecture s.phase s.symbols (relocation_in bytes n))
      → IsSurveyedIn s bytes section before mid to
  left_between from to le surveyed none =
      let e : from + (to - from) ≡ to = omega (arith, le) in
      subst (IsSurveyedIn s bytes section before mid) e
      (left_so_far from (to - from) surveyed (λ n from_n less. none n from_n (omega (arith, less, le))))
