-- Decisions tested one by one.
use Rattle.linker_rewriting.proofs.Imports.{AllStillFit, AreApart, Decision, DecisionsAreMade, IsEndAfter, IsUnmade, Kept, List, None, StillFits, arith, below_more, bound_at, decision_at, end_at, end_by, get_or, inl, inr, length, refl, relocation_in, start_at, start_by, subst, sym, ℕ, ◌+◌, ◌/◌, ◌<◌, ◌≡◌, ◌≤◌}
use Rattle.linker_rewriting.proofs.Deciding.{EndsAt, IsGrown, IsReached, apart_more, ends_more}
use Rattle.linker_rewriting.specs.declared.decisions.DecisionError.TheVariants.{TooShort, Changed, Overlaps}

pub record AreChecked (bytes section : List ℕ) (decisions : List Decision) (numbers : List ℕ) (end k : ℕ) : Type 0 where
  pub fit : AllStillFit bytes section decisions numbers k
  pub apart : AreApart bytes decisions k
  pub ends : EndsAt start_by end_by bytes decisions end k

fit_more : (bytes section : List ℕ) (decisions : List Decision) (numbers : List ℕ) (k : ℕ) (d : Decision)
    → AllStillFit bytes section decisions numbers k → decision_at decisions k ≡ d
    → StillFits d (get_or numbers k 0) section (relocation_in bytes k).offset
    → AllStillFit bytes section decisions numbers (k + 1)
fit_more bytes section decisions numbers k d before here fits =
    below_more (λ n. StillFits (decision_at decisions n) (get_or numbers n 0) section (relocation_in bytes n).offset) k before
    (subst (λ x. StillFits x (get_or numbers k 0) section (relocation_in bytes k).offset) (sym here) fits)

pub more_checked : (bytes section : List ℕ) (decisions : List Decision) (numbers : List ℕ) (end grown k : ℕ) (d : Decision)
    → AreChecked bytes section decisions numbers end k → decision_at decisions k ≡ d
    → StillFits d (get_or numbers k 0) section (relocation_in bytes k).offset
    → IsGrown start_by end_by bytes k d end grown
    → AreChecked bytes section decisions numbers grown (k + 1)
more_checked bytes section decisions numbers end grown k d before here fits grow = record {
  fit = fit_more bytes section decisions numbers k d before.fit here fits;
  apart = apart_more start_by end_by bytes decisions decisions k end grown d (λ n less. refl) here before.ends before.apart grow;
  ends = ends_more start_by end_by bytes decisions decisions k end grown d (λ n less. refl) here before.ends grow;
}

pub kept_checked : (bytes section : List ℕ) (decisions : List Decision) (numbers : List ℕ) (end k : ℕ)
    → AreChecked bytes section decisions numbers end k → decision_at decisions k ≡ Kept
    → AreChecked bytes section decisions numbers end (k + 1)
kept_checked bytes section decisions numbers end k before here =
    more_checked bytes section decisions numbers end end k Kept before here (tt, tt, tt) (inl (omega arith, refl))

-- one that begins below the end of those before it
not_apart : (bytes : List ℕ) (decisions : List Decision) (end k : ℕ)
    → IsReached start_by end_by bytes decisions end k
    → IsEndAfter (start_at bytes decisions k) (end_at bytes decisions k) end None
    → ¬ AreApart bytes decisions (k + 1)
not_apart bytes decisions end k (inl none) following apart =
    let e = following.1 in absurd (omega (arith, e, none))
not_apart bytes decisions end k (inr one) following apart =
    let least = apart (one.0) k (one.1) (omega arith) (one.2) (following.0) in
    let e = following.1 in let reach = one.3 in absurd (omega (arith, e, reach, least))

pub overlaps : (bytes section : List ℕ) (decisions : List Decision) (numbers : List ℕ) (end k : ℕ) (d : Decision)
    → AreChecked bytes section decisions numbers end k → decision_at decisions k ≡ d
    → StillFits d (get_or numbers k 0) section (relocation_in bytes k).offset
    → IsEndAfter (bound_at start_by bytes k d) (bound_at end_by bytes k d) end None
    → k < length bytes / 24 → length bytes / 24 ≤ length decisions
    → IsUnmade bytes section decisions numbers (Overlaps k)
overlaps bytes section decisions numbers end k d before here fits following less enough = (
  less,
  enough,
  fit_more bytes section decisions numbers k d before.fit here fits,
  before.apart,
  not_apart bytes decisions end k before.ends.reached
      (subst (λ x. IsEndAfter (bound_at start_by bytes k x) (bound_at end_by bytes k x) end None) (sym here) following),
)

pub decisions_are_made : DecisionsAreMade
decisions_are_made bytes section decisions numbers enough fit apart TooShort short =
    absurd (omega (arith, enough, short))
decisions_are_made bytes section decisions numbers enough fit apart (Changed n) wrong =
    absurd (wrong.4 (fit n (wrong.0)))
decisions_are_made bytes section decisions numbers enough fit apart (Overlaps n) wrong =
    let less = wrong.0 in
    absurd (wrong.4 (λ i j ij below. apart i j ij (omega (arith, less, below))))
