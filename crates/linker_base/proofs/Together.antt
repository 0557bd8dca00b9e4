-- A walk through two lists of deletions, the lower of both first.
use Rattle.linker_base.proofs.Imports.{All, All-push, AreValidTogether, Bool, DoNotOverlap, EndFits, IsLower, IsPermutation-append_comm, IsValid, List, [], arith, bool_byte, false, get_or, inl, inr, length, max, not, take, take_more, true, ℕ, ◌++◌, ◌+◌, ◌-◌, ◌<◌, ◌∷◌, ◌≡◌, ◌≤◌}
use Rattle.linker_base.proofs.Listed.{IsValid-push}
use Rattle.linker_base.proofs.Merging.{disjoint_joined, disjoint_across}
use Rattle.linker_base.proofs.Unions.{disjoint_permutation, disjoint_from_valid}

-- all lie below an offset
abbrev pub LieBelow : ℕ → List (ℕ × ℕ) → Type 0
LieBelow next ds = All (λ d. (d.0 < next) × (d.0 + d.1 ≤ next)) ds

-- a valid list of them
pub record IsBelow (next : ℕ) (ds : List (ℕ × ℕ)) : Type 0 where
  pub valid : IsValid ds
  pub below : LieBelow next ds

rise : (next after : ℕ) (ds : List (ℕ × ℕ)) → next ≤ after → LieBelow next ds → LieBelow after ds
rise next after ds le below k e low = let here = below k e low in (omega (arith, here.0), omega (arith, here.1))

-- one more that fits, from that offset on
pub below_push : (ds : List (ℕ × ℕ)) (d : ℕ × ℕ) (next after : ℕ) → IsBelow next ds → next ≤ d.0 → EndFits d → after ≡ d.0 + max d.1 1 → IsBelow after (ds ++ d ∷ [])
below_push ds d next after first begins fits is = record {
  valid = IsValid-push ds d first.valid fits (λ e some. let last = first.below (length ds - 1) e (omega arith) in (omega (arith, last.0, begins), omega (arith, last.1, begins)));
  below = All-push (λ e. (e.0 < after) × (e.0 + e.1 ≤ after)) ds d (rise next after ds (omega (arith, begins, is)) first.below) (omega (arith, is), omega (arith, is));
}

-- what was passed of both lists is valid and lies below `next`, and what comes next can follow
pub record AreWalked (ds ps : List (ℕ × ℕ)) (i j next : ℕ) : Type 0 where
  pub valid : AreValidTogether (take i ds) (take j ps)
  pub old_below : LieBelow next (take i ds)
  pub added_below : LieBelow next (take j ps)
  pub old_follows : AreValidTogether ds ps → i < length ds → next ≤ (get_or ds i (0, 0)).0
  pub added_follows : AreValidTogether ds ps → j < length ps → next ≤ (get_or ps j (0, 0)).0

together_swapped : (ds ps : List (ℕ × ℕ)) → AreValidTogether ps ds → AreValidTogether ds ps
together_swapped ds ps valid = record {
  old = valid.added;
  added = valid.old;
  disjoint = disjoint_permutation (ps ++ ds) (ds ++ ps) (IsPermutation-append_comm ps ds) valid.disjoint;
}

walked_swapped : (ds ps : List (ℕ × ℕ)) (i j next : ℕ) → AreWalked ds ps i j next → AreWalked ps ds j i next
walked_swapped ds ps i j next walked = record {
  valid = together_swapped (take j ps) (take i ds) walked.valid;
  old_below = walked.added_below;
  added_below = walked.old_below;
  old_follows = λ valid. walked.added_follows (together_swapped ds ps valid);
  added_follows = λ valid. walked.old_follows (together_swapped ds ps valid);
}

-- one more of the first list
walked_more : (ds ps : List (ℕ × ℕ)) (i j next after : ℕ) → AreWalked ds ps i j next → i < length ds → (j < length ps → (get_or ds i (0, 0)).0 ≤ (get_or ps j (0, 0)).0)
    → next ≤ (get_or ds i (0, 0)).0 → EndFits (get_or ds i (0, 0)) → after ≡ (get_or ds i (0, 0)).0 + max (get_or ds i (0, 0)).1 1 → AreWalked ds ps (i + 1) j after
walked_more ds ps i j next after walked within first begins fits is =
    let d = get_or ds i (0, 0) in
    let more = take_more ds i (0, 0) within in
    let old : IsBelow after (take (i + 1) ds) = rw more (below_push (take i ds) d next after (record { valid = walked.valid.old; below = walked.old_below }) begins fits is) in
    record {
      valid = record {
        old = old.valid;
        added = walked.valid.added;
        disjoint = disjoint_joined (take (i + 1) ds) (take j ps) (disjoint_from_valid (take (i + 1) ds) old.valid) (disjoint_from_valid (take j ps) walked.valid.added) (λ k e low. rw more (All-push (λ x. DoNotOverlap x (get_or (take j ps) k e)) (take i ds) d
            (disjoint_across (take i ds) (take j ps) walked.valid.disjoint k e low)
            (let below = walked.added_below k e low in inr (omega (arith, below.0, begins), omega (arith, below.1, begins)))));
      };
      old_below = old.below;
      added_below = rise next after (take j ps) (omega (arith, begins, is)) walked.added_below;
      old_follows = λ valid some. let step = valid.old.ascending i (i + 1) (0, 0) (omega arith) some in omega (arith, step.0, step.1, is);
      added_follows = λ valid some. elim (disjoint_across ds ps valid.disjoint j (0, 0) some i (0, 0) within) [
        | inl before ↦ omega (arith, before.0, before.1, is)
        | inr following ↦ absurd (omega (arith, following.0, first some))
      ];
    }

-- one more of either list
pub walked_step : (ds ps : List (ℕ × ℕ)) (i j next after : ℕ) (d : ℕ × ℕ) (is_old : Bool) (p t : ℕ) → AreWalked ds ps i j next → IsLower ds ps i j d is_old
    → next ≤ d.0 → EndFits d → after ≡ d.0 + max d.1 1 → p ≡ i + bool_byte is_old → t ≡ j + bool_byte (not is_old) → AreWalked ds ps p t after
walked_step ds ps i j next after d true p t walked (within, here, first) begins fits is passed taken =
    let same : t ≡ j = omega (arith, taken) in
    rw (passed, same) (walked_more ds ps i j next after walked within (rw here at first) (rw here at begins) (rw here at fits) (rw here at is))
walked_step ds ps i j next after d false p t walked (within, here, first) begins fits is passed taken =
    let same : p ≡ i = omega (arith, passed) in
    rw (same, taken) (walked_swapped ps ds (j + 1) i after (walked_more ps ds j i next after (walked_swapped ds ps i j next walked) within (rw here at first) (rw here at begins) (rw here at fits) (rw here at is)))
