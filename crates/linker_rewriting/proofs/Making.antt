-- What has been made of a section and of its relocations, one decision after the other.
use Rattle.linker_rewriting.proofs.Imports.{AllCanBeMade, AreApart, AreDone, AreRelocationsAfter, CanBeMade, CanRewrite, Consumed, Decision, DeletedBytes, IsDone, IsMade, IsRewritable, IsTrue, Kept, List, None, Option, OthersStay, Rela, Rewrite, Rewritten, RewrittenWithSymbol, Some, ap, arith, below_more, decision_at, deletes_within, drop, end_at, inl, inr, length, nat_le, refl, relaxation_deleted, relaxation_rewrite, relocation_after, relocation_in, rewrite_window, rewritten, section_after, start_at, subst, sym, take, true, window_of, window_of_rewrite, written_end_at, ℕ, ◌+◌, ◌-◌, ◌<◌, ◌∙◌, ◌≡◌, ◌≢◌, ◌≤◌}
use Rattle.linker_section.proofs.Windows.{IsReplaced, in_window, IsStep, step_of, step_below, step_above, step_outside, zero_or_more}

-- ---- one rewrite

abbrev start_of : Option Rewrite → ℕ → ℕ
start_of w o = o - (window_of_rewrite w).back

-- the window is as it was
abbrev IsAhead : Option Rewrite → ℕ → List ℕ → List ℕ → Type 0
IsAhead w o first before =
    0 < (window_of_rewrite w).len → drop (start_of w o) before ≡ drop (start_of w o) first

same_window : (r : Rewrite) (o : ℕ) (first before : List ℕ) → IsAhead (Some r) o first before
    → rewrite_window r before o ≡ rewrite_window r first o
same_window r o first before ahead =
    elim (zero_or_more r.len) [
      | inl none ↦ ap (λ n. take n (drop (o - r.back) before)) none
          ∙ sym (ap (λ n. take n (drop (o - r.back) first)) none)
      | inr some ↦ ap (take r.len) (ahead some)
    ]

replaced : (r : Rewrite) (o : ℕ) (first before after : List ℕ) → IsRewritable r first o
    → length before ≡ length first → length after ≡ length before
    → after ≡ rewritten (Some r) before o
    → IsReplaced (o - r.back) r.len (r.bytes (rewrite_window r before o)) before after
replaced r o first before after can len same made =
    record { inside = let e = can.ends in omega arith; same_len = same; made = made }

step_by : (w : Option Rewrite) (o : ℕ) (first before after : List ℕ) → CanRewrite w first o
    → length before ≡ length first → length after ≡ length before → after ≡ rewritten w before o
    → IsStep (start_of w o) (window_of_rewrite w).len before after
step_by None o first before after can len same made = inl made
step_by (Some r) o first before after can len same made =
    step_of (replaced r o first before after can len same made)

made_by : (w : Option Rewrite) (o : ℕ) (first before after : List ℕ) → CanRewrite w first o
    → length before ≡ length first → length after ≡ length before → after ≡ rewritten w before o
    → IsAhead w o first before → IsMade w o first after
made_by None o first before after can len same made ahead = tt
made_by (Some r) o first before after can len same made ahead =
    in_window (replaced r o first before after can len same made)
    ∙ ap r.bytes (same_window r o first before ahead)

can_by : (w : Option Rewrite) (o : ℕ) (first before : List ℕ) → CanRewrite w first o
    → length before ≡ length first → IsAhead w o first before → CanRewrite w before o
can_by None o first before can len ahead = tt
can_by (Some r) o first before can len ahead =
    record {
      starts = can.starts;
      ends = let e = can.ends in omega arith;
      admitted = subst (λ x. IsTrue (r.admits x)) (sym (same_window r o first before ahead))
          can.admitted;
    }

stays_by : (w : Option Rewrite) (o : ℕ) (first before after : List ℕ) → IsMade w o first before
    → take (window_of_rewrite w).len (drop (start_of w o) after)
    ≡ take (window_of_rewrite w).len (drop (start_of w o) before)
    → IsMade w o first after
stays_by None o first before after made same = tt
stays_by (Some r) o first before after made same = same ∙ made

-- ---- one decision

same_deletes : (deleted : Option DeletedBytes) (o : ℕ) (first before : List ℕ)
    → length before ≡ length first → deletes_within first o deleted ≡ true
    → deletes_within before o deleted ≡ true
same_deletes None o first before len is = is
same_deletes (Some deleted) o first before len is =
    subst (λ n. nat_le (o + (deleted.start + deleted.count)) n ≡ true) (sym len) is

abbrev start_in : Decision → ℕ → ℕ
start_in d o = o - (window_of d).back

pub can_make : (d : Decision) (o : ℕ) (first before : List ℕ) → CanBeMade d first o
    → length before ≡ length first
    → (0 < (window_of d).len → drop (start_in d o) before ≡ drop (start_in d o) first)
    → CanBeMade d before o
can_make Kept o first before can len ahead = tt
can_make Consumed o first before can len ahead = tt
can_make (Rewritten chosen) o first before can len ahead =
    (can_by (relaxation_rewrite chosen.kind) o first before (can.0) len ahead, same_deletes (relaxation_deleted chosen.kind) o first before len (can.1))
can_make (RewrittenWithSymbol chosen subject) o first before can len ahead =
    (can_by (relaxation_rewrite chosen.kind) o first before (can.0) len ahead, same_deletes (relaxation_deleted chosen.kind) o first before len (can.1))

step_made : (d : Decision) (o : ℕ) (first before after : List ℕ) → CanBeMade d first o
    → length before ≡ length first → length after ≡ length before
    → after ≡ section_after d o before
    → IsStep (start_in d o) (window_of d).len before after
step_made Kept o first before after can len same made = inl made
step_made Consumed o first before after can len same made = inl made
step_made (Rewritten chosen) o first before after can len same made =
    step_by (relaxation_rewrite chosen.kind) o first before after (can.0) len same made
step_made (RewrittenWithSymbol chosen subject) o first before after can len same made =
    step_by (relaxation_rewrite chosen.kind) o first before after (can.0) len same made

done_made : (d : Decision) (o : ℕ) (first before after : List ℕ) → CanBeMade d first o
    → length before ≡ length first → length after ≡ length before
    → after ≡ section_after d o before
    → (0 < (window_of d).len → drop (start_in d o) before ≡ drop (start_in d o) first)
    → IsDone d o first after
done_made Kept o first before after can len same made ahead = tt
done_made Consumed o first before after can len same made ahead = tt
done_made (Rewritten chosen) o first before after can len same made ahead =
    made_by (relaxation_rewrite chosen.kind) o first before after (can.0) len same made ahead
done_made (RewrittenWithSymbol chosen subject) o first before after can len same made ahead =
    made_by (relaxation_rewrite chosen.kind) o first before after (can.0) len same made ahead

done_stays : (d : Decision) (o : ℕ) (first before after : List ℕ) → IsDone d o first before
    → take (window_of d).len (drop (start_in d o) after)
    ≡ take (window_of d).len (drop (start_in d o) before)
    → IsDone d o first after
done_stays Kept o first before after done same = tt
done_stays Consumed o first before after done same = tt
done_stays (Rewritten chosen) o first before after done same =
    stays_by (relaxation_rewrite chosen.kind) o first before after done same
done_stays (RewrittenWithSymbol chosen subject) o first before after done same =
    stays_by (relaxation_rewrite chosen.kind) o first before after done same

-- ---- windows

abbrev len_at : List Decision → ℕ → ℕ
len_at decisions n = (window_of (decision_at decisions n)).len

abbrev pub AreWindowsApart : List ℕ → List Decision → ℕ → Type 0
AreWindowsApart bytes decisions limit =
    (i j : ℕ) → i < j → j < limit → 0 < len_at decisions i → 0 < len_at decisions j
    → written_end_at bytes decisions i ≤ start_at bytes decisions j

pub windows_apart : (bytes : List ℕ) (decisions : List Decision) (limit : ℕ)
    → AreApart bytes decisions limit → AreWindowsApart bytes decisions limit
windows_apart bytes decisions limit apart i j ij less some_i some_j =
    let a : start_at bytes decisions i < end_at bytes decisions i = omega arith in
    let b : start_at bytes decisions j < end_at bytes decisions j = omega arith in
    let c = apart i j ij less a b in
    omega arith

-- ---- all up to an index

pub record AreMade (decisions : List Decision) (entries entries_now section section_now : List ℕ)
    (limit k : ℕ) : Type 0 where
  pub changed : AreRelocationsAfter decisions entries entries_now k
  pub left : (n : ℕ) → k ≤ n → n < limit → relocation_in entries_now n ≡ relocation_in entries n
  pub done : AreDone entries decisions section section_now k
  pub ahead : (n : ℕ) → k ≤ n → n < limit → 0 < len_at decisions n
      → drop (start_at entries decisions n) section_now
      ≡ drop (start_at entries decisions n) section
  pub others : OthersStay entries decisions section section_now k
  pub same_len : length section_now ≡ length section
  pub same_entries_len : length entries_now ≡ length entries

pub more_made : (decisions : List Decision) (entries old new section before after : List ℕ)
    (limit k : ℕ) → AreMade decisions entries old section before limit k → k < limit
    → AllCanBeMade entries section decisions limit → AreWindowsApart entries decisions limit
    → after ≡ section_after (decision_at decisions k) (relocation_in entries k).offset before
    → length after ≡ length before
    → relocation_in new k ≡ relocation_after (decision_at decisions k) (relocation_in entries k)
    → ((n : ℕ) → n < limit → n ≢ k → relocation_in new n ≡ relocation_in old n)
    → length new ≡ length old
    → AreMade decisions entries new section after limit (k + 1)
more_made decisions entries old new section before after limit k made less can apart is same set others new_len =
    let d = decision_at decisions k in
    let o = (relocation_in entries k).offset in
    let s = start_at entries decisions k in
    let ahead = made.ahead k (omega arith) less in
    let step : IsStep s (len_at decisions k) before after =
    step_made d o section before after (can k less) made.same_len same is in
    record {
      changed = below_more (λ n. relocation_in new n ≡ relocation_after (decision_at decisions n) (relocation_in entries n)) k
          (λ n le. others n (omega arith) (λ e. absurd (omega (arith, e))) ∙ made.changed n le) set;
      left = λ n le lim. others n lim (λ e. absurd (omega (arith, e))) ∙ made.left n (omega arith) lim;
      done = below_more (λ n. IsDone (decision_at decisions n) (relocation_in entries n).offset section after) k
          (λ n le. done_stays (decision_at decisions n) (relocation_in entries n).offset section before after (made.done n le)
          (step_below s (len_at decisions k) before after (start_at entries decisions n) (len_at decisions n) step
          (λ some more. apart n k le less some more)))
          (done_made d o section before after (can k less) made.same_len same is ahead);
      ahead = λ n le lim some.
          step_above s (len_at decisions k) before after (start_at entries decisions n) step
          (λ more. apart k n (omega arith) lim more some)
          ∙ made.ahead n (omega arith) lim some;
      others = λ at outside.
          step_outside s (len_at decisions k) before after at step (outside k (omega arith))
          ∙ made.others at (λ n le. outside n (omega arith));
      same_len = same ∙ made.same_len;
      same_entries_len = new_len ∙ made.same_entries_len;
    }

-- the same, by what the code has
pub made_next : (decisions : List Decision) (entries old new section before after : List ℕ)
    (limit k : ℕ) (r r_new : Rela) → AreMade decisions entries old section before limit k → k < limit
    → AllCanBeMade entries section decisions limit → AreWindowsApart entries decisions limit
    → r ≡ relocation_in old k → after ≡ section_after (decision_at decisions k) r.offset before
    → length after ≡ length before
    → relocation_in new k ≡ r_new → r_new ≡ relocation_after (decision_at decisions k) r
    → ((n : ℕ) → n < limit → n ≢ k → relocation_in new n ≡ relocation_in old n)
    → length new ≡ length old
    → AreMade decisions entries new section after limit (k + 1)
made_next decisions entries old new section before after limit k r r_new made less can apart is_r is same set set_is others new_len =
    let there : r ≡ relocation_in entries k = is_r ∙ made.left k (omega arith) less in
    more_made decisions entries old new section before after limit k made less can apart
    (is ∙ ap (λ y. section_after (decision_at decisions k) y.offset before) there) same
    (set ∙ (set_is ∙ ap (relocation_after (decision_at decisions k)) there))
    others new_len

-- and where nothing is made
pub kept_next : (decisions : List Decision) (entries old section before : List ℕ) (limit k : ℕ)
    → AreMade decisions entries old section before limit k → k < limit
    → AllCanBeMade entries section decisions limit → AreWindowsApart entries decisions limit
    → decision_at decisions k ≡ Kept
    → AreMade decisions entries old section before limit (k + 1)
kept_next decisions entries old section before limit k made less can apart d =
    more_made decisions entries old old section before before limit k made less can apart
    (sym (ap (λ y. section_after y (relocation_in entries k).offset before) d)) refl
    (made.left k (omega arith) less
    ∙ sym (ap (λ y. relocation_after y (relocation_in entries k)) d))
    (λ n less_n ne. refl) refl

-- what is to be made can still be
pub can_next : (decisions : List Decision) (entries old section before : List ℕ) (limit k : ℕ)
    (r : Rela) → AreMade decisions entries old section before limit k → k < limit
    → AllCanBeMade entries section decisions limit → r ≡ relocation_in old k
    → CanBeMade (decision_at decisions k) before r.offset
can_next decisions entries old section before limit k r made less can is =
    let there : r ≡ relocation_in entries k = is ∙ made.left k (omega arith) less in
    subst (λ y. CanBeMade (decision_at decisions k) before y.offset) (sym there)
    (can_make (decision_at decisions k) (relocation_in entries k).offset section before (can k less)
    made.same_len (made.ahead k (omega arith) less))
