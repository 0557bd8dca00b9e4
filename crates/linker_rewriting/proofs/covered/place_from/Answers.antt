use Rattle.linker_rewriting.proofs.Imports.{AreAbove, IsWindow, ap, arith, below_more, decision_in, end_at, length, map, start_at, subst, sym, ℕ, ◌/◌, ◌<◌, ◌∙◌, ◌≢◌, ◌≤◌}
use Rattle.linker_rewriting.proofs.Places.{above_window, below_window, no_more, no_window}
use Rattle.linker_rewriting.proofs.covered.place_from.Goals as goal

pub loop-at-preserved-in-Kept : goal.loop-at-preserved-in-Kept
loop-at-preserved-in-Kept c =
    let a = c.args in
    let k = c.loop-at.at in
    let bytes = a.windows.now.relocations.now in
    let ds = map decision_in a.windows.now.decisions.now in
    let none : IsWindow bytes ds k → ⊥ = no_window bytes ds k (sym c.decision_in.ensures ∙ c.in-Kept.is) in
    record {
      below = below_more (λ n. IsWindow bytes ds n → end_at bytes ds n ≤ c.loop-at.below) k
          c.loop-at.invariant.below (λ some. absurd (none some));
      passed = below_more (λ n. n ≢ a.index → IsWindow bytes ds n → end_at bytes ds n ≤ a.offset) k
          c.loop-at.invariant.passed (λ _ some. absurd (none some));
    }

no_bytes : (start end : ℕ) → end ≤ start → start < end → ⊥
no_bytes start end none some = omega arith

pub loop-at-preserved-then-end-start : goal.loop-at-preserved-then-end-start
loop-at-preserved-then-end-start c =
    let a = c.args in
    let k = c.loop-at.at in
    let bytes = a.windows.now.relocations.now in
    let ds = map decision_in a.windows.now.decisions.now in
    let none : IsWindow bytes ds k → ⊥ =
    no_bytes (start_at bytes ds k) (end_at bytes ds k) (subst (λ x. x.1 ≤ x.0) c.span_at-start.ensures c.if-end-start.true) in
    record {
      below = below_more (λ n. IsWindow bytes ds n → end_at bytes ds n ≤ c.loop-at.below) k
          c.loop-at.invariant.below (λ some. absurd (none some));
      passed = below_more (λ n. n ≢ a.index → IsWindow bytes ds n → end_at bytes ds n ≤ a.offset) k
          c.loop-at.invariant.passed (λ _ some. absurd (none some));
    }

pub loop-at-preserved-then-at-index : goal.loop-at-preserved-then-at-index
loop-at-preserved-then-at-index c =
    let a = c.args in
    let k = c.loop-at.at in
    let bytes = a.windows.now.relocations.now in
    let ds = map decision_in a.windows.now.decisions.now in
    let less : k < length bytes / 24 =
    (let t = c.loop-at-test.true in let e = c.relocations_len-len.ensures in omega (arith, t, e)) in
    record {
      below = below_window bytes ds (length bytes / 24) k (c.span_at-start.result.1) c.requires.searchable.apart less
          (subst (λ x. x.0 < x.1) c.span_at-start.ensures c.if-end-start.false)
          (subst (λ x. end_at bytes ds k ≤ x.1) (sym c.span_at-start.ensures) (no_more (end_at bytes ds k)));
      passed = below_more (λ n. n ≢ a.index → IsWindow bytes ds n → end_at bytes ds n ≤ a.offset) k
          c.loop-at.invariant.passed (λ other _. absurd (other c.if-at-index.true));
    }

pub returns-then-offset-end : goal.returns-then-offset-end
returns-then-offset-end c =
    let a = c.args in
    let k = c.loop-at.at in
    let bytes = a.windows.now.relocations.now in
    let ds = map decision_in a.windows.now.decisions.now in
    let some : IsWindow bytes ds k =
    subst (λ x. x.0 < x.1) c.span_at-start.ensures c.if-end-start.false in
    record {
      is_place = record {
        within = let t = c.loop-at-test.true in let e = c.relocations_len-len.ensures in omega (arith, t, e);
        below = c.loop-at.invariant.below;
        above = subst (λ s. AreAbove bytes ds (length bytes / 24) k s) (sym (ap (λ x. x.0) c.span_at-start.ensures))
            (above_window bytes ds (length bytes / 24) k c.requires.searchable.apart some);
      };
      passed = c.loop-at.invariant.passed;
      writes = λ _. some;
      other = λ _. c.if-at-index.false;
      ends = λ _. subst (λ x. a.offset < x.1) c.span_at-start.ensures c.if-offset-end.true;
      begins = λ _. ap (λ x. x.0) c.span_at-start.ensures;
    }

pub loop-at-preserved : goal.loop-at-preserved
loop-at-preserved c =
    let a = c.args in
    let k = c.loop-at.at in
    let bytes = a.windows.now.relocations.now in
    let ds = map decision_in a.windows.now.decisions.now in
    let less : k < length bytes / 24 =
    (let t = c.loop-at-test.true in let e = c.relocations_len-len.ensures in omega (arith, t, e)) in
    record {
      below = below_window bytes ds (length bytes / 24) k (c.span_at-start.result.1) c.requires.searchable.apart less
          (subst (λ x. x.0 < x.1) c.span_at-start.ensures c.if-end-start.false)
          (subst (λ x. end_at bytes ds k ≤ x.1) (sym c.span_at-start.ensures) (no_more (end_at bytes ds k)));
      passed = below_more (λ n. n ≢ a.index → IsWindow bytes ds n → end_at bytes ds n ≤ a.offset) k
          c.loop-at.invariant.passed
          (λ _ _. subst (λ x. x.1 ≤ a.offset) c.span_at-start.ensures c.if-offset-end.false);
    }

pub returns : goal.returns
returns c =
    let t = c.loop-at-test.false in
    let e = c.relocations_len-len.ensures in
    record {
      is_place = record {
        within = omega (arith, e);
        below = λ n less. c.loop-at.invariant.below n (omega (arith, t, less));
        above = λ n from less. absurd (omega (arith, e, from, less));
      };
      passed = λ n less. c.loop-at.invariant.passed n (omega (arith, t, less));
      writes = λ less. absurd (omega (arith, e, less));
      other = λ less. absurd (omega (arith, e, less));
      ends = λ less. absurd (omega (arith, e, less));
      begins = λ less. absurd (omega (arith, e, less));
    }
