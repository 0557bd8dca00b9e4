use Rattle.linker_runs.proofs.Imports.{List, ap, arith, below_more, cases_order, choice_of, false, get_or, get_or-set_other, get_or-set_same, is_in_reach, length, refl, set, subst, sum, sum_by-set, sym, true, ℕ, ⊎_elim, ◌+◌, ◌<◌, ◌∙◌, ◌≡◌, ◌≢◌, ◌≤◌, ◌⊎◌}
use Rattle.linker_runs.proofs.Layouts.{lengthened_in, lengthened_out}
use Rattle.linker_runs.proofs.relaxation.passes.lengthen.Goals as goal
use Rattle.linker_runs.proofs.relaxation.passes.lengthen.Goals.{then-not-is_in_reach, else-not-is_in_reach}

other_here : (xs ys : List ℕ) (i y k : ℕ) → ys ≡ set xs i y → k ≢ i → get_or ys k 0 ≡ get_or xs k 0
other_here xs ys i y k e ne = rw e (get_or-set_other xs i k y 0 ne)

same_here : (xs ys : List ℕ) (i y : ℕ) → ys ≡ set xs i y → i < length xs → get_or ys i 0 ≡ y
same_here xs ys i y e lt = rw e (get_or-set_same xs i y 0 lt)

short_still : (xs ys : List ℕ) (i y : ℕ) → ys ≡ set xs i y → i < length xs → ((k : ℕ) → get_or xs k 0 ≤ 2) → y ≤ 2 → (k : ℕ) → get_or ys k 0 ≤ 2
short_still xs ys i y e lt short bound k = ⊎_elim
    (λ (same : k ≡ i). let h = same_here xs ys i y e lt in rw same (omega arith))
    (λ (other : (k < i) ⊎ (i < k)). let ne : k ≢ i = omega arith in let h = other_here xs ys i y k e ne in omega (arith, short k))
    (cases_order k i)

one_more : (xs ys : List ℕ) (i y : ℕ) → ys ≡ set xs i y → y ≡ get_or xs i 0 + 1 → i < length xs → sum ys ≡ sum xs + 1
one_more xs ys i y e f lt = let h = sum_by-set (λ (x : ℕ). x) xs i y 0 lt in let g : sum ys ≡ sum (set xs i y) = ap sum e in omega arith

pub loop-index-preserved : goal.loop-index-preserved
loop-index-preserved c =
    let start = c.args.start in
    let items = c.args.items.now in
    let old = c.args.shapes.now in
    let i = c.loop-index.index in
    let shapes = c.loop-index.shapes in
    let shape : get_or shapes i 0 ≡ choice_of old i = c.loop-index.invariant.left i (omega arith) in
    let reach : c.is_in_reach.result ≡ is_in_reach start items (choice_of old) i = c.is_in_reach.ensures.reached old (sym shape) c.requires.freed in
    let lt : i < length shapes = omega arith in
    elim c.if-not-is_in_reach.branch [
      | then-not-is_in_reach w ↦
          let new = c.if-not-is_in_reach.shapes in
          let is : new ≡ set shapes i (get_or shapes i 0 + 1) = w.shapes-is in
          let out : is_in_reach start items (choice_of old) i ≡ false = sym reach ∙ w.if-not-is_in_reach.true in
          let more : sum new ≡ sum shapes + 1 = one_more shapes new i (get_or shapes i 0 + 1) is refl lt in
          record {
            done = below_more _ _ (λ k h. other_here shapes new i (get_or shapes i 0 + 1) k is (omega arith) ∙ c.loop-index.invariant.done k h)
                (same_here shapes new i (get_or shapes i 0 + 1) is lt ∙ ap (λ x. x + 1) shape ∙ sym (lengthened_out start items (choice_of old) i out));
            left = λ k h. other_here shapes new i (get_or shapes i 0 + 1) k is (omega arith) ∙ c.loop-index.invariant.left k (omega arith);
            short = short_still shapes new i (get_or shapes i 0 + 1) is lt c.loop-index.invariant.short (omega (arith, c.is_in_reach.ensures.can_grow w.if-not-is_in_reach.true));
            same = λ h. cc;
            reached = λ h k below. cc;
            no_less = omega (arith, c.loop-index.invariant.no_less);
            out = λ _. (i, omega arith, out);
            longer = λ h. omega (arith, c.loop-index.invariant.no_less);
          }
      | else-not-is_in_reach w ↦
          let into : is_in_reach start items (choice_of old) i ≡ true = sym reach ∙ w.if-not-is_in_reach.false in
          record {
            done = below_more _ _ (λ k h. ap (λ s. get_or s k 0) w.shapes-is ∙ c.loop-index.invariant.done k h)
                (ap (λ s. get_or s i 0) w.shapes-is ∙ shape ∙ sym (lengthened_in start items (choice_of old) i into));
            left = λ k h. ap (λ s. get_or s k 0) w.shapes-is ∙ c.loop-index.invariant.left k (omega arith);
            short = λ k. subst (λ s. get_or s k 0 ≤ 2) (sym w.shapes-is) (c.loop-index.invariant.short k);
            same = λ h. w.shapes-is ∙ c.loop-index.invariant.same (sym w.longer-is ∙ h);
            reached = λ h. below_more _ _ (c.loop-index.invariant.reached (sym w.longer-is ∙ h)) into;
            no_less = subst (λ s. sum old ≤ sum s) (sym w.shapes-is) c.loop-index.invariant.no_less;
            out = λ h. (let was = c.loop-index.invariant.out (sym w.longer-is ∙ h) in let below = was.1 in (was.0, omega arith, was.2));
            longer = λ h. subst (λ s. sum old < sum s) (sym w.shapes-is) (c.loop-index.invariant.longer (sym w.longer-is ∙ h));
          }
    ]
