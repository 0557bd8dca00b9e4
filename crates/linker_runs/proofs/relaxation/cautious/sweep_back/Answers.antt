use Rattle.linker_runs.proofs.Imports.{AreCautious, ap, arith, cases_lt, choice_of, get_or, get_or-set_other, is_in_reach_cautiously, length, refl, set, subst, sum, sym, ⊎_elim, ◌+◌, ◌-◌, ◌<◌, ◌∙◌, ◌≡◌, ◌≤◌}
use Rattle.linker_runs.proofs.Sweeps.{back_step, whole_layout, last_fits, more_fits}
use Rattle.linker_runs.proofs.relaxation.cautious.sweep_back.Goals as goal

pub loop-following-init : goal.loop-following-init
loop-following-init c = record {
  freed = whole_layout c.args.items.now c.args.shapes.now c.args.freed.now (length c.args.items.now - 0) (omega arith) c.requires.freed;
  fits = last_fits c.args.start c.args.items.now c.args.shapes.now c.args.freed.now c.requires.items c.requires.freed;
  short = c.requires.short;
  forced = c.requires.forced;
  same = λ _. refl;
  reached = λ _ k high low. absurd (omega arith);
  longer = λ h. absurd (omega arith);
}

pub overflow_add-more : goal.overflow_add-more
overflow_add-more c =
    omega (arith, c.lengthen_at-more.ensures.freed.above (length c.args.items.now) (omega arith) (omega arith), c.loop-following.invariant.fits)

pub overflow_add-freed : goal.overflow_add-freed
overflow_add-freed c =
    let fits = more_fits c.args.start c.args.items.now c.lengthen_at-more.new.shapes c.loop-following.freed (c.len.result - 1 - c.loop-following.following) (c.loop-following.more + c.lengthen_at-more.result) (omega arith)
    c.lengthen_at-more.ensures.freed c.loop-following.invariant.fits in
    omega arith

pub loop-following-preserved : goal.loop-following-preserved
loop-following-preserved c =
    let items = c.args.items.now in
    let n = length items in
    let i = c.len.result - 1 - c.loop-following.following in
    let old = c.loop-following.shapes in
    let new = c.lengthen_at-more.new.shapes in
    let fewer = c.lengthen_at-more.result in
    let more = c.loop-following.more in
    let inv = c.loop-following.invariant in
    let z : i ≡ n - (c.loop-following.following + 1) = omega arith in
    record {
      freed = subst (λ s. AreCautious items new (set c.loop-following.freed i (get_or c.loop-following.freed i 0 + (more + fewer))) s (more + fewer)) z
          (back_step items new c.loop-following.freed (set c.loop-following.freed i (get_or c.loop-following.freed i 0 + (more + fewer))) i (more + fewer) (omega arith) c.lengthen_at-more.ensures.freed refl);
      fits = omega (arith, inv.fits, (get_or-set_other c.loop-following.freed i n (get_or c.loop-following.freed i 0 + (more + fewer)) 0 (omega arith)));
      short = c.lengthen_at-more.ensures.short;
      forced = c.lengthen_at-more.ensures.forced inv.forced;
      same = λ none. c.lengthen_at-more.ensures.same (omega arith) ∙ inv.same (omega arith);
      reached = λ none k high low. ⊎_elim
          (λ (before : k < n - c.loop-following.following).
          let here : k ≡ i = omega arith in
          ap (is_in_reach_cautiously items (choice_of c.args.shapes.now)) here
          ∙ ap (λ xs. is_in_reach_cautiously items (choice_of xs) i) (sym (inv.same (omega arith)))
          ∙ c.lengthen_at-more.ensures.reached (omega arith))
          (λ (after : n - c.loop-following.following ≤ k). inv.reached (omega arith) k after low)
          (cases_lt k (n - c.loop-following.following));
      longer = λ some. ⊎_elim
          (λ (here : 0 < fewer). ⊎_elim
          (λ (was : 0 < more). omega (arith, inv.longer was, c.lengthen_at-more.ensures.longer here))
          (λ (first : more ≤ 0). let e = ap sum (inv.same (omega arith)) in omega (arith, c.lengthen_at-more.ensures.longer here, e))
          (cases_lt 0 more))
          (λ (none : fewer ≤ 0). let e = ap sum (c.lengthen_at-more.ensures.same (omega arith)) in omega (arith, inv.longer (omega arith), e))
          (cases_lt 0 fewer);
    }
