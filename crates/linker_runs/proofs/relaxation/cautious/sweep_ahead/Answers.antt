use Rattle.linker_runs.proofs.Imports.{ap, arith, below_more, cases_lt, cases_order, choice_of, get_or, get_or-set_other, length, refl, sum, sym, ⊎_elim, ◌-◌, ◌<◌, ◌∙◌, ◌≡◌, ◌≤◌, ◌⊎◌}
use Rattle.linker_runs.proofs.Choices.{still_out}
use Rattle.linker_runs.proofs.Sweeps.{ahead_step, last_fits}
use Rattle.linker_runs.proofs.relaxation.cautious.sweep_ahead.Goals as goal

pub loop-index-init : goal.loop-index-init
loop-index-init c = record {
  freed = c.requires.freed;
  fits = last_fits c.args.start c.args.items.now c.args.shapes.now c.args.freed.now c.requires.items c.requires.freed;
  short = c.requires.short;
  forced = c.requires.forced;
  longer = omega arith;
  no_shorter = λ k. omega arith;
  left = λ k high. refl;
  done = λ k low. absurd (omega arith);
}

pub overflow_sub-freed : goal.overflow_sub-freed
overflow_sub-freed c =
    omega (arith, c.loop-index.invariant.freed.above c.loop-index.index (omega arith) (omega arith))

pub lengthen_at-more-requires-clause-freed : goal.lengthen_at-more-requires-clause-freed
lengthen_at-more-requires-clause-freed c =
    ahead_step c.args.items.now c.loop-index.shapes c.loop-index.freed _ c.loop-index.index c.loop-index.more (omega arith) (omega arith) c.loop-index.invariant.freed refl

pub overflow_add-more : goal.overflow_add-more
overflow_add-more c =
    let n = length c.args.items.now in
    let i = c.loop-index.index in
    let laid = c.lengthen_at-more.ensures.freed.above n (omega arith) (omega arith) in
    omega (arith, get_or-set_other c.loop-index.freed i n (get_or c.loop-index.freed i 0 - c.loop-index.more) 0 (omega arith), c.loop-index.invariant.fits)

pub loop-index-preserved : goal.loop-index-preserved
loop-index-preserved c =
    let n = length c.args.items.now in
    let i = c.loop-index.index in
    let old = c.args.shapes.now in
    let was = c.loop-index.shapes in
    let items = c.args.items.now in
    let here : choice_of old i ≤ choice_of c.lengthen_at-more.new.shapes i = ⊎_elim
    (λ (some : 0 < c.lengthen_at-more.result). omega (arith, c.lengthen_at-more.ensures.next some, c.loop-index.invariant.left i (omega arith)))
    (λ (none : c.lengthen_at-more.result ≤ 0). omega (arith, ap (λ xs. choice_of xs i) (c.lengthen_at-more.ensures.same (omega arith)), c.loop-index.invariant.left i (omega arith)))
    (cases_lt 0 c.lengthen_at-more.result) in
    record {
      freed = c.lengthen_at-more.ensures.freed;
      fits = omega (arith, c.loop-index.invariant.fits, (get_or-set_other c.loop-index.freed i n (get_or c.loop-index.freed i 0 - c.loop-index.more) 0 (omega arith)));
      short = c.lengthen_at-more.ensures.short;
      forced = c.lengthen_at-more.ensures.forced c.loop-index.invariant.forced;
      longer = ⊎_elim
          (λ (some : 0 < c.lengthen_at-more.result). omega (arith, c.lengthen_at-more.ensures.longer some, c.loop-index.invariant.longer))
          (λ (none : c.lengthen_at-more.result ≤ 0). let e = ap sum (c.lengthen_at-more.ensures.same (omega arith)) in omega (arith, c.loop-index.invariant.longer, e))
          (cases_lt 0 c.lengthen_at-more.result);
      no_shorter = λ k. ⊎_elim
          (λ (at : k ≡ i). rw at here)
          (λ (apart : (k < i) ⊎ (i < k)). let e = c.lengthen_at-more.ensures.others k (λ e. absurd (omega arith)) in omega (arith, c.loop-index.invariant.no_shorter k))
          (cases_order k i);
      left = λ k high. c.lengthen_at-more.ensures.others k (λ e. absurd (omega arith)) ∙ c.loop-index.invariant.left k (omega arith);
      done = below_more _ _
          (λ k low out. let e = c.lengthen_at-more.ensures.others k (λ e. absurd (omega arith)) in omega (arith, c.loop-index.invariant.done k low out))
          (λ out. ⊎_elim
          (λ (some : 0 < c.lengthen_at-more.result). omega (arith, c.lengthen_at-more.ensures.next some, c.loop-index.invariant.left i (omega arith)))
          (λ (none : c.lengthen_at-more.result ≤ 0). absurd (still_out c.args.start items (choice_of old) (choice_of was) c.requires.items (λ k within. c.loop-index.invariant.no_shorter k) i (omega arith) (sym (c.loop-index.invariant.left i (omega arith))) out (c.lengthen_at-more.ensures.reached (omega arith))))
          (cases_lt 0 c.lengthen_at-more.result));
    }

pub returns-clause-lengthened : goal.returns-clause-lengthened
returns-clause-lengthened c = λ i within out. c.loop-index.invariant.done i (omega arith) out
