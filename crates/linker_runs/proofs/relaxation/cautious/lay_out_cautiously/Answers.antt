use Rattle.linker_runs.proofs.Imports.{ap, arith, below_more, cases_lt, cautious_before, choice_of, freed_cautiously, get_or-set_other, get_or-set_same, length, sym, ⊎_elim, ◌<◌, ◌∙◌, ◌≡◌, ◌≢◌, ◌≤◌}
use Rattle.linker_runs.proofs.Choices.{cautious_none, cautious_next, cautious_fits}
use Rattle.linker_runs.proofs.relaxation.cautious.lay_out_cautiously.Goals as goal

pub loop-index-init : goal.loop-index-init
loop-index-init c = record { before = sym (cautious_none c.args.items.now (choice_of c.args.shapes.now)); written = λ k below. absurd (omega arith) }

pub overflow_add-before : goal.overflow_add-before
overflow_add-before c =
    let items = c.args.items.now in
    let choice = choice_of c.args.shapes.now in
    let i = c.loop-index.index in
    let fits = cautious_fits c.args.start items choice c.requires.items i (omega arith) in
    let ends = c.requires.items.in_order.ends i (omega arith) in
    omega (arith, cautious_next items choice i, c.loop-index.invariant.before, c.freed_cautiously-before.ensures ∙ ap (λ it. freed_cautiously it (choice i)) c.at-item.ensures)

pub loop-index-preserved : goal.loop-index-preserved
loop-index-preserved c =
    let items = c.args.items.now in
    let choice = choice_of c.args.shapes.now in
    let i = c.loop-index.index in
    record {
      before = omega (arith, cautious_next items choice i, c.loop-index.invariant.before, c.freed_cautiously-before.ensures ∙ ap (λ it. freed_cautiously it (choice i)) c.at-item.ensures);
      written = below_more _ _
          (λ k h. let ne : k ≢ i = omega arith in rw get_or-set_other (c.loop-index.invariant.written k h))
          (let lt : i < length c.loop-index.freed = omega arith in rw get_or-set_same c.loop-index.invariant.before);
    }

pub returns : goal.returns
returns c =
    let n = c.len.result in
    record {
      below = λ j low. absurd (omega arith);
      above = λ j high within. ⊎_elim
          (λ (inside : j < n). let ne : j ≢ n = omega arith in rw get_or-set_other (let e = c.loop-index.invariant.written j (omega arith) in omega arith))
          (λ (last : n ≤ j).
          let same : j ≡ n = omega arith in
          rw same (let lt : n < length c.loop-index.freed = omega arith in let i : c.loop-index.index ≡ n = omega arith in let a = ap (cautious_before c.args.items.now (choice_of c.args.shapes.now)) i in rw get_or-set_same (omega (arith, c.loop-index.invariant.before))))
          (cases_lt j n);
    }
