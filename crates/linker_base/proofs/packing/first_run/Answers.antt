use Rattle.linker_base.proofs.Imports.{ap, arith, deletion_of, get_or-map, length-map, map, no_delta, ℕ, ◌-◌}
use Rattle.linker_base.proofs.Copied.{begin_below, begin_above, run_from_base, run_from_end}
use Rattle.linker_base.proofs.packing.first_run.Goals as goal

pub returns-then-first-eq0-clause-first : goal.returns-then-first-eq0-clause-first
returns-then-first-eq0-clause-first c = λ valid.
    let begun = c.count_begun-first.ensures.begun valid in
    run_from_base _ _ c.count_begun-first.result valid.valid (omega (arith, length-map c.args.deltas.now deletion_of)) (begin_below _ _ _ valid begun) (begin_above _ _ _ valid begun) c.if-first-eq0.true

pub returns-clause-first : goal.returns-clause-first
returns-clause-first c = λ valid.
    let deltas = c.args.deltas.now in
    let first = c.count_begun-first.result in
    let begun = c.count_begun-first.ensures.begun valid in
    let here = get_or-map deletion_of deltas (first - 1) no_delta (0, 0) (omega arith) in
    let fits = valid.valid.ends (first - 1) (0, 0) (omega (arith, length-map deltas deletion_of)) in
    run_from_end (map deletion_of deltas) c.args.base first valid.valid (omega (arith, length-map deltas deletion_of)) (begin_below deltas c.args.base first valid begun) (begin_above deltas c.args.base first valid begun)
    c.saturating_add-end.result c.max.result (omega arith)
    (omega (arith, c.saturating_add-end.ensures, c.from.ensures, ap (λ (d : ℕ × ℕ). d.0) here, ap (λ (d : ℕ × ℕ). d.1) here))
    c.max.ensures
