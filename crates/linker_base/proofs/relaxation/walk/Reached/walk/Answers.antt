use Rattle.linker_base.proofs.Imports.{AreAhead, ap, arith, begun_below, cases_lt, deletion_of, fold_more, get_or, get_or-map, get_or-set_other, get_or-set_same, inl, inr, length, length-map, map, max, passed_in, rank, same_number_lists, sym, take, take_all, walk_at, walk_to, ◌+◌, ◌<◌, ◌∙◌, ◌≡◌, ◌≢◌}
use Rattle.linker_base.proofs.Laws.{begun_later}
use Rattle.linker_base.proofs.Walking.{begun_ahead, rank_walked, passed_is}
use Rattle.linker_base.proofs.relaxation.walk.Reached.walk.Goals as goal

pub loop-at-preserved : goal.loop-at-preserved
loop-at-preserved c deltas k listed given =
    let ds = map deletion_of deltas in
    let queries = c.args.queries.now in
    let at = c.loop-at.at in
    let i = get_or queries at 0 in
    let along = c.loop-at.invariant deltas k listed given in
    let before = passed_in deltas c.loop-at.self in
    let walked = c.pass.ensures deltas before listed along.walked in
    let n = passed_is deltas _ _ walked in
    let begun : AreAhead (walk_at ds k) queries → max before (begun_below ds i) ≡ begun_below ds i =
    λ ahead. begun_ahead ds listed.valid before i (omega (arith, length-map deltas deletion_of, along.walked.within)) (along.ahead ahead c.loop-at-test.true) in
    record {
      walked = rw n walked;
      passed = ap (walk_at ds) n ∙ ap (λ walk. walk_to walk i) along.passed ∙ sym (fold_more walk_to (walk_at ds k) queries at 0 c.loop-at-test.true);
      ahead = λ ahead more. rw (n, begun ahead) (begun_later ds i (get_or queries (at + 1) 0) listed.valid.ascending (ahead.ascending at (at + 1) 0 (omega arith) more));
      ranks = λ ahead j below. elim (cases_lt j at) [
        | inl earlier ↦
            let other : j ≢ at = omega arith in
            rw (get_or-set_other c.loop-at.out at j _ 0 other) (along.ranks ahead j earlier)
        | inr last ↦
            let here : j ≡ at = omega arith in
            let place : at < length c.loop-at.out = omega arith in
            let ranked = rank_walked deltas listed _ _ i (begun ahead) walked in
            rw (here, get_or-set_same c.loop-at.out at _ 0 place) (omega (arith, ranked, c.max.ensures))
      ];
    }

pub returns-clause-walked : goal.returns-clause-walked
returns-clause-walked c deltas k listed given = (c.loop-at.invariant deltas k listed given).walked

pub returns-clause-passed : goal.returns-clause-passed
returns-clause-passed c deltas k listed given =
    let all : take c.loop-at.at c.args.queries.now ≡ c.args.queries.now = take_all c.loop-at.at c.args.queries.now (omega arith) in
    rw all at (c.loop-at.invariant deltas k listed given).passed

pub returns-clause-ranks : goal.returns-clause-ranks
returns-clause-ranks c deltas k listed given ahead =
    let queries = c.args.queries.now in
    let ranked = rank (map deletion_of deltas) in
    same_number_lists c.loop-at.out (map ranked queries) (omega (arith, length-map queries ranked)) (λ j within.
    let inside : j < length queries = omega arith in
    rw (get_or-map ranked queries j 0 0 inside) ((c.loop-at.invariant deltas k listed given).ranks ahead j (omega arith)))
