use Rattle.linker_base.proofs.Imports.{[], ap, arith, drop, drop_all, false≢true, map-id, pairs_of, refl, sym, take, take_rest, ◌+◌, ◌∙◌}
use Rattle.linker_base.proofs.Apart.{beside_none, pairs_from, pairs_front}
use Rattle.linker_base.proofs.Merging.{disjoint_joined, disjoint_back, disjoint_across}
use Rattle.linker_base.proofs.Unions.{disjoint_left, disjoint_from_valid}
use Rattle.linker_base.proofs.relaxation.overlap.are_disjoint_batches.Goals as goal

pub returns-then-are_ascending : goal.returns-then-are_ascending
returns-then-are_ascending c = (λ _. disjoint_from_valid _ (c.are_ascending.ensures c.if-are_ascending.true), λ _. refl)

-- a batch that isn't disjoint, or touches a later one, denies it
pub returns-then-not-are_disjoint_beside : goal.returns-then-not-are_disjoint_beside
returns-then-not-are_disjoint_beside c =
    let batches = c.args.batches.now in
    let i = c.loop-at.at in
    let batch = c.index-batches-at.result in
    let later = pairs_of (drop (i + 1) batches) in
    let beside = rw (c.deref.ensures.value, take_rest batches (i + 1), map-id batch.items) at c.are_disjoint_beside.ensures in (
      λ none. absurd (false≢true none),
      λ all.
          let joined = rw (pairs_from batches i batch c.loop-at-test.true c.index-batches-at.is) at (disjoint_back (pairs_of (take i batches)) (pairs_of (drop i batches)) (rw (pairs_front batches i) all)) in
          sym c.if-not-are_disjoint_beside.true ∙ beside.1 (record { disjoint = disjoint_left batch.items later joined; apart = disjoint_across batch.items later joined }),
    )

pub loop-at-preserved : goal.loop-at-preserved
loop-at-preserved c rest =
    let batches = c.args.batches.now in
    let i = c.loop-at.at in
    let batch = c.index-batches-at.result in
    let later = pairs_of (drop (i + 1) batches) in
    let beside = rw (c.deref.ensures.value, take_rest batches (i + 1), map-id batch.items) at c.are_disjoint_beside.ensures in
    let here = beside.0 c.if-not-are_disjoint_beside.false in
    c.loop-at.invariant (rw (pairs_from batches i batch c.loop-at-test.true c.index-batches-at.is) (disjoint_joined batch.items later here.disjoint rest here.apart))

pub returns : goal.returns
returns c =
    let none = ap pairs_of (drop_all c.loop-at.at c.args.batches.now (omega (arith, c.loop-at-test.false))) in
    (λ _. c.loop-at.invariant (rw none (beside_none [] [] refl).disjoint), λ _. refl)
