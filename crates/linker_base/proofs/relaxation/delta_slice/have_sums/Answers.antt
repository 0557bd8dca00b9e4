use Rattle.linker_base.proofs.Imports.{arith, bytes_of, cases_eq, deletion_of, false≢true, get_or, get_or_default, inl, inr, map, take, ◌+◌, ◌≡◌}
use Rattle.linker_base.proofs.Search.{blank, bytes_up_to}
use Rattle.linker_base.proofs.relaxation.delta_slice.have_sums.Goals as goal
use Rattle.linker_base.proofs.relaxation.delta_slice.have_sums.Goals.{then-delta-sum-via-then-delta-sum, then-delta-sum-via-else-delta-sum+then-delta-sum-2}

-- a delta with another sum denies it
pub returns-then-delta-sum : goal.returns-then-delta-sum
returns-then-delta-sum c = (
  λ none. absurd (false≢true none),
  λ recorded.
      let within = c.loop-delta-test.true in
      let sum = recorded.sums c.loop-delta.delta-index blank within in
      let more = bytes_up_to c.args.deltas.now c.loop-delta.delta-index blank within in
      absurd (elim c.then-delta-sum.branch [
        | then-delta-sum-via-then-delta-sum w ↦ omega (arith, sum, more, c.loop-delta.invariant.sum, w.if-delta-sum.true)
        | then-delta-sum-via-else-delta-sum+then-delta-sum-2 w ↦ w.if-delta-sum-2.true (omega (arith, sum, more, c.loop-delta.invariant.sum, w.from.ensures))
      ]),
)

pub loop-delta-preserved : goal.loop-delta-preserved
loop-delta-preserved c =
    let within = c.loop-delta-test.true in
    let more = bytes_up_to c.args.deltas.now c.loop-delta.delta-index blank within in
    let sum : (get_or c.args.deltas.now c.loop-delta.delta-index blank).cumulative_deleted ≡ bytes_of (take (c.loop-delta.delta-index + 1) (map deletion_of c.args.deltas.now)) = omega (arith, more, c.loop-delta.invariant.sum, c.if-delta-sum.false, c.if-delta-sum-2.false, c.from.ensures) in
    record {
      sum = sum;
      each = λ k d below. elim (cases_eq k c.loop-delta.delta-index) [
        | inl here ↦ rw (here, get_or_default c.args.deltas.now c.loop-delta.delta-index d blank within) sum
        | inr earlier ↦ c.loop-delta.invariant.each k d (omega arith)
      ];
    }
