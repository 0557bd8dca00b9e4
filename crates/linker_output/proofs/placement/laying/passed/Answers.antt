use Rattle.linker_output.proofs.Imports.{arith, le-leb, lt-leb, nat_le, prefix_len_is, sym}
use Rattle.linker_output.proofs.placement.laying.passed.Goals as goal

pub returns-clause-passed : goal.returns-clause-passed
returns-clause-passed c = sym (prefix_len_is (λ b. nat_le b c.args.offset) c.args.boundaries.now c.loop-low.low 0 (omega arith)
    (λ k h. le-leb _ _ (c.loop-low.invariant.before k h))
    (λ h. lt-leb _ _ (c.loop-low.invariant.following c.loop-low.low (omega arith) h)))
