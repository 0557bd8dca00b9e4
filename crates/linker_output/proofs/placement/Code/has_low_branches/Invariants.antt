use Rattle.linker_output.proofs.Imports.{branch_at, ℕ, ◌<◌, ◌^◌}
use Rattle.linker_output.proofs.placement.Code.has_low_branches.Given as goal

abbrev pub invariant-loop-branch : goal.invariant-loop-branch
invariant-loop-branch l = (k : ℕ) → k < l.branch-index → (branch_at l.self.branches.now k).offset < 2 ^ 62
