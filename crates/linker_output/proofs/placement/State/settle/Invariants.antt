use Rattle.linker_output.proofs.Imports.{IsState, length, level, sum_by, ◌*◌, ◌+◌, ◌-◌, ◌≡◌}
use Rattle.linker_output.proofs.placement.State.settle.Given as goal

abbrev pub invariant-loop-passes : goal.invariant-loop-passes
invariant-loop-passes l = record {
  state : IsState l.code l.self;
  share : l.self.may_share ≡ l.fn.self.may_share;
  one_more : length l.before ≡ length l.code.boundaries.now + 1;
}

abbrev pub decreases-loop-passes : goal.decreases-loop-passes
decreases-loop-passes l = 2 * length l.code.branches.now - sum_by level l.self.ways.items
