use Rattle.linker_output.proofs.Imports.{IsServedBy, IsState, SameStubs, branch_at, false, level, sum_by, true, way_at, ℕ, ◌<◌, ◌≡◌, ◌≤◌}
use Rattle.linker_output.proofs.placement.State.sweep.Given as goal

abbrev pub invariant-loop-index : goal.invariant-loop-index
invariant-loop-index l = record {
  state : IsState l.code l.self;
  share : l.self.may_share ≡ l.initial.self.may_share;
  same : l.changed ≡ false → SameStubs l.initial.self l.self;
  served : l.changed ≡ false → (k : ℕ) → k < l.index → IsServedBy l.code l.before l.places (branch_at l.code.branches.now k) (way_at l.self.ways.items k);
  no_less : sum_by level l.initial.self.ways.items ≤ sum_by level l.self.ways.items;
  higher : l.changed ≡ true → sum_by level l.initial.self.ways.items < sum_by level l.self.ways.items;
}
