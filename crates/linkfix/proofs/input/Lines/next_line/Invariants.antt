use Rattle.linkfix.proofs.Imports.{All, Consumes, max_remaining, remaining_bytes, vec_len, ◌+◌, ◌≢◌, ◌≤◌}
use Rattle.linkfix.proofs.input.Lines.next_line.Given as goal

abbrev pub invariant-loop-at : goal.invariant-loop-at
invariant-loop-at g l = record {
  bound : vec_len l.line + max_remaining l.self ≤ max_remaining l.initial.self;
  one_line : All (λ byte. byte ≢ 10) l.line.items;
  kept : Consumes (remaining_bytes (g.R.Read.remaining l.initial.self.input) l.initial.self) (remaining_bytes (g.R.Read.remaining l.self.input) l.self) l.line.items;
}

abbrev pub decreases-loop-at : goal.decreases-loop-at
decreases-loop-at g l = l.self.reads_left
