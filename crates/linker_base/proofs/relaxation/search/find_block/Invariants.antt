use Rattle.linker_base.proofs.Imports.{Heads, IsNarrowed, blocks_of, ℕ, ◌+◌, ◌<◌, ◌^◌, ◌≡◌, ◌≤◌}
use Rattle.linker_base.proofs.relaxation.search.find_block.Given as goal

abbrev pub invariant-loop-count : goal.invariant-loop-count
invariant-loop-count g l =
    let before = g.P.Probe.state l.fn.probe in
    let now = g.P.Probe.state l.probe in
    record {
      same : now.subject ≡ before.subject;
      some : 0 < l.count;
      room : now.probes + l.count ≤ before.probes + blocks_of l.len;
      within : l.last + l.count ≤ blocks_of l.len;
      narrowed : IsNarrowed before.subject Heads l.test 1 (blocks_of l.len)
          → IsNarrowed now.subject Heads l.test (l.last + 1) l.count;
      spent : (digits : ℕ) → blocks_of l.len ≤ 2 ^ digits
          → (left : ℕ) × (l.count ≤ 2 ^ left) × (now.probes + left ≤ before.probes + digits);
    }

abbrev pub decreases-loop-count : goal.decreases-loop-count
decreases-loop-count g l = l.count
