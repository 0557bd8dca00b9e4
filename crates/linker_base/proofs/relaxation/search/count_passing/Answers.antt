use Rattle.linker_base.proofs.Imports.{Deltas, Heads, arith, passing, sym, true, ◌∙◌, ◌≡◌}
use Rattle.linker_base.proofs.Halving.{all_narrowed}
use Rattle.linker_base.proofs.relaxation.search.count_passing.Goals as goal

pub returns-then-len-gt-BLOCK_LEN-clause-point : goal.returns-then-len-gt-BLOCK_LEN-clause-point
returns-then-len-gt-BLOCK_LEN-clause-point g c parted agree =
    let found = c.find_block-first.ensures in
    let read = c.read.ensures.probes.same in
    let same = found.probes.same ∙ read in
    let block = (rw read at found.narrowed) parted agree (grind (arith, c.passes.ensures, c.read.ensures.value, c.if-not-passes.false)) in
    let last = (rw (c.narrow.ensures.probes.same ∙ same, same) at c.narrow.ensures.narrowed) _ 1 (omega arith) (omega arith) block in
    record { before = last.before; after = λ k low high. last.after k (omega arith) high }

pub returns-clause-point : goal.returns-clause-point
returns-clause-point g c parted agree =
    let s = (g.P.Probe.state c.args.probe.now).subject in
    let read = c.read-else-len-eq0.ensures.probes.same in
    let first : passing s Heads c.args.test 0 ≡ true = grind (arith, c.passes-else-len-eq0.ensures, c.read-else-len-eq0.ensures.value, c.if-not-passes-2.false) in
    let all = all_narrowed s c.args.test Deltas parted (sym (agree 0 (omega (arith, c.len-len.ensures, c.if-len-eq0.false))) ∙ first) in
    let last = (rw (c.narrow-2.ensures.probes.same ∙ read, read) at c.narrow-2.ensures.narrowed) _ 1 (omega (arith, c.len-len.ensures, c.if-len-gt-BLOCK_LEN.false)) (omega (arith, c.len-len.ensures, c.if-len-eq0.false)) all in
    record { before = last.before; after = λ k low high. last.after k (omega arith) high }
