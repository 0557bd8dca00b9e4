use Rattle.linker_base.proofs.Imports.{deletion_of, false≢true, map, pairs_of, sym, ◌∙◌}
use Rattle.linker_base.proofs.Merging.{merged_by, disjoint_back}
use Rattle.linker_base.proofs.relaxation.overlap.can_batches_be_merged.Goals as goal

pub returns-then-are_disjoint_batches : goal.returns-then-are_disjoint_batches
returns-then-are_disjoint_batches c valid = merged_by (map deletion_of c.args.deltas.now) (pairs_of c.args.batches.now) c.are_beside_batches.result valid (c.are_disjoint_batches.ensures.0 c.if-are_disjoint_batches.true) (c.are_beside_batches.ensures valid)

pub returns-else-are_disjoint_batches : goal.returns-else-are_disjoint_batches
returns-else-are_disjoint_batches c valid = (λ holds. absurd (false≢true (sym c.if-are_disjoint_batches.false ∙ holds)), λ all. c.are_disjoint_batches.ensures.1 (disjoint_back (map deletion_of c.args.deltas.now) (pairs_of c.args.batches.now) all))
