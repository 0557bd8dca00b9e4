use Rattle.linker_base.proofs.Imports.{deletion_of, false≢true, map, sym, ◌∙◌}
use Rattle.linker_base.proofs.Merging.{merged_by, disjoint_back}
use Rattle.linker_base.proofs.relaxation.overlap.can_be_merged.Goals as goal

pub returns-then-are_disjoint : goal.returns-then-are_disjoint
returns-then-are_disjoint g c valid = merged_by (map deletion_of c.args.deltas.now) (map g.D.AsDeletion.deletion c.args.additional.now) c.are_beside.result valid (c.are_disjoint.ensures.0 c.if-are_disjoint.true) (c.are_beside.ensures valid)

pub returns-else-are_disjoint : goal.returns-else-are_disjoint
returns-else-are_disjoint g c valid = (λ holds. absurd (false≢true (sym c.if-are_disjoint.false ∙ holds)), λ all. c.are_disjoint.ensures.1 (disjoint_back (map deletion_of c.args.deltas.now) (map g.D.AsDeletion.deletion c.args.additional.now) all))
