use Rattle.linker_base.proofs.Imports.{ap, deletion_of, map, pairs_of, ◌∙◌}
use Rattle.linker_base.proofs.Merging.{disjoint_back}
use Rattle.linker_base.proofs.Unions.{disjoint_moved, union_moved_ok}
use Rattle.linker_base.proofs.relaxation.SectionRelaxDeltas.merge_all.Goals as goal

pub sorted-pairs-requires : goal.sorted-pairs-requires
sorted-pairs-requires c = rw c.in_ok-all_pairs.ensures (disjoint_back c.args.self.now (pairs_of c.args.batches.now) c.requires)

pub insert_ascending-requires-clause-disjoint : goal.insert_ascending-requires-clause-disjoint
insert_ascending-requires-clause-disjoint c =
    let same = rw c.in_ok-all_pairs.ensures at c.sorted-pairs.ensures.same in
    let ds = ap (map deletion_of) c.reserve.ensures.items ∙ c.self.view_is in
    rw (ds, c.deref.ensures.value) ((disjoint_moved c.args.self.now _ _ same).1 c.requires)

pub returns-clause-ok : goal.returns-clause-ok
returns-clause-ok c =
    let same = rw c.in_ok-all_pairs.ensures at c.sorted-pairs.ensures.same in
    let ds = ap (map deletion_of) c.reserve.ensures.items ∙ c.self.view_is in
    union_moved_ok c.insert_ascending.result c.args.self.now _ _ _ same (rw (ds, c.deref.ensures.value) at c.insert_ascending.ensures.ok)
