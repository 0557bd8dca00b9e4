use Rattle.linker_base.proofs.Imports.{take, ◌+◌}
use Rattle.linker_base.proofs.Merges.{IsMerging}
use Rattle.linker_base.proofs.relaxation.merge.merge_in_place.Given as goal

abbrev pub invariant-loop-listed : goal.invariant-loop-listed
invariant-loop-listed l = IsMerging (take l.count l.initial.merged) l.additional l.old l.left l.merged l.bytes

abbrev pub decreases-loop-listed : goal.decreases-loop-listed
decreases-loop-listed l = l.old + l.left

abbrev pub invariant-loop-left : goal.invariant-loop-left
invariant-loop-left l = IsMerging (take l.count l.fn.merged) l.additional l.old l.left l.merged l.bytes

abbrev pub decreases-loop-left : goal.decreases-loop-left
decreases-loop-left l = l.left

abbrev pub invariant-loop-old : goal.invariant-loop-old
invariant-loop-old l = IsMerging (take l.count l.fn.merged) l.additional l.old l.left l.merged l.bytes

abbrev pub decreases-loop-old : goal.decreases-loop-old
decreases-loop-old l = l.old
