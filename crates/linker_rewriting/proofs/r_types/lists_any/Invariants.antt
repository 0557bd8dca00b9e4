use Rattle.linker_rewriting.specs.Inner.RelocationTypes.{AreUnlisted}
use Rattle.linker_rewriting.proofs.r_types.lists_any.Given as goal

abbrev pub invariant-loop-index : goal.invariant-loop-index
invariant-loop-index l = AreUnlisted l.architecture l.phase l.relocations l.index
