use Rattle.linker_rewriting.proofs.LabelGroups.{NoneIn}
use Rattle.linker_rewriting.proofs.riscv_pcrel_groups.high_at.Given as goal

abbrev pub invariant-loop-index : goal.invariant-loop-index
invariant-loop-index l = NoneIn l.relocations l.r_type l.at l.first l.index
