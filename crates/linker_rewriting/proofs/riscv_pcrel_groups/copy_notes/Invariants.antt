use Rattle.linker_rewriting.proofs.Imports.{context_of, decision_in, drop, length, map, ◌/◌, ◌≡◌}
use Rattle.linker_rewriting.proofs.LabelGroups.{AreCopied}
use Rattle.linker_rewriting.proofs.riscv_pcrel_groups.copy_notes.Given as goal

abbrev pub invariant-loop-index : goal.invariant-loop-index
invariant-loop-index l = record {
  copied : AreCopied (context_of l.context) l.relocations
      l.section (map decision_in l.fn.decisions) (map decision_in l.decisions) l.index;
  others : drop (length l.relocations / 24) l.decisions ≡ drop (length l.relocations / 24) l.fn.decisions;
}
