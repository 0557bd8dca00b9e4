use Rattle.linker_rewriting.proofs.Imports.{based_relocation, length, section_based, ◌/◌, ◌≡◌}
use Rattle.linker_rewriting.proofs.GlobalPointer.{AreTurned}
use Rattle.linker_rewriting.proofs.global_pointer.set_bases.Given as goal

abbrev pub invariant-loop-index : goal.invariant-loop-index
invariant-loop-index l = record {
  turned : AreTurned (λ n r. based_relocation l.bases.addresses.now l.bases.values.now l.bases.gp r) l.fn.relocations l.relocations (length l.fn.relocations / 24) l.index;
  based : l.section ≡ section_based l.bases.addresses.now l.bases.values.now l.bases.gp l.fn.relocations l.fn.section l.index;
  same_len : length l.section ≡ length l.fn.section;
}
