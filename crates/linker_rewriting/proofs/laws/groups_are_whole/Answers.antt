use Rattle.linker_rewriting.proofs.AArch64Sequences.{sequences_are_whole}
use Rattle.linker_rewriting.proofs.GlobalPointer as parts
use Rattle.linker_rewriting.proofs.LoongArchLoads.{loads_are_whole}
use Rattle.linker_rewriting.proofs.Whole as groups
use Rattle.linker_rewriting.proofs.WholeWords as words
use Rattle.linker_rewriting.proofs.laws.groups_are_whole.Goals as goal

pub returns : goal.returns
returns c = record {
  groups = groups.whole_across;
  words = words.whole_across;
  parts = parts.whole_across;
  loads = loads_are_whole;
  sequences = sequences_are_whole;
}
