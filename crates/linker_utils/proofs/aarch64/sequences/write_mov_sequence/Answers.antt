use Rattle.linker_utils.proofs.Imports.{drop, rules}
use Rattle.linker_utils.proofs.AArch64Moves.{moves_load}
use Rattle.linker_utils.proofs.aarch64.sequences.write_mov_sequence.Goals as goal

pub returns-clause-loads : goal.returns-clause-loads
returns-clause-loads c =
    moves_load c.args.rd c.args.value c.requires.register c.ranges.value.fits c.put_word-4.new.section (drop 16 c.args.dest.now) (search rules)
