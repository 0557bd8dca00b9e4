use Rattle.linker_output.proofs.Imports.{length}
use Rattle.linker_output.proofs.lazy_plt.+write_pieces.Given as goal

abbrev pub decreases-write_pieces : goal.decreases-write_pieces
decreases-write_pieces l = length l.pieces.now
