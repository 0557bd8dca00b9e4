use Rattle.linker_output.proofs.Imports.{length}
use Rattle.linker_output.proofs.lazy_plt.+len_of.Given as goal

abbrev pub decreases-len_of : goal.decreases-len_of
decreases-len_of l = length l.pieces.now
