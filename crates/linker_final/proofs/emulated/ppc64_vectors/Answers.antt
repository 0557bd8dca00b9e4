-- PowerPC64's vector registers: by computation.
use Rattle.linker_final.proofs.Imports.{place_sum, refl}
use Rattle.linker_final.specs.Ppc64Steps.{ppc64_vector_groups}
use Rattle.linker_final.proofs.emulated.ppc64_vectors.Goals as goal

pub returns : goal.returns
unfolding place_sum ppc64_vector_groups
returns c = record { steps = refl }
