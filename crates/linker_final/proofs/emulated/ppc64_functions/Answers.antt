-- PowerPC64's functions that save and restore registers: by computation.
use Rattle.linker_final.proofs.Imports.{place_sum, refl}
use Rattle.linker_final.specs.Ppc64Steps.{ppc64_restfpr, ppc64_restgpr0, ppc64_restgpr1, ppc64_restvr, ppc64_savefpr, ppc64_savegpr0, ppc64_savegpr1, ppc64_savevr}
use Rattle.linker_final.proofs.emulated.ppc64_functions.Goals as goal

pub returns : goal.returns
unfolding place_sum ppc64_savegpr0 ppc64_restgpr0 ppc64_savegpr1 ppc64_restgpr1 ppc64_savefpr ppc64_restfpr ppc64_savevr ppc64_restvr
returns c = record {
  agree = (((refl, refl), (refl, refl), (refl, refl), (refl, refl)), ((refl, refl), (refl, refl), (refl, refl), (refl, refl)));
}
