-- The words of RISC-V: by computation.
use Rattle.linker_final.proofs.Imports.{AllPass, place_sum, refl}
use Rattle.linker_final.specs.RiscVExecuted.{made, passes}
use Rattle.linker_final.specs.RiscVSteps.{riscv_groups}
use Rattle.linker_final.specs.RiscVTable.{btype_words, call_words, cbtype_words, cjtype_words, cluitype_words, itype_words, jtype_words, stype_words, uitype_words, utype_words}
use Rattle.linker_final.proofs.emulated.riscv64.Goals as goal

pass : AllPass made passes riscv_groups
unfolding place_sum riscv_groups
pass = refl

pub returns : goal.returns
unfolding place_sum utype_words itype_words stype_words btype_words jtype_words cbtype_words cjtype_words cluitype_words uitype_words call_words
returns c = record {
  agrees = (refl, refl, refl, refl, refl, refl, refl, refl, refl, refl);
  steps = pass;
}
