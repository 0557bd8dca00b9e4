-- The words of LoongArch: by computation.
use Rattle.linker_final.proofs.Imports.{AllPass, place_sum, refl}
use Rattle.linker_final.specs.LoongArchExecuted.{made, passes}
use Rattle.linker_final.specs.LoongArchSteps.{loongarch_groups}
use Rattle.linker_final.specs.LoongArchTable.{address_words, branch21_words, branch26_words, call36_words, four_words, low12_words, near_words, parts_words, reach_words, shift10_words, shift5_words, upper_words}
use Rattle.linker_final.proofs.emulated.loongarch64.Goals as goal

pass : AllPass made passes loongarch_groups
unfolding place_sum loongarch_groups
pass = refl

pub returns : goal.returns
unfolding place_sum shift5_words shift10_words low12_words branch21_words branch26_words call36_words reach_words parts_words upper_words four_words near_words address_words
returns c = record {
  agrees = (refl, refl, refl, refl, refl, refl, refl, refl, refl, refl, refl, refl);
  steps = pass;
}
