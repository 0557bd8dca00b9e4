-- The words of AArch64: by computation.
use Rattle.linker_final.proofs.Imports.{AllPass, made_high, place_sum, refl}
use Rattle.linker_final.specs.AArch64Executed.{passes}
use Rattle.linker_final.specs.AArch64Steps.{aarch64_groups}
use Rattle.linker_final.specs.AArch64Table.{add_words, adr_words, bcond_words, jumpcall_words, ldr_words, ldrregister_words, ldst_words, macholow12_words, moves_words, movkz_words, movnz_words, page_words, tstbr_words}
use Rattle.linker_final.proofs.emulated.aarch64.Goals as goal

pass : AllPass (made_high 4) passes aarch64_groups
unfolding place_sum aarch64_groups
pass = refl

pub returns : goal.returns
unfolding place_sum adr_words movkz_words movnz_words ldr_words ldrregister_words add_words ldst_words tstbr_words bcond_words jumpcall_words macholow12_words moves_words page_words
returns c = record {
  agrees = (refl, refl, refl, refl, refl, refl, refl, refl, refl, refl, refl, refl, refl);
  steps = pass;
}
