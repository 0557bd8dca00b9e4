-- The words of PowerPC64: by computation.
use Rattle.linker_final.proofs.Imports.{AllPass, made_low, place_sum, refl}
use Rattle.linker_final.specs.Ppc64Executed.{passes}
use Rattle.linker_final.specs.Ppc64Steps.{ppc64_groups}
use Rattle.linker_final.specs.Ppc64Table.{branch14_words, branch24_words, d_words, dq_words, ds_words, dunsigned_words, halves_words, prefixed_words, quarters_words, unadjusted_words}
use lib.Count.{count_leading_zeros}
use Rattle.linker_final.proofs.emulated.ppc64.Goals as goal

pass : AllPass made_low passes ppc64_groups
unfolding place_sum ppc64_groups count_leading_zeros
pass = refl

pub returns : goal.returns
unfolding place_sum d_words ds_words dq_words branch14_words branch24_words prefixed_words dunsigned_words halves_words unadjusted_words quarters_words
returns c = record {
  agrees = (refl, refl, refl, refl, refl, refl, refl, refl, refl, refl);
  steps = pass;
}
