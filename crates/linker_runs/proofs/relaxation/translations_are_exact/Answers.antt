use Rattle.linker_runs.proofs.Translations.{translations_exact}
use Rattle.linker_runs.proofs.relaxation.translations_are_exact.Goals as goal

pub returns : goal.returns
returns c = translations_exact
