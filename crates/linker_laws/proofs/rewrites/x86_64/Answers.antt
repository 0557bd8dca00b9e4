-- Examples of what x86-64's instructions do.
use Rattle.linker_laws.proofs.Imports.{refl}
use Rattle.linker_laws.proofs.rewrites.x86_64.Goals as goal

pub returns-clause-decoding : goal.returns-clause-decoding
returns-clause-decoding c = (refl, refl)

pub returns-clause-states : goal.returns-clause-states
returns-clause-states c = ((refl, refl, refl), (refl, refl, refl, refl), (refl, refl, refl))
