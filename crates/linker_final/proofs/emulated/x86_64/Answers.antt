-- The instructions of x86-64: by computation.
use Rattle.linker_final.proofs.Imports.{AllPass, made_high, refl}
use Rattle.linker_final.specs.X86Executed.{passes}
use Rattle.linker_final.specs.X86Steps.{x86_groups}
use lib.Count.{ones}
use Rattle.linker_final.proofs.emulated.x86_64.Goals as goal

pass : AllPass (made_high 1) passes x86_groups
unfolding x86_groups ones
pass = refl

pub returns : goal.returns
returns c = record { steps = pass }
