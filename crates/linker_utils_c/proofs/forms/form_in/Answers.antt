use Rattle.linker_utils_c.proofs.Imports.{UnknownArchitecture, refl}
use Rattle.linker_utils_c.proofs.forms.form_in.Goals as goal

pub returns-in-X86_64 : goal.returns-in-X86_64
returns-in-X86_64 c = (UnknownArchitecture, rw c.in-X86_64.is refl, refl)
