use Rattle.linker_utils_c.proofs.Imports.{UnknownArchitecture, refl, sym, ◌∙◌}
use Rattle.linker_utils_c.proofs.forms.form_of.Goals as goal

pub returns-in-None : goal.returns-in-None
returns-in-None c = (UnknownArchitecture, rw (sym c.from_machine.ensures ∙ c.in-None.is) refl, refl)
