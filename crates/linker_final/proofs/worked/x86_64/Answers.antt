use Rattle.linker_final.proofs.Imports.{refl}
use Rattle.linker_final.specs.X86Section.{rewriting}
use Rattle.linker_final.proofs.SectionRuns.{of_calls}
use Rattle.linker_final.proofs.worked.x86_64.Goals as goal

pub returns : goal.returns
returns c so =
    of_calls rewriting _ _ _ _ _ _ _ _ (λ l is. is) (c.is_relocated.ensures c.if-not-is_relocated.false) refl
    (c.is_linked.ensures so)
