use Rattle.linker_final.proofs.Imports.{refl, rewriting}
use Rattle.linker_final.proofs.AArch64Worked.{has_groups, new_is_final}
use Rattle.linker_final.proofs.SectionRuns.{of_calls}
use Rattle.linker_final.proofs.worked.aarch64.Goals as goal

pub returns : goal.returns
returns c so =
    let by = c.is_linked.ensures so in (
      of_calls rewriting _ _ _ _ _ _ _ _ (λ l is. is) (c.is_relocated.ensures c.if-not-is_relocated.false) refl by,
      has_groups by.first by.second by.relocations_last by.last _ _ by.first_is by.second_is by.linked refl refl new_is_final,
    )
