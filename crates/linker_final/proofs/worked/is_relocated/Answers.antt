use Rattle.linker_final.proofs.Imports.{AreWritten, subst}
use Rattle.std.proofs.lemmas.Bool.Decides.{Decides-eqb}
use Rattle.std.proofs.lemmas.Slice.Eq.{slice_eq-Decides}
use Rattle.linker_final.proofs.worked.is_relocated.Goals as goal

pub returns-in-Ok : goal.returns-in-Ok
returns-in-Ok c so =
    let known = c.args.known.now in
    subst (AreWritten known.architecture known.addresses c.args.relocations.now known.symbols.now c.args.section.now)
    ((slice_eq-Decides Decides-eqb _ _ _ c.eq.ensures).0 so) c.in-Ok.ensures.fields
