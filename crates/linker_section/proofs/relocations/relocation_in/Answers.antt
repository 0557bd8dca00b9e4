use Rattle.linker_section.proofs.Imports.{arith, drop, length-drop, length-take-le, refl, take_rest, ◌*◌}
use Rattle.linker_section.proofs.relocations.relocation_in.Goals as goal

pub returns : goal.returns
returns c =
    rw (c.relocation_of.ensures, take_rest c.args.relocations.now (c.args.index * 24)) refl

pub relocation_of-requires : goal.relocation_of-requires
relocation_of-requires c =
    let bytes = c.args.relocations.now in
    let start = c.args.index * 24 in
    rw (take_rest bytes start) (length-take-le 24 (drop start bytes) (omega (arith, length-drop start bytes, c.requires)))
