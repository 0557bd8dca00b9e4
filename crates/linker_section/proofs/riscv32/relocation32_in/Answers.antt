use Rattle.linker_section.proofs.Imports.{arith, drop, length-drop, length-take-le, refl, take_rest, ◌*◌}
use Rattle.linker_section.proofs.riscv32.relocation32_in.Goals as goal

pub returns : goal.returns
returns c =
    rw (c.relocation32_of.ensures, take_rest c.args.entries.now (c.args.index * 12)) refl

pub relocation32_of-requires : goal.relocation32_of-requires
relocation32_of-requires c =
    let bytes = c.args.entries.now in
    let start = c.args.index * 12 in
    rw (take_rest bytes start) (length-take-le 12 (drop start bytes) (omega (arith, length-drop start bytes, c.requires)))
