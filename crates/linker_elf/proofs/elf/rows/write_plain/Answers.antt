use Rattle.linker_elf.proofs.Imports.{InstructionWritten, IsWritten, info_of, is_plain, subst, sym, to_z-of_z, true, w64, ◌≡◌}
use Rattle.linker_elf.proofs.PlainRows.{takes, written}
use Rattle.linker_elf.proofs.elf.rows.write_plain.Goals as goal

pub returns-in-RiscV : goal.returns-in-RiscV
returns-in-RiscV c =
    let entry = c.args.entry.now in
    let before = c.args.dest.now in
    let after = c.write_field.new.dest in
    let bits = c.in-BitMasking.range in
    let insn = c.in-BitMasking.insn in
    let plain = (takes (info_of entry) c.requires.takes).plain in
    subst (λ s. IsWritten s entry.kind c.args.value before after) (sym c.in-BitMasking.is)
    (written bits insn entry.kind c.args.value before after
    (subst (λ s. is_plain s entry.kind ≡ true) c.in-BitMasking.is plain)
    (subst (λ v. InstructionWritten insn bits v before after) (to_z-of_z w64 c.args.value c.ranges.value)
    c.write_field.ensures))
