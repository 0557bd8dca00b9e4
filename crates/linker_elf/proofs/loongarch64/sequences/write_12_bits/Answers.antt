use Rattle.linker_elf.proofs.Imports.{drop, from_le_bytes, rules, take, w32, ◌+◌, ◌-◌}
use Rattle.linker_elf.proofs.LoongArch.{shift10_field}
use Rattle.linker_elf.proofs.LoongArchSequences.{set_at, shift10_keeps}
use Rattle.linker_elf.proofs.loongarch64.sequences.write_12_bits.Goals as goal

pub returns : goal.returns
returns c =
    let old = from_le_bytes w32 (take (c.args.at + 4 - c.args.at) (drop c.args.at c.args.dest.now)) in
    let new = from_le_bytes w32 c.write_to_value.new.dest in
    set_at 10 22 c.args.at c.args.value c.args.dest.now c.write_to_value.new.dest c.requires.room (search rules)
    (shift10_field c.args.value old new c.requires.fits c.write_to_value.ensures.written)
    (shift10_keeps c.args.value old new c.requires.fits c.write_to_value.ensures.written)
