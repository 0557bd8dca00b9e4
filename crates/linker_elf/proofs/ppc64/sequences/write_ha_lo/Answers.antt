use Rattle.linker_elf.proofs.Imports.{ap, field, from_le_bytes, rules, w32, ◌∙◌}
use Rattle.linker_elf.proofs.Ppc64Pairs.{d_kept, pair_holds}
use Rattle.linker_elf.proofs.ppc64.sequences.write_ha_lo.Goals as goal

pub returns-clause-ha_kept : goal.returns-clause-ha_kept
returns-clause-ha_kept c = d_kept c.extract_bit_range-high.result c.args.ha.now c.write_to_value.new.dest c.write_to_value.ensures.written c.write_to_value.ensures.rest

pub returns-clause-lo_kept : goal.returns-clause-lo_kept
returns-clause-lo_kept c = d_kept c.low_bits.result c.args.lo.now c.write_to_value-2.new.dest c.write_to_value-2.ensures.written c.write_to_value-2.ensures.rest

pub returns-clause-pair : goal.returns-clause-pair
returns-clause-pair c =
    pair_holds c.args.value c.extract_bit_range-high.result c.low_bits.result
    (from_le_bytes w32 c.args.ha.now) (from_le_bytes w32 c.args.lo.now) (from_le_bytes w32 c.write_to_value.new.dest) (from_le_bytes w32 c.write_to_value-2.new.dest)
    c.ranges.value.fits
    (c.extract_bit_range-high.ensures ∙ ap (λ n. field n 16 32) (search rules)) c.low_bits.ensures
    c.write_to_value.ensures.machine c.write_to_value-2.ensures.machine
