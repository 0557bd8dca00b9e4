use Rattle.linker_elf.proofs.Imports.{field, ◌≡◌}
use Rattle.linker_elf.proofs.LoongArchAddresses.{first_of_five, high_of_five}
use Rattle.linker_elf.proofs.LoongArchSequences.{makes_address}
use Rattle.linker_elf.proofs.loongarch64.sequences.write_address_sequence.Goals as goal

pub returns : goal.returns
returns c =
    let first : c.extract_bit_range.result ≡ first_of_five c.args.pc c.args.target = cc in
    let low : c.extract_bit_range-2.result ≡ field c.args.target 0 12 = c.extract_bit_range-2.ensures in
    let middle : c.extract_bit_range-3.result ≡ field (high_of_five c.args.pc c.args.target) 32 52 = cc in
    let upper : c.extract_bit_range-4.result ≡ field (high_of_five c.args.pc c.args.target) 52 64 = cc in
    makes_address c.args.dest.now c.write_20_bits.new.dest c.write_12_bits.new.dest c.write_20_bits-2.new.dest c.write_12_bits-2.new.dest
    c.args.pc c.args.target c.extract_bit_range.result c.extract_bit_range-2.result c.extract_bit_range-3.result c.extract_bit_range-4.result
    c.ranges.pc.fits c.ranges.target.fits
    c.write_20_bits.ensures c.write_12_bits.ensures c.write_20_bits-2.ensures c.write_12_bits-2.ensures
    first low middle upper
