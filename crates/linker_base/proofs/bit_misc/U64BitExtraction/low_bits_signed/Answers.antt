use Rattle.linker_base.proofs.Imports.{mod_below, pow_pos, ◌%◌, ◌<◌, ◌^◌}
use Rattle.linker_base.proofs.Bits.{signed_bits}
use Rattle.linker_base.proofs.bit_misc.U64BitExtraction.low_bits_signed.Goals as goal

pub returns : goal.returns
returns c =
    let n = c.args.num_bits in
    let within : c.args.self % 2 ^ n < 2 ^ n = mod_below c.args.self (2 ^ n) (pow_pos n) in
    signed_bits n (c.args.self % 2 ^ n) c.sign_extend.result c.requires.not_empty c.requires.in_word within
    (rw c.low_bits.ensures at c.sign_extend.ensures.clear) (rw c.low_bits.ensures at c.sign_extend.ensures.set)
