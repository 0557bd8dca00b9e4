use Rattle.linker_reading.proofs.Imports.{arith, rules, ◌<◌, ◌^◌}
use Rattle.linker_reading.proofs.Masked.{shifted_down, shifted_up}
use Rattle.linker_reading.proofs.recognise.fields.FieldBits.from_byte.Goals as goal

pub returns-then-above-lt8 : goal.returns-then-above-lt8
returns-then-above-lt8 c i j h k =
    let small : c.args.self.now.bits < 2 ^ 64 = search rules in
    shifted_up c.args.self.now c.args.byte i j small (omega (arith, c.if-byte-self.true)) h k

pub returns-then-below-lt8 : goal.returns-then-below-lt8
returns-then-below-lt8 c i j h k =
    let small : c.args.self.now.bits < 2 ^ 64 = search rules in
    shifted_down c.args.self.now c.args.byte i j small (omega (arith, c.if-byte-self.false))
