use Rattle.linker_reading.proofs.Imports.{ap, bit_at, field_mask, rules, ◌==◌, ◌∙◌, ◌≡◌}
use Rattle.linker_reading.proofs.FieldBits.{field_agrees}
use Rattle.linker_reading.proofs.recognise.fields.field_bits.Goals as goal

pub returns-in-ByteSize : goal.returns-in-ByteSize
returns-in-ByteSize c w h =
    let mask : c.number_bits.result ≡ field_mask c.args.row.now c.args.bytes.now = search rules in
    ap (λ n. bit_at n w == 1) mask ∙ field_agrees c.args.row.now c.args.bytes.now w h

pub returns-in-BitMasking : goal.returns-in-BitMasking
returns-in-BitMasking c w h =
    let mask : c.field_mask.result ≡ field_mask c.args.row.now c.args.bytes.now = search rules in
    ap (λ n. bit_at n w == 1) mask ∙ field_agrees c.args.row.now c.args.bytes.now w h
