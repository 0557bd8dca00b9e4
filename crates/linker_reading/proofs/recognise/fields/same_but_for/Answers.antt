use Rattle.linker_reading.proofs.Imports.{arith, refl}
use Rattle.linker_reading.proofs.Same.{same_but_row}
use Rattle.linker_reading.proofs.recognise.fields.same_but_for.Goals as goal

pub returns : goal.returns
returns c =
    let rule = same_but_row c.args.row.now c.args.a.now c.args.b.now
    (record { offset = 0; bits = c.field_bits.result }) (omega (arith, c.if-a-b.false)) (omega (arith, c.window.ensures)) refl c.field_bits.ensures in
    (λ h. rule.0 (c.are_same_but.ensures.0 h), λ h. c.are_same_but.ensures.1 (rule.1 h))
