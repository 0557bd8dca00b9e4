use Rattle.linker_reading.proofs.Imports.{ap, cast_unsigned, field, from_le_bytes, signed, w64, ◌%◌, ◌^◌, ◌∙◌}
use Rattle.linker_reading.proofs.LoongArchNumbers.{shift5_held, shift10_held, call36_held}
use Rattle.linker_reading.proofs.reading.loongarch64.number.Goals as goal

pub returns-in-Shift5 : goal.returns-in-Shift5
returns-in-Shift5 c =
    rw c.in-Shift5.is (shift5_held _ c.read.result.0 c.low_bits_signed.result
    (rw c.in-Shift5.is at c.read.ensures.number) c.low_bits_signed.ensures)

pub returns-in-Shift10 : goal.returns-in-Shift10
returns-in-Shift10 c =
    rw c.in-Shift10.is (shift10_held _ c.extract_bit_range.result c.low_bits_signed-in-Shift10.result
    (c.extract_bit_range.ensures ∙ ap (λ y. field y 10 26) c.u32_from_slice-word.ensures)
    c.low_bits_signed-in-Shift10.ensures)

pub returns-in-Call36 : goal.returns-in-Call36
returns-in-Call36 c =
    rw c.in-Call36.is (call36_held (from_le_bytes w64 c.args.bytes.now) c.low_bits_signed-high.result c.low_bits_signed-low.result
    (c.low_bits_signed-high.ensures ∙ ap (λ y. cast_unsigned w64 (signed 20 (y % 2 ^ 20)))
    (c.extract_bit_range-in-Call36.ensures ∙ ap (λ y. field y 5 25) c.u64_from_slice-pair.ensures))
    (c.low_bits_signed-low.ensures ∙ ap (λ y. cast_unsigned w64 (signed 16 (y % 2 ^ 16)))
    (c.extract_bit_range-in-Call36-2.ensures
    ∙ ap (λ y. field y 42 58) c.u64_from_slice-pair.ensures)))
