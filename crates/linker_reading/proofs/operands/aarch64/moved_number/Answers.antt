use Rattle.linker_reading.proofs.Imports.{ap, bit_at, cast_unsigned, eqb, false, field, moved_value, ne_eqb, shift_of, sym, true, w64, ◌%◌, ◌*◌, ◌-◌, ◌^◌, ◌∙◌, ◌≡◌}
use Rattle.linker_reading.proofs.AArch64Numbers.{moved_held}
use Rattle.linker_reading.proofs.operands.aarch64.moved_number.Goals as goal

pub returns-then-extract_bit-eq0 : goal.returns-then-extract_bit-eq0
returns-then-extract_bit-eq0 c =
    let is : eqb (bit_at c.args.word 30) 0 ≡ true =
    ap (λ y. eqb y 0) (sym c.extract_bit.ensures ∙ c.if-extract_bit-eq0.true) in
    ap (λ y. 2 ^ 64 - 1 - y * 2 ^ (16 * c.extract_bit_range-2.result) % 2 ^ 64) c.extract_bit_range.ensures
    ∙ ap (λ y. 2 ^ 64 - 1 - field c.args.word 5 21 * 2 ^ (16 * y) % 2 ^ 64) c.extract_bit_range-2.ensures
    ∙ moved_held c.args.word true
    ∙ ap (λ b. cast_unsigned w64 (moved_value b (field c.args.word 5 21) (shift_of c.args.word))) (sym is)

pub returns-else-extract_bit-eq0 : goal.returns-else-extract_bit-eq0
returns-else-extract_bit-eq0 c =
    let is : eqb (bit_at c.args.word 30) 0 ≡ false =
    ne_eqb (bit_at c.args.word 30) 0 (λ e. c.if-extract_bit-eq0.false (c.extract_bit.ensures ∙ e)) in
    ap (λ y. y * 2 ^ (16 * c.extract_bit_range-2.result) % 2 ^ 64) c.extract_bit_range.ensures
    ∙ ap (λ y. field c.args.word 5 21 * 2 ^ (16 * y) % 2 ^ 64) c.extract_bit_range-2.ensures
    ∙ moved_held c.args.word false
    ∙ ap (λ b. cast_unsigned w64 (moved_value b (field c.args.word 5 21) (shift_of c.args.word))) (sym is)
