use Rattle.linkfix.proofs.Imports.{arith, digit_value, drop, drop-cons, get_or, length, suc, ◌*◌, ◌+◌, ◌<◌}
use Rattle.std.proofs.lemmas.Str.{digit_value_digit}
use Rattle.linkfix.proofs.Digits.{digits_value_after-grows}
use Rattle.linkfix.proofs.commands.parse_number.Goals as goal

-- the number is too great with the next digit, and the digits after it make it no smaller
pub returns-then-value-digit : goal.returns-then-value-digit
returns-then-value-digit c =
    let word = c.args.word.now in
    let i = c.loop-byte.byte-index in
    let value = c.loop-byte.value in
    let here : i < length word = c.loop-byte-test.true in
    let digit = digit_value_digit (get_or word i 0) c.if-not-is_ascii_digit.ensures.cases in
    let number = rw (drop-cons word i 0) at c.loop-byte.invariant.value in
    let grows = digits_value_after-grows (value * 10 + digit_value (get_or word i 0)) (drop (suc i) word) in
    let taken = c.from-digit.ensures in
    let great = c.if-value-digit.true in
    λ h. let below = h.1 in omega (arith, grows, number, taken, great, digit, below)
