use Rattle.linkfix.proofs.Imports.{AllDigits, digits_value, digits_value_after, drop, ◌<◌, ◌^◌, ◌≡◌}
use Rattle.linkfix.proofs.commands.parse_number.Given as goal

-- the digits so far write the value, and the word is one of digits where its rest is
abbrev pub invariant-loop-byte : goal.invariant-loop-byte
invariant-loop-byte l = record {
  small : l.value < 2 ^ 63;
  value : digits_value_after 10 l.value (drop l.byte-index l.word) ≡ digits_value 10 l.word;
  needed : AllDigits 10 l.word → AllDigits 10 (drop l.byte-index l.word);
  enough : AllDigits 10 (drop l.byte-index l.word) → AllDigits 10 l.word;
}
