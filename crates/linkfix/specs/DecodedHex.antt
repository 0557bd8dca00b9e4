-- A section as hexadecimal digits.
use Rattle.std.specs.Prelude.{ℕ, List, Option}
use Rattle.std.specs.Result.{result_ok}
use Rattle.hex.specs.Hex.{decode_of}

-- the bytes `16 * digit (2 k) + digit (2 k + 1)` of an even number of hexadecimal digits of either
-- case; None for any other text
abbrev pub decoded_hex : List ℕ → Option (List ℕ)
decoded_hex text = result_ok (decode_of text)
