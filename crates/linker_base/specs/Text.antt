-- Texts that a NUL ends.
use Rattle.std.specs.Prelude.{ℕ, ◌==◌, List}
use Rattle.std.specs.List.{before_first, after_first}
use Rattle.std.specs.Str.{encode_utf8_all}
use Rattle.bstr.specs.Utf8.{lossy_chars}

-- the bytes before the first NUL, as text: U+FFFD stands for each piece of them that is not UTF-8
abbrev pub text_before_nul : List ℕ → List ℕ
text_before_nul bytes = encode_utf8_all (lossy_chars (before_first (λ b. b == 0) bytes))

-- the bytes after the first NUL
abbrev pub after_nul : List ℕ → List ℕ
after_nul bytes = after_first (λ b. b == 0) bytes
