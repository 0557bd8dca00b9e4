-- What definitions of forms say that the machine reads from words, compared with what an emulator
-- made of them.
use Rattle.std.specs.Prelude.{◌≡◌, ℕ, ◌-◌, ◌==◌, ◌%◌, ◌^◌, true, List, map, ◌++◌, ℤ, pos, ◌*ℤ◌}
use Rattle.linker_final.specs.Imports.{cast_unsigned, list_all, w64}

-- Words of one instruction, each with the number of 64 bits that came of it. What is read counts
-- units of it, and n of its low bits are compared.
pub record Words : Type 0 where
  pub unit : ℕ
  pub bits : ℕ
  pub rows : List (ℕ × ℕ)

-- with the numbers below 2 ^ 63 that came of words, and how far the other ones are below 2 ^ 64
abbrev pub words : ℕ → ℕ → List (ℕ × ℕ) → List (ℕ × ℕ) → Words
words unit bits rows below =
    record { unit = unit; bits = bits; rows = rows ++ map (λ row. (row.0, 2 ^ 64 - row.1)) below }

-- What the definitions read of each word is what the emulator made of it.
abbrev pub IsComputed : (ℕ → ℤ) → List Words → Type 0
IsComputed reads tables =
    list_all (λ (words : Words). list_all (λ row.
    cast_unsigned w64 (reads row.0 *ℤ pos words.unit) % 2 ^ words.bits == row.1 % 2 ^ words.bits)
    words.rows) tables ≡ true
