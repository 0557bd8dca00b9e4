-- Runs of bits of a number, and numbers in two's complement.
use Rattle.std.specs.Prelude.{◌≡◌, ℕ, ℤ, pos, ◌-◌, ◌/◌, ◌%◌, ◌^◌, ◌-ℤ◌, ◌<◌, ◌≤◌, nat_lt}
use Rattle.std.specs.Prelude.{if◌then◌else◌}
use Rattle.std.specs.Int.{w64, cast_unsigned, int_div_euclid, int_rem_euclid}
use Rattle.std.specs.Int.RustNames.{FitsSigned}

-- bits s and up, below bit e, of v
abbrev pub field : ℕ → ℕ → ℕ → ℕ
field v s e = v / 2 ^ s % 2 ^ (e - s)

-- f, of n bits, read in two's complement
abbrev pub signed : ℕ → ℕ → ℤ
signed n f = if nat_lt f (2 ^ (n - 1)) then pos f else pos f -ℤ pos (2 ^ n)

-- f is bits s and up, below bit e, of v; those of a negative v are floor(v / 2^s) mod 2^(e-s)
abbrev pub IsFieldOf : ℤ → ℕ → ℕ → ℕ → Type 0
IsFieldOf v s e f = pos f ≡ int_rem_euclid (int_div_euclid v (pos (2 ^ s))) (pos (2 ^ (e - s)))

-- the bits of a number's two's complement are those of the number
abbrev pub TwosComplementKeepsFields : Type 0
TwosComplementKeepsFields =
    (v : ℤ) (s e : ℕ) → FitsSigned w64 v → s < e → e ≤ 64
    → IsFieldOf v s e (field (cast_unsigned w64 v) s e)
