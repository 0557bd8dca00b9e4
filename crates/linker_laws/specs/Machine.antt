-- What the machines have in common: sums of 64 bits, bytes of memory, and code to which a
-- relocation was applied.
use Rattle.std.specs.Prelude.{ℕ, zero, suc, ◌+◌, ◌*◌, ◌^◌, ◌<◌, ℤ, pos, ◌+ℤ◌, nat_lt, List, length}
use Rattle.std.specs.Prelude.{◌≡◌, take, Option, IsSomeAnd, All, if◌then◌else◌, unsigned_abs}
use Rattle.linker_laws.specs.Imports.{IsApplied, Operands, Rewrite, RowInfo, cast_unsigned}
use Rattle.linker_laws.specs.Imports.{difference_64, field, from_le_bytes, int_rem_euclid, signed}
use Rattle.linker_laws.specs.Imports.{sum_64, w32, w64}

-- ---- numbers

-- a number modulo 2 ^ 64
abbrev pub wrapped : ℤ → ℕ
wrapped z = unsigned_abs (int_rem_euclid z (pos (2 ^ 64)))

-- an address, or a register's number, plus a signed one, modulo 2 ^ 64
abbrev pub moved : ℕ → ℤ → ℕ
moved n z = wrapped (pos n +ℤ z)

-- n bits in two's complement, extended to 64
abbrev pub extended : ℕ → ℕ → ℕ
extended n v = cast_unsigned w64 (signed n v)

-- ---- memory

-- a byte by each address
abbrev pub Memory : Type 0
Memory = ℕ → ℕ

-- the little-endian number of n bytes from an address on
abbrev pub loaded : ℕ → Memory → ℕ → ℕ
loaded zero memory address = 0
loaded (suc n) memory address =
    memory address + 256 * loaded n memory (sum_64 address 1)

-- the memory after the low n bytes of a number are stored from an address on
abbrev pub stored : ℕ → ℕ → ℕ → Memory → Memory
stored n number address memory at =
    let k = difference_64 at address in
    if nat_lt k n then field number (8 * k) (8 * k + 8) else memory at

-- ---- code

-- the word of an instruction's bytes
abbrev pub word_of : List ℕ → ℕ
word_of bytes = from_le_bytes w32 bytes

-- Bytes begin with what a rewrite leaves of the window that they began with.
abbrev pub BeginsRewritten : Rewrite → List ℕ → List ℕ → Type 0
BeginsRewritten r before after = take r.len after ≡ r.bytes (take r.len before)

abbrev pub AreBytes : List ℕ → Type 0
AreBytes code = All (λ byte. byte < 2 ^ 8) code

-- The code is what was there, with the relocation's value written where it begins.
pub record Relocated (row : Option RowInfo) (o : Operands) (before code : List ℕ)
    : Type 0 where
  pub applied : IsSomeAnd row (λ row. IsApplied row o before code)
  pub len : length code ≡ length before
  pub old_bytes : AreBytes before
  pub bytes : AreBytes code
