-- Known bits of numbers.
use Rattle.linker_reading.specs.Imports.{FieldValue, None, Option, Some, cast_unsigned}
use Rattle.linker_reading.specs.Imports.{difference_64, field, sum_64, w64, ℕ, ℤ}
use Rattle.std.specs.Prelude.{◌≡◌, ◌-◌, ◌^◌, ◌<◌, ◌≤◌, ◌==◌, ◌&&◌, if◌then◌else◌}

-- The number has the known bits.
abbrev pub FieldHolds : FieldValue → ℕ → Type 0
FieldHolds f n = field (sum_64 n f.rounding) f.known.start f.known.end ≡ f.bits

-- The value, of which addresses are modulo 2 ^ 64, has the known bits.
abbrev pub IsOfValue : FieldValue → ℤ → Type 0
IsOfValue f v = FieldHolds f (cast_unsigned w64 v)

-- Some bits of 64 are known, and no others are set.
pub record IsProper (f : FieldValue) : Type 0 where
  pub some : f.known.start < f.known.end
  pub inside : f.known.end ≤ 64
  pub small : f.bits < 2 ^ (f.known.end - f.known.start)

-- the number, if all of its bits are known
abbrev pub whole_number : FieldValue → Option ℕ
whole_number f =
    if f.known.start == 0 && f.known.end == 64 then Some (difference_64 f.bits f.rounding) else None
