-- The least and the last number within bounds.
use Rattle.std.specs.Prelude.{None, Some, int_lt, neg_ℤ, pos, ℤ, ◌-◌, ◌^◌, ◌-ℤ◌, if◌then◌else◌}
use Rattle.linker_elf.specs.Rows.{Bounds}

-- of a number of 64 signed bits; where nothing is within bounds, the least is above the last
abbrev pub least_within : Bounds → ℤ
least_within None = neg_ℤ (pos (2 ^ 63))
least_within (Some b) = if int_lt b.0 b.1 then b.0 else pos (2 ^ 63 - 1)

abbrev pub last_within : Bounds → ℤ
last_within None = pos (2 ^ 63 - 1)
last_within (Some b) = if int_lt b.0 b.1 then b.1 -ℤ pos 1 else neg_ℤ (pos (2 ^ 63))
