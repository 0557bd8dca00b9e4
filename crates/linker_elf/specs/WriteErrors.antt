-- What is said of a value that isn't written.
use Rattle.linker_elf.specs.Imports.{RelocateError, cast_signed, cast_unsigned, w64}
use Rattle.std.specs.Prelude.{None, Some, neg_ℤ, pos, ℤ, ◌^◌, ◌-◌}
use Rattle.linker_elf.specs.Reach.{reach_of}
use Rattle.linker_elf.specs.Rows.{Bounds}
use Rattle.linker_elf.specs.Value.{difference_64}
use Rattle.linker_elf.specs.declared.elf.RowInfo.{RowInfo}
use Rattle.linker_elf.specs.declared.elf.relocate.WriteError.{WriteError}

-- the least number within bounds, and the last one, which is before their end; of no bounds those
-- of 64 bits
abbrev pub least_within : Bounds → ℤ
least_within None = neg_ℤ (pos (2 ^ 63))
least_within (Some b) = b.0

abbrev pub greatest_within : Bounds → ℤ
greatest_within None = pos (2 ^ 63 - 1)
greatest_within (Some b) = cast_signed w64 (difference_64 (cast_unsigned w64 b.1) 1)

abbrev pub write_error : RowInfo → ℤ → RelocateError → WriteError
write_error row value error =
    record {
      error = error;
      value = value;
      least = least_within (reach_of row);
      greatest = greatest_within (reach_of row);
      alignment = row.alignment;
    }
