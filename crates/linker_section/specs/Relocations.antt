-- Relocations as ELF files have them (ELF specification, "Relocation"; the letters of `Elf64_Rela`
-- are `r_offset`, `r_info` and `r_addend`, each of 8 bytes, little-endian).
use Rattle.std.specs.Prelude.{ℕ, ◌*◌, ◌/◌, nat_lt, if◌then◌else◌, List, length, take, drop}
use Rattle.std.specs.Prelude.{Option, Some, None}
use Rattle.linker_section.specs.Imports.{Rela, cast_signed, from_le_bytes, w32, w64}

-- what 24 bytes are
abbrev pub relocation_of : List ℕ → Rela
relocation_of bytes =
    record {
      offset = from_le_bytes w64 bytes;
      r_type = from_le_bytes w32 (drop 8 bytes);
      symbol = from_le_bytes w32 (drop 12 bytes);
      addend = cast_signed w64 (from_le_bytes w64 (drop 16 bytes));
    }

-- the relocation at an index of a section of relocations, where there is one
abbrev pub relocation_in : List ℕ → ℕ → Rela
relocation_in bytes i = relocation_of (take 24 (drop (i * 24) bytes))

abbrev pub relocation_at : List ℕ → ℕ → Option Rela
relocation_at bytes i =
    if nat_lt i (length bytes / 24) then Some (relocation_in bytes i) else None
