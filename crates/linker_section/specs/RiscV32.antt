-- Relocations of RV32 (ELF specification, "Relocation"; the letters of `Elf32_Rela` are `r_offset`,
-- `r_info` and `r_addend`, each of 4 bytes, little-endian), and the addends by which RV64's
-- relocations write what RV32's do: its addresses are modulo 2^32 (RISC-V unprivileged ISA, "RV32I
-- Base Integer Instruction Set").
use Rattle.std.specs.Prelude.{◌≡◌, ◌<◌, ℕ, ℤ, pos, ◌*◌, ◌/◌, ◌%◌, ◌^◌, ◌≤ℤ◌, ◌<ℤ◌, ◌+ℤ◌}
use Rattle.std.specs.Prelude.{if◌then◌else◌, List, length, take, drop, Option, Some, None, Result}
use Rattle.std.specs.Prelude.{Ok}
use Rattle.linker_section.specs.Imports.{Addresses, IsRow, Rela, RowInfo, Symbol, ValueError}
use Rattle.linker_section.specs.Imports.{cast_signed, cast_unsigned, difference_64, from_le_bytes}
use Rattle.linker_section.specs.Imports.{int_rem_euclid, sum_64, w32, w64}
use Rattle.linker_elf.specs.Reach.{reach_of}
use Rattle.linker_elf.specs.Rows.{Bounds}
use Rattle.linker_elf.specs.declared.elf.architecture.Architecture.TheVariants.{RiscV}
use Rattle.linker_section.specs.Relocations.{relocation_in}
use Rattle.linker_section.specs.Values.{names_label, own_value}

-- what 12 bytes are: the type is the low byte of `r_info`
abbrev pub relocation32_of : List ℕ → Rela
relocation32_of bytes =
    record {
      offset = from_le_bytes w32 bytes;
      r_type = from_le_bytes w32 (drop 4 bytes) % 256;
      symbol = from_le_bytes w32 (drop 4 bytes) / 256;
      addend = cast_signed w32 (from_le_bytes w32 (drop 8 bytes));
    }

-- the relocation at an index of such a section
abbrev pub relocation32_in : List ℕ → ℕ → Rela
relocation32_in bytes i = relocation32_of (take 12 (drop (i * 12) bytes))

-- all of them are the first relocations of others, of which every byte after them is unchanged
pub record AreCopied (entries before after : List ℕ) : Type 0 where
  pub each : (n : ℕ) → n < length entries / 12
      → relocation_in after n ≡ relocation32_in entries n
  pub rest : drop (length entries / 12 * 24) after ≡ drop (length entries / 12 * 24) before
  pub same_length : length after ≡ length before

-- The number is the value modulo 2^32, and no such number is less from `least` on: each other one
-- is at least 2^32 away.
pub record IsLeastFrom (least value number : ℤ) : Type 0 where
  pub from : least ≤ℤ number
  pub below : number <ℤ (least +ℤ pos (2 ^ 32))
  pub same : int_rem_euclid number (pos (2 ^ 32)) ≡ int_rem_euclid value (pos (2 ^ 32))

abbrev pub least_in : Bounds → Option ℤ
least_in None = None
least_in (Some bounds) = Some (bounds.0)

-- The least value that a row can hold. None where it takes bits of any value, and of a low part,
-- whose value is its high part's.
abbrev pub held_from : RowInfo → Option ℤ
held_from row = if names_label row.size row.kind then None else least_in (reach_of row)

-- another addend, by which the value becomes another one
abbrev pub with_value : Rela → ℤ → ℤ → Rela
with_value r value wanted =
    let more : ℕ = difference_64 (cast_unsigned w64 wanted) (cast_unsigned w64 value)
    in record r { addend = cast_signed w64 (sum_64 (cast_unsigned w64 r.addend) more) }

abbrev pub IsWrappedTo : Option ℤ → Rela → Result (Option ℤ) ValueError → Rela → Type 0
IsWrappedTo (Some least) r (Ok (Some value)) after =
    (number : ℤ) × IsLeastFrom least value number × (after ≡ with_value r value number)
IsWrappedTo held r result after = after ≡ r

abbrev pub IsWrappedBy : Addresses → List Symbol → Rela → Option RowInfo → Rela → Type 0
IsWrappedBy addresses symbols r None after = after ≡ r
IsWrappedBy addresses symbols r (Some row) after =
    IsWrappedTo (held_from row) r (own_value RiscV addresses symbols row r) after

-- a relocation before and after its addend is wrapped
abbrev pub IsWrapped : Addresses → List Symbol → Rela → Rela → Type 0
IsWrapped addresses symbols r after =
    (row : Option RowInfo) × IsRow RiscV r.r_type row
    × IsWrappedBy addresses symbols r row after

-- all of a section's; what is after the last whole one is unchanged
pub record AreWrapped (addresses : Addresses) (symbols : List Symbol) (before after : List ℕ)
    : Type 0 where
  pub each : (n : ℕ) → n < length before / 24
      → IsWrapped addresses symbols (relocation_in before n) (relocation_in after n)
  pub rest : drop (length before / 24 * 24) after ≡ drop (length before / 24 * 24) before
  pub same_length : length after ≡ length before
