-- What relocations are, by e_machine and r_type of ELF files, and what they mean in numbers.
use Rattle.std.specs.Prelude.{◌≡◌, ◌<◌, ◌≤◌, ◌++◌, ℕ, List, length, drop, Option, None, Some, Ok, ℤ}
use Rattle.std.specs.Prelude.{pos}
use Rattle.linker_utils_c.specs.Imports.{RowInfo, RowSize, Success, TooShort, UnknownRelocation}
use Rattle.linker_utils_c.specs.Imports.{flag_number, kind_number, mask_number, number_or_zero}
use Rattle.linker_elf.specs.declared.elf.RowSize.TheVariants.{ByteSize, BitMasking}
use Rattle.linker_elf.specs.ElfNames.{ElfName, named, unnamed}
use Rattle.linker_elf.specs.declared.elf.numbers.RelocationNumbers.{RelocationNumbers}
use Rattle.linker_utils_c.specs.Forms.{named_form}
use Rattle.linker_utils_c.specs.Status.{code}

-- where the value goes
abbrev pub IsSize : RowSize → RelocationNumbers → Type 0
IsSize (ByteSize n) numbers =
    (numbers.is_bits ≡ 0) × (numbers.byte_size ≡ n) × (numbers.first_bit ≡ 0)
    × (numbers.end_bit ≡ 0)
    × (numbers.machine ≡ 0) × (numbers.form ≡ 0)
IsSize (BitMasking range form) numbers =
    (numbers.is_bits ≡ 1) × (numbers.byte_size ≡ 0) × (numbers.first_bit ≡ range.start)
    × (numbers.end_bit ≡ range.end)
    × (named_form numbers.machine numbers.form ≡ Ok form)

-- which values are allowed
abbrev pub IsRange : Option (ℤ × ℤ) → RelocationNumbers → Type 0
IsRange None numbers = (numbers.has_range ≡ 0) × (numbers.min ≡ pos 0) × (numbers.max ≡ pos 0)
IsRange (Some bounds) numbers =
    (numbers.has_range ≡ 1) × (numbers.min ≡ bounds.0) × (numbers.max ≡ bounds.1)

-- what a relocation means, in numbers
pub record InNumbers (info : RowInfo) (numbers : RelocationNumbers) : Type 0 where
  pub kind : numbers.kind ≡ kind_number info.kind
  pub size : IsSize info.size numbers
  pub mask : numbers.mask ≡ mask_number info.mask
  pub range : IsRange info.range.bounds numbers
  pub alignment : numbers.alignment ≡ info.alignment
  pub bias : numbers.bias ≡ number_or_zero info.bias
  pub thunkable : numbers.thunkable ≡ flag_number info.thunkable
  pub implicit_addend : numbers.implicit_addend ≡ flag_number info.implicit_addend

-- a text is written to the beginning of bytes, with its length, if they have room for it
pub record IsCopied (text before after : List ℕ) (used_before used status : ℕ) : Type 0 where
  pub fits : length text ≤ length before
      → (status ≡ code Success) × (after ≡ text ++ drop (length text) before) × (used ≡ length text)
  pub short : length before < length text
      → (status ≡ code TooShort) × (after ≡ before) × (used ≡ used_before)

abbrev pub IsNameCopied : ElfName → List ℕ → List ℕ → ℕ → ℕ → ℕ → Type 0
IsNameCopied (named r_type text) before after used_before used status =
    IsCopied text before after used_before used status
IsNameCopied (unnamed r_type) before after used_before used status =
    (status ≡ code UnknownRelocation) × (after ≡ before) × (used ≡ used_before)
