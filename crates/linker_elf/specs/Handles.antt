-- Handles of relocations: numbers that name an architecture and a type.
use Rattle.linker_elf.specs.declared.elf.architecture.Architecture.{Architecture}
use Rattle.std.specs.Prelude.{None, Option, Some, nat_lt, ℕ, ◌≡◌, ◌%◌, if◌then◌else◌}
use Rattle.linker_elf.specs.declared.elf.RowInfo.{RowInfo}
use Rattle.linker_elf.specs.Architectures.{IsRow}
use Rattle.linker_elf.specs.declared.elf.architecture.Architecture.TheVariants as architectures

-- an architecture's handles are its first and those after it by a relocation's type, which is below
-- this number
abbrev pub handle_unit : ℕ
handle_unit = 0x10000

abbrev pub first_handle : Architecture → ℕ
first_handle architectures.RiscV = 0x10000
first_handle architectures.AArch64 = 0x20000
first_handle architectures.X86_64 = 0x30000
first_handle architectures.LoongArch64 = 0x40000
first_handle architectures.Ppc64 = 0x50000

-- the architecture whose handle a number is
abbrev pub architecture_in : ℕ → Option Architecture
architecture_in handle =
    if nat_lt handle 0x10000 then None
    else (if nat_lt handle 0x20000 then Some architectures.RiscV
    else (if nat_lt handle 0x30000 then Some architectures.AArch64
    else (if nat_lt handle 0x40000 then Some architectures.X86_64
    else (if nat_lt handle 0x50000 then Some architectures.LoongArch64
    else (if nat_lt handle 0x60000 then Some architectures.Ppc64
    else None)))))

-- what the type that it names means, if its architecture has a row of it
abbrev pub IsRowIn : Option Architecture → ℕ → Option RowInfo → Type 0
IsRowIn None r_type meaning = meaning ≡ None
IsRowIn (Some architecture) r_type meaning = IsRow architecture r_type meaning

abbrev pub IsRowOf : ℕ → Option RowInfo → Type 0
IsRowOf handle = IsRowIn (architecture_in handle) (handle % handle_unit)

-- the handle of a type with a row, and 0 of others
abbrev pub IsFound : Architecture → ℕ → Option RowInfo → ℕ → Type 0
IsFound architecture r_type None handle = handle ≡ 0
IsFound architecture r_type (Some row) handle =
    (architecture_in handle ≡ Some architecture) × (handle % handle_unit ≡ r_type)
