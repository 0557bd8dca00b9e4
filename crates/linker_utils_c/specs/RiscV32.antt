-- Relocations of RV32, and the machine of its code, in the numbers that C sees.
use Rattle.std.specs.Prelude.{◌≡◌, ◌<◌, ◌≤◌, ◌/◌, ℕ, Bool, true, false, List, length, Option}
use Rattle.std.specs.Prelude.{None, Some, ◌+◌, ◌==◌, if◌then◌else◌}
use Rattle.linker_utils_c.specs.Imports.{Addresses, Architecture, Machine, RiscV, Success, Symbol}
use Rattle.linker_utils_c.specs.Imports.{TooShort, UnknownArchitecture, architecture_of}
use Rattle.linker_runs.specs.Machines.{machine_of}
use Rattle.linker_runs.specs.declared.packing.riscv32.Isa.TheVariants.{Rv32}
use Rattle.linker_runs.specs.declared.packing.Machine.TheVariants as machines
use Rattle.linker_section.specs.RiscV32.{AreCopied, AreWrapped}
use Rattle.linker_utils_c.specs.Status.{code}

-- ---- the machine of code

-- the machine of an architecture whose sections are packed
abbrev pub packed_as : Option Architecture → Option Machine
packed_as None = None
packed_as (Some architecture) = machine_of architecture

-- e_machine of RISC-V, and LINKER_UTILS_CLASS32
abbrev pub riscv32 : ℕ
riscv32 = 0xf3 + 0x8000

-- the machine by e_machine, where RV32 has a number of its own
abbrev pub packing_machine : ℕ → Option Machine
packing_machine machine =
    if machine == riscv32 then Some (machines.RiscV Rv32) else packed_as (architecture_of machine)

-- ---- relocations

-- whether files of ELFCLASS32 of an architecture have RV32's relocations
abbrev pub has_class32 : Option Architecture → Bool
has_class32 (Some RiscV) = true
has_class32 other = false

-- all are copied, or there is no room for them
pub record IsRela32Returned (of : Option Architecture) (entries before after : List ℕ) (status : ℕ)
    : Type 0 where
  pub unknown : has_class32 of ≡ false → (status ≡ code UnknownArchitecture) × (after ≡ before)
  pub short : has_class32 of ≡ true → length before / 24 < length entries / 12
      → (status ≡ code TooShort) × (after ≡ before)
  pub long : has_class32 of ≡ true → length entries / 12 ≤ length before / 24
      → (status ≡ code Success) × AreCopied entries before after

-- all are wrapped
pub record AreWrappedIfKnown (of : Option Architecture) (addresses : Addresses)
    (symbols : List Symbol) (before after : List ℕ) (status : ℕ) : Type 0 where
  pub unknown : has_class32 of ≡ false → (status ≡ code UnknownArchitecture) × (after ≡ before)
  pub known : has_class32 of ≡ true → (status ≡ code Success)
      × AreWrapped addresses symbols before after
