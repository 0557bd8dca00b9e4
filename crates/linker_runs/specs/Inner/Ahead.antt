-- What a walk through relocations knows of those after the one where it stands.
use Rattle.linker_runs.specs.Imports.{List, LoongArch64, Machine, Relocation, RiscV, ℕ, ⊤}
use Rattle.std.specs.Prelude.{◌≤◌, ◌⊎◌}
use Rattle.linker_runs.specs.RiscVItems.{IsNextAlignment}

abbrev pub IsAhead : Machine → List Relocation → ℕ → ℕ → Type 0
IsAhead (RiscV _) relocations i known = IsNextAlignment relocations i known
IsAhead LoongArch64 relocations i known = ⊤

-- of RISC-V it may also be what the walk has passed
abbrev pub MayBeAhead : Machine → List Relocation → ℕ → ℕ → Type 0
MayBeAhead machine relocations i known = (known ≤ i) ⊎ IsAhead machine relocations i known
