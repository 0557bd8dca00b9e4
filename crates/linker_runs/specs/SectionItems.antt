-- The items that the relocations of a section make, by its machine.
use Rattle.linker_runs.specs.Imports.{Item, List, LoongArch64, Machine, Relocation, RiscV, ℕ}
use Rattle.linker_runs.specs.LoongArchItems.{LoongArchMakes, IsLoongArchFormed}
use Rattle.linker_runs.specs.RiscVItems.{RiscVMakes, IsRiscVFormed}

-- the item that the relocation at an index makes, where the section begins at an input offset
abbrev pub Makes : Machine → List ℕ → ℕ → List Relocation → ℕ → Item → Type 0
Makes (RiscV isa) section base relocations i item =
    RiscVMakes (RiscV isa) section base relocations i item
Makes LoongArch64 section base relocations i item = LoongArchMakes section base relocations i item

-- a relocation is what the psABI allows
abbrev pub IsFormed : Machine → List ℕ → Relocation → Type 0
IsFormed (RiscV _) section relocation = IsRiscVFormed section relocation
IsFormed LoongArch64 section relocation = IsLoongArchFormed section relocation
