-- Sites whose shapes are those of the instructions that are there.
use Rattle.linker_runs.specs.Imports.{Aligned, Item, List, LoongArch64, Machine, RiscV, Shapes}
use Rattle.linker_runs.specs.Imports.{Site, length, true, ℕ, ⊤}
use Rattle.std.specs.Prelude.{◌≡◌, ◌+◌, ◌-◌, ◌≤◌, ◌⊎◌}
use Rattle.linker_runs.specs.declared.shapes.loongarch64.TheConstants.{CALL36, PCALA}
use Rattle.linker_runs.specs.declared.shapes.riscv64.TheConstants.{CALL, TAIL_C}
use Rattle.linker_runs.specs.RiscVItems.{IsCallAt, has_short_jump}
use Rattle.linker_runs.specs.LoongArchSites.{IsCall36At, IsPcalaAt}

-- A call of RISC-V is at the offset that can have the shapes. Only some can be
-- two bytes long.
abbrev pub HasRiscVShapes : Machine → List ℕ → ℕ → Shapes → Type 0
HasRiscVShapes machine section o shapes = IsCallAt section o × ((shapes ≡ CALL)
    ⊎ ((shapes ≡ TAIL_C) × (has_short_jump machine section o ≡ true)))

-- A site of LoongArch is at the offset, and has its shapes.
abbrev pub HasLoongArchShapes : List ℕ → ℕ → Shapes → Type 0
HasLoongArchShapes section o shapes = (IsCall36At section o × (shapes ≡ CALL36))
    ⊎ (IsPcalaAt section o × (shapes ≡ PCALA))

abbrev pub HasShapes : Machine → List ℕ → ℕ → Shapes → Type 0
HasShapes (RiscV isa) section o shapes = HasRiscVShapes (RiscV isa) section o shapes
HasShapes LoongArch64 section o shapes = HasLoongArchShapes section o shapes

-- A site is eight bytes of a section that begins at an input offset, of instructions that can have
-- its shapes.
abbrev pub HasItsInstructions : Machine → List ℕ → ℕ → Item → Type 0
HasItsInstructions machine section base (Site site) = (site.len ≡ 8) × (base ≤ site.offset)
    × (site.offset + 8 ≤ base + length section)
    × HasShapes machine section (site.offset - base) site.shapes
HasItsInstructions machine section base (Aligned alignment) = ⊤
