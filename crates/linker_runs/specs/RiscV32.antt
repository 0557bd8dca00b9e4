-- RV32: its short calls (RISC-V unprivileged ISA, "C" and "Zca", "Control Transfer Instructions").
use Rattle.linker_runs.specs.Imports.{Bool, Machine, RiscV, Rv32, ℕ}
use Rattle.std.specs.Prelude.{◌==◌, ◌||◌}

-- the registers that a jump of two bytes links: x0 with `c.j`, and x1 with RV32's `c.jal`
abbrev pub links_short : Machine → ℕ → Bool
links_short (RiscV Rv32) link = link == 0 || link == 1
links_short machine link = link == 0
