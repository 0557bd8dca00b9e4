-- RV32's instructions, compared with an emulator.
use Rattle.std.specs.Prelude.{Bool, nat_lt, ℕ, ◌+◌, ◌%◌, ◌^◌, ◌==◌, if◌then◌else◌, ◌*◌}
use Rattle.linker_final.specs.RiscV32.{step_32}
use Rattle.linker_final.specs.RiscV32Steps.{riscv32_groups}
use Rattle.linker_final.specs.RiscVExecuted.{begun, bytes_of, is_hart}
use Rattle.linker_final.specs.Steps.{AllPass, Executed, Group, Numbers, at, m0, noise, pc}

-- Registers and addresses have 32 bits, and register 0 is 0.
abbrev pub made_32 : ℕ → Numbers
made_32 row place =
    let number = noise 0x100000000 (256 * row + place) in
    if place == 0 then 0 else (
    if place == pc then 3 * 2 ^ 28 + 2 * (number % 2 ^ 26) else (
    if place == at then 2 ^ 30 + number % 2 ^ 26 else (
    if nat_lt place m0 then number % 2 ^ 32 else number)))

abbrev pub passes_32 : Group → Numbers → Executed → Bool
passes_32 g n e = is_hart n e (step_32 (bytes_of e.code) (begun n))

-- Each instruction leaves what the emulator did.
abbrev pub Agrees32 : Type 0
Agrees32 = AllPass made_32 passes_32 riscv32_groups
