-- LoongArch: the instructions of `linker_laws`, and those of lazy PLTs in `linker_output`, compared
-- with an emulator. Registers 32 to 63 are those of vectors.
use Rattle.std.specs.Prelude.{ℕ, ◌+◌, ◌-◌, ◌*◌, ◌/◌, ◌^◌, ◌==◌, ◌&&◌, nat_le, nat_lt, if◌then◌else◌}
use Rattle.std.specs.Prelude.{Bool, false}
use Rattle.linker_final.specs.Imports.{option_map_or}
use Rattle.linker_final.specs.LoongArchSteps.{loongarch_groups}
use Rattle.linker_final.specs.Steps.{AllPass, Executed, Group, Numbers, at, bytes_from, is_left}
use Rattle.linker_final.specs.Steps.{made_low, memory_in, noise, pc}
use Rattle.linker_laws.specs.LoongArchMachine.{Floats, State, read}
use Rattle.linker_output.specs.LoongArchLazyPlt.{step}

-- Register 0 is 0, and vectors have 256 bits.
abbrev pub made : ℕ → Numbers
made row place =
    if place == 0 then 0 else (
    if nat_le 32 place && nat_lt place 64
    then noise 0x100000000000000000000000000000000 (256 * row + place)
    else made_low row place)

-- The emulator's `fld.s` sets the bits from 32 to 63. Its loads leave the higher ones as they were.
abbrev pub floats : Numbers → Floats
floats n =
    record {
      numbers = λ r. n (32 + r);
      widened = λ bytes old number.
          if bytes == 4
          then number + (2 ^ 64 - 2 ^ 32) + old / 2 ^ 64 * 2 ^ 64
          else number + old / 2 ^ (8 * bytes) * 2 ^ (8 * bytes);
    }

abbrev pub begun : Numbers → State
begun n =
    let start = n at in
    let memory = memory_in n in
    record { registers = n; floats = floats n; pc = n pc; memory = bytes_from start memory }

abbrev pub register : State → ℕ → ℕ
register s r = if nat_lt r 32 then read r s else s.floats.numbers (r - 32)

abbrev pub passes : Group → Numbers → Executed → Bool
passes g n e =
    option_map_or (λ s. is_left 64 4 0 e n (register s) s.pc s.memory 0) (step e.code (begun n)) false

-- Each instruction leaves what the emulator did.
abbrev pub Agrees : Type 0
Agrees = AllPass made passes loongarch_groups
