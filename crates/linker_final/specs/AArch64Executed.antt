-- AArch64: the instructions of `linker_laws`, and BR, STP and BTI of `linker_output`, compared with
-- an emulator. Register 31 is the stack pointer.
use Rattle.std.specs.Prelude.{Bool, false}
use Rattle.linker_final.specs.Imports.{option_map_or}
use Rattle.linker_final.specs.AArch64Steps.{aarch64_groups}
use Rattle.linker_final.specs.Steps.{AllPass, Executed, Group, Numbers, at, bytes_from, is_left}
use Rattle.linker_final.specs.Steps.{made_high, memory_in, pc}
use Rattle.linker_laws.specs.AArch64Machine.{State}
use Rattle.linker_output.specs.AArch64LazyPlt.{step}

abbrev pub begun : Numbers → State
begun n =
    let start = n at in
    let memory = memory_in n in
    record { registers = n; pc = n pc; memory = bytes_from start memory; thread_pointer = 0 }

abbrev pub passes : Group → Numbers → Executed → Bool
passes g n e =
    option_map_or (λ s. is_left 32 4 0 e n s.registers s.pc s.memory 0) (step e.code (begun n)) false

-- Each instruction leaves what the emulator did.
abbrev pub Agrees : Type 0
Agrees = AllPass (made_high 4) passes aarch64_groups
