-- RISC-V: the instructions of `linker_laws`, and those of lazy PLTs in `linker_output`, compared
-- with an emulator. Registers 32 to 63 are those of floating-point numbers, which have 64 bits in
-- the emulator.
use Rattle.std.specs.Prelude.{Bool, List, Option, false, nat_lt, take, ℕ, ◌+◌, ◌-◌, ◌%◌, ◌^◌, ◌==◌}
use Rattle.std.specs.Prelude.{if◌then◌else◌}
use Rattle.std.specs.Option.{option_or}
use Rattle.linker_final.specs.Imports.{Hart, option_map_or, register, step, to_le_bytes, w32}
use Rattle.linker_final.specs.RiscVSteps.{riscv_groups}
use Rattle.linker_final.specs.Steps.{AllPass, Executed, Group, Numbers, at, bytes_from, is_left}
use Rattle.linker_final.specs.Steps.{made_high, memory_in, pc}
use Rattle.linker_output.specs.RiscVLazyPlt.{further}

-- Register 0 is 0.
abbrev pub made : ℕ → Numbers
made row place = if place == 0 then 0 else made_high 2 row place

abbrev pub begun : Numbers → Hart
begun n =
    let start = n at in
    let memory = memory_in n in
    record { pc = n pc; integers = n; floats = λ r. n (32 + r); memory = bytes_from start memory }

-- 4 bytes where the lowest two bits are 1, else 2
abbrev pub length_of : ℕ → ℕ
length_of code = if code % 4 == 3 then 4 else 2

abbrev pub is_hart : Numbers → Executed → Option Hart → Bool
is_hart n e hart =
    option_map_or (λ h. is_left 64 (length_of e.code) 0 e n
    (λ r. if nat_lt r 32 then register h r else h.floats (r - 32) % 2 ^ 64) h.pc h.memory 0) hart
    false

abbrev pub bytes_of : ℕ → List ℕ
bytes_of code = take (length_of code) (to_le_bytes w32 code)

-- an instruction of `linker_laws`, or a further one
abbrev pub passes : Group → Numbers → Executed → Bool
passes g n e =
    is_hart n e (option_or (step (bytes_of e.code) (begun n)) (further e.code (begun n)))

-- Each instruction leaves what the emulator did.
abbrev pub Agrees : Type 0
Agrees = AllPass made passes riscv_groups
