-- A program of RISC-V with groups, of which every premise holds, and both runs computed to the end.
use Rattle.std.specs.Prelude.{◌≡◌, ℕ, ◌-◌, nat_lt, if◌then◌else◌, List, [], ◌∷◌, None, min}
use Rattle.linker_laws.specs.Machine.{loaded}
use Rattle.linker_laws.specs.RiscVGroups.{Code, link}
use Rattle.linker_laws.specs.Simulation.{State, Program}
use Rattle.linker_laws.specs.SimulationWorked.{AreRuns, all_same, before_code, entry, words}

-- The address is a number of 12 bits, and the entry at 0x12010 has another one. No instruction is
-- after the call, to which the function returns.
abbrev pub old : List ℕ
old =
    0x000007b7  -- lui a5, 0
    ∷ 0x12078513  -- addi a0, a5, 0x120
    ∷ 0x12a7b423  -- sd a0, 0x128(a5)
    ∷ 0x00002597  -- auipc a1, 2
    ∷ 0x0045b583  -- ld a1, 4(a1)
    ∷ 0x00000097  -- auipc ra, 0
    ∷ 0x00c080e7  -- jalr ra, 12(ra)
    ∷ 0
    ∷ 0x00008067  -- jalr zero, 0(ra)
    ∷ []

-- without the `lui` and half of the call
abbrev pub new : List ℕ
new =
    0x12000513  -- addi a0, zero, 0x120
    ∷ 0x12a03423  -- sd a0, 0x128(zero)
    ∷ 0x00003597  -- auipc a1, 3
    ∷ 0xff858593  -- addi a1, a1, -8
    ∷ 0x008000ef  -- jal ra, 8
    ∷ 0
    ∷ 0x00008067  -- jalr zero, 0(ra)
    ∷ []

-- less the deleted bytes before it
abbrev pub moved : ℕ → ℕ
moved a =
    if nat_lt a 0x10028 then (a - min 4 (a - 0x10000)) - min 4 (a - 0x10018) else a

-- no other instruction
abbrev pub others : List ℕ → Program
others bytes s = None

abbrev pub code : Code
code = record { others = others; old = words old; new = words new; moved = moved }

abbrev pub starting : State
starting = before_code (λ r. r) (entry 0x12010 0x13000)

-- The function has returned.
abbrev pub EndsAt : ℕ → State → Type 0
EndsAt pc s =
    (s.pc ≡ pc) × (s.registers 1 ≡ pc) × (s.registers 10 ≡ 0x120) × (s.registers 11 ≡ 0x13000)
    × (loaded 8 s.memory 0x128 ≡ 0x120)

-- Five groups and the return are 8 instructions of old, and 6 of new. The link register has the
-- address after the call in both.
abbrev pub IsWorked : Type 0
IsWorked = AreRuns (link code) all_same starting starting 6 8 6 (EndsAt 0x1001c) (EndsAt 0x10014)
