-- A program of LoongArch with groups, of which every premise holds, and both runs computed to the
-- end.
use Rattle.std.specs.Prelude.{◌≡◌, ℕ, ◌-◌, nat_lt, if◌then◌else◌, List, [], ◌∷◌, None, min}
use Rattle.linker_laws.specs.LoongArchGroups.{Code, link}
use Rattle.linker_laws.specs.Simulation.{State}
use Rattle.linker_laws.specs.SimulationWorked.{AreRuns, all_same, before_code, entry, words}

-- No instruction is at the end.
abbrev pub old : List ℕ
old =
    0x1a000064  -- pcalau12i a0, 3
    ∷ 0x02c48084  -- addi.d a0, a0, 0x120
    ∷ 0x14000005  -- lu12i.w a1, 0
    ∷ 0x1a000046  -- pcalau12i a2, 2
    ∷ 0x28c040c7  -- ld.d a3, a2, 0x10
    ∷ []

-- without the `addi.d` and the `lu12i.w` of a1
abbrev pub new : List ℕ
new =
    0x18018904  -- pcaddi a0, 0xc48
    ∷ 0x14000a86  -- lu12i.w a2, 0x54
    ∷ 0x038d10c7  -- ori a3, a2, 0x344
    ∷ []

-- less the deleted bytes before it
abbrev pub moved : ℕ → ℕ
moved a = if nat_lt a 0x10018 then a - min 8 (a - 0x10004) else a

-- no other instruction
abbrev pub code : Code
code =
    record {
      processor = record { others = λ word s. None; widened = λ n before number. number };
      old = words old;
      new = words new;
      moved = moved;
      old_half = λ h. 0x12000;
      new_half = λ h. 0x54000;
    }

-- The entry at 0x12010 has the offset.
abbrev pub starting : State
starting = before_code (λ r. r) (entry 0x12010 0x54344)

-- a0 and a3 have the address and the offset.
abbrev pub EndsAt : ℕ → State → Type 0
EndsAt pc s = (s.pc ≡ pc) × (s.registers 4 ≡ 0x13120) × (s.registers 7 ≡ 0x54344)

-- Four groups are 5 instructions of old, and 3 of new.
abbrev pub IsWorked : Type 0
IsWorked = AreRuns (link code) all_same starting starting 4 5 3 (EndsAt 0x10014) (EndsAt 0x1000c)
