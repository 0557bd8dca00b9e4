-- A program of PowerPC64 with groups, of which every premise holds, and both runs computed to the
-- end.
use Rattle.std.specs.Prelude.{◌≡◌, ℕ, ◌==◌, if◌then◌else◌, List, [], ◌∷◌, None}
use Rattle.linker_laws.specs.Ppc64Groups.{Code, link}
use Rattle.linker_laws.specs.Simulation.{State}
use Rattle.linker_laws.specs.SimulationWorked.{AreRuns, all_same, before_code, entry, words}

-- No instruction is at the end.
abbrev pub old : List ℕ
old =
    0x3c620000  -- addis r3, r2, 0
    ∷ 0x38630120  -- addi r3, r3, 0x120
    ∷ 0x3c820000  -- addis r4, r2, 0
    ∷ 0xe8840010  -- ld r4, 0x10(r4)
    ∷ 0x7ca46a14  -- add r5, r4, r13
    ∷ []

abbrev pub new : List ℕ
new =
    0x60000000  -- nop
    ∷ 0x38620120  -- addi r3, r2, 0x120
    ∷ 0x60000000  -- nop
    ∷ 0x3c8d0005  -- addis r4, r13, 5
    ∷ 0x38a44344  -- addi r5, r4, 0x4344
    ∷ []

-- no other instruction
abbrev pub code : Code
code =
    record {
      processor = record {
        others = λ number s. None;
        formats = record { widened = λ n. n; narrowed = λ n. n };
      };
      old = words old;
      new = words new;
      old_half = λ h. 0x54344;
      new_half = λ h. 0x5000d;
    }

-- the TOC pointer in r2, and the offset in the entry at 0x20010
abbrev pub starting : State
starting = before_code (λ r. if r == 2 then 0x20000 else r) (entry 0x20010 0x54344)

abbrev pub Ends : State → Type 0
Ends s = (s.pc ≡ 0x10014) × (s.registers 3 ≡ 0x20120) × (s.registers 5 ≡ 0x54351)

-- Five groups, each of one instruction in both.
abbrev pub IsWorked : Type 0
IsWorked = AreRuns (link code) all_same starting starting 5 5 5 Ends Ends
