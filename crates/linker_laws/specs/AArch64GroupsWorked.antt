-- Programs of AArch64 with groups, of which every premise holds, and both runs computed to the end.
use Rattle.std.specs.Prelude.{◌≡◌, ℕ, ◌+◌, ◌-◌, ◌/◌, ◌%◌, ◌^◌, ◌==◌, Bool, nat_le, ◌&&◌}
use Rattle.std.specs.Prelude.{if◌then◌else◌, List, [], ◌∷◌, Some, None}
use Rattle.linker_laws.specs.Imports.{sum_64}
use Rattle.linker_laws.specs.AArch64Groups.{Code, link}
use Rattle.linker_laws.specs.Changes.{go_to, put}
use Rattle.linker_laws.specs.Simulation.{Kinds, Program, State, anything, same}
use Rattle.linker_laws.specs.SimulationWorked as worked
use Rattle.linker_laws.specs.SimulationWorked.{of_byte, words_from}

abbrev pub words : List ℕ → ℕ → ℕ
words = words_from 0x400000

-- `mov x2, x1` and `ret` are the only other instructions
abbrev pub others : ℕ → Program
others word s =
    if word == 0xaa0103e2 then Some (put 2 (s.registers 1) (sum_64 s.pc 4) s) else (
    if word == 0xd65f03c0 then Some (go_to (s.registers 30) s) else None)

abbrev pub code : List ℕ → List ℕ → Code
code old new =
    record {
      others = others;
      old = words old;
      new = words new;
      entry = λ h. 0x411018;
      offset = λ h. 0x12344;
    }

-- from an address on, 8 bytes
abbrev pub is_entry : ℕ → ℕ → Bool
is_entry first a = nat_le first a && nat_le a (first + 7)

-- The first entry has a number, and the second the offset.
abbrev pub entries : ℕ → ℕ → ℕ
entries first a =
    if is_entry 0x411010 a then first / 256 ^ (a - 0x411010) % 256 else (
    if is_entry 0x411018 a then 0x12344 / 256 ^ (a - 0x411018) % 256 else 0)

abbrev pub starting : ℕ → State
starting first =
    record { pc = 0x400000; registers = λ r. r; memory = entries first; outside = λ n. 0 }

-- What is in the first entry may differ.
abbrev pub known : Kinds
known =
    record {
      registers = λ r. same;
      memory = λ a. of_byte (if is_entry 0x411010 a then anything else same);
    }

-- Old begins with a number in the first entry, which new's hasn't. In the end registers have
-- numbers.
abbrev pub IsRun : List ℕ → List ℕ → (first q m n : ℕ) → ((ℕ → ℕ) → Type 0) → Type 0
IsRun old new first q m n Ends =
    worked.AreRuns (link (code old new)) known (starting first) (starting 0) q m n
    (λ s. Ends s.registers) (λ s. Ends s.registers)

-- ---- programs

-- The entry at 0x411010 has the address.
abbrev pub IsAddress : List ℕ → List ℕ → ℕ → Type 0
IsAddress old new q = IsRun old new 0x420120 q 2 2 (λ r. r 0 ≡ 0x420120)

abbrev pub old_load : List ℕ
old_load =
    0xb0000080  -- adrp x0, 0x411000
    ∷ 0xf9400800  -- ldr x0, [x0, 0x10]
    ∷ []

abbrev pub old_sum : List ℕ
old_sum =
    0x90000100  -- adrp x0, 0x420000
    ∷ 0x91048000  -- add x0, x0, 0x120
    ∷ []

-- after another instruction
abbrev pub second_adr : ℕ → List ℕ
second_adr first =
    first
    ∷ 0x101008e0  -- adr x0, 0x420120
    ∷ []

abbrev pub first_adr : List ℕ
first_adr =
    0x10100900  -- adr x0, 0x420120
    ∷ 0xd503201f  -- nop
    ∷ []

-- a load, the high half of an offset, a copy of its register, and the low half
abbrev pub old_halves : List ℕ
old_halves =
    0xb0000080  -- adrp x0, 0x411000
    ∷ 0xf9400800  -- ldr x0, [x0, 0x10]
    ∷ 0xb0000081  -- adrp x1, 0x411000
    ∷ 0xaa0103e2  -- mov x2, x1
    ∷ 0xf9400c42  -- ldr x2, [x2, 0x18]
    ∷ []

abbrev pub new_halves : List ℕ
new_halves =
    0x90000100  -- adrp x0, 0x420000
    ∷ 0x91048000  -- add x0, x0, 0x120
    ∷ 0xd2a00021  -- movz x1, 1, lsl 16
    ∷ 0xaa0103e2  -- mov x2, x1
    ∷ 0xf2846882  -- movk x2, 0x2344
    ∷ []

-- The descriptor at 0x411010 has the address of a function, and the offset.
abbrev pub old_descriptor : List ℕ
old_descriptor =
    0xb0000080  -- adrp x0, 0x411000
    ∷ 0xf9400801  -- ldr x1, [x0, 0x10]
    ∷ 0x91004000  -- add x0, x0, 0x10
    ∷ 0xd63f0020  -- blr x1
    ∷ 0
    ∷ 0xf9400400  -- ldr x0, [x0, 8]
    ∷ 0xd65f03c0  -- ret
    ∷ []

abbrev pub IsOffset : List ℕ → Type 0
IsOffset new = IsRun old_descriptor new 0x400014 1 6 4 (λ r. r 0 ≡ 0x12344)

abbrev pub new_moves : List ℕ
new_moves =
    0xd2a00020  -- movz x0, 1, lsl 16
    ∷ 0xf2846880  -- movk x0, 0x2344
    ∷ 0xd503201f ∷ 0xd503201f ∷ []

abbrev pub new_load : List ℕ
new_load =
    0xb0000080  -- adrp x0, 0x411000
    ∷ 0xf9400c00  -- ldr x0, [x0, 0x18]
    ∷ 0xd503201f ∷ 0xd503201f ∷ []

abbrev pub old_branches : List ℕ
old_branches =
    0x14000001  -- b .+4
    ∷ 0x94000001  -- bl .+4
    ∷ []

abbrev pub IsPassed : Type 0
IsPassed = IsRun old_branches (0xd503201f ∷ 0xd503201f ∷ []) 0 2 2 2 (λ r. r 0 ≡ 0)

pub record IsWorked : Type 0 where
  pub halves : IsRun old_halves new_halves 0x420120 4 5 5
      (λ r. (r 0 ≡ 0x420120) × (r 2 ≡ 0x12344))
  pub nop_and_adr : IsAddress old_sum (second_adr 0xd503201f) 1
  pub load_to_nop_and_adr : IsAddress old_load (second_adr 0xd503201f) 1
  pub adr_and_nop : IsAddress old_sum first_adr 1
  -- after the `adrp` of both
  pub add_to_adr : IsAddress old_sum (second_adr 0x90000100) 2
  pub ldr_to_adr : IsAddress old_load (second_adr 0xb0000080) 2
  pub descriptor_to_local_exec : IsOffset new_moves
  pub descriptor_to_initial_exec : IsOffset new_load
  pub branches : IsPassed
