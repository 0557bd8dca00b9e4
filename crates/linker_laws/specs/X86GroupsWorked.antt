-- A program of x86-64 with groups, of which every premise holds, and both runs computed to the end.
use Rattle.std.specs.Prelude.{◌≡◌, ℕ, ◌-◌, ◌/◌, ◌%◌, ◌^◌, ◌==◌, ◌&&◌, ◌||◌, nat_lt, nat_le, Bool}
use Rattle.std.specs.Prelude.{if◌then◌else◌, List, [], ◌∷◌, Some, None, slice_get}
use Rattle.linker_laws.specs.Imports.{sum_64, unwrap_or}
use Rattle.linker_laws.specs.Machine.{Memory, loaded}
use Rattle.linker_laws.specs.Changes.{put}
use Rattle.linker_laws.specs.Simulation.{State, Program, Kinds, anything, same}
use Rattle.linker_laws.specs.SimulationWorked.{AreRuns, of_byte}
use Rattle.linker_laws.specs.X86Groups.{Code, link}

-- bytes from 0x401000 on
abbrev pub bytes : List ℕ → ℕ → ℕ
bytes code a = unwrap_or (slice_get code (a - 0x401000)) 0

-- No instruction is at 0x40101d, and none at `f`, 0x401020.
abbrev pub old : List ℕ
old =
    -- `mov a@GOTPCREL(%rip), %rdx`
    0x48 ∷ 0x8b ∷ 0x15 ∷ 0xf9 ∷ 0x2f ∷ 0x00 ∷ 0x00
    -- `add x@gottpoff(%rip), %rcx`
    ∷ 0x48 ∷ 0x03 ∷ 0x0d ∷ 0xfa ∷ 0x2f ∷ 0x00 ∷ 0x00
    -- `lea x@tlsdesc(%rip), %rax`
    ∷ 0x48 ∷ 0x8d ∷ 0x05 ∷ 0x03 ∷ 0x30 ∷ 0x00 ∷ 0x00
    -- `call *x@tlscall(%rax)`
    ∷ 0xff ∷ 0x10
    -- `call *f@GOTPCREL(%rip)`
    ∷ 0xff ∷ 0x15 ∷ 0xf3 ∷ 0x2f ∷ 0x00 ∷ 0x00
    ∷ 0x00 ∷ 0x00 ∷ 0x00 ∷ 0x00
    -- the descriptor's function: `mov 8(%rax), %rax` and `ret`
    ∷ 0x48 ∷ 0x8b ∷ 0x40 ∷ 0x08 ∷ 0xc3 ∷ []

abbrev pub new : List ℕ
new =
    -- `lea a(%rip), %rdx`
    0x48 ∷ 0x8d ∷ 0x15 ∷ 0x29 ∷ 0x30 ∷ 0x00 ∷ 0x00
    -- `add $x@tpoff, %rcx`
    ∷ 0x48 ∷ 0x81 ∷ 0xc1 ∷ 0xf0 ∷ 0xff ∷ 0xff ∷ 0xff
    -- `mov $x@tpoff, %rax`
    ∷ 0x48 ∷ 0xc7 ∷ 0xc0 ∷ 0xf0 ∷ 0xff ∷ 0xff ∷ 0xff
    -- `xchg %ax, %ax`
    ∷ 0x66 ∷ 0x90
    -- `addr32 call f`
    ∷ 0x67 ∷ 0xe8 ∷ 0x03 ∷ 0x00 ∷ 0x00 ∷ 0x00 ∷ []

-- the function's instructions, by their first byte
abbrev pub of_function : List ℕ → Program
of_function [] s = None
of_function (b ∷ bytes) s =
    if b == 0x48
    then Some (put 0 (loaded 8 s.memory (sum_64 (s.registers 0) 8)) (sum_64 s.pc 4) s)
    else (if b == 0xc3
    then Some (put 4 (sum_64 (s.registers 4) 8) (loaded 8 s.memory (s.registers 4)) s)
    else None)

abbrev pub code : Code
code =
    record {
      others = of_function;
      old = bytes old;
      new = bytes new;
      old_half = λ h. 0x404018;
      new_half = λ h. 0xfffffffffffffff0;
    }

-- the address of `a`, the offset of `x`, the address of `f`, and the descriptor
abbrev pub numbers : List ℕ
numbers = 0x404030 ∷ 0xfffffffffffffff0 ∷ 0x401020 ∷ 0x401021 ∷ 0xfffffffffffffff0 ∷ []

abbrev pub is_entry : ℕ → Bool
is_entry a = nat_le 0x404000 a && nat_lt a 0x404028

abbrev pub entries : Memory
entries a =
    if is_entry a
    then unwrap_or (slice_get numbers ((a - 0x404000) / 8)) 0 / 256 ^ ((a - 0x404000) % 8) % 256
    else 0

abbrev pub starting : Memory → State
starting memory =
    record {
      pc = 0x401000;
      registers = λ r. if r == 4 then 0x8000 else (if r == 1 then 0x20 else 0);
      memory = memory;
      outside = λ n. 0;
    }

-- Nothing is known of the entries, which only old has, and of 8 bytes below the stack pointer.
abbrev pub known : Kinds
known =
    record {
      registers = λ r. same;
      memory = λ a.
          of_byte
          (if is_entry a || (nat_le 0x7ff8 a && nat_lt a 0x8000) then anything else same);
    }

-- RDX has the address, RCX the sum, from which CF is 1, and RAX the offset. The return address is
-- on the stack.
pub record Ends (s : State) : Type 0 where
  pub pc : s.pc ≡ 0x401020
  pub rdx : s.registers 2 ≡ 0x404030
  pub rcx : s.registers 1 ≡ 0x10
  pub carry : s.registers 32 ≡ 1
  pub rax : s.registers 0 ≡ 0xfffffffffffffff0
  pub pushed : loaded 8 s.memory 0x7ff8 ≡ 0x40101d

-- Five groups are 7 instructions of old, of which the function has two, and 5 of new.
abbrev pub IsWorked : Type 0
IsWorked = AreRuns (link code) known (starting entries) (starting (λ a. 0)) 5 7 5 Ends Ends
