-- x86-64: the instructions of `linker_laws`, and PUSH and ENDBR64 of `linker_output`, compared with
-- an emulator. Register 16 is where the FS segment begins.
use Rattle.std.specs.Prelude.{ℕ, ◌==◌, Bool, false, if◌then◌else◌, List, [], length}
use Rattle.linker_final.specs.Imports.{bit_at, option_map_or}
use Rattle.linker_final.specs.Steps.{AllPass, Executed, Group, Numbers, at, bytes_from, flags}
use Rattle.linker_final.specs.Steps.{is_left, made_high, memory_in, pc}
use Rattle.linker_final.specs.X86Steps.{x86_groups}
use Rattle.linker_laws.specs.X86Examples.{bytes_before, flags_number}
use Rattle.linker_laws.specs.X86Machine.{Flags, State}
use Rattle.linker_output.specs.X86LazyPlt.{step}

-- EFLAGS: CF is bit 0, PF 2, AF 4, ZF 6, SF 7 and OF 11
abbrev pub flags_in : ℕ → Flags
flags_in n =
    record {
      carry = bit_at n 0 == 1;
      parity = bit_at n 2 == 1;
      auxiliary = bit_at n 4 == 1;
      is_zero = bit_at n 6 == 1;
      sign = bit_at n 7 == 1;
      overflow = bit_at n 11 == 1;
    }

abbrev pub begun : Numbers → State
begun n =
    let start = n at in
    let memory = memory_in n in
    record {
      register = n;
      ip = n pc;
      memory = bytes_from start memory;
      flags = flags_in (n flags);
      fs = n 16;
    }

abbrev pub bytes_of : Executed → List ℕ
bytes_of e = bytes_before 15 e.code []

abbrev pub register : State → ℕ → ℕ
register s r = if r == 16 then s.fs else s.register r

abbrev pub passes : Group → Numbers → Executed → Bool
passes g n e =
    option_map_or (λ s.
    is_left 17 (length (bytes_of e)) g.mask e n (register s) s.ip s.memory (flags_number s.flags))
    (step (bytes_of e) (begun n)) false

-- Each instruction leaves what the emulator did.
abbrev pub Agrees : Type 0
Agrees = AllPass (made_high 1) passes x86_groups
