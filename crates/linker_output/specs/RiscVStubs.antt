-- RISC-V: the stub goes to the address that its word has (RISC-V unprivileged ISA).
use Rattle.std.specs.Prelude.{◌≡◌, ◌==◌, ◌%◌, ◌^◌, ◌<◌, ℕ, List, false}
use Rattle.linker_output.specs.Imports.{RiscV, loaded}
use Rattle.linker_laws.specs.RiscVMachine.{Hart, register, Runs}
use Rattle.linker_output.specs.RiscVOutput.{riscv_output}
use Rattle.linker_output.specs.Stubs.{IsStub}

-- It goes to the target, and changes only t3, which a call may change on its way.
pub record GoesTo (target : ℕ) (h t : Hart) : Type 0 where
  pub pc : t.pc ≡ target
  pub integers : (n : ℕ) → (n == 28) ≡ false → register t n ≡ register h n
  pub floats : t.floats ≡ h.floats
  pub memory : t.memory ≡ h.memory

-- The word has the address of a function, which is even.
abbrev pub Loads : Type 0
Loads =
    (place word target : ℕ) → place < 2 ^ 64 → word < 2 ^ 64 → target < 2 ^ 64 → target % 2 ≡ 0
    → (code : List ℕ) → IsStub RiscV riscv_output.load_stub place word code
    → (h : Hart) → h.pc ≡ place → loaded 8 h.memory word ≡ target
    → (t : Hart) × Runs 3 code place h t × GoesTo target h t
