-- AArch64: stubs go to their targets (Arm Architecture Reference Manual for A-profile, DDI 0487,
-- C6.2).
use Rattle.std.specs.Prelude.{◌≡◌, ◌==◌, ◌&&◌, ◌||◌, ◌/◌, ◌^◌, ◌<◌, ℕ, List, Bool, false}
use Rattle.std.specs.Prelude.{Option, Some, None, IsSomeAnd, IsTrue, if◌then◌else◌, drop, pos}
use Rattle.std.specs.Prelude.{◌+ℤ◌, ◌*ℤ◌}
use Rattle.linker_output.specs.Imports.{AArch64, Ldr, field, number_of_bytes, sum_64, word_of}
use Rattle.linker_utils.specs.AArch64Rewrites.{rd_of, rn_of}
use Rattle.linker_elf.specs.AArch64.{aarch64_form}
use Rattle.linker_laws.specs.AArch64Machine as machine
use Rattle.linker_laws.specs.AArch64Machine.{State, read_x, write_x, go_to, go_on, load_64}
use Rattle.linker_laws.specs.AArch64Machine.{in_64_bits}
use Rattle.linker_output.specs.LazyRuns.{words, or_else, run_by}
use Rattle.linker_output.specs.AArch64Output.{aarch64_output}
use Rattle.linker_output.specs.Stubs.{IsStub}

-- ---- "BR"

abbrev pub is_br : ℕ → Bool
is_br word = word / 2 ^ 10 == 0x3587c0 && rd_of word == 0

abbrev pub jumped : ℕ → State → Option State
jumped word s = if is_br word then Some (go_to (read_x (rn_of word) s) s) else None

-- ---- "BTI c"

-- Indirect branches may go to it, and it does nothing.
abbrev pub is_bti_c : ℕ → Bool
is_bti_c word = word == 0xd503245f

-- ---- the instructions of stubs to anywhere

-- "LDR (literal)" of 64 bits: the immediate, in units of 4 bytes, is added to the address of the
-- instruction.
abbrev pub is_literal_ldr : ℕ → Bool
is_literal_ldr word = word / 2 ^ 24 == 0x58

abbrev pub literal : ℕ → State → ℕ
literal word s =
    load_64 s.memory (in_64_bits (pos s.pc +ℤ ((aarch64_form Ldr).machine word *ℤ pos 4)))

-- "ADD (shifted register)" of 64 bits, without a shift
abbrev pub is_register_add : ℕ → Bool
is_register_add word = field word 21 32 == 0x458 && field word 10 16 == 0

abbrev pub registers_added : ℕ → State → ℕ
registers_added word s = sum_64 (read_x (rn_of word) s) (read_x (field word 16 21) s)

-- ---- runs

-- the instructions that the machine has not
abbrev pub further : ℕ → State → Option State
further word s =
    if is_bti_c word then Some (go_on s)
    else (if is_literal_ldr word then Some (go_on (write_x (rd_of word) (literal word s) s))
    else (if is_register_add word
    then Some (go_on (write_x (rd_of word) (registers_added word s) s))
    else jumped word s))

abbrev pub stub_step : ℕ → State → Option State
stub_step word s = or_else (machine.step word s) (further word s)

-- n words of code
abbrev pub run_stub : ℕ → List ℕ → State → Option State
run_stub n code s = run_by (λ s. s.pc) stub_step (words n code) s

-- ---- the laws

-- It goes to the target, and changes only x16 and x17, which a call may change on its way.
pub record GoesTo (target : ℕ) (s t : State) : Type 0 where
  pub pc : t.pc ≡ target
  pub registers : (n : ℕ) → (n == 16 || n == 17) ≡ false → t.registers n ≡ s.registers n
  pub memory : t.memory ≡ s.memory
  pub thread_pointer : t.thread_pointer ≡ s.thread_pointer

-- to the address that the word has
abbrev pub Loads : Type 0
Loads =
    (place word : ℕ) → place < 2 ^ 64 → word < 2 ^ 64 → (code : List ℕ)
    → IsStub AArch64 aarch64_output.load_stub place word code
    → (s : State) → s.pc ≡ place → IsSomeAnd (run_stub 3 code s) (GoesTo (load_64 s.memory word) s)

-- the same where indirect branches may go to the stub, which begins with "BTI c"
abbrev pub LandingLoads : Type 0
LandingLoads =
    (place word : ℕ) → place < 2 ^ 64 → word < 2 ^ 64 → (code : List ℕ)
    → IsSomeAnd aarch64_output.landing_load_stub (λ stub. IsStub AArch64 stub place word code)
    → (s : State) → s.pc ≡ place → IsTrue (is_bti_c (word_of code))
    × IsSomeAnd (run_stub 4 code s) (GoesTo (load_64 s.memory word) s)

abbrev pub Jumps : Type 0
Jumps =
    (place target : ℕ) → place < 2 ^ 64 → target < 2 ^ 64 → (code : List ℕ)
    → IsSomeAnd aarch64_output.jump_stub (λ stub. IsStub AArch64 stub place target code)
    → (s : State) → s.pc ≡ place → IsSomeAnd (run_stub 3 code s) (GoesTo target s)

-- To anywhere. The stub is memory too: it loads its last 8 bytes.
abbrev pub Reaches : Type 0
Reaches =
    (place target : ℕ) → place < 2 ^ 64 → target < 2 ^ 64 → (code : List ℕ)
    → IsSomeAnd aarch64_output.far_stub (λ stub. IsStub AArch64 stub place target code)
    → (s : State) → s.pc ≡ place
    → load_64 s.memory (sum_64 place 8) ≡ number_of_bytes 8 (drop 8 code)
    → IsSomeAnd (run_stub 2 code s) (GoesTo target s)

-- the same wherever the code is loaded
abbrev pub ReachesRelative : Type 0
ReachesRelative =
    (place target : ℕ) → place < 2 ^ 64 → target < 2 ^ 64 → (code : List ℕ)
    → IsSomeAnd aarch64_output.far_relative_stub (λ stub. IsStub AArch64 stub place target code)
    → (s : State) → s.pc ≡ place
    → load_64 s.memory (sum_64 place 16) ≡ number_of_bytes 8 (drop 16 code)
    → IsSomeAnd (run_stub 4 code s) (GoesTo target s)
