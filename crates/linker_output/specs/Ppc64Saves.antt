-- PowerPC64: what the functions do that save and restore registers (64-bit ELF V2 ABI for Power,
-- "Register Save and Restore Functions"; Power ISA, version 3.1, book I, "Branch Facility").
use Rattle.std.specs.Prelude.{Option, IsSomeAnd, nat_lt, nat_le, if◌then◌else◌, length, slice_get}
use Rattle.std.specs.Prelude.{◌≡◌, ◌==◌, ◌&&◌, Bool, ◌+◌, zero, List, [], false, Some, None, negsuc}
use Rattle.std.specs.Prelude.{◌-◌, ◌*◌, ◌/◌, ◌%◌, ◌<◌, ◌≤◌, ℕ, suc, ◌∷◌, pos}
use Rattle.linker_output.specs.Imports.{Formats, Memory, State, difference_64, field, go_to, loaded}
use Rattle.linker_output.specs.Imports.{moved, stored}
use Rattle.linker_output.specs.LazyRuns.{run_by}
use Rattle.linker_output.specs.Layout.{Run, run_word}
use Rattle.linker_output.specs.Ppc64Output.{ppc64_output}
use Rattle.linker_output.specs.Ppc64Stubs.{Counted, step_counted, with_state}

-- ---- "Branch Conditional to Link Register", always

abbrev pub returned : State → State
returned s = go_to (s.link - s.link % 4) s

abbrev pub step : Formats → ℕ → Counted → Option Counted
step f word c =
    if word == 0x4e800020 then Some (with_state (returned c.state) c) else step_counted f word c

abbrev pub run : Formats → List ℕ → Counted → Option Counted
run f code c = run_by (λ c. c.state.pc) (step f) code c

-- ---- the code

abbrev pub word_or_0 : Option ℕ → ℕ
word_or_0 None = 0
word_or_0 (Some word) = word

-- n words of functions in a run, from one on
abbrev pub words_from : Run → ℕ → ℕ → List ℕ
words_from run index zero = []
words_from run index (suc n) = word_or_0 (run_word run index) ∷ words_from run (index + 1) n

-- the code of the function for a register, of 14 to 31, and those after it
abbrev pub code_for : Run → ℕ → List ℕ
code_for run n = words_from run (n - 14) (32 - n + length run.tail)

-- ---- places of registers

-- register n, of w bytes, is w * (32 - n) bytes below the base
abbrev pub slot : ℕ → ℕ → ℕ → ℕ
slot w base n = moved base (negsuc (w * (32 - n) - 1))

-- whether a register is of those from n to 31
abbrev pub is_from : ℕ → ℕ → Bool
is_from n m = nat_le n m && nat_lt m 32

-- the memory with those registers in their places: what byte of which register is at an address
abbrev pub saved : ℕ → ℕ → (ℕ → ℕ) → ℕ → Memory → Memory
saved w n registers base memory at =
    let d = difference_64 at (slot w base n) in
    if nat_lt d (w * (32 - n)) then field (registers (n + d / w)) (8 * (d % w)) (8 * (d % w) + 8)
    else memory at

-- the registers with those of them as their places have them
abbrev pub restored : ℕ → ℕ → ℕ → Memory → (ℕ → ℕ) → ℕ → ℕ
restored w n base memory registers m =
    if is_from n m then loaded w memory (slot w base m) else registers m

-- ---- the laws

-- the law of a run's functions
abbrev pub Each : ℕ → (ℕ → Counted → Counted → Type 0) → Type 0
Each index Leaves =
    IsSomeAnd (slice_get ppc64_output.runs index) (λ r.
    (n : ℕ) → 14 ≤ n → n < 32 → (f : Formats) (c : Counted)
    → IsSomeAnd (run f (code_for r n) c) (Leaves n c))

-- back to where the link register leads, with all registers as they were
pub record Returns (c d : Counted) : Type 0 where
  pub pc : d.state.pc ≡ c.state.link - c.state.link % 4
  pub link : d.state.link ≡ c.state.link
  pub count : d.count ≡ c.count

-- Registers from n on are below the base, and the number of r0 is after r1 if that is saved too.
pub record Saves (base : ℕ) (values : State → ℕ → ℕ) (finish : State → Memory → Memory)
    (n : ℕ) (c d : Counted) : Type 0 where
  pub returns : Returns c d
  pub registers : (m : ℕ) → d.state.registers m ≡ c.state.registers m
  pub floats : (m : ℕ) → d.state.floats m ≡ c.state.floats m
  pub memory : (a : ℕ) → d.state.memory a
      ≡ finish c.state (saved 8 n (values c.state) (c.state.registers base) c.state.memory) a

abbrev pub integers : State → ℕ → ℕ
integers s = s.registers

abbrev pub floats : State → ℕ → ℕ
floats s = s.floats

abbrev pub nothing_more : State → Memory → Memory
nothing_more s memory = memory

-- the return address, which the caller has in r0
abbrev pub return_address : State → Memory → Memory
return_address s memory = stored 8 (s.registers 0) (moved (s.registers 1) (pos 16)) memory

-- `_savegpr0_N`, `_savegpr1_N` and `_savefpr_N`
abbrev pub SaveRegisters : Type 0
SaveRegisters =
    Each 0 (Saves 1 integers return_address)
    × Each 2 (Saves 12 integers nothing_more)
    × Each 4 (Saves 1 floats return_address)

-- `_restgpr1_N`: those registers are what the places below r12 have, and all else is as it was.
pub record Restores (n : ℕ) (c d : Counted) : Type 0 where
  pub returns : Returns c d
  pub registers : (m : ℕ) → d.state.registers m
      ≡ restored 8 n (c.state.registers 12) c.state.memory c.state.registers m
  pub floats : (m : ℕ) → d.state.floats m ≡ c.state.floats m
  pub memory : (a : ℕ) → d.state.memory a ≡ c.state.memory a

-- the return address, after r1
abbrev pub kept_address : State → ℕ
kept_address s = loaded 8 s.memory (moved (s.registers 1) (pos 16))

-- `_restgpr0_N` and `_restfpr_N`: those registers are what the places below r1 have, and r0 and the
-- link register the return address, to which the functions go.
pub record Returned (n : ℕ) (c d : Counted) : Type 0 where
  pub pc : d.state.pc ≡ kept_address c.state - kept_address c.state % 4
  pub link : d.state.link ≡ kept_address c.state
  pub r0 : d.state.registers 0 ≡ kept_address c.state
  pub count : d.count ≡ c.count
  pub memory : (a : ℕ) → d.state.memory a ≡ c.state.memory a

pub record RestoresIntegers (n : ℕ) (c d : Counted) : Type 0 where
  pub returned : Returned n c d
  pub registers : (m : ℕ) → (m == 0) ≡ false → d.state.registers m
      ≡ restored 8 n (c.state.registers 1) c.state.memory c.state.registers m
  pub floats : (m : ℕ) → d.state.floats m ≡ c.state.floats m

pub record RestoresFloats (n : ℕ) (c d : Counted) : Type 0 where
  pub returned : Returned n c d
  pub registers : (m : ℕ) → (m == 0) ≡ false → d.state.registers m ≡ c.state.registers m
  pub floats : (m : ℕ) → d.state.floats m
      ≡ restored 8 n (c.state.registers 1) c.state.memory c.state.floats m

abbrev pub RestoreRegisters : Type 0
RestoreRegisters =
    Each 1 RestoresIntegers × Each 3 Restores × Each 5 RestoresFloats
