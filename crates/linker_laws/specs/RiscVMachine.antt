-- RISC-V: what the instructions do that the rewrites read or write (RISC-V unprivileged ISA; the
-- sections are named below). Immediates are what the forms read. Any address can be read and
-- written, and code is apart from memory.
use Rattle.std.specs.Prelude.{◌≡◌, ℕ, zero, suc, ◌+◌, ◌-◌, ◌*◌, ◌%◌, ◌^◌, ◌==◌, ◌&&◌, ◌||◌, nat_lt}
use Rattle.std.specs.Prelude.{nat_le, if◌then◌else◌, List, length, drop, ℤ, pos, Option, Some, None}
use Rattle.std.specs.Prelude.{option_map, not}
use Rattle.linker_laws.specs.Imports.{CjType, CluiType, IType, JType, SType, UType, difference_64}
use Rattle.linker_laws.specs.Imports.{field, from_le_bytes, riscv_form, signed, sum_64, w16, w32}
use Rattle.linker_riscv64.specs.RiscVFields.{funct3_of, rd_of, opcode_of}
pub use Rattle.linker_riscv64.specs.RiscVFields.{rs1_of, rs2_of}
use Rattle.linker_laws.specs.Machine.{Memory, moved, wrapped, extended, loaded, stored}

-- ---- the state ("Programmers' Model for Base Integer ISA", "F Register State")

-- A hart of RV64.
pub record Hart : Type 0 where
  pub pc : ℕ
  -- the registers by their numbers
  pub integers : ℕ → ℕ
  pub floats : ℕ → ℕ
  pub memory : Memory

-- what an integer register reads as: x0 is 0
abbrev pub register : Hart → ℕ → ℕ
register h r = if r == 0 then 0 else h.integers r

-- a register is written, and the others stay
abbrev pub with_number : ℕ → ℕ → (ℕ → ℕ) → ℕ → ℕ
with_number rd number registers r = if r == rd then number else registers r

abbrev pub with_integer : ℕ → ℕ → Hart → Hart
with_integer rd number h = record h { integers = with_number rd number h.integers }

abbrev pub with_float : ℕ → ℕ → Hart → Hart
with_float rd number h = record h { floats = with_number rd number h.floats }

abbrev pub goes_to : ℕ → Hart → Hart
goes_to address h = record h { pc = address }

-- on after an instruction of n bytes
abbrev pub goes_on : ℕ → Hart → Hart
goes_on n h = goes_to (sum_64 h.pc n) h

-- ---- instructions

-- What an instruction does with the sum of its first source register and its immediate.
pub data Action : Type 0 where
  -- `addi`; `addiw`, whose sum has 32 bits
  adds : Action
  adds_word : Action
  -- `jalr`
  jumps : Action
  -- a load, a store, and those of floating-point registers, by their function
  loads : ℕ → Action
  stores : ℕ → Action
  loads_float : ℕ → Action
  stores_float : ℕ → Action

pub data Instruction : Type 0 where
  lui : (rd : ℕ) (immediate : ℤ) → Instruction
  auipc : (rd : ℕ) (immediate : ℤ) → Instruction
  jal : (rd : ℕ) (offset : ℤ) → Instruction
  add : (rd rs1 rs2 : ℕ) → Instruction
  sums : Action → (rd rs1 rs2 : ℕ) (immediate : ℤ) → Instruction

-- an instruction with an immediate of I-type, and one of S-type
abbrev pub i_type : Action → ℕ → Option Instruction
i_type action word =
    Some (sums action (rd_of word) (rs1_of word) 0 ((riscv_form IType).machine word))

abbrev pub s_type : Action → ℕ → Option Instruction
s_type action word =
    Some (sums action 0 (rs1_of word) (rs2_of word) ((riscv_form SType).machine word))

-- what is done with a sum, by opcode and function ("Integer Register-Immediate
-- Instructions", "Unconditional Jumps", "Load and Store Instructions" of RV32I and RV64I;
-- "Single-Precision Load and Store Instructions" and those of D, Q and Zfh)
abbrev pub action_of : ℕ → ℕ → Option Action
action_of opcode funct3 =
    if opcode == 0x13 && funct3 == 0 then Some adds
    else (if opcode == 0x1b && funct3 == 0 then Some adds_word
    else (if opcode == 0x67 && funct3 == 0 then Some jumps
    else (if opcode == 0x03 && nat_lt funct3 7 then Some (loads funct3)
    else (if opcode == 0x23 && nat_lt funct3 4 then Some (stores funct3)
    else (if opcode == 0x07 && (nat_lt 0 funct3 && nat_lt funct3 5) then Some (loads_float funct3)
    else (if opcode == 0x27 && (nat_lt 0 funct3 && nat_lt funct3 5) then Some (stores_float funct3)
    else None))))))

abbrev pub with_action : ℕ → Option Action → Option Instruction
with_action word None = None
with_action word (Some (stores f)) = s_type (stores f) word
with_action word (Some (stores_float f)) = s_type (stores_float f) word
with_action word (Some action) = i_type action word

-- the instruction of a word of 32 bits, if it is one of these ("RV32/64G Instruction Set Listings")
abbrev pub of_word : ℕ → Option Instruction
of_word word =
    if opcode_of word == 0x37 then Some (lui (rd_of word) ((riscv_form UType).machine word))
    else (if opcode_of word == 0x17 then Some (auipc (rd_of word) ((riscv_form UType).machine word))
    else (if opcode_of word == 0x6f then Some (jal (rd_of word) ((riscv_form JType).machine word))
    else (if opcode_of word == 0x33 && (funct3_of word == 0 && field word 25 32 == 0)
    then Some (add (rd_of word) (rs1_of word) (rs2_of word))
    else with_action word (action_of (opcode_of word) (funct3_of word)))))

abbrev pub of_clui : ℕ → ℤ → Option Instruction
of_clui rd (pos zero) = None
of_clui rd immediate =
    if rd == 0 || rd == 2 then None else Some (lui rd immediate)

-- the immediate of `c.li`: bits 2 to 6, and bit 12 above them
abbrev pub cli_immediate : ℕ → ℤ
cli_immediate half = signed 6 (field half 2 7 + field half 12 13 * 2 ^ 5)

-- that of a half of 16 bits: `c.nop`, `c.j`, `c.lui`, which has neither x0 nor x2 and an immediate
-- other than 0, and `c.li`, which has not x0 ("C" extension, "NOP Instruction", "Control Transfer
-- Instructions", "Integer Constant-Generation Instructions")
abbrev pub of_half : ℕ → Option Instruction
of_half half =
    if half == 1 then Some (sums adds 0 0 0 (pos 0))
    else (if field half 0 2 == 1 && field half 13 16 == 5
    then Some (jal 0 ((riscv_form CjType).machine half))
    else (if field half 0 2 == 1 && field half 13 16 == 3
    then of_clui (rd_of half) ((riscv_form CluiType).machine half)
    else (if field half 0 2 == 1 && (field half 13 16 == 2 && not (rd_of half == 0))
    then Some (sums adds (rd_of half) 0 0 (cli_immediate half))
    else None)))

-- ---- execution

-- how many bytes a load or a store of an integer has, by its function: 1, 2, 4 or 8
abbrev pub bytes_of : ℕ → ℕ
bytes_of funct3 = 2 ^ (funct3 % 4)

-- what a load puts in its register: functions 0 to 3 are signed
abbrev pub load_number : ℕ → ℕ → ℕ
load_number funct3 number =
    if nat_lt funct3 4 then extended (8 * bytes_of funct3) number else number

-- a float of n bytes in a register of 16: the bits above are 1 ("NaN Boxing of Narrower Values")
abbrev pub boxed : ℕ → ℕ → ℕ
boxed n number = number + (2 ^ 128 - 2 ^ (8 * n))

-- an instruction of n bytes uses a sum; rs2 is what a store stores
abbrev pub used : ℕ → Action → ℕ → ℕ → ℕ → Hart → Hart
used n adds rd rs2 sum h = goes_on n (with_integer rd sum h)
used n adds_word rd rs2 sum h = goes_on n (with_integer rd (extended 32 (sum % 2 ^ 32)) h)
used n jumps rd rs2 sum h =
    goes_to (sum - sum % 2) (with_integer rd (sum_64 h.pc n) h)
used n (loads f) rd rs2 sum h =
    goes_on n (with_integer rd (load_number f (loaded (bytes_of f) h.memory sum)) h)
used n (stores f) rd rs2 sum h =
    goes_on n (record h { memory = stored (bytes_of f) (register h rs2) sum h.memory })
used n (loads_float f) rd rs2 sum h =
    goes_on n (with_float rd (boxed (2 ^ f) (loaded (2 ^ f) h.memory sum)) h)
used n (stores_float f) rd rs2 sum h =
    goes_on n (record h { memory = stored (2 ^ f) (h.floats rs2) sum h.memory })

-- an instruction of n bytes is executed
abbrev pub executed : ℕ → Instruction → Hart → Hart
executed n (lui rd immediate) h = goes_on n (with_integer rd (wrapped immediate) h)
executed n (auipc rd immediate) h = goes_on n (with_integer rd (moved h.pc immediate) h)
executed n (jal rd offset) h =
    goes_to (moved h.pc offset) (with_integer rd (sum_64 h.pc n) h)
executed n (add rd rs1 rs2) h =
    goes_on n (with_integer rd (sum_64 (register h rs1) (register h rs2)) h)
executed n (sums action rd rs1 rs2 immediate) h =
    used n action rd rs2 (moved (register h rs1) immediate) h

-- ---- code

abbrev pub sized : ℕ → Option Instruction → Option (ℕ × Instruction)
sized n None = None
sized n (Some i) = Some (n, i)

-- the instruction that bytes begin with and its length: 4 where the lowest two bits are 1, else 2
-- ("Base Instruction-Length Encoding")
abbrev pub fetched : List ℕ → Option (ℕ × Instruction)
fetched bytes =
    if field (from_le_bytes w16 bytes) 0 2 == 3
    then (if nat_le 4 (length bytes) then sized 4 (of_word (from_le_bytes w32 bytes)) else None)
    else (if nat_le 2 (length bytes) then sized 2 (of_half (from_le_bytes w16 bytes)) else None)

-- what a hart is after the instruction that the bytes from its pc on begin with
abbrev pub step : List ℕ → Hart → Option Hart
step bytes h = option_map (λ i. executed i.0 i.1 h) (fetched bytes)

-- a hart executes the instruction of its pc, in code whose first byte has an address
abbrev pub Steps : List ℕ → ℕ → Hart → Hart → Type 0
Steps code start h after = step (drop (difference_64 h.pc start) code) h ≡ Some after

-- it executes n instructions
abbrev pub Runs : ℕ → List ℕ → ℕ → Hart → Hart → Type 0
Runs zero code start h after = after ≡ h
Runs (suc n) code start h after =
    (middle : Hart) × Steps code start h middle × Runs n code start middle after
