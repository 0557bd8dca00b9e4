-- AArch64: what the instructions of a rewrite's sequences do (Arm Architecture Reference Manual for
-- A-profile, DDI 0487, C6.2). None of them changes memory, the thread pointer or the flags.
use Rattle.std.specs.Prelude.{ℕ, ℤ, pos, ◌+ℤ◌, ◌*ℤ◌, ◌/◌, ◌^◌, ◌==◌, ◌&&◌, if◌then◌else◌, Bool, ◌∷◌}
use Rattle.std.specs.Prelude.{[], Option, Some, None, unsigned_abs}
use Rattle.linker_laws.specs.Imports.{Add, Adr, JumpCall, LdSt, Movnz, bit_at, field, from_le_bytes}
use Rattle.linker_laws.specs.Imports.{int_rem_euclid, page, sum_64, w64}
use Rattle.linker_elf.specs.AArch64.{aarch64_form, shift_of, opcode_of, movn_opcode, movz_opcode}
use Rattle.linker_elf.specs.AArch64.{movk_opcode}
use Rattle.linker_utils.specs.AArch64Rewrites.{rn_of, rd_of, nop, is_ldr64}
use Rattle.linker_laws.specs.AArch64RelocationLaws.{movk}

-- ---- the state

pub record State : Type 0 where
  -- X0 to X30 by their numbers, and the stack pointer by number 31
  pub registers : ℕ → ℕ
  -- the address of the next instruction
  pub pc : ℕ
  -- the byte at each address
  pub memory : ℕ → ℕ
  -- TPIDR_EL0
  pub thread_pointer : ℕ

-- a sum, in the 64 bits of a register
abbrev pub in_64_bits : ℤ → ℕ
in_64_bits z = unsigned_abs (int_rem_euclid z (pos (2 ^ 64)))

-- 8 bytes from an address up, little-endian
abbrev pub load_64 : (ℕ → ℕ) → ℕ → ℕ
load_64 memory a =
    from_le_bytes w64
    (memory a ∷ memory (sum_64 a 1) ∷ memory (sum_64 a 2) ∷ memory (sum_64 a 3) ∷
    memory (sum_64 a 4) ∷ memory (sum_64 a 5) ∷ memory (sum_64 a 6) ∷ memory (sum_64 a 7) ∷ [])

-- Number 31 is the stack pointer as the base of `ldr` and as both registers of `add`, and else the
-- zero register, which is 0 whatever is written to it.
abbrev pub read_x : ℕ → State → ℕ
read_x n s = if n == 31 then 0 else s.registers n

abbrev pub write_x_or_sp : ℕ → ℕ → State → State
write_x_or_sp n v s = record s { registers = λ m. if m == n then v else s.registers m }

abbrev pub write_x : ℕ → ℕ → State → State
write_x n v s = if n == 31 then s else write_x_or_sp n v s

abbrev pub next_pc : State → ℕ
next_pc s = sum_64 s.pc 4

abbrev pub go_to : ℕ → State → State
go_to address s = record s { pc = address }

-- on to the next instruction
abbrev pub go_on : State → State
go_on s = go_to (next_pc s) s

-- ---- which instruction a word is

pub data Instruction : Type 0 where
  adrp : Instruction
  adr : Instruction
  add : Instruction
  ldr : Instruction
  movn_or_movz : Instruction
  movk_64 : Instruction
  no_operation : Instruction
  blr : Instruction
  bl : Instruction
  b : Instruction
  other : Instruction

-- ADR and ADRP differ in bit 31.
abbrev pub is_adr : ℕ → ℕ → Bool
is_adr bit_31 word = field word 24 29 == 0x10 && bit_at word 31 == bit_31

abbrev pub is_bl : ℕ → Bool
is_bl word = word / 2 ^ 26 == 0x25

abbrev pub is_b : ℕ → Bool
is_b word = word / 2 ^ 26 == 0x5

-- The loads, the moves and ADD (immediate) are those of 64 bits, and the immediate isn't shifted.
abbrev pub decode : ℕ → Instruction
decode word =
    if is_adr 1 word then adrp else (
    if is_adr 0 word then adr else (
    if field word 22 32 == 0x244 then add else (
    if is_ldr64 word then ldr else (
    if opcode_of word == movn_opcode then movn_or_movz else (
    if opcode_of word == movz_opcode then movn_or_movz else (
    if opcode_of word == movk_opcode then movk_64 else (
    if word == nop then no_operation else (
    if word / 2 ^ 10 == 0x358fc0 && rd_of word == 0 then blr else (
    if is_bl word then bl else (
    if is_b word then b else other))))))))))

-- ---- what it does

-- "ADRP": the immediate, in pages, is added to the page of the instruction.
abbrev pub adrp_address : ℕ → State → ℕ
adrp_address word s =
    in_64_bits (pos (page s.pc) +ℤ ((aarch64_form Adr).machine word *ℤ pos 4096))

-- "ADR": the immediate is added to the address of the instruction.
abbrev pub adr_address : ℕ → State → ℕ
adr_address word s = in_64_bits (pos s.pc +ℤ (aarch64_form Adr).machine word)

-- "ADD (immediate)"
abbrev pub added : ℕ → State → ℕ
added word s = in_64_bits (pos (s.registers (rn_of word)) +ℤ (aarch64_form Add).machine word)

-- "LDR (immediate)", unsigned offset: in units of 8 bytes
abbrev pub loaded : ℕ → State → ℕ
loaded word s =
    load_64 s.memory
    (in_64_bits (pos (s.registers (rn_of word)) +ℤ ((aarch64_form LdSt).machine word *ℤ pos 8)))

-- "MOVN" and "MOVZ"
abbrev pub moved : ℕ → ℕ
moved word = in_64_bits ((aarch64_form Movnz).machine word)

-- "MOVK" replaces 16 bits of the register.
abbrev pub with_moved : ℕ → State → ℕ
with_moved word s = in_64_bits (movk (shift_of word) (pos (read_x (rd_of word) s)) word)

-- "B" and "BL": the immediate is in units of 4 bytes.
abbrev pub branch_target : ℕ → State → ℕ
branch_target word s = in_64_bits (pos s.pc +ℤ ((aarch64_form JumpCall).machine word *ℤ pos 4))

-- The state after an instruction. "BLR" reads its register before it writes X30.
abbrev pub execute : Instruction → ℕ → State → Option State
execute adrp word s = Some (go_on (write_x (rd_of word) (adrp_address word s) s))
execute adr word s = Some (go_on (write_x (rd_of word) (adr_address word s) s))
execute add word s = Some (go_on (write_x_or_sp (rd_of word) (added word s) s))
execute ldr word s = Some (go_on (write_x (rd_of word) (loaded word s) s))
execute movn_or_movz word s = Some (go_on (write_x (rd_of word) (moved word) s))
execute movk_64 word s = Some (go_on (write_x (rd_of word) (with_moved word s) s))
execute no_operation word s = Some (go_on s)
execute blr word s = Some (go_to (read_x (rn_of word) s) (write_x 30 (next_pc s) s))
execute bl word s = Some (go_to (branch_target word s) (write_x 30 (next_pc s) s))
execute b word s = Some (go_to (branch_target word s) s)
execute other word s = None

abbrev pub step : ℕ → State → Option State
step word s = execute (decode word) word s
