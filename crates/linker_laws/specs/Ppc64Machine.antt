-- PowerPC64: what the instructions of a rewrite's sequences do (Power ISA, version 3.1, book I,
-- "Branch Facility", "Fixed-Point Facility" and "Floating-Point Facility"). Any address can be read
-- and written, and code is apart from memory. None of the instructions changes the condition
-- register.
use Rattle.std.specs.Prelude.{ℕ, ◌-◌, ◌*◌, ◌/◌, ◌^◌, ◌==◌, ◌&&◌, nat_lt, if◌then◌else◌, pos, ◌*ℤ◌}
use Rattle.std.specs.Prelude.{Option, Some, None}
use Rattle.linker_laws.specs.Imports.{Branch24, D, Ds, Prefixed, field, ppc64_form, sum_64}
use Rattle.linker_utils.specs.Ppc64Rewrites.{opcode_of, rt_of, ra_of, access_of, is_access}
use Rattle.linker_utils.specs.Ppc64Rewrites.{is_word_access, rb_of, nop}
use Rattle.linker_laws.specs.Machine.{Memory, moved, extended, loaded, stored}

-- ---- the state

pub record State : Type 0 where
  -- the registers by their numbers; floating-point ones in double precision
  pub registers : ℕ → ℕ
  pub floats : ℕ → ℕ
  -- the link register, and the address of the next instruction
  pub link : ℕ
  pub pc : ℕ
  pub memory : Memory

-- what a register is as a base: register 0 stands for the number 0
abbrev pub base : ℕ → State → ℕ
base r s = if r == 0 then 0 else s.registers r

abbrev pub with_number : ℕ → ℕ → (ℕ → ℕ) → ℕ → ℕ
with_number r v registers n = if n == r then v else registers n

abbrev pub write : ℕ → ℕ → State → State
write r v s = record s { registers = with_number r v s.registers }

abbrev pub write_float : ℕ → ℕ → State → State
write_float r v s = record s { floats = with_number r v s.floats }

abbrev pub store : ℕ → ℕ → ℕ → State → State
store bytes number address s = record s { memory = stored bytes number address s.memory }

abbrev pub go_to : ℕ → State → State
go_to address s = record s { pc = address }

abbrev pub next_pc : State → ℕ
next_pc s = sum_64 s.pc 4

-- on to the next instruction
abbrev pub go_on : State → State
go_on s = go_to (next_pc s) s

-- ---- loads and stores

-- What a load or a store does: how many bytes it takes, and what kind of number.
pub data Access : Type 0 where
  loads : ℕ → Access
  loads_signed : ℕ → Access
  stores : ℕ → Access
  loads_single : Access
  loads_double : Access
  stores_single : Access
  stores_double : Access
  no_access : Access

-- by the opcode less 32, or the upper half of the extended opcode
abbrev pub access_with : ℕ → Access
access_with n =
    if n == 0 then loads 4 else (
    if n == 2 then loads 1 else (
    if n == 4 then stores 4 else (
    if n == 6 then stores 1 else (
    if n == 8 then loads 2 else (
    if n == 10 then loads_signed 2 else (
    if n == 12 then stores 2 else (
    if n == 16 then loads_single else (
    if n == 18 then loads_double else (
    if n == 20 then stores_single else (
    if n == 22 then stores_double else no_access))))))))))

-- `ldx`, `stdx` and `lwax`, by the upper half of the extended opcode
abbrev pub word_access_with : ℕ → Access
word_access_with n =
    if n == 0 then loads 8 else (
    if n == 4 then stores 8 else (
    if n == 10 then loads_signed 4 else no_access))

-- How numbers of single and double precision are made of one another.
pub record Formats : Type 0 where
  pub widened : ℕ → ℕ
  pub narrowed : ℕ → ℕ

-- an access of register r at an address
abbrev pub accessed : Formats → Access → ℕ → ℕ → State → State
accessed f (loads n) r a s = write r (loaded n s.memory a) s
accessed f (loads_signed n) r a s = write r (extended (8 * n) (loaded n s.memory a)) s
accessed f (stores n) r a s = store n (s.registers r) a s
accessed f loads_single r a s = write_float r (f.widened (loaded 4 s.memory a)) s
accessed f loads_double r a s = write_float r (loaded 8 s.memory a) s
accessed f stores_single r a s = store 4 (f.narrowed (s.floats r)) a s
accessed f stores_double r a s = store 8 (s.floats r) a s
accessed f no_access r a s = s

-- ---- which instruction a word is

pub data Instruction : Type 0 where
  addi : Instruction
  addis : Instruction
  add : Instruction
  -- D-form, DS-form, and with an index
  access : Access → Instruction
  word_access : Access → Instruction
  indexed : Access → Instruction
  bl : Instruction
  -- `or` of a register with itself
  move : Instruction
  no_operation : Instruction
  other : Instruction

-- extended opcodes, without bit 0 or with 0 there
abbrev pub of_31 : ℕ → Instruction
of_31 word =
    if field word 0 11 == 0x214 then add else (
    if field word 0 6 == 0x2e && is_access (access_of word)
    then indexed (access_with (access_of word)) else (
    if field word 0 6 == 0x2a && is_word_access (access_of word)
    then indexed (word_access_with (access_of word)) else (
    if field word 0 11 == 0x378 && rt_of word == rb_of word then move else other)))

-- `ld` and `lwa`; `std`
abbrev pub of_58 : ℕ → Instruction
of_58 low =
    if low == 0 then word_access (loads 8) else (
    if low == 2 then word_access (loads_signed 4) else other)

abbrev pub of_62 : ℕ → Instruction
of_62 low = if low == 0 then word_access (stores 8) else other

abbrev pub by_opcode : ℕ → ℕ → Instruction
by_opcode opcode word =
    if opcode == 14 then addi else (
    if opcode == 15 then addis else (
    if opcode == 18 then (if field word 0 2 == 1 then bl else other) else (
    if opcode == 24 then (if word == nop then no_operation else other) else (
    if opcode == 31 then of_31 word else (
    if opcode == 58 then of_58 (field word 0 2) else (
    if opcode == 62 then of_62 (field word 0 2) else (
    if nat_lt 31 opcode && is_access (opcode - 32)
    then access (access_with (opcode - 32)) else other)))))))

abbrev pub decode : ℕ → Instruction
decode word = by_opcode (opcode_of word) word

-- ---- what it does

-- the base and the displacement
abbrev pub d_address : ℕ → State → ℕ
d_address word s = moved (base (ra_of word) s) ((ppc64_form D).machine word)

abbrev pub ds_address : ℕ → State → ℕ
ds_address word s = moved (base (ra_of word) s) ((ppc64_form Ds).machine word)

abbrev pub indexed_address : ℕ → State → ℕ
indexed_address word s = sum_64 (base (ra_of word) s) (s.registers (rb_of word))

-- "Add Immediate Shifted"
abbrev pub shifted_sum : ℕ → State → ℕ
shifted_sum word s = moved (base (ra_of word) s) ((ppc64_form D).machine word *ℤ pos (2 ^ 16))

-- The state after an instruction.
abbrev pub execute : Formats → Instruction → ℕ → State → Option State
execute f addi word s = Some (go_on (write (rt_of word) (d_address word s) s))
execute f addis word s = Some (go_on (write (rt_of word) (shifted_sum word s) s))
execute f add word s =
    let sum = sum_64 (s.registers (ra_of word)) (s.registers (rb_of word)) in
    Some (go_on (write (rt_of word) sum s))
execute f (access a) word s = Some (go_on (accessed f a (rt_of word) (d_address word s) s))
execute f (word_access a) word s = Some (go_on (accessed f a (rt_of word) (ds_address word s) s))
execute f (indexed a) word s = Some (go_on (accessed f a (rt_of word) (indexed_address word s) s))
execute f bl word s =
    Some (go_to (moved s.pc ((ppc64_form Branch24).machine word)) (record s { link = next_pc s }))
execute f move word s = Some (go_on (write (ra_of word) (s.registers (rt_of word)) s))
execute f no_operation word s = Some (go_on s)
execute f other word s = None

abbrev pub step : Formats → ℕ → State → Option State
step f word s = execute f (decode word) word s

-- `pld` and `paddi`, relative to the instruction, and `paddi` over a register, by the number of
-- their 8 bytes: its lower 32 bits are the prefix.
abbrev pub step_prefixed : Formats → ℕ → State → Option State
step_prefixed f both s =
    let word = both / 2 ^ 32 in
    let displacement = (ppc64_form Prefixed).machine both in
    let next = go_to (sum_64 s.pc 8) s in
    if field both 18 32 == 0x104 && (opcode_of word == 57 && ra_of word == 0)
    then Some (accessed f (loads 8) (rt_of word) (moved s.pc displacement) next)
    else (if field both 18 32 == 0x184 && (opcode_of word == 14 && ra_of word == 0)
    then Some (write (rt_of word) (moved s.pc displacement) next)
    else (if field both 18 32 == 0x180 && opcode_of word == 14
    then Some (write (rt_of word) (moved (base (ra_of word) s) displacement) next)
    else None))
