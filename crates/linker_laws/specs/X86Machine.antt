-- x86-64: what instructions do that rewrites are for, and those that they leave (Intel 64 and IA-32
-- Architectures Software Developer's Manual, volume 2, "Instruction Format" and the page of each
-- instruction). Code isn't part of the memory here.
use Rattle.std.specs.Prelude.{ℕ, zero, suc, ◌+◌, ◌-◌, ◌*◌, ◌/◌, ◌%◌, ◌^◌, ◌==◌, ◌&&◌, Bool, true}
use Rattle.std.specs.Prelude.{false, not, if◌then◌else◌, nat_lt, List, [], ◌∷◌, Option, Some, None}
use Rattle.std.specs.Prelude.{bit_and, bit_or, bit_xor, option_map, slice_get}
use Rattle.linker_laws.specs.Imports.{bit_at, byte_at, cast_unsigned, difference_64, field}
use Rattle.linker_laws.specs.Imports.{number_of_bytes, signed, sum_64, w64}

-- ---- the state

-- CF, PF, AF, ZF, SF and OF (volume 1, "Status Flags")
pub record Flags : Type 0 where
  pub carry : Bool
  pub parity : Bool
  pub auxiliary : Bool
  pub is_zero : Bool
  pub sign : Bool
  pub overflow : Bool

-- Registers are by number: 0 is rax, 4 is rsp. Of a register 64 bits are read, of a byte 8.
pub record State : Type 0 where
  pub register : ℕ → ℕ
  -- the address of the instruction
  pub ip : ℕ
  -- the bytes by their addresses, below 2 ^ 64
  pub memory : ℕ → ℕ
  pub flags : Flags
  -- where the FS segment begins: the thread pointer
  pub fs : ℕ

-- n bytes from an address, as a little-endian number
abbrev pub load : ℕ → State → ℕ → ℕ
load zero s address = 0
load (suc n) s address = s.memory (address % 2 ^ 64) % 2 ^ 8 + 2 ^ 8 * load n s (address + 1)

-- the memory with 8 bytes of a number from an address
abbrev pub store_8 : ℕ → ℕ → (ℕ → ℕ) → ℕ → ℕ
store_8 address number memory a =
    let i = difference_64 a address in
    if nat_lt i 8 then byte_at i number else memory a

-- the registers with a number in one
abbrev pub with_register : ℕ → ℕ → (ℕ → ℕ) → ℕ → ℕ
with_register r number registers k = if k == r then number else registers k

-- with a number in a register, at an instruction
abbrev pub put : ℕ → ℕ → ℕ → State → State
put r number ip s = record s { ip = ip; register = with_register r number s.register }

-- ---- operations

pub data Operation : Type 0 where
  MOV : Operation
  ADD : Operation
  OR : Operation
  ADC : Operation
  SBB : Operation
  AND : Operation
  SUB : Operation
  XOR : Operation
  CMP : Operation
  TEST : Operation

-- all but CMP and TEST write their result
abbrev pub writes : Operation → Bool
writes CMP = false
writes TEST = false
writes op = true

abbrev pub bit_of : Bool → ℕ
bit_of b = if b then 1 else 0

-- how many of the low k bits are 1
abbrev pub ones : ℕ → ℕ → ℕ
ones zero number = 0
ones (suc k) number = bit_at number k + ones k number

-- a number of n bits that an operation makes, and the flags after it; PF is of the low byte
abbrev pub made : ℕ → ℕ → Bool → Bool → Bool → ℕ × Flags
made n r carry auxiliary overflow = (
  r,
  record {
    carry = carry;
    parity = ones 8 r % 2 == 0;
    auxiliary = auxiliary;
    is_zero = r == 0;
    sign = bit_at r (n - 1) == 1;
    overflow = overflow;
  },
)

-- With a carry of 0 or 1. Overflow is where both operands have one sign, and the result has the
-- other.
abbrev pub sum_of : ℕ → ℕ → ℕ → ℕ → ℕ × Flags
sum_of n carry a b =
    let r = (a + b + carry) % 2 ^ n in
    made n r (nat_lt (2 ^ n - 1) (a + b + carry)) (nat_lt 15 (a % 16 + b % 16 + carry))
    ((bit_at a (n - 1) == bit_at b (n - 1)) && not (bit_at r (n - 1) == bit_at a (n - 1)))

abbrev pub difference_of : ℕ → ℕ → ℕ → ℕ → ℕ × Flags
difference_of n borrow a b =
    let r = (a + (2 * 2 ^ n - (b + borrow))) % 2 ^ n in
    made n r (nat_lt a (b + borrow)) (nat_lt (a % 16) (b % 16 + borrow))
    (not (bit_at a (n - 1) == bit_at b (n - 1)) && not (bit_at r (n - 1) == bit_at a (n - 1)))

-- CF and OF are 0; AF, which the manual leaves undefined, is taken as 0
abbrev pub logical : ℕ → ℕ → ℕ × Flags
logical n r = made n r false false false

-- by two numbers of n bits and the flags before
abbrev pub result : Operation → ℕ → Flags → ℕ → ℕ → ℕ × Flags
result MOV n f a b = (b, f)
result ADD n f a b = sum_of n 0 a b
result OR n f a b = logical n (bit_or a b)
result ADC n f a b = sum_of n (bit_of f.carry) a b
result SBB n f a b = difference_of n (bit_of f.carry) a b
result AND n f a b = logical n (bit_and a b)
result SUB n f a b = difference_of n 0 a b
result XOR n f a b = logical n (bit_xor a b)
result CMP n f a b = difference_of n 0 a b
result TEST n f a b = logical n (bit_and a b)

-- ---- instructions

pub data Operand : Type 0 where
  register : ℕ → Operand
  -- the memory so far from the next instruction, in 32 bits ("RIP-Relative Addressing")
  relative : ℕ → Operand
  -- 32 bits
  immediate : ℕ → Operand

-- where a branch goes: so far from the next instruction, or to the address that is loaded there, or
-- from a register's address
pub data Target : Type 0 where
  direct : ℕ → Target
  indirect : ℕ → Target
  through : ℕ → Target

pub data Instruction : Type 0 where
  -- of n bits, into the first operand
  operate : Operation → ℕ → Operand → Operand → Instruction
  -- the same, but into a register; the flags stay where the test is true
  operate_into : ℕ → Bool → Operation → ℕ → Operand → Operand → Instruction
  -- of n bits, into a register, the address so far from the next instruction
  lea : ℕ → ℕ → ℕ → Instruction
  -- the same of a register and 32 bits
  lea_from : ℕ → ℕ → ℕ → ℕ → Instruction
  -- into a register, the 64 bits so far into the FS segment
  load_thread : ℕ → ℕ → Instruction
  call : Target → Instruction
  jump : Target → Instruction
  nop : Instruction

-- 32 bits, sign-extended to 64
abbrev pub extended : ℕ → ℕ
extended number = cast_unsigned w64 (signed 32 number)

-- the number of n bits that an operand is, by the next instruction's address
abbrev pub operand_value : State → ℕ → ℕ → Operand → ℕ
operand_value s next n (register r) = s.register r % 2 ^ n
operand_value s next n (relative d) = load (n / 8) s (sum_64 next (extended d))
operand_value s next n (immediate i) = extended i % 2 ^ n

-- A result of 32 bits is zero-extended. Nothing here writes to other operands than registers.
abbrev pub write_operand : Operand → ℕ → State → ℕ → ℕ
write_operand (register r) number s = with_register r number s.register
write_operand operand number s = s.register

abbrev pub target_address : State → ℕ → Target → ℕ
target_address s next (direct d) = sum_64 next (extended d)
target_address s next (indirect d) = load 8 s (sum_64 next (extended d))
target_address s next (through r) = load 8 s (s.register r)

-- the state after an operation on two numbers, of which the first is that of an operand
abbrev pub perform : Operation → ℕ → Operand → ℕ → ℕ → ℕ → State → State
perform op n first a b next s =
    let r = result op n s.flags a b in
    record s {
      ip = next;
      register = if writes op then write_operand first r.0 s else s.register;
      flags = r.1;
    }

-- the state after an instruction, by the next one's address
abbrev pub execute : Instruction → ℕ → State → State
execute (operate op n first second) next s =
    perform op n first (operand_value s next n first) (operand_value s next n second) next s
execute (operate_into r without_flags op n first second) next s =
    let made = result op n s.flags (operand_value s next n first) (operand_value s next n second) in
    record (put r made.0 next s) { flags = if without_flags then s.flags else made.1 }
execute (lea n r d) next s = put r (sum_64 next (extended d) % 2 ^ n) next s
execute (lea_from n r base d) next s = put r (sum_64 (s.register base) (extended d) % 2 ^ n) next s
execute (load_thread r d) next s = put r (load 8 s (sum_64 s.fs (extended d))) next s
execute (call target) next s =
    let top = difference_64 (s.register 4) 8 in
    record (put 4 top (target_address s next target) s) { memory = store_8 top next s.memory }
execute (jump target) next s = record s { ip = target_address s next target }
execute nop next s = record s { ip = next }

-- ---- decoding

-- an instruction with the count of its bytes
pub record Decoded : Type 0 where
  pub instruction : Instruction
  pub size : ℕ

-- What a prefix says: its bytes, the bits of operands, and what is added to the numbers of the
-- registers that the reg and the rm field name.
pub record Prefix : Type 0 where
  pub size : ℕ
  pub bits : ℕ
  pub reg : ℕ
  pub rm : ℕ

-- by the bit W, which says that operands have 64 bits
abbrev pub prefix : ℕ → ℕ → ℕ → ℕ → Prefix
prefix size w reg rm =
    record { size = size; bits = if w == 1 then 64 else 32; reg = reg; rm = rm }

abbrev pub no_prefix : Prefix
no_prefix = record { size = 0; bits = 32; reg = 0; rm = 0 }

-- 0100WRXB ("REX Prefixes")
abbrev pub is_rex : ℕ → Bool
is_rex b = field b 4 8 == 4

abbrev pub rex_prefix : ℕ → Prefix
rex_prefix b = prefix 1 (bit_at b 3) (8 * bit_at b 2) (8 * bit_at b 0)

-- the byte after d5: M0 R4 X4 B4 W R3 X3 B3 (Intel Advanced Performance Extensions Architecture
-- Specification, "REX2 Prefix")
abbrev pub rex2_prefix : ℕ → Prefix
rex2_prefix b =
    prefix 2 (bit_at b 3) (8 * bit_at b 2 + 16 * bit_at b 6) (8 * bit_at b 0 + 16 * bit_at b 4)

-- The bytes after 62: R3 X3 B3 R4 B4 and the opcode map; W V3 V2 V1 V0 X4 and 00; 000, ND V4 NF
-- and 00. All of R, X and V and B3 are inverted (Intel Advanced Performance Extensions Architecture
-- Specification, "Extended EVEX Prefix").
abbrev pub evex_reg : ℕ → ℕ
evex_reg first = 8 * (1 - bit_at first 7) + 16 * (1 - bit_at first 4)

abbrev pub evex_rm : ℕ → ℕ
evex_rm first = 8 * (1 - bit_at first 5) + 16 * bit_at first 3

abbrev pub evex_prefix : ℕ → ℕ → Prefix
evex_prefix first second = prefix 4 (bit_at second 7) (evex_reg first) (evex_rm first)

-- opcode map 4, and X3 is 1, as there is no index
abbrev pub is_map_4 : ℕ → Bool
is_map_4 first = (field first 0 3 == 4) && (bit_at first 6 == 1)

-- X4 is 1 too, and the two bits below are 0
abbrev pub has_no_index : ℕ → Bool
has_no_index second = field second 0 3 == 4

-- the other bits that are 0
abbrev pub has_zeros : ℕ → Bool
has_zeros third = (field third 5 8 == 0) && (field third 0 2 == 0)

abbrev pub is_evex : ℕ → ℕ → ℕ → Bool
is_evex first second third = is_map_4 first && (has_no_index second && has_zeros third)

-- the register that V names
abbrev pub v_register : ℕ → ℕ → ℕ
v_register second third = 31 - (field second 3 7 + 16 * bit_at third 3)

-- With ND the result is put in the register that V names. Else it is put in the first operand, and
-- V is 0.
abbrev pub destination_of : ℕ → ℕ → ℕ → Option ℕ
destination_of second third r =
    if bit_at third 4 == 1 then Some (v_register second third)
    else (if v_register second third == 0 then Some r
    else None)

-- NF: the flags stay as they were
abbrev pub is_without_flags : ℕ → Bool
is_without_flags third = bit_at third 2 == 1

-- The operations of map 4, by whether they are without flags. ADC and SBB have no NF. The opcodes
-- of CMP and TEST are others' there, and MOV has none.
abbrev pub is_in_map_4 : Operation → Bool → Bool
is_in_map_4 ADD without_flags = true
is_in_map_4 OR without_flags = true
is_in_map_4 ADC without_flags = not without_flags
is_in_map_4 SBB without_flags = not without_flags
is_in_map_4 AND without_flags = true
is_in_map_4 SUB without_flags = true
is_in_map_4 XOR without_flags = true
is_in_map_4 op without_flags = false

-- the fields of a ModRM byte ("ModR/M and SIB Bytes")
abbrev pub mod_of : ℕ → ℕ
mod_of m = field m 6 8

abbrev pub reg_of : ℕ → ℕ
reg_of m = field m 3 6

abbrev pub rm_of : ℕ → ℕ
rm_of m = field m 0 3

-- mod 00 and rm 101
abbrev pub is_relative : ℕ → Bool
is_relative m = (mod_of m == 0) && (rm_of m == 5)

-- mod 11
abbrev pub is_register : ℕ → Bool
is_register m = mod_of m == 3

-- the operations of opcodes 00 to 3f, and of 81, by number ("Opcode Extensions", group 1)
abbrev pub group_1 : ℕ → Option Operation
group_1 k = slice_get (ADD ∷ OR ∷ ADC ∷ SBB ∷ AND ∷ SUB ∷ XOR ∷ CMP ∷ []) k

-- an opcode of which the first operand is the register, and the second is that of mod and rm
abbrev pub operation_of : ℕ → Option Operation
operation_of opcode =
    if opcode == 0x8b then Some MOV
    else (if opcode % 8 == 3 then group_1 (opcode / 8)
    else None)

-- an opcode of which the first is that of mod and rm, and the second is an immediate of 32 bits
abbrev pub immediate_operation : ℕ → ℕ → Option Operation
immediate_operation opcode k =
    if opcode == 0x81 then group_1 k
    else (if (opcode == 0xc7) && (k == 0) then Some MOV
    else (if (opcode == 0xf7) && (k == 0) then Some TEST
    else None))

-- an instruction after its prefix, with as many bytes after that
abbrev pub sized : Prefix → ℕ → Instruction → Option Decoded
sized p n instruction = Some (record { instruction = instruction; size = p.size + n })

abbrev pub on_relative : Prefix → ℕ → Option Operation → List ℕ → Option Decoded
on_relative p m None rest = None
on_relative p m (Some op) rest =
    sized p 6
    (operate op p.bits (register (reg_of m + p.reg)) (relative (number_of_bytes 4 rest)))

abbrev pub on_immediate : Prefix → ℕ → Option Operation → List ℕ → Option Decoded
on_immediate p m None rest = None
on_immediate p m (Some op) rest =
    sized p 6 (operate op p.bits (register (rm_of m + p.rm)) (immediate (number_of_bytes 4 rest)))

-- by the opcode, the ModRM byte with mod 00 and rm 101, and the bytes after it: TEST by 85, LEA,
-- CALL and JMP by ff, and the operations
abbrev pub decode_relative : Prefix → ℕ → ℕ → List ℕ → Option Decoded
decode_relative p opcode m rest =
    let d = number_of_bytes 4 rest in
    if opcode == 0x85
    then sized p 6 (operate TEST p.bits (relative d) (register (reg_of m + p.reg)))
    else (if opcode == 0x8d then sized p 6 (lea p.bits (reg_of m + p.reg) d)
    else (if (opcode == 0xff) && (reg_of m == 2) then sized p 6 (call (indirect d))
    else (if (opcode == 0xff) && (reg_of m == 4) then sized p 6 (jump (indirect d))
    else on_relative p m (operation_of opcode) rest)))

-- LEA of mod 10, and CALL by ff of mod 00, with no SIB byte
abbrev pub decode_based : Prefix → ℕ → ℕ → List ℕ → Option Decoded
decode_based p opcode m rest =
    if (opcode == 0x8d) && ((mod_of m == 2) && not (rm_of m == 4))
    then sized p 6 (lea_from p.bits (reg_of m + p.reg) (rm_of m + p.rm) (number_of_bytes 4 rest))
    else (if ((opcode == 0xff) && (reg_of m == 2)) && ((mod_of m == 0) && not (rm_of m == 4))
    then sized p 2 (call (through (rm_of m + p.rm)))
    else None)

abbrev pub decode_modrm : Prefix → ℕ → List ℕ → Option Decoded
decode_modrm p opcode [] = None
decode_modrm p opcode (m ∷ rest) =
    if is_relative m then decode_relative p opcode m rest
    else (if is_register m then on_immediate p m (immediate_operation opcode (reg_of m)) rest
    else decode_based p opcode m rest)

abbrev pub decode_opcode : Prefix → List ℕ → Option Decoded
decode_opcode p [] = None
decode_opcode p (opcode ∷ rest) = decode_modrm p opcode rest

-- an operation after EVEX into a register
abbrev pub into : Prefix → ℕ → Operation → ℕ → Operand → Option ℕ → Option Decoded
into p third op r operand None = None
into p third op r operand (Some destination) =
    sized p 6
    (operate_into destination (is_without_flags third) op p.bits (register r) operand)

-- on a register and another operand
abbrev pub on_evex : Prefix → ℕ → ℕ → ℕ → Operand → Option Operation → Option Decoded
on_evex p second third r operand None = None
on_evex p second third r operand (Some op) =
    if is_in_map_4 op (is_without_flags third)
    then into p third op r operand (destination_of second third r)
    else None

abbrev pub evex_modrm : Prefix → ℕ → ℕ → ℕ → ℕ → List ℕ → Option Decoded
evex_modrm p second third opcode m rest =
    let number = number_of_bytes 4 rest in
    if is_relative m
    then on_evex p second third (reg_of m + p.reg) (relative number) (operation_of opcode)
    else (if is_register m
    then
    on_evex p second third (rm_of m + p.rm) (immediate number)
    (immediate_operation opcode (reg_of m))
    else None)

-- after 62
abbrev pub decode_evex : List ℕ → Option Decoded
decode_evex (first ∷ second ∷ third ∷ opcode ∷ m ∷ rest) =
    if is_evex first second third
    then evex_modrm (evex_prefix first second) second third opcode m rest
    else None
decode_evex bytes = None

-- The address-size prefix 67 changes nothing of CALL by e8, the only opcode after it here.
abbrev pub decode_addr32 : List ℕ → Option Decoded
decode_addr32 [] = None
decode_addr32 (opcode ∷ rest) =
    if opcode == 0xe8 then sized no_prefix 6 (call (direct (number_of_bytes 4 rest))) else None

-- after d5, with opcode map 0 (M0)
abbrev pub decode_rex2 : List ℕ → Option Decoded
decode_rex2 [] = None
decode_rex2 (b ∷ rest) = if bit_at b 7 == 0 then decode_opcode (rex2_prefix b) rest else None

-- one more byte
abbrev pub longer : Option Decoded → Option Decoded
longer d = option_map (λ (d : Decoded). record d { size = d.size + 1 }) d

-- REX with W
abbrev pub is_rex_w : ℕ → Bool
is_rex_w b = is_rex b && (bit_at b 3 == 1)

-- after 64, the prefix of the FS segment: MOV with REX.W, of an address of 32 bits (SIB 25: no base
-- and no index)
abbrev pub decode_fs : List ℕ → Option Decoded
decode_fs (b ∷ opcode ∷ m ∷ sib ∷ rest) =
    if (is_rex_w b && (opcode == 0x8b)) && (((mod_of m == 0) && (rm_of m == 4)) && (sib == 0x25))
    then sized no_prefix 9 (load_thread (reg_of m + 8 * bit_at b 2) (number_of_bytes 4 rest))
    else None
decode_fs bytes = None

-- NOP by 0f 1f /0, whose operand isn't read: of a SIB byte, and a displacement of 8 or of 32 bits
abbrev pub decode_long_nop : List ℕ → Option Decoded
decode_long_nop (b ∷ opcode ∷ m ∷ sib ∷ rest) =
    if ((b == 0x0f) && (opcode == 0x1f)) && ((reg_of m == 0) && (rm_of m == 4))
    then (if mod_of m == 1 then sized no_prefix 5 nop
    else (if mod_of m == 2 then sized no_prefix 8 nop
    else None))
    else None
decode_long_nop bytes = None

-- after REX with W, also CALL by e8
abbrev pub decode_wide : ℕ → List ℕ → Option Decoded
decode_wide b [] = None
decode_wide b (opcode ∷ rest) =
    if opcode == 0xe8 then sized (rex_prefix b) 5 (call (direct (number_of_bytes 4 rest)))
    else decode_opcode (rex_prefix b) (opcode ∷ rest)

-- The operand-size prefix 66 changes nothing of an instruction with REX.W ("REX Prefixes"), nor of
-- NOP, and may be there more than once. Nor does 2e, the prefix of the CS segment, change NOP.
abbrev pub decode_data16 : List ℕ → Option Decoded
decode_data16 [] = None
decode_data16 (b ∷ bytes) =
    if is_rex_w b then longer (decode_wide b bytes)
    else (if b == 0x90 then sized no_prefix 2 nop
    else (if b == 0x66 then longer (decode_data16 bytes)
    else (if b == 0x64 then longer (decode_fs bytes)
    else (if b == 0x2e then longer (longer (decode_long_nop bytes))
    else longer (decode_long_nop (b ∷ bytes))))))

-- An instruction has 15 bytes at most ("Instruction Format").
abbrev pub not_too_long : Option Decoded → Option Decoded
not_too_long None = None
not_too_long (Some d) = if nat_lt 15 d.size then None else Some d

-- The instruction that bytes begin with; none where it isn't one of these. With no prefix these are
-- CALL and JMP by e8 and e9, NOP by 90, and those with a ModRM byte.
abbrev pub decode : List ℕ → Option Decoded
decode [] = None
decode (b ∷ bytes) =
    if is_rex b then decode_opcode (rex_prefix b) bytes
    else (if b == 0xd5 then decode_rex2 bytes
    else (if b == 0x67 then decode_addr32 bytes
    else (if b == 0x66 then not_too_long (decode_data16 bytes)
    else (if b == 0x64 then decode_fs bytes
    else (if b == 0x62 then decode_evex bytes
    else (if b == 0xe8 then sized no_prefix 5 (call (direct (number_of_bytes 4 bytes)))
    else (if b == 0xe9 then sized no_prefix 5 (jump (direct (number_of_bytes 4 bytes)))
    else (if b == 0x90 then sized no_prefix 1 nop
    else decode_modrm no_prefix b bytes))))))))

-- the state after the instruction that bytes begin with
abbrev pub step : List ℕ → State → Option State
step bytes s = option_map (λ d. execute d.instruction (sum_64 s.ip d.size) s) (decode bytes)
