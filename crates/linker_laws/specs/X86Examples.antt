-- x86-64: rows that the definitions of instructions are compared with, of what
-- `linker_final::emulated` doesn't compare. GNU as makes these bytes of these instructions, LLVM 22
-- those with REX2 and with EVEX, and GNU objdump reads those with `data16 data16` so.
use Rattle.std.specs.Prelude.{◌≡◌, ℕ, zero, suc, ◌+◌, ◌*◌, ◌/◌, ◌%◌, ◌==◌, true, false, List, []}
use Rattle.std.specs.Prelude.{◌∷◌, if◌then◌else◌, map, length, IsSomeAnd, Some, None}
use Rattle.linker_laws.specs.X86Machine.{MOV, ADD, OR, ADC, SBB, AND, SUB, XOR, TEST, Instruction}
use Rattle.linker_laws.specs.X86Machine.{operate, operate_into as into, lea, load_thread, call, nop}
use Rattle.linker_laws.specs.X86Machine.{direct, through, Operand, register as reg, relative}
use Rattle.linker_laws.specs.X86Machine.{immediate, decode, step, Flags, State, bit_of, load}

-- ---- bytes

-- the bytes of a number, of which the first is the highest, before others
abbrev pub bytes_before : ℕ → ℕ → List ℕ → List ℕ
bytes_before zero n others = others
bytes_before (suc k) n others =
    if n == 0 then others else bytes_before k (n / 256) (n % 256 ∷ others)

-- those of an instruction, 15 at most
abbrev pub bytes_of : ℕ → List ℕ
bytes_of n = bytes_before 15 n []

abbrev pub near : Operand
near = relative 0x10

abbrev pub number : Operand
number = immediate 0x12345678

-- instructions, each after its bytes
abbrev pub decoded : List (ℕ × Instruction)
decoded =
    (0xff10, call (through 0))  -- call *(%rax)
    ∷ (0x41ff11, call (through 9))  -- call *(%r9)
    ∷ (0x666648e810000000, call (direct 0x10))  -- data16 data16 rex.W call .+0x18
    ∷ (0x67e810000000, call (direct 0x10))  -- addr32 call .+0x16
    ∷ (0xd5488b0510000000, operate MOV 64 (reg 16) near)  -- mov 0x10(%rip), %r16
    ∷ (0xd5448d0d10000000, lea 32 25 0x10)  -- lea 0x10(%rip), %r25d
    ∷ (0xd54c133d10000000, operate ADC 64 (reg 31) near)  -- adc 0x10(%rip), %r31
    ∷ (0xd54c850510000000, operate TEST 64 near (reg 24))  -- test %r24, 0x10(%rip)
    ∷ (0xd518c7c0f8ffffff, operate MOV 64 (reg 16) (immediate 0xfffffff8))  -- mov $-8, %r16
    ∷ (0xd51981d778563412, operate ADC 64 (reg 31) number)  -- adc $0x12345678, %r31
    ∷ (0x66488d3d10000000, lea 64 7 0x10)  -- data16 lea 0x10(%rip), %rdi
    ∷ (0x6690, nop)  -- data16 nop
    ∷ (0x62f4ec10030d10000000, into 18 false ADD 64 (reg 1) near)  -- add 0x10(%rip), %rcx, %r18
    ∷ (0x62e4ec10030d10000000, into 18 false ADD 64 (reg 17) near)  -- add 0x10(%rip), %r17, %r18
    -- {nf} add 0x10(%rip), %r28, %r18
    ∷ (0x6264ec14032510000000, into 18 true ADD 64 (reg 28) near)
    ∷ (0x62e4fc0c030d10000000, into 17 true ADD 64 (reg 17) near)  -- {nf} add 0x10(%rip), %r17
    ∷ (0x6274fc08030d10000000, into 9 false ADD 64 (reg 9) near)  -- {evex} add 0x10(%rip), %r9
    ∷ (0x6264fc08133d10000000, into 31 false ADC 64 (reg 31) near)  -- {evex} adc 0x10(%rip), %r31
    ∷ (0x62f46c10130d10000000, into 18 false ADC 32 (reg 1) near)  -- adc 0x10(%rip), %ecx, %r18d
    ∷ (0x6264e4181b3d10000000, into 3 false SBB 64 (reg 31) near)  -- sbb 0x10(%rip), %r31, %rbx
    ∷ (0x62743418230510000000, into 9 false AND 32 (reg 8) near)  -- and 0x10(%rip), %r8d, %r9d
    ∷ (0x62e484140b0510000000, into 31 true OR 64 (reg 16) near)  -- {nf} or 0x10(%rip), %r16, %r31
    ∷ (0x62f4ec18330510000000, into 2 false XOR 64 (reg 0) near)  -- xor 0x10(%rip), %rax, %rdx
    ∷ (0x62f4ec1081c178563412, into 18 false ADD 64 (reg 1) number)  -- add $0x12345678, %rcx, %r18
    -- {nf} add $0x12345678, %r28, %r18
    ∷ (0x62dcec1481c478563412, into 18 true ADD 64 (reg 28) number)
    ∷ (0x62fcfc0c81c178563412, into 17 true ADD 64 (reg 17) number)  -- {nf} add $0x12345678, %r17
    ∷ (0x62d4fc0881c178563412, into 9 false ADD 64 (reg 9) number)  -- {evex} add $0x12345678, %r9
    -- {evex} adc $0x12345678, %r31
    ∷ (0x62dcfc0881d778563412, into 31 false ADC 64 (reg 31) number)
    ∷ (0x62f46c1081d178563412, into 18 false ADC 32 (reg 1) number)  -- adc $0x12345678, %ecx, %r18d
    ∷ (0x62dce41881df78563412, into 3 false SBB 64 (reg 31) number)  -- sbb $0x12345678, %r31, %rbx
    ∷ (0x62d4341881e078563412, into 9 false AND 32 (reg 8) number)  -- and $0x12345678, %r8d, %r9d
    -- {nf} or $0x12345678, %r16, %r31
    ∷ (0x62fc841481c878563412, into 31 true OR 64 (reg 16) number)
    ∷ (0x62fcec1881f178563412, into 2 false XOR 64 (reg 17) number)  -- xor $0x12345678, %r17, %rdx
    ∷ (0x6264e4182b3d10000000, into 3 false SUB 64 (reg 31) near)  -- sub 0x10(%rip), %r31, %rbx
    ∷ (0x62e4fc0c2b0d10000000, into 17 true SUB 64 (reg 17) near)  -- {nf} sub 0x10(%rip), %r17
    ∷ (0x6274341c230510000000, into 9 true AND 32 (reg 8) near)  -- {nf} and 0x10(%rip), %r8d, %r9d
    ∷ (0x62f4ec1c330510000000, into 2 true XOR 64 (reg 0) near)  -- {nf} xor 0x10(%rip), %rax, %rdx
    ∷ (0x62dce41881ef78563412, into 3 false SUB 64 (reg 31) number)  -- sub $0x12345678, %r31, %rbx
    -- {nf} and $0x12345678, %r8d, %r9d
    ∷ (0x62d4341c81e078563412, into 9 true AND 32 (reg 8) number)
    -- {nf} xor $0x12345678, %r16, %rdx
    ∷ (0x62fcec1c81f078563412, into 2 true XOR 64 (reg 16) number)
    ∷ (0x66666664488b042500000000, load_thread 0 0)  -- data16 data16 data16 mov %fs:0, %rax
    ∷ (0x660f1f440000, nop)  -- nopw 0(%rax,%rax,1)
    ∷ (0x666666662e0f1f840000000000, nop)  -- data16 data16 data16 cs nopw 0(%rax,%rax,1)
    ∷ []

abbrev pub Decoding : Type 0
Decoding =
    (map (λ (row : ℕ × Instruction). decode (bytes_of row.0)) decoded
    ≡ map
    (λ (row : ℕ × Instruction). Some (record {
      instruction = row.1;
      size = length (bytes_of row.0);
    })) decoded)
    -- 7 of `data16`, and 9 bytes
    × (decode (0x66 ∷ 0x66 ∷ 0x66 ∷ 0x66 ∷ 0x66 ∷ 0x66 ∷ 0x66 ∷ 0x64 ∷ 0x48 ∷ 0x8b ∷ 0x04 ∷ 0x25
    ∷ 0x00 ∷ 0x00 ∷ 0x00 ∷ 0x00 ∷ []) ≡ None)

-- ---- states

-- the flags as bits of EFLAGS (volume 1, "EFLAGS Register")
abbrev pub flags_number : Flags → ℕ
flags_number f =
    bit_of f.carry + 4 * bit_of f.parity + 16 * bit_of f.auxiliary + 64 * bit_of f.is_zero
    + 128 * bit_of f.sign + 2048 * bit_of f.overflow

-- registers 5 and up, each byte the low byte of its address, and CF alone
abbrev pub example : State
example =
    record {
      register = λ r. 0xffffffff00000000 + 16 * r;
      ip = 0x1000;
      memory = λ a. a % 0x100;
      flags = record {
        carry = true;
        parity = false;
        auxiliary = false;
        is_zero = false;
        sign = false;
        overflow = false;
      };
      fs = 0x2000;
    }

abbrev pub Leaves : ℕ → (State → Type 0) → Type 0
Leaves code After = IsSomeAnd (step (bytes_of code) example) After

-- worked by hand
abbrev pub States : Type 0
States =
    -- the return address is pushed: `call *(%rax)`
    Leaves 0xff10 (λ s.
    (s.ip ≡ 0x0706050403020100) × (s.register 4 ≡ 0xffffffff00000038)
    × (load 8 s 0xffffffff00000038 ≡ 0x1002))
    -- The sum is written to the new destination alone, and the flags stay:
    -- `{nf} add $0x12345678, %r28, %r18`
    × Leaves 0x62dcec1481c478563412 (λ s.
    (s.ip ≡ 0x100a) × (s.register 18 ≡ 0xffffffff12345838)
    × (s.register 28 ≡ 0xffffffff000001c0) × (flags_number s.flags ≡ 1))
    -- zeros above, CF is added, and other flags: `adc $0x12345678, %ecx, %r18d`
    × Leaves 0x62f46c1081d178563412 (λ s.
    (s.register 18 ≡ 0x12345689) × (s.register 1 ≡ 0xffffffff00000010)
    × (flags_number s.flags ≡ 0))
