-- RISC-V: words that LLVM's assembler wrote, as instructions, and what some instructions leave of a
-- hart (RISC-V unprivileged ISA; its sections are named in `RiscVMachine`).
use Rattle.std.specs.Prelude.{◌≡◌, ℕ, ◌*◌, ◌%◌, List, [], ◌∷◌, pos, negsuc, Some, None}
use Rattle.linker_laws.specs.RiscVMachine.{Hart, register, Instruction, lui, auipc, jal, sums, adds}
use Rattle.linker_laws.specs.RiscVMachine.{adds_word, jumps, loads, stores, loads_float, fetched}
use Rattle.linker_laws.specs.RiscVMachine.{executed, Runs}

-- ---- words

abbrev pub IsWord : List ℕ → Instruction → Type 0
IsWord bytes i = fetched bytes ≡ Some (4, i)

abbrev pub IsHalf : List ℕ → Instruction → Type 0
IsHalf bytes i = fetched bytes ≡ Some (2, i)

abbrev pub Words : Type 0
Words =
    IsWord (0x37 ∷ 0x55 ∷ 0x34 ∷ 0x12 ∷ []) (lui 10 (pos 0x12345000))  -- lui a0, 0x12345
    × IsWord (0x97 ∷ 0x10 ∷ 0x00 ∷ 0x00 ∷ []) (auipc 1 (pos 0x1000))  -- auipc ra, 1
    × IsWord (0xef ∷ 0x00 ∷ 0x80 ∷ 0x00 ∷ []) (jal 1 (pos 8))  -- jal ra, 8
    × IsWord (0xe7 ∷ 0x00 ∷ 0xc3 ∷ 0xff ∷ []) (sums jumps 1 6 0 (negsuc 3))  -- jalr ra, -4(t1)
    × IsWord (0x1b ∷ 0x85 ∷ 0x15 ∷ 0x00 ∷ []) (sums adds_word 10 11 0 (pos 1))  -- addiw a0, a1, 1
    × IsWord (0x03 ∷ 0x45 ∷ 0x81 ∷ 0x00 ∷ []) (sums (loads 4) 10 2 0 (pos 8))  -- lbu a0, 8(sp)
    × IsWord (0x23 ∷ 0x3c ∷ 0xa4 ∷ 0xfe ∷ []) (sums (stores 3) 0 8 10 (negsuc 7))  -- sd a0, -8(s0)
    -- flw fa0, 4(a0)
    × IsWord (0x07 ∷ 0x25 ∷ 0x45 ∷ 0x00 ∷ []) (sums (loads_float 2) 10 10 0 (pos 4))

abbrev pub Halves : Type 0
Halves =
    IsHalf (0x01 ∷ 0x00 ∷ []) (sums adds 0 0 0 (pos 0))  -- c.nop
    × IsHalf (0x7d ∷ 0x65 ∷ []) (lui 10 (pos 0x1f000))  -- c.lui a0, 31
    × IsHalf (0x7d ∷ 0x75 ∷ []) (lui 10 (negsuc 4095))  -- c.lui a0, 0xfffff
    × IsHalf (0xfd ∷ 0xbf ∷ []) (jal 0 (negsuc 1))  -- c.j -2
    × IsHalf (0x01 ∷ 0x45 ∷ []) (sums adds 10 0 0 (pos 0))  -- c.li a0, 0
    × IsHalf (0x81 ∷ 0x5f ∷ []) (sums adds 31 0 0 (negsuc 31))  -- c.li t6, -32
    × (fetched (0x01 ∷ 0x65 ∷ []) ≡ None)  -- `c.lui` with the immediate 0 is none

-- ---- execution

-- register r has 256 times r, and each byte is the lowest of its address
abbrev pub some_hart : Hart
some_hart =
    record {
      pc = 0x1000;
      integers = λ r. r * 256;
      floats = λ r. 0;
      memory = λ address. address % 256;
    }

-- what a register has after an instruction of four bytes
abbrev pub Leaves : Instruction → ℕ → ℕ → Type 0
Leaves i r number = register (executed 4 i some_hart) r ≡ number

abbrev pub Execution : Type 0
Execution =
    Leaves (lui 0 (pos 0x1000)) 0 0  -- x0 stays 0
    -- sums are modulo 2 ^ 64, and `addiw` extends bit 31
    × Leaves (sums adds 5 0 0 (negsuc 0)) 5 0xffffffffffffffff
    × Leaves (sums adds_word 5 1 0 (pos 0x7fffff00)) 5 0xffffffff80000000
    -- `lb` extends bit 7, `lbu` doesn't, and `lw` is little-endian
    × Leaves (sums (loads 0) 5 1 0 (pos 0x80)) 5 0xffffffffffffff80
    × Leaves (sums (loads 4) 5 1 0 (pos 0x80)) 5 0x80
    × Leaves (sums (loads 2) 5 1 0 (pos 0x10)) 5 0x13121110
    -- `sh` of 0x300 stores 0x00 and 0x03
    × ((executed 4 (sums (stores 1) 0 1 3 (pos 0x10)) some_hart).memory 0x110 ≡ 0x00)
    × ((executed 4 (sums (stores 1) 0 1 3 (pos 0x10)) some_hart).memory 0x111 ≡ 0x03)
    × ((executed 4 (sums (stores 1) 0 1 3 (pos 0x10)) some_hart).memory 0x112 ≡ 0x12)
    -- `jalr` adds to the old register, clears bit 0 and links what is after it
    × ((executed 4 (sums jumps 1 1 0 (pos 0x11)) some_hart).pc ≡ 0x110)
    × Leaves (sums jumps 1 1 0 (pos 0x11)) 1 0x1004
    -- `flw` sets the bits above a float
    × ((executed 4 (sums (loads_float 2) 5 1 0 (pos 0)) some_hart).floats 5
    ≡ 0xffffffffffffffffffffffff03020100)

-- ---- sequences

-- n instructions of code at 0x1000 lead to an address, and x1 has another
abbrev pub Leads : ℕ → List ℕ → ℕ → ℕ → Type 0
Leads n code address x1 =
    (after : Hart) × Runs n code 0x1000 some_hart after × (after.pc ≡ address)
    × (register after 1 ≡ x1)

abbrev pub Sequences : Type 0
Sequences =
    -- auipc ra, 2; jalr ra, 16(ra)
    Leads 2 (0x97 ∷ 0x20 ∷ 0x00 ∷ 0x00 ∷ 0xe7 ∷ 0x80 ∷ 0x00 ∷ 0x01 ∷ []) 0x3010 0x1008
    × Leads 1 (0xef ∷ 0x20 ∷ 0x00 ∷ 0x01 ∷ []) 0x3010 0x1004  -- jal ra, 0x2010
    × Leads 2 (0x01 ∷ 0x00 ∷ 0xfd ∷ 0xbf ∷ []) 0x1000 0x100  -- c.nop; c.j -2
