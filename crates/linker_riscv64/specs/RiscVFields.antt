-- The fields of an instruction of four bytes (RISC-V unprivileged ISA, "Base Instruction Formats").
use Rattle.std.specs.Prelude.{ℕ, Bool, ◌==◌, ◌&&◌}
use Rattle.linker_base.specs.Bits.{field}

-- the opcode, bits 0 to 6
abbrev pub opcode_of : ℕ → ℕ
opcode_of word = field word 0 7

-- the function, bits 12 to 14
abbrev pub funct3_of : ℕ → ℕ
funct3_of word = field word 12 15

-- the destination register, bits 7 to 11
abbrev pub rd_of : ℕ → ℕ
rd_of word = field word 7 12

-- the first source register, bits 15 to 19
abbrev pub rs1_of : ℕ → ℕ
rs1_of word = field word 15 20

-- the second source register, bits 20 to 24
abbrev pub rs2_of : ℕ → ℕ
rs2_of word = field word 20 25

-- a store of what its own base holds
abbrev pub stores_base : ℕ → Bool
stores_base word = (opcode_of word == 0x23) && (rs2_of word == rs1_of word)
