-- Which forms the immediate of an instruction of RISC-V has, by the bits of its opcode (RISC-V
-- unprivileged ISA, "RV32/64G Instruction Set Listings" and "RVC Instruction Set Listings").
use Rattle.linker_reading.specs.Imports.{AnyForm, List, RiscV, [], ℕ}
use Rattle.std.specs.Prelude.{◌∷◌}
use Rattle.linker_elf.specs.declared.riscv64.forms.RiscVInstruction.TheVariants as riscv
use Rattle.linker_reading.specs.Opcodes.{Encoding, of_len, pair_of}

abbrev pub rv : ℕ → ℕ → List AnyForm → Encoding
rv mask bits forms = of_len 4 mask bits forms

abbrev pub rvc : ℕ → ℕ → List AnyForm → Encoding
rvc mask bits forms = of_len 2 mask bits forms

-- LUI or AUIPC, and an instruction with an I-immediate after it, whose base is its destination
abbrev pub rv_pair : ℕ → ℕ → Encoding
rv_pair mask bits =
    pair_of 0x5f 0x17 mask bits (7, 47) (RiscV riscv.UType ∷ RiscV riscv.UiType ∷ [])

abbrev pub riscv_encodings : List Encoding
riscv_encodings =
    -- LUI and AUIPC of x0, which is no base
    rv 0xfdf 0x17 (RiscV riscv.UType ∷ []) ∷
    -- with ADDI, JALR, loads (LB, LH, LW, LD; LBU, LHU; LWU), and FLH, FLW and FLD
    rv_pair 0x707f 0x13 ∷ rv_pair 0x707f 0x67 ∷
    rv_pair 0x407f 0x03 ∷ rv_pair 0x607f 0x4003 ∷ rv_pair 0x707f 0x6003 ∷
    rv_pair 0x707f 0x1007 ∷ rv_pair 0x607f 0x2007 ∷
    -- LUI, AUIPC
    rv 0x5f 0x17 (RiscV riscv.UType ∷ []) ∷
    -- ADDI; SLTI and SLTIU; XORI; ORI and ANDI; ADDIW; JALR
    rv 0x707f 0x13 (RiscV riscv.IType ∷ []) ∷ rv 0x607f 0x2013 (RiscV riscv.IType ∷ []) ∷
    rv 0x707f 0x4013 (RiscV riscv.IType ∷ []) ∷ rv 0x607f 0x6013 (RiscV riscv.IType ∷ []) ∷
    rv 0x707f 0x1b (RiscV riscv.IType ∷ []) ∷ rv 0x707f 0x67 (RiscV riscv.IType ∷ []) ∷
    -- loads, as above
    rv 0x407f 0x03 (RiscV riscv.IType ∷ []) ∷ rv 0x607f 0x4003 (RiscV riscv.IType ∷ []) ∷
    rv 0x707f 0x6003 (RiscV riscv.IType ∷ []) ∷ rv 0x707f 0x1007 (RiscV riscv.IType ∷ []) ∷
    rv 0x607f 0x2007 (RiscV riscv.IType ∷ []) ∷
    -- SB, SH, SW, SD; FSH; FSW and FSD
    rv 0x407f 0x23 (RiscV riscv.SType ∷ []) ∷ rv 0x707f 0x1027 (RiscV riscv.SType ∷ []) ∷
    rv 0x607f 0x2027 (RiscV riscv.SType ∷ []) ∷
    -- BEQ and BNE; BLT, BGE, BLTU and BGEU; JAL
    rv 0x607f 0x63 (RiscV riscv.BType ∷ []) ∷ rv 0x407f 0x4063 (RiscV riscv.BType ∷ []) ∷
    rv 0x7f 0x6f (RiscV riscv.JType ∷ []) ∷
    -- C.BEQZ and C.BNEZ; C.J; C.ADDI16SP, which is no C.LUI; C.LUI
    rvc 0xc003 0xc001 (RiscV riscv.CbType ∷ []) ∷ rvc 0xe003 0xa001 (RiscV riscv.CjType ∷ []) ∷
    rvc 0xef83 0x6101 [] ∷ rvc 0xe003 0x6001 (RiscV riscv.CluiType ∷ []) ∷ []
