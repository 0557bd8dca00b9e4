-- Which forms the immediate of an instruction of LoongArch has, by the bits of its opcode, and the
-- number that the machine makes of it (LoongArch Reference Manual, volume 1, "Table of Instruction
-- Encoding"; volume 2, for VLD, VST, XVLD and XVST).
use Rattle.linker_reading.specs.Imports.{AnyForm, Bool, List, LoongArch64, [], field, nat_lt, pos}
use Rattle.linker_reading.specs.Imports.{signed, ℕ, ℤ}
use Rattle.std.specs.Prelude.{◌==◌, ◌&&◌, ◌||◌, if◌then◌else◌, ◌∷◌}
use Rattle.linker_elf.specs.declared.loongarch64.forms.LoongArch64Instruction.{LoongArch64Instruction}
use Rattle.linker_elf.specs.declared.loongarch64.forms.LoongArch64Instruction.TheVariants as loongarch
use Rattle.linker_reading.specs.Opcodes.{Encoding, of_len, pair_of}
use Rattle.linker_reading.specs.Reading.{number_held}

abbrev pub la : ℕ → ℕ → List AnyForm → Encoding
la mask bits forms = of_len 4 mask bits forms

abbrev pub loongarch_encodings : List Encoding
loongarch_encodings =
    -- PCADDU18I of r0, which is no base; PCADDU18I with JIRL by its destination
    la 0xfe00001f 0x1e000000 (LoongArch64 loongarch.Shift5 ∷ []) ∷
    pair_of 0xfe000000 0x1e000000 0xfc000000 0x4c000000 (0, 37)
    (LoongArch64 loongarch.Shift5 ∷ LoongArch64 loongarch.Call36 ∷ []) ∷
    -- LU12I.W and LU32I.D; PCADDI, PCALAU12I, PCADDU12I and PCADDU18I
    la 0xfc000000 0x14000000 (LoongArch64 loongarch.Shift5 ∷ []) ∷
    la 0xf8000000 0x18000000 (LoongArch64 loongarch.Shift5 ∷ []) ∷
    -- SLTI, SLTUI, ADDI.W and ADDI.D; LU52I.D; ANDI; ORI and XORI
    la 0xff000000 0x02000000 (LoongArch64 loongarch.Shift10 ∷ []) ∷
    la 0xffc00000 0x03000000 (LoongArch64 loongarch.Shift10 ∷ []) ∷
    la 0xffc00000 0x03400000 (LoongArch64 loongarch.Shift10 ∷ []) ∷
    la 0xff800000 0x03800000 (LoongArch64 loongarch.Shift10 ∷ []) ∷
    -- LD, ST and PRELD; FLD and FST; VLD, VST, XVLD and XVST
    la 0xfc000000 0x28000000 (LoongArch64 loongarch.Shift10 ∷ []) ∷
    la 0xff000000 0x2c000000 (LoongArch64 loongarch.Shift10 ∷ []) ∷
    -- ADDU16I.D; JIRL; BEQ and BNE; BLT, BGE, BLTU and BGEU
    la 0xfc000000 0x10000000 (LoongArch64 loongarch.Shift10 ∷ []) ∷
    la 0xfc000000 0x4c000000 (LoongArch64 loongarch.Shift10 ∷ []) ∷
    la 0xf8000000 0x58000000 (LoongArch64 loongarch.Shift10 ∷ []) ∷
    la 0xf0000000 0x60000000 (LoongArch64 loongarch.Shift10 ∷ []) ∷
    -- BEQZ and BNEZ; BCEQZ and BCNEZ; B and BL
    la 0xf8000000 0x40000000 (LoongArch64 loongarch.Branch21 ∷ []) ∷
    la 0xfc000200 0x48000000 (LoongArch64 loongarch.Branch21 ∷ []) ∷
    la 0xf8000000 0x50000000 (LoongArch64 loongarch.Branch26 ∷ []) ∷ []

-- ANDI, ORI and XORI, whose immediate has no sign
abbrev pub is_logical : ℕ → Bool
is_logical x = nat_lt 12 (field x 22 32) && nat_lt (field x 22 32) 16

-- ADDU16I.D, JIRL and the branches that compare have 16 bits, and the others 12.
abbrev pub has_si16 : ℕ → Bool
has_si16 x = field x 26 32 == 4 || nat_lt 11 (field x 26 32)

-- the immediate of a `Shift10`
abbrev pub shift10_number : ℕ → ℤ
shift10_number x =
    if has_si16 x then signed 16 (field x 10 26)
    else (if is_logical x then pos (field x 10 22) else signed 12 (field x 10 22))

-- the number in the immediate
abbrev pub loongarch_number : LoongArch64Instruction → ℕ → ℤ
loongarch_number loongarch.Shift10 x = shift10_number x
loongarch_number f x = number_held (LoongArch64 f) x

-- log2 of what a `Shift5` counts: LU12I.W, LU32I.D, PCADDI, PCALAU12I, PCADDU12I, PCADDU18I
abbrev pub shift5_scale : ℕ → ℕ
shift5_scale x =
    if field x 25 32 == 11 then 32
    else (if field x 25 32 == 12 then 2 else (if field x 25 32 == 15 then 18 else 12))

-- that of a `Shift10`: LU52I.D; ADDU16I.D; JIRL and branches; others
abbrev pub shift10_scale : ℕ → ℕ
shift10_scale x =
    if field x 22 32 == 12 then 52
    else (if field x 26 32 == 4 then 16 else (if has_si16 x then 2 else 0))

-- log2 of what the number counts: bytes of a distance or an offset, or what an addition adds
abbrev pub loongarch_scale : LoongArch64Instruction → ℕ → ℕ
loongarch_scale loongarch.Shift5 x = shift5_scale x
loongarch_scale loongarch.Shift10 x = shift10_scale x
loongarch_scale loongarch.Branch26 x = 2
loongarch_scale loongarch.Branch21 x = 2
loongarch_scale loongarch.Call30 x = 0
loongarch_scale loongarch.Call36 x = 2
