-- Which forms the immediate of an instruction of AArch64 has, by the bits of its opcode,
-- and the number that the machine makes of it (Arm Architecture Reference Manual for
-- A-profile, DDI 0487, C4.1).
use Rattle.linker_reading.specs.Imports.{AArch64, AnyForm, List, [], bit_at, field, ℕ, ℤ}
use Rattle.std.specs.Prelude.{◌*◌, ◌==◌, ◌∷◌}
use Rattle.linker_elf.specs.AArch64.{access_scale, moved_value, shift_of}
use Rattle.linker_elf.specs.declared.aarch64.forms.AArch64Instruction.{AArch64Instruction}
use Rattle.linker_elf.specs.declared.aarch64.forms.AArch64Instruction.TheVariants as aarch64
use Rattle.linker_reading.specs.Opcodes.{Encoding, of_len}
use Rattle.linker_reading.specs.Reading.{number_held}

abbrev pub a64 : ℕ → ℕ → List AnyForm → Encoding
a64 mask bits forms = of_len 4 mask bits forms

abbrev pub load_or_store : List AnyForm
load_or_store = AArch64 aarch64.LdSt ∷ AArch64 aarch64.MachOLow12 ∷ []

abbrev pub aarch64_encodings : List Encoding
aarch64_encodings =
    -- "PC-rel. addressing": ADR, ADRP
    a64 0x1f000000 0x10000000 (AArch64 aarch64.Adr ∷ []) ∷
    -- "Add/subtract (immediate)": ADD, and ADD with the immediate shifted by 12
    a64 0x7fc00000 0x11000000 (AArch64 aarch64.Add ∷ AArch64 aarch64.MachOLow12 ∷ []) ∷
    a64 0x7fc00000 0x11400000 (AArch64 aarch64.Add ∷ []) ∷
    -- "Move wide (immediate)": MOVN, MOVZ and MOVK of 64 bits, and of 32 with a shift of 0 or 16
    a64 0xff800000 0x92800000 (AArch64 aarch64.Movnz ∷ []) ∷
    a64 0xff800000 0xd2800000 (AArch64 aarch64.Movkz ∷ AArch64 aarch64.Movnz ∷ []) ∷
    a64 0xff800000 0xf2800000 (AArch64 aarch64.Movkz ∷ []) ∷
    a64 0xffc00000 0x12800000 (AArch64 aarch64.Movnz ∷ []) ∷
    a64 0xffc00000 0x52800000 (AArch64 aarch64.Movkz ∷ AArch64 aarch64.Movnz ∷ []) ∷
    a64 0xffc00000 0x72800000 (AArch64 aarch64.Movkz ∷ []) ∷
    -- "Conditional branch (immediate)", "Compare and branch (immediate)", "Test and branch
    -- (immediate)", "Unconditional branch (immediate)"
    a64 0xff000000 0x54000000 (AArch64 aarch64.Bcond ∷ []) ∷
    a64 0x7e000000 0x34000000 (AArch64 aarch64.Bcond ∷ []) ∷
    a64 0x7e000000 0x36000000 (AArch64 aarch64.TstBr ∷ []) ∷
    a64 0x7c000000 0x14000000 (AArch64 aarch64.JumpCall ∷ []) ∷
    -- "Load register (literal)": of general registers and PRFM; of S and D, and of Q
    a64 0x3f000000 0x18000000 (AArch64 aarch64.Ldr ∷ []) ∷
    a64 0xbf000000 0x1c000000 (AArch64 aarch64.Ldr ∷ []) ∷
    a64 0xff000000 0x9c000000 (AArch64 aarch64.Ldr ∷ []) ∷
    -- "Load/store register (unsigned immediate)": LDR of W and X; the other loads and stores of
    -- general registers; loads that extend a sign, and PRFM; those of B, H, S and D, and of Q
    a64 0xbfc00000 0xb9400000 (AArch64 aarch64.LdrRegister ∷ load_or_store) ∷
    a64 0x3f800000 0x39000000 load_or_store ∷
    a64 0x3fc00000 0x39800000 load_or_store ∷
    a64 0xbfc00000 0x39c00000 load_or_store ∷
    a64 0x3f800000 0x3d000000 load_or_store ∷
    a64 0xff800000 0x3d800000 load_or_store ∷ []

-- the number in the immediate; of MOVN and MOVZ what they move
abbrev pub aarch64_number : AArch64Instruction → ℕ → ℤ
aarch64_number aarch64.Movnz x = moved_value (bit_at x 30 == 0) (field x 5 21) (shift_of x)
aarch64_number f x = number_held (AArch64 f) x

-- log2 of what the number counts: bytes of a distance or an offset, or what an addition adds
abbrev pub aarch64_scale : AArch64Instruction → ℕ → ℕ
aarch64_scale aarch64.Adr x = 12 * bit_at x 31
aarch64_scale aarch64.Movkz x = shift_of x
aarch64_scale aarch64.Movnz x = 0
aarch64_scale aarch64.Ldr x = 2
aarch64_scale aarch64.LdrRegister x = access_scale x
aarch64_scale aarch64.Add x = 12 * bit_at x 22
aarch64_scale aarch64.LdSt x = access_scale x
aarch64_scale aarch64.TstBr x = 2
aarch64_scale aarch64.Bcond x = 2
aarch64_scale aarch64.JumpCall x = 2
aarch64_scale aarch64.MachOLow12 x = 0
