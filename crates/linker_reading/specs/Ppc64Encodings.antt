-- Which forms the immediate of an instruction of PowerPC64 has, by the bits of its opcode,
-- and what the number there counts (Power ISA 3.1, Book I, "Instruction Formats" and the
-- pages of the instructions).
use Rattle.linker_reading.specs.Imports.{AnyForm, List, Ppc64, [], bit_at, field, ℕ}
use Rattle.std.specs.Prelude.{◌+◌, ◌*◌, ◌^◌, ◌==◌, if◌then◌else◌, ◌∷◌}
use Rattle.linker_elf.specs.declared.ppc64.forms.Ppc64Form.{Ppc64Form}
use Rattle.linker_elf.specs.declared.ppc64.forms.Ppc64Form.TheVariants as ppc64
use Rattle.linker_reading.specs.Opcodes.{Encoding, of_len}

abbrev pub power : ℕ → ℕ → List AnyForm → Encoding
power mask bits forms = of_len 4 mask bits forms

-- a prefix of a type, R and d0 aside, and the opcode of the suffix
abbrev pub prefixed : ℕ → ℕ → ℕ → Encoding
prefixed prefix mask bits =
    of_len 8 (mask * 2 ^ 32 + 0xffec0000) (bits * 2 ^ 32 + prefix) (Ppc64 ppc64.Prefixed ∷ [])

-- the prefixes of MLS:D-form and 8LS:D-form
abbrev pub mls : ℕ
mls = 0x06000000

abbrev pub els : ℕ
els = 0x04000000

abbrev pub ppc64_encodings : List Encoding
ppc64_encodings =
    -- TDI and TWI; MULLI; SUBFIC; CMPI; ADDIC; ADDI and ADDIS
    power 0xf8000000 0x08000000 (Ppc64 ppc64.D ∷ []) ∷
    power 0xfc000000 0x1c000000 (Ppc64 ppc64.D ∷ []) ∷
    power 0xfc000000 0x20000000 (Ppc64 ppc64.D ∷ []) ∷
    power 0xfc000000 0x2c000000 (Ppc64 ppc64.D ∷ []) ∷
    power 0xf8000000 0x30000000 (Ppc64 ppc64.D ∷ []) ∷
    power 0xf8000000 0x38000000 (Ppc64 ppc64.D ∷ []) ∷
    -- LWZ to STMW, primary opcodes 32 to 47; LFS to STFDU, 48 to 55
    power 0xc0000000 0x80000000 (Ppc64 ppc64.D ∷ []) ∷
    power 0xe0000000 0xc0000000 (Ppc64 ppc64.D ∷ []) ∷
    -- CMPLI; ORI, ORIS, XORI and XORIS; ANDI. and ANDIS.
    power 0xfc000000 0x28000000 (Ppc64 ppc64.DUnsigned ∷ []) ∷
    power 0xf0000000 0x60000000 (Ppc64 ppc64.DUnsigned ∷ []) ∷
    power 0xf8000000 0x70000000 (Ppc64 ppc64.DUnsigned ∷ []) ∷
    -- LXVP and STXVP; LQ
    power 0xfc00000e 0x18000000 (Ppc64 ppc64.Ds ∷ []) ∷
    power 0xfc000000 0xe0000000 (Ppc64 ppc64.Ds ∷ []) ∷
    -- LXSD and LXSSP; LD and LDU; LWA
    power 0xfc000002 0xe4000002 (Ppc64 ppc64.Ds ∷ []) ∷
    power 0xfc000002 0xe8000000 (Ppc64 ppc64.Ds ∷ []) ∷
    power 0xfc000003 0xe8000002 (Ppc64 ppc64.Ds ∷ []) ∷
    -- LXV, STXV and STXSSP; STXSD; STD and STDU; STQ
    power 0xfc000001 0xf4000001 (Ppc64 ppc64.Ds ∷ []) ∷
    power 0xfc000003 0xf4000002 (Ppc64 ppc64.Ds ∷ []) ∷
    power 0xfc000002 0xf8000000 (Ppc64 ppc64.Ds ∷ []) ∷
    power 0xfc000003 0xf8000002 (Ppc64 ppc64.Ds ∷ []) ∷
    -- BC; B
    power 0xfc000000 0x40000000 (Ppc64 ppc64.Branch14 ∷ []) ∷
    power 0xfc000000 0x48000000 (Ppc64 ppc64.Branch24 ∷ []) ∷
    -- PADDI; PLWZ, PLBZ, PSTW and PSTB; PLHZ and PLHA; PSTH; PLFS, PLFD, PSTFS and PSTFD
    prefixed mls 0xfc000000 0x38000000 ∷ prefixed mls 0xe4000000 0x80000000 ∷
    prefixed mls 0xf4000000 0xa0000000 ∷ prefixed mls 0xfc000000 0xb0000000 ∷
    prefixed mls 0xe4000000 0xc0000000 ∷
    -- PLWA; PLXSD and PLXSSP; PSTXSD and PSTXSSP; PLXV; PSTXV; PLQ and PLD; PLXVP; PSTQ and PSTD;
    -- PSTXVP
    prefixed els 0xfc000000 0xa4000000 ∷ prefixed els 0xf8000000 0xa8000000 ∷
    prefixed els 0xf8000000 0xb8000000 ∷ prefixed els 0xf8000000 0xc8000000 ∷
    prefixed els 0xf8000000 0xd8000000 ∷ prefixed els 0xf8000000 0xe0000000 ∷
    prefixed els 0xfc000000 0xe8000000 ∷ prefixed els 0xf8000000 0xf0000000 ∷
    prefixed els 0xfc000000 0xf8000000 ∷ []

-- log2 of what the number counts: ADDIS; ORIS, XORIS and ANDIS.
abbrev pub ppc64_scale : Ppc64Form → ℕ → ℕ
ppc64_scale ppc64.D x = if field x 26 32 == 15 then 16 else 0
ppc64_scale ppc64.DUnsigned x = 16 * bit_at x 26
ppc64_scale f x = 0
