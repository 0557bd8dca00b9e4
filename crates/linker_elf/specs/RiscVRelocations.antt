-- The relocations of RISC-V (RISC-V ELF psABI, "Relocations").
use Rattle.linker_elf.specs.Imports.{Absolute, AbsoluteAddition, AbsoluteSet, AbsoluteSetWord6}
use Rattle.linker_elf.specs.Imports.{AbsoluteSubtraction, AbsoluteSubtractionWord6, Alignment}
use Rattle.linker_elf.specs.Imports.{BType, CbType, CjType, CluiType, GotRelative, GotTpOff, IType}
use Rattle.linker_elf.specs.Imports.{JType, PairSubtractionULEB128RiscV, PltRelative, Relative}
use Rattle.linker_elf.specs.Imports.{RelativeRiscVLow12, RelocationKind, RiscV, RiscVInstruction}
use Rattle.linker_elf.specs.Imports.{SType, Sets, Subtracts, TlsDesc, TlsDescCall, TlsGd, TpOff}
use Rattle.linker_elf.specs.Imports.{UType, UiType, Uleb128Role}
use Rattle.std.specs.Prelude.{None, Option, Some, codes, negsuc, pos, ℕ, ℤ}
use Rattle.linker_elf.specs.ElfNames.{ElfName}
use Rattle.linker_elf.specs.Rows.{Relocation, with_row, with_own_row, raw_row}
use Rattle.linker_elf.specs.Rows.{unnamed_relocation, bytes_row, bits_row}
use Rattle.linker_elf.specs.Rows.{within_row, signed_or_unsigned_row, aligned_row}
use Rattle.linker_elf.specs.declared.elf.RelocationKind.TheVariants.{None as NoValue}
use Rattle.linker_elf.specs.declared.elf.RowInfo.{RowInfo}
use Rattle.linker_elf.specs.declared.riscv64.relocations.RiscVRelocation.{RiscVRelocation}
use Rattle.linker_elf.specs.declared.riscv64.relocations.RiscVRelocation.TheVariants as r

-- a part of a value of 32 bits, or both, of a pair of instructions
abbrev pub pair_row : RelocationKind → ℕ → RiscVInstruction → RowInfo
pair_row kind end form = signed_or_unsigned_row 32 (bits_row kind 0 end (RiscV form))

-- the high part of a value that `c.lui` holds
abbrev pub clui_row : RowInfo
clui_row = pair_row Absolute 32 CluiType

-- an even distance within bounds
abbrev pub jump_row : ℕ → RiscVInstruction → ℤ × ℤ → RowInfo
jump_row end form bounds = aligned_row 2 (within_row bounds (bits_row Relative 0 end (RiscV form)))

-- each name with its `r_type` and its row
abbrev pub riscv_relocation : RiscVRelocation → Relocation
riscv_relocation r.R_RISCV_NONE = with_row 0 (codes "R_RISCV_NONE") (bytes_row NoValue 0)
riscv_relocation r.R_RISCV_32 =
    with_row 1 (codes "R_RISCV_32") (signed_or_unsigned_row 32 (bytes_row Absolute 4))
riscv_relocation r.R_RISCV_64 = with_row 2 (codes "R_RISCV_64") (bytes_row Absolute 8)
riscv_relocation r.R_RISCV_BRANCH =
    with_row 16 (codes "R_RISCV_BRANCH") (jump_row 32 BType (negsuc 4095, pos 4095))
riscv_relocation r.R_RISCV_JAL =
    with_row 17 (codes "R_RISCV_JAL") (jump_row 32 JType (negsuc 1048575, pos 1048575))
riscv_relocation r.R_RISCV_CALL =
    with_row 18 (codes "R_RISCV_CALL") (pair_row PltRelative 64 UiType)
riscv_relocation r.R_RISCV_CALL_PLT =
    with_row 19 (codes "R_RISCV_CALL_PLT") (pair_row PltRelative 64 UiType)
riscv_relocation r.R_RISCV_GOT_HI20 =
    with_row 20 (codes "R_RISCV_GOT_HI20") (pair_row GotRelative 32 UType)
riscv_relocation r.R_RISCV_TLS_GOT_HI20 =
    with_row 21 (codes "R_RISCV_TLS_GOT_HI20") (pair_row GotTpOff 32 UType)
riscv_relocation r.R_RISCV_TLS_GD_HI20 =
    with_row 22 (codes "R_RISCV_TLS_GD_HI20") (pair_row TlsGd 32 UType)
riscv_relocation r.R_RISCV_PCREL_HI20 =
    with_row 23 (codes "R_RISCV_PCREL_HI20") (pair_row Relative 32 UType)
riscv_relocation r.R_RISCV_PCREL_LO12_I =
    with_row 24 (codes "R_RISCV_PCREL_LO12_I") (pair_row RelativeRiscVLow12 32 IType)
riscv_relocation r.R_RISCV_PCREL_LO12_S =
    with_row 25 (codes "R_RISCV_PCREL_LO12_S") (pair_row RelativeRiscVLow12 32 SType)
riscv_relocation r.R_RISCV_HI20 = with_row 26 (codes "R_RISCV_HI20") (pair_row Absolute 32 UType)
riscv_relocation r.R_RISCV_LO12_I =
    with_row 27 (codes "R_RISCV_LO12_I") (pair_row Absolute 32 IType)
riscv_relocation r.R_RISCV_LO12_S =
    with_row 28 (codes "R_RISCV_LO12_S") (pair_row Absolute 32 SType)
riscv_relocation r.R_RISCV_TPREL_HI20 =
    with_row 29 (codes "R_RISCV_TPREL_HI20") (pair_row TpOff 32 UType)
riscv_relocation r.R_RISCV_TPREL_LO12_I =
    with_row 30 (codes "R_RISCV_TPREL_LO12_I") (pair_row TpOff 32 IType)
riscv_relocation r.R_RISCV_TPREL_LO12_S =
    with_row 31 (codes "R_RISCV_TPREL_LO12_S") (pair_row TpOff 32 SType)
riscv_relocation r.R_RISCV_TPREL_ADD = with_row 32 (codes "R_RISCV_TPREL_ADD") (bytes_row NoValue 0)
riscv_relocation r.R_RISCV_ADD8 = with_row 33 (codes "R_RISCV_ADD8") (bytes_row AbsoluteAddition 1)
riscv_relocation r.R_RISCV_ADD16 =
    with_row 34 (codes "R_RISCV_ADD16") (bytes_row AbsoluteAddition 2)
riscv_relocation r.R_RISCV_ADD32 =
    with_row 35 (codes "R_RISCV_ADD32") (bytes_row AbsoluteAddition 4)
riscv_relocation r.R_RISCV_ADD64 =
    with_row 36 (codes "R_RISCV_ADD64") (bytes_row AbsoluteAddition 8)
riscv_relocation r.R_RISCV_SUB8 =
    with_row 37 (codes "R_RISCV_SUB8") (bytes_row AbsoluteSubtraction 1)
riscv_relocation r.R_RISCV_SUB16 =
    with_row 38 (codes "R_RISCV_SUB16") (bytes_row AbsoluteSubtraction 2)
riscv_relocation r.R_RISCV_SUB32 =
    with_row 39 (codes "R_RISCV_SUB32") (bytes_row AbsoluteSubtraction 4)
riscv_relocation r.R_RISCV_SUB64 =
    with_row 40 (codes "R_RISCV_SUB64") (bytes_row AbsoluteSubtraction 8)
riscv_relocation r.R_RISCV_GOT32_PCREL =
    with_row 41 (codes "R_RISCV_GOT32_PCREL") (signed_or_unsigned_row 32 (bytes_row GotRelative 4))
riscv_relocation r.R_RISCV_ALIGN = with_row 43 (codes "R_RISCV_ALIGN") (bytes_row Alignment 0)
riscv_relocation r.R_RISCV_RVC_BRANCH =
    with_row 44 (codes "R_RISCV_RVC_BRANCH") (jump_row 16 CbType (negsuc 255, pos 255))
riscv_relocation r.R_RISCV_RVC_JUMP =
    with_row 45 (codes "R_RISCV_RVC_JUMP") (jump_row 16 CjType (negsuc 2047, pos 2047))
riscv_relocation r.R_RISCV_RVC_LUI = with_own_row 46 (codes "R_RISCV_RVC_LUI") clui_row
riscv_relocation r.R_RISCV_RELAX = with_row 51 (codes "R_RISCV_RELAX") (bytes_row NoValue 0)
riscv_relocation r.R_RISCV_SUB6 =
    with_row 52 (codes "R_RISCV_SUB6") (bytes_row AbsoluteSubtractionWord6 1)
riscv_relocation r.R_RISCV_SET6 = with_row 53 (codes "R_RISCV_SET6") (bytes_row AbsoluteSetWord6 1)
riscv_relocation r.R_RISCV_SET8 = with_row 54 (codes "R_RISCV_SET8") (bytes_row AbsoluteSet 1)
riscv_relocation r.R_RISCV_SET16 = with_row 55 (codes "R_RISCV_SET16") (bytes_row AbsoluteSet 2)
riscv_relocation r.R_RISCV_SET32 = with_row 56 (codes "R_RISCV_SET32") (bytes_row AbsoluteSet 4)
riscv_relocation r.R_RISCV_32_PCREL =
    with_row 57 (codes "R_RISCV_32_PCREL") (signed_or_unsigned_row 32 (bytes_row Relative 4))
riscv_relocation r.R_RISCV_PLT32 =
    with_row 59 (codes "R_RISCV_PLT32") (signed_or_unsigned_row 32 (bytes_row PltRelative 4))
riscv_relocation r.R_RISCV_SET_ULEB128 =
    with_row 60 (codes "R_RISCV_SET_ULEB128") (bytes_row Relative 0)
riscv_relocation r.R_RISCV_SUB_ULEB128 =
    with_row 61 (codes "R_RISCV_SUB_ULEB128") (bytes_row PairSubtractionULEB128RiscV 8)
riscv_relocation r.R_RISCV_TLSDESC_HI20 =
    with_own_row 62 (codes "R_RISCV_TLSDESC_HI20") (pair_row TlsDesc 32 UType)
riscv_relocation r.R_RISCV_TLSDESC_LOAD_LO12 =
    with_own_row 63 (codes "R_RISCV_TLSDESC_LOAD_LO12") (pair_row TlsDesc 32 IType)
riscv_relocation r.R_RISCV_TLSDESC_ADD_LO12 =
    with_own_row 64 (codes "R_RISCV_TLSDESC_ADD_LO12") (pair_row TlsDesc 32 IType)
riscv_relocation r.R_RISCV_TLSDESC_CALL =
    with_own_row 65 (codes "R_RISCV_TLSDESC_CALL") (bytes_row TlsDescCall 0)
riscv_relocation (r.Other r_type) = unnamed_relocation r_type

abbrev pub riscv_name : RiscVRelocation → ElfName
riscv_name name = (riscv_relocation name).name

-- the row that the crate this one is a port of has: none for TLS descriptors and `c.lui`
abbrev pub riscv_row : RiscVRelocation → Option RowInfo
riscv_row name = raw_row (riscv_relocation name)

-- V = S + A of the first of a pair, and V - S - A of the second
abbrev pub riscv_uleb128_role : RiscVRelocation → Option Uleb128Role
riscv_uleb128_role r.R_RISCV_SET_ULEB128 = Some Sets
riscv_uleb128_role r.R_RISCV_SUB_ULEB128 = Some Subtracts
riscv_uleb128_role name = None
