-- The relocations of LoongArch (LoongArch ELF psABI, "Relocation Types").
use Rattle.linker_elf.specs.Imports.{Absolute, AbsoluteAddition, AbsoluteAdditionWord6}
use Rattle.linker_elf.specs.Imports.{AbsoluteLowPart, AbsoluteSubtraction, AbsoluteSubtractionWord6}
use Rattle.linker_elf.specs.Imports.{Adds, Alignment, Branch21, Branch26, Call30, Call36, DtpOff}
use Rattle.linker_elf.specs.Imports.{Got, GotRelative, GotRelativeLoongArch64, GotTpOff}
use Rattle.linker_elf.specs.Imports.{GotTpOffGot, GotTpOffLoongArch64, LoongArch64}
use Rattle.linker_elf.specs.Imports.{LoongArch64Instruction, LoongArch64Relocation}
use Rattle.linker_elf.specs.Imports.{PairSubtractionULEB128LoongArch, PltRelative, Relative}
use Rattle.linker_elf.specs.Imports.{RelativeLoongArchHigh, RelocationKind, Shift10, Shift5}
use Rattle.linker_elf.specs.Imports.{Subtracts, TlsDesc, TlsDescCall, TlsDescGot}
use Rattle.linker_elf.specs.Imports.{TlsDescLoongArch64, TlsGd, TlsGdGot, TpOff, Uleb128Role}
use Rattle.std.specs.Prelude.{None, Option, Some, codes, ℕ}
use Rattle.linker_elf.specs.ElfNames.{ElfName}
use Rattle.linker_elf.specs.Rows.{Relocation, with_row, with_own_row, raw_row, unnamed_relocation}
use Rattle.linker_elf.specs.Rows.{bytes_row, bits_row, signed_row, signed_or_unsigned_row}
use Rattle.linker_elf.specs.Rows.{aligned_row, biased_row, paged_row, place_pages, entry_pages}
use Rattle.linker_elf.specs.declared.elf.RelocationKind.TheVariants.{None as NoValue}
use Rattle.linker_elf.specs.declared.elf.RowInfo.{RowInfo}
use Rattle.linker_elf.specs.declared.loongarch64.relocations.LoongArch64Relocation.TheVariants as r

-- bits `start` and up, below `end`, into an instruction
abbrev pub insn_row : RelocationKind → ℕ → ℕ → LoongArch64Instruction → RowInfo
insn_row kind start end form = bits_row kind start end (LoongArch64 form)

-- a multiple of 4, of `end` signed bits
abbrev pub branch_row : RelocationKind → ℕ → LoongArch64Instruction → RowInfo
branch_row kind end form = aligned_row 4 (signed_row end (insn_row kind 2 end form))

-- the four parts of an address
abbrev pub high_row : RelocationKind → RowInfo
high_row kind = insn_row kind 12 32 Shift5

abbrev pub low_row : RelocationKind → RowInfo
low_row kind = insn_row kind 0 12 Shift10

abbrev pub middle_row : RelocationKind → RowInfo
middle_row kind = insn_row kind 32 52 Shift5

abbrev pub upper_row : RelocationKind → RowInfo
upper_row kind = insn_row kind 52 64 Shift10

-- the high part rounded, since the low part is read in two's complement
abbrev pub rounded_row : RelocationKind → RowInfo
rounded_row kind = biased_row 0x800 (high_row kind)

-- each name with its `r_type` and its row
abbrev pub loongarch_relocation : LoongArch64Relocation → Relocation
loongarch_relocation r.R_LARCH_NONE = with_row 0 (codes "R_LARCH_NONE") (bytes_row NoValue 0)
loongarch_relocation r.R_LARCH_32 =
    with_row 1 (codes "R_LARCH_32") (signed_or_unsigned_row 32 (bytes_row Absolute 4))
loongarch_relocation r.R_LARCH_64 = with_row 2 (codes "R_LARCH_64") (bytes_row Absolute 8)
loongarch_relocation r.R_LARCH_TLS_DTPREL32 =
    with_row 8 (codes "R_LARCH_TLS_DTPREL32") (bytes_row DtpOff 4)
loongarch_relocation r.R_LARCH_TLS_DTPREL64 =
    with_row 9 (codes "R_LARCH_TLS_DTPREL64") (bytes_row DtpOff 8)
loongarch_relocation r.R_LARCH_MARK_LA = with_own_row 20 (codes "R_LARCH_MARK_LA") (bytes_row NoValue 0)
loongarch_relocation r.R_LARCH_ADD8 =
    with_row 47 (codes "R_LARCH_ADD8") (bytes_row AbsoluteAddition 1)
loongarch_relocation r.R_LARCH_ADD16 =
    with_row 48 (codes "R_LARCH_ADD16") (bytes_row AbsoluteAddition 2)
loongarch_relocation r.R_LARCH_ADD24 =
    with_row 49 (codes "R_LARCH_ADD24") (bytes_row AbsoluteAddition 3)
loongarch_relocation r.R_LARCH_ADD32 =
    with_row 50 (codes "R_LARCH_ADD32") (bytes_row AbsoluteAddition 4)
loongarch_relocation r.R_LARCH_ADD64 =
    with_row 51 (codes "R_LARCH_ADD64") (bytes_row AbsoluteAddition 8)
loongarch_relocation r.R_LARCH_SUB8 =
    with_row 52 (codes "R_LARCH_SUB8") (bytes_row AbsoluteSubtraction 1)
loongarch_relocation r.R_LARCH_SUB16 =
    with_row 53 (codes "R_LARCH_SUB16") (bytes_row AbsoluteSubtraction 2)
loongarch_relocation r.R_LARCH_SUB24 =
    with_row 54 (codes "R_LARCH_SUB24") (bytes_row AbsoluteSubtraction 3)
loongarch_relocation r.R_LARCH_SUB32 =
    with_row 55 (codes "R_LARCH_SUB32") (bytes_row AbsoluteSubtraction 4)
loongarch_relocation r.R_LARCH_SUB64 =
    with_row 56 (codes "R_LARCH_SUB64") (bytes_row AbsoluteSubtraction 8)
loongarch_relocation r.R_LARCH_B16 =
    with_row 64 (codes "R_LARCH_B16") (branch_row Relative 18 Shift10)
loongarch_relocation r.R_LARCH_B21 =
    with_row 65 (codes "R_LARCH_B21") (branch_row Relative 23 Branch21)
loongarch_relocation r.R_LARCH_B26 =
    with_row 66 (codes "R_LARCH_B26") (branch_row PltRelative 28 Branch26)
loongarch_relocation r.R_LARCH_ABS_HI20 = with_row 67 (codes "R_LARCH_ABS_HI20") (high_row Absolute)
loongarch_relocation r.R_LARCH_ABS_LO12 = with_row 68 (codes "R_LARCH_ABS_LO12") (low_row Absolute)
loongarch_relocation r.R_LARCH_ABS64_LO20 =
    with_row 69 (codes "R_LARCH_ABS64_LO20") (middle_row Absolute)
loongarch_relocation r.R_LARCH_ABS64_HI12 =
    with_row 70 (codes "R_LARCH_ABS64_HI12") (upper_row Absolute)
loongarch_relocation r.R_LARCH_PCALA_HI20 =
    with_row 71 (codes "R_LARCH_PCALA_HI20") (paged_row place_pages (rounded_row Relative))
loongarch_relocation r.R_LARCH_PCALA_LO12 =
    with_row 72 (codes "R_LARCH_PCALA_LO12") (low_row AbsoluteLowPart)
loongarch_relocation r.R_LARCH_PCALA64_LO20 =
    with_row 73 (codes "R_LARCH_PCALA64_LO20") (middle_row RelativeLoongArchHigh)
loongarch_relocation r.R_LARCH_PCALA64_HI12 =
    with_row 74 (codes "R_LARCH_PCALA64_HI12") (upper_row RelativeLoongArchHigh)
loongarch_relocation r.R_LARCH_GOT_PC_HI20 =
    with_row 75 (codes "R_LARCH_GOT_PC_HI20") (paged_row entry_pages (rounded_row GotRelative))
loongarch_relocation r.R_LARCH_GOT_PC_LO12 = with_row 76 (codes "R_LARCH_GOT_PC_LO12") (low_row Got)
loongarch_relocation r.R_LARCH_GOT64_PC_LO20 =
    with_row 77 (codes "R_LARCH_GOT64_PC_LO20") (middle_row GotRelativeLoongArch64)
loongarch_relocation r.R_LARCH_GOT64_PC_HI12 =
    with_row 78 (codes "R_LARCH_GOT64_PC_HI12") (upper_row GotRelativeLoongArch64)
loongarch_relocation r.R_LARCH_TLS_LE_HI20 =
    with_row 83 (codes "R_LARCH_TLS_LE_HI20") (high_row TpOff)
loongarch_relocation r.R_LARCH_TLS_LE_LO12 =
    with_row 84 (codes "R_LARCH_TLS_LE_LO12") (low_row TpOff)
loongarch_relocation r.R_LARCH_TLS_LE64_LO20 =
    with_row 85 (codes "R_LARCH_TLS_LE64_LO20") (middle_row TpOff)
loongarch_relocation r.R_LARCH_TLS_LE64_HI12 =
    with_row 86 (codes "R_LARCH_TLS_LE64_HI12") (upper_row TpOff)
loongarch_relocation r.R_LARCH_TLS_IE_PC_HI20 =
    with_row 87 (codes "R_LARCH_TLS_IE_PC_HI20") (paged_row entry_pages (rounded_row GotTpOff))
loongarch_relocation r.R_LARCH_TLS_IE_PC_LO12 =
    with_row 88 (codes "R_LARCH_TLS_IE_PC_LO12") (low_row GotTpOffGot)
loongarch_relocation r.R_LARCH_TLS_IE64_PC_LO20 =
    with_row 89 (codes "R_LARCH_TLS_IE64_PC_LO20") (middle_row GotTpOffLoongArch64)
loongarch_relocation r.R_LARCH_TLS_IE64_PC_HI12 =
    with_row 90 (codes "R_LARCH_TLS_IE64_PC_HI12") (upper_row GotTpOffLoongArch64)
loongarch_relocation r.R_LARCH_TLS_IE_HI20 =
    with_row 91 (codes "R_LARCH_TLS_IE_HI20") (high_row GotTpOffGot)
loongarch_relocation r.R_LARCH_TLS_IE_LO12 =
    with_row 92 (codes "R_LARCH_TLS_IE_LO12") (low_row GotTpOffGot)
loongarch_relocation r.R_LARCH_TLS_IE64_LO20 =
    with_row 93 (codes "R_LARCH_TLS_IE64_LO20") (middle_row GotTpOffGot)
loongarch_relocation r.R_LARCH_TLS_IE64_HI12 =
    with_row 94 (codes "R_LARCH_TLS_IE64_HI12") (upper_row GotTpOffGot)
loongarch_relocation r.R_LARCH_TLS_LD_PC_HI20 =
    with_row 95 (codes "R_LARCH_TLS_LD_PC_HI20") (paged_row entry_pages (rounded_row TlsGd))
loongarch_relocation r.R_LARCH_TLS_LD_HI20 =
    with_row 96 (codes "R_LARCH_TLS_LD_HI20") (high_row TlsGdGot)
loongarch_relocation r.R_LARCH_TLS_GD_PC_HI20 =
    with_row 97 (codes "R_LARCH_TLS_GD_PC_HI20") (paged_row entry_pages (rounded_row TlsGd))
loongarch_relocation r.R_LARCH_TLS_GD_HI20 =
    with_row 98 (codes "R_LARCH_TLS_GD_HI20") (high_row TlsGdGot)
loongarch_relocation r.R_LARCH_32_PCREL =
    with_row 99 (codes "R_LARCH_32_PCREL") (signed_row 32 (bytes_row Relative 4))
loongarch_relocation r.R_LARCH_RELAX = with_row 100 (codes "R_LARCH_RELAX") (bytes_row NoValue 0)
loongarch_relocation r.R_LARCH_ALIGN = with_row 102 (codes "R_LARCH_ALIGN") (bytes_row Alignment 0)
loongarch_relocation r.R_LARCH_PCREL20_S2 =
    with_row 103 (codes "R_LARCH_PCREL20_S2") (branch_row Relative 22 Shift5)
loongarch_relocation r.R_LARCH_ADD6 =
    with_row 105 (codes "R_LARCH_ADD6") (bytes_row AbsoluteAdditionWord6 1)
loongarch_relocation r.R_LARCH_SUB6 =
    with_row 106 (codes "R_LARCH_SUB6") (bytes_row AbsoluteSubtractionWord6 1)
loongarch_relocation r.R_LARCH_ADD_ULEB128 =
    with_row 107 (codes "R_LARCH_ADD_ULEB128") (bytes_row Relative 0)
loongarch_relocation r.R_LARCH_SUB_ULEB128 =
    with_row 108 (codes "R_LARCH_SUB_ULEB128") (bytes_row PairSubtractionULEB128LoongArch 8)
loongarch_relocation r.R_LARCH_64_PCREL =
    with_row 109 (codes "R_LARCH_64_PCREL") (bytes_row Relative 8)
loongarch_relocation r.R_LARCH_CALL36 =
    with_row 110 (codes "R_LARCH_CALL36") (branch_row PltRelative 38 Call36)
loongarch_relocation r.R_LARCH_TLS_DESC_PC_HI20 =
    with_row 111 (codes "R_LARCH_TLS_DESC_PC_HI20") (paged_row entry_pages (rounded_row TlsDesc))
loongarch_relocation r.R_LARCH_TLS_DESC_PC_LO12 =
    with_row 112 (codes "R_LARCH_TLS_DESC_PC_LO12") (low_row TlsDescGot)
loongarch_relocation r.R_LARCH_TLS_DESC64_PC_LO20 =
    with_row 113 (codes "R_LARCH_TLS_DESC64_PC_LO20") (middle_row TlsDescLoongArch64)
loongarch_relocation r.R_LARCH_TLS_DESC64_PC_HI12 =
    with_row 114 (codes "R_LARCH_TLS_DESC64_PC_HI12") (upper_row TlsDescLoongArch64)
loongarch_relocation r.R_LARCH_TLS_DESC_LD =
    with_row 119 (codes "R_LARCH_TLS_DESC_LD") (bytes_row NoValue 0)
loongarch_relocation r.R_LARCH_TLS_DESC_CALL =
    with_row 120 (codes "R_LARCH_TLS_DESC_CALL") (bytes_row TlsDescCall 0)
loongarch_relocation r.R_LARCH_TLS_LE_HI20_R =
    with_row 121 (codes "R_LARCH_TLS_LE_HI20_R") (rounded_row TpOff)
loongarch_relocation r.R_LARCH_TLS_LE_ADD_R =
    with_row 122 (codes "R_LARCH_TLS_LE_ADD_R") (bytes_row NoValue 0)
loongarch_relocation r.R_LARCH_TLS_LE_LO12_R =
    with_row 123 (codes "R_LARCH_TLS_LE_LO12_R") (low_row TpOff)
loongarch_relocation r.R_LARCH_TLS_LD_PCREL20_S2 =
    with_own_row 124 (codes "R_LARCH_TLS_LD_PCREL20_S2") (branch_row TlsGd 22 Shift5)
loongarch_relocation r.R_LARCH_TLS_GD_PCREL20_S2 =
    with_own_row 125 (codes "R_LARCH_TLS_GD_PCREL20_S2") (branch_row TlsGd 22 Shift5)
loongarch_relocation r.R_LARCH_TLS_DESC_PCREL20_S2 =
    with_own_row 126 (codes "R_LARCH_TLS_DESC_PCREL20_S2") (branch_row TlsDesc 22 Shift5)
loongarch_relocation r.R_LARCH_CALL30 =
    with_row 127 (codes "R_LARCH_CALL30") (insn_row Relative 2 19 Call30)
loongarch_relocation r.R_LARCH_PCADD_HI20 =
    with_row 128 (codes "R_LARCH_PCADD_HI20") (rounded_row Relative)
loongarch_relocation (r.Other r_type) = unnamed_relocation r_type

abbrev pub loongarch_name : LoongArch64Relocation → ElfName
loongarch_name name = (loongarch_relocation name).name

-- what a relocation means, and none where it isn't known
abbrev pub loongarch_row : LoongArch64Relocation → Option RowInfo
loongarch_row name = (loongarch_relocation name).row

-- the row that the crate this one is a port of has; its `R_LARCH_ALIGN` has no kind of its own
abbrev pub loongarch_raw_row : LoongArch64Relocation → Option RowInfo
loongarch_raw_row r.R_LARCH_ALIGN = Some (bytes_row NoValue 0)
loongarch_raw_row name = raw_row (loongarch_relocation name)

-- V + S + A of the first of a pair, and V - S - A of the second
abbrev pub loongarch_uleb128_role : LoongArch64Relocation → Option Uleb128Role
loongarch_uleb128_role r.R_LARCH_ADD_ULEB128 = Some Adds
loongarch_uleb128_role r.R_LARCH_SUB_ULEB128 = Some Subtracts
loongarch_uleb128_role name = None
