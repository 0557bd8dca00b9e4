-- The relocations of x86-64 (x86-64 psABI, "Relocation Types").
use Rattle.linker_elf.specs.Imports.{Absolute, DtpOff, GotRelGotBase, GotRelative, GotTpOff}
use Rattle.linker_elf.specs.Imports.{PltRelGotBase, PltRelative, Relative, SymRelGotBase}
use Rattle.linker_elf.specs.Imports.{SymbolSize, TlsDesc, TlsDescCall, TlsGd, TlsLd, TpOff}
use Rattle.std.specs.Prelude.{Option, codes}
use Rattle.linker_elf.specs.ElfNames.{ElfName}
use Rattle.linker_elf.specs.Rows.{Relocation, with_row, with_own_row, unnamed_relocation}
use Rattle.linker_elf.specs.Rows.{bytes_row, signed_row}
use Rattle.linker_elf.specs.Rows.{unsigned_row, signed_or_unsigned_row}
use Rattle.linker_elf.specs.declared.elf.RelocationKind.TheVariants.{None as NoValue}
use Rattle.linker_elf.specs.declared.elf.RowInfo.{RowInfo}
use Rattle.linker_elf.specs.declared.x86_64.relocations.X86_64Relocation.{X86_64Relocation}
use Rattle.linker_elf.specs.declared.x86_64.relocations.X86_64Relocation.TheVariants as r

-- each name with its `r_type` and its row
abbrev pub x86_64_relocation : X86_64Relocation → Relocation
x86_64_relocation r.R_X86_64_NONE = with_row 0 (codes "R_X86_64_NONE") (bytes_row NoValue 0)
x86_64_relocation r.R_X86_64_64 = with_row 1 (codes "R_X86_64_64") (bytes_row Absolute 8)
x86_64_relocation r.R_X86_64_PC32 =
    with_row 2 (codes "R_X86_64_PC32") (signed_row 32 (bytes_row Relative 4))
x86_64_relocation r.R_X86_64_GOT32 =
    with_row 3 (codes "R_X86_64_GOT32") (unsigned_row 32 (bytes_row GotRelGotBase 4))
x86_64_relocation r.R_X86_64_PLT32 =
    with_row 4 (codes "R_X86_64_PLT32") (signed_row 32 (bytes_row PltRelative 4))
x86_64_relocation r.R_X86_64_GOTPCREL =
    with_row 9 (codes "R_X86_64_GOTPCREL") (signed_row 32 (bytes_row GotRelative 4))
x86_64_relocation r.R_X86_64_32 =
    with_row 10 (codes "R_X86_64_32") (unsigned_row 32 (bytes_row Absolute 4))
x86_64_relocation r.R_X86_64_32S =
    with_row 11 (codes "R_X86_64_32S") (signed_row 32 (bytes_row Absolute 4))
x86_64_relocation r.R_X86_64_16 =
    with_row 12 (codes "R_X86_64_16") (signed_or_unsigned_row 16 (bytes_row Absolute 2))
x86_64_relocation r.R_X86_64_PC16 =
    with_row 13 (codes "R_X86_64_PC16") (signed_row 16 (bytes_row Relative 2))
x86_64_relocation r.R_X86_64_8 =
    with_row 14 (codes "R_X86_64_8") (signed_or_unsigned_row 8 (bytes_row Absolute 1))
x86_64_relocation r.R_X86_64_PC8 =
    with_row 15 (codes "R_X86_64_PC8") (signed_row 8 (bytes_row Relative 1))
x86_64_relocation r.R_X86_64_DTPOFF64 = with_row 17 (codes "R_X86_64_DTPOFF64") (bytes_row DtpOff 8)
x86_64_relocation r.R_X86_64_TPOFF64 = with_own_row 18 (codes "R_X86_64_TPOFF64") (bytes_row TpOff 8)
x86_64_relocation r.R_X86_64_TLSGD =
    with_row 19 (codes "R_X86_64_TLSGD") (signed_row 32 (bytes_row TlsGd 4))
x86_64_relocation r.R_X86_64_TLSLD =
    with_row 20 (codes "R_X86_64_TLSLD") (signed_row 32 (bytes_row TlsLd 4))
x86_64_relocation r.R_X86_64_DTPOFF32 =
    with_row 21 (codes "R_X86_64_DTPOFF32") (signed_row 32 (bytes_row DtpOff 4))
x86_64_relocation r.R_X86_64_GOTTPOFF =
    with_row 22 (codes "R_X86_64_GOTTPOFF") (signed_row 32 (bytes_row GotTpOff 4))
x86_64_relocation r.R_X86_64_TPOFF32 =
    with_row 23 (codes "R_X86_64_TPOFF32") (signed_row 32 (bytes_row TpOff 4))
x86_64_relocation r.R_X86_64_PC64 = with_row 24 (codes "R_X86_64_PC64") (bytes_row Relative 8)
x86_64_relocation r.R_X86_64_GOTOFF64 =
    with_row 25 (codes "R_X86_64_GOTOFF64") (bytes_row SymRelGotBase 8)
x86_64_relocation r.R_X86_64_GOTPC32 =
    with_row 26 (codes "R_X86_64_GOTPC32") (signed_row 32 (bytes_row Relative 4))
x86_64_relocation r.R_X86_64_GOT64 =
    with_row 27 (codes "R_X86_64_GOT64") (bytes_row GotRelGotBase 8)
x86_64_relocation r.R_X86_64_GOTPC64 = with_row 29 (codes "R_X86_64_GOTPC64") (bytes_row Relative 8)
x86_64_relocation r.R_X86_64_PLTOFF64 =
    with_row 31 (codes "R_X86_64_PLTOFF64") (bytes_row PltRelGotBase 8)
x86_64_relocation r.R_X86_64_SIZE32 =
    with_row 32 (codes "R_X86_64_SIZE32") (unsigned_row 32 (bytes_row SymbolSize 4))
x86_64_relocation r.R_X86_64_SIZE64 = with_row 33 (codes "R_X86_64_SIZE64") (bytes_row SymbolSize 8)
x86_64_relocation r.R_X86_64_GOTPC32_TLSDESC =
    with_row 34 (codes "R_X86_64_GOTPC32_TLSDESC") (signed_row 32 (bytes_row TlsDesc 4))
x86_64_relocation r.R_X86_64_TLSDESC_CALL =
    with_row 35 (codes "R_X86_64_TLSDESC_CALL") (bytes_row TlsDescCall 0)
x86_64_relocation r.R_X86_64_GOTPCRELX =
    with_row 41 (codes "R_X86_64_GOTPCRELX") (signed_row 32 (bytes_row GotRelative 4))
x86_64_relocation r.R_X86_64_REX_GOTPCRELX =
    with_row 42 (codes "R_X86_64_REX_GOTPCRELX") (signed_row 32 (bytes_row GotRelative 4))
x86_64_relocation r.R_X86_64_CODE_4_GOTPCRELX =
    with_row 43 (codes "R_X86_64_CODE_4_GOTPCRELX") (signed_row 32 (bytes_row GotRelative 4))
x86_64_relocation r.R_X86_64_CODE_4_GOTTPOFF =
    with_row 44 (codes "R_X86_64_CODE_4_GOTTPOFF") (signed_row 32 (bytes_row GotTpOff 4))
x86_64_relocation r.R_X86_64_CODE_4_GOTPC32_TLSDESC =
    with_row 45 (codes "R_X86_64_CODE_4_GOTPC32_TLSDESC") (signed_row 32 (bytes_row TlsDesc 4))
x86_64_relocation r.R_X86_64_CODE_5_GOTPCRELX =
    with_row 46 (codes "R_X86_64_CODE_5_GOTPCRELX") (signed_row 32 (bytes_row GotRelative 4))
x86_64_relocation r.R_X86_64_CODE_5_GOTTPOFF =
    with_row 47 (codes "R_X86_64_CODE_5_GOTTPOFF") (signed_row 32 (bytes_row GotTpOff 4))
x86_64_relocation r.R_X86_64_CODE_5_GOTPC32_TLSDESC =
    with_row 48 (codes "R_X86_64_CODE_5_GOTPC32_TLSDESC") (signed_row 32 (bytes_row TlsDesc 4))
x86_64_relocation r.R_X86_64_CODE_6_GOTPCRELX =
    with_row 49 (codes "R_X86_64_CODE_6_GOTPCRELX") (signed_row 32 (bytes_row GotRelative 4))
x86_64_relocation r.R_X86_64_CODE_6_GOTTPOFF =
    with_row 50 (codes "R_X86_64_CODE_6_GOTTPOFF") (signed_row 32 (bytes_row GotTpOff 4))
x86_64_relocation r.R_X86_64_CODE_6_GOTPC32_TLSDESC =
    with_row 51 (codes "R_X86_64_CODE_6_GOTPC32_TLSDESC") (signed_row 32 (bytes_row TlsDesc 4))
x86_64_relocation (r.Other r_type) = unnamed_relocation r_type

abbrev pub x86_64_name : X86_64Relocation → ElfName
x86_64_name name = (x86_64_relocation name).name

-- what a relocation means, and none where it isn't known
abbrev pub x86_64_row : X86_64Relocation → Option RowInfo
x86_64_row name = (x86_64_relocation name).row
