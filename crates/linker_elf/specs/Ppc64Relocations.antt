-- The relocations of PowerPC64 (64-bit ELF V2 ABI for Power, "Relocation Types").
use Rattle.linker_elf.specs.Imports.{Absolute, Branch14, Branch24, D, DUnsigned, Ds, DtpOff}
use Rattle.linker_elf.specs.Imports.{GotRelGotBase, GotRelative, GotTpOff, GotTpOffGotBase}
use Rattle.linker_elf.specs.Imports.{PltRelGotBase, PltRelative, Ppc64, Ppc64Form, Prefixed}
use Rattle.linker_elf.specs.Imports.{Relative, RelocationKind, SymRelGotBase, TlsGd, TlsGdGotBase}
use Rattle.linker_elf.specs.Imports.{TlsLd, TlsLdGotBase, TpOff}
use Rattle.std.specs.Prelude.{Option, codes, ℕ}
use Rattle.linker_elf.specs.ElfNames.{ElfName}
use Rattle.linker_elf.specs.Rows.{Relocation, with_row, with_own_row}
use Rattle.linker_elf.specs.Rows.{unnamed_relocation, bytes_row, bits_row}
use Rattle.linker_elf.specs.Rows.{signed_row, signed_or_unsigned_row, aligned_row, biased_row}
use Rattle.linker_elf.specs.declared.elf.RelocationKind.TheVariants.{None as NoValue}
use Rattle.linker_elf.specs.declared.elf.RowInfo.{RowInfo}
use Rattle.linker_elf.specs.declared.ppc64.relocations.Ppc64Relocation.{Ppc64Relocation}
use Rattle.linker_elf.specs.declared.ppc64.relocations.Ppc64Relocation.TheVariants as r

-- the high half
abbrev pub high_row : RelocationKind → RowInfo
high_row kind = bits_row kind 16 32 (Ppc64 D)

-- a part that is adjusted for the sign of the low half
abbrev pub adjusted_row : RowInfo → RowInfo
adjusted_row row = biased_row 0x8000 row

-- the high half so
abbrev pub high_adjusted_row : RelocationKind → RowInfo
high_adjusted_row kind = adjusted_row (high_row kind)

-- the low half
abbrev pub low_row : RelocationKind → RowInfo
low_row kind = bits_row kind 0 16 (Ppc64 D)

-- the low half in whole words
abbrev pub low_ds_row : RelocationKind → RowInfo
low_ds_row kind = aligned_row 4 (bits_row kind 0 16 (Ppc64 Ds))

-- the parts of a value of 64 bits above its low half, which aren't checked: `lis` takes the highest
-- one, `ori` and `oris` the others
abbrev pub highest_row : RelocationKind → RowInfo
highest_row kind = bits_row kind 48 64 (Ppc64 D)

abbrev pub higher_row : RelocationKind → RowInfo
higher_row kind = bits_row kind 32 48 (Ppc64 DUnsigned)

abbrev pub unchecked_row : RelocationKind → RowInfo
unchecked_row kind = bits_row kind 16 32 (Ppc64 DUnsigned)

-- a signed distance, or address, of n bits
abbrev pub branch_row : RelocationKind → ℕ → Ppc64Form → RowInfo
branch_row kind n form = aligned_row 4 (signed_row n (bits_row kind 0 n (Ppc64 form)))

-- 34 signed bits into a prefixed instruction
abbrev pub prefixed_row : RelocationKind → RowInfo
prefixed_row kind = signed_row 34 (bits_row kind 0 34 (Ppc64 Prefixed))

-- each name with its `r_type` and its row
abbrev pub ppc64_relocation : Ppc64Relocation → Relocation
ppc64_relocation r.R_PPC64_NONE = with_own_row 0 (codes "R_PPC64_NONE") (bytes_row NoValue 0)
ppc64_relocation r.R_PPC64_ADDR32 =
    with_row 1 (codes "R_PPC64_ADDR32") (signed_or_unsigned_row 32 (bytes_row Absolute 4))
ppc64_relocation r.R_PPC64_ADDR24 =
    with_own_row 2 (codes "R_PPC64_ADDR24") (branch_row Absolute 26 Branch24)
ppc64_relocation r.R_PPC64_ADDR16 =
    with_own_row 3 (codes "R_PPC64_ADDR16") (signed_or_unsigned_row 16 (bytes_row Absolute 2))
ppc64_relocation r.R_PPC64_ADDR16_LO = with_own_row 4 (codes "R_PPC64_ADDR16_LO") (low_row Absolute)
ppc64_relocation r.R_PPC64_ADDR16_HI = with_own_row 5 (codes "R_PPC64_ADDR16_HI") (high_row Absolute)
ppc64_relocation r.R_PPC64_ADDR16_HA =
    with_own_row 6 (codes "R_PPC64_ADDR16_HA") (high_adjusted_row Absolute)
ppc64_relocation r.R_PPC64_ADDR14 =
    with_own_row 7 (codes "R_PPC64_ADDR14") (branch_row Absolute 16 Branch14)
ppc64_relocation r.R_PPC64_REL24 =
    with_row 10 (codes "R_PPC64_REL24") (branch_row Relative 26 Branch24)
ppc64_relocation r.R_PPC64_REL14 =
    with_row 11 (codes "R_PPC64_REL14") (branch_row Relative 16 Branch14)
ppc64_relocation r.R_PPC64_GOT16 =
    with_own_row 14 (codes "R_PPC64_GOT16") (signed_row 16 (low_row GotRelGotBase))
ppc64_relocation r.R_PPC64_GOT16_LO = with_own_row 15 (codes "R_PPC64_GOT16_LO") (low_row GotRelGotBase)
ppc64_relocation r.R_PPC64_GOT16_HI =
    with_own_row 16 (codes "R_PPC64_GOT16_HI") (high_row GotRelGotBase)
ppc64_relocation r.R_PPC64_GOT16_HA =
    with_own_row 17 (codes "R_PPC64_GOT16_HA") (high_adjusted_row GotRelGotBase)
ppc64_relocation r.R_PPC64_REL32 =
    with_row 26 (codes "R_PPC64_REL32") (signed_row 32 (bytes_row Relative 4))
ppc64_relocation r.R_PPC64_PLT16_HA =
    with_own_row 31 (codes "R_PPC64_PLT16_HA") (high_adjusted_row PltRelGotBase)
ppc64_relocation r.R_PPC64_ADDR64 = with_row 38 (codes "R_PPC64_ADDR64") (bytes_row Absolute 8)
ppc64_relocation r.R_PPC64_ADDR16_HIGHER =
    with_own_row 39 (codes "R_PPC64_ADDR16_HIGHER") (higher_row Absolute)
ppc64_relocation r.R_PPC64_ADDR16_HIGHERA =
    with_own_row 40 (codes "R_PPC64_ADDR16_HIGHERA") (adjusted_row (higher_row Absolute))
ppc64_relocation r.R_PPC64_ADDR16_HIGHEST =
    with_own_row 41 (codes "R_PPC64_ADDR16_HIGHEST") (highest_row Absolute)
ppc64_relocation r.R_PPC64_ADDR16_HIGHESTA =
    with_own_row 42 (codes "R_PPC64_ADDR16_HIGHESTA") (adjusted_row (highest_row Absolute))
ppc64_relocation r.R_PPC64_REL64 = with_row 44 (codes "R_PPC64_REL64") (bytes_row Relative 8)
ppc64_relocation r.R_PPC64_TOC16 =
    with_own_row 47 (codes "R_PPC64_TOC16") (signed_row 16 (low_row SymRelGotBase))
ppc64_relocation r.R_PPC64_TOC16_LO = with_row 48 (codes "R_PPC64_TOC16_LO") (low_row SymRelGotBase)
ppc64_relocation r.R_PPC64_TOC16_HI =
    with_own_row 49 (codes "R_PPC64_TOC16_HI") (high_row SymRelGotBase)
ppc64_relocation r.R_PPC64_TOC16_HA =
    with_row 50 (codes "R_PPC64_TOC16_HA") (high_adjusted_row SymRelGotBase)
ppc64_relocation r.R_PPC64_ADDR16_DS =
    with_own_row 56 (codes "R_PPC64_ADDR16_DS") (signed_row 16 (low_ds_row Absolute))
ppc64_relocation r.R_PPC64_ADDR16_LO_DS =
    with_own_row 57 (codes "R_PPC64_ADDR16_LO_DS") (low_ds_row Absolute)
ppc64_relocation r.R_PPC64_GOT16_DS =
    with_own_row 58 (codes "R_PPC64_GOT16_DS") (signed_row 16 (low_ds_row GotRelGotBase))
ppc64_relocation r.R_PPC64_GOT16_LO_DS =
    with_own_row 59 (codes "R_PPC64_GOT16_LO_DS") (low_ds_row GotRelGotBase)
ppc64_relocation r.R_PPC64_PLT16_LO_DS =
    with_own_row 60 (codes "R_PPC64_PLT16_LO_DS") (low_ds_row PltRelGotBase)
ppc64_relocation r.R_PPC64_TOC16_DS =
    with_own_row 63 (codes "R_PPC64_TOC16_DS") (signed_row 16 (low_ds_row SymRelGotBase))
ppc64_relocation r.R_PPC64_TOC16_LO_DS =
    with_row 64 (codes "R_PPC64_TOC16_LO_DS") (low_ds_row SymRelGotBase)
ppc64_relocation r.R_PPC64_TLS = with_row 67 (codes "R_PPC64_TLS") (bytes_row NoValue 0)
ppc64_relocation r.R_PPC64_TPREL16 =
    with_row 69 (codes "R_PPC64_TPREL16") (signed_row 16 (low_row TpOff))
ppc64_relocation r.R_PPC64_TPREL16_LO = with_row 70 (codes "R_PPC64_TPREL16_LO") (low_row TpOff)
ppc64_relocation r.R_PPC64_TPREL16_HI = with_row 71 (codes "R_PPC64_TPREL16_HI") (high_row TpOff)
ppc64_relocation r.R_PPC64_TPREL16_HA =
    with_row 72 (codes "R_PPC64_TPREL16_HA") (high_adjusted_row TpOff)
ppc64_relocation r.R_PPC64_TPREL64 = with_row 73 (codes "R_PPC64_TPREL64") (bytes_row TpOff 8)
ppc64_relocation r.R_PPC64_DTPREL16 =
    with_row 74 (codes "R_PPC64_DTPREL16") (signed_row 16 (low_row DtpOff))
ppc64_relocation r.R_PPC64_DTPREL16_LO = with_row 75 (codes "R_PPC64_DTPREL16_LO") (low_row DtpOff)
ppc64_relocation r.R_PPC64_DTPREL16_HI = with_row 76 (codes "R_PPC64_DTPREL16_HI") (high_row DtpOff)
ppc64_relocation r.R_PPC64_DTPREL16_HA =
    with_row 77 (codes "R_PPC64_DTPREL16_HA") (high_adjusted_row DtpOff)
ppc64_relocation r.R_PPC64_DTPREL64 = with_row 78 (codes "R_PPC64_DTPREL64") (bytes_row DtpOff 8)
ppc64_relocation r.R_PPC64_GOT_TLSGD16 =
    with_row 79 (codes "R_PPC64_GOT_TLSGD16") (signed_row 16 (low_row TlsGdGotBase))
ppc64_relocation r.R_PPC64_GOT_TLSGD16_LO =
    with_row 80 (codes "R_PPC64_GOT_TLSGD16_LO") (low_row TlsGdGotBase)
ppc64_relocation r.R_PPC64_GOT_TLSGD16_HI =
    with_row 81 (codes "R_PPC64_GOT_TLSGD16_HI") (high_row TlsGdGotBase)
ppc64_relocation r.R_PPC64_GOT_TLSGD16_HA =
    with_row 82 (codes "R_PPC64_GOT_TLSGD16_HA") (high_adjusted_row TlsGdGotBase)
ppc64_relocation r.R_PPC64_GOT_TLSLD16 =
    with_row 83 (codes "R_PPC64_GOT_TLSLD16") (signed_row 16 (low_row TlsLdGotBase))
ppc64_relocation r.R_PPC64_GOT_TLSLD16_LO =
    with_row 84 (codes "R_PPC64_GOT_TLSLD16_LO") (low_row TlsLdGotBase)
ppc64_relocation r.R_PPC64_GOT_TLSLD16_HI =
    with_row 85 (codes "R_PPC64_GOT_TLSLD16_HI") (high_row TlsLdGotBase)
ppc64_relocation r.R_PPC64_GOT_TLSLD16_HA =
    with_row 86 (codes "R_PPC64_GOT_TLSLD16_HA") (high_adjusted_row TlsLdGotBase)
ppc64_relocation r.R_PPC64_GOT_TPREL16_DS =
    with_row 87 (codes "R_PPC64_GOT_TPREL16_DS") (signed_row 16 (low_ds_row GotTpOffGotBase))
ppc64_relocation r.R_PPC64_GOT_TPREL16_LO_DS =
    with_row 88 (codes "R_PPC64_GOT_TPREL16_LO_DS") (low_ds_row GotTpOffGotBase)
ppc64_relocation r.R_PPC64_GOT_TPREL16_HI =
    with_row 89 (codes "R_PPC64_GOT_TPREL16_HI") (high_row GotTpOffGotBase)
ppc64_relocation r.R_PPC64_GOT_TPREL16_HA =
    with_row 90 (codes "R_PPC64_GOT_TPREL16_HA") (high_adjusted_row GotTpOffGotBase)
ppc64_relocation r.R_PPC64_TPREL16_DS =
    with_row 95 (codes "R_PPC64_TPREL16_DS") (signed_row 16 (low_ds_row TpOff))
ppc64_relocation r.R_PPC64_TPREL16_LO_DS =
    with_row 96 (codes "R_PPC64_TPREL16_LO_DS") (low_ds_row TpOff)
ppc64_relocation r.R_PPC64_TPREL16_HIGHER =
    with_own_row 97 (codes "R_PPC64_TPREL16_HIGHER") (higher_row TpOff)
ppc64_relocation r.R_PPC64_TPREL16_HIGHERA =
    with_own_row 98 (codes "R_PPC64_TPREL16_HIGHERA") (adjusted_row (higher_row TpOff))
ppc64_relocation r.R_PPC64_TPREL16_HIGHEST =
    with_own_row 99 (codes "R_PPC64_TPREL16_HIGHEST") (highest_row TpOff)
ppc64_relocation r.R_PPC64_TPREL16_HIGHESTA =
    with_own_row 100 (codes "R_PPC64_TPREL16_HIGHESTA") (adjusted_row (highest_row TpOff))
ppc64_relocation r.R_PPC64_DTPREL16_DS =
    with_row 101 (codes "R_PPC64_DTPREL16_DS") (signed_row 16 (low_ds_row DtpOff))
ppc64_relocation r.R_PPC64_DTPREL16_LO_DS =
    with_row 102 (codes "R_PPC64_DTPREL16_LO_DS") (low_ds_row DtpOff)
ppc64_relocation r.R_PPC64_DTPREL16_HIGHER =
    with_own_row 103 (codes "R_PPC64_DTPREL16_HIGHER") (higher_row DtpOff)
ppc64_relocation r.R_PPC64_DTPREL16_HIGHERA =
    with_own_row 104 (codes "R_PPC64_DTPREL16_HIGHERA") (adjusted_row (higher_row DtpOff))
ppc64_relocation r.R_PPC64_DTPREL16_HIGHEST =
    with_own_row 105 (codes "R_PPC64_DTPREL16_HIGHEST") (highest_row DtpOff)
ppc64_relocation r.R_PPC64_DTPREL16_HIGHESTA =
    with_own_row 106 (codes "R_PPC64_DTPREL16_HIGHESTA") (adjusted_row (highest_row DtpOff))
ppc64_relocation r.R_PPC64_TLSGD = with_row 107 (codes "R_PPC64_TLSGD") (bytes_row NoValue 0)
ppc64_relocation r.R_PPC64_TLSLD = with_row 108 (codes "R_PPC64_TLSLD") (bytes_row NoValue 0)
ppc64_relocation r.R_PPC64_ADDR16_HIGH =
    with_own_row 110 (codes "R_PPC64_ADDR16_HIGH") (unchecked_row Absolute)
ppc64_relocation r.R_PPC64_ADDR16_HIGHA =
    with_own_row 111 (codes "R_PPC64_ADDR16_HIGHA") (adjusted_row (unchecked_row Absolute))
ppc64_relocation r.R_PPC64_TPREL16_HIGH =
    with_own_row 112 (codes "R_PPC64_TPREL16_HIGH") (unchecked_row TpOff)
ppc64_relocation r.R_PPC64_TPREL16_HIGHA =
    with_own_row 113 (codes "R_PPC64_TPREL16_HIGHA") (adjusted_row (unchecked_row TpOff))
ppc64_relocation r.R_PPC64_DTPREL16_HIGH =
    with_own_row 114 (codes "R_PPC64_DTPREL16_HIGH") (unchecked_row DtpOff)
ppc64_relocation r.R_PPC64_DTPREL16_HIGHA =
    with_own_row 115 (codes "R_PPC64_DTPREL16_HIGHA") (adjusted_row (unchecked_row DtpOff))
ppc64_relocation r.R_PPC64_REL24_NOTOC =
    with_own_row 116 (codes "R_PPC64_REL24_NOTOC") (branch_row Relative 26 Branch24)
ppc64_relocation r.R_PPC64_ENTRY = with_own_row 118 (codes "R_PPC64_ENTRY") (bytes_row NoValue 0)
ppc64_relocation r.R_PPC64_PLTSEQ = with_own_row 119 (codes "R_PPC64_PLTSEQ") (bytes_row NoValue 0)
ppc64_relocation r.R_PPC64_PLTCALL = with_own_row 120 (codes "R_PPC64_PLTCALL") (bytes_row NoValue 0)
ppc64_relocation r.R_PPC64_PLTSEQ_NOTOC =
    with_own_row 121 (codes "R_PPC64_PLTSEQ_NOTOC") (bytes_row NoValue 0)
ppc64_relocation r.R_PPC64_PLTCALL_NOTOC =
    with_own_row 122 (codes "R_PPC64_PLTCALL_NOTOC") (bytes_row NoValue 0)
ppc64_relocation r.R_PPC64_PCREL_OPT =
    with_own_row 123 (codes "R_PPC64_PCREL_OPT") (bytes_row NoValue 0)
ppc64_relocation r.R_PPC64_D34 = with_own_row 128 (codes "R_PPC64_D34") (prefixed_row Absolute)
ppc64_relocation r.R_PPC64_D34_LO =
    with_own_row 129 (codes "R_PPC64_D34_LO") (bits_row Absolute 0 34 (Ppc64 Prefixed))
ppc64_relocation r.R_PPC64_D34_HI30 =
    with_own_row 130 (codes "R_PPC64_D34_HI30") (bits_row Absolute 34 64 (Ppc64 Prefixed))
ppc64_relocation r.R_PPC64_D34_HA30 =
    with_own_row 131 (codes "R_PPC64_D34_HA30")
    (biased_row 0x200000000 (bits_row Absolute 34 64 (Ppc64 Prefixed)))
ppc64_relocation r.R_PPC64_PCREL34 = with_own_row 132 (codes "R_PPC64_PCREL34") (prefixed_row Relative)
ppc64_relocation r.R_PPC64_GOT_PCREL34 =
    with_own_row 133 (codes "R_PPC64_GOT_PCREL34") (prefixed_row GotRelative)
ppc64_relocation r.R_PPC64_PLT_PCREL34 =
    with_own_row 134 (codes "R_PPC64_PLT_PCREL34") (prefixed_row PltRelative)
ppc64_relocation r.R_PPC64_PLT_PCREL34_NOTOC =
    with_own_row 135 (codes "R_PPC64_PLT_PCREL34_NOTOC") (prefixed_row PltRelative)
ppc64_relocation r.R_PPC64_TPREL34 = with_own_row 146 (codes "R_PPC64_TPREL34") (prefixed_row TpOff)
ppc64_relocation r.R_PPC64_DTPREL34 = with_own_row 147 (codes "R_PPC64_DTPREL34") (prefixed_row DtpOff)
ppc64_relocation r.R_PPC64_GOT_TLSGD_PCREL34 =
    with_own_row 148 (codes "R_PPC64_GOT_TLSGD_PCREL34") (prefixed_row TlsGd)
ppc64_relocation r.R_PPC64_GOT_TLSLD_PCREL34 =
    with_own_row 149 (codes "R_PPC64_GOT_TLSLD_PCREL34") (prefixed_row TlsLd)
ppc64_relocation r.R_PPC64_GOT_TPREL_PCREL34 =
    with_own_row 150 (codes "R_PPC64_GOT_TPREL_PCREL34") (prefixed_row GotTpOff)
ppc64_relocation r.R_PPC64_REL16 =
    with_own_row 249 (codes "R_PPC64_REL16") (signed_row 16 (bytes_row Relative 2))
ppc64_relocation r.R_PPC64_REL16_LO = with_row 250 (codes "R_PPC64_REL16_LO") (low_row Relative)
ppc64_relocation r.R_PPC64_REL16_HI = with_own_row 251 (codes "R_PPC64_REL16_HI") (high_row Relative)
ppc64_relocation r.R_PPC64_REL16_HA =
    with_row 252 (codes "R_PPC64_REL16_HA") (high_adjusted_row Relative)
ppc64_relocation (r.Other r_type) = unnamed_relocation r_type

abbrev pub ppc64_name : Ppc64Relocation → ElfName
ppc64_name name = (ppc64_relocation name).name

-- what a relocation means, and none where it isn't known
abbrev pub ppc64_row : Ppc64Relocation → Option RowInfo
ppc64_row name = (ppc64_relocation name).row
