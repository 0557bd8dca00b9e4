-- The relocations of AArch64 (ELF for the Arm 64-bit Architecture, "Relocation").
use Rattle.linker_elf.specs.Imports.{AArch64, AArch64Instruction, Absolute, AbsoluteLowPart, Add}
use Rattle.linker_elf.specs.Imports.{Adr, Bcond, DtpOff, Got, GotRelGotBase, GotRelative, GotTpOff}
use Rattle.linker_elf.specs.Imports.{GotTpOffGot, GotTpOffGotBase, JumpCall, LdSt, Ldr, LdrRegister}
use Rattle.linker_elf.specs.Imports.{Movkz, Movnz, PltRelative, Relative, RelocationKind}
use Rattle.linker_elf.specs.Imports.{SymRelGotBase, TlsDesc, TlsDescCall, TlsDescGot}
use Rattle.linker_elf.specs.Imports.{TlsDescGotBase, TlsGd, TlsGdGot, TlsGdGotBase, TlsLd, TlsLdGot}
use Rattle.linker_elf.specs.Imports.{TlsLdGotBase, TpOff, TstBr}
use Rattle.std.specs.Prelude.{Option, codes, ℕ}
use Rattle.linker_elf.specs.ElfNames.{ElfName}
use Rattle.linker_elf.specs.Rows.{Relocation, with_row, unnamed_relocation, bytes_row, bits_row}
use Rattle.linker_elf.specs.Rows.{signed_row, unsigned_row, signed_or_unsigned_row, aligned_row}
use Rattle.linker_elf.specs.Rows.{paged_row, thunkable_row, place_pages, entry_pages, got_page}
use Rattle.linker_elf.specs.declared.elf.RelocationKind.TheVariants.{None as NoValue}
use Rattle.linker_elf.specs.declared.elf.RowInfo.{RowInfo}
use Rattle.linker_elf.specs.declared.aarch64.relocations.AArch64Relocation.{AArch64Relocation}
use Rattle.linker_elf.specs.declared.aarch64.relocations.AArch64Relocation.TheVariants as r

-- bits `start` and up, below `end`, into an instruction
abbrev pub insn_row : RelocationKind → ℕ → ℕ → AArch64Instruction → RowInfo
insn_row kind start end form = bits_row kind start end (AArch64 form)

-- each name with its `r_type` and its row
abbrev pub aarch64_relocation : AArch64Relocation → Relocation
aarch64_relocation r.R_AARCH64_NONE = with_row 0 (codes "R_AARCH64_NONE") (bytes_row NoValue 0)
aarch64_relocation r.R_AARCH64_ABS64 = with_row 257 (codes "R_AARCH64_ABS64") (bytes_row Absolute 8)
aarch64_relocation r.R_AARCH64_ABS32 =
    with_row 258 (codes "R_AARCH64_ABS32") (signed_or_unsigned_row 32 (bytes_row Absolute 4))
aarch64_relocation r.R_AARCH64_ABS16 =
    with_row 259 (codes "R_AARCH64_ABS16") (signed_or_unsigned_row 16 (bytes_row Absolute 2))
aarch64_relocation r.R_AARCH64_PREL64 =
    with_row 260 (codes "R_AARCH64_PREL64") (bytes_row Relative 8)
aarch64_relocation r.R_AARCH64_PREL32 =
    with_row 261 (codes "R_AARCH64_PREL32") (signed_or_unsigned_row 32 (bytes_row Relative 4))
aarch64_relocation r.R_AARCH64_PREL16 =
    with_row 262 (codes "R_AARCH64_PREL16") (signed_or_unsigned_row 16 (bytes_row Relative 2))
aarch64_relocation r.R_AARCH64_MOVW_UABS_G0 =
    with_row 263 (codes "R_AARCH64_MOVW_UABS_G0") (unsigned_row 16 (insn_row Absolute 0 16 Movkz))
aarch64_relocation r.R_AARCH64_MOVW_UABS_G0_NC =
    with_row 264 (codes "R_AARCH64_MOVW_UABS_G0_NC") (insn_row Absolute 0 16 Movkz)
aarch64_relocation r.R_AARCH64_MOVW_UABS_G1 =
    with_row 265 (codes "R_AARCH64_MOVW_UABS_G1") (unsigned_row 32 (insn_row Absolute 16 32 Movkz))
aarch64_relocation r.R_AARCH64_MOVW_UABS_G1_NC =
    with_row 266 (codes "R_AARCH64_MOVW_UABS_G1_NC") (insn_row Absolute 16 32 Movkz)
aarch64_relocation r.R_AARCH64_MOVW_UABS_G2 =
    with_row 267 (codes "R_AARCH64_MOVW_UABS_G2") (unsigned_row 48 (insn_row Absolute 32 48 Movkz))
aarch64_relocation r.R_AARCH64_MOVW_UABS_G2_NC =
    with_row 268 (codes "R_AARCH64_MOVW_UABS_G2_NC") (insn_row Absolute 32 48 Movkz)
aarch64_relocation r.R_AARCH64_MOVW_UABS_G3 =
    with_row 269 (codes "R_AARCH64_MOVW_UABS_G3") (insn_row Absolute 48 64 Movkz)
aarch64_relocation r.R_AARCH64_MOVW_SABS_G0 =
    with_row 270 (codes "R_AARCH64_MOVW_SABS_G0") (signed_row 17 (insn_row Absolute 0 16 Movnz))
aarch64_relocation r.R_AARCH64_MOVW_SABS_G1 =
    with_row 271 (codes "R_AARCH64_MOVW_SABS_G1") (signed_row 33 (insn_row Absolute 16 32 Movnz))
aarch64_relocation r.R_AARCH64_MOVW_SABS_G2 =
    with_row 272 (codes "R_AARCH64_MOVW_SABS_G2") (signed_row 49 (insn_row Absolute 32 48 Movnz))
aarch64_relocation r.R_AARCH64_LD_PREL_LO19 =
    with_row 273 (codes "R_AARCH64_LD_PREL_LO19")
    (aligned_row 4 (signed_row 21 (insn_row Relative 2 21 Ldr)))
aarch64_relocation r.R_AARCH64_ADR_PREL_LO21 =
    with_row 274 (codes "R_AARCH64_ADR_PREL_LO21") (signed_row 21 (insn_row Relative 0 21 Adr))
aarch64_relocation r.R_AARCH64_ADR_PREL_PG_HI21 =
    with_row 275 (codes "R_AARCH64_ADR_PREL_PG_HI21")
    (paged_row place_pages (signed_row 33 (insn_row Relative 12 33 Adr)))
aarch64_relocation r.R_AARCH64_ADR_PREL_PG_HI21_NC =
    with_row 276 (codes "R_AARCH64_ADR_PREL_PG_HI21_NC")
    (paged_row place_pages (insn_row Relative 12 33 Adr))
aarch64_relocation r.R_AARCH64_ADD_ABS_LO12_NC =
    with_row 277 (codes "R_AARCH64_ADD_ABS_LO12_NC") (insn_row AbsoluteLowPart 0 12 Add)
aarch64_relocation r.R_AARCH64_LDST8_ABS_LO12_NC =
    with_row 278 (codes "R_AARCH64_LDST8_ABS_LO12_NC") (insn_row AbsoluteLowPart 0 12 LdSt)
aarch64_relocation r.R_AARCH64_TSTBR14 =
    with_row 279 (codes "R_AARCH64_TSTBR14")
    (aligned_row 4 (signed_row 16 (insn_row Relative 2 16 TstBr)))
aarch64_relocation r.R_AARCH64_CONDBR19 =
    with_row 280 (codes "R_AARCH64_CONDBR19")
    (aligned_row 4 (signed_row 21 (insn_row Relative 2 21 Bcond)))
aarch64_relocation r.R_AARCH64_JUMP26 =
    with_row 282 (codes "R_AARCH64_JUMP26")
    (thunkable_row (aligned_row 4 (signed_row 28 (insn_row PltRelative 2 28 JumpCall))))
aarch64_relocation r.R_AARCH64_CALL26 =
    with_row 283 (codes "R_AARCH64_CALL26")
    (thunkable_row (aligned_row 4 (signed_row 28 (insn_row PltRelative 2 28 JumpCall))))
aarch64_relocation r.R_AARCH64_LDST16_ABS_LO12_NC =
    with_row 284 (codes "R_AARCH64_LDST16_ABS_LO12_NC")
    (aligned_row 2 (insn_row AbsoluteLowPart 1 12 LdSt))
aarch64_relocation r.R_AARCH64_LDST32_ABS_LO12_NC =
    with_row 285 (codes "R_AARCH64_LDST32_ABS_LO12_NC")
    (aligned_row 4 (insn_row AbsoluteLowPart 2 12 LdSt))
aarch64_relocation r.R_AARCH64_LDST64_ABS_LO12_NC =
    with_row 286 (codes "R_AARCH64_LDST64_ABS_LO12_NC")
    (aligned_row 8 (insn_row AbsoluteLowPart 3 12 LdSt))
aarch64_relocation r.R_AARCH64_MOVW_PREL_G0 =
    with_row 287 (codes "R_AARCH64_MOVW_PREL_G0") (insn_row Relative 0 16 Movnz)
aarch64_relocation r.R_AARCH64_MOVW_PREL_G0_NC =
    with_row 288 (codes "R_AARCH64_MOVW_PREL_G0_NC") (insn_row Relative 0 16 Movkz)
aarch64_relocation r.R_AARCH64_MOVW_PREL_G1 =
    with_row 289 (codes "R_AARCH64_MOVW_PREL_G1") (insn_row Relative 16 32 Movnz)
aarch64_relocation r.R_AARCH64_MOVW_PREL_G1_NC =
    with_row 290 (codes "R_AARCH64_MOVW_PREL_G1_NC") (insn_row Relative 16 32 Movkz)
aarch64_relocation r.R_AARCH64_MOVW_PREL_G2 =
    with_row 291 (codes "R_AARCH64_MOVW_PREL_G2") (insn_row Relative 32 48 Movnz)
aarch64_relocation r.R_AARCH64_MOVW_PREL_G2_NC =
    with_row 292 (codes "R_AARCH64_MOVW_PREL_G2_NC") (insn_row Relative 32 48 Movkz)
aarch64_relocation r.R_AARCH64_MOVW_PREL_G3 =
    with_row 293 (codes "R_AARCH64_MOVW_PREL_G3") (insn_row Relative 48 64 Movnz)
aarch64_relocation r.R_AARCH64_LDST128_ABS_LO12_NC =
    with_row 299 (codes "R_AARCH64_LDST128_ABS_LO12_NC")
    (aligned_row 16 (insn_row AbsoluteLowPart 4 12 LdSt))
aarch64_relocation r.R_AARCH64_MOVW_GOTOFF_G0 =
    with_row 300 (codes "R_AARCH64_MOVW_GOTOFF_G0") (insn_row GotRelGotBase 0 16 Movnz)
aarch64_relocation r.R_AARCH64_MOVW_GOTOFF_G0_NC =
    with_row 301 (codes "R_AARCH64_MOVW_GOTOFF_G0_NC") (insn_row GotRelGotBase 0 16 Movkz)
aarch64_relocation r.R_AARCH64_MOVW_GOTOFF_G1 =
    with_row 302 (codes "R_AARCH64_MOVW_GOTOFF_G1") (insn_row GotRelGotBase 16 32 Movnz)
aarch64_relocation r.R_AARCH64_MOVW_GOTOFF_G1_NC =
    with_row 303 (codes "R_AARCH64_MOVW_GOTOFF_G1_NC") (insn_row GotRelGotBase 16 32 Movkz)
aarch64_relocation r.R_AARCH64_MOVW_GOTOFF_G2 =
    with_row 304 (codes "R_AARCH64_MOVW_GOTOFF_G2") (insn_row GotRelGotBase 32 48 Movnz)
aarch64_relocation r.R_AARCH64_MOVW_GOTOFF_G2_NC =
    with_row 305 (codes "R_AARCH64_MOVW_GOTOFF_G2_NC") (insn_row GotRelGotBase 32 48 Movkz)
aarch64_relocation r.R_AARCH64_MOVW_GOTOFF_G3 =
    with_row 306 (codes "R_AARCH64_MOVW_GOTOFF_G3") (insn_row GotRelGotBase 48 64 Movnz)
aarch64_relocation r.R_AARCH64_GOTREL64 =
    with_row 307 (codes "R_AARCH64_GOTREL64") (bytes_row SymRelGotBase 8)
aarch64_relocation r.R_AARCH64_GOTREL32 =
    with_row 308 (codes "R_AARCH64_GOTREL32") (signed_row 32 (bytes_row SymRelGotBase 4))
aarch64_relocation r.R_AARCH64_GOT_LD_PREL19 =
    with_row 309 (codes "R_AARCH64_GOT_LD_PREL19")
    (aligned_row 4 (signed_row 21 (insn_row GotRelative 2 21 Ldr)))
aarch64_relocation r.R_AARCH64_LD64_GOTOFF_LO15 =
    with_row 310 (codes "R_AARCH64_LD64_GOTOFF_LO15")
    (aligned_row 8 (unsigned_row 15 (insn_row GotRelGotBase 3 15 LdSt)))
aarch64_relocation r.R_AARCH64_ADR_GOT_PAGE =
    with_row 311 (codes "R_AARCH64_ADR_GOT_PAGE")
    (paged_row entry_pages (signed_row 33 (insn_row GotRelative 12 33 Adr)))
aarch64_relocation r.R_AARCH64_LD64_GOT_LO12_NC =
    with_row 312 (codes "R_AARCH64_LD64_GOT_LO12_NC") (aligned_row 8 (insn_row Got 3 12 LdSt))
aarch64_relocation r.R_AARCH64_LD64_GOTPAGE_LO15 =
    with_row 313 (codes "R_AARCH64_LD64_GOTPAGE_LO15")
    (paged_row got_page (aligned_row 8 (unsigned_row 15 (insn_row GotRelGotBase 3 15 LdSt))))
aarch64_relocation r.R_AARCH64_PLT32 =
    with_row 314 (codes "R_AARCH64_PLT32") (signed_row 32 (bytes_row PltRelative 4))
aarch64_relocation r.R_AARCH64_GOTPCREL32 =
    with_row 315 (codes "R_AARCH64_GOTPCREL32") (signed_row 32 (bytes_row GotRelative 4))
aarch64_relocation r.R_AARCH64_TLSGD_ADR_PREL21 =
    with_row 512 (codes "R_AARCH64_TLSGD_ADR_PREL21") (signed_row 21 (insn_row TlsGd 0 21 Adr))
aarch64_relocation r.R_AARCH64_TLSGD_ADR_PAGE21 =
    with_row 513 (codes "R_AARCH64_TLSGD_ADR_PAGE21")
    (paged_row entry_pages (signed_row 33 (insn_row TlsGd 12 33 Adr)))
aarch64_relocation r.R_AARCH64_TLSGD_ADD_LO12_NC =
    with_row 514 (codes "R_AARCH64_TLSGD_ADD_LO12_NC") (insn_row TlsGdGot 0 12 Add)
aarch64_relocation r.R_AARCH64_TLSGD_MOVW_G1 =
    with_row 515 (codes "R_AARCH64_TLSGD_MOVW_G1") (insn_row TlsGdGotBase 16 32 Movnz)
aarch64_relocation r.R_AARCH64_TLSGD_MOVW_G0_NC =
    with_row 516 (codes "R_AARCH64_TLSGD_MOVW_G0_NC") (insn_row TlsGdGotBase 0 16 Movkz)
aarch64_relocation r.R_AARCH64_TLSLD_ADR_PREL21 =
    with_row 517 (codes "R_AARCH64_TLSLD_ADR_PREL21") (signed_row 21 (insn_row TlsLd 0 21 Adr))
aarch64_relocation r.R_AARCH64_TLSLD_ADR_PAGE21 =
    with_row 518 (codes "R_AARCH64_TLSLD_ADR_PAGE21")
    (paged_row entry_pages (signed_row 33 (insn_row TlsLd 12 33 Adr)))
aarch64_relocation r.R_AARCH64_TLSLD_ADD_LO12_NC =
    with_row 519 (codes "R_AARCH64_TLSLD_ADD_LO12_NC") (insn_row TlsLdGot 0 12 Add)
aarch64_relocation r.R_AARCH64_TLSLD_MOVW_G1 =
    with_row 520 (codes "R_AARCH64_TLSLD_MOVW_G1") (insn_row TlsLdGotBase 16 32 Movnz)
aarch64_relocation r.R_AARCH64_TLSLD_MOVW_G0_NC =
    with_row 521 (codes "R_AARCH64_TLSLD_MOVW_G0_NC") (insn_row TlsLdGotBase 0 16 Movkz)
aarch64_relocation r.R_AARCH64_TLSLD_LD_PREL19 =
    with_row 522 (codes "R_AARCH64_TLSLD_LD_PREL19")
    (aligned_row 4 (signed_row 21 (insn_row TlsLd 2 21 Ldr)))
aarch64_relocation r.R_AARCH64_TLSLD_MOVW_DTPREL_G2 =
    with_row 523 (codes "R_AARCH64_TLSLD_MOVW_DTPREL_G2") (insn_row DtpOff 32 48 Movnz)
aarch64_relocation r.R_AARCH64_TLSLD_MOVW_DTPREL_G1 =
    with_row 524 (codes "R_AARCH64_TLSLD_MOVW_DTPREL_G1") (insn_row DtpOff 16 32 Movnz)
aarch64_relocation r.R_AARCH64_TLSLD_MOVW_DTPREL_G1_NC =
    with_row 525 (codes "R_AARCH64_TLSLD_MOVW_DTPREL_G1_NC") (insn_row DtpOff 16 32 Movkz)
aarch64_relocation r.R_AARCH64_TLSLD_MOVW_DTPREL_G0 =
    with_row 526 (codes "R_AARCH64_TLSLD_MOVW_DTPREL_G0") (insn_row DtpOff 0 16 Movnz)
aarch64_relocation r.R_AARCH64_TLSLD_MOVW_DTPREL_G0_NC =
    with_row 527 (codes "R_AARCH64_TLSLD_MOVW_DTPREL_G0_NC") (insn_row DtpOff 0 16 Movkz)
aarch64_relocation r.R_AARCH64_TLSLD_ADD_DTPREL_HI12 =
    with_row 528 (codes "R_AARCH64_TLSLD_ADD_DTPREL_HI12")
    (unsigned_row 24 (insn_row DtpOff 12 24 Add))
aarch64_relocation r.R_AARCH64_TLSLD_ADD_DTPREL_LO12 =
    with_row 529 (codes "R_AARCH64_TLSLD_ADD_DTPREL_LO12")
    (unsigned_row 12 (insn_row DtpOff 0 12 Add))
aarch64_relocation r.R_AARCH64_TLSLD_ADD_DTPREL_LO12_NC =
    with_row 530 (codes "R_AARCH64_TLSLD_ADD_DTPREL_LO12_NC") (insn_row DtpOff 0 12 Add)
aarch64_relocation r.R_AARCH64_TLSLD_LDST8_DTPREL_LO12 =
    with_row 531 (codes "R_AARCH64_TLSLD_LDST8_DTPREL_LO12")
    (unsigned_row 12 (insn_row DtpOff 0 12 LdSt))
aarch64_relocation r.R_AARCH64_TLSLD_LDST8_DTPREL_LO12_NC =
    with_row 532 (codes "R_AARCH64_TLSLD_LDST8_DTPREL_LO12_NC") (insn_row DtpOff 0 12 LdSt)
aarch64_relocation r.R_AARCH64_TLSLD_LDST16_DTPREL_LO12 =
    with_row 533 (codes "R_AARCH64_TLSLD_LDST16_DTPREL_LO12")
    (aligned_row 2 (unsigned_row 12 (insn_row DtpOff 1 12 LdSt)))
aarch64_relocation r.R_AARCH64_TLSLD_LDST16_DTPREL_LO12_NC =
    with_row 534 (codes "R_AARCH64_TLSLD_LDST16_DTPREL_LO12_NC")
    (aligned_row 2 (insn_row DtpOff 1 12 LdSt))
aarch64_relocation r.R_AARCH64_TLSLD_LDST32_DTPREL_LO12 =
    with_row 535 (codes "R_AARCH64_TLSLD_LDST32_DTPREL_LO12")
    (aligned_row 4 (unsigned_row 12 (insn_row DtpOff 2 12 LdSt)))
aarch64_relocation r.R_AARCH64_TLSLD_LDST32_DTPREL_LO12_NC =
    with_row 536 (codes "R_AARCH64_TLSLD_LDST32_DTPREL_LO12_NC")
    (aligned_row 4 (insn_row DtpOff 2 12 LdSt))
aarch64_relocation r.R_AARCH64_TLSLD_LDST64_DTPREL_LO12 =
    with_row 537 (codes "R_AARCH64_TLSLD_LDST64_DTPREL_LO12")
    (aligned_row 8 (unsigned_row 12 (insn_row DtpOff 3 12 LdSt)))
aarch64_relocation r.R_AARCH64_TLSLD_LDST64_DTPREL_LO12_NC =
    with_row 538 (codes "R_AARCH64_TLSLD_LDST64_DTPREL_LO12_NC")
    (aligned_row 8 (insn_row DtpOff 3 12 LdSt))
aarch64_relocation r.R_AARCH64_TLSIE_MOVW_GOTTPREL_G1 =
    with_row 539 (codes "R_AARCH64_TLSIE_MOVW_GOTTPREL_G1") (insn_row GotTpOffGotBase 16 32 Movnz)
aarch64_relocation r.R_AARCH64_TLSIE_MOVW_GOTTPREL_G0_NC =
    with_row 540 (codes "R_AARCH64_TLSIE_MOVW_GOTTPREL_G0_NC") (insn_row GotTpOffGotBase 0 16 Movkz)
aarch64_relocation r.R_AARCH64_TLSIE_ADR_GOTTPREL_PAGE21 =
    with_row 541 (codes "R_AARCH64_TLSIE_ADR_GOTTPREL_PAGE21")
    (paged_row entry_pages (signed_row 33 (insn_row GotTpOff 12 33 Adr)))
aarch64_relocation r.R_AARCH64_TLSIE_LD64_GOTTPREL_LO12_NC =
    with_row 542 (codes "R_AARCH64_TLSIE_LD64_GOTTPREL_LO12_NC")
    (aligned_row 8 (insn_row GotTpOffGot 3 12 LdrRegister))
aarch64_relocation r.R_AARCH64_TLSIE_LD_GOTTPREL_PREL19 =
    with_row 543 (codes "R_AARCH64_TLSIE_LD_GOTTPREL_PREL19")
    (aligned_row 4 (signed_row 21 (insn_row GotTpOff 2 21 Ldr)))
aarch64_relocation r.R_AARCH64_TLSLE_MOVW_TPREL_G2 =
    with_row 544 (codes "R_AARCH64_TLSLE_MOVW_TPREL_G2") (insn_row TpOff 32 48 Movnz)
aarch64_relocation r.R_AARCH64_TLSLE_MOVW_TPREL_G1 =
    with_row 545 (codes "R_AARCH64_TLSLE_MOVW_TPREL_G1") (insn_row TpOff 16 32 Movnz)
aarch64_relocation r.R_AARCH64_TLSLE_MOVW_TPREL_G1_NC =
    with_row 546 (codes "R_AARCH64_TLSLE_MOVW_TPREL_G1_NC") (insn_row TpOff 16 32 Movkz)
aarch64_relocation r.R_AARCH64_TLSLE_MOVW_TPREL_G0 =
    with_row 547 (codes "R_AARCH64_TLSLE_MOVW_TPREL_G0") (insn_row TpOff 0 16 Movnz)
aarch64_relocation r.R_AARCH64_TLSLE_MOVW_TPREL_G0_NC =
    with_row 548 (codes "R_AARCH64_TLSLE_MOVW_TPREL_G0_NC") (insn_row TpOff 0 16 Movkz)
aarch64_relocation r.R_AARCH64_TLSLE_ADD_TPREL_HI12 =
    with_row 549 (codes "R_AARCH64_TLSLE_ADD_TPREL_HI12")
    (unsigned_row 24 (insn_row TpOff 12 24 Add))
aarch64_relocation r.R_AARCH64_TLSLE_ADD_TPREL_LO12 =
    with_row 550 (codes "R_AARCH64_TLSLE_ADD_TPREL_LO12")
    (unsigned_row 12 (insn_row TpOff 0 12 Add))
aarch64_relocation r.R_AARCH64_TLSLE_ADD_TPREL_LO12_NC =
    with_row 551 (codes "R_AARCH64_TLSLE_ADD_TPREL_LO12_NC") (insn_row TpOff 0 12 Add)
aarch64_relocation r.R_AARCH64_TLSLE_LDST8_TPREL_LO12 =
    with_row 552 (codes "R_AARCH64_TLSLE_LDST8_TPREL_LO12")
    (unsigned_row 12 (insn_row TpOff 0 12 LdSt))
aarch64_relocation r.R_AARCH64_TLSLE_LDST8_TPREL_LO12_NC =
    with_row 553 (codes "R_AARCH64_TLSLE_LDST8_TPREL_LO12_NC") (insn_row TpOff 0 12 LdSt)
aarch64_relocation r.R_AARCH64_TLSLE_LDST16_TPREL_LO12 =
    with_row 554 (codes "R_AARCH64_TLSLE_LDST16_TPREL_LO12")
    (aligned_row 2 (unsigned_row 12 (insn_row TpOff 1 12 LdSt)))
aarch64_relocation r.R_AARCH64_TLSLE_LDST16_TPREL_LO12_NC =
    with_row 555 (codes "R_AARCH64_TLSLE_LDST16_TPREL_LO12_NC")
    (aligned_row 2 (insn_row TpOff 1 12 LdSt))
aarch64_relocation r.R_AARCH64_TLSLE_LDST32_TPREL_LO12 =
    with_row 556 (codes "R_AARCH64_TLSLE_LDST32_TPREL_LO12")
    (aligned_row 4 (unsigned_row 12 (insn_row TpOff 2 12 LdSt)))
aarch64_relocation r.R_AARCH64_TLSLE_LDST32_TPREL_LO12_NC =
    with_row 557 (codes "R_AARCH64_TLSLE_LDST32_TPREL_LO12_NC")
    (aligned_row 4 (insn_row TpOff 2 12 LdSt))
aarch64_relocation r.R_AARCH64_TLSLE_LDST64_TPREL_LO12 =
    with_row 558 (codes "R_AARCH64_TLSLE_LDST64_TPREL_LO12")
    (aligned_row 8 (unsigned_row 12 (insn_row TpOff 3 12 LdSt)))
aarch64_relocation r.R_AARCH64_TLSLE_LDST64_TPREL_LO12_NC =
    with_row 559 (codes "R_AARCH64_TLSLE_LDST64_TPREL_LO12_NC")
    (aligned_row 8 (insn_row TpOff 3 12 LdSt))
aarch64_relocation r.R_AARCH64_TLSDESC_LD_PREL19 =
    with_row 560 (codes "R_AARCH64_TLSDESC_LD_PREL19")
    (aligned_row 4 (signed_row 21 (insn_row TlsDesc 2 21 Ldr)))
aarch64_relocation r.R_AARCH64_TLSDESC_ADR_PREL21 =
    with_row 561 (codes "R_AARCH64_TLSDESC_ADR_PREL21") (signed_row 21 (insn_row TlsDesc 0 21 Adr))
aarch64_relocation r.R_AARCH64_TLSDESC_ADR_PAGE21 =
    with_row 562 (codes "R_AARCH64_TLSDESC_ADR_PAGE21")
    (paged_row entry_pages (signed_row 33 (insn_row TlsDesc 12 33 Adr)))
aarch64_relocation r.R_AARCH64_TLSDESC_LD64_LO12 =
    with_row 563 (codes "R_AARCH64_TLSDESC_LD64_LO12")
    (aligned_row 8 (insn_row TlsDescGot 3 12 LdrRegister))
aarch64_relocation r.R_AARCH64_TLSDESC_ADD_LO12 =
    with_row 564 (codes "R_AARCH64_TLSDESC_ADD_LO12") (insn_row TlsDescGot 0 12 Add)
aarch64_relocation r.R_AARCH64_TLSDESC_OFF_G1 =
    with_row 565 (codes "R_AARCH64_TLSDESC_OFF_G1")
    (signed_row 33 (insn_row TlsDescGotBase 16 32 Movnz))
aarch64_relocation r.R_AARCH64_TLSDESC_OFF_G0_NC =
    with_row 566 (codes "R_AARCH64_TLSDESC_OFF_G0_NC") (insn_row TlsDescGotBase 0 16 Movkz)
aarch64_relocation r.R_AARCH64_TLSDESC_CALL =
    with_row 569 (codes "R_AARCH64_TLSDESC_CALL") (bytes_row TlsDescCall 0)
aarch64_relocation r.R_AARCH64_TLSLE_LDST128_TPREL_LO12 =
    with_row 570 (codes "R_AARCH64_TLSLE_LDST128_TPREL_LO12")
    (aligned_row 16 (unsigned_row 12 (insn_row TpOff 4 12 LdSt)))
aarch64_relocation r.R_AARCH64_TLSLE_LDST128_TPREL_LO12_NC =
    with_row 571 (codes "R_AARCH64_TLSLE_LDST128_TPREL_LO12_NC")
    (aligned_row 16 (insn_row TpOff 4 12 LdSt))
aarch64_relocation r.R_AARCH64_TLSLD_LDST128_DTPREL_LO12 =
    with_row 572 (codes "R_AARCH64_TLSLD_LDST128_DTPREL_LO12")
    (aligned_row 16 (unsigned_row 12 (insn_row DtpOff 4 12 LdSt)))
aarch64_relocation r.R_AARCH64_TLSLD_LDST128_DTPREL_LO12_NC =
    with_row 573 (codes "R_AARCH64_TLSLD_LDST128_DTPREL_LO12_NC")
    (aligned_row 16 (insn_row DtpOff 4 12 LdSt))
aarch64_relocation (r.Other r_type) = unnamed_relocation r_type

abbrev pub aarch64_name : AArch64Relocation → ElfName
aarch64_name name = (aarch64_relocation name).name

-- what a relocation means, and none where it isn't known
abbrev pub aarch64_row : AArch64Relocation → Option RowInfo
aarch64_row name = (aarch64_relocation name).row
