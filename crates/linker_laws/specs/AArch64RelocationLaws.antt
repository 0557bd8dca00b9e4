-- AArch64: what relocated instructions compute (ELF for the Arm 64-bit Architecture, "Relocation";
-- Arm Architecture Reference Manual for A-profile, DDI 0487, C6.2).
use Rattle.std.specs.Prelude.{ℕ, List, [], ◌∷◌, map, length, ℤ, pos, ◌+◌, ◌*◌, ◌+ℤ◌, ◌-ℤ◌, ◌*ℤ◌}
use Rattle.std.specs.Prelude.{◌^◌, ◌==◌, ◌&&◌, not}
use Rattle.linker_laws.specs.Imports.{Add, Adr, Bcond, JumpCall, LdSt, Ldr, LdrRegister, Movkz}
use Rattle.linker_laws.specs.Imports.{Movnz, Operands, TstBr, bit_at, int_rem_euclid, is_movk, page}
use Rattle.linker_elf.specs.declared.aarch64.relocations.AArch64Relocation.{AArch64Relocation}
use Rattle.linker_elf.specs.declared.elf.Sign.TheVariants.{Signed}
use Rattle.linker_elf.specs.AArch64Relocations.{aarch64_row}
use Rattle.linker_elf.specs.AArch64.{aarch64_form, shift_of}
use Rattle.linker_elf.specs.declared.aarch64.forms.AArch64Instruction.{AArch64Instruction}
use Rattle.linker_elf.specs.declared.aarch64.relocations.AArch64Relocation.TheVariants as names
use Rattle.linker_laws.specs.Schemes.{entry_and_addend, HoldsDistance, Step, Computed, here}
use Rattle.linker_laws.specs.Schemes.{anywhere, moved_on, of_bits, of_words, Law, Adds}
use Rattle.linker_laws.specs.Schemes.{symbol_address, plt_address, entry_address, zero, place}
use Rattle.linker_laws.specs.Schemes.{got_base, tls_base}

abbrev pub row_here : AArch64Relocation → Step
row_here name = here (aarch64_row name)

abbrev pub row_anywhere : AArch64Relocation → Step
row_anywhere name = anywhere (aarch64_row name)

-- ---- a page and an offset in it ("ADRP", "ADD (immediate)", "LDR (immediate)", "STR (immediate)")

-- ADRP adds its immediate, in pages, to the page of its own address. ADD adds its own to that, and
-- a load or a store, whose unsigned offset is in units of n bytes, adds that.
abbrev pub page_and_offset : AArch64Instruction → ℕ → Operands → ℕ → ℕ → ℤ
page_and_offset f unit o x y =
    (pos (page o.place) +ℤ ((aarch64_form Adr).machine x *ℤ pos 4096))
    +ℤ ((aarch64_form f).machine y *ℤ pos unit)

abbrev pub PageAndOffset : Step → AArch64Relocation → AArch64Instruction → ℕ → (Operands → ℕ)
    → Type 0
PageAndOffset high low f unit target =
    Law (high ∷ row_anywhere low ∷ []) (page_and_offset f unit) target

-- ADD, and loads and stores of 1 to 16 bytes
abbrev pub OfSizes : (AArch64Relocation → AArch64Instruction → ℕ → Type 0)
    → (add n1 n2 n4 n8 n16 : AArch64Relocation) → Type 0
OfSizes Holds add n1 n2 n4 n8 n16 =
    Holds add Add 1 × Holds n1 LdSt 1 × Holds n2 LdSt 2 × Holds n4 LdSt 4 × Holds n8 LdSt 8
    × Holds n16 LdSt 16

-- a page with them
abbrev pub OfPage : Step → Type 0
OfPage high =
    OfSizes (λ low f unit. PageAndOffset high low f unit symbol_address)
    names.R_AARCH64_ADD_ABS_LO12_NC names.R_AARCH64_LDST8_ABS_LO12_NC
    names.R_AARCH64_LDST16_ABS_LO12_NC names.R_AARCH64_LDST32_ABS_LO12_NC
    names.R_AARCH64_LDST64_ABS_LO12_NC names.R_AARCH64_LDST128_ABS_LO12_NC

-- The value of the second page, which nothing else checks, is a number of 33 bits.
abbrev pub RelativeAddresses : Type 0
RelativeAddresses =
    OfPage (row_here names.R_AARCH64_ADR_PREL_PG_HI21)
    × OfPage (of_bits 33 Signed (row_here names.R_AARCH64_ADR_PREL_PG_HI21_NC))

abbrev pub Entry : AArch64Relocation → AArch64Relocation → AArch64Instruction → ℕ → Type 0
Entry high low f unit = PageAndOffset (row_here high) low f unit entry_address

abbrev pub EntryAddresses : Type 0
EntryAddresses =
    Entry names.R_AARCH64_ADR_GOT_PAGE names.R_AARCH64_LD64_GOT_LO12_NC LdSt 8
    × Entry names.R_AARCH64_TLSGD_ADR_PAGE21 names.R_AARCH64_TLSGD_ADD_LO12_NC Add 1
    × Entry names.R_AARCH64_TLSLD_ADR_PAGE21 names.R_AARCH64_TLSLD_ADD_LO12_NC Add 1
    × Entry names.R_AARCH64_TLSIE_ADR_GOTTPREL_PAGE21 names.R_AARCH64_TLSIE_LD64_GOTTPREL_LO12_NC
    LdrRegister 8
    × Entry names.R_AARCH64_TLSDESC_ADR_PAGE21 names.R_AARCH64_TLSDESC_LD64_LO12 LdrRegister 8
    × Entry names.R_AARCH64_TLSDESC_ADR_PAGE21 names.R_AARCH64_TLSDESC_ADD_LO12 Add 1

-- ---- offsets of TLS ("ADD (immediate)", with its immediate shifted by 12 bits or not)

-- ADD of the immediate times 4096 to the thread pointer, or to the address of the module's block,
-- and an instruction with the low bits
abbrev pub HighAndLow : AArch64Relocation → AArch64Relocation → AArch64Instruction → ℕ → Type 0
HighAndLow high low f unit =
    Law (row_here high ∷ row_anywhere low ∷ [])
    (λ o x y. (pos o.tls_base +ℤ ((aarch64_form Add).machine x *ℤ pos 4096))
    +ℤ ((aarch64_form f).machine y *ℤ pos unit))
    symbol_address

abbrev pub Offset : AArch64Relocation → AArch64Instruction → ℕ → Type 0
Offset name f unit =
    Adds (row_here name) tls_base (aarch64_form f).machine unit symbol_address

abbrev pub ThreadAddresses : Type 0
ThreadAddresses =
    OfSizes (HighAndLow names.R_AARCH64_TLSLE_ADD_TPREL_HI12)
    names.R_AARCH64_TLSLE_ADD_TPREL_LO12_NC names.R_AARCH64_TLSLE_LDST8_TPREL_LO12_NC
    names.R_AARCH64_TLSLE_LDST16_TPREL_LO12_NC names.R_AARCH64_TLSLE_LDST32_TPREL_LO12_NC
    names.R_AARCH64_TLSLE_LDST64_TPREL_LO12_NC names.R_AARCH64_TLSLE_LDST128_TPREL_LO12_NC
    × OfSizes Offset names.R_AARCH64_TLSLE_ADD_TPREL_LO12 names.R_AARCH64_TLSLE_LDST8_TPREL_LO12
    names.R_AARCH64_TLSLE_LDST16_TPREL_LO12 names.R_AARCH64_TLSLE_LDST32_TPREL_LO12
    names.R_AARCH64_TLSLE_LDST64_TPREL_LO12 names.R_AARCH64_TLSLE_LDST128_TPREL_LO12

abbrev pub ModuleAddresses : Type 0
ModuleAddresses =
    OfSizes (HighAndLow names.R_AARCH64_TLSLD_ADD_DTPREL_HI12)
    names.R_AARCH64_TLSLD_ADD_DTPREL_LO12_NC names.R_AARCH64_TLSLD_LDST8_DTPREL_LO12_NC
    names.R_AARCH64_TLSLD_LDST16_DTPREL_LO12_NC names.R_AARCH64_TLSLD_LDST32_DTPREL_LO12_NC
    names.R_AARCH64_TLSLD_LDST64_DTPREL_LO12_NC names.R_AARCH64_TLSLD_LDST128_DTPREL_LO12_NC
    × OfSizes Offset names.R_AARCH64_TLSLD_ADD_DTPREL_LO12 names.R_AARCH64_TLSLD_LDST8_DTPREL_LO12
    names.R_AARCH64_TLSLD_LDST16_DTPREL_LO12 names.R_AARCH64_TLSLD_LDST32_DTPREL_LO12
    names.R_AARCH64_TLSLD_LDST64_DTPREL_LO12 names.R_AARCH64_TLSLD_LDST128_DTPREL_LO12

-- ---- one instruction ("ADR", "LDR (literal)", "B", "BL", "B.cond", "CBZ", "TBZ")

abbrev pub Single : AArch64Relocation → AArch64Instruction → ℕ → (Operands → ℕ) → Type 0
Single name f unit target = Adds (row_here name) place (aarch64_form f).machine unit target

abbrev pub Branches : Type 0
Branches =
    Single names.R_AARCH64_CALL26 JumpCall 4 plt_address
    × Single names.R_AARCH64_JUMP26 JumpCall 4 plt_address
    × Single names.R_AARCH64_CONDBR19 Bcond 4 symbol_address
    × Single names.R_AARCH64_TSTBR14 TstBr 4 symbol_address

abbrev pub Literals : Type 0
Literals =
    Single names.R_AARCH64_ADR_PREL_LO21 Adr 1 symbol_address
    × Single names.R_AARCH64_LD_PREL_LO19 Ldr 4 symbol_address
    × Single names.R_AARCH64_GOT_LD_PREL19 Ldr 4 entry_address
    × Single names.R_AARCH64_TLSGD_ADR_PREL21 Adr 1 entry_address
    × Single names.R_AARCH64_TLSLD_ADR_PREL21 Adr 1 entry_address
    × Single names.R_AARCH64_TLSLD_LD_PREL19 Ldr 4 entry_address
    × Single names.R_AARCH64_TLSIE_LD_GOTTPREL_PREL19 Ldr 4 entry_address
    × Single names.R_AARCH64_TLSDESC_ADR_PREL21 Adr 1 entry_address
    × Single names.R_AARCH64_TLSDESC_LD_PREL19 Ldr 4 entry_address

-- ---- offsets from the GOT, and from its page

abbrev pub got_page : Operands → ℕ
got_page o = page o.got_base

abbrev pub GotOffsets : Type 0
GotOffsets =
    Adds (row_here names.R_AARCH64_LD64_GOTOFF_LO15) got_base (aarch64_form LdSt).machine 8
    entry_address
    × Adds (row_here names.R_AARCH64_LD64_GOTPAGE_LO15) got_page (aarch64_form LdSt).machine 8
    entry_address

-- ---- moves of 16 bits ("MOVZ", "MOVN", "MOVK")

-- MOVZ by a shift
abbrev pub movz : ℕ → ℕ → ℤ
movz shift word = (aarch64_form Movkz).machine word *ℤ pos (2 ^ shift)

-- MOVN or MOVZ by the shift that the word has
abbrev pub movn_or_movz : ℕ → ℤ
movn_or_movz word = (aarch64_form Movnz).machine word

-- MOVK by a shift replaces 16 bits of a number: what is above them, they, and what is below
abbrev pub movk : ℕ → ℤ → ℕ → ℤ
movk shift v word =
    ((v -ℤ int_rem_euclid v (pos (2 ^ (shift + 16))))
    +ℤ ((aarch64_form Movkz).machine word *ℤ pos (2 ^ shift)))
    +ℤ int_rem_euclid v (pos (2 ^ shift))

-- a sum with a number, after the moves of the 16 bits below those that were moved
abbrev pub after_moves : ℕ → ℤ → (steps : List Step) → Computed steps
after_moves begin v [] = pos begin +ℤ v
after_moves begin v (step ∷ steps) =
    λ word. after_moves begin (movk (16 * length steps) v word) steps

-- The first move, by its shift, and the `movk` of each 16 bits below compute the target.
abbrev pub Moves : (begin target : Operands → ℕ) → (ℕ → ℕ → ℤ) → (ℕ → AArch64Relocation → Step)
    → (List AArch64Relocation → List Step) → AArch64Relocation → List AArch64Relocation → Type 0
Moves begin target move first rest name below =
    let shift = 16 * length below in
    Law (first shift name ∷ rest below)
    (λ o x. after_moves (begin o) (move shift x) (rest below)) target

-- moves of the first, the second and the third 16 bits, each with the moves of those below
abbrev pub OfThree : (AArch64Relocation → List AArch64Relocation → Type 0)
    → (g2 g1 g1_nc g0 g0_nc : AArch64Relocation) → Type 0
OfThree Move g2 g1 g1_nc g0 g0_nc =
    Move g0 [] × Move g1 (g0_nc ∷ []) × Move g2 (g1_nc ∷ g0_nc ∷ [])

abbrev pub UnsignedMove : AArch64Relocation → List AArch64Relocation → Type 0
UnsignedMove = Moves zero symbol_address movz (λ shift. row_here) (map row_anywhere)

abbrev pub UnsignedMoves : Type 0
UnsignedMoves =
    UnsignedMove names.R_AARCH64_MOVW_UABS_G0 []
    × UnsignedMove names.R_AARCH64_MOVW_UABS_G1 (names.R_AARCH64_MOVW_UABS_G0_NC ∷ [])
    × UnsignedMove names.R_AARCH64_MOVW_UABS_G2
    (names.R_AARCH64_MOVW_UABS_G1_NC ∷ names.R_AARCH64_MOVW_UABS_G0_NC ∷ [])
    × UnsignedMove names.R_AARCH64_MOVW_UABS_G3
    (names.R_AARCH64_MOVW_UABS_G2_NC ∷ names.R_AARCH64_MOVW_UABS_G1_NC
    ∷ names.R_AARCH64_MOVW_UABS_G0_NC ∷ [])

-- The move is one of 64 bits and no MOVK, and its shift is that of the 16 bits.
abbrev pub signed_move : ℕ → AArch64Relocation → Step
signed_move shift name =
    record (row_here name) {
      premise = of_words (λ x. (shift_of x == shift && bit_at x 31 == 1) && not (is_movk x));
    }

abbrev pub SignedMove : (begin target : Operands → ℕ) → AArch64Relocation → List AArch64Relocation
    → Type 0
SignedMove begin target =
    Moves begin target (λ shift. movn_or_movz) signed_move (map row_anywhere)

abbrev pub SignedMoves : Type 0
SignedMoves =
    OfThree (SignedMove zero symbol_address) names.R_AARCH64_MOVW_SABS_G2
    names.R_AARCH64_MOVW_SABS_G1 names.R_AARCH64_MOVW_UABS_G1_NC names.R_AARCH64_MOVW_SABS_G0
    names.R_AARCH64_MOVW_UABS_G0_NC

-- moves each 4 bytes after the one before
abbrev pub from_place : ℕ → List AArch64Relocation → List Step
from_place n [] = []
from_place n (name ∷ rest) = moved_on n (aarch64_row name) ∷ from_place (n + 4) rest

abbrev pub RelativeMove : AArch64Relocation → List AArch64Relocation → Type 0
RelativeMove = Moves place symbol_address (λ shift. movn_or_movz) signed_move (from_place 4)

abbrev pub RelativeMoves : Type 0
RelativeMoves =
    RelativeMove names.R_AARCH64_MOVW_PREL_G0 []
    × RelativeMove names.R_AARCH64_MOVW_PREL_G1 (names.R_AARCH64_MOVW_PREL_G0_NC ∷ [])
    × RelativeMove names.R_AARCH64_MOVW_PREL_G2
    (names.R_AARCH64_MOVW_PREL_G1_NC ∷ names.R_AARCH64_MOVW_PREL_G0_NC ∷ [])
    × RelativeMove names.R_AARCH64_MOVW_PREL_G3
    (names.R_AARCH64_MOVW_PREL_G2_NC ∷ names.R_AARCH64_MOVW_PREL_G1_NC
    ∷ names.R_AARCH64_MOVW_PREL_G0_NC ∷ [])

-- offsets from the GOT
abbrev pub GotMove : AArch64Relocation → List AArch64Relocation → Type 0
GotMove = SignedMove got_base entry_address

abbrev pub GotMoves : Type 0
GotMoves =
    GotMove names.R_AARCH64_MOVW_GOTOFF_G0 []
    × GotMove names.R_AARCH64_MOVW_GOTOFF_G1 (names.R_AARCH64_MOVW_GOTOFF_G0_NC ∷ [])
    × GotMove names.R_AARCH64_MOVW_GOTOFF_G2
    (names.R_AARCH64_MOVW_GOTOFF_G1_NC ∷ names.R_AARCH64_MOVW_GOTOFF_G0_NC ∷ [])
    × GotMove names.R_AARCH64_MOVW_GOTOFF_G3
    (names.R_AARCH64_MOVW_GOTOFF_G2_NC ∷ names.R_AARCH64_MOVW_GOTOFF_G1_NC
    ∷ names.R_AARCH64_MOVW_GOTOFF_G0_NC ∷ [])
    × GotMove names.R_AARCH64_TLSGD_MOVW_G1 (names.R_AARCH64_TLSGD_MOVW_G0_NC ∷ [])
    × GotMove names.R_AARCH64_TLSLD_MOVW_G1 (names.R_AARCH64_TLSLD_MOVW_G0_NC ∷ [])
    × GotMove names.R_AARCH64_TLSIE_MOVW_GOTTPREL_G1
    (names.R_AARCH64_TLSIE_MOVW_GOTTPREL_G0_NC ∷ [])
    × GotMove names.R_AARCH64_TLSDESC_OFF_G1 (names.R_AARCH64_TLSDESC_OFF_G0_NC ∷ [])

-- offsets of TLS
abbrev pub ThreadMoves : Type 0
ThreadMoves =
    OfThree (SignedMove tls_base symbol_address) names.R_AARCH64_TLSLE_MOVW_TPREL_G2
    names.R_AARCH64_TLSLE_MOVW_TPREL_G1 names.R_AARCH64_TLSLE_MOVW_TPREL_G1_NC
    names.R_AARCH64_TLSLE_MOVW_TPREL_G0 names.R_AARCH64_TLSLE_MOVW_TPREL_G0_NC
    × OfThree (SignedMove tls_base symbol_address) names.R_AARCH64_TLSLD_MOVW_DTPREL_G2
    names.R_AARCH64_TLSLD_MOVW_DTPREL_G1 names.R_AARCH64_TLSLD_MOVW_DTPREL_G1_NC
    names.R_AARCH64_TLSLD_MOVW_DTPREL_G0 names.R_AARCH64_TLSLD_MOVW_DTPREL_G0_NC

-- ---- fields of data

abbrev pub Fields : Type 0
Fields =
    HoldsDistance 8 (aarch64_row names.R_AARCH64_ABS64) zero symbol_address
    × HoldsDistance 4 (aarch64_row names.R_AARCH64_ABS32) zero symbol_address
    × HoldsDistance 2 (aarch64_row names.R_AARCH64_ABS16) zero symbol_address
    × HoldsDistance 8 (aarch64_row names.R_AARCH64_PREL64) place symbol_address
    × HoldsDistance 4 (aarch64_row names.R_AARCH64_PREL32) place symbol_address
    × HoldsDistance 2 (aarch64_row names.R_AARCH64_PREL16) place symbol_address
    × HoldsDistance 4 (aarch64_row names.R_AARCH64_PLT32) place plt_address
    × HoldsDistance 8 (aarch64_row names.R_AARCH64_GOTREL64) got_base symbol_address
    × HoldsDistance 4 (aarch64_row names.R_AARCH64_GOTREL32) got_base symbol_address
    × HoldsDistance 4 (aarch64_row names.R_AARCH64_GOTPCREL32) place entry_and_addend
