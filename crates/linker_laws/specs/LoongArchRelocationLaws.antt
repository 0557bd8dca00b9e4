-- LoongArch: what relocated instructions compute (LoongArch ELF psABI, "Relocation Types";
-- LoongArch Reference Manual, volume 1).
use Rattle.std.specs.Prelude.{ℕ, [], ◌∷◌, ℤ, pos, ◌+◌, ◌*◌, ◌+ℤ◌, ◌*ℤ◌, ◌^◌, not}
use Rattle.linker_laws.specs.Imports.{Branch21, Branch26, Operands, Shift10, Shift5, field}
use Rattle.linker_laws.specs.Imports.{int_rem_euclid, is_jirl, loongarch_form, loongarch_row}
use Rattle.linker_laws.specs.Imports.{pcalau12i, reach, signed, upper_and_lower_value}
use Rattle.linker_elf.specs.declared.loongarch64.relocations.LoongArch64Relocation.{LoongArch64Relocation}
use Rattle.linker_elf.specs.declared.elf.Sign.TheVariants.{Signed}
use Rattle.linker_elf.specs.declared.loongarch64.forms.LoongArch64Instruction.{LoongArch64Instruction}
use Rattle.linker_elf.specs.declared.loongarch64.relocations.LoongArch64Relocation.TheVariants as names
use Rattle.linker_laws.specs.Schemes.{Adds, AddsDistance, AddsDistance6, HoldsDistance, Law, Step}
use Rattle.linker_laws.specs.Schemes.{anywhere, entry_and_addend, here, next, of_bits, of_words}
use Rattle.linker_laws.specs.Schemes.{place, plt_address, symbol_address, tls_base, without_low}
use Rattle.linker_laws.specs.Schemes.{zero}

abbrev pub row_here : LoongArch64Relocation → Step
row_here name = here (loongarch_row name)

abbrev pub row_anywhere : LoongArch64Relocation → Step
row_anywhere name = anywhere (loongarch_row name)

-- ---- addresses in 32 bits around the place ("PCALAU12I", "ADDI.D")

-- `pcalau12i`, and an instruction that adds its 12 bits in two's complement
abbrev pub page_and_low : Operands → ℕ → ℕ → ℤ
page_and_low o x y = pcalau12i o.place x +ℤ signed 12 (field y 10 22)

-- The first value, which nothing else checks, is a number of 32 bits.
abbrev pub PageAndLow : LoongArch64Relocation → Step → (Operands → ℕ) → Type 0
PageAndLow high low target = Law (of_bits 32 Signed (row_here high) ∷ low ∷ []) page_and_low target

abbrev pub PageOfEntry : (high low : LoongArch64Relocation) → Type 0
PageOfEntry high low = PageAndLow high (row_anywhere low) entry_and_addend

-- the low part of an instruction that is no `jirl`
abbrev pub no_jump : Step → Step
no_jump step = record step { premise = of_words (λ x. not (is_jirl x)) }

abbrev pub RelativeAddresses : Type 0
RelativeAddresses =
    PageAndLow names.R_LARCH_PCALA_HI20 (no_jump (row_anywhere names.R_LARCH_PCALA_LO12))
    symbol_address
    × PageOfEntry names.R_LARCH_GOT_PC_HI20 names.R_LARCH_GOT_PC_LO12
    × PageOfEntry names.R_LARCH_TLS_LD_PC_HI20 names.R_LARCH_GOT_PC_LO12
    × PageOfEntry names.R_LARCH_TLS_GD_PC_HI20 names.R_LARCH_GOT_PC_LO12
    × PageOfEntry names.R_LARCH_TLS_IE_PC_HI20 names.R_LARCH_TLS_IE_PC_LO12
    × PageOfEntry names.R_LARCH_TLS_DESC_PC_HI20 names.R_LARCH_TLS_DESC_PC_LO12

-- `pcalau12i`, and a `jirl` that jumps by its 16 bits in two's complement, in units of 4 bytes
-- ("JIRL")
abbrev pub PageJumps : Type 0
PageJumps =
    Law
    (of_bits 32 Signed (row_here names.R_LARCH_PCALA_HI20)
    ∷ record (row_anywhere names.R_LARCH_PCALA_LO12) { premise = of_words is_jirl } ∷ [])
    (λ o x y. pcalau12i o.place x +ℤ ((loongarch_form Shift10).machine y *ℤ pos 4)) symbol_address

-- ---- addresses in 64 bits ("LU32I.D", "LU52I.D"; psABI, "Extreme code model")

-- `pcalau12i`, and what `addi.d` from zero, `lu32i.d` and `lu52i.d` make, added to that. Each
-- stands 4 bytes after the one before.
abbrev pub five : Operands → ℕ → ℕ → ℕ → ℕ → ℤ
five o x y z u = pcalau12i o.place x +ℤ upper_and_lower_value y z u

abbrev pub Five : LoongArch64Relocation → Step → LoongArch64Relocation → LoongArch64Relocation
    → (Operands → ℕ) → Type 0
Five hi20 lo12 lo20 hi12 target =
    Law
    (row_here hi20 ∷ lo12 ∷ next 8 (loongarch_row lo20)
    ∷ next 12 (loongarch_row hi12) ∷ []) five target

-- the second of the instructions
abbrev pub low_next : LoongArch64Relocation → Step
low_next name = next 4 (loongarch_row name)

abbrev pub FarAddresses : Type 0
FarAddresses =
    Five names.R_LARCH_PCALA_HI20 (no_jump (low_next names.R_LARCH_PCALA_LO12))
    names.R_LARCH_PCALA64_LO20 names.R_LARCH_PCALA64_HI12 symbol_address
    × Five names.R_LARCH_GOT_PC_HI20 (low_next names.R_LARCH_GOT_PC_LO12)
    names.R_LARCH_GOT64_PC_LO20 names.R_LARCH_GOT64_PC_HI12 entry_and_addend
    × Five names.R_LARCH_TLS_LD_PC_HI20 (low_next names.R_LARCH_GOT_PC_LO12)
    names.R_LARCH_GOT64_PC_LO20 names.R_LARCH_GOT64_PC_HI12 entry_and_addend
    × Five names.R_LARCH_TLS_GD_PC_HI20 (low_next names.R_LARCH_GOT_PC_LO12)
    names.R_LARCH_GOT64_PC_LO20 names.R_LARCH_GOT64_PC_HI12 entry_and_addend
    × Five names.R_LARCH_TLS_IE_PC_HI20 (low_next names.R_LARCH_TLS_IE_PC_LO12)
    names.R_LARCH_TLS_IE64_PC_LO20 names.R_LARCH_TLS_IE64_PC_HI12 entry_and_addend
    × Five names.R_LARCH_TLS_DESC_PC_HI20 (low_next names.R_LARCH_TLS_DESC_PC_LO12)
    names.R_LARCH_TLS_DESC64_PC_LO20 names.R_LARCH_TLS_DESC64_PC_HI12 entry_and_addend

-- ---- numbers by parts ("LU12I.W", "ORI")

-- `lu12i.w` and `ori` make a number of 32 bits in two's complement.
abbrev pub upper_and_or : ℕ → ℕ → ℤ
upper_and_or x y = (signed 20 (field x 5 25) *ℤ pos 4096) +ℤ pos (field y 10 22)

-- `lu32i.d` and `lu52i.d` replace what is above the 32 bits.
abbrev pub four : ℕ → ℕ → ℕ → ℕ → ℤ
four x y z u =
    int_rem_euclid (upper_and_or x y) (pos (2 ^ 32))
    +ℤ pos (2 ^ 32 * field z 5 25 + 2 ^ 52 * field u 10 22)

abbrev pub Two : (Operands → ℕ) → LoongArch64Relocation → LoongArch64Relocation
    → (Operands → ℕ) → Type 0
Two begin high low target =
    Law (of_bits 32 Signed (row_here high) ∷ row_anywhere low ∷ [])
    (λ o x y. pos (begin o) +ℤ upper_and_or x y) target

abbrev pub Four : (Operands → ℕ) → LoongArch64Relocation → LoongArch64Relocation
    → LoongArch64Relocation → LoongArch64Relocation → (Operands → ℕ) → Type 0
Four begin hi20 lo12 lo20 hi12 target =
    Law (row_here hi20 ∷ row_anywhere lo12 ∷ row_anywhere lo20 ∷ row_anywhere hi12 ∷ [])
    (λ o x y z u. pos (begin o) +ℤ four x y z u) target

abbrev pub AbsoluteAddresses : Type 0
AbsoluteAddresses =
    Two zero names.R_LARCH_ABS_HI20 names.R_LARCH_ABS_LO12 symbol_address
    × Four zero names.R_LARCH_ABS_HI20 names.R_LARCH_ABS_LO12 names.R_LARCH_ABS64_LO20
    names.R_LARCH_ABS64_HI12 symbol_address
    × Two zero names.R_LARCH_TLS_IE_HI20 names.R_LARCH_TLS_IE_LO12 entry_and_addend
    × Four zero names.R_LARCH_TLS_IE_HI20 names.R_LARCH_TLS_IE_LO12 names.R_LARCH_TLS_IE64_LO20
    names.R_LARCH_TLS_IE64_HI12 entry_and_addend

-- An offset is added to the thread pointer. The last is by `lu12i.w` and a low part with a sign.
abbrev pub ThreadAddresses : Type 0
ThreadAddresses =
    Two tls_base names.R_LARCH_TLS_LE_HI20 names.R_LARCH_TLS_LE_LO12 symbol_address
    × Four tls_base names.R_LARCH_TLS_LE_HI20 names.R_LARCH_TLS_LE_LO12
    names.R_LARCH_TLS_LE64_LO20 names.R_LARCH_TLS_LE64_HI12 symbol_address
    × Law
    (of_bits 32 Signed (row_here names.R_LARCH_TLS_LE_HI20_R)
    ∷ row_anywhere names.R_LARCH_TLS_LE_LO12_R ∷ [])
    (λ o x y.
    (pos o.tls_base +ℤ (signed 20 (field x 5 25) *ℤ pos 4096)) +ℤ signed 12 (field y 10 22))
    symbol_address

-- ---- high parts, of which no row is a low part ("LU12I.W", "PCADDU12I")

abbrev pub HighPart : LoongArch64Relocation → (Operands → ℕ) → (Operands → ℕ) → Type 0
HighPart name begin target =
    Adds (of_bits 32 Signed (row_here name)) begin (λ x. signed 20 (field x 5 25)) 4096 target

abbrev pub HighParts : Type 0
HighParts =
    HighPart names.R_LARCH_PCADD_HI20 place (without_low 12 0x800 place symbol_address)
    × HighPart names.R_LARCH_TLS_LD_HI20 zero (without_low 12 0 zero entry_and_addend)
    × HighPart names.R_LARCH_TLS_GD_HI20 zero (without_low 12 0 zero entry_and_addend)

-- ---- one instruction ("B", "BEQZ", "BEQ", "PCADDI"), and a call ("PCADDU18I", "JIRL")

abbrev pub Branch : LoongArch64Relocation → LoongArch64Instruction → (Operands → ℕ) → Type 0
Branch name f target = Adds (row_here name) place (loongarch_form f).machine 4 target

abbrev pub Branches : Type 0
Branches =
    Branch names.R_LARCH_B16 Shift10 symbol_address
    × Branch names.R_LARCH_B21 Branch21 symbol_address
    × Branch names.R_LARCH_B26 Branch26 plt_address
    × Branch names.R_LARCH_PCREL20_S2 Shift5 symbol_address
    × Branch names.R_LARCH_TLS_LD_PCREL20_S2 Shift5 entry_and_addend
    × Branch names.R_LARCH_TLS_GD_PCREL20_S2 Shift5 entry_and_addend
    × Branch names.R_LARCH_TLS_DESC_PCREL20_S2 Shift5 entry_and_addend

abbrev pub Calls : Type 0
Calls = Adds (row_here names.R_LARCH_CALL36) place reach 1 plt_address

-- ---- differences of labels (psABI, "Relocation Types": ADD, SUB)

abbrev pub Distances : Type 0
Distances =
    AddsDistance6 (loongarch_row names.R_LARCH_ADD6) (loongarch_row names.R_LARCH_SUB6)
    × AddsDistance 1 (loongarch_row names.R_LARCH_ADD8) (loongarch_row names.R_LARCH_SUB8)
    × AddsDistance 2 (loongarch_row names.R_LARCH_ADD16) (loongarch_row names.R_LARCH_SUB16)
    × AddsDistance 3 (loongarch_row names.R_LARCH_ADD24) (loongarch_row names.R_LARCH_SUB24)
    × AddsDistance 4 (loongarch_row names.R_LARCH_ADD32) (loongarch_row names.R_LARCH_SUB32)
    × AddsDistance 8 (loongarch_row names.R_LARCH_ADD64) (loongarch_row names.R_LARCH_SUB64)

-- ---- fields of data

abbrev pub Fields : Type 0
Fields =
    HoldsDistance 4 (loongarch_row names.R_LARCH_32) zero symbol_address
    × HoldsDistance 8 (loongarch_row names.R_LARCH_64) zero symbol_address
    × HoldsDistance 4 (loongarch_row names.R_LARCH_32_PCREL) place symbol_address
    × HoldsDistance 8 (loongarch_row names.R_LARCH_64_PCREL) place symbol_address
    × HoldsDistance 4 (loongarch_row names.R_LARCH_TLS_DTPREL32) tls_base symbol_address
    × HoldsDistance 8 (loongarch_row names.R_LARCH_TLS_DTPREL64) tls_base symbol_address
