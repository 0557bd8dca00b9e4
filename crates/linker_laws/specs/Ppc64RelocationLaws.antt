-- PowerPC64: what relocated instructions compute (64-bit ELF V2 ABI for Power, "Relocation Types";
-- Power ISA, version 3.1, book I).
use Rattle.std.specs.Prelude.{ℕ, [], ◌∷◌, ℤ, pos, ◌+ℤ◌, ◌*ℤ◌, ◌+◌, ◌*◌, ◌^◌}
use Rattle.linker_laws.specs.Imports.{Branch14, Branch24, D, Ds, Operands, Ppc64Form}
use Rattle.linker_laws.specs.Imports.{Ppc64Relocation, Prefixed, field, ppc64_form, ppc64_reads}
use Rattle.linker_elf.specs.Ppc64Relocations.{ppc64_row}
use Rattle.linker_elf.specs.declared.ppc64.relocations.Ppc64Relocation.TheVariants as names
use Rattle.linker_laws.specs.Schemes.{HoldsDistance, without_low, here, anywhere, moved_on, Law}
use Rattle.linker_laws.specs.Schemes.{Adds, symbol_address, plt_address, entry_address, zero, place}
use Rattle.linker_laws.specs.Schemes.{got_base, tls_base}

-- ---- halves ("addis", "addi", "ori"; ABI, "@ha", "@hi" and "@l")

-- `addis` adds its immediate times 2 ^ 16 to a register, and an instruction with the low half, in
-- two's complement, adds that. The register holds what the formula subtracts, or 0.
abbrev pub adjusted : (Operands → ℕ) → Ppc64Form → Operands → ℕ → ℕ → ℤ
adjusted begin low o x y =
    (pos (begin o) +ℤ ((ppc64_form D).machine x *ℤ pos (2 ^ 16))) +ℤ ppc64_reads low y

abbrev pub Adjusted : (Operands → ℕ) → Ppc64Relocation → Ppc64Relocation → Ppc64Form
    → (Operands → ℕ) → Type 0
Adjusted begin high low f target =
    Law (here (ppc64_row high) ∷ anywhere (ppc64_row low) ∷ []) (adjusted begin f) target

-- the same of `ori` and its like, which take the low half without a sign
abbrev pub unadjusted : (Operands → ℕ) → Operands → ℕ → ℕ → ℤ
unadjusted begin o x y =
    (pos (begin o) +ℤ ((ppc64_form D).machine x *ℤ pos (2 ^ 16))) +ℤ pos (field y 0 16)

abbrev pub Unadjusted : (Operands → ℕ) → Ppc64Relocation → Ppc64Relocation → (Operands → ℕ)
    → Type 0
Unadjusted begin high low target =
    Law (here (ppc64_row high) ∷ anywhere (ppc64_row low) ∷ []) (unadjusted begin) target

abbrev pub AbsoluteAddresses : Type 0
AbsoluteAddresses =
    Adjusted zero names.R_PPC64_ADDR16_HA names.R_PPC64_ADDR16_LO D symbol_address
    × Adjusted zero names.R_PPC64_ADDR16_HA names.R_PPC64_ADDR16_LO_DS Ds symbol_address
    × Unadjusted zero names.R_PPC64_ADDR16_HI names.R_PPC64_ADDR16_LO symbol_address

abbrev pub TocAddresses : Type 0
TocAddresses =
    Adjusted got_base names.R_PPC64_TOC16_HA names.R_PPC64_TOC16_LO D symbol_address
    × Adjusted got_base names.R_PPC64_TOC16_HA names.R_PPC64_TOC16_LO_DS Ds symbol_address
    × Unadjusted got_base names.R_PPC64_TOC16_HI names.R_PPC64_TOC16_LO symbol_address

abbrev pub EntryAddresses : Type 0
EntryAddresses =
    Adjusted got_base names.R_PPC64_GOT_TPREL16_HA names.R_PPC64_GOT_TPREL16_LO_DS Ds entry_address
    × Adjusted got_base names.R_PPC64_GOT_TLSGD16_HA names.R_PPC64_GOT_TLSGD16_LO D entry_address
    × Adjusted got_base names.R_PPC64_GOT_TLSLD16_HA names.R_PPC64_GOT_TLSLD16_LO D entry_address
    × Unadjusted got_base names.R_PPC64_GOT_TLSGD16_HI names.R_PPC64_GOT_TLSGD16_LO entry_address
    × Unadjusted got_base names.R_PPC64_GOT_TLSLD16_HI names.R_PPC64_GOT_TLSLD16_LO entry_address

-- the GOT entry of a symbol's address, and the doubleword of the PLT
abbrev pub GotAddresses : Type 0
GotAddresses =
    Adjusted got_base names.R_PPC64_GOT16_HA names.R_PPC64_GOT16_LO_DS Ds entry_address
    × Adjusted got_base names.R_PPC64_GOT16_HA names.R_PPC64_GOT16_LO D entry_address
    × Unadjusted got_base names.R_PPC64_GOT16_HI names.R_PPC64_GOT16_LO entry_address
    × Adjusted got_base names.R_PPC64_PLT16_HA names.R_PPC64_PLT16_LO_DS Ds plt_address

-- `addis` alone. No relocation of its low half is among the rows.
abbrev pub HighParts : Type 0
HighParts =
    Adds (here (ppc64_row names.R_PPC64_GOT_TPREL16_HI)) got_base (ppc64_form D).machine (2 ^ 16)
    (without_low 16 0 got_base entry_address)

abbrev pub ThreadAddresses : Type 0
ThreadAddresses =
    Adjusted tls_base names.R_PPC64_TPREL16_HA names.R_PPC64_TPREL16_LO D symbol_address
    × Adjusted tls_base names.R_PPC64_TPREL16_HA names.R_PPC64_TPREL16_LO_DS Ds symbol_address
    × Adjusted tls_base names.R_PPC64_DTPREL16_HA names.R_PPC64_DTPREL16_LO D symbol_address
    × Adjusted tls_base names.R_PPC64_DTPREL16_HA names.R_PPC64_DTPREL16_LO_DS Ds symbol_address
    × Unadjusted tls_base names.R_PPC64_TPREL16_HI names.R_PPC64_TPREL16_LO symbol_address
    × Unadjusted tls_base names.R_PPC64_DTPREL16_HI names.R_PPC64_DTPREL16_LO symbol_address

-- The low half is that of the next instruction (ABI, "Function Prologue").
abbrev pub RelativeAddresses : Type 0
RelativeAddresses =
    Law
    (here (ppc64_row names.R_PPC64_REL16_HA) ∷ moved_on 4 (ppc64_row names.R_PPC64_REL16_LO) ∷ [])
    (adjusted place D) symbol_address
    × Law
    (here (ppc64_row names.R_PPC64_REL16_HI) ∷ moved_on 4 (ppc64_row names.R_PPC64_REL16_LO) ∷ [])
    (unadjusted place) symbol_address

-- ---- four parts of 16 bits ("lis", "ori", "sldi", "oris"; ABI, "@highest", "@higher" and "@high")

-- `lis` and `ori` make the upper 32 bits, which `sldi` shifts there, and `oris` the next 16. What
-- the sign of `lis` sets is shifted out.
abbrev pub upper_parts : ℕ → ℕ → ℕ → ℕ
upper_parts x y z = 2 ^ 48 * field x 0 16 + 2 ^ 32 * field y 0 16 + 2 ^ 16 * field z 0 16

-- what is read of the low half, added to them
abbrev pub by_quarters : (Operands → ℕ) → (ℕ → ℤ) → Operands → ℕ → ℕ → ℕ → ℕ → ℤ
by_quarters begin reads o x y z u = pos (begin o + upper_parts x y z) +ℤ reads u

abbrev pub Quarters : (Operands → ℕ) → (highest higher high low : Ppc64Relocation) → (ℕ → ℤ)
    → (Operands → ℕ) → Type 0
Quarters begin highest higher high low reads target =
    Law
    (here (ppc64_row highest) ∷ anywhere (ppc64_row higher) ∷ anywhere (ppc64_row high)
    ∷ anywhere (ppc64_row low) ∷ [])
    (by_quarters begin reads) target

-- An `ori` takes the low half without a sign, and another instruction adds it in two's complement.
abbrev pub low_half : ℕ → ℤ
low_half u = pos (field u 0 16)

abbrev pub FarAddresses : Type 0
FarAddresses =
    Quarters zero names.R_PPC64_ADDR16_HIGHEST names.R_PPC64_ADDR16_HIGHER
    names.R_PPC64_ADDR16_HIGH names.R_PPC64_ADDR16_LO low_half symbol_address
    × Quarters zero names.R_PPC64_ADDR16_HIGHESTA names.R_PPC64_ADDR16_HIGHERA
    names.R_PPC64_ADDR16_HIGHA names.R_PPC64_ADDR16_LO (ppc64_reads D) symbol_address
    × Quarters zero names.R_PPC64_ADDR16_HIGHESTA names.R_PPC64_ADDR16_HIGHERA
    names.R_PPC64_ADDR16_HIGHA names.R_PPC64_ADDR16_LO_DS (ppc64_reads Ds) symbol_address
    × Quarters tls_base names.R_PPC64_TPREL16_HIGHEST names.R_PPC64_TPREL16_HIGHER
    names.R_PPC64_TPREL16_HIGH names.R_PPC64_TPREL16_LO low_half symbol_address
    × Quarters tls_base names.R_PPC64_TPREL16_HIGHESTA names.R_PPC64_TPREL16_HIGHERA
    names.R_PPC64_TPREL16_HIGHA names.R_PPC64_TPREL16_LO (ppc64_reads D) symbol_address
    × Quarters tls_base names.R_PPC64_TPREL16_HIGHESTA names.R_PPC64_TPREL16_HIGHERA
    names.R_PPC64_TPREL16_HIGHA names.R_PPC64_TPREL16_LO_DS (ppc64_reads Ds) symbol_address
    × Quarters tls_base names.R_PPC64_DTPREL16_HIGHEST names.R_PPC64_DTPREL16_HIGHER
    names.R_PPC64_DTPREL16_HIGH names.R_PPC64_DTPREL16_LO low_half symbol_address
    × Quarters tls_base names.R_PPC64_DTPREL16_HIGHESTA names.R_PPC64_DTPREL16_HIGHERA
    names.R_PPC64_DTPREL16_HIGHA names.R_PPC64_DTPREL16_LO (ppc64_reads D) symbol_address
    × Quarters tls_base names.R_PPC64_DTPREL16_HIGHESTA names.R_PPC64_DTPREL16_HIGHERA
    names.R_PPC64_DTPREL16_HIGHA names.R_PPC64_DTPREL16_LO_DS (ppc64_reads Ds) symbol_address

-- ---- one instruction

abbrev pub Single : Ppc64Relocation → (Operands → ℕ) → Ppc64Form → (Operands → ℕ) → Type 0
Single name begin f target = Adds (here (ppc64_row name)) begin (ppc64_reads f) 1 target

abbrev pub Branches : Type 0
Branches =
    Single names.R_PPC64_REL24 place Branch24 symbol_address
    × Single names.R_PPC64_REL24_NOTOC place Branch24 symbol_address
    × Single names.R_PPC64_REL14 place Branch14 symbol_address
    × Single names.R_PPC64_ADDR24 zero Branch24 symbol_address
    × Single names.R_PPC64_ADDR14 zero Branch14 symbol_address

abbrev pub Prefixes : Type 0
Prefixes =
    Single names.R_PPC64_PCREL34 place Prefixed symbol_address
    × Single names.R_PPC64_GOT_PCREL34 place Prefixed entry_address
    × Single names.R_PPC64_GOT_TLSGD_PCREL34 place Prefixed entry_address
    × Single names.R_PPC64_GOT_TLSLD_PCREL34 place Prefixed entry_address
    × Single names.R_PPC64_GOT_TPREL_PCREL34 place Prefixed entry_address
    × Single names.R_PPC64_D34 zero Prefixed symbol_address
    × Single names.R_PPC64_PLT_PCREL34 place Prefixed plt_address
    × Single names.R_PPC64_PLT_PCREL34_NOTOC place Prefixed plt_address
    × Single names.R_PPC64_TPREL34 tls_base Prefixed symbol_address
    × Single names.R_PPC64_DTPREL34 tls_base Prefixed symbol_address

abbrev pub Displacements : Type 0
Displacements =
    Single names.R_PPC64_ADDR16_DS zero Ds symbol_address
    × Single names.R_PPC64_TOC16 got_base D symbol_address
    × Single names.R_PPC64_TOC16_DS got_base Ds symbol_address
    × Single names.R_PPC64_GOT_TPREL16_DS got_base Ds entry_address
    × Single names.R_PPC64_GOT_TLSGD16 got_base D entry_address
    × Single names.R_PPC64_GOT_TLSLD16 got_base D entry_address
    × Single names.R_PPC64_TPREL16 tls_base D symbol_address
    × Single names.R_PPC64_TPREL16_DS tls_base Ds symbol_address
    × Single names.R_PPC64_DTPREL16 tls_base D symbol_address
    × Single names.R_PPC64_DTPREL16_DS tls_base Ds symbol_address
    × Single names.R_PPC64_GOT16 got_base D entry_address
    × Single names.R_PPC64_GOT16_DS got_base Ds entry_address

-- ---- fields of data

abbrev pub Fields : Type 0
Fields =
    HoldsDistance 8 (ppc64_row names.R_PPC64_ADDR64) zero symbol_address
    × HoldsDistance 4 (ppc64_row names.R_PPC64_ADDR32) zero symbol_address
    × HoldsDistance 2 (ppc64_row names.R_PPC64_ADDR16) zero symbol_address
    × HoldsDistance 8 (ppc64_row names.R_PPC64_REL64) place symbol_address
    × HoldsDistance 4 (ppc64_row names.R_PPC64_REL32) place symbol_address
    × HoldsDistance 8 (ppc64_row names.R_PPC64_TPREL64) tls_base symbol_address
    × HoldsDistance 8 (ppc64_row names.R_PPC64_DTPREL64) tls_base symbol_address
