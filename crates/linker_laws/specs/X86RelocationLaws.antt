-- x86-64: what the fields of relocated instructions come to (x86-64 psABI, "Relocation Types";
-- Intel 64 and IA-32 Architectures Software Developer's Manual, volume 1, "Operand Addressing", and
-- volume 2, "RIP-Relative Addressing"). A field relative to the next instruction's address has an
-- addend that is less by the bytes from the field to there.
use Rattle.std.specs.Prelude.{ℕ, pos}
use Rattle.linker_laws.specs.Imports.{Operands, X86_64Relocation, signed, x86_64_row}
use Rattle.linker_elf.specs.declared.elf.Sign.TheVariants as signs
use Rattle.linker_elf.specs.declared.x86_64.relocations.X86_64Relocation.TheVariants as names
use Rattle.linker_laws.specs.Schemes.{Step, here, of_bits, Adds, symbol_address, plt_address}
use Rattle.linker_laws.specs.Schemes.{entry_and_addend, size_and_addend, zero, place, got_base}
use Rattle.linker_laws.specs.Schemes.{tls_base}

abbrev pub field : X86_64Relocation → Step
field name = here (x86_64_row name)

-- what a field of n bits in two's complement comes to, from what the formula subtracts
abbrev pub Signed : ℕ → X86_64Relocation → (Operands → ℕ) → (Operands → ℕ) → Type 0
Signed n name begin target = Adds (field name) begin (signed n) 1 target

-- what one without a sign, or one of 64 bits, comes to
abbrev pub Unsigned : X86_64Relocation → (Operands → ℕ) → (Operands → ℕ) → Type 0
Unsigned name begin target = Adds (field name) begin pos 1 target

-- the place and the field are the target
abbrev pub Reaches : X86_64Relocation → (Operands → ℕ) → Type 0
Reaches name target = Signed 32 name place target

abbrev pub Symbols : Type 0
Symbols =
    Reaches names.R_X86_64_PC32 symbol_address × Signed 16 names.R_X86_64_PC16 place symbol_address
    × Signed 8 names.R_X86_64_PC8 place symbol_address
    × Unsigned names.R_X86_64_PC64 place symbol_address
    × Reaches names.R_X86_64_GOTPC32 symbol_address
    × Unsigned names.R_X86_64_GOTPC64 place symbol_address

abbrev pub Calls : Type 0
Calls = Reaches names.R_X86_64_PLT32 plt_address

abbrev pub Entries : Type 0
Entries =
    Reaches names.R_X86_64_GOTPCREL entry_and_addend
    × Reaches names.R_X86_64_GOTPCRELX entry_and_addend
    × Reaches names.R_X86_64_REX_GOTPCRELX entry_and_addend
    × Reaches names.R_X86_64_CODE_4_GOTPCRELX entry_and_addend
    × Reaches names.R_X86_64_CODE_5_GOTPCRELX entry_and_addend
    × Reaches names.R_X86_64_CODE_6_GOTPCRELX entry_and_addend
    × Reaches names.R_X86_64_TLSGD entry_and_addend
    × Reaches names.R_X86_64_TLSLD entry_and_addend
    × Reaches names.R_X86_64_GOTTPOFF entry_and_addend
    × Reaches names.R_X86_64_CODE_4_GOTTPOFF entry_and_addend
    × Reaches names.R_X86_64_CODE_5_GOTTPOFF entry_and_addend
    × Reaches names.R_X86_64_CODE_6_GOTTPOFF entry_and_addend
    × Reaches names.R_X86_64_GOTPC32_TLSDESC entry_and_addend
    × Reaches names.R_X86_64_CODE_4_GOTPC32_TLSDESC entry_and_addend
    × Reaches names.R_X86_64_CODE_5_GOTPC32_TLSDESC entry_and_addend
    × Reaches names.R_X86_64_CODE_6_GOTPC32_TLSDESC entry_and_addend

-- An operand of 32 bits is zero-extended or, of the relocation with an S, sign-extended. Those of
-- 16 and of 8 bits may be either.
abbrev pub Absolutes : Type 0
Absolutes =
    Unsigned names.R_X86_64_64 zero symbol_address × Unsigned names.R_X86_64_32 zero symbol_address
    × Signed 32 names.R_X86_64_32S zero symbol_address
    × Adds (of_bits 16 signs.Signed (field names.R_X86_64_16)) zero (signed 16) 1 symbol_address
    × Adds (of_bits 16 signs.Unsigned (field names.R_X86_64_16)) zero pos 1 symbol_address
    × Adds (of_bits 8 signs.Signed (field names.R_X86_64_8)) zero (signed 8) 1 symbol_address
    × Adds (of_bits 8 signs.Unsigned (field names.R_X86_64_8)) zero pos 1 symbol_address
    × Unsigned names.R_X86_64_SIZE32 zero size_and_addend
    × Unsigned names.R_X86_64_SIZE64 zero size_and_addend

-- offsets from the GOT
abbrev pub FromGot : Type 0
FromGot =
    Signed 32 names.R_X86_64_GOT32 got_base entry_and_addend
    × Unsigned names.R_X86_64_GOT64 got_base entry_and_addend
    × Unsigned names.R_X86_64_GOTOFF64 got_base symbol_address
    × Unsigned names.R_X86_64_PLTOFF64 got_base plt_address

-- offsets from the thread pointer, and in the module's block
abbrev pub ThreadAddresses : Type 0
ThreadAddresses =
    Signed 32 names.R_X86_64_TPOFF32 tls_base symbol_address
    × Signed 32 names.R_X86_64_DTPOFF32 tls_base symbol_address
    × Unsigned names.R_X86_64_DTPOFF64 tls_base symbol_address
    × Unsigned names.R_X86_64_TPOFF64 tls_base symbol_address
