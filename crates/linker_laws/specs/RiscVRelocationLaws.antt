-- RISC-V: what relocated instructions compute (RISC-V ELF psABI, "Relocations"; the instructions by
-- the RISC-V unprivileged ISA).
use Rattle.std.specs.Prelude.{ℕ, List, [], ◌∷◌, ℤ, pos, ◌+ℤ◌, ◌-ℤ◌, ◌*ℤ◌, ◌-◌, ◌%◌, Option, Some}
use Rattle.linker_laws.specs.Imports.{BType, CbType, CjType, CluiType, IType, JType, Operands}
use Rattle.linker_laws.specs.Imports.{RiscVRelocation, RowInfo, SType, UType, UiType, clui_row}
use Rattle.linker_laws.specs.Imports.{int_rem_euclid, riscv_form, riscv_relocation, riscv_row}
use Rattle.linker_elf.specs.declared.riscv64.forms.RiscVInstruction.{RiscVInstruction}
use Rattle.linker_elf.specs.declared.riscv64.relocations.RiscVRelocation.TheVariants as names
use Rattle.linker_laws.specs.Schemes.{AddsDistance, Computed, HoldsDistance, Law, SetsDistance}
use Rattle.linker_laws.specs.Schemes.{SetsDistance6, Step, entry_and_addend, here, place}
use Rattle.linker_laws.specs.Schemes.{plt_address, symbol_address, tls_base, zero}

-- ---- an upper and a low part ("LUI", "AUIPC", "ADDI"; psABI, "Absolute Addresses", "PC-Relative
-- Symbol Addresses", "Local Exec", "Initial Exec", "Global Dynamic", "TLS Descriptors")

-- What `lui` puts in a register, or `auipc` adds to its own address, and what an instruction with a
-- low part adds to that. An offset of TLS is added to the thread pointer too.
abbrev pub upper_and_low : (Operands → ℕ) → RiscVInstruction → RiscVInstruction → Operands → ℕ → ℕ
    → ℤ
upper_and_low begin upper low o x y =
    pos (begin o) +ℤ ((riscv_form upper).machine x +ℤ (riscv_form low).machine y)

-- What is said of steps, of what instructions compute from their words, and of the target: `Law`,
-- or `Law32` of RV32.
abbrev pub Scheme : Type 1
Scheme = (steps : List Step) → (Operands → Computed steps) → (Operands → ℕ) → Type 0

-- an upper part, and the low part of a load or an `addi` and that of a store
abbrev pub Pairs : Scheme → (Operands → ℕ) → RiscVInstruction → Option RowInfo → Step → Step
    → (Operands → ℕ) → Type 0
Pairs Holds begin upper high load store target =
    Holds (here high ∷ load ∷ []) (upper_and_low begin upper IType) target
    × Holds (here high ∷ store ∷ []) (upper_and_low begin upper SType) target

-- the low part of an `auipc`, which has the operands of the high part
abbrev pub low_load : Step
low_load = here (riscv_row names.R_RISCV_PCREL_LO12_I)

abbrev pub low_store : Step
low_store = here (riscv_row names.R_RISCV_PCREL_LO12_S)

-- the low part whose high part refers to a GOT entry
abbrev pub of_entry : Step → Step
of_entry step = record step { operands = λ o at. record o { symbol = o.got_entry } }

abbrev pub Entries : Scheme → RiscVRelocation → Type 0
Entries Holds name =
    Pairs Holds place UType (riscv_row name) (of_entry low_load) (of_entry low_store) entry_and_addend

abbrev pub AbsoluteAddresses : Scheme → Type 0
AbsoluteAddresses Holds =
    Pairs Holds zero UType (riscv_row names.R_RISCV_HI20) (here (riscv_row names.R_RISCV_LO12_I))
    (here (riscv_row names.R_RISCV_LO12_S)) symbol_address
    × Pairs Holds zero CluiType (Some clui_row) (here (riscv_row names.R_RISCV_LO12_I))
    (here (riscv_row names.R_RISCV_LO12_S)) symbol_address

abbrev pub RelativeAddresses : Type 0
RelativeAddresses =
    Pairs Law place UType (riscv_row names.R_RISCV_PCREL_HI20) low_load low_store symbol_address

abbrev pub EntryAddresses : Scheme → Type 0
EntryAddresses Holds =
    Entries Holds names.R_RISCV_GOT_HI20 × Entries Holds names.R_RISCV_TLS_GOT_HI20
    × Entries Holds names.R_RISCV_TLS_GD_HI20

-- a descriptor, by its load and by the address that is passed on
abbrev pub Descriptor : Scheme → RiscVRelocation → Type 0
Descriptor Holds low =
    Holds
    (here ((riscv_relocation names.R_RISCV_TLSDESC_HI20).row)
    ∷ here ((riscv_relocation low).row) ∷ []) (upper_and_low place UType IType)
    entry_and_addend

abbrev pub DescriptorAddresses : Scheme → Type 0
DescriptorAddresses Holds =
    Descriptor Holds names.R_RISCV_TLSDESC_LOAD_LO12 × Descriptor Holds names.R_RISCV_TLSDESC_ADD_LO12

abbrev pub ThreadAddresses : Scheme → Type 0
ThreadAddresses Holds =
    Pairs Holds tls_base UType (riscv_row names.R_RISCV_TPREL_HI20)
    (here (riscv_row names.R_RISCV_TPREL_LO12_I)) (here (riscv_row names.R_RISCV_TPREL_LO12_S))
    symbol_address

-- ---- calls and jumps ("JALR", "JAL", "Conditional Branches"; psABI, "Procedure Calls")

-- `jalr` sets bit 0 of the sum to 0.
abbrev pub without_bit_0 : ℤ → ℤ
without_bit_0 sum = sum -ℤ int_rem_euclid sum (pos 2)

abbrev pub even : (Operands → ℕ) → Operands → ℕ
even address o = address o - address o % 2

abbrev pub Call : Scheme → RiscVRelocation → Type 0
Call Holds name =
    Holds (here (riscv_row name) ∷ [])
    (λ o x. without_bit_0 (pos o.place +ℤ (riscv_form UiType).machine x)) (even plt_address)

abbrev pub Calls : Type 0
Calls = Call Law names.R_RISCV_CALL × Call Law names.R_RISCV_CALL_PLT

abbrev pub Jump : Scheme → RiscVRelocation → RiscVInstruction → Type 0
Jump Holds name f =
    Holds (here (riscv_row name) ∷ []) (λ o x. pos o.place +ℤ ((riscv_form f).machine x *ℤ pos 1))
    symbol_address

abbrev pub Jumps : Type 0
Jumps =
    Jump Law names.R_RISCV_JAL JType × Jump Law names.R_RISCV_BRANCH BType
    × Jump Law names.R_RISCV_RVC_JUMP CjType × Jump Law names.R_RISCV_RVC_BRANCH CbType

-- ---- differences of labels (psABI, "Relocation Types": ADD, SUB, SET)

abbrev pub Distances : Type 0
Distances =
    AddsDistance 1 (riscv_row names.R_RISCV_ADD8) (riscv_row names.R_RISCV_SUB8)
    × AddsDistance 2 (riscv_row names.R_RISCV_ADD16) (riscv_row names.R_RISCV_SUB16)
    × AddsDistance 4 (riscv_row names.R_RISCV_ADD32) (riscv_row names.R_RISCV_SUB32)
    × AddsDistance 8 (riscv_row names.R_RISCV_ADD64) (riscv_row names.R_RISCV_SUB64)
    × SetsDistance 1 (riscv_row names.R_RISCV_SET8) (riscv_row names.R_RISCV_SUB8)
    × SetsDistance 2 (riscv_row names.R_RISCV_SET16) (riscv_row names.R_RISCV_SUB16)
    × SetsDistance 4 (riscv_row names.R_RISCV_SET32) (riscv_row names.R_RISCV_SUB32)
    × SetsDistance6 (riscv_row names.R_RISCV_SET6) (riscv_row names.R_RISCV_SUB6)

-- ---- fields of data

abbrev pub Fields : Type 0
Fields =
    HoldsDistance 4 (riscv_row names.R_RISCV_32) zero symbol_address
    × HoldsDistance 8 (riscv_row names.R_RISCV_64) zero symbol_address
    × HoldsDistance 4 (riscv_row names.R_RISCV_32_PCREL) place symbol_address
    × HoldsDistance 4 (riscv_row names.R_RISCV_PLT32) place plt_address
    × HoldsDistance 4 (riscv_row names.R_RISCV_GOT32_PCREL) place entry_and_addend
