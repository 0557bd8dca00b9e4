-- Sequences whose relocations are next to each other: of AArch64 those of a TLS descriptor (System
-- V ABI for the Arm 64-bit Architecture, "Thread-local storage"), of a load from the GOT and of an
-- address by its page (ELF for the Arm 64-bit Architecture, "Relocation optimization"); of
-- LoongArch those of a load from the GOT (LoongArch ELF psABI, relaxation). And marks of what may
-- be relaxed.
use Rattle.std.specs.Prelude.{◌≡◌, ℕ, ◌+◌, ◌-◌, ◌==◌, ◌&&◌, nat_le, Bool, true, false, cond, pos}
use Rattle.std.specs.Prelude.{List, [], ◌∷◌, Option, Some, None}
use Rattle.std.specs.Ordering.{int_eq}
use Rattle.linker_rewriting.specs.Imports.{AArch64, Architecture, ElfName, LoongArch64, Phase}
use Rattle.linker_rewriting.specs.Imports.{Ppc64, PreLayout, Rela, RiscV, aarch64_name, ppc64_name}
use Rattle.linker_rewriting.specs.Imports.{r_type_of, relocation_at, riscv_name}
use Rattle.linker_elf.specs.LoongArchRelocations.{loongarch_name}
use Rattle.linker_elf.specs.declared.aarch64.relocations.AArch64Relocation.TheVariants as aarch64
use Rattle.linker_elf.specs.declared.loongarch64.relocations.LoongArch64Relocation.TheVariants as loongarch64
use Rattle.linker_elf.specs.declared.ppc64.relocations.Ppc64Relocation.TheVariants as ppc64
use Rattle.linker_elf.specs.declared.riscv64.relocations.RiscVRelocation.TheVariants as riscv64
use Rattle.linker_rewriting.specs.declared.sequences.Member.{Member}
use Rattle.linker_rewriting.specs.declared.sequences.Tie.{Tie}
use Rattle.linker_rewriting.specs.declared.sequences.Tie.TheVariants.{Subject, Symbol, Mark}

-- ---- marks

-- the `r_type` of the mark of an instruction that may be relaxed
abbrev pub mark_r_type : Architecture → Option ℕ
mark_r_type RiscV = Some (r_type_of (riscv_name riscv64.R_RISCV_RELAX))
mark_r_type LoongArch64 = Some (r_type_of (loongarch_name loongarch64.R_LARCH_RELAX))
mark_r_type architecture = None

-- a relocation is a mark at an offset
abbrev pub is_mark_of : Option ℕ → ℕ → Option Rela → Bool
is_mark_of None offset r = false
is_mark_of (Some r_type) offset None = false
is_mark_of (Some r_type) offset (Some r) = (r.offset == offset) && (r.r_type == r_type)

-- a mark stands after a relocation with an index
abbrev pub is_marked_at : Architecture → List ℕ → ℕ → Rela → Bool
is_marked_at architecture bytes n r =
    is_mark_of (mark_r_type architecture) r.offset (relocation_at bytes (n + 1))

-- What is marked in a phase. Before addresses are known it is a call of PowerPC64's prefixed code:
-- after the mark of a call, and at the same offset, its own relocation is R_PPC64_REL24_NOTOC.
abbrev pub mark_r_type_in : Phase → Architecture → Option ℕ
mark_r_type_in PreLayout Ppc64 = Some (r_type_of (ppc64_name ppc64.R_PPC64_REL24_NOTOC))
mark_r_type_in PreLayout architecture = None
mark_r_type_in phase architecture = mark_r_type architecture

abbrev pub is_marked_in : Phase → Architecture → List ℕ → ℕ → Rela → Bool
is_marked_in phase architecture bytes n r =
    is_mark_of (mark_r_type_in phase architecture) r.offset (relocation_at bytes (n + 1))

-- ---- the members of sequences

abbrev pub member : ElfName → ℕ → Tie → Member
member name distance tie = record { r_type = r_type_of name; distance = distance; tie = tie }

abbrev pub descriptor : List Member
descriptor =
    member (aarch64_name aarch64.R_AARCH64_TLSDESC_ADR_PAGE21) 0 Subject
    ∷ member (aarch64_name aarch64.R_AARCH64_TLSDESC_LD64_LO12) 4 Subject
    ∷ member (aarch64_name aarch64.R_AARCH64_TLSDESC_ADD_LO12) 8 Subject
    ∷ member (aarch64_name aarch64.R_AARCH64_TLSDESC_CALL) 12 Subject
    ∷ []

abbrev pub got_load : List Member
got_load =
    member (aarch64_name aarch64.R_AARCH64_ADR_GOT_PAGE) 0 Symbol
    ∷ member (aarch64_name aarch64.R_AARCH64_LD64_GOT_LO12_NC) 4 Symbol
    ∷ []

abbrev pub page_and_offset : List Member
page_and_offset =
    member (aarch64_name aarch64.R_AARCH64_ADR_PREL_PG_HI21) 0 Symbol
    ∷ member (aarch64_name aarch64.R_AARCH64_ADD_ABS_LO12_NC) 4 Symbol
    ∷ []

-- each instruction has its mark
abbrev pub marked_load : List Member
marked_load =
    member (loongarch_name loongarch64.R_LARCH_GOT_PC_HI20) 0 Subject
    ∷ member (loongarch_name loongarch64.R_LARCH_RELAX) 0 Mark
    ∷ member (loongarch_name loongarch64.R_LARCH_GOT_PC_LO12) 4 Subject
    ∷ member (loongarch_name loongarch64.R_LARCH_RELAX) 4 Mark
    ∷ []

abbrev pub sequences : Architecture → List (List Member)
sequences AArch64 = descriptor ∷ got_load ∷ page_and_offset ∷ []
sequences LoongArch64 = marked_load ∷ []
sequences architecture = []

-- ---- all of a sequence

-- a relocation is of the symbol and the addend of another one of its sequence
abbrev pub is_tied : Tie → Rela → Rela → Bool
is_tied Subject r found = (found.symbol == r.symbol) && int_eq found.addend r.addend
is_tied Symbol r found =
    ((found.symbol == r.symbol) && int_eq found.addend r.addend) && int_eq r.addend (pos 0)
is_tied Mark r found = true

-- a relocation is a member of a sequence that begins at an offset
abbrev pub is_member : Member → ℕ → Rela → Option Rela → Bool
is_member m offset r None = false
is_member m offset r (Some found) =
    (found.offset == offset + m.distance) && ((found.r_type == m.r_type) && is_tied m.tie r found)

-- those from a place on are all there, of a sequence whose first relocation has an index
abbrev pub are_members : List Member → List ℕ → ℕ → ℕ → ℕ → Rela → Bool
are_members [] bytes first place offset r = true
are_members (m ∷ ms) bytes first place offset r =
    is_member m offset r (relocation_at bytes (first + place))
    && are_members ms bytes first (place + 1) offset r

-- all of a sequence are there, of which a relocation with an index is at a place
abbrev pub is_among : List Member → ℕ → ℕ → List ℕ → ℕ → Rela → Bool
is_among all place distance bytes n r =
    nat_le place n && (nat_le distance r.offset
    && are_members all bytes (n - place) 0 (r.offset - distance) r)

-- a type is that of a member
abbrev pub is_typed : Tie → Bool
is_typed Mark = false
is_typed tie = true

abbrev pub is_place : Member → ℕ → Bool
is_place m r_type = (m.r_type == r_type) && is_typed m.tie

-- a relocation is at no place of a sequence from one on, or all of the sequence are there
abbrev pub is_whole_in : List Member → List Member → ℕ → List ℕ → ℕ → Rela → Bool
is_whole_in all [] place bytes n r = true
is_whole_in all (m ∷ ms) place bytes n r =
    cond (is_place m r.r_type) (is_among all place m.distance bytes n r)
    (is_whole_in all ms (place + 1) bytes n r)

abbrev pub are_whole : List (List Member) → List ℕ → ℕ → Rela → Bool
are_whole [] bytes n r = true
are_whole (all ∷ others) bytes n r =
    is_whole_in all all 0 bytes n r && are_whole others bytes n r

-- of an architecture
abbrev pub is_whole : Architecture → List ℕ → ℕ → Rela → Bool
is_whole architecture = are_whole (sequences architecture)

-- the same as a fact, by cases, so that of any architecture it stays folded
abbrev pub IsWhole : Architecture → List ℕ → ℕ → Rela → Bool → Type 0
IsWhole AArch64 bytes n r whole = whole ≡ is_whole AArch64 bytes n r
IsWhole LoongArch64 bytes n r whole = whole ≡ is_whole LoongArch64 bytes n r
IsWhole architecture bytes n r whole = whole ≡ true
