-- RISC-V's addresses within 2 KiB of the global pointer or of 0 (RISC-V ELF psABI, "Global-pointer
-- Relaxation" and "Zero-page Relaxation"). Their `lui` and `auipc` are deleted, and each low part
-- takes x3 or x0 as its base: all of a symbol, or none.
use Rattle.std.specs.Prelude.{◌≡◌, ◌↔◌, ℕ, zero, suc, ◌+◌, ◌<◌, ◌/◌, ◌==◌, ◌&&◌, ◌||◌, nat_le}
use Rattle.std.specs.Prelude.{nat_lt, not, if◌then◌else◌, Bool, true, false, IsTrue, List, length}
use Rattle.std.specs.Prelude.{Option, None, Some, slice_get, is_some}
use Rattle.linker_rewriting.specs.Imports.{Addresses, Architecture, Consumed, Decision, IsAscending}
use Rattle.linker_rewriting.specs.Imports.{Kept, NotSurveyed, Rela, RewritingError, Rewritten}
use Rattle.linker_rewriting.specs.Imports.{RewrittenWithSymbol, RiscV, Symbol, SymbolFacts}
use Rattle.linker_rewriting.specs.Imports.{cast_signed, cast_unsigned, difference_64, r_type_of}
use Rattle.linker_rewriting.specs.Imports.{relocation_in, rewritten, riscv_name, sum_64, w64}
use Rattle.linker_elf.specs.Choices.{choice}
use Rattle.linker_elf.specs.declared.riscv64.relocations.RiscVRelocation.TheVariants as riscv64
use Rattle.linker_riscv64.specs.RiscVCalls.{word_at}
use Rattle.linker_riscv64.specs.RiscVFields.{opcode_of, funct3_of, rd_of, rs1_of, stores_base}
use Rattle.linker_utils.specs.RiscVRewrites.{adds_low12, rewrites_word, with_rs1}
use Rattle.linker_utils.specs.declared.riscv64.rewrites.RewriteKind.TheVariants as kinds
use Rattle.linker_rewriting.specs.Agreement.{of_both}
use Rattle.linker_rewriting.specs.Decisions.{AreApartBy, AreDecidedBy, IsRejectedBy, IsRejectedWith}
use Rattle.linker_rewriting.specs.Decisions.{decision_at, AreClear}
use Rattle.linker_rewriting.specs.Facts.{RelaxContext, address_in}
use Rattle.linker_rewriting.specs.RiscVPcrelGroups.{IsHighFrom, offset_of_label, is_beyond}
use Rattle.linker_rewriting.specs.Rewritten.{IsRewritten}
use Rattle.linker_rewriting.specs.Sequences.{is_marked_at}
use Rattle.linker_rewriting.specs.TocIndirection.{AreNotedBy, AreSurveyedBy, subject_of, word_stays}
use Rattle.linker_rewriting.specs.declared.global_pointer.Part.{Part}
use Rattle.linker_rewriting.specs.declared.global_pointer.Part.TheVariants.{High, Low, Labelled}
use Rattle.linker_utils.specs.declared.architecture.Relaxation.TheVariants as relaxations

-- ---- parts of an address

-- What a low part has until addresses are final, for which the psABI has no name: 47 and 48, which
-- `elf.h` names R_RISCV_GPREL_I and R_RISCV_GPREL_S.
abbrev pub gprel_i : ℕ
gprel_i = 47

abbrev pub gprel_s : ℕ
gprel_s = 48

abbrev pub relative_high : ℕ
relative_high = r_type_of (riscv_name riscv64.R_RISCV_PCREL_HI20)

-- What the instruction of a relocation is of an address: a high part with its opcode, `lui` or
-- `auipc`, or a low part with the type that its relocation gets.
abbrev pub part_of : Architecture → ℕ → Option Part
part_of RiscV r_type =
    if r_type_of (riscv_name riscv64.R_RISCV_HI20) == r_type then Some (High 0x37)
    else (if relative_high == r_type then Some (High 0x17)
    else (if r_type_of (riscv_name riscv64.R_RISCV_LO12_I) == r_type then Some (Low gprel_i)
    else (if r_type_of (riscv_name riscv64.R_RISCV_LO12_S) == r_type then Some (Low gprel_s)
    else (if r_type_of (riscv_name riscv64.R_RISCV_PCREL_LO12_I) == r_type
    then Some (Labelled gprel_i)
    else (if r_type_of (riscv_name riscv64.R_RISCV_PCREL_LO12_S) == r_type
    then Some (Labelled gprel_s)
    else None)))))
part_of architecture r_type = None

-- the high part at the label of a low part
abbrev pub IsLabelled : Addresses → List Symbol → List ℕ → Rela → Option Rela → Type 0
IsLabelled addresses values bytes r None =
    IsAscending bytes
    → IsHighFrom bytes relative_high (offset_of_label addresses (slice_get values r.symbol)) None
IsLabelled addresses values bytes r (Some part) =
    IsAscending bytes → (high : ℕ)
    × IsHighFrom bytes relative_high (offset_of_label addresses (slice_get values r.symbol))
    (Some high)
    × (part ≡ relocation_in bytes high)

-- the relocation whose symbol and addend are those of a part
abbrev pub IsSubject : Addresses → List Symbol → List ℕ → Rela → Part → Option Rela → Type 0
IsSubject addresses values bytes r (High opcode) subject = subject ≡ Some r
IsSubject addresses values bytes r (Low r_type) subject = subject ≡ Some r
IsSubject addresses values bytes r (Labelled r_type) subject =
    IsLabelled addresses values bytes r subject

-- a part with its subject; none where the relocation is of no address
abbrev pub IsMemberBy : Addresses → List Symbol → List ℕ → Rela → Option Part
    → Option (Part × Rela) → Type 0
IsMemberBy addresses values bytes r None member = member ≡ None
IsMemberBy addresses values bytes r (Some part) None = IsSubject addresses values bytes r part None
IsMemberBy addresses values bytes r (Some part) (Some member) =
    (member.0 ≡ part) × IsSubject addresses values bytes r part (Some (member.1))

abbrev pub IsMember : RelaxContext → List ℕ → Rela → Option (Part × Rela) → Type 0
IsMember s bytes r =
    IsMemberBy s.addresses s.values bytes r (part_of s.architecture r.r_type)

-- ---- what is required of a part

-- 12 signed bits hold the distance of an address from another one
abbrev pub is_near : ℕ → ℕ → Bool
is_near base address = nat_lt (sum_64 (difference_64 address base) 0x800) 0x1000

-- nothing replaces the symbol at run time, and its address is that of data or of code
abbrev pub is_bound : SymbolFacts → Symbol → Bool
is_bound symbol value =
    (symbol.is_local || symbol.is_undefined_weak)
    && (not symbol.is_ifunc && not value.is_thread_local)

-- S + A
abbrev pub address_of : Addresses → Rela → Symbol → ℕ
address_of addresses r value =
    sum_64 (address_in addresses value) (cast_unsigned w64 r.addend)

-- x3 or x0 reaches S + A
abbrev pub is_reached : RelaxContext → ℕ → Rela → Bool
is_reached s gp r =
    of_both (λ symbol value. is_bound symbol value
    && (is_near gp (address_of s.addresses r value) || is_near 0 (address_of s.addresses r value)))
    (slice_get s.symbols r.symbol) (slice_get s.values r.symbol)

-- four bytes from an offset on are in the section
abbrev pub has_word : List ℕ → ℕ → Bool
has_word section o = nat_le (o + 4) (length section)

-- an instruction with an opcode, of another register than x0 and x3
abbrev pub is_high_word : ℕ → ℕ → Bool
is_high_word opcode word =
    (opcode_of word == opcode) && (not (rd_of word == 0) && not (rd_of word == 3))

-- Its bits 7 to 11 are no integer register that it writes: it is a store, or loads a number of
-- floating point.
abbrev pub writes_none : ℕ → Bool
writes_none word =
    (opcode_of word == 0x23) || ((opcode_of word == 0x27) || (opcode_of word == 0x07))

-- an instruction that adds 12 bits to another register than x0, doesn't store what that holds, and
-- doesn't write x3
abbrev pub is_low_word : ℕ → Bool
is_low_word word =
    adds_low12 (opcode_of word) (funct3_of word)
    && (not (rs1_of word == 0) && (not (stores_base word)
    && (writes_none word || not (rd_of word == 3))))

-- The instruction is one of such a part. The base of a low part with a label is what its high part
-- writes.
abbrev pub is_expected : List ℕ → Rela → Part → Rela → Bool
is_expected section r (High opcode) subject =
    has_word section r.offset && is_high_word opcode (word_at section r.offset)
is_expected section r (Low r_type) subject =
    has_word section r.offset && is_low_word (word_at section r.offset)
is_expected section r (Labelled r_type) subject =
    has_word section r.offset && (is_low_word (word_at section r.offset)
    && (has_word section subject.offset
    && (rs1_of (word_at section r.offset) == rd_of (word_at section subject.offset))))

-- It can be rewritten, if all of its symbol can: in an executable with fixed addresses it is
-- marked, in reach, and of an expected instruction, in a section whose relocations ascend, and is
-- searched for labels.
abbrev pub fits : RelaxContext → ℕ → Bool → List ℕ → List ℕ → ℕ → Rela → Part × Rela → Bool
fits s gp ascends bytes section n r member =
    ascends && (not (is_beyond bytes r.offset n) && (s.output.is_executable && (s.output.is_fixed
    && (is_marked_at s.architecture bytes n r && (is_reached s gp (member.1)
    && is_expected section r (member.0) (member.1))))))

-- ---- symbols that stay

-- the symbol that a part keeps, since it doesn't fit
abbrev pub kept_by : RelaxContext → ℕ → Bool → List ℕ → List ℕ → ℕ → Rela → Option (Part × Rela)
    → Option ℕ
kept_by s gp ascends bytes section n r None = None
kept_by s gp ascends bytes section n r (Some member) =
    if fits s gp ascends bytes section n r member then None else Some (member.1).symbol

pub record IsKeepingSymbol (s : RelaxContext) (gp : ℕ) (bytes section : List ℕ) (n : ℕ) (r : Rela)
    (symbol : Option ℕ) : Type 0 where
  pub ascends : Bool
  pub is_ascending : IsTrue ascends ↔ IsAscending bytes
  pub member : Option (Part × Rela)
  pub is_member : IsMember s bytes r member
  pub keeps : symbol ≡ kept_by s gp ascends bytes section n r member

-- symbols that parts keep
abbrev pub KeepsSymbol : RelaxContext → ℕ → List ℕ → List ℕ → ℕ → Option ℕ → Type 0
KeepsSymbol s gp bytes section n =
    IsKeepingSymbol s gp bytes section n (relocation_in bytes n)

-- They are noted. What stayed before stays, and what else stays has a cause.
abbrev pub AreSymbolsSurveyed : RelaxContext → ℕ → List ℕ → List ℕ → List Bool → List Bool → ℕ
    → Type 0
AreSymbolsSurveyed s gp bytes section = AreSurveyedBy (KeepsSymbol s gp bytes section)

-- ---- decisions

-- A high part goes. A low part is of the symbol and the addend of its subject.
abbrev pub part_decision : Part → Rela → Decision
part_decision (High opcode) subject = Rewritten (choice (relaxations.RiscV kinds.Delete) 0)
part_decision (Low r_type) subject =
    RewrittenWithSymbol (choice (relaxations.RiscV kinds.NoOp) r_type) (subject_of subject)
part_decision (Labelled r_type) subject =
    RewrittenWithSymbol (choice (relaxations.RiscV kinds.NoOp) r_type) (subject_of subject)

-- none if its symbol doesn't stay, but it doesn't fit
abbrev pub decided_by : RelaxContext → ℕ → Bool → List Bool → List ℕ → List ℕ → ℕ → Rela
    → Option (Part × Rela) → Option Decision
decided_by s gp ascends kept bytes section n r None = Some Kept
decided_by s gp ascends kept bytes section n r (Some member) =
    if word_stays kept (member.1).symbol then Some Kept
    else (if fits s gp ascends bytes section n r member
    then Some (part_decision (member.0) (member.1)) else None)

pub record IsPartDecided (s : RelaxContext) (gp : ℕ) (kept : List Bool) (bytes section : List ℕ) (n : ℕ)
    (r : Rela) (decision : Option Decision) : Type 0 where
  pub ascends : Bool
  pub is_ascending : IsTrue ascends ↔ IsAscending bytes
  pub member : Option (Part × Rela)
  pub is_member : IsMember s bytes r member
  pub decided : decision ≡ decided_by s gp ascends kept bytes section n r member

-- by the rule of parts, those of the relocations with an index below a limit
abbrev pub DecidesPart : RelaxContext → ℕ → List Bool → List ℕ → List ℕ → ℕ → Bool → Decision → Type 0
DecidesPart s gp kept bytes section n taken decision =
    IsPartDecided s gp kept bytes section n (relocation_in bytes n) (Some decision)

abbrev pub ArePartsDecided : RelaxContext → ℕ → List Bool → List ℕ → List ℕ → List Decision → ℕ → Type 0
ArePartsDecided s gp kept bytes section = AreDecidedBy (DecidesPart s gp kept bytes section)

-- ---- instructions that are apart

-- Where the instruction of a part ends, by its offset. That of a part that stays has no bytes here.
abbrev pub part_end : Decision → ℕ → ℕ
part_end (Rewritten chosen) offset = offset + 4
part_end (RewrittenWithSymbol chosen subject) offset = offset + 4
part_end decision offset = offset

-- It begins where its relocation is.
abbrev pub part_start : Decision → ℕ → ℕ
part_start decision offset = offset

-- Those of each part that is rewritten end before those of the next ones begin.
abbrev pub ArePartsApart : List ℕ → List Decision → ℕ → Type 0
ArePartsApart = AreApartBy part_start part_end

-- a relocation after what became of it, where no bytes are rewritten
abbrev pub relocation_by : Decision → Rela → Rela
relocation_by Kept r = r
relocation_by Consumed r = record r { r_type = 0 }
relocation_by (Rewritten chosen) r = record r { r_type = chosen.relocation }
relocation_by (RewrittenWithSymbol chosen subject) r =
    record {
      offset = r.offset;
      r_type = chosen.relocation;
      symbol = subject.symbol;
      addend = subject.addend;
    }

-- what the relocations with an index below a limit become
abbrev pub AreRelocationsBy : List Decision → List ℕ → List ℕ → ℕ → Type 0
AreRelocationsBy decisions before after limit =
    (n : ℕ) → n < limit
    → relocation_in after n ≡ relocation_by (decision_at decisions n) (relocation_in before n)

-- ---- whole symbols

-- of two sections that are decided by one table, each at its address, all parts of a symbol are
-- rewritten, or none is
abbrev pub ArePartsWholeIn : RelaxContext → RelaxContext → List ℕ → List ℕ → List Decision → List Decision
    → ℕ → ℕ → Type 0
ArePartsWholeIn s other bytes others_bytes decisions others limit others_limit =
    IsAscending bytes → IsAscending others_bytes
    → (i j : ℕ) (part other_part : Part) (subject other_subject : Rela)
    → i < limit → j < others_limit
    → IsMember s bytes (relocation_in bytes i) (Some (part, subject))
    → IsMember other others_bytes (relocation_in others_bytes j) (Some (other_part, other_subject))
    → subject.symbol ≡ other_subject.symbol
    → IsRewritten (decision_at decisions i) → IsRewritten (decision_at others j)

-- of one section, all parts of a symbol are rewritten, or none is
abbrev pub ArePartsWhole : RelaxContext → List ℕ → List Decision → ℕ → Type 0
ArePartsWhole s bytes decisions limit =
    ArePartsWholeIn s s bytes bytes decisions decisions limit limit

-- its parts are rewritten as decided, all of a symbol or none
pub record ArePartsRewrittenAs (s : RelaxContext) (gp : ℕ) (kept : List Bool)
    (bytes bytes_after section : List ℕ) (decisions : List Decision) : Type 0 where
  pub decided : ArePartsDecided s gp kept bytes section decisions (length bytes / 24)
  pub whole : ArePartsWhole s bytes decisions (length bytes / 24)
  pub apart : ArePartsApart bytes decisions (length bytes / 24)
  pub clear : AreClear s.architecture bytes section decisions (length bytes / 24)
  pub relocations : AreRelocationsBy decisions bytes bytes_after (length bytes / 24)

-- of any two sections that are decided by one table
abbrev pub ArePartsWholeAcross : Type 0
ArePartsWholeAcross =
    (s other : RelaxContext) (gp : ℕ) (kept : List Bool)
    (bytes section others_bytes others_section : List ℕ) (decisions others : List Decision)
    (limit others_limit : ℕ)
    → ArePartsDecided s gp kept bytes section decisions limit
    → ArePartsDecided other gp kept others_bytes others_section others others_limit
    → ArePartsWholeIn s other bytes others_bytes decisions others limit others_limit

-- ---- errors

abbrev pub ArePartsRejected : RelaxContext → ℕ → List Bool → List ℕ → List ℕ → List Decision → ℕ
    → RewritingError → Type 0
ArePartsRejected s gp kept bytes section decisions room =
    IsRejectedWith (DecidesPart s gp kept bytes section) bytes decisions room
    (IsRejectedBy (DecidesPart s gp kept bytes section)
    (λ n. IsPartDecided s gp kept bytes section n (relocation_in bytes n) None) part_start part_end
    s.architecture bytes section decisions)

-- an error that a section wasn't surveyed comes only where what it keeps isn't all noted
abbrev pub MeansSymbolsUnsurveyed : RelaxContext → ℕ → List ℕ → List ℕ → List Bool → RewritingError
    → Type 0
MeansSymbolsUnsurveyed s gp bytes section kept (NotSurveyed n) =
    IsAscending bytes → ¬ AreNotedBy (KeepsSymbol s gp bytes section) kept (length bytes / 24)
MeansSymbolsUnsurveyed s gp bytes section kept error = Unit {0}

-- ---- bases

-- the type that the relocation of a low part without a base gets
abbrev pub low_r_type : ℕ → Option ℕ
low_r_type r_type =
    if r_type == gprel_i then Some (r_type_of (riscv_name riscv64.R_RISCV_LO12_I))
    else (if r_type == gprel_s then Some (r_type_of (riscv_name riscv64.R_RISCV_LO12_S)) else None)

-- A base register, and the address that it has: x0 where 12 bits hold the address, else x3 where
-- they hold the distance from it.
abbrev pub base_for : ℕ → ℕ → Option (ℕ × ℕ)
base_for gp address =
    if is_near 0 address then Some (0, 0)
    else (if is_near gp address then Some (3, gp) else None)

abbrev pub base_by : Addresses → ℕ → Rela → Option Symbol → Option (ℕ × ℕ)
base_by addresses gp r None = None
base_by addresses gp r (Some value) = base_for gp (address_of addresses r value)

abbrev pub base_of : Addresses → List Symbol → ℕ → Rela → Option (ℕ × ℕ)
base_of addresses values gp r = base_by addresses gp r (slice_get values r.symbol)

-- a relocation is of no such low part, or its instruction is in the section and a base reaches
-- S + A
abbrev pub is_placed_by : List ℕ → Rela → Option ℕ → Option (ℕ × ℕ) → Bool
is_placed_by section r None base = true
is_placed_by section r (Some r_type) base = has_word section r.offset && is_some base

-- by what is known of symbols
abbrev pub is_placed : Addresses → List Symbol → ℕ → List ℕ → Rela → Bool
is_placed addresses values gp section r =
    is_placed_by section r (low_r_type r.r_type) (base_of addresses values gp r)

-- The relocation after it: its value is the distance from the base.
abbrev pub relocation_over : Rela → Option ℕ → Option (ℕ × ℕ) → Rela
relocation_over r None base = r
relocation_over r (Some r_type) None = r
relocation_over r (Some r_type) (Some base) =
    record r {
      r_type = r_type;
      addend = cast_signed w64 (difference_64 (cast_unsigned w64 r.addend) (base.1));
    }

abbrev pub based_relocation : Addresses → List Symbol → ℕ → Rela → Rela
based_relocation addresses values gp r =
    relocation_over r (low_r_type r.r_type) (base_of addresses values gp r)

-- the section with the base in the instruction of one relocation
abbrev pub section_over : List ℕ → Rela → Option ℕ → Option (ℕ × ℕ) → List ℕ
section_over section r None base = section
section_over section r (Some r_type) None = section
section_over section r (Some r_type) (Some base) =
    rewritten (Some (rewrites_word (with_rs1 (base.0)))) section r.offset

abbrev pub based_section : Addresses → List Symbol → ℕ → List ℕ → Rela → List ℕ
based_section addresses values gp section r =
    section_over section r (low_r_type r.r_type) (base_of addresses values gp r)

-- the section once the bases of all relocations with an index below a limit are set
abbrev pub section_based : Addresses → List Symbol → ℕ → List ℕ → List ℕ → ℕ → List ℕ
section_based addresses values gp bytes section zero = section
section_based addresses values gp bytes section (suc n) =
    based_section addresses values gp (section_based addresses values gp bytes section n)
    (relocation_in bytes n)

-- what relocations become
abbrev pub AreBased : Addresses → List Symbol → ℕ → List ℕ → List ℕ → ℕ → Type 0
AreBased addresses values gp before after limit =
    (n : ℕ) → n < limit
    → relocation_in after n ≡ based_relocation addresses values gp (relocation_in before n)

-- all are placed
abbrev pub ArePlaced : Addresses → List Symbol → ℕ → List ℕ → List ℕ → Type 0
ArePlaced addresses values gp bytes section =
    (n : ℕ) → n < length bytes / 24
    → is_placed addresses values gp section (relocation_in bytes n) ≡ true

-- the relocation with an index is the first that isn't placed
pub record IsFirstUnplaced (addresses : Addresses) (values : List Symbol) (gp : ℕ)
    (bytes section : List ℕ) (n : ℕ) : Type 0 where
  pub within : n < length bytes / 24
  pub here : is_placed addresses values gp section (relocation_in bytes n) ≡ false
  pub before : (k : ℕ) → k < n
      → is_placed addresses values gp section (relocation_in bytes k) ≡ true
