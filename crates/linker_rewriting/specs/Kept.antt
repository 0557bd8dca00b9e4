-- What choices of rewrites read of symbols and of the output, kept until values are written.
use Rattle.std.specs.Prelude.{◌≡◌, ℕ, ◌+◌, ◌*◌, ◌/◌, ◌<◌, ◌^◌, ℤ, Bool, true, false, List, length}
use Rattle.std.specs.Prelude.{slice_get, Option, Some, None, ◌==◌, ◌&&◌, not}
use Rattle.linker_rewriting.specs.Imports.{Addresses, Architecture, OutputFacts, Phase, Rela}
use Rattle.linker_rewriting.specs.Imports.{Symbol, SymbolFacts, ppc64_name, r_type_of}
use Rattle.linker_rewriting.specs.Imports.{relocation_in}
use Rattle.linker_elf.specs.declared.ppc64.relocations.Ppc64Relocation.TheVariants as ppc64
use Rattle.linker_rewriting.specs.Agreement.{Agree, IsContradiction, of_both}
use Rattle.linker_rewriting.specs.Facts.{facts_of, placed_facts, is_imported}
use Rattle.linker_rewriting.specs.declared.kept.FactsSnapshot.{FactsSnapshot}
use Rattle.linker_rewriting.specs.declared.kept.WritingError.{WritingError}
use Rattle.linker_rewriting.specs.declared.kept.WritingError.TheVariants.{Contradiction, Changed}
use Rattle.linker_rewriting.specs.declared.kept.WritingError.TheVariants.{NeedsStub, Section}
use Rattle.linker_section.specs.Sections.{IsFirstRejected}
use Rattle.linker_section.specs.WrittenFields.{IsFirstFault}
use Rattle.linker_elf.specs.declared.elf.architecture.Architecture.TheVariants as architectures

-- ---- the facts of a symbol in a number

abbrev pub bit_if : ℕ → Bool → ℕ
bit_if worth true = worth
bit_if worth false = 0

-- Each fact has a bit: from bit 0 up those of the symbol, with bits 5 to 7 of `st_other` in bits 5
-- to 7, and then those of the output. Bit 15 is 1, so that none of what is kept is 0.
abbrev pub kept_bits : OutputFacts → SymbolFacts → ℕ
kept_bits output symbol =
    2 ^ 15 + bit_if (2 ^ 10) output.has_near_symbols + bit_if (2 ^ 9) output.is_fixed
    + bit_if (2 ^ 8) output.is_executable
    + symbol.other / 32 * 32 + bit_if 16 symbol.is_tls_get_addr + bit_if 8 symbol.is_undefined_weak
    + bit_if 4 symbol.is_absolute + bit_if 2 symbol.is_ifunc + bit_if 1 symbol.is_local

abbrev pub facts_snapshot : OutputFacts → SymbolFacts → FactsSnapshot
facts_snapshot output symbol = record { bits = kept_bits output symbol }

-- ---- the facts of an object

abbrev pub facts_now : OutputFacts → Option SymbolFacts → Option FactsSnapshot
facts_now output None = None
facts_now output (Some symbol) = Some (facts_snapshot output symbol)

abbrev pub AreKept : OutputFacts → List SymbolFacts → List FactsSnapshot → Type 0
AreKept output symbols kept =
    (n : ℕ) → slice_get kept n ≡ facts_now output (slice_get symbols n)

-- What is kept of a relocation's symbol is what holds now. Of a symbol that isn't in the tables no
-- choice read a fact.
abbrev pub IsAsKept : OutputFacts → List SymbolFacts → List FactsSnapshot → Rela → Type 0
IsAsKept output symbols kept r =
    slice_get kept r.symbol ≡ facts_now output (slice_get symbols r.symbol)

-- of the relocations with an index below a limit
abbrev pub AreAsKept : OutputFacts → List SymbolFacts → List FactsSnapshot → List ℕ → ℕ → Type 0
AreAsKept output symbols kept bytes limit =
    (n : ℕ) → n < limit → IsAsKept output symbols kept (relocation_in bytes n)

-- the first of which something else is kept
pub record IsFirstChanged (output : OutputFacts) (symbols : List SymbolFacts)
    (kept : List FactsSnapshot) (bytes : List ℕ) (n : ℕ) : Type 0 where
  pub within : n < length bytes / 24
  pub same_before : AreAsKept output symbols kept bytes n
  pub changed : ¬ IsAsKept output symbols kept (relocation_in bytes n)

-- ---- stubs

-- a function of another file, without a stub that keeps its caller's TOC pointer
abbrev pub needs_stub : SymbolFacts → Symbol → Bool
needs_stub facts symbol =
    is_imported facts && (symbol.stub == 0 && not symbol.is_undefined_weak)

-- an `R_PPC64_REL24` of such a function (64-Bit ELF V2 ABI, "Function Call")
abbrev pub lacks_stub : Architecture → List SymbolFacts → List Symbol → Rela → Bool
lacks_stub architectures.Ppc64 facts symbols r =
    r.r_type == r_type_of (ppc64_name ppc64.R_PPC64_REL24)
    && of_both needs_stub (slice_get facts r.symbol) (slice_get symbols r.symbol)
lacks_stub architecture facts symbols r = false

-- none of the relocations with an index below a limit is one
abbrev pub HaveStubs : Architecture → List SymbolFacts → List Symbol → List ℕ → ℕ → Type 0
HaveStubs architecture facts symbols bytes limit =
    (n : ℕ) → n < limit → lacks_stub architecture facts symbols (relocation_in bytes n) ≡ false

-- the first that is
pub record IsFirstWithoutStub (architecture : Architecture) (facts : List SymbolFacts)
    (symbols : List Symbol) (bytes : List ℕ) (n : ℕ) : Type 0 where
  pub within : n < length bytes / 24
  pub stubs_before : HaveStubs architecture facts symbols bytes n
  pub lacks : lacks_stub architecture facts symbols (relocation_in bytes n) ≡ true

-- ---- errors

-- why values aren't written
abbrev pub IsWritingCause : Architecture → OutputFacts → List SymbolFacts → List FactsSnapshot
    → Addresses → List ℕ → List Symbol → List ℕ → WritingError → Type 0
IsWritingCause architecture output facts kept addresses bytes symbols section
    (Contradiction symbol) =
    IsContradiction facts symbols bytes symbol
IsWritingCause architecture output facts kept addresses bytes symbols section (Changed n) =
    Agree facts symbols bytes × IsFirstChanged output facts kept bytes n
IsWritingCause architecture output facts kept addresses bytes symbols section (NeedsStub n) =
    Agree facts symbols bytes × AreAsKept output facts kept bytes (length bytes / 24)
    × IsFirstWithoutStub architecture facts symbols bytes n
IsWritingCause architecture output facts kept addresses bytes symbols section (Section error) =
    Agree facts symbols bytes × AreAsKept output facts kept bytes (length bytes / 24)
    × HaveStubs architecture facts symbols bytes (length bytes / 24)
    × IsFirstFault architecture addresses bytes symbols section error

-- where a value isn't written it is the first that can't be
abbrev pub IsRejectedOrChanged : Architecture → Addresses → List ℕ → List Symbol → List ℕ
    → WritingError → Type 0
IsRejectedOrChanged architecture addresses bytes symbols section (Section error) =
    IsFirstRejected architecture addresses bytes symbols section error
IsRejectedOrChanged architecture addresses bytes symbols section error = Unit

-- ---- what they tell

-- what choices read of a symbol, in every phase
pub record AreReadAlike (output other : OutputFacts) (symbol another : SymbolFacts) : Type 0 where
  pub early : (addend : ℤ) (marked : Bool)
      → facts_of output symbol addend marked ≡ facts_of other another addend marked
  pub placed : (phase : Phase) (addresses : Addresses) (value : Symbol) (offset : ℕ) (addend : ℤ)
      (marked : Bool) → placed_facts phase output addresses symbol value offset addend marked
      ≡ placed_facts phase other addresses another value offset addend marked
  pub tls_get_addr : symbol.is_tls_get_addr ≡ another.is_tls_get_addr

-- where the same is kept, choices read the same
abbrev pub KeptFactsTell : Type 0
KeptFactsTell =
    (output other : OutputFacts) (symbol another : SymbolFacts)
    → symbol.other < 2 ^ 8 → another.other < 2 ^ 8
    → facts_snapshot output symbol ≡ facts_snapshot other another
    → AreReadAlike output other symbol another
