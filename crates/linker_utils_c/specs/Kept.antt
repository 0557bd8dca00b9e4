-- Values that are written where choices of rewrites would read what they read, in the numbers that
-- C sees.
use Rattle.std.specs.Prelude.{◌≡◌, ℕ, ◌<◌, ◌≤◌, List, length, Result, Ok, Err}
use Rattle.linker_utils_c.specs.Imports.{Addresses, Agree, Architecture, FactsChanged}
use Rattle.linker_utils_c.specs.Imports.{FactsContradict, IsContradiction, ShortMemory, Symbol}
use Rattle.linker_rewriting.specs.Kept.{AreAsKept, IsFirstChanged, HaveStubs, IsFirstWithoutStub}
use Rattle.linker_rewriting.specs.declared.facts.OutputFacts.{OutputFacts}
use Rattle.linker_rewriting.specs.declared.facts.SymbolFacts.{SymbolFacts}
use Rattle.linker_rewriting.specs.declared.kept.FactsSnapshot.{FactsSnapshot}
use Rattle.linker_rewriting.specs.declared.kept.WritingError.{WritingError}
use Rattle.linker_rewriting.specs.declared.kept.WritingError.TheVariants.{Contradiction, Changed}
use Rattle.linker_rewriting.specs.declared.kept.WritingError.TheVariants.{NeedsStub, Section}
use Rattle.linker_section.specs.Sections.{by_index}
use Rattle.linker_utils_c.specs.Sections.{room_of, IsSectionOutcome}
use Rattle.linker_utils_c.specs.Status.{code}
use Rattle.linker_utils_c.specs.declared.status.Status.TheVariants as statuses

-- The tables agree, all facts are as kept, no call lacks its stub, and all values are written or
-- none is; or the index is that of the first symbol or relocation of which one of these isn't so,
-- and none is.
abbrev pub IsRewrittenOutcome : Architecture → OutputFacts → List SymbolFacts → List FactsSnapshot
    → Addresses → List ℕ → List Symbol → List ℕ → List ℕ → ℕ → ℕ → ℕ → Result Unit WritingError
    → Type 0
IsRewrittenOutcome architecture output facts kept addresses bytes symbols before after old_faulty
    faulty status (Ok u) =
    Agree facts symbols bytes × AreAsKept output facts kept bytes (room_of bytes)
    × HaveStubs architecture facts symbols bytes (room_of bytes)
    × IsSectionOutcome architecture addresses bytes (by_index symbols) before after old_faulty
    faulty status (Ok u)
IsRewrittenOutcome architecture output facts kept addresses bytes symbols before after old_faulty
    faulty status (Err (Contradiction symbol)) =
    (status ≡ code FactsContradict) × (faulty ≡ symbol) × (after ≡ before)
    × IsContradiction facts symbols bytes symbol
IsRewrittenOutcome architecture output facts kept addresses bytes symbols before after old_faulty
    faulty status (Err (Changed n)) =
    (status ≡ code FactsChanged) × (faulty ≡ n) × (after ≡ before) × Agree facts symbols bytes
    × IsFirstChanged output facts kept bytes n
IsRewrittenOutcome architecture output facts kept addresses bytes symbols before after old_faulty
    faulty status (Err (NeedsStub n)) =
    (status ≡ code statuses.NeedsStub) × (faulty ≡ n) × (after ≡ before)
    × Agree facts symbols bytes × AreAsKept output facts kept bytes (room_of bytes)
    × IsFirstWithoutStub architecture facts symbols bytes n
IsRewrittenOutcome architecture output facts kept addresses bytes symbols before after old_faulty
    faulty status (Err (Section error)) =
    Agree facts symbols bytes × AreAsKept output facts kept bytes (room_of bytes)
    × HaveStubs architecture facts symbols bytes (room_of bytes)
    × IsSectionOutcome architecture addresses bytes (by_index symbols) before after old_faulty
    faulty status (Err error)

pub record IsRewrittenReturned (architecture : Architecture) (output : OutputFacts)
    (facts : List SymbolFacts) (kept : List FactsSnapshot) (addresses : Addresses) (bytes : List ℕ)
    (symbols : List Symbol) (before after memory : List ℕ) (old_faulty faulty status : ℕ) : Type 0
  where
    pub short : length memory < room_of bytes → (status ≡ code ShortMemory) × (after ≡ before)
        × (faulty ≡ old_faulty)
    pub long : room_of bytes ≤ length memory → (outcome : Result Unit WritingError)
        × IsRewrittenOutcome architecture output facts kept addresses bytes symbols before after
        old_faulty faulty status outcome
