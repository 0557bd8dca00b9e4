-- What the two tables of an object's symbols say of the same symbol: the facts that rewrites are
-- chosen by, and those that values are made of.
use Rattle.std.specs.Prelude.{◌≡◌, ℕ, ◌<◌, ◌/◌, ◌==◌, ◌||◌, ◌&&◌, not, Bool, true, false, List}
use Rattle.std.specs.Prelude.{length, Option, Some, None, slice_get}
use Rattle.linker_rewriting.specs.Imports.{Rela, RelaxContext as Passed, Symbol, SymbolFacts}
use Rattle.linker_rewriting.specs.Imports.{relocation_in}

-- Its address isn't that of a definition. A thread-local one that nothing defines is at the thread
-- pointer (`address_in`), so that offsets may be computed as of a definition.
abbrev pub is_absent : SymbolFacts → Symbol → Bool
is_absent facts symbol =
    facts.is_undefined_weak || (symbol.is_undefined_weak && not symbol.is_thread_local)

-- It is defined in the output, and nothing defines it; or `st_other` isn't the same.
abbrev pub contradicts : SymbolFacts → Symbol → Bool
contradicts facts symbol =
    (facts.is_local && is_absent facts symbol) || not (facts.other == symbol.other)

-- what holds of a symbol's entries in both tables; not where one has none
abbrev pub of_both : (SymbolFacts → Symbol → Bool) → Option SymbolFacts → Option Symbol → Bool
of_both test None symbol = false
of_both test (Some facts) None = false
of_both test (Some facts) (Some symbol) = test facts symbol

-- the tables contradict each other about a relocation's symbol
abbrev pub contradict_at : List SymbolFacts → List Symbol → Rela → Bool
contradict_at facts symbols r =
    of_both contradicts (slice_get facts r.symbol) (slice_get symbols r.symbol)

-- about none of the relocations with an index below a limit
abbrev pub AgreeBelow : List SymbolFacts → List Symbol → List ℕ → ℕ → Type 0
AgreeBelow facts symbols bytes limit =
    (n : ℕ) → n < limit → contradict_at facts symbols (relocation_in bytes n) ≡ false

-- about none of a section's relocations
abbrev pub Agree : List SymbolFacts → List Symbol → List ℕ → Type 0
Agree facts symbols bytes = AgreeBelow facts symbols bytes (length bytes / 24)

-- what is said of the two tables that a context has
abbrev pub of_tables {ℓ} : {X : Type ℓ} → (List SymbolFacts → List Symbol → X) → Passed → X
of_tables Is s = Is s.symbols.now s.values.now

-- a symbol is that of the first relocation about which they do
pub record IsContradiction (facts : List SymbolFacts) (symbols : List Symbol) (bytes : List ℕ)
    (symbol : ℕ) : Type 0 where
  pub index : ℕ
  pub within : index < length bytes / 24
  pub agree_before : AgreeBelow facts symbols bytes index
  pub contradict : contradict_at facts symbols (relocation_in bytes index) ≡ true
  pub is_symbol : symbol ≡ (relocation_in bytes index).symbol
