-- Which groups stay, since one of their instructions can't be rewritten.
use Rattle.std.specs.Prelude.{◌≡◌, ℕ, ◌-◌, ◌<◌, ◌/◌, ◌⊎◌, ◌↔◌, ◌&&◌, ◌||◌, ◌==◌, not, nat_le, Bool}
use Rattle.std.specs.Prelude.{true, false, IsTrue, List, length, Option, Some, None, slice_get}
use Rattle.linker_rewriting.specs.Imports.{Architecture, Choice, GeneralDynamic, Group, Grouped}
use Rattle.linker_rewriting.specs.Imports.{IfGroupMatches, InitialExec, LocalDynamic, NotSurveyed}
use Rattle.linker_rewriting.specs.Imports.{OutputFacts, Phase, Ppc64, PreLayout, Rela, Relaxation}
use Rattle.linker_rewriting.specs.Imports.{RewritingError, Scope, SymbolFacts, UnrelaxableGroups}
use Rattle.linker_rewriting.specs.Imports.{ppc64_name, r_type_of, relocation_in}
use Rattle.linker_rewriting.specs.Candidates.{IsCandidate, IsMatched, calls_tls_get_addr}
use Rattle.linker_rewriting.specs.Facts.{RelaxContext, pre_layout}
use Rattle.linker_rewriting.specs.Groups.{IsScopeIn, stays_at, symbol_of_group}
use Rattle.linker_elf.specs.declared.ppc64.relocations.Ppc64Relocation.TheVariants as ppc64

-- ---- what keeps groups

-- a relocation of PowerPC64 marks the call of `__tls_get_addr` at an offset
abbrev pub marks_call : ℕ → Rela → Bool
marks_call offset mark =
    (mark.r_type == r_type_of (ppc64_name ppc64.R_PPC64_TLSGD)
    || mark.r_type == r_type_of (ppc64_name ppc64.R_PPC64_TLSLD)) && (mark.offset == offset)

-- the relocation before is the mark at the same place
abbrev pub is_marked : List ℕ → ℕ → Rela → Bool
is_marked bytes n r = nat_le 1 n && marks_call r.offset (relocation_in bytes (n - 1))

-- PowerPC64: a use of `__tls_get_addr`. Without a mark nobody knows whose address it is called for
-- (64-Bit ELF V2 ABI, "TLS Linkage Optimizations").
abbrev pub needs_mark : Phase → Architecture → Option SymbolFacts → Bool
needs_mark PreLayout Ppc64 = calls_tls_get_addr
needs_mark phase architecture = λ symbol. false

abbrev pub is_unmarked : RelaxContext → List ℕ → ℕ → Rela → Bool
is_unmarked s bytes n r =
    needs_mark s.phase s.architecture (slice_get s.symbols r.symbol) && not (is_marked bytes n r)

abbrev pub IsUnmarked : RelaxContext → List ℕ → ℕ → Rela → Bool → Type 0
IsUnmarked s bytes n r unmarked = unmarked ≡ is_unmarked s bytes n r

-- it keeps these
abbrev pub IsThreadLocal : Group → Type 0
IsThreadLocal InitialExec = Unit {0}
IsThreadLocal GeneralDynamic = Unit {0}
IsThreadLocal LocalDynamic = Unit {0}
IsThreadLocal group = ⊥

abbrev pub HasRewrite : RelaxContext → List ℕ → List ℕ → ℕ → Rela → Scope → Type 0
HasRewrite s bytes section n r (Grouped group) =
    (chosen : Choice Relaxation ℕ) × IsCandidate s bytes section n r (Some chosen)
HasRewrite s bytes section n r (IfGroupMatches group) = IsMatched s bytes section n r true
HasRewrite s bytes section n r scope = Unit {0}

-- the kind of groups that a relocation keeps, since it has no rewrite, though it is of one
abbrev pub IsKeeping : RelaxContext → List ℕ → List ℕ → ℕ → Rela → Option Group → Type 0
IsKeeping s bytes section n r (Some group) =
    (IsScopeIn s.architecture s.phase r.r_type (Grouped group)
    × IsCandidate s bytes section n r None)
    ⊎ (IsScopeIn s.architecture s.phase r.r_type (IfGroupMatches group)
    × IsMatched s bytes section n r false)
IsKeeping s bytes section n r None =
    (scope : Scope) × IsScopeIn s.architecture s.phase r.r_type scope
    × HasRewrite s bytes section n r scope

-- ---- tables before and after

-- what stays is what stayed and these groups
abbrev pub AreKeptToo : List UnrelaxableGroups → List UnrelaxableGroups → (Group → ℕ → Type 0) → Type 0
AreKeptToo before after IsAdded =
    (group : Group) (symbol : ℕ)
    → (IsTrue (stays_at after group symbol)
    ↔ (IsTrue (stays_at before group symbol) ⊎ IsAdded group symbol))

abbrev pub IsGroup : Group → ℕ → Group → ℕ → Type 0
IsGroup group symbol g s = (g ≡ group) × (s ≡ symbol)

-- that of a kind among a symbol's
abbrev pub IsGroupOf : Option Group → ℕ → Group → ℕ → Type 0
IsGroupOf None symbol g s = ⊥
IsGroupOf (Some group) symbol g s = IsGroup group (symbol_of_group group symbol) g s

-- all of thread-local storage in the object
abbrev pub IsOfThreads : Bool → Group → ℕ → Type 0
IsOfThreads keeps g s = (keeps ≡ true) × IsThreadLocal g × (s ≡ 0)

-- what a relocation keeps stays
abbrev pub StaysBy : List UnrelaxableGroups → ℕ → Option Group → Type 0
StaysBy after symbol None = Unit {0}
StaysBy after symbol (Some group) = IsTrue (stays_at after group (symbol_of_group group symbol))

abbrev pub AllStayIf : Bool → List UnrelaxableGroups → Type 0
AllStayIf false after = Unit {0}
AllStayIf true after = (group : Group) → IsThreadLocal group → IsTrue (stays_at after group 0)

pub record IsNoted (s : RelaxContext) (bytes section : List ℕ) (after : List UnrelaxableGroups) (n : ℕ)
    : Type 0 where
  pub group : Option Group
  pub is_keeping : IsKeeping s bytes section n (relocation_in bytes n) group
  pub stays : StaysBy after (relocation_in bytes n).symbol group
  pub unmarked : Bool
  pub is_unmarked : IsUnmarked s bytes n (relocation_in bytes n) unmarked
  pub all_stay : AllStayIf unmarked after

-- of the relocations with an index below a limit each that keeps a group is noted
abbrev pub AreNoted : RelaxContext → List ℕ → List ℕ → List UnrelaxableGroups → ℕ → Type 0
AreNoted s bytes section after limit = (n : ℕ) → n < limit → IsNoted s bytes section after n

-- a relocation is why a group stays
abbrev pub IsCause : RelaxContext → List ℕ → List ℕ → ℕ → Group → ℕ → Type 0
IsCause s bytes section n group symbol =
    (IsKeeping s bytes section n (relocation_in bytes n) (Some group)
    × (symbol ≡ symbol_of_group group (relocation_in bytes n).symbol))
    ⊎ (IsUnmarked s bytes n (relocation_in bytes n) true × IsThreadLocal group × (symbol ≡ 0))

-- They are noted. What stayed before stays, and what else stays has a cause.
pub record IsSurveyedIn (s : RelaxContext) (bytes section : List ℕ) (before after : List UnrelaxableGroups)
    (limit : ℕ) : Type 0 where
  pub noted : AreNoted s bytes section after limit
  pub stayed : (group : Group) (symbol : ℕ) → IsTrue (stays_at before group symbol)
      → IsTrue (stays_at after group symbol)
  pub caused : (group : Group) (symbol : ℕ) → IsTrue (stays_at after group symbol)
      → IsTrue (stays_at before group symbol)
      ⊎ ((n : ℕ) × (n < limit) × IsCause s bytes section n group symbol)

-- before addresses are known
abbrev pub IsSurveyed : Architecture → OutputFacts → List SymbolFacts → List ℕ → List ℕ
    → List UnrelaxableGroups → List UnrelaxableGroups → ℕ → Type 0
IsSurveyed architecture output symbols = IsSurveyedIn (pre_layout architecture output symbols)

-- ---- surveyed sections

-- an error that a section wasn't surveyed comes only where what it keeps isn't all noted
abbrev pub MeansUnsurveyed : RelaxContext → List ℕ → List ℕ → List UnrelaxableGroups → RewritingError → Type 0
MeansUnsurveyed s bytes section kept (NotSurveyed n) =
    ¬ AreNoted s bytes section kept (length bytes / 24)
MeansUnsurveyed s bytes section kept error = Unit {0}

-- what is noted of one section is still noted when another one has been surveyed
abbrev pub NotesStay : Type 0
NotesStay =
    (s other : RelaxContext) (bytes section others_bytes others_section : List ℕ)
    (mid after : List UnrelaxableGroups) (limit others_limit : ℕ)
    → AreNoted s bytes section mid limit
    → IsSurveyedIn other others_bytes others_section mid after others_limit
    → AreNoted s bytes section after limit

-- two sections can be surveyed in either order: the same groups stay
abbrev pub SurveysCommute : Type 0
SurveysCommute =
    (s other : RelaxContext) (bytes section others_bytes others_section : List ℕ)
    (before mid after mid_too after_too : List UnrelaxableGroups) (limit others_limit : ℕ)
    → IsSurveyedIn s bytes section before mid limit
    → IsSurveyedIn other others_bytes others_section mid after others_limit
    → IsSurveyedIn other others_bytes others_section before mid_too others_limit
    → IsSurveyedIn s bytes section mid_too after_too limit
    → (group : Group) (symbol : ℕ)
    → (IsTrue (stays_at after group symbol) ↔ IsTrue (stays_at after_too group symbol))
