-- Instructions that load addresses from the words of a section, as from those of PowerPC64's `.toc`
-- (64-bit ELF V2 ABI for Power, "TOC"). Nothing changes such a word, so that the instructions may
-- compute its address: all that load it, or none.
use Rattle.std.specs.Prelude.{◌≡◌, ℕ, ℤ, ◌<◌, ◌/◌, ◌⊎◌, ◌==◌, if◌then◌else◌, Bool, true, false}
use Rattle.std.specs.Prelude.{List, length, Option, None, Some, slice_get}
use Rattle.linker_rewriting.specs.Imports.{Addresses, Architecture, Choice, Decision, IsAscending}
use Rattle.linker_rewriting.specs.Imports.{Kept, NotSurveyed, Ppc64, Rela, Relaxation}
use Rattle.linker_rewriting.specs.Imports.{RewritingError, RewrittenWithSymbol, Subject, Symbol}
use Rattle.linker_rewriting.specs.Imports.{cast_unsigned, difference_64, ppc64_name, r_type_of}
use Rattle.linker_rewriting.specs.Imports.{relocation_in, sum_64, w64}
use Rattle.linker_elf.specs.declared.ppc64.relocations.Ppc64Relocation.TheVariants as ppc64
use Rattle.linker_rewriting.specs.Candidates.{IsCandidateWith}
use Rattle.linker_rewriting.specs.Decisions.{AreDecidedBy, IsRejectedBy, IsRejectedFirst}
use Rattle.linker_rewriting.specs.Decisions.{decision_at, start_by, end_by, AreApart, AreClear}
use Rattle.linker_rewriting.specs.Facts.{RelaxContext, address_in, link_facts}
use Rattle.linker_rewriting.specs.RiscVPcrelGroups.{IsHighFrom}
use Rattle.linker_rewriting.specs.Rewritten.{AreRelocationsAfter, AreDone, IsRewritten, OthersStay}

-- ---- loads

-- the `r_type` of a relocation for an entry of the GOT in place of one for a word
abbrev pub entry_r_type : Architecture → ℕ → Option ℕ
entry_r_type Ppc64 r_type =
    if r_type_of (ppc64_name ppc64.R_PPC64_TOC16_HA) == r_type
    then Some (r_type_of (ppc64_name ppc64.R_PPC64_GOT16_HA))
    else (if r_type_of (ppc64_name ppc64.R_PPC64_TOC16_LO) == r_type
    then Some (r_type_of (ppc64_name ppc64.R_PPC64_GOT16_LO))
    else (if r_type_of (ppc64_name ppc64.R_PPC64_TOC16_LO_DS) == r_type
    then Some (r_type_of (ppc64_name ppc64.R_PPC64_GOT16_LO_DS))
    else None))
entry_r_type architecture r_type = None

-- the `r_type` of a word's own relocation
abbrev pub word_r_type : ℕ
word_r_type = r_type_of (ppc64_name ppc64.R_PPC64_ADDR64)

-- how far S + A is after the start of the section of words
abbrev pub offset_after : Addresses → ℕ → ℤ → Option Symbol → Option ℕ
offset_after addresses start addend None = None
offset_after addresses start addend (Some value) =
    Some
    (difference_64 (sum_64 (address_in addresses value) (cast_unsigned w64 addend)) start)

abbrev pub word_offset : Addresses → List Symbol → ℕ → Rela → Option ℕ
word_offset addresses values start r =
    offset_after addresses start r.addend (slice_get values r.symbol)

-- the relocation, by its index, of the word that a relocation refers to
abbrev pub IsWordOf : RelaxContext → ℕ → List ℕ → Rela → Option ℕ → Type 0
IsWordOf s start words r word =
    IsAscending words
    → IsHighFrom words word_r_type (word_offset s.addresses s.values start r) word

-- what a relocation loads: the `r_type` for an entry, and the word
abbrev pub IsLoad : RelaxContext → ℕ → List ℕ → Rela → Option (ℕ × ℕ) → Type 0
IsLoad s start words r None =
    (entry_r_type s.architecture r.r_type ≡ None) ⊎ IsWordOf s start words r None
IsLoad s start words r (Some load) =
    (entry_r_type s.architecture r.r_type ≡ Some (load.0))
    × IsWordOf s start words r (Some (load.1))

-- The rewrite of such a load, if each other one of the word is rewritten: that of an entry of the
-- GOT with the word's address.
abbrev pub IsLoadCandidate : RelaxContext → List ℕ → List ℕ → List ℕ → ℕ → Rela → ℕ × ℕ
    → Option (Choice Relaxation ℕ) → Type 0
IsLoadCandidate s words bytes section n r load candidate =
    IsCandidateWith s bytes section n (record r { r_type = load.0 })
    (link_facts s r (relocation_in words (load.1)) false) candidate

-- ---- words that stay

-- by its relocation's index; one without an entry stays
abbrev pub stays_if : Option Bool → Bool
stays_if None = true
stays_if (Some stays) = stays

abbrev pub word_stays : List Bool → ℕ → Bool
word_stays kept word = stays_if (slice_get kept word)

abbrev pub HasLoadRewrite : RelaxContext → List ℕ → List ℕ → List ℕ → ℕ → Rela → Option (ℕ × ℕ) → Type 0
HasLoadRewrite s words bytes section n r None = Unit {0}
HasLoadRewrite s words bytes section n r (Some load) =
    (chosen : Choice Relaxation ℕ) × IsLoadCandidate s words bytes section n r load (Some chosen)

-- the word that a relocation keeps, since it loads it and has no rewrite
abbrev pub IsKeepingWord : RelaxContext → ℕ → List ℕ → List ℕ → List ℕ → ℕ → Rela → Option ℕ → Type 0
IsKeepingWord s start words bytes section n r None =
    (load : Option (ℕ × ℕ)) × IsLoad s start words r load
    × HasLoadRewrite s words bytes section n r load
IsKeepingWord s start words bytes section n r (Some word) =
    (entry : ℕ) × IsLoad s start words r (Some (entry, word))
    × IsLoadCandidate s words bytes section n r (entry, word) None

abbrev pub WordUnchangedBy : List Bool → Option ℕ → Type 0
WordUnchangedBy after None = Unit {0}
WordUnchangedBy after (Some word) = word_stays after word ≡ true

-- what the relocation with an index keeps is noted
pub record IsNotedBy (Keeps : ℕ → Option ℕ → Type 0) (after : List Bool) (n : ℕ) : Type 0 where
  pub word : Option ℕ
  pub is_keeping : Keeps n word
  pub stays : WordUnchangedBy after word

-- of the relocations with an index below a limit each that keeps a word is noted
abbrev pub AreNotedBy : (ℕ → Option ℕ → Type 0) → List Bool → ℕ → Type 0
AreNotedBy Keeps after limit = (n : ℕ) → n < limit → IsNotedBy Keeps after n

-- They are noted. What stayed before stays, and what else stays has a cause.
pub record AreSurveyedBy (Keeps : ℕ → Option ℕ → Type 0) (before after : List Bool) (limit : ℕ)
    : Type 0 where
  pub noted : AreNotedBy Keeps after limit
  pub stayed : (word : ℕ) → word_stays before word ≡ true → word_stays after word ≡ true
  pub caused : (word : ℕ) → word_stays after word ≡ true
      → (word_stays before word ≡ true) ⊎ ((n : ℕ) × (n < limit) × Keeps n (Some word))

-- words that loads keep
abbrev pub KeepsWord : RelaxContext → ℕ → List ℕ → List ℕ → List ℕ → ℕ → Option ℕ → Type 0
KeepsWord s start words bytes section n =
    IsKeepingWord s start words bytes section n (relocation_in bytes n)

abbrev pub AreLoadsSurveyed : RelaxContext → ℕ → List ℕ → List ℕ → List ℕ → List Bool → List Bool → ℕ
    → Type 0
AreLoadsSurveyed s start words bytes section =
    AreSurveyedBy (KeepsWord s start words bytes section)

-- ---- decisions

-- the relocation after a rewrite is of the symbol and the addend of the word's
abbrev pub subject_of : Rela → Subject
subject_of r = record { symbol = r.symbol; addend = r.addend }

-- of a load of a word that stays, and of one that doesn't: it has a rewrite
abbrev pub IsWordDecision : RelaxContext → List ℕ → List ℕ → List ℕ → ℕ → Rela → ℕ × ℕ → Bool → Decision
    → Type 0
IsWordDecision s words bytes section n r load true decision = decision ≡ Kept
IsWordDecision s words bytes section n r load false decision =
    (chosen : Choice Relaxation ℕ)
    × IsLoadCandidate s words bytes section n r load (Some chosen)
    × (decision ≡ RewrittenWithSymbol chosen (subject_of (relocation_in words (load.1))))

abbrev pub IsDecisionBy : RelaxContext → List ℕ → List Bool → List ℕ → List ℕ → ℕ → Rela
    → Option (ℕ × ℕ) → Decision → Type 0
IsDecisionBy s words kept bytes section n r None decision = decision ≡ Kept
IsDecisionBy s words kept bytes section n r (Some load) decision =
    IsWordDecision s words bytes section n r load (word_stays kept (load.1)) decision

abbrev pub IsLoadDecision : RelaxContext → ℕ → List ℕ → List Bool → List ℕ → List ℕ → ℕ → Rela
    → Decision → Type 0
IsLoadDecision s start words kept bytes section n r decision =
    (load : Option (ℕ × ℕ)) × IsLoad s start words r load
    × IsDecisionBy s words kept bytes section n r load decision

-- its word doesn't stay, but it has no rewrite
abbrev pub IsLoadNotSurveyed : RelaxContext → ℕ → List ℕ → List Bool → List ℕ → List ℕ
    → ℕ → Rela → Type 0
IsLoadNotSurveyed s start words kept bytes section n r =
    (load : ℕ × ℕ) × IsLoad s start words r (Some load)
    × (word_stays kept (load.1) ≡ false)
    × IsLoadCandidate s words bytes section n r load None

-- by the rule of loads, those of the relocations with an index below a limit
abbrev pub DecidesLoad : RelaxContext → ℕ → List ℕ → List Bool → List ℕ → List ℕ → ℕ → Bool
    → Decision → Type 0
DecidesLoad s start words kept bytes section n taken decision =
    IsLoadDecision s start words kept bytes section n (relocation_in bytes n) decision

abbrev pub AreLoadsDecided : RelaxContext → ℕ → List ℕ → List Bool → List ℕ → List ℕ → List Decision → ℕ
    → Type 0
AreLoadsDecided s start words kept bytes section =
    AreDecidedBy (DecidesLoad s start words kept bytes section)

-- ---- errors

abbrev pub AreLoadsRejected : RelaxContext → ℕ → List ℕ → List Bool → List ℕ → List ℕ → List Decision
    → RewritingError → Type 0
AreLoadsRejected s start words kept bytes section =
    IsRejectedBy (DecidesLoad s start words kept bytes section)
    (λ n. IsLoadNotSurveyed s start words kept bytes section n (relocation_in bytes n)) start_by
    end_by s.architecture bytes section

-- the tables of symbols contradict each other, or they agree and there is another error
abbrev pub AreLoadsRejectedFirst : RelaxContext → ℕ → List ℕ → List Bool → List ℕ → List ℕ
    → List Decision → RewritingError → Type 0
AreLoadsRejectedFirst s start words kept bytes section decisions =
    IsRejectedFirst s.symbols s.values bytes
    (AreLoadsRejected s start words kept bytes section decisions)

-- an error that a section wasn't surveyed comes only where what it keeps isn't all noted
abbrev pub MeansWordsUnsurveyed : RelaxContext → ℕ → List ℕ → List ℕ → List ℕ → List Bool
    → RewritingError → Type 0
MeansWordsUnsurveyed s start words bytes section kept (NotSurveyed n) =
    IsAscending words
    → ¬ AreNotedBy (KeepsWord s start words bytes section) kept (length bytes / 24)
MeansWordsUnsurveyed s start words bytes section kept error = Unit {0}

-- ---- whole words

-- of two sections that are decided by one table, each at its address, all loads of a word are
-- rewritten, or none is
abbrev pub WordsAreWholeIn : RelaxContext → RelaxContext → ℕ → List ℕ → List ℕ → List ℕ → List Decision
    → List Decision → ℕ → ℕ → Type 0
WordsAreWholeIn s other start words bytes others_bytes decisions others limit others_limit =
    IsAscending words
    → (i j entry other_entry word : ℕ) → i < limit → j < others_limit
    → IsLoad s start words (relocation_in bytes i) (Some (entry, word))
    → IsLoad other start words (relocation_in others_bytes j) (Some (other_entry, word))
    → IsRewritten (decision_at decisions i) → IsRewritten (decision_at others j)

-- of one section, all loads of a word are rewritten, or none is
abbrev pub WordsAreWhole : RelaxContext → ℕ → List ℕ → List ℕ → List Decision → ℕ → Type 0
WordsAreWhole s start words bytes decisions limit =
    WordsAreWholeIn s s start words bytes bytes decisions decisions limit limit

-- its loads are rewritten as decided, all of a word or none
pub record AreLoadsRewrittenAs (s : RelaxContext) (start : ℕ) (words : List ℕ) (kept : List Bool)
    (bytes bytes_after section section_after : List ℕ) (decisions : List Decision) : Type 0 where
  pub decided : AreLoadsDecided s start words kept bytes section decisions (length bytes / 24)
  pub whole : WordsAreWhole s start words bytes decisions (length bytes / 24)
  pub apart : AreApart bytes decisions (length bytes / 24)
  pub clear : AreClear s.architecture bytes section decisions (length bytes / 24)
  pub relocations : AreRelocationsAfter decisions bytes bytes_after (length bytes / 24)
  pub done : AreDone bytes decisions section section_after (length bytes / 24)
  pub others : OthersStay bytes decisions section section_after (length bytes / 24)

-- of any two sections that are decided by one table
abbrev pub WordsAreWholeAcross : Type 0
WordsAreWholeAcross =
    (s other : RelaxContext) (start : ℕ) (words : List ℕ) (kept : List Bool)
    (bytes section others_bytes others_section : List ℕ) (decisions others : List Decision)
    (limit others_limit : ℕ)
    → AreLoadsDecided s start words kept bytes section decisions limit
    → AreLoadsDecided other start words kept others_bytes others_section others others_limit
    → WordsAreWholeIn s other start words bytes others_bytes decisions others limit others_limit
