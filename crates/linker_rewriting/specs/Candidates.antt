-- The rewrite of a relocation's instruction, if each other one of its group is rewritten.
use Rattle.std.specs.Prelude.{◌≡◌, ℕ, ◌+◌, ◌⊎◌, Bool, true, false, ◌&&◌, ◌==◌, nat_le, List, length}
use Rattle.std.specs.Prelude.{Option, Some, None, slice_get, is_some, pos}
use Rattle.linker_rewriting.specs.Imports.{Architecture, Choice, IsArchitectureChoice, IsSkippable}
use Rattle.linker_rewriting.specs.Imports.{IsUnchanged, LinkFacts, Rela, Relaxation, SymbolFacts}
use Rattle.linker_rewriting.specs.Imports.{relaxation_deleted, relaxation_skipped, relocation_at}
use Rattle.linker_base.specs.declared.rewrite.DeletedBytes.{DeletedBytes}
use Rattle.linker_rewriting.specs.Facts.{RelaxContext, link_facts}
use Rattle.linker_rewriting.specs.Sequences.{IsWhole, is_marked_in}

abbrev pub calls_tls_get_addr : Option SymbolFacts → Bool
calls_tls_get_addr None = false
calls_tls_get_addr (Some symbol) = symbol.is_tls_get_addr

-- A relocation is that of a call of `__tls_get_addr`, n bytes after an offset: it is there,
-- its type is one that such a call has, and so is its symbol.
abbrev pub IsCallIn : Architecture → List SymbolFacts → ℕ → ℕ → Option Rela → Bool → Type 0
IsCallIn architecture symbols offset distance None found = found ≡ false
IsCallIn architecture symbols offset distance (Some next) found =
    (is_of_call : Bool) × IsSkippable architecture next.r_type is_of_call
    × (found ≡ ((next.offset == offset + distance) && (is_of_call
    && calls_tls_get_addr (slice_get symbols next.symbol))))

-- what a rewrite takes along, n bytes after its offset, is the relocation with the next
-- index
abbrev pub IsTaken : Architecture → List SymbolFacts → List ℕ → ℕ → ℕ → Option ℕ → Bool → Type 0
IsTaken architecture symbols bytes n offset None found = found ≡ true
IsTaken architecture symbols bytes n offset (Some distance) found =
    IsCallIn architecture symbols offset distance (relocation_at bytes (n + 1)) found

-- what is deleted after a rewrite at an offset is in the section
abbrev pub deletes_within : List ℕ → ℕ → Option DeletedBytes → Bool
deletes_within section offset None = true
deletes_within section offset (Some deleted) =
    nat_le (offset + (deleted.start + deleted.count)) (length section)

-- It changes something, what it takes along is there, so is the sequence that the relocation is of,
-- and what it deletes is in the section.
abbrev pub IsCandidateBy : Architecture → List SymbolFacts → List ℕ → List ℕ → ℕ → Rela → LinkFacts
    → Option (Choice Relaxation ℕ) → Type 0
IsCandidateBy architecture symbols bytes section n r facts (Some chosen) =
    IsArchitectureChoice architecture r.r_type section r.offset facts chosen
    × (¬ IsUnchanged r.r_type chosen)
    × IsTaken architecture symbols bytes n r.offset (relaxation_skipped chosen.kind) true
    × IsWhole architecture bytes n r true
    × (deletes_within section r.offset (relaxation_deleted chosen.kind) ≡ true)
IsCandidateBy architecture symbols bytes section n r facts None =
    (chosen : Choice Relaxation ℕ)
    × IsArchitectureChoice architecture r.r_type section r.offset facts chosen
    × (IsUnchanged r.r_type chosen
    ⊎ (IsTaken architecture symbols bytes n r.offset (relaxation_skipped chosen.kind) false
    ⊎ (IsWhole architecture bytes n r false
    ⊎ (deletes_within section r.offset (relaxation_deleted chosen.kind) ≡ false))))

-- none where a table has no entry for the symbol
abbrev pub IsCandidateWith : RelaxContext → List ℕ → List ℕ → ℕ → Rela → Option LinkFacts
    → Option (Choice Relaxation ℕ) → Type 0
IsCandidateWith s bytes section n r None candidate = candidate ≡ None
IsCandidateWith s bytes section n r (Some facts) candidate =
    IsCandidateBy s.architecture s.symbols bytes section n r facts candidate

-- what the rewrite of the relocation with an index is chosen by, by its own symbol and mark
abbrev pub own_facts : RelaxContext → List ℕ → ℕ → Rela → Option LinkFacts
own_facts s bytes n r = link_facts s r r (is_marked_in s.phase s.architecture bytes n r)

-- of that among those in bytes
abbrev pub IsCandidate : RelaxContext → List ℕ → List ℕ → ℕ → Rela
    → Option (Choice Relaxation ℕ) → Type 0
IsCandidate s bytes section n r = IsCandidateWith s bytes section n r (own_facts s bytes n r)

-- the same facts of what is where the GOT's or the TOC's base is, at the distance 0
abbrev pub at_base : Option LinkFacts → Option LinkFacts
at_base None = None
at_base (Some facts) =
    Some (record facts {
      operands = record facts.operands { symbol = facts.operands.got_base; addend = pos 0 };
    })

-- its instruction is one that the rewrite is meant for, whatever the distance
abbrev pub IsMatched : RelaxContext → List ℕ → List ℕ → ℕ → Rela → Bool → Type 0
IsMatched s bytes section n r matched =
    (candidate : Option (Choice Relaxation ℕ))
    × IsCandidateWith s bytes section n r (at_base (own_facts s bytes n r)) candidate
    × (matched ≡ is_some candidate)
