-- A write's outcome, and relocations one after the other.
use Rattle.linker_utils_c.proofs.Imports.{Architecture, AreRelocated, Err, IfErr, IsApplied, IsOutcome, List, Ok, OnOk, Relocation, Result, RowInfo, Success, [], code, refl, sym, ℕ, ℤ, ◌++◌, ◌∷◌}
use Rattle.linker_elf.specs.Relocate.{WritesRow, RejectsValue}
use Rattle.linker_elf.specs.declared.elf.relocate.RelocateError.{RelocateError}

pub outcome_of : (o : Result Unit RelocateError) (row : RowInfo) (v : ℤ) (before after : List ℕ)
    → OnOk o (WritesRow row v before after)
    → IfErr o (RejectsValue row v before after) → IsOutcome o row v before after
outcome_of (Ok u) row v before after ok err = ok
outcome_of (Err error) row v before after ok err = err

-- one more after those that succeeded
pub one_more : (architecture : Architecture) (rs : List Relocation) (r : Relocation) (before middle after : List ℕ)
    → AreRelocated architecture rs before middle → IsApplied architecture r middle after (code Success) → AreRelocated architecture (rs ++ r ∷ []) before after
one_more architecture [] r before middle after done last = (after, rw (sym done) last, refl)
one_more architecture (q ∷ rs) r before middle after done last = (done.0, done.1, one_more architecture rs r done.0 middle after done.2 last)
