-- Which error is the first.
use Rattle.linker_rewriting.proofs.Imports.{Agree, Bool, Contradiction, Decision, IsRejectedFirst, IsRejectedWith, List, NotSurveyed, Overlaps, RewritingError, Symbol, SymbolFacts, TooShort, inl, ℕ}

-- where the tables agree another error is
pub rejected_first : (facts : List SymbolFacts) (symbols : List Symbol) (bytes : List ℕ)
    (IsError : RewritingError → Type 0) (error : RewritingError)
    → ((n : ℕ) → ¬ IsError (Contradiction n)) → Agree facts symbols bytes → IsError error
    → IsRejectedFirst facts symbols bytes IsError error
rejected_first facts symbols bytes IsError TooShort never agree is = (agree, is)
rejected_first facts symbols bytes IsError (NotSurveyed n) never agree is = (agree, is)
rejected_first facts symbols bytes IsError (Overlaps n) never agree is = (agree, is)
rejected_first facts symbols bytes IsError (Contradiction n) never agree is = absurd (never n is)

-- an error that has nothing to do with the room for deletions
pub rejected_with : (Decides : ℕ → Bool → Decision → Type 0) (bytes : List ℕ)
    (decisions : List Decision) (room : ℕ) (IsError : RewritingError → Type 0)
    (error : RewritingError) → IsError error
    → IsRejectedWith Decides bytes decisions room IsError error
rejected_with Decides bytes decisions room IsError TooShort is = inl is
rejected_with Decides bytes decisions room IsError (NotSurveyed n) is = is
rejected_with Decides bytes decisions room IsError (Overlaps n) is = is
rejected_with Decides bytes decisions room IsError (Contradiction n) is = is
