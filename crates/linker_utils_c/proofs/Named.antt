-- What is known of a rewrite by its number, and of the status of a call that may apply it.
use Rattle.linker_utils_c.proofs.Imports.{Architecture, MatchOption, MatchResult, None, Option, Relaxation, Some, UnknownRewrite, code, ok_or, rewrite_of_number, sym, ℕ, ◌≡◌}
use Rattle.linker_elf.specs.Machines.{architecture_of}
use Rattle.linker_utils_c.specs.Rewrites.{named_rewrite}

of_found : (P : Relaxation → Type 0) (found : Option Relaxation) (number : ℕ) → MatchOption found (number ≡ code UnknownRewrite) P
    → MatchResult (ok_or found UnknownRewrite) P (λ why. number ≡ code why)
of_found P None number unknown = unknown
of_found P (Some rewrite) number known = known

-- what holds of the rewrite, or that there is none
pub of_named : (machine rewrite n number : ℕ) (architecture : Architecture) (found : Option Relaxation) (P : Relaxation → Type 0)
    → architecture_of machine ≡ Some architecture → found ≡ rewrite_of_number architecture rewrite n
    → MatchOption found (number ≡ code UnknownRewrite) P → MatchResult (named_rewrite machine rewrite n) P (λ why. number ≡ code why)
of_named machine rewrite n number architecture found P of same outcome = rw of (rw (sym same) (of_found P found number outcome))
