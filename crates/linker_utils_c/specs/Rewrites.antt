-- The numbers by which C names rewrites of instructions.
use Rattle.std.specs.Prelude.{◌≡◌, ℕ, List, Option, None, Some, Result, Err}
use Rattle.std.specs.Prelude.{ℤ, ok_or}
use Rattle.linker_base.specs.Rewrite.{Rewrite, CanRewrite, rewritten, offset_after, addend_after}
use Rattle.linker_base.specs.declared.relaxation.RelocationModifier.{RelocationModifier}
use Rattle.linker_base.specs.declared.relaxation.RelocationModifier.TheVariants.{Normal}
use Rattle.linker_base.specs.declared.relaxation.RelocationModifier.TheVariants.{SkipNextRelocation}
use Rattle.linker_utils_c.specs.Imports.{Architecture, CannotApply, DoesNotMatch, Relaxation}
use Rattle.linker_utils_c.specs.Imports.{Status, Success, UnknownArchitecture, UnknownRewrite}
use Rattle.linker_utils_c.specs.Imports.{architecture_of, relaxation_matches, rewrite_of_number}
use Rattle.linker_utils_c.specs.Status.{code}

-- the rewrite of a machine (e_machine), a number and the bytes before the field, or which of the
-- first two is unknown
abbrev pub rewrite_among : Option Architecture → ℕ → ℕ → Result Relaxation Status
rewrite_among None rewrite n = Err UnknownArchitecture
rewrite_among (Some architecture) rewrite n =
    ok_or (rewrite_of_number architecture rewrite n) UnknownRewrite

abbrev pub named_rewrite : ℕ → ℕ → ℕ → Result Relaxation Status
named_rewrite machine rewrite n = rewrite_among (architecture_of machine) rewrite n

abbrev pub modifier_number : RelocationModifier → ℕ
modifier_number Normal = 0
modifier_number SkipNextRelocation = 1

-- the status says whether P holds, and it is another where it doesn't
pub record Tells (P : Type 0) (otherwise : Status) (status : ℕ) : Type 0 where
  pub holds : P → status ≡ code Success
  pub fails : ¬ P → status ≡ code otherwise

-- whether a rewrite can be applied
abbrev pub TakesRewrite : Option Rewrite → List ℕ → ℕ → ℕ → Type 0
TakesRewrite rewrite section offset = Tells (CanRewrite rewrite section offset) CannotApply

-- whether a rewrite is meant for what is at an offset
abbrev pub MatchesRewrite : Relaxation → List ℕ → ℕ → ℕ → Type 0
MatchesRewrite rewrite section offset =
    Tells (relaxation_matches rewrite section offset) DoesNotMatch

-- the section, the offset and the addend after a rewrite
pub record IsRewritten (rewrite : Option Rewrite) (before after : List ℕ) (from to : ℕ)
    (old new : ℤ) : Type 0 where
  pub bytes : after ≡ rewritten rewrite before from
  pub offset : to ≡ offset_after rewrite from
  pub addend : new ≡ addend_after rewrite old

-- a rewrite was applied, or the status says why it wasn't
pub record IsApplied (rewrite : Option Rewrite) (before after : List ℕ) (from to : ℕ)
    (old new : ℤ) (status : ℕ) : Type 0 where
  pub takes : TakesRewrite rewrite before from status
  pub rewritten : status ≡ code Success → IsRewritten rewrite before after from to old new
