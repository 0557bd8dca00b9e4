-- The errors of the readers, which differ by their texts.
use Rattle.std.specs.Prelude.{◌≡◌, ℕ, List, Result, Some, IsErrAnd}
use Rattle.anyhow.specs.declared.error.Error.{Error}
use Rattle.anyhow.specs.Error.{IsMadeOf, error_message}

-- The result is an error with this text and no cause exactly where P holds. anyhow guarantees
-- the whole text, or one cut short that ends in three dots; so only the whole text implies P.
pub record FailsExactly {T : Type 0} (text : List ℕ) (P : Type 0)
    (result : Result T Error) : Type 0 where
  pub when : P → IsErrAnd result (IsMadeOf (Some text))
  pub only : IsErrAnd result (λ error. error_message error ≡ text) → P
