-- Lemmas on words of bytes.
use Rattle.linker_base.proofs.Imports.{List, [], from_le_bytes, refl, take, w32, ℕ, ◌∷◌, ◌≡◌}

pub word_of_front : (xs : List ℕ) → from_le_bytes w32 (take 4 xs) ≡ from_le_bytes w32 xs
word_of_front [] = refl
word_of_front (a ∷ []) = refl
word_of_front (a ∷ b ∷ []) = refl
word_of_front (a ∷ b ∷ c ∷ []) = refl
word_of_front (a ∷ b ∷ c ∷ d ∷ xs) = refl
