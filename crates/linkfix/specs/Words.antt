-- The words of a line.
use Rattle.std.specs.Prelude.{ℕ, ◌==◌, Bool, true, false, not, if◌then◌else◌, List, [], ◌∷◌}

-- the byte is a space
abbrev pub is_space : ℕ → Bool
is_space c = c == 32

-- the line begins with a word
abbrev pub begins_word : List ℕ → Bool
begins_word [] = false
begins_word (c ∷ cs) = not (is_space c)

-- the byte put in front of the first word, or as a word of its own
abbrev pub prepend_to_first : ℕ → Bool → List (List ℕ) → List (List ℕ)
prepend_to_first c true (w ∷ ws) = (c ∷ w) ∷ ws
prepend_to_first c joins ws = (c ∷ []) ∷ ws

-- the maximal runs of bytes other than space, in order
unfoldable pub words_of : List ℕ → List (List ℕ)
words_of [] = []
words_of (c ∷ cs) = if is_space c then words_of cs
    else prepend_to_first c (begins_word cs) (words_of cs)
