-- A choice of calls as the bytes that C sees.
use Rattle.std.specs.Prelude.{ℕ, List, Bool, map, nat_lt}

-- the calls whose bytes are not 0
abbrev pub choice_in : List ℕ → List Bool
choice_in bytes = map (λ byte. nat_lt 0 byte) bytes
