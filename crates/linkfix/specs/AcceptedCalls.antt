-- The calls that were made jumps.
use Rattle.std.specs.Prelude.{ℕ, ◌+◌, ◌≤◌, ◌⊎◌, List, [], ◌∷◌, nat_lt, if◌then◌else◌, IsPermutation}
use Rattle.linker_utils.specs.Packing.{AreApart}

-- the site is at least 4 from that of the call
abbrev pub IsFarFrom : ℕ → ℕ × ℕ → Type 0
IsFarFrom site call = (call.0 + 4 ≤ site) ⊎ (site + 4 ≤ call.0)

-- the calls of `all`, sorted by site, which are at least 4 apart
pub record AreBySite (all calls : List (ℕ × ℕ)) : Type 0 where
  pub same : IsPermutation all calls
  pub apart : AreApart calls

-- the call put before the first one of a higher site
abbrev pub placed : ℕ × ℕ → List (ℕ × ℕ) → List (ℕ × ℕ)
placed call [] = call ∷ []
placed call (e ∷ es) = if nat_lt call.0 e.0 then call ∷ e ∷ es else e ∷ placed call es
