-- `e_flags` of objects that are linked (the psABIs' sections on the file header).
use Rattle.linker_output.specs.Imports.{FlagRules}
use Rattle.std.specs.Prelude.{option_and_then, ◌≡◌, ℕ, ◌==◌, ◌&&◌, Bool, bit_and, bit_or}
use Rattle.std.specs.Prelude.{if◌then◌else◌, Option, Some, None, IfSome, ◌^◌, ◌-◌}

-- the bits of 32 that a psABI doesn't define
abbrev pub undefined : FlagRules → ℕ
undefined rules = 2 ^ 32 - 1 - bit_or rules.same rules.joined

-- Objects go together if neither has a bit that the psABI doesn't define, and those bits are equal
-- that are the same in all objects. The output has the bits of both.
abbrev pub go_together : FlagRules → ℕ → ℕ → Bool
go_together rules a b =
    bit_and (bit_or a b) (undefined rules) == 0 && bit_and a rules.same == bit_and b rules.same

abbrev pub joined_flags : FlagRules → ℕ → ℕ → Option ℕ
joined_flags rules a b = if go_together rules a b then Some (bit_or a b) else None

-- ---- the order of objects

-- three objects, from the first on and from the last on
abbrev pub JoinsAlike : FlagRules → ℕ → ℕ → ℕ → Type 0
JoinsAlike rules a b c =
    option_and_then (λ ab. joined_flags rules ab c) (joined_flags rules a b)
    ≡ option_and_then (joined_flags rules a) (joined_flags rules b c)

-- an object with itself
abbrev pub KeepsItself : FlagRules → ℕ → Type 0
KeepsItself rules a = IfSome (joined_flags rules a a) (λ both. both ≡ a)
