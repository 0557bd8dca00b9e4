-- The syntax of commands.
use Rattle.std.specs.Prelude.{◌≡◌, ℕ, ◌<◌, ◌^◌, List, [], ◌∷◌, codes}
use Rattle.std.specs.Str.Parse.{IsNumeral, digits_value}
use Rattle.linkfix.specs.declared.commands.Command.{Command}
use Rattle.linkfix.specs.declared.commands.Command.TheVariants.{Call, Delete, Pack, Show, ToInput}
use Rattle.linkfix.specs.declared.commands.Command.TheVariants.{ToOutput}

-- the word is n in one decimal digit or more, and n is below 2 ^ 63
abbrev pub IsNumber : List ℕ → ℕ → Type 0
IsNumber word n = IsNumeral 10 word × (digits_value 10 word ≡ n) × (n < 2 ^ 63)

-- the first word is a number
abbrev pub BeginsWithNumber : List (List ℕ) → Type 0
BeginsWithNumber [] = ⊥
BeginsWithNumber (word ∷ ws) = (n : ℕ) × IsNumber word n

-- the word is n in decimal digits, and n is below 2 ^ 32
abbrev pub IsCount : List ℕ → ℕ → Type 0
IsCount word n = IsNumber word n × (n < 2 ^ 32)

-- the first word is a number below 2 ^ 32
abbrev pub BeginsWithCount : List (List ℕ) → Type 0
BeginsWithCount [] = ⊥
BeginsWithCount (word ∷ ws) = (n : ℕ) × IsCount word n

-- the words are the command's line
abbrev pub IsWrittenAs : Command → List (List ℕ) → Type 0
IsWrittenAs (Delete offset bytes) ws = (a : List ℕ) × (b : List ℕ)
    × (ws ≡ codes "del" ∷ a ∷ b ∷ []) × IsNumber a offset × IsCount b bytes
IsWrittenAs (ToOutput i) ws = (a : List ℕ) × (ws ≡ codes "in" ∷ a ∷ []) × IsNumber a i
IsWrittenAs (ToInput y) ws = (a : List ℕ) × (ws ≡ codes "out" ∷ a ∷ []) × IsNumber a y
IsWrittenAs (Call site target) ws = (a : List ℕ) × (b : List ℕ)
    × (ws ≡ codes "call" ∷ a ∷ b ∷ []) × IsNumber a site × IsNumber b target
IsWrittenAs Show ws = ws ≡ codes "show" ∷ []
IsWrittenAs Pack ws = ws ≡ codes "pack" ∷ []
