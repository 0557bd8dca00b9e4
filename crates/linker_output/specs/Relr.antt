-- Packed relative relocations (generic ABI, section type SHT_RELR), in words of 8 bytes.
use Rattle.std.specs.Prelude.{◌≡◌, ℕ, ◌+◌, ◌*◌, ◌^◌, ◌%◌, ◌==◌, ◌<◌, ◌≤◌, ◌++◌, if◌then◌else◌}
use Rattle.std.specs.Prelude.{nat_lt, Bool, List, [], ◌∷◌, length, drop, min, suc, zero}
use Rattle.std.specs.Prelude.{Option, Some, None, ◌-◌}
use Rattle.linker_output.specs.Imports.{bit_at, list_all}
use Rattle.linker_output.specs.declared.relr.RelrError.{RelrError}
use Rattle.linker_output.specs.declared.relr.RelrError.TheVariants.{Unaligned, NotAscending}
use Rattle.linker_output.specs.declared.relr.RelrError.TheVariants.{NoAddress, Wraps, TooShort}

-- ---- which addresses words relocate

-- of the first n words from a base on, those that a bitmap has: its bit 1 is that of the first one
unfoldable pub marked : ℕ → ℕ → ℕ → List ℕ
marked zero base bitmap = []
marked (suc n) base bitmap =
    marked n base bitmap ++ (if bit_at bitmap (n + 1) == 1 then (base + 8 * n) ∷ [] else [])

-- An even word is an address, and the base is the word after it. An odd word is a bitmap of the 63
-- words from the base on, and the base is the word after those.
abbrev pub relocated : ℕ → List ℕ → List ℕ
relocated base [] = []
relocated base (word ∷ words) =
    if word % 2 == 0 then word ∷ relocated (word + 8) words
    else marked 63 base word ++ relocated (base + 63 * 8) words

-- ---- why words can't be read

abbrev pub are_addresses : List ℕ → Bool
are_addresses = list_all (λ address. nat_lt address (2 ^ 64))

-- the fault of the first word after the first one that has one
abbrev pub word_fault : ℕ → List ℕ → Option RelrError
word_fault base [] = None
word_fault base (word ∷ words) =
    if word % 2 == 0
    then (if word % 8 == 0 then word_fault (word + 8) words else Some Unaligned)
    else if are_addresses (marked 63 base word) then word_fault (base + 63 * 8) words
    else Some Wraps

-- no base is there before the first address
abbrev pub relr_fault : List ℕ → Option RelrError
relr_fault [] = None
relr_fault (word ∷ words) = if word % 2 == 0 then word_fault 0 (word ∷ words) else Some NoAddress

-- ---- reading

-- numbers begin with these, and the others are left
abbrev pub Begins : List ℕ → List ℕ → List ℕ → Type 0
Begins numbers before after = after ≡ numbers ++ drop (length numbers) before

-- the words have no fault, and the addresses begin with theirs
pub record Unpacks (words before after : List ℕ) (count : ℕ) : Type 0 where
  pub sound : relr_fault words ≡ None
  pub counted : count ≡ length (relocated 0 words)
  pub fits : count ≤ length before
  pub written : Begins (relocated 0 words) before after

-- why words aren't read, where there is room for this many addresses
abbrev pub RejectsWords : List ℕ → ℕ → RelrError → Type 0
RejectsWords words room (TooShort needed) =
    (relr_fault words ≡ None) × (room < needed)
    × (needed ≡ min (length (relocated 0 words)) (2 ^ 64 - 1))
RejectsWords words room error = relr_fault words ≡ Some error

-- ---- writing

-- the first address that isn't a multiple of 8, or below the least one that may come next
abbrev pub address_fault : ℕ → List ℕ → Option RelrError
address_fault least [] = None
address_fault least (address ∷ addresses) =
    if address % 8 == 0
    then (if nat_lt address least then Some NotAscending else address_fault (address + 1) addresses)
    else Some Unaligned

-- words relocate these addresses in their order, and no fewer words do
pub record Packs (addresses words : List ℕ) : Type 0 where
  pub sound : relr_fault words ≡ None
  pub exact : relocated 0 words ≡ addresses
  pub fewest : (others : List ℕ) → relr_fault others ≡ None → relocated 0 others ≡ addresses
      → length words ≤ length others

-- a slice begins with such words, and those after them are left
abbrev pub WritesPacked : List ℕ → List ℕ → List ℕ → ℕ → Type 0
WritesPacked addresses before after count =
    (words : List ℕ) × Packs addresses words × (length words ≡ count) × (count ≤ length before)
    × Begins words before after

-- why addresses aren't packed, where there is room for this many words
abbrev pub RejectsAddresses : List ℕ → ℕ → RelrError → Type 0
RejectsAddresses addresses room (TooShort needed) =
    (words : List ℕ) × Packs addresses words × (length words ≡ needed) × (room < needed)
RejectsAddresses addresses room error = address_fault 0 addresses ≡ Some error
