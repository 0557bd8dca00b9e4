-- How the code makes words of addresses, and writes lists.
use Rattle.std.specs.Prelude.{◌==◌, ◌&&◌, nat_le, nat_lt, Bool, List, if◌then◌else◌, bit_or, length}
use Rattle.std.specs.Prelude.{ℕ, ◌+◌, ◌-◌, ◌*◌, ◌/◌, ◌%◌, ◌^◌, not, [], ◌∷◌, ◌++◌, set, min, ◌≡◌}

-- a number of 64 bits in place of any
abbrev pub capped : ℕ → ℕ
capped n = min n (2 ^ 64 - 1)

-- what stands after numbers are written one after the other, where there is room
abbrev pub put_all : ℕ → List ℕ → List ℕ → List ℕ
put_all index [] numbers = numbers
put_all index (n ∷ ns) numbers = put_all (capped (index + 1)) ns (set numbers index n)

-- What is left to write gives the whole, whose length and whose list these are.
pub record Leaves (index : ℕ) (left numbers : List ℕ) (len : ℕ) (whole : List ℕ) : Type 0 where
  pub counted : capped (index + length left) ≡ len
  pub written : put_all index left numbers ≡ whole

-- ---- words

-- the bitmap is full before an address
abbrev pub is_past : ℕ → ℕ → ℕ → Bool
is_past base bitmap address = not (bitmap == 1) && nat_le 512 (address - base)

-- Words by the address that bits count from, and by the bits so far. Bit 0 is that of a bitmap.
abbrev pub words_from : ℕ → ℕ → List ℕ → List ℕ
words_from base bitmap [] = if bitmap == 1 then [] else bitmap ∷ []
words_from base bitmap (address ∷ addresses) =
    let past = is_past base bitmap address in
    let start = if past then base + 504 else base in
    let bits = if past then 1 else bitmap in
    let distance = (address - start) / 8 in
    (if past then bitmap ∷ [] else [])
    ++ (if nat_lt distance 64
    then words_from start (bit_or bits (1 * 2 ^ distance % 2 ^ 64)) addresses
    else address ∷ words_from address 1 addresses)

abbrev pub words_of : List ℕ → List ℕ
words_of [] = []
words_of (address ∷ addresses) = address ∷ words_from address 1 addresses
