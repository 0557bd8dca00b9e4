-- Words, and runs of bytes, that differ in some bits only.
use Rattle.linker_reading.specs.Imports.{FieldBits, List, bit_at, false, slice_index, ℕ}
use Rattle.std.specs.Prelude.{◌≡◌, ◌+◌, ◌*◌, ◌<◌, ◌||◌}
use Rattle.linker_reading.specs.FieldsOfBytes.{is_in, is_in_one, IsSameBut}

-- Each bit of two words at a byte of a window that isn't one of a field or of others is the same.
abbrev pub IsSameWordBut : FieldBits → List FieldBits → ℕ → ℕ → ℕ → Type 0
IsSameWordBut field others byte a b =
    (i j : ℕ) → i < 4 → j < 8 → (is_in field (byte + i) j || is_in_one others (byte + i) j) ≡ false
    → bit_at a (8 * i + j) ≡ bit_at b (8 * i + j)

-- So are the first n of bytes from one of a window on.
abbrev pub AreSameFrom : FieldBits → List FieldBits → ℕ → List ℕ → List ℕ → ℕ → Type 0
AreSameFrom field others from a b n =
    (i : ℕ) → i < n
    → IsSameBut (λ j. is_in field (from + i) j || is_in_one others (from + i) j)
    (slice_index a i) (slice_index b i)
