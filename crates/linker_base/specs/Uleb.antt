-- ULEB128: a number in groups of seven bits, the lowest group first. A byte of 0x80 or more is not
-- the last.
use Rattle.std.specs.Prelude.{◌≡◌, ℕ, ◌+◌, ◌*◌, ◌%◌, ◌^◌, ◌<◌, ◌≤◌, List, length, drop, slice_index}
use Rattle.std.specs.Int.{sum_through}
use Rattle.linker_base.specs.declared.utils.Uleb128Error.{Uleb128Error}
use Rattle.linker_base.specs.declared.utils.Uleb128Error.TheVariants.{Ended, TooLarge, DoesNotFit}

-- none of the first k bytes is the last
abbrev pub AllContinue : ℕ → List ℕ → Type 0
AllContinue k bytes = (j : ℕ) → j < k → 0x80 ≤ slice_index bytes j

-- the number whose last byte is the one at this index
abbrev pub uleb_number : List ℕ → ℕ → ℕ
uleb_number bytes last = sum_through (λ j. slice_index bytes j % 128 * 128 ^ j) last

-- the bytes begin with the number n, and rest follows it. It takes ten bytes at most, the tenth 0
-- or 1
pub record Uleb (bytes : List ℕ) (n : ℕ) (rest : List ℕ) : Type 0 where
  pub last : ℕ
  pub there : last < length bytes
  pub within_ten : last < 10
  pub continue : AllContinue last bytes
  pub ends : slice_index bytes last < 0x80
  pub tenth : last ≡ 9 → slice_index bytes last ≤ 1
  pub number : n ≡ uleb_number bytes last
  pub rest_is : rest ≡ drop (last + 1) bytes

-- the bytes end before the number does: there are fewer than ten, and none of them is the last
pub record UlebEnded (bytes : List ℕ) : Type 0 where
  pub short : length bytes < 10
  pub continue : AllContinue (length bytes) bytes

-- the number reaches a tenth byte that is neither 0 nor 1: it sets a bit above bit 63, or continues
pub record UlebTooLarge (bytes : List ℕ) : Type 0 where
  pub long : 9 < length bytes
  pub continue : AllContinue 9 bytes
  pub tenth : 1 < slice_index bytes 9

-- bytes begin with one number at most, and one rest follows it
abbrev pub HasOneReading : Type 0
HasOneReading =
    (bytes : List ℕ) (m n : ℕ) (x y : List ℕ) → Uleb bytes m x → Uleb bytes n y → (m ≡ n) × (x ≡ y)

-- the number n stands in place of the one that the bytes began with, in as many bytes, and all
-- bytes after it are unchanged
pub record IsUlebWritten (before : List ℕ) (n : ℕ) (after : List ℕ) : Type 0 where
  pub old : ℕ
  pub rest : List ℕ
  pub was : Uleb before old rest
  pub is : Uleb after n rest
  pub same_length : length after ≡ length before

-- the number that the bytes begin with has too few bytes for the number n, each of seven bits
pub record UlebTooShortFor (bytes : List ℕ) (n : ℕ) : Type 0 where
  pub old : ℕ
  pub rest : List ℕ
  pub there : Uleb bytes old rest
  pub above : 128 ^ (there.last + 1) ≤ n

-- why no number is written
abbrev pub IsUlebCause : List ℕ → ℕ → Uleb128Error → Type 0
IsUlebCause bytes n Ended = UlebEnded bytes
IsUlebCause bytes n TooLarge = UlebTooLarge bytes
IsUlebCause bytes n DoesNotFit = UlebTooShortFor bytes n
