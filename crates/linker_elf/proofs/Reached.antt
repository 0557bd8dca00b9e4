-- The least and the last value within reach bound the values within reach.
use Rattle.linker_elf.proofs.Imports.{BitMasking, Bounds, ByteSize, FitsSigned, HoldsBits, IsAccepted, IsEncoded, IsMultiple, IsWithin, List, None, RowFits, RowInfo, RowSize, SizeFits, Some, arith, cases_Bool, inl, inr, int_lt, ints, is_supported, last_within, least_within, length, reach_of, true, w64, window_len, ℕ, ℤ, ◌≡◌, ◌≤ℤ◌, ◌≤◌}

pub within_from : (b : Bounds) (v : ℤ) → least_within b ≤ℤ v → v ≤ℤ last_within b → FitsSigned w64 v → IsWithin b v
within_from None v low high small = tt
within_from (Some b) v low high small =
    elim (cases_Bool (int_lt b.0 b.1)) [
      | inl some ↦ let l = rw some at low in let h = rw some at high in (l, omega (arith, ints, h))
      | inr none ↦ let l = rw none at low in let h = rw none at high in absurd (omega (arith, ints, l, h))
    ]

pub ends_of : (b : Bounds) (v : ℤ) → FitsSigned w64 v → IsWithin b v → (least_within b ≤ℤ v) × (v ≤ℤ last_within b)
ends_of None v small within = (omega (arith, ints, small), omega (arith, ints, small))
ends_of (Some b) v small within =
    elim (cases_Bool (int_lt b.0 b.1)) [
      | inl some ↦ (rw some within.0, rw some (omega (arith, ints, within.1)))
      | inr none ↦ absurd (omega (arith, ints, none, within.0, within.1))
    ]

-- bits that fit the form are held by it
pub holds : (size : RowSize) (v : ℤ) (bytes : List ℕ) → SizeFits size → HoldsBits size v bytes
holds (ByteSize n) v bytes fits = tt
holds (BitMasking bits insn) v bytes fits = fits.fits _ _

pub accepts : (row : RowInfo) (v : ℤ) (bytes : List ℕ) → RowFits row
    → is_supported row ≡ true → window_len row ≤ length bytes → IsMultiple row v bytes
    → IsWithin (reach_of row) v → IsEncoded row.size v → IsAccepted row v bytes
accepts row v bytes fits supported long aligned within encoded =
    record {
      supported = supported;
      long = long;
      aligned = aligned;
      reached = (within, holds row.size v bytes fits.size, encoded);
    }
