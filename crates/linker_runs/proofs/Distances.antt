-- The value of a relocation between two places of a run.
use Rattle.linker_runs.proofs.Imports.{IsAccepted, IsInUnits, IsRejected, IsWithin, List, RowInfo, Some, ap, arith, cases_lt, cast_negative, cast_signed, difference_64, holds, ints, length, neg_ℤ, operands_of, pos, reach_of, sum_64, to_z_pos, value_of, w64, window_len, ℕ, ℤ, ⊎_elim, ◌-ℤ◌, ◌-◌, ◌<ℤ◌, ◌<◌, ◌^◌, ◌∙◌, ◌≡◌, ◌≤ℤ◌, ◌≤◌}
use Rattle.linker_elf.specs.Relocate.{IsInReach, IsInWords}
use Rattle.linker_elf.specs.Agrees.{RowFits}

module _ (start from to : ℕ) where
  abbrev number : ℕ
  number = difference_64 (sum_64 (sum_64 (sum_64 start to) 0) 0) (sum_64 start from)

  distance : neg_ℤ (pos (2 ^ 63)) ≤ℤ (pos to -ℤ pos from) → (pos to -ℤ pos from) <ℤ pos (2 ^ 63) → cast_signed w64 number ≡ pos to -ℤ pos from
  distance least most = ⊎_elim
      (λ (down : to < from).
      let size : from - to ≤ 2 ^ 63 = omega (arith, ints) in
      let is : number ≡ 2 ^ 64 - (from - to) = omega arith in
      ap (cast_signed w64) is ∙ cast_negative (2 ^ 64 - (from - to)) (omega arith) (omega arith) ∙ omega (arith, ints))
      (λ (up : from ≤ to).
      let size : to - from < 2 ^ 63 = omega (arith, ints) in
      let is : number ≡ to - from = omega arith in
      ap (cast_signed w64) is ∙ to_z_pos w64 (to - from) size ∙ omega (arith, ints))
      (cases_lt to from)

  -- a row that writes this value, in bytes that are long enough
  module _ (row : RowInfo) (bytes : List ℕ) (fits : RowFits row) (long : window_len row ≤ length bytes)
      (units : (v : ℤ) → IsInUnits row.size v bytes) (words : (v : ℤ) → IsInWords row.size row.kind v bytes)
      (small : (v : ℤ) → IsWithin (reach_of row) v → (neg_ℤ (pos (2 ^ 63)) ≤ℤ v) × (v <ℤ pos (2 ^ 63)))
      (value : value_of row (operands_of (sum_64 start from) (sum_64 start to)) ≡ Some (cast_signed w64 number)) where
    pub not_rejected : IsInReach row (pos to -ℤ pos from) → IsRejected row (operands_of (sum_64 start from) (sum_64 start to)) bytes → ⊥
    not_rejected near rejected =
        let v : ℤ = pos to -ℤ pos from in
        let bounds = small v near.within in
        let accepted : IsAccepted row v bytes = record {
          supported = near.supported;
          long = long;
          aligned = (near.aligned, units v, words v);
          reached = (near.within, holds row.size v bytes fits.size, near.encoded);
        } in
        rejected v (value ∙ ap Some (distance bounds.0 bounds.1)) accepted
