-- The bounds of ranges.
use Rattle.linker_elf.proofs.Imports.{FitsSigned, Signed, Some, Unsigned, ap, arith, bit_bounds, ints, of_z, one_shl, pos, pow_below, sym, to_z, to_z-of_z, to_z_pos, w64, ℕ, ◌%◌, ◌*◌, ◌-ℤ◌, ◌-◌, ◌<◌, ◌^◌, ◌∙◌, ◌≡◌, ◌≤◌}
use Rattle.linker_elf.specs.declared.elf.Sign.{Sign}

-- `1 << k` at 64 signed bits
pub one_shl_signed : (k : ℕ) → k < 63 → to_z w64 (1 * 2 ^ k % 18446744073709551616) ≡ pos (2 ^ k)
one_shl_signed k h = ap (to_z w64) (one_shl k 64 (omega arith)) ∙ to_z_pos w64 (2 ^ k) (pow_below k 63 h)

pub negated : (k : ℕ) → k < 63 → FitsSigned w64 (pos 0 -ℤ to_z w64 (1 * 2 ^ k % 18446744073709551616))
negated k h =
    let below = pow_below k 63 h in
    rw (one_shl_signed k h) (omega (arith, ints))

pub signed_bounds : (n : ℕ) (s : Sign) → 1 ≤ n → n ≤ 62 → s ≡ Signed
    → Some (to_z w64 (of_z w64 (pos 0 -ℤ to_z w64 (1 * 2 ^ (n - 1) % 18446744073709551616))), to_z w64 (1 * 2 ^ (n - 1) % 18446744073709551616)) ≡ Some (bit_bounds n s)
signed_bounds n s a b e =
    let bound = one_shl_signed (n - 1) (omega arith) in
    ap (λ z. Some (z, to_z w64 (1 * 2 ^ (n - 1) % 18446744073709551616))) (to_z-of_z w64 (pos 0 -ℤ to_z w64 (1 * 2 ^ (n - 1) % 18446744073709551616)) (negated (n - 1) (omega arith)))
    ∙ ap (λ z. Some (pos 0 -ℤ z, z)) bound
    ∙ ap (λ z. Some (z, pos (2 ^ (n - 1)))) (omega (arith, ints))
    ∙ ap (λ t. Some (bit_bounds n t)) (sym e)

pub unsigned_bounds : (n : ℕ) (s : Sign) → n ≤ 62 → s ≡ Unsigned → Some (pos 0, to_z w64 (1 * 2 ^ n % 18446744073709551616)) ≡ Some (bit_bounds n s)
unsigned_bounds n s b e = ap (λ z. Some (pos 0, z)) (one_shl_signed n (omega arith)) ∙ ap (λ t. Some (bit_bounds n t)) (sym e)
