-- Whole bytes hold the number that is written, modulo 2 ^ 8 for each.
use Rattle.linker_elf.proofs.Imports.{AbsoluteAddition, AbsoluteAdditionWord6, AbsoluteSetWord6, AbsoluteSubtraction, AbsoluteSubtractionWord6, BitMasking, ByteSize, FitsSigned, IsWritten, List, RelocationKind, RowInfo, RowSize, SizeNumber, and_parts, ap, arith, cast_unsigned, difference_64, drop, int_rem_euclid, int_rem_euclid_is, ints, is_of_uleb128, is_supported, low_bytes, ltb, ltb-true, mod_mod, negsuc, not, number_of_bytes, number_written, pos, refl, suc, sum_64, sym, takes_size, true, w64, whole_number, zero, ℕ, ℤ, ◌%◌, ◌*◌, ◌++◌, ◌+ℤ◌, ◌+◌, ◌-ℤ◌, ◌-◌, ◌<◌, ◌^◌, ◌∙◌, ◌≡◌}
use Rattle.linker_elf.proofs.Agreement.{rem_rem}
use Rattle.linker_elf.proofs.Relocated.{supported_size}

-- the lowest bytes of a number hold it modulo their size
low_number : (n number : ℕ) (rest : List ℕ) → n < 9
    → number_of_bytes n (low_bytes n number ++ rest) ≡ number % 2 ^ (8 * n)
low_number zero number rest h = omega arith
low_number (suc zero) number rest h = omega arith
low_number (suc (suc zero)) number rest h = omega arith
low_number (suc (suc (suc zero))) number rest h = omega arith
low_number (suc (suc (suc (suc zero)))) number rest h = omega arith
low_number (suc (suc (suc (suc (suc zero))))) number rest h = omega arith
low_number (suc (suc (suc (suc (suc (suc zero)))))) number rest h = omega arith
low_number (suc (suc (suc (suc (suc (suc (suc zero))))))) number rest h = omega arith
low_number (suc (suc (suc (suc (suc (suc (suc (suc zero)))))))) number rest h = omega arith
low_number (suc (suc (suc (suc (suc (suc (suc (suc (suc n))))))))) number rest h =
    absurd (omega arith)

-- ---- modulo 2 ^ 64

value_modulo : (v : ℤ) → FitsSigned w64 v
    → int_rem_euclid v (pos (2 ^ 64)) ≡ pos (cast_unsigned w64 v % 2 ^ 64)
value_modulo (pos n) h = refl
value_modulo (negsuc n) h = let small : n < 2 ^ 63 = h.sfits in ap pos (omega arith)

sum_modulo : (v : ℤ) (old : ℕ) → FitsSigned w64 v
    → int_rem_euclid (pos old +ℤ v) (pos (2 ^ 64)) ≡ pos (sum_64 old (cast_unsigned w64 v))
sum_modulo (pos n) old h = refl
sum_modulo (negsuc n) old h =
    let small : n < 2 ^ 63 = h.sfits in
    int_rem_euclid_is (pos old +ℤ negsuc n) (pos (2 ^ 64)) (2 ^ 64) 1 (old + (2 ^ 64 - suc n))
    (omega arith) refl (omega (arith, ints))

difference_modulo : (v : ℤ) (old : ℕ) → FitsSigned w64 v
    → int_rem_euclid (pos old -ℤ v) (pos (2 ^ 64)) ≡ pos (difference_64 old (cast_unsigned w64 v))
difference_modulo (pos n) old h =
    let small : n < 2 ^ 63 = h.sfits in
    int_rem_euclid_is (pos old -ℤ pos n) (pos (2 ^ 64)) (2 ^ 64) 1 (old + (2 ^ 64 - n))
    (omega arith) refl (omega (arith, ints))
difference_modulo (negsuc n) old h =
    let small : n < 2 ^ 63 = h.sfits in
    int_rem_euclid_is (pos old -ℤ negsuc n) (pos (2 ^ 64)) (2 ^ 64) 0 (old + suc n)
    (omega arith) refl (omega (arith, ints)) ∙ ap pos (omega arith)

-- 6 bits under the others of a number
low_6 : (z : ℤ) (f old : ℕ) → int_rem_euclid z (pos (2 ^ 64)) ≡ pos (f % 2 ^ 64)
    → pos (old - old % 64) +ℤ int_rem_euclid z (pos 64) ≡ pos (old - old % 64 + f % 64)
low_6 z f old e =
    ap (λ y. pos (old - old % 64) +ℤ y) (sym (rem_rem z (f % 2 ^ 64) 64 6 (omega arith) (sym e)))
    ∙ ap (λ y. pos (old - old % 64 + y)) (let t : f % 2 ^ 64 % 64 ≡ f % 64 = omega arith in t)

whole_modulo : (kind : RelocationKind) (v : ℤ) (old : ℕ) → FitsSigned w64 v
    → int_rem_euclid (whole_number kind v old) (pos (2 ^ 64))
    ≡ pos (number_written kind v old % 2 ^ 64)
whole_modulo AbsoluteAddition v old h = sum_modulo v old h ∙ ap pos (omega arith)
whole_modulo AbsoluteSubtraction v old h = difference_modulo v old h ∙ ap pos (omega arith)
whole_modulo AbsoluteSetWord6 v old h =
    ap (λ z. int_rem_euclid z (pos (2 ^ 64))) (low_6 v (cast_unsigned w64 v) old (value_modulo v h))
whole_modulo AbsoluteAdditionWord6 v old h =
    ap (λ z. int_rem_euclid z (pos (2 ^ 64)))
    (low_6 (pos old +ℤ v) (sum_64 old (cast_unsigned w64 v)) old (sum_modulo v old h
    ∙ ap pos (omega arith)))
whole_modulo AbsoluteSubtractionWord6 v old h =
    ap (λ z. int_rem_euclid z (pos (2 ^ 64)))
    (low_6 (pos old -ℤ v) (difference_64 old (cast_unsigned w64 v)) old (difference_modulo v old h
    ∙ ap pos (omega arith)))
whole_modulo kind v old h = value_modulo v h

-- ---- rows

size_number : (size : RowSize) (kind : RelocationKind) (v : ℤ) (before after : List ℕ)
    → FitsSigned w64 v → takes_size kind size ≡ true → IsWritten size kind v before after
    → SizeNumber size kind v before after
size_number (ByteSize n) kind v before after small takes w =
    let below : n < 9 = ltb-true n 9 (and_parts (ltb n 9) (not (is_of_uleb128 kind n)) takes).0 in
    let old = number_of_bytes n before in
    let number = number_written kind v old in
    ap (λ bytes. pos (number_of_bytes n bytes)) w
    ∙ ap pos (low_number n number (drop n before) below)
    ∙ ap pos (sym (mod_mod number 64 (8 * n) (omega arith)))
    ∙ rem_rem (whole_number kind v old) (number % 2 ^ 64) 64 (8 * n) (omega arith)
    (sym (whole_modulo kind v old small))
size_number (BitMasking bits insn) kind v before after small takes w = tt

pub row_number : (row : RowInfo) (v : ℤ) (before after : List ℕ) → FitsSigned w64 v
    → is_supported row ≡ true → IsWritten row.size row.kind v before after
    → SizeNumber row.size row.kind v before after
row_number row v before after small supported w =
    size_number row.size row.kind v before after small (supported_size row supported) w
