-- Numbers that are rounded before they are taken apart.
use Rattle.linker_laws.proofs.Imports.{AreAddresses, Operands, arith, difference_64, sum_64, ℕ, ◌<◌, ◌^◌, ◌≡◌}
use Rattle.linker_laws.proofs.Instructions.{IsSmall, relative, absolute}

abbrev pub rounded_relative : ℕ → (Operands → ℕ) → (Operands → ℕ) → Operands → ℕ
rounded_relative r target begin o = difference_64 (sum_64 (target o) r) (begin o)

abbrev pub rounded_absolute : ℕ → (Operands → ℕ) → Operands → ℕ
rounded_absolute r target o = sum_64 (target o) r

-- The second number is the first plus a rounding.
abbrev pub IsRounded : ℕ → (Operands → ℕ) → (Operands → ℕ) → Type 0
IsRounded r number rounded =
    (o : Operands) → AreAddresses o → rounded o ≡ sum_64 (number o) r

difference_rounded : (s p r : ℕ) → p < 2 ^ 64
    → difference_64 (sum_64 s r) p ≡ sum_64 (difference_64 (sum_64 s 0) p) r
difference_rounded s p r place = omega arith

sum_rounded : (s r : ℕ) → sum_64 s r ≡ sum_64 (sum_64 s 0) r
sum_rounded s r = omega arith

pub relative_rounds : (r : ℕ) (begin target : Operands → ℕ) → IsSmall begin
    → IsRounded r (relative target begin) (rounded_relative r target begin)
relative_rounds r begin target from = λ o small.
    difference_rounded (target o) (begin o) r (from o small)

pub absolute_rounds : (r : ℕ) (target : Operands → ℕ)
    → IsRounded r (absolute target) (rounded_absolute r target)
absolute_rounds r target = λ o small. sum_rounded (target o) r

pub unrounded : (number : Operands → ℕ) → ((o : Operands) → number o < 2 ^ 64)
    → IsRounded 0 number number
unrounded number below = λ o small. let h = below o in omega arith
