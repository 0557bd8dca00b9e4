-- What one digit more does to a number.
use Rattle.linkfix.proofs.Imports.{List, [], arith, digit_value, digits_value_after, ℕ, ◌*◌, ◌+◌, ◌∷◌, ◌≤◌}

-- more digits never make a number smaller
pub digits_value_after-grows : (n : ℕ) (cs : List ℕ) → n ≤ digits_value_after 10 n cs
digits_value_after-grows n [] = omega arith
digits_value_after-grows n (c ∷ cs) = let h = digits_value_after-grows (n * 10 + digit_value c) cs in omega (arith, h)
