-- The place of the first NUL, as a search finds it and as a list's word has it.
use Rattle.linker_base.proofs.Imports.{List, Some, after_first, arith, drop, false_from_ne_true, length, length-drop, position_or_len, position_or_len_is, take, take_all, ℕ, ◌+◌, ◌-◌, ◌==◌, ◌≡◌}
use Rattle.bstr.specs.Find.{IsFirstByte, is_byte}

pub first_nul : (bytes : List ℕ) (end : ℕ) → IsFirstByte (is_byte 0) bytes (Some end) → position_or_len (λ b. b == 0) bytes ≡ end
first_nul bytes end found =
    position_or_len_is (λ b. b == 0) bytes end 0 (omega (arith, found.0.high)) (λ k before. false_from_ne_true _ (found.0.before k (omega arith) before)) (λ _. found.1)

-- what `&bytes[end + 1..]` holds
pub after_first_nul : (bytes : List ℕ) (end : ℕ) → IsFirstByte (is_byte 0) bytes (Some end)
    → take (length bytes - (end + 1)) (drop (end + 1) bytes) ≡ after_first (λ b. b == 0) bytes
after_first_nul bytes end found = rw (first_nul bytes end found) (take_all (length bytes - (end + 1)) (drop (end + 1) bytes) (omega (arith, length-drop (end + 1) bytes)))
