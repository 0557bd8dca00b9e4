use Rattle.linker_reading.proofs.Imports.{bit_at, is_in, is_in_one, take, ℕ, ◌*◌, ◌+◌, ◌<◌, ◌==◌, ◌||◌, ◌≡◌}
use Rattle.linker_reading.proofs.recognise.fields.differ_in.Given as goal

-- the bits of the fields so far
abbrev pub invariant-loop-other : goal.invariant-loop-other
invariant-loop-other l =
    (i j : ℕ) → i < 8 → j < 8 → (bit_at l.ignored (8 * i + j) == 1) ≡ (is_in l.field (l.byte + i) j || is_in_one (take l.other-index l.others) (l.byte + i) j)
