-- Products of a length.
use Rattle.linker_output.proofs.Imports.{arith, ℕ, ◌*◌, ◌<◌, ◌≤◌}

pub le_product : (len n : ℕ) → 0 < len → n ≤ len * n
le_product len n h = grind arith
