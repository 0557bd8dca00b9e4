-- A mask has the bits of a test.
use Rattle.linker_reading.proofs.Imports.{Bool, agree_below, agree_below_at, bit_at, true, ℕ, ◌<◌, ◌==◌, ◌≡◌}

-- a mask has the bits of a test, by computation
pub agrees : (mask : ℕ) (P : ℕ → Bool) → agree_below (λ w. bit_at mask w == 1) P 64 ≡ true → (w : ℕ) → w < 64 → (bit_at mask w == 1) ≡ P w
agrees mask P e w h = agree_below_at (λ k. bit_at mask k == 1) P 64 w e h
