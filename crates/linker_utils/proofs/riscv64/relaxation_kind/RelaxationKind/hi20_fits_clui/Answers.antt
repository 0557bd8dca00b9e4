use Rattle.linker_utils.proofs.Imports.{FitsClui, IsTrue, and_pow, arith, bit_xor, lt-ltb, ltb, ltb-true, xor_add_and, xor_lt, ℕ, ◌%◌, ◌*◌, ◌+◌, ◌-◌, ◌/◌, ◌<◌, ◌^◌, ◌↔◌, ◌≡◌, ◌≢◌}
use Rattle.std.proofs.lemmas.Grind.{common_steps}
use Rattle.linker_utils.proofs.RiscVRewrites.{clui_holds, u_holds}
use Rattle.linker_utils.proofs.riscv64.relaxation_kind.RelaxationKind.hi20_fits_clui.Goals as goal

-- a number with its bit 17 flipped
flipped : (n : ℕ) → bit_xor n 131072 + n / 131072 % 2 * 262144 ≡ n + 131072
flipped n = omega (arith, xor_add_and n 131072, and_pow n 17)

-- the high part is in range where the number above the least is
above_least : (v : ℕ) → v < 2 ^ 64 → FitsClui v ↔ (((v + 133120) % 2 ^ 64 < 262144) × ((v + 133120) % 2 ^ 64 / 4096 ≢ 32))
above_least v wide = grind (arith, common_steps)

-- and so is the number with that bit flipped, less the first values
in_range : (n r : ℕ) → r < 2 ^ 64 → r + n / 131072 % 2 * 262144 ≡ n + 131072 → (r + (2 ^ 64 - 4096)) % 2 ^ 64 < 258048 → (n < 262144) × (n / 4096 ≢ 32)
in_range n r small is below = (omega arith, λ e. absurd (omega arith))

from_range : (n r : ℕ) → r < 2 ^ 64 → r + n / 131072 % 2 * 262144 ≡ n + 131072 → (n < 262144) × (n / 4096 ≢ 32) → (r + (2 ^ 64 - 4096)) % 2 ^ 64 < 258048
from_range n r small is fits = omega arith

exactly : (v : ℕ) → v < 2 ^ 64 → IsTrue (ltb ((bit_xor ((v + 133120) % 2 ^ 64) 131072 + (2 ^ 64 - 4096)) % 2 ^ 64) 258048) ↔ FitsClui v
exactly v wide =
    let n = (v + 133120) % 2 ^ 64 in
    let r = bit_xor n 131072 in
    let small : r < 2 ^ 64 = xor_lt 64 n 131072 (omega arith) (omega arith) in
    let fits = above_least v wide in (
      λ t. fits.1 (in_range n r small (flipped n) (ltb-true ((r + (2 ^ 64 - 4096)) % 2 ^ 64) 258048 t)),
      λ f. lt-ltb ((r + (2 ^ 64 - 4096)) % 2 ^ 64) 258048 (from_range n r small (flipped n) (fits.0 f)),
    )

pub returns-clause-exactly : goal.returns-clause-exactly
returns-clause-exactly c = exactly c.args.value c.ranges.value.fits

pub returns-clause-compressed : goal.returns-clause-compressed
returns-clause-compressed c = λ t. clui_holds c.args.value c.ranges.value.fits ((exactly c.args.value c.ranges.value.fits).0 t)

pub returns-clause-whole : goal.returns-clause-whole
returns-clause-whole c = λ t. u_holds c.args.value c.ranges.value.fits ((exactly c.args.value c.ranges.value.fits).0 t)
