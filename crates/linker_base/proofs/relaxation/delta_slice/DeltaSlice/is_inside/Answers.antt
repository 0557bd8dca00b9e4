use Rattle.linker_base.proofs.Imports.{arith, deletion_of, length, length-map, map, nat_tests, ◌-◌, ◌<◌, ◌≡◌}
use Rattle.linker_base.proofs.Search.{blank, deletion_at, inside_last}
use Rattle.linker_base.proofs.relaxation.delta_slice.DeltaSlice.is_inside.Goals as goal

-- the last delta that begins below the offset decides
pub returns-in-Some : goal.returns-in-Some
returns-in-Some c valid =
    let deltas = c.args.self.now.deltas in
    let parted = (c.count_below.ensures.below valid.valid.valid valid.heads) in
    let at : c.count_below.result - 1 ≡ c.in-Some.last = omega (arith, c.in-Some.ensures.1) in
    let within : c.in-Some.last < length deltas = omega (arith, c.in-Some.ensures.0) in
    let inside = inside_last (map deletion_of deltas) valid.valid.valid c.args.input_offset c.count_below.result (0, 0) (omega (arith, c.in-Some.ensures.0)) (omega (arith, length-map deltas deletion_of)) parted in
    let here = rw (at, deletion_at deltas c.in-Some.last blank (0, 0) within) at inside in
    let below = rw (deletion_at deltas c.in-Some.last blank (0, 0) within) at (parted.0 c.in-Some.last (0, 0) (omega arith) (omega (arith, c.in-Some.ensures.0))) in
    (λ short. here.1 (grind (arith, nat_tests)), λ holds. let high = here.0 holds in grind (arith, nat_tests))
