use Rattle.linker_riscv64.proofs.Imports.{AreEightApart, AreShrinkable, arith, deletions_of, length, length-map, map, subst, sym, take, take-map, take_all, ◌<◌, ◌≡◌, ◌≤◌}
use Rattle.linker_riscv64.proofs.Shrunk.{shrinkable_first, not_shrinkable_next}
use Rattle.linker_riscv64.proofs.shrinking.first_not_shrinkable.Goals as goal

pub returns-then-first-calls : goal.returns-then-first-calls
returns-then-first-calls g c = λ valid.
    let f = g.C.AsCall.call in
    let xs = c.args.calls.now in
    let ds = deletions_of c.args.deltas.now in
    let p = c.shrinkable_sites_len-sites.result in
    let first = c.shrinkable_targets_len-first.result in
    let front = map f (take p xs) in
    let parts : front ≡ take p (map f xs) = sym (take-map f p xs) in
    let placed = c.shrinkable_sites_len-sites.ensures.sites valid in
    let apart : AreEightApart front = subst AreEightApart (sym parts) placed.apart in
    let mapped = length-map xs f in
    let fronts = length-map (take p xs) f in
    let bound = c.shrinkable_targets_len-first.ensures.within in
    let within : p ≤ length (map f xs) = omega (arith, c.shrinkable_sites_len-sites.ensures.within) in
    let next = λ (low : p < length (map f xs)). c.shrinkable_sites_len-sites.ensures.next valid (omega arith) in
    let hit = λ (low : first < length front). c.shrinkable_targets_len-first.ensures.next apart (omega arith) in
    record {
      within = omega (arith, c.if-first-calls.true);
      before = shrinkable_first ds (map f xs) front p first parts within (omega arith) placed next (c.shrinkable_targets_len-first.ensures.targets apart) hit;
      here = not_shrinkable_next ds (map f xs) front p first parts within (omega arith) placed next (c.shrinkable_targets_len-first.ensures.targets apart) hit (omega (arith, c.if-first-calls.true));
    }

pub returns-else-first-calls : goal.returns-else-first-calls
returns-else-first-calls g c = λ valid.
    let f = g.C.AsCall.call in
    let xs = c.args.calls.now in
    let ds = deletions_of c.args.deltas.now in
    let p = c.shrinkable_sites_len-sites.result in
    let first = c.shrinkable_targets_len-first.result in
    let front = map f (take p xs) in
    let parts : front ≡ take p (map f xs) = sym (take-map f p xs) in
    let placed = c.shrinkable_sites_len-sites.ensures.sites valid in
    let apart : AreEightApart front = subst AreEightApart (sym parts) placed.apart in
    let mapped = length-map xs f in
    let fronts = length-map (take p xs) f in
    let bound = c.shrinkable_targets_len-first.ensures.within in
    let within : p ≤ length (map f xs) = omega (arith, c.shrinkable_sites_len-sites.ensures.within) in
    let next = λ (low : p < length (map f xs)). c.shrinkable_sites_len-sites.ensures.next valid (omega arith) in
    let hit = λ (low : first < length front). c.shrinkable_targets_len-first.ensures.next apart (omega arith) in
    subst (AreShrinkable ds) (take_all first (map f xs) (omega (arith, c.if-first-calls.false)))
    (shrinkable_first ds (map f xs) front p first parts within (omega arith) placed next (c.shrinkable_targets_len-first.ensures.targets apart) hit)
