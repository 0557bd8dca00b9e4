-- A site that its shortest shape reaches while nothing is freed is in reach whatever is freed.
use Rattle.linker_runs.proofs.Imports.{Aligned, AreItems, AreNested, IsAlwaysInReach, IsFormed, IsSound, Item, List, Shapes, Site, ap, arith, cases_lt, cautious_before, cond, freed_before, is_reached, item_at, item_reaches, least_len, len_of, length, mul_assoc, place_of, refl, run_granularity, shape_reaches, short_shape, suc, sym, target_of, true, zero, ℕ, ⊎_elim, ◌%◌, ◌*◌, ◌-◌, ◌<◌, ◌∙◌, ◌≡◌, ◌≤◌}
use Rattle.linker_runs.proofs.Bounds.{all_nearer, len_fits, is_short, is_past}
use Rattle.linker_runs.proofs.Choices.{place_is, cautious_frees}
use Rattle.linker_runs.proofs.Frees.{exact_frees}
use Rattle.linker_runs.proofs.Multiples.{multiple_of, no_rest}
use Rattle.linker_runs.proofs.Nearer.{Frees, FreesLess, above_is, is_above, below_is, is_below}
use Rattle.linker_runs.proofs.Units.{power_divides}

-- a multiple of a number is one of what divides that
multiple_of_divisor : (less more d : ℕ) → more % less ≡ 0 → d % more ≡ 0 → d % less ≡ 0
multiple_of_divisor less more d whole none =
    let a = multiple_of less more whole in
    let b = multiple_of more d none in
    no_rest less d (b.0 * a.0, b.1 ∙ ap (λ n. b.0 * n) a.1 ∙ sym (mul_assoc b.0 a.0 less))

-- what the shortest shape reaches the next one reaches too
next_reaches : (shapes : Shapes) → AreNested shapes → 1 < shapes.count → (from to : ℕ) → is_reached (short_shape shapes 0) from to ≡ true → is_reached (short_shape shapes 1) from to ≡ true
next_reaches shapes nested two from to reached =
    let wider = nested.reaches 0 two in
    let divides = power_divides (short_shape shapes 1).granularity (short_shape shapes 0).granularity (nested.powers 1 two).power (nested.powers 0 (omega arith)).power (nested.units 0 two) in
    ⊎_elim
    (λ (down : to < from).
    let old = below_is (short_shape shapes 0) from to down reached in
    is_below (short_shape shapes 1) from to down (omega (arith, wider.0, old.0)) (multiple_of_divisor (short_shape shapes 1).granularity (short_shape shapes 0).granularity (from - to) divides old.1))
    (λ (up : from ≤ to).
    let old = above_is (short_shape shapes 0) from to up reached in
    is_above (short_shape shapes 1) from to up (omega (arith, wider.1, old.0)) (multiple_of_divisor (short_shape shapes 1).granularity (short_shape shapes 0).granularity (to - from) divides old.1))
    (cases_lt to from)

-- a target that the shortest shape of a site reaches is reached by each
longer_shapes : (shapes : Shapes) (from to : ℕ) → shapes.count ≤ 2 → AreNested shapes → shape_reaches shapes 0 from to ≡ true → (k : ℕ) → shape_reaches shapes k from to ≡ true
longer_shapes shapes from to few nested reached k = ⊎_elim
    (λ (below : k < shapes.count). short k below)
    (λ (past : shapes.count ≤ k). ap (λ b. cond b (is_reached (short_shape shapes k) from to) true) (is_past k shapes.count past))
    (cases_lt k shapes.count)
  where
    at : (k : ℕ) → k < shapes.count → is_reached (short_shape shapes k) from to ≡ true → shape_reaches shapes k from to ≡ true
    at k below is = ap (λ b. cond b (is_reached (short_shape shapes k) from to) true) (is_short k shapes.count below) ∙ is

    first : 0 < shapes.count → is_reached (short_shape shapes 0) from to ≡ true
    first some = sym (ap (λ b. cond b (is_reached (short_shape shapes 0) from to) true) (is_short 0 shapes.count some)) ∙ reached

    short : (k : ℕ) → k < shapes.count → shape_reaches shapes k from to ≡ true
    short zero below = reached
    short (suc zero) below = at 1 below (next_reaches shapes nested below from to (first (omega arith)))
    short (suc (suc k)) below = absurd (omega arith)

longer_reaches : (item : Item) → IsSound item → IsFormed item → item_reaches item 0 0 0 ≡ true → (k : ℕ) → item_reaches item k 0 0 ≡ true
longer_reaches (Aligned alignment) sound formed reached k = refl
longer_reaches (Site site) sound formed reached k = longer_shapes site.shapes (site.offset - 0) (target_of (Site site) - 0) sound.0 formed reached k

least_fits : (item : Item) → IsSound item → least_len item ≤ len_of item
least_fits (Site site) sound = len_fits site.shapes site.len 0 sound.1 sound.2
least_fits (Aligned alignment) sound = omega arith

pub always_in_reach : (start : ℕ) (items : List Item) → AreItems start items → (i : ℕ) → i < length items → item_reaches (item_at items i) 0 0 0 ≡ true → IsAlwaysInReach start items i
always_in_reach start items are i within reached = record {
  exactly = λ choice. nearer (freed_before start items choice) (choice i) (exact_frees start items choice are);
  cautiously = λ choice. nearer (cautious_before items choice) (choice i) (cautious_frees start items choice are);
}
  where
    nearer : (more : ℕ → ℕ) (k : ℕ) → Frees (run_granularity items) items more → item_reaches (item_at items i) k (more i) (more (place_of items (target_of (item_at items i)))) ≡ true
    nearer more k frees =
        let nothing : Frees (run_granularity items) items (λ n. 0) = record {
          none = refl;
          step = λ j there. (0, omega arith, (let h = least_fits (item_at items j) (are.in_order.sound j there) in omega arith));
        } in
        let no_more : FreesLess items (λ n. 0) more = λ j there. (let m = (frees.step j there).1 in omega arith) in
        all_nearer start items (λ n. 0) more k are nothing frees no_more (place_is start items are.in_order) i within
        (longer_reaches (item_at items i) (are.in_order.sound i within) (are.formed i within) reached k)
