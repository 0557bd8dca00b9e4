-- The granularity of a run, and what runs that can be relaxed suit.
use Rattle.linker_runs.proofs.Imports.{Aligned, AreItems, AreNested, IsFormed, IsPowerOfTwo, IsSound, Item, ItemFits, ItemSuits, List, Shapes, Site, [], ap, arith, cases_lt, fold, item_at, item_granularity, length, max, mul-mod_left, nat_tests, pow-add, pow_below, refl, run_granularity, shape_len, shapes_granularity, short_shape, subst, suc, sym, zero, ℕ, ⊎_elim, ◌%◌, ◌*◌, ◌+◌, ◌-◌, ◌<◌, ◌^◌, ◌∙◌, ◌∷◌, ◌≡◌, ◌≤◌}

-- of two powers of two the less divides the other
pub power_divides : (a b : ℕ) → IsPowerOfTwo a → IsPowerOfTwo b → a ≤ b → b % a ≡ 0
power_divides a b pa pb up =
    ⊎_elim
    (λ (below : pb.0 < pa.0). let h = pow_below pb.0 pa.0 below in absurd (omega arith))
    (λ (above : pa.0 ≤ pb.0).
    let z : pb.0 - pa.0 + pa.0 ≡ pb.0 = omega arith in
    ap (λ n. n % a) (pb.1 ∙ ap (λ k. 2 ^ k) (sym z) ∙ pow-add 2 (pb.0 - pa.0) pa.0) ∙ ap (λ n. 2 ^ (pb.0 - pa.0) * 2 ^ pa.0 % n) pa.1 ∙ mul-mod_left (2 ^ (pb.0 - pa.0)) (2 ^ pa.0))
    (cases_lt pb.0 pa.0)

max_power : (a b : ℕ) → IsPowerOfTwo a → IsPowerOfTwo b → IsPowerOfTwo (max a b)
max_power a b pa pb = ⊎_elim
    (λ (less : a < b). let e : max a b ≡ b = grind (arith, nat_tests) in subst IsPowerOfTwo (sym e) pb)
    (λ (more : b ≤ a). let e : max a b ≡ a = grind (arith, nat_tests) in subst IsPowerOfTwo (sym e) pa)
    (cases_lt a b)

-- the greatest granularity of n items is a power of two, and no less than that before nor than each
record IsUnitOf (before : ℕ) (items : List Item) (granularity : ℕ) : Type 0 where
  power : IsPowerOfTwo granularity
  least : before ≤ granularity
  each : (i : ℕ) → i < length items → item_granularity (item_at items i) ≤ granularity

abbrev unit_from : ℕ → List Item → ℕ
unit_from before items = fold (λ granularity item. max granularity (item_granularity item)) before items

fold_unit : (before : ℕ) (items : List Item) → IsPowerOfTwo before → ((i : ℕ) → i < length items → IsPowerOfTwo (item_granularity (item_at items i))) → IsUnitOf before items (unit_from before items)
fold_unit before [] power powers = record { power = power; least = omega arith; each = λ i within. absurd (omega arith) }
fold_unit before (item ∷ items) power powers =
    let rest = fold_unit (max before (item_granularity item)) items (max_power before (item_granularity item) power (powers 0 (omega arith))) (λ i within. powers (suc i) (omega arith)) in
    record {
      power = rest.power;
      least = omega (arith, rest.least);
      each = each (item_granularity item) (unit_from (max before (item_granularity item)) items) (omega (arith, rest.least)) rest.each;
    }
  where
    each : (first granularity : ℕ) → item_granularity item ≤ granularity → ((i : ℕ) → i < length items → item_granularity (item_at items i) ≤ granularity) → (i : ℕ) → i < length (item ∷ items) → item_granularity (item_at (item ∷ items) i) ≤ granularity
    each first granularity here others zero within = here
    each first granularity here others (suc i) within = others i (omega arith)

shapes_power : (shapes : Shapes) → AreNested shapes → IsPowerOfTwo (shapes_granularity shapes)
shapes_power shapes nested = ⊎_elim
    (λ (two : 1 < shapes.count).
    let e : shapes_granularity shapes ≡ max (short_shape shapes 0).granularity (short_shape shapes 1).granularity = grind (arith, nat_tests) in
    subst IsPowerOfTwo (sym e) (max_power (short_shape shapes 0).granularity (short_shape shapes 1).granularity (nested.powers 0 (omega arith)).power (nested.powers 1 two).power))
    (λ (fewer : shapes.count ≤ 1). ⊎_elim
    (λ (one : 0 < shapes.count).
    let e : shapes_granularity shapes ≡ (short_shape shapes 0).granularity = grind (arith, nat_tests) in
    subst IsPowerOfTwo (sym e) (nested.powers 0 one).power)
    (λ (none : shapes.count ≤ 0).
    let e : shapes_granularity shapes ≡ 1 = grind (arith, nat_tests) in
    subst IsPowerOfTwo (sym e) (0, refl))
    (cases_lt 0 shapes.count))
    (cases_lt 1 shapes.count)

item_power : (item : Item) → IsFormed item → IsPowerOfTwo (item_granularity item)
item_power (Site site) formed = shapes_power site.shapes formed
item_power (Aligned alignment) formed = (0, refl)

-- each short shape's granularity is at most that of all
shape_below : (shapes : Shapes) → shapes.count ≤ 2 → (k : ℕ) → k < shapes.count → (short_shape shapes k).granularity ≤ shapes_granularity shapes
shape_below shapes few zero within = ⊎_elim
    (λ (two : 1 < shapes.count). grind (arith, nat_tests))
    (λ (one : shapes.count ≤ 1). grind (arith, nat_tests))
    (cases_lt 1 shapes.count)
shape_below shapes few (suc zero) within = grind (arith, nat_tests)
shape_below shapes few (suc (suc k)) within = absurd (omega arith)

-- no shape keeps more than the next
ascends : (shapes : Shapes) → AreNested shapes → (k : ℕ) → shape_len shapes k ≤ shape_len shapes (k + 1)
ascends shapes nested k = ⊎_elim
    (λ (short : k < shapes.count). let h = nested.ascending k short in omega arith)
    (λ (past : shapes.count ≤ k). grind (arith, nat_tests))
    (cases_lt k shapes.count)

pub item_suits : (start : ℕ) (items : List Item) → AreItems start items → (i : ℕ) → i < length items → ItemSuits (run_granularity items) start (item_at items i)
item_suits start items are i within =
    let whole = fold_unit 1 items (0, refl) (λ j there. item_power (item_at items j) (are.formed j there)) in
    suits (run_granularity items) (item_at items i) whole.power (whole.each i within) (are.in_order.sound i within) (are.formed i within) (are.fit i within)
  where
    suits : (u : ℕ) (item : Item) → IsPowerOfTwo u → item_granularity item ≤ u → IsSound item → IsFormed item → ItemFits u start item → ItemSuits u start item
    suits u (Site site) power most sound formed fit = record {
      freed = fit;
      ascending = ascends site.shapes formed;
      ahead = formed.ahead;
      units = λ k short.
          power_divides (short_shape site.shapes k).granularity u (formed.powers k short).power power (omega (arith, shape_below site.shapes sound.0 k short));
    }
    suits u (Aligned alignment) power most sound formed fit = fit
