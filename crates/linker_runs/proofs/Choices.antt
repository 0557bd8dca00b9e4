-- The rounds of a run that can be relaxed are nowhere longer than a choice in reach.
use Rattle.linker_runs.proofs.Imports.{Aligned, AreApart, AreForced, AreInOrder, AreItems, AreNotLonger, AreRelaxed, HaveNoAlignment, IsInReachCautiously, IsInReachExactly, IsSite, IsSound, Item, ItemSuits, List, Site, add-one, after_rounds, ap, arith, both_ways, cases_lt, cases_order, cautious_before, choice_of, end_of, false, freed_before, freed_cautiously, get_or, get_or_default, is_in_reach_cautiously, item_at, item_reaches, kept_by, len_of, length, nat_le, nat_tests, no_item, place_of, refl, run_granularity, shape_len, suc, sym, target_of, true, zero, ℕ, ⊎_elim, ◌+◌, ◌-◌, ◌<◌, ◌^◌, ◌∙◌, ◌≡◌, ◌≢◌, ◌≤◌, ◌⊎◌}
use Rattle.linker_runs.proofs.Units.{item_suits}
use Rattle.linker_runs.proofs.Layouts.{freed_next, freed_none, ends_apart, count_point}
use Rattle.linker_runs.proofs.Multiples.{multiple_of}
use Rattle.linker_runs.proofs.Nearer.{Frees, FreesLess, IsPlace}
use Rattle.linker_runs.proofs.Bounds.{lens_ascend, len_fits, bound_next, all_nearer}
use Rattle.linker_runs.proofs.Frees.{ItemFrees, exact_frees}

-- among the first items, which end at or below an offset is a front
record IsSplit (items : List Item) (offset upto p : ℕ) : Type 0 where
  within : p ≤ upto
  below : (j : ℕ) → j < p → end_of (item_at items j) ≤ offset
  others : (j : ℕ) → p ≤ j → j < upto → offset < end_of (item_at items j)

split_upto : (items : List Item) (offset : ℕ) → AreApart items → (upto : ℕ) → upto ≤ length items → (p : ℕ) × IsSplit items offset upto p
split_upto items offset apart zero within = (0, record { within = omega arith; below = λ j h. absurd (omega arith); others = λ j h k. absurd (omega arith) })
split_upto items offset apart (suc m) within =
    let rest = split_upto items offset apart m (omega arith) in
    let up = rest.1.within in
    ⊎_elim
    (λ (past : offset < end_of (item_at items m)). (
      rest.0,
      record {
        within = omega arith;
        below = rest.1.below;
        others = λ j h k. ⊎_elim
            (λ (before : j < m). rest.1.others j h before)
            (λ (last : m ≤ j). let e : j ≡ m = omega arith in let a = ap (λ n. end_of (item_at items n)) e in omega arith)
            (cases_lt j m);
      },
    ))
    (λ (ended : end_of (item_at items m) ≤ offset). (
      suc m,
      record {
        within = omega arith;
        below = λ j h. let a = ends_apart items apart j m (omega arith) (omega arith) in omega arith;
        others = λ j h k. absurd (omega arith);
      },
    ))
    (cases_lt offset (end_of (item_at items m)))

-- the place of an offset
pub place_apart : (items : List Item) → AreApart items → (offset : ℕ) → IsPlace items offset (place_of items offset)
place_apart items apart offset =
    let split = split_upto items offset apart (length items) (omega arith) in
    let p = split.0 in
    let count : place_of items offset ≡ p = count_point (λ item. nat_le (end_of item) offset) items p split.1.within
    (λ k d low high. passes k d (split.1.within) (split.1.below k high) high)
    (λ k d low high. fails k d (split.1.others k low high) high) in
    record {
      within = omega arith;
      below = λ j h. split.1.below j (omega arith);
      others = λ j h k. split.1.others j (omega arith) k;
    }
  where
    passes : (k : ℕ) (d : Item) {p : ℕ} → p ≤ length items → end_of (item_at items k) ≤ offset → k < p → nat_le (end_of (get_or items k d)) offset ≡ true
    passes k d up h below =
        let e = ap end_of (get_or_default items k d no_item (omega arith)) in
        let g : end_of (get_or items k d) ≤ offset = omega arith in grind (arith, nat_tests)

    fails : (k : ℕ) (d : Item) → offset < end_of (item_at items k) → k < length items → nat_le (end_of (get_or items k d)) offset ≡ false
    fails k d h within =
        let e = ap end_of (get_or_default items k d no_item within) in
        let g : offset < end_of (get_or items k d) = omega arith in grind (arith, nat_tests)

pub place_is : (start : ℕ) (items : List Item) → AreInOrder start items → (offset : ℕ) → IsPlace items offset (place_of items offset)
place_is start items order = place_apart items order.apart

-- an index after an item that ends at or below an offset, at which one ends above it, is the place
pub place_unique : (items : List Item) → AreApart items → (offset p : ℕ) → p ≤ length items → (0 < p → end_of (item_at items (p - 1)) ≤ offset) → (p < length items → offset < end_of (item_at items p))
    → p ≡ place_of items offset
place_unique items apart offset p within below above =
    let place = place_apart items apart offset in
    let q = place_of items offset in
    let inside = place.within in
    ⊎_elim
    (λ (same : p ≡ q). same)
    (λ (other : (p < q) ⊎ (q < p)). ⊎_elim
    (λ (low : p < q). let a = place.below p low in let b = above (omega arith) in absurd (omega arith))
    (λ (high : q < p). let a = place.others (p - 1) (omega arith) (omega arith) in let b = below (omega arith) in absurd (omega arith))
    other)
    (cases_order p q)

-- where alignments keep all, items free multiples of the granularity too
cautious_item : (u start : ℕ) (item : Item) (k : ℕ) → ItemSuits u start item → IsSound item → ItemFrees u item (freed_cautiously item k)
cautious_item u start (Site site) k fit sound =
    let m = multiple_of u (site.len - shape_len site.shapes k) (fit.freed k) in
    let z : 0 + k ≡ k = omega arith in
    (m.0, m.1, omega (arith, ap (shape_len site.shapes) z, lens_ascend u site.len site.shapes fit 0 k, len_fits site.shapes site.len k sound.1 sound.2))
cautious_item u start (Aligned alignment) k fit sound = (0, omega arith, omega arith)

pub cautious_next : (items : List Item) (choice : ℕ → ℕ) (i : ℕ) → cautious_before items choice (i + 1) ≡ cautious_before items choice i + freed_cautiously (item_at items i) (choice i)
unfolding cautious_before
cautious_next items choice i = rw add-one refl

pub cautious_none : (items : List Item) (choice : ℕ → ℕ) → cautious_before items choice 0 ≡ 0
unfolding cautious_before
cautious_none items choice = refl

pub cautious_frees : (start : ℕ) (items : List Item) (choice : ℕ → ℕ) → AreItems start items → Frees (run_granularity items) items (cautious_before items choice)
cautious_frees start items choice are = record {
  none = cautious_none items choice;
  step = λ j within.
      let here = cautious_item (run_granularity items) start (item_at items j) (choice j) (item_suits start items are j within) (are.in_order.sound j within) in
      (here.0, cautious_next items choice j ∙ ap (λ x. cautious_before items choice j + x) here.1, here.2);
}

-- and no more than with a choice that is no longer and exact paddings
item_less : (u start : ℕ) (item : Item) (k longer freed : ℕ) → ItemSuits u start item → k ≤ longer → freed_cautiously item longer ≤ len_of item - kept_by start item k freed
item_less u start (Site site) k longer freed fit up =
    let z : k + (longer - k) ≡ longer = omega arith in
    omega (arith, ap (shape_len site.shapes) z, lens_ascend u site.len site.shapes fit k (longer - k))
item_less u start (Aligned alignment) k longer freed fit up = omega arith

pub cautious_less : (start : ℕ) (items : List Item) (choice other : ℕ → ℕ) → AreItems start items → ((i : ℕ) → i < length items → choice i ≤ other i) → FreesLess items (cautious_before items other) (freed_before start items choice)
cautious_less start items choice other are bound j within =
    let a = cautious_next items other j in
    let b = freed_next start items choice j in
    omega (arith, item_less (run_granularity items) start (item_at items j) (choice j) (other j) (freed_before start items choice j) (item_suits start items are j within) (bound j within))

-- without alignments a choice frees no more than one that is no longer
site_less : (u start : ℕ) (item : Item) (k longer freed other_freed : ℕ) → ItemSuits u start item → IsSite item → k ≤ longer → len_of item - kept_by start item longer other_freed ≤ len_of item - kept_by start item k freed
site_less u start (Site site) k longer freed other_freed fit is_site up = item_less u start (Site site) k longer freed fit up
site_less u start (Aligned alignment) k longer freed other_freed fit is_site up = absurd is_site

exact_less : (start : ℕ) (items : List Item) (choice other : ℕ → ℕ) → AreItems start items → HaveNoAlignment items → ((i : ℕ) → i < length items → choice i ≤ other i) → FreesLess items (freed_before start items other) (freed_before start items choice)
exact_less start items choice other are sites bound j within =
    let c = site_less (run_granularity items) start (item_at items j) (choice j) (other j) (freed_before start items choice j) (freed_before start items other j) (item_suits start items are j within) (sites j within) (bound j within) in
    omega (arith, freed_next start items other j, freed_next start items choice j)

-- no round is longer than a choice in reach where alignments keep all
rounds_cautious : (start : ℕ) (items : List Item) (other : ℕ → ℕ) → AreItems start items → IsInReachCautiously items other → (r i : ℕ) → i < length items → after_rounds start items r i ≤ other i
unfolding after_rounds
rounds_cautious start items other are reached zero i within = omega arith
rounds_cautious start items other are reached (suc r) i within =
    let bound = rounds_cautious start items other are reached r in
    bound_next start items (after_rounds start items r) other (cautious_before items other) are (cautious_frees start items other are) (exact_frees start items (after_rounds start items r) are)
    (cautious_less start items (after_rounds start items r) other are bound) (place_is start items are.in_order) bound reached i within

-- nor, without alignments, than a choice in reach
rounds_exact : (start : ℕ) (items : List Item) (other : ℕ → ℕ) → AreItems start items → HaveNoAlignment items → IsInReachExactly start items other → (r i : ℕ) → i < length items → after_rounds start items r i ≤ other i
unfolding after_rounds
rounds_exact start items other are sites reached zero i within = omega arith
rounds_exact start items other are sites reached (suc r) i within =
    let bound = rounds_exact start items other are sites reached r in
    bound_next start items (after_rounds start items r) other (freed_before start items other) are (exact_frees start items other are) (exact_frees start items (after_rounds start items r) are)
    (exact_less start items (after_rounds start items r) other are sites bound) (place_is start items are.in_order) bound reached i within

pub relaxed_cautious : (start : ℕ) (items : List Item) (shapes : List ℕ) (r : ℕ) → AreItems start items → ((i : ℕ) → choice_of shapes i ≡ after_rounds start items r i) → AreForced items shapes
relaxed_cautious start items shapes r are same other reached i within =
    let e = same i in let h = rounds_cautious start items other are reached r i within in omega arith

pub relaxed_exact : (start : ℕ) (items : List Item) (shapes : List ℕ) (other : ℕ → ℕ) → AreItems start items → AreRelaxed start items shapes → HaveNoAlignment items → IsInReachExactly start items other → AreNotLonger items shapes other
relaxed_exact start items shapes other are relaxed sites reached i within =
    let e = relaxed.same i in let h = rounds_exact start items other are sites reached relaxed.rounds i within in omega arith

-- ---- choices where alignments keep all, beside one another

-- a longer choice frees no more
pub kept_less : (u start : ℕ) (item : Item) (k longer : ℕ) → ItemSuits u start item → k ≤ longer → freed_cautiously item longer ≤ freed_cautiously item k
kept_less u start (Site site) k longer fit up = item_less u start (Site site) k longer 0 fit up
kept_less u start (Aligned alignment) k longer fit up = omega arith

both_less : (start : ℕ) (items : List Item) (choice other : ℕ → ℕ) → AreItems start items → ((i : ℕ) → i < length items → choice i ≤ other i) → FreesLess items (cautious_before items other) (cautious_before items choice)
both_less start items choice other are bound j within =
    let a = cautious_next items other j in
    omega (arith, cautious_next items choice j, kept_less (run_granularity items) start (item_at items j) (choice j) (other j) (item_suits start items are j within) (bound j within))

-- A site that is out of reach is so with the same shape in each choice that is nowhere shorter.
pub still_out : (start : ℕ) (items : List Item) (choice other : ℕ → ℕ) → AreItems start items → ((i : ℕ) → i < length items → choice i ≤ other i)
    → (i : ℕ) → i < length items → choice i ≡ other i → is_in_reach_cautiously items choice i ≡ false → is_in_reach_cautiously items other i ≡ true → ⊥
still_out start items choice other are bound i within same out reached =
    let there = all_nearer start items (cautious_before items other) (cautious_before items choice) (choice i) are (cautious_frees start items other are) (cautious_frees start items choice are)
    (both_less start items choice other are bound) (place_is start items are.in_order) i within
    (ap (λ k. item_reaches (item_at items i) k (cautious_before items other i) (cautious_before items other (place_of items (target_of (item_at items i))))) same ∙ reached) in
    both_ways (is_in_reach_cautiously items choice i) out there

-- A site that is out of reach has a longer shape in each choice in reach.
pub forced_next : (start : ℕ) (items : List Item) (choice other : ℕ → ℕ) → AreItems start items → ((i : ℕ) → i < length items → choice i ≤ other i) → IsInReachCautiously items other
    → (i : ℕ) → i < length items → is_in_reach_cautiously items choice i ≡ false → choice i + 1 ≤ other i
forced_next start items choice other are bound reached i within out =
    ⊎_elim
    (λ (less : choice i < other i). omega (arith, bound i within))
    (λ (more : other i ≤ choice i). absurd (still_out start items choice other are bound i within (omega (arith, bound i within)) out (reached i within)))
    (cases_lt (choice i) (other i))

-- what is in reach where alignments keep all is in reach with what it frees
pub cautious_exactly : (start : ℕ) (items : List Item) (choice : ℕ → ℕ) → AreItems start items → IsInReachCautiously items choice → IsInReachExactly start items choice
cautious_exactly start items choice are reached i within =
    all_nearer start items (cautious_before items choice) (freed_before start items choice) (choice i) are (cautious_frees start items choice are) (exact_frees start items choice are)
    (cautious_less start items choice choice are (λ j there. omega arith)) (place_is start items are.in_order) i within (reached i within)

-- without alignments both are one
site_same : (start : ℕ) (item : Item) (k freed : ℕ) → IsSite item → len_of item - kept_by start item k freed ≡ freed_cautiously item k
site_same start (Site site) k freed is_site = refl
site_same start (Aligned alignment) k freed is_site = absurd is_site

layouts_same : (start : ℕ) (items : List Item) (choice : ℕ → ℕ) → HaveNoAlignment items → (i : ℕ) → i ≤ length items → freed_before start items choice i ≡ cautious_before items choice i
layouts_same start items choice sites zero within = let a = freed_none start items choice in let b = cautious_none items choice in omega arith
layouts_same start items choice sites (suc i) within =
    let rest = layouts_same start items choice sites i (omega arith) in
    let a = freed_next start items choice i in
    let z : suc i ≡ i + 1 = omega arith in
    let c = ap (freed_before start items choice) z in
    omega (arith, cautious_next items choice i, ap (cautious_before items choice) z, site_same start (item_at items i) (choice i) (freed_before start items choice i) (sites i (omega arith)))

pub exactly_cautious : (start : ℕ) (items : List Item) (choice : ℕ → ℕ) → AreItems start items → HaveNoAlignment items → IsInReachExactly start items choice → IsInReachCautiously items choice
exactly_cautious start items choice are sites reached i within =
    let p = place_of items (target_of (item_at items i)) in
    let place = place_is start items are.in_order (target_of (item_at items i)) in
    ap (λ x. item_reaches (item_at items i) (choice i) x (cautious_before items choice p)) (sym (layouts_same start items choice sites i (omega arith)))
    ∙ ap (λ x. item_reaches (item_at items i) (choice i) (freed_before start items choice i) x) (sym (layouts_same start items choice sites p place.within))
    ∙ reached i within

-- ---- one shape changed

pub cautious_agrees : (items : List Item) (choice other : ℕ → ℕ) (j : ℕ) → ((k : ℕ) → k < j → choice k ≡ other k) → cautious_before items choice j ≡ cautious_before items other j
cautious_agrees items choice other zero same = cautious_none items choice ∙ sym (cautious_none items other)
cautious_agrees items choice other (suc j) same =
    let rest = cautious_agrees items choice other j (λ k below. same k (omega arith)) in
    let a = cautious_next items choice j in
    let z : suc j ≡ j + 1 = omega arith in
    omega (arith, cautious_next items other j, ap (cautious_before items choice) z, ap (cautious_before items other) z, ap (freed_cautiously (item_at items j)) (same j (omega arith)))

pub cautious_changed : (items : List Item) (choice other : ℕ → ℕ) (i j : ℕ) → ((k : ℕ) → k ≢ i → choice k ≡ other k) → i < j
    → cautious_before items choice j + freed_cautiously (item_at items i) (other i) ≡ cautious_before items other j + freed_cautiously (item_at items i) (choice i)
cautious_changed items choice other i zero same below = absurd (omega arith)
cautious_changed items choice other i (suc j) same below =
    let a = cautious_next items choice j in
    let b = cautious_next items other j in
    let z : suc j ≡ j + 1 = omega arith in
    let c = ap (cautious_before items choice) z in
    let d = ap (cautious_before items other) z in
    ⊎_elim
    (λ (before : i < j).
    omega (arith, cautious_changed items choice other i j same before, ap (freed_cautiously (item_at items j)) (same j (λ h. absurd (omega arith)))))
    (λ (here : j ≤ i).
    let e : i ≡ j = omega arith in
    let rest = cautious_agrees items choice other j (λ k h. same k (λ g. absurd (omega arith))) in
    omega (arith, ap (λ n. freed_cautiously (item_at items n) (other n)) e, ap (λ n. freed_cautiously (item_at items n) (choice n)) e))
    (cases_lt i j)

-- no more is freed than lies there
pub cautious_fits : (start : ℕ) (items : List Item) (choice : ℕ → ℕ) → AreItems start items → (i : ℕ) → i < length items → cautious_before items choice (i + 1) ≤ end_of (item_at items i)
cautious_fits start items choice are zero within =
    omega (arith, ((cautious_frees start items choice are).step 0 within).1, ((cautious_frees start items choice are).step 0 within).2, cautious_none items choice)
cautious_fits start items choice are (suc i) within =
    let rest = cautious_fits start items choice are i (omega arith) in
    let z : suc i ≡ i + 1 = omega arith in
    let f = (cautious_frees start items choice are).step (i + 1) (omega arith) in
    omega (arith, ap (λ n. cautious_before items choice (n + 1)) z, ap (λ n. end_of (item_at items n)) z, f.1, f.2, are.in_order.apart i (omega arith))

pub cautious_up : (start : ℕ) (items : List Item) (choice : ℕ → ℕ) (i d : ℕ) → cautious_before items choice i ≤ cautious_before items choice (i + d)
cautious_up start items choice i zero = let z : i + 0 ≡ i = omega arith in let a = ap (cautious_before items choice) z in omega arith
cautious_up start items choice i (suc d) =
    let z : i + suc d ≡ i + d + 1 = omega arith in
    omega (arith, ap (cautious_before items choice) z, cautious_up start items choice i d, cautious_next items choice (i + d))

pub cautious_end : (start : ℕ) (items : List Item) (choice : ℕ → ℕ) → AreItems start items → (n : ℕ) → n ≡ length items → cautious_before items choice n < 2 ^ 64
cautious_end start items choice are zero last = let a = cautious_none items choice in omega arith
cautious_end start items choice are (suc n) last =
    let z : suc n ≡ n + 1 = omega arith in
    omega (arith, ap (cautious_before items choice) z, cautious_fits start items choice are n (omega arith), are.in_order.ends n (omega arith))
