-- What a round makes of a choice, and how many rounds there can be.
use Rattle.linker_runs.proofs.Imports.{Item, List, [], add-one, after_rounds, ap, arith, cases_lt, choice_of, cond, freed_before, get_or, get_or-eq_default, is_in_reach, item_at, item_reaches, length, lengthened, nat_tests, no_item, place_of, refl, suc, sum, sum_by-cons, sym, target_of, true, zero, ℕ, ⊎_elim, ◌*◌, ◌+◌, ◌<◌, ◌∙◌, ◌∷◌, ◌≡◌, ◌≤◌}
use Rattle.linker_runs.proofs.Layouts.{freed_agrees, reaches_alike, lengthened_in}

-- what stands outside of the run reaches everything
no_item_reaches : (k here there : ℕ) → item_reaches no_item k here there ≡ true
no_item_reaches k here there = grind (arith, nat_tests)

reach_outside : (start : ℕ) (items : List Item) (choice : ℕ → ℕ) (i : ℕ) → length items ≤ i → is_in_reach start items choice i ≡ true
reach_outside start items choice i outside =
    ap (λ item. item_reaches item (choice i) (freed_before start items choice i) (freed_before start items choice (place_of items (target_of item)))) (get_or-eq_default items no_item outside)
    ∙ no_item_reaches (choice i) (freed_before start items choice i) (freed_before start items choice (place_of items (target_of no_item)))

-- two choices that are one have the same reach
pub reach_agrees : (start : ℕ) (items : List Item) (choice other : ℕ → ℕ) → ((k : ℕ) → choice k ≡ other k) → (i : ℕ) → is_in_reach start items choice i ≡ is_in_reach start items other i
reach_agrees start items choice other same i =
    let place = place_of items (target_of (item_at items i)) in
    reaches_alike (item_at items i) (choice i) (other i) (freed_before start items choice i) (freed_before start items other i) (freed_before start items choice place) (freed_before start items other place)
    (same i) (freed_agrees start items choice other i (λ k below. same k)) (freed_agrees start items choice other place (λ k below. same k))

pub lengthened_agrees : (start : ℕ) (items : List Item) (choice other : ℕ → ℕ) → ((k : ℕ) → choice k ≡ other k) → (i : ℕ) → lengthened start items choice i ≡ lengthened start items other i
lengthened_agrees start items choice other same i =
    ap (λ b. cond b (choice i) (choice i + 1)) (reach_agrees start items choice other same i)
    ∙ ap (λ x. cond (is_in_reach start items other i) x (x + 1)) (same i)

-- a list that is lengthened at each index of the run is the choice of the next round
pub next_round : (start : ℕ) (items : List Item) (old new : List ℕ) (r : ℕ) → length old ≡ length items → length new ≡ length items
    → ((i : ℕ) → i < length items → choice_of new i ≡ lengthened start items (choice_of old) i)
    → ((i : ℕ) → choice_of old i ≡ after_rounds start items r i)
    → (i : ℕ) → choice_of new i ≡ after_rounds start items (r + 1) i
unfolding after_rounds
next_round start items old new r eold enew each before i = rw add-one
    (⊎_elim
    (λ (within : i < length items). each i within ∙ lengthened_agrees start items (choice_of old) (after_rounds start items r) before i)
    (λ (outside : length items ≤ i).
    get_or-eq_default new 0 (omega arith) ∙ sym (get_or-eq_default old 0 (omega arith))
    ∙ sym (lengthened_in start items (choice_of old) i (reach_outside start items (choice_of old) i outside))
    ∙ lengthened_agrees start items (choice_of old) (after_rounds start items r) before i)
    (cases_lt i (length items)))

pub no_round : (start : ℕ) (items : List Item) (i : ℕ) → after_rounds start items 0 i ≡ 0
unfolding after_rounds
no_round start items i = refl

-- numbers up to 2 add up to twice their count at most
pub sum_of_shapes : (xs : List ℕ) → ((i : ℕ) → get_or xs i 0 ≤ 2) → sum xs ≤ 2 * length xs
sum_of_shapes [] short = omega arith
sum_of_shapes (x ∷ xs) short = omega (arith, short zero, sum_by-cons (λ (y : ℕ). y) x xs, sum_of_shapes xs (λ i. short (suc i)))
