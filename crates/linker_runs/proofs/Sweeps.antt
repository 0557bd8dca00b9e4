-- Layouts of a sweep, of which a part is `more` above what the choice frees.
use Rattle.linker_runs.proofs.Imports.{AreCautious, AreForced, AreItems, Item, List, ap, arith, cases_order, cautious_before, choice_of, false, freed_cautiously, get_or, get_or-set_other, get_or-set_same, is_in_reach_cautiously, item_at, length, refl, run_granularity, set, sym, ℕ, ⊎_elim, ◌+◌, ◌-◌, ◌<◌, ◌^◌, ◌∙◌, ◌≡◌, ◌≢◌, ◌≤◌, ◌⊎◌}
use Rattle.linker_runs.proofs.Units.{item_suits}
use Rattle.linker_runs.proofs.Choices.{kept_less, forced_next, cautious_agrees, cautious_changed, cautious_up, cautious_end}

-- the shape of one item is the next
module _ (start : ℕ) (items : List Item) (old new : List ℕ) (i : ℕ) (are : AreItems start items) (within : i < length items) (len : length old ≡ length items)
    (is : new ≡ set old i (get_or old i 0 + 1)) where
  others : (k : ℕ) → k ≢ i → choice_of new k ≡ choice_of old k
  others k ne = ap (λ xs. get_or xs k 0) is ∙ get_or-set_other old i k (get_or old i 0 + 1) 0 ne

  here : choice_of new i ≡ choice_of old i + 1
  here = ap (λ xs. get_or xs i 0) is ∙ get_or-set_same old i (get_or old i 0 + 1) 0 (omega arith)

  pub next_layout : (freed : List ℕ) (more less_freed more_freed : ℕ) → more_freed ≡ freed_cautiously (item_at items i) (choice_of old i) → less_freed ≡ freed_cautiously (item_at items i) (choice_of old i + 1)
      → AreCautious items old freed (i + 1) more → AreCautious items new freed (i + 1) (more + (more_freed - less_freed))
  next_layout freed more less_freed more_freed most least laid = record {
    below = λ j low. laid.below j low ∙ cautious_agrees items (choice_of old) (choice_of new) j (λ k h. sym (others k (λ e. absurd (omega arith))));
    above = λ j high inside.
        let less = kept_less (run_granularity items) start (item_at items i) (choice_of old i) (choice_of old i + 1) (item_suits start items are i within) (omega arith) in
        omega (arith, laid.above j high inside, cautious_changed items (choice_of new) (choice_of old) i j others (omega arith), ap (freed_cautiously (item_at items i)) here);
  }

  pub next_short : choice_of old i < 2 → ((k : ℕ) → choice_of old k ≤ 2) → (k : ℕ) → choice_of new k ≤ 2
  next_short less short k = ⊎_elim
      (λ (same : k ≡ i). let e = ap (choice_of new) same in let h = here in omega arith)
      (λ (apart : (k < i) ⊎ (i < k)). let e = others k (λ e. absurd (omega arith)) in let h = short k in omega arith)
      (cases_order k i)

  pub next_forced : is_in_reach_cautiously items (choice_of old) i ≡ false → AreForced items old → AreForced items new
  next_forced out forced other reached k low = ⊎_elim
      (λ (same : k ≡ i).
      omega (arith, forced_next start items (choice_of old) other are (forced other reached) reached i within out, ap (choice_of new) same, ap other same, here))
      (λ (apart : (k < i) ⊎ (i < k)). let e = others k (λ e. absurd (omega arith)) in let h = forced other reached k low in omega arith)
      (cases_order k i)

-- a step of a sweep to the front, and of one to the back
pub back_step : (items : List Item) (shapes freed new : List ℕ) (i more : ℕ) → i < length freed → AreCautious items shapes freed (i + 1) more → new ≡ set freed i (get_or freed i 0 + more) → AreCautious items shapes new i more
back_step items shapes freed new i more low laid is = record {
  below = λ j h. other j (λ e. absurd (omega arith)) ∙ laid.below j (omega arith);
  above = λ j h inside. ⊎_elim
      (λ (same : j ≡ i).
      let a = ap (λ n. get_or new n 0) same in
      omega (arith, ap (cautious_before items (choice_of shapes)) same, ap (λ xs. get_or xs i 0) is ∙ get_or-set_same freed i (get_or freed i 0 + more) 0 low, laid.below i (omega arith)))
      (λ (apart : (j < i) ⊎ (i < j)). let e = other j (λ e. absurd (omega arith)) in let d = laid.above j (omega arith) inside in omega arith)
      (cases_order j i);
}
  where
    other : (j : ℕ) → j ≢ i → get_or new j 0 ≡ get_or freed j 0
    other j ne = ap (λ xs. get_or xs j 0) is ∙ get_or-set_other freed i j (get_or freed i 0 + more) 0 ne

pub ahead_step : (items : List Item) (shapes freed new : List ℕ) (i more : ℕ) → i < length freed → i ≤ length items → AreCautious items shapes freed i more → new ≡ set freed i (get_or freed i 0 - more) → AreCautious items shapes new (i + 1) more
ahead_step items shapes freed new i more low within laid is = record {
  below = λ j h. ⊎_elim
      (λ (same : j ≡ i).
      let b = ap (cautious_before items (choice_of shapes)) same in
      omega (arith, ap (λ n. get_or new n 0) same, ap (λ xs. get_or xs i 0) is ∙ get_or-set_same freed i (get_or freed i 0 - more) 0 low, laid.above i (omega arith) within))
      (λ (apart : (j < i) ⊎ (i < j)). other j (λ e. absurd (omega arith)) ∙ laid.below j (omega arith))
      (cases_order j i);
  above = λ j h inside. other j (λ e. absurd (omega arith)) ∙ laid.above j (omega arith) inside;
}
  where
    other : (j : ℕ) → j ≢ i → get_or new j 0 ≡ get_or freed j 0
    other j ne = ap (λ xs. get_or xs j 0) is ∙ get_or-set_other freed i j (get_or freed i 0 - more) 0 ne

-- a layout with nothing above, from each index on
pub whole_layout : (items : List Item) (shapes freed : List ℕ) (split : ℕ) → split ≤ length items → AreCautious items shapes freed 0 0 → AreCautious items shapes freed split 0
whole_layout items shapes freed split within laid = record {
  below = λ j h. (let e = laid.above j (omega arith) (omega arith) in omega arith);
  above = λ j h inside. laid.above j (omega arith) inside;
}

-- what it has at the end
pub last_fits : (start : ℕ) (items : List Item) (shapes freed : List ℕ) → AreItems start items → AreCautious items shapes freed 0 0 → get_or freed (length items) 0 < 2 ^ 64
last_fits start items shapes freed are laid =
    omega (arith, laid.above (length items) (omega arith) (omega arith), cautious_end start items (choice_of shapes) are (length items) refl)

-- and so what is above fits, and with what the items before an index free
pub more_fits : (start : ℕ) (items : List Item) (shapes freed : List ℕ) (i more : ℕ) → i < length items → AreCautious items shapes freed (i + 1) more → get_or freed (length items) 0 < 2 ^ 64 → get_or freed i 0 + more < 2 ^ 64
more_fits start items shapes freed i more within laid fits =
    let last = laid.above (length items) (omega arith) (omega arith) in
    let z : i + (length items - i) ≡ length items = omega arith in
    omega (arith, laid.below i (omega arith), cautious_up start items (choice_of shapes) i (length items - i), ap (cautious_before items (choice_of shapes)) z)
