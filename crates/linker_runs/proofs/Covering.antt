-- Which positions the deletions of a run take, and those of the chosen calls.
use Rattle.linker_runs.proofs.Imports.{Bool, IsChosen, Item, List, [], ap, arith, cases_lt, chosen_deletions, covers, deletion_at, deletions_before, false, false≢true, get_or, is_kept, item_at, length, list_any, not, or_cases, or_left, or_right, pair_at, rank, refl, shrinking, subst, suc, sym, true, zero, ℕ, ⊎_elim, ◌++◌, ◌+◌, ◌<◌, ◌∙◌, ◌∷◌, ◌≡◌, ◌≤◌, ◌⊎◌}
use Rattle.std.proofs.lemmas.List.Folds.{list_any-append}
use Rattle.linker_runs.proofs.Deletions.{deletions_none, deletions_next}

-- whether one of the deletions takes the position
abbrev pub takes : List (ℕ × ℕ) → ℕ → Bool
takes ds p = list_any (λ d. covers d p) ds

pub same_test : (a b : Bool) → (a ≡ true → b ≡ true) → (b ≡ true → a ≡ true) → a ≡ b
same_test true b f g = sym (f refl)
same_test false true f g = g refl
same_test false false f g = refl

pub takes_joined : (xs ys : List (ℕ × ℕ)) (p : ℕ) → takes (xs ++ ys) p ≡ true → (takes xs p ≡ true) ⊎ (takes ys p ≡ true)
takes_joined xs ys p h = or_cases (takes xs p) (takes ys p) (sym (list_any-append (λ d. covers d p) xs ys) ∙ h)

pub takes_left : (xs ys : List (ℕ × ℕ)) (p : ℕ) → takes xs p ≡ true → takes (xs ++ ys) p ≡ true
takes_left xs ys p h = list_any-append (λ d. covers d p) xs ys ∙ or_left (takes xs p) (takes ys p) h

pub takes_right : (xs ys : List (ℕ × ℕ)) (p : ℕ) → takes ys p ≡ true → takes (xs ++ ys) p ≡ true
takes_right xs ys p h = list_any-append (λ d. covers d p) xs ys ∙ or_right (takes xs p) (takes ys p) h

-- an item of the run that loses the position
abbrev pub Loses : List Item → List ℕ → ℕ → ℕ → Type 0
Loses items kept p j = takes (deletion_at (item_at items j) (get_or kept j 0)) p ≡ true

pub losing : (items : List Item) (kept : List ℕ) (p n : ℕ) → takes (deletions_before items kept n) p ≡ true → (j : ℕ) × (j < n) × Loses items kept p j
losing items kept p zero h = absurd (false≢true (ap (λ ds. takes ds p) (sym (deletions_none items kept)) ∙ h))
losing items kept p (suc n) h =
    let z : suc n ≡ n + 1 = omega arith in
    let parts = takes_joined (deletions_before items kept n) (deletion_at (item_at items n) (get_or kept n 0)) p (ap (λ ds. takes ds p) (sym (deletions_next items kept n)) ∙ ap (λ m. takes (deletions_before items kept m) p) (sym z) ∙ h) in
    ⊎_elim
    (λ (before : takes (deletions_before items kept n) p ≡ true). let found = losing items kept p n before in (found.0, omega (arith, found.1), found.2))
    (λ (here : Loses items kept p n). (n, omega arith, here))
    parts

pub lost : (items : List Item) (kept : List ℕ) (p n j : ℕ) → j < n → Loses items kept p j → takes (deletions_before items kept n) p ≡ true
lost items kept p zero j below h = absurd (omega arith)
lost items kept p (suc n) j below h =
    let z : suc n ≡ n + 1 = omega arith in
    ap (λ m. takes (deletions_before items kept m) p) z ∙ ap (λ ds. takes ds p) (deletions_next items kept n)
    ∙ ⊎_elim
    (λ (before : j < n). takes_left (deletions_before items kept n) (deletion_at (item_at items n) (get_or kept n 0)) p (lost items kept p n j before h))
    (λ (here : n ≤ j). let e : j ≡ n = omega arith in takes_right (deletions_before items kept n) (deletion_at (item_at items n) (get_or kept n 0)) p (subst (Loses items kept p) e h))
    (cases_lt j n)

-- a deletion of the list that takes the position
pub taking : (ds : List (ℕ × ℕ)) (p : ℕ) → takes ds p ≡ true → (i : ℕ) × (i < length ds) × (covers (pair_at ds i) p ≡ true)
taking [] p h = absurd (false≢true h)
taking (d ∷ ds) p h = ⊎_elim
    (λ (here : covers d p ≡ true). (0, omega arith, here))
    (λ (later : takes ds p ≡ true). let rest = taking ds p later in (suc rest.0, omega (arith, rest.1), rest.2))
    (or_cases (covers d p) (takes ds p) h)

pub taken : (ds : List (ℕ × ℕ)) (p i : ℕ) → i < length ds → covers (pair_at ds i) p ≡ true → takes ds p ≡ true
taken [] p i within h = absurd (omega arith)
taken (d ∷ ds) p zero within h = or_left (covers d p) (takes ds p) h
taken (d ∷ ds) p (suc i) within h = or_right (covers d p) (takes ds p) (taken ds p i (omega arith) h)

-- a chosen call whose deletion takes the position
pub choosing : (calls : List (ℕ × ℕ)) (chosen : List Bool) (p : ℕ) → takes (chosen_deletions calls chosen) p ≡ true → (i : ℕ) × (i < length calls) × IsChosen chosen i × (covers (shrinking (pair_at calls i)) p ≡ true)
choosing [] chosen p h = absurd (false≢true h)
choosing (call ∷ calls) [] p h = absurd (false≢true h)
choosing (call ∷ calls) (true ∷ chosen) p h = ⊎_elim
    (λ (here : covers (shrinking call) p ≡ true). (0, omega arith, refl, here))
    (λ (later : takes (chosen_deletions calls chosen) p ≡ true). let rest = choosing calls chosen p later in (suc rest.0, omega (arith, rest.1), rest.2, rest.3))
    (or_cases (covers (shrinking call) p) (takes (chosen_deletions calls chosen) p) h)
choosing (call ∷ calls) (false ∷ chosen) p h = let rest = choosing calls chosen p h in (suc rest.0, omega (arith, rest.1), rest.2, rest.3)

pub chosen_takes : (calls : List (ℕ × ℕ)) (chosen : List Bool) (p i : ℕ) → i < length calls → IsChosen chosen i → covers (shrinking (pair_at calls i)) p ≡ true → takes (chosen_deletions calls chosen) p ≡ true
chosen_takes [] chosen p i within is h = absurd (omega arith)
chosen_takes (call ∷ calls) [] p zero within is h = cc
chosen_takes (call ∷ calls) [] p (suc i) within is h = cc
chosen_takes (call ∷ calls) (true ∷ chosen) p zero within is h = or_left (covers (shrinking call) p) (takes (chosen_deletions calls chosen) p) h
chosen_takes (call ∷ calls) (true ∷ chosen) p (suc i) within is h = or_right (covers (shrinking call) p) (takes (chosen_deletions calls chosen) p) (chosen_takes calls chosen p i (omega arith) is h)
chosen_takes (call ∷ calls) (false ∷ chosen) p zero within is h = cc
chosen_takes (call ∷ calls) (false ∷ chosen) p (suc i) within is h = chosen_takes calls chosen p i (omega arith) is h

-- two lists that take the same positions leave the same ranks
pub rank_alike : (xs ys : List (ℕ × ℕ)) → ((p : ℕ) → takes xs p ≡ takes ys p) → (i : ℕ) → rank xs i ≡ rank ys i
unfolding rank
rank_alike xs ys same zero = refl
rank_alike xs ys same (suc i) = let kept : is_kept xs i ≡ is_kept ys i = ap not (same i) in rw (kept, rank_alike xs ys same i) refl
