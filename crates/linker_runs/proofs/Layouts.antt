-- What the items before an index free, and the places of offsets.
use Rattle.linker_runs.proofs.Imports.{AllWithin, AreApart, AreInOrder, Bool, Item, List, [], add-one, ap, arith, cond, count_by, end_of, false, freed_before, is_in_reach, item_at, item_reaches, kept_by, len_of, length, lengthened, offset_of, refl, suc, sum_by-cons, true, zero, ℕ, ⊎_elim, ◌+◌, ◌-◌, ◌<◌, ◌∙◌, ◌∷◌, ◌≡◌, ◌≤◌, ◌⊎◌}

-- one item more frees what doesn't stay of it
pub freed_next : (start : ℕ) (items : List Item) (choice : ℕ → ℕ) (i : ℕ) → freed_before start items choice (i + 1) ≡ freed_before start items choice i + (len_of (item_at items i) - kept_by start (item_at items i) (choice i) (freed_before start items choice i))
unfolding freed_before
freed_next start items choice i = rw add-one refl

pub freed_none : (start : ℕ) (items : List Item) (choice : ℕ → ℕ) → freed_before start items choice 0 ≡ 0
unfolding freed_before
freed_none start items choice = refl

-- only the choice for the items before an index matters
pub freed_agrees : (start : ℕ) (items : List Item) (choice other : ℕ → ℕ) (i : ℕ) → ((k : ℕ) → k < i → choice k ≡ other k) → freed_before start items choice i ≡ freed_before start items other i
unfolding freed_before
freed_agrees start items choice other zero same = refl
freed_agrees start items choice other (suc i) same =
    rw ((freed_agrees start items choice other i (λ k below. same k (omega arith))), (same i (omega arith))) refl

-- the items before an index free no more than lies below it
pub freed_fits : (start : ℕ) (items : List Item) (choice : ℕ → ℕ) → AreInOrder start items → (i : ℕ) → i < length items → freed_before start items choice i ≤ offset_of (item_at items i)
freed_fits start items choice order zero within = omega (arith, freed_none start items choice)
freed_fits start items choice order (suc i) within =
    let rest = freed_fits start items choice order i (omega arith) in
    let apart : end_of (item_at items i) ≤ offset_of (item_at items (i + 1)) = order.apart i (omega arith) in
    let next = freed_next start items choice i in
    let bound : freed_before start items choice (i + 1) ≤ offset_of (item_at items (i + 1)) = omega arith in
    rw add-one at bound

-- and up to its end no more than lies below that
pub freed_ends : (start : ℕ) (items : List Item) (choice : ℕ → ℕ) → AreInOrder start items → (i : ℕ) → i < length items → freed_before start items choice (i + 1) ≤ end_of (item_at items i)
freed_ends start items choice order i within = omega (arith, freed_fits start items choice order i within, freed_next start items choice i)

-- the ends of the items ascend
pub ends_apart : (items : List Item) → AreApart items → (i j : ℕ) → i ≤ j → j < length items → end_of (item_at items i) ≤ end_of (item_at items j)
ends_apart items apart zero zero below within = omega arith
ends_apart items apart (suc i) zero below within = absurd (omega arith)
ends_apart items apart i (suc j) below within =
    ⊎_elim
    (λ (before : i ≤ j). let rest = ends_apart items apart i j before (omega arith) in
    let next : end_of (item_at items j) ≤ offset_of (item_at items (j + 1)) = apart j (omega arith) in
    let bound : end_of (item_at items i) ≤ end_of (item_at items (j + 1)) = omega arith in
    rw add-one at bound)
    (λ (same : i ≡ suc j). rw same (omega arith))
    (le_or_same i j below)
  where
    le_or_same : (i j : ℕ) → i ≤ suc j → (i ≤ j) ⊎ (i ≡ suc j)
    le_or_same i j below = grind arith

pub ends_ascend : (start : ℕ) (items : List Item) → AreInOrder start items → (i j : ℕ) → i ≤ j → j < length items → end_of (item_at items i) ≤ end_of (item_at items j)
ends_ascend start items order = ends_apart items order.apart

-- AllWithin of what follows the first element
within_tail : {X : Type 0} (P : X → Type 0) (x : X) (xs : List X) (a b : ℕ) → AllWithin P (x ∷ xs) (suc a) (suc b) → AllWithin P xs a b
within_tail P x xs a b h k d low high = h (suc k) d (omega arith) (omega arith)

-- how many pass is the index up to which all do and from which none does
pub count_point : {X : Type 0} (p : X → Bool) (xs : List X) (i : ℕ) → i ≤ length xs → AllWithin (λ y. p y ≡ true) xs 0 i → AllWithin (λ y. p y ≡ false) xs i (length xs) → count_by p xs ≡ i
count_point p [] i within all none = omega arith
count_point p (x ∷ xs) zero within all none =
    let rest = count_point p xs zero (omega arith) (λ k d low high. absurd (omega arith)) (λ k d low high. none (suc k) d (omega arith) (omega arith)) in
    rw (sum_by-cons (λ x. cond (p x) 1 0) x xs, (none zero x (omega arith) (omega arith))) (omega (arith, rest))
count_point p (x ∷ xs) (suc i) within all none =
    let rest = count_point p xs i (omega arith) (λ k d low high. all (suc k) d (omega arith) (omega arith)) (within_tail (λ y. p y ≡ false) x xs i (length xs) none) in
    rw (sum_by-cons (λ x. cond (p x) 1 0) x xs, (all zero x (omega arith) (omega arith))) (omega (arith, rest))

-- what an item reaches depends on its shape and on what is freed before it and its target
pub reaches_alike : (item : Item) (k k' here here' there there' : ℕ) → k ≡ k' → here ≡ here' → there ≡ there' → item_reaches item k here there ≡ item_reaches item k' here' there'
reaches_alike item k k' here here' there there' a b c =
    ap (λ x. item_reaches item x here there) a ∙ ap (λ x. item_reaches item k' x there) b ∙ ap (item_reaches item k' here') c

pub lengthened_in : (start : ℕ) (items : List Item) (choice : ℕ → ℕ) (i : ℕ) → is_in_reach start items choice i ≡ true → lengthened start items choice i ≡ choice i
lengthened_in start items choice i reached = ap (λ b. cond b (choice i) (choice i + 1)) reached

pub lengthened_out : (start : ℕ) (items : List Item) (choice : ℕ → ℕ) (i : ℕ) → is_in_reach start items choice i ≡ false → lengthened start items choice i ≡ choice i + 1
lengthened_out start items choice i out = ap (λ b. cond b (choice i) (choice i + 1)) out
