-- Deletions in any order, tested part by part: each part against all that comes after it.
use Rattle.linker_base.proofs.Imports.{All, All-append, All-cons, All-from_all_within, All-head, All-map, All-permutation, All-tail, AllWithin, AreApart, AreDisjoint, AreDisjointBeside, AreFirstDisjoint, Bool, DoNotOverlap, EndFits, HoldsAt, IsBefore, IsPartitionPoint, IsPartitionedBy, IsPermutation, IsTrue, IsValid, List, MatchBool, MatchOption, Vec, [], ap, append-nil, arith, cases_eq, cases_order, drop, drop_more, false, false_from_ne_true, false≢true, get_or, get_or-map, get_or_default, inl, inr, length, length-map, map, nat_tests, pairs_of, refl, suc, sym, take, take-append-drop, take_more, true, zero, ℕ, ◌++◌, ◌+◌, ◌-◌, ◌<◌, ◌↔◌, ◌∙◌, ◌∷◌, ◌≡◌, ◌≤◌}
use Rattle.std.specs.Bool.{then_some}
use Rattle.std.proofs.lemmas.List.Concat.{flat_map-append}
use Rattle.linker_base.proofs.Listed.{All-front, All-back}
use Rattle.linker_base.proofs.Merging.{disjoint_joined, disjoint_back, disjoint_across}
use Rattle.linker_base.proofs.Unions.{is_before, disjoint_left, disjoint_from_valid}

-- ---- parts of a list

pub beside_joined : (xs ys others : List (ℕ × ℕ)) → AreDisjointBeside xs (ys ++ others) → AreDisjointBeside ys others → AreDisjointBeside (xs ++ ys) others
beside_joined xs ys others first second = record {
  disjoint = disjoint_joined xs ys first.disjoint second.disjoint (All-front (λ pair. All (λ d. DoNotOverlap d pair) xs) ys others first.apart);
  apart = λ j e within. All-append (λ d. DoNotOverlap d (get_or others j e)) xs ys (All-back (λ pair. All (λ d. DoNotOverlap d pair) xs) ys others first.apart j e within) (second.apart j e within);
}

pub beside_first : (xs ys others : List (ℕ × ℕ)) → AreDisjointBeside (xs ++ ys) others → AreDisjointBeside xs (ys ++ others)
beside_first xs ys others all = record {
  disjoint = disjoint_left xs ys all.disjoint;
  apart = All-append (λ pair. All (λ d. DoNotOverlap d pair) xs) ys others (disjoint_across xs ys all.disjoint) (λ j e within. All-front (λ d. DoNotOverlap d (get_or others j e)) xs ys (all.apart j e within));
}

pub beside_second : (xs ys others : List (ℕ × ℕ)) → AreDisjointBeside (xs ++ ys) others → AreDisjointBeside ys others
beside_second xs ys others all = record {
  disjoint = disjoint_back xs ys all.disjoint;
  apart = λ j e within. All-back (λ d. DoNotOverlap d (get_or others j e)) xs ys (all.apart j e within);
}

-- the same of a front and the rest
pub beside_drop : (ds others : List (ℕ × ℕ)) (k : ℕ) → AreDisjointBeside ds others → AreDisjointBeside (drop k ds) others
beside_drop ds others k all = beside_second (take k ds) (drop k ds) others (rw (take-append-drop k ds) all)

pub beside_take : (ds others : List (ℕ × ℕ)) (k : ℕ) → AreDisjointBeside ds others → AreDisjointBeside (take k ds) (drop k ds ++ others)
beside_take ds others k all = beside_first (take k ds) (drop k ds) others (rw (take-append-drop k ds) all)

pub beside_rest : (ds others : List (ℕ × ℕ)) (k : ℕ) → AreDisjointBeside (take k ds) (drop k ds ++ others) → AreDisjointBeside (drop k ds) others → AreDisjointBeside ds others
beside_rest ds others k first second = rw (take-append-drop k ds) at (beside_joined (take k ds) (drop k ds) others first second)

pub beside_none : (ds others : List (ℕ × ℕ)) → length ds ≡ 0 → AreDisjointBeside ds others
beside_none ds others empty = record {
  disjoint = record { apart = λ i j d lt within. absurd (omega arith); ends = λ i d within. absurd (omega arith) };
  apart = λ j e within i d low. absurd (omega arith);
}

pub disjoint_with_none : (ds others : List (ℕ × ℕ)) → IsValid ds → length others ≡ 0 → AreDisjoint (ds ++ others)
disjoint_with_none ds others valid empty = disjoint_joined ds others (disjoint_from_valid ds valid) (beside_none others [] empty).disjoint (λ j e within. absurd (omega arith))

pub beside_nothing : (ds : List (ℕ × ℕ)) → AreDisjoint ds → AreDisjointBeside ds []
beside_nothing ds disjoint = record { disjoint = disjoint; apart = λ j e within. absurd (omega arith) }

-- what a test of the first deletions tells
pub first_if : (b : Bool) (ds others : List (ℕ × ℕ)) (n : ℕ) → 0 < n → n ≤ length ds → IsTrue b ↔ AreDisjointBeside (take n ds) (drop n ds ++ others)
    → MatchOption (then_some b n) (AreDisjointBeside ds others → ⊥) (AreFirstDisjoint ds others)
first_if true ds others n some within tells = record { some = some; within = within; first = tells.0 refl }
first_if false ds others n some within tells = λ all. false≢true (tells.1 (beside_take ds others n all))

-- ---- deletions that descend

-- each lies below the one before it, and so below all before it
fallen : (ds : List (ℕ × ℕ)) → ((k : ℕ) → k + 1 < length ds → IsBefore (get_or ds (k + 1) (0, 0)) (get_or ds k (0, 0))) → (i n : ℕ) → i + suc n < length ds → IsBefore (get_or ds (i + suc n) (0, 0)) (get_or ds i (0, 0))
fallen ds falling i zero within = let one : i + 1 ≡ i + suc zero = omega arith in rw one at (falling i (omega arith))
fallen ds falling i (suc n) within =
    let one : i + suc n + 1 ≡ i + suc (suc n) = omega arith in
    let last = rw one at (falling (i + suc n) (omega arith)) in
    let rest = fallen ds falling i n (omega arith) in
    (omega (arith, last.0, rest.0), omega (arith, last.1, rest.0))

pub disjoint_from_falling : (ds : List (ℕ × ℕ)) → ((k : ℕ) → k + 1 < length ds → IsBefore (get_or ds (k + 1) (0, 0)) (get_or ds k (0, 0))) → EndFits (get_or ds 0 (0, 0)) → AreDisjoint ds
disjoint_from_falling ds falling fits = record {
  apart = λ i j d lt within.
      let up : i + suc (j - i - 1) ≡ j = omega arith in
      let first : i < length ds = omega arith in
      inr (rw (get_or_default ds i d (0, 0) first, get_or_default ds j d (0, 0) within) (rw up at (fallen ds falling i (j - i - 1) (omega arith))));
  ends = λ k d within. rw (get_or_default ds k d (0, 0) within) (elim (cases_eq k 0) [
    | inl first ↦ rw first fits
    | inr other ↦
        let up : 0 + suc (k - 1) ≡ k = omega arith in
        let last = rw up at (fallen ds falling 0 (k - 1) (omega arith)) in
        omega (arith, last.0, last.1, fits)
  ]);
}

-- ---- one beside a valid list

pub test_is : (r : Bool) (a b : ℕ × ℕ) → IsTrue r ↔ IsBefore a b → r ≡ is_before a b
test_is true a b tells = let below = tells.0 refl in grind (arith, nat_tests, below.0, below.1)
test_is false a b tells = sym (false_from_ne_true (is_before a b) (λ holds. false≢true (tells.1 (grind (arith, nat_tests, holds), grind (arith, nat_tests, holds)))))

-- those below a pair come first
pub below_first : {X : Type 0} (f : X → ℕ × ℕ) (xs : List X) (pair : ℕ × ℕ) → IsValid (map f xs) → IsPartitionedBy (λ x. is_before (f x) pair) xs
below_first f xs pair valid i j d le within passes = elim (cases_eq i j) [
  | inl same ↦ rw same passes
  | inr other ↦
      let inside : j < length (map f xs) = omega (arith, length-map xs f) in
      let step = rw (get_or-map f xs i d (0, 0) (omega arith), get_or-map f xs j d (0, 0) within) at (valid.ascending i j (0, 0) (omega arith) inside) in
      grind (arith, nat_tests, step.0, step.1, passes)
]

-- and the next one decides
pub beside_by_next : {X : Type 0} (f : X → ℕ × ℕ) (xs : List X) (pair : ℕ × ℕ) (k : ℕ) → IsValid (map f xs) → IsPartitionPoint (λ x. is_before (f x) pair ≡ true) (λ x. is_before (f x) pair ≡ false) xs k
    → (k < length xs → IsBefore pair (get_or (map f xs) k (0, 0))) ↔ All (λ d. DoNotOverlap d pair) (map f xs)
beside_by_next {X = X} f [] pair k valid parted = (λ next j d within. absurd (omega arith), λ free inside. absurd (omega arith))
beside_by_next {X = X} f (x ∷ rest) pair k valid parted = (
  λ next j d within.
      let inside : j < length (x ∷ rest) = omega (arith, length-map (x ∷ rest) f) in
      elim (cases_order j k) [
        | inl same ↦ inr (rw (same, get_or_default (map f (x ∷ rest)) k d (0, 0) (omega arith)) (next (omega arith)))
        | inr (inl lower) ↦
            let here = parted.0 j x (omega arith) lower in
            inl (rw (get_or-map f (x ∷ rest) j x d inside) (grind (arith, nat_tests, here), grind (arith, nat_tests, here)))
        | inr (inr higher) ↦
            let step = valid.ascending k j d higher within in
            let first = rw (get_or_default (map f (x ∷ rest)) k (0, 0) d (omega arith)) at (next (omega arith)) in
            inr (omega (arith, step.0, first.0), omega (arith, step.0, first.1))
      ],
  λ free inside. elim (free k (0, 0) (omega (arith, inside, length-map (x ∷ rest) f))) [
    | inl before ↦
        let below = rw (get_or-map f (x ∷ rest) k x (0, 0) inside) at before in
        let here = parted.1 k x (omega arith) inside in
        absurd (grind (arith, nat_tests, here, below.0, below.1))
    | inr after ↦ after
  ],
)

-- ---- what a test of each tells

pub all_tell : {X Y : Type 0} (b : Bool) (P : Y → Type 0) (f : X → Y) (xs : List X) → MatchBool b (AllWithin (λ x. P (f x)) xs 0 (length xs)) ((k : ℕ) × (k < length xs) × HoldsAt (λ x. P (f x) → ⊥) xs k) → IsTrue b ↔ All P (map f xs)
all_tell true P f xs all = (λ _. All-map P f xs (All-from_all_within (λ x. P (f x)) xs all), λ _. refl)
all_tell false P f [] (k, within, denied) = absurd (omega arith)
all_tell false P f (x ∷ xs) (k, within, denied) = (λ none. absurd (false≢true none), λ all. absurd (denied x (rw (get_or-map f (x ∷ xs) k x (f x) within) at (all k (f x) (omega (arith, within, length-map (x ∷ xs) f))))))

-- what holds of all pairs of each batch holds of the pairs of all
pub all_batches : (P : ℕ × ℕ → Type 0) (batches : List (Vec (ℕ × ℕ))) → All (All P) (map (λ (b : Vec (ℕ × ℕ)). b.items) batches) ↔ All P (pairs_of batches)
all_batches P [] = (λ _ k d within. absurd (omega arith), λ _ k d within. absurd (omega arith))
all_batches P (b ∷ bs) =
    let rest = all_batches P bs in (
      λ all. All-append P b.items (pairs_of bs) (All-head (All P) _ _ all) (rest.0 (All-tail (All P) _ _ all)),
      λ all. All-cons (All P) _ _ (All-front P b.items (pairs_of bs) all) (rest.1 (All-back P b.items (pairs_of bs) all)),
    )

-- ---- the same deletions in another order

pub apart_permutation_left : (xs ys others : List (ℕ × ℕ)) → IsPermutation xs ys → AreApart xs others → AreApart ys others
apart_permutation_left xs ys others same apart j e within = All-permutation (λ d. DoNotOverlap d (get_or others j e)) xs ys same (apart j e within)

-- ---- batches

-- the pairs of the batches from one on are its own and those of the later ones
pub pairs_from : (batches : List (Vec (ℕ × ℕ))) (i : ℕ) (batch : Vec (ℕ × ℕ)) → i < length batches → batch ≡ get_or batches i batch → pairs_of (drop i batches) ≡ batch.items ++ pairs_of (drop (i + 1) batches)
pairs_from batches i batch within is =
    ap pairs_of (drop_more batches i batch within) ∙ ap (λ (b : Vec (ℕ × ℕ)). b.items ++ pairs_of (drop (i + 1) batches)) (sym is)

-- one more batch
pub pairs_more : (batches : List (Vec (ℕ × ℕ))) (i : ℕ) (batch : Vec (ℕ × ℕ)) → i < length batches → batch ≡ get_or batches i batch → pairs_of (take (i + 1) batches) ≡ pairs_of (take i batches) ++ batch.items
pairs_more batches i batch within is =
    ap pairs_of (take_more batches i batch within) ∙ flat_map-append (λ (b : Vec (ℕ × ℕ)). b.items) (take i batches) (get_or batches i batch ∷ []) ∙ ap (λ ps. pairs_of (take i batches) ++ ps) (append-nil (get_or batches i batch).items ∙ ap (λ (b : Vec (ℕ × ℕ)). b.items) (sym is))

-- the pairs of the first batches stand in front
pub pairs_front : (batches : List (Vec (ℕ × ℕ))) (i : ℕ) → pairs_of (take i batches) ++ pairs_of (drop i batches) ≡ pairs_of batches
pairs_front batches i = sym (flat_map-append (λ (b : Vec (ℕ × ℕ)). b.items) (take i batches) (drop i batches)) ∙ ap pairs_of (take-append-drop i batches)
