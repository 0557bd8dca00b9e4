-- How many positions are kept, and how many bytes are gone, below an offset.
use Rattle.linker_base.proofs.Imports.{All, All-head, All-tail, AllPairs, AreKept, DoNotOverlap, HasInput, IsSelected, List, [], add-suc, add-zero, ap, arith, cases_Bool, cond, count_by, covers, false, inl, inr, is_kept, list_any, min, nat_tests, rank, refl, suc, sum_by, sum_by-cons, true, true_from_ne_false, zero, zero-add, ℕ, ⊎_elim, ◌+◌, ◌-◌, ◌<◌, ◌^◌, ◌||◌, ◌↔◌, ◌∷◌, ◌≡◌, ◌≤◌}

-- the bytes of the deletion below i
abbrev pub removed_by : ℕ → ℕ × ℕ → ℕ
removed_by i d = min d.1 (i - d.0)

-- the bytes of all deletions below i
abbrev pub removed : List (ℕ × ℕ) → ℕ → ℕ
removed ds i = sum_by (removed_by i) ds

-- R holds between the later elements too
pub all_pairs_tail : {X : Type 0} (R : X → X → Type 0) (x : X) (xs : List X) → AllPairs R (x ∷ xs) → AllPairs R xs
all_pairs_tail R x xs h i j d lt within = h (suc i) (suc j) d (omega arith) (omega arith)

-- and from the first element to each later one
pub all_pairs_head : {X : Type 0} (R : X → X → Type 0) (x : X) (xs : List X) → AllPairs R (x ∷ xs) → All (R x) xs
all_pairs_head R x xs h k d within = h zero (suc k) d (omega arith) (omega arith)

-- one position on, a deletion has one byte more below it where it holds that position
removed_by_step : (i : ℕ) (d : ℕ × ℕ) → removed_by (suc i) d ≡ removed_by i d + cond (covers d i) 1 0
removed_by_step i d = grind (arith, nat_tests)

-- one position on, the bytes gone are more by the deletions that hold that position
removed_step : (ds : List (ℕ × ℕ)) (i : ℕ) → removed ds (suc i) ≡ removed ds i + count_by (λ d. covers d i) ds
removed_step [] i = refl
removed_step (d ∷ ds) i =
    omega (arith, sum_by-cons (removed_by (suc i)) d ds, sum_by-cons (removed_by i) d ds, sum_by-cons (λ d. cond (covers d i) 1 0) d ds, removed_by_step i d, removed_step ds i)

-- a deletion that holds a position is apart from none that holds it too
held_alone : (d : ℕ × ℕ) (ds : List (ℕ × ℕ)) (i : ℕ) → All (DoNotOverlap d) ds → covers d i ≡ true → list_any (λ e. covers e i) ds ≡ false
held_alone d [] i apart held = refl
held_alone d (e ∷ ds) i apart held =
    let rest = held_alone d ds i (All-tail (DoNotOverlap d) e ds apart) held in
    let first = All-head (DoNotOverlap d) e ds apart in
    rw rest (not_both first)
  where
    not_both : DoNotOverlap d e → (covers e i || false) ≡ false
    not_both (inl below) = grind (arith, nat_tests, held, below.1)
    not_both (inr above) = grind (arith, nat_tests, held, above.1)

-- no deletion holds the position, so none is counted
count_none : (ds : List (ℕ × ℕ)) (i : ℕ) → list_any (λ e. covers e i) ds ≡ false → count_by (λ d. covers d i) ds ≡ 0
count_none [] i none = refl
count_none (d ∷ ds) i none = grind (arith, sum_by-cons (λ d. cond (covers d i) 1 0) d ds, count_none ds i, none)

-- where deletions are apart, at most one holds a position
held_once : (ds : List (ℕ × ℕ)) (i : ℕ) → AllPairs DoNotOverlap ds → count_by (λ d. covers d i) ds ≡ cond (list_any (λ d. covers d i) ds) 1 0
held_once [] i apart = refl
held_once (d ∷ ds) i apart = rw (sum_by-cons (λ d. cond (covers d i) 1 0) d ds) (⊎_elim
    (λ (held : covers d i ≡ true). let none = held_alone d ds i (all_pairs_head DoNotOverlap d ds apart) held in rw held (omega (arith, count_none ds i none)))
    (λ (free : covers d i ≡ false). let rest = held_once ds i (all_pairs_tail DoNotOverlap d ds apart) in rw free (omega (arith, rest)))
    (cases_Bool (covers d i)))

-- each position below i is kept or gone
pub rank-removed : (ds : List (ℕ × ℕ)) (i : ℕ) → AllPairs DoNotOverlap ds → rank ds i + removed ds i ≡ i
unfolding rank
rank-removed ds zero apart = none ds
  where
    none : (ds : List (ℕ × ℕ)) → 0 + removed ds 0 ≡ 0
    none [] = refl
    none (d ∷ ds) = omega (arith, sum_by-cons (removed_by 0) d ds, none ds)
rank-removed ds (suc i) apart = grind (arith, nat_tests, rank-removed ds i apart, removed_step ds i, held_once ds i apart)

-- a kept position is counted
pub rank_kept : (ds : List (ℕ × ℕ)) (i : ℕ) → is_kept ds i ≡ true → rank ds (suc i) ≡ rank ds i + 1
unfolding rank
rank_kept ds i kept = rw kept refl

-- a position that is gone isn't
pub rank_gone : (ds : List (ℕ × ℕ)) (i : ℕ) → is_kept ds i ≡ false → rank ds (suc i) ≡ rank ds i
unfolding rank
rank_gone ds i gone = rw gone refl

-- n positions on, the rank is no lower, and by n higher at most
rank_rises : (ds : List (ℕ × ℕ)) (i n : ℕ) → (rank ds i ≤ rank ds (i + n)) × (rank ds (i + n) ≤ rank ds i + n)
unfolding rank
rank_rises ds i zero = rw (add-zero i) (omega arith, omega arith)
rank_rises ds i (suc n) =
    let before = rank_rises ds i n in
    rw (add-suc i n) (grind (arith, nat_tests, before.0), grind (arith, nat_tests, before.1))

-- a later offset has no lower rank
pub rank-mono : (ds : List (ℕ × ℕ)) (a b : ℕ) → a ≤ b → rank ds a ≤ rank ds b
rank-mono ds a b le = let e : a + (b - a) ≡ b = omega arith in rw e at (rank_rises ds a (b - a)).0

-- two kept positions of one rank are one
pub selected_once : (ds : List (ℕ × ℕ)) (y p q : ℕ) → IsSelected ds y p → IsSelected ds y q → p ≡ q
selected_once ds y p q one other = grind (arith, rank_kept ds p one.kept, rank_kept ds q other.kept, rank-mono ds (suc p) q, rank-mono ds (suc q) p, one.ranked, other.ranked)

-- an offset of 64 bits has rank y and is kept just where the one that is selected is of 64 bits
pub input_fits : (ds : List (ℕ × ℕ)) (y p : ℕ) → IsSelected ds y p → HasInput ds y ↔ (p < 2 ^ 64)
input_fits ds y p selected = (λ has. omega (arith, selected_once ds y p has.0 selected has.2), λ fits. (p, fits, selected))

-- the rank rises by at most one a position
pub rank_steps : (ds : List (ℕ × ℕ)) (i n : ℕ) → rank ds (i + n) ≤ rank ds i + n
rank_steps ds i n = (rank_rises ds i n).1

rank-zero : (ds : List (ℕ × ℕ)) → rank ds 0 ≡ 0
unfolding rank
rank-zero ds = refl

pub rank-le : (ds : List (ℕ × ℕ)) (i : ℕ) → rank ds i ≤ i
rank-le ds i = omega (arith, rank_steps ds 0 i, ap (rank ds) (zero-add i), rank-zero ds)

-- and by as many as there are where all are kept
pub rank_all_kept : (ds : List (ℕ × ℕ)) (start len : ℕ) → AreKept ds start len → rank ds (start + len) ≡ rank ds start + len
rank_all_kept ds start zero kept = omega (arith, ap (rank ds) (add-zero start))
rank_all_kept ds start (suc n) kept =
    omega (arith, ap (rank ds) (add-suc start n), rank_kept ds (start + n) (kept n (omega arith)), rank_all_kept ds start n (λ k low. kept k (omega arith)))

-- and only there
pub kept_from_rank : (ds : List (ℕ × ℕ)) (start len : ℕ) → rank ds (start + len) ≡ rank ds start + len → AreKept ds start len
kept_from_rank ds start len all k low = true_from_ne_false (is_kept ds (start + k)) (λ gone.
    let rest : start + len ≡ suc (start + k) + (len - suc k) = omega arith in
    omega (arith, ap (rank ds) rest, rank_steps ds (suc (start + k)) (len - suc k), rank_gone ds (start + k) gone, rank_steps ds start k))
