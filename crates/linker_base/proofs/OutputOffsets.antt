-- Where a list of deletions parts at an offset or at an output offset, and what is gone before it.
use Rattle.linker_base.proofs.Imports.{AllPairs, AllWithin, AreDisjoint, DoNotOverlap, IsBefore, IsSelected, IsValid, List, [], add-one, add-suc, add-zero, ap, arith, bytes_of, cases_lt, covers, false, get_or, inl, inr, is_kept, length, list_any, nat_tests, not, rank, refl, suc, sum_by-cons, sum_by-take-le, sum_by_more, take, take-take, take_all, true, zero, ℕ, ◌+◌, ◌-◌, ◌<◌, ◌^◌, ◌∷◌, ◌≡◌, ◌≤◌}
use Rattle.linker_base.proofs.Rank.{removed_by, removed, rank-removed}
use Rattle.linker_base.proofs.Unions.{disjoint_from_valid}

-- deletions that end at or below an offset, and then such that begin at or above it
pub record AreParted (ds : List (ℕ × ℕ)) (k i : ℕ) : Type 0 where
  pub passed : AllWithin (λ d. d.0 + d.1 ≤ i) ds 0 k
  pub ahead : AllWithin (λ d. i ≤ d.0) ds k (length ds)

parted_tail : (d : ℕ × ℕ) (ds : List (ℕ × ℕ)) (k n i : ℕ) → n ≡ k - 1 → AreParted (d ∷ ds) k i → AreParted ds n i
parted_tail d ds k n i same h = record {
  passed = λ j e from below. h.passed (suc j) e (omega arith) (omega arith);
  ahead = λ j e from below. h.ahead (suc j) e (omega arith) (omega arith);
}

-- where the list is parted by an offset, the bytes gone below it are those of the first deletions
pub removed-parted : (ds : List (ℕ × ℕ)) (k i : ℕ) → AreParted ds k i → removed ds i ≡ bytes_of (take k ds)
removed-parted [] zero i h = refl
removed-parted [] (suc k) i h = refl
removed-parted (d ∷ ds) zero i h =
    let first : i ≤ d.0 = h.ahead 0 d (omega arith) (omega arith) in
    omega (arith, sum_by-cons (removed_by i) d ds, removed-parted ds zero i (parted_tail d ds zero zero i (omega arith) h))
removed-parted (d ∷ ds) (suc k) i h =
    let first : d.0 + d.1 ≤ i = h.passed 0 d (omega arith) (omega arith) in
    omega (arith, sum_by-cons (removed_by i) d ds, sum_by-cons (λ (e : ℕ × ℕ). e.1) d (take k ds), removed-parted ds k i (parted_tail d ds (suc k) k i (omega arith) h))

-- an offset that parts the list is its rank and the bytes of the deletions below it
pub rank-parted : (ds : List (ℕ × ℕ)) (k i : ℕ) → AllPairs DoNotOverlap ds → AreParted ds k i → rank ds i + bytes_of (take k ds) ≡ i
rank-parted ds k i apart parted = omega (arith, rank-removed ds i apart, removed-parted ds k i parted)

-- the bytes of the first deletions don't fall as more are taken
pub bytes_of-take_rise : (ds : List (ℕ × ℕ)) (j k : ℕ) → j ≤ k → bytes_of (take j ds) ≤ bytes_of (take k ds)
bytes_of-take_rise ds j k le = rw (take-take j k ds le) at (sum_by-take-le (λ (e : ℕ × ℕ). e.1) (take k ds) j)

-- no deletion holds a position where each that begins at it or below ends there or below
pub none_covers : (ds : List (ℕ × ℕ)) (p : ℕ) → ((j : ℕ) (d : ℕ × ℕ) → j < length ds → (get_or ds j d).0 ≤ p → (get_or ds j d).0 + (get_or ds j d).1 ≤ p) → list_any (λ d. covers d p) ds ≡ false
none_covers [] p past = refl
none_covers (d ∷ ds) p past =
    let first : d.0 ≤ p → d.0 + d.1 ≤ p = past 0 d (omega arith) in
    let rest = none_covers ds p (λ j e within. past (suc j) e (omega arith)) in
    elim (cases_lt p d.0) [
      | inl below ↦ rw rest (grind (arith, nat_tests))
      | inr from ↦ let end : d.0 + d.1 ≤ p = first from in rw rest (grind (arith, nat_tests))
    ]

-- nor one that parts the list, if those ahead begin above it
kept-parted : (ds : List (ℕ × ℕ)) (k p : ℕ) → AreParted ds k (suc p) → AllWithin (λ d. d.0 + d.1 ≤ p) ds 0 k → is_kept ds p ≡ true
kept-parted ds k p parted passed = ap not (none_covers ds p (λ j d within begun. grind (arith, passed j d (omega arith), parted.ahead j d)))

-- where the output offsets part the list at k, the first k deletions are the bytes to add
pub selected-output : (ds : List (ℕ × ℕ)) (k y : ℕ) → AllPairs DoNotOverlap ds → k ≤ length ds
    → ((j : ℕ) (d : ℕ × ℕ) → j < k → (get_or ds j d).0 ≤ y + bytes_of (take j ds))
    → ((j : ℕ) (d : ℕ × ℕ) → k ≤ j → j < length ds → y + bytes_of (take j ds) < (get_or ds j d).0)
    → IsSelected ds y (y + bytes_of (take k ds))
selected-output ds k y apart within before after =
    let p = y + bytes_of (take k ds) in
    let passed : AllWithin (λ d. d.0 + d.1 ≤ p) ds 0 k =
    λ j d from below. omega (arith, before j d below, sum_by_more (λ (e : ℕ × ℕ). e.1) ds j d (omega arith), bytes_of-take_rise ds (j + 1) k (omega arith)) in
    let ahead : AllWithin (λ d. suc p ≤ d.0) ds k (length ds) = λ j d from below. omega (arith, after j d from below, bytes_of-take_rise ds k j from) in
    record {
      kept = kept-parted ds k p (record { passed = λ j d from below. omega (arith, passed j d from below); ahead = ahead }) passed;
      ranked = omega (arith, rank-removed ds p apart, removed-parted ds k p (record { passed = passed; ahead = λ j d from below. omega (arith, ahead j d from below) }));
    }

-- the bytes of the deletions from the one at i up to the one n after it lie between their offsets
between : (ds : List (ℕ × ℕ)) (i n : ℕ) (d : ℕ × ℕ) → AllPairs IsBefore ds → i + n < length ds → (get_or ds i d).0 + bytes_of (take (i + n) ds) ≤ (get_or ds (i + n) d).0 + bytes_of (take i ds)
between ds i zero d ascending within = rw (add-zero i) (omega arith)
between ds i (suc n) d ascending within =
    let more = sum_by_more (λ (e : ℕ × ℕ). e.1) ds (i + n) d (omega arith) in
    rw add-suc (omega (arith, between ds i n d ascending (omega arith), (ascending (i + n) (suc (i + n)) d (omega arith) (omega arith)).1, rw (add-one (i + n)) at more))

pub bytes_between : (ds : List (ℕ × ℕ)) (i j : ℕ) (d : ℕ × ℕ) → AllPairs IsBefore ds → i ≤ j → j < length ds → (get_or ds i d).0 + bytes_of (take j ds) ≤ (get_or ds j d).0 + bytes_of (take i ds)
bytes_between ds i j d ascending le within = let e : i + (j - i) ≡ j = omega arith in rw e at (between ds i (j - i) d ascending (omega arith))

-- the bytes of the earlier deletions fit below a deletion's offset
pub bytes-le-offset : (ds : List (ℕ × ℕ)) (j : ℕ) (d : ℕ × ℕ) → AllPairs IsBefore ds → j < length ds → bytes_of (take j ds) ≤ (get_or ds j d).0
bytes-le-offset ds j d ascending within = omega (arith, bytes_between ds 0 j d ascending (omega arith) within)

-- the bytes of disjoint deletions fit 64 bits
pub disjoint_fit : (ds : List (ℕ × ℕ)) → AreDisjoint ds → bytes_of ds < 2 ^ 64
disjoint_fit ds disjoint =
    let parted : AreParted ds (length ds) (2 ^ 64 - 1) = record {
      passed = λ j d from below. omega (arith, disjoint.ends j d below);
      ahead = λ j d from below. absurd (omega arith);
    } in
    let whole : take (length ds) ds ≡ ds = take_all (length ds) ds (omega arith) in
    omega (arith, rw whole at (rank-parted ds (length ds) (2 ^ 64 - 1) disjoint.apart parted))

-- and so do those of a valid list, and of the first of it
pub bytes_fit : (ds : List (ℕ × ℕ)) → IsValid ds → bytes_of ds < 2 ^ 64
bytes_fit ds valid = disjoint_fit ds (disjoint_from_valid ds valid)

pub bytes_of-take_fit : (ds : List (ℕ × ℕ)) (k : ℕ) → IsValid ds → bytes_of (take k ds) < 2 ^ 64
bytes_of-take_fit ds k valid = omega (arith, bytes_fit ds valid, sum_by-take-le (λ (e : ℕ × ℕ). e.1) ds k)
