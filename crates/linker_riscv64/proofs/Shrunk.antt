-- What chosen calls delete, how far that moves the ends of a call, and which choices stay in reach.
use Rattle.linker_riscv64.proofs.Imports.{All, AllPairs, AreClear, AreDisjoint, AreEightApart, AreKept, AreRunsOf, AreShrinkable, Bool, Contains, DoNotOverlap, EndFits, HaveHit, HaveShrinkableSites, HaveShrinkableTargets, IsApartAt, IsAround, IsChosen, IsEven, IsInReach, IsInReachAt, IsInsideDeletion, IsJalDistance, IsPartOf, IsSortedUnion, IsSplit, IsTrue, KeepsOthers, List, ShrunkCallsAreAccepted, [], all_pairs_head, all_pairs_tail, ap, append-nil, append_assoc, arith, cases_lt, cases_order, chosen_between, chosen_count, chosen_deletions, cond, disjoint_across, disjoint_back, disjoint_joined, distance_over, div-mul-le_self, drop, false, false≢true, get_or, get_or-map, get_or-replicate, get_or-set_other, get_or-set_same, get_or-take, get_or_default, get_or_past, inl, inr, ints, le-leb, leb, length, length-map, length-replicate, length-set, length-take, lt-div-mul-add, lt-leb, map, map-append, map-set, max, min, mul-le-mul_right, nat_lt, negsuc, output_distance, pos, rank, rank-mono, rank-removed, refl, removed, removed_by, replicate, set, shrinking, subst, suc, sym, take, take-append-drop, take-map, take-set-le, take-take, take_all, take_more, take_more_set, true, with_chosen, zero, ℕ, ℤ, ◌%◌, ◌*◌, ◌++◌, ◌+◌, ◌-ℤ◌, ◌-◌, ◌/◌, ◌<◌, ◌↔◌, ◌∙◌, ◌∷◌, ◌≡◌, ◌≢◌, ◌≤◌}
use Rattle.std.specs.List.Sorted.{IsNonDecreasingBy, IsPartitionPoint}
use Rattle.std.proofs.lemmas.Bool.Decides.{nat_tests}
use Rattle.std.proofs.lemmas.List.Elements.{All-head, All-tail, All-nil, All-cons, All-append, All-take, All-contains_itself, Contains-append_left, Contains-append_right}
use Rattle.std.proofs.Math.Seq.{take-nil, take-set-lt}
use Rattle.std.proofs.lemmas.List.Kept.{AllPairs-cons}
use Rattle.std.proofs.lemmas.List.Sums.{sum_by-cons, sum_by-append, sum_by-set, count_by_more_yes, count_by_more_no}
use mir.Val.{bool_byte}
use Rattle.linker_base.proofs.Laws.{merges_shorten}
use Rattle.linker_base.proofs.Unions.{disjoint_left, rank-permutation}
use Rattle.linker_riscv64.specs.declared.shrinking.Runs.{Runs}

-- ---- what chosen calls delete

-- what holds of each call's deletion holds of those of the chosen calls
chosen_all : (P : ℕ × ℕ → Type 0) (calls : List (ℕ × ℕ)) (chosen : List Bool) → All P (map shrinking calls) → All P (chosen_deletions calls chosen)
chosen_all P [] chosen h = All-nil P
chosen_all P (c ∷ cs) [] h = All-nil P
chosen_all P (c ∷ cs) (true ∷ bs) h =
    All-cons P (shrinking c) (chosen_deletions cs bs) (All-head P (shrinking c) (map shrinking cs) h) (chosen_all P cs bs (All-tail P (shrinking c) (map shrinking cs) h))
chosen_all P (c ∷ cs) (false ∷ bs) h = chosen_all P cs bs (All-tail P (shrinking c) (map shrinking cs) h)

-- and what holds between any two of them
chosen_pairs : (R : ℕ × ℕ → ℕ × ℕ → Type 0) (calls : List (ℕ × ℕ)) (chosen : List Bool) → AllPairs R (map shrinking calls) → AllPairs R (chosen_deletions calls chosen)
chosen_pairs R [] chosen h = h
chosen_pairs R (c ∷ cs) [] h = λ i j d lt within. absurd (omega arith)
chosen_pairs R (c ∷ cs) (true ∷ bs) h =
    AllPairs-cons R (shrinking c) (chosen_deletions cs bs)
    (chosen_all (R (shrinking c)) cs bs (all_pairs_head R (shrinking c) (map shrinking cs) h))
    (chosen_pairs R cs bs (all_pairs_tail R (shrinking c) (map shrinking cs) h))
chosen_pairs R (c ∷ cs) (false ∷ bs) h = chosen_pairs R cs bs (all_pairs_tail R (shrinking c) (map shrinking cs) h)

-- the deletions of a part are among those of the whole
part_all : (P : ℕ × ℕ → Type 0) (calls : List (ℕ × ℕ)) (part whole : List Bool) → length part ≡ length whole → IsPartOf part whole → All P (chosen_deletions calls whole) → All P (chosen_deletions calls part)
part_all P [] part whole same inside h = All-nil P
part_all P (c ∷ cs) [] whole same inside h = All-nil P
part_all P (c ∷ cs) (a ∷ part) [] same inside h = absurd (omega arith)
part_all P (c ∷ cs) (true ∷ part) (true ∷ bs) same inside h =
    All-cons P (shrinking c) (chosen_deletions cs part) (All-head P (shrinking c) (chosen_deletions cs bs) h)
    (part_all P cs part bs (omega arith) (λ i. inside (suc i)) (All-tail P (shrinking c) (chosen_deletions cs bs) h))
part_all P (c ∷ cs) (true ∷ part) (false ∷ bs) same inside h = absurd (false≢true (inside 0 refl))
part_all P (c ∷ cs) (false ∷ part) (true ∷ bs) same inside h = part_all P cs part bs (omega arith) (λ i. inside (suc i)) (All-tail P (shrinking c) (chosen_deletions cs bs) h)
part_all P (c ∷ cs) (false ∷ part) (false ∷ bs) same inside h = part_all P cs part bs (omega arith) (λ i. inside (suc i)) h

part_contained : (ds calls : List (ℕ × ℕ)) (part whole : List Bool) → length part ≡ length whole → IsPartOf part whole → All (Contains (with_chosen ds calls whole)) (with_chosen ds calls part)
part_contained ds calls part whole same inside =
    All-append (Contains (with_chosen ds calls whole)) ds (chosen_deletions calls part)
    (λ k d within. Contains-append_left ds (chosen_deletions calls whole) (get_or ds k d) (All-contains_itself ds k d within))
    (part_all (Contains (with_chosen ds calls whole)) calls part whole same inside
    (λ k d within. Contains-append_right ds (chosen_deletions calls whole) (get_or (chosen_deletions calls whole) k d) (All-contains_itself (chosen_deletions calls whole) k d within)))

chosen_disjoint : (ds calls : List (ℕ × ℕ)) (chosen : List Bool) → AreDisjoint (ds ++ map shrinking calls) → AreDisjoint (with_chosen ds calls chosen)
chosen_disjoint ds calls chosen disjoint =
    let following = disjoint_back ds (map shrinking calls) disjoint in
    disjoint_joined ds (chosen_deletions calls chosen) (disjoint_left ds (map shrinking calls) disjoint)
    (record { apart = chosen_pairs DoNotOverlap calls chosen following.apart; ends = chosen_all EndFits calls chosen following.ends })
    (chosen_all (λ pair. All (λ d. DoNotOverlap d pair) ds) calls chosen (disjoint_across ds (map shrinking calls) disjoint))

-- ---- ranks after the chosen calls have given up their bytes

rank_beside : (ds others : List (ℕ × ℕ)) (i : ℕ) → AreDisjoint (ds ++ others) → rank (ds ++ others) i + removed others i ≡ rank ds i
rank_beside ds others i disjoint =
    omega (arith, rank-removed (ds ++ others) i disjoint.apart, rank-removed ds i (disjoint_left ds others disjoint).apart, sum_by-append (removed_by i) ds others)

-- the calls before an index lie below an offset, and the others begin to give up bytes at it or
-- above
record IsParted (calls : List (ℕ × ℕ)) (offset split : ℕ) : Type 0 where
  below : (i : ℕ) (call : ℕ × ℕ) → i < split → i < length calls → (get_or calls i call).0 + 8 ≤ offset
  others : (i : ℕ) (call : ℕ × ℕ) → split ≤ i → i < length calls → offset ≤ (get_or calls i call).0 + 4

removed_whole : (site i : ℕ) → site + 8 ≤ i → removed_by i (site + 4, 4) ≡ 4
removed_whole site i h = grind arith

removed_none : (site i : ℕ) → i ≤ site + 4 → removed_by i (site + 4, 4) ≡ 0
removed_none site i h = grind arith

count-cons : (b : Bool) (bs : List Bool) → chosen_count (b ∷ bs) ≡ cond b 1 0 + chosen_count bs
count-cons b bs = sum_by-cons (λ (b : Bool). cond b 1 0) b bs

-- below such an offset just the calls before the index have given up four bytes each
removed_parted : (calls : List (ℕ × ℕ)) (chosen : List Bool) (i p : ℕ) → length chosen ≡ length calls → IsParted calls i p
    → removed (chosen_deletions calls chosen) i ≡ 4 * chosen_count (take p chosen)
removed_parted [] [] i zero same parted = refl
removed_parted [] [] i (suc p) same parted = refl
removed_parted [] (b ∷ bs) i p same parted = absurd (omega arith)
removed_parted (c ∷ cs) [] i p same parted = absurd (omega arith)
removed_parted (c ∷ cs) (true ∷ bs) i zero same parted =
    let rest = removed_parted cs bs i zero (omega arith) (record { below = λ k call low. absurd (omega arith); others = λ k call high within. parted.others (suc k) call (omega arith) (omega arith) }) in
    omega (arith, sum_by-cons (removed_by i) (shrinking c) (chosen_deletions cs bs), removed_none c.0 i (parted.others 0 c (omega arith) (omega arith)), rest)
removed_parted (c ∷ cs) (false ∷ bs) i zero same parted =
    removed_parted cs bs i zero (omega arith) (record { below = λ k call low. absurd (omega arith); others = λ k call high within. parted.others (suc k) call (omega arith) (omega arith) })
removed_parted (c ∷ cs) (true ∷ bs) i (suc p) same parted =
    let rest = removed_parted cs bs i p (omega arith) (record { below = λ k call low within. parted.below (suc k) call (omega arith) (omega arith); others = λ k call high within. parted.others (suc k) call (omega arith) (omega arith) }) in
    omega (arith, sum_by-cons (removed_by i) (shrinking c) (chosen_deletions cs bs), removed_whole c.0 i (parted.below 0 c (omega arith) (omega arith)), rest, count-cons true (take p bs))
removed_parted (c ∷ cs) (false ∷ bs) i (suc p) same parted =
    let rest = removed_parted cs bs i p (omega arith) (record { below = λ k call low within. parted.below (suc k) call (omega arith) (omega arith); others = λ k call high within. parted.others (suc k) call (omega arith) (omega arith) }) in
    omega (arith, rest, count-cons false (take p bs))

rank_parted : (ds calls : List (ℕ × ℕ)) (chosen : List Bool) (i p : ℕ) → AreShrinkable ds calls → length chosen ≡ length calls → IsParted calls i p
    → rank (with_chosen ds calls chosen) i + 4 * chosen_count (take p chosen) ≡ rank ds i
rank_parted ds calls chosen i p shrinkable same parted =
    omega (arith, rank_beside ds (chosen_deletions calls chosen) i (chosen_disjoint ds calls chosen shrinkable.mergeable), removed_parted calls chosen i p same parted)

-- a call's site parts the calls, at the call
site_parted : (calls : List (ℕ × ℕ)) (k : ℕ) → AreEightApart calls → k < length calls → IsParted calls (get_or calls k (0, 0)).0 k
site_parted calls k apart within = record {
  below = λ i call low inside. rw (get_or_default calls i call (0, 0) inside) (apart i k (0, 0) low within);
  others = λ i call high inside. elim (cases_lt k i) [
    | inl low ↦ rw (get_or_default calls i call (0, 0) inside) (omega (arith, apart k i (0, 0) low inside))
    | inr from ↦ let e : i ≡ k = omega arith in rw (e, get_or_default calls k call (0, 0) within) (omega arith)
  ];
}

-- an offset that is inside none of the deletions parts them where their starts do
target_parted : (calls : List (ℕ × ℕ)) (offset split : ℕ) → IsSplit calls offset split → (IsInsideDeletion (map shrinking calls) offset → ⊥) → IsParted calls offset split
target_parted calls offset split parts outside = record {
  below = λ i call low within. elim (cases_lt offset ((get_or calls i call).0 + 8)) [
    | inl inside ↦ absurd (outside (
      i,
      shrinking (get_or calls i call),
      omega (arith, length-map calls shrinking),
      get_or-map shrinking calls i call (shrinking (get_or calls i call)) within,
      (omega (arith, parts.below i call low within), omega arith),
    ))
    | inr above ↦ above
  ];
  others = parts.others;
}

-- every offset splits the calls somewhere
split_somewhere : (calls : List (ℕ × ℕ)) (offset : ℕ) → AreEightApart calls → (p : ℕ) × IsSplit calls offset p
split_somewhere [] offset apart = (0, record { below = λ i call low within. absurd (omega arith); others = λ i call high within. absurd (omega arith) })
split_somewhere (c ∷ cs) offset apart = elim (cases_lt (c.0 + 4) offset) [
  | inl low ↦
      let rest = split_somewhere cs offset (all_pairs_tail (λ a b. a.0 + 8 ≤ b.0) c cs apart) in
      (suc rest.0, record { below = λ i call. more rest.0 low rest.1 i call; others = λ i call. following rest.0 rest.1 i call })
  | inr high ↦ (0, record { below = λ i call lt within. absurd (omega arith); others = λ i call. all high i call })
]
  where
    more : (n : ℕ) → c.0 + 4 < offset → IsSplit cs offset n → (i : ℕ) (call : ℕ × ℕ) → i < suc n → i < length (c ∷ cs) → (get_or (c ∷ cs) i call).0 + 4 < offset
    more n low rest zero call lt within = low
    more n low rest (suc i) call lt within = rest.below i call (omega arith) (omega arith)

    following : (n : ℕ) → IsSplit cs offset n → (i : ℕ) (call : ℕ × ℕ) → suc n ≤ i → i < length (c ∷ cs) → offset ≤ (get_or (c ∷ cs) i call).0 + 4
    following n rest zero call le within = absurd (omega arith)
    following n rest (suc i) call le within = rest.others i call (omega arith) (omega arith)

    all : offset ≤ c.0 + 4 → (i : ℕ) (call : ℕ × ℕ) → 0 ≤ i → i < length (c ∷ cs) → offset ≤ (get_or (c ∷ cs) i call).0 + 4
    all high zero call le within = high
    all high (suc i) call le within = omega (arith, high, apart 0 (suc i) call (omega arith) within)

-- ---- counts of chosen calls

-- one more element
pub count_more : (bs : List Bool) (k : ℕ) (b : Bool) → k < length bs → get_or bs k false ≡ b → chosen_count (take (k + 1) bs) ≡ chosen_count (take k bs) + bool_byte b
count_more bs k true within at = omega (arith, count_by_more_yes (λ b. b) bs k false within at)
count_more bs k false within at = omega (arith, count_by_more_no (λ b. b) bs k false within at)

count_none : (n : ℕ) → chosen_count (take n []) ≡ 0
count_none n = ap chosen_count (take-nil n)

pub count_between-split : (bs : List Bool) (from to : ℕ) → from ≤ to → chosen_count (take to bs) ≡ chosen_count (take from bs) + chosen_between bs from to
count_between-split bs zero to le = omega (arith, ap (λ n. chosen_count (take n bs)) (let e : to - 0 ≡ to = omega arith in e))
count_between-split bs (suc from) zero le = absurd (omega arith)
count_between-split [] (suc from) (suc to) le = omega (arith, count_none (suc to - suc from))
count_between-split (b ∷ bs) (suc from) (suc to) le =
    omega (arith, count-cons b (take to bs), count-cons b (take from bs), count_between-split bs from to (omega arith), ap (λ n. chosen_count (take n (drop from bs))) (let e : suc to - suc from ≡ to - from = omega arith in e))

-- a chosen call that is dropped is one less
pub count_dropped : (bs : List Bool) (k : ℕ) → k < length bs → get_or bs k false ≡ true → chosen_count (set bs k false) < chosen_count bs
count_dropped bs k within is =
    let unit : ℕ = 1 in
    let one : cond (get_or bs k false) 1 0 ≡ unit = rw is refl in
    omega (arith, sum_by-set (λ (b : Bool). cond b 1 0) bs k false false within, one)

-- ---- the distance of a call after the chosen calls have given up their bytes

module _ (ds calls : List (ℕ × ℕ)) (chosen : List Bool) (k split site target from to : ℕ)
    (shrinkable : AreShrinkable ds calls)
    (same : length chosen ≡ length calls)
    (within : k < length calls)
    (here : get_or calls k (0, 0) ≡ (site, target))
    (parts : IsSplit calls target split)
    (from_is : from ≡ rank ds site)
    (to_is : to ≡ rank ds target) where
  site_rank : rank (with_chosen ds calls chosen) site + 4 * chosen_count (take k chosen) ≡ from
  site_rank =
      rank_parted ds calls chosen site k shrinkable same (subst (λ (c : ℕ × ℕ). IsParted calls c.0 k) here (site_parted calls k shrinkable.apart within)) ∙ sym from_is

  target_rank : rank (with_chosen ds calls chosen) target + 4 * chosen_count (take split chosen) ≡ to
  target_rank =
      rank_parted ds calls chosen target split shrinkable same
      (target_parted calls target split parts (subst (λ (c : ℕ × ℕ). IsInsideDeletion (map shrinking calls) c.1 → ⊥) here (shrinkable.outside k (0, 0) within)))
      ∙ sym to_is

  forward_distance : (count : ℕ) → k ≤ split → count ≡ chosen_between chosen k split → pos (to - 4 * count) -ℤ pos from ≡ output_distance (with_chosen ds calls chosen) site target
  forward_distance count le is =
      let between = count_between-split chosen k split le in
      let moved : to - 4 * count ≡ rank (with_chosen ds calls chosen) target + 4 * chosen_count (take k chosen) = omega (arith, target_rank, between) in
      omega (arith, ints, site_rank, moved)

  backward_distance : (count : ℕ) → split ≤ k → count ≡ chosen_between chosen split k → pos to -ℤ pos (from - 4 * count) ≡ output_distance (with_chosen ds calls chosen) site target
  backward_distance count le is =
      let between = count_between-split chosen split k le in
      let moved : from - 4 * count ≡ rank (with_chosen ds calls chosen) site + 4 * chosen_count (take split chosen) = omega (arith, site_rank, between) in
      omega (arith, ints, target_rank, moved)

  pub distance_over-is : (low high count : ℕ) → low ≡ min k split → high ≡ max k split → count ≡ chosen_between chosen low high → distance_over from to k split count ≡ output_distance (with_chosen ds calls chosen) site target
  distance_over-is low high count low_is high_is is = elim (cases_lt split k) [
    | inl back ↦
        let test : leb k split ≡ false = lt-leb k split back in
        let first : low ≡ split = omega arith in
        let last : high ≡ k = omega arith in
        rw test (backward_distance count (omega arith) (rw (first, last) at is))
    | inr on ↦
        let test : leb k split ≡ true = le-leb k split on in
        let first : low ≡ k = omega arith in
        let last : high ≡ split = omega arith in
        rw test (forward_distance count on (rw (first, last) at is))
  ]

-- a test of the distance decides
pub at_index : (ds calls : List (ℕ × ℕ)) (chosen : List Bool) (k site target : ℕ) (d : ℤ) (r : Bool) → k < length calls → get_or calls k (0, 0) ≡ (site, target)
    → d ≡ output_distance (with_chosen ds calls chosen) site target → (IsTrue r ↔ (IsEven d × IsJalDistance d)) → IsTrue r ↔ IsInReachAt ds calls chosen k
at_index ds calls chosen k site target d r within here is decides =
    let at : IsTrue r ↔ IsInReach (with_chosen ds calls chosen) (site, target) = subst (λ (d : ℤ). IsTrue r ↔ (IsEven d × IsJalDistance d)) is decides in (
      λ t call. rw (get_or_default calls k call (0, 0) within, here) (at.0 t),
      λ all. at.1 (subst (IsInReach (with_chosen ds calls chosen)) here (all (0, 0))),
    )

-- ---- more chosen calls take none out of reach

pub even_sum : (x y : ℕ) → IsEven (pos x -ℤ pos y) ↔ ((x + y) % 2 ≡ 0)
even_sum x y = elim (cases_lt x y) [
  | inl below ↦
      let d : pos x -ℤ pos y ≡ negsuc (y - x - 1) = omega (arith, ints) in
      rw d (λ h. odd (y - x - 1) h (omega arith), λ h. evens (y - x - 1) (omega arith))
  | inr above ↦
      let d : pos x -ℤ pos y ≡ pos (x - y) = omega (arith, ints) in
      rw d (λ h. let e : (x - y) % 2 ≡ 0 = cc in omega arith, λ h. let e : (x - y) % 2 ≡ 0 = omega arith in ap pos e)
]
  where
    odd : (n : ℕ) → IsEven (negsuc n) → x + n + 1 ≡ y → (x + y) % 2 ≡ 0
    odd n h e = let o : 1 - n % 2 ≡ 0 = cc in omega arith

    evens : (n : ℕ) → n % 2 ≡ 1 → IsEven (negsuc n)
    evens n h = ap (λ m. pos (1 - m)) h

nearer_up : (a b c d : ℕ) → a ≤ b → c ≤ d → d - c ≤ b - a → IsJalDistance (pos b -ℤ pos a) → IsJalDistance (pos d -ℤ pos c)
nearer_up a b c d le le' h near = (omega (arith, ints), omega (arith, ints, near.1))

nearer_down : (a b c d : ℕ) → b ≤ a → d ≤ c → c - d ≤ a - b → IsJalDistance (pos b -ℤ pos a) → IsJalDistance (pos d -ℤ pos c)
nearer_down a b c d le le' h near = (omega (arith, ints, near.0), omega (arith, ints))

-- no distance grows where more is deleted
nearer : (ds more : List (ℕ × ℕ)) (site target : ℕ) → All (Contains more) ds → IsJalDistance (output_distance ds site target) → IsJalDistance (output_distance more site target)
nearer ds more site target held near = elim (cases_lt target site) [
  | inl back ↦
      nearer_down (rank ds site) (rank ds target) (rank more site) (rank more target) (rank-mono ds target site (omega arith)) (rank-mono more target site (omega arith))
      (merges_shorten ds more target site held (omega arith)) near
  | inr on ↦
      nearer_up (rank ds site) (rank ds target) (rank more site) (rank more target) (rank-mono ds site target on) (rank-mono more site target on)
      (merges_shorten ds more site target held on) near
]

-- and all distances stay as even or odd as they were
same_parity : (ds calls : List (ℕ × ℕ)) (a b : List Bool) (k : ℕ) → AreShrinkable ds calls → length a ≡ length calls → length b ≡ length calls → k < length calls
    → IsEven (output_distance (with_chosen ds calls a) (get_or calls k (0, 0)).0 (get_or calls k (0, 0)).1)
    → IsEven (output_distance (with_chosen ds calls b) (get_or calls k (0, 0)).0 (get_or calls k (0, 0)).1)
same_parity ds calls a b k shrinkable same_a same_b within even =
    let site = (get_or calls k (0, 0)).0 in
    let target = (get_or calls k (0, 0)).1 in
    let split = split_somewhere calls target shrinkable.apart in
    let at_site = site_parted calls k shrinkable.apart within in
    let at_target = target_parted calls target split.0 split.1 (shrinkable.outside k (0, 0) within) in
    let sum = (even_sum (rank (with_chosen ds calls a) target) (rank (with_chosen ds calls a) site)).0 even in
    (even_sum (rank (with_chosen ds calls b) target) (rank (with_chosen ds calls b) site)).1
    (omega (
      arith,
      sum,
      rank_parted ds calls a site k shrinkable same_a at_site,
      rank_parted ds calls b site k shrinkable same_b at_site,
      rank_parted ds calls a target split.0 shrinkable same_a at_target,
      rank_parted ds calls b target split.0 shrinkable same_b at_target,
    ))

in_reach_grows : (ds calls : List (ℕ × ℕ)) (part whole : List Bool) (k : ℕ) → AreShrinkable ds calls → length part ≡ length calls → length whole ≡ length calls → IsPartOf part whole → k < length calls
    → IsInReach (with_chosen ds calls part) (get_or calls k (0, 0)) → IsInReach (with_chosen ds calls whole) (get_or calls k (0, 0))
in_reach_grows ds calls part whole k shrinkable same_part same_whole inside within reach = (
  same_parity ds calls part whole k shrinkable same_part same_whole within reach.0,
  nearer (with_chosen ds calls part) (with_chosen ds calls whole) (get_or calls k (0, 0)).0 (get_or calls k (0, 0)).1
      (part_contained ds calls part whole (omega arith) inside) reach.1,
)

-- ---- calls that are in reach with none chosen, and out of it with all

none_deleted : (calls : List (ℕ × ℕ)) → chosen_deletions calls (replicate (length calls) false) ≡ []
none_deleted [] = refl
none_deleted (c ∷ cs) = none_deleted cs

count_all : (n m : ℕ) → m ≤ n → chosen_count (take m (replicate n true)) ≡ m
count_all n zero le = refl
count_all zero (suc m) le = absurd (omega arith)
count_all (suc n) (suc m) le = omega (arith, count-cons true (take m (replicate n true)), count_all n m (omega arith))

pub near_enough : (ds calls : List (ℕ × ℕ)) (chosen : List Bool) (k site target from to : ℕ) → AreShrinkable ds calls → length chosen ≡ length calls → k < length calls → get_or calls k (0, 0) ≡ (site, target)
    → from ≡ rank ds site → to ≡ rank ds target → IsEven (pos to -ℤ pos from) × IsJalDistance (pos to -ℤ pos from) → IsInReachAt ds calls chosen k
near_enough ds calls chosen k site target from to shrinkable same within here from_is to_is near call =
    let none = replicate (length calls) false in
    let bare : with_chosen ds calls none ≡ ds = ap (λ xs. ds ++ xs) (none_deleted calls) ∙ append-nil ds in
    let d : pos to -ℤ pos from ≡ output_distance ds site target = ap (λ n. pos n -ℤ pos from) to_is ∙ ap (λ n. pos (rank ds target) -ℤ pos n) from_is in
    let first : IsInReach ds (site, target) = subst (λ (z : ℤ). IsEven z × IsJalDistance z) d near in
    let reach : IsInReach (with_chosen ds calls none) (get_or calls k (0, 0)) = rw (bare, here) first in
    rw (get_or_default calls k call (0, 0) within)
    (in_reach_grows ds calls none chosen k shrinkable (length-replicate (length calls) false) same (λ i is. absurd (not_in_none (length calls) i is)) within reach)
  where
    not_in_none : (n i : ℕ) → get_or (replicate n false) i false ≡ true → ⊥
    not_in_none zero i is = false≢true is
    not_in_none (suc n) zero is = false≢true is
    not_in_none (suc n) (suc i) is = not_in_none n i is

pub too_far : (ds calls : List (ℕ × ℕ)) (chosen : List Bool) (k split site target from to count : ℕ) → AreShrinkable ds calls → length chosen ≡ length calls → k < length calls → get_or calls k (0, 0) ≡ (site, target)
    → IsSplit calls target split → from ≡ rank ds site → to ≡ rank ds target → split ≤ length calls → count ≡ max k split - min k split
    → (IsEven (distance_over from to k split count) × IsJalDistance (distance_over from to k split count) → ⊥) → IsInReachAt ds calls chosen k → ⊥
too_far ds calls chosen k split site target from to count shrinkable same within here parts from_is to_is bound counted far reach =
    let all = replicate (length calls) true in
    let long : length all ≡ length calls = length-replicate (length calls) true in
    let low = count_all (length calls) (min k split) (omega arith) in
    let high = count_all (length calls) (max k split) (omega arith) in
    let between : count ≡ chosen_between all (min k split) (max k split) = omega (arith, low, high, count_between-split all (min k split) (max k split) (omega arith)) in
    let d = distance_over-is ds calls all k split site target from to shrinkable long within here parts from_is to_is (min k split) (max k split) count refl refl between in
    let grown : IsInReach (with_chosen ds calls all) (get_or calls k (0, 0)) =
    in_reach_grows ds calls chosen all k shrinkable same long (λ i is. in_all (length calls) i (inside i is)) within (reach (0, 0)) in
    far (subst (λ (z : ℤ). IsEven z × IsJalDistance z) (sym d) (rw here at grown))
  where
    in_all : (n i : ℕ) → i < n → get_or (replicate n true) i false ≡ true
    in_all n i low = get_or-replicate n i true false low

    inside : (i : ℕ) → get_or chosen i false ≡ true → i < length calls
    inside i is = elim (cases_lt i (length calls)) [
      | inl low ↦ low
      | inr past ↦ absurd (false≢true (sym (get_or_past chosen i false (omega arith)) ∙ is))
    ]

-- so a call out of reach is in no choice that is part of this one and in reach
pub drop_keeps : (ds calls : List (ℕ × ℕ)) (chosen : List Bool) (k : ℕ) → AreShrinkable ds calls → length chosen ≡ length calls → k < length calls
    → (IsInReachAt ds calls chosen k → ⊥) → KeepsOthers ds calls chosen (set chosen k false)
drop_keeps ds calls chosen k shrinkable same within out other same_other reach part i is = elim (cases_order i k) [
  | inl at ↦
      let held : get_or other k false ≡ true = ap (λ n. get_or other n false) (sym at) ∙ is in
      absurd (out (λ call. rw (get_or_default calls k call (0, 0) within) (in_reach_grows ds calls other chosen k shrinkable same_other same part within (reach k (0, 0) within held))))
  | inr (inl below) ↦ let ne : i ≢ k = omega arith in rw (get_or-set_other chosen k i false false ne) (part i is)
  | inr (inr above) ↦ let ne : i ≢ k = omega arith in rw (get_or-set_other chosen k i false false ne) (part i is)
]

-- ---- counts of runs

-- what is past the end adds nothing
count_clamped : (bs : List Bool) (n m : ℕ) → m ≡ min n (length bs) → chosen_count (take m bs) ≡ chosen_count (take n bs)
count_clamped bs n m is = elim (cases_lt n (length bs)) [
  | inl low ↦ let e : m ≡ n = omega arith in rw e refl
  | inr past ↦ let e : m ≡ length bs = omega arith in rw e (ap chosen_count (take_all (length bs) bs (omega arith) ∙ sym (take_all n bs past)))
]

between_clamped : (bs : List Bool) (a b from to : ℕ) → a ≤ b → from ≡ min a (length bs) → to ≡ min b (length bs) → chosen_between bs from to ≡ chosen_between bs a b
between_clamped bs a b from to le from_is to_is =
    omega (arith, count_between-split bs a b le, count_between-split bs from to (omega arith), count_clamped bs a from from_is, count_clamped bs b to to_is)

-- the next run
pub runs_more : (bs : List Bool) (counts : List ℕ) (len run start next count : ℕ) → run < length counts → start ≡ min (run * len) (length bs) → next ≡ start + min len (length bs - start) → count ≡ chosen_between bs start next
    → ((r : ℕ) (d : ℕ) → r < run → get_or counts r d ≡ chosen_between bs (r * len) (r * len + len))
    → (r : ℕ) (d : ℕ) → r < run + 1 → get_or (set counts run count) r d ≡ chosen_between bs (r * len) (r * len + len)
runs_more bs counts len run start next count within start_is next_is is before r d low = elim (cases_lt r run) [
  | inl lower ↦ let ne : r ≢ run = omega arith in get_or-set_other counts run r count d ne ∙ before r d lower
  | inr at ↦
      let e : r ≡ run = omega arith in
      rw e (get_or-set_same counts run count d within ∙ is ∙ between_clamped bs (run * len) (run * len + len) start next (omega arith) start_is (omega arith))
]

-- a run more is summed
pub run_summed : (runs : Runs) (bs : List Bool) (run count base : ℕ) → AreRunsOf runs bs → run < 1024 → count + base ≡ chosen_count (take (run * runs.len) bs)
    → (count + get_or runs.counts run 0) + base ≡ chosen_count (take ((run + 1) * runs.len) bs)
run_summed runs bs run count base counted few before =
    let next : (run + 1) * runs.len ≡ run * runs.len + runs.len = omega arith in
    rw next (omega (arith, before, counted.counted run 0 few, count_between-split bs (run * runs.len) (run * runs.len + runs.len) (omega arith)))

-- one call less, after the first n and among them
count_after : (bs : List Bool) (k n : ℕ) → n ≤ k → chosen_count (take n (set bs k false)) ≡ chosen_count (take n bs)
count_after bs k n le = ap chosen_count (take-set-le n bs k false le)

count_among : (bs : List Bool) (k n : ℕ) → k < length bs → get_or bs k false ≡ true → k < n → chosen_count (take n (set bs k false)) + 1 ≡ chosen_count (take n bs)
count_among bs k n within is low =
    let unit : ℕ = 1 in
    let one : cond (get_or (take n bs) k false) 1 0 ≡ unit = rw (get_or-take n bs k false low, is) refl in
    omega (arith, ap chosen_count (take-set-lt n bs k false low), sum_by-set (λ (b : Bool). cond b 1 0) (take n bs) k false false (omega (arith, length-take n bs)), one)

pub runs_dropped : (runs : Runs) (bs : List Bool) (k : ℕ) → AreRunsOf runs bs → k < length bs → get_or bs k false ≡ true
    → AreRunsOf (record { len = runs.len; counts = set runs.counts (k / runs.len) (get_or runs.counts (k / runs.len) 0 - 1) }) (set bs k false)
runs_dropped runs bs k counted within is = record {
  many = length-set runs.counts (k / runs.len) (get_or runs.counts (k / runs.len) 0 - 1) ∙ counted.many;
  some = counted.some;
  reach_end = omega (arith, counted.reach_end, length-set bs k false);
  counted = each;
}
  where
    each : (r : ℕ) (d : ℕ) → r < 1024 → get_or (set runs.counts (k / runs.len) (get_or runs.counts (k / runs.len) 0 - 1)) r d ≡ chosen_between (set bs k false) (r * runs.len) (r * runs.len + runs.len)
    each r d low =
        let begins = div-mul-le_self k runs.len in
        let ends : k < k / runs.len * runs.len + runs.len = lt-div-mul-add counted.some in
        elim (cases_order r (k / runs.len)) [
          | inl at ↦
              let old = counted.counted r 0 low in
              rw (← at) (get_or-set_same runs.counts r (get_or runs.counts r 0 - 1) d (omega (arith, counted.many))
              ∙ omega (
                arith,
                old,
                count_between-split bs (r * runs.len) (r * runs.len + runs.len) (omega arith),
                count_between-split (set bs k false) (r * runs.len) (r * runs.len + runs.len) (omega arith),
                count_after bs k (r * runs.len) (rw (← at) at begins),
                count_among bs k (r * runs.len + runs.len) within is (rw (← at) at ends),
              ))
          | inr (inl below) ↦
              let ne : r ≢ k / runs.len = omega arith in
              let step : (r + 1) * runs.len ≤ k / runs.len * runs.len = mul-le-mul_right runs.len (omega arith) in
              get_or-set_other runs.counts (k / runs.len) r (get_or runs.counts (k / runs.len) 0 - 1) d ne
              ∙ omega (
                arith,
                counted.counted r d low,
                count_between-split bs (r * runs.len) (r * runs.len + runs.len) (omega arith),
                count_between-split (set bs k false) (r * runs.len) (r * runs.len + runs.len) (omega arith),
                count_after bs k (r * runs.len) (omega arith),
                count_after bs k (r * runs.len + runs.len) (omega arith),
              )
          | inr (inr above) ↦
              let ne : r ≢ k / runs.len = omega arith in
              let step : (k / runs.len + 1) * runs.len ≤ r * runs.len = mul-le-mul_right runs.len (omega arith) in
              get_or-set_other runs.counts (k / runs.len) r (get_or runs.counts (k / runs.len) 0 - 1) d ne
              ∙ omega (
                arith,
                counted.counted r d low,
                count_between-split bs (r * runs.len) (r * runs.len + runs.len) (omega arith),
                count_between-split (set bs k false) (r * runs.len) (r * runs.len + runs.len) (omega arith),
                count_among bs k (r * runs.len) within is (omega arith),
                count_among bs k (r * runs.len + runs.len) within is (omega arith),
              )
        ]

-- ---- the search for a split

-- sites that ascend by at least 8 don't fall
pub sites_rise : {X : Type 0} (f : X → ℕ × ℕ) (xs : List X) → AreEightApart (map f xs) → IsNonDecreasingBy (λ x. (f x).0) xs
sites_rise f xs apart i j d le within =
    let same = length-map xs f in
    let site : (k : ℕ) → k < length xs → (get_or (map f xs) k (f d)).0 ≡ (f (get_or xs k d)).0 = λ k low. ap (λ (c : ℕ × ℕ). c.0) (get_or-map f xs k d (f d) low) in
    elim (cases_lt i j) [
      | inl lower ↦ omega (arith, apart i j (f d) lower (omega arith), site i (omega arith), site j within)
      | inr at ↦ let e : i ≡ j = omega arith in rw e (omega arith)
    ]

-- what the tests of the search tell of the calls
pub split_by_test : {X : Type 0} (f : X → ℕ × ℕ) (xs : List X) (offset bound at : ℕ) → bound ≡ offset - 4
    → IsPartitionPoint (λ x. nat_lt (f x).0 bound ≡ true) (λ x. nat_lt (f x).0 bound ≡ false) xs at → IsSplit (map f xs) offset at
split_by_test f [] offset bound at is parted = record { below = λ i call low within. absurd (omega arith); others = λ i call high within. absurd (omega arith) }
split_by_test f (x ∷ xs) offset bound at is parted =
    let same = length-map (x ∷ xs) f in
    record {
      below = λ i call low within.
          let inside : i < length (x ∷ xs) = omega (arith, within, same) in
          let test = parted.0 i x (omega arith) low in
          rw (get_or-map f (x ∷ xs) i x call inside) (grind (arith, nat_tests));
      others = λ i call high within.
          let inside : i < length (x ∷ xs) = omega (arith, within, same) in
          let test = parted.1 i x high inside in
          rw (get_or-map f (x ∷ xs) i x call inside) (grind (arith, nat_tests));
    }

-- ---- all calls chosen

pub chosen_more : {X : Type 0} (h : X → Bool) (xs : List X) (k : ℕ) (x : X) → k < length xs → h x ≡ true → ((i : ℕ) → i < k → IsChosen (map h xs) i)
    → (i : ℕ) → i < k + 1 → IsChosen (map h (set xs k x)) i
chosen_more h xs k x within is before i low =
    let now : map h (set xs k x) ≡ set (map h xs) k true = map-set h xs k x ∙ ap (set (map h xs) k) is in
    rw now (elim (cases_lt i k) [
      | inl lower ↦ let ne : i ≢ k = omega arith in get_or-set_other (map h xs) k i true false ne ∙ before i lower
      | inr at ↦
          let e : i ≡ k = omega arith in
          let inside : k < length (map h xs) = omega (arith, length-map xs h) in
          ap (λ n. get_or (set (map h xs) k true) n false) e ∙ get_or-set_same (map h xs) k true false inside
    ])

pub written_more : {X : Type 0} (P : X → Type 0) (xs : List X) (k : ℕ) (x : X) → k < length xs → P x → All P (take k xs) → All P (take (k + 1) (set xs k x))
written_more P xs k x within is before = subst (All P) (sym (take_more_set xs k x within)) (All-append P (take k xs) (x ∷ []) before (All-cons P x [] is (All-nil P)))

-- ---- whether the sites may be shrunk

-- what calls give up that are so far apart doesn't overlap
eight_disjoint : (calls : List (ℕ × ℕ)) → AreEightApart calls → AllPairs DoNotOverlap (map shrinking calls)
eight_disjoint calls apart i j d low within =
    let inside : j < length calls = omega (arith, length-map calls shrinking) in
    let lower : i < length calls = omega arith in
    rw (get_or-map shrinking calls i (0, 0) d lower, get_or-map shrinking calls j (0, 0) d inside) (inl (omega (arith, apart i j (0, 0) low inside), omega (arith, apart i j (0, 0) low inside)))

module _ (ds calls : List (ℕ × ℕ)) (k site target : ℕ) (within : k < length calls) (here : get_or calls k (0, 0) ≡ (site, target)) where
  taken : take (k + 1) calls ≡ take k calls ++ (site, target) ∷ []
  taken = take_more calls k (0, 0) within ∙ ap (λ c. take k calls ++ c ∷ []) here

  shrinking_taken : map shrinking (take (k + 1) calls) ≡ map shrinking (take k calls) ++ (site + 4, 4) ∷ []
  shrinking_taken = ap (map shrinking) taken ∙ map-append shrinking (take k calls) ((site, target) ∷ [])

  more : (P : ℕ × ℕ → Type 0) → All P (take k calls) → P (site, target) → All P (take (k + 1) calls)
  more P before is = subst (All P) (sym taken) (All-append P (take k calls) ((site, target) ∷ []) before (All-cons P (site, target) [] is (All-nil P)))

  more_shrinking : (P : ℕ × ℕ → Type 0) → All P (map shrinking (take k calls)) → P (site + 4, 4) → All P (map shrinking (take (k + 1) calls))
  more_shrinking P before is =
      subst (All P) (sym shrinking_taken) (All-append P (map shrinking (take k calls)) ((site + 4, 4) ∷ []) before (All-cons P (site + 4, 4) [] is (All-nil P)))

  apart_more : AreEightApart (take k calls) → IsApartAt calls k → AreEightApart (take (k + 1) calls)
  apart_more before apart i j call low inside =
      let short : j < k + 1 = omega (arith, length-take (k + 1) calls) in
      let lower : i < k + 1 = omega arith in
      rw (get_or-take (k + 1) calls i call lower, get_or-take (k + 1) calls j call short) (elim (cases_lt j k) [
        | inl below ↦ earlier i j call low below
        | inr at ↦
            let e : j ≡ k = omega arith in
            rw e (elim (cases_lt i (k - 1)) [
              | inl far ↦ omega (arith, earlier i (k - 1) call far (omega arith), apart call (omega arith))
              | inr next ↦ let last : i ≡ k - 1 = omega arith in rw last (apart call (omega arith))
            ])
      ])
    where
      earlier : (i j : ℕ) (call : ℕ × ℕ) → i < j → j < k → (get_or calls i call).0 + 8 ≤ (get_or calls j call).0
      earlier i j call low below =
          let lower : i < k = omega arith in
          rw (get_or-take k calls i call lower, get_or-take k calls j call below) at (before i j call low (omega (arith, length-take k calls)))

  pub sites_more : HaveShrinkableSites ds (take k calls) → IsApartAt calls k → AreKept ds site 8 → AreDisjoint (ds ++ (site + 4, 4) ∷ []) → HaveShrinkableSites ds (take (k + 1) calls)
  sites_more before apart kept beside =
      let following = disjoint_back ds (map shrinking (take k calls)) before.mergeable in
      let alone = disjoint_back ds ((site + 4, 4) ∷ []) beside in
      let all_apart = apart_more before.apart apart in
      record {
        apart = all_apart;
        kept = more (λ call. AreKept ds call.0 8) before.kept kept;
        mergeable = disjoint_joined ds (map shrinking (take (k + 1) calls)) (disjoint_left ds ((site + 4, 4) ∷ []) beside)
            (record { apart = eight_disjoint (take (k + 1) calls) all_apart; ends = more_shrinking EndFits following.ends (alone.ends 0 (0, 0) (omega arith)) })
            (more_shrinking (λ pair. All (λ d. DoNotOverlap d pair) ds) (disjoint_across ds (map shrinking (take k calls)) before.mergeable)
            (disjoint_across ds ((site + 4, 4) ∷ []) beside 0 (0, 0) (omega arith)));
      }

  last : get_or (take (k + 1) calls) k (0, 0) ≡ (site, target)
  last = get_or-take (k + 1) calls k (0, 0) (omega arith) ∙ here

  last_shrinking : get_or (map shrinking (take (k + 1) calls)) k (0, 0) ≡ (site + 4, 4)
  last_shrinking = get_or-map shrinking (take (k + 1) calls) k (0, 0) (0, 0) (omega (arith, length-take (k + 1) calls)) ∙ ap shrinking last

  pub apart_there : HaveShrinkableSites ds (take (k + 1) calls) → IsApartAt calls k
  apart_there all call some =
      let before : k - 1 < k + 1 = omega arith in
      let at : k < k + 1 = omega arith in
      rw (get_or-take (k + 1) calls (k - 1) call before, get_or-take (k + 1) calls k call at) at (all.apart (k - 1) k call (omega arith) (omega (arith, length-take (k + 1) calls)))

  pub kept_there : HaveShrinkableSites ds (take (k + 1) calls) → AreKept ds site 8
  kept_there all = subst (λ (c : ℕ × ℕ). AreKept ds c.0 8) last (all.kept k (0, 0) (omega (arith, length-take (k + 1) calls)))

  pub beside_there : HaveShrinkableSites ds (take (k + 1) calls) → AreDisjoint (ds ++ (site + 4, 4) ∷ [])
  beside_there all =
      let inside : k < length (map shrinking (take (k + 1) calls)) = omega (arith, length-map (take (k + 1) calls) shrinking, length-take (k + 1) calls) in
      let ends = subst EndFits last_shrinking ((disjoint_back ds (map shrinking (take (k + 1) calls)) all.mergeable).ends k (0, 0) inside) in
      let across = subst (λ pair. All (λ d. DoNotOverlap d pair) ds) last_shrinking (disjoint_across ds (map shrinking (take (k + 1) calls)) all.mergeable k (0, 0) inside) in
      disjoint_joined ds ((site + 4, 4) ∷ []) (disjoint_left ds (map shrinking (take (k + 1) calls)) all.mergeable)
      (record { apart = λ i j d low short. absurd (omega arith); ends = All-cons EndFits (site + 4, 4) [] ends (All-nil EndFits) })
      (All-cons (λ pair. All (λ d. DoNotOverlap d pair) ds) (site + 4, 4) [] across (All-nil (λ pair. All (λ d. DoNotOverlap d pair) ds)))

sites_taken : (ds calls : List (ℕ × ℕ)) (n : ℕ) → HaveShrinkableSites ds calls → HaveShrinkableSites ds (take n calls)
sites_taken ds calls n all = record {
  apart = λ i j call low inside.
      let short : j < n = omega (arith, length-take n calls) in
      let lower : i < n = omega arith in
      rw (get_or-take n calls i call lower, get_or-take n calls j call short) (all.apart i j call low (omega (arith, length-take n calls)));
  kept = All-take (λ (call : ℕ × ℕ). AreKept ds call.0 8) n calls all.kept;
  mergeable = disjoint_left (ds ++ map shrinking (take n calls)) (drop n (map shrinking calls)) (subst AreDisjoint parts all.mergeable);
}
  where
    parts : ds ++ map shrinking calls ≡ (ds ++ map shrinking (take n calls)) ++ drop n (map shrinking calls)
    parts =
        ap (λ xs. ds ++ xs) (sym (take-append-drop n (map shrinking calls)) ∙ ap (λ xs. xs ++ drop n (map shrinking calls)) (take-map shrinking n calls))
        ∙ sym (append_assoc ds (map shrinking (take n calls)) (drop n (map shrinking calls)))

-- ---- whether the targets may stay

-- no call is around an offset that the last call below it isn't around
pub none_around : (calls : List (ℕ × ℕ)) (offset split : ℕ) → AreEightApart calls → split ≤ length calls → IsSplit calls offset split → (0 < split → (get_or calls (split - 1) (0, 0)).0 + 8 ≤ offset)
    → (at : ℕ) → at < length calls → IsAround calls offset at → ⊥
none_around calls offset split apart bound parts past at within around =
    let here = around (0, 0) in
    elim (cases_lt at split) [
      | inl low ↦ elim (cases_lt at (split - 1)) [
        | inl lower ↦ omega (arith, here.1, apart at (split - 1) (0, 0) lower (omega arith), past (omega arith))
        | inr last ↦ let e : at ≡ split - 1 = omega arith in omega (arith, rw e at here.1, past (omega arith))
      ]
      | inr high ↦ omega (arith, here.0, parts.others at (0, 0) high within)
    ]

-- one call alone is around an offset
around_once : (calls : List (ℕ × ℕ)) (offset i j : ℕ) → AreEightApart calls → i < length calls → j < length calls → IsAround calls offset i → IsAround calls offset j → i ≡ j
around_once calls offset i j apart inside within one other = elim (cases_order i j) [
  | inl same ↦ same
  | inr (inl below) ↦ absurd (omega (arith, apart i j (0, 0) below within, (one (0, 0)).1, (other (0, 0)).0))
  | inr (inr above) ↦ absurd (omega (arith, apart j i (0, 0) above inside, (one (0, 0)).0, (other (0, 0)).1))
]

pub clear_more : (calls : List (ℕ × ℕ)) (at first site target other next : ℕ) → AreEightApart calls → at < length calls → get_or calls at (0, 0) ≡ (site, target) → other < length calls
    → IsAround calls target other → first ≤ length calls → next ≡ min first (max at other) → AreClear calls at first → AreClear calls (at + 1) next
clear_more calls at first site target other next apart within here inside around bound is clear i j low lower below hit = elim (cases_lt i at) [
  | inl before ↦ clear i j before (omega arith) (omega arith) hit
  | inr last ↦
      let e : i ≡ at = omega arith in
      let there : IsAround calls target j = subst (λ (c : ℕ × ℕ). IsAround calls c.1 j) here (rw e at (hit (0, 0))) in
      let same : j ≡ other = around_once calls target j other apart (omega arith) inside there around in
      omega arith
]

pub clear_on : (calls : List (ℕ × ℕ)) (at first site target : ℕ) → get_or calls at (0, 0) ≡ (site, target) → ((j : ℕ) → j < length calls → IsAround calls target j → ⊥) → first ≤ length calls
    → AreClear calls at first → AreClear calls (at + 1) first
clear_on calls at first site target here none bound clear i j low lower below hit = elim (cases_lt i at) [
  | inl before ↦ clear i j before lower below hit
  | inr last ↦
      let e : i ≡ at = omega arith in
      none j (omega arith) (subst (λ (c : ℕ × ℕ). IsAround calls c.1 j) here (rw e at (hit (0, 0))))
]

pub hit_more : (calls : List (ℕ × ℕ)) (at first site target other next : ℕ) → at < length calls → get_or calls at (0, 0) ≡ (site, target) → IsAround calls target other
    → next ≡ min first (max at other) → next < length calls → (first < length calls → HaveHit calls first) → HaveHit calls next
hit_more calls at first site target other next within here around is low found = elim (cases_lt (max at other) first) [
  | inl new ↦ (at, other, omega arith, omega arith, λ call. rw (get_or_default calls at call (0, 0) within, here) around)
  | inr old ↦ let same : next ≡ first = omega arith in rw same (found (omega arith))
]

pub targets_first : (calls : List (ℕ × ℕ)) (first : ℕ) → first ≤ length calls → AreClear calls (length calls) first → HaveShrinkableTargets (take first calls)
targets_first calls first bound clear k d within (j, e, there, at, (above, below)) =
    let long = length-take first calls in
    let mapped = length-map (take first calls) shrinking in
    let low : k < first = omega arith in
    let lower : j < first = omega arith in
    let call : e ≡ shrinking (get_or calls j d) = sym at ∙ get_or-map shrinking (take first calls) j d e (omega arith) ∙ ap shrinking (get_or-take first calls j d lower) in
    let own : get_or (take first calls) k d ≡ get_or calls k d = get_or-take first calls k d low in
    let up : (get_or calls j d).0 + 4 < (get_or calls k d).1 = rw (call, own) at above in
    let down : (get_or calls k d).1 < (get_or calls j d).0 + 8 = omega (arith, rw (call, own) at below) in
    clear k j (omega arith) low lower (λ c c'. rw (get_or_default calls k c d (omega arith), get_or_default calls j c' d (omega arith)) (up, down))

pub not_targets : (calls : List (ℕ × ℕ)) (first : ℕ) → first < length calls → HaveHit calls first → HaveShrinkableTargets (take (first + 1) calls) → ⊥
not_targets calls first bound (i, j, low, lower, hit) outside =
    let long = length-take (first + 1) calls in
    let mapped = length-map (take (first + 1) calls) shrinking in
    let here = hit (0, 0) (0, 0) in
    let own : get_or (take (first + 1) calls) i (0, 0) ≡ get_or calls i (0, 0) = get_or-take (first + 1) calls i (0, 0) (omega arith) in
    outside i (0, 0) (omega arith)
    (rw own (
      j,
      shrinking (get_or calls j (0, 0)),
      omega arith,
      get_or-map shrinking (take (first + 1) calls) j (0, 0) (shrinking (get_or calls j (0, 0))) (omega arith) ∙ ap shrinking (get_or-take (first + 1) calls j (0, 0) (omega arith)),
      (here.0, omega (arith, here.1)),
    ))

targets_taken : (calls : List (ℕ × ℕ)) (n : ℕ) → HaveShrinkableTargets calls → HaveShrinkableTargets (take n calls)
targets_taken calls n outside k d within (j, e, there, at, (above, below)) =
    let long = length-take n calls in
    let mapped = length-map (take n calls) shrinking in
    let own : get_or (take n calls) k d ≡ get_or calls k d = get_or-take n calls k d (omega arith) in
    let same : get_or (map shrinking calls) j e ≡ e =
    get_or-map shrinking calls j (0, 0) e (omega arith) ∙ ap shrinking (sym (get_or-take n calls j (0, 0) (omega arith))) ∙ sym (get_or-map shrinking (take n calls) j (0, 0) e (omega arith)) ∙ at in
    outside k d (omega arith) (rw (← own) (j, e, omega (arith, length-map calls shrinking), same, (above, below)))

-- ---- both

shrinkable_from : (ds calls : List (ℕ × ℕ)) → HaveShrinkableSites ds calls → HaveShrinkableTargets calls → AreShrinkable ds calls
shrinkable_from ds calls placed outside = record { apart = placed.apart; kept = placed.kept; mergeable = placed.mergeable; outside = outside }

sites_from : (ds calls : List (ℕ × ℕ)) → AreShrinkable ds calls → HaveShrinkableSites ds calls
sites_from ds calls shrinkable = record { apart = shrinkable.apart; kept = shrinkable.kept; mergeable = shrinkable.mergeable }

pub shrinkable_taken : (ds calls : List (ℕ × ℕ)) (n : ℕ) → AreShrinkable ds calls → AreShrinkable ds (take n calls)
shrinkable_taken ds calls n shrinkable = shrinkable_from ds (take n calls) (sites_taken ds calls n (sites_from ds calls shrinkable)) (targets_taken calls n shrinkable.outside)

module _ (ds calls front : List (ℕ × ℕ)) (placed first : ℕ)
    (front_is : front ≡ take placed calls)
    (within : placed ≤ length calls)
    (before : first ≤ length front)
    (all_placed : HaveShrinkableSites ds (take placed calls))
    (next_placed : placed < length calls → HaveShrinkableSites ds (take (placed + 1) calls) → ⊥)
    (all_outside : HaveShrinkableTargets (take first front))
    (next_outside : first < length front → HaveShrinkableTargets (take (first + 1) front) → ⊥) where
  front_length : length front ≡ placed
  front_length = ap length front_is ∙ length-take placed calls ∙ omega arith

  front_taken : (n : ℕ) → n ≤ placed → take n front ≡ take n calls
  front_taken n low = ap (take n) front_is ∙ take-take n placed calls low

  pub shrinkable_first : AreShrinkable ds (take first calls)
  shrinkable_first =
      let low : first ≤ placed = omega (arith, front_length) in
      shrinkable_from ds (take first calls)
      (subst (HaveShrinkableSites ds) (take-take first placed calls low) (sites_taken ds (take placed calls) first all_placed))
      (subst HaveShrinkableTargets (front_taken first low) all_outside)

  pub not_shrinkable_next : first < length calls → AreShrinkable ds (take (first + 1) calls) → ⊥
  not_shrinkable_next low shrinkable = elim (cases_lt first placed) [
    | inl short ↦ next_outside (omega (arith, front_length)) (subst HaveShrinkableTargets (sym (front_taken (first + 1) (omega arith))) shrinkable.outside)
    | inr at ↦
        let same : first ≡ placed = omega (arith, front_length) in
        next_placed (omega arith) (subst (λ n. HaveShrinkableSites ds (take (n + 1) calls)) same (sites_from ds (take (first + 1) calls) shrinkable))
  ]

-- ---- what is merged

-- the distances are the same once the deletions are merged
pub merged_distance : (all merged : List (ℕ × ℕ)) (site target : ℕ) → IsSortedUnion all merged → output_distance all site target ≡ output_distance merged site target
merged_distance all merged site target union =
    ap (λ n. pos n -ℤ pos (rank all site)) (rank-permutation all merged target union.same) ∙ ap (λ n. pos (rank merged target) -ℤ pos n) (rank-permutation all merged site union.same)

pub shrunk_calls_are_accepted : ShrunkCallsAreAccepted
shrunk_calls_are_accepted link ds merged calls section chosen i call reach union within is =
    let site = (get_or calls i call).0 in
    let target = (get_or calls i call).1 in
    let same = merged_distance (with_chosen ds calls chosen) merged site target union in
    let near = reach i call within is in (
      λ rejected. rejected.3 (subst IsEven same near.0),
      λ rejected. rejected.4 (subst IsJalDistance same near.1),
    )
