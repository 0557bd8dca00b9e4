-- Lists of deltas: how one grows, what its sums are, and how a valid list is tested.
use Rattle.linker_base.proofs.Imports.{All, All-push, AllPairs, EndFits, IsBefore, IsFirstInvalid, IsValid, List, RecordsDeletions, RelaxDelta, [], all_pairs_push, ap, arith, bytes_of, cases_lt, deletion_of, drop, get_or, get_or-append-add, get_or-append_right, get_or-take, get_or_append_left, get_or_default, get_or_push, inl, inr, length, length-append, length-map, length-take, length_push, map_push, refl, set, suc, sum_by_more, sum_by_push, sym, take, take-append-drop, take-append-le, take_all, take_more, take_more_set, zero, ℕ, ◌++◌, ◌+◌, ◌-◌, ◌<◌, ◌^◌, ◌∙◌, ◌∷◌, ◌≡◌, ◌≤◌}
use Rattle.linker_base.proofs.OutputOffsets.{bytes_of-take_fit}

-- what holds of all of a list holds of each of its two parts
pub All-front : {X : Type 0} (P : X → Type 0) (xs ys : List X) → All P (xs ++ ys) → All P xs
All-front P xs ys all k d within = rw (← get_or_append_left xs ys d k within) (all k d (omega (arith, length-append xs ys)))

pub All-back : {X : Type 0} (P : X → Type 0) (xs ys : List X) → All P (xs ++ ys) → All P ys
All-back P xs ys all k d within = rw (← get_or-append-add xs ys k d) (all (length xs + k) d (omega (arith, length-append xs ys)))

-- R holds between all of two lists, one after the other, where it does in each and from each of the
-- first to each of the second
pub all_pairs_append : (R : ℕ × ℕ → ℕ × ℕ → Type 0) (xs ys : List (ℕ × ℕ)) → AllPairs R xs → AllPairs R ys → All (λ y. All (λ x. R x y) xs) ys → AllPairs R (xs ++ ys)
all_pairs_append R xs ys first second across i j d lt within = elim (cases_lt j (length xs)) [
  | inl low ↦
      let lower : i < length xs = omega arith in
      rw (get_or_append_left xs ys d i lower, get_or_append_left xs ys d j low) (first i j d lt low)
  | inr high ↦
      let inside : j - length xs < length ys = omega (arith, length-append xs ys) in
      rw (get_or-append_right xs ys (length xs) j d refl high) (elim (cases_lt i (length xs)) [
        | inl low ↦ rw (get_or_append_left xs ys d i low) (across (j - length xs) d inside i d low)
        | inr from ↦ rw (get_or-append_right xs ys (length xs) i d refl from) (second (i - length xs) (j - length xs) d (omega arith) inside)
      ])
]

-- up to and including one deletion of a valid list, the bytes are those before it and its own, and
-- 64 bits hold them
pub taken_up_to : (ds : List (ℕ × ℕ)) → IsValid ds → (k : ℕ) (d : ℕ × ℕ) → k < length ds → (bytes_of (take k ds) + (get_or ds k d).1 ≡ bytes_of (take (k + 1) ds)) × (bytes_of (take (k + 1) ds) < 2 ^ 64)
taken_up_to ds valid k d within =
    (sym (sum_by_more (λ (e : ℕ × ℕ). e.1) ds k d within), bytes_of-take_fit ds (k + 1) valid)

-- one more delta, with the sum so far and its own bytes, lists one more deletion
pub RecordsDeletions-push : (ds : List (ℕ × ℕ)) (deltas : List RelaxDelta) (delta : RelaxDelta) → RecordsDeletions ds deltas → delta.cumulative_deleted ≡ bytes_of ds + delta.bytes_deleted → RecordsDeletions (ds ++ deletion_of delta ∷ []) (deltas ++ delta ∷ [])
RecordsDeletions-push ds deltas delta listing sum =
    let long : length ds ≡ length deltas = ap length (sym listing.same) ∙ length-map deltas deletion_of in
    record {
      same = map_push deletion_of deltas delta ∙ ap (λ l. l ++ deletion_of delta ∷ []) listing.same;
      sums = λ k d within. elim (cases_lt k (length deltas)) [
        | inl below ↦
            let inner : k + 1 ≤ length ds = omega (arith, long) in
            rw (get_or_append_left deltas (delta ∷ []) d k below, take-append-le (k + 1) ds (deletion_of delta ∷ []) inner) (listing.sums k d below)
        | inr at_end ↦
            let here : length deltas ≡ k = omega (arith, length_push deltas delta) in
            let whole : length (ds ++ deletion_of delta ∷ []) ≤ k + 1 = omega (arith, long, length_push ds (deletion_of delta)) in
            rw (get_or_push deltas delta d k here, take_all (k + 1) (ds ++ deletion_of delta ∷ []) whole, sum_by_push (λ (e : ℕ × ℕ). e.1) ds (deletion_of delta)) sum
      ];
    }

-- the first deletions and one more that fits and lies past the last of them are valid
pub IsValid-push : (ds : List (ℕ × ℕ)) (d : ℕ × ℕ) → IsValid ds → EndFits d → ((e : ℕ × ℕ) → 0 < length ds → IsBefore (get_or ds (length ds - 1) e) d) → IsValid (ds ++ d ∷ [])
IsValid-push ds d valid fits last = record {
  ascending = all_pairs_push IsBefore ds d valid.ascending (λ k e within. elim (cases_lt k (length ds - 1)) [
    | inl earlier ↦
        let step = valid.ascending k (length ds - 1) e earlier (omega arith) in
        let end = last e (omega arith) in
        (omega (arith, step.0, end.0), omega (arith, step.1, end.0))
    | inr at_end ↦
        let here : k ≡ length ds - 1 = omega arith in
        rw here (last e (omega arith))
  ]);
  ends = All-push EndFits ds d valid.ends fits;
}

-- the first part of a valid list is valid
pub IsValid-front : (xs ys : List (ℕ × ℕ)) → IsValid (xs ++ ys) → IsValid xs
IsValid-front xs ys valid = record {
  ascending = λ i j d lt within. let lower : i < length xs = omega arith in rw (← get_or_append_left xs ys d i lower, ← get_or_append_left xs ys d j within) (valid.ascending i j d lt (omega (arith, length-append xs ys)));
  ends = All-front EndFits xs ys valid.ends;
}

pub IsValid-take : (ds : List (ℕ × ℕ)) (k : ℕ) → IsValid ds → IsValid (take k ds)
IsValid-take ds k valid = IsValid-front (take k ds) (drop k ds) (rw (take-append-drop k ds) valid)

-- one more deletion of the list keeps the front valid
pub IsValid-more : (ds : List (ℕ × ℕ)) (k : ℕ) → k < length ds → IsValid (take k ds) → EndFits (get_or ds k (0, 0)) → (0 < k → IsBefore (get_or ds (k - 1) (0, 0)) (get_or ds k (0, 0))) → IsValid (take (k + 1) ds)
IsValid-more ds k within valid fits last =
    let long : length (take k ds) ≡ k = omega (arith, length-take k ds) in
    rw (take_more ds k (0, 0) within) (IsValid-push (take k ds) _ valid fits (λ e some.
    let positive : 0 < k = omega arith in
    let low : k - 1 < k = omega arith in
    let inside : k - 1 < length ds = omega arith in
    rw (long, get_or-take k ds (k - 1) e low, get_or_default ds (k - 1) e (0, 0) inside) (last positive)))

-- one more delta of the list is listed
pub RecordsDeletions-more : (ds : List (ℕ × ℕ)) (deltas : List RelaxDelta) (delta : RelaxDelta) (k : ℕ) → k < length ds → RecordsDeletions (take k ds) deltas → deletion_of delta ≡ get_or ds k (0, 0) → delta.cumulative_deleted ≡ bytes_of (take (k + 1) ds) → RecordsDeletions (take (k + 1) ds) (deltas ++ delta ∷ [])
RecordsDeletions-more ds deltas delta k within listing same sum =
    let more = take_more ds k (0, 0) within in
    rw (more, ← same) (RecordsDeletions-push (take k ds) deltas delta listing (sum ∙ sum_by_more (λ (e : ℕ × ℕ). e.1) ds k (0, 0) within ∙ ap (λ (e : ℕ × ℕ). bytes_of (take k ds) + e.1) (sym same)))

-- one more delta, written after those that are
pub RecordsDeletions-set : (ds : List (ℕ × ℕ)) (deltas : List RelaxDelta) (delta : RelaxDelta) (k : ℕ) → k < length ds → k < length deltas → RecordsDeletions (take k ds) (take k deltas) → deletion_of delta ≡ get_or ds k (0, 0) → delta.cumulative_deleted ≡ bytes_of (take (k + 1) ds) → RecordsDeletions (take (k + 1) ds) (take (k + 1) (set deltas k delta))
RecordsDeletions-set ds deltas delta k within inside listing same sum = rw (take_more_set deltas k delta inside) (RecordsDeletions-more ds (take k deltas) delta k within listing same sum)

pub IsValid-nil : IsValid []
IsValid-nil = record { ascending = λ i j d lt within. absurd (omega arith); ends = λ i d within. absurd (omega arith) }

-- the deletion at a place is not valid after those before it, where it does not fit or does not lie
-- past the one before
pub first_invalid_at : (ds : List (ℕ × ℕ)) (k : ℕ) → k < length ds → IsValid (take k ds) → (EndFits (get_or ds k (0, 0)) → (0 < k → IsBefore (get_or ds (k - 1) (0, 0)) (get_or ds k (0, 0))) → ⊥) → IsFirstInvalid ds k
first_invalid_at ds k within valid faulty = record {
  within = within;
  before = valid;
  here = λ more.
      let long : length (take (k + 1) ds) ≡ k + 1 = omega (arith, length-take (k + 1) ds) in
      let last : k < k + 1 = omega arith in
      faulty (rw (get_or-take (k + 1) ds k (0, 0) last) at (more.ends k (0, 0) (omega arith))) (λ positive.
      let earlier : k - 1 < k + 1 = omega arith in
      rw (get_or-take (k + 1) ds (k - 1) (0, 0) earlier, get_or-take (k + 1) ds k (0, 0) last) at (more.ascending (k - 1) k (0, 0) (omega arith) (omega arith)));
}

-- deletions of which each lies below the next make a valid list, where the last fits
pub valid_from_rising : (ds : List (ℕ × ℕ)) (count : ℕ) → count ≤ length ds → ((k : ℕ) → k + 1 < count → IsBefore (get_or ds k (0, 0)) (get_or ds (k + 1) (0, 0))) → (0 < count → EndFits (get_or ds (count - 1) (0, 0))) → IsValid (take count ds)
valid_from_rising ds zero within rising fits = IsValid-nil
valid_from_rising ds (suc k) within rising fits =
    let inside : k < length ds = omega arith in
    let same : suc k - 1 ≡ k = omega arith in
    let last : EndFits (get_or ds k (0, 0)) = rw same at (fits (omega arith)) in
    let below : 0 < k → IsBefore (get_or ds (k - 1) (0, 0)) (get_or ds k (0, 0)) = λ some.
    let one : k - 1 + 1 ≡ k = omega arith in
    rw one at (rising (k - 1) (omega arith)) in
    let next : k + 1 ≡ suc k = omega arith in
    rw next at (IsValid-more ds k inside (valid_from_rising ds k (omega arith) (λ j low. rising j (omega arith)) (λ some. omega (arith, (below some).1, last))) last below)
