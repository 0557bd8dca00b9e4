-- What sorted entries say of the finite map that they hold, and what an edit of them does to it.
use Rattle.linker_base.proofs.Imports.{All, All-head, All-tail, AllWithin, Bool, Entries, Err, HoldsAt, IfErr, IfOk, IfSome, IndicesRise, IsAboveAll, IsAt, IsBinarySearchResult, IsGap, IsLast, IsNonDecreasingBy, IsSearchInRange, IsTrue, List, MatchOption, None, Ok, OnOk, Option, OtherSectionsStay, Result, Sections, Some, [], all_pairs_push, ap, arith, cases_eq, common_steps, cond, cond-true, cond_both, eqb, false≢true, get_or, inl, inr, is_ok, is_some, length, nat_tests, option_map, refl, set, slice_get, subst, suc, sym, true, zero, ℕ, ◌++◌, ◌+◌, ◌-◌, ◌<◌, ◌↔◌, ◌∙◌, ◌∷◌, ◌≡◌, ◌≢◌, ◌≤◌, ◌⊎◌}
use Rattle.std.specs.Prelude.{insert as insert_at}
use Rattle.std.specs.Ordering.{nat_cmp, eq_by_cmp, ordering_index}
use Rattle.std.specs.FinMap.{find, get, contains_key, empty, insert, from_entries, nat_cmp-IsAntisymmetric, same_map, get-from_entries, get-insert, get-empty, from_entries_push}
use Rattle.std.proofs.lemmas.Cmp.{ranked, nat_cmp_total}
use Rattle.std.proofs.lemmas.Option.{slice_get-get_or}
use Rattle.std.proofs.lemmas.List.Edits.{length-insert, get_or-insert_below, get_or-insert_at, get_or-insert_above}
use Rattle.linker_base.proofs.Rank.{all_pairs_tail, all_pairs_head}

-- the map that the entries hold
abbrev pub held : Entries → Sections
held entries = from_entries entries

-- keys are compared as numbers
compares : (a b : ℕ) → eq_by_cmp nat_cmp a b ≡ eqb a b
compares a b = grind (arith, nat_tests)

-- a key that no entry has isn't found
find_absent : (es : Entries) (q : ℕ) → All (λ e. q ≢ e.0) es → find nat_cmp q es ≡ None
find_absent [] q none = refl
find_absent (e ∷ es) q none =
    rw (compares q e.0) (grind (arith, nat_tests, All-head (λ e. q ≢ e.0) e es none, find_absent es q (All-tail (λ e. q ≢ e.0) e es none)))

-- the entry that has the key gives the value
find_present : (es : Entries) (q at : ℕ) (d : ℕ × List (ℕ × ℕ)) → IndicesRise es → IsAt es q at → find nat_cmp q es ≡ Some (get_or es at d).1
find_present [] q at d rise is_at = absurd (omega (arith, is_at.within))
find_present (e ∷ es) q zero d rise is_at = rw (compares q e.0) (grind (arith, nat_tests, is_at.same e))
find_present (e ∷ es) q (suc at) d rise is_at =
    let first : e.0 < q = rw (is_at.same d) at (all_pairs_head (λ a b. a.0 < b.0) e es rise at d (omega (arith, is_at.within))) in
    let rest = find_present es q at d (all_pairs_tail (λ a b. a.0 < b.0) e es rise) (record { within = omega (arith, is_at.within); same = is_at.same }) in
    rw (compares q e.0) (grind (arith, nat_tests, rest))

-- a new value at the key's entry is the value there, and at all other keys nothing changes
find-set : (es : Entries) (k at : ℕ) (v : List (ℕ × ℕ)) (q : ℕ) → IndicesRise es → IsAt es k at → find nat_cmp q (set es at (k, v)) ≡ cond (eq_by_cmp nat_cmp q k) (Some v) (find nat_cmp q es)
find-set [] k at v q rise is_at = absurd (omega (arith, is_at.within))
find-set (e ∷ es) k zero v q rise is_at = rw (compares q e.0, compares q k) (grind (arith, nat_tests, is_at.same e))
find-set (e ∷ es) k (suc at) v q rise is_at =
    let first : e.0 < k = rw (is_at.same e) at (all_pairs_head (λ a b. a.0 < b.0) e es rise at e (omega (arith, is_at.within))) in
    let rest = find-set es k at v q (all_pairs_tail (λ a b. a.0 < b.0) e es rise) (record { within = omega (arith, is_at.within); same = is_at.same }) in
    rw (compares q e.0, compares q k) (grind (arith, nat_tests, rw (compares q k) at rest))

-- so does a new entry before which no entry has the key
find-insert : (es : Entries) (k at : ℕ) (v : List (ℕ × ℕ)) (q : ℕ) → AllWithin (λ e. e.0 < k) es 0 at → at ≤ length es → find nat_cmp q (insert_at es at (k, v)) ≡ cond (eq_by_cmp nat_cmp q k) (Some v) (find nat_cmp q es)
find-insert es k zero v q lower within = refl
find-insert [] k (suc at) v q lower within = absurd (omega arith)
find-insert (e ∷ es) k (suc at) v q lower within =
    let first : e.0 < k = lower zero e (omega arith) (omega arith) in
    let rest = find-insert es k at v q (λ j d from below. lower (suc j) d (omega arith) (omega arith)) (omega arith) in
    rw (compares q e.0, compares q k) (grind (arith, nat_tests, rw (compares q k) at rest))

-- the key of an entry is found
find_some : (es : Entries) (j : ℕ) (d : ℕ × List (ℕ × ℕ)) → j < length es → is_some (find nat_cmp (get_or es j d).0 es) ≡ true
find_some [] j d within = absurd (omega arith)
find_some (e ∷ es) zero d within = rw (compares e.0 e.0) (grind (arith, nat_tests))
find_some (e ∷ es) (suc j) d within =
    let rest = find_some es j d (omega arith) in
    rw (compares (get_or es j d).0 e.0) (grind (arith, nat_tests, rest))

-- a key that is found is some entry's
found_at : (es : Entries) (q : ℕ) → is_some (find nat_cmp q es) ≡ true → (j : ℕ) × (j < length es) × HoldsAt (λ e. e.0 ≡ q) es j
found_at [] q found = absurd (false≢true found)
found_at (e ∷ es) q found = elim (cases_eq q e.0) [
  | inl same ↦ (0, omega arith, λ d. sym same)
  | inr other ↦
      let later : is_some (find nat_cmp q es) ≡ true = grind (arith, nat_tests, rw (compares q e.0) at found) in
      let rest = found_at es q later in
      (suc rest.0, omega arith, rest.2)
]

module _ (es : Entries) where
  pub get-held : (q : ℕ) → get (held es) q ≡ find nat_cmp q es
  get-held q = get-from_entries nat_cmp_total es q

  -- entries that differ from these only in finding v at k hold the map with v at k
  held_after : (new : Entries) (k : ℕ) (v : List (ℕ × ℕ)) → ((q : ℕ) → find nat_cmp q new ≡ cond (eq_by_cmp nat_cmp q k) (Some v) (find nat_cmp q es)) → held new ≡ insert (held es) k v
  held_after new k v finds = same_map nat_cmp_total nat_cmp-IsAntisymmetric (held new) (insert (held es) k v) (λ q. get-from_entries nat_cmp_total new q ∙ finds q ∙ sym (get-insert nat_cmp_total (held es) k v q ∙ ap (cond (eq_by_cmp nat_cmp q k) (Some v)) (get-held q)))

  pub held-set : (k at : ℕ) (v : List (ℕ × ℕ)) → IndicesRise es → IsAt es k at → held (set es at (k, v)) ≡ insert (held es) k v
  held-set k at v rise is_at = held_after (set es at (k, v)) k v (λ q. find-set es k at v q rise is_at)

  pub held-insert : (k at : ℕ) (v : List (ℕ × ℕ)) → IsGap es k at → held (insert_at es at (k, v)) ≡ insert (held es) k v
  held-insert k at v gap = held_after (insert_at es at (k, v)) k v (λ q. find-insert es k at v q gap.lower gap.within)

  -- a key in a gap isn't there
  pub get-gap : (k at : ℕ) → IsGap es k at → get (held es) k ≡ None
  get-gap k at gap = get-held k ∙ find_absent es k (λ j d within same. grind (arith, gap.lower j d (omega arith), gap.higher j d, within, same))

  -- a key that has an entry is there, with that value
  pub get-at : (k at : ℕ) (d : ℕ × List (ℕ × ℕ)) → IndicesRise es → IsAt es k at → get (held es) k ≡ Some (get_or es at d).1
  get-at k at d rise is_at = get-held k ∙ find_present es k at d rise is_at

  -- each entry's key is there
  pub contains-entry : (j : ℕ) (d : ℕ × List (ℕ × ℕ)) → j < length es → contains_key (held es) (get_or es j d).0 ≡ true
  contains-entry j d within = ap is_some (get-held (get_or es j d).0) ∙ find_some es j d within

  -- a key that is there is some entry's
  pub entry-contains : (q : ℕ) → contains_key (held es) q ≡ true → (j : ℕ) × (j < length es) × HoldsAt (λ e. e.0 ≡ q) es j
  entry-contains q there = found_at es q (sym (ap is_some (get-held q)) ∙ there)

  -- an index above all that are there is above each entry's
  pub above_entries : (k : ℕ) → IsAboveAll (held es) k → All (λ e. e.0 < k) es
  above_entries k above j d within = above.lower (get_or es j d).0 (contains-entry j d within)

  -- so it would go at the end
  pub gap_at_end : (k : ℕ) → IsAboveAll (held es) k → IsGap es k (length es)
  gap_at_end k above = record { within = omega arith; lower = λ j d from below. above_entries k above j d below; higher = λ j d from below. absurd (omega arith) }

  pub held-push : (k : ℕ) (v : List (ℕ × ℕ)) → IsAboveAll (held es) k → held (es ++ (k, v) ∷ []) ≡ insert (held es) k v
  held-push k v above = from_entries_push nat_cmp_total nat_cmp-IsAntisymmetric es k v (sym (get-held k) ∙ get-gap k (length es) (gap_at_end k above))

  pub rise-push : (k : ℕ) (v : List (ℕ × ℕ)) → IndicesRise es → IsAboveAll (held es) k → IndicesRise (es ++ (k, v) ∷ [])
  rise-push k v rise above = all_pairs_push (λ a b. a.0 < b.0) es (k, v) rise (above_entries k above)

  -- a new value leaves the indices as they are
  pub rise-set : (k at : ℕ) (v : List (ℕ × ℕ)) → IndicesRise es → IsAt es k at → IndicesRise (set es at (k, v))
  rise-set k at v rise is_at i j d below within =
      let same = is_at.same d in
      let inside = is_at.within in
      grind (arith, common_steps, rise i j d, rise i at d, rise at j d)

  -- a new entry in a gap keeps the order
  pub rise-insert : (k at : ℕ) (v : List (ℕ × ℕ)) → IndicesRise es → IsGap es k at → IndicesRise (insert_at es at (k, v))
  rise-insert k at v rise gap i j d below within =
      let new = insert_at es at (k, v) in
      let key = λ (x : ℕ × List (ℕ × ℕ)). x.0 in
      let length_new = length-insert es at (k, v) gap.within in
      let before : (i : ℕ) → i < at → (get_or new i d).0 ≡ (get_or es i d).0 = λ i low. ap key (get_or-insert_below es at (k, v) d i low gap.within) in
      let here : (i : ℕ) → i ≡ at → (get_or new i d).0 ≡ k = λ i same. rw same (ap key (get_or-insert_at es at (k, v) d gap.within)) in
      let after : (i : ℕ) → at < i → (get_or new i d).0 ≡ (get_or es (i - 1) d).0 = λ i high. subst (λ q. (get_or new q d).0 ≡ (get_or es (i - 1) d).0) {x = i - 1 + 1} (omega arith) (ap key (get_or-insert_above es at (k, v) d (i - 1) (omega arith) gap.within)) in
      grind (arith, before i, here i, after i, before j, here j, after j, rise i j d, rise i (j - 1) d, rise (i - 1) (j - 1) d, gap.lower i d, gap.higher (j - 1) d)

  -- the last entry has the highest index
  pub last_entry : (d : ℕ × List (ℕ × ℕ)) → IndicesRise es → 0 < length es → IsLast (held es) (get_or es (length es - 1) d).0
  last_entry d rise some = record {
    there = contains-entry (length es - 1) d (omega arith);
    highest = λ other there.
        let at = entry-contains other there in
        let same : at.0 ≡ length es - 1 → (get_or es at.0 d).0 ≡ (get_or es (length es - 1) d).0 = λ end. ap (λ q. (get_or es q d).0) end in
        grind (arith, rise at.0 (length es - 1) d, same, at.1, at.2 d);
  }

-- only no entries hold the empty map
pub held_empty : (es : Entries) → held es ≡ empty → es ≡ []
held_empty [] e = refl
held_empty (e ∷ es) same = absurd (false≢true (sym (ap (λ (m : Sections). contains_key m e.0) same ∙ ap is_some (get-empty nat_cmp e.0)) ∙ contains-entry (e ∷ es) 0 e (omega arith)))

-- the comparisons with an index rise along the entries, as a binary search asks
comparisons_rise : (es : Entries) (k : ℕ) → IndicesRise es → IsNonDecreasingBy (λ e. ordering_index (nat_cmp e.0 k)) es
comparisons_rise es k rise i j d le within =
    let keys_rise : (get_or es i d).0 ≤ (get_or es j d).0 = grind (arith, rise i j d, λ (same : i ≡ j). ap (λ q. (get_or es q d).0) same) in
    grind (arith, nat_tests)

-- a binary search by index ends at the entry, or at the gap for it
pub searched_at : (es : Entries) (k : ℕ) (r : Result ℕ ℕ) → IsSearchInRange r (length es) → IsBinarySearchResult (λ e. nat_cmp e.0 k) es r → IfOk r (IsAt es k)
searched_at es k (Ok at) within equal = record { within = within; same = λ d. ranked _ k _ (sym (equal d)) }
searched_at es k (Err at) within parted = tt

pub searched_gap : (es : Entries) (k : ℕ) (r : Result ℕ ℕ) → IndicesRise es → IsSearchInRange r (length es) → IsBinarySearchResult (λ e. nat_cmp e.0 k) es r → IfErr r (IsGap es k)
searched_gap es k (Ok at) rise within equal = tt
searched_gap es k (Err at) rise within parted =
    let halves = parted (comparisons_rise es k rise) in
    record {
      within = within;
      lower = λ j d from below. ranked _ k _ (sym (halves.0 j d from below));
      higher = λ j d from below. ranked _ k _ (sym (halves.1 j d from below));
    }

-- a loan by a function that gives the same value at each write is the same loan
pub same_loan : {G D E : Type 0} (name : G) (f g : E → D) → ((w : E) → f w ≡ g w) → ◌≡◌ {A = (G × (E → D)) ⊎ D} (inl (name, f)) (inl (name, g))
same_loan name f g same = λ i. inl (name, λ w. same w i)

-- x was read at the place of the key k, and m is the map that the entries hold
module _ (es : Entries) (m : Sections) (k at : ℕ) (x : ℕ × List (ℕ × ℕ)) (rise : IndicesRise es) (holds : held es ≡ m) (is_at : IsAt es k at) (read : x ≡ get_or es at x) where
  key_read : x.0 ≡ k
  key_read = ap (λ (e : ℕ × List (ℕ × ℕ)). e.0) read ∙ is_at.same x

  pub value_read : Some x.1 ≡ get m k
  value_read = ap (λ (e : ℕ × List (ℕ × ℕ)). Some e.1) read ∙ sym (get-at es k at x rise is_at) ∙ ap (λ (n : Sections). get n k) holds

  pub rise_lent : (w : List (ℕ × ℕ)) → IndicesRise (set es at (x.0, w))
  rise_lent w = rw key_read (rise-set es k at w rise is_at)

  pub held_lent : (w : List (ℕ × ℕ)) → held (set es at (x.0, w)) ≡ insert m k w
  held_lent w = rw key_read (held-set es k at w rise is_at ∙ ap (λ (n : Sections). insert n k w) holds)

-- entries that a push has changed, where it found memory
module _ (es new : Entries) (m : Sections) (k : ℕ) (v : List (ℕ × ℕ)) (found : Bool) (rise : IndicesRise es) (holds : held es ≡ m) where
  above_held : IsAboveAll m k → IsAboveAll (held es) k
  above_held above = record { lower = λ other there. above.lower other (rw holds at there) }

  pub rise_pushed : new ≡ cond found (es ++ (k, v) ∷ []) es → IsAboveAll m k → IndicesRise new
  rise_pushed is above = rw is (cond_both found (es ++ (k, v) ∷ []) es IndicesRise (λ _. rise-push es k v rise (above_held above)) (λ _. rise))

  pub held_pushed : new ≡ cond found (es ++ (k, v) ∷ []) es → IsAboveAll m k → found ≡ true → held new ≡ insert m k v
  held_pushed is above grown =
      ap held (is ∙ cond-true found (es ++ (k, v) ∷ []) es grown) ∙ held-push es k v (above_held above) ∙ ap (λ (n : Sections). insert n k v) holds

  module _ (at : ℕ) (gap : IsGap es k at) where
    pub rise_inserted : new ≡ cond found (insert_at es at (k, v)) es → IndicesRise new
    rise_inserted is = rw is (cond_both found (insert_at es at (k, v)) es IndicesRise (λ _. rise-insert es k at v rise gap) (λ _. rise))

    pub held_inserted : new ≡ cond found (insert_at es at (k, v)) es → found ≡ true → held new ≡ insert m k v
    held_inserted is grown =
        ap held (is ∙ cond-true found (insert_at es at (k, v)) es grown) ∙ held-insert es k at v gap ∙ ap (λ (n : Sections). insert n k v) holds

-- a fresh index has no entry
pub not_fresh : (es : Entries) (m : Sections) (k at : ℕ) → IndicesRise es → held es ≡ m → IsAt es k at → get m k ≢ None
not_fresh es m k at rise holds is_at none =
    false≢true (ap is_some (sym none ∙ sym (ap (λ (n : Sections). get n k) holds) ∙ get-at es k at (k, []) rise is_at))

-- what a fact that holds where a result is `Ok` gives
pub OnOk_from : {A E : Type 0} (r : Result A E) (P : Type 0) → (is_ok r ≡ true → P) → OnOk r P
OnOk_from (Ok x) P h = h refl
OnOk_from (Err e) P h = tt

-- the index of the last entry is the highest
pub last_of : (es : Entries) (m : Sections) (r : Option ℕ) → IndicesRise es → held es ≡ m → r ≡ option_map (λ e. e.0) (slice_get es (length es - 1)) → MatchOption r (m ≡ empty) (IsLast m)
last_of [] m r rise holds is = rw is (sym holds)
last_of (e ∷ es) m r rise holds is =
    let some : slice_get (e ∷ es) (length (e ∷ es) - 1) ≡ Some (get_or (e ∷ es) (length (e ∷ es) - 1) e) = slice_get-get_or (e ∷ es) (length (e ∷ es) - 1) e (omega arith) in
    rw (is, some, ← holds) (last_entry (e ∷ es) e rise (omega arith))

-- the map is empty just where there are no entries
pub is_empty_of : (es : Entries) (m : Sections) (b : Bool) (n : ℕ) → n ≡ length es → b ≡ eqb n 0 → held es ≡ m → IsTrue b ↔ (m ≡ empty)
is_empty_of [] m b n len is holds = (λ _. sym holds, λ _. is ∙ ap (λ k. eqb k 0) len)
is_empty_of (e ∷ es) m b n len is holds =
    (λ true_b. absurd (grind (arith, nat_tests, true_b)), λ same. absurd (omega (arith, ap length (held_empty (e ∷ es) (holds ∙ same)))))

-- an index above the last is above all
pub above_last : (m : Sections) (r : Option ℕ) → MatchOption r (m ≡ empty) (IsLast m) → (index : ℕ) → IfSome r (λ last. last < index) → IsAboveAll m index
above_last m None same index high = record { lower = λ other there. absurd (false≢true (ap is_some (sym (get-empty nat_cmp other)) ∙ sym (ap (λ (n : Sections). contains_key n other) same) ∙ there)) }
above_last m (Some last) is_last index high = record { lower = λ other there. omega (arith, is_last.highest other there, high) }

-- a value at one key leaves the others
pub others_stay : OtherSectionsStay
others_stay sections index other left differ = get-insert nat_cmp_total sections index left other ∙ rw (compares other index) (grind (arith, nat_tests))
