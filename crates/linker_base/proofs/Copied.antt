-- The bytes of a section that stay are copied run by run. The section begins at a base.
use Rattle.linker_base.proofs.Imports.{AreBegun, AreValidDeltas, IsCopied, IsFilled, IsFilledTo, IsFirstRun, IsRunStart, IsValid, List, RelaxDelta, add-suc, add-zero, and_from, ap, arith, both_ways, cases_lt, covers, deletion_of, drop, false, false_from_ne_true, get_or, get_or-append_right, get_or-drop, get_or-map, get_or-take, get_or_append_left, get_or_default, inl, inr, is_kept, le-leb, leb, length, length-append, length-drop, length-map, length-take, list_any, list_any_at, lt-ltb, ltb, map, max, min, no_delta, not, rank, refl, subst, suc, sym, take, take_all, true, zero, ℕ, ◌++◌, ◌+◌, ◌-◌, ◌<◌, ◌^◌, ◌∙◌, ◌≡◌, ◌≤◌}
use Rattle.linker_base.proofs.OutputOffsets.{none_covers}
use Rattle.linker_base.proofs.Rank.{rank_kept, rank_gone, rank-mono, rank_all_kept}

-- ---- bytes put over others

module _ (xs ys : List ℕ) (at n : ℕ) (room : at + length ys ≤ length xs) (following : n ≡ at + length ys) where
  front_length : length (take at xs) ≡ at
  front_length = length-take at xs ∙ omega arith

  both_length : length (take at xs ++ ys) ≡ at + length ys
  both_length = length-append (take at xs) ys ∙ omega (arith, front_length)

  pub put_below : (j : ℕ) → j < at → get_or (take at xs ++ ys ++ drop n xs) j 0 ≡ get_or xs j 0
  put_below j h =
      get_or_append_left (take at xs ++ ys) (drop n xs) 0 j (omega (arith, both_length))
      ∙ get_or_append_left (take at xs) ys 0 j (omega (arith, front_length))
      ∙ get_or-take at xs j 0 h

  pub put_at : (i : ℕ) → i < length ys → get_or (take at xs ++ ys ++ drop n xs) (at + i) 0 ≡ get_or ys i 0
  put_at i h =
      get_or_append_left (take at xs ++ ys) (drop n xs) 0 (at + i) (omega (arith, both_length))
      ∙ get_or-append_right (take at xs) ys at (at + i) 0 front_length (omega arith)
      ∙ ap (λ k. get_or ys k 0) (omega arith)

-- ---- positions that are kept, and others

-- a position that a deletion holds is not kept
pub gone_at : (ds : List (ℕ × ℕ)) (p k : ℕ) (d : ℕ × ℕ) → k < length ds → get_or ds k d ≡ d → d.0 ≤ p → p < d.0 + d.1 → is_kept ds p ≡ true → ⊥
gone_at ds p k d l at low high kept =
    let held : covers d p ≡ true = and_from (leb d.0 p) (ltb p (d.0 + d.1)) (le-leb d.0 p low) (lt-ltb p (d.0 + d.1) high) in
    let some : list_any (λ e. covers e p) ds ≡ true = list_any_at (λ e. covers e p) ds k d l (ap (λ e. covers e p) at ∙ held) in
    both_ways (is_kept ds p) (ap not some) kept

-- a position in the run from an offset up to the next deletion is kept
pub run_kept : (ds : List (ℕ × ℕ)) (k from p : ℕ) → IsRunStart ds k from → from ≤ p → ((j : ℕ) (d : ℕ × ℕ) → k ≤ j → j < length ds → p < (get_or ds j d).0) → is_kept ds p ≡ true
run_kept ds k from p start low high = ap not (none_covers ds p (λ j d within begun. grind (arith, start.ended j d, high j d)))

-- a position in a deletion isn't
pub deleted_gone : (ds : List (ℕ × ℕ)) (k p : ℕ) (d : ℕ × ℕ) → k < length ds → (get_or ds k d).0 ≤ p → p < (get_or ds k d).0 + (get_or ds k d).1 → is_kept ds p ≡ false
deleted_gone ds k p d within low high =
    false_from_ne_true (is_kept ds p) (gone_at ds p k (get_or ds k d) within (get_or_default ds k (get_or ds k d) d within) low high)

-- over kept positions the rank rises with the offset
pub rank-kept : (ds : List (ℕ × ℕ)) (i n : ℕ) → ((p : ℕ) → i ≤ p → p < i + n → is_kept ds p ≡ true) → rank ds (i + n) ≡ rank ds i + n
rank-kept ds i n kept = rank_all_kept ds i n (λ k low. kept (i + k) (omega arith) (omega arith))

-- over others it stays
pub rank-gone : (ds : List (ℕ × ℕ)) (i n : ℕ) → ((p : ℕ) → i ≤ p → p < i + n → is_kept ds p ≡ false) → rank ds (i + n) ≡ rank ds i
rank-gone ds i zero gone = ap (rank ds) (add-zero i)
rank-gone ds i (suc n) gone =
    ap (rank ds) (add-suc i n) ∙ rank_gone ds (i + n) (gone (i + n) (omega arith) (omega arith)) ∙ rank-gone ds i n (λ p low high. gone p low (omega arith))

-- ---- one run

module _ (ds : List (ℕ × ℕ)) (base : ℕ) (s packed bytes : List ℕ) (from upto at : ℕ)
    (low : base ≤ from) (rise : from ≤ upto) (within : upto ≤ base + length s)
    (kept : (p : ℕ) → from ≤ p → p < upto → is_kept ds p ≡ true)
    (place : at + rank ds base ≡ rank ds from)
    (filled : IsFilledTo ds base s from packed)
    (room : length packed ≡ rank ds (base + length s) - rank ds base)
    (run : bytes ≡ take (upto - from) (drop (from - base) s)) where
  pub run_done : (at + length bytes ≤ length packed) × (at + length bytes + rank ds base ≡ rank ds upto) × IsFilledTo ds base s upto (take at packed ++ bytes ++ drop (at + length bytes) packed)
  run_done =
      let long : length bytes ≡ upto - from = ap length run ∙ length-take (upto - from) (drop (from - base) s) ∙ omega (arith, length-drop (from - base) s) in
      let ranks : (n : ℕ) → from + n ≤ upto → rank ds (from + n) ≡ at + n + rank ds base = λ n h. rank-kept ds from n (λ p up below. kept p up (omega arith)) ∙ omega arith in
      let whole : from + (upto - from) ≡ upto = omega arith in
      let end : at + length bytes + rank ds base ≡ rank ds upto = omega (arith, long, ranks (upto - from) (omega arith), ap (rank ds) whole) in
      let fits : at + length bytes ≤ length packed = omega (arith, end, room, rank-mono ds upto (base + length s) within) in
      let copied : IsFilledTo ds base s upto (take at packed ++ bytes ++ drop (at + length bytes) packed) = λ p inside below is. elim (cases_lt (base + p) from) [
        | inl before ↦
            put_below packed bytes at (at + length bytes) fits refl (rank ds (base + p) - rank ds base) (omega (arith, rank_kept ds (base + p) is, rank-mono ds (suc (base + p)) from (omega arith), rank-mono ds base (base + p) (omega arith)))
            ∙ filled p inside before is
        | inr after ↦
            let n = base + p - from in
            let there : base + p ≡ from + n = omega arith in
            let position : rank ds (base + p) - rank ds base ≡ at + n = omega (arith, ap (rank ds) there, ranks n (omega arith)) in
            ap (λ y. get_or (take at packed ++ bytes ++ drop (at + length bytes) packed) y 0) position
            ∙ put_at packed bytes at (at + length bytes) fits refl n (omega (arith, long))
            ∙ ap (λ xs. get_or xs n 0) run
            ∙ get_or-take (upto - from) (drop (from - base) s) n 0 (omega arith)
            ∙ get_or-drop (from - base) s n 0
            ∙ ap (λ k. get_or s k 0) (omega arith)
      ] in
      (fits, end, copied)

-- after what is filled only deleted positions follow
filled_on : (ds : List (ℕ × ℕ)) (base : ℕ) (s packed : List ℕ) (a b : ℕ) → IsFilledTo ds base s a packed → ((p : ℕ) → a ≤ p → p < b → is_kept ds p ≡ false) → IsFilledTo ds base s b packed
filled_on ds base s packed a b filled gone p inside low is =
    elim (cases_lt (base + p) a) [
      | inl below ↦ filled p inside below is
      | inr above ↦ absurd (both_ways (is_kept ds (base + p)) (gone (base + p) above low) is)
    ]

put_whole : (packed bytes new : List ℕ) (at : ℕ) → at + length bytes ≤ length packed
    → new ≡ take at packed ++ take (length packed - at) bytes ++ drop (at + length bytes) packed
    → new ≡ take at packed ++ bytes ++ drop (at + length bytes) packed
put_whole packed bytes new at h e = e ∙ ap (λ ys. take at packed ++ ys ++ drop (at + length bytes) packed) (take_all (length packed - at) bytes (omega arith))

-- the run between two offsets, as far as they lie in the section
run_within : (base : ℕ) (s : List ℕ) (from to : ℕ) → base ≤ from → base ≤ to
    → take (min (to - base) (length s) - min (from - base) (length s)) (drop (min (from - base) (length s)) s)
    ≡ take (min to (base + length s) - min from (base + length s)) (drop (min from (base + length s) - base) s)
run_within base s from to a b =
    let e : min (to - base) (length s) - min (from - base) (length s) ≡ min to (base + length s) - min from (base + length s) = omega arith in
    let f : min (from - base) (length s) ≡ min from (base + length s) - base = omega arith in
    ap (λ n. take n (drop (min (from - base) (length s)) s)) e ∙ ap (λ n. take (min to (base + length s) - min from (base + length s)) (drop n s)) f

-- ---- all runs

module _ (ds : List (ℕ × ℕ)) (base : ℕ) (s packed bytes new : List ℕ) (k from at : ℕ)
    (copied : IsCopied ds base s k from at packed)
    (room : length packed ≡ rank ds (base + length s) - rank ds base)
    (put : new ≡ take at packed ++ take (length packed - at) bytes ++ drop (at + length bytes) packed) where
  abbrev ends : ℕ
  ends = base + length s

  above : base ≤ from
  above = copied.above

  -- the run up to an offset, or to the section's end, where the other deletions begin there or
  -- above
  run_put : (to : ℕ) → base ≤ to → min from ends ≤ min to ends → ((j : ℕ) (d : ℕ × ℕ) → k ≤ j → j < length ds → min to ends ≤ (get_or ds j d).0)
      → bytes ≡ take (min (to - base) (length s) - min (from - base) (length s)) (drop (min (from - base) (length s)) s)
      → (at + length bytes ≤ length packed) × (at + length bytes + rank ds base ≡ rank ds (min to ends)) × IsFilledTo ds base s (min to ends) new
  run_put to up rise first run =
      let kept : (p : ℕ) → min from ends ≤ p → p < min to ends → is_kept ds p ≡ true =
      λ p low high. run_kept ds k from p copied.start (omega arith) (λ j d up inside. omega (arith, first j d up inside)) in
      let done = run_done ds base s packed bytes (min from ends) (min to ends) at (omega (arith, above)) rise (omega arith) kept copied.at_is copied.filled room (run ∙ run_within base s from to above up) in
      (done.0, done.1, subst (IsFilledTo ds base s (min to ends)) (sym (put_whole packed bytes new at done.0 put)) done.2)

  -- the run up to the next deletion, which is passed
  module _ (next end : ℕ) (valid : IsValid ds) (within : k < length ds)
      (run : bytes ≡ take (min ((get_or ds k (0, 0)).0 - base) (length s) - min (from - base) (length s)) (drop (min (from - base) (length s)) s))
      (end_at : end ≡ at + min (length bytes) (length packed - at))
      (onward : next ≡ min ((get_or ds k (0, 0)).0 + (get_or ds k (0, 0)).1) (2 ^ 64 - 1)) where
    pub copied_step : IsCopied ds base s (k + 1) next end new
    copied_step =
        let to = (get_or ds k (0, 0)).0 in
        let rise : from ≤ to = copied.start.ahead k (0, 0) (omega arith) within in
        let next_is : next ≡ to + (get_or ds k (0, 0)).1 = omega (arith, valid.ends k (0, 0) within) in
        let later : (j : ℕ) (d : ℕ × ℕ) → k < j → j < length ds → next ≤ (get_or ds j d).0 =
        λ j d up inside. omega (arith, next_is, (valid.ascending k j d up inside).1, ap (λ (e : ℕ × ℕ). e.0 + e.1) (get_or_default ds k d (0, 0) within)) in
        let first_from : (j : ℕ) (d : ℕ × ℕ) → k ≤ j → j < length ds → to ≤ (get_or ds j d).0 =
        λ j d up inside. grind (arith, next_is, later j d, λ (same : j ≡ k). ap (λ q. (get_or ds q d).0) same, ap (λ (e : ℕ × ℕ). e.0) (get_or_default ds k d (0, 0) within)) in
        let done = run_put to (omega (arith, above, rise)) (omega (arith, rise)) (λ j d up inside. omega (arith, first_from j d up inside)) run in
        let gone : (p : ℕ) → min to ends ≤ p → p < min next ends → is_kept ds p ≡ false = λ p down high. deleted_gone ds k p (0, 0) within (omega arith) (omega (arith, next_is)) in
        let apart : min next ends ≡ min to ends + (min next ends - min to ends) = omega (arith, next_is) in
        let rank_same : rank ds (min next ends) ≡ rank ds (min to ends) =
        ap (rank ds) apart ∙ rank-gone ds (min to ends) (min next ends - min to ends) (λ p down below. gone p down (omega (arith, next_is))) in
        record {
          start = record {
            ended = λ j d below. grind (arith, copied.start.ended j d, rise, next_is, λ (same : j ≡ k). ap (λ q. get_or ds q d) same, get_or_default ds k d (0, 0) within);
            ahead = λ j d after inside. later j d (omega arith) inside;
          };
          above = omega (arith, above, rise, next_is);
          at_is = omega (arith, end_at, done.0, done.1, rank_same);
          filled = filled_on ds base s new (min to ends) (min next ends) done.2 gone;
        }

  -- the run up to the section's end, above which the other deletions begin
  pub copied_end : ((j : ℕ) (d : ℕ × ℕ) → k ≤ j → j < length ds → base + length s ≤ (get_or ds j d).0)
      → bytes ≡ take (min (base + length s - base) (length s) - min (from - base) (length s)) (drop (min (from - base) (length s)) s)
      → IsFilled ds base s new
  copied_end past run = let e : min ends ends ≡ ends = omega arith in rw e at (run_put ends (omega arith) (omega arith) (λ j d up inside. omega (arith, past j d up inside)) run).2

-- nothing is copied yet
pub copied_first : (ds : List (ℕ × ℕ)) (base : ℕ) (s packed : List ℕ) (first from : ℕ) → IsFirstRun ds base first from → IsCopied ds base s first from 0 packed
copied_first ds base s packed first from run =
    let above = run.above in
    let to = min from (base + length s) in
    record {
      start = run.start;
      above = run.above;
      at_is =
          let e : to ≡ base + (to - base) = omega arith in
          let gone = rank-gone ds base (to - base) (λ p low high. run.gone p low (omega arith)) in
          omega (arith, ap (rank ds) e, gone);
      filled = λ p inside low kept. absurd (both_ways (is_kept ds (base + p)) (run.gone (base + p) (omega arith) (omega arith)) kept);
    }

-- ---- the first run

module _ (ds : List (ℕ × ℕ)) (base first : ℕ) (valid : IsValid ds) (within : first ≤ length ds)
    (below : (j : ℕ) (d : ℕ × ℕ) → j < first → (get_or ds j d).0 < base)
    (above : (j : ℕ) (d : ℕ × ℕ) → first ≤ j → j < length ds → base ≤ (get_or ds j d).0) where
  -- no deletion begins below the base
  pub run_from_base : first ≡ 0 → IsFirstRun ds base first base
  run_from_base none = record {
    start = record { ended = λ j d low. absurd (omega arith); ahead = above };
    above = omega arith;
    gone = λ p low high. absurd (omega arith);
  }

  -- the last of those that do ends at an offset
  pub run_from_end : (end from : ℕ) → 0 < first → end ≡ (get_or ds (first - 1) (0, 0)).0 + (get_or ds (first - 1) (0, 0)).1
      → from ≡ max end base → IsFirstRun ds base first from
  run_from_end end from some is from_is =
      let last : first - 1 < length ds = omega arith in
      let last_below = below (first - 1) (0, 0) (omega arith) in
      record {
        start = record {
          ended = λ j d low. elim (cases_lt j (first - 1)) [
            | inl before ↦ omega (arith, (valid.ascending j (first - 1) d before last).1, ap (λ (e : ℕ × ℕ). e.0) (get_or_default ds (first - 1) d (0, 0) last))
            | inr here ↦ let same : j ≡ first - 1 = omega arith in rw same (omega (arith, ap (λ (e : ℕ × ℕ). e.0 + e.1) (get_or_default ds (first - 1) d (0, 0) last)))
          ];
          ahead = λ j d up inside.
              let a = (valid.ascending (first - 1) j d (omega arith) inside).1 in
              omega (arith, a, above j d up inside, ap (λ (e : ℕ × ℕ). e.0 + e.1) (get_or_default ds (first - 1) d (0, 0) last));
        };
        above = omega arith;
        gone = λ p low high. deleted_gone ds (first - 1) p (0, 0) last (omega arith) (omega arith);
      }

deletion_at : (deltas : List RelaxDelta) (j : ℕ) (d : ℕ × ℕ) (e : RelaxDelta) → j < length deltas → (get_or (map deletion_of deltas) j d).0 ≡ (get_or deltas j e).input_offset
deletion_at deltas j d e h = ap (λ (x : ℕ × ℕ). x.0) (get_or-map deletion_of deltas j e d h)

-- the deletions of deltas that begin below an offset, and of the others
module _ (deltas : List RelaxDelta) (offset begun : ℕ) (valid : AreValidDeltas deltas) (are : AreBegun deltas offset begun) where
  pub begin_below : (j : ℕ) (d : ℕ × ℕ) → j < begun → (get_or (map deletion_of deltas) j d).0 < offset
  begin_below j d h =
      let last = deletion_at deltas (begun - 1) d no_delta in
      grind (arith, are.within, are.below, last, λ (before : j < begun - 1). (valid.valid.ascending j (begun - 1) d before (omega (arith, are.within, length-map deltas deletion_of))).0, λ (same : j ≡ begun - 1). ap (λ q. (get_or (map deletion_of deltas) q d).0) same)

  pub begin_above : (j : ℕ) (d : ℕ × ℕ) → begun ≤ j → j < length (map deletion_of deltas) → offset ≤ (get_or (map deletion_of deltas) j d).0
  begin_above j d h inside =
      let first = deletion_at deltas begun d no_delta in
      grind (arith, length-map deltas deletion_of, are.above, first, λ (before : begun < j). (valid.valid.ascending begun j d before inside).0, λ (same : j ≡ begun). ap (λ q. (get_or (map deletion_of deltas) q d).0) same)
