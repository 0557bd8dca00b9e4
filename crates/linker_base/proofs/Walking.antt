-- How far a cursor's walk goes at a query.
use Rattle.linker_base.proofs.Imports.{All, AllPairs, AreAhead, AreValidDeltas, IsAhead, IsBefore, IsValid, IsWalked, List, Reached, RelaxDelta, ap, arith, at_drop_more, begun_below, cases_eq, cases_lt, count_by-le-length, deletion_of, drop, get_or, get_or-drop, get_or-take, get_or_default, inl, inr, iter_rest, length, length-drop, length-map, length-take, map, max, nat_lt, passed_in, rank, subst, sym, take, walk_at, walk_through, ℕ, ◌%◌, ◌+◌, ◌-◌, ◌<◌, ◌^◌, ◌↔◌, ◌∙◌, ◌∷◌, ◌≡◌, ◌≤◌}
use Rattle.linker_base.proofs.Laws.{begun_parted, begun_later}
use Rattle.linker_base.proofs.Listed.{taken_up_to}
use Rattle.linker_base.proofs.OutputOffsets.{bytes-le-offset}
use Rattle.linker_base.proofs.Search.{blank, deletion_at, rank_from_search}

-- a walk from the first n deltas on has passed only such as begin below the offset
pub record IsPassing (deltas : List RelaxDelta) (from offset : ℕ) (reached : Reached) : Type 0 where
  pub walked : IsWalked deltas (passed_in deltas reached) reached
  pub after : from ≤ passed_in deltas reached
  pub begun : (k : ℕ) (d : RelaxDelta) → from ≤ k → k < passed_in deltas reached
      → (get_or deltas k d).input_offset < offset

-- a walk from the first n deltas on has made the first of the queries, in order, and the output
-- offset of each stands at its index
pub record IsWalkedAlong (deltas : List RelaxDelta) (from : ℕ) (queries : List ℕ) (at : ℕ)
    (reached : Reached) (out : List ℕ) : Type 0 where
  pub walked : IsWalked deltas (passed_in deltas reached) reached
  pub passed : walk_at (map deletion_of deltas) (passed_in deltas reached)
      ≡ walk_through (walk_at (map deletion_of deltas) from) (take at queries)
  pub ahead : AreAhead (walk_at (map deletion_of deltas) from) queries → at < length queries
      → IsAhead (walk_at (map deletion_of deltas) (passed_in deltas reached))
      (get_or queries at 0)
  pub ranks : AreAhead (walk_at (map deletion_of deltas) from) queries → (k : ℕ) → k < at
      → get_or out k 0 ≡ rank (map deletion_of deltas) (get_or queries k 0)

-- a walk from start that stops at the first delta that doesn't begin below i
pub walked_to : (deltas : List RelaxDelta) → AreValidDeltas deltas → (i start k : ℕ) → start ≤ k → k ≤ length deltas → ((j : ℕ) (d : RelaxDelta) → start ≤ j → j < k → (get_or deltas j d).input_offset < i) → (k < length deltas → i ≤ (get_or deltas k blank).input_offset) → k ≡ max start (begun_below (map deletion_of deltas) i)
walked_to deltas listed i start k from within begun stop =
    let ds = map deletion_of deltas in
    let bound = count_by-le-length (λ (d : ℕ × ℕ). nat_lt d.0 i) ds in
    let parted = begun_parted ds i listed.valid.ascending in
    let at : (j : ℕ) → j < length deltas → (get_or ds j (0, 0)).0 ≡ (get_or deltas j blank).input_offset = λ j low. ap (λ (e : ℕ × ℕ). e.0) (deletion_at deltas j blank (0, 0) low) in
    grind (arith, length-map deltas deletion_of, bound, at k, at (k - 1), parted.0 k (0, 0), parted.1 (k - 1) (0, 0), stop, begun (k - 1) blank)

-- a query that is no step back passes just what begins below it
pub begun_ahead : (ds : List (ℕ × ℕ)) → IsValid ds → (before i : ℕ) → before ≤ length ds → All (λ d. d.0 < i) (take before ds) → max before (begun_below ds i) ≡ begun_below ds i
begun_ahead ds valid before i within below =
    let b = begun_below ds i in
    let parted = begun_parted ds i valid.ascending in
    let first : b < before → (get_or (take before ds) b (0, 0)).0 ≡ (get_or ds b (0, 0)).0 = λ low. ap (λ (e : ℕ × ℕ). e.0) (get_or-take before ds b (0, 0) low) in
    grind (arith, length-take before ds, below b (0, 0), first, parted.1 b (0, 0))

-- and its rank follows from how far the walk has come
pub rank_walked : (deltas : List RelaxDelta) → AreValidDeltas deltas → (reached : Reached) (k i : ℕ) → k ≡ begun_below (map deletion_of deltas) i → IsWalked deltas k reached → rank (map deletion_of deltas) i + reached.deleted ≡ max i reached.end
rank_walked deltas listed reached k i begun walked =
    let ds = map deletion_of deltas in
    let parted = begun_parted ds i listed.valid.ascending in
    let within : k ≤ length ds = omega (arith, length-map deltas deletion_of, walked.within) in
    omega (arith, rank_from_search ds listed.valid i k reached.end within (rw begun parted) walked.end, walked.sum)

-- so do both after a query that is no step back
pub walked_ahead : (deltas : List RelaxDelta) → AreValidDeltas deltas → (before i k : ℕ) (reached : Reached) → before ≤ length deltas → k ≡ max before (begun_below (map deletion_of deltas) i) → IsWalked deltas k reached → All (λ d. d.0 < i) (take before (map deletion_of deltas))
    → (rank (map deletion_of deltas) i + reached.deleted ≡ max i reached.end) × All (λ d. d.0 < i) (take k (map deletion_of deltas))
walked_ahead deltas listed before i k reached within passed walked ahead =
    let ds = map deletion_of deltas in
    let begun = passed ∙ begun_ahead ds listed.valid before i (omega (arith, length-map deltas deletion_of, within)) ahead in
    (rank_walked deltas listed reached k i begun walked, rw begun (begun_later ds i i listed.valid.ascending (omega arith)))

-- the last of the first deletions decides whether all of them begin below an offset
pub taken_begin_below : (ds : List (ℕ × ℕ)) → AllPairs IsBefore ds → (i k : ℕ) → 0 < k → k ≤ length ds → ((get_or ds (k - 1) (0, 0)).0 < i) ↔ All (λ d. d.0 < i) (take k ds)
taken_begin_below ds ascending i k some bound = (
  λ last j d within.
      let low : j < k = omega (arith, length-take k ds) in
      rw (get_or-take k ds j d low) (elim (cases_eq j (k - 1)) [
        | inl here ↦ rw (here, get_or_default ds (k - 1) d (0, 0) (omega arith)) last
        | inr lower ↦ omega (arith, last, (ascending j (k - 1) d (omega arith) (omega arith)).0, ap (λ (e : ℕ × ℕ). e.0) (get_or_default ds (k - 1) d (0, 0) (omega arith)))
      ]),
  λ all.
      let low : k - 1 < k = omega arith in
      rw (get_or-take k ds (k - 1) (0, 0) low) at (all (k - 1) (0, 0) (omega (arith, length-take k ds))),
)

-- the bytes that are passed end at the end of the last deletion or below
pub walked_below_end : (deltas : List RelaxDelta) → AreValidDeltas deltas → (reached : Reached) (k : ℕ) → IsWalked deltas k reached → reached.deleted ≤ reached.end
walked_below_end deltas listed reached k walked =
    let ds = map deletion_of deltas in
    elim (cases_lt 0 k) [
      | inl some ↦
          let last = k - 1 in
          let inside : last < length ds = omega (arith, length-map deltas deletion_of, walked.within) in
          let one : last + 1 ≡ k = omega arith in
          let bytes = rw one at (taken_up_to ds listed.valid last (0, 0) inside).0 in
          omega (arith, bytes, bytes-le-offset ds last (0, 0) listed.valid.ascending inside, walked.end.last (0, 0) some, walked.sum)
      | inr none ↦
          let zero : k ≡ 0 = omega arith in
          let sum : reached.deleted ≡ 0 = rw zero at walked.sum in
          omega (arith, sum)
    ]

-- how many deltas a walk has passed
pub passed_is : (deltas : List RelaxDelta) (k : ℕ) (reached : Reached) → IsWalked deltas k reached → passed_in deltas reached ≡ k
passed_is deltas k reached walked = omega (arith, ap length walked.rest, length-drop k deltas, walked.within)

-- a delta that is passed leaves its sum and its end
pub walked_over : (deltas : List RelaxDelta) → AreValidDeltas deltas → (k : ℕ) (before after : Reached) (x : RelaxDelta) → IsWalked deltas k before → iter_rest before.rest ≡ x ∷ iter_rest after.rest → after.deleted ≡ x.cumulative_deleted → after.end ≡ (before.next + x.bytes_deleted) % 2 ^ 64
    → ((d : RelaxDelta) → 0 < length (iter_rest after.rest) → after.next ≡ (get_or (iter_rest after.rest) 0 d).input_offset) → (length (iter_rest after.rest) ≡ 0 → after.next ≡ 2 ^ 64 - 1)
    → (k < length deltas) × IsWalked deltas (k + 1) after
walked_over deltas listed k before after x walked step deleted wrapped next none =
    let long : k < length deltas = omega (arith, ap length (sym walked.rest ∙ step), length-drop k deltas) in
    let both : get_or deltas k x ∷ drop (k + 1) deltas ≡ x ∷ iter_rest after.rest = sym (at_drop_more (λ l. l) deltas k x long) ∙ sym walked.rest ∙ step in
    let here : x ≡ get_or deltas k blank = sym (ap (λ l. get_or l 0 x) both) ∙ get_or_default deltas k x blank long in
    let left : drop (k + 1) deltas ≡ iter_rest after.rest = ap (λ l. drop 1 l) both in
    let inside : k < length (map deletion_of deltas) = omega (arith, length-map deltas deletion_of, long) in
    let back : k + 1 - 1 ≡ k = omega arith in
    let fits = rw (deletion_at deltas k blank (0, 0) long) at (listed.valid.ends k (0, 0) inside) in
    let offset = walked.next blank long in
    let bytes = ap (λ (e : RelaxDelta). e.bytes_deleted) here in
    let zero : k + 1 + 0 ≡ k + 1 = omega arith in (
      long,
      record {
        within = omega (arith, long);
        rest = sym left;
        next = λ d more. next d (omega (arith, ap length left, length-drop (k + 1) deltas, more)) ∙ ap (λ l. (get_or l 0 d).input_offset) (sym left) ∙ rw zero at (ap (λ (e : RelaxDelta). e.input_offset) (get_or-drop (k + 1) deltas 0 d));
        none = λ last. none (omega (arith, ap length left, length-drop (k + 1) deltas, last));
        sum = deleted ∙ ap (λ (e : RelaxDelta). e.cumulative_deleted) here ∙ listed.listing.sums k blank long;
        end = record {
          none = λ none. absurd (omega arith);
          last = λ d some. rw (back, deletion_at deltas k blank d long) (omega (arith, fits, wrapped, offset, bytes));
        };
      },
    )

-- a walk that stops at the first delta that doesn't begin below the offset has passed just those
-- that do
pub walked_past : (deltas : List RelaxDelta) → AreValidDeltas deltas → (k offset : ℕ) (reached : Reached) → IsPassing deltas k offset reached → (passed_in deltas reached < length deltas → offset ≤ (get_or deltas (passed_in deltas reached) blank).input_offset)
    → IsWalked deltas (max k (begun_below (map deletion_of deltas) offset)) reached
walked_past deltas listed k offset reached passing stop = subst (λ n. IsWalked deltas n reached) (walked_to deltas listed offset k (passed_in deltas reached) passing.after passing.walked.within passing.begun stop) passing.walked

-- an offset up to where the next delta begins passes none
pub passes_none : (deltas : List RelaxDelta) → AreValidDeltas deltas → (reached : Reached) (k i : ℕ) → IsWalked deltas k reached → i ≤ reached.next → k ≡ max k (begun_below (map deletion_of deltas) i)
passes_none deltas listed reached k i walked low = walked_to deltas listed i k k (omega arith) walked.within (λ j d from below. absurd (omega (arith, from, below))) (λ inside. omega (arith, walked.next blank inside, low))

-- and one above it is no step back
pub begin_below : (deltas : List RelaxDelta) → AreValidDeltas deltas → (reached : Reached) (k i : ℕ) → IsWalked deltas k reached → reached.next < i → i < 2 ^ 64 → All (λ d. d.0 < i) (take k (map deletion_of deltas))
begin_below deltas listed reached k i walked above fits =
    let ds = map deletion_of deltas in
    elim (cases_lt k (length deltas)) [
      | inl inside ↦
          let long : k + 1 ≤ length ds = omega (arith, length-map deltas deletion_of, inside) in
          let one : k + 1 - 1 ≡ k = omega arith in
          let here : (get_or ds k (0, 0)).0 < i = omega (arith, ap (λ (e : ℕ × ℕ). e.0) (deletion_at deltas k blank (0, 0) inside), walked.next blank inside, above) in
          let all = (taken_begin_below ds listed.valid.ascending i (k + 1) (omega arith) long).0 (rw one here) in
          λ j d low.
          let short : j < k = omega (arith, length-take k ds, low) in
          let later : j < k + 1 = omega (arith, short) in
          rw (get_or-take k ds j d short) (rw (get_or-take (k + 1) ds j d later) at (all j d (omega (arith, length-take (k + 1) ds, long, later))))
      | inr past ↦ absurd (omega (arith, walked.none (omega (arith, past, walked.within)), above, fits))
    ]
