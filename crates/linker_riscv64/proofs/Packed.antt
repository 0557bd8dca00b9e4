-- How a section is packed: the jumps in it.
use Rattle.linker_riscv64.proofs.Imports.{All, AreApart, AreApartTo, CanJump, Err, IfErr, IsCallInSection, IsEven, IsFilled, IsFirstRejected, IsJal, IsJalDistance, IsNotAt, IsOk, IsPacked, IsPackedTo, IsRejected, IsSiteKept, JumpsAndLinks, JumpsAt, LinkRegister, List, NamesRegister, OddDistance, OfAuipc, OfJalr, Ok, OnOk, OutOfSection, Result, SiteDeleted, TooFar, ap, append_assoc, arith, call_len, cases_lt, deletions_of, drop, drop-drop, drop_at, field, from_le_bytes, get_or, get_or-drop, get_or-take, get_or_default, inl, inr, is_kept, length, length-take, link_register, output_distance, rank, rank-mono, rank_all_kept, rank_kept, subst, suc, sym, take, take_at, true, w32, word_at, ℕ, ℤ, ◌++◌, ◌+◌, ◌-◌, ◌<◌, ◌↔◌, ◌∙◌, ◌≡◌, ◌≤◌}
use Rattle.linker_riscv64.specs.declared.calls.CallError.{CallError}
use Rattle.linker_riscv64.specs.declared.calls.JumpError.{JumpError}
use Rattle.linker_riscv64.specs.declared.calls.JumpError.TheVariants.{Call, NotACall}
use Rattle.linker_riscv64.specs.declared.packing.RejectedCall.{RejectedCall}
use Rattle.linker_base.specs.declared.relaxation.RelaxDelta.{RelaxDelta}
use Rattle.linker_base.proofs.Words.{word_of_front}

-- ---- one jump

register_at : (link : LinkRegister) (s : List ℕ) (site : ℕ) → field (word_at s (site + call_len link - 4)) 7 12 ≡ link_register link s site
register_at OfAuipc s site = ap (λ k. field (word_at s k) 7 12) (let same : site + 4 - 4 ≡ site = omega arith in same)
register_at OfJalr s site = ap (λ k. field (word_at s k) 7 12) (let same : site + 8 - 4 ≡ site + 4 = omega arith in same)

-- where the instruction that names the register is put before it becomes a jump, that jump links
-- the register
pub jump_put : (s p0 bytes p1 p2 : List ℕ) (link : LinkRegister) (site at : ℕ) (d : ℤ)
    → length bytes ≡ 4
    → bytes ≡ take 4 (drop (site + call_len link - 4) s)
    → at + 4 ≤ length p0
    → p1 ≡ take at p0 ++ bytes ++ drop (at + length bytes) p0
    → JumpsAt p1 p2 at d
    → JumpsAndLinks p0 p2 at (link_register link s site) d
jump_put s p0 bytes p1 p2 link site at d four taken room put jumps =
    let front : length (take at p0) ≡ at = length-take at p0 ∙ omega arith in
    let parted : p1 ≡ take at p0 ++ (bytes ++ drop (at + length bytes) p0) = put ∙ append_assoc (take at p0) bytes (drop (at + length bytes) p0) in
    let following : drop at p1 ≡ bytes ++ drop (at + length bytes) p0 = ap (drop at) parted ∙ drop_at (take at p0) (bytes ++ drop (at + length bytes) p0) at front in
    let word : word_at p1 at ≡ word_at s (site + call_len link - 4) =
    ap (from_le_bytes w32) following
    ∙ sym (word_of_front (bytes ++ drop (at + length bytes) p0))
    ∙ ap (from_le_bytes w32) (take_at bytes (drop (at + length bytes) p0) 4 four ∙ taken)
    ∙ word_of_front (drop (site + call_len link - 4) s) in
    record {
      jal = record {
        opcode = jumps.jal.opcode;
        register_bits = jumps.jal.register_bits ∙ ap (λ w. field w 7 12) word ∙ register_at link s site;
        reads = jumps.jal.reads;
      };
      front = jumps.front ∙ ap (take at) parted ∙ take_at (take at p0) (bytes ++ drop (at + length bytes) p0) at front;
      rest = jumps.rest
          ∙ sym (drop-drop 4 at p1)
          ∙ ap (drop 4) following
          ∙ drop_at bytes (drop (at + length bytes) p0) 4 four
          ∙ ap (λ k. drop (at + k) p0) four;
    }

-- ---- calls

-- a call whose jump `jal_site` rejects is rejected for that
module _ (link : LinkRegister) (ds : List (ℕ × ℕ)) (s : List ℕ) (call : ℕ × ℕ) (d : ℤ) (r : Result Unit CallError) (room : Type 0)
    (far : d ≡ output_distance ds call.0 call.1)
    (inside : IsCallInSection link s call)
    (kept : IsSiteKept ds call.0)
    (names : NamesRegister link s call.0)
    (fits : room)
    (accepted : IsOk r ↔ (room × IsEven d × IsJalDistance d))
    (out : (r ≡ Err OutOfSection) → room → ⊥)
    (odd : (r ≡ Err OddDistance) ↔ (room × ¬ IsEven d))
    (too_far : (r ≡ Err TooFar) ↔ (room × IsEven d × ¬ IsJalDistance d)) where
  pub jal_rejected : (e : CallError) → r ≡ Err e → IsRejected link ds s call (Call e)
  jal_rejected OutOfSection is = absurd (out is fits)
  jal_rejected SiteDeleted is =
      let even : (IsEven d → ⊥) → ⊥ = λ no. let other = odd.1 (fits, no) in cc in
      absurd (even (λ e. let far : (IsJalDistance d → ⊥) → ⊥ = λ no. let other = too_far.1 (fits, e, no) in cc in far (λ j. let ok = accepted.1 (fits, e, j) in cc)))
  jal_rejected OddDistance is = (inside, kept, names, subst (λ d. IsEven d → ⊥) far (odd.0 is).1)
  jal_rejected TooFar is =
      let fails = too_far.0 is in
      (inside, kept, names, subst IsEven far fails.1, subst (λ d. IsJalDistance d → ⊥) far fails.2)

-- a call that can become a jump isn't rejected
pub not_rejected : (link : LinkRegister) (ds : List (ℕ × ℕ)) (s : List ℕ) (call : ℕ × ℕ) (e : JumpError) → CanJump link ds s call → IsRejected link ds s call e → ⊥
not_rejected link ds s call (Call OutOfSection) can fails = fails can.inside
not_rejected link ds s call (Call SiteDeleted) can fails = fails.1 can.kept
not_rejected link ds s call NotACall can fails = fails.2 can.names
not_rejected link ds s call (Call OddDistance) can fails = fails.3 can.even
not_rejected link ds s call (Call TooFar) can fails = fails.4 can.near

-- the first calls with one more
pub calls_more : (P : ℕ × ℕ → Type 0) (js : List (ℕ × ℕ)) (k : ℕ) (j : ℕ × ℕ) → k < length js → ((i : ℕ) (d : ℕ × ℕ) → i < k → P (get_or js i d)) → get_or js k (0, 0) ≡ j → P j
    → (i : ℕ) (d : ℕ × ℕ) → i < k + 1 → P (get_or js i d)
calls_more P js k j within before is here i d low =
    elim (cases_lt i k) [
      | inl below ↦ before i d below
      | inr at ↦ let same : i ≡ k = omega arith in rw same (subst P (sym (get_or_default js k d (0, 0) within ∙ is)) here)
    ]

words_same : (xs ys : List ℕ) → ((i : ℕ) → i < 4 → get_or xs i 0 ≡ get_or ys i 0) → from_le_bytes w32 xs ≡ from_le_bytes w32 ys
words_same xs ys same = omega (arith, same 0 (omega arith), same 1 (omega arith), same 2 (omega arith), same 3 (omega arith))

module _ (link : LinkRegister) (ds : List (ℕ × ℕ)) (s : List ℕ) (js : List (ℕ × ℕ)) (k : ℕ) (p0 p1 : List ℕ) (call : ℕ × ℕ)
    (within : k < length js)
    (is : get_or js k (0, 0) ≡ call)
    (apart : AreApart js)
    (can : (i : ℕ) (d : ℕ × ℕ) → i < k + 1 → CanJump link ds s (get_or js i d))
    (before : IsPackedTo link ds s js k p0)
    (put : JumpsAndLinks p0 p1 (rank ds call.0) (link_register link s call.0) (output_distance ds call.0 call.1)) where
  can_here : CanJump link ds s call
  can_here = subst (CanJump link ds s) is (can k (0, 0) (omega arith))

  fits : (c : ℕ × ℕ) → CanJump link ds s c → rank ds (c.0 + 4) ≡ rank ds c.0 + 4
  fits c can = rank_all_kept ds c.0 4 can.kept

  below_same : (y : ℕ) → y < rank ds call.0 → get_or p1 y 0 ≡ get_or p0 y 0
  below_same y h =
      sym (get_or-take (rank ds call.0) p1 y 0 h)
      ∙ ap (λ xs. get_or xs y 0) put.front
      ∙ get_or-take (rank ds call.0) p0 y 0 h

  above_same : (y : ℕ) → rank ds call.0 + 4 ≤ y → get_or p1 y 0 ≡ get_or p0 y 0
  above_same y h =
      let from = rank ds call.0 + 4 in
      let e : y ≡ from + (y - from) = omega arith in
      ap (λ n. get_or p1 n 0) e
      ∙ sym (get_or-drop from p1 (y - from) 0)
      ∙ ap (λ xs. get_or xs (y - from) 0) put.rest
      ∙ get_or-drop from p0 (y - from) 0
      ∙ ap (λ n. get_or p0 n 0) (sym e)

  stays : (p : ℕ) → is_kept ds p ≡ true → IsNotAt p call → get_or p1 (rank ds p) 0 ≡ get_or p0 (rank ds p) 0
  stays p kept off =
      elim (cases_lt p call.0) [
        | inl low ↦ below_same (rank ds p) (omega (arith, rank_kept ds p kept, rank-mono ds (suc p) call.0 (omega arith)))
        | inr high ↦ above_same (rank ds p) (omega (arith, fits call can_here, rank-mono ds (call.0 + 4) p (off high)))
      ]

  word_stays : (b : ℕ) → b + 4 ≤ rank ds call.0 → word_at p1 b ≡ word_at p0 b
  word_stays b h =
      words_same (drop b p1) (drop b p0) (λ i low. get_or-drop b p1 i 0 ∙ below_same (b + i) (omega arith) ∙ sym (get_or-drop b p0 i 0))

  earlier : (i : ℕ) (d : ℕ × ℕ) → i < k → rank ds (get_or js i d).0 + 4 ≤ rank ds call.0
  earlier i d low =
      let gap : (get_or js i d).0 + 4 ≤ call.0 =
      subst (λ (c : ℕ × ℕ). (get_or js i d).0 + 4 ≤ c.0) (get_or_default js k d (0, 0) within ∙ is) (apart i k d low within) in
      omega (arith, fits (get_or js i d) (can i d (omega arith)), rank-mono ds ((get_or js i d).0 + 4) call.0 gap)

  pub calls_step : IsPackedTo link ds s js (k + 1) p1
  calls_step = record {
    kept = λ p low kept off.
        stays p kept (subst (IsNotAt p) is (off k (0, 0) (omega arith)))
        ∙ before.kept p low kept (λ i d below. off i d (omega arith));
    jumps = λ i d low. elim (cases_lt i k) [
      | inl below ↦ subst (λ w. IsJal w (link_register link s (get_or js i d).0) (output_distance ds (get_or js i d).0 (get_or js i d).1)) (sym (word_stays (rank ds (get_or js i d).0) (earlier i d below))) (before.jumps i d below)
      | inr at ↦
          let same : i ≡ k = omega arith in
          rw same (subst (λ (c : ℕ × ℕ). IsJal (word_at p1 (rank ds c.0)) (link_register link s c.0) (output_distance ds c.0 c.1)) (sym (get_or_default js k d (0, 0) within ∙ is)) put.jal)
    ];
  }

-- with all calls put, the section is packed
pub calls_end : (link : LinkRegister) (ds : List (ℕ × ℕ)) (s : List ℕ) (js : List (ℕ × ℕ)) (k : ℕ) (p : List ℕ) → length js ≡ k → length p ≡ rank ds (length s) → IsPackedTo link ds s js k p → IsPacked link ds s js p
calls_end link ds s js k p past room all = record {
  len = room;
  kept = λ y i low selected off. ap (λ n. get_or p n 0) (sym selected.ranked) ∙ all.kept i low selected.kept (λ j d below. off j d (omega arith));
  jumps = λ i d low. all.jumps i d (omega arith);
}

pub calls_start : (link : LinkRegister) (ds : List (ℕ × ℕ)) (s : List ℕ) (js : List (ℕ × ℕ)) (p : List ℕ) → IsFilled ds 0 s p → IsPackedTo link ds s js 0 p
unfolding rank
calls_start link ds s js p filled = record {
  kept = λ i low kept off.
      let same : 0 + i ≡ i = omega arith in
      let place : rank ds (0 + i) - rank ds 0 ≡ rank ds i = omega (arith, ap (rank ds) same) in
      ap (λ n. get_or p n 0) (sym place) ∙ filled i low (omega arith) (subst (λ n. is_kept ds n ≡ true) (sym same) kept);
  jumps = λ i d low. absurd (omega arith);
}

-- what is packed by deltas that are the same, where no call is rejected
pub packed_over : (link : LinkRegister) (listed deltas : List RelaxDelta) (s : List ℕ) (calls : List (ℕ × ℕ)) (before after : List ℕ) (r : Result Unit RejectedCall)
    → listed ≡ deltas
    → All (CanJump link (deletions_of listed) s) calls
    → length before ≡ rank (deletions_of deltas) (length s)
    → AreApart calls
    → IsFilled (deletions_of deltas) 0 s before
    → IfErr r (λ rejected. IsFirstRejected link (deletions_of listed) s calls rejected.index rejected.error)
    → (length before ≡ rank (deletions_of listed) (length s) → AreApart calls → IsFilled (deletions_of listed) 0 s before → OnOk r (IsPacked link (deletions_of listed) s calls after))
    → IsPacked link (deletions_of deltas) s calls after
packed_over link listed deltas s calls before after (Ok u) same can room apart filled rejected packed =
    subst (λ (ds : List RelaxDelta). IsPacked link (deletions_of ds) s calls after) same
    (packed (subst (λ (ds : List RelaxDelta). length before ≡ rank (deletions_of ds) (length s)) (sym same) room) apart
    (subst (λ (ds : List RelaxDelta). IsFilled (deletions_of ds) 0 s before) (sym same) filled))
packed_over link listed deltas s calls before after (Err e) same can room apart filled rejected packed =
    absurd (not_rejected link (deletions_of listed) s (get_or calls e.index (0, 0)) e.error (can e.index (0, 0) rejected.within) (rejected.here (0, 0)))

-- ---- sites

pub apart_more : (js : List (ℕ × ℕ)) (k : ℕ) (a b : ℕ × ℕ) → 1 ≤ k → k < length js → AreApartTo js k → get_or js (k - 1) (0, 0) ≡ a → get_or js k (0, 0) ≡ b → a.0 + 4 ≤ b.0 → AreApartTo js (k + 1)
apart_more js k a b some within before is_a is_b gap i j d low high =
    elim (cases_lt j k) [
      | inl below ↦ before i j d low below
      | inr at ↦
          let same : j ≡ k = omega arith in
          let second : (get_or js k d).0 ≡ b.0 = ap (λ (c : ℕ × ℕ). c.0) (get_or_default js k d (0, 0) within ∙ is_b) in
          let first : (get_or js (k - 1) d).0 ≡ a.0 = ap (λ (c : ℕ × ℕ). c.0) (get_or_default js (k - 1) d (0, 0) (omega arith) ∙ is_a) in
          rw same (elim (cases_lt i (k - 1)) [
            | inl far ↦ omega (arith, before i (k - 1) d far (omega arith))
            | inr near ↦ let next : i ≡ k - 1 = omega arith in rw next (omega (arith, first, second, gap))
          ])
    ]

pub apart_taken : (js : List (ℕ × ℕ)) (k : ℕ) → AreApartTo js k → AreApart (take k js)
apart_taken js k before i j d low high =
    let short : j < k = omega (arith, length-take k js) in
    rw (get_or-take k js i d (omega arith)) (rw (get_or-take k js j d short) (before i j d low short))

pub not_apart : (js : List (ℕ × ℕ)) (k : ℕ) (a b : ℕ × ℕ) → 1 ≤ k → k < length js → get_or js (k - 1) (0, 0) ≡ a → get_or js k (0, 0) ≡ b → b.0 - a.0 < 4 → AreApart (take (k + 1) js) → ⊥
not_apart js k a b some within is_a is_b gap apart =
    let pair = apart (k - 1) k (0, 0) (omega arith) (omega (arith, length-take (k + 1) js)) in
    let first : (get_or (take (k + 1) js) (k - 1) (0, 0)).0 ≡ a.0 = ap (λ (c : ℕ × ℕ). c.0) (get_or-take (k + 1) js (k - 1) (0, 0) (omega arith) ∙ is_a) in
    let second : (get_or (take (k + 1) js) k (0, 0)).0 ≡ b.0 = ap (λ (c : ℕ × ℕ). c.0) (get_or-take (k + 1) js k (0, 0) (omega arith) ∙ is_b) in
    omega (arith, pair, first, second)

pub apart_take : (js : List (ℕ × ℕ)) (k : ℕ) → AreApart js → AreApart (take k js)
apart_take js k apart i j d low high =
    let short : j < k = omega (arith, length-take k js) in
    rw (get_or-take k js i d (omega arith)) (rw (get_or-take k js j d short) (apart i j d low (omega (arith, length-take k js))))
