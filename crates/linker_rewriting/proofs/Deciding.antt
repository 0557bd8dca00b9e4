-- Decisions, relocation by relocation.
use Rattle.linker_rewriting.proofs.Imports.{Architecture, AreAllDecided, AreApart, AreApartBy, AreClear, AreDecidedBy, Bool, Bound, CanBeMade, CanRewrite, Consumed, Decision, DeletedBytes, IfSome, IsEndAfter, IsMadeBy, IsOverlapping, IsSome, IsThere, IsWithin, Kept, List, Matches, None, Option, Rela, Rewrite, Rewritten, RewrittenWithSymbol, Some, ap, arith, below_more, bound_at, by_index, decision_at, deleted_end, deletes_within, end_at, end_by, false, get_or-set_other, get_or-set_same, inl, inr, is_taken, leb-true, length, max, refl, relaxation_deleted, relaxation_rewrite, relocation_in, slice_set, start_at, start_by, subst, suc, sym, takes_next, true, window_of_rewrite, zero, ℕ, ◌+◌, ◌-◌, ◌/◌, ◌<◌, ◌∙◌, ◌≡◌, ◌≤◌, ◌⊎◌}

-- one of the windows ends there
abbrev pub IsReached : Bound → Bound → List ℕ → List Decision → ℕ → ℕ → Type 0
IsReached S E bytes decisions end k =
    (end ≡ 0)
    ⊎ ((n : ℕ) × (n < k) × (IsSome S E bytes n (decision_at decisions n))
    × (bound_at E bytes n (decision_at decisions n) ≡ end))

-- windows so far end at or below the limit, which one of them reaches
pub record EndsAt (S E : Bound) (bytes : List ℕ) (decisions : List Decision) (end k : ℕ) : Type 0 where
  pub below : (n : ℕ) → n < k → IsSome S E bytes n (decision_at decisions n)
      → bound_at E bytes n (decision_at decisions n) ≤ end
  pub reached : IsReached S E bytes decisions end k

pub record AreDecidedTo (Each : ℕ → Bool → Decision → Type 0) (IsNoted : ℕ → Decision → Type 0)
    (S E : Bound) (bytes : List ℕ) (decisions : List Decision) (end : ℕ) (taken : Bool)
    (limit k : ℕ) : Type 0 where
  pub decided : AreDecidedBy Each decisions k
  pub apart : AreApartBy S E bytes decisions k
  pub taken_is : taken ≡ is_taken decisions k
  pub ends : EndsAt S E bytes decisions end k
  pub noted : (n : ℕ) → k ≤ n → n < limit → IsNoted n (decision_at decisions n)

-- the decisions below an index are the same
abbrev pub AreSame : List Decision → List Decision → ℕ → Type 0
AreSame old new k = (n : ℕ) → n < k → decision_at new n ≡ decision_at old n

same_taken : (old new : List Decision) (k n : ℕ) → AreSame old new k → n ≤ k
    → is_taken new n ≡ is_taken old n
same_taken old new k zero same le = refl
same_taken old new k (suc n) same le = ap takes_next (same n (omega arith))

taken_next : (decisions : List Decision) (k : ℕ)
    → is_taken decisions (k + 1) ≡ takes_next (decision_at decisions k)
taken_next decisions k =
    let e : suc k ≡ k + 1 = omega arith in
    subst (λ n. is_taken decisions n ≡ takes_next (decision_at decisions k)) e refl

-- the end of one more window, as `end_after` gives it
abbrev pub IsGrown : Bound → Bound → List ℕ → ℕ → Decision → ℕ → ℕ → Type 0
IsGrown S E bytes k d end new =
    IsEndAfter (bound_at S bytes k d) (bound_at E bytes k d) end (Some new)

grown_le : (S E : Bound) (bytes : List ℕ) (k : ℕ) (d : Decision) (end new : ℕ)
    → IsGrown S E bytes k d end new → end ≤ new
grown_le S E bytes k d end new (inl stays) = let e = stays.1 in omega arith
grown_le S E bytes k d end new (inr grows) =
    let a = grows.1 in let b = grows.2 in omega arith

grown_start : (S E : Bound) (bytes : List ℕ) (k : ℕ) (d : Decision) (end new : ℕ)
    → IsGrown S E bytes k d end new → IsSome S E bytes k d → end ≤ bound_at S bytes k d
grown_start S E bytes k d end new (inl stays) some = let e = stays.0 in absurd (omega arith)
grown_start S E bytes k d end new (inr grows) some = grows.1

grown_end : (S E : Bound) (bytes : List ℕ) (k : ℕ) (d : Decision) (end new : ℕ)
    → IsGrown S E bytes k d end new → IsSome S E bytes k d → bound_at E bytes k d ≤ new
grown_end S E bytes k d end new (inl stays) some = let e = stays.0 in absurd (omega arith)
grown_end S E bytes k d end new (inr grows) some = let e = grows.2 in omega arith

reached_on : (S E : Bound) (bytes : List ℕ) (old new : List Decision) (k end : ℕ)
    → AreSame old new k → IsReached S E bytes old end k → IsReached S E bytes new end (k + 1)
reached_on S E bytes old new k end same (inl none) = inl none
reached_on S E bytes old new k end same (inr one) =
    inr (
      one.0,
      omega (arith, one.1),
      subst (λ x. IsSome S E bytes (one.0) x) (sym (same (one.0) (one.1))) (one.2),
      ap (bound_at E bytes (one.0)) (same (one.0) (one.1)) ∙ one.3,
    )

reached_more : (S E : Bound) (bytes : List ℕ) (old new : List Decision) (k end grown : ℕ) (d : Decision)
    → AreSame old new k → decision_at new k ≡ d → IsReached S E bytes old end k
    → IsGrown S E bytes k d end grown → IsReached S E bytes new grown (k + 1)
reached_more S E bytes old new k end grown d same here reached (inl stays) =
    subst (λ e. IsReached S E bytes new e (k + 1)) (sym (stays.1))
    (reached_on S E bytes old new k end same reached)
reached_more S E bytes old new k end grown d same here reached (inr grows) =
    inr (
      k,
      omega arith,
      subst (λ x. IsSome S E bytes k x) (sym here) (grows.0),
      ap (bound_at E bytes k) here ∙ sym (grows.2),
    )

pub ends_more : (S E : Bound) (bytes : List ℕ) (old new : List Decision) (k end grown : ℕ) (d : Decision)
    → AreSame old new k → decision_at new k ≡ d → EndsAt S E bytes old end k
    → IsGrown S E bytes k d end grown → EndsAt S E bytes new grown (k + 1)
ends_more S E bytes old new k end grown d same here ends grow =
    record {
      below = below_more (λ n. IsSome S E bytes n (decision_at new n) → bound_at E bytes n (decision_at new n) ≤ grown) k
          (λ n less. subst (λ x. IsSome S E bytes n x → bound_at E bytes n x ≤ grown) (sym (same n less))
          (λ some. let a = ends.below n less some in let b = grown_le S E bytes k d end grown grow in omega arith))
          (subst (λ x. IsSome S E bytes k x → bound_at E bytes k x ≤ grown) (sym here)
          (grown_end S E bytes k d end grown grow));
      reached = reached_more S E bytes old new k end grown d same here ends.reached grow;
    }

pub apart_more : (S E : Bound) (bytes : List ℕ) (old new : List Decision) (k end grown : ℕ) (d : Decision)
    → AreSame old new k → decision_at new k ≡ d → EndsAt S E bytes old end k
    → AreApartBy S E bytes old k
    → IsGrown S E bytes k d end grown → AreApartBy S E bytes new (k + 1)
apart_more S E bytes old new k end grown d same here ends apart grow i j ij less =
    below_more (λ m. (n : ℕ) → n < m → IsSome S E bytes n (decision_at new n) → IsSome S E bytes m (decision_at new m) → bound_at E bytes n (decision_at new n) ≤ bound_at S bytes m (decision_at new m)) k
    (λ m mk n nm. subst (λ x. IsSome S E bytes n x → IsSome S E bytes m (decision_at new m) → bound_at E bytes n x ≤ bound_at S bytes m (decision_at new m)) (sym (same n (omega arith)))
    (subst (λ x. IsSome S E bytes n (decision_at old n) → IsSome S E bytes m x → bound_at E bytes n (decision_at old n) ≤ bound_at S bytes m x) (sym (same m mk))
    (apart n m nm mk)))
    (λ n nk. subst (λ x. IsSome S E bytes n x → IsSome S E bytes k (decision_at new k) → bound_at E bytes n x ≤ bound_at S bytes k (decision_at new k)) (sym (same n nk))
    (subst (λ x. IsSome S E bytes n (decision_at old n) → IsSome S E bytes k x → bound_at E bytes n (decision_at old n) ≤ bound_at S bytes k x) (sym here)
    (λ some_n some_k. let a = ends.below n nk some_n in let b = grown_start S E bytes k d end grown grow some_k in omega arith)))
    j less i ij

pub more_decided : (Each : ℕ → Bool → Decision → Type 0) (IsNoted : ℕ → Decision → Type 0)
    (S E : Bound) (bytes : List ℕ) (old : List Decision) (end grown : ℕ) (taken : Bool)
    (limit k : ℕ) (d : Decision) → AreDecidedTo Each IsNoted S E bytes old end taken limit k
    → k < length old → Each k taken d → IsGrown S E bytes k d end grown
    → AreDecidedTo Each IsNoted S E bytes (slice_set old k d) grown (takes_next d) limit (k + 1)
more_decided Each IsNoted S E bytes old end grown taken limit k d before within is grow =
    let new : List Decision = slice_set old k d in
    let same : AreSame old new k =
    λ n less. get_or-set_other old k n d Kept (λ e. absurd (omega (arith, e, less))) in
    let here : decision_at new k ≡ d = get_or-set_same old k d Kept within in
    record {
      decided = below_more (λ n. Each n (is_taken new n) (decision_at new n)) k
          (λ n less. subst (λ t. Each n t (decision_at new n)) (sym (same_taken old new k n same (omega (arith, less))))
          (subst (Each n (is_taken old n)) (sym (same n less)) (before.decided n less)))
          (subst (λ t. Each k t (decision_at new k)) (before.taken_is ∙ sym (same_taken old new k k same (omega arith)))
          (subst (Each k taken) (sym here) is));
      apart = apart_more S E bytes old new k end grown d same here before.ends before.apart grow;
      taken_is = ap takes_next (sym here) ∙ sym (taken_next new k);
      ends = ends_more S E bytes old new k end grown d same here before.ends grow;
      noted = λ n from less. subst (IsNoted n)
          (sym (get_or-set_other old k n d Kept (λ e. absurd (omega (arith, e, from)))))
          (before.noted n (omega (arith, from)) less);
    }

-- one more relocation that no other takes along and that stays
pub more_kept : (Each : ℕ → Bool → Decision → Type 0) (IsNoted : ℕ → Decision → Type 0)
    (S E : Bound) (bytes : List ℕ) (old : List Decision) (end : ℕ) (taken : Bool) (limit k : ℕ)
    → AreDecidedTo Each IsNoted S E bytes old end taken limit k → k < length old → taken ≡ false
    → Each k false Kept → bound_at E bytes k Kept ≤ bound_at S bytes k Kept
    → AreDecidedTo Each IsNoted S E bytes (slice_set old k Kept) end taken limit (k + 1)
more_kept Each IsNoted S E bytes old end taken limit k before within isnt decided none =
    subst (λ t. AreDecidedTo Each IsNoted S E bytes (slice_set old k Kept) end t limit (k + 1)) (sym isnt)
    (more_decided Each IsNoted S E bytes old end end taken limit k Kept before within
    (subst (λ t. Each k t Kept) (sym isnt) decided) (inl (none, refl)))

-- ---- where a span ends

span_within : (rewrite : Option Rewrite) (deleted : Option DeletedBytes) (section : List ℕ) (o limit : ℕ)
    → o ≤ limit → length section ≤ limit → CanRewrite rewrite section o
    → deletes_within section o deleted ≡ true
    → max (o - (window_of_rewrite rewrite).back + (window_of_rewrite rewrite).len) (deleted_end o deleted) ≤ limit
span_within None None section o limit low long can deletes = omega (arith, low)
span_within (Some r) None section o limit low long can deletes =
    let e = can.ends in omega (arith, e, long)
span_within None (Some d) section o limit low long can deletes =
    let e = leb-true (o + (d.start + d.count)) (length section) deletes in omega (arith, low, e, long)
span_within (Some r) (Some d) section o limit low long can deletes =
    let e = leb-true (o + (d.start + d.count)) (length section) deletes in
    let f = can.ends in omega (arith, e, f, long)

pub ends_within : (d : Decision) (section : List ℕ) (o limit : ℕ) → o ≤ limit
    → length section ≤ limit → CanBeMade d section o → end_by d o ≤ limit
ends_within Kept section o limit low long can = omega (arith, low)
ends_within Consumed section o limit low long can = omega (arith, low)
ends_within (Rewritten chosen) section o limit low long can =
    span_within (relaxation_rewrite chosen.kind) (relaxation_deleted chosen.kind) section o limit low long (can.0) (can.1)
ends_within (RewrittenWithSymbol chosen subject) section o limit low long can =
    span_within (relaxation_rewrite chosen.kind) (relaxation_deleted chosen.kind) section o limit low long (can.0) (can.1)

-- ---- one that overlaps

-- one of the windows so far ends above the start
pub overlapping : (Decides : ℕ → Bool → Decision → Type 0) (S E : Bound) (bytes : List ℕ)
    (decisions : List Decision) (end k : ℕ) (taken : Bool) (d : Decision) → Decides k taken d
    → taken ≡ is_taken decisions k
    → IsEndAfter (bound_at S bytes k d) (bound_at E bytes k d) end None
    → IsReached S E bytes decisions end k → IsOverlapping Decides S E bytes decisions k
overlapping Decides S E bytes decisions end k taken d decided same following (inl none) =
    absurd (let e = following.1 in omega (arith, e, none))
overlapping Decides S E bytes decisions end k taken d decided same following (inr one) =
    record {
      decision = d;
      decided = subst (λ t. Decides k t d) same decided;
      writes = following.0;
      before = one.0;
      is_before = one.1;
      is_written = one.2;
      overlap = let e = following.1 in let reach = one.3 in omega (arith, e, reach);
    }

-- ---- what a function decides of a relocation, as a rule

pub by_rule : (Decides : ℕ → Bool → Rela → Decision → Type 0) (S E : Bound) (bytes section : List ℕ)
    (n : ℕ) (taken : Bool) (r : Rela) (result : Option Decision) → r ≡ relocation_in bytes n
    → IfSome result (Decides n taken r) → IfSome result (λ d. IsThere d section r.offset)
    → IfSome result (IsWithin S E r.offset)
    → IfSome result (IsMadeBy (by_index bytes Decides) S E bytes section n taken)
by_rule Decides S E bytes section n taken r None same is there within = tt
by_rule Decides S E bytes section n taken r (Some d) same is there within =
    record {
      decides = subst (λ x. Decides n taken x d) same is;
      made = subst (λ x. CanBeMade d section x.offset) same (there.0);
      matches = subst (λ x. Matches d section x.offset) same (there.1);
      within = subst (λ x. IsWithin S E x.offset d) same within;
    }

-- where the bytes themselves count
pub itself : (o : ℕ) (result : Option Decision) → IfSome result (IsWithin start_by end_by o)
itself o None = tt
itself o (Some d) = λ some. (omega arith, omega arith)

-- where bytes end that can be made
pub ends_in : (section : List ℕ) (o : ℕ) (result : Option Decision)
    → IfSome result (λ d. IsThere d section o)
    → IfSome result (λ d. (limit : ℕ) → o ≤ limit → length section ≤ limit → end_by d o ≤ limit)
ends_in section o None there = tt
ends_in section o (Some d) there = λ limit low long. ends_within d section o limit low long (there.0)

-- ---- all of a section

wider : (a b c d : ℕ) → a ≤ b → b < c → c ≤ d → a < d
wider a b c d first second third = omega (arith, first, second, third)

before_start : (a b c d : ℕ) → a ≤ b → b ≤ c → c ≤ d → a ≤ d
before_start a b c d first second third = omega (arith, first, second, third)

pub bytes_apart : (Decides : ℕ → Bool → Decision → Type 0) (S E : Bound) (bytes section : List ℕ)
    (decisions : List Decision) (limit : ℕ)
    → AreDecidedBy (IsMadeBy Decides S E bytes section) decisions limit
    → AreApartBy S E bytes decisions limit → AreApart bytes decisions limit
bytes_apart Decides S E bytes section decisions limit decided apart i j ij less some_i some_j =
    let a = (decided i (omega (arith, ij, less))).within some_i in
    let b = (decided j less).within some_j in
    before_start (end_at bytes decisions i) (bound_at E bytes i (decision_at decisions i)) (bound_at S bytes j (decision_at decisions j)) (start_at bytes decisions j)
    (a.1)
    (apart i j ij less
    (wider (bound_at S bytes i (decision_at decisions i)) (start_at bytes decisions i) (end_at bytes decisions i) (bound_at E bytes i (decision_at decisions i)) (a.0) some_i (a.1))
    (wider (bound_at S bytes j (decision_at decisions j)) (start_at bytes decisions j) (end_at bytes decisions j) (bound_at E bytes j (decision_at decisions j)) (b.0) some_j (b.1)))
    (b.0)

pub all_decided : (Decides : ℕ → Bool → Decision → Type 0) (S E : Bound) (architecture : Architecture)
    (bytes section : List ℕ) (decisions : List Decision)
    → AreDecidedBy (IsMadeBy Decides S E bytes section) decisions (length bytes / 24)
    → AreApartBy S E bytes decisions (length bytes / 24)
    → AreClear architecture bytes section decisions (length bytes / 24)
    → AreAllDecided Decides S E architecture bytes section decisions
all_decided Decides S E architecture bytes section decisions are apart clear =
    record {
      decided = λ n less. (are n less).decides;
      made = λ n less. (are n less).made;
      matches = λ n less. (are n less).matches;
      apart_by = apart;
      apart = bytes_apart Decides S E bytes section decisions (length bytes / 24) are apart;
      clear = clear;
    }
