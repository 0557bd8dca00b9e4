-- Covered runs are followed, and comparisons compose.
use Rattle.linker_laws.proofs.Imports.{Comparison, Compose, Covered, CoversRuns, Following, Follows, GoesOnToo, IsCovered, IsSome, IsSomeAnd, Next, None, Option, Program, Simulates, Some, State, Stops, StopsToo, add-one, add_assoc, ap, arith, both, by_group, by_other, ends, false, group, inl, inr, is_some, le_refl, option_and_then, other, pred, refl, run, stopping, subst, subst₂, suc, suc-add, suc-le-suc, sym, true, true≢false, uncovered, unwrap_or, zero, zero-add, ℕ, ◌*◌, ◌+◌, ◌-◌, ◌<◌, ◌^◌, ◌∙◌, ◌≡◌, ◌≤◌, ◌⊎◌}
use Rattle.linker_laws.specs.Simulation.{IsRun}

-- ---- what an option holds

pub record Held {T : Type 0} (o : Option T) (P : T → Type 0) : Type 0 where
  pub value : T
  pub is : o ≡ Some value
  pub holds : P value

pub held : {T : Type 0} (o : Option T) (P : T → Type 0) → IsSomeAnd o P → Held o P
held None P h = absurd h
held (Some x) P h = record { value = x; is = refl; holds = h }

pub holds_of : {T : Type 0} (o : Option T) (P : T → Type 0) (x : T) → o ≡ Some x → P x
    → IsSomeAnd o P
holds_of o P x e h = subst (λ o. IsSomeAnd o P) (sym e) h

none_some : {s : State} → None ≡ Some s → ⊥
none_some e = true≢false (sym (ap is_some e))

nothing : false ≡ true → ⊥
nothing e = true≢false (sym e)

-- ---- runs

-- an instruction, and n after it
pub run_first : (n : ℕ) (p : Program) (s t : State) (r : Option State) → p s ≡ Some t
    → run n p t ≡ r → run (suc n) p s ≡ r
run_first n p s t r first rest = ap (option_and_then (run n p)) first ∙ rest

pub same_value : (s t : State) → Some s ≡ Some t → s ≡ t
same_value s t e = ap (λ o. unwrap_or o s) e

pub run_on : (m n : ℕ) (p : Program) (s t : State) (r : Option State) → run m p s ≡ Some t
    → run n p t ≡ r → run (m + n) p s ≡ r
run_on zero n p s t r first rest =
    subst (λ k. run k p s ≡ r) (sym (zero-add n))
    (subst (λ u. run n p u ≡ r) (sym (same_value s t first)) rest)
run_on (suc m) n p s t r first rest =
    subst (λ k. run k p s ≡ r) (sym (suc-add m n))
    (go (p s) refl (λ u first. run_on m n p u t r first rest))
  where
    go : (o : Option State) → p s ≡ o
        → ((u : State) → run m p u ≡ Some t → run (m + n) p u ≡ r) → run (suc (m + n)) p s ≡ r
    go None e later = absurd (none_some (sym (ap (option_and_then (run m p)) e) ∙ first))
    go (Some u) e later =
        run_first (m + n) p s u r e
        (later u (sym (ap (option_and_then (run m p)) e) ∙ first))

-- a run of fewer instructions
pub runs_before : (m n : ℕ) (p : Program) (s : State) → IsSome (run (m + n) p s) → IsSome (run m p s)
runs_before zero n p s is = refl
runs_before (suc m) n p s is = go (p s) refl (runs_before m n p)
  where
    go : (o : Option State) → p s ≡ o
        → ((u : State) → IsSome (run (m + n) p u) → IsSome (run m p u)) → IsSome (run (suc m) p s)
    go None e before =
        absurd (nothing (sym (ap is_some (ap (option_and_then (run (m + n) p)) e))
        ∙ subst (λ k. IsSome (run k p s)) (suc-add m n) is))
    go (Some u) e before =
        subst IsSome (sym (ap (option_and_then (run m p)) e))
        (before u (subst IsSome (ap (option_and_then (run (m + n) p)) e)
        (subst (λ k. IsSome (run k p s)) (suc-add m n) is)))

-- one instruction
pub once : (p : Program) (t : State) (P : State → Type 0) → IsSomeAnd (p t) P → IsSomeAnd (run 1 p t) P
once p t P holds =
    let h = held (p t) P holds in
    holds_of (run 1 p t) P h.value (run_first 0 p t h.value (Some h.value) h.is refl) h.holds

-- ---- what covered runs do

is_run : (c : Comparison) → IsRun c
is_run c q n k k' s s' (ends k1 s1) = (0, le_refl 0, refl)
is_run c q n k k' s s' (other q1 n1 k1 k2 k3 s1 s2 s3 step rest) =
    let r = is_run c q1 n1 k2 k3 s2 s3 rest in
    (suc r.0, suc-le-suc r.1, run_first r.0 c.old s1 s2 (Some s3) step.old_goes r.2)
is_run c q n k k' s s' (group q1 m1 n1 k1 k2 k3 s1 s2 s3 step rest) =
    let r = is_run c q1 n1 k2 k3 s2 s3 rest in
    let more = step.more in
    let m = r.0 in
    let least = r.1 in
    (suc more + m, omega arith, run_on (suc more) m c.old s1 s2 (Some s3) step.old_goes r.2)

follows : (c : Comparison) → Follows c
follows c q n k k' s s' t (ends k1 s1) agree = agree
follows c q n k k' s s' t (other q1 n1 k1 k2 k3 s1 s2 s3 step rest) agree =
    let h = held (c.new t) (c.Agrees k2 s2) (step.new_goes t agree) in
    let r = held (run n1 c.new h.value) (c.Agrees k3 s3)
    (follows c q1 n1 k2 k3 s2 s3 h.value rest h.holds) in
    holds_of (run (suc n1) c.new t) (c.Agrees k3 s3) r.value
    (run_first n1 c.new t h.value (Some r.value) h.is r.is) r.holds
follows c q n k k' s s' t (group q1 m1 n1 k1 k2 k3 s1 s2 s3 step rest) agree =
    let h = held (run m1 c.new t) (c.Agrees k2 s2) (step.new_goes t agree) in
    let r = held (run n1 c.new h.value) (c.Agrees k3 s3)
    (follows c q1 n1 k2 k3 s2 s3 h.value rest h.holds) in
    holds_of (run (m1 + n1) c.new t) (c.Agrees k3 s3) r.value
    (run_on m1 n1 c.new t h.value (Some r.value) h.is r.is) r.holds

stops_too : (c : Comparison) → StopsToo c
stops_too c q n k k' s s' t path stops agree =
    let r = held (run n c.new t) (c.Agrees k' s') (follows c q n k k' s s' t path agree) in
    subst (λ m. run m c.new t ≡ None) (add-one n)
    (run_on n 1 c.new t r.value None r.is
    (ap (option_and_then (run 0 c.new)) (stops.new_stops r.value r.holds)))

-- ---- any run

append : (c : Comparison) (q n p m : ℕ) (k k' k'' : c.Known) (s s' s'' : State)
    → Covered c q n k s k' s' → Covered c p m k' s' k'' s'' → Covered c (q + p) (n + m) k s k'' s''
append c q n p m k k' k'' s s' s'' (ends k1 s1) more =
    subst₂ (λ q n. Covered c q n k1 s1 k'' s'') (sym (zero-add p)) (sym (zero-add m)) more
append c q n p m k k' k'' s s' s'' (other q1 n1 k1 k2 k3 s1 s2 s3 step rest) more =
    subst₂ (λ q n. Covered c q n k1 s1 k'' s'') (sym (suc-add q1 p)) (sym (suc-add n1 m))
    (other (q1 + p) (n1 + m) k1 k2 k'' s1 s2 s'' step
    (append c q1 n1 p m k2 k3 k'' s2 s3 s'' rest more))
append c q n p m k k' k'' s s' s'' (group q1 m1 n1 k1 k2 k3 s1 s2 s3 step rest) more =
    subst₂ (λ q n. Covered c q n k1 s1 k'' s'') (sym (suc-add q1 p)) (sym (add_assoc m1 n1 m))
    (group (q1 + p) m1 (n1 + m) k1 k2 k'' s1 s2 s'' step
    (append c q1 n1 p m k2 k3 k'' s2 s3 s'' rest more))

-- a covered run, by what stands where it ends
extended : (c : Comparison) (k k' : c.Known) (s s' : State) (next : Following c k s) (m q n : ℕ)
    (covered : Covered c q n k s k' s') → m ≤ q → (stands : Next c k' s')
    → next q n k' s' covered ≡ stands → IsCovered c k s next (suc m)
extended c k k1 s s1 next m q n covered least (by_other k2 s2 step) e =
    record {
      q = q + 1;
      n = n + 1;
      known = k2;
      state = s2;
      covered =
          append c q n 1 1 k k1 k2 s s1 s2 covered
          (other 0 0 k1 k2 k2 s1 s2 s2 step (ends k2 s2));
      far = inl (omega arith);
    }
extended c k k1 s s1 next m q n covered least (by_group l k2 s2 step) e =
    record {
      q = q + 1;
      n = n + (l + 0);
      known = k2;
      state = s2;
      covered =
          append c q n 1 (l + 0) k k1 k2 s s1 s2 covered
          (group 0 l 0 k1 k2 k2 s1 s2 s2 step (ends k2 s2));
      far = inl (omega arith);
    }
extended c k k1 s s1 next m q n covered least (stopping stops) e =
    record { q = q; n = n; known = k1; state = s1; covered = covered; far = inr (inl stops) }
extended c k k1 s s1 next m q n covered least uncovered e =
    record { q = q; n = n; known = k1; state = s1; covered = covered; far = inr (inr e) }

covers_runs : (c : Comparison) → CoversRuns c
covers_runs c k s next zero =
    record { q = 0; n = 0; known = k; state = s; covered = ends k s; far = inl (le_refl 0) }
covers_runs c k s next (suc m) = go (covers_runs c k s next m)
  where
    by : (i : IsCovered c k s next m)
        → (m ≤ i.q) ⊎ (Stops c i.known i.state
        ⊎ (next i.q i.n i.known i.state i.covered ≡ uncovered))
        → IsCovered c k s next (suc m)
    by i (inl least) =
        extended c k i.known s i.state next m i.q i.n i.covered least
        (next i.q i.n i.known i.state i.covered) refl
    by i (inr rest) =
        record {
          q = i.q;
          n = i.n;
          known = i.known;
          state = i.state;
          covered = i.covered;
          far = inr rest;
        }

    go : IsCovered c k s next m → IsCovered c k s next (suc m)
    go i = by i i.far

-- ---- runs without an end

-- others and groups of a covered run, counted by new's instructions and by how far old went
goes_far : (c : Comparison) (q n : ℕ) (k k' : c.Known) (s s' t : State)
    → Covered c q n k s k' s' → c.Agrees k s t → q + s.pc ≤ 2 ^ 64 * n + s'.pc
goes_far c q n k k' s s' t (ends k1 s1) agree = omega arith
goes_far c q n k k' s s' t (other q1 n1 k1 k2 k3 s1 s2 s3 step rest) agree =
    let h = held (c.new t) (c.Agrees k2 s2) (step.new_goes t agree) in
    let far = goes_far c q1 n1 k2 k3 s2 s3 h.value rest h.holds in
    let small = c.small k1 s1 t agree in
    let a = s1.pc in
    let b = s2.pc in
    let d = s3.pc in
    omega arith
goes_far c q n k k' s s' t (group q1 m1 n1 k1 k2 k3 s1 s2 s3 step rest) agree =
    let h = held (run m1 c.new t) (c.Agrees k2 s2) (step.new_goes t agree) in
    let far = goes_far c q1 n1 k2 k3 s2 s3 h.value rest h.holds in
    let small = c.small k1 s1 t agree in
    with_group m1 q1 n1 s1.pc s2.pc s3.pc small far step.forward
  where
    with_group : (m q n a b d : ℕ) → a < 2 ^ 64 → q + b ≤ 2 ^ 64 * n + d → (m ≡ 0 → a < b)
        → suc q + a ≤ 2 ^ 64 * (m + n) + d
    with_group zero q n a b d small far forward =
        let ahead = forward refl in
        omega arith
    with_group (suc m) q n a b d small far forward = omega arith

goes_on : (c : Comparison) → GoesOnToo c
goes_on c k s t agree endless n =
    let e = endless (2 ^ 64 * (n + 1)) in
    let path = e.3 in
    let r = held (run e.0 c.new t) (c.Agrees e.1 e.2)
    (follows c (2 ^ 64 * (n + 1)) e.0 k e.1 s e.2 t path agree) in
    let far = goes_far c (2 ^ 64 * (n + 1)) e.0 k e.1 s e.2 t path agree in
    let small = c.small e.1 e.2 r.value r.holds in
    let more = reaches n e.0 s.pc (e.2).pc far small in
    runs_before n more.0 c.new t
    (subst (λ m. IsSome (run m c.new t)) more.1 (ap is_some r.is))
  where
    reaches : (n m a d : ℕ) → 2 ^ 64 * (n + 1) + a ≤ 2 ^ 64 * m + d → d < 2 ^ 64
        → (l : ℕ) × (m ≡ n + l)
    reaches n m a d far small = (m - n, omega arith)

pub simulates : (c : Comparison) → Simulates c
simulates c =
    record {
      covers = covers_runs c;
      is_run = is_run c;
      follows = follows c;
      stops = stops_too c;
      goes_on = goes_on c;
    }

-- ---- composition

runs_alike : (p r : Program) → ((s : State) → p s ≡ r s) → (m : ℕ) (u : State) → run m p u ≡ run m r u
runs_alike p r same zero u = refl
runs_alike p r same (suc m) u = go (p u) refl (runs_alike p r same m)
  where
    go : (o : Option State) → p u ≡ o → ((v : State) → run m p v ≡ run m r v)
        → run (suc m) p u ≡ run (suc m) r u
    go None e later =
        ap (option_and_then (run m p)) e
        ∙ sym (ap (option_and_then (run m r)) (sym (same u) ∙ e))
    go (Some v) e later =
        ap (option_and_then (run m p)) e ∙ later v
        ∙ sym (ap (option_and_then (run m r)) (sym (same u) ∙ e))

pub composes : (c d : Comparison) → Compose c d
composes c d same n k k' h h' s s' are =
    let old = is_run c (suc are.q) are.m k k' s s' are.first in
    record {
      more = pred old.0;
      old_goes = subst (λ m. run m c.old s ≡ Some s') (one_more old.0 are.q old.1) old.2;
      new_goes =
          λ t agree.
          let u = held (run are.m c.new agree.0) (c.Agrees k' s')
          (follows c (suc are.q) are.m k k' s s' agree.0 are.first agree.1) in
          let covered = are.second agree.0 u.value agree.1
          (sym (runs_alike c.new d.old same are.m agree.0) ∙ u.is) u.holds in
          let v = held (run n d.new t) (d.Agrees h' u.value)
          (follows d are.p n h h' agree.0 u.value t covered agree.2) in
          holds_of (run n d.new t) ((both c d).Agrees (k', h') s') v.value v.is
          (u.value, u.holds, v.holds);
      forward = are.forward;
    }
  where
    one_more : (m q : ℕ) → suc q ≤ m → m ≡ suc (pred m)
    one_more zero q least = omega arith
    one_more (suc m) q least = refl
