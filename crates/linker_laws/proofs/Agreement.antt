-- States that agree, after a register is written, and at other addresses.
use Rattle.linker_laws.proofs.Imports.{Agree, AreOf, AreRuns, AreStored, Bool, ChangesOpen, Covered, Group, IsSomeAnd, Kind, Kinds, Link, None, Other, OthersAgree, Program, Some, State, anything, ap, arith, eqb-true, false, go_to, if◌then◌else◌, inl, inr, loaded, nat_lt, nat_tests, of_link, put, refl, run, same, subst, suc, sym, true, with_register, ℕ, ◌&&◌, ◌+◌, ◌-◌, ◌<◌, ◌==◌, ◌^◌, ◌∙◌, ◌≡◌, ◌⊎◌}
use Rattle.linker_laws.proofs.CoveredRuns.{holds_of, once, run_first}

pick : (l : Link) (b : Bool) (k k' : Kind) (x x' y y' : ℕ) → AreOf l 8 k x y → AreOf l 8 k' x' y'
    → AreOf l 8 (if b then k else k') (if b then x else x') (if b then y else y')
pick l true k k' x x' y y' here there = here
pick l false k k' x x' y y' here there = there

-- the same where new has another number, of the same register
pick_old : (l : Link) (b : Bool) (k k' : Kind) (x x' y : ℕ) → (b ≡ true → AreOf l 8 k x y)
    → AreOf l 8 k' x' y → AreOf l 8 (if b then k else k') (if b then x else x') y
pick_old l true k k' x x' y here there = here refl
pick_old l false k k' x x' y here there = there

-- registers, of which those from 32 up have numbers of their own
pub both_parts : (f : ℕ → ℕ) (r : ℕ) → (if nat_lt r 32 then f r else f (32 + (r - 32))) ≡ f r
both_parts f r = grind (arith, nat_tests)

-- the same where one below 32 is written
pub one_written : (f : ℕ → ℕ) (n v r : ℕ) → n < 32
    → (if nat_lt r 32 then (if r == n then v else f r) else f (32 + (r - 32))) ≡ (if r == n then v else f r)
one_written f n v r small = grind (arith, nat_tests)

-- what was written last counts
pub last_counts : (n u v a b : ℕ) (s : State) → put n v b (put n u a s) ≡ put n v b s
last_counts n u v a b s = λ i. record s { pc = b; registers = λ m. by (m == n) (s.registers m) i }
  where
    by : (c : Bool) (r : ℕ) → (if c then v else (if c then u else r)) ≡ (if c then v else r)
    by true r = refl
    by false r = refl

pub both_true : (a b : Bool) → a ≡ true → b ≡ true → (a && b) ≡ true
both_true true b e f = f
both_true false b e f = e

pub agree_go : (l : Link) (k : Kinds) (s t : State) (next next' : ℕ) → Agree l k s t
    → next < 2 ^ 64 → next' ≡ l.moved next → Agree l k (go_to next s) (go_to next' t)
agree_go l k s t next next' agree small at =
    record {
      small = small;
      pc = at;
      registers = agree.registers;
      memory = agree.memory;
      outside = agree.outside;
    }

pub agree_put : (l : Link) (k : Kinds) (s t : State) (r : ℕ) (kind : Kind) (x y next next' : ℕ)
    → Agree l k s t → next < 2 ^ 64 → next' ≡ l.moved next → AreOf l 8 kind x y
    → Agree l (with_register r kind k) (put r x next s) (put r y next' t)
agree_put l k s t r kind x y next next' agree small at are =
    record {
      small = small;
      pc = at;
      registers =
          λ m. pick l (m == r) kind (k.registers m) x (s.registers m) y (t.registers m) are
          (agree.registers m);
      memory = agree.memory;
      outside = agree.outside;
    }

-- old alone writes a register
pub agree_put_old : (l : Link) (k : Kinds) (s t : State) (r : ℕ) (kind : Kind) (x next : ℕ)
    → Agree l k s t → next < 2 ^ 64 → t.pc ≡ l.moved next
    → AreOf l 8 kind x (t.registers r) → Agree l (with_register r kind k) (put r x next s) t
agree_put_old l k s t r kind x next agree small at are =
    record {
      small = small;
      pc = at;
      registers =
          λ m. pick_old l (m == r) kind (k.registers m) x (s.registers m) (t.registers m)
          (λ e. subst (λ m. AreOf l 8 kind x (t.registers m)) (sym (eqb-true m r e)) are)
          (agree.registers m);
      memory = agree.memory;
      outside = agree.outside;
    }

-- old alone changes what may be anything then
pub agree_open : (l : Link) (k k' : Kinds) (s s' t : State) → Agree l k s t
    → ChangesOpen k s k' s' → Agree l k' s' t
agree_open l k k' s s' t agree changes =
    record {
      small = subst (λ p. p < 2 ^ 64) (sym changes.pc) agree.small;
      pc = agree.pc ∙ ap l.moved (sym changes.pc);
      registers = λ r. register r (changes.registers r);
      memory = λ a below.
          elim (changes.memory a below) [
            | inl free ↦ subst (λ kind. AreOf l (k'.memory a).bytes kind
                (loaded (k'.memory a).bytes s'.memory (a - (k'.memory a).below))
                (loaded (k'.memory a).bytes t.memory (l.moved (a - (k'.memory a).below)))) (sym free) tt
            | inr kept ↦ subst (λ stored. AreStored l stored s'.memory t.memory a) (sym kept.0)
                (subst (λ x. AreOf l (k.memory a).bytes (k.memory a).kind x
                (loaded (k.memory a).bytes t.memory (l.moved (a - (k.memory a).below)))) (sym kept.1)
                (agree.memory a below))
          ];
      outside = changes.outside ∙ agree.outside;
    }
  where
    register : (r : ℕ)
        → (k'.registers r ≡ anything)
        ⊎ ((k'.registers r ≡ k.registers r) × (s'.registers r ≡ s.registers r))
        → AreOf l 8 (k'.registers r) (s'.registers r) (t.registers r)
    register r (inl free) =
        subst (λ kind. AreOf l 8 kind (s'.registers r) (t.registers r)) (sym free) tt
    register r (inr kept) =
        subst (λ kind. AreOf l 8 kind (s'.registers r) (t.registers r)) (sym kept.0)
        (subst (λ x. AreOf l 8 (k.registers r) x (t.registers r)) (sym kept.1) (agree.registers r))

pub unchanged : (k : Kinds) (s : State) → ChangesOpen k s k s
unchanged k s =
    record {
      pc = refl;
      registers = λ r. inr (refl, refl);
      memory = λ a below. inr (refl, refl);
      outside = refl;
    }

-- a group for which new executes some instructions
pub group_of : (l : Link) (n more : ℕ) {k k' : Kinds} {s s' : State}
    → run (suc more) (l.machine l.old) s ≡ Some s'
    → ((t : State) → Agree l k s t → IsSomeAnd (run (suc n) (l.machine l.new) t) (Agree l k' s'))
    → Group (of_link l) (suc n) k s k' s'
group_of l n more goes new =
    record { more = more; old_goes = goes; new_goes = new; forward = λ none. absurd (omega (arith, none)) }

-- Instructions of new leave a number in a register, and so do those of old, which may change what
-- may be anything then.
pub value_group : (l : Link) (n more : ℕ) (k k' : Kinds) (s s' : State) (r v next : ℕ)
    → next < 2 ^ 64 → run (suc more) (l.machine l.old) s ≡ Some s'
    → ChangesOpen (with_register r same k) (put r v next s) k' s'
    → ((t : State) → Agree l k s t
    → run (suc n) (l.machine l.new) t ≡ Some (put r v (l.moved next) t))
    → Group (of_link l) (suc n) k s k' s'
value_group l n more k k' s s' r v next small goes changes new_goes =
    record {
      more = more;
      old_goes = goes;
      new_goes = λ t agree.
          holds_of (run (suc n) (l.machine l.new) t) (Agree l k' s') (put r v (l.moved next) t)
          (new_goes t agree)
          (agree_open l (with_register r same k) k' (put r v next s) s' (put r v (l.moved next) t)
          (agree_put l k s t r same v v next (l.moved next) agree small refl refl) changes);
      forward = λ none. omega arith;
    }

-- another instruction, by what new's does where old's state is moved
pub another : (l : Link) {k k' : Kinds} {s s' : State} → l.machine l.old s ≡ Some s'
    → ((t : State) → Agree l k s t
    → IsSomeAnd (l.machine l.new (go_to (l.moved s.pc) t)) (Agree l k' s'))
    → Other (of_link l) k s k' s'
another l {k} {k'} {s} {s'} goes new =
    record {
      old_goes = goes;
      new_goes = λ t agree. subst (λ p. IsSomeAnd (l.machine l.new (go_to p t)) (Agree l k' s')) (sym agree.pc) (new t agree);
    }

-- the same of a group of one instruction
pub one : (l : Link) {k k' : Kinds} {s s' : State} → Other (of_link l) k s k' s'
    → Group (of_link l) 1 k s k' s'
one l {k} {k'} {s} {s'} o =
    record {
      more = 0;
      old_goes = run_first 0 (l.machine l.old) s s' (Some s') o.old_goes refl;
      new_goes = λ t agree. once (l.machine l.new) t (Agree l k' s') (o.new_goes t agree);
      forward = λ none. absurd (omega (arith, none));
    }

-- a group by the same, for which old executes some instructions
pub several : (l : Link) (n more : ℕ) {k k' : Kinds} {s s' : State} → run (suc more) (l.machine l.old) s ≡ Some s'
    → ((t : State) → Agree l k s t
    → IsSomeAnd (run (suc n) (l.machine l.new) (go_to (l.moved s.pc) t)) (Agree l k' s'))
    → Group (of_link l) (suc n) k s k' s'
several l n more {k} {k'} {s} {s'} goes new =
    group_of l n more goes (λ t agree.
    subst (λ p. IsSomeAnd (run (suc n) (l.machine l.new) (go_to p t)) (Agree l k' s')) (sym agree.pc) (new t agree))

-- a worked program's runs, by the covered one
pub runs : (l : Link) {first kinds : Kinds} {s t state : State} {q m n : ℕ} {OldEnds NewEnds : State → Type 0}
    → Agree l first s t → Covered (of_link l) q n first s kinds state
    → l.machine l.old state ≡ None → ((t : State) → l.machine l.new (go_to (l.moved state.pc) t) ≡ None)
    → IsSomeAnd (run m (l.machine l.old) s) OldEnds → IsSomeAnd (run n (l.machine l.new) t) NewEnds
    → AreRuns l first s t q m n OldEnds NewEnds
runs l {first} {kinds} {s} {t} {state} agree covered old_stops new_stops old_ends new_ends =
    record {
      kinds = kinds;
      state = state;
      agree = agree;
      covered = covered;
      stops = record {
        old_stops = old_stops;
        new_stops = λ t agree. subst (λ p. l.machine l.new (go_to p t) ≡ None) (sym agree.pc) (new_stops t);
      };
      old_ends = old_ends;
      new_ends = new_ends;
    }

pub others_agree : (does : (ℕ → ℕ) → ℕ → Program) (l : Link)
    → ((code : ℕ → ℕ) (s : State) → l.machine code s ≡ does code s.pc s) → OthersAgree does l
others_agree does l is k k' s s' alike goes keeps =
    record {
      old_goes = is l.old s ∙ goes;
      new_goes = λ t agree.
          subst (λ o. IsSomeAnd o (Agree l k' s'))
          (ap (λ p. p t) alike ∙ ap (λ a. does l.new a t) (sym agree.pc) ∙ sym (is l.new t)) (keeps t agree);
    }
