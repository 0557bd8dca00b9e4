-- The worked chain.
use Rattle.linker_laws.proofs.Imports.{Agree, AreStored, Bool, Covered, Group, IsChainWorked, IsSomeAnd, Kinds, Other, Some, State, all_same, anything, ap, arith, chain, cond-false, ends, false, go_to, group, half, if◌then◌else◌, lit<, nat_tests, ne_eqb, of_byte, of_chain, of_link, other, packed, put, put_out, refl, run, same, subst, sym, true, with_byte, with_register, ℕ, ◌+◌, ◌-◌, ◌<◌, ◌==◌, ◌∙◌, ◌≡◌, ◌≢◌}
use Rattle.linker_laws.specs.SimulationWorked.{machine, rewritten, with_entry}
use Rattle.linker_laws.proofs.CoveredRuns.{run_first, same_value, composes}
use Rattle.linker_laws.proofs.Agreement.{agree_put, agree_put_old, another, one}
use Rattle.linker_laws.proofs.SimulationWorked.{apart, put_out_agrees}

-- ---- the first link

abbrev s0 : State
s0 = with_entry 7

abbrev s3 : State
s3 = put_out 7 0x13 (put 7 0 0x12 (put 1 7 0x11 s0))

abbrev k0 : Kinds
k0 = with_byte 0xf0 anything all_same

abbrev k2 : Kinds
k2 = with_register 7 (half 0) (with_register 1 same k0)

first : Covered (of_link rewritten) 3 3 k0 s0 k2 s3
first =
    group 2 1 2 _ _ _ _ _ _
    (one rewritten (another rewritten refl (λ t agree.
    agree_put rewritten _ _ t 1 same 7 7 0x11 0x11 agree (lit< tt) refl refl)))
    (group 1 1 1 _ _ _ _ _ _
    (one rewritten (another rewritten refl (λ t agree.
    agree_put rewritten _ _ t 7 (half 0) 0 0x20 0x12 0x12 agree (lit< tt) refl refl)))
    (other 0 0 _ _ _ _ _ _
    (another rewritten refl (λ t agree.
    put_out_agrees rewritten _ _ t 7 (t.registers 1) 0x13 0x13 agree (lit< tt) refl (agree.registers 1)))
    (ends _ _)))

-- ---- the second link, from any state of the code between

abbrev h1 : Kinds
h1 = with_register 1 same all_same

abbrev h2 : Kinds
h2 = with_register 7 (half 0) h1

abbrev u1 : State → State
u1 u = put 1 7 0x11 u

abbrev u3 : State → State
u3 u = put_out 7 0x13 (put 7 0x20 0x12 (u1 u))

o1 : (u : State) → u.pc ≡ 0x10 → Other (of_link packed) all_same u h1 (u1 u)
o1 u is =
    another packed (ap (λ a. machine packed.old (go_to a u)) is) (λ t agree.
    subst (λ a. IsSomeAnd (machine packed.new (go_to (packed.moved a) t)) (Agree packed h1 (u1 u))) (sym is)
    (agree_put packed all_same u t 1 same 7 7 0x11 0x11 agree (lit< tt) refl refl))

second : (u u' : State) → Agree rewritten k0 s0 u → run 3 (machine packed.old) u ≡ Some u'
    → Agree rewritten k2 s3 u' → Covered (of_link packed) 3 2 all_same u h2 u'
second u u' agree runs agree' =
    let is : u.pc ≡ 0x10 = agree.pc in
    let there = run_first 2 (machine packed.old) u (u1 u) (Some (u3 u)) (o1 u is).old_goes refl in
    subst (λ v. Covered (of_link packed) 3 2 all_same u h2 v) (same_value (u3 u) u' (sym there ∙ runs))
    (other 2 1 _ _ _ _ _ _ (o1 u is)
    (group 1 0 1 _ _ _ _ _ _
    (record {
      more = 0;
      old_goes = refl;
      new_goes = λ t agree. agree_put_old packed _ _ t 7 (half 0) 0x20 0x12 agree (lit< tt) agree.pc refl;
      forward = λ e. lit< tt;
    })
    (other 0 0 _ _ _ _ _ _
    (another packed refl (λ t agree.
    put_out_agrees packed _ _ t 7 (t.registers 1) 0x13 0x12 agree (lit< tt) refl (agree.registers 1)))
    (ends _ _))))

-- ---- both

whole : Group (of_chain chain) 2 (k0, all_same) s0 (k2, h2) s3
whole =
    composes (of_link rewritten) (of_link packed) (λ s. refl) 2 k0 k2 all_same h2 s0 s3
    (record { q = 2; p = 3; m = 3; first = first; second = second; forward = λ e. lit< tt })

between : Agree rewritten k0 s0 (with_entry 0x99)
between = record { small = lit< tt; pc = refl; registers = λ r. refl; memory = λ a below. by a (a == 0xf0) refl; outside = refl }
  where
    by : (a : ℕ) (b : Bool) → (a == 0xf0) ≡ b
        → AreStored rewritten (if b then of_byte anything else of_byte same) s0.memory
        (with_entry 0x99).memory a
    by a true e = tt
    by a false e =
        let away : a - 0 ≢ 0xf0 = λ is. apart a 0xf0 e ((let z : a ≡ a - 0 = omega arith in z) ∙ is) in
        ap (λ n. n + 0) (cond-false _ 7 0 (ne_eqb (a - 0) 0xf0 away)
        ∙ sym (cond-false _ 0x99 0 (ne_eqb (a - 0) 0xf0 away)))

last : Agree packed all_same (with_entry 0x99) (with_entry 0x99)
last =
    record {
      small = lit< tt;
      pc = refl;
      registers = λ r. refl;
      memory = λ a below. ap (λ b. (if b then 0x99 else 0) + 0) (apart_alike (a - 0));
      outside = refl;
    }
  where
    apart_alike : (a : ℕ) → (a == 0xf0) ≡ (packed.moved a == 0xf0)
    apart_alike a = grind (arith, nat_tests)

pub is_chain_worked : IsChainWorked
is_chain_worked =
    record {
      known = (k2, h2);
      state = s3;
      agree = (with_entry 0x99, between, last);
      covered = group 0 2 0 _ _ _ _ _ _ whole (ends _ _);
      old_ends = refl;
      new_ends = refl;
    }
