-- The worked program.
use Rattle.linker_laws.proofs.Imports.{Agree, AreOf, AreStored, Bool, Covered, Kind, Kinds, Link, Memory, State, [], add-zero, anything, ap, ap₂, arith, case_less_base, code, cond-false, ends, eq-eqb, eqb-true, false, first_known, first_new, first_old, go_to, group, half, if◌then◌else◌, lit<, loaded, nat_tests, ne_eqb, new_address, of_byte, of_link, other, pos, put, put_byte, put_out, refl, same, subst, subst₂, sym, true, true≢false, unsigned_abs, with_byte, with_register, ℕ, ◌%◌, ◌+◌, ◌-◌, ◌<◌, ◌==◌, ◌^◌, ◌∙◌, ◌∷◌, ◌≡◌, ◌≢◌}
use Rattle.linker_laws.specs.SimulationWorked.{IsWorked, link}
use Rattle.linker_laws.proofs.Agreement.{agree_put, agree_put_old, agree_go, another, one, runs, several}

-- ---- memory of bytes

-- no other byte moves to where one above the code is
stays : (a v : ℕ) → 0x24 < v → new_address a ≡ v → a ≡ v
stays a v above is = grind (arith, nat_tests)

pub apart : (a v : ℕ) → (a == v) ≡ false → a ≢ v
apart a v e is = true≢false (sym (eq-eqb a v is) ∙ e)

-- a byte after another is written
other_byte : (m : Memory) (v a : ℕ) → a ≢ 0xf8
    → loaded 1 m a ≡ loaded 1 (λ b. if b == 0xf8 then v else m b) a
other_byte m v a apart = ap (λ n. n + 0) (sym (cond-false _ v (m a) (ne_eqb a 0xf8 apart)))

-- Each run writes a byte, at an address that isn't one of code.
agree_byte : (k : Kinds) (s t : State) (kind : Kind) (x y next next' : ℕ) → Agree link k s t
    → next < 2 ^ 64 → next' ≡ new_address next → ((a : ℕ) → k.memory a ≡ of_byte (k.memory a).kind)
    → AreOf link 1 kind (x % 0x100) (y % 0x100)
    → Agree link (with_byte 0xf8 kind k) (put_byte 0xf8 x next s) (put_byte 0xf8 y next' t)
agree_byte k s t kind x y next next' agree small at bytes are =
    record {
      small = small;
      pc = at;
      registers = agree.registers;
      memory = λ a below. by a below (a == 0xf8) refl;
      outside = agree.outside;
    }
  where
    here : AreStored link (of_byte kind) (put_byte 0xf8 x next s).memory
        (put_byte 0xf8 y next' t).memory 0xf8
    here = subst₂ (AreOf link 1 kind) (sym (add-zero (x % 0x100))) (sym (add-zero (y % 0x100))) are

    there : (a : ℕ) → a < 2 ^ 64 → a ≢ 0xf8
        → AreStored link (of_byte (k.memory a).kind) (put_byte 0xf8 x next s).memory
        (put_byte 0xf8 y next' t).memory a
    there a below unlike =
        let first : a - 0 ≡ a = omega arith in
        let old : a - 0 ≢ 0xf8 = λ is. unlike (sym first ∙ is) in
        let new : new_address (a - 0) ≢ 0xf8 = λ is. old (stays (a - 0) 0xf8 (lit< tt) is) in
        subst₂ (AreOf link 1 (k.memory a).kind) (other_byte s.memory (x % 0x100) (a - 0) old)
        (other_byte t.memory (y % 0x100) (new_address (a - 0)) new)
        (subst (λ c. AreStored link c s.memory t.memory a) (bytes a) (agree.memory a below))

    by : (a : ℕ) → a < 2 ^ 64 → (b : Bool) → (a == 0xf8) ≡ b
        → AreStored link (if a == 0xf8 then of_byte kind else k.memory a)
        (put_byte 0xf8 x next s).memory (put_byte 0xf8 y next' t).memory a
    by a below true e =
        subst (λ a. AreStored link (if a == 0xf8 then of_byte kind else k.memory a)
        (put_byte 0xf8 x next s).memory (put_byte 0xf8 y next' t).memory a)
        (sym (eqb-true a 0xf8 e)) here
    by a below false e =
        subst (λ b. AreStored link (if b then of_byte kind else k.memory a)
        (put_byte 0xf8 x next s).memory (put_byte 0xf8 y next' t).memory a) (sym e)
        (subst (λ c. AreStored link c (put_byte 0xf8 x next s).memory
        (put_byte 0xf8 y next' t).memory a) (sym (bytes a)) (there a below (apart a 0xf8 e)))

are_bytes : (b c : Bool)
    → (if b then of_byte anything else (if c then of_byte case_less_base else of_byte same))
    ≡ of_byte
    (if b then of_byte anything else (if c then of_byte case_less_base else of_byte same)).kind
are_bytes true c = refl
are_bytes false true = refl
are_bytes false false = refl

-- ---- the parts

-- the address of a place
abbrev address : ℕ → Kind
address a = code (record { number = 0; added = a ∷ []; subtracted = [] })

-- what is put out agrees
pub put_out_agrees : (l : Link) (k : Kinds) (s t : State) (x y next next' : ℕ) → Agree l k s t
    → next < 2 ^ 64 → next' ≡ l.moved next → x ≡ y
    → Agree l k (put_out x next s) (put_out y next' t)
put_out_agrees l k s t x y next next' agree small at is =
    record {
      small = small;
      pc = at;
      registers = agree.registers;
      memory = agree.memory;
      outside = ap₂ (λ x o. λ m. if m == 0 then x else o m) is agree.outside;
    }

alike : (a : ℕ) → a ≢ 0xf0 → a ≢ 0xf3 → first_old.memory a ≡ first_new.memory (new_address a)
alike a no_entry no_table = grind (arith, nat_tests)

agree : Agree link first_known first_old first_new
agree =
    record {
      small = lit< tt;
      pc = refl;
      registers = λ r. of_register r (r == 2);
      memory = λ a below. of_memory a (a == 0xf0) (a == 0xf3) refl refl;
      outside = refl;
    }
  where
    of_register : (r : ℕ) (b : Bool)
        → AreOf link 8 (if b then anything else same) r (if b then 0x77 else r)
    of_register r true = tt
    of_register r false = refl

    of_memory : (a : ℕ) (b c : Bool) → (a == 0xf0) ≡ b → (a == 0xf3) ≡ c
        → AreStored link
        (if b then of_byte anything else (if c then of_byte case_less_base else of_byte same))
        first_old.memory first_new.memory a
    of_memory a true c e f = tt
    of_memory a false true e f =
        subst (λ a. AreStored link (of_byte case_less_base) first_old.memory first_new.memory a)
        (sym (eqb-true a 0xf3 f)) (refl, refl)
    of_memory a false false e f =
        let first : a - 0 ≡ a = omega arith in
        let entry : a - 0 ≢ 0xf0 = λ is. apart a 0xf0 e (sym first ∙ is) in
        let table : a - 0 ≢ 0xf3 = λ is. apart a 0xf3 f (sym first ∙ is) in
        ap (λ n. n + 0) (alike (a - 0) entry table)

-- what is known and where old is before and after the call, and where both stop
abbrev k12 : Kinds
k12 =
    with_register 4 same (with_register 9 same (with_register 9 (address 0x24)
    (with_register 6 (address 0x19) (with_register 5 anything (with_register 8 same
    (with_register 7 (half 1) (with_register 4 same (with_register 3 (half 0)
    (with_byte 0xf8 (half 0) (with_register 2 (half 0) (with_register 1 same first_known)))))))))))

abbrev s7 : State
s7 =
    put 8 3 0x17 (put 7 0 0x16 (put 4 0x35 0x15 (put 3 0x30 0x14 (put_byte 0xf8 0x30 0x13
    (put 2 0x30 0x12 (put 1 7 0x11 first_old))))))

abbrev s12 : State
s12 = go_to 0x19 (put 4 0x8a 0x23 (put 9 0x55 0x22 (put 9 0x24 0x21 (put 6 0x19 0x20 (put 5 0x20 0x18 s7)))))

abbrev k15 : Kinds
k15 = with_register 9 (address 0x1e) (with_register 9 case_less_base (with_register 4 same k12))

abbrev s17 : State
s17 = put_out 0x91 0x1f (go_to 0x1e (put 9 0x1e 0x1c (put 9 5 0x1b (put 4 0x91 0x1a s12))))

rest : Covered (of_link link) 5 5 k12 s12 k15 s17
rest =
    other 4 4 _ (with_register 4 same k12) _ _ _ _
    (another link refl (λ t agree.
    agree_put link _ _ t 4 same 0x91 (t.registers 4 + t.registers 1) 0x1a 0x18 agree
    (lit< tt) refl (ap₂ (λ x y. x + y) (agree.registers 4) (agree.registers 1))))
    (other 3 3 _ (with_register 9 case_less_base (with_register 4 same k12)) _ _ _ _
    (another link {k = with_register 4 same k12} refl (λ t agree.
    agree_put link _ _ t 9 case_less_base 5 (t.memory 0xf3) 0x1b 0x19 agree (lit< tt)
    refl (refl, (agree.memory 0xf3 (lit< tt)).1 ∙ ap pos (add-zero (t.memory 0xf3)))))
    (other 2 2 _ k15 _ _ _ _
    (another link refl (λ t agree.
    agree_put link _ _ t 9 (address 0x1e) 0x1e (t.registers 9 + t.registers 6) 0x1c 0x1a
    agree (lit< tt) refl (
      refl,
      ap₂ (λ x y. pos (x + y)) (ap unsigned_abs (agree.registers 9).1)
          (ap unsigned_abs (agree.registers 6).1),
    )))
    (other 1 1 _ _ _ _ _ _
    (another link refl (λ t agree.
    agree_go link _ _ t 0x1e (t.registers 9) agree (lit< tt)
    (sym (ap unsigned_abs (agree.registers 9).1))))
    (other 0 0 _ _ _ _ _ _
    (another link refl (λ t agree.
    put_out_agrees link _ _ t 0x91 (t.registers 4) 0x1f 0x1c agree (lit< tt) refl (agree.registers 4)))
    (ends _ _)))))

pub is_worked : IsWorked
is_worked =
    runs link agree
    (group 16 1 15 _ _ _ _ _ _
    (one link (another link refl (λ t agree.
    agree_put link _ _ t 1 same 7 7 0x11 0x11 agree (lit< tt) refl refl)))
    (group 15 1 14 _ _ _ _ _ _
    (one link (another link refl (λ t agree.
    agree_put link _ _ t 2 (half 0) 0x30 0x20 0x12 0x12 agree (lit< tt) refl refl)))
    (other 14 13 _ _ _ _ _ _
    (another link refl (λ t agree.
    agree_byte _ _ t (half 0) 0x30 (t.registers 2) 0x13 0x13 agree (lit< tt) refl
    (λ a. are_bytes (a == 0xf0) (a == 0xf3)) (ap (λ y. y % 0x100 == 0x20) (eqb-true (t.registers 2) 0x20 (agree.registers 2)))))
    (other 13 12 _ _ _ _ _ _
    (another link refl (λ t agree.
    agree_put link _ _ t 3 (half 0) 0x30 (t.memory 0xf8) 0x14 0x14 agree (lit< tt) refl
    (subst (λ y. AreOf link 8 (half 0) 0x30 y) (add-zero (t.memory 0xf8)) (agree.memory 0xf8 (lit< tt)))))
    (group 12 1 11 _ _ _ _ _ _
    (one link (another link refl (λ t agree.
    agree_put link _ _ t 4 same 0x35 (t.registers 3 + 0x15) 0x15 0x15 agree (lit< tt) refl
    (sym (ap (λ y. y + 0x15) (eqb-true (t.registers 3) 0x20 (agree.registers 3)))))))
    (group 11 0 11 _ _ _ _ _ _
    (record {
      more = 0;
      old_goes = refl;
      new_goes =
          λ t agree. agree_put_old link _ _ t 7 (half 1) 0 0x16 agree (lit< tt) agree.pc refl;
      forward = λ e. lit< tt;
    })
    (group 10 1 10 _ _ _ _ _ _
    (one link (another link refl (λ t agree.
    agree_put link _ _ t 8 same 3 3 0x17 0x16 agree (lit< tt) refl refl)))
    (group 9 1 9 _ _ _ _ _ _
    (several link 0 1 refl (λ t agree.
    agree_put link (with_register 5 anything _) (put 5 0x20 0x18 s7) (go_to 0x17 t) 6 (address 0x19) 0x19 0x17 0x20 0x1d
    (agree_put_old link _ (go_to 0x18 s7) (go_to 0x17 t) 5 anything 0x20 0x18
    (agree_go link _ s7 t 0x18 0x17 agree (lit< tt) refl) (lit< tt) refl tt) (lit< tt) refl (refl, refl)))
    (other 8 8 _ _ _ _ _ _
    (another link refl (λ t agree.
    agree_put link _ _ t 9 (address 0x24) 0x24 0x21 0x21 0x1e agree (lit< tt) refl
    (refl, refl)))
    (other 7 7 _ _ _ _ _ _
    (another link refl (λ t agree.
    agree_put link _ _ t 9 same 0x55 (t.memory (t.registers 9)) 0x22 0x1f agree (lit< tt)
    refl (agree.memory 0x24 (lit< tt) ∙ add-zero (t.memory 0x21)
    ∙ ap t.memory (ap unsigned_abs (agree.registers 9).1))))
    (other 6 6 _ _ _ _ _ _
    (another link refl (λ t agree.
    agree_put link _ _ t 4 same 0x8a (t.registers 4 + t.registers 9) 0x23 0x20 agree
    (lit< tt) refl (ap₂ (λ x y. x + y) (agree.registers 4) (agree.registers 9))))
    (other 5 5 _ _ _ _ _ _
    (another link refl (λ t agree.
    agree_go link _ _ t 0x19 (t.registers 6) agree (lit< tt)
    (sym (ap unsigned_abs (agree.registers 6).1))))
    rest))))))))))))
    refl (λ t. refl) (refl, refl, refl) (refl, refl, refl)
