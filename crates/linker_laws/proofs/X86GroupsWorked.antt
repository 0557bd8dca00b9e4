-- The worked program of x86-64.
use Rattle.linker_laws.proofs.Imports.{Agree, AreAddresses, AreOf, Bool, Group, HoldsBits, IsBefore, IsEncoded, IsKept, IsKnownAfter, IsMultiple, IsRelocatedBy, IsSomeAnd, IsWritten, KeepsRegisters, Kinds, List, Operands, RowInfo, Some, State, [], anything, ap, ap₂, arith, bytes_at, cond-false, cond-true, difference_64, does, drop, ends, eqb-true, false, group, half, if◌then◌else◌, inl, inr, le-leb, lit<, lit≤, lt-ltb, ltb-false, ltb-true, nat_le, nat_lt, neg_ℤ, negsuc, of_byte, of_link, pos, put, refl, same, subst, sym, take, true, unwrap_or, value_of, with_register, ℕ, ℤ, ◌&&◌, ◌*◌, ◌++◌, ◌+◌, ◌-◌, ◌<◌, ◌==◌, ◌^◌, ◌||◌, ◌∙◌, ◌∷◌, ◌≡◌, ◌≤◌}
use Rattle.linker_laws.proofs.Relocated.{accepted_by, all_small, are_bytes, is_accepted, small}
use Rattle.linker_laws.specs.X86Groups.{Groups, called, link, machine}
use Rattle.linker_laws.specs.X86Machine as x86_machine
use Rattle.linker_laws.specs.X86GroupsWorked.{IsWorked, bytes, code, entries, is_entry, known, new, of_function, starting}

-- ---- operands and bytes

abbrev operands : ℕ → ℕ → ℕ → Operands
operands symbol place got_entry =
    record {
      symbol = symbol;
      addend = negsuc 3;
      place = place;
      got_entry = got_entry;
      got_base = 0;
      plt_entry = 0;
      symbol_size = 0;
      tls_base = 0x405000;
      has_got_entry = true;
      has_plt_entry = false;
      has_tls_base = true;
    }

abbrev of_a : Operands
of_a = operands 0x404030 0x401003 0x404000

abbrev of_x : Operands
of_x = operands 0x404ff0 0x40100a 0x404008

abbrev of_descriptor : Operands
of_descriptor = operands 0x404ff0 0x401011 0x404018

abbrev of_f : Operands
of_f = operands 0x401020 0x401019 0x404010

before : {n o : ℕ} {s : x86_machine.State} (section : List ℕ) (operands : Operands)
    → all_small section ≡ true → o < 2 ^ 64 → AreAddresses operands → operands.addend ≡ neg_ℤ (pos 4)
    → s.ip ≡ difference_64 operands.place n → IsBefore n section o operands s
before section operands bytes offset addresses addend ip =
    record {
      bytes = are_bytes section bytes;
      offset = offset;
      addresses = addresses;
      addend = addend;
      ip = ip;
    }

-- a field with the value of its relocation
there : {row : RowInfo} {operands : Operands} {o : ℕ} {section after : List ℕ}
    (rest : List ℕ) (v : ℤ) → value_of row operands ≡ Some v → is_accepted row v (drop o section) ≡ true
    → IsMultiple row v (drop o section) → HoldsBits row.size v (drop o section) → IsEncoded row.size v
    → IsWritten row.size row.kind v (drop o section) rest → after ≡ take o section ++ rest
    → IsRelocatedBy row operands o section after
there {row} {o = o} {section = section} rest v is e aligned holds encoded written whole =
    record {
      rest = rest;
      applied = record {
        value = v;
        value_is = is;
        accepted = accepted_by row v (drop o section) aligned e holds encoded;
        written = written;
      };
      whole = whole;
    }

-- ---- what the object has

abbrev mov : List ℕ
mov = 0x48 ∷ 0x8b ∷ 0x15 ∷ 0x00 ∷ 0x00 ∷ 0x00 ∷ 0x00 ∷ []

abbrev add : List ℕ
add = 0x48 ∷ 0x03 ∷ 0x0d ∷ 0x00 ∷ 0x00 ∷ 0x00 ∷ 0x00 ∷ []

abbrev lea : List ℕ
lea = 0x48 ∷ 0x8d ∷ 0x05 ∷ 0x00 ∷ 0x00 ∷ 0x00 ∷ 0x00 ∷ []

abbrev calls : List ℕ
calls = 0xff ∷ 0x10 ∷ []

abbrev call : List ℕ
call = 0xff ∷ 0x15 ∷ 0x00 ∷ 0x00 ∷ 0x00 ∷ 0x00 ∷ []

-- ---- states

abbrev s0 : State
s0 = starting entries

abbrev s1 : State
s1 = unwrap_or (machine code.others code.old s0) s0

abbrev s2 : State
s2 = unwrap_or (machine code.others code.old s1) s1

abbrev s3 : State
s3 = put 0 0x404018 0x401015 s2

abbrev s4 : State
s4 = put 4 0x8000 0x401017 (put 0 0xfffffffffffffff0 0x401025 (called 0x401021 0x401017 s3))

abbrev s5 : State
s5 = called 0x401020 0x40101d s4

abbrev k1 : Kinds
k1 = with_register 0 (half 0) known

abbrev k2 : Kinds
k2 = with_register 0 same k1

abbrev k3 : Kinds
k3 = record k2 { memory = λ a. of_byte (if is_entry a then anything else same) }

starts : Agree (link code) known s0 (starting (λ a. 0))
starts =
    record {
      small = lit< tt;
      pc = refl;
      registers = λ r. refl;
      memory = λ a below.
          subst (λ b. AreOf (link code) 1
          (if is_entry a || (nat_le 0x7ff8 a && nat_lt a 0x8000) then anything else same)
          (entries b + 256 * 0) (0 + 256 * 0)) (let e : a ≡ a - 0 = omega arith in e)
          (by (is_entry a) (nat_le 0x7ff8 a && nat_lt a 0x8000) _);
      outside = refl;
    }
  where
    by : (b c : Bool) (x : ℕ)
        → AreOf (link code) 1 (if b || c then anything else same) ((if b then x else 0) + 256 * 0) (0 + 256 * 0)
    by true c x = tt
    by false true x = tt
    by false false x = refl

-- ---- groups

keeps : (s s' : State) → machine code.others code.old s ≡ Some s' → KeepsRegisters code known s (λ r. same) s'
keeps s s' goes t agree =
    subst (λ (registers : ℕ → ℕ).
    IsSomeAnd (machine code.others code.old (record s { registers = registers }))
    (λ u. (r : ℕ) → s'.registers r ≡ u.registers r)) (λ i r. agree.registers r i)
    (subst (λ o. IsSomeAnd o (λ u. (r : ℕ) → s'.registers r ≡ u.registers r)) (sym goes) (λ r. refl))

p1 : Groups → Group (of_link (link code)) 1 known s0 known s1
p1 g =
    g.loads.0.1 code s0 mov (0x48 ∷ 0x8b ∷ 0x15 ∷ 0xf9 ∷ 0x2f ∷ 0x00 ∷ 0x00 ∷ [])
    (0x48 ∷ 0x8d ∷ 0x15 ∷ 0x29 ∷ 0x30 ∷ 0x00 ∷ 0x00 ∷ []) 3 of_a
    (before mov of_a refl (lit< tt) (small of_a refl) refl refl)
    refl (record { starts = lit≤ tt; ends = lit≤ tt; admitted = refl }, refl)
    (there (0xf9 ∷ 0x2f ∷ 0x00 ∷ 0x00 ∷ []) (pos 0x2ff9) refl refl (refl, tt, tt) tt tt refl refl)
    (there (0x29 ∷ 0x30 ∷ 0x00 ∷ 0x00 ∷ []) (pos 0x3029) refl refl (refl, tt, tt) tt tt refl refl)
    refl refl refl known (λ r. same) (keeps s0 s1 refl)

p2 : Groups → Group (of_link (link code)) 1 known s1 known s2
p2 g =
    g.thread.1.0 code s1 add (0x48 ∷ 0x03 ∷ 0x0d ∷ 0xfa ∷ 0x2f ∷ 0x00 ∷ 0x00 ∷ [])
    (0x48 ∷ 0x81 ∷ 0xc1 ∷ 0xf0 ∷ 0xff ∷ 0xff ∷ 0xff ∷ []) 3 of_x
    (before add of_x refl (lit< tt) (small of_x refl) refl refl)
    refl (record { starts = lit≤ tt; ends = lit≤ tt; admitted = refl }, refl)
    (there (0xfa ∷ 0x2f ∷ 0x00 ∷ 0x00 ∷ []) (pos 0x2ffa) refl refl (refl, tt, tt) tt tt refl refl)
    (there (0xf0 ∷ 0xff ∷ 0xff ∷ 0xff ∷ []) (negsuc 15) refl refl (refl, tt, tt) tt tt refl refl)
    refl refl refl known (λ r. same) (keeps s1 s2 refl)

p3 : Groups → Group (of_link (link code)) 1 known s2 k1 s3
p3 g =
    g.descriptor_address.0 code s2 lea (0x48 ∷ 0x8d ∷ 0x05 ∷ 0x03 ∷ 0x30 ∷ 0x00 ∷ 0x00 ∷ [])
    (0x48 ∷ 0xc7 ∷ 0xc0 ∷ 0xf0 ∷ 0xff ∷ 0xff ∷ 0xff ∷ []) 3 of_descriptor
    (before lea of_descriptor refl (lit< tt) (small of_descriptor refl) refl refl)
    refl (record { starts = lit≤ tt; ends = lit≤ tt; admitted = refl }, refl)
    (there (0x03 ∷ 0x30 ∷ 0x00 ∷ 0x00 ∷ []) (pos 0x3003) refl refl (refl, tt, tt) tt tt refl refl)
    (there (0xf0 ∷ 0xff ∷ 0xff ∷ 0xff ∷ []) (negsuc 15) refl refl (refl, tt, tt) tt tt refl refl)
    refl refl 0 known refl refl

-- The function changes only the 8 bytes below the stack pointer.
only_open : (a : ℕ) → a < 2 ^ 64 → IsKept (known.memory a) (known.memory a) a s3 s4
only_open a small = by (nat_lt (difference_64 a 0x7ff8) 8) refl
  where
    by : (b : Bool) → nat_lt (difference_64 a 0x7ff8) 8 ≡ b → IsKept (known.memory a) (known.memory a) a s3 s4
    by true e =
        let below = ltb-true (difference_64 a 0x7ff8) 8 e in
        let low : 0x7ff8 ≤ a = grind (arith, below, small) in
        let high : a < 0x8000 = grind (arith, below, small) in
        inl (ap (λ b. if b then anything else same)
        (ap₂ (λ b c. is_entry a || (b && c)) (le-leb _ _ low) (lt-ltb _ _ high) ∙ or_true (is_entry a)))
      where
        or_true : (b : Bool) → (b || true) ≡ true
        or_true true = refl
        or_true false = refl
    by false e =
        let e' = subst (λ b. nat_lt (difference_64 b 0x7ff8) 8 ≡ false)
        (let same_address : a ≡ a - 0 = omega arith in same_address) e in
        inr (refl, ap (λ x. x + 256 * 0) (cond-false (nat_lt (difference_64 (a - 0) 0x7ff8) 8) _ _ e'))

p4 : Groups → Group (of_link (link code)) 1 k1 s3 k2 s4
p4 g =
    g.descriptor_call code s3 calls 0 (are_bytes calls refl)
    (record { starts = lit≤ tt; ends = lit≤ tt; admitted = refl }, refl) refl refl 0 2 k1 k2 s4 refl refl
    (record { pc = refl; registers = λ r. inr (refl, by r (r == 4) refl); memory = only_open; outside = refl })
  where
    by : (r : ℕ) (b : Bool) → (r == 4) ≡ b → s4.registers r ≡ (put 0 0xfffffffffffffff0 0x401017 s3).registers r
    by r true e = cond-true (r == 4) _ _ e ∙ ap (put 0 0xfffffffffffffff0 0x401017 s3).registers (sym (eqb-true _ _ e))
    by r false e =
        cond-false (r == 4) _ _ e
        ∙ ap (λ x. if r == 0 then 0xfffffffffffffff0 else x) (cond-false (r == 4) 0x7ff8 (s3.registers r) e)

-- The pushed bytes are no entry's.
known_after : (a : ℕ) → a < 2 ^ 64 → IsKnownAfter 0x7ff8 (k2.memory a) (k3.memory a) a
known_after a small = by (is_entry a) (nat_lt (difference_64 a 0x7ff8) 8) refl refl
  where
    by : (b c : Bool) → is_entry a ≡ b → nat_lt (difference_64 a 0x7ff8) 8 ≡ c
        → IsKnownAfter 0x7ff8 (k2.memory a) (k3.memory a) a
    by true c entry e = inr (inl (ap (λ b. if b then anything else same) entry))
    by false true entry e =
        inl (ltb-true (difference_64 a 0x7ff8) 8 e, ap (λ b. of_byte (if b then anything else same)) entry)
    by false false entry e =
        let above = ltb-false (difference_64 a 0x7ff8) 8 e in
        let out : (nat_le 0x7ff8 a && nat_lt a 0x8000) ≡ false = grind (arith, above, small) in
        inr (inr (
          ap (λ b. of_byte (if b then anything else same)) (entry ∙ sym (ap₂ (λ b c. b || c) entry out)),
          λ i one. omega arith,
        ))

p5 : Groups → Group (of_link (link code)) 1 k2 s4 k3 s5
p5 g =
    g.branches.0 code s4 call (0xff ∷ 0x15 ∷ 0xf3 ∷ 0x2f ∷ 0x00 ∷ 0x00 ∷ [])
    (0x67 ∷ 0xe8 ∷ 0x03 ∷ 0x00 ∷ 0x00 ∷ 0x00 ∷ []) 2 of_f
    (before call of_f refl (lit< tt) (small of_f refl) refl refl)
    refl (record { starts = lit≤ tt; ends = lit≤ tt; admitted = refl }, refl)
    (there (0xf3 ∷ 0x2f ∷ 0x00 ∷ 0x00 ∷ []) (pos 0x2ff3) refl refl (refl, tt, tt) tt tt refl refl)
    (there (0x03 ∷ 0x00 ∷ 0x00 ∷ 0x00 ∷ []) (pos 0x3) refl refl (refl, tt, tt) tt tt refl refl)
    refl refl refl k2 k3 refl refl known_after

pub is_worked : Groups → IsWorked
is_worked g =
    record {
      kinds = k3;
      state = s5;
      agree = starts;
      covered =
          group 4 1 4 _ _ _ _ _ _ (p1 g) (group 3 1 3 _ _ _ _ _ _ (p2 g) (group 2 1 2 _ _ _ _ _ _ (p3 g)
          (group 1 1 1 _ _ _ _ _ _ (p4 g) (group 0 1 0 _ _ _ _ _ _ (p5 g) (ends _ _)))));
      stops = record {
        old_stops = refl;
        new_stops = λ t agree. ap (λ a. does of_function (bytes_at 15 (bytes new) a) t) agree.pc;
      };
      old_ends = record { pc = refl; rdx = refl; rcx = refl; carry = refl; rax = refl; pushed = refl };
      new_ends = record { pc = refl; rdx = refl; rcx = refl; carry = refl; rax = refl; pushed = refl };
    }
