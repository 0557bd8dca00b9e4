-- What bytes of x86-64's instructions say, before and after a rewrite.
use Rattle.linker_laws.proofs.Imports.{All, All-head, All-tail, Bool, List, [], and_parts, ap, arith, begins, bit_and, bit_at, byte, cases_lt, eqb, eqb-true, evex_reg, evex_registers, evex_rm, false, false≢true, inl, inr, is_map_4, is_register, is_relative, is_rex, map, not, refl, reg_of, rex, rex2, rip_operand, rm_of, subst, suc, sym, true, zero, ℕ, ◌&&◌, ◌*◌, ◌++◌, ◌+◌, ◌<◌, ◌^◌, ◌||◌, ◌∙◌, ◌∷◌, ◌≡◌}
use Rattle.linker_utils.specs.X86Rewrites as x86

-- ---- tests of all bytes

abbrev pub all_below : ℕ → (ℕ → Bool) → Bool
all_below zero test = true
all_below (suc n) test = test n && all_below n test

pub below : (n : ℕ) (test : ℕ → Bool) → all_below n test ≡ true → (k : ℕ) → k < n
    → test k ≡ true
below zero test h k small = absurd (omega arith)
below (suc n) test h k small =
    let both = and_parts _ _ h in
    elim (cases_lt k n) [
      | inl less ↦ below n test both.1 k less
      | inr more ↦ subst (λ i. test i ≡ true) (let e : n ≡ k = omega arith in e) both.0
    ]

pub implied : (a b : Bool) → (not a || b) ≡ true → a ≡ true → b ≡ true
implied true b h e = h
implied false b h e = absurd (false≢true e)

-- the bits under the mask of all
pub same_byte : (b op : ℕ) → b < 2 ^ 8 → eqb (bit_and b 0xff) op ≡ true → b ≡ op
same_byte b op small h =
    sym (eqb-true _ _ (below 256 (λ b. eqb (bit_and b 0xff) b) refl b small))
    ∙ eqb-true _ _ h

relative_byte : (m : ℕ) → m < 2 ^ 8 → eqb (bit_and m 0xc7) 5 ≡ true → is_relative m ≡ true
relative_byte m small h =
    implied (eqb (bit_and m 0xc7) 5) (is_relative m)
    (below 256 (λ m. not (eqb (bit_and m 0xc7) 5) || is_relative m) refl m small) h

-- What a REX byte says, and what it says after the rewrite.
pub record IsRex (p : ℕ) : Type 0 where
  pub is : is_rex p ≡ true
  pub after : is_rex (x86.rex_r_to_b p) ≡ true
  pub wide : bit_at (x86.rex_r_to_b p) 3 ≡ bit_at p 3
  pub moved : bit_at (x86.rex_r_to_b p) 0 ≡ bit_at p 2

pub rex_byte : (p : ℕ) → p < 2 ^ 8 → eqb (bit_and p 0xf3) 0x40 ≡ true → IsRex p
rex_byte p small h =
    let all = below 256 (λ p. not (eqb (bit_and p 0xf3) 0x40) || (is_rex p && (is_rex (x86.rex_r_to_b p)
    && (eqb (bit_at (x86.rex_r_to_b p) 3) (bit_at p 3) && eqb (bit_at (x86.rex_r_to_b p) 0) (bit_at p 2)))))
    refl p small in
    let a = and_parts _ _ (implied _ _ all h) in
    let b = and_parts _ _ a.1 in
    let c = and_parts _ _ b.1 in
    record {
      is = a.0;
      after = b.0;
      wide = eqb-true _ _ c.0;
      moved = eqb-true _ _ c.1;
    }

-- What the byte after d5 says, and what it says after the rewrite.
pub record IsRex2 (p : ℕ) : Type 0 where
  pub is : eqb (bit_at p 7) 0 ≡ true
  pub after : eqb (bit_at (x86.rex2_r_to_b p) 7) 0 ≡ true
  pub wide : bit_at (x86.rex2_r_to_b p) 3 ≡ bit_at p 3
  pub moved : 8 * bit_at (x86.rex2_r_to_b p) 0 + 16 * bit_at (x86.rex2_r_to_b p) 4
      ≡ 8 * bit_at p 2 + 16 * bit_at p 6

abbrev rex2_moves : ℕ → Bool
rex2_moves p =
    eqb (bit_at (x86.rex2_r_to_b p) 3) (bit_at p 3)
    && eqb (8 * bit_at (x86.rex2_r_to_b p) 0 + 16 * bit_at (x86.rex2_r_to_b p) 4)
    (8 * bit_at p 2 + 16 * bit_at p 6)

abbrev rex2_says : ℕ → Bool
rex2_says p =
    eqb (bit_at p 7) 0 && (eqb (bit_at (x86.rex2_r_to_b p) 7) 0 && rex2_moves p)

pub rex2_byte : (p : ℕ) → p < 2 ^ 8 → eqb (bit_and p 0xb3) 0 ≡ true → IsRex2 p
rex2_byte p small h =
    let a = and_parts _ _ (implied _ _
    (below 256 (λ p. not (eqb (bit_and p 0xb3) 0) || rex2_says p) refl p small) h) in
    let b = and_parts _ _ a.1 in
    let c = and_parts _ _ b.1 in
    record {
      is = a.0;
      after = b.0;
      wide = eqb-true _ _ c.0;
      moved = eqb-true _ _ c.1;
    }

-- What the byte after 62 says, and what it says after the rewrite.
pub record IsEvexByte (p : ℕ) : Type 0 where
  pub is : is_map_4 p ≡ true
  pub after : is_map_4 (x86.evex_reg_to_rm p) ≡ true
  pub moved : evex_rm (x86.evex_reg_to_rm p) ≡ evex_reg p

abbrev evex_says : ℕ → Bool
evex_says p =
    is_map_4 p && (is_map_4 (x86.evex_reg_to_rm p)
    && eqb (evex_rm (x86.evex_reg_to_rm p)) (evex_reg p))

evex_byte : (p : ℕ) → p < 2 ^ 8 → eqb (bit_and p 0x6f) 0x64 ≡ true → IsEvexByte p
evex_byte p small h =
    let a = and_parts _ _ (implied _ _
    (below 256 (λ p. not (eqb (bit_and p 0x6f) 0x64) || evex_says p) refl p small) h) in
    let b = and_parts _ _ a.1 in
    record {
      is = a.0;
      after = b.0;
      moved = eqb-true _ _ b.1;
    }

-- A ModRM byte that names a register by its rm field, with an extension of the opcode in its reg.
pub record IsMoved (k number m : ℕ) : Type 0 where
  pub not_relative : is_relative (x86.modrm_reg_to_rm k m) ≡ false
  pub is : is_register (x86.modrm_reg_to_rm k m) ≡ true
  pub extension : reg_of (x86.modrm_reg_to_rm k m) ≡ number
  pub moved : rm_of (x86.modrm_reg_to_rm k m) ≡ reg_of m

abbrev pub moved_test : ℕ → ℕ → ℕ → Bool
moved_test k extension r =
    not (is_relative (k + r))
    && (is_register (k + r) && (eqb (reg_of (k + r)) extension && eqb (rm_of (k + r)) r))

pub is_false : (b : Bool) → not b ≡ true → b ≡ false
is_false true h = absurd (false≢true h)
is_false false h = refl

pub modrm_byte : (k extension m : ℕ) → all_below 8 (moved_test k extension) ≡ true
    → IsMoved k extension m
modrm_byte k extension m h =
    let r = reg_of m in
    let a = and_parts _ _ (below 8 (moved_test k extension) h r (omega arith)) in
    let b = and_parts _ _ a.1 in
    let c = and_parts _ _ b.1 in
    record {
      not_relative = is_false (is_relative (k + r)) a.0;
      is = b.0;
      extension = eqb-true _ _ c.0;
      moved = eqb-true _ _ c.1;
    }

-- ---- instructions by their patterns

-- an opcode, and a ModRM byte of an address relative to the instruction pointer
pub record IsOnRelative (opcode : ℕ) (d : List ℕ) : Type 0 where
  pub modrm : ℕ
  pub rest : List ℕ
  pub is : d ≡ opcode ∷ modrm ∷ rest
  pub relative : is_relative modrm ≡ true

pub on_relative : (opcode : ℕ) (d : List ℕ) → All (λ b. b < 2 ^ 8) d
    → begins (rip_operand opcode) d ≡ true → IsOnRelative opcode d
on_relative opcode [] bytes h = absurd (false≢true h)
on_relative opcode (b ∷ []) bytes h =
    absurd (false≢true (and_parts _ _ h).1)
on_relative opcode (b ∷ m ∷ rest) bytes h =
    let first = and_parts _ _ h in
    let second = and_parts _ _ first.1 in
    record {
      modrm = m;
      rest = rest;
      is = ap (λ x. x ∷ m ∷ rest) (same_byte b opcode
          (All-head (λ b. b < 2 ^ 8) b (m ∷ rest) bytes) first.0);
      relative = relative_byte m (All-head (λ b. b < 2 ^ 8) m rest
          (All-tail (λ b. b < 2 ^ 8) b (m ∷ rest) bytes)) second.0;
    }

-- the same after a REX byte
pub record IsAfterRex (opcode : ℕ) (d : List ℕ) : Type 0 where
  pub prefix : ℕ
  pub rest : List ℕ
  pub is : d ≡ prefix ∷ rest
  pub is_rex : IsRex prefix
  pub after : IsOnRelative opcode rest

pub after_rex : (opcode : ℕ) (d : List ℕ) → All (λ b. b < 2 ^ 8) d
    → begins (rex ∷ rip_operand opcode) d ≡ true → IsAfterRex opcode d
after_rex opcode [] bytes h = absurd (false≢true h)
after_rex opcode (p ∷ rest) bytes h =
    let first = and_parts _ _ h in
    record {
      prefix = p;
      rest = rest;
      is = refl;
      is_rex = rex_byte p (All-head (λ b. b < 2 ^ 8) p rest bytes) first.0;
      after = on_relative opcode rest (All-tail (λ b. b < 2 ^ 8) p rest bytes) first.1;
    }

-- the same after REX2
pub record IsAfterRex2 (opcode : ℕ) (d : List ℕ) : Type 0 where
  pub prefix : ℕ
  pub rest : List ℕ
  pub is : d ≡ 0xd5 ∷ prefix ∷ rest
  pub is_rex2 : IsRex2 prefix
  pub after : IsOnRelative opcode rest

pub after_rex2 : (opcode : ℕ) (d : List ℕ) → All (λ b. b < 2 ^ 8) d
    → begins (byte 0xd5 ∷ rex2 ∷ rip_operand opcode) d ≡ true → IsAfterRex2 opcode d
after_rex2 opcode [] bytes h = absurd (false≢true h)
after_rex2 opcode (b ∷ []) bytes h =
    absurd (false≢true (and_parts _ _ h).1)
after_rex2 opcode (b ∷ p ∷ rest) bytes h =
    let one = and_parts _ _ h in
    let two = and_parts _ _ one.1 in
    let tail = All-tail (λ b. b < 2 ^ 8) b (p ∷ rest) bytes in
    record {
      prefix = p;
      rest = rest;
      is = ap (λ x. x ∷ p ∷ rest) (same_byte b 0xd5
          (All-head (λ b. b < 2 ^ 8) b (p ∷ rest) bytes) one.0);
      is_rex2 = rex2_byte p (All-head (λ b. b < 2 ^ 8) p rest tail) two.0;
      after = on_relative opcode rest (All-tail (λ b. b < 2 ^ 8) p rest tail) two.1;
    }

-- the same after EVEX, whose last two bytes have masks of their own
pub record IsAfterEvex (opcode : ℕ) (second third : ℕ × ℕ) (d : List ℕ) : Type 0 where
  pub registers : ℕ
  pub v : ℕ
  pub control : ℕ
  pub rest : List ℕ
  pub is : d ≡ 0x62 ∷ registers ∷ v ∷ control ∷ rest
  pub is_evex : IsEvexByte registers
  pub v_small : v < 2 ^ 8
  pub v_is : eqb (bit_and v second.0) second.1 ≡ true
  pub control_small : control < 2 ^ 8
  pub control_is : eqb (bit_and control third.0) third.1 ≡ true
  pub after : IsOnRelative opcode rest

pub after_evex : (opcode : ℕ) (second third : ℕ × ℕ) (d : List ℕ) → All (λ b. b < 2 ^ 8) d
    → begins (byte 0x62 ∷ evex_registers ∷ second ∷ third ∷ rip_operand opcode) d ≡ true
    → IsAfterEvex opcode second third d
after_evex opcode second third [] bytes h = absurd (false≢true h)
after_evex opcode second third (b ∷ []) bytes h =
    absurd (false≢true (and_parts _ _ h).1)
after_evex opcode second third (b ∷ p ∷ []) bytes h =
    let one = and_parts _ _ h in
    absurd (false≢true (and_parts _ _ one.1).1)
after_evex opcode second third (b ∷ p ∷ v ∷ []) bytes h =
    let one = and_parts (eqb (bit_and b 0xff) 0x62)
    (eqb (bit_and p 0x6f) 0x64 && (eqb (bit_and v second.0) second.1 && false)) h in
    let two = and_parts (eqb (bit_and p 0x6f) 0x64) (eqb (bit_and v second.0) second.1 && false) one.1 in
    absurd (false≢true (and_parts (eqb (bit_and v second.0) second.1) false two.1).1)
after_evex opcode second third (b ∷ p ∷ v ∷ c ∷ rest) bytes h =
    let one = and_parts _ _ h in
    let two = and_parts _ _ one.1 in
    let three = and_parts _ _ two.1 in
    let four = and_parts _ _ three.1 in
    let from_p = All-tail (λ b. b < 2 ^ 8) b (p ∷ v ∷ c ∷ rest) bytes in
    let from_v = All-tail (λ b. b < 2 ^ 8) p (v ∷ c ∷ rest) from_p in
    let from_c = All-tail (λ b. b < 2 ^ 8) v (c ∷ rest) from_v in
    record {
      registers = p;
      v = v;
      control = c;
      rest = rest;
      is = ap (λ x. x ∷ p ∷ v ∷ c ∷ rest) (same_byte b 0x62
          (All-head (λ b. b < 2 ^ 8) b (p ∷ v ∷ c ∷ rest) bytes) one.0);
      is_evex = evex_byte p (All-head (λ b. b < 2 ^ 8) p (v ∷ c ∷ rest) from_p) two.0;
      v_small = All-head (λ b. b < 2 ^ 8) v (c ∷ rest) from_v;
      v_is = three.0;
      control_small = All-head (λ b. b < 2 ^ 8) c rest from_c;
      control_is = four.0;
      after = on_relative opcode rest (All-tail (λ b. b < 2 ^ 8) c rest from_c) four.1;
    }

-- bytes that begin with some
pub begin_with : (bs : List ℕ) (ps : List (ℕ × ℕ)) (d : List ℕ) → All (λ b. b < 2 ^ 8) d
    → begins (map byte bs ++ ps) d ≡ true → (rest : List ℕ) × (d ≡ bs ++ rest)
begin_with [] ps d bytes h = (d, refl)
begin_with (b ∷ bs) ps [] bytes h = absurd (false≢true h)
begin_with (b ∷ bs) ps (x ∷ d) bytes h =
    let both = and_parts _ _ h in
    let rest = begin_with bs ps d (All-tail (λ b. b < 2 ^ 8) x d bytes) both.1 in (
      rest.0,
      ap (λ y. y ∷ d) (same_byte x b (All-head (λ b. b < 2 ^ 8) x d bytes) both.0)
          ∙ ap (λ ys. b ∷ ys) rest.1,
    )
