-- Words of AArch64 to which a relocation was applied, and which instructions they are.
use Rattle.linker_laws.proofs.Imports.{AArch64, Add, Adr, BitRange, BitsWritten, Bool, ImmediateBit, InstructionWritten, IsAdrp, IsLdr64, JumpCall, LdSt, LdrRegister, List, Movkz, Movnz, [], add, adr, adrp, and_parts, ap, arith, b, bit_and, bit_at, bit_at-lt, bit_at_and, bit_at_ones, bit_at_run, bits_taken, bl, blr, cond-false, cond-true, eq-eqb, eqb, eqb-true, false, field, from_le_bytes, high_kept, imm16_places, inl, inr, int_lt, is_adr, is_placed, ldr, leb, leb-true, ltb, ltb-true, min, move_opcode, moved_bits, movk_64, movk_opcode, movn_opcode, movz_opcode, ne_eqb, or_bits_to, or_cases, or_from, ored_cleared, pos, rd_of, refl, rn_of, same_fields, same_window, shift_of, subst, sym, true, w32, with_bit_31_if, ℕ, ℤ, ◌%◌, ◌&&◌, ◌*◌, ◌++◌, ◌+◌, ◌-◌, ◌/◌, ◌<◌, ◌^◌, ◌||◌, ◌∙◌, ◌∷◌, ◌≡◌, ◌≢◌, ◌≤◌}
use Rattle.linker_elf.specs.Inner.Runs.{words_below}
use Rattle.linker_laws.specs.AArch64Machine.{decode, Instruction, movn_or_movz}

-- ---- what a write keeps

-- no place is one of bits s and up, below bit e
abbrev pub is_outside : ℕ → ℕ → List ImmediateBit → Bool
is_outside s e [] = true
is_outside s e (p ∷ ps) = (ltb p.insn_bit s || leb e p.insn_bit) && is_outside s e ps

outside : (ps : List ImmediateBit) (s e w : ℕ) → is_outside s e ps ≡ true → s ≤ w → w < e
    → is_placed ps w ≡ false
outside [] s e w h from to = refl
outside (p ∷ ps) s e w h from to =
    let parts = and_parts (ltb p.insn_bit s || leb e p.insn_bit) (is_outside s e ps) h in
    or_from (eqb p.insn_bit w) (is_placed ps w)
    (ne_eqb p.insn_bit w (λ same. elim (or_cases (ltb p.insn_bit s) (leb e p.insn_bit) parts.0) [
      | inl below ↦ let l = ltb-true p.insn_bit s below in absurd (omega arith)
      | inr above ↦ let l = leb-true e p.insn_bit above in absurd (omega arith)
    ]))
    (outside ps s e w parts.1 from to)

-- Two writes, of which the first clears places.
module _ (qs ps : List ImmediateBit) (u v before clear after : ℕ)
    (clears : BitsWritten qs u before clear) (written : BitsWritten ps v clear after) where
  pub field_kept : (s e : ℕ) → is_outside s e qs ≡ true → is_outside s e ps ≡ true
      → field after s e ≡ field before s e
  field_kept s e first second =
      same_fields after before s e (λ w from to.
      written.kept w (outside ps s e w second from to)
      ∙ clears.kept w (outside qs s e w first from to))

  pub top_kept : (n : ℕ) → words_below n qs ≡ true → words_below n ps ≡ true
      → after / 2 ^ n ≡ before / 2 ^ n
  top_kept n first second =
      high_kept ps v clear after written n second ∙ high_kept qs u before clear clears n first

-- ---- bits that a mask tests

pub masked_field : (x m r s e : ℕ) → bit_and x m ≡ r → field m s e ≡ 2 ^ (e - s) - 1
    → field x s e ≡ field r s e
masked_field x m r s e tested ones =
    same_fields x r s e (λ w from to.
    let set : bit_at m w ≡ 1 =
    subst (λ i. bit_at m i ≡ 1) (let whole : s + (w - s) ≡ w = omega arith in whole)
    (sym (bit_at_run m s (e - s) (w - s) (omega arith)) ∙ ap (λ n. bit_at n (w - s)) ones
    ∙ bit_at_ones (e - s) (w - s) (omega arith)) in
    let small = bit_at-lt x w in
    let one : min (bit_at x w) 1 ≡ bit_at x w = omega arith in
    sym (ap (λ n. bit_at n w) (sym tested) ∙ bit_at_and x m w ∙ ap (λ b. min (bit_at x w) b) set
    ∙ one))

-- the bits of a word where a mask has ones
pub unmasked_field : (x m s e : ℕ) → field m s e ≡ 2 ^ (e - s) - 1
    → field (bit_and x m) s e ≡ field x s e
unmasked_field x m s e ones = sym (masked_field x m (bit_and x m) s e refl ones)

-- a bit where the mask has 1, and one where it has 0
kept_bit : (x m i : ℕ) → bit_at m i ≡ 1 → bit_at (bit_and x m) i ≡ bit_at x i
kept_bit x m i set =
    let small = bit_at-lt x i in
    bit_at_and x m i ∙ ap (min (bit_at x i)) set
    ∙ (let e : min (bit_at x i) 1 ≡ bit_at x i = omega arith in e)

cleared_bit : (x m i : ℕ) → bit_at m i ≡ 0 → bit_at (bit_and x m) i ≡ 0
cleared_bit x m i clear =
    bit_at_and x m i ∙ ap (min (bit_at x i)) clear
    ∙ (let e : min (bit_at x i) 0 ≡ 0 = omega arith in e)

-- A word made ADR: its opcode, and its register.
pub record IsMadeAdr (x made : ℕ) : Type 0 where
  pub opcode : field made 24 29 ≡ 0x10
  pub top : bit_at made 31 ≡ 0
  pub rd_is : rd_of made ≡ rd_of x

pub adr_of_adrp : (x : ℕ) → field x 24 29 ≡ 0x10 → IsMadeAdr x (bit_and x 0x7fffffff)
adr_of_adrp x op =
    record {
      opcode = unmasked_field x 0x7fffffff 24 29 refl ∙ op;
      top = cleared_bit x 0x7fffffff 31 refl;
      rd_is = unmasked_field x 0x7fffffff 0 5 refl;
    }

-- ADD and LDR have 1 in bit 28, and 0 in bits 25 and 26.
pub adr_of_page : (x : ℕ) → bit_at x 28 ≡ 1 → bit_at x 26 ≡ 0 → bit_at x 25 ≡ 0
    → IsMadeAdr x (bit_and x 0x76ffffff)
adr_of_page x b28 b26 b25 =
    let y = bit_and x 0x76ffffff in
    let h : bit_at y 28 ≡ 1 = kept_bit x 0x76ffffff 28 refl ∙ b28 in
    let i : bit_at y 27 ≡ 0 = cleared_bit x 0x76ffffff 27 refl in
    let j : bit_at y 26 ≡ 0 = kept_bit x 0x76ffffff 26 refl ∙ b26 in
    let k : bit_at y 25 ≡ 0 = kept_bit x 0x76ffffff 25 refl ∙ b25 in
    let l : bit_at y 24 ≡ 0 = cleared_bit x 0x76ffffff 24 refl in
    record {
      opcode = five y h i j k l;
      top = cleared_bit x 0x76ffffff 31 refl;
      rd_is = unmasked_field x 0x76ffffff 0 5 refl;
    }
  where
    five : (y : ℕ) → bit_at y 28 ≡ 1 → bit_at y 27 ≡ 0 → bit_at y 26 ≡ 0 → bit_at y 25 ≡ 0
        → bit_at y 24 ≡ 0 → field y 24 29 ≡ 0x10
    five y h i j k l = omega arith

-- ---- which instruction a word is

not_adr : (k x : ℕ) → field x 24 29 ≢ 0x10 → is_adr k x ≡ false
not_adr k x differs = ap (λ t. t && eqb (bit_at x 31) k) (ne_eqb _ _ differs)

is_adr_of : (k x : ℕ) → field x 24 29 ≡ 0x10 → bit_at x 31 ≡ k → is_adr k x ≡ true
is_adr_of k x op bit =
    ap (λ t. eqb t 0x10 && eqb (bit_at x 31) k) op
    ∙ eq-eqb _ _ bit

pub decodes_adrp : (x : ℕ) → field x 24 29 ≡ 0x10 → bit_at x 31 ≡ 1 → decode x ≡ adrp
decodes_adrp x op bit = cond-true _ _ _ (is_adr_of 1 x op bit)

pub decodes_adr : (x : ℕ) → field x 24 29 ≡ 0x10 → bit_at x 31 ≡ 0 → decode x ≡ adr
decodes_adr x op bit =
    cond-false _ _ _ (ap (λ b. eqb (field x 24 29) 0x10 && eqb b 1) bit
    ∙ ap (λ t. eqb t 0x10 && false) op)
    ∙ cond-true _ _ _ (is_adr_of 0 x op bit)

pub decodes_add : (x : ℕ) → field x 22 32 ≡ 0x244 → decode x ≡ add
decodes_add x op =
    let differs : field x 24 29 ≢ 0x10 = λ e. omega arith in
    cond-false _ _ _ (not_adr 1 x differs) ∙ cond-false _ _ _ (not_adr 0 x differs)
    ∙ cond-true _ _ _ (ap (λ t. eqb t 0x244) op)

pub decodes_ldr : (x : ℕ) → x / 2 ^ 22 ≡ 0x3e5 → decode x ≡ ldr
decodes_ldr x op =
    let differs : field x 24 29 ≢ 0x10 = λ e. omega arith in
    cond-false _ _ _ (not_adr 1 x differs) ∙ cond-false _ _ _ (not_adr 0 x differs)
    ∙ cond-false _ _ _ (ne_eqb (field x 22 32) 0x244 (λ e. omega arith))
    ∙ cond-true _ _ _ (ap (λ t. eqb t 0x3e5) op)

-- ---- words after a relocation

-- a word is such an instruction, with such a destination and first source
pub record IsInstructionOf (kind : Instruction) (rd rn : ℕ) (word : ℕ) : Type 0 where
  pub decodes : decode word ≡ kind
  pub rd_is : rd_of word ≡ rd
  pub rn_is : rn_of word ≡ rn

-- the 12 bits of ADD and of loads
abbrev pub places_12 : List ImmediateBit
places_12 = or_bits_to 0 11 10

-- the 21 bits of ADR and ADRP
abbrev pub places_21 : List ImmediateBit
places_21 = or_bits_to 0 1 29 ++ or_bits_to 2 20 5

-- a word after a write of ADR, whose register and opcode the old one has
pub record IsAdrOf (bit_31 rd : ℕ) (word : ℕ) : Type 0 where
  pub opcode : field word 24 29 ≡ 0x10
  pub top : bit_at word 31 ≡ bit_31
  pub rd_is : rd_of word ≡ rd

pub adr_after : (k : ℕ) (bits : BitRange) (v : ℤ) (before after : List ℕ)
    → InstructionWritten (AArch64 Adr) bits v before after
    → field (from_le_bytes w32 before) 24 29 ≡ 0x10 → bit_at (from_le_bytes w32 before) 31 ≡ k
    → IsAdrOf k (rd_of (from_le_bytes w32 before)) (from_le_bytes w32 after)
adr_after k bits v before after w op top =
    let kept = field_kept (ored_cleared places_21) places_21 _ _ _ _ _ w.clears w.written in
    record {
      opcode = kept 24 29 refl refl ∙ op;
      top = w.written.kept 31 refl ∙ w.clears.kept 31 refl ∙ top;
      rd_is = kept 0 5 refl refl;
    }

pub adrp_after : (bits : BitRange) (v : ℤ) (before after : List ℕ)
    → InstructionWritten (AArch64 Adr) bits v before after → IsAdrp (from_le_bytes w32 before)
    → IsAdrOf 1 (rd_of (from_le_bytes w32 before)) (from_le_bytes w32 after)
adrp_after bits v before after w is =
    let x = from_le_bytes w32 before in
    let top : field x 31 32 ≡ 1 = masked_field x 0x9f000000 0x90000000 31 32 is refl in
    adr_after 1 bits v before after w (masked_field x 0x9f000000 0x90000000 24 29 is refl)
    (let bit : bit_at x 31 ≡ 1 = omega arith in bit)

pub add_after : (bits : BitRange) (v : ℤ) (before after : List ℕ)
    → InstructionWritten (AArch64 Add) bits v before after
    → field (from_le_bytes w32 before) 22 32 ≡ 0x244
    → IsInstructionOf add (rd_of (from_le_bytes w32 before)) (rn_of (from_le_bytes w32 before))
    (from_le_bytes w32 after)
add_after bits v before after w op =
    let kept = field_kept (ored_cleared places_12) places_12 _ _ _ _ _ w.clears w.written in
    record {
      decodes = decodes_add _ (kept 22 32 refl refl ∙ op);
      rd_is = kept 0 5 refl refl;
      rn_is = kept 5 10 refl refl;
    }

-- with the places of a load's 12 bits
loaded_after : (u v before clear after : ℕ) → BitsWritten (ored_cleared places_12) u before clear
    → BitsWritten places_12 v clear after → IsLdr64 before
    → IsInstructionOf ldr (rd_of before) (rn_of before) after
loaded_after u v before clear after clears written is =
    let kept = field_kept (ored_cleared places_12) places_12 _ _ _ _ _ clears written in
    record {
      decodes = decodes_ldr _
          (top_kept (ored_cleared places_12) places_12 _ _ _ _ _ clears written 22 refl refl
          ∙ eqb-true _ _ is);
      rd_is = kept 0 5 refl refl;
      rn_is = kept 5 10 refl refl;
    }

pub ldr_after : (bits : BitRange) (v : ℤ) (before after : List ℕ)
    → InstructionWritten (AArch64 LdSt) bits v before after → IsLdr64 (from_le_bytes w32 before)
    → IsInstructionOf ldr (rd_of (from_le_bytes w32 before)) (rn_of (from_le_bytes w32 before))
    (from_le_bytes w32 after)
ldr_after bits v before after w is = loaded_after _ _ _ _ _ w.clears w.written is

pub ldr_of_register_after : (bits : BitRange) (v : ℤ) (before after : List ℕ)
    → InstructionWritten (AArch64 LdrRegister) bits v before after
    → IsLdr64 (from_le_bytes w32 before)
    → IsInstructionOf ldr (rd_of (from_le_bytes w32 before)) (rn_of (from_le_bytes w32 before))
    (from_le_bytes w32 after)
ldr_of_register_after bits v before after w is = loaded_after _ _ _ _ _ w.clears w.written is

-- the same with other names of the registers
pub adr_of_register : {k rd n word : ℕ} → rd ≡ n → IsAdrOf k rd word → IsAdrOf k n word
adr_of_register e is = record { opcode = is.opcode; top = is.top; rd_is = is.rd_is ∙ e }

pub of_registers : {kind : Instruction} {rd rn d n word : ℕ} → rd ≡ d → rn ≡ n
    → IsInstructionOf kind rd rn word → IsInstructionOf kind d n word
of_registers e e2 is = record { decodes = is.decodes; rd_is = is.rd_is ∙ e; rn_is = is.rn_is ∙ e2 }

-- ---- moves

decodes_move : (x : ℕ) → x / 2 ^ 23 ≡ movn_opcode → decode x ≡ movn_or_movz
decodes_move x op =
    let differs : field x 24 29 ≢ 0x10 = λ e. omega arith in
    cond-false _ _ _ (not_adr 1 x differs) ∙ cond-false _ _ _ (not_adr 0 x differs)
    ∙ cond-false _ _ _ (ne_eqb (field x 22 32) 0x244 (λ e. omega arith))
    ∙ cond-false _ _ _ (ne_eqb (x / 2 ^ 22) 0x3e5 (λ e. omega arith))
    ∙ cond-true _ _ _ (ap (λ t. eqb t movn_opcode) op)

decodes_movz : (x : ℕ) → x / 2 ^ 23 ≡ movz_opcode → decode x ≡ movn_or_movz
decodes_movz x op =
    let differs : field x 24 29 ≢ 0x10 = λ e. omega arith in
    cond-false _ _ _ (not_adr 1 x differs) ∙ cond-false _ _ _ (not_adr 0 x differs)
    ∙ cond-false _ _ _ (ne_eqb (field x 22 32) 0x244 (λ e. omega arith))
    ∙ cond-false _ _ _ (ne_eqb (x / 2 ^ 22) 0x3e5 (λ e. omega arith))
    ∙ cond-false _ _ _ (ne_eqb (x / 2 ^ 23) movn_opcode (λ e. omega arith))
    ∙ cond-true _ _ _ (ap (λ t. eqb t movz_opcode) op)

pub decodes_movk : (x : ℕ) → x / 2 ^ 23 ≡ movk_opcode → decode x ≡ movk_64
decodes_movk x op =
    let differs : field x 24 29 ≢ 0x10 = λ e. omega arith in
    cond-false _ _ _ (not_adr 1 x differs) ∙ cond-false _ _ _ (not_adr 0 x differs)
    ∙ cond-false _ _ _ (ne_eqb (field x 22 32) 0x244 (λ e. omega arith))
    ∙ cond-false _ _ _ (ne_eqb (x / 2 ^ 22) 0x3e5 (λ e. omega arith))
    ∙ cond-false _ _ _ (ne_eqb (x / 2 ^ 23) movn_opcode (λ e. omega arith))
    ∙ cond-false _ _ _ (ne_eqb (x / 2 ^ 23) movz_opcode (λ e. omega arith))
    ∙ cond-true _ _ _ (ap (λ t. eqb t movk_opcode) op)

-- a MOVN or MOVZ of 64 bits after a write, which sets the opcode
move_by_sign : (neg : Bool) (n x base : ℕ)
    → BitsWritten imm16_places n (move_opcode neg * 2 ^ 23 + base % 2 ^ 23) x
    → decode x ≡ movn_or_movz
move_by_sign true n x base written =
    let top : x / 2 ^ 23 ≡ (movn_opcode * 2 ^ 23 + base % 2 ^ 23) / 2 ^ 23 =
    high_kept imm16_places n (movn_opcode * 2 ^ 23 + base % 2 ^ 23) x written 23 refl in
    decodes_move x (omega arith)
move_by_sign false n x base written =
    let top : x / 2 ^ 23 ≡ (movz_opcode * 2 ^ 23 + base % 2 ^ 23) / 2 ^ 23 =
    high_kept imm16_places n (movz_opcode * 2 ^ 23 + base % 2 ^ 23) x written 23 refl in
    decodes_movz x (omega arith)

pub record IsMove (kind : Instruction) (rd : ℕ) (word : ℕ) : Type 0 where
  pub decodes : decode word ≡ kind
  pub rd_is : rd_of word ≡ rd

pub movnz_after : (bits : BitRange) (v : ℤ) (before after : List ℕ)
    → InstructionWritten (AArch64 Movnz) bits v before after
    → bit_at (from_le_bytes w32 before) 31 ≡ 1
    → IsMove movn_or_movz (rd_of (from_le_bytes w32 before)) (from_le_bytes w32 after)
movnz_after bits v before after w wide =
    let x = from_le_bytes w32 after in
    let neg = int_lt v (pos 0) in
    let base = move_opcode neg * 2 ^ 23 + w.clear % 2 ^ 23 in
    let same = same_window 0 (from_le_bytes w32 before) w.clear w.clears in
    let n = moved_bits neg (bits_taken bits v) in
    let written : BitsWritten imm16_places n base x =
    subst (λ b. BitsWritten imm16_places n base (with_bit_31_if (eqb b 0) x)) wide w.written in
    let low : field x 0 5 ≡ field base 0 5 =
    same_fields x base 0 5
    (λ i from to. written.kept i (outside imm16_places 0 5 i refl from to)) in
    record {
      decodes = move_by_sign neg n x w.clear written;
      rd_is = low ∙ (let e : field base 0 5 ≡ field w.clear 0 5 = omega arith in e) ∙ ap rd_of same;
    }

pub record IsMovk (shift rd : ℕ) (word : ℕ) : Type 0 where
  pub decodes : decode word ≡ movk_64
  pub rd_is : rd_of word ≡ rd
  pub shift_is : shift_of word ≡ shift

-- `movk xN` without a shift
pub movk_after : (bits : BitRange) (v : ℤ) (before after : List ℕ)
    → InstructionWritten (AArch64 Movkz) bits v before after
    → from_le_bytes w32 before / 2 ^ 21 ≡ 0x794
    → IsMovk 0 (rd_of (from_le_bytes w32 before)) (from_le_bytes w32 after)
movk_after bits v before after w op =
    let places = or_bits_to 0 15 5 in
    let top =
    top_kept (ored_cleared places) places _ _ _ _ _ w.clears w.written 21 refl refl ∙ op in
    let x = from_le_bytes w32 after in
    record {
      decodes = decodes_movk x (let e : x / 2 ^ 23 ≡ movk_opcode = omega arith in e);
      rd_is = field_kept (ored_cleared places) places _ _ _ _ _ w.clears w.written 0 5 refl refl;
      shift_is = let e : shift_of x ≡ 0 = omega arith in e;
    }

-- ---- branches

-- the opcode of a branch after a write
pub branch_after : (bits : BitRange) (v : ℤ) (before after : List ℕ)
    → InstructionWritten (AArch64 JumpCall) bits v before after
    → from_le_bytes w32 after / 2 ^ 26 ≡ from_le_bytes w32 before / 2 ^ 26
branch_after bits v before after w =
    let places = or_bits_to 0 25 0 in
    top_kept (ored_cleared places) places _ _ _ _ _ w.clears w.written 26 refl refl

pub decodes_blr : (x : ℕ) → x / 2 ^ 10 ≡ 0x358fc0 → rd_of x ≡ 0 → decode x ≡ blr
decodes_blr x op rd =
    let differs : field x 24 29 ≢ 0x10 = λ e. omega arith in
    cond-false _ _ _ (not_adr 1 x differs) ∙ cond-false _ _ _ (not_adr 0 x differs)
    ∙ cond-false _ _ _ (ne_eqb (field x 22 32) 0x244 (λ e. omega arith))
    ∙ cond-false _ _ _ (ne_eqb (x / 2 ^ 22) 0x3e5 (λ e. omega arith))
    ∙ cond-false _ _ _ (ne_eqb (x / 2 ^ 23) movn_opcode (λ e. omega arith))
    ∙ cond-false _ _ _ (ne_eqb (x / 2 ^ 23) movz_opcode (λ e. omega arith))
    ∙ cond-false _ _ _ (ne_eqb (x / 2 ^ 23) movk_opcode (λ e. omega arith))
    ∙ cond-false _ _ _ (ne_eqb x 0xd503201f (λ e. omega arith))
    ∙ cond-true _ _ _ (ap (λ t. eqb t 0x358fc0 && eqb (rd_of x) 0) op ∙ ap (λ t. eqb t 0) rd)

-- `blr xN`
pub record IsBlr (n : ℕ) (word : ℕ) : Type 0 where
  pub decodes : decode word ≡ blr
  pub rn_is : rn_of word ≡ n

pub blr_of : (n word : ℕ) → n < 32 → word ≡ 0xd63f0000 + n * 2 ^ 5 → IsBlr n word
blr_of n word small is =
    record {
      decodes = decodes_blr word (omega arith) (let e : rd_of word ≡ 0 = omega arith in e);
      rn_is = let e : rn_of word ≡ n = omega arith in e;
    }

pub decodes_bl : (x : ℕ) → x / 2 ^ 26 ≡ 0x25 → decode x ≡ bl
decodes_bl x op =
    let differs : field x 24 29 ≢ 0x10 = λ e. omega arith in
    cond-false _ _ _ (not_adr 1 x differs) ∙ cond-false _ _ _ (not_adr 0 x differs)
    ∙ cond-false _ _ _ (ne_eqb (field x 22 32) 0x244 (λ e. omega arith))
    ∙ cond-false _ _ _ (ne_eqb (x / 2 ^ 22) 0x3e5 (λ e. omega arith))
    ∙ cond-false _ _ _ (ne_eqb (x / 2 ^ 23) movn_opcode (λ e. omega arith))
    ∙ cond-false _ _ _ (ne_eqb (x / 2 ^ 23) movz_opcode (λ e. omega arith))
    ∙ cond-false _ _ _ (ne_eqb (x / 2 ^ 23) movk_opcode (λ e. omega arith))
    ∙ cond-false _ _ _ (ne_eqb x 0xd503201f (λ e. omega arith))
    ∙ cond-false _ _ _ (ap (λ t. t && eqb (rd_of x) 0)
    (ne_eqb (x / 2 ^ 10) 0x358fc0 (λ e. omega arith)))
    ∙ cond-true _ _ _ (ap (λ t. eqb t 0x25) op)

pub decodes_b : (x : ℕ) → x / 2 ^ 26 ≡ 5 → decode x ≡ b
decodes_b x op =
    let differs : field x 24 29 ≢ 0x10 = λ e. omega arith in
    cond-false _ _ _ (not_adr 1 x differs) ∙ cond-false _ _ _ (not_adr 0 x differs)
    ∙ cond-false _ _ _ (ne_eqb (field x 22 32) 0x244 (λ e. omega arith))
    ∙ cond-false _ _ _ (ne_eqb (x / 2 ^ 22) 0x3e5 (λ e. omega arith))
    ∙ cond-false _ _ _ (ne_eqb (x / 2 ^ 23) movn_opcode (λ e. omega arith))
    ∙ cond-false _ _ _ (ne_eqb (x / 2 ^ 23) movz_opcode (λ e. omega arith))
    ∙ cond-false _ _ _ (ne_eqb (x / 2 ^ 23) movk_opcode (λ e. omega arith))
    ∙ cond-false _ _ _ (ne_eqb x 0xd503201f (λ e. omega arith))
    ∙ cond-false _ _ _ (ap (λ t. t && eqb (rd_of x) 0)
    (ne_eqb (x / 2 ^ 10) 0x358fc0 (λ e. omega arith)))
    ∙ cond-false _ _ _ (ne_eqb (x / 2 ^ 26) 0x25 (λ e. omega arith))
    ∙ cond-true _ _ _ (ap (λ t. eqb t 5) op)
