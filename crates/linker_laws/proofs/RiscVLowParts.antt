-- The instructions that add a low part do the same with x0 as their base.
use Rattle.linker_laws.proofs.Imports.{Action, AreBytes, BitRange, Bool, IType, IsApplied, IsTrue, List, None, Operands, Option, RelocationKind, SType, Some, action_of, adds, adds_word, after_rewrite, agree_below, always_clear, and_parts, ap, arith, bits_taken, cast_signed, cond_both, drop, eqb-true, false, field, from_le_bytes, if◌then◌else◌, inl, inr, int_lt, ints, is_placed, jumps, layout_laid, length, length-drop, loads, loads_float, moved, nat_lt, nat_tests, of_word, pair_row, place_sum, pos, refl, rewritten, riscv_layout, riscv_places, signed, signed_cases, stores, stores_float, sum_64, to_le_bytes, true, value_of, w32, w64, with_action, word_at, word_of_front, ℕ, ℤ, ◌%◌, ◌&&◌, ◌*◌, ◌++◌, ◌+ℤ◌, ◌+◌, ◌-ℤ◌, ◌-◌, ◌<◌, ◌==◌, ◌^◌, ◌||◌, ◌∙◌, ◌≡◌, ◌≤◌, ◌⊎◌}
use Rattle.linker_utils.specs.RiscVRewrites.{rewrites_word, with_rs1, adds_low12}
use Rattle.linker_riscv64.specs.RiscVFields.{funct3_of, opcode_of}
use Rattle.linker_utils.specs.declared.riscv64.rewrites.RewriteKind.{RewriteKind}
use Rattle.linker_utils.specs.declared.riscv64.rewrites.RewriteKind.TheVariants as kinds
use Rattle.linker_laws.proofs.Applied.{value_is, taken_bits}
use Rattle.linker_laws.proofs.RiscVMachine.{wrapped_is, written}
use Rattle.linker_laws.proofs.Words.{kept_field, put_there, word_below, word_of_bytes}

-- ---- which instruction a word is

pub is_action : (x : ℕ) (a : Action) → action_of (opcode_of x) (funct3_of x) ≡ Some a
    → of_word x ≡ with_action x (Some a)
is_action x a is = grind (arith, nat_tests, ap (with_action x) is)

-- each instruction that adds a low part has an action, and is one of 32 bits
abbrev pub HasAction : ℕ → Option Action → Type 0
HasAction o r = (a : Action) × (r ≡ Some a) × (o % 4 ≡ 3)

long_opcode : (o n : ℕ) (b : Bool) → (o == n && b) ≡ true → n % 4 ≡ 3 → o % 4 ≡ 3
long_opcode o n b e long =
    ap (λ k. k % 4) (eqb-true o n (and_parts (o == n) b e).0) ∙ long

either : (o n : ℕ) (b : Bool) (a : Action) (rest : Option Action) → n % 4 ≡ 3
    → ((o == n && b) ≡ false → HasAction o rest) → HasAction o (if o == n && b then Some a else rest)
either o n b a rest long =
    cond_both (o == n && b) (Some a) rest (HasAction o) (λ t. (a, refl, long_opcode o n b t long))

pub some_action : (o f : ℕ) → IsTrue (adds_low12 o f) → HasAction o (action_of o f)
some_action o f is =
    either o 0x13 (f == 0) adds _ refl (λ a. either o 0x1b (f == 0) adds_word _ refl (λ b.
    either o 0x67 (f == 0) jumps _ refl (λ c. either o 0x03 (nat_lt f 7) (loads f) _ refl (λ d.
    either o 0x23 (nat_lt f 4) (stores f) _ refl (λ e.
    either o 0x07 (nat_lt 0 f && nat_lt f 5) (loads_float f) _ refl (λ g.
    either o 0x27 (nat_lt 0 f && nat_lt f 5) (stores_float f) None refl (λ i.
    absurd (none_left (o == 0x13) (o == 0x1b) (o == 0x67) (f == 0) (o == 0x03) (nat_lt f 7)
    (o == 0x23) (nat_lt f 4) (o == 0x07) (o == 0x27) (nat_lt 0 f) (nat_lt f 5) is a b c d e g i))))))))
  where
    none_left : (p q r z l l7 s s4 m n some few : Bool)
        → IsTrue ((p || q || r) && z || l && l7 || s && s4 || (m || n) && some && few)
        → (p && z) ≡ false → (q && z) ≡ false → (r && z) ≡ false → (l && l7) ≡ false
        → (s && s4) ≡ false → (m && (some && few)) ≡ false → (n && (some && few)) ≡ false → ⊥
    none_left p q r z l l7 s s4 m n some few is a b c d e g i = grind arith

-- ---- the sum

-- the signed low 12 bits of a number of 12 bits add the number
pub low_sum : (v n l : ℕ) → n < 2 ^ 64 → (n < 0x800) ⊎ (2 ^ 64 - 0x800 ≤ n) → l ≡ n % 2 ^ 32 % 4096
    → moved v (signed 12 l) ≡ sum_64 v n
low_sum v n l small low e =
    elim (signed_cases 12 l) [
      | inl a ↦ ap (moved v) a.1 ∙ (let i = a.0 in elim low [
        | inl near ↦ wrapped_is (pos v +ℤ pos l) 0 (v + n) (omega (arith, ints))
        | inr far ↦ absurd (omega arith)
      ])
      | inr a ↦ ap (moved v) a.1 ∙ (let i = a.0 in elim low [
        | inl near ↦ absurd (omega arith)
        | inr far ↦ wrapped_is (pos v +ℤ (pos l -ℤ pos (2 ^ 12))) 1 (v + n) (omega (arith, ints))
      ])
    ]

-- what stands in the instruction once its relocation of a number is applied
module _ (kind : RelocationKind) (x : Operands) (n : ℕ) (before code : List ℕ)
    (applied : IsApplied (pair_row kind 32 IType) x before code) (small : n < 2 ^ 64)
    (is : value_of (pair_row kind 32 IType) x ≡ Some (cast_signed w64 n)) where
  pub i_stands : place_sum (riscv_places IType) (from_le_bytes w32 code) ≡ n % 2 ^ 32 % 4096
  i_stands =
      let bits : BitRange = record { start = 0; end = 32 } in
      let v = bits_taken bits applied.value in
      let taken : v ≡ n % 2 ^ 32 =
      taken_bits bits n applied.value small
      (value_is (pair_row kind 32 IType) x before code applied (cast_signed w64 n) is)
      ∙ (let e : field n 0 32 ≡ n % 2 ^ 32 = omega arith in e) in
      layout_laid (riscv_layout IType) refl v (int_lt applied.value (pos 0)) applied.written.clear
      (from_le_bytes w32 code) (omega (arith, taken)) applied.written.written
      (always_clear (riscv_places IType) applied.written.clear refl)
      ∙ ap (λ t. (t - t % 2 ^ 0) % 2 ^ 12) taken ∙ omega arith

  pub i_kept : (s n : ℕ)
      → agree_below (λ i. is_placed (riscv_places IType) (s + i)) (λ _. false) n ≡ true
      → field (from_le_bytes w32 code) s (s + n) ≡ field (from_le_bytes w32 before) s (s + n)
  i_kept s n check =
      kept_field IType (record { start = 0; end = 32 }) applied.value before code applied.written
      (λ b w. refl) s n check

module _ (kind : RelocationKind) (x : Operands) (n : ℕ) (before code : List ℕ)
    (applied : IsApplied (pair_row kind 32 SType) x before code) (small : n < 2 ^ 64)
    (is : value_of (pair_row kind 32 SType) x ≡ Some (cast_signed w64 n)) where
  pub s_stands : place_sum (riscv_places SType) (from_le_bytes w32 code) ≡ n % 2 ^ 32 % 4096
  s_stands =
      let bits : BitRange = record { start = 0; end = 32 } in
      let v = bits_taken bits applied.value in
      let taken : v ≡ n % 2 ^ 32 =
      taken_bits bits n applied.value small
      (value_is (pair_row kind 32 SType) x before code applied (cast_signed w64 n) is)
      ∙ (let e : field n 0 32 ≡ n % 2 ^ 32 = omega arith in e) in
      layout_laid (riscv_layout SType) refl v (int_lt applied.value (pos 0)) applied.written.clear
      (from_le_bytes w32 code) (omega (arith, taken)) applied.written.written
      (always_clear (riscv_places SType) applied.written.clear refl)
      ∙ ap (λ t. (t - t % 2 ^ 0) % 2 ^ 12) taken ∙ omega arith

  pub s_kept : (s n : ℕ)
      → agree_below (λ i. is_placed (riscv_places SType) (s + i)) (λ _. false) n ≡ true
      → field (from_le_bytes w32 code) s (s + n) ≡ field (from_le_bytes w32 before) s (s + n)
  s_kept s n check =
      kept_field SType (record { start = 0; end = 32 }) applied.value before code applied.written
      (λ b w. refl) s n check

-- ---- the word with another base

pub clear_0 : (w b : ℕ) → field (with_rs1 b w) 0 7 ≡ field w 0 7
clear_0 w b = omega arith

pub clear_7 : (w b : ℕ) → field (with_rs1 b w) 7 12 ≡ field w 7 12
clear_7 w b = omega arith

pub clear_12 : (w b : ℕ) → field (with_rs1 b w) 12 15 ≡ field w 12 15
clear_12 w b = omega arith

pub clear_15 : (w b : ℕ) → b < 32 → field (with_rs1 b w) 15 20 ≡ b
clear_15 w b small = omega arith

pub clear_20 : (w b : ℕ) → b < 32 → field (with_rs1 b w) 20 25 ≡ field w 20 25
clear_20 w b small = omega arith

-- what a rewrite of a word puts there
pub word_there : (section : List ℕ) (o : ℕ) (new : ℕ → ℕ) → o + 4 ≤ length section
    → new (word_at section o) < 2 ^ 32
    → from_le_bytes w32 (drop o (rewritten (Some (rewrites_word new)) section o))
    ≡ new (word_at section o)
word_there section o new inside small =
    ap (from_le_bytes w32)
    (put_there section o 4 (λ window. to_le_bytes w32 (new (from_le_bytes w32 window)))
    (omega arith))
    ∙ ap (λ w. from_le_bytes w32 (to_le_bytes w32 (new w) ++ drop (o + 4) section))
    (word_of_front (drop o section))
    ∙ word_of_bytes (new (word_at section o)) (drop (o + 4) section) small

pub based_there : (section : List ℕ) (o b : ℕ) → b < 32 → o + 4 ≤ length section
    → AreBytes (drop o section)
    → from_le_bytes w32 (drop o (rewritten (Some (rewrites_word (with_rs1 b))) section o))
    ≡ with_rs1 b (word_at section o)
based_there section o b small inside bytes =
    let word = word_at section o in
    let below : word < 2 ^ 32 = word_below (drop o section) bytes
    (omega (arith, length-drop o section)) in
    word_there section o (with_rs1 b) inside (omega arith)

-- x0 and the thread pointer as the base
abbrev pub IsBased : RewriteKind → ℕ → Type 0
IsBased k b =
    (section : List ℕ) (o : ℕ) → o + 4 ≤ length section → AreBytes (drop o section)
    → from_le_bytes w32 (drop o (after_rewrite k section o)) ≡ with_rs1 b (word_at section o)

pub over_zero : IsBased kinds.Lo12Rs1ToZero 0
over_zero section o inside bytes =
    let word = word_at section o in
    let below : word < 2 ^ 32 = word_below (drop o section) bytes
    (omega (arith, length-drop o section)) in
    word_there section o (λ w. w - field w 15 20 * 2 ^ 15) inside (omega arith)
    ∙ omega arith

pub over_tp : IsBased kinds.BaseToTp 4
over_tp section o inside bytes = based_there section o 4 (omega arith) inside bytes
