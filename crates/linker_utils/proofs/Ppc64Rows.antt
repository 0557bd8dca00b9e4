-- PowerPC64: what the tests of rows, and the bits that they keep and set, mean.
use Rattle.linker_utils.proofs.Imports.{Bool, IsTrue, access_of, agree_below, agree_below_at, and_block, and_from, and_mask, and_parts, ap, arith, bit_and, bit_or, eq-eqb, eqb-true, false, false≢true, field, inl, inr, is_access, is_among, is_indexed, is_indexed_any, is_indexed_word, is_over_base, is_over_thread, is_store, is_word_access, keeps_base, nat_lt, ne_eqb, not, or_cases, or_left, or_right, or_zero_r, over_base, ra_of, rb_of, refl, rt_of, set_by, sym, true, ℕ, ⊤, ◌%◌, ◌&&◌, ◌*◌, ◌+◌, ◌/◌, ◌<◌, ◌==◌, ◌^◌, ◌||◌, ◌↔◌, ◌∙◌, ◌≡◌, ◌≢◌, ◌⊎◌}
use Rattle.std.proofs.Math.Bool as bools
use Rattle.linker_utils.proofs.RewriteRows.{kept_and_set}
use Rattle.linker_utils.specs.Ppc64Rewrites.{opcode_of}

-- an access over its base by the opcode, the lowest two bits, and whether both registers are the
-- same
abbrev by_opcode : ℕ → ℕ → Bool → Bool
by_opcode op low one =
    op == 14 || (op / 32 == 1 && is_access (op % 32) && not (is_store (op % 32) && one))
    || (op == 58 && (low == 0 || low == 2) || op == 62 && low == 0 && not (true && one))
    || (op == 56 || op == 57 && nat_lt 1 low || op == 61 && not (low == 0))

abbrev by_sets : ℕ → ℕ → Bool → Bool
by_sets op low one =
    is_among (set_by (low % 4) 0x4555155500004000 0x2155155500004000 0x2755155500004000 0x2355155500004000) op
    && not (is_among 0x4000105000000000 op && one)

abbrev agree_of : Bool → ℕ → Bool
agree_of one op = agree_below (λ low. by_opcode op low one) (λ low. by_sets op low one) 4

all_agree : (one : Bool) → agree_below (agree_of one) (λ _. true) 64 ≡ true
all_agree true = refl
all_agree false = refl

agree : (op low : ℕ) (one : Bool) → op < 64 → low < 4 → by_opcode op low one ≡ by_sets op low one
agree op low one small few =
    agree_below_at (λ low. by_opcode op low one) (λ low. by_sets op low one) 4 low (agree_below_at (agree_of one) (λ _. true) 64 op (all_agree one) small) few

-- the tests of an instruction over its base
pub over_base_tests : (w : ℕ) → IsTrue (is_over_base w)
    ↔ ((ra_of w ≢ 0) × (IsTrue (is_among (set_by (field w 0 2 % 4) 0x4555155500004000 0x2155155500004000 0x2755155500004000 0x2355155500004000) (opcode_of w))
    × (IsTrue (not (is_among 0x4000105000000000 (opcode_of w) && rt_of w == ra_of w)) × ⊤)))
over_base_tests w =
    let high : field w 31 32 ≡ opcode_of w / 32 = omega arith in
    let number : field w 26 31 ≡ opcode_of w % 32 = omega arith in
    let small : opcode_of w < 64 = omega arith in
    let few : field w 0 2 < 4 = omega arith in
    let is : is_over_base w ≡ (not (ra_of w == 0) && by_sets (opcode_of w) (field w 0 2) (rt_of w == ra_of w)) =
    rw (high, number) (ap (λ t. not (ra_of w == 0) && t) (agree (opcode_of w) (field w 0 2) (rt_of w == ra_of w) small few)) in (
      λ h. (let parts = and_parts _ _ (sym is ∙ h) in let sets = and_parts _ _ parts.1 in
          ((λ zero. false≢true (sym (ap not (eq-eqb (ra_of w) 0 zero)) ∙ parts.0)), (sets.0, (sets.1, tt)))),
      λ t. is ∙ and_from _ _ (ap not (ne_eqb (ra_of w) 0 t.0)) (and_from _ _ t.1.0 t.1.1.0),
    )

-- indexed accesses by their number and whether both registers are the same
abbrev of_words : ℕ → Bool → Bool
of_words n one = is_word_access n && not (n == 4 && one)

abbrev of_others : ℕ → Bool → Bool
of_others n one = is_access n && not (is_store n && one)

abbrev in_set : ℕ → ℕ → Bool → Bool
in_set set n one = is_among set n && not (is_among 0x1050 n && one)

agree_words : (n : ℕ) (one : Bool) → n < 32 → of_words n one ≡ in_set 0x411 n one
agree_words n true small = agree_below_at (λ n. of_words n true) (λ n. in_set 0x411 n true) 32 n refl small
agree_words n false small = agree_below_at (λ n. of_words n false) (λ n. in_set 0x411 n false) 32 n refl small

agree_others : (n : ℕ) (one : Bool) → n < 32 → of_others n one ≡ in_set 0x551555 n one
agree_others n true small = agree_below_at (λ n. of_others n true) (λ n. in_set 0x551555 n true) 32 n refl small
agree_others n false small = agree_below_at (λ n. of_others n false) (λ n. in_set 0x551555 n false) 32 n refl small

-- the tests of an indexed access, by the set of the lowest six bits
abbrev pub Indexed : Type 0 → ℕ → Type 0
Indexed Low w = (opcode_of w ≡ 31) × ((rb_of w ≡ 13) × ((ra_of w ≢ 0) × (Low
    × (IsTrue (is_among (set_by (field w 2 4 % 4) 0 0 0x411 0x551555) (access_of w))
    × (IsTrue (not (is_among 0x1050 (access_of w) && rt_of w == ra_of w)) × ⊤)))))

over_thread : (w : ℕ) (b : Bool) → (is_over_thread w && b) ≡ true → (opcode_of w ≡ 31) × ((rb_of w ≡ 13) × ((ra_of w ≢ 0) × (b ≡ true)))
over_thread w b h =
    let all = and_parts (is_over_thread w) b h in
    let first = and_parts (opcode_of w == 31 && rb_of w == 13) (not (ra_of w == 0)) all.0 in
    let codes = and_parts (opcode_of w == 31) (rb_of w == 13) first.0 in
    (eqb-true _ _ codes.0, (eqb-true _ _ codes.1, ((λ zero. false≢true (sym (ap not (eq-eqb (ra_of w) 0 zero)) ∙ first.1)), all.1)))

from_thread : (w : ℕ) (b : Bool) → opcode_of w ≡ 31 → rb_of w ≡ 13 → ra_of w ≢ 0 → b ≡ true → (is_over_thread w && b) ≡ true
from_thread w b op rb ra h =
    and_from (is_over_thread w) b
    (and_from (opcode_of w == 31 && rb_of w == 13) (not (ra_of w == 0))
    (and_from _ _ (eq-eqb _ _ op) (eq-eqb _ _ rb)) (ap not (ne_eqb (ra_of w) 0 ra))) h

regrouped : (a b c d : Bool) → (a && b && c && d) ≡ (a && (b && (c && d)))
regrouped a b c d = bools.and_assoc (a && b) c d ∙ bools.and_assoc a b (c && d)

indexed_is : (w low set : ℕ) → field w 2 4 % 4 ≡ low → set_by low 0 0 0x411 0x551555 ≡ set → set_by (field w 2 4 % 4) 0 0 0x411 0x551555 ≡ set
indexed_is w low set at is = ap (λ n. set_by n 0 0 0x411 0x551555) at ∙ is

others : (w : ℕ) → (is_access (access_of w) && keeps_base (is_store (access_of w)) w) ≡ in_set 0x551555 (access_of w) (rt_of w == ra_of w)
others w = let small : access_of w < 32 = omega arith in agree_others (access_of w) (rt_of w == ra_of w) small

words : (w : ℕ) → (is_word_access (access_of w) && keeps_base (access_of w == 4) w) ≡ in_set 0x411 (access_of w) (rt_of w == ra_of w)
words w = let small : access_of w < 32 = omega arith in agree_words (access_of w) (rt_of w == ra_of w) small

pub indexed_tests : (w : ℕ) → IsTrue (is_indexed w) ↔ Indexed (field w 0 6 ≡ 0x2e) w
indexed_tests w = (
  λ h. (let t = over_thread w (field w 0 6 == 0x2e && (is_access (access_of w) && keeps_base (is_store (access_of w)) w)) (sym (regrouped (is_over_thread w) (field w 0 6 == 0x2e) (is_access (access_of w)) (keeps_base (is_store (access_of w)) w)) ∙ h) in
      let l = and_parts _ _ t.1.1.1 in
      let low : field w 0 6 ≡ 0x2e = eqb-true _ _ l.0 in
      let by : field w 2 4 % 4 ≡ 3 = omega (arith, low) in
      let sets = and_parts _ _ (sym (others w) ∙ l.1) in
      (t.0, (t.1.0, (t.1.1.0, (low, (ap (λ n. is_among n (access_of w)) (indexed_is w 3 0x551555 by refl) ∙ sets.0, (sets.1, tt))))))),
  λ t. (let low = t.1.1.1.0 in
      let by : field w 2 4 % 4 ≡ 3 = omega (arith, low) in
      let set = sym (ap (λ n. is_among n (access_of w)) (indexed_is w 3 0x551555 by refl)) ∙ t.1.1.1.1.0 in
      (regrouped (is_over_thread w) (field w 0 6 == 0x2e) (is_access (access_of w)) (keeps_base (is_store (access_of w)) w)) ∙
      from_thread w _ t.0 t.1.0 t.1.1.0 (and_from _ _ (eq-eqb (field w 0 6) 0x2e low) (others w ∙ and_from _ _ set t.1.1.1.1.1.0))),
)

pub indexed_word_tests : (w : ℕ) → IsTrue (is_indexed_word w) ↔ Indexed (field w 0 6 ≡ 0x2a) w
indexed_word_tests w = (
  λ h. (let t = over_thread w (field w 0 6 == 0x2a && (is_word_access (access_of w) && keeps_base (access_of w == 4) w)) (sym (regrouped (is_over_thread w) (field w 0 6 == 0x2a) (is_word_access (access_of w)) (keeps_base (access_of w == 4) w)) ∙ h) in
      let l = and_parts _ _ t.1.1.1 in
      let low : field w 0 6 ≡ 0x2a = eqb-true _ _ l.0 in
      let by : field w 2 4 % 4 ≡ 2 = omega (arith, low) in
      let sets = and_parts _ _ (sym (words w) ∙ l.1) in
      (t.0, (t.1.0, (t.1.1.0, (low, (ap (λ n. is_among n (access_of w)) (indexed_is w 2 0x411 by refl) ∙ sets.0, (sets.1, tt))))))),
  λ t. (let low = t.1.1.1.0 in
      let by : field w 2 4 % 4 ≡ 2 = omega (arith, low) in
      let set = sym (ap (λ n. is_among n (access_of w)) (indexed_is w 2 0x411 by refl)) ∙ t.1.1.1.1.0 in
      (regrouped (is_over_thread w) (field w 0 6 == 0x2a) (is_word_access (access_of w)) (keeps_base (access_of w == 4) w)) ∙
      from_thread w _ t.0 t.1.0 t.1.1.0 (and_from _ _ (eq-eqb (field w 0 6) 0x2a low) (words w ∙ and_from _ _ set t.1.1.1.1.1.0))),
)

pub indexed_any_tests : (w : ℕ) → IsTrue (is_indexed_any w) ↔ Indexed ((field w 0 6 ≡ 0x2a) ⊎ (field w 0 6 ≡ 0x2e)) w
indexed_any_tests w = (
  λ h. elim (or_cases (is_indexed w) (is_indexed_word w) h) [
    | inl is ↦ (let t = (indexed_tests w).0 is in (t.0, (t.1.0, (t.1.1.0, (inr t.1.1.1.0, t.1.1.1.1)))))
    | inr is ↦ (let t = (indexed_word_tests w).0 is in (t.0, (t.1.0, (t.1.1.0, (inl t.1.1.1.0, t.1.1.1.1)))))
  ],
  λ t. elim t.1.1.1.0 [
    | inl low ↦ or_right (is_indexed w) (is_indexed_word w) ((indexed_word_tests w).1 (t.0, (t.1.0, (t.1.1.0, (low, t.1.1.1.1)))))
    | inr low ↦ or_left (is_indexed w) (is_indexed_word w) ((indexed_tests w).1 (t.0, (t.1.0, (t.1.1.0, (low, t.1.1.1.1)))))
  ],
)

pub with_base : (ra w : ℕ) → bit_and 0xffe0ffff (ra * 2 ^ 16) ≡ 0 → bit_or (bit_and w 0xffe0ffff) (ra * 2 ^ 16) ≡ over_base ra w
with_base ra w apart =
    let parts : w ≡ w / 2 ^ 21 * 2 ^ 21 + w % 2 ^ 21 = omega arith in
    let kept : bit_and w 0xffe0ffff ≡ bit_and (w / 2 ^ 21) 0x7ff * 2 ^ 21 + bit_and (w % 2 ^ 21) 0xffff =
    ap (λ n. bit_and n 0xffe0ffff) parts ∙ and_block 21 (w / 2 ^ 21) 0x7ff (w % 2 ^ 21) 0xffff (omega arith) (omega arith) in
    kept_and_set 0xffe0ffff (ra * 2 ^ 16) w apart
    ∙ omega (arith, kept, and_mask (w / 2 ^ 21) 11, and_mask (w % 2 ^ 21) 16)

-- an instruction that is kept whole
pub all_kept : (w : ℕ) → w < 2 ^ 32 → bit_or (bit_and w 0xffffffff) 0 ≡ w
all_kept w small = or_zero_r (bit_and w 0xffffffff) ∙ omega (arith, small, and_mask w 32)
