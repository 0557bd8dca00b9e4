-- What the writes of a sequence leave, instruction by instruction.
use Rattle.linker_elf.proofs.Imports.{All-drop, BitsWritten, ImmediateBit, IsKeptOutside, IsSetAt, List, MakesAddress, agree_below_at, and_right, ap, arith, bit_at, bit_for, bit_looked_up, cases_lt, drop, drop-take, false, field, from_le_bytes, inl, inr, instruction, is_placed, le-leb, le-ltb, leb, length, lt-leb, lt-ltb, ltb, or_bits_to, ored_kept, placed_bit, refl, same_fields, subst, sym, take, true, w32, ℕ, ◌&&◌, ◌+◌, ◌-◌, ◌<◌, ◌^◌, ◌∙◌, ◌≡◌, ◌≤◌}
use Rattle.std.proofs.lemmas.Slice.{between-put_mid, take-put_mid_below, drop-put_mid}
use borrow.Rule.Slice.PartMut.{put_mid}
use Rattle.linker_elf.proofs.LoongArch.{shift5_places, shift10_places}
use Rattle.linker_elf.proofs.LoongArchAddresses.{first_of_five, high_of_five, five_from, made}
use Rattle.linker_base.proofs.Words.{word_of_front}

-- ---- the instruction in a list of bytes

instruction_of_front : (k : ℕ) (xs ys : List ℕ) → take (k + 4) xs ≡ take (k + 4) ys → instruction xs k ≡ instruction ys k
instruction_of_front k xs ys e =
    sym (word_of_front (drop k xs))
    ∙ ap (from_le_bytes w32) (sym (drop-take k 4 xs) ∙ ap (drop k) e ∙ drop-take k 4 ys)
    ∙ word_of_front (drop k ys)

-- four bytes put at a byte
module _ (s e at v : ℕ) (before sub : List ℕ) (inside : at + 4 ≤ length before) (long : length sub ≡ at + 4 - at) where
  after : List ℕ
  after = put_mid at (at + 4 - at) before sub

  four : at + 4 - at ≡ 4
  four = omega arith

  word_after : instruction after at ≡ from_le_bytes w32 sub
  unfolding after
  word_after =
      sym (word_of_front (drop at (put_mid at (at + 4 - at) before sub)))
      ∙ ap (λ k. from_le_bytes w32 (take k (drop at (put_mid at (at + 4 - at) before sub)))) (sym four)
      ∙ ap (from_le_bytes w32) (between-put_mid at (at + 4 - at) before sub (at + 4) (omega arith) long)

  word_before : from_le_bytes w32 (take (at + 4 - at) (drop at before)) ≡ instruction before at
  word_before = ap (λ k. from_le_bytes w32 (take k (drop at before))) four ∙ word_of_front (drop at before)

  pub set_at : field (from_le_bytes w32 sub) s e ≡ v → IsKeptOutside s e (from_le_bytes w32 (take (at + 4 - at) (drop at before))) (from_le_bytes w32 sub)
      → IsSetAt s e before (put_mid at (at + 4 - at) before sub) at v
  unfolding after
  set_at set kept =
      record {
        immediate = ap (λ x. field x s e) word_after ∙ set;
        outside = record {
          below = ap (λ x. field x 0 s) word_after ∙ kept.below ∙ ap (λ x. field x 0 s) word_before;
          above = ap (λ x. field x e 32) word_after ∙ kept.above ∙ ap (λ x. field x e 32) word_before;
        };
        front = λ k h. instruction_of_front k (put_mid at (at + 4 - at) before sub) before (take-put_mid_below at (at + 4 - at) before sub (k + 4) h (omega arith));
        rest = λ k h. drop-put_mid at (at + 4 - at) before sub k (omega arith) (omega arith) long;
      }

-- ---- what the two forms keep

shift5_outside : (w : ℕ) → w < 32 → is_placed shift5_places w ≡ (leb 5 w && ltb w 25)
shift5_outside w h = agree_below_at (is_placed shift5_places) (λ i. leb 5 i && ltb i 25) 32 w refl h

shift5_kept : (v before after w : ℕ) → BitsWritten shift5_places v before after → w < 32 → (leb 5 w && ltb w 25) ≡ false → bit_at after w ≡ bit_at before w
shift5_kept v old new w laid h o = laid.kept w (shift5_outside w h ∙ o)

pub shift5_keeps : (v before after : ℕ) → BitsWritten shift5_places v before after → IsKeptOutside 5 25 before after
shift5_keeps v before after laid =
    record {
      below = same_fields after before 0 5 (λ w a b. shift5_kept v before after w laid (omega arith) (below_all w b));
      above = same_fields after before 25 32 (λ w a b. shift5_kept v before after w laid b (and_right (leb 5 w) (ltb w 25) (le-ltb w 25 a)));
    }
  where
    below_all : (w : ℕ) → w < 5 → (leb 5 w && ltb w 25) ≡ false
    below_all w h = rw (lt-leb 5 w h) refl

shift10_outside : (w : ℕ) → w < 32 → is_placed shift10_places w ≡ (leb 10 w && ltb w 26)
shift10_outside w h = agree_below_at (is_placed shift10_places) (λ i. leb 10 i && ltb i 26) 32 w refl h

ored_inside : (w : ℕ) → 22 ≤ w → w < 26 → is_placed (or_bits_to 12 15 22) w ≡ true
ored_inside w a b =
    agree_below_at (is_placed (or_bits_to 12 15 22)) (λ i. leb 22 i && ltb i 26) 32 w refl (omega arith)
    ∙ rw (le-leb 22 w a, lt-ltb w 26 b) refl

-- a value of 12 bits leaves the bits that are only ORed
pub shift10_keeps : (v before after : ℕ) → v < 2 ^ 12 → BitsWritten shift10_places v before after → IsKeptOutside 10 22 before after
shift10_keeps v before after small laid =
    record {
      below = same_fields after before 0 10 (λ w a b. laid.kept w (shift10_outside w (omega arith) ∙ below_all w b));
      above = same_fields after before 22 32 (λ w a b. elim (cases_lt w 26) [
        | inl inside ↦ bit_looked_up (or_bits_to 12 15 22) w before after
            (ored_kept 12 (or_bits_to 12 15 22) v before after small (omega arith) refl
            (All-drop (λ (p : ImmediateBit). bit_at after p.insn_bit ≡ placed_bit p.mark (bit_for p v) (bit_at before p.insn_bit)) 12 shift10_places laid.placed))
            (ored_inside w a inside)
        | inr over ↦ laid.kept w (shift10_outside w b ∙ and_right (leb 10 w) (ltb w 26) (le-ltb w 26 over))
      ]);
    }
  where
    below_all : (w : ℕ) → w < 10 → (leb 10 w && ltb w 26) ≡ false
    below_all w h = rw (lt-leb 10 w h) refl

-- ---- the five instructions

kept_from : (s e x y z : ℕ) → y ≡ x → IsKeptOutside s e y z → IsKeptOutside s e x z
kept_from s e x y z h k = subst (λ a. IsKeptOutside s e a z) h k

kept_to : (s e x y z : ℕ) → z ≡ y → IsKeptOutside s e x y → IsKeptOutside s e x z
kept_to s e x y z h k = subst (λ a. IsKeptOutside s e x a) (sym h) k

pub makes_address : (b d1 d2 d3 d4 : List ℕ) (pc target f l m u : ℕ) → pc < 2 ^ 64 → target < 2 ^ 64
    → IsSetAt 5 25 b d1 0 f → IsSetAt 10 22 d1 d2 4 l → IsSetAt 5 25 d2 d3 8 m → IsSetAt 10 22 d3 d4 12 u
    → f ≡ first_of_five pc target → l ≡ field target 0 12 → m ≡ field (high_of_five pc target) 32 52 → u ≡ field (high_of_five pc target) 52 64
    → MakesAddress b d4 pc target
makes_address b d1 d2 d3 d4 pc target f l m u pb tb one two three four ef el em eu =
    let w0 : instruction d4 0 ≡ instruction d1 0 = four.front 0 (omega arith) ∙ three.front 0 (omega arith) ∙ two.front 0 (omega arith) in
    let w1 : instruction d4 4 ≡ instruction d2 4 = four.front 4 (omega arith) ∙ three.front 4 (omega arith) in
    let w2 : instruction d4 8 ≡ instruction d3 8 = four.front 8 (omega arith) in
    let v1 : instruction d1 4 ≡ instruction b 4 = ap (from_le_bytes w32) (one.rest 4 (omega arith)) in
    let v2 : instruction d2 8 ≡ instruction b 8 = ap (from_le_bytes w32) (two.rest 8 (omega arith) ∙ one.rest 8 (omega arith)) in
    let v3 : instruction d3 12 ≡ instruction b 12 = ap (from_le_bytes w32) (three.rest 12 (omega arith) ∙ two.rest 12 (omega arith) ∙ one.rest 12 (omega arith)) in
    let f0 : field (instruction d4 0) 5 25 ≡ first_of_five pc target = ap (λ x. field x 5 25) w0 ∙ one.immediate ∙ ef in
    let f1 : field (instruction d4 4) 10 22 ≡ field target 0 12 = ap (λ x. field x 10 22) w1 ∙ two.immediate ∙ el in
    let f2 : field (instruction d4 8) 5 25 ≡ field (high_of_five pc target) 32 52 = ap (λ x. field x 5 25) w2 ∙ three.immediate ∙ em in
    let f3 : field (instruction d4 12) 10 22 ≡ field (high_of_five pc target) 52 64 = four.immediate ∙ eu in
    record {
      makes =
          five_from pc (field (instruction d4 0) 5 25) (field (instruction d4 4) 10 22) (field (instruction d4 8) 5 25) (field (instruction d4 12) 10 22)
          (first_of_five pc target) (field target 0 12) (field (high_of_five pc target) 32 52) (field (high_of_five pc target) 52 64) f0 f1 f2 f3
          ∙ made pc target pb tb;
      first = kept_to 5 25 (instruction b 0) (instruction d1 0) (instruction d4 0) w0 one.outside;
      second = kept_to 10 22 (instruction b 4) (instruction d2 4) (instruction d4 4) w1 (kept_from 10 22 (instruction b 4) (instruction d1 4) (instruction d2 4) v1 two.outside);
      third = kept_to 5 25 (instruction b 8) (instruction d3 8) (instruction d4 8) w2 (kept_from 5 25 (instruction b 8) (instruction d2 8) (instruction d3 8) v2 three.outside);
      fourth = kept_from 10 22 (instruction b 12) (instruction d3 12) (instruction d4 12) v3 four.outside;
      rest = four.rest 16 (omega arith) ∙ three.rest 16 (omega arith) ∙ two.rest 16 (omega arith) ∙ one.rest 16 (omega arith);
    }
