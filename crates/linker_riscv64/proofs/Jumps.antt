-- What a rewritten call reads as.
use Rattle.linker_riscv64.proofs.Imports.{IsEven, IsJalDistance, JumpsAndLinks, List, agree_below_at, ap, append-nil, append_assoc, arith, bit_at, cast_unsigned, cond_both, drop, drop-drop, drop_all, drop_at, false, field, from_le_bytes, from_le_bytes-to_le_bytes_4, int_rem_euclid, ints, length, length-drop, length-take, ltb, ltb-false, ltb-true, negsuc, or_comm, or_shifted, pos, put_mid, refl, signed, suc, sym, take, take_at, take_rest, to_le_bytes, w32, w64, word_at, ℕ, ℤ, ◌%◌, ◌*◌, ◌++◌, ◌+◌, ◌-ℤ◌, ◌-◌, ◌<◌, ◌^◌, ◌∙◌, ◌≡◌, ◌≤◌}
use Rattle.std.specs.Int.RustNames.{bit_or}
use Rattle.linker_base.specs.Form.{is_placed, Written, MachineReads, place_sum}
use Rattle.linker_base.proofs.Fields.{same_fields, signed_rem}
use Rattle.linker_elf.specs.RiscV.{riscv_form}
use Rattle.linker_elf.specs.declared.riscv64.forms.RiscVInstruction.TheVariants.{JType}
use Rattle.linker_base.proofs.Immediates.{always_clear}
use Rattle.linker_elf.proofs.RiscV.{jtype_places, jtype_below}

-- ---- words in lists

pub word_of_bytes : (n : ℕ) (rest : List ℕ) → n < 2 ^ 32 → from_le_bytes w32 (to_le_bytes w32 n ++ rest) ≡ n
word_of_bytes n rest h = from_le_bytes-to_le_bytes_4 n h

-- ---- the distance

even_bits : (d : ℤ) → IsEven d → cast_unsigned w64 d % 2 ≡ 0
even_bits (pos a) h = cc
even_bits (negsuc a) h = let odd : 1 - a % 2 ≡ 0 = cc in omega arith

jal_bits : (s : ℕ) (d : ℤ) → IsJalDistance d → s ≡ cast_unsigned w64 d % 2 ^ 21 → signed 21 s ≡ d
jal_bits s (pos a) j e =
    let below : a < 2 ^ 20 = omega (arith, ints) in
    let same : s ≡ a = omega arith in
    cond_both (ltb s (2 ^ 20)) (pos s) (pos s -ℤ pos (2 ^ 21)) (λ z. z ≡ pos a) (λ _. ap pos same) (λ f. absurd (omega (arith, ltb-false s (2 ^ 20) f)))
jal_bits s (negsuc a) j e =
    let below : a < 2 ^ 20 = omega (arith, ints) in
    let same : s ≡ 2 ^ 21 - suc a = omega arith in
    cond_both (ltb s (2 ^ 20)) (pos s) (pos s -ℤ pos (2 ^ 21)) (λ z. z ≡ negsuc a) (λ t. absurd (omega (arith, ltb-true s (2 ^ 20) t))) (λ _. omega (arith, ints))

jal_distance : (s : ℕ) (d : ℤ) → s < 2 ^ 21 → IsEven d → IsJalDistance d
    → int_rem_euclid (signed 21 s) (pos (2 ^ 21)) ≡ int_rem_euclid (pos (cast_unsigned w64 d - cast_unsigned w64 d % 2 ^ 1)) (pos (2 ^ 21))
    → signed 21 s ≡ d
jal_distance s d l e j h =
    let v = cast_unsigned w64 d in
    let even : v % 2 ≡ 0 = even_bits d e in
    let read : pos s ≡ pos ((v - v % 2) % 2 ^ 21) = sym (signed_rem 21 s l) ∙ h in
    let same : s ≡ (v - v % 2) % 2 ^ 21 = cc in
    jal_bits s d j (same ∙ ap (λ r. (v - r) % 2 ^ 21) even ∙ ap (λ y. y % 2 ^ 21) (omega arith))

-- ---- the word at the site

-- `jal` of distance 0, as the code makes it
pub jal_of : (r : ℕ) → r < 32 → bit_or 111 (r * 128 % 4294967296) ≡ 0x6f + r * 128
jal_of r small =
    ap (bit_or 111) (let same : r * 128 % 4294967296 ≡ r * 128 = omega arith in same)
    ∙ or_comm 111 (r * 128)
    ∙ or_shifted r 7 111 (omega arith)
    ∙ omega arith

module _ (s s1 ys sub : List ℕ) (site r v : ℕ) (d : ℤ)
    (inside : site + 4 ≤ length s)
    (small : r < 32)
    (made : ys ≡ to_le_bytes w32 (bit_or 111 (r * 128 % 4294967296)))
    (put : s1 ≡ take site s ++ ys ++ drop (site + length ys) s)
    (same_length : length sub ≡ length s1 - site) where
  jal_word : ℕ
  jal_word = 0x6f + r * 128

  is_jal_word : ys ≡ to_le_bytes w32 jal_word
  unfolding jal_word
  is_jal_word = made ∙ ap (to_le_bytes w32) (jal_of r small)

  front_length : length (take site s) ≡ site
  front_length = length-take site s ∙ omega arith

  parted : s1 ≡ take site s ++ (to_le_bytes w32 jal_word ++ drop (site + 4) s)
  parted = put ∙ append_assoc (take site s) ys (drop (site + length ys) s) ∙ ap (λ bytes. take site s ++ (bytes ++ drop (site + length bytes) s)) is_jal_word

  put_at : drop site s1 ≡ to_le_bytes w32 jal_word ++ drop (site + 4) s
  put_at = ap (drop site) parted ∙ drop_at (take site s) (to_le_bytes w32 jal_word ++ drop (site + 4) s) site front_length

  front_same : take site s1 ≡ take site s
  front_same = ap (take site) parted ∙ take_at (take site s) (to_le_bytes w32 jal_word ++ drop (site + 4) s) site front_length

  after : put_mid site (length s1 - site) s1 sub ≡ take site s1 ++ sub
  after =
      ap (λ zs. take site s1 ++ (sub ++ zs)) (drop_all (length s1 - site) (drop site s1) (omega (arith, length-drop site s1)))
      ∙ ap (λ zs. take site s1 ++ zs) (append-nil sub)

  front_length_after : length (take site s1) ≡ site
  front_length_after = ap length front_same ∙ front_length

  at_site : drop site (put_mid site (length s1 - site) s1 sub) ≡ sub
  at_site = ap (drop site) after ∙ drop_at (take site s1) sub site front_length_after

  whole : take (length s1 - site) (drop site s1) ≡ drop site s1
  whole = take_rest s1 site

  word_small : jal_word < 2 ^ 32
  unfolding jal_word
  word_small = omega arith

  -- the window that the J-immediate was written to
  before : from_le_bytes w32 (take (length s1 - site) (drop site s1)) ≡ jal_word
  before = ap (from_le_bytes w32) (whole ∙ put_at) ∙ word_of_bytes jal_word (drop (site + 4) s) word_small

  -- bits 0 to 11 are no places
  low_kept : Written (riscv_form JType) v false (from_le_bytes w32 (take (length s1 - site) (drop site s1))) (from_le_bytes w32 sub)
      → (w : ℕ) → w < 12 → bit_at (from_le_bytes w32 sub) w ≡ bit_at jal_word w
  low_kept laid w h =
      laid.kept w (agree_below_at (is_placed jtype_places) (λ _. false) 12 w refl h) ∙ ap (λ x. bit_at x w) before

  pub jal_jumps :
      Written (riscv_form JType) v false (from_le_bytes w32 (take (length s1 - site) (drop site s1))) (from_le_bytes w32 sub)
      → MachineReads (riscv_form JType) v false (from_le_bytes w32 (take (length s1 - site) (drop site s1))) (from_le_bytes w32 sub)
      → drop 4 sub ≡ drop 4 (take (length s1 - site) (drop site s1))
      → v ≡ cast_unsigned w64 d → IsEven d → IsJalDistance d
      → JumpsAndLinks s (put_mid site (length s1 - site) s1 sub) site r d
  unfolding jal_word
  jal_jumps laid reads rest bits even jal =
      let word : word_at (put_mid site (length s1 - site) s1 sub) site ≡ from_le_bytes w32 sub = ap (from_le_bytes w32) at_site in
      record {
        jal = record {
          opcode = ap (λ x. field x 0 7) word ∙ same_fields (from_le_bytes w32 sub) jal_word 0 7 (λ w a b. low_kept laid w (omega arith)) ∙ omega arith;
          register_bits = ap (λ x. field x 7 12) word ∙ same_fields (from_le_bytes w32 sub) jal_word 7 12 (λ w a b. low_kept laid w (omega arith)) ∙ omega arith;
          reads = ap (λ x. (riscv_form JType).machine x) word ∙ jal_distance (place_sum jtype_places (from_le_bytes w32 sub)) d (jtype_below (from_le_bytes w32 sub)) even jal
              (reads (always_clear jtype_places (from_le_bytes w32 (take (length s1 - site) (drop site s1))) refl) ∙ ap (λ y. int_rem_euclid (pos (y - y % 2 ^ 1)) (pos (2 ^ 21))) bits);
        };
        front = ap (take site) after ∙ take_at (take site s1) sub site front_length_after ∙ front_same;
        rest = sym (drop-drop 4 site (put_mid site (length s1 - site) s1 sub)) ∙ ap (drop 4) at_site ∙ rest ∙ ap (drop 4) (whole ∙ put_at);
      }
