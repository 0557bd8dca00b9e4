-- Forms of several parts, each with an added number, a mark or a sign of its own.
use Rattle.linker_base.proofs.Imports.{All, AllPass-from_list_all, BitsWritten, Bool, ImmediateBit, List, Mark, and_parts, ap, arith, bit_at, bit_at_above, bit_for, cleared, eqb, eqb-true, false, get_or, leb, leb-true, list_all, ored, placed_bit, refl, replaced, sym, true, ℕ, ◌%◌, ◌&&◌, ◌+◌, ◌<◌, ◌^◌, ◌∙◌, ◌≡◌, ◌≤◌}
use Rattle.linker_base.proofs.Immediates.{same_window}

-- what a write leaves at a part of its places
abbrev pub ArePlaced : List ImmediateBit → ℕ → ℕ → ℕ → Type 0
ArePlaced ps v before after = All (λ (p : ImmediateBit). bit_at after p.insn_bit ≡ placed_bit p.mark (bit_for p v) (bit_at before p.insn_bit)) ps

abbrev pub is_replaced : Mark → Bool
is_replaced replaced = true
is_replaced ored = false
is_replaced cleared = false

abbrev pub all_replaced : List ImmediateBit → Bool
all_replaced ps = list_all (λ (p : ImmediateBit). is_replaced p.mark) ps

placed_over : (m : Mark) (new old x : ℕ) → is_replaced m ≡ true → x ≡ placed_bit m new old → x ≡ placed_bit m new x
placed_over replaced new old x h e = e
placed_over ored new old x h e = cc
placed_over cleared new old x h e = cc

over : (ps : List ImmediateBit) (v before after : ℕ) → all_replaced ps ≡ true → ArePlaced ps v before after → ArePlaced ps v after after
over ps v before after h placed k p within =
    placed_over (get_or ps k p).mark (bit_for (get_or ps k p) v) (bit_at before (get_or ps k p).insn_bit) (bit_at after (get_or ps k p).insn_bit) (AllPass-from_list_all (λ (q : ImmediateBit). is_replaced q.mark) ps h k p within) (placed k p within)

-- a part whose bits are replaced is written by itself: written again over the window after, it
-- changes nothing
pub part_laid : (ps : List ImmediateBit) (v before after : ℕ) → all_replaced ps ≡ true → ArePlaced ps v before after → BitsWritten ps v after after
part_laid ps v before after h placed = record { placed = over ps v before after h placed; kept = λ w f. refl }

-- windows with the same bits at the places are the same, after a write
pub unchanged : (ps : List ImmediateBit) (v before after : ℕ) → BitsWritten ps v before after → All (λ (p : ImmediateBit). bit_at after p.insn_bit ≡ bit_at before p.insn_bit) ps → after ≡ before
unchanged ps v before after laid same = same_window ps before after same laid.kept

-- ---- parts that a value leaves as they were

abbrev pub is_ored : Mark → Bool
is_ored replaced = false
is_ored ored = true
is_ored cleared = false

-- the places are only ORed, of value bits n and up
abbrev pub ored_from : ℕ → List ImmediateBit → Bool
ored_from n ps = list_all (λ (p : ImmediateBit). is_ored p.mark && (eqb p.added 0 && leb n p.value)) ps

ored_none : (m : Mark) (new old x : ℕ) → is_ored m ≡ true → new ≡ 0 → x ≡ placed_bit m new old → x ≡ old
ored_none replaced new old x h z e = cc
ored_none ored new old x h z e = omega arith
ored_none cleared new old x h z e = cc

bit_none : (v a k n : ℕ) → v < 2 ^ n → v < 2 ^ 64 → a ≡ 0 → n ≤ k → bit_at ((v + a) % 2 ^ 64) k ≡ 0
bit_none v a k n h w e l =
    let same : (v + a) % 2 ^ 64 ≡ v = omega arith in
    ap (λ y. bit_at y k) same ∙ bit_at_above v n k h l

-- a value of n bits leaves the places of higher bits that are only ORed
pub ored_kept : (n : ℕ) (ps : List ImmediateBit) (v before after : ℕ) → v < 2 ^ n → v < 2 ^ 64 → ored_from n ps ≡ true → ArePlaced ps v before after → All (λ (p : ImmediateBit). bit_at after p.insn_bit ≡ bit_at before p.insn_bit) ps
ored_kept n ps v before after h w o placed k d within =
    let p = get_or ps k d in
    let first = and_parts (is_ored p.mark) (eqb p.added 0 && leb n p.value) (AllPass-from_list_all (λ (q : ImmediateBit). is_ored q.mark && (eqb q.added 0 && leb n q.value)) ps o k d within) in
    let second = and_parts (eqb p.added 0) (leb n p.value) first.1 in
    ored_none p.mark (bit_for p v) (bit_at before p.insn_bit) (bit_at after p.insn_bit) first.0
    (bit_none v p.added p.value n h w (eqb-true p.added 0 second.0) (leb-true n p.value second.1))
    (placed k d within)

abbrev pub is_cleared : Mark → Bool
is_cleared replaced = false
is_cleared ored = false
is_cleared cleared = true

abbrev pub all_cleared : List ImmediateBit → Bool
all_cleared ps = list_all (λ (p : ImmediateBit). is_cleared p.mark) ps

cleared_none : (m : Mark) (new old x : ℕ) → is_cleared m ≡ true → old ≡ 0 → x ≡ placed_bit m new old → x ≡ old
cleared_none replaced new old x h z e = cc
cleared_none ored new old x h z e = cc
cleared_none cleared new old x h z e = e ∙ sym z

-- places that are only cleared stay where they held 0
pub cleared_kept : (ps : List ImmediateBit) (v before after : ℕ) → all_cleared ps ≡ true → All (λ (p : ImmediateBit). bit_at before p.insn_bit ≡ 0) ps → ArePlaced ps v before after → All (λ (p : ImmediateBit). bit_at after p.insn_bit ≡ bit_at before p.insn_bit) ps
cleared_kept ps v before after h none placed k p within =
    cleared_none (get_or ps k p).mark (bit_for (get_or ps k p) v) (bit_at before (get_or ps k p).insn_bit) (bit_at after (get_or ps k p).insn_bit) (AllPass-from_list_all (λ (q : ImmediateBit). is_cleared q.mark) ps h k p within) (none k p within) (placed k p within)
