-- Steps of bits, as the engine moves them, write places and read them.
use Rattle.linker_elf.proofs.Imports.{All, All-cons, All-nil, BitsWritten, ImmediateBit, List, Mark, Step, [], agree_below, agree_below_at, and_le_l, and_parts, ap, arith, bit_and, bit_at, bit_at-lt, bit_at-place_sum, bit_at-zero, bit_at_above, bit_at_and, bit_at_mod, bit_at_mod_above, bit_at_not, bit_at_or, bit_at_shl, bit_at_shl_below, bit_at_shr, bit_for, bit_or, cases_lt, cleared, comes_from, cond-false, cond-true, consecutive_bits, div-le_self, eqb, eqb-true, false, get_or, inl, inr, is_laid, is_of, is_placed, laid, length, list_all, ltb, ltb-true, max, mod-eq_of_lt, mod_below, moved, ne_eqb, none_from, none_to, not, not-true, one_from, one_to, or_cases, or_from, or_lt, ored, place_sum, place_sum_below, placed_bit, pow_pos, reads, refl, replaced, rotate_left, rotate_right, same_from_bits, same_from_bits_below, steps_fit, subst, subst_below, suc, sym, take, true, value_bit, values_apart, values_below, w64, words_below, writes, zero, ℕ, ◌%◌, ◌&&◌, ◌*◌, ◌+◌, ◌-◌, ◌/◌, ◌<◌, ◌^◌, ◌||◌, ◌∙◌, ◌∷◌, ◌≡◌, ◌≤◌, ◌⊎◌}

-- ---- rotations

pub turned_up : (x up i : ℕ) → x < 2 ^ 64 → up < 64 → i < 64 → bit_at (rotate_left w64 x up) i ≡ bit_at x ((i + (64 - up)) % 64)
turned_up x zero i small h l =
    let at : (i + (64 - 0)) % 64 ≡ i = omega arith in
    let first : bit_at (x * 2 ^ 0 % 2 ^ 64) i ≡ bit_at x i = bit_at_mod (x * 2 ^ 0) 64 i l ∙ ap (λ y. bit_at y i) (let e : x * 1 ≡ x = omega arith in e) in
    let second : bit_at (x / 2 ^ 0) i ≡ bit_at x i = ap (λ y. bit_at y i) (let e : x / 1 ≡ x = omega arith in e) in
    bit_at_or (x * 2 ^ 0 % 2 ^ 64) (x / 2 ^ 0) i
    ∙ omega (arith, first, second)
    ∙ ap (bit_at x) (sym at)
turned_up x (suc u) i small h l =
    let low : suc u % 64 ≡ suc u = mod-eq_of_lt h in
    let back : (64 - suc u) % 64 ≡ 64 - suc u = omega arith in
    ap (λ t. bit_at (bit_or (x * 2 ^ t % 2 ^ 64) (x / 2 ^ ((64 - t) % 64))) i) low
    ∙ ap (λ t. bit_at (bit_or (x * 2 ^ suc u % 2 ^ 64) (x / 2 ^ t)) i) back
    ∙ bit_at_or (x * 2 ^ suc u % 2 ^ 64) (x / 2 ^ (64 - suc u)) i
    ∙ elim (cases_lt i (suc u)) [
      | inl below ↦
          let at : 64 - suc u + i ≡ (i + (64 - suc u)) % 64 = omega arith in
          let none = bit_at_mod (x * 2 ^ suc u) 64 i l ∙ bit_at_shl_below x (suc u) i below in
          let from = bit_at_shr x (64 - suc u) i ∙ ap (bit_at x) at in
          omega (arith, none, from)
      | inr above ↦
          let at : i - suc u ≡ (i + (64 - suc u)) % 64 = omega arith in
          let from = bit_at_mod (x * 2 ^ suc u) 64 i l ∙ bit_at_shl x (suc u) i above ∙ ap (bit_at x) at in
          let none = bit_at_shr x (64 - suc u) i ∙ bit_at_above x 64 (64 - suc u + i) small (omega arith) in
          omega (arith, none, from)
    ]

pub turned_down : (y up k : ℕ) → y < 2 ^ 64 → up < 64 → k < 64 → bit_at (rotate_right w64 y up) k ≡ bit_at y ((k + up) % 64)
turned_down y zero k small h l =
    let at : (k + 0) % 64 ≡ k = omega arith in
    let first : bit_at (y / 2 ^ 0) k ≡ bit_at y k = ap (λ x. bit_at x k) (let e : y / 1 ≡ y = omega arith in e) in
    let second : bit_at (y * 2 ^ 0 % 2 ^ 64) k ≡ bit_at y k = bit_at_mod (y * 2 ^ 0) 64 k l ∙ ap (λ x. bit_at x k) (let e : y * 1 ≡ y = omega arith in e) in
    bit_at_or (y / 2 ^ 0) (y * 2 ^ 0 % 2 ^ 64) k
    ∙ omega (arith, first, second)
    ∙ ap (bit_at y) (sym at)
turned_down y (suc u) k small h l =
    let low : suc u % 64 ≡ suc u = mod-eq_of_lt h in
    let back : (64 - suc u) % 64 ≡ 64 - suc u = omega arith in
    ap (λ t. bit_at (bit_or (y / 2 ^ t) (y * 2 ^ ((64 - t) % 64) % 2 ^ 64)) k) low
    ∙ ap (λ t. bit_at (bit_or (y / 2 ^ suc u) (y * 2 ^ t % 2 ^ 64)) k) back
    ∙ bit_at_or (y / 2 ^ suc u) (y * 2 ^ (64 - suc u) % 2 ^ 64) k
    ∙ elim (cases_lt k (64 - suc u)) [
      | inl below ↦
          let at : suc u + k ≡ (k + suc u) % 64 = omega arith in
          let none = bit_at_mod (y * 2 ^ (64 - suc u)) 64 k l ∙ bit_at_shl_below y (64 - suc u) k below in
          let from = bit_at_shr y (suc u) k ∙ ap (bit_at y) at in
          omega (arith, none, from)
      | inr above ↦
          let at : k - (64 - suc u) ≡ (k + suc u) % 64 = omega arith in
          let from = bit_at_mod (y * 2 ^ (64 - suc u)) 64 k l ∙ bit_at_shl y (64 - suc u) k above ∙ ap (bit_at y) at in
          let none = bit_at_shr y (suc u) k ∙ bit_at_above y 64 (suc u + k) small (omega arith) in
          omega (arith, none, from)
    ]

-- ---- to a window

laid_next : (ss : List Step) (i : ℕ) (d : Step) (v y : ℕ) → i < length ss → bit_or (laid (take i ss) v y) (moved (get_or ss i d) v) ≡ laid (take (suc i) ss) v y
laid_next [] i d v y l = absurd (omega arith)
laid_next (s ∷ ss) zero d v y l = refl
laid_next (s ∷ ss) (suc i) d v y l = laid_next ss i d v (bit_or y (moved s v)) (omega arith)

pub laid_more : (ss : List Step) (i : ℕ) (d : Step) (v y : ℕ) → i < length ss → bit_or (laid (take i ss) v y) (moved (get_or ss i d) v) ≡ laid (take (i + 1) ss) v y
laid_more ss i d v y l = laid_next ss i d v y l ∙ ap (λ k. laid (take k ss) v y) (let k : suc i ≡ i + 1 = omega arith in k)

not_moved : (s : Step) (v i : ℕ) → eqb (bit_at s.mask i) 0 ≡ true → bit_at (moved s v) i ≡ 0
not_moved s v i h =
    let t = rotate_left w64 ((v + s.added) % 2 ^ 64) s.up in
    let out = eqb-true (bit_at s.mask i) 0 h in
    bit_at_and t s.mask i ∙ omega (arith, out)

laid_none : (ss : List Step) (v y i : ℕ) → none_to ss i ≡ true → bit_at (laid ss v y) i ≡ bit_at y i
laid_none [] v y i h = refl
laid_none (s ∷ ss) v y i h =
    let parts = and_parts (eqb (bit_at s.mask i) 0) (none_to ss i) h in
    laid_none ss v (bit_or y (moved s v)) i parts.1
    ∙ bit_at_or y (moved s v) i ∙ omega (arith, not_moved s v i parts.0)

laid_one : (ss : List Step) (n v y k r i : ℕ) → steps_fit n ss ≡ true → one_to ss k r i ≡ true → i < 64 → bit_at (laid ss v y) i ≡ max (bit_at y i) (bit_at ((v + r) % 2 ^ 64) k)
laid_one [] n v y k r i f h l = cc
laid_one (s ∷ ss) n v y k r i f h l =
    let fit = and_parts (ltb s.up 64 && ltb s.mask (2 ^ n)) (steps_fit n ss) f in
    let at_k = eqb ((i + (64 - s.up)) % 64) k in
    let rest = eqb s.added r && (at_k && none_to ss i) in
    elim (or_cases (eqb (bit_at s.mask i) 0 && one_to ss k r i) (eqb (bit_at s.mask i) 1 && rest) h) [
      | inl a ↦
          let parts = and_parts (eqb (bit_at s.mask i) 0) (one_to ss k r i) a in
          let same : bit_at (bit_or y (moved s v)) i ≡ bit_at y i = bit_at_or y (moved s v) i ∙ omega (arith, not_moved s v i parts.0) in
          laid_one ss n v (bit_or y (moved s v)) k r i fit.1 parts.1 l ∙ ap (λ b. max b (bit_at ((v + r) % 2 ^ 64) k)) same
      | inr a ↦
          let parts = and_parts (eqb (bit_at s.mask i) 1) rest a in
          let sum = and_parts (eqb s.added r) (at_k && none_to ss i) parts.1 in
          let more = and_parts at_k (none_to ss i) sum.1 in
          let in_it = eqb-true (bit_at s.mask i) 1 parts.0 in
          let up = ltb-true s.up 64 (and_parts (ltb s.up 64) (ltb s.mask (2 ^ n)) fit.0).0 in
          let v_s = (v + s.added) % 2 ^ 64 in
          let turned : bit_at (rotate_left w64 v_s s.up) i ≡ bit_at ((v + r) % 2 ^ 64) k =
          turned_up v_s s.up i (mod_below (v + s.added) (2 ^ 64) (pow_pos 64)) up l
          ∙ ap (bit_at v_s) (eqb-true ((i + (64 - s.up)) % 64) k more.0)
          ∙ ap (λ a. bit_at ((v + a) % 2 ^ 64) k) (eqb-true s.added r sum.0) in
          let bit : bit_at (moved s v) i ≡ bit_at ((v + r) % 2 ^ 64) k =
          bit_at_and (rotate_left w64 v_s s.up) s.mask i
          ∙ omega (arith, in_it, turned, bit_at-lt ((v + r) % 2 ^ 64) k) in
          laid_none ss v (bit_or y (moved s v)) i more.1 ∙ bit_at_or y (moved s v) i ∙ ap (max (bit_at y i)) bit
    ]

-- the bits of the window that are not replaced
bit_kept : (mask x i : ℕ) → mask < 2 ^ 64 → x < 2 ^ 64 → eqb (bit_at mask i) 0 ≡ true → bit_at (bit_and x (2 ^ 64 - 1 - mask)) i ≡ bit_at x i
bit_kept mask x i m s h =
    let out = eqb-true (bit_at mask i) 0 h in
    bit_at_and x (2 ^ 64 - 1 - mask) i
    ∙ elim (cases_lt i 64) [
      | inl inside ↦ omega (arith, out, bit_at_not w64 mask i m inside, bit_at-lt x i)
      | inr above ↦ omega (arith, bit_at_above x 64 i s above)
    ]

bit_dropped : (mask x i : ℕ) → mask < 2 ^ 64 → i < 64 → eqb (bit_at mask i) 1 ≡ true → bit_at (bit_and x (2 ^ 64 - 1 - mask)) i ≡ 0
bit_dropped mask x i m l h =
    let in_it = eqb-true (bit_at mask i) 1 h in
    bit_at_and x (2 ^ 64 - 1 - mask) i ∙ omega (arith, in_it, bit_at_not w64 mask i m l)

none_above : (n : ℕ) (ss : List Step) (i : ℕ) → steps_fit n ss ≡ true → n ≤ i → none_to ss i ≡ true
none_above n [] i h l = refl
none_above n (s ∷ ss) i h l =
    let fit = and_parts (ltb s.up 64 && ltb s.mask (2 ^ n)) (steps_fit n ss) h in
    let small = ltb-true s.mask (2 ^ n) (and_parts (ltb s.up 64) (ltb s.mask (2 ^ n)) fit.0).1 in
    rw (bit_at_above s.mask n i small l) (none_above n ss i fit.1 l)

module _ (n : ℕ) (mask : ℕ) (ss : List Step) (v x : ℕ) (short : n ≤ 64) (fit : steps_fit n ss ≡ true) (mask_small : mask < 2 ^ n) (small : x < 2 ^ n) where
  base : ℕ
  base = bit_and x (2 ^ 64 - 1 - mask)

  mask_wide : mask < 2 ^ 64
  mask_wide = subst_below mask n 64 mask_small short

  x_wide : x < 2 ^ 64
  x_wide = subst_below x n 64 small short

  place_laid : (p : ImmediateBit) (m : Mark) → p.insn_bit < 64 → is_laid mask ss p m ≡ true
      → bit_at (laid ss v base) p.insn_bit ≡ placed_bit m (bit_for p v) (bit_at x p.insn_bit)
  unfolding base
  place_laid p replaced l h =
      let parts = and_parts (eqb (bit_at mask p.insn_bit) 1) (one_to ss p.value p.added p.insn_bit) h in
      laid_one ss n v (bit_and x (2 ^ 64 - 1 - mask)) p.value p.added p.insn_bit fit parts.1 l
      ∙ omega (arith, bit_dropped mask x p.insn_bit mask_wide l parts.0)
  place_laid p ored l h =
      let parts = and_parts (eqb (bit_at mask p.insn_bit) 0) (one_to ss p.value p.added p.insn_bit) h in
      laid_one ss n v (bit_and x (2 ^ 64 - 1 - mask)) p.value p.added p.insn_bit fit parts.1 l
      ∙ ap (λ b. max b (bit_for p v)) (bit_kept mask x p.insn_bit mask_wide x_wide parts.0)
  place_laid p cleared l h =
      let parts = and_parts (eqb (bit_at mask p.insn_bit) 1) (none_to ss p.insn_bit) h in
      laid_none ss v (bit_and x (2 ^ 64 - 1 - mask)) p.insn_bit parts.1
      ∙ bit_dropped mask x p.insn_bit mask_wide l parts.0

  places_laid : (ps : List ImmediateBit) → list_all (λ (p : ImmediateBit). ltb p.insn_bit n && is_laid mask ss p p.mark) ps ≡ true
      → All (λ (p : ImmediateBit). bit_at (laid ss v base) p.insn_bit ≡ placed_bit p.mark (bit_for p v) (bit_at x p.insn_bit)) ps
  places_laid [] h = All-nil (λ (p : ImmediateBit). bit_at (laid ss v base) p.insn_bit ≡ placed_bit p.mark (bit_for p v) (bit_at x p.insn_bit))
  places_laid (p ∷ ps) h =
      let here = ltb p.insn_bit n && is_laid mask ss p p.mark in
      let parts = and_parts here (list_all (λ (q : ImmediateBit). ltb q.insn_bit n && is_laid mask ss q q.mark) ps) h in
      let both = and_parts (ltb p.insn_bit n) (is_laid mask ss p p.mark) parts.0 in
      let below = ltb-true p.insn_bit n both.0 in
      All-cons (λ (q : ImmediateBit). bit_at (laid ss v base) q.insn_bit ≡ placed_bit q.mark (bit_for q v) (bit_at x q.insn_bit)) p ps
      (place_laid p p.mark (omega arith) both.1) (places_laid ps parts.1)

  others_kept : (ps : List ImmediateBit) → agree_below (λ i. is_placed ps i || (eqb (bit_at mask i) 0 && none_to ss i)) (λ _. true) n ≡ true
      → (i : ℕ) → is_placed ps i ≡ false → bit_at (laid ss v base) i ≡ bit_at x i
  unfolding base
  others_kept ps a i free =
      elim (cases_lt i n) [
        | inl inside ↦
            let at : (is_placed ps i || (eqb (bit_at mask i) 0 && none_to ss i)) ≡ true = agree_below_at (λ j. is_placed ps j || (eqb (bit_at mask j) 0 && none_to ss j)) (λ _. true) n i a inside in
            let parts = and_parts (eqb (bit_at mask i) 0) (none_to ss i) (rw free at at) in
            laid_none ss v (bit_and x (2 ^ 64 - 1 - mask)) i parts.1
            ∙ bit_kept mask x i mask_wide x_wide parts.0
        | inr above ↦
            laid_none ss v (bit_and x (2 ^ 64 - 1 - mask)) i (none_above n ss i fit above)
            ∙ bit_at_and x (2 ^ 64 - 1 - mask) i ∙ omega (arith, bit_at_above x n i small above)
      ]

pub written_by : (n : ℕ) (mask : ℕ) (ss : List Step) (ps : List ImmediateBit) (v x : ℕ) → writes n mask ss ps ≡ true → x < 2 ^ n
    → BitsWritten ps v x (laid ss v (bit_and x (2 ^ 64 - 1 - mask)))
unfolding base
written_by n mask ss ps v x h small =
    let placed_all = list_all (λ (p : ImmediateBit). ltb p.insn_bit n && is_laid mask ss p p.mark) ps in
    let others_all = agree_below (λ i. is_placed ps i || (eqb (bit_at mask i) 0 && none_to ss i)) (λ _. true) n in
    let a = and_parts (ltb n 65) (ltb mask (2 ^ n) && (steps_fit n ss && (placed_all && others_all))) h in
    let b = and_parts (ltb mask (2 ^ n)) (steps_fit n ss && (placed_all && others_all)) a.1 in
    let c = and_parts (steps_fit n ss) (placed_all && others_all) b.1 in
    let d = and_parts placed_all others_all c.1 in
    let below = ltb-true n 65 a.0 in
    let short : n ≤ 64 = omega arith in
    let narrow = ltb-true mask (2 ^ n) b.0 in
    record {
      placed = places_laid n mask ss v x short c.0 narrow small ps d.0;
      kept = others_kept n mask ss v x short c.0 narrow small ps d.1;
    }

-- ---- from a window

abbrev pub moved_back : Step → ℕ → ℕ
moved_back s x = rotate_right w64 (bit_and x s.mask) s.up

-- the bits of the window x, ORed to y
abbrev pub taken : List Step → ℕ → ℕ → ℕ
taken [] x y = y
taken (s ∷ ss) x y = taken ss x (bit_or y (moved_back s x))

taken_next : (ss : List Step) (i : ℕ) (d : Step) (x y : ℕ) → i < length ss → bit_or (taken (take i ss) x y) (moved_back (get_or ss i d) x) ≡ taken (take (suc i) ss) x y
taken_next [] i d x y l = absurd (omega arith)
taken_next (s ∷ ss) zero d x y l = refl
taken_next (s ∷ ss) (suc i) d x y l = taken_next ss i d x (bit_or y (moved_back s x)) (omega arith)

pub taken_more : (ss : List Step) (i : ℕ) (d : Step) (x y : ℕ) → i < length ss → bit_or (taken (take i ss) x y) (moved_back (get_or ss i d) x) ≡ taken (take (i + 1) ss) x y
taken_more ss i d x y l = taken_next ss i d x y l ∙ ap (λ k. taken (take k ss) x y) (let k : suc i ≡ i + 1 = omega arith in k)

module _ (x : ℕ) (small : x < 2 ^ 64) where
  back_bit : (s : Step) (k : ℕ) → s.up < 64 → k < 64 → bit_at (moved_back s x) k ≡ bit_at (bit_and x s.mask) ((k + s.up) % 64)
  back_bit s k h l =
      let less : bit_and x s.mask ≤ x = and_le_l x s.mask in
      turned_down (bit_and x s.mask) s.up k (omega arith) h l

  gap_bit : (s : Step) (k : ℕ) → s.up < 64 → k < 64 → eqb (bit_at s.mask ((k + s.up) % 64)) 0 ≡ true → bit_at (moved_back s x) k ≡ 0
  gap_bit s k h l e =
      let out = eqb-true (bit_at s.mask ((k + s.up) % 64)) 0 e in
      back_bit s k h l ∙ bit_at_and x s.mask ((k + s.up) % 64) ∙ omega (arith, out)

  taken_none : (ss : List Step) (y k : ℕ) → steps_fit 64 ss ≡ true → none_from ss k ≡ true → k < 64 → bit_at (taken ss x y) k ≡ bit_at y k
  taken_none [] y k f h l = refl
  taken_none (s ∷ ss) y k f h l =
      let fit = and_parts (ltb s.up 64 && ltb s.mask (2 ^ 64)) (steps_fit 64 ss) f in
      let up = ltb-true s.up 64 (and_parts (ltb s.up 64) (ltb s.mask (2 ^ 64)) fit.0).0 in
      let parts = and_parts (eqb (bit_at s.mask ((k + s.up) % 64)) 0) (none_from ss k) h in
      taken_none ss (bit_or y (moved_back s x)) k fit.1 parts.1 l
      ∙ bit_at_or y (moved_back s x) k ∙ omega (arith, gap_bit s k up l parts.0)

  taken_one : (ss : List Step) (y k i : ℕ) → steps_fit 64 ss ≡ true → one_from ss k i ≡ true → k < 64 → bit_at y k ≡ 0 → bit_at (taken ss x y) k ≡ bit_at x i
  taken_one [] y k i f h l z = cc
  taken_one (s ∷ ss) y k i f h l z =
      let fit = and_parts (ltb s.up 64 && ltb s.mask (2 ^ 64)) (steps_fit 64 ss) f in
      let up = ltb-true s.up 64 (and_parts (ltb s.up 64) (ltb s.mask (2 ^ 64)) fit.0).0 in
      let gap = eqb (bit_at s.mask ((k + s.up) % 64)) 0 in
      let from_i = eqb ((k + s.up) % 64) i in
      let rest = from_i && none_from ss k in
      elim (or_cases (gap && one_from ss k i) (eqb (bit_at s.mask i) 1 && rest) h) [
        | inl a ↦
            let parts = and_parts gap (one_from ss k i) a in
            let none : bit_at (bit_or y (moved_back s x)) k ≡ 0 = bit_at_or y (moved_back s x) k ∙ omega (arith, z, gap_bit s k up l parts.0) in
            taken_one ss (bit_or y (moved_back s x)) k i fit.1 parts.1 l none
        | inr a ↦
            let parts = and_parts (eqb (bit_at s.mask i) 1) rest a in
            let more = and_parts from_i (none_from ss k) parts.1 in
            let in_it = eqb-true (bit_at s.mask i) 1 parts.0 in
            let bit : bit_at (moved_back s x) k ≡ bit_at x i =
            back_bit s k up l ∙ ap (bit_at (bit_and x s.mask)) (eqb-true ((k + s.up) % 64) i more.0)
            ∙ bit_at_and x s.mask i ∙ omega (arith, in_it, bit_at-lt x i) in
            taken_none ss (bit_or y (moved_back s x)) k fit.1 more.1 l ∙ bit_at_or y (moved_back s x) k ∙ omega (arith, z, bit)
      ]

  from_place : (ps : List ImmediateBit) (ss : List Step) (k : ℕ) → steps_fit 64 ss ≡ true → comes_from ps ss k ≡ true → k < 64 → bit_at (taken ss x 0) k ≡ value_bit ps k x
  from_place [] ss k f h l = taken_none ss 0 k f h l ∙ bit_at-zero k
  from_place (p ∷ ps) ss k f h l =
      elim (or_cases (is_of p k && one_from ss k p.insn_bit) (not (is_of p k) && comes_from ps ss k) h) [
        | inl a ↦
            let parts = and_parts (is_of p k) (one_from ss k p.insn_bit) a in
            taken_one ss 0 k p.insn_bit f parts.1 l (bit_at-zero k)
            ∙ sym (cond-true (is_of p k) (bit_at x p.insn_bit) (value_bit ps k x) parts.0)
        | inr a ↦
            let parts = and_parts (not (is_of p k)) (comes_from ps ss k) a in
            from_place ps ss k f parts.1 l
            ∙ sym (cond-false (is_of p k) (bit_at x p.insn_bit) (value_bit ps k x) (not-true (is_of p k) parts.0))
      ]

  taken_below : (ss : List Step) (y : ℕ) → y < 2 ^ 64 → taken ss x y < 2 ^ 64
  taken_below [] y l = l
  taken_below (s ∷ ss) y l = taken_below ss (bit_or y (moved_back s x)) (or_lt 64 y (moved_back s x) l (back_below s))
    where
      back_below : (s : Step) → moved_back s x < 2 ^ 64
      back_below s =
          let m = bit_and x s.mask in
          let less : m ≤ x = and_le_l x s.mask in
          let low : m / 2 ^ (s.up % 64) < 2 ^ 64 = let d = div-le_self m (2 ^ (s.up % 64)) in omega arith in
          or_lt 64 (m / 2 ^ (s.up % 64)) (m * 2 ^ ((64 - s.up % 64) % 64) % 2 ^ 64) low (mod_below (m * 2 ^ ((64 - s.up % 64) % 64)) (2 ^ 64) (pow_pos 64))

  pub read_by : (ss : List Step) (ps : List ImmediateBit) → reads ss ps ≡ true → taken ss x 0 ≡ place_sum ps x
  read_by ss ps h =
      let all = agree_below (comes_from ps ss) (λ _. true) 64 in
      let a = and_parts (values_apart ps) (values_below 64 ps && (steps_fit 64 ss && all)) h in
      let b = and_parts (values_below 64 ps) (steps_fit 64 ss && all) a.1 in
      let c = and_parts (steps_fit 64 ss) all b.1 in
      same_from_bits_below 64 (taken ss x 0) (place_sum ps x)
      (taken_below ss 0 (pow_pos 64))
      (place_sum_below ps 64 x a.0 b.0)
      (λ k l. from_place ps ss k c.0 (agree_below_at (comes_from ps ss) (λ _. true) 64 k c.1 l) l ∙ sym (bit_at-place_sum ps x k a.0))

-- ---- the window keeps its length

pub not_placed_above : (ps : List ImmediateBit) (n i : ℕ) → words_below n ps ≡ true → n ≤ i → is_placed ps i ≡ false
not_placed_above [] n i h l = refl
not_placed_above (p ∷ ps) n i h l =
    let parts = and_parts (ltb p.insn_bit n) (words_below n ps) h in
    let below = ltb-true p.insn_bit n parts.0 in
    or_from (eqb p.insn_bit i) (is_placed ps i) (ne_eqb p.insn_bit i (λ e. absurd (omega arith))) (not_placed_above ps n i parts.1 l)

pub laid_below : (ps : List ImmediateBit) (n v x y : ℕ) → words_below n ps ≡ true → BitsWritten ps v x y → x < 2 ^ n → y < 2 ^ n
laid_below ps n v x y h laid small =
    let same : y ≡ y % 2 ^ n =
    same_from_bits y (y % 2 ^ n) (λ i. elim (cases_lt i n) [
      | inl inside ↦ sym (bit_at_mod y n i inside)
      | inr above ↦
          laid.kept i (not_placed_above ps n i h above) ∙ bit_at_above x n i small above ∙ sym (bit_at_mod_above y n i above)
    ]) in
    subst (λ t. t < 2 ^ n) (sym same) (mod_below y (2 ^ n) (pow_pos n))

pub consecutive_bits_outside : (n k w r : ℕ) (m : Mark) (i : ℕ) → (i < w) ⊎ (w + n ≤ i) → is_placed (consecutive_bits n k w r m) i ≡ false
consecutive_bits_outside zero k w r m i o = refl
consecutive_bits_outside (suc n) k w r m i (inl below) =
    or_from (eqb w i) (is_placed (consecutive_bits n (k + 1) (w + 1) r m) i) (ne_eqb w i (λ e. absurd (omega arith))) (consecutive_bits_outside n (k + 1) (w + 1) r m i (inl (omega arith)))
consecutive_bits_outside (suc n) k w r m i (inr above) =
    or_from (eqb w i) (is_placed (consecutive_bits n (k + 1) (w + 1) r m) i) (ne_eqb w i (λ e. absurd (omega arith))) (consecutive_bits_outside n (k + 1) (w + 1) r m i (inr (omega arith)))
