-- The laws of forms: what the machine reads after a write, and that writing back what was read
-- changes nothing.
use Rattle.linker_base.proofs.Imports.{All, All-cons, All-head, All-nil, All-tail, AllPass-from_list_all, BitsWritten, Bool, Claim, Field, Fits, ImmediateBit, IsClear, IsSameBy, IsSameModulo, Layout, List, MachineReads, Mark, Sign, WriteBackChangesNothing, Written, [], agree_below, agree_below_at, and_from, and_parts, and_right, ap, arith, bit_at, bit_for, cases_Bool, cases_lt, cast_unsigned, cleared, cond, cond-false, cond-true, eq-eqb, eqb, eqb-false, eqb-true, exactly, false, field_form, form_of, get_or, has_value, holds_value_bit, inl, inr, int_rem_euclid, is_clear_at, is_of, is_placed, le-leb, le-ltb, leb, leb-true, list_all, ltb, ltb-true, mod-eq_of_lt, mod_below, modulo, ne_eqb, not, not-true, number_of, one_field, or_cases, or_from, or_parts, ored, own_form, place_sum, placed_bit, pos, pow_mono, pow_pos, refl, replaced, same_from_bits, subst, sym, true, twos_complement, unclaimed, unsigned, values_apart, values_below, w64, ℕ, ◌%◌, ◌&&◌, ◌*◌, ◌+◌, ◌-◌, ◌/◌, ◌<◌, ◌^◌, ◌∙◌, ◌∷◌, ◌≡◌, ◌≤◌}
use Rattle.linker_base.proofs.Places.{value_bit, adds, value_bit_none, bit_at-place_sum, value_bit_laid}
use Rattle.linker_base.proofs.Fields.{mod_mod, bit_at_window, bit_at_mod, bit_at_mod_above, signed_rem, signed_bits, aligned_rem}

-- the places hold value bits low and up, below high, each once, and no others
abbrev pub fills : ℕ → ℕ → List ImmediateBit → Bool
fills low high ps = values_apart ps && values_below 64 ps && agree_below (has_value ps) (λ k. leb low k && ltb k high) 64

has_value_above : (ps : List ImmediateBit) (n k : ℕ) → values_below n ps ≡ true → n ≤ k → has_value ps k ≡ false
has_value_above [] n k h l = refl
has_value_above (p ∷ ps) n k h l =
    let parts = and_parts (ltb p.value n) (values_below n ps) h in
    let below : p.value < n = ltb-true p.value n parts.0 in
    or_from (is_of p k) (has_value ps k)
    (and_right (holds_value_bit p.mark) (eqb p.value k) (ne_eqb p.value k (λ e. absurd (omega arith))))
    (has_value_above ps n k parts.1 l)

pub has_value_fills : (low high : ℕ) (ps : List ImmediateBit) (k : ℕ) → high ≤ 64 → fills low high ps ≡ true → has_value ps k ≡ (leb low k && ltb k high)
has_value_fills low high ps k l h =
    let parts = and_parts (values_apart ps && values_below 64 ps) (agree_below (has_value ps) (λ j. leb low j && ltb j high) 64) h in
    let below = (and_parts (values_apart ps) (values_below 64 ps) parts.0).1 in
    elim (cases_lt k 64) [
      | inl inside ↦ agree_below_at (has_value ps) (λ j. leb low j && ltb j high) 64 k parts.1 inside
      | inr above ↦ has_value_above ps 64 k below above ∙ sym (and_right (leb low k) (ltb k high) (le-ltb k high (omega arith)))
    ]

pub values_apart_fills : (low high : ℕ) (ps : List ImmediateBit) → fills low high ps ≡ true → values_apart ps ≡ true
values_apart_fills low high ps h =
    (and_parts (values_apart ps) (values_below 64 ps) (and_parts (values_apart ps && values_below 64 ps) (agree_below (has_value ps) (λ j. leb low j && ltb j high) 64) h).0).0

-- where a value is placed and the places that are only ORed held 0, the number at the places is
-- that field of the value plus r
pub place_sum_placed : (low high r : ℕ) (ps : List ImmediateBit) (v before after : ℕ) → high ≤ 64 → fills low high ps ≡ true → adds r ps ≡ true
    → All (λ (p : ImmediateBit). bit_at after p.insn_bit ≡ placed_bit p.mark (bit_for p v) (bit_at before p.insn_bit)) ps → IsClear ps before
    → place_sum ps after ≡ (v + r) % 2 ^ 64 / 2 ^ low % 2 ^ (high - low) * 2 ^ low
place_sum_placed low high r ps v before after l h u placed clear =
    same_from_bits (place_sum ps after) ((v + r) % 2 ^ 64 / 2 ^ low % 2 ^ (high - low) * 2 ^ low) (λ i.
    bit_at-place_sum ps after i (values_apart_fills low high ps h)
    ∙ value_bit_laid ps r v before after i u placed clear
    ∙ ap (λ t. cond t (bit_at ((v + r) % 2 ^ 64) i) 0) (has_value_fills low high ps i l h)
    ∙ sym (bit_at_window ((v + r) % 2 ^ 64) low high i))

-- after a write
pub place_sum_laid : (low high r : ℕ) (ps : List ImmediateBit) (v before after : ℕ) → high ≤ 64 → fills low high ps ≡ true → adds r ps ≡ true → BitsWritten ps v before after → IsClear ps before
    → place_sum ps after ≡ (v + r) % 2 ^ 64 / 2 ^ low % 2 ^ (high - low) * 2 ^ low
place_sum_laid low high r ps v before after l h u laid clear = place_sum_placed low high r ps v before after l h u laid.placed clear

-- ---- what was read, written back

-- each place holds a bit of the value
abbrev pub all_hold : List ImmediateBit → Bool
all_hold [] = true
all_hold (p ∷ ps) = holds_value_bit p.mark && all_hold ps

eqb_turned : (a b : ℕ) → eqb a b ≡ false → eqb b a ≡ false
eqb_turned a b h = ne_eqb b a (λ e. eqb-false a b h (sym e))

other_values : (k : ℕ) (ps : List ImmediateBit) → has_value ps k ≡ false → all_hold ps ≡ true → All (λ (q : ImmediateBit). eqb k q.value ≡ false) ps
other_values k [] h a = All-nil (λ (q : ImmediateBit). eqb k q.value ≡ false)
other_values k (p ∷ ps) h a =
    let none = or_parts (is_of p k) (has_value ps k) h in
    let held = and_parts (holds_value_bit p.mark) (all_hold ps) a in
    All-cons (λ (q : ImmediateBit). eqb k q.value ≡ false) p ps
    (eqb_turned p.value k (rw held.0 at none.0))
    (other_values k ps none.1 held.1)

-- the place of a place's value bit is itself
pub own_bits : (ps : List ImmediateBit) (x : ℕ) → values_apart ps ≡ true → all_hold ps ≡ true → All (λ (p : ImmediateBit). value_bit ps p.value x ≡ bit_at x p.insn_bit) ps
own_bits [] x h a = All-nil (λ (p : ImmediateBit). value_bit [] p.value x ≡ bit_at x p.insn_bit)
own_bits (p ∷ ps) x h a =
    let held = and_parts (holds_value_bit p.mark) (all_hold ps) a in
    let parts = and_parts (not (holds_value_bit p.mark && has_value ps p.value)) (values_apart ps) h in
    let alone : has_value ps p.value ≡ false = rw held.0 at (not-true (holds_value_bit p.mark && has_value ps p.value) parts.0) in
    let others = other_values p.value ps alone held.1 in
    let rest = own_bits ps x parts.1 held.1 in
    All-cons (λ (q : ImmediateBit). value_bit (p ∷ ps) q.value x ≡ bit_at x q.insn_bit) p ps
    (cond-true (is_of p p.value) (bit_at x p.insn_bit) (value_bit ps p.value x) (and_from (holds_value_bit p.mark) (eqb p.value p.value) held.0 (eq-eqb p.value p.value refl)))
    (λ k d l. cond-false (is_of p (get_or ps k d).value) (bit_at x p.insn_bit) (value_bit ps (get_or ps k d).value x) (and_right (holds_value_bit p.mark) (eqb p.value (get_or ps k d).value) (others k d l)) ∙ rest k d l)

pub bit_looked_up : (ps : List ImmediateBit) (w x y : ℕ) → All (λ (p : ImmediateBit). bit_at y p.insn_bit ≡ bit_at x p.insn_bit) ps → is_placed ps w ≡ true → bit_at y w ≡ bit_at x w
bit_looked_up [] w x y h t = cc
bit_looked_up (p ∷ ps) w x y h t =
    elim (or_cases (eqb p.insn_bit w) (is_placed ps w) t) [
      | inl e ↦ subst (λ k. bit_at y k ≡ bit_at x k) (eqb-true p.insn_bit w e) (All-head (λ (q : ImmediateBit). bit_at y q.insn_bit ≡ bit_at x q.insn_bit) p ps h)
      | inr e ↦ bit_looked_up ps w x y (All-tail (λ (q : ImmediateBit). bit_at y q.insn_bit ≡ bit_at x q.insn_bit) p ps h) e
    ]

pub same_window : (ps : List ImmediateBit) (before after : ℕ) → All (λ (p : ImmediateBit). bit_at after p.insn_bit ≡ bit_at before p.insn_bit) ps → ((w : ℕ) → is_placed ps w ≡ false → bit_at after w ≡ bit_at before w) → after ≡ before
same_window ps before after placed kept =
    same_from_bits after before (λ w. elim (cases_Bool (is_placed ps w)) [
      | inl t ↦ bit_looked_up ps w before after placed t
      | inr f ↦ kept w f
    ])

same_bit : (m : Mark) (new old : ℕ) → holds_value_bit m ≡ true → new ≡ old → placed_bit m new old ≡ old
same_bit replaced new old h e = e
same_bit ored new old h e = omega arith
same_bit cleared new old h e = cc

-- all places are of value bits from bit n up
abbrev pub values_from : ℕ → List ImmediateBit → Bool
values_from n [] = true
values_from n (p ∷ ps) = leb n p.value && values_from n ps

values_from_zero : (ps : List ImmediateBit) → values_from 0 ps ≡ true
values_from_zero [] = refl
values_from_zero (p ∷ ps) = and_from (leb 0 p.value) (values_from 0 ps) (le-leb 0 p.value (omega arith)) (values_from_zero ps)

pub bits_kept : (low n r : ℕ) (v before after : ℕ) (f : ℕ → ℕ) (ps : List ImmediateBit) → ((k : ℕ) → low ≤ k → k < n → bit_at ((v + r) % 2 ^ 64) k ≡ f k)
    → values_from low ps ≡ true → values_below n ps ≡ true → all_hold ps ≡ true → adds r ps ≡ true
    → All (λ (p : ImmediateBit). f p.value ≡ bit_at before p.insn_bit) ps
    → All (λ (p : ImmediateBit). bit_at after p.insn_bit ≡ placed_bit p.mark (bit_for p v) (bit_at before p.insn_bit)) ps
    → All (λ (p : ImmediateBit). bit_at after p.insn_bit ≡ bit_at before p.insn_bit) ps
bits_kept low n r v before after f [] g c b a u own placed = All-nil (λ (p : ImmediateBit). bit_at after p.insn_bit ≡ bit_at before p.insn_bit)
bits_kept low n r v before after f (p ∷ ps) g c b a u own placed =
    let from = and_parts (leb low p.value) (values_from low ps) c in
    let below = and_parts (ltb p.value n) (values_below n ps) b in
    let held = and_parts (holds_value_bit p.mark) (all_hold ps) a in
    let added = and_parts (eqb p.added r) (adds r ps) u in
    let new : bit_for p v ≡ bit_at before p.insn_bit =
    ap (λ a. bit_at ((v + a) % 2 ^ 64) p.value) (eqb-true p.added r added.0)
    ∙ g p.value (leb-true low p.value from.0) (ltb-true p.value n below.0)
    ∙ All-head (λ (q : ImmediateBit). f q.value ≡ bit_at before q.insn_bit) p ps own in
    All-cons (λ (q : ImmediateBit). bit_at after q.insn_bit ≡ bit_at before q.insn_bit) p ps
    (All-head (λ (q : ImmediateBit). bit_at after q.insn_bit ≡ placed_bit q.mark (bit_for q v) (bit_at before q.insn_bit)) p ps placed
    ∙ same_bit p.mark (bit_for p v) (bit_at before p.insn_bit) held.0 new)
    (bits_kept low n r v before after f ps g from.1 below.1 held.1 added.1
    (All-tail (λ (q : ImmediateBit). f q.value ≡ bit_at before q.insn_bit) p ps own)
    (All-tail (λ (q : ImmediateBit). bit_at after q.insn_bit ≡ placed_bit q.mark (bit_for q v) (bit_at before q.insn_bit)) p ps placed))

-- a write of a value whose sum with r has the bits that stand at the places changes nothing
pub restored : (n r : ℕ) (ps : List ImmediateBit) (v before after : ℕ) → values_apart ps ≡ true → values_below n ps ≡ true → all_hold ps ≡ true → adds r ps ≡ true
    → (v + r) % 2 ^ 64 % 2 ^ n ≡ place_sum ps before → BitsWritten ps v before after → after ≡ before
restored n r ps v before after apart below held u e laid =
    same_window ps before after
    (bits_kept 0 n r v before after (λ k. value_bit ps k before) ps
    (λ k z l. sym (bit_at_mod ((v + r) % 2 ^ 64) n k l) ∙ ap (λ y. bit_at y k) e ∙ bit_at-place_sum ps before k apart)
    (values_from_zero ps) below held u (own_bits ps before apart held) laid.placed)
    laid.kept

-- ---- forms of one field

-- an exact claim takes values that fit the field, read without a sign; a claim modulo 2 ^ m is of
-- all bits
abbrev pub is_claimed : Claim → Sign → ℕ → ℕ → Bool
is_claimed exactly unsigned width n = eqb width n
is_claimed exactly twos_complement width n = false
is_claimed (modulo m) s width n = eqb m n
is_claimed unclaimed s width n = true

-- What the laws require of a field's numbers and places: they hold value bits low up, below n, each
-- once, and nothing else; the value has n bits, or every value is written.
abbrev pub is_sound_field : Field → Bool
is_sound_field d =
    leb d.low d.bits && (leb d.bits d.width && (leb d.width 64 && (fills d.low d.bits d.places
    && (values_below d.bits d.places && (all_hold d.places && (adds 0 d.places && is_claimed d.claim d.machine d.width d.bits))))))

pub record IsSoundField (d : Field) : Type 0 where
  pub ordered : d.low ≤ d.bits
  pub within : d.bits ≤ d.width
  pub fits : d.width ≤ 64
  pub filled : fills d.low d.bits d.places ≡ true
  pub below : values_below d.bits d.places ≡ true
  pub held : all_hold d.places ≡ true
  pub unadded : adds 0 d.places ≡ true
  pub claimed : is_claimed d.claim d.machine d.width d.bits ≡ true

pub sound_field : (d : Field) → is_sound_field d ≡ true → IsSoundField d
sound_field d h =
    let g = is_claimed d.claim d.machine d.width d.bits in
    let a = and_parts (leb d.low d.bits) (leb d.bits d.width && (leb d.width 64 && (fills d.low d.bits d.places && (values_below d.bits d.places && (all_hold d.places && (adds 0 d.places && g)))))) h in
    let b = and_parts (leb d.bits d.width) (leb d.width 64 && (fills d.low d.bits d.places && (values_below d.bits d.places && (all_hold d.places && (adds 0 d.places && g))))) a.1 in
    let c = and_parts (leb d.width 64) (fills d.low d.bits d.places && (values_below d.bits d.places && (all_hold d.places && (adds 0 d.places && g)))) b.1 in
    let p = and_parts (fills d.low d.bits d.places) (values_below d.bits d.places && (all_hold d.places && (adds 0 d.places && g))) c.1 in
    let e = and_parts (values_below d.bits d.places) (all_hold d.places && (adds 0 d.places && g)) p.1 in
    let f = and_parts (all_hold d.places) (adds 0 d.places && g) e.1 in
    let k = and_parts (adds 0 d.places) g f.1 in
    record {
      ordered = leb-true d.low d.bits a.0;
      within = leb-true d.bits d.width b.0;
      fits = leb-true d.width 64 c.0;
      filled = p.0;
      below = e.0;
      held = f.0;
      unadded = k.0;
      claimed = k.1;
    }

pub whole : (v : ℕ) → v < 2 ^ 64 → (v + 0) % 2 ^ 64 ≡ v
whole v h = omega arith

pub place_sum_below : (ps : List ImmediateBit) (n x : ℕ) → values_apart ps ≡ true → values_below n ps ≡ true → place_sum ps x < 2 ^ n
place_sum_below ps n x a b =
    let same : place_sum ps x ≡ place_sum ps x % 2 ^ n =
    same_from_bits (place_sum ps x) (place_sum ps x % 2 ^ n) (λ i. elim (cases_lt i n) [
      | inl inside ↦ sym (bit_at_mod (place_sum ps x) n i inside)
      | inr above ↦
          bit_at-place_sum ps x i a ∙ value_bit_none ps i x (has_value_above ps n i b above) ∙ sym (bit_at_mod_above (place_sum ps x) n i above)
    ]) in
    subst (λ y. y < 2 ^ n) (sym same) (mod_below (place_sum ps x) (2 ^ n) (pow_pos n))

-- either sign reads a number of n bits modulo 2 ^ n
pub number_rem : (s : Sign) (n f : ℕ) → f < 2 ^ n → int_rem_euclid (number_of s n f) (pos (2 ^ n)) ≡ pos f
number_rem unsigned n f h = ap pos (mod-eq_of_lt h)
number_rem twos_complement n f h = signed_rem n f h

number_bits : (s : Sign) (n f : ℕ) → f < 2 ^ n → n ≤ 64 → cast_unsigned w64 (number_of s n f) % 2 ^ n ≡ f
number_bits unsigned n f h l = mod-eq_of_lt h
number_bits twos_complement n f h l = signed_bits n f h l

-- the claim, of a value without some low bits, from the number of n bits that stands in the field
number_claimed : (claim : Claim) (s : Sign) (width n v low sum : ℕ) → is_claimed claim s width n ≡ true → v < 2 ^ width
    → sum ≡ (v - v % 2 ^ low) % 2 ^ n → IsSameBy claim (number_of s n sum) (pos (v - v % 2 ^ low))
number_claimed exactly unsigned width n v low sum h fit e =
    let small : v < 2 ^ n = subst (λ k. v < 2 ^ k) (eqb-true width n h) fit in
    ap pos (e ∙ mod-eq_of_lt (omega arith))
number_claimed exactly twos_complement width n v low sum h fit e = cc
number_claimed (modulo m) s width n v low sum h fit e =
    let small : sum < 2 ^ n = subst (λ y. y < 2 ^ n) (sym e) (mod_below (v - v % 2 ^ low) (2 ^ n) (pow_pos n)) in
    subst (λ k. IsSameModulo k (number_of s n sum) (pos (v - v % 2 ^ low))) (sym (eqb-true m n h)) (number_rem s n sum small ∙ ap pos e)
number_claimed unclaimed s width n v low sum h fit e = tt

module _ (d : Field) (sound : IsSoundField d) where
  short : d.bits ≤ 64
  short = let a = sound.within in let b = sound.fits in omega arith

  -- the number at the places after a write
  pub laid_field : (v before after : ℕ) → v < 2 ^ 64 → BitsWritten d.places v before after → IsClear d.places before
      → place_sum d.places after ≡ (v - v % 2 ^ d.low) % 2 ^ d.bits
  laid_field v before after h laid clear =
      place_sum_laid d.low d.bits 0 d.places v before after short sound.filled sound.unadded laid clear
      ∙ ap (λ y. y / 2 ^ d.low % 2 ^ (d.bits - d.low) * 2 ^ d.low) (whole v h)
      ∙ sym (aligned_rem v d.low d.bits sound.ordered)

  -- the machine reads the value, as it is claimed
  pub field_machine : (v : ℕ) (neg : Bool) (before after : ℕ) → v < 2 ^ 64 → Fits (field_form d) v before
      → Written (field_form d) v neg before after → MachineReads (field_form d) v neg before after
  field_machine v neg before after h fit laid clear =
      number_claimed d.claim d.machine d.width d.bits v d.low (place_sum d.places after) sound.claimed fit (laid_field v before after h laid clear)

  pub field_restored : WriteBackChangesNothing (field_form d)
  field_restored v neg before after h laid back =
      let apart = values_apart_fills d.low d.bits d.places sound.filled in
      let sum = place_sum d.places before in
      restored d.bits 0 d.places v before after apart sound.below sound.held sound.unadded
      (ap (λ y. y % 2 ^ d.bits) (whole v h ∙ back.value)
      ∙ mod_mod (cast_unsigned w64 (number_of d.read d.bits sum)) d.width d.bits sound.within
      ∙ number_bits d.read d.bits sum (place_sum_below d.places d.bits before apart sound.below) short)
      laid

-- ---- forms that a layout gives

abbrev pub is_sound_layout : Layout → Bool
is_sound_layout (one_field d) = is_sound_field d
is_sound_layout (own_form form) = false

-- the lowest bit of the field, and the first above it
abbrev pub low_of : Layout → ℕ
low_of (one_field d) = d.low
low_of (own_form form) = 0

abbrev pub high_of : Layout → ℕ
high_of (one_field d) = d.bits
high_of (own_form form) = 0

pub layout_laid : (l : Layout) → is_sound_layout l ≡ true → (v : ℕ) (neg : Bool) (before after : ℕ) → v < 2 ^ 64
    → Written (form_of l) v neg before after → IsClear ((form_of l).places before) before
    → place_sum ((form_of l).places before) after ≡ (v - v % 2 ^ low_of l) % 2 ^ high_of l
layout_laid (one_field d) h v neg before after wide laid clear = laid_field d (sound_field d h) v before after wide laid clear
layout_laid (own_form form) h v neg before after wide laid clear = cc

pub layout_machine : (l : Layout) → is_sound_layout l ≡ true → (v : ℕ) (neg : Bool) (before after : ℕ) → v < 2 ^ 64
    → Fits (form_of l) v before
    → Written (form_of l) v neg before after → MachineReads (form_of l) v neg before after
layout_machine (one_field d) h v neg before after wide fit laid = field_machine d (sound_field d h) v neg before after wide fit laid
layout_machine (own_form form) h v neg before after wide fit laid = cc

pub layout_restores : (l : Layout) → is_sound_layout l ≡ true → WriteBackChangesNothing (form_of l)
layout_restores (one_field d) h = field_restored d (sound_field d h)
layout_restores (own_form form) h = cc

pub subst_below : (v n m : ℕ) → v < 2 ^ n → n ≤ m → v < 2 ^ m
subst_below v n m h l =
    let most : 2 ^ n ≤ 2 ^ m = pow_mono l in
    omega arith

-- ---- no place is only ORed

abbrev pub is_not_ored : Mark → Bool
is_not_ored replaced = true
is_not_ored ored = false
is_not_ored cleared = true

abbrev pub none_ored : List ImmediateBit → Bool
none_ored ps = list_all (λ (p : ImmediateBit). is_not_ored p.mark) ps

clear_at : (m : Mark) (b : ℕ) → is_not_ored m ≡ true → is_clear_at m b ≡ true
clear_at replaced b h = refl
clear_at ored b h = cc
clear_at cleared b h = refl

pub always_clear : (ps : List ImmediateBit) (x : ℕ) → none_ored ps ≡ true → IsClear ps x
always_clear ps x h k p within = clear_at (get_or ps k p).mark (bit_at x (get_or ps k p).insn_bit) (AllPass-from_list_all (λ (q : ImmediateBit). is_not_ored q.mark) ps h k p within)
