-- The address that the five instructions make.
use Rattle.linker_elf.proofs.Imports.{ap, arith, bit_at, cases_lt, cond_both, eq-eqb, field, high_correction, high_distance, inl, inr, int_rem_euclid, int_rem_euclid_is, ints, ltb, ltb-false, ltb-true, ne_eqb, page, pos, refl, signed, sym, ℕ, ℤ, ◌%◌, ◌*ℤ◌, ◌*◌, ◌+ℤ◌, ◌+◌, ◌-ℤ◌, ◌-◌, ◌/◌, ◌<◌, ◌^◌, ◌∙◌, ◌≡◌, ◌≤◌}

-- ---- in pages

-- bits 12 to 31 of a distance of pages
first_pages : (u p : ℕ) → u < 2 ^ 52 → p < 2 ^ 52 → field ((4096 * u + (2 ^ 64 - 4096 * p)) % 2 ^ 64) 12 32 ≡ (u + 2 ^ 52 - p) % 2 ^ 20
first_pages u p a b = omega arith

-- bits 32 to 63
high_pages : (u p : ℕ) → u < 2 ^ 52 → p < 2 ^ 52
    → field ((4096 * u + (2 ^ 64 - 4096 * p)) % 2 ^ 64) 32 52 + 2 ^ 20 * field ((4096 * u + (2 ^ 64 - 4096 * p)) % 2 ^ 64) 52 64 ≡ (u + 2 ^ 52 - p) % 2 ^ 52 / 2 ^ 20
high_pages u p a b = omega arith

page_is : (p o : ℕ) → o < 4096 → page (4096 * p + o) ≡ 4096 * p
page_is p o h = omega arith

pc_back : (pc : ℕ) → pc < 2 ^ 64 → ((pc + 8) % 2 ^ 64 + (2 ^ 64 - 8)) % 2 ^ 64 ≡ pc
pc_back pc h = omega arith

-- the target's low 12 bits are not negative, read in two's complement
module _ (p o t l : ℕ) (pages : p < 2 ^ 52) (inside : o < 4096) (target : t < 2 ^ 52) (low : l < 2048) where
  page_low : page ((4096 * t + l + 0x800) % 2 ^ 64) ≡ 4096 * t
  page_low = omega arith

  first_low : field ((page ((4096 * t + l + 0x800) % 2 ^ 64) + (2 ^ 64 - page (4096 * p + o))) % 2 ^ 64) 12 32 ≡ (t + 2 ^ 52 - p) % 2 ^ 20
  first_low = ap (λ y. field ((y + (2 ^ 64 - page (4096 * p + o))) % 2 ^ 64) 12 32) page_low
      ∙ ap (λ y. field ((4096 * t + (2 ^ 64 - y)) % 2 ^ 64) 12 32) (page_is p o inside)
      ∙ first_pages t p target pages

  no_bit : bit_at (4096 * t + l) 11 ≡ 0
  no_bit = omega arith

  no_correction : high_correction (4096 * t + l) ≡ 0
  no_correction = rw (ne_eqb (bit_at (4096 * t + l) 11) 1 (λ e. absurd (omega (arith, no_bit)))) refl

  rounded_low : page ((4096 * t + l + 2 ^ 31 + 0) % 2 ^ 64) ≡ 4096 * ((t + 2 ^ 19) % 2 ^ 52)
  rounded_low = omega arith

  distance_low : high_distance (4096 * t + l) ((4096 * p + o + 8) % 2 ^ 64) ≡ (4096 * ((t + 2 ^ 19) % 2 ^ 52) + (2 ^ 64 - 4096 * p)) % 2 ^ 64
  distance_low =
      ap (λ c. (page ((4096 * t + l + 2 ^ 31 + c) % 2 ^ 64) + (2 ^ 64 - page (((4096 * p + o + 8) % 2 ^ 64 + (2 ^ 64 - 8)) % 2 ^ 64))) % 2 ^ 64) no_correction
      ∙ ap (λ y. (y + (2 ^ 64 - page (((4096 * p + o + 8) % 2 ^ 64 + (2 ^ 64 - 8)) % 2 ^ 64))) % 2 ^ 64) rounded_low
      ∙ ap (λ y. (4096 * ((t + 2 ^ 19) % 2 ^ 52) + (2 ^ 64 - page y)) % 2 ^ 64) (pc_back (4096 * p + o) (omega arith))
      ∙ ap (λ y. (4096 * ((t + 2 ^ 19) % 2 ^ 52) + (2 ^ 64 - y)) % 2 ^ 64) (page_is p o inside)

-- they are
module _ (p o t l : ℕ) (pages : p < 2 ^ 52) (inside : o < 4096) (target : t < 2 ^ 52) (low : 2048 ≤ l) (small : l < 4096) where
  page_high : page ((4096 * t + l + 0x800) % 2 ^ 64) ≡ 4096 * ((t + 1) % 2 ^ 52)
  page_high = omega arith

  first_high : field ((page ((4096 * t + l + 0x800) % 2 ^ 64) + (2 ^ 64 - page (4096 * p + o))) % 2 ^ 64) 12 32 ≡ ((t + 1) % 2 ^ 52 + 2 ^ 52 - p) % 2 ^ 20
  first_high = ap (λ y. field ((y + (2 ^ 64 - page (4096 * p + o))) % 2 ^ 64) 12 32) page_high
      ∙ ap (λ y. field ((4096 * ((t + 1) % 2 ^ 52) + (2 ^ 64 - y)) % 2 ^ 64) 12 32) (page_is p o inside)
      ∙ first_pages ((t + 1) % 2 ^ 52) p (omega arith) pages

  bit_set : bit_at (4096 * t + l) 11 ≡ 1
  bit_set = omega arith

  correction : high_correction (4096 * t + l) ≡ 2 ^ 64 + 2 ^ 12 - 2 ^ 32
  correction = rw (eq-eqb (bit_at (4096 * t + l) 11) 1 bit_set) refl

  rounded_high : page ((4096 * t + l + 2 ^ 31 + (2 ^ 64 + 2 ^ 12 - 2 ^ 32)) % 2 ^ 64) ≡ 4096 * ((t + 1 + 2 ^ 19 + (2 ^ 52 - 2 ^ 20)) % 2 ^ 52)
  rounded_high = omega arith

  distance_high : high_distance (4096 * t + l) ((4096 * p + o + 8) % 2 ^ 64) ≡ (4096 * ((t + 1 + 2 ^ 19 + (2 ^ 52 - 2 ^ 20)) % 2 ^ 52) + (2 ^ 64 - 4096 * p)) % 2 ^ 64
  distance_high =
      ap (λ c. (page ((4096 * t + l + 2 ^ 31 + c) % 2 ^ 64) + (2 ^ 64 - page (((4096 * p + o + 8) % 2 ^ 64 + (2 ^ 64 - 8)) % 2 ^ 64))) % 2 ^ 64) correction
      ∙ ap (λ y. (y + (2 ^ 64 - page (((4096 * p + o + 8) % 2 ^ 64 + (2 ^ 64 - 8)) % 2 ^ 64))) % 2 ^ 64) rounded_high
      ∙ ap (λ y. (4096 * ((t + 1 + 2 ^ 19 + (2 ^ 52 - 2 ^ 20)) % 2 ^ 52) + (2 ^ 64 - page y)) % 2 ^ 64) (pc_back (4096 * p + o) (omega arith))
      ∙ ap (λ y. (4096 * ((t + 1 + 2 ^ 19 + (2 ^ 52 - 2 ^ 20)) % 2 ^ 52) + (2 ^ 64 - y)) % 2 ^ 64) (page_is p o inside)

-- ---- the instructions

page_left : (p o f : ℕ) → o < 4096 → int_rem_euclid (pos (4096 * p + o) +ℤ (signed 20 f *ℤ pos 4096)) (pos 4096) ≡ pos o
page_left p o f h =
    cond_both (ltb f (2 ^ 19)) (pos f) (pos f -ℤ pos (2 ^ 20)) (λ z. int_rem_euclid (pos (4096 * p + o) +ℤ (z *ℤ pos 4096)) (pos 4096) ≡ pos o)
    (λ s. int_rem_euclid_is (pos (4096 * p + o) +ℤ (pos f *ℤ pos 4096)) (pos 4096) 4096 (2 ^ 20) (4096 * p + o + 4096 * f + 2 ^ 32) (omega arith) refl (omega (arith, ints)) ∙ ap pos (omega arith))
    (λ s. int_rem_euclid_is (pos (4096 * p + o) +ℤ ((pos f -ℤ pos (2 ^ 20)) *ℤ pos 4096)) (pos 4096) 4096 (2 ^ 20) (4096 * p + o + 4096 * f) (omega arith) refl (omega (arith, ints)) ∙ ap pos (omega arith))

-- `pcalau12i`
aligned_sum : (p o f : ℕ) → o < 4096
    → (pos (4096 * p + o) +ℤ (signed 20 f *ℤ pos 4096)) -ℤ int_rem_euclid (pos (4096 * p + o) +ℤ (signed 20 f *ℤ pos 4096)) (pos 4096) ≡ pos (4096 * p) +ℤ (signed 20 f *ℤ pos 4096)
aligned_sum p o f h =
    ap (λ z. (pos (4096 * p + o) +ℤ (signed 20 f *ℤ pos 4096)) -ℤ z) (page_left p o f h)
    ∙ cond_both (ltb f (2 ^ 19)) (pos f) (pos f -ℤ pos (2 ^ 20)) (λ z. (pos (4096 * p + o) +ℤ (z *ℤ pos 4096)) -ℤ pos o ≡ pos (4096 * p) +ℤ (z *ℤ pos 4096))
    (λ s. omega (arith, ints))
    (λ s. omega (arith, ints))

pub page_and_distance : (pc f : ℕ)
    → (pos pc +ℤ (signed 20 f *ℤ pos 4096)) -ℤ int_rem_euclid (pos pc +ℤ (signed 20 f *ℤ pos 4096))
    (pos 4096) ≡ pos (page pc) +ℤ (signed 20 f *ℤ pos 4096)
page_and_distance pc f =
    let split : pc ≡ 4096 * (pc / 4096) + pc % 4096 = omega arith in
    let start : 4096 * (pc / 4096) ≡ page pc = omega arith in
    ap (λ y. (pos y +ℤ (signed 20 f *ℤ pos 4096)) -ℤ int_rem_euclid
    (pos y +ℤ (signed 20 f *ℤ pos 4096)) (pos 4096)) split
    ∙ aligned_sum (pc / 4096) (pc % 4096) f (omega arith)
    ∙ ap (λ y. pos y +ℤ (signed 20 f *ℤ pos 4096)) start

-- `addi.d` from zero, cut to 32 bits
addi_low : (l : ℕ) → l < 2048 → int_rem_euclid (signed 12 l) (pos (2 ^ 32)) ≡ pos l
addi_low l h =
    cond_both (ltb l (2 ^ 11)) (pos l) (pos l -ℤ pos (2 ^ 12)) (λ z. int_rem_euclid z (pos (2 ^ 32)) ≡ pos l)
    (λ t. ap pos (omega arith))
    (λ t. absurd (omega (arith, ltb-false l (2 ^ 11) t)))

addi_high : (l : ℕ) → 2048 ≤ l → l < 4096 → int_rem_euclid (signed 12 l) (pos (2 ^ 32)) ≡ pos (l + (2 ^ 32 - 2 ^ 12))
addi_high l h s =
    cond_both (ltb l (2 ^ 11)) (pos l) (pos l -ℤ pos (2 ^ 12)) (λ z. int_rem_euclid z (pos (2 ^ 32)) ≡ pos (l + (2 ^ 32 - 2 ^ 12)))
    (λ t. absurd (omega (arith, ltb-true l (2 ^ 11) t)))
    (λ t. int_rem_euclid_is (pos l -ℤ pos (2 ^ 12)) (pos (2 ^ 32)) (2 ^ 32) 1 (l + (2 ^ 32 - 2 ^ 12)) (omega arith) refl (omega (arith, ints)) ∙ ap pos (omega arith))

-- what the pages and the high part come to
sum_low : (p t l f g : ℕ) → p < 2 ^ 52 → t < 2 ^ 52 → l < 2048 → f ≡ (t + 2 ^ 52 - p) % 2 ^ 20 → g ≡ ((t + 2 ^ 19) % 2 ^ 52 + 2 ^ 52 - p) % 2 ^ 52 / 2 ^ 20
    → int_rem_euclid ((pos (4096 * p) +ℤ (signed 20 f *ℤ pos 4096)) +ℤ (pos l +ℤ pos (2 ^ 32 * g))) (pos (2 ^ 64)) ≡ pos (4096 * t + l)
sum_low p t l f g a b c e h =
    cond_both (ltb f (2 ^ 19)) (pos f) (pos f -ℤ pos (2 ^ 20)) (λ z. int_rem_euclid ((pos (4096 * p) +ℤ (z *ℤ pos 4096)) +ℤ (pos l +ℤ pos (2 ^ 32 * g))) (pos (2 ^ 64)) ≡ pos (4096 * t + l))
    (λ s. int_rem_euclid_is ((pos (4096 * p) +ℤ (pos f *ℤ pos 4096)) +ℤ (pos l +ℤ pos (2 ^ 32 * g))) (pos (2 ^ 64)) (2 ^ 64) 1 (4096 * p + 4096 * f + l + 2 ^ 32 * g + 2 ^ 64) (omega arith) refl (omega (arith, ints))
    ∙ ap pos (omega (arith, ltb-true f (2 ^ 19) s)))
    (λ s. int_rem_euclid_is ((pos (4096 * p) +ℤ ((pos f -ℤ pos (2 ^ 20)) *ℤ pos 4096)) +ℤ (pos l +ℤ pos (2 ^ 32 * g))) (pos (2 ^ 64)) (2 ^ 64) 1 (4096 * p + 4096 * f + l + 2 ^ 32 * g + (2 ^ 64 - 2 ^ 32)) (omega arith) refl (omega (arith, ints))
    ∙ ap pos (omega (arith, ltb-false f (2 ^ 19) s)))

sum_high : (p t l f g : ℕ) → p < 2 ^ 52 → t < 2 ^ 52 → 2048 ≤ l → l < 4096 → f ≡ ((t + 1) % 2 ^ 52 + 2 ^ 52 - p) % 2 ^ 20
    → g ≡ ((t + 1 + 2 ^ 19 + (2 ^ 52 - 2 ^ 20)) % 2 ^ 52 + 2 ^ 52 - p) % 2 ^ 52 / 2 ^ 20
    → int_rem_euclid ((pos (4096 * p) +ℤ (signed 20 f *ℤ pos 4096)) +ℤ (pos (l + (2 ^ 32 - 2 ^ 12)) +ℤ pos (2 ^ 32 * g))) (pos (2 ^ 64)) ≡ pos (4096 * t + l)
sum_high p t l f g a b c d e h =
    cond_both (ltb f (2 ^ 19)) (pos f) (pos f -ℤ pos (2 ^ 20)) (λ z. int_rem_euclid ((pos (4096 * p) +ℤ (z *ℤ pos 4096)) +ℤ (pos (l + (2 ^ 32 - 2 ^ 12)) +ℤ pos (2 ^ 32 * g))) (pos (2 ^ 64)) ≡ pos (4096 * t + l))
    (λ s. int_rem_euclid_is ((pos (4096 * p) +ℤ (pos f *ℤ pos 4096)) +ℤ (pos (l + (2 ^ 32 - 2 ^ 12)) +ℤ pos (2 ^ 32 * g))) (pos (2 ^ 64)) (2 ^ 64) 1 (4096 * p + 4096 * f + l + (2 ^ 32 - 2 ^ 12) + 2 ^ 32 * g + 2 ^ 64) (omega arith) refl (omega (arith, ints))
    ∙ ap pos (omega (arith, ltb-true f (2 ^ 19) s)))
    (λ s. int_rem_euclid_is ((pos (4096 * p) +ℤ ((pos f -ℤ pos (2 ^ 20)) *ℤ pos 4096)) +ℤ (pos (l + (2 ^ 32 - 2 ^ 12)) +ℤ pos (2 ^ 32 * g))) (pos (2 ^ 64)) (2 ^ 64) 1 (4096 * p + 4096 * f + l + (2 ^ 32 - 2 ^ 12) + 2 ^ 32 * g + (2 ^ 64 - 2 ^ 32)) (omega arith) refl (omega (arith, ints))
    ∙ ap pos (omega (arith, ltb-false f (2 ^ 19) s)))

-- the first immediate of the sequence, and the number whose bits are the others
abbrev pub first_of_five : ℕ → ℕ → ℕ
first_of_five pc target = field ((page ((target + 0x800) % 2 ^ 64) + (2 ^ 64 - page pc)) % 2 ^ 64) 12 32

abbrev pub high_of_five : ℕ → ℕ → ℕ
high_of_five pc target = high_distance target ((pc + 8) % 2 ^ 64)

abbrev pub five_of : ℕ → ℕ → ℕ → ℕ → ℕ → ℤ
five_of pc f l m u =
    int_rem_euclid (((pos pc +ℤ (signed 20 f *ℤ pos 4096)) -ℤ int_rem_euclid (pos pc +ℤ (signed 20 f *ℤ pos 4096)) (pos 4096))
    +ℤ (int_rem_euclid (signed 12 l) (pos (2 ^ 32)) +ℤ pos (2 ^ 32 * m + 2 ^ 52 * u))) (pos (2 ^ 64))

five_low : (p o t l : ℕ) → p < 2 ^ 52 → o < 4096 → t < 2 ^ 52 → l < 2048
    → five_of (4096 * p + o) (first_of_five (4096 * p + o) (4096 * t + l)) l (field (high_of_five (4096 * p + o) (4096 * t + l)) 32 52) (field (high_of_five (4096 * p + o) (4096 * t + l)) 52 64) ≡ pos (4096 * t + l)
five_low p o t l a b c d =
    let f = first_of_five (4096 * p + o) (4096 * t + l) in
    let h = high_of_five (4096 * p + o) (4096 * t + l) in
    let high : field h 32 52 + 2 ^ 20 * field h 52 64 ≡ ((t + 2 ^ 19) % 2 ^ 52 + 2 ^ 52 - p) % 2 ^ 52 / 2 ^ 20 =
    ap (λ y. field y 32 52 + 2 ^ 20 * field y 52 64) (distance_low p o t l a b c d) ∙ high_pages ((t + 2 ^ 19) % 2 ^ 52) p (omega arith) a in
    ap (λ z. int_rem_euclid (z +ℤ (int_rem_euclid (signed 12 l) (pos (2 ^ 32)) +ℤ pos (2 ^ 32 * field h 32 52 + 2 ^ 52 * field h 52 64))) (pos (2 ^ 64))) (aligned_sum p o f b)
    ∙ ap (λ z. int_rem_euclid ((pos (4096 * p) +ℤ (signed 20 f *ℤ pos 4096)) +ℤ (z +ℤ pos (2 ^ 32 * field h 32 52 + 2 ^ 52 * field h 52 64))) (pos (2 ^ 64))) (addi_low l d)
    ∙ ap (λ y. int_rem_euclid ((pos (4096 * p) +ℤ (signed 20 f *ℤ pos 4096)) +ℤ (pos l +ℤ pos y)) (pos (2 ^ 64))) (whole_high (field h 32 52) (field h 52 64))
    ∙ sum_low p t l f (field h 32 52 + 2 ^ 20 * field h 52 64) a c d (first_low p o t l a b c d) high
  where
    whole_high : (m u : ℕ) → 2 ^ 32 * m + 2 ^ 52 * u ≡ 2 ^ 32 * (m + 2 ^ 20 * u)
    whole_high m u = omega arith

five_high : (p o t l : ℕ) → p < 2 ^ 52 → o < 4096 → t < 2 ^ 52 → 2048 ≤ l → l < 4096
    → five_of (4096 * p + o) (first_of_five (4096 * p + o) (4096 * t + l)) l (field (high_of_five (4096 * p + o) (4096 * t + l)) 32 52) (field (high_of_five (4096 * p + o) (4096 * t + l)) 52 64) ≡ pos (4096 * t + l)
five_high p o t l a b c d s =
    let f = first_of_five (4096 * p + o) (4096 * t + l) in
    let h = high_of_five (4096 * p + o) (4096 * t + l) in
    let high : field h 32 52 + 2 ^ 20 * field h 52 64 ≡ ((t + 1 + 2 ^ 19 + (2 ^ 52 - 2 ^ 20)) % 2 ^ 52 + 2 ^ 52 - p) % 2 ^ 52 / 2 ^ 20 =
    ap (λ y. field y 32 52 + 2 ^ 20 * field y 52 64) (distance_high p o t l a b c d s) ∙ high_pages ((t + 1 + 2 ^ 19 + (2 ^ 52 - 2 ^ 20)) % 2 ^ 52) p (omega arith) a in
    ap (λ z. int_rem_euclid (z +ℤ (int_rem_euclid (signed 12 l) (pos (2 ^ 32)) +ℤ pos (2 ^ 32 * field h 32 52 + 2 ^ 52 * field h 52 64))) (pos (2 ^ 64))) (aligned_sum p o f b)
    ∙ ap (λ z. int_rem_euclid ((pos (4096 * p) +ℤ (signed 20 f *ℤ pos 4096)) +ℤ (z +ℤ pos (2 ^ 32 * field h 32 52 + 2 ^ 52 * field h 52 64))) (pos (2 ^ 64))) (addi_high l d s)
    ∙ ap (λ y. int_rem_euclid ((pos (4096 * p) +ℤ (signed 20 f *ℤ pos 4096)) +ℤ (pos (l + (2 ^ 32 - 2 ^ 12)) +ℤ pos y)) (pos (2 ^ 64))) (whole_high (field h 32 52) (field h 52 64))
    ∙ sum_high p t l f (field h 32 52 + 2 ^ 20 * field h 52 64) a c d s (first_high p o t l a b c d s) high
  where
    whole_high : (m u : ℕ) → 2 ^ 32 * m + 2 ^ 52 * u ≡ 2 ^ 32 * (m + 2 ^ 20 * u)
    whole_high m u = omega arith

-- the four immediates make the target
pub made : (pc target : ℕ) → pc < 2 ^ 64 → target < 2 ^ 64
    → five_of pc (first_of_five pc target) (field target 0 12) (field (high_of_five pc target) 32 52) (field (high_of_five pc target) 52 64) ≡ pos target
made pc target a b =
    let split : pc ≡ 4096 * (pc / 4096) + pc % 4096 = omega arith in
    let parts : target ≡ 4096 * (target / 4096) + target % 4096 = omega arith in
    let low : field target 0 12 ≡ target % 4096 = omega arith in
    made_of pc target (pc / 4096) (pc % 4096) (target / 4096) (target % 4096) split parts low (omega arith) (omega arith) (omega arith) (omega arith)
  where
    made_of : (pc target p o t l : ℕ) → pc ≡ 4096 * p + o → target ≡ 4096 * t + l → field target 0 12 ≡ l → p < 2 ^ 52 → o < 4096 → t < 2 ^ 52 → l < 4096
        → five_of pc (first_of_five pc target) (field target 0 12) (field (high_of_five pc target) 32 52) (field (high_of_five pc target) 52 64) ≡ pos target
    made_of pc target p o t l e f g a b c d =
        ap (λ y. five_of pc (first_of_five pc target) y (field (high_of_five pc target) 32 52) (field (high_of_five pc target) 52 64)) g
        ∙ ap (λ y. five_of y (first_of_five y target) l (field (high_of_five y target) 32 52) (field (high_of_five y target) 52 64)) e
        ∙ ap (λ y. five_of (4096 * p + o) (first_of_five (4096 * p + o) y) l (field (high_of_five (4096 * p + o) y) 32 52) (field (high_of_five (4096 * p + o) y) 52 64)) f
        ∙ elim (cases_lt l 2048) [
          | inl low ↦ five_low p o t l a b c low
          | inr high ↦ five_high p o t l a b c high d
        ]
        ∙ ap pos (sym f)

pub five_from : (pc f l m u f2 l2 m2 u2 : ℕ) → f ≡ f2 → l ≡ l2 → m ≡ m2 → u ≡ u2 → five_of pc f l m u ≡ five_of pc f2 l2 m2 u2
five_from pc f l m u f2 l2 m2 u2 ef el em eu =
    ap (λ y. five_of pc y l m u) ef ∙ ap (λ y. five_of pc f2 y m u) el ∙ ap (λ y. five_of pc f2 l2 y u) em ∙ ap (λ y. five_of pc f2 l2 m2 y) eu
