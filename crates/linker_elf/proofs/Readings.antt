-- The machine reads no value out of reach: from comparisons of each row's bounds with what its form
-- can hold.
use Rattle.linker_elf.proofs.Imports.{AArch64, AArch64Instruction, AArch64Relocation, AnyForm, BitMasking, BitRange, Bool, Bounds, ByteSize, Call30, Call36, CluiType, D, IType, IfSome, InstructionReadsAs, IsAligned, IsWithin, Layout, LoongArch64, LoongArch64Instruction, LoongArch64Relocation, LoongArchReads, LoongArchRowReadsNoOther, MachOLow12, Movnz, None, Option, Ppc64, Ppc64Form, Ppc64Relocation, R_AARCH64_NONE, R_LARCH_NONE, R_PPC64_TLS, R_RISCV_NONE, ReadsNoOther, RiscV, RiscVInstruction, RiscVReads, RiscVRelocation, RowInfo, RowReadsNoOther, RowSize, SType, Shift10, Shift5, Sign, SizeReadsNoOther, Some, UType, UiType, aarch64_layout, aarch64_reads, aarch64_row, added, and_parts, ap, arith, bits_from, call36_bounds, clui_bounds, clui_row, div-lt_iff_lt-mul, eqb, eqb-true, false, field, form_of, imm16_places, inl, inr, int_rem_euclid, ints, is_sound_layout, le_z, leb, leb-true, loongarch_layout, loongarch_row, mod_below, moved_value, movn_opcode, neg_ℤ, negsuc, number_of, one_field, opcode_of, or_cases, own_form, part_aligned, place_sum, place_sum_below, pos, pow-add, pow_pos, ppc64_form, ppc64_layout, ppc64_row, reach_of, reads_more, reads_signed, refl, riscv_layout, riscv_pair_bounds, riscv_places, riscv_relocation, shift10_imm16, shift_of, signed, signed_cases, sound_field, subst, sym, true, twos_complement, ui_high, ui_low, unsigned, unsigned_abs, values_apart_fills, ℕ, ℤ, ◌%◌, ◌&&◌, ◌*ℤ◌, ◌*◌, ◌+ℤ◌, ◌+◌, ◌-ℤ◌, ◌-◌, ◌/◌, ◌<ℤ◌, ◌<◌, ◌^◌, ◌||◌, ◌∙◌, ◌≡◌, ◌≤ℤ◌, ◌≤◌}
use Rattle.linker_elf.proofs.Agreement.{le_yes}
use Rattle.linker_elf.proofs.RiscV.{u_sound, clui_sound}
use Rattle.linker_elf.proofs.RowsAgree.{moved_from}

-- ---- from the bits of a value to the value

value_below : (b m s : ℕ) → b / 2 ^ s < 2 ^ m → b < 2 ^ (m + s)
value_below b m s h =
    subst (λ y. b < y) (sym (pow-add 2 m s))
    ((div-lt_iff_lt-mul {k = 2 ^ s} {x = b} {y = 2 ^ m} (pow_pos s)).0 h)

value_low : (v : ℤ) (m s : ℕ) → neg_ℤ (pos (2 ^ m)) ≤ℤ bits_from s v
    → neg_ℤ (pos (2 ^ (m + s))) ≤ℤ v
value_low (pos b) m s h = omega (arith, ints)
value_low (negsuc b) m s h =
    let small : b / 2 ^ s < 2 ^ m = omega (arith, ints) in
    let wide = value_below b m s small in
    omega (arith, ints)

value_high : (v : ℤ) (m s : ℕ) → bits_from s v <ℤ pos (2 ^ m) → v <ℤ pos (2 ^ (m + s))
value_high (pos b) m s h =
    let small : b / 2 ^ s < 2 ^ m = omega (arith, ints) in
    let wide = value_below b m s small in
    omega (arith, ints)
value_high (negsuc b) m s h = omega (arith, ints)

value_from : (v : ℤ) (s : ℕ) → pos 0 ≤ℤ bits_from s v → pos 0 ≤ℤ v
value_from (pos b) s h = omega (arith, ints)
value_from (negsuc b) s h = absurd (omega (arith, ints))

-- ---- numbers of n bits

twice : (n : ℕ) → 1 ≤ n → 2 ^ n ≡ 2 * 2 ^ (n - 1)
twice n o = ap (λ j. 2 ^ j) (let t : n ≡ 1 + (n - 1) = omega arith in t) ∙ pow-add 2 1 (n - 1)

signed_low : (n f : ℕ) → 1 ≤ n → f < 2 ^ n → neg_ℤ (pos (2 ^ (n - 1))) ≤ℤ signed n f
signed_low n f o h =
    let two = twice n o in
    elim (signed_cases n f) [
      | inl a ↦ subst (λ z. neg_ℤ (pos (2 ^ (n - 1))) ≤ℤ z) (sym a.1) (omega (arith, ints))
      | inr a ↦ let high = a.0 in
          subst (λ z. neg_ℤ (pos (2 ^ (n - 1))) ≤ℤ z) (sym a.1) (omega (arith, ints))
    ]

signed_high : (n f : ℕ) → 1 ≤ n → f < 2 ^ n → signed n f <ℤ pos (2 ^ (n - 1))
signed_high n f o h =
    let two = twice n o in
    elim (signed_cases n f) [
      | inl a ↦ let low = a.0 in subst (λ z. z <ℤ pos (2 ^ (n - 1))) (sym a.1) (omega (arith, ints))
      | inr a ↦ subst (λ z. z <ℤ pos (2 ^ (n - 1))) (sym a.1) (omega (arith, ints))
    ]

-- ---- bounds that contain others

abbrev pub contains : ℤ → ℤ → ℤ × ℤ → Bool
contains low high b = le_z b.0 low && le_z high b.1

contained : (low high v : ℤ) (b : ℤ × ℤ) → contains low high b ≡ true → low ≤ℤ v → v <ℤ high
    → IsWithin (Some b) v
contained low high v b h from below =
    let ends = and_parts (le_z b.0 low) (le_z high b.1) h in
    let first = le_yes b.0 low ends.0 in
    let last = le_yes high b.1 ends.1 in
    (omega (arith, ints), omega (arith, ints))

-- values of which a number of n bits holds those from s up
abbrev pub covers : Sign → ℕ → ℕ → ℤ × ℤ → Bool
covers unsigned n s b = contains (pos 0) (pos (2 ^ (n + s))) b
covers twos_complement n s b =
    leb 1 n && contains (neg_ℤ (pos (2 ^ (n - 1 + s)))) (pos (2 ^ (n - 1 + s))) b

number_read : (sign : Sign) (n s : ℕ) (b : ℤ × ℤ) → covers sign n s b ≡ true → (v : ℤ) (f : ℕ)
    → f < 2 ^ n → number_of sign n f ≡ bits_from s v → IsWithin (Some b) v
number_read unsigned n s b h v f small e =
    contained (pos 0) (pos (2 ^ (n + s))) v b h
    (value_from v s (subst (λ z. pos 0 ≤ℤ z) e (omega (arith, ints))))
    (value_high v n s (subst (λ z. z <ℤ pos (2 ^ n)) e (omega (arith, ints))))
number_read twos_complement n s b h v f small e =
    let parts = and_parts (leb 1 n)
    (contains (neg_ℤ (pos (2 ^ (n - 1 + s)))) (pos (2 ^ (n - 1 + s))) b) h in
    let some = leb-true 1 n parts.0 in
    contained (neg_ℤ (pos (2 ^ (n - 1 + s)))) (pos (2 ^ (n - 1 + s))) v b parts.1
    (value_low v (n - 1) s
    (subst (λ z. neg_ℤ (pos (2 ^ (n - 1))) ≤ℤ z) e (signed_low n f some small)))
    (value_high v (n - 1) s (subst (λ z. z <ℤ pos (2 ^ (n - 1))) e (signed_high n f some small)))

-- a form of one field
abbrev pub layout_covers : Layout → ℕ → ℤ × ℤ → Bool
layout_covers (one_field d) s b = covers d.machine d.bits s b
layout_covers (own_form form) s b = false

layout_read : (l : Layout) → is_sound_layout l ≡ true → (s : ℕ) (b : ℤ × ℤ)
    → layout_covers l s b ≡ true → (x : ℕ) (v : ℤ) → (form_of l).machine x ≡ bits_from s v
    → IsWithin (Some b) v
layout_read (one_field d) sound s b h x v e =
    let field = sound_field d sound in
    number_read d.machine d.bits s b h v (place_sum d.places x)
    (place_sum_below d.places d.bits x
    (values_apart_fills d.low d.bits d.places field.filled) field.below) e
layout_read (own_form form) sound s b h x v e = cc

-- a multiple of 2 isn't the last number below a power of 2
even_below : (v : ℤ) (m : ℕ) → 1 ≤ m → int_rem_euclid v (pos 2) ≡ pos 0 → v <ℤ pos (2 ^ m)
    → v <ℤ pos (2 ^ m - 1)
even_below (pos b) m o even h =
    let two = twice m o in
    let rest : b % 2 ≡ 0 = ap unsigned_abs even in
    omega (arith, ints)
even_below (negsuc b) m o even h = omega (arith, ints)

abbrev pub covers_even : Sign → ℕ → ℕ → ℕ → ℤ × ℤ → Bool
covers_even unsigned n s a b = false
covers_even twos_complement n s a b =
    eqb a 2 && (leb 1 n &&
    (leb 1 (n - 1 + s) && contains (neg_ℤ (pos (2 ^ (n - 1 + s)))) (pos (2 ^ (n - 1 + s) - 1)) b))

even_read : (sign : Sign) (n s a : ℕ) (b : ℤ × ℤ) → covers_even sign n s a b ≡ true
    → (v : ℤ) (f : ℕ) → IsAligned a v → f < 2 ^ n → number_of sign n f ≡ bits_from s v
    → IsWithin (Some b) v
even_read unsigned n s a b h v f even small e = cc
even_read twos_complement n s a b h v f even small e =
    let one = and_parts (eqb a 2)
    (leb 1 n && (leb 1 (n - 1 + s) && contains (neg_ℤ (pos (2 ^ (n - 1 + s))))
    (pos (2 ^ (n - 1 + s) - 1)) b)) h in
    let two = and_parts (leb 1 n)
    (leb 1 (n - 1 + s) && contains (neg_ℤ (pos (2 ^ (n - 1 + s)))) (pos (2 ^ (n - 1 + s) - 1)) b)
    one.1 in
    let three = and_parts (leb 1 (n - 1 + s))
    (contains (neg_ℤ (pos (2 ^ (n - 1 + s)))) (pos (2 ^ (n - 1 + s) - 1)) b) two.1 in
    let some = leb-true 1 n two.0 in
    contained (neg_ℤ (pos (2 ^ (n - 1 + s)))) (pos (2 ^ (n - 1 + s) - 1)) v b three.1
    (value_low v (n - 1) s
    (subst (λ z. neg_ℤ (pos (2 ^ (n - 1))) ≤ℤ z) e (signed_low n f some small)))
    (even_below v (n - 1 + s) (leb-true 1 (n - 1 + s) three.0)
    (subst (λ k. int_rem_euclid v (pos k) ≡ pos 0) (eqb-true a 2 one.0) even)
    (value_high v (n - 1) s (subst (λ z. z <ℤ pos (2 ^ (n - 1))) e (signed_high n f some small))))

abbrev pub layout_covers_even : Layout → ℕ → ℕ → ℤ × ℤ → Bool
layout_covers_even (one_field d) s a b = covers_even d.machine d.bits s a b
layout_covers_even (own_form form) s a b = false

layout_read_even : (l : Layout) → is_sound_layout l ≡ true → (s a : ℕ) (b : ℤ × ℤ)
    → layout_covers_even l s a b ≡ true → (x : ℕ) (v : ℤ) → IsAligned a v
    → (form_of l).machine x ≡ bits_from s v → IsWithin (Some b) v
layout_read_even (one_field d) sound s a b h x v even e =
    let field = sound_field d sound in
    even_read d.machine d.bits s a b h v (place_sum d.places x) even
    (place_sum_below d.places d.bits x
    (values_apart_fills d.low d.bits d.places field.filled) field.below) e
layout_read_even (own_form form) sound s a b h x v even e = cc

-- ---- AArch64

moved_low : (neg : Bool) (f : ℕ) → f < 2 ^ 16 → neg_ℤ (pos (2 ^ 16)) ≤ℤ moved_value neg f 0
moved_low true f h = omega (arith, ints)
moved_low false f h = omega (arith, ints)

moved_high : (neg : Bool) (f : ℕ) → f < 2 ^ 16 → moved_value neg f 0 <ℤ pos (2 ^ 16)
moved_high true f h = omega (arith, ints)
moved_high false f h = omega (arith, ints)

abbrev pub aarch64_covers : AArch64Instruction → ℕ → ℤ × ℤ → Bool
aarch64_covers Movnz s b = contains (neg_ℤ (pos (2 ^ (16 + s)))) (pos (2 ^ (16 + s))) b
aarch64_covers f s b = layout_covers (aarch64_layout f) s b

aarch64_read : (f : AArch64Instruction) (s : ℕ) (b : ℤ × ℤ) → aarch64_covers f s b ≡ true
    → (x : ℕ) (v : ℤ) → (f ≡ Movnz → shift_of x ≡ s) → aarch64_reads f s x ≡ bits_from s v
    → IsWithin (Some b) v
aarch64_read Movnz s b h x v shift e =
    let neg = eqb (opcode_of x) movn_opcode in
    let f = place_sum imm16_places x in
    let small : f < 2 ^ 16 = place_sum_below imm16_places 16 x refl refl in
    let is : moved_value neg f 0 ≡ bits_from s v =
    sym (ap (λ k. bits_from s (moved_value neg f k)) (shift refl) ∙ moved_from neg f s) ∙ e in
    contained (neg_ℤ (pos (2 ^ (16 + s)))) (pos (2 ^ (16 + s))) v b h
    (value_low v 16 s (subst (λ z. neg_ℤ (pos (2 ^ 16)) ≤ℤ z) is (moved_low neg f small)))
    (value_high v 16 s (subst (λ z. z <ℤ pos (2 ^ 16)) is (moved_high neg f small)))
aarch64_read MachOLow12 s b h x v shift e = cc
aarch64_read f s b h x v shift e = layout_read (aarch64_layout f) refl s b h x v e

-- ---- RISC-V

abbrev pub contains_all : ℤ × ℤ → ℤ × ℤ → Bool
contains_all own b = contains own.0 own.1 b

-- the least and the greatest sum of both parts
pair_within : (h l : ℕ) → h < 2 ^ 32 → h % 4096 ≡ 0 → l < 4096
    → IsWithin (Some riscv_pair_bounds) (signed 32 h +ℤ signed 12 l)
pair_within h l small aligned low =
    elim (signed_cases 32 h) [
      | inl a ↦ elim (signed_cases 12 l) [
        | inl b ↦ subst (IsWithin (Some riscv_pair_bounds))
            (sym (added (signed 32 h) (signed 12 l) (pos h) (pos l) a.1 b.1))
            (let k = b.0 in let j = a.0 in (omega (arith, ints), omega (arith, ints)))
        | inr b ↦ subst (IsWithin (Some riscv_pair_bounds))
            (sym (added (signed 32 h) (signed 12 l) (pos h) (pos l -ℤ pos 4096) a.1 b.1))
            (let k = b.0 in let j = a.0 in (omega (arith, ints), omega (arith, ints)))
      ]
      | inr a ↦ elim (signed_cases 12 l) [
        | inl b ↦ subst (IsWithin (Some riscv_pair_bounds))
            (sym (added (signed 32 h) (signed 12 l) (pos h -ℤ pos (2 ^ 32)) (pos l) a.1 b.1))
            (let k = b.0 in let j = a.0 in (omega (arith, ints), omega (arith, ints)))
        | inr b ↦ subst (IsWithin (Some riscv_pair_bounds))
            (sym (added (signed 32 h) (signed 12 l) (pos h -ℤ pos (2 ^ 32))
            (pos l -ℤ pos 4096) a.1 b.1))
            (let k = b.0 in let j = a.0 in (omega (arith, ints), omega (arith, ints)))
      ]
    ]

clui_within : (h l : ℕ) → h < 2 ^ 18 → h % 4096 ≡ 0 → l < 4096
    → IsWithin (Some clui_bounds) (signed 18 h +ℤ signed 12 l)
clui_within h l small aligned low =
    elim (signed_cases 18 h) [
      | inl a ↦ elim (signed_cases 12 l) [
        | inl b ↦ subst (IsWithin (Some clui_bounds))
            (sym (added (signed 18 h) (signed 12 l) (pos h) (pos l) a.1 b.1))
            (let k = b.0 in let j = a.0 in (omega (arith, ints), omega (arith, ints)))
        | inr b ↦ subst (IsWithin (Some clui_bounds))
            (sym (added (signed 18 h) (signed 12 l) (pos h) (pos l -ℤ pos 4096) a.1 b.1))
            (let k = b.0 in let j = a.0 in (omega (arith, ints), omega (arith, ints)))
      ]
      | inr a ↦ elim (signed_cases 12 l) [
        | inl b ↦ subst (IsWithin (Some clui_bounds))
            (sym (added (signed 18 h) (signed 12 l) (pos h -ℤ pos (2 ^ 18)) (pos l) a.1 b.1))
            (let k = b.0 in let j = a.0 in (omega (arith, ints), omega (arith, ints)))
        | inr b ↦ subst (IsWithin (Some clui_bounds))
            (sym (added (signed 18 h) (signed 12 l) (pos h -ℤ pos (2 ^ 18))
            (pos l -ℤ pos 4096) a.1 b.1))
            (let k = b.0 in let j = a.0 in (omega (arith, ints), omega (arith, ints)))
      ]
    ]

high_aligned : (x : ℕ) → place_sum ui_high x % 4096 ≡ 0
high_aligned x = part_aligned 12 32 0x800 ui_high x u_sound

pair_read : (x l : ℕ) (v : ℤ) (b : ℤ × ℤ) → contains_all riscv_pair_bounds b ≡ true → l < 4096
    → signed 32 (place_sum ui_high x) +ℤ signed 12 l ≡ v → IsWithin (Some b) v
pair_read x l v b h low e =
    let within = subst (IsWithin (Some riscv_pair_bounds)) e
    (pair_within (place_sum ui_high x) l (place_sum_below ui_high 32 x refl refl)
    (high_aligned x) low) in
    contained riscv_pair_bounds.0 riscv_pair_bounds.1 v b h within.0 within.1

clui_read : (x l : ℕ) (v : ℤ) (b : ℤ × ℤ) → contains_all clui_bounds b ≡ true → l < 4096
    → signed 18 (place_sum (riscv_places CluiType) x) +ℤ signed 12 l ≡ v → IsWithin (Some b) v
clui_read x l v b h low e =
    let sum = place_sum (riscv_places CluiType) x in
    let within = subst (IsWithin (Some clui_bounds)) e
    (clui_within sum l (place_sum_below (riscv_places CluiType) 18 x refl refl)
    (part_aligned 12 18 0x800 (riscv_places CluiType) x clui_sound) low) in
    contained clui_bounds.0 clui_bounds.1 v b h within.0 within.1

i_below : (y : ℕ) → place_sum (riscv_places IType) y < 4096
i_below y = place_sum_below (riscv_places IType) 12 y refl refl

s_below : (y : ℕ) → place_sum (riscv_places SType) y < 4096
s_below y = place_sum_below (riscv_places SType) 12 y refl refl

abbrev pub riscv_covers : RiscVInstruction → ℕ → ℕ → ℤ × ℤ → Bool
riscv_covers UType s a b = contains_all riscv_pair_bounds b
riscv_covers IType s a b = contains_all riscv_pair_bounds b
riscv_covers SType s a b = contains_all riscv_pair_bounds b
riscv_covers UiType s a b = contains_all riscv_pair_bounds b
riscv_covers CluiType s a b = contains_all clui_bounds b
riscv_covers f s a b = layout_covers_even (riscv_layout f) s a b

riscv_read : (f : RiscVInstruction) (s a : ℕ) (b : ℤ × ℤ) → riscv_covers f s a b ≡ true
    → (x y : ℕ) (v : ℤ) → IsAligned a v → RiscVReads f s x y v → IsWithin (Some b) v
riscv_read UType s a b h x y v even reads =
    elim reads [
      | inl e ↦ pair_read x (place_sum (riscv_places IType) y) v b h (i_below y) e
      | inr e ↦ pair_read x (place_sum (riscv_places SType) y) v b h (s_below y) e
    ]
riscv_read IType s a b h x y v even e =
    pair_read x (place_sum (riscv_places IType) y) v b h (i_below y) e
riscv_read SType s a b h x y v even e =
    pair_read x (place_sum (riscv_places SType) y) v b h (s_below y) e
riscv_read UiType s a b h x y v even e =
    pair_read x (place_sum ui_low x) v b h (place_sum_below ui_low 12 x refl refl) e
riscv_read CluiType s a b h x y v even reads =
    elim reads [
      | inl e ↦ clui_read x (place_sum (riscv_places IType) y) v b h (i_below y) e
      | inr e ↦ clui_read x (place_sum (riscv_places SType) y) v b h (s_below y) e
    ]
riscv_read f s a b h x y v even e = layout_read_even (riscv_layout f) refl s a b h x v even e

-- ---- PowerPC64

ppc64_read : (f : Ppc64Form) (s : ℕ) (b : ℤ × ℤ) → layout_covers (ppc64_layout f) s b ≡ true
    → (x : ℕ) (v : ℤ) → (ppc64_form f).machine x ≡ bits_from s v → IsWithin (Some b) v
ppc64_read D s b h x v e = layout_read (ppc64_layout D) refl s b h x v e
ppc64_read f s b h x v e = layout_read (ppc64_layout f) refl s b h x v e

-- ---- LoongArch

field_below : (x s e : ℕ) → field x s e < 2 ^ (e - s)
field_below x s e = mod_below (x / 2 ^ s) (2 ^ (e - s)) (pow_pos (e - s))

sum_within : (p q : ℤ) → neg_ℤ (pos (2 ^ 19)) ≤ℤ p → p <ℤ pos (2 ^ 19) → neg_ℤ (pos (2 ^ 15)) ≤ℤ q
    → q <ℤ pos (2 ^ 15) → IsWithin (Some call36_bounds) ((p *ℤ pos (2 ^ 18)) +ℤ (q *ℤ pos 4))
sum_within p q a b c d = (omega (arith, ints), omega (arith, ints))

call_within : (h l : ℕ) → h < 2 ^ 20 → l < 2 ^ 16
    → IsWithin (Some call36_bounds) ((signed 20 h *ℤ pos (2 ^ 18)) +ℤ (signed 16 l *ℤ pos 4))
call_within h l high low =
    sum_within (signed 20 h) (signed 16 l) (signed_low 20 h (omega arith) high)
    (signed_high 20 h (omega arith) high) (signed_low 16 l (omega arith) low)
    (signed_high 16 l (omega arith) low)

abbrev pub loongarch_covers : LoongArch64Instruction → Bool → ℕ → ℤ × ℤ → Bool
loongarch_covers Shift5 false s b = covers unsigned 20 s b
loongarch_covers Shift10 false s b = covers unsigned 12 s b
loongarch_covers Shift10 true s b = layout_covers (one_field shift10_imm16) s b
loongarch_covers Call36 is_signed s b = contains_all call36_bounds b
loongarch_covers f is_signed s b = layout_covers (loongarch_layout f) s b

loongarch_read : (f : LoongArch64Instruction) (is_signed : Bool) (s : ℕ) (b : ℤ × ℤ)
    → loongarch_covers f is_signed s b ≡ true → (x : ℕ) (v : ℤ) → LoongArchReads is_signed f s x v
    → IsWithin (Some b) v
loongarch_read Shift5 false s b h x v e =
    number_read unsigned 20 s b h v (field x 5 25) (field_below x 5 25) e
loongarch_read Shift10 false s b h x v e =
    number_read unsigned 12 s b h v (field x 10 22) (field_below x 10 22) e
loongarch_read Shift10 true s b h x v e = layout_read (one_field shift10_imm16) refl s b h x v e
loongarch_read Call36 is_signed s b h x v e =
    let within = subst (IsWithin (Some call36_bounds)) e
    (call_within (field x 5 25) (field x 42 58) (field_below x 5 25) (field_below x 42 58)) in
    contained call36_bounds.0 call36_bounds.1 v b h within.0 within.1
loongarch_read Call30 is_signed s b h x v e = cc
loongarch_read f is_signed s b h x v e = layout_read (loongarch_layout f) refl s b h x v e

-- ---- rows

abbrev pub instruction_covers : Bool → AnyForm → ℕ → ℕ → ℤ × ℤ → Bool
instruction_covers is_signed (AArch64 f) s a b = aarch64_covers f s b
instruction_covers is_signed (RiscV f) s a b = riscv_covers f s a b
instruction_covers is_signed (Ppc64 f) s a b = layout_covers (ppc64_layout f) s b
instruction_covers is_signed (LoongArch64 f) s a b = loongarch_covers f is_signed s b

instruction_read : (is_signed : Bool) (insn : AnyForm) (bits : BitRange) (a : ℕ)
    (b : ℤ × ℤ) → instruction_covers is_signed insn bits.start a b ≡ true
    → (x y : ℕ) (v : ℤ) → IsAligned a v → InstructionReadsAs is_signed insn bits x y v
    → IsWithin (Some b) v
instruction_read is_signed (AArch64 f) bits a b h x y v even reads =
    aarch64_read f bits.start b h x v reads.0 reads.1
instruction_read is_signed (RiscV f) bits a b h x y v even reads =
    riscv_read f bits.start a b h x y v even reads
instruction_read is_signed (Ppc64 f) bits a b h x y v even reads =
    ppc64_read f bits.start b h x v reads
instruction_read is_signed (LoongArch64 f) bits a b h x y v even reads =
    loongarch_read f is_signed bits.start b h x v reads

abbrev pub size_covers : Bool → RowSize → Bounds → ℕ → Bool
size_covers is_signed (ByteSize n) b a = true
size_covers is_signed (BitMasking bits insn) None a = true
size_covers is_signed (BitMasking bits insn) (Some b) a =
    reads_more insn bits || instruction_covers is_signed insn bits.start a b

size_read : (is_signed : Bool) (size : RowSize) (b : Bounds) (a : ℕ)
    → size_covers is_signed size b a ≡ true → SizeReadsNoOther is_signed size b a
size_read is_signed (ByteSize n) b a h = tt
size_read is_signed (BitMasking bits insn) None a h = λ whole x y v even reads. tt
size_read is_signed (BitMasking bits insn) (Some b) a h = λ whole x y v even reads.
    elim (or_cases (reads_more insn bits) (instruction_covers is_signed insn bits.start a b) h) [
      | inl more ↦ cc
      | inr ends ↦ instruction_read is_signed insn bits a b ends x y v even reads
    ]

abbrev pub row_covers : Bool → Option RowInfo → Bool
row_covers is_signed None = true
row_covers is_signed (Some row) = size_covers is_signed row.size (reach_of row) row.alignment

row_read : (is_signed : Bool) (row : Option RowInfo) → row_covers is_signed row ≡ true
    → IfSome row (ReadsNoOther is_signed)
row_read is_signed None h = tt
row_read is_signed (Some row) h = size_read is_signed row.size (reach_of row) row.alignment h

-- ---- tables

aarch64_covered : (name : AArch64Relocation) → row_covers false (aarch64_row name) ≡ true
aarch64_covered R_AARCH64_NONE = refl
aarch64_covered name = refl

riscv_covered : (name : RiscVRelocation) → row_covers false (riscv_relocation name).row ≡ true
riscv_covered R_RISCV_NONE = refl
riscv_covered name = refl

ppc64_covered : (name : Ppc64Relocation) → row_covers false (ppc64_row name) ≡ true
ppc64_covered R_PPC64_TLS = refl
ppc64_covered name = refl

loongarch_covered : (name : LoongArch64Relocation)
    → row_covers (reads_signed name) (loongarch_row name) ≡ true
loongarch_covered R_LARCH_NONE = refl
loongarch_covered name = refl

pub aarch64_reads_no_other : (name : AArch64Relocation) → IfSome (aarch64_row name) RowReadsNoOther
aarch64_reads_no_other name = row_read false (aarch64_row name) (aarch64_covered name)

pub riscv_reads_no_other : (name : RiscVRelocation) → IfSome (riscv_relocation name).row RowReadsNoOther
riscv_reads_no_other name = row_read false (riscv_relocation name).row (riscv_covered name)

pub ppc64_reads_no_other : (name : Ppc64Relocation) → IfSome (ppc64_row name) RowReadsNoOther
ppc64_reads_no_other name = row_read false (ppc64_row name) (ppc64_covered name)

pub loongarch_reads_no_other : (name : LoongArch64Relocation)
    → IfSome (loongarch_row name) (LoongArchRowReadsNoOther name)
loongarch_reads_no_other name =
    row_read (reads_signed name) (loongarch_row name) (loongarch_covered name)

pub clui_reads_no_other : RowReadsNoOther clui_row
clui_reads_no_other = row_read false (Some clui_row) refl
