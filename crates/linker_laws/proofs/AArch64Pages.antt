-- Pages and offsets in them, of AArch64.
use Rattle.linker_laws.proofs.Imports.{AArch64, AArch64Instruction, Add, Adr, AllowedRange, AreAddresses, Bool, IsApplied, IsWithin, Law, LdSt, List, Operands, Option, PageMask, Premise, PremiseHolds, RelocationKind, RowInfo, Signed, Some, [], aarch64_form, aarch64_layout, ap, arith, bit_bounds, cast_signed, difference_64, field, got_page, high_of, is_sound_layout, leb, leb-true, low_of, mod_below, none, page, page_and_offset, place_sum, pos, pow-add, pow_pos, reach_of, refl, subst, subst_below, sum_64, sym, true, value_of, w64, window_of, ℕ, ℤ, ◌%◌, ◌*ℤ◌, ◌*◌, ◌+ℤ◌, ◌+◌, ◌-◌, ◌/◌, ◌<◌, ◌^◌, ◌∙◌, ◌∷◌, ◌≡◌, ◌≤◌}
use Rattle.std.proofs.Math.Arith.{mod-mul}
use Rattle.linker_laws.proofs.Instructions.{FirstHasNumber, HasNumber, IsNumber, IsSmall, absolute, first_step, row_of, is_read, reads_bits, field_sum, multiple, step_of}
use Rattle.linker_laws.proofs.Applied.{sound_written}
use Rattle.linker_laws.proofs.Sums.{halves_sum, page_halves_sum, sum_below, difference_below}

-- ---- offsets

-- bits from k up, below bit 12, in units of 2 ^ k
units : (n k : ℕ) → k ≤ 12 → n % 2 ^ k ≡ 0 → field n k 12 * 2 ^ k ≡ n % 2 ^ 12
units n k short multiple =
    let parts : n % (2 ^ (12 - k) * 2 ^ k) ≡ field n k 12 * 2 ^ k + n % 2 ^ k =
    mod-mul n {m = 2 ^ (12 - k)} {c = 2 ^ k} (pow_pos (12 - k)) (pow_pos k) in
    let apart : 12 - k + k ≡ 12 = omega arith in
    let power : 2 ^ (12 - k) * 2 ^ k ≡ 2 ^ 12 =
    sym (pow-add 2 (12 - k) k) ∙ ap (λ j. 2 ^ j) apart in
    let whole : n % 2 ^ 12 ≡ n % (2 ^ (12 - k) * 2 ^ k) = ap (λ d. n % d) (sym power) in
    omega arith

-- The machine reads 12 bits without a sign.
abbrev pub IsUnsigned : AArch64Instruction → Type 0
IsUnsigned f =
    (is_sound_layout (aarch64_layout f) ≡ true) × (low_of (aarch64_layout f) ≡ 0)
    × (high_of (aarch64_layout f) ≡ 12)
    × ((c x : ℕ) → (aarch64_form f).machine x ≡ pos (place_sum ((aarch64_form f).places c) x))

pub add_is : IsUnsigned Add
add_is = (refl, refl, refl, λ c x. refl)

pub ldst_is : IsUnsigned LdSt
ldst_is = (refl, refl, refl, λ c x. refl)

pub offset_reads : (f : AArch64Instruction) → IsUnsigned f
    → (kind : RelocationKind) (k : ℕ) (mask : Option PageMask) (range : AllowedRange)
    (bias : Option ℕ) (thunkable implicit : Bool) (o : Operands) (before after : List ℕ)
    (applied : IsApplied (row_of kind k 12 (AArch64 f) mask range (2 ^ k) bias thunkable implicit) o
    before after) (n : ℕ) → n < 2 ^ 64 → k ≤ 12
    → value_of (row_of kind k 12 (AArch64 f) mask range (2 ^ k) bias thunkable implicit) o
    ≡ Some (cast_signed w64 n)
    → (aarch64_form f).machine (window_of (aarch64_form f) after) *ℤ pos (2 ^ k)
    ≡ pos (n % 2 ^ 12)
offset_reads f is kind k mask range bias thunkable implicit o before after applied n below short e =
    let x = window_of (aarch64_form f) after in
    let sum = field_sum kind k 12 (AArch64 f) mask range (2 ^ k) bias thunkable implicit o before
    after applied is.0 refl (omega arith) n below e in
    let v = field n k 12 in
    let small : v < 2 ^ 12 =
    subst_below v (12 - k) 12 (mod_below (n / 2 ^ k) (2 ^ (12 - k)) (pow_pos (12 - k)))
    (omega arith) in
    let none : n % 2 ^ k ≡ 0 =
    multiple kind k 12 (AArch64 f) mask range (2 ^ k) bias thunkable implicit o before after applied
    n k below (omega arith) refl e in
    let clear = (sound_written (AArch64 f) is.0 kind (record { start = k; end = 12 }) applied.value
    before after applied.written).clear in
    let held : place_sum ((aarch64_form f).places clear) x ≡ v =
    sum ∙ ap (λ l. (v - v % 2 ^ l) % 2 ^ high_of (aarch64_layout f)) is.1
    ∙ ap (λ h. (v - v % 2 ^ 0) % 2 ^ h) is.2 ∙ omega arith in
    ap (λ z. z *ℤ pos (2 ^ k)) (is.3 clear x ∙ ap pos held)
    ∙ ap pos (units n k short none)

-- ---- pairs

abbrev pub page_distance : (Operands → ℕ) → Operands → ℕ
page_distance target o = difference_64 (page (sum_64 (target o) 0)) (page o.place)

-- what checks the value of the high part: the row, or the law's premise
abbrev pub Checks : RowInfo → Premise → Type 0
Checks row premise =
    (x : ℕ) (v : ℤ) → IsWithin (reach_of row) v → PremiseHolds premise x v → IsWithin (Some (bit_bounds 33 Signed)) v

pub pages : {target address : Operands → ℕ} → IsSmall target
    → ((o : Operands) → AreAddresses o → target o ≡ address o)
    → {f : AArch64Instruction} → IsUnsigned f → {k : ℕ} → leb k 12 ≡ true
    → (operands : Operands → ℕ → Operands) (premise : Premise) {kind : RelocationKind} {mask : Option PageMask}
    {range : AllowedRange} {a : ℕ} {bias : Option ℕ} {thunkable implicit : Bool} {kind2 : RelocationKind}
    {mask2 : Option PageMask} {range2 : AllowedRange} {bias2 : Option ℕ} {thunkable2 implicit2 : Bool}
    → Checks (row_of kind 12 33 (AArch64 Adr) mask range a bias thunkable implicit) premise
    → is_read (AArch64 Adr) 12 33 (bit_bounds 33 Signed) a ≡ true
    → FirstHasNumber (row_of kind 12 33 (AArch64 Adr) mask range a bias thunkable implicit) (page_distance target)
    → HasNumber (row_of kind2 k 12 (AArch64 f) mask2 range2 (2 ^ k) bias2 thunkable2 implicit2) operands (absolute target)
    → Law
    (first_step (row_of kind 12 33 (AArch64 Adr) mask range a bias thunkable implicit) premise
    ∷ step_of (row_of kind2 k 12 (AArch64 f) mask2 range2 (2 ^ k) bias2 thunkable2 implicit2) operands none
    ∷ []) (page_and_offset f (2 ^ k)) address
pages {target} {address} to same {f} is {k} in_12 operands premise checks ok e e2 =
    λ o small at before after high own at2 before2 after2 low any.
    let m = page_distance target o in
    let t = target o in
    let below = difference_below (page (sum_64 t 0)) (page o.place) in
    let short = leb-true k 12 in_12 in
    let h = reads_bits _ _ _ _ _ _ _ _ _ _ o before after high (bit_bounds 33 Signed)
    (checks (window_of (aarch64_form Adr) before) high.value high.accepted.reached.0 own) ok m below (e o small) in
    let l = offset_reads f is _ k _ _ _ _ _ _ before2 after2 low (sum_64 t 0) (sum_below t 0) short
    (e2 o small at2) in
    page_halves_sum 0 o.place t m
    ((aarch64_form Adr).machine (window_of (aarch64_form Adr) after))
    ((aarch64_form f).machine (window_of (aarch64_form f) after2) *ℤ pos (2 ^ k))
    (omega arith) (to o small) small.place refl h
    (ap (λ z. z +ℤ pos 0) l
    ∙ ap pos (let sum : sum_64 t 0 % 2 ^ 12 + 0 ≡ sum_64 t 0 % 2 ^ 12 = omega arith in sum))
    ∙ ap pos (same o small)

-- ---- offsets of 24 bits

pub high_and_low_parts : {begin target number : Operands → ℕ} → IsNumber begin target number
    → {f : AArch64Instruction} → IsUnsigned f → {k : ℕ} → leb k 12 ≡ true
    → (operands : Operands → ℕ → Operands) {kind : RelocationKind} {mask : Option PageMask}
    {range : AllowedRange} {a : ℕ} {bias : Option ℕ} {thunkable implicit : Bool} {kind2 : RelocationKind}
    {mask2 : Option PageMask} {range2 : AllowedRange} {bias2 : Option ℕ} {thunkable2 implicit2 : Bool} {b : ℤ × ℤ}
    → reach_of (row_of kind 12 24 (AArch64 Add) mask range a bias
    thunkable implicit) ≡ Some b
    → is_read (AArch64 Add) 12 24 b a ≡ true
    → FirstHasNumber (row_of kind 12 24 (AArch64 Add) mask range a bias thunkable implicit) number
    → HasNumber (row_of kind2 k 12 (AArch64 f) mask2 range2 (2 ^ k) bias2 thunkable2 implicit2) operands number
    → Law
    (first_step (row_of kind 12 24 (AArch64 Add) mask range a bias thunkable implicit) none
    ∷ step_of (row_of kind2 k 12 (AArch64 f) mask2 range2 (2 ^ k) bias2 thunkable2 implicit2) operands none
    ∷ []) (λ o x y. (pos (begin o) +ℤ ((aarch64_form Add).machine x *ℤ pos 4096)) +ℤ ((aarch64_form f).machine y *ℤ pos (2 ^ k))) target
high_and_low_parts {begin} {target} {number} leads {f} is {k} in_12 operands within ok e e2 =
    λ o small at before after high any at2 before2 after2 low any2.
    let n = number o in
    let numbers = leads o small in
    let below = numbers.below in
    let short = leb-true k 12 in_12 in
    let h = reads_bits _ _ _ _ _ _ _ _ _ _ o before after high _
    (subst (λ b. IsWithin b high.value) within high.accepted.reached.0) ok n below (e o small) in
    let l = offset_reads f is _ k _ _ _ _ _ _ before2 after2 low n below short (e2 o small at2) in
    let same : n ≡ sum_64 n 0 = omega arith in
    halves_sum 12 0 (begin o) (target o) n n
    ((aarch64_form Add).machine (window_of (aarch64_form Add) after))
    ((aarch64_form f).machine (window_of (aarch64_form f) after2) *ℤ pos (2 ^ k))
    (omega arith) (omega arith) numbers.small below numbers.leads same h
    (ap (λ z. z +ℤ pos 0) l
    ∙ ap pos (let sum : n % 2 ^ 12 + 0 ≡ n % 2 ^ 12 = omega arith in sum))

pub got_page_small : IsSmall got_page
got_page_small o small = let below = small.got_base in omega arith
