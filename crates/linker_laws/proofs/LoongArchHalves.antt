-- Instructions of initial-exec and of descriptors of LoongArch.
use Rattle.linker_laws.proofs.Imports.{AllowedRange, AreAddresses, Bool, IsAddress, IsApplied, IsWithin, List, LoongArch64, Operands, Option, PageMask, RelocationKind, Shift5, Signed, Some, ap, arith, bit_bounds, bit_or, bits_from, cast_signed, difference_64, entry_and_addend, field, int_rem_euclid, ints, loaded, or_shifted, page, page_and_distance, pcalau12i, pos, refl, shift5_sum, signed, sum_64, sym, symbol_address, thread_offset, tls_base, value_of, w64, word_of, wrapped, ℕ, ℤ, ◌%◌, ◌*ℤ◌, ◌*◌, ◌+ℤ◌, ◌+◌, ◌-ℤ◌, ◌/◌, ◌<◌, ◌^◌, ◌∙◌, ◌≡◌}
use Rattle.linker_utils.specs.LoongArchRewrites.{IsLowOfDescriptor}
use Rattle.linker_elf.specs.declared.loongarch64.relocations.LoongArch64Relocation.TheVariants as names
use Rattle.linker_laws.proofs.Applied.{value_is, taken_bits}
use Rattle.linker_laws.proofs.Instructions.{row_of, reads_bits, relative, unbiased}
use Rattle.linker_laws.proofs.LoongArchAddresses.{page_distance}
use Rattle.linker_laws.proofs.Sums.{sum_below, difference_below, page_halves_sum, taken_off, plus, cast_is, cast_low, euclid, lifted_is, signed_12, page_below, page_parts}
use Rattle.linker_laws.specs.LoongArchGroups.{high_offset, near_entry, IsRelocated}
use Rattle.linker_laws.specs.LoongArchMachine.{State, step, execute, read, write, go_on, page_address, high_part, sum_of, ored}
use Rattle.linker_laws.proofs.AArch64Steps.{address_is}
use Rattle.linker_laws.proofs.LoongArchSteps.{loaded_of}
use Rattle.linker_laws.proofs.LoongArchWords.{IsHigh, IsLow, decodes_page, decodes_high, decodes_sum, decodes_load, decodes_or, low_after, low_is}

-- after an instruction that writes a register and goes on
abbrev pub put : ℕ → ℕ → State → State
put n v s = go_on (write n v s)

-- ---- numbers

-- a number of 64 bits, with nothing added
pub whole : (n : ℕ) → n < 2 ^ 64 → wrapped (pos n +ℤ pos 0) ≡ n
whole n small =
    address_is (pos n +ℤ pos 0) _ (lifted_is (pos n +ℤ pos 0) 0 n (omega (arith, ints)))
    ∙ (let e : n % 2 ^ 64 ≡ n = omega arith in e)

-- the page that a `pcalau12i` makes
pub page_made : {kind : RelocationKind} {mask : Option PageMask} {range : AllowedRange} {a : ℕ}
    {bias : Option ℕ} {thunkable implicit : Bool} (o : Operands) → AreAddresses o
    → value_of (row_of kind 12 32 (LoongArch64 Shift5) mask range a bias thunkable implicit) o
    ≡ Some (cast_signed w64 (page_distance entry_and_addend o)) → (before after : List ℕ)
    (step : IsApplied (row_of kind 12 32 (LoongArch64 Shift5) mask range a bias thunkable implicit) o before after)
    → IsWithin (Some (bit_bounds 32 Signed)) step.value
    → wrapped (pcalau12i o.place (word_of after)) ≡ near_entry o
page_made {kind} {mask} {range} {a} {bias} {thunkable} {implicit} o small e before after step within =
    let t = entry_and_addend o in
    let m = page_distance entry_and_addend o in
    let x0 = sum_64 t 0x800 in
    let k = x0 % 2 ^ 12 in
    let f = field (word_of after) 5 25 in
    let h : signed 20 f ≡ bits_from 12 (cast_signed w64 m) =
    ap (signed 20) (sym (shift5_sum (word_of after)))
    ∙ reads_bits kind 12 32 (LoongArch64 Shift5) mask range a bias thunkable implicit o before after
    step (bit_bounds 32 Signed) within refl m (difference_below (page x0) (page o.place)) e in
    let z = pos (page o.place) +ℤ (signed 20 f *ℤ pos 4096) in
    let sum = page_halves_sum 0x800 o.place t m (signed 20 f) (pos k -ℤ pos 0x800) (omega arith)
    (sum_below o.got_entry _) small.place refl h (back k) in
    let more : IsAddress (z +ℤ pos k) x0 =
    ap (λ y. int_rem_euclid y (pos (2 ^ 64))) (sym (regroup z k)) ∙ plus (z +ℤ (pos k -ℤ pos 0x800)) t 0x800 sum in
    ap wrapped (page_and_distance o.place f)
    ∙ address_is z (page x0) (taken_off z k x0 (page x0) more (page_below x0 (sum_below t 0x800)) (page_parts x0 (sum_below t 0x800)))
  where
    back : (k : ℕ) → (pos k -ℤ pos 0x800) +ℤ pos 0x800 ≡ pos k
    back k = omega (arith, ints)

    regroup : (z : ℤ) (k : ℕ) → (z +ℤ (pos k -ℤ pos 0x800)) +ℤ pos 0x800 ≡ z +ℤ pos k
    regroup z k = omega (arith, ints)

-- what leads from that page to the address
from_page : (t : ℕ) → t < 2 ^ 64 → wrapped (pos (page (sum_64 t 0x800)) +ℤ signed 12 (t % 2 ^ 12)) ≡ t
from_page t small =
    let x0 = sum_64 t 0x800 in
    let z = pos (page (sum_64 t 0x800)) +ℤ signed 12 (t % 2 ^ 12) in
    let low : signed 12 (t % 2 ^ 12) +ℤ pos 0x800 ≡ pos (x0 % 2 ^ 12) =
    signed_12 (t % 2 ^ 12) (omega arith)
    ∙ ap pos (let e : (t % 2 ^ 12 + 0x800) % 2 ^ 12 ≡ x0 % 2 ^ 12 = omega arith in e) in
    let sum : z +ℤ pos 0x800 ≡ pos x0 =
    regroup (page (sum_64 t 0x800)) (signed 12 (t % 2 ^ 12)) ∙ ap (λ y. pos (page (sum_64 t 0x800)) +ℤ y) low
    ∙ ap pos (let e : page x0 + x0 % 2 ^ 12 ≡ x0 = omega arith in e) in
    let there : IsAddress (z +ℤ pos 0x800) x0 =
    lifted_is (z +ℤ pos 0x800) 0 x0 (ap (λ y. y +ℤ pos (0 * 2 ^ 64)) sum ∙ none x0)
    ∙ ap pos (let e : x0 % 2 ^ 64 ≡ x0 = omega arith in e) in
    address_is z t (taken_off z 0x800 x0 t there small refl)
  where
    regroup : (p : ℕ) (l : ℤ) → (pos p +ℤ l) +ℤ pos 0x800 ≡ pos p +ℤ (l +ℤ pos 0x800)
    regroup p l = omega (arith, ints)

    none : (x : ℕ) → pos x +ℤ pos (0 * 2 ^ 64) ≡ pos x
    none x = omega (arith, ints)

-- the offset
pub offset_is : (o : Operands) → relative symbol_address tls_base o ≡ thread_offset o
offset_is o = ap (λ a. difference_64 a o.tls_base) (unbiased (symbol_address o) (sum_below o.symbol _))

-- a number's high part by `lu12i.w`
pub high_made : {kind : RelocationKind} {mask : Option PageMask} {range : AllowedRange} {a : ℕ}
    {bias : Option ℕ} {thunkable implicit : Bool} (o : Operands) (d : ℕ) → d < 2 ^ 64
    → value_of (row_of kind 12 32 (LoongArch64 Shift5) mask range a bias thunkable implicit) o
    ≡ Some (cast_signed w64 d) → (before after : List ℕ)
    (step : IsApplied (row_of kind 12 32 (LoongArch64 Shift5) mask range a bias thunkable implicit) o before after)
    → IsWithin (Some (bit_bounds 32 Signed)) step.value → high_part (word_of after) ≡ page d
high_made {kind} {mask} {range} {a} {bias} {thunkable} {implicit} o d below e before after step within =
    let f = field (word_of after) 5 25 in
    let w = cast_signed w64 d in
    let h : signed 20 f ≡ bits_from 12 w =
    ap (signed 20) (sym (shift5_sum (word_of after)))
    ∙ reads_bits kind 12 32 (LoongArch64 Shift5) mask range a bias thunkable implicit o before after
    step (bit_bounds 32 Signed) within refl d below e in
    let z = signed 20 f *ℤ pos 4096 in
    let sum : z +ℤ pos (d % 2 ^ 12) ≡ w =
    ap (λ q. (q *ℤ pos (2 ^ 12)) +ℤ pos (d % 2 ^ 12)) h
    ∙ ap (λ l. (bits_from 12 w *ℤ pos (2 ^ 12)) +ℤ l) (sym (cast_low d 12 below (omega arith)))
    ∙ euclid w 12 in
    let there : IsAddress (z +ℤ pos (d % 2 ^ 12)) d = ap (λ y. int_rem_euclid y (pos (2 ^ 64))) sum ∙ cast_is d below in
    address_is z (page d) (taken_off z (d % 2 ^ 12) d (page d) there (page_below d below) (page_parts d below))

-- `ori` of the low part
or_low : (d : ℕ) → bit_or (page d) (d % 2 ^ 12) ≡ d
or_low d =
    ap (λ p. bit_or p (d % 2 ^ 12)) (let e : page d ≡ d / 2 ^ 12 * 2 ^ 12 = omega arith in e)
    ∙ or_shifted (d / 2 ^ 12) 12 (d % 2 ^ 12) (omega arith)
    ∙ omega arith

-- ---- steps

-- `pcalau12i rd`
pub page_step : (o : Operands) (n x page : ℕ) (s : State) → IsHigh 0x0d n x → s.pc ≡ o.place
    → wrapped (pcalau12i o.place x) ≡ page → step x s ≡ Some (put n page s)
page_step o n x page s is at made =
    ap (λ c. execute c x s) (decodes_page x is.opcode)
    ∙ ap (λ r. Some (put r (page_address x s) s)) is.rd_is
    ∙ ap (λ v. Some (put n v s)) (ap (λ p. wrapped (pcalau12i p x)) at ∙ made)

-- `lu12i.w rd`
pub high_step : (n x high : ℕ) (t : State) → IsHigh 0x0a n x → high_part x ≡ high → step x t ≡ Some (put n high t)
high_step n x high t is made =
    ap (λ c. execute c x t) (decodes_high x is.opcode)
    ∙ ap (λ r. Some (put r (high_part x) t)) is.rd_is
    ∙ ap (λ v. Some (put n v t)) made

-- `ld.d rd, rj` from an address
pub load_step : (d j x address : ℕ) (s : State) → IsLow 0x0a3 d j x
    → wrapped (pos (read j s) +ℤ signed 12 (field x 10 22)) ≡ address
    → step x s ≡ Some (put d (loaded 8 s.memory address) s)
load_step d j x address s is leads =
    ap (λ c. execute c x s) (decodes_load x is.opcode)
    ∙ ap (λ r. Some (put r (loaded_of x s) s)) is.rd_is
    ∙ ap (λ r. Some (put d (loaded 8 s.memory (wrapped (pos (read r s) +ℤ signed 12 (field x 10 22)))) s)) is.rj_is
    ∙ ap (λ a. Some (put d (loaded 8 s.memory a) s)) leads

-- `addi.d rd, rj`
pub sum_step : (d j x sum : ℕ) (s : State) → IsLow 0x00b d j x
    → wrapped (pos (read j s) +ℤ signed 12 (field x 10 22)) ≡ sum → step x s ≡ Some (put d sum s)
sum_step d j x sum s is leads =
    ap (λ c. execute c x s) (decodes_sum x is.opcode)
    ∙ ap (λ r. Some (put r (sum_of x s) s)) is.rd_is
    ∙ ap (λ r. Some (put d (wrapped (pos (read r s) +ℤ signed 12 (field x 10 22))) s)) is.rj_is
    ∙ ap (λ v. Some (put d v s)) leads

-- `ori rd, rj`
pub or_step : (d j x value : ℕ) (t : State) → IsLow 0x00e d j x → bit_or (read j t) (field x 10 22) ≡ value
    → step x t ≡ Some (put d value t)
or_step d j x value t is made =
    ap (λ c. execute c x t) (decodes_or x is.opcode)
    ∙ ap (λ r. Some (put r (ored x t) t)) is.rd_is
    ∙ ap (λ r. Some (put d (bit_or (read r t) (field x 10 22)) t)) is.rj_is
    ∙ ap (λ v. Some (put d v t)) made

pub nop_step : (x : ℕ) (t : State) → x ≡ 0x03400000 → step x t ≡ Some (go_on t)
nop_step x t is = ap (λ w. step w t) is

-- the 12 bits of a low half are those of an address, which is reached from its page
pub reached : (t f p : ℕ) → t < 2 ^ 64 → f ≡ field (sum_64 t 0) 0 12 → p ≡ page (sum_64 t 0x800)
    → wrapped (pos p +ℤ signed 12 f) ≡ t
reached t f p small e is =
    ap (λ q. wrapped (pos q +ℤ signed 12 f)) is
    ∙ ap (λ l. wrapped (pos (page (sum_64 t 0x800)) +ℤ signed 12 l)) (e ∙ (let low : field (sum_64 t 0) 0 12 ≡ t % 2 ^ 12 = omega arith in low))
    ∙ from_page t small

-- the bits of the offset in `ori`
pub ori_bits : (o : Operands) (before after : List ℕ) → IsRelocated names.R_LARCH_TLS_LE_LO12 o before after
    → field (word_of after) 10 22 ≡ field (relative symbol_address tls_base o) 0 12
ori_bits o before after b =
    let d = relative symbol_address tls_base o in
    low_is _ before after b.written
    ∙ taken_bits (record { start = 0; end = 12 }) d b.value (difference_below _ _)
    (value_is _ o before after b (cast_signed w64 d) refl)

-- those of the entry's address in `ld.d`
pub load_bits : (o : Operands) (before after : List ℕ) → IsRelocated names.R_LARCH_TLS_IE_PC_LO12 o before after
    → field (word_of after) 10 22 ≡ field (sum_64 (entry_and_addend o) 0) 0 12
load_bits o before after b =
    let n = sum_64 (entry_and_addend o) 0 in
    low_is _ before after b.written
    ∙ taken_bits (record { start = 0; end = 12 }) n b.value (sum_below _ 0)
    (value_is _ o before after b (cast_signed w64 n) refl)

-- the offset by `ori` of what `lu12i.w` makes
pub or_value : (o : Operands) (j y : ℕ) (t : State) → read j t ≡ high_offset o
    → field y 10 22 ≡ field (relative symbol_address tls_base o) 0 12
    → bit_or (read j t) (field y 10 22) ≡ thread_offset o
or_value o j y t high low =
    ap (λ p. bit_or p (field y 10 22)) high
    ∙ ap (bit_or (high_offset o)) (low ∙ ap (λ d. field d 0 12) (offset_is o)
    ∙ (let e : field (thread_offset o) 0 12 ≡ thread_offset o % 2 ^ 12 = omega arith in e))
    ∙ or_low (thread_offset o)

-- the bits of the descriptor's address in `addi.d`
addi_bits : (o : Operands) (before after : List ℕ) → IsRelocated names.R_LARCH_TLS_DESC_PC_LO12 o before after
    → field (word_of after) 10 22 ≡ field (sum_64 (entry_and_addend o) 0) 0 12
addi_bits o before after b =
    let n = sum_64 (entry_and_addend o) 0 in
    low_is _ before after b.written
    ∙ taken_bits (record { start = 0; end = 12 }) n b.value (sum_below _ 0)
    (value_is _ o before after b (cast_signed w64 n) refl)

-- the old low half
pub descriptor_low : (o : Operands) (s : State) (addi addi1 : List ℕ) → IsLowOfDescriptor (word_of addi)
    → read 4 s ≡ near_entry o
    → IsRelocated names.R_LARCH_TLS_DESC_PC_LO12 o addi addi1
    → step (word_of addi1) s ≡ Some (put 4 (entry_and_addend o) s)
descriptor_low o s addi addi1 is page_is a =
    sum_step 4 4 (word_of addi1) (entry_and_addend o) s
    (low_after 0x00b 4 4 _ addi addi1 a.written is.0 is.1 is.2)
    (reached (entry_and_addend o) (field (word_of addi1) 10 22) (read 4 s) (sum_below o.got_entry _) (addi_bits o addi addi1 a) page_is)
