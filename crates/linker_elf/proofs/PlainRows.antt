-- Rows that take each multiple of their alignment within reach, whatever instruction there is.
use Rattle.linker_elf.proofs.Imports.{AArch64, AbsoluteLowPart, AnyForm, BitMasking, BitRange, ByteSize, CluiType, Ds, FitsSigned, InstructionWritten, IsAccepted, IsAligned, IsEncoded, IsInUnits, IsInWords, IsMultiple, IsSound, IsTrue, IsWritten, List, LoongArch64, Movnz, Ppc64, RelocationKind, RiscV, RowFits, RowInfo, RowSize, Shift10, TableRow, and_parts, ap, arith, bit_and, bytes_of, cases_Bool, cast_unsigned, cond-false, cond-true, drop, eqb-true, false, info_of, inl, inr, is_over, is_plain, is_supported, is_unit, last_within, least_within, length, low_bytes, nat_eq, number_of_bytes, number_written, or_cases, reach_of, refl, subst, sym, takes_all, tests_of, true, w64, window_len, ℕ, ℤ, ◌%◌, ◌&&◌, ◌*◌, ◌++◌, ◌-◌, ◌<◌, ◌^◌, ◌||◌, ◌∙◌, ◌≡◌, ◌≤ℤ◌, ◌≤◌}
use Rattle.linker_elf.specs.declared.elf.RelocationKind.TheVariants as kinds
use Rattle.linker_elf.proofs.Reached.{accepts, within_from}
use Rattle.linker_elf.proofs.Taken.{is_multiple}

-- ---- the alignment

-- a number without the bits below a is a multiple of a
abbrev pub Tells : ℤ → ℕ → ℕ → Type 0
Tells v n a =
    (IsTrue (nat_eq (bit_and n (a - 1)) 0) → IsAligned a v)
    × (IsAligned a v → IsTrue (nat_eq (bit_and n (a - 1)) 0))

by_shift : (v : ℤ) (n k a : ℕ) → FitsSigned w64 v → n ≡ cast_unsigned w64 v → k < 64
    → a ≡ 1 * 2 ^ k % 18446744073709551616 → Tells v n a
by_shift v n k a small is most unit =
    subst (λ x. (IsTrue (nat_eq (bit_and n (x - 1)) 0) → IsAligned a v)
    × (IsAligned a v → IsTrue (nat_eq (bit_and n (x - 1)) 0))) (sym unit)
    (is_multiple v n a k small is most unit)

pub unit_tells : (v : ℤ) (n a : ℕ) → FitsSigned w64 v → n ≡ cast_unsigned w64 v → is_unit a ≡ true
    → Tells v n a
unit_tells v n a small is unit =
    elim (or_cases (nat_eq a 1) (nat_eq a 2 || (nat_eq a 4 || (nat_eq a 8 || nat_eq a 16))) unit) [
      | inl e ↦ by_shift v n 0 a small is (omega arith) (eqb-true a 1 e)
      | inr r ↦ elim (or_cases (nat_eq a 2) (nat_eq a 4 || (nat_eq a 8 || nat_eq a 16)) r) [
        | inl e ↦ by_shift v n 1 a small is (omega arith) (eqb-true a 2 e)
        | inr r ↦ elim (or_cases (nat_eq a 4) (nat_eq a 8 || nat_eq a 16) r) [
          | inl e ↦ by_shift v n 2 a small is (omega arith) (eqb-true a 4 e)
          | inr r ↦ elim (or_cases (nat_eq a 8) (nat_eq a 16) r) [
            | inl e ↦ by_shift v n 3 a small is (omega arith) (eqb-true a 8 e)
            | inr e ↦ by_shift v n 4 a small is (omega arith) (eqb-true a 16 e)
          ]
        ]
      ]
    ]

-- ---- the instruction

-- it tests nothing of the value
pub in_units : (size : RowSize) (kind : RelocationKind) (v : ℤ) (bytes : List ℕ)
    → is_plain size kind ≡ true → IsInUnits size v bytes
in_units (ByteSize n) kind v bytes plain = tt
in_units (BitMasking bits (Ppc64 Ds)) kind v bytes plain = cc
in_units (BitMasking bits (Ppc64 f)) kind v bytes plain = tt
in_units (BitMasking bits (AArch64 f)) kind v bytes plain = tt
in_units (BitMasking bits (RiscV f)) kind v bytes plain = tt
in_units (BitMasking bits (LoongArch64 f)) kind v bytes plain = tt

pub in_words : (size : RowSize) (kind : RelocationKind) (v : ℤ) (bytes : List ℕ)
    → is_plain size kind ≡ true → IsInWords size kind v bytes
in_words (ByteSize n) kind v bytes plain = tt
in_words (BitMasking bits (LoongArch64 Shift10)) AbsoluteLowPart v bytes plain = cc
in_words (BitMasking bits (LoongArch64 Shift10)) kind v bytes plain = λ jump. cc
in_words (BitMasking bits (LoongArch64 f)) kind v bytes plain = λ jump. cc
in_words (BitMasking bits (AArch64 f)) kind v bytes plain = λ jump. cc
in_words (BitMasking bits (RiscV f)) kind v bytes plain = λ jump. cc
in_words (BitMasking bits (Ppc64 f)) kind v bytes plain = λ jump. cc

pub encoded : (size : RowSize) (kind : RelocationKind) (v : ℤ) → is_plain size kind ≡ true
    → IsEncoded size v
encoded (ByteSize n) kind v plain = tt
encoded (BitMasking bits (RiscV CluiType)) kind v plain = cc
encoded (BitMasking bits (RiscV f)) kind v plain = tt
encoded (BitMasking bits (AArch64 f)) kind v plain = tt
encoded (BitMasking bits (Ppc64 f)) kind v plain = tt
encoded (BitMasking bits (LoongArch64 f)) kind v plain = tt

-- and the bits are written in the row's form
pub written : (bits : BitRange) (insn : AnyForm) (kind : RelocationKind) (v : ℤ)
    (before after : List ℕ) → is_plain (BitMasking bits insn) kind ≡ true
    → InstructionWritten insn bits v before after → IsWritten (BitMasking bits insn) kind v before after
written bits (AArch64 Movnz) kind v before after plain w = cc
written bits (AArch64 f) kind v before after plain w = w
written bits (LoongArch64 Shift10) AbsoluteLowPart v before after plain w = cc
written bits (LoongArch64 Shift10) kind v before after plain w = w
written bits (LoongArch64 f) kind v before after plain w = w
written bits (RiscV f) kind v before after plain w = w
written bits (Ppc64 f) kind v before after plain w = w

-- ---- the row

-- what such a row is
pub record Takes (row : RowInfo) : Type 0 where
  pub supported : is_supported row ≡ true
  pub plain : is_plain row.size row.kind ≡ true
  pub unit : is_unit row.alignment ≡ true

pub takes : (row : RowInfo) → takes_all row ≡ true → Takes row
takes row h =
    let a = and_parts (is_supported row) (is_plain row.size row.kind && is_unit row.alignment) h in
    let b = and_parts (is_plain row.size row.kind) (is_unit row.alignment) a.1 in
    record { supported = a.0; plain = b.0; unit = b.1 }

pub multiple : (row : RowInfo) (v : ℤ) (bytes : List ℕ) → takes_all row ≡ true
    → IsAligned row.alignment v → IsMultiple row v bytes
multiple row v bytes all aligned =
    let t = takes row all in
    (aligned, in_units row.size row.kind v bytes t.plain, in_words row.size row.kind v bytes t.plain)

pub accepted : (row : RowInfo) (v : ℤ) (bytes : List ℕ) → FitsSigned w64 v → RowFits row
    → takes_all row ≡ true → window_len row ≤ length bytes → IsAligned row.alignment v
    → least_within (reach_of row) ≤ℤ v → v ≤ℤ last_within (reach_of row) → IsAccepted row v bytes
accepted row v bytes small fits all long aligned low high =
    let t = takes row all in
    accepts row v bytes fits t.supported long (multiple row v bytes all aligned)
    (within_from (reach_of row) v low high small) (encoded row.size row.kind v t.plain)

-- ---- the entry of a table

tests_are : (entry : TableRow) → IsSound entry → entry.tests ≡ tests_of (info_of entry)
tests_are entry sound = ap (λ e. e.tests) sound.is

pub all_by : (entry : TableRow) → IsSound entry → entry.tests.takes_all ≡ true
    → takes_all (info_of entry) ≡ true
all_by entry sound all = sym (ap (λ t. t.takes_all) (tests_are entry sound)) ∙ all

pub long_by : (entry : TableRow) (bytes : List ℕ) → IsSound entry
    → entry.tests.window ≤ length bytes → window_len (info_of entry) ≤ length bytes
long_by entry bytes sound long =
    subst (λ t. t.window ≤ length bytes) (tests_are entry sound) long

pub accepted_by : (entry : TableRow) (v : ℤ) (bytes : List ℕ) → FitsSigned w64 v → IsSound entry
    → entry.tests.takes_all ≡ true → entry.tests.window ≤ length bytes
    → IsAligned entry.numbers.alignment v → entry.tests.least ≤ℤ v → v ≤ℤ entry.tests.last
    → IsAccepted (info_of entry) v bytes
accepted_by entry v bytes small sound all long aligned low high =
    let is = tests_are entry sound in
    accepted (info_of entry) v bytes small sound.fits (all_by entry sound all)
    (long_by entry bytes sound long) aligned (subst (λ t. t.least ≤ℤ v) is low)
    (subst (λ t. v ≤ℤ t.last) is high)

bytes_are : (entry : TableRow) → IsSound entry → entry.tests.bytes ≡ bytes_of entry.size entry.kind
bytes_are entry sound = ap (λ t. t.bytes) (tests_are entry sound)

-- ---- bytes that become the value's

not_over : (kind : RelocationKind) (v : ℤ) (old : ℕ) → is_over kind ≡ false
    → number_written kind v old ≡ cast_unsigned w64 v
not_over kinds.AbsoluteAddition v old none = cc
not_over kinds.AbsoluteSubtraction v old none = cc
not_over kinds.AbsoluteSetWord6 v old none = cc
not_over kinds.AbsoluteAdditionWord6 v old none = cc
not_over kinds.AbsoluteSubtractionWord6 v old none = cc
not_over kind v old none = refl

bytes_written : (size : RowSize) (kind : RelocationKind) (n number : ℕ) (v : ℤ)
    (before after : List ℕ) → bytes_of size kind ≡ n → 0 < n → number ≡ cast_unsigned w64 v
    → after ≡ low_bytes n number ++ drop n before → IsWritten size kind v before after
bytes_written (BitMasking bits insn) kind n number v before after is some value laid = absurd (omega (arith, is, some))
bytes_written (ByteSize m) kind n number v before after is some value laid = elim (cases_Bool (is_over kind)) [
  | inl over ↦ let none : 0 ≡ n = sym (cond-true (is_over kind) 0 m over) ∙ is in absurd (omega (arith, none, some))
  | inr over ↦
      let same : m ≡ n = sym (cond-false (is_over kind) 0 m over) ∙ is in
      subst (λ k. after ≡ low_bytes k (number_written kind v (number_of_bytes m before)) ++ drop k before) (sym same)
      (laid ∙ ap (λ x. low_bytes n x ++ drop n before) (value ∙ sym (not_over kind v (number_of_bytes m before) over)))
]

pub stored : (entry : TableRow) (n number : ℕ) (v : ℤ) (before after : List ℕ) → IsSound entry
    → entry.tests.bytes ≡ n → 0 < n → number ≡ cast_unsigned w64 v
    → after ≡ low_bytes n number ++ drop n before → IsWritten entry.size entry.kind v before after
stored entry n number v before after sound is some value laid =
    bytes_written entry.size entry.kind n number v before after (sym (bytes_are entry sound) ∙ is) some value laid
