-- What `lui` and `c.lui` put in a register, once their relocations are applied.
use Rattle.linker_laws.proofs.Imports.{Absolute, BitRange, CluiType, Instruction, IsApplied, IsLow12, IsWithin, List, Operands, RelocationKind, RiscVInstruction, Some, TpOff, UType, adds, ap, arith, cases_lt, cast_negative, cast_signed, cli_immediate, clui_bounds, difference_64, field, from_le_bytes, inl, inr, ints, length, low_12_bounds, lui, nat_tests, negsuc, of_clui, of_half, pair_row, place_sum, pos, refl, riscv_form, riscv_places, signed, signed_cases, subst, suc, sum_64, sums, sym, symbol_address, thread_offset, to_z_pos, value_of, w16, w32, w64, wrapped, zero, ℕ, ℤ, ◌%◌, ◌*◌, ◌+◌, ◌-◌, ◌/◌, ◌<◌, ◌^◌, ◌∙◌, ◌≡◌, ◌≢◌, ◌≤◌, ◌⊎◌}
use Rattle.linker_riscv64.specs.RiscVFields.{rd_of}
use Rattle.linker_elf.proofs.RiscV.{u_laid, clui_laid}
use Rattle.linker_laws.proofs.Applied.{value_is, taken_bits}
use Rattle.linker_laws.proofs.Instructions.{unbiased}
use Rattle.linker_laws.proofs.Sums.{sum_below}
use Rattle.linker_laws.proofs.Words.{kept_field}

-- ---- numbers of 12 bits, and those of 18 that `c.lui` and a low part make

-- the number and 0x800 are below 4096
pub low_12_number : (n : ℕ) → n < 2 ^ 64 → IsWithin (Some low_12_bounds) (cast_signed w64 n)
    → (n < 0x800) ⊎ (2 ^ 64 - 0x800 ≤ n)
low_12_number n small w =
    elim (cases_lt n (2 ^ 63)) [
      | inl low ↦
          let g = subst (λ z. IsWithin (Some low_12_bounds) z) (to_z_pos w64 n low) w in
          inl (let b = g.1 in omega (arith, ints))
      | inr high ↦
          let g = subst (λ z. IsWithin (Some low_12_bounds) z) (cast_negative n small high) w in
          inr (let b = g.0 in omega (arith, ints))
    ]

low_12_back : (n : ℕ) → n < 2 ^ 64 → (n < 0x800) ⊎ (2 ^ 64 - 0x800 ≤ n)
    → IsWithin (Some low_12_bounds) (cast_signed w64 n)
low_12_back n small (inl low) =
    subst (λ z. IsWithin (Some low_12_bounds) z) (sym (to_z_pos w64 n (omega arith)))
    (omega (arith, ints), omega (arith, ints))
low_12_back n small (inr high) =
    subst (λ z. IsWithin (Some low_12_bounds) z) (sym (cast_negative n small (omega arith)))
    (omega (arith, ints), omega (arith, ints))

clui_number : (n : ℕ) → n < 2 ^ 64 → IsWithin (Some clui_bounds) (cast_signed w64 n)
    → (n < 0x1f800) ⊎ (2 ^ 64 - 0x20800 ≤ n)
clui_number n small w =
    elim (cases_lt n (2 ^ 63)) [
      | inl low ↦
          let g = subst (λ z. IsWithin (Some clui_bounds) z) (to_z_pos w64 n low) w in
          inl (let b = g.1 in omega (arith, ints))
      | inr high ↦
          let g = subst (λ z. IsWithin (Some clui_bounds) z) (cast_negative n small high) w in
          inr (let b = g.0 in omega (arith, ints))
    ]

-- what stands in `lui` and in `c.lui`
abbrev pub high_20 : ℕ → ℕ
high_20 n = (n % 2 ^ 32 + 0x800) % 2 ^ 64 / 4096 % 1048576 * 4096

abbrev pub high_6 : ℕ → ℕ
high_6 n = (n % 2 ^ 32 + 0x800) % 2 ^ 64 / 4096 % 64 * 4096

pub no_high_part : (n : ℕ) → n < 2 ^ 64 → (n < 0x800) ⊎ (2 ^ 64 - 0x800 ≤ n) → high_20 n ≡ 0
no_high_part n small (inl low) = omega arith
no_high_part n small (inr high) = omega arith

same_numbers : (n h l : ℕ) → n < 2 ^ 64 → (n < 0x1f800) ⊎ (2 ^ 64 - 0x20800 ≤ n)
    → h ≡ high_20 n → l ≡ high_6 n → signed 32 h ≡ signed 18 l
same_numbers n h l small near e f =
    elim (signed_cases 32 h) [
      | inl a ↦ elim (signed_cases 18 l) [
        | inl b ↦ a.1 ∙ ap pos (let i = a.0 in let j = b.0 in elim near [
          | inl low ↦ omega arith
          | inr high ↦ omega arith
        ]) ∙ sym b.1
        | inr b ↦ absurd (let i = a.0 in let j = b.0 in elim near [
          | inl low ↦ omega arith
          | inr high ↦ omega arith
        ])
      ]
      | inr a ↦ elim (signed_cases 18 l) [
        | inl b ↦ absurd (let i = a.0 in let j = b.0 in elim near [
          | inl low ↦ omega arith
          | inr high ↦ omega arith
        ])
        | inr b ↦
            let i = a.0 in
            let j = b.0 in
            let gap : h + 2 ^ 18 ≡ l + 2 ^ 32 = elim near [
              | inl low ↦ omega arith
              | inr high ↦ omega arith
            ] in
            a.1 ∙ omega (arith, ints) ∙ sym b.1
      ]
    ]

-- only numbers of 12 bits have the high part 0
only_low_12 : (n l : ℕ) → n < 2 ^ 64 → (n < 0x1f800) ⊎ (2 ^ 64 - 0x20800 ≤ n) → l ≡ high_6 n
    → signed 18 l ≡ pos 0 → (n < 0x800) ⊎ (2 ^ 64 - 0x800 ≤ n)
only_low_12 n l small near e none =
    let nothing : l ≡ 0 = elim (signed_cases 18 l) [
      | inl a ↦ let f = sym a.1 ∙ none in omega (arith, ints)
      | inr a ↦
          let f = sym a.1 ∙ none in
          let below : l < 2 ^ 18 = omega arith in
          omega (arith, ints)
    ] in
    elim near [
      | inl low ↦ inl (omega arith)
      | inr high ↦ inr (omega arith)
    ]

-- ---- `lui`

pub low_32 : (n : ℕ) → field (sum_64 n 0) 0 32 ≡ n % 2 ^ 32
low_32 n = omega arith

-- S + A, and the offset from the thread pointer
pub absolute_is : (form : RiscVInstruction) (x : Operands)
    → value_of (pair_row Absolute 32 form) x ≡ Some (cast_signed w64 (symbol_address x))
absolute_is form x = ap (λ n. Some (cast_signed w64 n)) (unbiased (symbol_address x) (sum_below x.symbol _))

pub offset_is : (form : RiscVInstruction) (x : Operands)
    → value_of (pair_row TpOff 32 form) x ≡ Some (cast_signed w64 (thread_offset x))
offset_is form x =
    ap (λ n. Some (cast_signed w64 (difference_64 n x.tls_base)))
    (unbiased (symbol_address x) (sum_below x.symbol _))

-- the value of a relocation is a number
abbrev pub IsFormulaOf : RelocationKind → (Operands → ℕ) → Type 0
IsFormulaOf kind number =
    ((form : RiscVInstruction) (x : Operands)
    → value_of (pair_row kind 32 form) x ≡ Some (cast_signed w64 (number x)))
    × ((x : Operands) → number x < 2 ^ 64)

pub of_address : IsFormulaOf Absolute symbol_address
of_address = (absolute_is, λ x. sum_below x.symbol _)

pub of_offset : IsFormulaOf TpOff thread_offset
of_offset = (offset_is, λ x. omega arith)

module _ (kind : RelocationKind) (x : Operands) (n : ℕ) (before code : List ℕ)
    (applied : IsApplied (pair_row kind 32 UType) x before code) (below : n < 2 ^ 64)
    (value : value_of (pair_row kind 32 UType) x ≡ Some (cast_signed w64 n)) where
  pub upper_stands : place_sum (riscv_places UType) (from_le_bytes w32 code) ≡ high_20 n
  upper_stands =
      let bits : BitRange = record { start = 0; end = 32 } in
      u_laid _ applied.written.clear (from_le_bytes w32 code) applied.written.written
      ∙ ap (λ t. (t + 0x800) % 2 ^ 64 / 4096 % 1048576 * 4096)
      (taken_bits bits n applied.value below
      (value_is (pair_row kind 32 UType) x before code applied (cast_signed w64 n) value)
      ∙ (let e : field n 0 32 ≡ n % 2 ^ 32 = omega arith in e))

-- ---- `c.lui`

clui_of : (rd : ℕ) (i : ℤ) → i ≢ pos 0 → rd ≢ 0 → rd ≢ 2 → of_clui rd i ≡ Some (lui rd i)
clui_of rd (pos zero) some a b = absurd (some refl)
clui_of rd (pos (suc n)) some a b = grind (arith, nat_tests)
clui_of rd (negsuc n) some a b = grind (arith, nat_tests)

module _ (x : Operands) (before code : List ℕ)
    (applied : IsApplied (pair_row Absolute 32 CluiType) x before code)
    (len : length code ≡ length before)
    (is_short : field (from_le_bytes w16 before) 0 2 ≡ 1)
    (function : field (from_le_bytes w16 before) 13 16 ≡ 3)
    (some : rd_of (from_le_bytes w16 before) ≢ 0)
    (other_than_sp : rd_of (from_le_bytes w16 before) ≢ 2)
    (high : ¬ IsLow12 x) where
  half : ℕ
  half = from_le_bytes w16 code

  short_kept : field half 0 2 ≡ 1
  unfolding half
  short_kept =
      kept_field CluiType (record { start = 0; end = 32 }) applied.value before code applied.written
      (λ b w. refl) 0 2 refl ∙ is_short

  function_kept : field half 13 16 ≡ 3
  unfolding half
  function_kept =
      kept_field CluiType (record { start = 0; end = 32 }) applied.value before code applied.written
      (λ b w. refl) 13 3 refl ∙ function

  pub short_register : rd_of (from_le_bytes w16 code) ≡ rd_of (from_le_bytes w16 before)
  short_register =
      kept_field CluiType (record { start = 0; end = 32 }) applied.value before code applied.written
      (λ b w. refl) 7 5 refl

  -- S + A as it was written
  value_there : cast_signed w64 (symbol_address x) ≡ applied.value
  value_there =
      let n = symbol_address x in
      ap (cast_signed w64)
      (sym (unbiased n (sum_below x.symbol _)))
      ∙ value_is (pair_row Absolute 32 CluiType) x before code applied
      (cast_signed w64 (sum_64 n 0)) refl

  pub near : (symbol_address x < 0x1f800) ⊎ (2 ^ 64 - 0x20800 ≤ symbol_address x)
  near =
      clui_number (symbol_address x) (sum_below x.symbol _)
      (subst (λ z. IsWithin (Some clui_bounds) z) (sym value_there) applied.accepted.reached.0)

  pub short_stands : place_sum (riscv_places CluiType) (from_le_bytes w16 code)
      ≡ high_6 (symbol_address x)
  short_stands =
      let bits : BitRange = record { start = 0; end = 32 } in
      let n = symbol_address x in
      clui_laid _ applied.written.clear (from_le_bytes w16 code) applied.written.written
      ∙ ap (λ t. (t + 0x800) % 2 ^ 64 / 4096 % 64 * 4096)
      (taken_bits bits (sum_64 n 0) applied.value (sum_below n 0)
      (value_is (pair_row Absolute 32 CluiType) x before code applied (cast_signed w64 (sum_64 n 0))
      refl) ∙ low_32 n)

  short_number : ℤ
  short_number = (riscv_form CluiType).machine half

  not_zero : short_number ≢ pos 0
  unfolding half short_number
  not_zero none =
      high (low_12_back (symbol_address x) (sum_below x.symbol _)
      (only_low_12 (symbol_address x) _ (sum_below x.symbol _) near short_stands none))

  loads_short : Instruction
  loads_short = lui (rd_of half) short_number

  is_clui : of_clui (rd_of half) ((riscv_form CluiType).machine half) ≡ Some loads_short
  unfolding half short_number loads_short
  is_clui =
      clui_of (rd_of half) ((riscv_form CluiType).machine half) not_zero
      (λ e. some (sym short_register ∙ e)) (λ e. other_than_sp (sym short_register ∙ e))

  is_short_lui : of_half half ≡ Some loads_short
  unfolding loads_short
  is_short_lui =
      grind (arith, nat_tests, short_kept, function_kept, is_clui)

  -- the half is that `c.lui`
  pub short_low : field (from_le_bytes w16 code) 0 2 ≡ 1
  unfolding half
  short_low = short_kept

  pub short_decodes : of_half (from_le_bytes w16 code)
      ≡ Some (lui (rd_of (from_le_bytes w16 code))
      (signed 18 (place_sum (riscv_places CluiType) (from_le_bytes w16 code))))
  unfolding half short_number loads_short
  short_decodes = is_short_lui

-- ---- `c.li` of 0

module _ (half rd : ℕ) (is : half ≡ 0x4001 + rd * 128) (below : rd < 32) (some : rd ≢ 0) where
  zero_register : rd_of half ≡ rd
  zero_register = omega (arith, is)

  zero_low : field half 0 2 ≡ 1
  zero_low = omega (arith, is)

  zero_function : field half 13 16 ≡ 2
  zero_function = omega (arith, is)

  zero_immediate : cli_immediate half ≡ pos 0
  zero_immediate =
      let e : field half 2 7 + field half 12 13 * 2 ^ 5 ≡ 0 = omega (arith, is) in
      ap (signed 6) e

  pub is_zero : of_half half ≡ Some (sums adds rd 0 0 (pos 0))
  is_zero =
      grind (arith, nat_tests, zero_low, zero_function, zero_register, zero_immediate)

-- the two put the same
pub same_immediates : (n h l : ℕ) → n < 2 ^ 64 → (n < 0x1f800) ⊎ (2 ^ 64 - 0x20800 ≤ n)
    → h ≡ high_20 n → l ≡ high_6 n → wrapped (signed 32 h) ≡ wrapped (signed 18 l)
same_immediates n h l small near e f = ap wrapped (same_numbers n h l small near e f)
