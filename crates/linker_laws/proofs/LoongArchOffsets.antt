-- Instructions of an offset of 12 bits from the thread pointer.
use Rattle.linker_laws.proofs.Imports.{AreAddresses, IsWithin, List, Operands, RowIsWithin, Some, ap, arith, cast_signed, difference_64, field, inl, inr, ints, loongarch_row, nat_tests, page, pos, refl, signed, subst, sum_64, sym, symbol_address, thread_offset, to_z_pos, true, w64, word_of, wrapped, ℕ, ℤ, ◌%◌, ◌+ℤ◌, ◌+◌, ◌/◌, ◌<◌, ◌^◌, ◌∙◌, ◌≡◌}
use Rattle.linker_utils.specs.LoongArchRewrites.{signed_32, signed_12, adds_low12, rj_of, rd_of}
use Rattle.linker_elf.specs.declared.loongarch64.relocations.LoongArch64Relocation.TheVariants as names
use Rattle.linker_laws.proofs.Applied.{value_is, taken_bits}
use Rattle.linker_laws.specs.LoongArchGroups as laws
use Rattle.linker_laws.specs.LoongArchMachine.{State, step, read, go_on, decode, execute, high_part, sum_of, add_d, action_of, used}
use Rattle.linker_laws.proofs.LoongArchHalves.{high_made}
use Rattle.linker_laws.proofs.LoongArchSteps.{written}
use Rattle.linker_laws.proofs.LoongArchWords.{decodes_action, low_is}
use Rattle.linker_laws.proofs.RiscVHighParts.{low_12_number}
use Rattle.linker_laws.proofs.RiscVLowParts.{low_sum}

-- ---- `add.d rd, rj, tp`

pub decodes_add : (x : ℕ) → x / 2 ^ 10 ≡ 0x422 → decode x ≡ add_d
decodes_add x op = grind (arith, nat_tests)

pub step_action : (x op r : ℕ) (s : State) → x / 2 ^ 22 ≡ op → adds_low12 op ≡ true → rd_of x ≡ r
    → step x s ≡ Some (go_on (used (action_of op) r (sum_of x s) s))
step_action x op r s is low rd =
    ap (λ c. execute c x s) (decodes_action x op is low)
    ∙ ap (λ n. Some (go_on (used (action_of op) n (sum_of x s) s))) rd

-- the sum of an instruction that adds an offset of 12 bits to a number
pub offset_sum : (o : Operands) (before after : List ℕ) (s : State) (j b : ℕ)
    → RowIsWithin (loongarch_row names.R_LARCH_TLS_LE_LO12_R) signed_12 o
    → laws.IsRelocated names.R_LARCH_TLS_LE_LO12_R o before after → rj_of (word_of after) ≡ j → read j s ≡ b
    → sum_of (word_of after) s ≡ sum_64 b (thread_offset o)
offset_sum o before after s j b fits a rj is =
    let n = difference_64 (sum_64 (symbol_address o) 0) o.tls_base in
    let f = field (word_of after) 10 22 in
    let taken : f ≡ n % 2 ^ 32 % 4096 =
    low_is _ before after a.written
    ∙ taken_bits (record { start = 0; end = 12 }) n a.value (omega arith) (value_is _ o before after a (cast_signed w64 n) refl)
    ∙ (let e : field n 0 12 ≡ n % 2 ^ 32 % 4096 = omega arith in e) in
    ap (λ r. wrapped (pos (read r s) +ℤ signed 12 f)) rj ∙ ap (λ v. wrapped (pos v +ℤ signed 12 f)) is
    ∙ low_sum b n f (omega arith) (low_12_number n (omega arith) fits) taken
    ∙ ap (sum_64 b) (let e : n ≡ thread_offset o = omega arith in e)

-- an offset of 12 bits has no high part
pub no_high_part : (o : Operands) (before after : List ℕ) → AreAddresses o
    → RowIsWithin (loongarch_row names.R_LARCH_TLS_LE_LO12_R) signed_12 o
    → laws.IsRelocated names.R_LARCH_TLS_LE_HI20_R o before after → high_part (word_of after) ≡ 0
no_high_part o before after small fits a =
    let n = difference_64 (sum_64 (symbol_address o) 0) o.tls_base in
    let d = difference_64 (sum_64 (symbol_address o) 0x800) o.tls_base in
    let base = small.tls_base in
    let below : d < 4096 = elim (low_12_number n (omega arith) fits) [
      | inl near ↦ omega arith
      | inr far ↦ omega arith
    ] in
    let number : cast_signed w64 d ≡ pos d = to_z_pos w64 d (omega arith) in
    let value = value_is _ o before after a (cast_signed w64 d) refl in
    let within : IsWithin (Some signed_32) a.value =
    subst (IsWithin (Some signed_32)) (sym number ∙ value) (omega (arith, ints), omega (arith, ints)) in
    high_made o d (omega arith) refl before after a within ∙ (let e : page d ≡ 0 = omega arith in e)
