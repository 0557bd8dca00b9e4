-- The laws of LoongArch.
use Rattle.linker_laws.proofs.Imports.{AreAddresses, Operands, Shift10, ap, arith, bits_from, cast_signed, difference_64, entry_and_addend, is_jirl, loongarch_form, loongarch_rows, none, not, of_words, place, refl, sum_64, sym, symbol_address, tls_base, true, w64, window_of, ℕ, ◌<◌, ◌^◌, ◌∙◌, ◌≡◌}
use Rattle.linker_laws.specs.Schemes.{zero}
use Rattle.linker_elf.specs.declared.loongarch64.relocations.LoongArch64Relocation.TheVariants.{R_LARCH_B16, R_LARCH_PCALA_LO12}
use Rattle.linker_laws.proofs.Applied.{reads, value_is, aligned_low}
use Rattle.linker_laws.proofs.Differences.{adds_distance, adds_distance_6}
use Rattle.linker_laws.proofs.Rounded.{relative_rounds, unrounded}
use Rattle.linker_laws.proofs.Fields.{holds_distance}
use Rattle.linker_laws.proofs.Instructions.{adds, symbol_from_place, plt_from_place, entry_and_addend_from_place, symbol_itself, symbol_from_tls, symbol_small, entry_and_addend_small, entry_and_addend_itself, tls_small, place_small, zero_small, relative, absolute}
use Rattle.linker_laws.proofs.LoongArchAddresses.{page_pairs, page_jumps, two_parts, rounded_parts, four_parts, five_parts, calls_far, high_parts}
use Rattle.linker_laws.proofs.Sums.{difference_below, sum_below, multiple_part}
use Rattle.linker_laws.proofs.relocations.loongarch64.Goals as goal
use Rattle.linker_laws.proofs.X86Bytes.{is_false}

pub returns-clause-relative : goal.returns-clause-relative
returns-clause-relative c = (
  page_pairs symbol_small _ (λ o small. refl) (λ o small at. refl)
      (of_words (λ x. not (is_jirl x))) (λ x v no. is_false (is_jirl x) no),
  page_pairs entry_and_addend_small _ (λ o small. refl) (λ o small at. refl) none (λ x v any. refl),
  page_pairs entry_and_addend_small _ (λ o small. refl) (λ o small at. refl) none (λ x v any. refl),
  page_pairs entry_and_addend_small _ (λ o small. refl) (λ o small at. refl) none (λ x v any. refl),
  page_pairs entry_and_addend_small _ (λ o small. refl) (λ o small at. refl) none (λ x v any. refl),
  page_pairs entry_and_addend_small _ (λ o small. refl) (λ o small at. refl) none (λ x v any. refl),
)

pub returns-clause-page_jumps : goal.returns-clause-page_jumps
returns-clause-page_jumps c =
    page_jumps symbol_small _ (λ o small. refl) (λ o small at. refl)
    (loongarch_rows R_LARCH_PCALA_LO12).1 (λ x is. is)

pub returns-clause-far : goal.returns-clause-far
returns-clause-far c = (
  five_parts symbol_small _ _ _ (λ o small. refl) (λ o small at. refl)
      (λ o small at. refl) (λ o small at. refl) (of_words (λ x. not (is_jirl x)))
      (λ x v no. is_false (is_jirl x) no) (λ x v any. refl),
  five_parts entry_and_addend_small _ _ _ (λ o small. refl) (λ o small at. refl)
      (λ o small at. refl) (λ o small at. refl) none (λ x v any. refl) (λ x v any. refl),
  five_parts entry_and_addend_small _ _ _ (λ o small. refl) (λ o small at. refl)
      (λ o small at. refl) (λ o small at. refl) none (λ x v any. refl) (λ x v any. refl),
  five_parts entry_and_addend_small _ _ _ (λ o small. refl) (λ o small at. refl)
      (λ o small at. refl) (λ o small at. refl) none (λ x v any. refl) (λ x v any. refl),
  five_parts entry_and_addend_small _ _ _ (λ o small. refl) (λ o small at. refl)
      (λ o small at. refl) (λ o small at. refl) none (λ x v any. refl) (λ x v any. refl),
  five_parts entry_and_addend_small _ _ _ (λ o small. refl) (λ o small at. refl)
      (λ o small at. refl) (λ o small at. refl) none (λ x v any. refl) (λ x v any. refl),
)

pub returns-clause-absolute : goal.returns-clause-absolute
returns-clause-absolute c = (
  two_parts symbol_itself (unrounded _ (λ o. sum_below _ _)) _ (λ o small. refl)
      (λ o small at. refl) (λ x v any. refl),
  four_parts symbol_itself _ _ _ (λ o small. refl) (λ o small at. refl)
      (λ o small at. refl) (λ o small at. refl) (λ x v any. refl) (λ x v any. refl),
  two_parts entry_and_addend_itself (unrounded _ (λ o. sum_below _ _)) _ (λ o small. refl)
      (λ o small at. refl) (λ x v any. refl),
  four_parts entry_and_addend_itself _ _ _ (λ o small. refl) (λ o small at. refl)
      (λ o small at. refl) (λ o small at. refl) (λ x v any. refl) (λ x v any. refl),
)

pub returns-clause-thread : goal.returns-clause-thread
returns-clause-thread c = (
  two_parts symbol_from_tls (unrounded _ (λ o. difference_below _ _)) _ (λ o small. refl)
      (λ o small at. refl) (λ x v any. refl),
  four_parts symbol_from_tls _ _ _ (λ o small. refl) (λ o small at. refl)
      (λ o small at. refl) (λ o small at. refl) (λ x v any. refl) (λ x v any. refl),
  rounded_parts symbol_from_tls (relative_rounds 0x800 tls_base symbol_address tls_small) _
      (λ o small. refl) (λ o small at. refl) (λ x v any. refl),
)

pub returns-clause-branches : goal.returns-clause-branches
returns-clause-branches c = (
  (λ o small at before after applied any.
      let n = relative symbol_address place o in
      let numbers = symbol_from_place o small in
      let is = value_is _ o before after applied (cast_signed w64 n) refl in
      let x = window_of (loongarch_form Shift10) after in
      let r = (reads _ o before after applied n numbers.below is true
      (loongarch_rows R_LARCH_B16).1).other refl refl refl (λ e t. omega arith) in
      multiple_part 2 o.place n (symbol_address o) ((loongarch_form Shift10).machine x)
      (omega arith) numbers.below numbers.leads (r ∙ ap (bits_from 2) (sym is))
      (aligned_low n 2 applied.value numbers.below (omega arith) is applied.accepted.aligned.0)
      numbers.small),
  adds symbol_from_place refl refl (λ o. refl),
  adds plt_from_place refl refl (λ o. refl),
  adds symbol_from_place refl refl (λ o. refl),
  adds entry_and_addend_from_place refl refl (λ o. refl),
  adds entry_and_addend_from_place refl refl (λ o. refl),
  adds entry_and_addend_from_place refl refl (λ o. refl),
)

pub returns-clause-calls : goal.returns-clause-calls
returns-clause-calls c = calls_far plt_from_place (λ o. refl)

pub returns-clause-distances : goal.returns-clause-distances
returns-clause-distances c = (
  adds_distance_6 (λ o. refl) (λ o. refl),
  adds_distance 1 (omega arith) (λ o. refl) (λ o. refl),
  adds_distance 2 (omega arith) (λ o. refl) (λ o. refl),
  adds_distance 3 (omega arith) (λ o. refl) (λ o. refl),
  adds_distance 4 (omega arith) (λ o. refl) (λ o. refl),
  adds_distance 8 (omega arith) (λ o. refl) (λ o. refl),
)

pub returns-clause-fields : goal.returns-clause-fields
returns-clause-fields c = (
  holds_distance symbol_itself (omega arith) (λ v old. refl) (λ o. refl),
  holds_distance symbol_itself (omega arith) (λ v old. refl) (λ o. refl),
  holds_distance symbol_from_place (omega arith) (λ v old. refl) (λ o. refl),
  holds_distance symbol_from_place (omega arith) (λ v old. refl) (λ o. refl),
  holds_distance symbol_from_tls (omega arith) (λ v old. refl) (λ o. refl),
  holds_distance symbol_from_tls (omega arith) (λ v old. refl) (λ o. refl),
)

-- a number is its distance from 0
from_zero : (o : Operands) → AreAddresses o
    → absolute entry_and_addend o ≡ difference_64 (sum_64 (entry_and_addend o) 0) (zero o)
from_zero o small = distance (sum_64 (entry_and_addend o) 0) (sum_below (entry_and_addend o) 0)
  where
    distance : (n : ℕ) → n < 2 ^ 64 → n ≡ difference_64 n 0
    distance n small = omega arith

pub returns-clause-high_parts : goal.returns-clause-high_parts
returns-clause-high_parts c = (
  high_parts place_small symbol_address 0x800 (λ o small. refl) (λ o. refl),
  high_parts zero_small entry_and_addend 0 from_zero (λ o. refl),
  high_parts zero_small entry_and_addend 0 from_zero (λ o. refl),
)
