-- The laws of AArch64.
use Rattle.linker_laws.proofs.Imports.{AreAddresses, LdrRegister, Operands, Premise, Signed, Some, aarch64_rows, ap, arith, bit_bounds, cast_signed, cast_unsigned, difference_64, got_page, none, of_values, place, refl, sum_64, symbol_address, w64, ℕ, ◌<◌, ◌^◌, ◌≡◌}
use Rattle.linker_elf.specs.declared.aarch64.relocations.AArch64Relocation.TheVariants as names
use Rattle.linker_laws.proofs.Fields.{holds_distance}
use Rattle.linker_laws.proofs.Instructions.{entry_and_addend_from_place, symbol_from_got, adds, symbol_from_place, plt_from_place, entry_from_place, entry_from_got, entry_from, symbol_from_tls, symbol_itself, symbol_small, entry_sum_small, entry_is, relative, same_distance}
use Rattle.linker_laws.proofs.AArch64WideMoves.{moves1, moves2, moves3, moves4, movz_first, movn_first, movn_highest, movz_highest}
use Rattle.linker_laws.proofs.AArch64Pages.{add_is, got_page_small, high_and_low_parts, IsUnsigned, ldst_is, pages}
use Rattle.linker_laws.proofs.relocations.aarch64.Goals as goal

ldr_is : IsUnsigned LdrRegister
ldr_is = (refl, refl, refl, λ c x. refl)

-- what checks the second page
abbrev of_33 : Premise
of_33 = of_values (bit_bounds 33 Signed)

pub returns-clause-relative : goal.returns-clause-relative
returns-clause-relative c = (
  (
    pages symbol_small (λ o s. refl) add_is refl _ none (λ x v r a. r) refl (λ o s. refl) (λ o s a. refl),
    pages symbol_small (λ o s. refl) ldst_is refl _ none (λ x v r a. r) refl (λ o s. refl) (λ o s a. refl),
    pages symbol_small (λ o s. refl) ldst_is refl _ none (λ x v r a. r) refl (λ o s. refl) (λ o s a. refl),
    pages symbol_small (λ o s. refl) ldst_is refl _ none (λ x v r a. r) refl (λ o s. refl) (λ o s a. refl),
    pages symbol_small (λ o s. refl) ldst_is refl _ none (λ x v r a. r) refl (λ o s. refl) (λ o s a. refl),
    pages symbol_small (λ o s. refl) ldst_is refl _ none (λ x v r a. r) refl (λ o s. refl) (λ o s a. refl),
  ),
  (
    pages symbol_small (λ o s. refl) add_is refl _ of_33 (λ x v r w. w) refl (λ o s. refl) (λ o s a. refl),
    pages symbol_small (λ o s. refl) ldst_is refl _ of_33 (λ x v r w. w) refl (λ o s. refl) (λ o s a. refl),
    pages symbol_small (λ o s. refl) ldst_is refl _ of_33 (λ x v r w. w) refl (λ o s. refl) (λ o s a. refl),
    pages symbol_small (λ o s. refl) ldst_is refl _ of_33 (λ x v r w. w) refl (λ o s. refl) (λ o s a. refl),
    pages symbol_small (λ o s. refl) ldst_is refl _ of_33 (λ x v r w. w) refl (λ o s. refl) (λ o s a. refl),
    pages symbol_small (λ o s. refl) ldst_is refl _ of_33 (λ x v r w. w) refl (λ o s. refl) (λ o s a. refl),
  ),
)

pub returns-clause-entries : goal.returns-clause-entries
returns-clause-entries c = (
  pages entry_sum_small entry_is ldst_is refl _ none (λ x v r a. r) refl (λ o s. refl) (λ o s a. refl),
  pages entry_sum_small entry_is add_is refl _ none (λ x v r a. r) refl (λ o s. refl) (λ o s a. refl),
  pages entry_sum_small entry_is add_is refl _ none (λ x v r a. r) refl (λ o s. refl) (λ o s a. refl),
  pages entry_sum_small entry_is ldr_is refl _ none (λ x v r a. r) refl (λ o s. refl) (λ o s a. refl),
  pages entry_sum_small entry_is ldr_is refl _ none (λ x v r a. r) refl (λ o s. refl) (λ o s a. refl),
  pages entry_sum_small entry_is add_is refl _ none (λ x v r a. r) refl (λ o s. refl) (λ o s a. refl),
)

pub returns-clause-thread : goal.returns-clause-thread
returns-clause-thread c = (
  (
    high_and_low_parts symbol_from_tls add_is refl _ refl refl (λ o s. refl) (λ o s a. refl),
    high_and_low_parts symbol_from_tls ldst_is refl _ refl refl (λ o s. refl) (λ o s a. refl),
    high_and_low_parts symbol_from_tls ldst_is refl _ refl refl (λ o s. refl) (λ o s a. refl),
    high_and_low_parts symbol_from_tls ldst_is refl _ refl refl (λ o s. refl) (λ o s a. refl),
    high_and_low_parts symbol_from_tls ldst_is refl _ refl refl (λ o s. refl) (λ o s a. refl),
    high_and_low_parts symbol_from_tls ldst_is refl _ refl refl (λ o s. refl) (λ o s a. refl),
  ),
  (
    adds symbol_from_tls refl refl (λ o. refl),
    adds symbol_from_tls refl refl (λ o. refl),
    adds symbol_from_tls refl refl (λ o. refl),
    adds symbol_from_tls refl refl (λ o. refl),
    adds symbol_from_tls refl refl (λ o. refl),
    adds symbol_from_tls refl refl (λ o. refl),
  ),
)

pub returns-clause-module : goal.returns-clause-module
returns-clause-module c = (
  (
    high_and_low_parts symbol_from_tls add_is refl _ refl refl (λ o s. refl) (λ o s a. refl),
    high_and_low_parts symbol_from_tls ldst_is refl _ refl refl (λ o s. refl) (λ o s a. refl),
    high_and_low_parts symbol_from_tls ldst_is refl _ refl refl (λ o s. refl) (λ o s a. refl),
    high_and_low_parts symbol_from_tls ldst_is refl _ refl refl (λ o s. refl) (λ o s a. refl),
    high_and_low_parts symbol_from_tls ldst_is refl _ refl refl (λ o s. refl) (λ o s a. refl),
    high_and_low_parts symbol_from_tls ldst_is refl _ refl refl (λ o s. refl) (λ o s a. refl),
  ),
  (
    adds symbol_from_tls refl refl (λ o. refl),
    adds symbol_from_tls refl refl (λ o. refl),
    adds symbol_from_tls refl refl (λ o. refl),
    adds symbol_from_tls refl refl (λ o. refl),
    adds symbol_from_tls refl refl (λ o. refl),
    adds symbol_from_tls refl refl (λ o. refl),
  ),
)

pub returns-clause-branches : goal.returns-clause-branches
returns-clause-branches c = (
  adds plt_from_place refl refl (λ o. refl),
  adds plt_from_place refl refl (λ o. refl),
  adds symbol_from_place refl refl (λ o. refl),
  adds symbol_from_place refl refl (λ o. refl),
)

pub returns-clause-literals : goal.returns-clause-literals
returns-clause-literals c = (
  adds symbol_from_place refl refl (λ o. refl),
  adds symbol_from_place refl refl (λ o. refl),
  adds entry_from_place refl refl (λ o. refl),
  adds entry_from_place refl refl (λ o. refl),
  adds entry_from_place refl refl (λ o. refl),
  adds entry_from_place refl refl (λ o. refl),
  adds entry_from_place refl refl (λ o. refl),
  adds entry_from_place refl refl (λ o. refl),
  adds entry_from_place refl refl (λ o. refl),
)

pub returns-clause-from_got : goal.returns-clause-from_got
returns-clause-from_got c = (
  adds entry_from_got refl refl (λ o. refl),
  adds (entry_from got_page got_page_small) refl refl (λ o. refl),
)

-- the value of a move n bytes on
moved : (n : ℕ) → n < 2 ^ 64 → (o : Operands) → AreAddresses o → (at : ℕ)
    → Some (cast_signed w64
    (difference_64 (sum_64 (sum_64 (sum_64 o.symbol n) (cast_unsigned w64 o.addend)) 0)
    (sum_64 o.place n)))
    ≡ Some (cast_signed w64 (relative symbol_address place o))
moved n few o small at = ap (λ d. Some (cast_signed w64 d)) (same_distance n o small few)

pub returns-clause-unsigned_moves : goal.returns-clause-unsigned_moves
returns-clause-unsigned_moves c = (
  moves1 (movz_first 0 symbol_itself (omega arith) refl refl (λ o. refl)),
  moves2 (movz_first 16 symbol_itself (omega arith) refl refl (λ o. refl))
      _ (λ o small at. refl),
  moves3 (movz_first 32 symbol_itself (omega arith) refl refl (λ o. refl))
      _ _ (λ o small at. refl) (λ o small at. refl),
  moves4 (movz_highest symbol_itself (λ o. refl))
      _ _ _ (λ o small at. refl) (λ o small at. refl) (λ o small at. refl),
)

pub returns-clause-signed_moves : goal.returns-clause-signed_moves
returns-clause-signed_moves c = (
  moves1 (movn_first 0 symbol_itself refl (aarch64_rows names.R_AARCH64_MOVW_SABS_G0).1 (λ o. refl)),
  moves2 (movn_first 16 symbol_itself refl (aarch64_rows names.R_AARCH64_MOVW_SABS_G1).1 (λ o. refl))
      _ (λ o small at. refl),
  moves3 (movn_first 32 symbol_itself refl (aarch64_rows names.R_AARCH64_MOVW_SABS_G2).1 (λ o. refl))
      _ _ (λ o small at. refl) (λ o small at. refl),
)

pub returns-clause-relative_moves : goal.returns-clause-relative_moves
returns-clause-relative_moves c = (
  moves1 (movn_first 0 symbol_from_place refl (aarch64_rows names.R_AARCH64_MOVW_PREL_G0).1 (λ o. refl)),
  moves2 (movn_first 16 symbol_from_place refl (aarch64_rows names.R_AARCH64_MOVW_PREL_G1).1 (λ o. refl))
      _ (moved 4 (omega arith)),
  moves3 (movn_first 32 symbol_from_place refl (aarch64_rows names.R_AARCH64_MOVW_PREL_G2).1 (λ o. refl))
      _ _ (moved 4 (omega arith)) (moved 8 (omega arith)),
  moves4 (movn_highest symbol_from_place refl (aarch64_rows names.R_AARCH64_MOVW_PREL_G3).1 (λ o. refl))
      _ _ _ (moved 4 (omega arith)) (moved 8 (omega arith)) (moved 12 (omega arith)),
)

pub returns-clause-got_moves : goal.returns-clause-got_moves
returns-clause-got_moves c = (
  moves1 (movn_first 0 entry_from_got refl (aarch64_rows names.R_AARCH64_MOVW_GOTOFF_G0).1 (λ o. refl)),
  moves2 (movn_first 16 entry_from_got refl (aarch64_rows names.R_AARCH64_MOVW_GOTOFF_G1).1 (λ o. refl))
      _ (λ o small at. refl),
  moves3 (movn_first 32 entry_from_got refl (aarch64_rows names.R_AARCH64_MOVW_GOTOFF_G2).1 (λ o. refl))
      _ _ (λ o small at. refl) (λ o small at. refl),
  moves4 (movn_highest entry_from_got refl (aarch64_rows names.R_AARCH64_MOVW_GOTOFF_G3).1 (λ o. refl))
      _ _ _ (λ o small at. refl) (λ o small at. refl) (λ o small at. refl),
  moves2 (movn_first 16 entry_from_got refl (aarch64_rows names.R_AARCH64_TLSGD_MOVW_G1).1 (λ o. refl))
      _ (λ o small at. refl),
  moves2 (movn_first 16 entry_from_got refl (aarch64_rows names.R_AARCH64_TLSLD_MOVW_G1).1 (λ o. refl))
      _ (λ o small at. refl),
  moves2 (movn_first 16 entry_from_got refl (aarch64_rows names.R_AARCH64_TLSIE_MOVW_GOTTPREL_G1).1 (λ o. refl))
      _ (λ o small at. refl),
  moves2 (movn_first 16 entry_from_got refl (aarch64_rows names.R_AARCH64_TLSDESC_OFF_G1).1 (λ o. refl))
      _ (λ o small at. refl),
)

pub returns-clause-thread_moves : goal.returns-clause-thread_moves
returns-clause-thread_moves c = (
  (
    moves1 (movn_first 0 symbol_from_tls refl (aarch64_rows names.R_AARCH64_TLSLE_MOVW_TPREL_G0).1 (λ o. refl)),
    moves2 (movn_first 16 symbol_from_tls refl (aarch64_rows names.R_AARCH64_TLSLE_MOVW_TPREL_G1).1 (λ o. refl))
        _ (λ o small at. refl),
    moves3 (movn_first 32 symbol_from_tls refl (aarch64_rows names.R_AARCH64_TLSLE_MOVW_TPREL_G2).1 (λ o. refl))
        _ _ (λ o small at. refl) (λ o small at. refl),
  ),
  (
    moves1 (movn_first 0 symbol_from_tls refl (aarch64_rows names.R_AARCH64_TLSLD_MOVW_DTPREL_G0).1 (λ o. refl)),
    moves2 (movn_first 16 symbol_from_tls refl (aarch64_rows names.R_AARCH64_TLSLD_MOVW_DTPREL_G1).1 (λ o. refl))
        _ (λ o small at. refl),
    moves3 (movn_first 32 symbol_from_tls refl (aarch64_rows names.R_AARCH64_TLSLD_MOVW_DTPREL_G2).1 (λ o. refl))
        _ _ (λ o small at. refl) (λ o small at. refl),
  ),
)

pub returns-clause-fields : goal.returns-clause-fields
returns-clause-fields c = (
  holds_distance symbol_itself (omega arith) (λ v old. refl) (λ o. refl),
  holds_distance symbol_itself (omega arith) (λ v old. refl) (λ o. refl),
  holds_distance symbol_itself (omega arith) (λ v old. refl) (λ o. refl),
  holds_distance symbol_from_place (omega arith) (λ v old. refl) (λ o. refl),
  holds_distance symbol_from_place (omega arith) (λ v old. refl) (λ o. refl),
  holds_distance symbol_from_place (omega arith) (λ v old. refl) (λ o. refl),
  holds_distance plt_from_place (omega arith) (λ v old. refl) (λ o. refl),
  holds_distance symbol_from_got (omega arith) (λ v old. refl) (λ o. refl),
  holds_distance symbol_from_got (omega arith) (λ v old. refl) (λ o. refl),
  holds_distance entry_and_addend_from_place (omega arith) (λ v old. refl) (λ o. refl),
)
