-- The laws of PowerPC64.
use Rattle.linker_laws.proofs.Imports.{AreAddresses, Operands, Some, ap, arith, cast_signed, difference_64, entry_address, got_base, place, plt_address, refl, sum_64, symbol_address, tls_base, w64, ◌≡◌}
use Rattle.linker_laws.proofs.Fields.{holds_distance}
use Rattle.linker_laws.proofs.Instructions.{adds, symbol_from_place, symbol_from_got, symbol_from_tls, symbol_itself, entry_from_place, entry_from_got, entry_sum, place_small, got_small, plt_from_got, plt_from_place, tls_small, same_distance, relative, entry_is}
use Rattle.linker_laws.proofs.Ppc64Halves.{adjusted_halves, high_half, unadjusted_halves, d_reads, ds_reads}
use Rattle.linker_laws.proofs.Rounded.{relative_rounds, absolute_rounds}
use Rattle.linker_laws.proofs.Ppc64Quarters.{quarters, quarters_adjusted}
use Rattle.linker_laws.proofs.relocations.ppc64.Goals as goal

pub returns-clause-absolute : goal.returns-clause-absolute
returns-clause-absolute c = (
  adjusted_halves symbol_itself (absolute_rounds 0x8000 symbol_address)
      d_reads _ refl refl (λ o. refl) (λ o s a. refl),
  adjusted_halves symbol_itself (absolute_rounds 0x8000 symbol_address)
      ds_reads _ refl refl (λ o. refl) (λ o s a. refl),
  unadjusted_halves symbol_itself _ refl refl (λ o. refl) (λ o s a. refl),
)

pub returns-clause-relative : goal.returns-clause-relative
returns-clause-relative c = (
  adjusted_halves symbol_from_place (relative_rounds 0x8000 place symbol_address place_small)
      d_reads _ refl refl (λ o. refl) (λ o small at.
      ap (λ n. Some (cast_signed w64 n)) (same_distance 4 o small (omega arith))),
  unadjusted_halves symbol_from_place _ refl refl (λ o. refl) (λ o small at.
      ap (λ n. Some (cast_signed w64 n)) (same_distance 4 o small (omega arith))),
)

pub returns-clause-far : goal.returns-clause-far
returns-clause-far c = (
  quarters symbol_itself _ _ _ (λ o s. refl) (λ o s a. refl) (λ o s a. refl) (λ o s a. refl),
  quarters_adjusted symbol_itself (absolute_rounds 0x8000 symbol_address) d_reads _ _ _
      (λ o s. refl) (λ o s a. refl) (λ o s a. refl) (λ o s a. refl),
  quarters_adjusted symbol_itself (absolute_rounds 0x8000 symbol_address) ds_reads _ _ _
      (λ o s. refl) (λ o s a. refl) (λ o s a. refl) (λ o s a. refl),
  quarters symbol_from_tls _ _ _ (λ o s. refl) (λ o s a. refl) (λ o s a. refl) (λ o s a. refl),
  quarters_adjusted symbol_from_tls (relative_rounds 0x8000 tls_base symbol_address tls_small) d_reads _ _ _
      (λ o s. refl) (λ o s a. refl) (λ o s a. refl) (λ o s a. refl),
  quarters_adjusted symbol_from_tls (relative_rounds 0x8000 tls_base symbol_address tls_small) ds_reads _ _ _
      (λ o s. refl) (λ o s a. refl) (λ o s a. refl) (λ o s a. refl),
  quarters symbol_from_tls _ _ _ (λ o s. refl) (λ o s a. refl) (λ o s a. refl) (λ o s a. refl),
  quarters_adjusted symbol_from_tls (relative_rounds 0x8000 tls_base symbol_address tls_small) d_reads _ _ _
      (λ o s. refl) (λ o s a. refl) (λ o s a. refl) (λ o s a. refl),
  quarters_adjusted symbol_from_tls (relative_rounds 0x8000 tls_base symbol_address tls_small) ds_reads _ _ _
      (λ o s. refl) (λ o s a. refl) (λ o s a. refl) (λ o s a. refl),
)

pub returns-clause-toc : goal.returns-clause-toc
returns-clause-toc c = (
  adjusted_halves symbol_from_got (relative_rounds 0x8000 got_base symbol_address got_small)
      d_reads _ refl refl (λ o. refl) (λ o s a. refl),
  adjusted_halves symbol_from_got (relative_rounds 0x8000 got_base symbol_address got_small)
      ds_reads _ refl refl (λ o. refl) (λ o s a. refl),
  unadjusted_halves symbol_from_got _ refl refl (λ o. refl) (λ o s a. refl),
)

pub returns-clause-entries : goal.returns-clause-entries
returns-clause-entries c = (
  adjusted_halves entry_from_got (relative_rounds 0x8000 got_base entry_sum got_small)
      ds_reads _ refl refl (λ o. refl) (λ o s a. refl),
  adjusted_halves entry_from_got (relative_rounds 0x8000 got_base entry_sum got_small)
      d_reads _ refl refl (λ o. refl) (λ o s a. refl),
  adjusted_halves entry_from_got (relative_rounds 0x8000 got_base entry_sum got_small)
      d_reads _ refl refl (λ o. refl) (λ o s a. refl),
  unadjusted_halves entry_from_got _ refl refl (λ o. refl) (λ o s a. refl),
  unadjusted_halves entry_from_got _ refl refl (λ o. refl) (λ o s a. refl),
)

pub returns-clause-got : goal.returns-clause-got
returns-clause-got c = (
  adjusted_halves entry_from_got (relative_rounds 0x8000 got_base entry_sum got_small)
      ds_reads _ refl refl (λ o. refl) (λ o s a. refl),
  adjusted_halves entry_from_got (relative_rounds 0x8000 got_base entry_sum got_small)
      d_reads _ refl refl (λ o. refl) (λ o s a. refl),
  unadjusted_halves entry_from_got _ refl refl (λ o. refl) (λ o s a. refl),
  adjusted_halves plt_from_got (relative_rounds 0x8000 got_base plt_address got_small)
      ds_reads _ refl refl (λ o. refl) (λ o s a. refl),
)

pub returns-clause-thread : goal.returns-clause-thread
returns-clause-thread c = (
  adjusted_halves symbol_from_tls (relative_rounds 0x8000 tls_base symbol_address tls_small)
      d_reads _ refl refl (λ o. refl) (λ o s a. refl),
  adjusted_halves symbol_from_tls (relative_rounds 0x8000 tls_base symbol_address tls_small)
      ds_reads _ refl refl (λ o. refl) (λ o s a. refl),
  adjusted_halves symbol_from_tls (relative_rounds 0x8000 tls_base symbol_address tls_small)
      d_reads _ refl refl (λ o. refl) (λ o s a. refl),
  adjusted_halves symbol_from_tls (relative_rounds 0x8000 tls_base symbol_address tls_small)
      ds_reads _ refl refl (λ o. refl) (λ o s a. refl),
  unadjusted_halves symbol_from_tls _ refl refl (λ o. refl) (λ o s a. refl),
  unadjusted_halves symbol_from_tls _ refl refl (λ o. refl) (λ o s a. refl),
)

pub returns-clause-branches : goal.returns-clause-branches
returns-clause-branches c = (
  adds symbol_from_place refl refl (λ o. refl),
  adds symbol_from_place refl refl (λ o. refl),
  adds symbol_from_place refl refl (λ o. refl),
  adds symbol_itself refl refl (λ o. refl),
  adds symbol_itself refl refl (λ o. refl),
)

pub returns-clause-prefixed : goal.returns-clause-prefixed
returns-clause-prefixed c = (
  adds symbol_from_place refl refl (λ o. refl),
  adds entry_from_place refl refl (λ o. refl),
  adds entry_from_place refl refl (λ o. refl),
  adds entry_from_place refl refl (λ o. refl),
  adds entry_from_place refl refl (λ o. refl),
  adds symbol_itself refl refl (λ o. refl),
  adds plt_from_place refl refl (λ o. refl),
  adds plt_from_place refl refl (λ o. refl),
  adds symbol_from_tls refl refl (λ o. refl),
  adds symbol_from_tls refl refl (λ o. refl),
)

pub returns-clause-displacements : goal.returns-clause-displacements
returns-clause-displacements c = (
  adds symbol_itself refl refl (λ o. refl),
  adds symbol_from_got refl refl (λ o. refl),
  adds symbol_from_got refl refl (λ o. refl),
  adds entry_from_got refl refl (λ o. refl),
  adds entry_from_got refl refl (λ o. refl),
  adds entry_from_got refl refl (λ o. refl),
  adds symbol_from_tls refl refl (λ o. refl),
  adds symbol_from_tls refl refl (λ o. refl),
  adds symbol_from_tls refl refl (λ o. refl),
  adds symbol_from_tls refl refl (λ o. refl),
  adds entry_from_got refl refl (λ o. refl),
  adds entry_from_got refl refl (λ o. refl),
)

pub returns-clause-fields : goal.returns-clause-fields
returns-clause-fields c = (
  holds_distance symbol_itself (omega arith) (λ v old. refl) (λ o. refl),
  holds_distance symbol_itself (omega arith) (λ v old. refl) (λ o. refl),
  holds_distance symbol_itself (omega arith) (λ v old. refl) (λ o. refl),
  holds_distance symbol_from_place (omega arith) (λ v old. refl) (λ o. refl),
  holds_distance symbol_from_place (omega arith) (λ v old. refl) (λ o. refl),
  holds_distance symbol_from_tls (omega arith) (λ v old. refl) (λ o. refl),
  holds_distance symbol_from_tls (omega arith) (λ v old. refl) (λ o. refl),
)

-- the entry's address, where no addend is added
entry_distance : (o : Operands) → AreAddresses o
    → relative entry_sum got_base o ≡ difference_64 (sum_64 (entry_address o) 0) (got_base o)
entry_distance o small =
    ap (λ e. difference_64 (sum_64 e 0) (got_base o)) (entry_is o small)

pub returns-clause-high_parts : goal.returns-clause-high_parts
returns-clause-high_parts c =
    high_half got_small entry_address 0 entry_distance refl refl (λ o. refl)
