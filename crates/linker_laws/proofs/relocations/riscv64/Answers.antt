-- The laws of RISC-V.
use Rattle.linker_laws.proofs.Imports.{CluiType, IType, SType, UType, arith, refl}
use Rattle.linker_laws.proofs.Fields.{holds_distance}
use Rattle.linker_laws.proofs.Instructions.{adds, symbol_from_place, plt_from_place, entry_and_addend_from_place, symbol_from_tls, symbol_itself}
use Rattle.linker_laws.proofs.Differences.{adds_distance, sets_distance, sets_distance_6}
use Rattle.linker_laws.proofs.RiscV.{pairs, calls}
use Rattle.linker_laws.proofs.relocations.riscv64.Goals as goal

pub returns-clause-absolute : goal.returns-clause-absolute
returns-clause-absolute c = (
  (
    pairs symbol_itself UType IType (λ bits v after h. h.0) _ (λ o. refl) (λ o at. refl),
    pairs symbol_itself UType SType (λ bits v after h. h.1) _ (λ o. refl) (λ o at. refl),
  ),
  (
    pairs symbol_itself CluiType IType (λ bits v after h. h.0) _ (λ o. refl) (λ o at. refl),
    pairs symbol_itself CluiType SType (λ bits v after h. h.1) _ (λ o. refl) (λ o at. refl),
  ),
)

pub returns-clause-relative : goal.returns-clause-relative
returns-clause-relative c = (
  pairs symbol_from_place UType IType (λ bits v after h. h.0) _ (λ o. refl) (λ o at. refl),
  pairs symbol_from_place UType SType (λ bits v after h. h.1) _ (λ o. refl) (λ o at. refl),
)

pub returns-clause-entries : goal.returns-clause-entries
returns-clause-entries c = (
  (
    pairs entry_and_addend_from_place UType IType (λ bits v after h. h.0) _ (λ o. refl) (λ o at. refl),
    pairs entry_and_addend_from_place UType SType (λ bits v after h. h.1) _ (λ o. refl) (λ o at. refl),
  ),
  (
    pairs entry_and_addend_from_place UType IType (λ bits v after h. h.0) _ (λ o. refl) (λ o at. refl),
    pairs entry_and_addend_from_place UType SType (λ bits v after h. h.1) _ (λ o. refl) (λ o at. refl),
  ),
  (
    pairs entry_and_addend_from_place UType IType (λ bits v after h. h.0) _ (λ o. refl) (λ o at. refl),
    pairs entry_and_addend_from_place UType SType (λ bits v after h. h.1) _ (λ o. refl) (λ o at. refl),
  ),
)

pub returns-clause-descriptors : goal.returns-clause-descriptors
returns-clause-descriptors c = (
  pairs entry_and_addend_from_place UType IType (λ bits v after h. h.0) _ (λ o. refl) (λ o at. refl),
  pairs entry_and_addend_from_place UType IType (λ bits v after h. h.0) _ (λ o. refl) (λ o at. refl),
)

pub returns-clause-thread : goal.returns-clause-thread
returns-clause-thread c = (
  pairs symbol_from_tls UType IType (λ bits v after h. h.0) _ (λ o. refl) (λ o at. refl),
  pairs symbol_from_tls UType SType (λ bits v after h. h.1) _ (λ o. refl) (λ o at. refl),
)

pub returns-clause-calls : goal.returns-clause-calls
returns-clause-calls c = (calls plt_from_place (λ o. refl), calls plt_from_place (λ o. refl))

pub returns-clause-jumps : goal.returns-clause-jumps
returns-clause-jumps c = (
  adds symbol_from_place refl refl (λ o. refl),
  adds symbol_from_place refl refl (λ o. refl),
  adds symbol_from_place refl refl (λ o. refl),
  adds symbol_from_place refl refl (λ o. refl),
)

pub returns-clause-distances : goal.returns-clause-distances
returns-clause-distances c = (
  adds_distance 1 (omega arith) (λ o. refl) (λ o. refl),
  adds_distance 2 (omega arith) (λ o. refl) (λ o. refl),
  adds_distance 4 (omega arith) (λ o. refl) (λ o. refl),
  adds_distance 8 (omega arith) (λ o. refl) (λ o. refl),
  sets_distance 1 (omega arith) (λ o. refl) (λ o. refl),
  sets_distance 2 (omega arith) (λ o. refl) (λ o. refl),
  sets_distance 4 (omega arith) (λ o. refl) (λ o. refl),
  sets_distance_6 (λ o. refl) (λ o. refl),
)

pub returns-clause-fields : goal.returns-clause-fields
returns-clause-fields c = (
  holds_distance symbol_itself (omega arith) (λ v old. refl) (λ o. refl),
  holds_distance symbol_itself (omega arith) (λ v old. refl) (λ o. refl),
  holds_distance symbol_from_place (omega arith) (λ v old. refl) (λ o. refl),
  holds_distance plt_from_place (omega arith) (λ v old. refl) (λ o. refl),
  holds_distance entry_and_addend_from_place (omega arith) (λ v old. refl) (λ o. refl),
)
