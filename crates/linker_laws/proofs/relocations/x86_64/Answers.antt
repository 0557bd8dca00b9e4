-- The laws of x86-64.
use Rattle.linker_laws.proofs.Imports.{refl, twos_complement, unsigned}
use Rattle.linker_laws.proofs.Fields.{field_adds, field_adds_within, whole_field_adds}
use Rattle.linker_laws.proofs.Instructions.{symbol_from_place, plt_from_place, symbol_from_tls, entry_and_addend_from_place, symbol_itself, entry_and_addend_from_got, symbol_from_got, plt_from_got, size_itself}
use Rattle.linker_laws.proofs.relocations.x86_64.Goals as goal

pub returns-clause-symbols : goal.returns-clause-symbols
returns-clause-symbols c = (
  field_adds symbol_from_place twos_complement (λ v old. refl) refl refl (λ o. refl),
  field_adds symbol_from_place twos_complement (λ v old. refl) refl refl (λ o. refl),
  field_adds symbol_from_place twos_complement (λ v old. refl) refl refl (λ o. refl),
  whole_field_adds symbol_from_place (λ v old. refl) (λ o. refl),
  field_adds symbol_from_place twos_complement (λ v old. refl) refl refl (λ o. refl),
  whole_field_adds symbol_from_place (λ v old. refl) (λ o. refl),
)

pub returns-clause-calls : goal.returns-clause-calls
returns-clause-calls c =
    field_adds plt_from_place twos_complement (λ v old. refl) refl refl (λ o. refl)

pub returns-clause-entries : goal.returns-clause-entries
returns-clause-entries c = (
  field_adds entry_and_addend_from_place twos_complement (λ v old. refl) refl refl (λ o. refl),
  field_adds entry_and_addend_from_place twos_complement (λ v old. refl) refl refl (λ o. refl),
  field_adds entry_and_addend_from_place twos_complement (λ v old. refl) refl refl (λ o. refl),
  field_adds entry_and_addend_from_place twos_complement (λ v old. refl) refl refl (λ o. refl),
  field_adds entry_and_addend_from_place twos_complement (λ v old. refl) refl refl (λ o. refl),
  field_adds entry_and_addend_from_place twos_complement (λ v old. refl) refl refl (λ o. refl),
  field_adds entry_and_addend_from_place twos_complement (λ v old. refl) refl refl (λ o. refl),
  field_adds entry_and_addend_from_place twos_complement (λ v old. refl) refl refl (λ o. refl),
  field_adds entry_and_addend_from_place twos_complement (λ v old. refl) refl refl (λ o. refl),
  field_adds entry_and_addend_from_place twos_complement (λ v old. refl) refl refl (λ o. refl),
  field_adds entry_and_addend_from_place twos_complement (λ v old. refl) refl refl (λ o. refl),
  field_adds entry_and_addend_from_place twos_complement (λ v old. refl) refl refl (λ o. refl),
  field_adds entry_and_addend_from_place twos_complement (λ v old. refl) refl refl (λ o. refl),
  field_adds entry_and_addend_from_place twos_complement (λ v old. refl) refl refl (λ o. refl),
  field_adds entry_and_addend_from_place twos_complement (λ v old. refl) refl refl (λ o. refl),
  field_adds entry_and_addend_from_place twos_complement (λ v old. refl) refl refl (λ o. refl),
)

pub returns-clause-absolute : goal.returns-clause-absolute
returns-clause-absolute c = (
  whole_field_adds symbol_itself (λ v old. refl) (λ o. refl),
  field_adds symbol_itself unsigned (λ v old. refl) refl refl (λ o. refl),
  field_adds symbol_itself twos_complement (λ v old. refl) refl refl (λ o. refl),
  field_adds_within symbol_itself twos_complement (λ v old. refl) refl (λ o. refl),
  field_adds_within symbol_itself unsigned (λ v old. refl) refl (λ o. refl),
  field_adds_within symbol_itself twos_complement (λ v old. refl) refl (λ o. refl),
  field_adds_within symbol_itself unsigned (λ v old. refl) refl (λ o. refl),
  field_adds size_itself unsigned (λ v old. refl) refl refl (λ o. refl),
  whole_field_adds size_itself (λ v old. refl) (λ o. refl),
)

pub returns-clause-from_got : goal.returns-clause-from_got
returns-clause-from_got c = (
  field_adds entry_and_addend_from_got twos_complement (λ v old. refl) refl refl (λ o. refl),
  whole_field_adds entry_and_addend_from_got (λ v old. refl) (λ o. refl),
  whole_field_adds symbol_from_got (λ v old. refl) (λ o. refl),
  whole_field_adds plt_from_got (λ v old. refl) (λ o. refl),
)

pub returns-clause-thread : goal.returns-clause-thread
returns-clause-thread c = (
  field_adds symbol_from_tls twos_complement (λ v old. refl) refl refl (λ o. refl),
  field_adds symbol_from_tls twos_complement (λ v old. refl) refl refl (λ o. refl),
  whole_field_adds symbol_from_tls (λ v old. refl) (λ o. refl),
  whole_field_adds symbol_from_tls (λ v old. refl) (λ o. refl),
)
