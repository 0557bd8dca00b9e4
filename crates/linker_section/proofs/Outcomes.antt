-- What a call that relocates a section returns, by what it returns of one value after the other.
use Rattle.linker_section.proofs.Imports.{Addresses, Architecture, AreAllRelocatedBy, AreApart, AreWrittenBy, CanBeWrittenBy, Err, IfErr, IsFirstFaultBy, IsFirstRejectedBy, IsOk, List, Ok, OnOk, Result, SectionError, Values, length, refl, slice_index, sym, true≢false, ℕ, ◌/◌, ◌<◌, ◌↔◌}
use Rattle.linker_section.proofs.Exact.{AreUnique, no_fault}
use Rattle.linker_section.proofs.Faults.{first_fault}
use Rattle.linker_section.proofs.Fielded.{are_written}

module _ (architecture : Architecture) (addresses : Addresses) (bytes : List ℕ) (values : Values) (before after : List ℕ) where
  pub fields_of : ((j : ℕ) → slice_index before j < 256) → (result : Result Unit SectionError)
      → OnOk result (AreAllRelocatedBy architecture addresses bytes values before after)
      → OnOk result (AreWrittenBy architecture addresses bytes values before after)
  fields_of small (Ok u) all = are_written architecture addresses bytes values before after small all
  fields_of small (Err error) all = tt

  pub fault_of : (result : Result Unit SectionError)
      → IfErr result (IsFirstRejectedBy architecture addresses bytes values before)
      → IfErr result (IsFirstFaultBy architecture addresses bytes values before)
  fault_of (Ok u) rejected = tt
  fault_of (Err error) rejected = first_fault architecture addresses bytes values before error rejected

  -- exactly the sections succeed that can be written
  pub exact_of : (AreApart architecture bytes before (length bytes / 24) → AreUnique architecture addresses bytes values)
      → ((j : ℕ) → slice_index before j < 256) → (result : Result Unit SectionError)
      → OnOk result (AreAllRelocatedBy architecture addresses bytes values before after)
      → IfErr result (IsFirstRejectedBy architecture addresses bytes values before)
      → IsOk result ↔ CanBeWrittenBy architecture addresses bytes values before
  exact_of unique small (Ok u) all rejected =
      ((λ _. (are_written architecture addresses bytes values before after small all).can), (λ _. refl))
  exact_of unique small (Err error) all rejected =
      let fault = first_fault architecture addresses bytes values before error rejected in (
        (λ ok. absurd (true≢false (sym ok))),
        (λ can. absurd (no_fault architecture addresses bytes values before (unique can.apart) can error fault)),
      )
