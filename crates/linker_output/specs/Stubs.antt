-- Stubs: the fields of their code have the values of relocations.
use Rattle.std.specs.Prelude.{◌≡◌, ◌++◌, List, length, take, drop, Option, Some, None, true, false}
use Rattle.std.specs.Prelude.{◌≤◌, ◌<◌, ◌+◌, ◌⊎◌, ℕ, ℤ, min, ◌^◌, ◌-◌, MatchOption, IsSomeAnd}
use Rattle.linker_elf.specs.Applied.{IsApplied}
use Rattle.linker_output.specs.Imports.{Architecture, IsAllowed, IsCause, IsRow, Operands}
use Rattle.linker_output.specs.Imports.{OutOfReach, RelocateError, RowInfo, StubError, StubField}
use Rattle.linker_output.specs.Imports.{Unsupported, sum_64, value_of}
use Rattle.linker_elf.specs.declared.elf.AllowedRange.{AllowedRange}
use Rattle.linker_output.specs.declared.stubs.StubError.TheVariants as errors

-- A stub's code: 8 bytes that have the fields, and what stands before and after them.
pub record StubCode : Type 0 where
  pub head : List ℕ
  pub pair : List ℕ
  pub first : StubField
  pub second : Option StubField
  pub tail : List ℕ
  -- where a call enters
  pub entry : ℕ
  -- where the address is that values are relative to
  pub origin : ℕ
  pub addend : ℤ

abbrev pub stub_len : StubCode → ℕ
stub_len stub = length stub.head + 8 + length stub.tail

-- the same as a number of 64 bits, the largest one if there are more
abbrev pub capped_len : StubCode → ℕ
capped_len stub = min (stub_len stub) (2 ^ 64 - 1)

-- S, L and the GOT entry are the target, and P and the TOC base are the origin
abbrev pub operands_of : StubCode → ℕ → ℕ → Operands
operands_of stub place target =
    record {
      symbol = target;
      addend = stub.addend;
      place = sum_64 place stub.origin;
      got_entry = target;
      got_base = sum_64 place stub.origin;
      plt_entry = target;
      symbol_size = 0;
      tls_base = 0;
      has_got_entry = true;
      has_plt_entry = false;
      has_tls_base = false;
    }

-- ---- a field

abbrev pub offset_in : StubField → ℕ
offset_in field = min field.offset 8

-- the relocation is applied at the field's offset, and what stands before it is left
pub record AppliesAt (field : StubField) (o : Operands) (before after : List ℕ)
    (row : RowInfo) : Type 0 where
  pub applied : IsApplied row o (drop (offset_in field) before) (drop (offset_in field) after)
  pub kept : take (offset_in field) after ≡ take (offset_in field) before
  pub within : IsAllowed field.range applied.value

abbrev pub WritesField : Architecture → StubField → Operands → List ℕ → List ℕ → Type 0
WritesField architecture field o before after =
    (row : RowInfo) × IsRow architecture field.relocation (Some row)
    × AppliesAt field o before after row

-- why a relocation with a row isn't applied: it has no value, or one that doesn't lead to the
-- target or is rejected
abbrev pub IsValueCause : AllowedRange → RowInfo → Option ℤ → List ℕ → RelocateError
    → Type 0
IsValueCause range row None bytes error = error ≡ Unsupported
IsValueCause range row (Some v) bytes error =
    (¬ IsAllowed range v × (error ≡ OutOfReach))
    ⊎ (IsAllowed range v × IsCause row v bytes error)

abbrev pub RejectsField : Architecture → StubField → Operands → List ℕ → RelocateError → Type 0
RejectsField architecture field o before error =
    (row : Option RowInfo) × IsRow architecture field.relocation row
    × MatchOption row (error ≡ Unsupported)
    (λ row. IsValueCause field.range row (value_of row o) (drop (offset_in field) before) error)

-- ---- both fields

abbrev pub WritesPair : Architecture → StubCode → Operands → List ℕ → Type 0
WritesPair architecture stub o pair =
    (half : List ℕ) × WritesField architecture stub.first o stub.pair half
    × MatchOption stub.second (pair ≡ half) (λ field. WritesField architecture field o half pair)

-- the first field that is rejected
abbrev pub RejectsPair : Architecture → StubCode → Operands → RelocateError → Type 0
RejectsPair architecture stub o error =
    RejectsField architecture stub.first o stub.pair error
    ⊎ ((half : List ℕ) × WritesField architecture stub.first o stub.pair half
    × IsSomeAnd stub.second (λ field. RejectsField architecture field o half error))

-- ---- a stub

-- the code of a stub at an address, to a target
abbrev pub IsStub : Architecture → StubCode → ℕ → ℕ → List ℕ → Type 0
IsStub architecture stub place target code =
    (pair : List ℕ) × (length pair ≡ 8)
    × WritesPair architecture stub (operands_of stub place target) pair
    × (code ≡ stub.head ++ (pair ++ stub.tail))

-- bytes begin with the code, and those after it are left
abbrev pub WritesStub : Architecture → Option StubCode → ℕ → ℕ → List ℕ → List ℕ → Type 0
WritesStub architecture stub place target before after =
    IsSomeAnd stub (λ s. (code : List ℕ) × IsStub architecture s place target code
    × (after ≡ code ++ drop (stub_len s) before))

-- why there is none, in n bytes
abbrev pub IsCauseOf : Architecture → StubCode → ℕ → ℕ → ℕ → StubError → Type 0
IsCauseOf architecture stub place target len errors.Missing = ⊥
IsCauseOf architecture stub place target len errors.TooShort = len < stub_len stub
IsCauseOf architecture stub place target len (errors.Field error) =
    (stub_len stub ≤ len) × RejectsPair architecture stub (operands_of stub place target) error

abbrev pub RejectsStub : Architecture → Option StubCode → ℕ → ℕ → List ℕ → StubError → Type 0
RejectsStub architecture stub place target out error =
    MatchOption stub (error ≡ errors.Missing)
    (λ s. IsCauseOf architecture s place target (length out) error)
