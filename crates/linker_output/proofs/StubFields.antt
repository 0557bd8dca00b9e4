-- What the code of stubs is made of, as it is written.
use Rattle.linker_output.proofs.Imports.{AppliesAt, Architecture, Err, IfErr, IsCause, IsRow, IsValueCause, List, Ok, OnOk, Operands, Option, RejectsField, RejectsValue, RelocateError, Result, RowInfo, Some, StubField, WritesField, WritesRow, [], ap, append-nil, arith, drop, drop_all, drop_at, inl, inr, length, length-drop, length-take, offset_in, refl, subst, sym, take, take_all, take_at, value_of, ℕ, ℤ, ◌++◌, ◌+◌, ◌-◌, ◌∙◌, ◌≡◌}
use Rattle.linker_elf.specs.declared.elf.relocate.RelocateError.TheVariants.{OutOfReach}
use Rattle.linker_elf.specs.Elf.{IsAllowed}
use Rattle.linker_elf.specs.declared.elf.AllowedRange.{AllowedRange}

-- ---- a field

pub not_allowed : (range : AllowedRange) (row : RowInfo) (found : Option ℤ) (v : ℤ)
    (bytes : List ℕ) → found ≡ Some v → ¬ IsAllowed range v
    → IsValueCause range row found bytes OutOfReach
not_allowed range row found v bytes is not =
    subst (λ f. IsValueCause range row f bytes OutOfReach) (sym is) (inl (not, refl))

rejected : (range : AllowedRange) (row : RowInfo) (found : Option ℤ) (v : ℤ)
    (bytes : List ℕ) (error : RelocateError) → found ≡ Some v → IsAllowed range v
    → IsCause row v bytes error → IsValueCause range row found bytes error
rejected range row found v bytes error is allowed cause =
    subst (λ f. IsValueCause range row f bytes error) (sym is) (inr (allowed, cause))

-- the bytes from an offset on
from_there : (m : ℕ) (pair : List ℕ) → length pair ≡ 8 → take (8 - m) (drop m pair) ≡ drop m pair
from_there m pair len = take_all (8 - m) (drop m pair) (let e = length-drop m pair in omega arith)

none_after : (m : ℕ) (pair : List ℕ) → length pair ≡ 8 → drop (8 - m) (drop m pair) ≡ []
none_after m pair len = drop_all (8 - m) (drop m pair) (let e = length-drop m pair in omega arith)

applied_at : (field : StubField) (o : Operands) (pair after : List ℕ) (row : RowInfo)
    (v : ℤ) (m : ℕ) → m ≡ offset_in field → WritesRow row v (drop m pair) (drop m after)
    → value_of row o ≡ Some v → take m after ≡ take m pair → IsAllowed field.range v
    → AppliesAt field o pair after row
applied_at field o pair after row v m at w is_value kept allowed =
    let x : WritesRow row v (drop (offset_in field) pair) (drop (offset_in field) after) =
    subst (λ k. WritesRow row v (drop k pair) (drop k after)) at w in
    record {
      applied = record { value = v; value_is = is_value; accepted = x.accepted; written = x.written };
      kept = subst (λ k. take k after ≡ take k pair) at kept;
      within = allowed;
    }

module _ (architecture : Architecture) (field : StubField) (o : Operands) (pair bytes : List ℕ)
    (row : RowInfo) (v : ℤ) (m : ℕ) (at : m ≡ offset_in field) (len : length pair ≡ 8)
    (is_row : IsRow architecture field.relocation (Some row)) (is_value : value_of row o ≡ Some v)
    (allowed : IsAllowed field.range v) where
  after : List ℕ
  after = take m pair ++ (bytes ++ drop (8 - m) (drop m pair))

  front_len : length (take m pair) ≡ m
  front_len = length-take m pair ∙ omega (arith, at, len)

  kept : take m after ≡ take m pair
  unfolding after
  kept = take_at (take m pair) (bytes ++ drop (8 - m) (drop m pair)) m front_len

  there : drop m after ≡ bytes
  unfolding after
  there =
      drop_at (take m pair) (bytes ++ drop (8 - m) (drop m pair)) m front_len
      ∙ ap (λ b. bytes ++ b) (none_after m pair len) ∙ append-nil bytes

  pub field_written : (result : Result Unit RelocateError)
      → OnOk result (WritesRow row v (take (8 - m) (drop m pair)) bytes)
      → OnOk result (WritesField architecture field o pair
      (take m pair ++ (bytes ++ drop (8 - m) (drop m pair))))
  unfolding after
  field_written (Ok u) written =
      let w : WritesRow row v (drop m pair) (drop m after) =
      subst (λ b. WritesRow row v (drop m pair) b) (sym there)
      (subst (λ b. WritesRow row v b bytes) (from_there m pair len) written) in (
        row,
        is_row,
        applied_at field o pair after row v m at w is_value kept allowed,
      )
  field_written (Err error) written = tt

  pub field_rejected : (result : Result Unit RelocateError)
      → IfErr result (RejectsValue row v (take (8 - m) (drop m pair)) bytes)
      → IfErr result (RejectsField architecture field o pair)
  field_rejected (Ok u) why = tt
  field_rejected (Err error) why = (
    Some row,
    is_row,
    rejected field.range row (value_of row o) v (drop (offset_in field) pair) error is_value allowed
        (subst (λ k. IsCause row v (drop k pair) error) at
        (subst (λ b. IsCause row v b error) (from_there m pair len) (why.0))),
  )
