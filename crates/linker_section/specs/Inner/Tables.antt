-- A table of symbols as what is known of each relocation's symbol, and the values by that.
use Rattle.std.specs.Prelude.{◌≡◌, ℕ, ℤ, ◌&&◌, Bool, true, false, not, if◌then◌else◌, List}
use Rattle.std.specs.Prelude.{Option, None, Some, Result, Ok, Err, option_map, refl, slice_get}
use Rattle.std.proofs.Common.{ap, subst, sym, ◌∙◌}
use Rattle.linker_section.specs.Imports.{Addresses, Architecture, IsRow, Rela, RowInfo, Symbol}
use Rattle.linker_section.specs.Imports.{ValueError, is_offset}
use Rattle.linker_section.specs.Conditions.{changes_toc_if, keeps_toc, lacks_stub}
use Rattle.linker_section.specs.Known.{IsLabelResolved, IsResolvedBy, IsResolvedIn}
use Rattle.linker_section.specs.Known.{IsResolvedUnless, Knowledge, Known, by_high}
use Rattle.linker_section.specs.Known.{by_known, is_skipped, known_operands, known_value}
use Rattle.linker_section.specs.Known.{lacks_known_stub, stubless, too_far, unfilled, valueless}
use Rattle.linker_section.specs.Known.{without}
use Rattle.linker_section.specs.Relocations.{relocation_in}
use Rattle.linker_section.specs.Sections.{IsRowValue, IsValueless, Outcome, by_index}
use Rattle.linker_section.specs.Values.{IsLowValue, IsValueBy, IsValueIn, entry_address, has_value}
use Rattle.linker_section.specs.Values.{is_defined, low_by, names_label, operands_in, own_value}
use Rattle.linker_section.specs.Values.{value_by}

abbrev pub known_symbol : Symbol → Known
known_symbol symbol = record {
  symbol = symbol;
  entry = λ addresses. entry_address addresses symbol;
  is_left_out = false;
}

abbrev pub known_in : List Symbol → Knowledge
known_in symbols i r = option_map known_symbol (slice_get symbols r.symbol)

operands_are : (architecture : Architecture) (addresses : Addresses) (row : RowInfo) (r : Rela)
    (symbol : Option Symbol)
    → known_operands architecture addresses row r (option_map known_symbol symbol)
    ≡ operands_in architecture addresses row r symbol
operands_are architecture addresses row r None = refl
operands_are architecture addresses row r (Some symbol) = refl

value_is : (architecture : Architecture) (addresses : Addresses) (row : RowInfo) (r : Rela)
    (symbol : Option Symbol)
    → known_value architecture addresses row r (option_map known_symbol symbol)
    ≡ (if has_value row.kind then
    value_by (is_offset row.kind && (not addresses.has_tls && is_defined symbol)) row
    (operands_in architecture addresses row r symbol)
    else Ok None)
value_is architecture addresses row r None = refl
value_is architecture addresses row r (Some symbol) = refl

pub own_value_is : (architecture : Architecture) (addresses : Addresses) (symbols : List Symbol)
    (row : RowInfo) (r : Rela) (i : ℕ)
    → known_value architecture addresses row r (known_in symbols i r)
    ≡ own_value architecture addresses symbols row r
own_value_is architecture addresses symbols row r i =
    value_is architecture addresses row r (slice_get symbols r.symbol)

low_is : (architecture : Architecture) (addresses : Addresses) (bytes : List ℕ)
    (symbols : List Symbol) (row : RowInfo) (label : Option Symbol)
    (result : Result (Option ℤ) ValueError)
    → IsLabelResolved architecture addresses bytes (known_in symbols) row
    (option_map known_symbol label) result
    → IsLowValue architecture addresses bytes symbols row label result
low_is architecture addresses bytes symbols row None result is = is
low_is architecture addresses bytes symbols row (Some label) result (without none is) =
    (None, none, is)
low_is architecture addresses bytes symbols row (Some label) result (by_high {r} {high} part is) = (
  Some (r, high),
  part,
  is ∙ ap (low_by row high)
      (operands_are architecture addresses high r (slice_get symbols r.symbol)),
)

pub value_by_is : (labelled : Bool) (architecture : Architecture) (addresses : Addresses)
    (bytes : List ℕ) (symbols : List Symbol) (row : RowInfo) (r : Rela) (i : ℕ)
    (result : Result (Option ℤ) ValueError)
    → IsResolvedBy labelled architecture addresses bytes (known_in symbols) row r
    (known_in symbols i r) result
    → IsValueBy labelled architecture addresses bytes symbols row r result
value_by_is true architecture addresses bytes symbols row r i result is =
    low_is architecture addresses bytes symbols row (slice_get symbols r.symbol) result is
value_by_is false architecture addresses bytes symbols row r i result is =
    is ∙ own_value_is architecture addresses symbols row r i

value_in : (architecture : Architecture) (addresses : Addresses) (bytes : List ℕ)
    (symbols : List Symbol) (i : ℕ) (row : Option RowInfo) (result : Result (Option ℤ) ValueError)
    → IsResolvedIn architecture addresses bytes (known_in symbols) i row result
    → IsValueIn architecture addresses bytes symbols (relocation_in bytes i) row result
value_in architecture addresses bytes symbols i None result is = is
value_in architecture addresses bytes symbols i (Some row) result is =
    value_by_is (names_label row.size row.kind) architecture addresses bytes symbols row
    (relocation_in bytes i) i result is

never_skipped : (row : Option RowInfo) (symbol : Option Symbol)
    → is_skipped row (option_map known_symbol symbol) ≡ false
never_skipped None symbol = refl
never_skipped (Some row) None = refl
never_skipped (Some row) (Some symbol) = refl

changes_is : (symbol : Option Symbol)
    → changes_toc_if (option_map (λ k. k.symbol) (option_map known_symbol symbol))
    ≡ changes_toc_if symbol
changes_is None = refl
changes_is (Some symbol) = refl

lacks_is : (architecture : Architecture) (symbols : List Symbol) (r : Rela)
    (i : ℕ) → lacks_known_stub architecture r (known_in symbols i r)
    ≡ lacks_stub architecture symbols r
lacks_is architecture symbols r i =
    ap (λ b. keeps_toc architecture r && b) (changes_is (slice_get symbols r.symbol))

outcome_is : (architecture : Architecture) (addresses : Addresses) (bytes : List ℕ)
    (symbols : List Symbol) (i : ℕ) (row : Option RowInfo) (outcome : Outcome)
    → IsRow architecture (relocation_in bytes i).r_type row
    → IsResolvedUnless false architecture addresses bytes (known_in symbols) i row outcome
    → IsRowValue architecture addresses bytes symbols (relocation_in bytes i) outcome
outcome_is architecture addresses bytes symbols i row (Ok (Some found)) is_row is =
    record {
      is_row = subst (IsRow architecture (relocation_in bytes i).r_type) is.is_row is_row;
      is_value = value_in architecture addresses bytes symbols i (Some (found.0)) (Ok (Some (found.1)))
          (subst (λ x. IsResolvedIn architecture addresses bytes (known_in symbols) i x (Ok (Some (found.1)))) is.is_row is.is_value);
      keeps_toc = sym (lacks_is architecture symbols (relocation_in bytes i) i) ∙ is.keeps;
      in_reach = is.in_reach;
    }
outcome_is architecture addresses bytes symbols i row (Ok None) is_row is =
    (row, is_row, value_in architecture addresses bytes symbols i row (Ok None) (is.0), is.1)
outcome_is architecture addresses bytes symbols i row (Err error) is_row (valueless is) =
    IsValueless.no_value (row, is_row, value_in architecture addresses bytes symbols i row (Err error) is)
outcome_is architecture addresses bytes symbols i row (Err _) is_row (unfilled is isnt) =
    IsValueless.not_filled (row, is_row, value_in architecture addresses bytes symbols i row (Ok None) is) isnt
outcome_is architecture addresses bytes symbols i row (Err _) is_row (stubless v is lacks) =
    IsValueless.no_stub (row, is_row, value_in architecture addresses bytes symbols i row (Ok (Some v)) is)
    (sym (lacks_is architecture symbols (relocation_in bytes i) i) ∙ lacks)
outcome_is architecture addresses bytes symbols i row (Err _) is_row (too_far v is isnt) =
    IsValueless.beyond (row, is_row, value_in architecture addresses bytes symbols i row (Ok (Some v)) is) isnt

-- a table's values are those by what is known of its symbols
pub by_index_is : (symbols : List Symbol) (architecture : Architecture) (addresses : Addresses)
    (bytes : List ℕ) (i : ℕ) (outcome : Outcome)
    → by_known (known_in symbols) architecture addresses bytes i outcome
    → by_index symbols architecture addresses bytes i outcome
by_index_is symbols architecture addresses bytes i outcome is =
    outcome_is architecture addresses bytes symbols i (is.0) outcome (is.1)
    (subst (λ b. IsResolvedUnless b architecture addresses bytes (known_in symbols) i (is.0) outcome)
    (never_skipped (is.0) (slice_get symbols (relocation_in bytes i).symbol)) (is.2))
