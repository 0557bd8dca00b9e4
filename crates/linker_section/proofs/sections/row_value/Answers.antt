use Rattle.linker_section.proofs.Imports.{Addresses, Architecture, Err, FitsSigned, IsInReach, IsOutcome, IsResolvedBy, IsResolvedIn, IsResolvedUnless, IsRow, IsUnresolved, List, NeedsStub, None, NotAligned, Ok, Outcome, Some, UnknownType, ap, by_known, false, is_filled, is_skipped, lacks_known_stub, left_out, names_label, of_z, option_map, refl, relocation_in, rules, subst, sym, to_z, to_z-of_z, true, true≢false, w64, ℕ, ◌∙◌, ◌≡◌}
use Rattle.linker_section.specs.declared.values.ValueError.TheVariants as value_errors
use Rattle.linker_section.proofs.ResolvedValues.{known_outcome}
use Rattle.linker_section.proofs.RowFacts.{says}
use Rattle.linker_section.proofs.sections.row_value.Given.{Over}
use Rattle.linker_section.proofs.sections.row_value.Goals.{After-value_of}
use Rattle.linker_section.proofs.sections.row_value.Goals as goal

-- what is found by what is known is found
outcome : (g : Over) (architecture : Architecture) (addresses : Addresses) (bytes : List ℕ)
    (symbols : g.row.S.Denot) (i : ℕ) (x : Outcome)
    → by_known (g.S.Symbols.knowledge symbols) architecture addresses bytes i x
    → IsOutcome architecture addresses bytes (g.S.Symbols.values symbols) (left_out (g.S.Symbols.knowledge symbols) bytes) i x
outcome g architecture addresses bytes symbols i x is =
    known_outcome architecture addresses bytes (g.S.Symbols.knowledge symbols) i x (g.S.Symbols.values symbols)
    (g.met.S.Symbols.are_values symbols architecture addresses bytes i) is

pub returns-in_default : goal.returns-in_default
returns-in_default g c =
    let a = c.args in
    let is_row = subst (λ r. IsRow a.architecture r.r_type None) c.requires.is
    (subst (IsRow a.architecture a.relocation.now.r_type) c.in_default.is c.row.ensures) in
    outcome g a.architecture a.addresses.now a.relocations.now a.symbols a.index (Err UnknownType) (None, is_row, IsUnresolved.valueless refl)

pub returns-then-is_skipped : goal.returns-then-is_skipped
returns-then-is_skipped g c =
    let a = c.args in
    let bytes = a.relocations.now in
    let row = c.in-Some.row in
    let knowledge = g.S.Symbols.knowledge a.symbols in
    let is_row = subst (λ x. IsRow a.architecture x.r_type (Some row)) c.requires.is
    (subst (IsRow a.architecture a.relocation.now.r_type) c.in-Some.is c.row.ensures) in
    let skipped : is_skipped (Some row) (knowledge a.index (relocation_in bytes a.index)) ≡ true =
    ap (is_skipped (Some row)) (sym (c.find-known.ensures ∙ ap (knowledge a.index) c.requires.is)) ∙ (sym c.is_skipped.ensures ∙ c.if-is_skipped.true) in
    outcome g a.architecture a.addresses.now a.relocations.now a.symbols a.index (Ok None) (
      Some row,
      is_row,
      subst (λ b. IsResolvedUnless b a.architecture a.addresses.now bytes knowledge a.index (Some row) (Ok None)) (sym skipped) refl,
    )

-- what is known of one that isn't left out
record IsKept (g : Over) (c : After-value_of g) : Type 0 where
  is_row : IsRow c.args.architecture (relocation_in c.args.relocations.now c.args.index).r_type (Some c.in-Some.row)
  known_is : option_map g.S.Found.Known.known c.find-known.result ≡ g.S.Symbols.knowledge c.args.symbols c.args.index (relocation_in c.args.relocations.now c.args.index)
  isnt : is_skipped (Some c.in-Some.row) (g.S.Symbols.knowledge c.args.symbols c.args.index (relocation_in c.args.relocations.now c.args.index)) ≡ false
  value : IsResolvedIn c.args.architecture c.args.addresses.now c.args.relocations.now (g.S.Symbols.knowledge c.args.symbols) c.args.index (Some c.in-Some.row) c.value_of.result

kept : (g : Over) (c : After-value_of g) → IsKept g c
kept g c =
    let a = c.args in
    let bytes = a.relocations.now in
    let row = c.in-Some.row in
    let knowledge = g.S.Symbols.knowledge a.symbols in
    let is = c.find-known.ensures ∙ ap (knowledge a.index) c.requires.is in
    record {
      is_row = subst (λ x. IsRow a.architecture x.r_type (Some row)) c.requires.is
          (subst (IsRow a.architecture a.relocation.now.r_type) c.in-Some.is c.row.ensures);
      known_is = is;
      isnt = ap (is_skipped (Some row)) (sym is) ∙ (sym c.is_skipped.ensures ∙ c.if-is_skipped.false);
      value = subst (λ r. IsResolvedBy (names_label row.size row.kind) a.architecture a.addresses.now bytes knowledge row r (knowledge a.index (relocation_in bytes a.index)) c.value_of.result) c.requires.is
          (subst (λ x. IsResolvedBy (names_label row.size row.kind) a.architecture a.addresses.now bytes knowledge row a.relocation.now x c.value_of.result) is c.value_of.ensures);
    }

pub value_of-requires : goal.value_of-requires
value_of-requires g c =
    let a = c.args in
    says a.architecture a.relocation.now.r_type c.in-Some.row
    (subst (IsRow a.architecture a.relocation.now.r_type) c.in-Some.is c.row.ensures)

-- an outcome of one that isn't left out
unless : (g : Over) (c : After-value_of g) (x : Outcome)
    → IsResolvedUnless false c.args.architecture c.args.addresses.now c.args.relocations.now (g.S.Symbols.knowledge c.args.symbols) c.args.index (Some c.in-Some.row) x
    → IsOutcome c.args.architecture c.args.addresses.now c.args.relocations.now (g.S.Symbols.values c.args.symbols) (left_out (g.S.Symbols.knowledge c.args.symbols) c.args.relocations.now) c.args.index x
unless g c x is =
    let w = kept g c in
    let a = c.args in
    outcome g a.architecture a.addresses.now a.relocations.now a.symbols a.index x (
      Some c.in-Some.row,
      w.is_row,
      subst (λ b. IsResolvedUnless b a.architecture a.addresses.now a.relocations.now (g.S.Symbols.knowledge a.symbols) a.index (Some c.in-Some.row) x) (sym w.isnt) is,
    )

-- whether it lacks a stub
stub_is : (g : Over) (c : After-value_of g)
    → lacks_known_stub c.args.architecture c.args.relocation.now (option_map g.S.Found.Known.known c.find-known.result)
    ≡ lacks_known_stub c.args.architecture (relocation_in c.args.relocations.now c.args.index) (g.S.Symbols.knowledge c.args.symbols c.args.index (relocation_in c.args.relocations.now c.args.index))
stub_is g c =
    ap (λ x. lacks_known_stub c.args.architecture x (option_map g.S.Found.Known.known c.find-known.result)) c.requires.is
    ∙ ap (lacks_known_stub c.args.architecture (relocation_in c.args.relocations.now c.args.index)) (kept g c).known_is

pub returns-then-lacks_stub : goal.returns-then-lacks_stub
returns-then-lacks_stub g c =
    let here = (goal.at.returns-then-lacks_stub g c).After-value_of in
    let a = c.args in
    let knowledge = g.S.Symbols.knowledge a.symbols in
    unless g here (Err NeedsStub) (IsUnresolved.stubless c.in-Ok-Some.value
    (subst (IsResolvedIn a.architecture a.addresses.now a.relocations.now knowledge a.index (Some c.in-Some.row)) (c.in-Ok-Some.is ∙ ap Ok c.in-Ok-Some.field-0-is) (kept g here).value)
    (sym (stub_is g here) ∙ (sym c.lacks_stub.ensures ∙ c.if-lacks_stub.true)))

pub returns-then-not-is_in_reach : goal.returns-then-not-is_in_reach
returns-then-not-is_in_reach g c =
    let here = (goal.at.returns-then-not-is_in_reach g c).After-value_of in
    let a = c.args in
    let bytes = a.relocations.now in
    let knowledge = g.S.Symbols.knowledge a.symbols in
    let v = c.in-Ok-Some.value in
    let fits : FitsSigned w64 v = search rules in
    unless g here (Err value_errors.OutOfReach) (IsUnresolved.too_far v
    (subst (IsResolvedIn a.architecture a.addresses.now bytes knowledge a.index (Some c.in-Some.row)) (c.in-Ok-Some.is ∙ ap Ok c.in-Ok-Some.field-0-is) (kept g here).value)
    (λ reaches. true≢false (sym ((c.is_in_reach.ensures).1 (subst (λ r. IsInReach a.architecture bytes r (to_z w64 (of_z w64 v))) (sym c.requires.is)
    (subst (IsInReach a.architecture bytes (relocation_in bytes a.index)) (sym (to_z-of_z w64 v fits)) reaches))) ∙ c.if-not-is_in_reach.true)))

pub returns-else-not-is_in_reach : goal.returns-else-not-is_in_reach
returns-else-not-is_in_reach g c =
    let here = (goal.at.returns-else-not-is_in_reach g c).After-value_of in
    let a = c.args in
    let bytes = a.relocations.now in
    let knowledge = g.S.Symbols.knowledge a.symbols in
    let row = c.in-Some.row in
    let v = c.in-Ok-Some.value in
    let fits : FitsSigned w64 v = search rules in
    subst (λ x. IsOutcome a.architecture a.addresses.now bytes (g.S.Symbols.values a.symbols) (left_out knowledge bytes) a.index (Ok (Some (row, x)))) (sym (to_z-of_z w64 v fits))
    (unless g here (Ok (Some (row, v))) (record {
      is_row = refl;
      is_value = subst (IsResolvedIn a.architecture a.addresses.now bytes knowledge a.index (Some row)) (c.in-Ok-Some.is ∙ ap Ok c.in-Ok-Some.field-0-is) (kept g here).value;
      keeps = sym (stub_is g here) ∙ (sym c.lacks_stub.ensures ∙ c.if-lacks_stub.false);
      in_reach = subst (IsInReach a.architecture bytes (relocation_in bytes a.index)) (to_z-of_z w64 v fits)
          (subst (λ r. IsInReach a.architecture bytes r (to_z w64 (of_z w64 v))) c.requires.is ((c.is_in_reach.ensures).0 c.if-not-is_in_reach.false));
    }))

pub returns-then-is_filled : goal.returns-then-is_filled
returns-then-is_filled g c =
    let here = (goal.at.returns-then-is_filled g c).After-value_of in
    let a = c.args in
    let knowledge = g.S.Symbols.knowledge a.symbols in
    unless g here (Ok None) (
      subst (IsResolvedIn a.architecture a.addresses.now a.relocations.now knowledge a.index (Some c.in-Some.row)) (c.in-Ok-None.is ∙ ap Ok c.in-Ok-None.field-0-is) (kept g here).value,
      ap (is_filled a.architecture a.addresses.now) (sym c.requires.is) ∙ (sym c.is_filled.ensures ∙ c.if-is_filled.true),
    )

pub returns-else-is_filled : goal.returns-else-is_filled
returns-else-is_filled g c =
    let here = (goal.at.returns-else-is_filled g c).After-value_of in
    let a = c.args in
    let knowledge = g.S.Symbols.knowledge a.symbols in
    unless g here (Err NotAligned) (IsUnresolved.unfilled
    (subst (IsResolvedIn a.architecture a.addresses.now a.relocations.now knowledge a.index (Some c.in-Some.row)) (c.in-Ok-None.is ∙ ap Ok c.in-Ok-None.field-0-is) (kept g here).value)
    (ap (is_filled a.architecture a.addresses.now) (sym c.requires.is) ∙ (sym c.is_filled.ensures ∙ c.if-is_filled.false)))

pub returns-in-Err : goal.returns-in-Err
returns-in-Err g c =
    let here = (goal.at.returns-in-Err g c).After-value_of in
    let a = c.args in
    unless g here (Err c.in-Err.error) (IsUnresolved.valueless
    (subst (IsResolvedIn a.architecture a.addresses.now a.relocations.now (g.S.Symbols.knowledge a.symbols) a.index (Some c.in-Some.row)) c.in-Err.is (kept g here).value))
