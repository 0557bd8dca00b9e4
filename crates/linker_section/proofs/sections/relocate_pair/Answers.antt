use Rattle.linker_section.proofs.Imports.{Addresses, Architecture, BeginsPair, FitsSigned, IsNumberOfPair, IsNumberWrittenAt, IsOutcome, IsPair, IsUlebCause, IsUlebWritten, IsValued, List, Ok, RowInfo, Values, ap, begins_pair, drop, ends_pair, inr, left_out, length, of_z, or_right, refl, relocation_in, rules, subst, sym, take, to_z, to_z-of_z, true, true≢false, w64, ℕ, ℤ, ◌++◌, ◌+◌, ◌∙◌, ◌≡◌, ◌≤◌}
use Rattle.linker_section.proofs.Rows.{one_info}
use Rattle.linker_section.proofs.sections.relocate_pair.Goals as goal

pub returns-in-Ok-None : goal.returns-in-Ok-None
returns-in-Ok-None g c =
    let a = c.args in
    let pair = c.requires.pair in
    let none = subst (IsOutcome a.architecture a.addresses.now a.relocations.now (g.S.Symbols.values a.symbols) (left_out (g.S.Symbols.knowledge a.symbols) a.relocations.now) (a.index + 1)) (c.in-Ok-None.is ∙ ap Ok c.in-Ok-None.field-0-is) c.row_value.ensures in
    absurd (true≢false (sym (or_right (begins_pair pair.other.size pair.other.kind) (ends_pair pair.other.size pair.other.kind) pair.ends)
    ∙ none.alone pair.other pair.is_other))

-- what makes a pair of the two relocations
pub pair_is : (architecture : Architecture) (addresses : Addresses) (bytes : List ℕ)
    (values : Values) (i : ℕ) (there : List ℕ) (value subtracted : ℤ)
    (other : RowInfo) (number : ℕ) → BeginsPair architecture bytes i
    → (row : RowInfo) × IsValued architecture addresses bytes values i row value
    → IsValued architecture addresses bytes values (i + 1) other subtracted
    → IsNumberOfPair other.kind there value subtracted number
    → IsPair architecture addresses bytes values i there number
pair_is architecture addresses bytes values i there value subtracted other number pair first has_subtracted numbered =
    record {
      same_offset = pair.same_offset;
      row = first.0;
      value = value;
      has_value = first.1;
      begins = subst (λ x. begins_pair x.size x.kind ≡ true) (one_info architecture _ pair.row (first.0) pair.is_row (first.1).is_row) pair.begins;
      other = other;
      subtracted = subtracted;
      has_subtracted = has_subtracted;
      ends = subst (λ x. ends_pair x.size x.kind ≡ true) (one_info architecture _ pair.other other pair.is_other has_subtracted.is_row) pair.ends;
      is_number = numbered;
    }

-- the number of the pair, over what is there
pub returns-in-Ok : goal.returns-in-Ok
returns-in-Ok g c =
    let a = c.args in
    let n = c.number_of_pair-number.result in
    let found = c.in-Ok-Some.found in
    let written = subst (IsNumberWrittenAt n a.second.now.offset a.section.now c.write_number_at.new.section) c.in-Ok.is c.write_number_at.ensures in
    let offset : a.second.now.offset ≡ (relocation_in a.relocations.now a.index).offset = ap (λ r. r.offset) c.requires.second ∙ c.requires.pair.same_offset in
    let has_other = subst (IsOutcome a.architecture a.addresses.now a.relocations.now (g.S.Symbols.values a.symbols) (left_out (g.S.Symbols.knowledge a.symbols) a.relocations.now) (a.index + 1)) (c.in-Ok-Some.is ∙ ap Ok c.in-Ok-Some.field-0-is) c.row_value.ensures in
    let kind : IsNumberOfPair found.0.kind (drop a.second.now.offset a.section.now) (to_z w64 (of_z w64 a.value)) (to_z w64 (of_z w64 (found.1))) n =
    subst (λ k. IsNumberOfPair k (drop a.second.now.offset a.section.now) (to_z w64 (of_z w64 a.value)) (to_z w64 (of_z w64 (found.1))) n) c.kind.ensures c.number_of_pair-number.ensures in
    let fits : FitsSigned w64 (found.1) = search rules in
    let numbered = subst (λ v. IsNumberOfPair found.0.kind (drop a.second.now.offset a.section.now) v (found.1) n) (to_z-of_z w64 a.value c.ranges.value)
    (subst (λ w. IsNumberOfPair found.0.kind (drop a.second.now.offset a.section.now) (to_z w64 (of_z w64 a.value)) w n) (to_z-of_z w64 (found.1) fits) kind) in
    record {
      inside = subst (λ o. o ≤ length a.section.now) offset (written.0);
      number = n;
      pair = pair_is a.architecture a.addresses.now a.relocations.now (g.S.Symbols.values a.symbols) a.index _ a.value _ _ n c.requires.pair c.requires.value has_other
          (subst (λ o. IsNumberOfPair found.0.kind (drop o a.section.now) a.value (found.1) n) offset numbered);
      rest = written.1;
      around = written.2 ∙ ap (λ o. take o a.section.now ++ written.1) offset;
      written = subst (λ o. IsUlebWritten (drop o a.section.now) n (written.1)) offset (written.3);
    }

pub returns-in-Err-write_number_at : goal.returns-in-Err-write_number_at
returns-in-Err-write_number_at g c =
    let a = c.args in
    let n = c.number_of_pair-number.result in
    let found = c.in-Ok-Some.found in
    let why = c.in-Err-write_number_at.error in
    let written = subst (IsNumberWrittenAt n a.second.now.offset a.section.now c.write_number_at.new.section) c.in-Err-write_number_at.is c.write_number_at.ensures in
    let offset : a.second.now.offset ≡ (relocation_in a.relocations.now a.index).offset = ap (λ r. r.offset) c.requires.second ∙ c.requires.pair.same_offset in
    let has_other = subst (IsOutcome a.architecture a.addresses.now a.relocations.now (g.S.Symbols.values a.symbols) (left_out (g.S.Symbols.knowledge a.symbols) a.relocations.now) (a.index + 1)) (c.in-Ok-Some.is ∙ ap Ok c.in-Ok-Some.field-0-is) c.row_value.ensures in
    let kind : IsNumberOfPair found.0.kind (drop a.second.now.offset a.section.now) (to_z w64 (of_z w64 a.value)) (to_z w64 (of_z w64 (found.1))) n =
    subst (λ k. IsNumberOfPair k (drop a.second.now.offset a.section.now) (to_z w64 (of_z w64 a.value)) (to_z w64 (of_z w64 (found.1))) n) c.kind.ensures c.number_of_pair-number.ensures in
    let fits : FitsSigned w64 (found.1) = search rules in
    let numbered = subst (λ v. IsNumberOfPair found.0.kind (drop a.second.now.offset a.section.now) v (found.1) n) (to_z-of_z w64 a.value c.ranges.value)
    (subst (λ w. IsNumberOfPair found.0.kind (drop a.second.now.offset a.section.now) (to_z w64 (of_z w64 a.value)) w n) (to_z-of_z w64 (found.1) fits) kind) in (
      written.1,
      inr (
        why,
        refl,
        record {
          number = n;
          pair = pair_is a.architecture a.addresses.now a.relocations.now (g.S.Symbols.values a.symbols) a.index _ a.value _ _ n c.requires.pair c.requires.value has_other
              (subst (λ o. IsNumberOfPair found.0.kind (drop o a.section.now) a.value (found.1) n) offset numbered);
          cause = subst (λ o. IsUlebCause (drop o a.section.now) n why) offset (written.0);
        },
      ),
    )
