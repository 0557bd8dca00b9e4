use Rattle.linker_section.proofs.Imports.{Field, HasField, IfNone, IsField, IsInOrder, List, RelocationKind, RowInfo, ap, arith, clear_in, drop, false, field_end, field_len, field_of_row, has_value, inl, inr, is_of_pair, length, next_field, offset_at, refl, subst, sym, true, ℕ, ◌+◌, ◌∙◌, ◌≡◌, ◌≤◌}
use Rattle.linker_section.proofs.Rows.{one_info}
use Rattle.linker_section.proofs.Stepping.{alone_field, apart_next, field_valued, len_alone, mark_order, next_order, next_some, overlap_now}
use Rattle.linker_section.proofs.sections.leave_out.Goals.{In-Some}
use Rattle.linker_section.proofs.sections.leave_out.Goals as goal

-- a field by its parts
by_parts : (field : Field) (offset len : ℕ) (kind : RelocationKind) → offset ≡ field.offset
    → len ≡ field.len → kind ≡ field.kind
    → field ≡ record { offset = offset; len = len; kind = kind }
by_parts field offset len kind o l k =
    sym (ap (λ x. record { offset = x; len = len; kind = kind }) o
    ∙ (ap (λ x. record { offset = field.offset; len = x; kind = kind }) l
    ∙ ap (λ x. record { offset = field.offset; len = field.len; kind = x }) k))

-- what is known of the relocation's field
record Known (c : In-Some) : Type 0 where
  row : RowInfo
  has : HasField c.args.architecture c.args.relocations.now c.args.section.now c.args.index row c.in-Some.field
  valued : has_value row.kind ≡ true
  alone : is_of_pair row ≡ false
  field_is : c.in-Some.field ≡ field_of_row row (offset_at c.args.relocations.now c.args.index) c.args.section.now

-- the field ends where it did before all writes
same_end : (c : In-Some) (before : List ℕ) (row : RowInfo) → Known c
    → length c.args.section.now ≡ length before
    → IsField c.args.architecture c.args.relocations.now before c.args.index row
    → field_end c.args.relocations.now before c.args.index row ≡ c.in-Some.field.offset + c.in-Some.field.len
same_end c before row w same is_field =
    let a = c.args in
    let o = offset_at a.relocations.now a.index in
    let one = one_info a.architecture _ row w.row is_field.is_row w.has.is_field.is_row in
    let offset = w.has.offset_is in
    let end = w.has.end_is in
    omega (arith, offset, end, (len_alone w.row (drop o a.section.now) w.valued w.alone), (ap (λ x. field_len x (drop o before)) one ∙ len_alone w.row (drop o before) w.valued w.alone))

known : (c : In-Some) → Known c
known c =
    let a = c.args in
    let o = offset_at a.relocations.now a.index in
    let found = c.in-Some.ensures.found in
    let row = found.0 in
    let has = found.1 in
    let offset = has.offset_is in
    let len : field_len row (drop o a.section.now) ≡ c.in-Some.field.len = omega (arith, offset, has.end_is) in
    record {
      row = row;
      has = has;
      valued = field_valued a.architecture a.relocations.now a.section.now a.index row has.is_field;
      alone = c.requires.alone row has.is_field.is_row;
      field_is = by_parts c.in-Some.field o _ row.kind offset len has.kind_is;
    }

pub returns-in_default : goal.returns-in_default
returns-in_default c before is_limit order same =
    let a = c.args in
    let bytes = a.relocations.now in
    let none : (row : RowInfo) → IsField a.architecture bytes a.section.now a.index row → ⊥ =
    subst (λ x. IfNone x ((row : RowInfo) → IsField a.architecture bytes a.section.now a.index row → ⊥)) c.in_default.is c.field_in.ensures.none in
    let fieldless : (row : RowInfo) → IsField a.architecture bytes before a.index row → ⊥ =
    λ row is_field. none row (alone_field a.architecture bytes before a.section.now a.index row (c.requires.alone row is_field.is_row) is_field) in (
      refl,
      mark_order a.limit a.architecture bytes before a.section.now a.index a.last is_limit order c.requires.within c.requires.alone fieldless,
      (λ row is_field. absurd (fieldless row is_field)),
    )

pub is_clear-requires : goal.is_clear-requires
is_clear-requires c =
    subst (λ f. IfNone c.args.limit (c.args.last.offset ≤ f.offset)) (sym (known (goal.at.is_clear-requires c).In-Some).field_is) c.requires.after

pub returns-then-not-is_clear : goal.returns-then-not-is_clear
returns-then-not-is_clear c before is_limit order same =
    let w = known (goal.at.returns-then-not-is_clear c).In-Some in
    let a = c.args in
    let unclear = ap (λ f. clear_in a.limit a.index f a.last) (sym w.field_is) ∙ (sym c.is_clear.ensures ∙ c.if-not-is_clear.true) in
    inl (refl, overlap_now a.limit a.architecture a.relocations.now before a.section.now a.index a.last w.row is_limit order c.requires.within c.requires.after same w.has.is_field.is_row w.valued unclear)

pub returns-then-not-is_within : goal.returns-then-not-is_within
returns-then-not-is_within c before is_limit order same =
    let w = known (goal.at.returns-then-not-is_within c).In-Some in
    let a = c.args in
    let clear = ap (λ f. clear_in a.limit a.index f a.last) (sym w.field_is) ∙ (sym c.is_clear.ensures ∙ c.if-not-is_clear.false) in
    let is_field = alone_field a.architecture a.relocations.now a.section.now before a.index w.row w.alone w.has.is_field in
    inr (
      refl,
      apart_next a.limit a.architecture a.relocations.now before a.section.now a.index a.last w.row is_limit order c.requires.within c.requires.after same w.has.is_field.is_row w.valued clear,
      w.row,
      is_field,
      omega (arith, (c.is_within.ensures.no c.if-not-is_within.true), (same_end (goal.at.returns-then-not-is_within c).In-Some before w.row w same is_field), same),
    )

pub returns : goal.returns
returns c before is_limit order same =
    let w = known (goal.at.returns c).In-Some in
    let a = c.args in
    let bytes = a.relocations.now in
    let o = offset_at bytes a.index in
    let clear = ap (λ f. clear_in a.limit a.index f a.last) (sym w.field_is) ∙ (sym c.is_clear.ensures ∙ c.if-not-is_clear.false) in
    let within = c.is_within.ensures.yes c.if-not-is_within.false in
    let next : next_field (field_of_row w.row o a.section.now) a.last ≡ c.in-Some.field =
    next_some (field_of_row w.row o a.section.now) a.last w.has.is_field.some ∙ sym w.field_is in (
      refl,
      subst (IsInOrder a.limit a.architecture bytes before a.section.now (a.index + 1)) next
          (next_order a.limit a.architecture bytes before a.section.now a.section.now a.index a.last w.row is_limit order c.requires.within c.requires.after same w.has.is_field.is_row w.valued w.alone
          (omega (arith, within, w.has.offset_is, (len_alone w.row (drop o a.section.now) w.valued w.alone), w.has.end_is)) (λ offset window. refl) clear),
      (λ row is_field.
          omega (arith, within, (same_end (goal.at.returns c).In-Some before row w same is_field), same)),
    )
