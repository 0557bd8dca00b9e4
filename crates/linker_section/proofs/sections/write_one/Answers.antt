use Rattle.linker_section.proofs.Imports.{AreRelocated, AreWrittenBelow, BeginsPair, Err, FitsSigned, HasLength, IfNone, IfSome, IsFirstRejectedBy, IsInOrder, IsInside, IsOutcome, IsPairOutcome, IsSavedAt, IsStopped, IsUnvalued, IsValued, IsWrittenAt, List, Ok, OtherLength, Overlaps, Reached, Value, Write, ap, arith, clear_in, field_of_row, has_value, inl, inr, left_out, length, next_field, of_z, offset_at, refl, relocation_in, rules, set, subst, sum_64, sym, to_z, to_z-of_z, true, true≢false, w64, ℕ, ◌+◌, ◌<◌, ◌^◌, ◌∙◌, ◌≡◌, ◌≤◌}
use Rattle.linker_section.proofs.Lengths.{length_of, other_length}
use Rattle.linker_section.proofs.Local.{pair_local}
use Rattle.linker_section.proofs.Stepping.{left_step, mark_order, no_field, mark_restores, one_order, one_restores, pair_order, pair_restores, apart_now, apart_next, overlap_now, stop, stop_at, set_above}
use Rattle.linker_section.proofs.sections.write_one.Goals.{After-field_at-field, After-or-last, In-Ok-None}
use Rattle.linker_section.proofs.sections.write_one.Given.{Over}
use Rattle.linker_section.proofs.sections.write_one.Goals as goal

-- what is known of the row, the value and the field that were found
record Known (g : Over) (c : After-field_at-field g) : Type 0 where
  has : IsValued c.args.architecture c.args.addresses.now c.args.relocations.now (g.S.Symbols.values c.args.symbols) c.args.index (c.in-Ok-Some.found.0) (c.in-Ok-Some.found.1)
  some : has_value (c.in-Ok-Some.found.0).kind ≡ true
  fits : FitsSigned w64 (c.in-Ok-Some.found.1)
  field_is : c.field_at-field.result ≡ field_of_row (c.in-Ok-Some.found.0) (offset_at c.args.relocations.now c.args.index) c.args.section.now

known : (g : Over) (c : After-field_at-field g) → Known g c
known g c =
    let a = c.args in
    let bytes = a.relocations.now in
    let row = c.in-Ok-Some.found.0 in
    let has : IsValued a.architecture a.addresses.now bytes (g.S.Symbols.values a.symbols) a.index row c.in-Ok-Some.found.1 =
    subst (IsOutcome a.architecture a.addresses.now bytes (g.S.Symbols.values a.symbols) (left_out (g.S.Symbols.knowledge a.symbols) bytes) a.index) (c.in-Ok-Some.is ∙ ap Ok c.in-Ok-Some.field-0-is) c.row_value.ensures in
    record {
      has = has;
      some = has.valued;
      fits = search rules;
      field_is = c.field_at-field.ensures ∙ ap (λ r. field_of_row row r.offset a.section.now) c.relocation_in-relocation.ensures;
    }

clear : (g : Over) (c : After-or-last g) → clear_in c.args.limit c.args.index (field_of_row (c.in-Ok-Some.found.0) (offset_at c.args.relocations.now c.args.index) c.args.section.now) c.args.last ≡ true
clear g c =
    ap (λ f. clear_in c.args.limit c.args.index f c.args.last) (sym (known g (goal.at.After-or-last g c).After-field_at-field).field_is)
    ∙ (sym c.is_clear.ensures ∙ c.if-not-is_clear.false)

-- nothing is written of a relocation without a value
unvalued : (g : Over) (c : In-Ok-None g) → IsUnvalued c.args.architecture c.args.addresses.now c.args.relocations.now (g.S.Symbols.values c.args.symbols) (left_out (g.S.Symbols.knowledge c.args.symbols) c.args.relocations.now) c.args.index
unvalued g c =
    let a = c.args in
    subst (IsOutcome a.architecture a.addresses.now a.relocations.now (g.S.Symbols.values a.symbols) (left_out (g.S.Symbols.knowledge a.symbols) a.relocations.now) a.index) (c.in-Ok-None.is ∙ ap Ok c.in-Ok-None.field-0-is) c.row_value.ensures

record IsPassed (g : Over) (c : In-Ok-None g) (before : List ℕ) : Type 0 where
  below : AreWrittenBelow c.args.architecture c.args.addresses.now c.args.relocations.now (g.S.Symbols.values c.args.symbols) before c.args.section.now (set c.args.memory.now c.args.index c.word_at.result) (c.args.index + 1)

passed : (g : Over) (c : In-Ok-None g) (before : List ℕ)
    → Reached c.args.architecture c.args.addresses.now c.args.relocations.now (g.S.Symbols.values c.args.symbols) c.args.limit before c.args.section.now c.args.memory.now c.args.index c.args.last
    → IsInside c.args.architecture c.args.relocations.now before c.args.index
    → IsPassed g c before
passed g c before inv inside =
    let a = c.args in
    let there = c.requires.within in
    let room = c.requires.room in
    let saved = subst (λ r. IsSavedAt r.offset a.section.now c.word_at.result) c.relocation_in-relocation.ensures c.word_at.ensures in
    let none = unvalued g c in
    record {
      below = record {
        within = omega (arith, there);
        relocated = AreRelocated.mark inv.below.relocated none.is_value inside;
        restores = mark_restores a.architecture a.relocations.now a.memory.now before a.section.now a.index c.word_at.result none.row (omega (arith, there, room)) none.is_row none.alone saved inv.below.restores;
        same_length = inv.below.same_length;
      };
    }

pub leave_out-requires-clause-alone : goal.leave_out-requires-clause-alone
leave_out-requires-clause-alone g c = (unvalued g (goal.at.leave_out-requires-clause-alone g c).In-Ok-None).alone

-- of one that is left out
pub returns-then-is_left_out-clause-step : goal.returns-then-is_left_out-clause-step
returns-then-is_left_out-clause-step g c before inv =
    let a = c.args in
    let n = (goal.at.returns-then-is_left_out-clause-step g c).In-Ok-None in
    left_step a.limit a.architecture a.addresses.now a.relocations.now before a.section.now a.memory.now (g.S.Symbols.values a.symbols) a.index c.word_at.result a.last c.leave_out.result
    inv (unvalued g n).is_value (λ inside. (passed g n before inv inside).below) c.requires.within
    (c.leave_out.ensures before inv.is_limit inv.order inv.below.same_length)

pub returns-in-Ok-None-clause-step : goal.returns-in-Ok-None-clause-step
returns-in-Ok-None-clause-step g c before inv =
    let a = c.args in
    let i = a.index in
    let bytes = a.relocations.now in
    let n = (goal.at.returns-in-Ok-None-clause-step g c).In-Ok-None in
    let none = unvalued g n in
    let valueless = none.none (sym c.is_left_out.ensures ∙ c.if-is_left_out.false) in (
      (omega arith),
      record {
        is_limit = inv.is_limit;
        below = (passed g n before inv (λ row is_field. absurd (no_field a.architecture bytes before i row valueless is_field))).below;
        order = mark_order a.limit a.architecture bytes before a.section.now i a.last inv.is_limit inv.order c.requires.within none.alone
            (λ row. no_field a.architecture bytes before i row valueless);
      },
    )

pub is_clear-requires : goal.is_clear-requires
is_clear-requires g c =
    subst (λ f. IfNone c.args.limit (c.args.last.offset ≤ f.offset)) (sym (known g (goal.at.is_clear-requires g c).After-field_at-field).field_is)
    c.requires.after

pub returns-clause-step : goal.returns-clause-step
returns-clause-step g c before inv =
    let w = known g (goal.at.returns-clause-step g c).After-field_at-field in
    let a = c.args in
    let i = a.index in
    let bytes = a.relocations.now in
    let section = a.section.now in
    let after = c.write_at.new.section in
    let there = c.requires.within in
    let same = c.relocation_in-relocation.ensures in
    let saved = subst (λ r. IsSavedAt r.offset section c.word_at.result) same c.word_at.ensures in
    let row = c.in-Ok-Some.found.0 in
    let value = c.in-Ok-Some.found.1 in
    let written = subst (λ v. IsWrittenAt row v (offset_at bytes i) section after (Ok tt)) (to_z-of_z w64 value w.fits)
    (subst (λ r. IsWrittenAt row (to_z w64 (of_z w64 value)) r.offset section after (Ok tt)) same
    (subst (IsWrittenAt row (to_z w64 (of_z w64 value)) c.relocation_in-relocation.result.offset section after) c.in_default-write_at.is c.write_at.ensures)) in (
      (omega arith),
      record {
        is_limit = inv.is_limit;
        below = record {
          within = omega (arith, there);
          relocated = AreRelocated.one inv.below.relocated w.has written;
          restores = one_restores a.architecture bytes a.memory.now before section after i c.word_at.result row value (omega (arith, there, c.requires.room)) w.has.is_row written saved inv.below.restores;
          same_length = written.same_length ∙ inv.below.same_length;
        };
        order = subst (IsInOrder a.limit a.architecture bytes before after (i + 1)) (sym (c.or-last.ensures ∙ ap (λ f. next_field f a.last) w.field_is))
            (one_order a.limit a.architecture bytes before section after i a.last row value inv.is_limit inv.order there c.requires.after inv.below.same_length w.has.is_row w.some (clear g (goal.at.returns-clause-step g c).After-or-last) written);
      },
    )

pub returns-in-Err-clause-step : goal.returns-in-Err-clause-step
returns-in-Err-clause-step g c before inv =
    let a = c.args in
    let bytes = a.relocations.now in
    let why = c.in-Err.error in
    let value = subst (IsOutcome a.architecture a.addresses.now bytes (g.S.Symbols.values a.symbols) (left_out (g.S.Symbols.knowledge a.symbols) bytes) a.index) c.in-Err.is c.row_value.ensures in
    stop_at a.limit a.architecture a.addresses.now bytes before a.section.now a.memory.now (g.S.Symbols.values a.symbols) a.index c.word_at.result a.last (Value why) inv c.requires.within value

pub returns-then-not-is_clear-clause-step : goal.returns-then-not-is_clear-clause-step
returns-then-not-is_clear-clause-step g c before inv =
    let w = known g (goal.at.returns-then-not-is_clear-clause-step g c).After-field_at-field in
    let a = c.args in
    let bytes = a.relocations.now in
    let unclear = ap (λ f. clear_in a.limit a.index f a.last) (sym w.field_is) ∙ (sym c.is_clear.ensures ∙ c.if-not-is_clear.true) in
    stop_at a.limit a.architecture a.addresses.now bytes before a.section.now a.memory.now (g.S.Symbols.values a.symbols) a.index c.word_at.result a.last Overlaps inv c.requires.within
    (overlap_now a.limit a.architecture bytes before a.section.now a.index a.last (c.in-Ok-Some.found.0) inv.is_limit inv.order c.requires.within c.requires.after inv.below.same_length w.has.is_row w.some unclear)

pub relocate_pair-requires-clause-value : goal.relocate_pair-requires-clause-value
relocate_pair-requires-clause-value g c =
    let w = known g (goal.at.relocate_pair-requires-clause-value g c).After-field_at-field in
    let a = c.args in
    let row = c.in-Ok-Some.found.0 in
    (row, subst (IsValued a.architecture a.addresses.now a.relocations.now (g.S.Symbols.values a.symbols) a.index row) (sym (to_z-of_z w64 (c.in-Ok-Some.found.1) w.fits)) w.has)

pub write_at-requires : goal.write_at-requires
write_at-requires g c =
    length_of (c.in-Ok-Some.found.0) c.relocation_in-relocation.result.offset c.args.section.now c.has_length.result c.has_length.ensures c.if-not-has_length.false

pub returns-then-not-has_length-clause-step : goal.returns-then-not-has_length-clause-step
returns-then-not-has_length-clause-step g c before inv =
    let w = known g (goal.at.returns-then-not-has_length-clause-step g c).After-field_at-field in
    let a = c.args in
    let bytes = a.relocations.now in
    let section = a.section.now in
    let row = c.in-Ok-Some.found.0 in
    stop_at a.limit a.architecture a.addresses.now bytes before section a.memory.now (g.S.Symbols.values a.symbols) a.index c.word_at.result a.last OtherLength inv c.requires.within (
      apart_next a.limit a.architecture bytes before section a.index a.last row inv.is_limit inv.order c.requires.within c.requires.after inv.below.same_length w.has.is_row w.some (clear g (goal.at.returns-then-not-has_length-clause-step g c).After-or-last),
      other_length a.architecture a.addresses.now bytes (g.S.Symbols.values a.symbols) a.index section row (c.in-Ok-Some.found.1) w.has
          (λ shown. true≢false (sym ((c.has_length.ensures).1 (subst (λ r. HasLength row r.offset section) (sym c.relocation_in-relocation.ensures) shown)) ∙ c.if-not-has_length.true)),
    )

pub returns-in-Err-write_at-clause-step : goal.returns-in-Err-write_at-clause-step
returns-in-Err-write_at-clause-step g c before inv =
    let w = known g (goal.at.returns-in-Err-write_at-clause-step g c).After-field_at-field in
    let a = c.args in
    let i = a.index in
    let bytes = a.relocations.now in
    let section = a.section.now in
    let after = c.write_at.new.section in
    let same = c.relocation_in-relocation.ensures in
    let row = c.in-Ok-Some.found.0 in
    let value = c.in-Ok-Some.found.1 in
    let why = c.in-Err-write_at.error in
    let shown : HasLength row (offset_at bytes i) section =
    subst (λ r. HasLength row r.offset section) same (length_of row c.relocation_in-relocation.result.offset section c.has_length.result c.has_length.ensures c.if-not-has_length.false) in
    let rejected = subst (λ v. IsWrittenAt row v (offset_at bytes i) section after (Err why)) (to_z-of_z w64 value w.fits)
    (subst (λ r. IsWrittenAt row (to_z w64 (of_z w64 value)) r.offset section after (Err why)) same
    (subst (IsWrittenAt row (to_z w64 (of_z w64 value)) c.relocation_in-relocation.result.offset section after) c.in-Err-write_at.is c.write_at.ensures)) in
    subst (λ now. IsStopped a.architecture a.addresses.now bytes (g.S.Symbols.values a.symbols) before now (set a.memory.now i c.word_at.result) (record { count = i; error = record { index = i; error = Write why } })) (sym (rejected.1))
    (stop_at a.limit a.architecture a.addresses.now bytes before section a.memory.now (g.S.Symbols.values a.symbols) i c.word_at.result a.last (Write why) inv c.requires.within (
      apart_next a.limit a.architecture bytes before section i a.last row inv.is_limit inv.order c.requires.within c.requires.after inv.below.same_length w.has.is_row w.some (clear g (goal.at.returns-in-Err-write_at-clause-step g c).After-or-last),
      inl (record { row = row; value = value; has_value = w.has; length_shown = shown; rejected = rejected.0; alone = (subst (λ x. IfNone x (BeginsPair a.architecture bytes i → ⊥)) c.in_default.is c.second_of_pair.ensures.none) }),
    ))

pub returns-in-Some-clause-step : goal.returns-in-Some-clause-step
returns-in-Some-clause-step g c before inv =
    let w = known g (goal.at.returns-in-Some-clause-step g c).After-field_at-field in
    let a = c.args in
    let i = a.index in
    let bytes = a.relocations.now in
    let section = a.section.now in
    let after = c.relocate_pair.new.section in
    let same = c.relocation_in-relocation.ensures in
    let saved = subst (λ r. IsSavedAt r.offset section c.word_at.result) same c.word_at.ensures in
    let saved_next = subst (λ r. IsSavedAt (sum_64 r.offset 8) section c.word_at-in-Some.result) same c.word_at-in-Some.ensures in
    let row = c.in-Ok-Some.found.0 in
    let pair = (subst (λ x. IfSome x (λ s. (s ≡ relocation_in bytes (i + 1)) × BeginsPair a.architecture bytes i)) c.in-Some.is c.second_of_pair.ensures.found).1 in
    let written = subst (IsPairOutcome a.architecture a.addresses.now bytes (g.S.Symbols.values a.symbols) i section after) c.in_default-relocate_pair.is c.relocate_pair.ensures in
    let long : length section < 2 ^ 63 = search rules in
    let under = pair.within in (
      (omega arith),
      record {
        is_limit = inv.is_limit;
        below = record {
          within = omega (arith, under);
          relocated = AreRelocated.pair inv.below.relocated written;
          restores = pair_restores a.architecture a.addresses.now bytes a.memory.now before section after (g.S.Symbols.values a.symbols) i c.word_at.result c.word_at-in-Some.result row (omega (arith, under, c.requires.room)) long w.has.is_row pair written saved saved_next inv.below.restores;
          same_length = (pair_local a.architecture a.addresses.now bytes (g.S.Symbols.values a.symbols) i section after written).same_length ∙ inv.below.same_length;
        };
        order = subst (IsInOrder a.limit a.architecture bytes before after (i + 2)) (sym (c.or-last.ensures ∙ ap (λ f. next_field f a.last) w.field_is))
            (pair_order a.limit a.architecture a.addresses.now bytes before section after (g.S.Symbols.values a.symbols) i a.last row inv.is_limit inv.order c.requires.within c.requires.after inv.below.same_length w.has.is_row w.some (clear g (goal.at.returns-in-Some-clause-step g c).After-or-last) pair written);
      },
    )

pub returns-in-Err-relocate_pair-clause-step : goal.returns-in-Err-relocate_pair-clause-step
returns-in-Err-relocate_pair-clause-step g c before inv =
    let w = known g (goal.at.returns-in-Err-relocate_pair-clause-step g c).After-field_at-field in
    let a = c.args in
    let i = a.index in
    let bytes = a.relocations.now in
    let section = a.section.now in
    let memory = a.memory.now in
    let kept = set memory i c.word_at.result in
    let pair = (subst (λ x. IfSome x (λ s. (s ≡ relocation_in bytes (i + 1)) × BeginsPair a.architecture bytes i)) c.in-Some.is c.second_of_pair.ensures.found).1 in
    let outcome = subst (IsPairOutcome a.architecture a.addresses.now bytes (g.S.Symbols.values a.symbols) i section c.relocate_pair.new.section) c.in-Err-relocate_pair.is c.relocate_pair.ensures in
    let next = apart_next a.limit a.architecture bytes before section i a.last (c.in-Ok-Some.found.0) inv.is_limit inv.order c.requires.within c.requires.after inv.below.same_length w.has.is_row w.some (clear g (goal.at.returns-in-Err-relocate_pair-clause-step g c).After-or-last) in
    subst (λ now. IsStopped a.architecture a.addresses.now bytes (g.S.Symbols.values a.symbols) before now (set kept (i + 1) c.word_at-in-Some.result) (record { count = i; error = c.in-Err-relocate_pair.error })) (sym (outcome.0))
    (stop a.architecture a.addresses.now bytes before section memory _ (g.S.Symbols.values a.symbols) i _ inv.below.within
    (λ j below. set_above kept i (i + 1) c.word_at-in-Some.result (omega arith) j below ∙ set_above memory i i c.word_at.result (omega arith) j below) inv.below.restores
    (elim (outcome.1) [
      | inl value ↦ subst (IsFirstRejectedBy a.architecture a.addresses.now bytes (g.S.Symbols.values a.symbols) before) (sym (value.1))
          (record {
            within = pair.within;
            apart = next;
            written = i;
            is_next = inr (refl, pair, tt);
            now = section;
            relocated = inv.below.relocated;
            cause = value.2;
          })
      | inr number ↦ subst (IsFirstRejectedBy a.architecture a.addresses.now bytes (g.S.Symbols.values a.symbols) before) (sym (number.1))
          (record {
            within = c.requires.within;
            apart = apart_now a.limit a.architecture bytes before section i a.last inv.is_limit inv.order;
            written = i;
            is_next = inl refl;
            now = section;
            relocated = inv.below.relocated;
            cause = (next, number.2);
          })
    ]))
