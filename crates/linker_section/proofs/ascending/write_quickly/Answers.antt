use Rattle.linker_section.proofs.Imports.{FitsSigned, IfSome, IsHighValue, IsRow, IsSavedAt, IsWrittenAt, ap, arith, cases_Bool, drop, from_le_bytes, get_or-drop, inl, inr, length, length_of, not, of_z, offset_at, refl, rules, shows_lengths, slice_index, subst, sym, to_z, to_z-of_z, w64, word_shows, ℕ, ◌+◌, ◌<◌, ◌^◌, ◌||◌, ◌∙◌, ◌≡◌}
use Rattle.linker_section.proofs.RowFacts.{says_way}
use Rattle.linker_section.proofs.Lengths.{unthreaded_holds, word_says}
use Rattle.linker_section.proofs.Local.{one_local}
use Rattle.linker_section.proofs.Reaching.{is_written, not_written}
use Rattle.linker_section.proofs.ascending.write_quickly.Goals as goal

pub returns-then-is_err-clause-none : goal.returns-then-is_err-clause-none
returns-then-is_err-clause-none g c =
    not_written c.in-Some.row _ c.args.relocation.now.offset c.args.section.now c.write_held_at.new.section c.write_held_at.result
    (sym c.is_err.ensures.value ∙ c.if-is_err.true) c.write_held_at.ensures

pub write_held_at-requires-clause-length : goal.write_held_at-requires-clause-length
write_held_at-requires-clause-length g c inside long =
    let section = c.args.section.now in
    let o = c.args.relocation.now.offset in
    let row = c.in-Some.row in
    let small : (i : ℕ) → slice_index section i < 256 = λ i. search rules in
    let way = says_way c.args.architecture c.args.relocation.now.r_type row
    (subst (IsRow c.args.architecture c.args.relocation.now.r_type) c.in-Some.is c.row.ensures) in
    elim (cases_Bool (shows_lengths c.args.architecture)) [
      | inl is ↦
          sym (word_says (length_of row.size) (drop o section) (λ i. subst (λ b. b < 256) (sym (get_or-drop o section i 0)) (small (o + i))))
          ∙ (ap (word_shows (length_of row.size)) (sym (subst (λ x. IfSome x (λ word. word ≡ from_le_bytes w64 (drop o section))) c.in-Some-whole_word_at.is c.whole_word_at.ensures.word))
          ∙ (ap (λ b. not b || word_shows (length_of row.size) c.in-Some-whole_word_at.word) (sym is) ∙ (sym c.begins_with.ensures ∙ c.if-not-begins_with.false)))
      | inr isnt ↦ way.shown isnt (drop o section)
    ]

pub write_held_at-requires-clause-offset : goal.write_held_at-requires-clause-offset
write_held_at-requires-clause-offset g c inside long =
    unthreaded_holds c.in-Some.row (to_z w64 (of_z w64 c.in-Some-quick_value.value)) (drop c.args.relocation.now.offset c.args.section.now) c.in-Some-quick_value.ensures.at.unthreaded

pub overflow_add-result : goal.overflow_add-result
overflow_add-result g c =
    let a = c.args in
    let section = a.section.now in
    let row = c.in-Some.row in
    let written = is_written row _ a.relocation.now.offset section c.write_held_at.new.section c.write_held_at.result
    (sym c.is_err.ensures.value ∙ c.if-is_err.false) c.write_held_at.ensures in
    let long : length section < 2 ^ 63 = search rules in
    omega (arith, (one_local row _ a.relocation.now.offset section c.write_held_at.new.section written).inside, long, c.window.ensures)

pub returns-clause-some : goal.returns-clause-some
returns-clause-some g c =
    let a = c.args in
    let section = a.section.now in
    let after = c.write_held_at.new.section in
    let row = c.in-Some.row in
    let word = c.in-Some-whole_word_at.word in
    let v = c.in-Some-quick_value.value in
    let o = offset_at a.relocations.now a.index in
    let same = c.requires.is in
    let offset = ap (λ r. r.offset) same in
    let fits : FitsSigned w64 v = search rules in
    record {
      row = row;
      v = v;
      value = c.in-Some-quick_value.ensures.at;
      word = word;
      saved = subst (λ r. IsSavedAt r.offset section word) same c.in-Some-whole_word_at.ensures.some;
      kept_is = refl;
      written = is_written row v o section after c.write_held_at.result (sym c.is_err.ensures.value ∙ c.if-is_err.false)
          (subst (λ x. IsWrittenAt row x o section after c.write_held_at.result) (to_z-of_z w64 v fits)
          (subst (λ r. IsWrittenAt row (to_z w64 (of_z w64 v)) r.offset section after c.write_held_at.result) same c.write_held_at.ensures));
      following = omega (arith, c.if-offset-end.false, offset);
      end_is = omega (arith, offset, c.window.ensures);
    }

pub returns-clause-high : goal.returns-clause-high
returns-clause-high g c =
    let a = c.args in
    let v = c.in-Some-quick_value.value in
    let fits : FitsSigned w64 v = search rules in
    let Has = IsHighValue a.architecture a.addresses.now a.relocations.now (g.S.Symbols.knowledge a.symbols) in
    elim c.high_after-high.ensures [
      | inl kept ↦ subst (λ x. IfSome x Has) (sym kept) c.requires.high
      | inr new ↦
          subst (λ x. IfSome x Has) (sym (new.1))
          (subst (λ r. Has (record { offset = r.offset; value = to_z w64 (of_z w64 v) })) (sym c.requires.is)
          (subst (λ x. Has (record { offset = offset_at a.relocations.now a.index; value = x })) (sym (to_z-of_z w64 v fits))
          (c.in-Some-quick_value.ensures.high (new.0))))
    ]
