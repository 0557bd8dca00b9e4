use Rattle.linker_elf.proofs.Imports.{Err, FormulaError, Ok, Operands, PltRelGotBase, PltRelative, Result, RowInfo, Some, ap, bit_and, cast_signed, cast_unsigned, completed, cond-false, cond-true, difference_64, entry_term, false, formula, got_term, high_distance, inl, inr, is_offset, is_set, names_got_entry, not, of_entry, place_term, plt_term, refl, rules, sequence_pc, signed_in, size_term, subst, sum_64, sym, symbol_term, to_z-of_z, w64, ℕ, ◌<◌, ◌^◌, ◌∙◌, ◌≡◌}
use Rattle.linker_elf.proofs.Terms.{HasTerm, plain_value, relative_value, without_value, offset_value, entry_given, plt_given, has_formula, symbol_found, place_found, got_found, relative_is}
use Rattle.linker_elf.specs.declared.elf.value.Formula.TheVariants as formulas
use Rattle.linker_elf.proofs.elf.RowInfo.value_modulo.Goals as goal

pub returns-in-Without : goal.returns-in-Without
returns-in-Without c =
    without_value _ _ (has_formula c.args.self.now _ formulas.Without c.requires c.in-Without.is)

pub returns-in-Symbol : goal.returns-in-Symbol
returns-in-Symbol c =
    plain_value _ _ symbol_term (has_formula c.args.self.now _ formulas.Symbol c.requires c.in-Symbol.is)
    ∙ ap (λ n. Ok (cast_signed w64 n)) (sym (symbol_found c.args.self.now c.args.operands.now _ _ c.requires c.symbol.ensures))

pub returns-in-SymbolLessPlace : goal.returns-in-SymbolLessPlace
returns-in-SymbolLessPlace c =
    let row = c.args.self.now in
    let o = c.args.operands.now in
    let t = c.args.terms.now in
    let s = symbol_found row o t _ c.requires c.symbol-in-SymbolLessPlace.ensures in
    let small : o.place < 2 ^ 64 = search rules in
    let short : symbol_term row o < 2 ^ 64 = subst (λ n. n < 2 ^ 64) s c.symbol-in-SymbolLessPlace.type_inv in
    let ours = ap (λ n. difference_64 n (bit_and o.place t.place)) s in
    elim (has_formula row t formulas.SymbolLessPlace c.requires c.in-SymbolLessPlace.is) [
      | inl relative ↦
          relative_value row o relative
          ∙ ap (λ n. Ok (cast_signed w64 n))
          (sym (ours ∙ (ap (λ t. difference_64 (symbol_term row o) (bit_and o.place t.place)) c.requires ∙ relative_is row o relative small short)))
      | inr low ↦
          let term : RowInfo → Operands → ℕ = λ r o. difference_64 (symbol_term r o) (place_term r o) in
          let has : HasTerm term false row.kind =
          subst (HasTerm term false) (sym low) (record { formula_is = λ r o. refl; got_is = refl; no_plt = refl; no_offset = refl; unset = λ size. refl }) in
          plain_value row o term has
          ∙ ap (λ n. Ok (cast_signed w64 n)) (sym (ours ∙ ap (difference_64 (symbol_term row o)) (place_found row o t c.requires (has.unset row.size) small)))
    ]

pub returns-in-LoongArchHigh : goal.returns-in-LoongArchHigh
returns-in-LoongArchHigh c =
    let o = c.args.operands.now in
    plain_value _ o (λ r o. high_distance (symbol_term r o) (sequence_pc r.size o.place)) (has_formula c.args.self.now _ formulas.LoongArchHigh c.requires c.in-LoongArchHigh.is)
    ∙ ap (λ n. Ok (cast_signed w64 n)) (sym (c.highest_relocation_with_bias.ensures
    ∙ (ap (λ n. high_distance n c.pc_of_sequence.result) (symbol_found c.args.self.now c.args.operands.now _ _ c.requires c.symbol-in-LoongArchHigh.ensures)
    ∙ ap (high_distance (symbol_term c.args.self.now o)) c.pc_of_sequence.ensures)))

pub returns-in-EntryLessPlace : goal.returns-in-EntryLessPlace
returns-in-EntryLessPlace c =
    let row = c.args.self.now in
    let o = c.args.operands.now in
    let t = c.args.terms.now in
    let has = has_formula row t formulas.EntryLessPlace c.requires c.in-EntryLessPlace.is in
    let small : o.place < 2 ^ 64 = search rules in
    let made : ℕ → ℕ = λ n. difference_64 n (bit_and o.place t.place) in
    entry_given row o t (λ r o. difference_64 (entry_term r o) (place_term r o)) made c.requires has
    (ap (difference_64 (entry_term row o)) (place_found row o t c.requires (has.unset row.size) small))
    ∙ ap signed_in (sym (c.less.ensures ∙ ap (of_entry made) c.entry.ensures))

pub returns-in-LoongArchEntry : goal.returns-in-LoongArchEntry
returns-in-LoongArchEntry c =
    let row = c.args.self.now in
    let o = c.args.operands.now in
    let t = c.args.terms.now in
    let has = has_formula row t formulas.LoongArchEntry c.requires c.in-LoongArchEntry.is in
    let made : ℕ → ℕ = λ n. high_distance n c.pc_of_sequence-in-LoongArchEntry.result in
    entry_given row o t (λ r o. high_distance (entry_term r o) (sequence_pc r.size o.place)) made c.requires has
    (ap (high_distance (entry_term row o)) c.pc_of_sequence-in-LoongArchEntry.ensures)
    ∙ ap signed_in (sym (c.high.ensures ∙ ap (of_entry made) c.entry-in-LoongArchEntry.ensures))

pub returns-in-EntryLessGot : goal.returns-in-EntryLessGot
returns-in-EntryLessGot c =
    let row = c.args.self.now in
    let o = c.args.operands.now in
    let t = c.args.terms.now in
    let has = has_formula row t formulas.EntryLessGot c.requires c.in-EntryLessGot.is in
    let small : o.got_base < 2 ^ 64 = search rules in
    let made : ℕ → ℕ = λ n. difference_64 n (bit_and o.got_base t.got) in
    entry_given row o t (λ r o. difference_64 (entry_term r o) (got_term r o)) made c.requires has
    (ap (difference_64 (entry_term row o)) (got_found row o t c.requires small))
    ∙ ap signed_in (sym (c.less-in-EntryLessGot.ensures ∙ ap (of_entry made) c.entry-in-EntryLessGot.ensures))

unchanged : (e : Result ℕ FormulaError) → signed_in (of_entry (λ n. n) e) ≡ signed_in e
unchanged (Ok n) = refl
unchanged (Err error) = refl

pub returns-in-Entry : goal.returns-in-Entry
returns-in-Entry c =
    entry_given _ _ c.args.terms.now entry_term (λ n. n) c.requires (has_formula c.args.self.now _ formulas.Entry c.requires c.in-Entry.is) refl
    ∙ (ap (λ e. signed_in (of_entry (λ n. n) e)) (sym c.entry-in-Entry.ensures) ∙ unchanged c.entry-in-Entry.result)

pub returns-in-SymbolLessGot : goal.returns-in-SymbolLessGot
returns-in-SymbolLessGot c =
    let row = c.args.self.now in
    let o = c.args.operands.now in
    let t = c.args.terms.now in
    let small : o.got_base < 2 ^ 64 = search rules in
    plain_value row o (λ r o. difference_64 (symbol_term r o) (got_term r o)) (has_formula c.args.self.now _ formulas.SymbolLessGot c.requires c.in-SymbolLessGot.is)
    ∙ ap (λ n. Ok (cast_signed w64 n)) (sym (ap (λ n. difference_64 n (bit_and o.got_base t.got)) (symbol_found c.args.self.now c.args.operands.now _ _ c.requires c.symbol-in-SymbolLessGot.ensures)
    ∙ ap (difference_64 (symbol_term row o)) (got_found row o t c.requires small)))

pub returns-in-PltLessGot : goal.returns-in-PltLessGot
returns-in-PltLessGot c =
    let row = c.args.self.now in
    let o = c.args.operands.now in
    let t = c.args.terms.now in
    let is : row.kind ≡ PltRelGotBase = has_formula row t formulas.PltLessGot c.requires c.in-PltLessGot.is in
    let small : o.got_base < 2 ^ 64 = search rules in
    let made : ℕ → ℕ = λ n. difference_64 n (bit_and o.got_base t.got) in
    plt_given row o t made c.requires (ap names_got_entry is) (ap is_offset is)
    (ap (λ k. formula k row (completed o)) is ∙ ap (λ n. Some (difference_64 (plt_term row (completed o)) n)) (sym (got_found row o t c.requires small)))
    ∙ ap signed_in (sym (c.less-in-PltLessGot.ensures ∙ ap (of_entry made) c.plt.ensures))

pub returns-in-PltLessPlace : goal.returns-in-PltLessPlace
returns-in-PltLessPlace c =
    let row = c.args.self.now in
    let o = c.args.operands.now in
    let t = c.args.terms.now in
    let is : row.kind ≡ PltRelative = has_formula row t formulas.PltLessPlace c.requires c.in-PltLessPlace.is in
    let small : o.place < 2 ^ 64 = search rules in
    let made : ℕ → ℕ = λ n. difference_64 n (bit_and o.place t.place) in
    plt_given row o t made c.requires (ap names_got_entry is) (ap is_offset is)
    (ap (λ k. formula k row (completed o)) is ∙ ap (λ n. Some (difference_64 (plt_term row (completed o)) n)) (sym (place_found row o t c.requires (ap (λ k. is_set k row.size) is) small)))
    ∙ ap signed_in (sym (c.less-in-PltLessPlace.ensures ∙ ap (of_entry made) c.plt-in-PltLessPlace.ensures))

pub returns-in-Size : goal.returns-in-Size
returns-in-Size c =
    let o = c.args.operands.now in
    plain_value _ o size_term (has_formula c.args.self.now _ formulas.Size c.requires c.in-Size.is)
    ∙ ap (λ n. Ok (cast_signed w64 n)) (sym (c.sum.ensures
    ∙ (ap (λ n. sum_64 (sum_64 o.symbol_size n) c.args.terms.now.bias) (c.cast_unsigned.ensures ∙ ap (cast_unsigned w64) (to_z-of_z w64 o.addend (search rules)))
    ∙ ap (λ t. sum_64 (sum_64 o.symbol_size (cast_unsigned w64 o.addend)) t.bias) c.requires)))

pub returns-then-not-o : goal.returns-then-not-o
returns-then-not-o c =
    offset_value _ _ (has_formula c.args.self.now _ formulas.Offset c.requires c.in-Offset.is) ∙ cond-true _ _ _ (ap not c.if-not-o.true)

pub returns-else-not-o : goal.returns-else-not-o
returns-else-not-o c =
    offset_value _ _ (has_formula c.args.self.now _ formulas.Offset c.requires c.in-Offset.is) ∙ (cond-false _ _ _ (ap not c.if-not-o.false)
    ∙ ap (λ n. Ok (cast_signed w64 (difference_64 n c.args.operands.now.tls_base))) (sym (symbol_found c.args.self.now c.args.operands.now _ _ c.requires c.symbol-in-Offset.ensures)))
