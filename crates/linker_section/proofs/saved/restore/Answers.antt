use Rattle.linker_section.proofs.Imports.{IsRow, Restores, ap, arith, relocation_in, saved_place, slice_index, subst, suc, sym, with_word, ◌-◌, ◌∙◌, ◌≡◌}
use Rattle.linker_section.proofs.Rows.{one_row}
use Rattle.linker_section.proofs.saved.restore.Goals as goal

pub loop-index-preserved : goal.loop-index-preserved
loop-index-preserved c =
    let a = c.args in
    let n = c.loop-index.index - 1 in
    let one : c.loop-index.index ≡ suc n = omega (arith, c.loop-index-test.true) in
    let word = slice_index a.memory.now n in
    let r = relocation_in a.relocations.now n in
    record {
      within = let w = c.loop-index.invariant.within in omega (arith, w);
      restores = λ before start.
          let kept = subst (λ k. Restores a.architecture a.relocations.now a.memory.now k c.loop-index.section before) one
          (c.loop-index.invariant.restores before start) in
          let same : kept.0 ≡ c.row.result = one_row a.architecture _ (kept.0) c.row.result (kept.1)
          (subst (λ x. IsRow a.architecture x.r_type c.row.result) c.relocation_in-relocation.ensures c.row.ensures) in
          let put : c.put_word.new.section ≡ with_word (saved_place c.row.result r.offset) word c.loop-index.section =
          c.put_word.ensures ∙ ap (λ p. with_word p word c.loop-index.section)
          (c.saved_place-place.ensures ∙ ap (λ x. saved_place c.row.result x.offset) c.relocation_in-relocation.ensures) in
          subst (λ s. Restores a.architecture a.relocations.now a.memory.now n s before) (sym put)
          (subst (λ row. Restores a.architecture a.relocations.now a.memory.now n (with_word (saved_place row r.offset) word c.loop-index.section) before) same (kept.2));
    }
