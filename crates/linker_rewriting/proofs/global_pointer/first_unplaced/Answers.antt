use Rattle.linker_rewriting.proofs.Imports.{arith, below_more, false, is_placed, relocation_in, subst, sym, true, ◌∙◌, ◌≡◌}
use Rattle.linker_rewriting.proofs.global_pointer.first_unplaced.Goals as goal

pub loop-index-preserved : goal.loop-index-preserved
loop-index-preserved c =
    let a = c.args in
    below_more (λ k. is_placed a.bases.now.addresses.now a.bases.now.values.now a.bases.now.gp a.section.now (relocation_in a.relocations.now k) ≡ true)
    c.loop-index.index c.loop-index.invariant
    (subst (λ r. is_placed a.bases.now.addresses.now a.bases.now.values.now a.bases.now.gp a.section.now r ≡ true) c.relocation_in-relocation.ensures
    (sym c.is_placed.ensures ∙ c.if-not-is_placed.false))

pub returns-then-not-is_placed : goal.returns-then-not-is_placed
returns-then-not-is_placed c =
    let a = c.args in
    record {
      within = (let t = c.loop-index-test.true in let e = c.relocations_len-index-end.ensures in omega arith);
      here = subst (λ r. is_placed a.bases.now.addresses.now a.bases.now.values.now a.bases.now.gp a.section.now r ≡ false) c.relocation_in-relocation.ensures
          (sym c.is_placed.ensures ∙ c.if-not-is_placed.true);
      before = c.loop-index.invariant;
    }
