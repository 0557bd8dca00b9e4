use Rattle.linker_rewriting.proofs.Imports.{arith, below_more, false, lacks_stub, relocation_in, subst, sym, true, ◌∙◌, ◌≡◌}
use Rattle.linker_rewriting.proofs.kept.first_without_stub.Goals as goal

pub loop-index-preserved : goal.loop-index-preserved
loop-index-preserved c =
    let a = c.args in
    below_more (λ k. lacks_stub a.context.now.architecture a.context.now.symbols.now a.context.now.values.now (relocation_in a.relocations.now k) ≡ false)
    c.loop-index.index c.loop-index.invariant
    (subst (λ r. lacks_stub a.context.now.architecture a.context.now.symbols.now a.context.now.values.now r ≡ false) c.relocation_in.ensures
    (sym c.lacks_stub.ensures ∙ c.if-lacks_stub.false))

pub returns-then-lacks_stub : goal.returns-then-lacks_stub
returns-then-lacks_stub c =
    let a = c.args in
    record {
      within = (let t = c.loop-index-test.true in let e = c.relocations_len-index-end.ensures in omega arith);
      stubs_before = c.loop-index.invariant;
      lacks = subst (λ r. lacks_stub a.context.now.architecture a.context.now.symbols.now a.context.now.values.now r ≡ true) c.relocation_in.ensures
          (sym c.lacks_stub.ensures ∙ c.if-lacks_stub.true);
    }
