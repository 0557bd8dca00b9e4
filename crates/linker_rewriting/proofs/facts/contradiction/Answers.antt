use Rattle.linker_rewriting.proofs.Imports.{ap, arith, below_more, contradict_at, false, relocation_in, subst, sym, true, ◌∙◌, ◌≡◌}
use Rattle.linker_rewriting.proofs.facts.contradiction.Goals as goal

pub loop-index-preserved : goal.loop-index-preserved
loop-index-preserved c =
    let a = c.args in
    below_more (λ k. contradict_at a.facts.now a.symbols.now (relocation_in a.relocations.now k) ≡ false)
    c.loop-index.index c.loop-index.invariant
    (subst (λ r. contradict_at a.facts.now a.symbols.now r ≡ false) c.relocation_in-relocation.ensures
    (sym c.contradict_at.ensures ∙ c.if-contradict_at.false))

pub returns-then-contradict_at : goal.returns-then-contradict_at
returns-then-contradict_at c =
    let a = c.args in
    record {
      index = c.loop-index.index;
      within = (let t = c.loop-index-test.true in let e = c.relocations_len-index-end.ensures in omega arith);
      agree_before = c.loop-index.invariant;
      contradict = subst (λ r. contradict_at a.facts.now a.symbols.now r ≡ true) c.relocation_in-relocation.ensures
          (sym c.contradict_at.ensures ∙ c.if-contradict_at.true);
      is_symbol = ap (λ r. r.symbol) c.relocation_in-relocation.ensures;
    }
