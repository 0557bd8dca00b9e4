use Rattle.linker_rewriting.proofs.Imports.{IsAsKept, arith, cases_lt, inl, inr, relocation_in, subst, ◌≡◌}
use Rattle.linker_rewriting.proofs.kept.first_changed.Goals as goal

pub loop-index-preserved : goal.loop-index-preserved
loop-index-preserved c n below =
    elim (cases_lt n c.loop-index.index) [
      | inl less ↦ c.loop-index.invariant n less
      | inr most ↦
          let same : c.loop-index.index ≡ n = omega (arith, below, most) in
          subst (λ m. IsAsKept c.args.output.now c.args.symbols.now c.args.kept.now (relocation_in c.args.relocations.now m)) same
          (subst (IsAsKept c.args.output.now c.args.symbols.now c.args.kept.now) c.relocation_in.ensures
          (c.is_as_kept.ensures.0 c.if-not-is_as_kept.false))
    ]
