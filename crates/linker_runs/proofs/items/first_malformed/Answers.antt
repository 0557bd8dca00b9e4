use Rattle.linker_runs.proofs.Imports.{arith, below_more, both_ways, length-map, map, relocation_at, subst, sym}
use Rattle.linker_runs.specs.SectionItems.{IsFormed}
use Rattle.linker_runs.proofs.items.first_malformed.Goals as goal

pub loop-index-preserved : goal.loop-index-preserved
loop-index-preserved g c =
    below_more (λ k. IsFormed c.args.machine c.args.section.now (relocation_at (map g.R.AsRelocation.relocation c.args.relocations.now) k)) c.loop-index.index c.loop-index.invariant
    (subst (IsFormed c.args.machine c.args.section.now) c.relocation_at.ensures (c.is_formed.ensures.0 c.if-not-is_formed.false))

pub returns-then-not-is_formed : goal.returns-then-not-is_formed
returns-then-not-is_formed g c = record {
  within = omega (arith, length-map c.args.relocations.now g.R.AsRelocation.relocation);
  before = c.loop-index.invariant;
  here = λ formed. both_ways c.is_formed.result c.if-not-is_formed.true (c.is_formed.ensures.1 (subst (IsFormed c.args.machine c.args.section.now) (sym c.relocation_at.ensures) formed));
}
