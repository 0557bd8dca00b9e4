use Rattle.linker_rewriting.proofs.Imports.{IsLeft, arith, relocation_in, subst}
use Rattle.linker_rewriting.proofs.KeptCalls.{left_decided}
use Rattle.linker_rewriting.proofs.decisions.GroupsRule.leaves.Goals as goal

pub returns-clause-left : goal.returns-clause-left
returns-clause-left c =
    let a = c.args in
    let x = a.self.now.context.now in
    let r = relocation_in a.relocations.now a.index in
    λ is section. record {
      decides = left_decided x.phase x.architecture x.output.now x.symbols.now x.addresses.now x.values.now a.self.now.kept.now a.relocations.now section a.index r
          (subst (λ y. IsLeft y x.phase x.symbols.now r) (c.requires.valid.0)
          (subst (λ y. IsLeft a.self.now.architecture y x.symbols.now r) (c.requires.valid.1) (c.is_left.ensures.left is)));
      made = tt;
      matches = tt;
      within = λ some. (omega arith, omega arith);
    }

pub returns-clause-none : goal.returns-clause-none
returns-clause-none c = λ is. omega arith
