use Rattle.linker_base.proofs.Imports.{All, DoNotOverlap, YieldsList-from_slice, cases_from_all, map, rules, tests}
use Rattle.linker_base.proofs.Apart.{all_tell}
use Rattle.linker_base.proofs.relaxation.overlap.are_beside.Goals as goal

pub returns : goal.returns
returns g c valid =
    let ds = map g.R.AsDeletion.deletion c.args.list.now in
    let f = g.D.AsDeletion.deletion in
    all_tell c.all.result (λ pair. All (λ d. DoNotOverlap d pair) ds) f c.args.others.now
    (cases_from_all _ _ _ (λ x. All (λ d. DoNotOverlap d (f x)) ds) (λ x. All (λ d. DoNotOverlap d (f x)) ds → ⊥) c.all.ensures.ran (YieldsList-from_slice c.args.others.now cc) (λ x q k. search (rules, tests)) (λ x q k. search (rules, tests)))
