use Rattle.linker_base.proofs.Imports.{All, AreApart, DoNotOverlap, Vec, YieldsList-from_slice, cases_from_all, map, rules, tests, ℕ}
use Rattle.linker_base.proofs.Apart.{all_tell, all_batches}
use Rattle.linker_base.proofs.relaxation.overlap.are_beside_batches.Goals as goal

pub returns : goal.returns
returns g c valid =
    let ds = map g.R.AsDeletion.deletion c.args.list.now in
    let each = all_tell c.all.result (AreApart ds) (λ (b : Vec (ℕ × ℕ)). b.items) c.args.batches.now (cases_from_all _ _ _ (λ b. AreApart ds b.items) (λ b. AreApart ds b.items → ⊥) c.all.ensures.ran (YieldsList-from_slice c.args.batches.now cc) (λ x q k. search (rules, tests)) (λ x q k. search (rules, tests))) in
    let all = all_batches (λ pair. All (λ d. DoNotOverlap d pair) ds) c.args.batches.now in
    (λ holds. all.0 (each.0 holds), λ free. each.1 (all.1 free))
