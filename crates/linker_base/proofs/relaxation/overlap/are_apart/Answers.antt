use Rattle.linker_base.proofs.Imports.{All, All-append, DoNotOverlap, false≢true, map, pairs_of, sym, ◌∙◌}
use Rattle.linker_base.proofs.Listed.{All-front, All-back}
use Rattle.linker_base.proofs.relaxation.overlap.are_apart.Goals as goal

pub returns-then-are_beside : goal.returns-then-are_beside
returns-then-are_beside g c valid =
    let others = map g.D.AsDeletion.deletion c.args.others.now in
    let pairs = pairs_of c.args.batches.now in (
      λ holds. All-append (λ pair. All (λ d. DoNotOverlap d pair) (map g.R.AsDeletion.deletion c.args.list.now)) others pairs ((c.are_beside.ensures valid).0 c.if-are_beside.true) ((c.are_beside_batches.ensures valid).0 holds),
      λ all. (c.are_beside_batches.ensures valid).1 (All-back (λ pair. All (λ d. DoNotOverlap d pair) (map g.R.AsDeletion.deletion c.args.list.now)) others pairs all),
    )

pub returns-else-are_beside : goal.returns-else-are_beside
returns-else-are_beside g c valid = (
  λ holds. absurd (false≢true (sym c.if-are_beside.false ∙ holds)),
  λ all. (c.are_beside.ensures valid).1 (All-front (λ pair. All (λ d. DoNotOverlap d pair) (map g.R.AsDeletion.deletion c.args.list.now)) (map g.D.AsDeletion.deletion c.args.others.now) (pairs_of c.args.batches.now) all),
)
