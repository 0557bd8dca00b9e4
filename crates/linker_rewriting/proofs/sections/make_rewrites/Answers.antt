use Rattle.linker_rewriting.proofs.sections.make_rewrites.Goals as goal

pub make_all-requires-clause-made : goal.make_all-requires-clause-made
make_all-requires-clause-made c = λ n less. (c.in_ok-check_decisions.ensures.fit n less).0
