use Rattle.linker_base.proofs.relaxation.cursor.RelaxCursor.translate_all.Goals as goal

pub returns-clause-walks : goal.returns-clause-walks
returns-clause-walks c = rw (← c.self.view_is) (c.walk.ensures.passed c.self.inside.deltas.now _ c.self.invariant.listed c.self.invariant.walked)
