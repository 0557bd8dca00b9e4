use Rattle.linker_elf.proofs.elf.choice_table.RewriteSet.none.Goals as goal

pub returns : goal.returns
returns g c = g.met.Self.RewriteSet.laws.defaults c.default.result c.default.ensures
