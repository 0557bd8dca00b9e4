use Rattle.std.proofs.Common.{rules}
use Rattle.vectors.proofs.PokedSection.{poked}
use Rattle.vectors.proofs.poke.poke.Goals as goal

pub returns-clause-poked : goal.returns-clause-poked
returns-clause-poked g c = λ t.
    poked c.args.offset c.args.section.now c.write.new.dest (search rules) (g.F.InstructionForm.form c.args.form) c.args.value c.args.negative (g.met.F.InstructionForm.keeps c.args.form)
    c.write.ensures.written c.write.ensures.machine c.write.ensures.rest
