use Rattle.linker_reading.proofs.recognise.engine.RecognisedName.choose.Goals as goal

pub returns : goal.returns
returns g c =
    g.met.Self.RecognisedName.laws.chosen c.args.self c.args.original.now c.args.offset c.args.facts.now c.choose.result c.choose.ensures
