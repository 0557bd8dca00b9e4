use Rattle.linker_reading.proofs.Imports.{Choice, IsChosen, IsMade, Recognised, choice, relaxation_matches}
use Rattle.linker_reading.proofs.Chosen.{first_is_same, chosen_made}
use Rattle.linker_reading.proofs.recognise.engine.recognise_chosen.Goals as goal

pub returns : goal.returns
returns g c =
    let it = g.N.RecognisedName.how in
    chosen_made (IsChosen it c.args.name c.args.original.now c.args.offset c.args.facts.now)
    (λ (d : Choice g.row.N-Kind.Denot g.row.N.Denot). relaxation_matches (it.relaxation d.kind) c.args.original.now c.args.offset)
    (λ (m : Recognised g.row.N-Kind.Denot g.row.N.Denot). IsMade it c.args.original.now c.args.offset c.args.others.now c.args.linked.now m)
    c.choose-chosen.result c.recognise_one.result c.choose-chosen.ensures
    (λ d is. first_is_same (it.applies c.args.name c.args.original.now c.args.offset c.args.facts.now) (it.entries c.args.name c.args.original.now c.args.offset)
    (choice it.no_op c.args.name) c.choose-chosen.result d c.choose-chosen.ensures is)
    (λ d is. g.met.N.RecognisedName.laws.chosen_matches c.args.name c.args.original.now c.args.offset c.args.facts.now d is)
    c.recognise_one.ensures
