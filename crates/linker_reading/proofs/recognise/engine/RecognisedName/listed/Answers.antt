use Rattle.linker_reading.proofs.Imports.{ap, choice, choices_of, ◌∙◌}
use Rattle.linker_reading.proofs.Tables.{same_choices}
use Rattle.linker_reading.proofs.recognise.engine.RecognisedName.listed.Goals as goal

pub returns-clause-choices : goal.returns-clause-choices
returns-clause-choices g c =
    let it = g.Self.RecognisedName.how in
    let laws = g.met.Self.RecognisedName.laws in
    c.choices_of.ensures.choices
    ∙ same_choices _ _ c.entries.result.now _ (choice c.none.result c.args.self) c.entries.ensures.table
    ∙ ap (λ l. choices_of l (choice c.none.result c.args.self)) (laws.entries c.args.self c.args.section.now c.args.at)
    ∙ ap (λ k. choices_of (it.entries c.args.self c.args.section.now c.args.at) (choice k c.args.self)) (c.none.ensures ∙ laws.no_op)
