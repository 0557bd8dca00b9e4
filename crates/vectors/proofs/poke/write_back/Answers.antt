use Rattle.std.proofs.Common.{rules}
use Rattle.vectors.proofs.WriteBack.{truncated_fits, value_is, flag_is, value_poked_back, unchanged_by_write_back}
use Rattle.vectors.proofs.poke.write_back.Goals as goal

pub returns-clause-inside : goal.returns-clause-inside
returns-clause-inside g c =
    let form = g.F.InstructionForm.form c.args.form in (
      λ t. (c.poke.ensures.accepted.0 t).0,
      λ inside. c.poke.ensures.accepted.1 (inside, truncated_fits form c.args.offset c.args.section.now c.truncate-field.result c.read-value.result.0 c.truncate-field.ensures),
    )

pub returns-clause-written : goal.returns-clause-written
returns-clause-written g c = λ t.
    let form = g.F.InstructionForm.form c.args.form in
    value_poked_back form c.args.offset c.args.section.now c.poke.new.section c.truncate-field.result c.read-value.result.1
    (value_is form c.args.offset c.args.section.now c.truncate-field.result c.read-value.result.0 c.read-value.ensures.number c.truncate-field.ensures)
    (flag_is form c.args.offset c.args.section.now c.read-value.result.1 c.read-value.ensures.flag)
    (c.poke.ensures.poked t)

pub returns-clause-restored : goal.returns-clause-restored
returns-clause-restored g c = λ restores.
    let form = g.F.InstructionForm.form c.args.form in
    unchanged_by_write_back form c.args.offset c.args.section.now c.poke.new.section c.truncate-field.result c.read-value.result.1
    (g.met.F.InstructionForm.restores c.args.form) c.truncate-field.type_inv
    (value_is form c.args.offset c.args.section.now c.truncate-field.result c.read-value.result.0 c.read-value.ensures.number c.truncate-field.ensures)
    (flag_is form c.args.offset c.args.section.now c.read-value.result.1 c.read-value.ensures.flag)
    restores (c.poke.ensures.poked ((returns-clause-inside g c).1 (search rules)))
    (search rules) (λ i. search rules) (λ i. search rules)
