use Rattle.linker_section.proofs.Imports.{rules, slice_index, ℕ, ◌<◌}
use Rattle.linker_section.specs.Resolved.{by_lookup, known_by}
use Rattle.linker_section.proofs.Outcomes.{exact_of, fault_of, fields_of}
use Rattle.linker_section.proofs.ResolvedOnce.{unique_by_known}
use Rattle.linker_section.proofs.resolved.relocate_resolved.Goals as goal

pub returns-clause-fields : goal.returns-clause-fields
returns-clause-fields g c =
    let small : (j : ℕ) → slice_index c.args.section.now j < 256 = λ j. search rules in
    fields_of c.args.architecture c.args.addresses.now c.args.relocations.now (by_lookup (g.L.Lookup.resolved c.args.lookup)) c.args.section.now c.relocate_values.new.section small c.relocate_values.result c.relocate_values.ensures.ok

pub returns-clause-fault : goal.returns-clause-fault
returns-clause-fault g c =
    fault_of c.args.architecture c.args.addresses.now c.args.relocations.now (by_lookup (g.L.Lookup.resolved c.args.lookup)) c.args.section.now c.relocate_values.new.section c.relocate_values.result c.relocate_values.ensures.err

pub returns-clause-exact : goal.returns-clause-exact
returns-clause-exact g c =
    let small : (j : ℕ) → slice_index c.args.section.now j < 256 = λ j. search rules in
    let lookup = g.L.Lookup.resolved c.args.lookup in
    exact_of c.args.architecture c.args.addresses.now c.args.relocations.now (by_lookup lookup) c.args.section.now c.relocate_values.new.section
    (unique_by_known c.args.architecture c.args.addresses.now c.args.relocations.now (known_by lookup) c.args.section.now)
    small c.relocate_values.result c.relocate_values.ensures.ok c.relocate_values.ensures.err
