use Rattle.linker_output.proofs.Imports.{ap, false, pos, sym, ◌∙◌}
use Rattle.linker_elf.specs.declared.elf.facts.RowFacts.{RowFacts}
use Rattle.linker_section.proofs.RowFacts.{says}
use Rattle.linker_section.specs.declared.needed.Requirements.{Requirements}
use Rattle.linker_output.proofs.routes.served_row.Goals as goal

pub returns-then-facts : goal.returns-then-facts
returns-then-facts c =
    let row = c.in_ok-row.row in
    let is = c.in_ok-row.ensures in
    (is, sym (ap (λ (r : Requirements). r.may_use_stub) (says c.args.architecture c.args.r_type row is (pos 0) false)) ∙ sym (ap (λ (f : RowFacts). f.may_use_stub) c.facts.ensures) ∙ c.if-facts.true)
