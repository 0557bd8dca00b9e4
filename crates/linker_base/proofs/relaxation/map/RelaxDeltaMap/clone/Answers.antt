use Rattle.linker_base.proofs.Imports.{ap, arith, false≢true, length, ◌∙◌}
use Rattle.linker_base.proofs.Sections.{held_empty}
use Rattle.linker_base.proofs.relaxation.map.RelaxDeltaMap.clone.Goals as goal

pub returns-in_err-entries-clause-empty_succeeds : goal.returns-in_err-entries-clause-empty_succeeds
returns-in_err-entries-clause-empty_succeeds c = λ same.
    let none = ap length (held_empty c.self.inside.entries.items (c.self.view_is ∙ same)) in
    let ok = c.in_err-entries.ensures.succeeds (omega (arith, none)) in absurd (false≢true ok)

pub returns-in_err-clone-clause-empty_succeeds : goal.returns-in_err-clone-clause-empty_succeeds
returns-in_err-clone-clause-empty_succeeds c = λ same.
    let none = ap length (held_empty c.self.inside.entries.items (c.self.view_is ∙ same)) in absurd (omega (arith, none))
