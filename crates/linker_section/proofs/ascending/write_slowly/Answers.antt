use Rattle.linker_section.proofs.Imports.{IsInOrder, IsStep, None, subst, sym}
use Rattle.linker_section.proofs.ascending.write_slowly.Goals as goal

pub returns-in-Ok-clause-step : goal.returns-in-Ok-clause-step
returns-in-Ok-clause-step g c before end below front =
    let a = c.args in
    let order = subst (IsInOrder None a.architecture a.relocations.now before a.section.now a.index) (sym (c.last_field-last.ensures front.last front.is_last)) front.order in
    subst (IsStep a.architecture a.addresses.now a.relocations.now (g.S.Symbols.values a.symbols) None before a.index c.write_one.new.section c.write_one.new.memory) c.in-Ok.is
    (c.write_one.ensures.step before (record { is_limit = tt; below = below; order = order }))

pub returns-in-Err-clause-step : goal.returns-in-Err-clause-step
returns-in-Err-clause-step g c before end below front =
    let a = c.args in
    let order = subst (IsInOrder None a.architecture a.relocations.now before a.section.now a.index) (sym (c.last_field-last.ensures front.last front.is_last)) front.order in
    subst (IsStep a.architecture a.addresses.now a.relocations.now (g.S.Symbols.values a.symbols) None before a.index c.write_one.new.section c.write_one.new.memory) c.in-Err.is
    (c.write_one.ensures.step before (record { is_limit = tt; below = below; order = order }))
