use Rattle.linker_section.proofs.Imports.{IsStep, Some, arith, refl, subst, ◌∙◌}
use Rattle.linker_section.proofs.Reaching.{reached_first, reached_all}
use Rattle.linker_section.proofs.sections.write_in_any_order.Goals as goal

pub loop-index-init : goal.loop-index-init
loop-index-init g c =
    let a = c.args in
    record {
      reached = reached_first a.architecture a.addresses.now a.relocations.now (g.S.Symbols.values a.symbols) (Some a.limit) a.section.now a.memory.now c.requires.limit;
      room = refl;
    }

pub loop-index-preserved : goal.loop-index-preserved
loop-index-preserved g c =
    let a = c.args in
    let inv = c.loop-index.invariant in
    let step = subst (IsStep a.architecture a.addresses.now a.relocations.now (g.S.Symbols.values a.symbols) (Some a.limit) a.section.now c.loop-index.index c.write_one.new.section c.write_one.new.memory) c.in-Ok.is
    (c.write_one.ensures.step a.section.now inv.reached) in
    record { reached = step.1; room = c.write_one.ensures.len ∙ inv.room }

pub returns-in-Err-clause-err : goal.returns-in-Err-clause-err
returns-in-Err-clause-err g c =
    let a = c.args in
    subst (IsStep a.architecture a.addresses.now a.relocations.now (g.S.Symbols.values a.symbols) (Some a.limit) a.section.now c.loop-index.index c.write_one.new.section c.write_one.new.memory) c.in-Err.is
    (c.write_one.ensures.step a.section.now c.loop-index.invariant.reached)

pub returns-clause-ok : goal.returns-clause-ok
returns-clause-ok g c =
    let a = c.args in
    let f = c.loop-index-test.false in let e = c.relocations_len-len.ensures in
    reached_all a.architecture a.addresses.now a.relocations.now (g.S.Symbols.values a.symbols) (Some a.limit) a.section.now c.loop-index.section c.loop-index.memory c.loop-index.index c.loop-index.last
    c.loop-index.invariant.reached (omega (arith, f, e))
