use Rattle.linker_section.proofs.Imports.{IfNone, IfSome, IsQuickStep, arith, length, refl, subst, ◌/◌, ◌<◌, ◌∙◌, ◌≡◌}
use Rattle.linker_section.proofs.Reaching.{below_kept, below_quickly, runs_written}
use Rattle.linker_section.proofs.ascending.write_second_run.Goals as goal

pub loop-index-init : goal.loop-index-init
loop-index-init g c =
    record {
      below = λ before below. below;
      room = refl;
      within = c.requires.within;
      high = tt;
    }

pub loop-index-preserved : goal.loop-index-preserved
loop-index-preserved g c =
    let a = c.args in
    let bytes = a.relocations.now in
    let l = c.loop-index in
    let inv = l.invariant in
    let there : l.index < length bytes / 24 = omega (arith, c.loop-index-test.true, c.relocations_len-len.ensures) in
    let memory = inv.room in
    let room = c.requires.memory in
    let end = c.in-Some.own_end in
    let quick : IsQuickStep a.architecture a.addresses.now bytes (g.S.Symbols.values a.symbols) l.index l.end l.section c.write_quickly.new.section l.memory c.write_quickly.new.memory end =
    subst (λ x. IfSome x (λ next. IsQuickStep a.architecture a.addresses.now bytes (g.S.Symbols.values a.symbols) l.index l.end l.section c.write_quickly.new.section l.memory c.write_quickly.new.memory (next.0)))
    c.in-Some.is c.write_quickly.ensures.some in
    record {
      below = λ before start. below_quickly a.architecture a.addresses.now bytes (g.S.Symbols.values a.symbols) before l.section c.write_quickly.new.section l.memory c.write_quickly.new.memory l.index l.end end there (omega (arith, there, memory, room)) quick (inv.below before start);
      room = c.write_quickly.ensures.len ∙ inv.room;
      within = omega (arith, there);
      high = c.in-Some.ensures.high;
    }

pub returns-in_default-clause-written : goal.returns-in_default-clause-written
returns-in_default-clause-written g c before start =
    let a = c.args in
    let l = c.loop-index in
    let below = below_kept a.architecture a.addresses.now a.relocations.now (g.S.Symbols.values a.symbols) before l.section c.write_quickly.new.section l.memory c.write_quickly.new.memory l.index
    (subst (λ x. IfNone x (c.write_quickly.new.section ≡ l.section)) c.in_default.is c.write_quickly.ensures.none) c.write_quickly.ensures.kept (l.invariant.below before start) in
    (below.within, below.restores)

pub returns-then-are_runs_apart-clause-written : goal.returns-then-are_runs_apart-clause-written
returns-then-are_runs_apart-clause-written g c before start =
    let a = c.args in
    let l = c.loop-index in
    runs_written a.architecture a.addresses.now a.relocations.now (g.S.Symbols.values a.symbols) before l.section l.memory l.index (l.invariant.below before start)
    (omega (arith, c.loop-index-test.false, c.relocations_len-len.ensures)) (c.are_runs_apart.ensures c.if-are_runs_apart.true)

pub returns-else-are_runs_apart-clause-written : goal.returns-else-are_runs_apart-clause-written
returns-else-are_runs_apart-clause-written g c before start =
    let below = c.loop-index.invariant.below before start in (below.within, below.restores)
