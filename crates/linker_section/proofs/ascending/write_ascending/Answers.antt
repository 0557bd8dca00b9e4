use Rattle.linker_section.proofs.Imports.{IfNone, IfSome, IsFront, IsQuickStep, IsSlowStep, IsStep, None, Ok, ap, arith, length, refl, relocation_of, rules, subst, sym, take, ◌<◌, ◌^◌, ◌∙◌, ◌≡◌}
use Rattle.linker_section.proofs.Reaching.{below_first, below_kept, below_quickly, front_first, front_quickly, front_slowly, end_fits, there_is, there_isnt, rest_after, first_run, only_run}
use Rattle.linker_section.proofs.ascending.write_ascending.Goals.{After-write_slowly, In-Ok-Some}
use Rattle.linker_section.proofs.ascending.write_ascending.Given.{Over}
use Rattle.linker_section.proofs.ascending.write_ascending.Goals as goal

pub loop-entry-init : goal.loop-entry-init
loop-entry-init g c =
    let a = c.args in
    record {
      below = below_first a.architecture a.addresses.now a.relocations.now (g.S.Symbols.values a.symbols) a.section.now a.memory.now;
      front = front_first a.architecture a.relocations.now a.section.now;
      room = refl;
      rest = refl;
      within = omega arith;
      following = omega arith;
      high = tt;
    }

pub write_quickly-requires-clause-is : goal.write_quickly-requires-clause-is
write_quickly-requires-clause-is g c =
    c.relocation_of-relocation.ensures ∙ ap relocation_of (c.in-Some.ensures.cases.0 ∙ ap (take 24) c.loop-entry.invariant.rest)

pub loop-entry-preserved-in-Some-write_quickly : goal.loop-entry-preserved-in-Some-write_quickly
loop-entry-preserved-in-Some-write_quickly g c =
    let a = c.args in
    let bytes = a.relocations.now in
    let l = c.loop-entry in
    let inv = l.invariant in
    let cases = c.in-Some.ensures.cases in
    let there = there_is bytes l.rest.now l.index inv.rest (omega (arith, cases.2)) in
    let following = inv.following in
    let memory = inv.room in
    let room = c.requires in
    let end = c.in-Some-write_quickly.own_end in
    let quick : IsQuickStep a.architecture a.addresses.now bytes (g.S.Symbols.values a.symbols) l.index l.end l.section c.write_quickly.new.section l.memory c.write_quickly.new.memory end =
    subst (λ x. IfSome x (λ next. IsQuickStep a.architecture a.addresses.now bytes (g.S.Symbols.values a.symbols) l.index l.end l.section c.write_quickly.new.section l.memory c.write_quickly.new.memory (next.0)))
    c.in-Some-write_quickly.is c.write_quickly.ensures.some in
    record {
      below = below_quickly a.architecture a.addresses.now bytes (g.S.Symbols.values a.symbols) a.section.now l.section c.write_quickly.new.section l.memory c.write_quickly.new.memory l.index l.end end there (omega (arith, there, memory, room)) quick inv.below;
      front = front_quickly a.architecture a.addresses.now bytes (g.S.Symbols.values a.symbols) a.section.now l.section c.write_quickly.new.section l.memory c.write_quickly.new.memory l.index l.end end l.step following inv.below.same_length quick inv.front;
      room = c.write_quickly.ensures.len ∙ inv.room;
      rest = cases.1 ∙ rest_after bytes l.rest.now l.index inv.rest;
      within = omega (arith, there);
      following = omega (arith, following);
      high = c.in-Some-write_quickly.ensures.high;
    }

-- what the slow step says, from where the quick one changed nothing
step : (g : Over) (c : After-write_slowly g) → IsSlowStep c.args.architecture c.args.addresses.now c.args.relocations.now (g.S.Symbols.values c.args.symbols) c.args.section.now c.loop-entry.index c.write_slowly.new.section c.write_slowly.new.memory c.write_slowly.result
step g c =
    let a = c.args in
    let bytes = a.relocations.now in
    let l = c.loop-entry in
    let inv = l.invariant in
    let same = subst (λ x. IfNone x (c.write_quickly.new.section ≡ l.section)) c.in_default-write_quickly.is c.write_quickly.ensures.none in
    c.write_slowly.ensures.step a.section.now l.end
    (below_kept a.architecture a.addresses.now bytes (g.S.Symbols.values a.symbols) a.section.now l.section c.write_quickly.new.section l.memory c.write_quickly.new.memory l.index same c.write_quickly.ensures.kept inv.below)
    (subst (λ section. IsFront a.architecture bytes a.section.now section l.index l.step l.end) (sym same) inv.front)

-- the same where there is a next step
next_step : (g : Over) (c : In-Ok-Some g) → IsStep c.args.architecture c.args.addresses.now c.args.relocations.now (g.S.Symbols.values c.args.symbols) None c.args.section.now c.loop-entry.index c.write_slowly.new.section c.write_slowly.new.memory (Ok c.in-Ok-Some.next)
next_step g c =
    let a = c.args in
    subst (IsSlowStep a.architecture a.addresses.now a.relocations.now (g.S.Symbols.values a.symbols) a.section.now c.loop-entry.index c.write_slowly.new.section c.write_slowly.new.memory)
    (c.in-Ok-Some.is ∙ ap Ok c.in-Ok-Some.field-0-is) (step g (goal.at.In-Ok-Some g c).After-write_slowly)

pub overflow_add-end : goal.overflow_add-end
overflow_add-end g c =
    let a = c.args in
    let next = c.in-Ok-Some.next in
    let long : length a.section.now < 2 ^ 63 = search rules in
    let fits : next.last.offset < 2 ^ 64 = search rules in
    let small = end_fits a.architecture a.addresses.now a.relocations.now (g.S.Symbols.values a.symbols) a.section.now c.write_slowly.new.section c.write_slowly.new.memory next.index next.last (next_step g (goal.at.overflow_add-end g c).In-Ok-Some).1 long fits in
    omega (arith, small)

pub relocations_from-rest-requires : goal.relocations_from-rest-requires
relocations_from-rest-requires g c = (next_step g (goal.at.relocations_from-rest-requires g c).In-Ok-Some).1.below.within

pub loop-entry-smaller : goal.loop-entry-smaller
loop-entry-smaller g c =
    let l = c.loop-entry in
    let len = c.in-Some.ensures.cases.2 in
    omega (arith, ((next_step g (goal.at.loop-entry-smaller g c).In-Ok-Some).0), (there_is c.args.relocations.now l.rest.now l.index l.invariant.rest (omega (arith, len))))

pub loop-entry-preserved : goal.loop-entry-preserved
loop-entry-preserved g c =
    let a = c.args in
    let inv = c.loop-entry.invariant in
    let reached = (next_step g (goal.at.loop-entry-preserved g c).In-Ok-Some).1 in
    record {
      below = reached.below;
      front = front_slowly a.architecture a.relocations.now a.section.now c.write_slowly.new.section c.in-Ok-Some.next reached.order;
      room = c.write_slowly.ensures.len ∙ (c.write_quickly.ensures.len ∙ inv.room);
      rest = c.relocations_from-rest.ensures;
      within = reached.below.within;
      following = omega arith;
      high = inv.high;
    }

pub returns-in-Ok-None-clause-ok : goal.returns-in-Ok-None-clause-ok
returns-in-Ok-None-clause-ok g c =
    let a = c.args in
    let bytes = a.relocations.now in
    let l = c.loop-entry in
    first_run a.architecture a.addresses.now bytes (g.S.Symbols.values a.symbols) a.section.now c.write_slowly.new.section c.write_slowly.new.memory l.index
    (there_is bytes l.rest.now l.index l.invariant.rest (omega (arith, c.in-Some.ensures.cases.2)))
    (subst (IsSlowStep a.architecture a.addresses.now bytes (g.S.Symbols.values a.symbols) a.section.now l.index c.write_slowly.new.section c.write_slowly.new.memory)
    (c.in-Ok-None.is ∙ ap Ok c.in-Ok-None.field-0-is) (step g (goal.at.returns-in-Ok-None-clause-ok g c).After-write_slowly))

pub returns-in-Err-clause-err : goal.returns-in-Err-clause-err
returns-in-Err-clause-err g c =
    let a = c.args in
    subst (IsSlowStep a.architecture a.addresses.now a.relocations.now (g.S.Symbols.values a.symbols) a.section.now c.loop-entry.index c.write_slowly.new.section c.write_slowly.new.memory)
    c.in-Err.is (step g (goal.at.returns-in-Err-clause-err g c).After-write_slowly)

pub returns-clause-ok : goal.returns-clause-ok
returns-clause-ok g c =
    let a = c.args in
    let bytes = a.relocations.now in
    let l = c.loop-entry in
    let inv = l.invariant in
    only_run a.architecture a.addresses.now bytes (g.S.Symbols.values a.symbols) a.section.now l.section l.memory l.index inv.below inv.front.order.apart
    (there_isnt bytes l.rest.now l.index inv.rest c.in_default.ensures.cases)

pub write_quickly-requires-clause-within : goal.write_quickly-requires-clause-within
write_quickly-requires-clause-within g c =
    let l = c.loop-entry in
    there_is c.args.relocations.now l.rest.now l.index l.invariant.rest (omega (arith, c.in-Some.ensures.cases.2))

pub write_slowly-requires-clause-within : goal.write_slowly-requires-clause-within
write_slowly-requires-clause-within g c =
    let l = c.loop-entry in
    there_is c.args.relocations.now l.rest.now l.index l.invariant.rest (omega (arith, c.in-Some.ensures.cases.2))

pub loop-entry-smaller-in-Some-write_quickly : goal.loop-entry-smaller-in-Some-write_quickly
loop-entry-smaller-in-Some-write_quickly g c =
    let l = c.loop-entry in
    omega (arith, (there_is c.args.relocations.now l.rest.now l.index l.invariant.rest (omega (arith, c.in-Some.ensures.cases.2))))
