use Rattle.linker_output.proofs.Imports.{Group, List, arith, length, level, most_bytes, stubs_in, subst, sum_by, sym, ◌*◌, ◌+◌, ◌<◌, ◌^◌, ◌≤◌}
use Rattle.linker_output.proofs.Bounds.{levels_most, room_for, room_most}
use Rattle.linker_output.proofs.Near.{places_kept}
use Rattle.linker_output.proofs.placement.State.settle.Goals as goal

pub lay_out-requires-clause-fits : goal.lay_out-requires-clause-fits
lay_out-requires-clause-fits c =
    subst (λ (gs : List Group). c.args.code.now.shape.unit * length gs + c.args.code.now.shape.len * sum_by stubs_in gs < 2 ^ 62) (sym c.deref.ensures.value)
    (room_for c.args.code.now c.loop-passes.self c.requires.code c.loop-passes.invariant.state)

pub sweep-requires-clause-most : goal.sweep-requires-clause-most
sweep-requires-clause-most c =
    let room = room_most c.args.code.now c.loop-passes.self c.loop-passes.invariant.state in
    let same : c.args.code.now.shape.unit * length c.deref.result.now + c.args.code.now.shape.len * sum_by stubs_in c.deref.result.now ≤ most_bytes c.args.code.now =
    subst (λ (gs : List Group). c.args.code.now.shape.unit * length gs + c.args.code.now.shape.len * sum_by stubs_in gs ≤ most_bytes c.args.code.now) (sym c.deref.ensures.value) room in
    λ k. (let m = c.lay_out.ensures.most k in omega arith)

pub loop-passes-smaller : goal.loop-passes-smaller
loop-passes-smaller c =
    let more : sum_by level c.loop-passes.self.ways.items < sum_by level c.sweep.new.self.ways.items = rw c.in-Changed.is at c.in_ok-sweep.ensures.swept in
    omega (arith, levels_most c.sweep.new.self.ways.items, c.in_ok-sweep.ensures.state.ways)

pub find_places-requires-clause-parts : goal.find_places-requires-clause-parts
find_places-requires-clause-parts c = c.loop-passes.invariant.state.parts

pub returns-in-Settled-clause-places : goal.returns-in-Settled-clause-places
returns-in-Settled-clause-places c =
    let swept = rw c.in-Settled.is at c.in_ok-sweep.ensures.swept in
    places_kept c.args.code.now c.loop-passes.self c.sweep.new.self c.lay_out.new.before c.find_places.new.places.items swept.0 c.in_ok-find_places.ensures

pub returns-in-Stuck-clause-places : goal.returns-in-Stuck-clause-places
returns-in-Stuck-clause-places c =
    let swept = rw c.in-Stuck.is at c.in_ok-sweep.ensures.swept in
    places_kept c.args.code.now c.loop-passes.self c.sweep.new.self c.lay_out.new.before c.find_places.new.places.items swept.0 c.in_ok-find_places.ensures
