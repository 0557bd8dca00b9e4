use Rattle.linker_utils_c.proofs.Imports.{Arrays, refl}
use Rattle.linker_utils_c.proofs.Placing.{of_different, of_short, of_placed}
use Rattle.linker_utils_c.proofs.placement.linker_utils_place_stubs_nonnull.Goals as goal

pub returns-then-not-have_lengths : goal.returns-then-not-have_lengths
returns-then-not-have_lengths c =
    let old : Arrays = record { stubs = c.args.stubs.now; stubs_used = c.args.stubs_used.now; ways = c.args.ways.now; before = c.args.before.now } in
    of_different c.args.branches.now c.args.targets.now c.args.boundaries.now c.args.shape.now old c.args.faulty.now _
    (λ have. (let e = c.have_lengths.ensures.1 (have.ways, have.before) in let f = c.if-not-have_lengths.true in cc))
    refl

pub returns-then-is_short : goal.returns-then-is_short
returns-then-is_short c =
    let old : Arrays = record { stubs = c.args.stubs.now; stubs_used = c.args.stubs_used.now; ways = c.args.ways.now; before = c.args.before.now } in
    let lengths = c.have_lengths.ensures.0 c.if-not-have_lengths.false in
    of_short c.args.branches.now c.args.targets.now c.args.boundaries.now c.args.shape.now old c.args.faulty.now _
    (record { ways = lengths.0; before = lengths.1 }) (c.is_short.ensures.short c.if-is_short.true)
    refl

pub returns : goal.returns
returns c =
    let old : Arrays = record { stubs = c.args.stubs.now; stubs_used = c.args.stubs_used.now; ways = c.args.ways.now; before = c.args.before.now } in
    let new : Arrays = record { stubs = c.place.new.stubs; stubs_used = c.place.new.stubs_used; ways = c.place.new.ways; before = c.place.new.before } in
    let lengths = c.have_lengths.ensures.0 c.if-not-have_lengths.false in
    of_placed c.args.branches.now c.args.targets.now c.args.boundaries.now c.args.shape.now old new
    c.args.faulty.now c.place.new.faulty c.place.result (record { ways = lengths.0; before = lengths.1 })
    (c.is_short.ensures.long c.if-is_short.false) _ (record { branches_are = refl; targets_are = refl; boundaries_are = refl; shape_is = refl }) c.place.ensures
