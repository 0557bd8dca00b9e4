use Rattle.linker_elf.proofs.Imports.{bit_and, rules, ◌/◌, ◌^◌}
use Rattle.linker_elf.proofs.Plans.{fits_by, writes_by}
use Rattle.linker_elf.proofs.elf.rows.write_planned.Goals as goal

pub store-requires-clause-fits : goal.store-requires-clause-fits
store-requires-clause-fits c =
    let plan = c.args.plan.now in
    fits_by c.args._entry.now plan c.args.window c.requires.sound c.requires.takes c.requires.plan c.requires.window
    (bit_and (c.cast_unsigned.result / 2 ^ plan.start) plan.taken) c.load.result c.window_with-written.result c.load.ensures.small c.window_with-written.ensures

pub returns : goal.returns
returns c =
    let plan = c.args.plan.now in
    writes_by c.args._entry.now plan c.args.window c.requires.sound c.requires.takes c.requires.plan c.requires.window c.args.value
    (bit_and (c.cast_unsigned.result / 2 ^ plan.start) plan.taken) c.load.result c.window_with-written.result c.args.dest.now c.store.new.bytes
    (search rules) c.load.ensures.loaded c.load.ensures.small c.window_with-written.ensures c.store.ensures.stored c.store.ensures.rest
