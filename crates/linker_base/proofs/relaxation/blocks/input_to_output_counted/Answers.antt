use Rattle.linker_base.proofs.Imports.{BeginsBelow, arith, length, list_subject, ◌+◌, ◌<◌, ◌≡◌}
use Rattle.linker_base.proofs.Search.{blank, list_heads_agree, same_listed, parted_from_point, rank_at_last, rank_at_none}
use Rattle.linker_base.proofs.relaxation.blocks.input_to_output_counted.Goals as goal

pub returns-in-Some-clause-output : goal.returns-in-Some-clause-output
returns-in-Some-clause-output g c =
    let deltas = g.K.Looks.listed c.args.looks.now in
    let listed = c.len-len.ensures.valid in
    let last = c.in-Some.last in
    let count : c.count_passing.result ≡ last + 1 = omega (arith, c.in-Some.ensures.0, c.in-Some.ensures.1) in
    let within : last < length deltas = omega (arith, c.count_passing.ensures.within) in
    let parted = parted_from_point (list_subject deltas) c.args.input_offset c.count_passing.result listed.valid c.count_passing.ensures.within (λ parted. c.count_passing.ensures.point parted (list_heads_agree deltas (BeginsBelow c.args.input_offset))) in
    let ranked = rank_at_last deltas listed c.args.input_offset last within (rw count at parted) in
    let read = rw (same_listed c.count_passing.ensures.probes) at (c.delta.ensures.delta blank) in
    omega (arith, ranked.0, ranked.1, rw read at c.rank_after.ensures)

pub returns-in-None-clause-output : goal.returns-in-None-clause-output
returns-in-None-clause-output g c =
    let deltas = g.K.Looks.listed c.args.looks.now in
    let listed = c.len-len.ensures.valid in
    let count : c.count_passing.result ≡ 0 = omega (arith, c.in-None.ensures) in
    let parted = parted_from_point (list_subject deltas) c.args.input_offset c.count_passing.result listed.valid c.count_passing.ensures.within (λ parted. c.count_passing.ensures.point parted (list_heads_agree deltas (BeginsBelow c.args.input_offset))) in
    rank_at_none deltas listed c.args.input_offset (rw count at parted)
