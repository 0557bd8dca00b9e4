use Rattle.linker_base.proofs.Imports.{IsPlacedUpTo, arith, bytes_of, deletion_of, list_subject, map, take, ◌+◌, ◌≡◌}
use Rattle.linker_base.proofs.Search.{blank, list_heads_agree, same_listed, searched}
use Rattle.linker_base.proofs.relaxation.blocks.output_to_input_counted.Goals as goal

-- the bytes up to the last deletion that is passed
pub overflow_add-result : goal.overflow_add-result
overflow_add-result g c =
    let deltas = g.K.Looks.listed c.args.looks.now in
    let listed = c.len-len.ensures.valid in
    let last = c.in-Some.last in
    let count : c.count_passing.result ≡ last + 1 = omega (arith, c.in-Some.ensures.0, c.in-Some.ensures.1) in
    let found = searched (list_subject deltas) listed c.args.output_offset c.count_passing.result c.count_passing.ensures.within (λ parted. c.count_passing.ensures.point parted (list_heads_agree deltas (IsPlacedUpTo c.args.output_offset))) in
    let read = rw (same_listed c.count_passing.ensures.probes) at (c.delta.ensures.delta blank) in
    let sum : c.delta.result.cumulative_deleted ≡ bytes_of (take c.count_passing.result (map deletion_of deltas)) = rw (read, count) (listed.listing.sums last blank (omega (arith, c.count_passing.ensures.within))) in
    record { fits = omega (arith, found.1.0 c.requires.fits, sum) }

pub returns-in-Some-clause-input : goal.returns-in-Some-clause-input
returns-in-Some-clause-input g c =
    let deltas = g.K.Looks.listed c.args.looks.now in
    let listed = c.len-len.ensures.valid in
    let last = c.in-Some.last in
    let count : c.count_passing.result ≡ last + 1 = omega (arith, c.in-Some.ensures.0, c.in-Some.ensures.1) in
    let found = searched (list_subject deltas) listed c.args.output_offset c.count_passing.result c.count_passing.ensures.within (λ parted. c.count_passing.ensures.point parted (list_heads_agree deltas (IsPlacedUpTo c.args.output_offset))) in
    let read = rw (same_listed c.count_passing.ensures.probes) at (c.delta.ensures.delta blank) in
    let sum : c.delta.result.cumulative_deleted ≡ bytes_of (take c.count_passing.result (map deletion_of deltas)) = rw (read, count) (listed.listing.sums last blank (omega (arith, c.count_passing.ensures.within))) in
    rw sum found.0

pub returns-in-None-clause-input : goal.returns-in-None-clause-input
returns-in-None-clause-input g c =
    let deltas = g.K.Looks.listed c.args.looks.now in
    let listed = c.len-len.ensures.valid in
    let count : c.count_passing.result ≡ 0 = omega (arith, c.in-None.ensures) in
    let found = searched (list_subject deltas) listed c.args.output_offset c.count_passing.result c.count_passing.ensures.within (λ parted. c.count_passing.ensures.point parted (list_heads_agree deltas (IsPlacedUpTo c.args.output_offset))) in
    let zero_more : c.args.output_offset + 0 ≡ c.args.output_offset = omega arith in
    rw zero_more at (rw count at found.0)
