use Rattle.linker_base.proofs.Imports.{arith, deletion_of, map, rank, ◌+◌, ◌≡◌}
use Rattle.linker_base.proofs.Rank.{rank-mono, rank_steps, rank_all_kept, kept_from_rank, rank-le}
use Rattle.linker_base.proofs.relaxation.delta_slice.DeltaSlice.kept_output_offset.Goals as goal

pub returns-then-past-first : goal.returns-then-past-first
returns-then-past-first c valid =
    let ds = map deletion_of c.args.self.now.deltas in
    let first = c.input_to_output_offset-first.ensures valid in
    let past = c.input_to_output_offset-past.ensures valid in
    let steps = rank_steps ds c.args.input_offset c.args.len in
    let small = rank-le ds (c.args.input_offset + c.args.len) in
    let all : rank ds (c.args.input_offset + c.args.len) ≡ rank ds c.args.input_offset + c.args.len = omega (arith, first, past, rank-mono ds c.args.input_offset (c.args.input_offset + c.args.len) (omega arith), c.if-past-first.true) in
    (kept_from_rank ds c.args.input_offset c.args.len all, first)

pub returns-else-past-first : goal.returns-else-past-first
returns-else-past-first c valid kept =
    let ds = map deletion_of c.args.self.now.deltas in
    let first = c.input_to_output_offset-first.ensures valid in
    let past = c.input_to_output_offset-past.ensures valid in
    let all = rank_all_kept ds c.args.input_offset c.args.len kept in
    let small = rank-le ds (c.args.input_offset + c.args.len) in
    c.if-past-first.false (omega arith)
