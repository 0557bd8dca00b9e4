use Rattle.linker_riscv64.proofs.Imports.{View, ap, arith, deletions_of, length, map, rank, refl, ◌+◌, ◌-◌, ◌∙◌, ◌≡◌}
use Rattle.linker_riscv64.proofs.Packed.{packed_over}
use Rattle.linker_riscv64.proofs.packing.pack_into.Goals as goal

pub returns-clause-packed : goal.returns-clause-packed
unfolding rank
returns-clause-packed g c = λ valid.
    let ds = deletions_of c.args.deltas.now in
    let s = c.args.section.now in
    let view = c.new-view.ensures.valid valid in
    let room = c.requires.room valid in
    let none : rank ds 0 ≡ 0 = refl in
    let same : 0 + length s ≡ length s = omega arith in
    let from_base : length c.args.out.now ≡ rank ds (0 + length s) - rank ds 0 = omega (arith, room, none, ap (rank ds) same) in
    packed_over c.args.link c.new-view.result.deltas c.args.deltas.now s (map g.C.AsCall.call c.args.calls.now) c.copy_kept.new.packed c.put_calls-accepted.new.packed c.put_calls-accepted.result
    (ap (λ (v : View). v.deltas) c.new-view.ensures.same) (c.in_ok-put_calls.ensures.accepted view) (c.copy_kept.auto.packed ∙ room) c.requires.apart (c.copy_kept.ensures valid from_base)
    (c.put_calls-accepted.ensures.rejected view) (c.put_calls-accepted.ensures.packed view)
