use Rattle.linker_runs.proofs.Imports.{IsInside, IsPieceOf, IsUnwritable, [], ap, arith, both_ways, deletions_of, end_of, false, is_fixed, item_at, length, offset_of, piece_bytes, rank, rank-mono, section_of, subst, sym, ◌+◌, ◌-◌, ◌∙◌, ◌≡◌}
use Rattle.linker_runs.proofs.PackedItems.{writable_excludes, written_start, written_step, written_end, piece_len, piece_whole, piece_becomes}
use Rattle.linker_runs.proofs.packing.put_items.Goals as goal

pub loop-index-init : goal.loop-index-init
loop-index-init c = record {
  rises = λ ready some. omega (arith, c.requires.begin, (ready 0 some).inside.0);
  position = λ valid begun ready. begun;
  put = λ valid begun room ready filled.
      written_start c.args.machine (section_of c.args.section.now c.args.base (deletions_of c.args.deltas.now) c.args.start) c.args.items.now c.args.packed.now filled;
}

pub returns-then-not-is_inside : goal.returns-then-not-is_inside
returns-then-not-is_inside c = λ valid begun room ready stays filled.
    let ds = deletions_of c.args.deltas.now in
    absurd (both_ways c.is_inside.result c.if-not-is_inside.true ((c.is_inside.ensures ds c.args.start).1 (subst (IsInside (section_of c.args.section.now c.args.base ds c.args.start)) (sym c.at-item.ensures) (ready c.loop-index.index (omega arith)).inside)))

pub piece_of-requires-clause-at : goal.piece_of-requires-clause-at
piece_of-requires-clause-at c = c.position_from-at.ensures.offset ∙ c.offset.ensures

pub piece_of-requires-clause-end : goal.piece_of-requires-clause-end
piece_of-requires-clause-end c =
    let within = ((c.is_inside.ensures [] 0).0 c.if-not-is_inside.false).1 in
    omega (arith, c.position_from-past.ensures.offset, c.saturating_add.ensures, c.offset-in-loop-index.ensures, c.len.ensures, within, c.requires.small)

pub piece_of-requires-clause-from : goal.piece_of-requires-clause-from
piece_of-requires-clause-from c = ((c.is_inside.ensures [] 0).0 c.if-not-is_inside.false).0

pub piece_of-requires-clause-to : goal.piece_of-requires-clause-to
piece_of-requires-clause-to c = ((c.is_inside.ensures [] 0).0 c.if-not-is_inside.false).1

pub returns-in-Err : goal.returns-in-Err
returns-in-Err c = λ valid begun room ready stays filled.
    let s = section_of c.args.section.now c.args.base (deletions_of c.args.deltas.now) c.args.start in
    let position = c.position_from-at.ensures.position valid (c.loop-index.invariant.position valid begun ready) (omega (arith, c.loop-index.invariant.rises ready (omega arith), (ap offset_of c.at-item.ensures), c.offset.ensures)) in
    let rejected = subst (λ it. (is_fixed it ≡ false) × IsUnwritable c.args.machine s it c.in-Err._error) c.at-item.ensures (c.in-Err.ensures.rejected valid position (c.position_from-past.ensures.position valid position (omega (arith, c.position_from-at.ensures.offset, c.offset.ensures, c.saturating_add.ensures, c.offset-in-loop-index.ensures)))) in
    absurd (writable_excludes c.args.machine s (item_at c.args.items.now c.loop-index.index) c.in-Err._error ((ready c.loop-index.index (omega arith)).writable rejected.0) rejected.1)

pub loop-index-preserved : goal.loop-index-preserved
loop-index-preserved c =
    let ds = deletions_of c.args.deltas.now in
    let s = section_of c.args.section.now c.args.base ds c.args.start in
    let items = c.args.items.now in
    let n = c.loop-index.index in
    let machine = c.args.machine in
    let here = ap offset_of c.at-item.ensures in
    let place : c.position_from-at.result.input_offset ≡ offset_of (item_at items n) = c.position_from-at.ensures.offset ∙ c.offset.ensures ∙ here in
    record {
      rises = λ ready more.
          let same : n + 1 - 1 ≡ n = omega arith in
          omega (arith, place, ((ready (n + 1) more).apart (omega arith)), ap (λ k. end_of (item_at items k)) same);
      position = λ valid begun ready. c.position_from-at.ensures.position valid (c.loop-index.invariant.position valid begun ready) (omega (arith, c.loop-index.invariant.rises ready (omega arith), here, c.offset.ensures));
      put = λ valid begun room ready filled.
          let position = c.position_from-at.ensures.position valid (c.loop-index.invariant.position valid begun ready) (omega (arith, c.loop-index.invariant.rises ready (omega arith), here, c.offset.ensures)) in
          let piece = subst (λ it. IsPieceOf machine s it c.in-Ok.piece) c.at-item.ensures (c.in-Ok.ensures.piece valid position (c.position_from-past.ensures.position valid position (omega (arith, c.position_from-at.ensures.offset, c.offset.ensures, c.saturating_add.ensures, c.offset-in-loop-index.ensures)))) in
          let same : length c.put_piece.new.packed ≡ length c.loop-index.packed = c.put_piece.auto.packed in
          let room' = sym same ∙ room in
          let up = rank-mono ds c.args.base (offset_of (item_at items n)) ((ready n (omega arith)).inside).0 in
          let a = position.output ∙ ap (rank ds) place in
          written_step machine s items n c.saturating_sub-place.result c.loop-index.packed c.put_piece.new.packed (piece_bytes machine c.in-Ok.piece)
          (omega arith) ready room' same (c.loop-index.invariant.put valid begun room' ready filled)
          (omega (arith, c.saturating_sub-place.ensures, a, (begun.output ∙ ap (rank ds) c.requires.begin))) (piece_len machine s (item_at items n) c.in-Ok.piece piece)
          (λ fits. c.put_piece.ensures fits (piece_whole machine s (item_at items n) c.in-Ok.piece piece))
          (piece_becomes machine s (item_at items n) c.in-Ok.piece piece);
    }

pub returns : goal.returns
returns c = λ valid begun room ready stays filled.
    let s = section_of c.args.section.now c.args.base (deletions_of c.args.deltas.now) c.args.start in
    let room' = c.loop-index.auto.packed ∙ room in
    written_end c.args.machine s c.args.items.now c.loop-index.index c.loop-index.packed (omega arith) room' (record { gaps = λ i within. (ready i within).gap; end = stays }) (c.loop-index.invariant.put valid begun room' ready filled)
