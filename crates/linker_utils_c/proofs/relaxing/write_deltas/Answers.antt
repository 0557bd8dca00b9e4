use Rattle.linker_utils_c.proofs.Imports.{AreInOrder, IsValid, RecordsDeletions, [], ap, arith, bytes_of, deletion_of, deletions_before, deletions_none, deletions_valid, get_or, get_or-set_other, item_at, item_of, items_in, len_of, length, length-append, length-map, length-set, offset_of, refl, subst, sym, take, ℕ, ◌+◌, ◌-◌, ◌<◌, ◌∙◌, ◌∷◌, ◌≡◌, ◌≢◌, ◌≤◌}
use Rattle.linker_utils_c.proofs.RunItems.{no_numbers, item_in, offset_in, len_in, run_next, run_same, run_sum, run_listed, run_none}
use Rattle.linker_utils_c.proofs.relaxing.write_deltas.Goals as goal
use Rattle.linker_utils_c.proofs.relaxing.write_deltas.Goals.{then-stay-from, else-stay-from}

pub loop-index-init : goal.loop-index-init
loop-index-init c = record {
  room = omega arith;
  few = omega arith;
  counted = ap length (sym (deletions_none (items_in c.args.items.now) c.args.kept.now));
  listed = λ start order. run_none (items_in c.args.items.now) c.args.kept.now;
  sum = λ start order. ap bytes_of (sym (deletions_none (items_in c.args.items.now) c.args.kept.now));
  left = λ k d up. refl;
}

pub loop-index-preserved : goal.loop-index-preserved
loop-index-preserved c =
    let items = items_in c.args.items.now in
    let kept = c.args.kept.now in
    let i = c.loop-index.index in
    let k = c.loop-index.count in
    let deltas = c.loop-index.deltas in
    let within : i < length c.args.items.now = omega arith in
    let inside : i < length items = omega (arith, length-map c.args.items.now item_of) in
    let here = item_in c.args.items.now i within in
    let place : offset_of (item_at items i) ≡ (get_or c.args.items.now i no_numbers).offset = ap offset_of here ∙ offset_in (get_or c.args.items.now i no_numbers) in
    let len : len_of (item_at items i) ≡ (get_or c.args.items.now i no_numbers).len = ap len_of here ∙ len_in (get_or c.args.items.now i no_numbers) in
    let from = c.from.ensures in
    let before = c.loop-index.invariant in
    elim c.if-stay-from.branch [
      | then-stay-from w ↦
          let less : get_or kept i 0 < len_of (item_at items i) = omega arith in
          let delta = w.delta_of-delta.result in
          let room : k < length deltas = omega (arith, before.few, before.room) in
          let next = run_next items kept i less in
          let long = ap length next in
          let more = length-append (deletions_before items kept i) ((offset_of (item_at items i) + get_or kept i 0, len_of (item_at items i) - get_or kept i 0) ∷ []) in
          let bytes : delta.bytes_deleted ≡ len_of (item_at items i) - get_or kept i 0 = omega (arith, w.delta_of-delta.ensures.bytes) in
          let total : (start : ℕ) → AreInOrder start items → delta.cumulative_deleted ≡ bytes_of (deletions_before items kept (i + 1)) = λ start order.
          let sums = run_sum start items kept i order inside less in
          let sum = before.sum start order in
          omega (arith, sums.0, sums.1, w.delta_of-delta.ensures.sum (omega (arith, sums.0, sums.1))) in
          record {
            room = ap length w.deltas-is ∙ length-set deltas k delta ∙ before.room;
            few = omega (arith, before.few, w.count-is);
            counted = omega (arith, before.counted, w.count-is);
            listed = λ start order.
                let ends = order.ends i inside in
                let at : delta.input_offset ≡ offset_of (item_at items i) + get_or kept i 0 = omega (arith, w.delta_of-delta.ensures.place (omega arith)) in
                let same : deletion_of delta ≡ (offset_of (item_at items i) + get_or kept i 0, len_of (item_at items i) - get_or kept i 0) =
                ap (λ x. (x, delta.bytes_deleted)) at ∙ ap (λ x. (offset_of (item_at items i) + get_or kept i 0, x)) bytes in
                let sums = run_sum start items kept i order inside less in
                let sum : delta.cumulative_deleted ≡ bytes_of (deletions_before items kept i) + delta.bytes_deleted = omega (arith, total start order, sums.0) in
                subst (λ n. RecordsDeletions (deletions_before items kept (i + 1)) (take n c.if-stay-from.deltas)) (sym w.count-is)
                (subst (λ ds. RecordsDeletions (deletions_before items kept (i + 1)) (take (k + 1) ds)) (sym w.deltas-is)
                (run_listed items kept i k deltas delta less room (before.listed start order) same sum));
            sum = λ start order. w.cumulative_deleted-is ∙ total start order;
            left = λ n d up.
                let other : n ≢ k = omega (arith, w.count-is) in
                ap (λ ds. get_or ds n d) w.deltas-is ∙ get_or-set_other deltas k n delta d other ∙ before.left n d (omega (arith, w.count-is));
          }
      | else-stay-from w ↦
          let all : len_of (item_at items i) ≤ get_or kept i 0 = omega arith in
          let next = run_same items kept i all in
          record {
            room = ap length w.deltas-is ∙ before.room;
            few = omega (arith, before.few, w.count-is);
            counted = w.count-is ∙ before.counted ∙ ap length (sym next);
            listed = λ start order.
                subst (λ ds. RecordsDeletions ds (take c.if-stay-from.count c.if-stay-from.deltas)) (sym next)
                (subst (λ n. RecordsDeletions (deletions_before items kept i) (take n c.if-stay-from.deltas)) (sym w.count-is)
                (subst (λ ds. RecordsDeletions (deletions_before items kept i) (take k ds)) (sym w.deltas-is) (before.listed start order)));
            sum = λ start order. w.cumulative_deleted-is ∙ before.sum start order ∙ ap bytes_of (sym next);
            left = λ n d up. ap (λ ds. get_or ds n d) w.deltas-is ∙ before.left n d (omega (arith, w.count-is));
          }
    ]

pub returns-clause-deleted : goal.returns-clause-deleted
returns-clause-deleted c = λ start order.
    let items = items_in c.args.items.now in
    let kept = c.args.kept.now in
    let deltas = take c.loop-index.count c.loop-index.deltas in
    let at : c.loop-index.index ≡ length items = omega (arith, length-map c.args.items.now item_of) in
    let listing = subst (λ n. RecordsDeletions (deletions_before items kept n) deltas) at (c.loop-index.invariant.listed start order) in
    record {
      same = listing.same;
      listed = record {
        valid = subst IsValid (sym listing.same) (deletions_valid start items kept order (length items) (omega arith));
        listing = subst (λ ds. RecordsDeletions ds deltas) (sym listing.same) listing;
      };
    }
