use Rattle.linker_base.proofs.Imports.{RelaxDelta, ap, arith, deletion_of, drop, get_or, get_or-map, length, length-map, map, min, sym, take, ℕ, ◌+◌, ◌-◌, ◌∙◌, ◌≡◌}
use Rattle.linker_base.proofs.Copied.{copied_first, copied_step, copied_end, begin_above}
use Rattle.linker_base.proofs.packing.copy_kept.Goals as goal

pub loop-index-init : goal.loop-index-init
loop-index-init c = record {
  within = omega arith;
  copied = λ valid room. copied_first (map deletion_of c.args.deltas.now) c.args.base c.args.section.now c.args.packed.now c.first_run-first.result.0 c.first_run-first.result.1 (c.first_run-first.ensures.first valid);
}

pub loop-index-preserved : goal.loop-index-preserved
loop-index-preserved c =
    let s = c.args.section.now in
    let k = c.loop-index.index in
    let none : RelaxDelta = record { input_offset = 0; cumulative_deleted = 0; bytes_deleted = 0 } in
    let here : get_or (map deletion_of c.args.deltas.now) k (0, 0) ≡ deletion_of (get_or c.args.deltas.now k none) = get_or-map deletion_of c.args.deltas.now k none (0, 0) (omega arith) in
    record {
      within = omega (arith, c.put-at.ensures.end, c.put-at.auto.packed);
      copied = λ valid room.
          let same : length c.loop-index.packed ≡ length c.put-at.new.packed = sym c.put-at.auto.packed in
          copied_step _ _ _ _ _ _ _ _ _ (c.loop-index.invariant.copied valid (same ∙ room)) (same ∙ room) c.put-at.ensures.bytes
          c.saturating_add-from.result c.put-at.result valid.valid (omega (arith, length-map c.args.deltas.now deletion_of))
          (c.between.ensures ∙ ap (λ n. take (min (n - c.args.base) (length s) - min (c.loop-index.from - c.args.base) (length s)) (drop (min (c.loop-index.from - c.args.base) (length s)) s)) (sym (ap (λ (d : ℕ × ℕ). d.0) here)))
          c.put-at.ensures.end
          (omega (arith, c.saturating_add-from.ensures, c.from.ensures, ap (λ (d : ℕ × ℕ). d.0) here, ap (λ (d : ℕ × ℕ). d.1) here));
    }

pub returns : goal.returns
returns c = λ valid room.
    let ends = c.args.base + length c.args.section.now in
    let room = c.loop-index.auto.packed ∙ room in
    copied_end _ _ _ _ _ _ _ _ _ (c.loop-index.invariant.copied valid room) room c.put-end.ensures.bytes
    (λ j d h inside. begin_above c.args.deltas.now ends c.count_begun-following.result valid (c.count_begun-following.ensures.begun valid) j d (omega (arith, c.loop-index-test.false)) inside)
    c.between-2.ensures
