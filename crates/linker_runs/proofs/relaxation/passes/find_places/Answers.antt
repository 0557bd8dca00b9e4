use Rattle.linker_runs.proofs.Imports.{IsAlwaysInReach, ap, arith, below_more, get_or-set_other, get_or-set_same, inl, inr, item_at, item_reaches, length, place_of, sym, target_of, ◌<◌, ◌∙◌, ◌≡◌, ◌≢◌, ◌⊎◌}
use Rattle.linker_runs.proofs.AlwaysInReach.{always_in_reach}
use Rattle.linker_runs.proofs.relaxation.passes.find_places.Goals as goal
use Rattle.linker_runs.proofs.relaxation.passes.find_places.Goals.{then-reaches, else-reaches}

pub loop-index-preserved : goal.loop-index-preserved
loop-index-preserved c =
    let start = c.args.start in
    let items = c.args.items.now in
    let i = c.loop-index.index in
    let lt : i < length c.loop-index.places = omega arith in
    let here : (c.if-reaches.places ≡ place_of items (target_of (item_at items i))) ⊎ ((length items < c.if-reaches.places) × IsAlwaysInReach start items i) =
    elim c.if-reaches.branch [
      | then-reaches w ↦ inr (omega (arith, w.places-is, c.requires.fewer), always_in_reach start items c.requires.items i (omega arith) (sym (c.reaches.ensures.reached ∙ ap (λ it. item_reaches it 0 0 0) c.at-item.ensures) ∙ w.if-reaches.true))
      | else-reaches w ↦ inl (w.places-is ∙ w.place_of.ensures.place c.requires.items.in_order.apart ∙ ap (place_of items) (w.target.ensures ∙ ap target_of c.at-item.ensures))
    ] in
    record {
      each = below_more _ _
          (λ k h. let ne : k ≢ i = omega arith in rw get_or-set_other (c.loop-index.invariant.each k h))
          (rw get_or-set_same here);
    }
