use Rattle.linker_runs.proofs.Imports.{ap, arith, cautious_before, choice_of, false, freed_cautiously, get_or, is_in_reach_cautiously, item_at, item_reaches, place_of, refl, sum_by-set, sym, target_of, ℕ, ⊎_elim, ◌+◌, ◌∙◌, ◌≡◌}
use Rattle.linker_runs.proofs.Sweeps.{next_layout, next_forced, next_short}
use Rattle.linker_runs.proofs.relaxation.cautious.lengthen_at.Goals as goal
use Rattle.linker_runs.proofs.relaxation.cautious.lengthen_at.Goals.{then-place-index, else-place-index}

pub returns-clause-freed : goal.returns-clause-freed
returns-clause-freed c =
    next_layout c.args.start c.args.items.now c.args.shapes.now _ c.args.index c.requires.items c.requires.within c.requires.shapes refl c.args.freed.now c.args.more
    c.freed_cautiously-2.result c.freed_cautiously.result (c.freed_cautiously.ensures ∙ ap (λ it. freed_cautiously it (choice_of c.args.shapes.now c.args.index)) c.at-item.ensures) (c.freed_cautiously-2.ensures ∙ ap (λ it. freed_cautiously it (choice_of c.args.shapes.now c.args.index + 1)) c.at-item.ensures) c.requires.freed

pub returns-clause-forced : goal.returns-clause-forced
returns-clause-forced c =
    let items = c.args.items.now in
    let i = c.args.index in
    let choice = choice_of c.args.shapes.now in
    let freed = c.args.freed.now in
    let place = get_or c.args.places.now i 0 in
    let target = place_of items (target_of (item_at items i)) in
    let is_place : place ≡ target = ⊎_elim (λ is. is) (λ far. absurd (let h = far.0 in omega arith)) (c.requires.placed.each i c.requires.within) in
    let here : get_or freed i 0 ≡ cautious_before items choice i = c.requires.freed.below i (omega arith) in
    let at = ap (cautious_before items choice) is_place in
    let there : c.if-place-index.there ≡ cautious_before items choice target =
    elim c.if-place-index.branch [
      | then-place-index w ↦ w.there-is ∙ c.requires.freed.below place (omega (arith, w.if-place-index.true)) ∙ at
      | else-place-index w ↦ (let above = c.requires.freed.above place (omega (arith, w.if-place-index.false)) (omega arith) in let e = w.there-is in omega arith)
    ] in
    let out : is_in_reach_cautiously items choice i ≡ false =
    ap (λ x. item_reaches (item_at items i) (choice i) x (cautious_before items choice target)) (sym here)
    ∙ ap (λ x. item_reaches (item_at items i) (choice i) (get_or freed i 0) x) (sym there)
    ∙ ap (λ it. item_reaches it (choice i) (get_or freed i 0) c.if-place-index.there) (sym c.at-item.ensures) ∙ sym c.reaches.ensures.reached ∙ c.if-reaches.false in
    next_forced c.args.start items c.args.shapes.now _ i c.requires.items c.requires.within c.requires.shapes refl out

pub returns-clause-short : goal.returns-clause-short
returns-clause-short c =
    next_short c.args.start c.args.items.now c.args.shapes.now _ c.args.index c.requires.items c.requires.within c.requires.shapes refl (c.reaches.ensures.can_grow c.if-reaches.false) c.requires.short

pub returns-then-place-len-clause-reached : goal.returns-then-place-len-clause-reached
returns-then-place-len-clause-reached c = λ _. ⊎_elim
    (λ is. absurd (omega (arith, is, c.requires.placed.within c.args.index c.requires.within)))
    (λ far. far.1.cautiously (choice_of c.args.shapes.now))
    (c.requires.placed.each c.args.index c.requires.within)

pub returns-clause-longer : goal.returns-clause-longer
returns-clause-longer c = λ _.
    let xs = c.args.shapes.now in
    omega (arith, sum_by-set (λ (x : ℕ). x) xs c.args.index ((choice_of xs c.args.index) + 1) 0 (omega arith))
