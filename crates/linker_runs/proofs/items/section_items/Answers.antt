use Rattle.linker_runs.proofs.Imports.{All, All-append, All-cons, All-nil, HasKind, Item, List, Makes, MatchOption, Relocation, [], ap, arith, inl, item_of, items_in, map, map_push, subst, sym, ℕ, ◌++◌, ◌∙◌, ◌∷◌}
use Rattle.linker_runs.proofs.Alignments.{ahead_on}
use Rattle.linker_runs.proofs.Made.{made_none, made_less, made_more}
use Rattle.linker_runs.proofs.items.section_items.Goals as goal
use Rattle.linker_runs.proofs.items.section_items.Goals.{in-Some-item_at+in_ok-push+in_ok-push-2, in_default-item_at}

pub loop-index-init : goal.loop-index-init
loop-index-init g c = record { made = made_none _ _ _ (ap items_in c.new-items.ensures.items) c.new-makers.ensures.items; form = subst (All HasKind) (sym c.new-items.ensures.items) (All-nil HasKind); next = inl (omega arith) }

pub loop-index-preserved : goal.loop-index-preserved
loop-index-preserved g c =
    let rs : List Relocation = map g.R.AsRelocation.relocation c.args.relocations.now in
    let makes : ℕ → Item → Type 0 = Makes c.args.machine c.args.section.now c.args.base rs in
    let i = c.loop-index.index in
    let before = c.loop-index.invariant.made in
    record {
      made = elim c.match-item_at.branch [
        | in-Some-item_at+in_ok-push+in_ok-push-2 w ↦
            made_more makes i _ (items_in c.match-item_at.items.items) _ c.match-item_at.makers.items w.in-Some-item_at.item before
            (ap (λ v. items_in v.items) w.items-is ∙ ap items_in w.in_ok-push.ensures.items ∙ map_push item_of _ w.from_item.result
            ∙ ap (λ item. items_in c.loop-index.items.items ++ item ∷ []) w.from_item.ensures.item)
            (ap (λ v. v.items) w.makers-is ∙ w.in_ok-push-2.ensures.items)
            (subst (λ made. MatchOption made ((item : Item) → ¬ makes i item) (makes i)) w.in-Some-item_at.is c.item_at.ensures)
        | in_default-item_at w ↦
            let less = made_less makes i _ _ before (subst (λ made. MatchOption made ((item : Item) → ¬ makes i item) (makes i)) w.in_default-item_at.is c.item_at.ensures) in
            rw (w.items-is, w.makers-is) less
      ];
      form = elim c.match-item_at.branch [
        | in-Some-item_at+in_ok-push+in_ok-push-2 w ↦
            subst (All HasKind) (sym (ap (λ v. v.items) w.items-is ∙ w.in_ok-push.ensures.items))
            (All-append HasKind _ (w.from_item.result ∷ []) c.loop-index.invariant.form (All-cons HasKind w.from_item.result [] w.from_item.ensures.form (All-nil HasKind)))
        | in_default-item_at w ↦ rw (w.items-is) c.loop-index.invariant.form
      ];
      next = ahead_on c.args.machine rs i c.ahead-next.result c.ahead-next.ensures;
    }
