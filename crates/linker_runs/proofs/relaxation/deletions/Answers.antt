use Rattle.linker_runs.proofs.Imports.{AreInOrder, IsValid, [], ap, append-nil, arith, deletions_before, get_or, item_at, len_of, offset_of, subst, sym, ◌++◌, ◌+◌, ◌-◌, ◌∙◌, ◌∷◌}
use Rattle.linker_runs.proofs.Deletions.{deletions_none, deletions_next, deletion_some, deletion_none, deletions_valid}
use Rattle.linker_runs.proofs.relaxation.deletions.Goals as goal
use Rattle.linker_runs.proofs.relaxation.deletions.Goals.{then-kept-index+in_ok-push, else-kept-index}

pub loop-index-init : goal.loop-index-init
loop-index-init c = c.in_ok-raw.ensures.items ∙ sym (deletions_none c.new-list.result c.args.kept.now)

pub loop-index-preserved : goal.loop-index-preserved
loop-index-preserved c =
    let items = c.new-list.result in
    let kept = c.args.kept.now in
    let i = c.loop-index.index in
    let ds = deletions_before items kept i in
    let next = deletions_next items kept i in
    elim c.if-kept-index.branch [
      | then-kept-index+in_ok-push w ↦
          let item = item_at items i in
          let k = get_or kept i 0 in
          ap (λ v. v.items) w.raw-is ∙ w.in_ok-push.ensures.items
          ∙ ap (λ xs. xs ++ (w.offset.result + k, w.lost.result) ∷ []) c.loop-index.invariant
          ∙ ap (λ x. ds ++ (x + k, w.lost.result) ∷ []) (w.offset.ensures ∙ ap offset_of c.at-item.ensures)
          ∙ ap (λ x. ds ++ (offset_of item + k, x) ∷ []) (w.lost.ensures ∙ ap (λ it. len_of it - k) c.at-item.ensures)
          ∙ sym (next ∙ ap (λ xs. ds ++ xs) (deletion_some item k (omega (arith, ap len_of c.at-item.ensures))))
      | else-kept-index w ↦ ap (λ v. v.items) w.raw-is ∙ c.loop-index.invariant ∙ sym (next ∙ ap (λ xs. ds ++ xs) (deletion_none (item_at items i) (get_or kept i 0) (omega (arith, ap len_of c.at-item.ensures))) ∙ append-nil ds)
    ]

pub new-requires : goal.new-requires
new-requires c = subst IsValid (sym (c.deref.ensures.value ∙ c.loop-index.invariant)) (deletions_valid c.args.start c.new-list.result c.args.kept.now (subst (AreInOrder c.args.start) (sym c.new-list.ensures) c.requires.items) c.loop-index.index (omega arith))
