use Rattle.linker_runs.proofs.Imports.{BeginsAt, ap, arith, item_at, offset_of, subst, sym, ◌∙◌, ◌≡◌}
use Rattle.linker_runs.proofs.Moved.{none_past, none_at, some_at}
use Rattle.linker_runs.proofs.packing.moved.item_from.Goals as goal

pub returns-then-index-len : goal.returns-then-index-len
returns-then-index-len c apart = none_past c.args.items.now apart c.args.offset c.place_of-index.result (c.place_of-index.ensures.place apart) (omega (arith, c.if-index-len.true, c.len.ensures))

pub returns-then-offset : goal.returns-then-offset
returns-then-offset c apart =
    let items = c.args.items.now in
    let p = c.place_of-index.result in
    let here : offset_of (item_at items p) ≡ c.args.offset = sym (ap offset_of c.at-item.ensures) ∙ sym c.offset.ensures ∙ c.if-offset.true in
    let begins = some_at items apart c.args.offset p (c.place_of-index.ensures.place apart) (omega (arith, c.if-index-len.false, c.len.ensures)) here in
    (p, omega (arith, c.if-index-len.false, c.len.ensures), sym c.at-item.ensures, subst (λ it. BeginsAt it c.args.offset) (sym c.at-item.ensures) begins)

pub returns-else-offset : goal.returns-else-offset
returns-else-offset c apart =
    none_at c.args.items.now apart c.args.offset c.place_of-index.result (c.place_of-index.ensures.place apart) (omega (arith, c.if-index-len.false, c.len.ensures)) (λ e. c.if-offset.false (c.offset.ensures ∙ ap offset_of c.at-item.ensures ∙ e))
