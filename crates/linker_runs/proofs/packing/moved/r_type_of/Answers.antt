use Rattle.linker_runs.proofs.Imports.{BeginsAt, ap, arith, deletions_of, end_of, gone, item_at, kept_len, of_item, other, r_type_at_item, rank, refl, subst, sym, ◌∙◌, ◌≡◌}
use Rattle.linker_runs.proofs.Moved.{apart_items, gone_of, kept_of}
use Rattle.linker_runs.proofs.packing.moved.r_type_of.Goals as goal

pub returns-then-next-here : goal.returns-then-next-here
returns-then-next-here c = λ valid here bytes base start small ready.
    let next = c.position_from-next.ensures.position valid here (omega arith) in
    gone (gone_of (deletions_of c.args.deltas.now) c.args.here.now.input_offset c.position_from-next.result.input_offset c.position_from-next.ensures.offset (sym next.output ∙ c.if-next-here.true ∙ here.output)) refl

pub returns-in-Some : goal.returns-in-Some
returns-in-Some c = λ valid here bytes base start small ready.
    let ds = deletions_of c.args.deltas.now in
    let items = c.args.items.now in
    let item = c.in-Some.item in
    let p = c.args.here.now.input_offset in
    let next = c.position_from-next.ensures.position valid here (omega arith) in
    let kept = kept_of ds p c.position_from-next.result.input_offset c.position_from-next.ensures.offset (λ same. c.if-next-here.false (next.output ∙ same ∙ sym here.output)) in
    let found = c.in-Some.ensures (apart_items items (λ i within. (ready i within).apart)) in
    let is : item_at items found.0 ≡ item = found.2 in
    let begins : BeginsAt item p = found.3 in
    let inside = (ready found.0 found.1).inside.1 in
    let end : c.position_from-end.result.input_offset ≡ end_of item = omega (arith, c.position_from-end.ensures.offset, c.saturating_add.ensures, c.offset.ensures, c.len.ensures, inside, ap end_of is, small) in
    let past = c.position_from-end.ensures.position valid here (omega (arith, c.position_from-end.ensures.offset, end, begins.1)) in
    let len : c.saturating_sub-kept.result ≡ kept_len ds item = omega (arith, c.saturating_sub-kept.ensures, (past.output ∙ ap (rank ds) end), (here.output ∙ ap (rank ds) (sym begins.0))) in
    of_item found.0 kept found.1 (subst (λ it. BeginsAt it p) (sym is) begins)
    (c.r_type_at_item.ensures ∙ ap (λ n. r_type_at_item c.args.machine item n c.args.r_type) len ∙ ap (λ it. r_type_at_item c.args.machine it (kept_len ds it) c.args.r_type) (sym is))

pub returns-in-None : goal.returns-in-None
returns-in-None c = λ valid here bytes base start small ready.
    let next = c.position_from-next.ensures.position valid here (omega arith) in
    other (kept_of (deletions_of c.args.deltas.now) c.args.here.now.input_offset c.position_from-next.result.input_offset c.position_from-next.ensures.offset (λ same. c.if-next-here.false (next.output ∙ same ∙ sym here.output)))
    (c.in-None.ensures (apart_items c.args.items.now (λ i within. (ready i within).apart))) refl
