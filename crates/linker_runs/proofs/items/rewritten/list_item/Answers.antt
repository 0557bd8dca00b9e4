use Rattle.linker_runs.proofs.Imports.{HasKind, Makes, ap, arith, both_ways, cases_lt, deleted_at, drop-set-lt, drop_more_same, end_of, item_of, length, length-map, map, offset_of, rewritten_of, subst, sym, ⊎_elim, ◌+◌, ◌<◌, ◌∙◌, ◌≡◌, ◌≤◌}
use Rattle.linker_runs.proofs.Listed.{put_made}
use Rattle.linker_runs.proofs.items.rewritten.list_item.Goals as goal

pub returns-clause-listed : goal.returns-clause-listed
returns-clause-listed g c = λ m s rs len is before.
    let f = item_of in
    let ds = map g.L.AsDeletion.deletion c.args.deleted.now in
    let base = c.args.base in
    let all = c.list_deletions-all in
    let item = c.args.item.now in
    let x = c.from_item.result in
    let after = c.offset-4.result + c.len.result in
    let i = c.args.index in
    let so_far = all.ensures.listed m s rs i len (omega arith) before in
    let there : f x ≡ item = c.from_item.ensures.item in
    let made : Makes m s base rs i (f x) = subst (Makes m s base rs i) (sym there) is in
    let following : all.result.end ≤ offset_of (f x) = omega (arith, c.if-offset-all.false, c.offset-3.ensures, ap offset_of there) in
    let end : after ≡ end_of item = omega (arith, c.offset-4.ensures, c.len.ensures) in
    let next : all.result.gone < length c.args.deleted.now → after ≤ base + (deleted_at ds all.result.gone).0 = λ more. ⊎_elim
    (λ (cut : base + (deleted_at ds all.result.gone).0 < after). absurd (both_ways c.is_cut.result c.if-is_cut.false (c.is_cut.ensures.1 (more, omega (arith, cut, end)))))
    (λ (clear : after ≤ base + (deleted_at ds all.result.gone).0). clear)
    (cases_lt (base + (deleted_at ds all.result.gone).0) after) in
    put_made f HasKind (rewritten_of m s base rs ds) i all.result.gone all.result.count all.result.end after all.new.out all.new.makers x so_far
    (omega (arith, so_far.few, all.ensures.range.1, c.requires.index, c.requires.room, all.auto.out))
    (omega (arith, so_far.few, all.ensures.range.1, c.requires.index, c.requires.makers, all.auto.makers))
    made c.from_item.ensures.form following (end ∙ sym (ap end_of there)) (λ more. next (omega (arith, more, (length-map c.args.deleted.now g.L.AsDeletion.deletion))))

pub returns-clause-others_stay : goal.returns-clause-others_stay
returns-clause-others_stay g c =
    let all = c.list_deletions-all in
    let n = all.result.count in (
      drop-set-lt (n + 1) all.new.out n _ (omega arith) ∙ drop_more_same all.new.out c.args.out.now n all.ensures.others_stay.0,
      drop-set-lt (n + 1) all.new.makers n _ (omega arith) ∙ drop_more_same all.new.makers c.args.makers.now n all.ensures.others_stay.1,
    )
