use Rattle.linker_runs.proofs.Imports.{AreListedIn, HasKind, IsDeleted, Rewritten, ap, arith, deleted_at, deleted_end, drop-set-lt, drop_more_same, end_of, inl, inr, item_of, length-map, map, refl, rewritten_of, set, subst, sym, ◌+◌, ◌∙◌, ◌≡◌}
use Rattle.linker_runs.proofs.Listed.{put_deleted}
use Rattle.linker_runs.proofs.items.rewritten.list_deletions.Goals as goal

pub loop-gone-init : goal.loop-gone-init
loop-gone-init g c = record { count = refl; last = inl (refl, refl, refl); listed = λ m s rs i e b h. h; others = refl; makers_stay = refl }

pub loop-gone-preserved : goal.loop-gone-preserved
loop-gone-preserved g c =
    let f = item_of in
    let ds = map g.L.AsDeletion.deletion c.args.deleted.now in
    let k = c.loop-gone.gone in
    let n = c.loop-gone.count in
    let base = c.args.base in
    let inv = c.loop-gone.invariant in
    let x = c.from_item.result in
    let at = c.deletion_at-start.result in
    let here : at ≡ deleted_at ds k = c.deletion_at-start.ensures in
    let start : at.0 ≡ (deleted_at ds k).0 = ap (λ d. d.0) here in
    let end : base + (at.0 + c.from.result) ≡ base + deleted_end ds k = omega (arith, start, (c.from.ensures ∙ ap (λ d. d.1) here)) in
    let is : IsDeleted base (deleted_at ds k) (f x) = subst (λ d. IsDeleted base d (f x)) here (subst (IsDeleted base at) (sym c.from_item.ensures.item) c.deletion.ensures.deleted) in
    let ends : base + (at.0 + c.from.result) ≡ end_of (f x) = omega (arith, c.from.ensures, c.deletion.ensures.end, ap end_of c.from_item.ensures.item) in
    record {
      count = omega (arith, inv.count);
      last = inr (k, (omega arith), (omega (arith, start, c.if-base-start.false)), end);
      listed = λ m s rs i len few before.
          let so_far = inv.listed m s rs i len few before in
          let all = length-map c.args.deleted.now g.L.AsDeletion.deletion in
          let of : Rewritten = rewritten_of m s base rs ds in
          let after = base + (at.0 + c.from.result) in
          let put = put_deleted f HasKind of i k n c.loop-gone.end after c.loop-gone.out c.loop-gone.makers x so_far
          (omega (arith, so_far.few, few, c.requires.room, c.loop-gone.auto.out, c.loop-gone-test.true))
          (omega (arith, so_far.few, few, c.requires.makers, c.loop-gone.auto.makers, c.loop-gone-test.true))
          is c.from_item.ensures.form (omega (arith, all)) ends (λ more. omega (arith, end, (c.requires.apart k) (omega (arith, more, all)))) in
          subst (λ first. AreListedIn f HasKind of i (k + 1) (n + 1) after (set c.loop-gone.out n x) (set c.loop-gone.makers n (first + k))) len put;
      others = drop-set-lt (n + 1) c.loop-gone.out n x (omega arith) ∙ drop_more_same c.loop-gone.out c.args.out.now n inv.others;
      makers_stay = drop-set-lt (n + 1) c.loop-gone.makers n _ (omega arith) ∙ drop_more_same c.loop-gone.makers c.args.makers.now n inv.makers_stay;
    }
