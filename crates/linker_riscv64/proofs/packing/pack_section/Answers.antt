use Rattle.linker_riscv64.proofs.Imports.{All, AreApart, AreValidDeltas, CanJump, IsFilled, IsPacked, IsRejected, OfAuipc, ap, arith, deletions_of, drop, get_or, length, map, map-id, rank, refl, subst, sym, take, take_at, ◌++◌, ◌+◌, ◌-◌, ◌∙◌, ◌≡◌}
use Rattle.linker_riscv64.proofs.packing.pack_section.Goals as goal

pub unreachable-requires : goal.unreachable-requires
unreachable-requires c =
    (subst (λ e. IsRejected OfAuipc (deletions_of c.as_delta_slice-view.result.deltas) c.args.section.now (get_or (map (λ j. j) c.args.calls.now) c.in-Err.rejected.index (0, 0)) e) c.in-NotACall.is ((c.in-Err.ensures.rejected c.as_delta_slice-view.ensures.valid).here (0, 0))).2 tt

pub returns-in-Ok-clause-accepted : goal.returns-in-Ok-clause-accepted
returns-in-Ok-clause-accepted c =
    subst (All (CanJump OfAuipc c.args.deltas.now c.args.section.now)) (map-id c.args.calls.now)
    (subst (λ ds. All (CanJump OfAuipc ds c.args.section.now) (map (λ j. j) c.args.calls.now)) c.as_delta_slice-view.ensures.same (c.in-Ok.ensures.accepted c.as_delta_slice-view.ensures.valid))

pub returns-in-Ok-clause-packed : goal.returns-in-Ok-clause-packed
unfolding rank
returns-in-Ok-clause-packed c =
    let s = c.args.section.now in
    let view = c.as_delta_slice-view.ensures.valid in
    let ds = deletions_of c.as_delta_slice-view.result.deltas in
    let n = c.in_ok-packed.packed.len in
    let kept = c.copy_kept.new.packed in
    let out = c.put_calls.new.packed in
    let following = drop (length kept) c.in_ok-packed.packed.items in
    let listed = c.deltas.ensures in
    let whole : length c.deref_mut.result.now ≡ n = c.deref_mut.ensures.len in
    let made : n ≡ rank ds (length s) = omega (arith, c.in_ok-packed.ensures.len, c.input_to_output_offset-len.ensures view) in
    let lent : c.deref_mut-2.result.now ≡ kept = c.deref_mut-2.ensures.value ∙ take_at kept following n (c.copy_kept.auto.packed ∙ whole) in
    let room : length c.deref_mut-2.result.now ≡ rank ds (length s) = ap length lent ∙ c.copy_kept.auto.packed ∙ whole ∙ made in
    let back = take_at out (drop (length out) (take n (kept ++ following))) n (c.put_calls.auto.packed ∙ room ∙ sym made) in
    let none : rank (deletions_of c.deltas.result.now) 0 ≡ 0 = refl in
    let same : 0 + length s ≡ length s = omega arith in
    let from_base : length c.deref_mut.result.now ≡ rank (deletions_of c.deltas.result.now) (0 + length s) - rank (deletions_of c.deltas.result.now) 0 =
    omega (arith, whole, made, none, ap (rank (deletions_of c.deltas.result.now)) same, ap (λ l. rank (deletions_of l) (length s)) listed) in
    let filled : IsFilled ds 0 s c.deref_mut-2.result.now =
    subst (IsFilled ds 0 s) (sym lent) (subst (λ l. IsFilled (deletions_of l) 0 s kept) listed (c.copy_kept.ensures (subst AreValidDeltas (sym listed) view.valid) from_base)) in
    let packed = c.in-Ok.ensures.packed view room (subst AreApart (sym (map-id c.args.calls.now)) c.requires) filled in
    subst (IsPacked OfAuipc c.args.deltas.now s c.args.calls.now) (sym back)
    (subst (λ calls. IsPacked OfAuipc c.args.deltas.now s calls out) (map-id c.args.calls.now)
    (subst (λ ds. IsPacked OfAuipc ds s (map (λ j. j) c.args.calls.now) out) c.as_delta_slice-view.ensures.same packed))
