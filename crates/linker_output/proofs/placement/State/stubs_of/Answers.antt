use Rattle.linker_output.proofs.Imports.{Direct, IsStubOf, None, ReachesAt, [], ap, arith, below_more, both_ways, branch_at, get_or, get_or_append_left, get_or_push, get_or_read, inl, inr, length, length-append, refl, subst, sym, way_at, ◌++◌, ◌∷◌}
use Rattle.linker_output.proofs.placement.State.stubs_of.Goals as goal
use Rattle.linker_output.proofs.placement.State.stubs_of.Goals.{in-Direct, in-Near, in-Far+then-reaches_at, in-Far+else-reaches_at}

pub loop-index-preserved : goal.loop-index-preserved
loop-index-preserved c =
    let code = c.args.code.now in
    let before = c.args.before.now in
    let ways = c.args.self.now.ways.items in
    let l = c.loop-index in
    let i = l.index in
    let stubs = l.stubs.items in
    let stub = c.match-index.push in
    let items = c.in_ok-push.ensures.items in
    let branch = branch_at code.branches.now i in
    let last : IsStubOf code before branch (way_at ways i) stub = subst (λ way. IsStubOf code before branch way stub) (get_or_read ways i c.index.result.now (omega arith) c.index.ensures Direct)
    (elim c.match-index.branch [
      | in-Direct w ↦ rw (w.in-Direct.is, w.push-is) refl
      | in-Near w ↦ rw (w.in-Near.is, w.push-is) refl
      | in-Far+then-reaches_at w ↦ rw (w.in-Far.is, w.push-is) (inl (refl, subst (ReachesAt code before branch) w.moved-target.ensures (w.reaches_at.ensures.0 w.if-reaches_at.true)))
      | in-Far+else-reaches_at w ↦ rw (w.in-Far.is, w.push-is) (inr (refl, λ reaches. both_ways w.reaches_at.result w.if-reaches_at.false (w.reaches_at.ensures.1 (subst (ReachesAt code before branch) (sym w.moved-target.ensures) reaches))))
    ]) in
    record {
      len = let one = length-append stubs (stub ∷ []) in let same = ap length items in omega (arith, one, same, l.invariant.len);
      each = rw items (below_more (λ j. IsStubOf code before (branch_at code.branches.now j) (way_at ways j) (get_or (stubs ++ (stub ∷ [])) j None)) i
          (λ j below. subst (IsStubOf code before (branch_at code.branches.now j) (way_at ways j)) (sym (get_or_append_left stubs (stub ∷ []) None j (omega (arith, l.invariant.len, below)))) (l.invariant.each j below))
          (subst (IsStubOf code before branch (way_at ways i)) (sym (get_or_push stubs stub None i l.invariant.len)) last));
    }
