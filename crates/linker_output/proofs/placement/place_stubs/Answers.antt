use Rattle.linker_output.proofs.Imports.{AreUsed, IfOk-weaker, arith, inl, inr, length, refl, subst, ◌≡◌}
use Rattle.linker_output.proofs.placement.place_stubs.Goals as goal

pub returns-then-branch-clause-ok : goal.returns-then-branch-clause-ok
returns-then-branch-clause-ok c =
    let placement = c.in_ok-placement.placement in
    let len : c.len.result ≡ length placement.layout.stubs.items = (let e = c.len.ensures in omega arith) in
    (c.in_ok-placement.ensures.ok, subst (AreUsed placement.stubs.items) len (subst (λ v. AreUsed v c.len.result) c.deref.ensures.value (c.in_ok-are_used.ensures.used c.if-branch.true)))

pub returns-then-branch-clause-shared : goal.returns-then-branch-clause-shared
returns-then-branch-clause-shared c = inl (c.in_ok-placement.ensures.shared refl)

pub returns-else-branch-clause-shared : goal.returns-else-branch-clause-shared
returns-else-branch-clause-shared c =
    let placement = c.in_ok-placement.placement in
    let len : c.len.result ≡ length placement.layout.stubs.items = (let e = c.len.ensures in omega arith) in
    let unused = subst (λ v. ¬ AreUsed v c.len.result) c.deref.ensures.value (c.in_ok-are_used.ensures.unused c.if-branch.false) in
    IfOk-weaker c.place_by-else-branch.result _ _
    (λ p h. inr (placement, c.in_ok-placement.ensures.ok, c.in_ok-placement.ensures.shared refl, subst (λ n. ¬ AreUsed placement.stubs.items n) len unused))
    c.place_by-else-branch.ensures.ok
