use Rattle.linker_riscv64.proofs.Imports.{AreShrinkable, AreValidDeltas, IsTrue, IsValid, RecordsDeletions, deletions_of, map-id, none_decides, subst, sym, ◌+◌, ◌↔◌}
use Rattle.linker_riscv64.proofs.Shrunk.{shrinkable_taken}
use Rattle.linker_riscv64.proofs.shrinking.calls_shrinkable.Goals as goal

pub returns : goal.returns
returns c =
    let deltas = c.deltas.result.now in
    let same = sym c.deltas.ensures.listing.same in
    let valid : AreValidDeltas deltas =
    record { valid = subst IsValid same c.deltas.ensures.valid; listing = subst (λ ds. RecordsDeletions ds deltas) same c.deltas.ensures.listing } in
    subst (λ ds. IsTrue c.is_none.result ↔ AreShrinkable ds c.args.calls.now) (sym same)
    (subst (λ calls. IsTrue c.is_none.result ↔ AreShrinkable (deletions_of deltas) calls) (map-id c.args.calls.now)
    (none_decides c.first_not_shrinkable.result c.is_none.result _ _ c.is_none.ensures (c.first_not_shrinkable.ensures valid)
    (λ k first all. first.here (shrinkable_taken (deletions_of deltas) _ (k + 1) all))))
