use Rattle.linker_rewriting.proofs.Imports.{Decision, List, decision_at, decision_in, length, map, relocation_by, rules, subst, sym, ◌/◌, ◌<◌, ◌≡◌}
use Rattle.linker_rewriting.proofs.GlobalPointer.{turned_next}
use Rattle.linker_rewriting.proofs.global_pointer.turn_all.Goals as goal

pub loop-index-preserved : goal.loop-index-preserved
loop-index-preserved c =
    let a = c.args in
    let f = decision_in in
    let ds : List Decision = map f a.decisions.now in
    let k = c.loop-index.index in
    let r = c.relocation_in.result in
    let limit = length a.relocations.now / 24 in
    let less = subst (λ n. k < n) c.relocations_len-index-end.ensures c.loop-index-test.true in
    let same_len : length c.loop-index.relocations ≡ length a.relocations.now =
    c.loop-index.invariant.same_len in
    turned_next (λ n x. relocation_by (decision_at ds n) x) a.relocations.now c.loop-index.relocations c.set_relocation.new.relocations limit k
    r c.relocation_by-relocation.result c.loop-index.invariant less c.relocation_in.ensures
    (subst (λ y. c.relocation_by-relocation.result ≡ relocation_by y r) c.decision_in-decision.ensures c.relocation_by-relocation.ensures)
    c.set_relocation.ensures.set
    (λ n below ne. c.set_relocation.ensures.others n (subst (λ l. n < l / 24) (sym same_len) below) ne)
    (search rules)
