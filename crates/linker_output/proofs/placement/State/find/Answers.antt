use Rattle.linker_output.proofs.Imports.{Front, IsAt, IsStubAt, ap, arith, at, false≢true, get_or_read, length, list_of, subst, sym, ℕ, ◌+◌, ◌-◌, ◌<◌, ◌∙◌, ◌≡◌}
use Rattle.linker_output.proofs.Finding.{before_head, before_next}
use Rattle.linker_output.proofs.placement.State.find.Goals as goal

pub loop-above-init : goal.loop-above-init
loop-above-init c =
    let state = c.args.self.now in
    let lists = c.requires.state.lists in
    let n = length c.args.code.now.branches.now in
    let l = c.list_of-list.result in
    let one = lists.one_each in
    let len : c.len.result ≡ n = (let e = c.len.ensures in omega arith) in
    let l_is : l ≡ list_of n c.args.boundary c.args.target = c.list_of-list.ensures.list ∙ ap (λ k. list_of k c.args.boundary c.args.target) len in
    let low = c.list_of-list.ensures.within in
    let head : c.index-above.result.now ≡ at state.heads.items l = get_or_read state.heads.items l c.index-above.result.now (omega arith) c.index-above.ensures 0 in
    let within = lists.within l in
    record {
      within = omega arith;
      listed = λ j e. lists.first_is l j (sym head ∙ e) ∙ l_is;
      rest = λ s is. (let h = before_head n state.stubs.items state.heads.items state.nexts.items c.args.boundary c.args.part c.args.target s lists is in let same = ap (at state.heads.items) l_is in omega arith);
    }

pub loop-above-preserved : goal.loop-above-preserved
loop-above-preserved c =
    let state = c.args.self.now in
    let lists = c.requires.state.lists in
    let inv = c.loop-above.invariant in
    let n = length c.args.code.now.branches.now in
    let test = c.loop-above-test.true in
    let within = inv.within in
    let j : ℕ = c.loop-above.above - 1 in
    let below : j < length state.stubs.items = omega arith in
    let above : c.loop-above.above ≡ j + 1 = omega arith in
    let one = lists.one_next in
    let stub = get_or_read state.stubs.items j c.index.result.now below c.index.ensures (record { boundary = 0; part = Front; index = 0; target = 0 }) in
    let none : ¬ IsAt state.stubs.items c.args.boundary c.args.part c.args.target j = λ is. false≢true (sym c.if-is_at.false ∙ c.is_at.ensures.1 (subst (λ t. IsStubAt t c.args.boundary c.args.part c.args.target) (sym stub) is.there)) in
    let next : c.index-above-in-loop-above.result.now ≡ at state.nexts.items j = get_or_read state.nexts.items j c.index-above-in-loop-above.result.now (omega arith) c.index-above-in-loop-above.ensures 0 in
    let lower = lists.lower j below in
    let listed = inv.listed j above in
    record {
      within = omega arith;
      listed = λ i e. lists.next_is i j below (sym next ∙ e) ∙ listed;
      rest = λ s is. (let b = inv.rest s is in let h = before_next n state.stubs.items state.heads.items state.nexts.items c.args.boundary c.args.part c.args.target j s lists below listed none is (omega arith) in omega arith);
    }

pub returns-clause-none : goal.returns-clause-none
returns-clause-none c = λ s is. (let h = c.loop-above.invariant.rest s is in let t = c.loop-above-test.false in absurd (omega arith))
