use Rattle.linker_output.proofs.Imports.{StubAt, [], ap, arith, at, branch_at, get_or_read, group_at, length, list_of, new_way, part_of, refl, rules, set, with_one, ◌++◌, ◌<◌, ◌∙◌, ◌∷◌, ◌≡◌}
use Rattle.linker_output.proofs.Adding.{added}
use Rattle.linker_output.proofs.placement.State.add.Goals as goal

pub returns-clause-state : goal.returns-clause-state
returns-clause-state c =
    let state = c.args.self.now in
    let b = c.args.boundary in
    let part = c.args.part in
    let n = length c.args.code.now.branches.now in
    let target = (branch_at c.args.code.now.branches.now c.args.index).target in
    let groups = c.requires.state.groups in
    let lists = c.requires.state.lists in
    let inside = c.requires.boundary in
    let group : c.index-group.result.now ≡ group_at state.groups.items b = get_or_read state.groups.items b c.index-group.result.now (omega arith) c.index-group.ensures (record { front = 0; middle = 0; back = 0 }) in
    let way : c.way.result ≡ new_way part (length state.stubs.items) = c.way.ensures ∙ ap (new_way part) (omega arith) in
    let stub : StubAt = record { boundary = b; part = part; index = c.stubs_of.result; target = target } in
    let l = c.list_of-list.result in
    let l_is : l ≡ list_of n b target = search (rules, c.list_of-list.ensures.list, lists.one_each) in
    let l_within : l < n = let w = c.list_of-list.ensures.within in let e = lists.one_each in omega arith in
    let head : c.index.result.now ≡ at state.heads.items l = (let e = lists.one_each in get_or_read state.heads.items l c.index.result.now (omega arith) c.index.ensures 0) in
    added c.args.code.now state _ c.args.index b part stub c.requires.code c.requires.state c.requires.within c.requires.boundary c.requires.higher c.requires.place
    (ap (λ n. record { boundary = b; part = part; index = n; target = target }) (c.stubs_of.ensures ∙ ap (part_of part) group))
    c.in_ok-push.ensures.items (ap (set state.groups.items b) (c.with_one.ensures ∙ ap (with_one part) group)) (ap (set state.ways.items c.args.index) way) (search rules)
    c.requires.new c.requires.needed l l_is l_within (search rules) (c.in_ok-push-2.ensures.items ∙ ap (λ h. state.nexts.items ++ (h ∷ [])) head) refl
