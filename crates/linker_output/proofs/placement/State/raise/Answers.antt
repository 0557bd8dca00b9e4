use Rattle.linker_output.proofs.Imports.{Back, Branch, Code, Front, IfOk, IfOk-weaker, IsOutAhead, IsOutThere, State, StaysUnshared, arith, branch_at, length, level, passed, subst, sum_by, sym, true, way_at, ℕ, ◌-◌, ◌<◌, ◌∙◌, ◌≡◌}
use Rattle.linker_output.proofs.placement.State.raise.Goals as goal

-- out of reach ahead of it, by the state before
front_out : (code : Code) (old new : State) (branch : Branch) (ahead : ℕ) → new ≡ old → ahead ≡ passed code.boundaries.now branch.offset
    → (ahead < length code.boundaries.now → IsOutThere code new branch ahead Front) → IsOutAhead code old branch
front_out code old new branch ahead same there out h =
    subst (λ k. IsOutThere code old branch k Front) there (subst (λ s. IsOutThere code s branch ahead Front) same (out (subst (λ k. k < length code.boundaries.now) (sym there) h)))

pub go_to-requires-clause-higher : goal.go_to-requires-clause-higher
go_to-requires-clause-higher c =
    subst (λ (s : State). level (way_at s.ways.items c.args.index) < 2) (sym (c.in_ok-go_far.ensures.same c.if-branch.false)) c.requires.higher

pub go_to-requires-clause-left : goal.go_to-requires-clause-left
go_to-requires-clause-left c =
    let a = c.args in
    subst (λ s. StaysUnshared a.code.now s (branch_at a.code.now.branches.now a.index)) (sym (c.in_ok-go_far.ensures.same c.if-branch.false)) (c.in_ok-go_far.ensures.left c.if-branch.false)

pub returns-then-ahead-eq0-clause-out : goal.returns-then-ahead-eq0-clause-out
returns-then-ahead-eq0-clause-out c = λ _. (
  front_out c.args.code.now c.args.self.now c.go_far.new.self (branch_at c.args.code.now.branches.now c.args.index) c.passed-ahead.result (c.in_ok-go_far.ensures.same c.if-branch.false) c.passed-ahead.ensures.passed (c.in_ok-go_to.ensures.none c.if-branch-2.false),
  λ b at. absurd (omega arith),
)

pub go_to-requires-2-clause-higher : goal.go_to-requires-2-clause-higher
go_to-requires-2-clause-higher c =
    let same = c.in_ok-go_to.ensures.same c.if-branch-2.false ∙ c.in_ok-go_far.ensures.same c.if-branch.false in
    subst (λ (s : State). level (way_at s.ways.items c.args.index) < 2) (sym same) c.requires.higher

pub go_to-requires-2-clause-left : goal.go_to-requires-2-clause-left
go_to-requires-2-clause-left c =
    let a = c.args in
    let same = c.in_ok-go_to.ensures.same c.if-branch-2.false ∙ c.in_ok-go_far.ensures.same c.if-branch.false in
    subst (λ s. StaysUnshared a.code.now s (branch_at a.code.now.branches.now a.index)) (sym same) (c.in_ok-go_far.ensures.left c.if-branch.false)

pub returns-clause-higher : goal.returns-clause-higher
returns-clause-higher c =
    let same = c.in_ok-go_to.ensures.same c.if-branch-2.false ∙ c.in_ok-go_far.ensures.same c.if-branch.false in
    subst (λ (s : State). IfOk c.go_to-2.result (λ w. w ≡ true → sum_by level s.ways.items < sum_by level c.go_to-2.new.self.ways.items)) same c.go_to-2.ensures.higher

pub returns-clause-same : goal.returns-clause-same
returns-clause-same c =
    IfOk-weaker c.go_to-2.result _ _ (λ w f e. f e ∙ (c.in_ok-go_to.ensures.same c.if-branch-2.false ∙ c.in_ok-go_far.ensures.same c.if-branch.false)) c.go_to-2.ensures.same

pub returns-clause-may_share : goal.returns-clause-may_share
returns-clause-may_share c =
    IfOk-weaker c.go_to-2.result _ _ (λ w f. f ∙ (c.in_ok-go_to.ensures.may_share ∙ c.in_ok-go_far.ensures.may_share)) c.go_to-2.ensures.may_share

pub returns-clause-out : goal.returns-clause-out
returns-clause-out c =
    let code = c.args.code.now in
    let branch = branch_at code.branches.now c.args.index in
    let far = c.in_ok-go_far.ensures.same c.if-branch.false in
    let same = c.in_ok-go_to.ensures.same c.if-branch-2.false ∙ far in
    IfOk-weaker c.go_to-2.result _ _ (λ w f e. (
      front_out code c.args.self.now c.go_far.new.self branch c.passed-ahead.result far c.passed-ahead.ensures.passed (c.in_ok-go_to.ensures.none c.if-branch-2.false),
      λ b at. subst (λ k. IsOutThere code c.args.self.now branch k Back) (let same : c.passed-ahead.result - 1 ≡ b = omega arith in same)
          (subst (λ s. IsOutThere code s branch (c.passed-ahead.result - 1) Back) same (f e (omega arith))),
    )) c.go_to-2.ensures.none
