use Rattle.linkfix.proofs.Imports.{arith, nat_tests, refl, sym, ◌-◌, ◌∙◌, ◌≡◌, ◌≤◌}
use Rattle.linkfix.proofs.CallLemmas.{far_by_next, far_from_none}
use Rattle.linkfix.proofs.accepted_calls.AcceptedCalls.are_far_from.Goals as goal

pub returns-in-Some : goal.returns-in-Some
returns-in-Some c =
    let calls = c.self.inside.targets.entries in
    let site = c.args.site in
    let next = c.in-Some.next.now in
    let first : c.saturating_sub-first.result ≡ site - 3 = c.saturating_sub-first.ensures in
    let far : c.saturating_sub.result ≡ next - site = c.saturating_sub.ensures in
    let are = rw first at (sym (c.range.ensures.between tt) ∙ c.in-Some.ensures.steps) in
    let all = far_by_next calls site (next, c.in-Some.field-0-1.now) c.next.new.self c.self.invariant are in
    rw (← c.self.view_is) (
      λ holds. let le : 4 ≤ c.saturating_sub.result = grind (arith, nat_tests, holds) in all.1 (omega (arith, le, far)),
      λ are_far. let le = all.0 are_far in grind (arith, nat_tests, le, far),
    )

pub returns-in-None : goal.returns-in-None
returns-in-None c =
    let first : c.saturating_sub-first.result ≡ c.args.site - 3 = c.saturating_sub-first.ensures in
    let none = rw first at (sym (c.range.ensures.between tt) ∙ c.in-None.ensures.steps.0) in
    rw (← c.self.view_is) (λ _. far_from_none c.self.inside.targets.entries c.args.site none, λ _. refl)
