use Rattle.linker_output.proofs.Imports.{IsNear, branch_at, subst, sym}
use Rattle.linker_output.proofs.Finding.{new_near, out_there}
use Rattle.linker_output.proofs.placement.State.go_to.Goals as goal

pub take-requires-clause-way : goal.take-requires-clause-way
take-requires-clause-way c =
    let here = c.in-Some.ensures.some in
    (here.within, here.there.of_target, c.is_near-is_near.ensures.0 c.if-not-is_near.false)

pub add-requires-clause-place : goal.add-requires-clause-place
add-requires-clause-place c =
    let branch = branch_at c.args.code.now.branches.now c.args.index in
    new_near c.args.code.now c.args.self.now branch c.args.boundary c.args.part c.requires.next
    (subst (IsNear c.args.code.now branch) c.new_stub-new.ensures.stub (c.is_near-fits.ensures.0 c.if-not-fits.false), c.requires.left)

pub returns-then-not-is_near-clause-none : goal.returns-then-not-is_near-clause-none
returns-then-not-is_near-clause-none c = λ _ inside.
    out_there c.args.code.now c.args.self.now (branch_at c.args.code.now.branches.now c.args.index) c.args.boundary c.args.part c.in-Some.stub c.requires.code c.requires.state inside
    c.in-Some.ensures.some (λ near. (let e = c.is_near-is_near.ensures.1 near in let f = c.if-not-is_near.true in cc))

pub returns-then-not-fits-clause-none : goal.returns-then-not-fits-clause-none
returns-then-not-fits-clause-none c = λ _ _. record {
  old = λ s is. absurd (c.in-None.ensures.none s is);
  new = λ near. (let e = c.is_near-fits.ensures.1 (subst (IsNear c.args.code.now (branch_at c.args.code.now.branches.now c.args.index)) (sym c.new_stub-new.ensures.stub) near) in let f = c.if-not-fits.true in cc);
}
