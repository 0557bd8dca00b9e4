use Rattle.linker_output.proofs.Imports.{WritesPair, WritesStub, ap, append_assoc, arith, drop, length, operands_of, refl, rules, subst, sym, take, view_stub, ◌++◌, ◌+◌, ◌∙◌, ◌≡◌}
use Rattle.linker_output.proofs.LazyCode.{placed}
use Rattle.linker_output.proofs.description.Target.write_stub.Goals as goal

pub returns-clause-ok : goal.returns-clause-ok
returns-clause-ok c =
    let self = c.args.self.now in
    let stub = c.in-Some.stub.now in
    let out = c.args.out.now in
    let pair = c.in-Ok.pair in
    let head = stub.head.now in
    let tail = stub.tail.now in
    let h = length head in
    let t = length tail in
    let first = c.overwrite.new.section in
    let second = c.overwrite-2.new.section in
    let len : length pair ≡ 8 = search rules in
    let a : first ≡ (take (h + 8) out ++ tail) ++ drop (h + 8 + t) out = c.overwrite.ensures in
    let both = placed out first second pair tail h 8 t (omega arith) len
    (a ∙ append_assoc (take (h + 8) out) tail (drop (h + 8 + t) out)) c.overwrite-2.ensures in
    let from_0 : second ≡ take (0 + h) out ++ ((pair ++ tail) ++ drop (0 + h + (8 + t)) out) =
    subst (λ k. second ≡ take k out ++ ((pair ++ tail) ++ drop (k + (8 + t)) out))
    (let e : h ≡ 0 + h = omega arith in e) both in
    let made : WritesPair self.instructions (view_stub stub)
    (operands_of (view_stub stub) c.args.place c.args.target) pair =
    subst (λ o. WritesPair self.instructions (view_stub stub) o pair)
    c.operands_of-operands.ensures c.in-Ok.ensures.ok in
    subst (λ s. WritesStub self.instructions s c.args.place c.args.target out c.overwrite-3.new.section)
    (sym c.in-Some.ensures.some) (
      head ++ (pair ++ tail),
      (pair, len, made, refl),
      placed out second c.overwrite-3.new.section head (pair ++ tail) 0 h (8 + t) (omega arith) refl from_0
          c.overwrite-3.ensures
          ∙ ap (λ k. (head ++ (pair ++ tail)) ++ drop k out) (let e : 0 + (h + (8 + t)) ≡ h + 8 + t = omega arith in e),
    )
