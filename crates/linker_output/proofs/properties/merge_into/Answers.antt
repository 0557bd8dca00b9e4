use Rattle.linker_output.proofs.Imports.{List, None, Ok, Property, Some, [], arith, length, length-append, merged, merged_kind, of_kind, put_all, refl, set, sym, ◌++◌, ◌+◌, ◌∙◌, ◌∷◌, ◌≡◌, ◌≤◌}
use Rattle.linker_output.proofs.MergedProperties.{SoFar, skip, begun, with, without, merged_is, put_more, whole}
use Rattle.linker_output.proofs.properties.merge_into.Goals as goal
use Rattle.linker_output.proofs.properties.merge_into.Goals.{in-Some+in_ok-merged+in-Some-merged, in-Some+in_ok-merged+in_default-merged, in_default}

pub loop-kind-init : goal.loop-kind-init
loop-kind-init c =
    let a = c.args.architecture in
    let f = c.args.first.now in
    let s = c.args.second.now in (
      [],
      skip a f s [] 0 c.least_kind-kind.result (omega arith) (λ k lo hi. c.least_kind.ensures.others k lo (omega arith))
          (λ k lo hi. c.least_kind-kind.ensures.others k lo hi) (begun a f s),
      refl,
      refl,
      omega arith,
      omega arith,
    )

pub loop-kind-preserved : goal.loop-kind-preserved
loop-kind-preserved c =
    let a = c.args.architecture in
    let f = c.args.first.now in
    let s = c.args.second.now in
    let l = c.loop-kind in
    let i = l.invariant in
    let j = c.match-property_rule in
    let n = c.least_kind-kind-in-loop-kind in
    let ready : (done : List Property) × SoFar a f s done (l.kind + 1) × length done ≡ j.count × j.properties ≡ put_all done c.args.properties.now × j.count ≤ l.kind + 1 =
    elim c.match-property_rule.branch [
      | in-Some+in_ok-merged+in-Some-merged w ↦
          let p = w.in-Some-merged.property in
          let m : merged w.in-Some.rule l.kind (of_kind l.kind f) (of_kind l.kind s) ≡ Ok (Some p) =
          cc (w.merge_values.ensures, w.of_kind.ensures, w.of_kind-in-Some.ensures, w.in_ok-merged.was, w.in-Some-merged.is) in
          let e : merged_kind a f s l.kind ≡ Ok (Some p) = rw (sym c.property_rule.ensures ∙ w.in-Some.is) m in
          let put : j.properties ≡ set (put_all i.0 c.args.properties.now) (length i.0) p = cc in (
            i.0 ++ p ∷ [],
            with a f s i.0 l.kind p e (merged_is w.in-Some.rule l.kind f s p m) i.1,
            simp length-append (omega arith),
            put ∙ put_more i.0 c.args.properties.now p,
            omega arith,
          )
      | in-Some+in_ok-merged+in_default-merged w ↦
          let m : merged w.in-Some.rule l.kind (of_kind l.kind f) (of_kind l.kind s) ≡ Ok None =
          cc (w.merge_values.ensures, w.of_kind.ensures, w.of_kind-in-Some.ensures, w.in_ok-merged.was, w.in_default-merged.is) in
          (i.0, without a f s i.0 l.kind (rw (sym c.property_rule.ensures ∙ w.in-Some.is) m) i.1, cc, cc, omega arith)
      | in_default w ↦
          (i.0, without a f s i.0 l.kind (rw (sym c.property_rule.ensures ∙ w.in_default.is) refl) i.1, cc, cc, omega arith)
    ] in (
      ready.0,
      skip a f s ready.0 (l.kind + 1) n.result (omega arith)
          (λ k lo hi. c.least_kind-in-loop-kind.ensures.others k lo (omega arith))
          (λ k lo hi. n.ensures.others k lo hi) ready.1,
      ready.2,
      ready.3,
      omega arith,
      omega arith,
    )

pub returns-clause-ok : goal.returns-clause-ok
returns-clause-ok c =
    let i = c.loop-kind.invariant in
    (i.0, whole c.args.architecture c.args.first.now c.args.second.now i.0 c.loop-kind.kind (omega arith) i.1, sym i.2, omega arith, i.3)
