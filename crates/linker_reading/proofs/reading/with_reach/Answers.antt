use Rattle.linker_reading.proofs.Imports.{IsWithin, Some, of_z, rules, subst, to_z, w64, ◌≡◌}
use Rattle.linker_reading.proofs.reading.with_reach.Goals as goal

pub returns-then-leaves_one-clause-known : goal.returns-then-leaves_one-clause-known
returns-then-leaves_one-clause-known c = λ v fits within known.
    let inside : IsWithin (Some (c.in-Some.min, c.in-Some.max)) v =
    subst (λ b. IsWithin b v) c.in-Some.is within in
    let a : to_z w64 (of_z w64 c.in-Some.min) ≡ c.in-Some.min = search rules in
    let b : to_z w64 (of_z w64 c.in-Some.max) ≡ c.in-Some.max = search rules in
    c.up_to_sign.ensures.known v fits (rw (a, b) inside) known
