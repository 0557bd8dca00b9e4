use Rattle.linker_rewriting.proofs.Imports.{List, None, Rela, Some, ap, arith, cond-true, drop, length, length-drop, length-take-le, nat_lt, relocation_at, relocation_in, relocation_of, subst, sym, take, take-take, true, ℕ, ◌*◌, ◌+◌, ◌-◌, ◌/◌, ◌∙◌, ◌≡◌, ◌≤◌}
use Rattle.linker_rewriting.proofs.relocations.relocation_in.Goals as goal

same_some : (x y : Rela) → Some x ≡ Some y → x ≡ y
same_some x y is = cc

-- the first relocation of a relocation's own bytes
first_of : (xs : List ℕ) (at k : ℕ) (r : Rela) → k ≡ 24 → at + 24 ≤ length xs
    → relocation_at (take k (drop at xs)) 0 ≡ Some r → r ≡ relocation_of (take 24 (drop at xs))
first_of xs at k r is inside found =
    let ys : List ℕ = take 24 (drop at xs) in
    let there : relocation_at ys 0 ≡ Some r =
    subst (λ n. relocation_at (take n (drop at xs)) 0 ≡ Some r) is found in
    let dropped = length-drop at xs in
    let len : length ys ≡ 24 = length-take-le 24 (drop at xs) (omega (arith, dropped, inside)) in
    let some : nat_lt 0 (length ys / 24) ≡ true = ap (λ n. nat_lt 0 (n / 24)) len in
    let whole : relocation_at ys 0 ≡ Some (relocation_in ys 0) =
    cond-true (nat_lt 0 (length ys / 24)) (Some (relocation_in ys 0)) None some in
    same_some r (relocation_in ys 0) (sym there ∙ whole)
    ∙ ap relocation_of (take-take 24 24 (drop at xs) (omega arith))

pub returns-in-Some : goal.returns-in-Some
returns-in-Some c =
    let at = c.args.index * 24 in
    let less = c.requires in
    first_of c.args.relocations.now at (at + 24 - at) c.in-Some.relocation (omega arith) (omega (arith, less))
    (sym c.relocation_at.ensures ∙ c.in-Some.is)
