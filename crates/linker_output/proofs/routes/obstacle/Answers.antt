use Rattle.linker_output.proofs.Imports.{IfNone, IfSome, IsAccepted, IsCause, IsObstacle, List, None, Option, RelocateError, RowInfo, Some, arith, cast_signed, cast_unsigned, drop, length, rules, subst, take_rest, w64, ℕ, ℤ, ◌≡◌, ◌≤◌}
use Rattle.linker_output.proofs.routes.obstacle.Goals as goal

obstacle_is : (row : RowInfo) (v : ℤ) (offset : ℕ) (section : List ℕ)
    (found : Option RelocateError) → offset ≤ length section
    → IfNone found (IsAccepted row v (drop offset section))
    → IfSome found (IsCause row v (drop offset section)) → IsObstacle row v offset section found
obstacle_is row v offset section None inside none some = (inside, none)
obstacle_is row v offset section (Some error) inside none some =
    record { outside = λ past. absurd (omega (arith, past, inside)); inside = λ _. some }

pub returns : goal.returns
returns c =
    let v = cast_signed w64 (cast_unsigned w64 c.args.value) in
    let same : v ≡ c.args.value = search rules in
    let row = c.args.row.now in
    let section = c.args.section.now in
    subst (λ x. IsObstacle row x c.args.offset section c.obstacle_in.result) same
    (obstacle_is row v c.args.offset section c.obstacle_in.result (omega arith)
    (rw (take_rest section c.args.offset) at c.obstacle_in.ensures.none)
    (rw (take_rest section c.args.offset) at c.obstacle_in.ensures.some))
