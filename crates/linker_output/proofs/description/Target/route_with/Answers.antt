use Rattle.linker_output.proofs.Imports.{IsObstacle, cast_signed, cast_unsigned, rules, subst, w64, ◌≡◌}
use Rattle.linker_output.proofs.description.Target.route_with.Goals as goal

pub returns : goal.returns
returns c =
    let same : (cast_signed w64 (cast_unsigned w64 c.args.value)) ≡ c.args.value = search rules in (
      c.has_room-is_room.result,
      c.has_room-is_room.ensures,
      c.obstacle-cause.result,
      subst (λ x. IsObstacle c.args.row.now x c.args.relocation.now.offset c.args.section.now c.obstacle-cause.result) same c.obstacle-cause.ensures,
      c.route_by.ensures,
    )
