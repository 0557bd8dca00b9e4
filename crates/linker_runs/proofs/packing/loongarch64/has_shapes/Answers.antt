use Rattle.linker_runs.proofs.Imports.{CALL36, IsKindAt, PCALA, subst}
use Rattle.linker_runs.proofs.Same.{shapes_decide}
use Rattle.linker_runs.proofs.LoongArch.{call_shapes, pair_shapes}
use Rattle.linker_runs.proofs.packing.loongarch64.has_shapes.Goals as goal

pub returns-in-Some-Call : goal.returns-in-Some-Call
returns-in-Some-Call c =
    call_shapes c.args.section.now c.args.offset c.args.shapes.now c.eq.result (subst (IsKindAt c.args.section.now c.args.offset) c.in-Some-Call.field-0-is c.in-Some-Call.ensures) (shapes_decide c.args.shapes.now CALL36 c.eq.result c.eq.ensures)

pub returns-in-Some-Address : goal.returns-in-Some-Address
returns-in-Some-Address c =
    pair_shapes c.args.section.now c.args.offset c.args.shapes.now c.eq-in-Some-Address.result (subst (IsKindAt c.args.section.now c.args.offset) c.in-Some-Address.field-0-is c.in-Some-Address.ensures) (shapes_decide c.args.shapes.now PCALA c.eq-in-Some-Address.result c.eq-in-Some-Address.ensures)
