use Rattle.linker_base.proofs.Imports.{IsFirstInvalid, IsValid, map, ◌+◌}
use Rattle.linker_base.proofs.Listed.{IsValid-take}
use Rattle.linker_base.proofs.Merging.{none_decides}
use Rattle.linker_base.proofs.relaxation.overlap.are_valid.Goals as goal

pub returns : goal.returns
returns g c =
    let ds = map g.D.AsDeletion.deletion c.args.deletions.now in
    none_decides c.first_invalid.result c.is_none.result (IsValid ds) (IsFirstInvalid ds) c.is_none.ensures c.first_invalid.ensures (λ at first valid. first.here (IsValid-take ds (at + 1) valid))
