use Rattle.linker_elf.proofs.Imports.{IsRow, Some, subst}
use Rattle.linker_elf.proofs.Handles.{found}
use Rattle.linker_elf.proofs.elf.architecture.Architecture.handle.Goals as goal

pub returns-in-Some : goal.returns-in-Some
returns-in-Some c =
    let row = c.in-Some.field-0 in
    let is = subst (IsRow c.args.self c.args.r_type) c.in-Some.is c.row.ensures in
    (Some row, is, rw c.first_handle.ensures (found c.args.self c.args.r_type row is))
