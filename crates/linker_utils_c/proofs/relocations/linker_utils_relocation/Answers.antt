use Rattle.linker_utils_c.proofs.Imports.{InNumbers, Some, refl, subst, sym, ◌∙◌}
use Rattle.linker_elf.specs.Architectures.{IsRow}
use Rattle.linker_utils_c.proofs.RelocationNumbers.{are_numbers}
use Rattle.linker_utils_c.proofs.relocations.linker_utils_relocation.Goals as goal

pub returns : goal.returns
returns c =
    let row = c.in-Some-row.found in
    rw (sym c.from_machine.ensures ∙ c.in-Some.is) (
      Some row,
      subst (IsRow c.in-Some.found c.args.r_type) c.in-Some-row.is c.row.ensures,
      (refl, subst (InNumbers row) (sym c.numbers.ensures) (are_numbers row)),
    )
