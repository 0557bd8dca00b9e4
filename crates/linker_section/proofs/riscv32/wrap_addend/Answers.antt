use Rattle.linker_section.proofs.Imports.{IsRow, ap, known_value, own_value, own_value_is, rules, subst, ◌∙◌, ◌≡◌}
use Rattle.linker_section.proofs.RowFacts.{says}
use Rattle.linker_elf.specs.declared.elf.architecture.Architecture.TheVariants.{RiscV}
use Rattle.linker_section.proofs.riscv32.wrap_addend.Goals.{After-own_value}
use Rattle.linker_section.proofs.riscv32.wrap_addend.Goals as goal

pub own_value-requires : goal.own_value-requires
own_value-requires c =
    says RiscV c.args.relocation.now.r_type c.in-Some.row
    (subst (IsRow RiscV c.args.relocation.now.r_type) c.in-Some.is c.row.ensures)

-- the value that is found is that by the table
value_is : (c : After-own_value)
    → c.own_value.result ≡ own_value RiscV c.args.addresses.now c.args.symbols.now c.in-Some.row c.args.relocation.now
value_is c =
    let a = c.args in
    c.own_value.ensures ∙ (ap (known_value RiscV a.addresses.now c.in-Some.row a.relocation.now) c.find-known.ensures
    ∙ own_value_is RiscV a.addresses.now a.symbols.now c.in-Some.row a.relocation.now 0)

pub returns-in-Ok-Some : goal.returns-in-Ok-Some
returns-in-Ok-Some c =
    let is = value_is (goal.at.returns-in-Ok-Some c).After-own_value in search rules

pub returns-in_default-own_value : goal.returns-in_default-own_value
returns-in_default-own_value c =
    let is = value_is (goal.at.returns-in_default-own_value c).After-own_value in search rules
