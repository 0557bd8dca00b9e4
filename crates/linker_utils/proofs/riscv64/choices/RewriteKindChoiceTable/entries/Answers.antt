use Rattle.linker_utils.proofs.Imports.{refl, same}
use Rattle.linker_utils.proofs.riscv64.choices.RewriteKindChoiceTable.entries.Goals as goal

pub returns-in-R_RISCV_TLSDESC_HI20-by_table-clause-table : goal.returns-in-R_RISCV_TLSDESC_HI20-by_table-clause-table
returns-in-R_RISCV_TLSDESC_HI20-by_table-clause-table c =
    simp c.in-R_RISCV_TLSDESC_HI20-by_table.is
    (refl, (λ s o. same _, (refl, (λ s o. same _, (refl, (λ s o. same _, (refl, (λ s o. same _, tt))))))))

pub returns-in-R_RISCV_TLSDESC_LOAD_LO12-by_table-clause-table : goal.returns-in-R_RISCV_TLSDESC_LOAD_LO12-by_table-clause-table
returns-in-R_RISCV_TLSDESC_LOAD_LO12-by_table-clause-table c =
    simp c.in-R_RISCV_TLSDESC_LOAD_LO12-by_table.is
    (refl, (λ s o. same _, (refl, (λ s o. same _, (refl, (λ s o. same _, (refl, (λ s o. same _, tt))))))))

pub returns-in-R_RISCV_TLSDESC_ADD_LO12-by_table-clause-table : goal.returns-in-R_RISCV_TLSDESC_ADD_LO12-by_table-clause-table
returns-in-R_RISCV_TLSDESC_ADD_LO12-by_table-clause-table c =
    simp c.in-R_RISCV_TLSDESC_ADD_LO12-by_table.is
    (refl, (λ s o. same _, (refl, (λ s o. same _, (refl, (λ s o. same _, (refl, (λ s o. same _, tt))))))))

pub returns-in-R_RISCV_TLSDESC_CALL-by_table-clause-table : goal.returns-in-R_RISCV_TLSDESC_CALL-by_table-clause-table
returns-in-R_RISCV_TLSDESC_CALL-by_table-clause-table c =
    simp c.in-R_RISCV_TLSDESC_CALL-by_table.is
    (refl, (λ s o. same _, (refl, (λ s o. same _, (refl, (λ s o. same _, tt))))))

pub returns-in-R_RISCV_GOT_HI20-by_table-clause-table : goal.returns-in-R_RISCV_GOT_HI20-by_table-clause-table
returns-in-R_RISCV_GOT_HI20-by_table-clause-table c =
    simp c.in-R_RISCV_GOT_HI20-by_table.is
    (refl, (λ s o. same _, (refl, (λ s o. same _, (refl, (λ s o. same _, tt))))))
