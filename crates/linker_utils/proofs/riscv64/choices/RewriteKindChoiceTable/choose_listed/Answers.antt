use Rattle.linker_utils.proofs.Imports.{refl, same}
use Rattle.linker_utils.proofs.riscv64.choices.RewriteKindChoiceTable.choose_listed.Goals as goal

pub choice_by-requires-10-clause-table : goal.choice_by-requires-10-clause-table
choice_by-requires-10-clause-table c =
    λ κs. simp c.in-R_RISCV_TLSDESC_HI20-by_table.is
    (refl, (λ s o. same _, (refl, (λ s o. same _, (refl, (λ s o. same _, (refl, (λ s o. same _, tt))))))))

pub choice_by-requires-11-clause-table : goal.choice_by-requires-11-clause-table
choice_by-requires-11-clause-table c =
    λ κs. simp c.in-R_RISCV_TLSDESC_LOAD_LO12-by_table.is
    (refl, (λ s o. same _, (refl, (λ s o. same _, (refl, (λ s o. same _, (refl, (λ s o. same _, tt))))))))

pub choice_by-requires-12-clause-table : goal.choice_by-requires-12-clause-table
choice_by-requires-12-clause-table c =
    λ κs. simp c.in-R_RISCV_TLSDESC_ADD_LO12-by_table.is
    (refl, (λ s o. same _, (refl, (λ s o. same _, (refl, (λ s o. same _, (refl, (λ s o. same _, tt))))))))

pub choice_by-requires-13-clause-table : goal.choice_by-requires-13-clause-table
choice_by-requires-13-clause-table c =
    λ κs. simp c.in-R_RISCV_TLSDESC_CALL-by_table.is
    (refl, (λ s o. same _, (refl, (λ s o. same _, (refl, (λ s o. same _, tt))))))

pub choice_by-requires-14-clause-table : goal.choice_by-requires-14-clause-table
choice_by-requires-14-clause-table c =
    λ κs. simp c.in-R_RISCV_GOT_HI20-by_table.is
    (refl, (λ s o. same _, (refl, (λ s o. same _, (refl, (λ s o. same _, tt))))))
