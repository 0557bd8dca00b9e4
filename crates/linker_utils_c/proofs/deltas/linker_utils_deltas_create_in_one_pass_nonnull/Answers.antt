use Rattle.linker_utils_c.proofs.Imports.{IsValid, arith, length, pairs_in, ◌∙◌, ◌≡◌}
use Rattle.linker_utils_c.proofs.deltas.linker_utils_deltas_create_in_one_pass_nonnull.Goals as goal
use Rattle.linker_utils_c.proofs.deltas.linker_utils_deltas_create_in_one_pass_nonnull.Goals.{else-deltas-deletions-via-then-deltas-deletions+else-fill_valid, else-deltas-deletions-via-else-deltas-deletions}

-- where the lengths differ, nothing was written before, and no deltas are made
pub returns-clause-unchanged : goal.returns-clause-unchanged
returns-clause-unchanged c differ =
    let create = c.linker_utils_deltas_create_nonnull.ensures in
    elim c.else-deltas-deletions.branch [
      | else-deltas-deletions-via-then-deltas-deletions+else-fill_valid w ↦ absurd (differ w.if-deltas-deletions.true)
      | else-deltas-deletions-via-else-deltas-deletions w ↦
          let same = w.deltas-is in
          let longer : ¬ (length c.else-deltas-deletions.deltas ≡ length c.args.deletions.now) = rw same differ in
          create.unchanged (λ made.
          let invalid : ¬ (IsValid (pairs_in c.args.deletions.now)) = λ valid. let told = create.different_lengths valid longer in omega (arith, made, told) in
          let told = create.invalid invalid in
          omega (arith, made, told)) ∙ same
    ]
