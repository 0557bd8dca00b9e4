use Rattle.linker_utils_c.proofs.pack_runs.linker_utils_pack_run_nonnull.Goals as goal

pub returns-in-Some : goal.returns-in-Some
returns-in-Some c = rw (← c.in-Some.ensures) c.pack.ensures
