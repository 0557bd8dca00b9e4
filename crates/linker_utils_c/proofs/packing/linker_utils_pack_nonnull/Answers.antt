use Rattle.linker_utils_c.proofs.packing.linker_utils_pack_nonnull.Goals as goal

pub returns : goal.returns
returns c = rw (← c.in-Some.ensures) c.pack.ensures
