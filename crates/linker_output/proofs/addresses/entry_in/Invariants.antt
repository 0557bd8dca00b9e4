use Rattle.linker_output.proofs.Imports.{drop, ◌≡◌}
use Rattle.linker_output.specs.Addresses.{entry_in}
use Rattle.linker_output.proofs.addresses.entry_in.Given as goal

abbrev pub invariant-loop-load : goal.invariant-loop-load
invariant-loop-load l = entry_in (drop l.load-index l.loads) l.r_type ≡ entry_in l.loads l.r_type
