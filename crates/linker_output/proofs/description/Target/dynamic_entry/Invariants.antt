use Rattle.linker_output.proofs.Imports.{drop, slice_get, ◌≡◌}
use Rattle.linker_output.specs.Tags.{entries}
use Rattle.linker_output.proofs.description.Target.dynamic_entry.Given as goal

abbrev pub invariant-loop-listed : goal.invariant-loop-listed
invariant-loop-listed l =
    slice_get (entries (drop l.listed-index l.listed-items) l.facts) l.before
    ≡ slice_get (entries l.listed-items l.facts) l.index
