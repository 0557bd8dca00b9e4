use Rattle.linker_output.proofs.Imports.{drop, path_in, view_paths, ◌≡◌}
use Rattle.linker_output.proofs.description.Target.interpreter.Given as goal

abbrev pub invariant-loop-listed : goal.invariant-loop-listed
invariant-loop-listed l =
    path_in (view_paths (drop l.listed-index l.listed-items)) l.flags
    ≡ path_in (view_paths l.listed-items) l.flags
