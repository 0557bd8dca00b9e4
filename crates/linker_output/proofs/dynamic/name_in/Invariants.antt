use Rattle.linker_output.proofs.Imports.{drop, view_list, ◌≡◌}
use Rattle.linker_output.specs.Dynamic.{name_in}
use Rattle.linker_output.proofs.dynamic.name_in.Given as goal

abbrev pub invariant-loop-listed : goal.invariant-loop-listed
invariant-loop-listed l =
    name_in (view_list (drop l.listed-index l.types)) l.r_type ≡ name_in (view_list l.types) l.r_type
