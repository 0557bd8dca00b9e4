use Rattle.linker_output.proofs.Imports.{drop, of_kind, ◌≡◌}
use Rattle.linker_output.proofs.properties.of_kind.Given as goal

abbrev pub invariant-loop-property : goal.invariant-loop-property
invariant-loop-property l =
    of_kind l.kind l.properties ≡ of_kind l.kind (drop l.property-index l.properties)
