use Rattle.linker_output.proofs.Imports.{drop, of_kind, ℕ, ◌<◌, ◌≡◌, ◌≤◌}
use Rattle.linker_output.proofs.properties.least_kind.Given as goal

abbrev pub invariant-loop-property : goal.invariant-loop-property
invariant-loop-property l =
    record {
      above : l.from ≤ l.least;
      known : l.least ≤ l.known;
      same : (kind : ℕ) → l.from ≤ kind → kind < l.least
          → of_kind kind l.properties ≡ of_kind kind (drop l.property-index l.properties);
    }
