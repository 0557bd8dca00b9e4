use Rattle.linker_output.proofs.Imports.{List, Property, length, put_all, ◌-◌, ◌^◌, ◌≡◌, ◌≤◌}
use Rattle.linker_output.proofs.MergedProperties.{SoFar}
use Rattle.linker_output.proofs.properties.merge_into.Given as goal

abbrev pub invariant-loop-kind : goal.invariant-loop-kind
invariant-loop-kind l =
    (done : List Property) × SoFar l.architecture l.first l.second done l.kind
    × (length done ≡ l.count) × (l.properties ≡ put_all done l.fn.properties)
    × (l.count ≤ l.kind) × (l.kind ≤ 2 ^ 32)

abbrev pub decreases-loop-kind : goal.decreases-loop-kind
decreases-loop-kind l = 2 ^ 32 - l.kind
