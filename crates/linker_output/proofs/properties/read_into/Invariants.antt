use Rattle.linker_output.proofs.Imports.{List, Property, length, put_all, ◌-◌, ◌≡◌, ◌≤◌}
use Rattle.linker_output.proofs.ReadProperties.{Reads}
use Rattle.linker_output.proofs.properties.read_into.Given as goal

abbrev pub invariant-loop-place : goal.invariant-loop-place
invariant-loop-place l =
    (done : List Property) × Reads l.architecture l.section done l.place
    × (length done ≡ l.count) × (l.properties ≡ put_all done l.fn.properties)
    × (l.count ≤ l.place.next)

abbrev pub decreases-loop-place : goal.decreases-loop-place
decreases-loop-place l = length l.section - l.place.next
