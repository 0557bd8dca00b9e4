use Rattle.linker_output.proofs.Imports.{List, Puts, drop, length, ℕ, ◌*◌, ◌+◌, ◌≡◌, ◌≤◌}
use Rattle.linker_output.proofs.WrittenProperties.{Words}
use Rattle.linker_output.proofs.properties.encode.Given as goal

abbrev pub invariant-loop-index : goal.invariant-loop-index
invariant-loop-index l =
    (done : List ℕ) × Words l.architecture l.fn.properties done l.least l.index (drop l.index l.fn.properties)
    × (l.at ≡ 16 + 8 * length done) × Puts 16 done l.fn.note l.note
    × (length done ≤ 3 * l.index)
