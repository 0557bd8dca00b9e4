use Rattle.linker_rewriting.proofs.Imports.{KeepsNone, relocation_in, ℕ, ◌<◌, ◌≤◌}
use Rattle.linker_rewriting.proofs.surveys.next_in.Given as goal

abbrev pub invariant-loop-index : goal.invariant-loop-index
invariant-loop-index l =
    (n : ℕ) → l.from ≤ n → n < l.index
    → KeepsNone l.context.architecture l.context.phase l.context.symbols.now (relocation_in l.relocations n)
