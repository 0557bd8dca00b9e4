use Rattle.linker_rewriting.proofs.Imports.{are_members, drop, ◌≡◌}
use Rattle.linker_rewriting.proofs.sequences.are_members.Given as goal

-- what is left to find
abbrev pub invariant-loop-place : goal.invariant-loop-place
invariant-loop-place l =
    are_members l.members l.relocations l.first 0 l.offset l.relocation
    ≡ are_members (drop l.place l.members) l.relocations l.first l.place l.offset l.relocation
