use Rattle.linker_rewriting.proofs.Imports.{drop, is_whole_in, ◌≡◌}
use Rattle.linker_rewriting.proofs.sequences.is_whole_in.Given as goal

-- the places that are left
abbrev pub invariant-loop-place : goal.invariant-loop-place
invariant-loop-place l =
    is_whole_in l.members l.members 0 l.site.relocations.now l.site.index l.site.relocation
    ≡ is_whole_in l.members (drop l.place l.members) l.place l.site.relocations.now l.site.index l.site.relocation
