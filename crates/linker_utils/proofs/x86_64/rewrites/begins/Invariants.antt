use Rattle.linker_utils.proofs.Imports.{begins, drop, ◌≡◌}
use Rattle.linker_utils.proofs.x86_64.rewrites.begins.Given as goal

-- what is left to compare
abbrev pub invariant-loop-index : goal.invariant-loop-index
invariant-loop-index l = begins l.pattern l.bytes ≡ begins (drop l.index l.pattern) (drop l.index l.bytes)
