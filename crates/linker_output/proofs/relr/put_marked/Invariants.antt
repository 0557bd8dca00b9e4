use Rattle.linker_output.proofs.RelrLists.{Marks}
use Rattle.linker_output.proofs.relr.put_marked.Given as goal

-- the addresses of the bits so far are written
abbrev pub invariant-loop-bit : goal.invariant-loop-bit
invariant-loop-bit l = Marks l.bit l.base l.bitmap l.fn.index l.fn.addresses l.next l.addresses
