use Rattle.linker_rewriting.proofs.Imports.{IsKeptDecision, decision_in, number_of}
use Rattle.linker_rewriting.proofs.KeptBytes.{AreKeptTo}
use Rattle.linker_rewriting.proofs.sections.keep_bytes.Given as goal

abbrev pub invariant-loop-index : goal.invariant-loop-index
invariant-loop-index l = AreKeptTo decision_in number_of IsKeptDecision l.relocations l.section l.fn.decisions l.decisions l.index
