use Rattle.linker_rewriting.proofs.Imports.{HaveStubs}
use Rattle.linker_rewriting.proofs.kept.first_without_stub.Given as goal

abbrev pub invariant-loop-index : goal.invariant-loop-index
invariant-loop-index l = HaveStubs l.context.architecture l.context.symbols.now l.context.values.now l.relocations l.index
