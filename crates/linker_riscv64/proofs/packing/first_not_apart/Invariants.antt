use Rattle.linker_riscv64.proofs.Imports.{AreApartTo, map}
use Rattle.linker_riscv64.proofs.packing.first_not_apart.Given as goal

abbrev pub invariant-loop-index : goal.invariant-loop-index
invariant-loop-index g l = AreApartTo (map g.C.AsCall.call l.calls) l.index
