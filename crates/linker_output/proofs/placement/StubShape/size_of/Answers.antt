use Rattle.linker_output.proofs.Imports.{arith, stubs_in}
use Rattle.linker_output.proofs.Products.{le_product}
use Rattle.linker_output.proofs.placement.StubShape.size_of.Goals as goal

pub overflow_add-stubs : goal.overflow_add-stubs
overflow_add-stubs c = let h = le_product c.args.self.now.len (stubs_in c.args.group) c.requires.len in omega arith

pub overflow_add-stubs-2 : goal.overflow_add-stubs-2
overflow_add-stubs-2 c = let h = le_product c.args.self.now.len (stubs_in c.args.group) c.requires.len in omega arith
