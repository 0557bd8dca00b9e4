use Rattle.linker_utils_c.proofs.Imports.{IsRelocatedAs, subst, to_z-of_z, w64}
use Rattle.linker_utils_c.proofs.relocate.relocate.Goals as goal

pub returns : goal.returns
returns c =
    record {
      meaning = c.row.result;
      means = c.row.ensures;
      relocated = subst (λ v. IsRelocatedAs c.row.result v c.args.dest.now c.write_by.new.dest c.write_by.result)
          (to_z-of_z w64 c.args.value c.ranges.value) c.write_by.ensures;
    }
