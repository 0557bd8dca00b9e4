use Rattle.linker_utils_c.proofs.Imports.{IsOutcome, subst, to_z-of_z, w64}
use Rattle.linker_utils_c.proofs.Relocating.{outcome_of}
use Rattle.linker_utils_c.proofs.relocate.write_by.Goals as goal

pub returns : goal.returns
returns c =
    let row = c.in-Some.found in
    let before = c.args.dest.now in
    let after = c.write.new.dest in
    rw c.in-Some.is (record {
      outcome = c.write.result;
      says = c.status_of.ensures;
      holds = subst (λ v. IsOutcome c.write.result row v before after) (to_z-of_z w64 c.args.value c.ranges.value)
          (outcome_of c.write.result row _ before after c.write.ensures.ok c.write.ensures.err);
    })
