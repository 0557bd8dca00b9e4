use Rattle.linker_utils_c.proofs.Imports.{FitsSigned, IsApplied, IsRelocatedAt, Relocation, arith, get_or, get_or_default, pos, rules, subst, take, take_more, to_z-of_z, w64}
use Rattle.linker_utils_c.proofs.Relocating.{one_more}
use Rattle.linker_utils_c.proofs.relocate.relocate_all.Goals as goal

abbrev nothing : Relocation
nothing = record { offset = 0; value = pos 0; r_type = 0 }

pub returns-then-status : goal.returns-then-status
returns-then-status c =
    let rs = c.args.relocations.now in
    let it = get_or rs c.loop-at.at nothing in
    let fits : FitsSigned w64 it.value = search rules in
    let applied : IsApplied c.args.architecture it c.loop-at.section c.relocate_at-status.new.section c.relocate_at-status.result =
    subst (λ v. IsRelocatedAt c.args.architecture it.offset it.r_type v c.loop-at.section c.relocate_at-status.new.section c.relocate_at-status.result) (to_z-of_z w64 it.value fits) c.relocate_at-status.ensures in
    record {
      success = λ h. absurd (c.if-status.true h);
      rejected = λ h. record {
        within = c.loop-at-test.true;
        middle = c.loop-at.section;
        done = c.loop-at.invariant.done;
        rejected = λ r. rw (get_or_default rs c.loop-at.at r nothing c.loop-at-test.true) applied;
      };
    }

pub loop-at-preserved : goal.loop-at-preserved
loop-at-preserved c =
    let rs = c.args.relocations.now in
    let it = get_or rs c.loop-at.at nothing in
    let fits : FitsSigned w64 it.value = search rules in
    let applied : IsApplied c.args.architecture it c.loop-at.section c.relocate_at-status.new.section 0 =
    subst (λ s. IsApplied c.args.architecture it c.loop-at.section c.relocate_at-status.new.section s) (c.if-status.false)
    (subst (λ v. IsRelocatedAt c.args.architecture it.offset it.r_type v c.loop-at.section c.relocate_at-status.new.section c.relocate_at-status.result) (to_z-of_z w64 it.value fits) c.relocate_at-status.ensures) in
    record {
      inside = omega (arith, c.loop-at-test.true);
      done = rw (take_more rs c.loop-at.at nothing c.loop-at-test.true)
          (one_more c.args.architecture (take c.loop-at.at rs) it c.args.section.now c.loop-at.section c.relocate_at-status.new.section c.loop-at.invariant.done applied);
      same = c.loop-at.invariant.same;
    }
