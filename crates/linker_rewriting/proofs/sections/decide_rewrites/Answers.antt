use Rattle.linker_rewriting.proofs.Imports.{AreAllDecided, IsDecidedAfter, decision_in, end_by, err_from_is_err_and, length, map, pre_layout, start_by, subst, sym, ◌/◌, ◌∙◌}
use Rattle.linker_rewriting.proofs.Noted.{means_unsurveyed}
use Rattle.linker_rewriting.proofs.Whole.{whole}
use Rattle.linker_rewriting.proofs.sections.decide_rewrites.Goals as goal

pub returns : goal.returns
returns c =
    let a = c.args in
    let s = pre_layout a.architecture a.output.now a.symbols.now in
    let k = c.keep_bytes.ensures in
    let e = subst (AreAllDecided (IsDecidedAfter s a.kept.now a.relocations.now a.section.now) start_by end_by a.architecture a.relocations.now a.section.now)
    (sym k.decisions) c.in_ok-changes.ensures.decided in
    record {
      decided = record {
        decided = e.decided;
        groups = whole s a.kept.now a.relocations.now a.section.now
            (map decision_in c.keep_bytes.new.decisions) (length a.relocations.now / 24) e.decided;
        fit = λ n less. (e.made n less, e.matches n less, k.bytes n less);
        apart = e.apart;
        clear = e.clear;
      };
      form = k.form;
      others_stay = k.others_stay ∙ c.decide_section.ensures.others_stay;
      rejected = tt;
      surveyed = tt;
    }

pub returns-in_err-changes-clause-surveyed : goal.returns-in_err-changes-clause-surveyed
returns-in_err-changes-clause-surveyed c =
    let a = c.args in
    let p = err_from_is_err_and c.from_residual.result c.from_residual.ensures.1 in
    rw (p.1, p.2) (means_unsurveyed (pre_layout a.architecture a.output.now a.symbols.now) a.kept.now a.relocations.now a.section.now
    (map decision_in c.decide_section.new.decisions) _ c.in_err-changes.ensures.rejected)
