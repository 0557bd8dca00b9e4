use Rattle.linker_rewriting.proofs.Imports.{decision_in, err_from_is_err_and, length, map, pre_layout, ◌/◌}
use Rattle.linker_rewriting.proofs.Noted.{means_unsurveyed}
use Rattle.linker_rewriting.proofs.Whole.{whole}
use Rattle.linker_rewriting.proofs.sections.rewrite_section.Goals as goal

pub returns : goal.returns
returns c =
    let a = c.args in
    let e = c.in_ok-changes.ensures.decided in
    let m = c.make_all.ensures in
    record {
      rewritten = record {
        decided = e.decided;
        groups = whole (pre_layout a.architecture a.output.now a.symbols.now) a.kept.now a.relocations.now a.section.now
            (map decision_in c.decide_section.new.decisions) (length a.relocations.now / 24) e.decided;
        apart = e.apart;
        clear = e.clear;
        relocations = m.relocations;
        done = m.done;
        others = m.others;
      };
      form = c.in_ok-changes.ensures.form;
      others_stay = c.decide_section.ensures.others_stay;
      rejected = tt;
      surveyed = tt;
      section = tt;
      entries = tt;
    }

pub returns-in_err-changes-clause-surveyed : goal.returns-in_err-changes-clause-surveyed
returns-in_err-changes-clause-surveyed c =
    let a = c.args in
    let p = err_from_is_err_and c.from_residual.result c.from_residual.ensures.1 in
    rw (p.1, p.2) (means_unsurveyed (pre_layout a.architecture a.output.now a.symbols.now) a.kept.now a.relocations.now a.section.now
    (map decision_in c.decide_section.new.decisions) _ c.in_err-changes.ensures.rejected)
