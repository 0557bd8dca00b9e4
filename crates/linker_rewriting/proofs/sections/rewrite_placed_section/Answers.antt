use Rattle.linker_rewriting.proofs.Imports.{IsDecidedAfter, IsRejectedIn, IsRejectedWith, context_of, decision_in, err_from_is_err_and, length, map, rules, ◌/◌}
use Rattle.linker_rewriting.proofs.Listing.{all_fit}
use Rattle.linker_rewriting.proofs.Noted.{means_unsurveyed}
use Rattle.linker_rewriting.proofs.Rejected.{rejected_first, rejected_with}
use Rattle.linker_rewriting.proofs.Whole.{whole, labels_whole}
use Rattle.linker_rewriting.proofs.sections.rewrite_placed_section.Goals as goal

pub list_deletions-requires-clause-fit : goal.list_deletions-requires-clause-fit
list_deletions-requires-clause-fit c =
    let a = c.args in
    all_fit a.relocations.now a.section.now (map decision_in c.decide_section.new.decisions)
    (length a.relocations.now / 24) _ c.in_ok-changes.ensures.decided.made (search rules)

pub returns : goal.returns
returns c =
    let a = c.args in
    let s = context_of a.context.now in
    let ds = map decision_in c.decide_section.new.decisions in
    let e = c.in_ok-changes.ensures.decided in
    let m = c.make_all.ensures in
    let l = c.in-Some-list_deletions.ensures in
    record {
      agree = c.in_default.ensures;
      rewritten = record {
        decided = e.decided;
        groups = whole s a.kept.now a.relocations.now a.section.now ds (length a.relocations.now / 24) e.decided;
        apart = e.apart;
        clear = e.clear;
        relocations = m.relocations;
        done = m.done;
        others = m.others;
      };
      within = e.made;
      listed = l.listed;
      labels = labels_whole s a.kept.now a.relocations.now a.section.now ds (length a.relocations.now / 24) e.decided;
      form = c.in_ok-changes.ensures.form;
      others_stay = c.decide_section.ensures.others_stay;
      deletions_stay = l.others_stay;
      rejected = tt;
      surveyed = tt;
      section = tt;
      entries = tt;
    }

pub returns-in_err-changes-clause-rejected : goal.returns-in_err-changes-clause-rejected
returns-in_err-changes-clause-rejected c =
    let a = c.args in
    let p = err_from_is_err_and c.from_residual.result c.from_residual.ensures.1 in
    let s = context_of a.context.now in
    let ds = map decision_in c.decide_section.new.decisions in
    let IsError = IsRejectedIn s a.kept.now a.relocations.now a.section.now ds in
    let Decides = IsDecidedAfter s a.kept.now a.relocations.now a.section.now in
    rw (p.1, p.2) (rejected_first s.symbols s.values a.relocations.now
    (IsRejectedWith Decides a.relocations.now ds (length a.deleted.now) IsError) _ (λ n no. no) c.in_default.ensures
    (rejected_with Decides a.relocations.now ds (length a.deleted.now) IsError _ c.in_err-changes.ensures.rejected))

pub returns-in_err-changes-clause-surveyed : goal.returns-in_err-changes-clause-surveyed
returns-in_err-changes-clause-surveyed c =
    let a = c.args in
    let p = err_from_is_err_and c.from_residual.result c.from_residual.ensures.1 in
    let s = context_of a.context.now in
    let ds = map decision_in c.decide_section.new.decisions in
    rw (p.1, p.2) (means_unsurveyed s a.kept.now a.relocations.now a.section.now ds _ c.in_err-changes.ensures.rejected)
