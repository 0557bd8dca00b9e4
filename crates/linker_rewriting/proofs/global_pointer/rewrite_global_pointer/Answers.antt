use Rattle.linker_rewriting.proofs.Imports.{ArePartsRejected, DecidesPart, IsPartDecided, IsRejectedBy, None, arith, context_of, decision_in, err_from_is_err_and, inl, length, length-map, map, part_end, part_start, relocation_in, rules, ◌/◌}
use Rattle.linker_rewriting.proofs.GlobalPointer.{whole, means_unsurveyed}
use Rattle.linker_rewriting.proofs.Rejected.{rejected_first, rejected_with}
use Rattle.linker_rewriting.proofs.Listing.{all_fit}
use Rattle.linker_rewriting.proofs.global_pointer.rewrite_global_pointer.Goals as goal

pub list_deletions-requires-clause-fit : goal.list_deletions-requires-clause-fit
list_deletions-requires-clause-fit c =
    let a = c.args in
    all_fit a.relocations.now a.section.now (map decision_in c.decide_by.new.decisions)
    (length a.relocations.now / 24) _ c.in_ok-decide_by.ensures.decided.made (search rules)

pub returns : goal.returns
returns c =
    let a = c.args in
    let e = c.in_ok-decide_by.ensures.decided in
    let l = c.in-Some-list_deletions.ensures in
    record {
      agree = c.in_default.ensures;
      rewritten = record {
        decided = e.decided;
        whole = whole (context_of a.context.now)
            a.gp a.kept.now a.relocations.now a.section.now (map decision_in c.decide_by.new.decisions)
            (length a.relocations.now / 24) e.decided;
        apart = e.apart_by;
        clear = e.clear;
        relocations = c.turn_all.ensures;
      };
      within = e.made;
      listed = l.listed;
      form = c.in_ok-decide_by.ensures.form;
      others_stay = c.decide_by.ensures.others_stay;
      deletions_stay = l.others_stay;
      rejected = tt;
      surveyed = tt;
      entries = tt;
    }

pub returns-in_err-decide_by-clause-rejected : goal.returns-in_err-decide_by-clause-rejected
returns-in_err-decide_by-clause-rejected c =
    let a = c.args in
    let p = err_from_is_err_and c.from_residual.result c.from_residual.ensures.1 in
    let s = context_of a.context.now in
    let ds = map decision_in c.decide_by.new.decisions in
    let Decides = DecidesPart s a.gp a.kept.now a.relocations.now a.section.now in
    let IsError = IsRejectedBy Decides (λ n. IsPartDecided s a.gp a.kept.now a.relocations.now a.section.now n (relocation_in a.relocations.now n) None) part_start part_end s.architecture a.relocations.now a.section.now ds in
    let is = rejected_with Decides a.relocations.now ds (length a.deleted.now) IsError _ c.in_err-decide_by.ensures.rejected in
    rw (p.1, p.2) (rejected_first s.symbols s.values a.relocations.now
    (ArePartsRejected s a.gp a.kept.now a.relocations.now a.section.now ds (length a.deleted.now)) _ (λ n no. no) c.in_default.ensures is)

pub returns-in_err-decide_by-clause-surveyed : goal.returns-in_err-decide_by-clause-surveyed
returns-in_err-decide_by-clause-surveyed c =
    let a = c.args in
    let p = err_from_is_err_and c.from_residual.result c.from_residual.ensures.1 in
    let s = context_of a.context.now in
    let ds = map decision_in c.decide_by.new.decisions in
    let Decides = DecidesPart s a.gp a.kept.now a.relocations.now a.section.now in
    let IsError = IsRejectedBy Decides (λ n. IsPartDecided s a.gp a.kept.now a.relocations.now a.section.now n (relocation_in a.relocations.now n) None) part_start part_end s.architecture a.relocations.now a.section.now ds in
    let is = rejected_with Decides a.relocations.now ds (length a.deleted.now) IsError _ c.in_err-decide_by.ensures.rejected in
    rw (p.1, p.2) (means_unsurveyed s a.gp a.kept.now a.relocations.now a.section.now ds (length a.deleted.now) _ is)

pub returns-then-decisions-relocations_len-clause-rejected : goal.returns-then-decisions-relocations_len-clause-rejected
returns-then-decisions-relocations_len-clause-rejected c = (
  c.in_default.ensures,
  inl (let m = length-map c.args.decisions.now decision_in in let t = c.if-decisions-relocations_len.true in let e = c.relocations_len.ensures in omega (arith, m, t, e)),
)
