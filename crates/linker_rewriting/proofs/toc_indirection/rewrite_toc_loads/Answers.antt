use Rattle.linker_rewriting.proofs.Imports.{AreLoadsRejected, arith, context_of, decision_in, err_from_is_err_and, length, length-map, map, ◌/◌}
use Rattle.linker_rewriting.proofs.Rejected.{rejected_first}
use Rattle.linker_rewriting.proofs.WholeWords.{whole, means_unsurveyed}
use Rattle.linker_rewriting.proofs.toc_indirection.rewrite_toc_loads.Goals as goal

pub returns : goal.returns
returns c =
    let a = c.args in
    let e = c.in_ok-decide_by.ensures.decided in
    let m = c.make_all.ensures in
    record {
      agree = c.in_default.ensures;
      rewritten = record {
        decided = e.decided;
        whole = whole (context_of a.context.now)
            a.words_start a.words.now a.kept.now a.relocations.now a.section.now
            (map decision_in c.decide_by.new.decisions) (length a.relocations.now / 24) e.decided;
        apart = e.apart;
        clear = e.clear;
        relocations = m.relocations;
        done = m.done;
        others = m.others;
      };
      form = c.in_ok-decide_by.ensures.form;
      others_stay = c.decide_by.ensures.others_stay;
      rejected = tt;
      surveyed = tt;
      section = tt;
      entries = tt;
    }

pub returns-in_err-decide_by-clause-rejected : goal.returns-in_err-decide_by-clause-rejected
returns-in_err-decide_by-clause-rejected c =
    let a = c.args in
    let p = err_from_is_err_and c.from_residual.result c.from_residual.ensures.1 in
    let s = context_of a.context.now in
    let ds = map decision_in c.decide_by.new.decisions in
    rw (p.1, p.2) (rejected_first s.symbols s.values a.relocations.now
    (AreLoadsRejected s a.words_start a.words.now a.kept.now a.relocations.now a.section.now ds) _ (λ n no. no) c.in_default.ensures c.in_err-decide_by.ensures.rejected)

pub returns-in_err-decide_by-clause-surveyed : goal.returns-in_err-decide_by-clause-surveyed
returns-in_err-decide_by-clause-surveyed c =
    let a = c.args in
    let p = err_from_is_err_and c.from_residual.result c.from_residual.ensures.1 in
    let s = context_of a.context.now in
    let ds = map decision_in c.decide_by.new.decisions in
    rw (p.1, p.2) (means_unsurveyed s a.words_start a.words.now a.kept.now a.relocations.now a.section.now ds _ c.in_err-decide_by.ensures.rejected)

pub returns-then-decisions-relocations_len-clause-rejected : goal.returns-then-decisions-relocations_len-clause-rejected
returns-then-decisions-relocations_len-clause-rejected c = (
  c.in_default.ensures,
  (let m = length-map c.args.decisions.now decision_in in let t = c.if-decisions-relocations_len.true in let e = c.relocations_len.ensures in omega (arith, m, t, e)),
)
