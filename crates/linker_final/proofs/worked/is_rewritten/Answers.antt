use Rattle.linker_final.proofs.Imports.{OUTPUT, context, decisions_in, refl, replicate, rules}
use Rattle.linker_final.proofs.SectionRuns.{has_rewritten}
use Rattle.linker_final.proofs.worked.is_rewritten.Goals as goal

pub returns-in-Ok : goal.returns-in-Ok
returns-in-Ok c so =
    let known = c.args.known.now in
    let s = context known.architecture known.phase OUTPUT c.facts-facts.result known.addresses known.symbols.now in
    let kept = replicate 12 c.default.result in
    let ds = decisions_in c.rewrite_placed_section.new.decisions in
    let before = c.args.relocations.now in
    let section = c.args.section.now in
    let after = c.rewrite_placed_section.new.relocations in
    let rewritten = c.rewrite_placed_section.new.section in
    record {
      context = s;
      kept = kept;
      decisions = ds;
      rewritten_by = has_rewritten s kept before section ds after rewritten c.in-Ok.ensures.rewritten (search rules) (search rules);
      of_one = refl;
    }
