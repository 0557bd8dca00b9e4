use Rattle.linker_rewriting.proofs.Imports.{arith, common_steps, context_of, decision_in, length, map, subst, ◌/◌}
use Rattle.linker_rewriting.proofs.Untouched.{unlisted_decided}
use Rattle.linker_rewriting.specs.Inner.RelocationTypes.{AreUnlisted}
use Rattle.linker_rewriting.proofs.decisions.decide_all.Goals as goal

pub returns-then-not-lists_any-clause-decided : goal.returns-then-not-lists_any-clause-decided
returns-then-not-lists_any-clause-decided c =
    let a = c.args in
    let limit = length a.relocations.now / 24 in
    record {
      decided = unlisted_decided (context_of a.context.now) a.kept.now a.relocations.now a.section.now (map decision_in c.set_all.new.decisions) limit
          (subst (λ x. AreUnlisted a.context.now.architecture x a.relocations.now limit) c.requires.phase
          (subst (λ x. AreUnlisted x a.phase a.relocations.now limit) c.requires.architecture (c.lists_any.ensures c.if-not-lists_any.true)))
          c.set_all.ensures.set;
      made = grind (arith, common_steps);
      matches = grind (arith, common_steps);
      apart_by = grind (arith, common_steps);
      apart = grind (arith, common_steps);
      clear = grind (arith, common_steps);
    }

pub decide_by-requires-clause-noted : goal.decide_by-requires-clause-noted
decide_by-requires-clause-noted c = λ n less in_label. c.note_labels.ensures.noted n (omega arith) less in_label
