use Rattle.linker_rewriting.proofs.Imports.{CanBeMade, IsDone, ap, arith, decision_in, length, map, refl, relocation_after, relocation_in, rules, section_after, subst, sym, ◌/◌, ◌<◌, ◌∙◌, ◌≡◌}
use Rattle.linker_rewriting.proofs.Making.{made_next, kept_next, can_next, windows_apart}
use Rattle.linker_rewriting.proofs.sections.make_all.Goals as goal

pub loop-index-preserved : goal.loop-index-preserved
loop-index-preserved c =
    let a = c.args in
    let r = c.relocation_in-relocation.result in
    let limit = length a.relocations.now / 24 in
    let less = subst (λ n. c.loop-index.index < n) c.relocations_len-index-end.ensures c.loop-index-test.true in
    let is = c.decision_in-decision.ensures in
    let same_len : length c.loop-index.relocations ≡ length a.relocations.now =
    c.loop-index.invariant.same_entries_len in
    made_next (map decision_in a.decisions.now) a.relocations.now c.loop-index.relocations
    c.set_relocation.new.relocations a.section.now c.loop-index.section c.make.new.section limit c.loop-index.index
    r c.make.new.relocation c.loop-index.invariant less
    c.requires.made (windows_apart _ _ _ c.requires.apart) c.relocation_in-relocation.ensures
    (subst (λ y. c.make.new.section ≡ section_after y r.offset c.loop-index.section) is c.make.ensures.section)
    (search rules) c.set_relocation.ensures.set
    (subst (λ y. c.make.new.relocation ≡ relocation_after y r) is c.make.ensures.relocation)
    (λ n below ne. c.set_relocation.ensures.others n (subst (λ l. n < l / 24) (sym same_len) below) ne)
    (search rules)

pub loop-index-preserved-in-Kept : goal.loop-index-preserved-in-Kept
loop-index-preserved-in-Kept c =
    let a = c.args in
    let limit = length a.relocations.now / 24 in
    let less = subst (λ n. c.loop-index.index < n) c.relocations_len-index-end.ensures c.loop-index-test.true in
    kept_next (map decision_in a.decisions.now) a.relocations.now c.loop-index.relocations a.section.now
    c.loop-index.section limit c.loop-index.index c.loop-index.invariant less c.requires.made
    (windows_apart _ _ _ c.requires.apart) (sym c.decision_in-decision.ensures ∙ c.in-Kept.is)

pub make-requires : goal.make-requires
make-requires c =
    let a = c.args in
    let r = c.relocation_in-relocation.result in
    let limit = length a.relocations.now / 24 in
    let less = subst (λ n. c.loop-index.index < n) c.relocations_len-index-end.ensures c.loop-index-test.true in
    subst (λ y. CanBeMade y c.loop-index.section r.offset) (sym c.decision_in-decision.ensures)
    (can_next (map decision_in a.decisions.now) a.relocations.now c.loop-index.relocations a.section.now
    c.loop-index.section limit c.loop-index.index r c.loop-index.invariant less
    c.requires.made c.relocation_in-relocation.ensures)

pub returns-clause-others : goal.returns-clause-others
returns-clause-others c =
    let t = c.loop-index-test.false in
    let e = c.relocations_len-index-end.ensures in
    λ at outside. c.loop-index.invariant.others at (λ n less. outside n (omega arith))

pub returns-then-not-changes : goal.returns-then-not-changes
returns-then-not-changes c =
    let entries = c.args.relocations.now in
    let section = c.args.section.now in
    let kept = c.requires.left c.if-not-changes.true in
    record {
      relocations = λ n less. sym (ap (λ d. relocation_after d (relocation_in entries n)) (kept n less));
      done = λ n less. subst (λ d. IsDone d (relocation_in entries n).offset section section) (sym (kept n less)) tt;
      others = λ at outside. refl;
    }
