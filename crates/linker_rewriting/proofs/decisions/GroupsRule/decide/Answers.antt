use Rattle.linker_rewriting.proofs.Imports.{Consumed, IfSome, IsDecided, IsInLabel, IsLabelNote, context_of, refl, subst, sym, true}
use Rattle.linker_rewriting.proofs.Deciding.{ends_in, itself}
use Rattle.linker_rewriting.proofs.decisions.GroupsRule.decide.Goals as goal

pub returns-then-is_taken-clause-decided : goal.returns-then-is_taken-clause-decided
returns-then-is_taken-clause-decided c =
    let a = c.args in
    subst (λ t. IsDecided (context_of a.self.now.context.now) a.self.now.kept.now a.site.now.relocations.now a.site.now.section.now a.site.now.index t a.site.now.relocation Consumed) (sym c.if-is_taken.true) refl

pub returns-clause-decided : goal.returns-clause-decided
returns-clause-decided c =
    let a = c.args in
    subst (λ t. IfSome c.decide.result (IsDecided (context_of a.self.now.context.now) a.self.now.kept.now a.site.now.relocations.now a.site.now.section.now a.site.now.index t a.site.now.relocation)) (sym c.if-is_taken.false) c.decide.ensures.decided

pub returns-clause-within : goal.returns-clause-within
returns-clause-within c = itself c.args.site.now.relocation.offset c.decide.result

pub returns-clause-ends : goal.returns-clause-ends
returns-clause-ends c =
    ends_in c.args.site.now.section.now c.args.site.now.relocation.offset c.decide.result c.decide.ensures.there

pub decide-requires-clause-noted : goal.decide-requires-clause-noted
decide-requires-clause-noted c in_label =
    let a = c.args in
    let x = a.self.now.context.now in
    subst (λ r. IsLabelNote (context_of x) a.site.now.relocations.now a.site.now.section.now r a.stays) (sym c.requires.there)
    (c.requires.noted (subst (λ r. IsInLabel x.architecture x.phase r.r_type true) c.requires.there in_label))
