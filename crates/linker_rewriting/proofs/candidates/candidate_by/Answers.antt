use Rattle.linker_rewriting.proofs.Imports.{IsCandidateWith, IsTaken, IsUnchanged, IsWhole, None, Some, context_of, eq-eqb, eqb-true, inl, inr, relaxation_skipped, subst, sym}
use Rattle.linker_rewriting.proofs.SequenceMembers.{whole_so}
use Rattle.linker_rewriting.proofs.candidates.candidate_by.Goals as goal

pub returns-then-is_unchanged-clause-candidate : goal.returns-then-is_unchanged-clause-candidate
returns-then-is_unchanged-clause-candidate c =
    let a = c.args in
    let unchanged = c.is_unchanged.ensures.0 c.if-is_unchanged.true in
    subst (λ f. IsCandidateWith (context_of a.context.now) a.site.now.relocations.now a.site.now.section.now a.site.now.index a.site.now.relocation f None) (sym c.in-Some.is) (
      c.choose-chosen.result,
      c.choose-chosen.ensures.chosen,
      inl (unchanged.0, eqb-true _ _ (unchanged.1)),
    )

pub returns-then-not-finds_next-clause-candidate : goal.returns-then-not-finds_next-clause-candidate
returns-then-not-finds_next-clause-candidate c =
    let a = c.args in
    let s = context_of a.context.now in
    let r = a.site.now.relocation in
    subst (λ f. IsCandidateWith s a.site.now.relocations.now a.site.now.section.now a.site.now.index r f None) (sym c.in-Some.is) (
      c.choose-chosen.result,
      c.choose-chosen.ensures.chosen,
      inr (inl (subst (IsTaken s.architecture s.symbols a.site.now.relocations.now a.site.now.index r.offset (relaxation_skipped c.choose-chosen.result.kind)) c.if-not-finds_next.true c.finds_next.ensures)),
    )

pub returns-then-not-is_whole-clause-candidate : goal.returns-then-not-is_whole-clause-candidate
returns-then-not-is_whole-clause-candidate c =
    let a = c.args in
    let s = context_of a.context.now in
    let r = a.site.now.relocation in
    subst (λ f. IsCandidateWith s a.site.now.relocations.now a.site.now.section.now a.site.now.index r f None) (sym c.in-Some.is) (
      c.choose-chosen.result,
      c.choose-chosen.ensures.chosen,
      inr (inr (inl (subst (IsWhole s.architecture a.site.now.relocations.now a.site.now.index r) c.if-not-is_whole.true
          (whole_so s.architecture a.site.now.relocations.now a.site.now.index r c.is_whole.result c.is_whole.ensures)))),
    )

pub returns-then-not-deletes_within-clause-candidate : goal.returns-then-not-deletes_within-clause-candidate
returns-then-not-deletes_within-clause-candidate c =
    let a = c.args in
    subst (λ f. IsCandidateWith (context_of a.context.now) a.site.now.relocations.now a.site.now.section.now a.site.now.index a.site.now.relocation f None) (sym c.in-Some.is) (
      c.choose-chosen.result,
      c.choose-chosen.ensures.chosen,
      inr (inr (inr cc)),
    )

pub returns-clause-candidate : goal.returns-clause-candidate
returns-clause-candidate c =
    let a = c.args in
    let s = context_of a.context.now in
    let r = a.site.now.relocation in
    let chosen = c.choose-chosen.result in
    let changed : ¬ IsUnchanged r.r_type chosen =
    λ u. absurd (let is = c.is_unchanged.ensures.1 (u.0, eq-eqb _ _ (u.1)) in
    let isnt = c.if-is_unchanged.false in cc) in
    subst (λ f. IsCandidateWith s a.site.now.relocations.now a.site.now.section.now a.site.now.index r f (Some chosen)) (sym c.in-Some.is) (
      c.choose-chosen.ensures.chosen,
      changed,
      subst (IsTaken s.architecture s.symbols a.site.now.relocations.now a.site.now.index r.offset (relaxation_skipped chosen.kind)) c.if-not-finds_next.false c.finds_next.ensures,
      subst (IsWhole s.architecture a.site.now.relocations.now a.site.now.index r) c.if-not-is_whole.false
          (whole_so s.architecture a.site.now.relocations.now a.site.now.index r c.is_whole.result c.is_whole.ensures),
      cc,
    )
