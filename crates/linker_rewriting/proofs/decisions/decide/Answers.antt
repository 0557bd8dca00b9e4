use Rattle.linker_rewriting.proofs.Imports.{Grouped, IfGroupMatches, Independent, IsCandidate, IsGroupDecision, IsMatchedDecision, IsScopeIn, Rewritten, Some, context_of, false, group_stays, refl, subst, sym, ◌∙◌, ◌≡◌}
use Rattle.linker_rewriting.proofs.decisions.decide.Goals as goal
use Rattle.linker_rewriting.proofs.decisions.decide.Goals.{in-Grouped+else-group_stays, in-IfGroupMatches+else-group_stays-2, in-Independent}

pub returns-in-Some-clause-decided : goal.returns-in-Some-clause-decided
returns-in-Some-clause-decided c =
    let a = c.args in
    let s = context_of a.rule.now.context.now in
    let r = a.site.now.relocation in
    let d = Rewritten c.in-Some.choice in
    let is : IsCandidate s a.site.now.relocations.now a.site.now.section.now a.site.now.index r (Some c.in-Some.choice) =
    subst (IsCandidate s a.site.now.relocations.now a.site.now.section.now a.site.now.index r) c.in-Some.is c.candidate.ensures.candidate in
    elim c.match-scope_in.branch [
      | in-Grouped+else-group_stays w ↦ (
        Grouped w.in-Grouped.group,
        subst (IsScopeIn s.architecture s.phase r.r_type) w.in-Grouped.is c.scope_in.ensures,
        subst (λ b. IsGroupDecision s a.site.now.relocations.now a.site.now.section.now a.site.now.index r b d)
            (sym (let no : group_stays a.rule.now.kept.now w.in-Grouped.group r.symbol ≡ false = sym w.group_stays.ensures ∙ w.if-group_stays.false in no))
            (c.in-Some.choice, is, refl),
      )
      | in-IfGroupMatches+else-group_stays-2 w ↦ (
        IfGroupMatches w.in-IfGroupMatches.group,
        subst (IsScopeIn s.architecture s.phase r.r_type) w.in-IfGroupMatches.is c.scope_in.ensures,
        subst (λ b. IsMatchedDecision s a.site.now.relocations.now a.site.now.section.now a.site.now.index r b d)
            (sym (let no : group_stays a.rule.now.kept.now w.in-IfGroupMatches.group r.symbol ≡ false = sym w.group_stays-in-IfGroupMatches.ensures ∙ w.if-group_stays-2.false in no))
            (Some c.in-Some.choice, is, refl),
      )
      | in-Independent w ↦ (
        Independent,
        subst (IsScopeIn s.architecture s.phase r.r_type) w.in-Independent.is c.scope_in.ensures,
        (Some c.in-Some.choice, is, refl),
      )
    ]
