-- Of a group all relocations are rewritten, or none is.
use Rattle.linker_rewriting.proofs.Imports.{AreDecidedIn, Bool, Choice, Decision, Group, Grouped, GroupsAreWholeAcross, GroupsAreWholeIn, IsDecidedAfter, IsDecidedAlone, IsGroupDecision, IsHighIn, IsInGroupIn, IsInLabel, IsLabelDecision, IsRewritten, IsScopeDecision, LabelFits, LabelsAreWhole, List, Phase, Rela, RelaxContext, Relaxation, Some, UnrelaxableGroups, ap, decision_at, false, group_stays, inl, inr, label_decision, refl, relocation_in, rewritten_by, stays_at, subst, sym, takes_symbol, true, ℕ, ◌||◌, ◌∙◌, ◌≡◌}
use Rattle.linker_rewriting.proofs.LabelGroups.{labelled, one_index, stays_or_fits}
use Rattle.linker_rewriting.proofs.Unique.{one_scope}

-- what a relocation of a group becomes
of_group : (s : RelaxContext) (kept : List UnrelaxableGroups) (bytes section : List ℕ) (n : ℕ) (r : Rela)
    (decision : Decision) (group : Group)
    → IsDecidedAlone s kept bytes section n r decision
    → IsInGroupIn s.architecture s.phase r.r_type group
    → IsGroupDecision s bytes section n r (group_stays kept group r.symbol) decision
of_group s kept bytes section n r decision group decided member =
    subst (λ scope. IsScopeDecision s kept bytes section n r scope decision)
    (one_scope s.architecture s.phase r.r_type (decided.0) (Grouped group) (decided.1) member)
    (decided.2)

not_kept : (s : RelaxContext) (bytes section : List ℕ) (n : ℕ) (r : Rela) (stays : Bool)
    (decision : Decision)
    → IsGroupDecision s bytes section n r stays decision → IsRewritten decision → stays ≡ false
not_kept s bytes section n r false decision is rewritten = refl
not_kept s bytes section n r true decision is rewritten =
    absurd (subst IsRewritten is rewritten)

rewritten_too : (s : RelaxContext) (bytes section : List ℕ) (n : ℕ) (r : Rela) (stays : Bool)
    (decision : Decision)
    → IsGroupDecision s bytes section n r stays decision → stays ≡ false → IsRewritten decision
rewritten_too s bytes section n r false decision is unkept =
    subst IsRewritten (sym (is.2)) tt
rewritten_too s bytes section n r true decision is unkept =
    absurd (let e : true ≡ false = unkept in cc)

pub whole_across : GroupsAreWholeAcross
whole_across s other kept bytes section others_bytes others_section decisions others limit others_limit decided others_decided i j group li lj mi mj same ti tj rewritten =
    let alone_i = subst (λ t. IsDecidedAfter s kept bytes section i t (decision_at decisions i)) ti (decided i li) in
    let alone_j = subst (λ t. IsDecidedAfter other kept others_bytes others_section j t (decision_at others j)) tj (others_decided j lj) in
    let ri = relocation_in bytes i in
    let rj = relocation_in others_bytes j in
    let is_i = of_group s kept bytes section i ri (decision_at decisions i) group alone_i mi in
    let is_j = of_group other kept others_bytes others_section j rj (decision_at others j) group alone_j mj in
    let no_i = not_kept s bytes section i ri (group_stays kept group ri.symbol) (decision_at decisions i) is_i rewritten in
    let both : group_stays kept group rj.symbol ≡ group_stays kept group ri.symbol =
    ap (λ y. stays_at kept group 0 || stays_at kept group y) (sym same) in
    rewritten_too other others_bytes others_section j rj (group_stays kept group rj.symbol) (decision_at others j) is_j (both ∙ no_i)

pub whole : (s : RelaxContext) (kept : List UnrelaxableGroups) (bytes section : List ℕ)
    (decisions : List Decision) (limit : ℕ)
    → AreDecidedIn s kept bytes section decisions limit
    → GroupsAreWholeIn s.architecture s.phase bytes decisions limit
whole s kept bytes section decisions limit decided =
    whole_across s s kept bytes section bytes section decisions decisions limit limit decided decided

-- ---- labels

of_label : (s : RelaxContext) (kept : List UnrelaxableGroups) (bytes section : List ℕ) (n : ℕ) (r : Rela)
    (decision : Decision) → IsDecidedAlone s kept bytes section n r decision
    → IsInLabel s.architecture s.phase r.r_type true
    → IsLabelDecision s bytes section n r decision
of_label s kept bytes section n r decision decided in_label =
    subst (λ scope. IsScopeDecision s kept bytes section n r scope decision)
    (one_scope s.architecture s.phase r.r_type (decided.0) (in_label.0) (decided.1) (in_label.1)
    ∙ labelled (in_label.0) (in_label.2))
    (decided.2)

is_rewritten : (phase : Phase) (chosen : Choice Relaxation ℕ) (high : Rela)
    → IsRewritten (label_decision phase chosen high)
is_rewritten phase chosen high = either (takes_symbol phase chosen.relocation)
  where
    either : (takes : Bool) → IsRewritten (rewritten_by takes chosen high)
    either true = tt
    either false = tt

both_rewritten : (s : RelaxContext) (bytes section : List ℕ) (i j : ℕ) (r other : Rela) (high : ℕ)
    (x y : Decision) → IsLabelDecision s bytes section i r x → IsLabelDecision s bytes section j other y
    → IsHighIn s bytes r (Some high) → IsHighIn s bytes other (Some high) → IsRewritten x
    → IsRewritten y
both_rewritten s bytes section i j r other high x y a b is too rewritten =
    elim a [
      | inl stays ↦ absurd (subst IsRewritten (stays.1) rewritten)
      | inr fits ↦ elim b [
        | inl stays ↦ absurd (stays_or_fits s bytes section other high (stays.0) too
            (subst (LabelFits s bytes section) (one_index s bytes r (fits.0) high (fits.1) is) (fits.2)))
        | inr more ↦ subst IsRewritten (sym (more.5)) (is_rewritten s.phase (more.3) (relocation_in bytes (more.0)))
      ]
    ]

pub labels_whole : (s : RelaxContext) (kept : List UnrelaxableGroups) (bytes section : List ℕ)
    (decisions : List Decision) (limit : ℕ)
    → AreDecidedIn s kept bytes section decisions limit → LabelsAreWhole s bytes decisions limit
labels_whole s kept bytes section decisions limit decided i j high li lj mi mj hi hj ti tj =
    let alone_i = subst (λ t. IsDecidedAfter s kept bytes section i t (decision_at decisions i)) ti (decided i li) in
    let alone_j = subst (λ t. IsDecidedAfter s kept bytes section j t (decision_at decisions j)) tj (decided j lj) in
    both_rewritten s bytes section i j (relocation_in bytes i) (relocation_in bytes j) high
    (decision_at decisions i) (decision_at decisions j)
    (of_label s kept bytes section i (relocation_in bytes i) (decision_at decisions i) alone_i mi)
    (of_label s kept bytes section j (relocation_in bytes j) (decision_at decisions j) alone_j mj) hi hj
