-- The order of surveys doesn't matter, and decisions follow from which groups stay.
use Rattle.linker_rewriting.proofs.Imports.{AllStayIf, Bool, Decision, DecisionsFollow, FirstOfPair, Group, Grouped, HasRewrite, IfGroupMatches, Independent, IsCause, IsDecidedAfter, IsGroupDecision, IsKeeping, IsMatchedDecision, IsRewrittenAlone, IsRewrittenAt, IsScopeDecision, IsScopeIn, IsSurveyedIn, IsTrue, Labelled, List, None, NotRelaxable, Option, Rela, RelaxContext, Scope, Some, StaysBy, SurveysCommute, UnrelaxableGroups, ap, arith, decision_ahead, decision_at, decision_of, false, group_stays, inl, inr, is_some, is_taken, refl, relocation_at, relocation_in, stays_at, subst, suc, sym, symbol_of_group, takes_next, true, zero, ℕ, ◌+◌, ◌<◌, ◌||◌, ◌↔◌, ◌∙◌, ◌≡◌}
use Rattle.linker_rewriting.proofs.LabelGroups.{one_label_decision}
use Rattle.linker_rewriting.proofs.Noted.{one_group}
use Rattle.linker_rewriting.proofs.Unique.{one_scope, no_other, one_candidate, one_matched}

-- ---- surveys

group_matched : Group → Scope → Group
group_matched other (IfGroupMatches group) = group
group_matched other scope = other

one_match : (s : RelaxContext) (r_type : ℕ) (x y : Group)
    → IsScopeIn s.architecture s.phase r_type (IfGroupMatches x)
    → IsScopeIn s.architecture s.phase r_type (IfGroupMatches y) → x ≡ y
unfolding group_matched
one_match s r_type x y a b =
    ap (group_matched x) (one_scope s.architecture s.phase r_type (IfGroupMatches x) (IfGroupMatches y) a b)

-- a relocation keeps one kind of groups, or none
one_keeping : (s : RelaxContext) (bytes section : List ℕ) (n : ℕ) (r : Rela) (group : Group)
    (other : Option Group) → IsKeeping s bytes section n r (Some group)
    → IsKeeping s bytes section n r other → Some group ≡ other
one_keeping s bytes section n r group (Some other) (inl a) (inl b) =
    ap Some (one_group s r.r_type group other (a.0) (b.0))
one_keeping s bytes section n r group (Some other) (inr a) (inr b) =
    ap Some (one_match s r.r_type group other (a.0) (b.0))
one_keeping s bytes section n r group (Some other) (inl a) (inr b) =
    let e : Grouped group ≡ IfGroupMatches other =
    one_scope s.architecture s.phase r.r_type (Grouped group) (IfGroupMatches other) (a.0) (b.0) in cc
one_keeping s bytes section n r group (Some other) (inr a) (inl b) =
    let e : IfGroupMatches group ≡ Grouped other =
    one_scope s.architecture s.phase r.r_type (IfGroupMatches group) (Grouped other) (a.0) (b.0) in cc
one_keeping s bytes section n r group None (inl a) b =
    let has = subst (HasRewrite s bytes section n r)
    (one_scope s.architecture s.phase r.r_type (b.0) (Grouped group) (b.1) (a.0)) (b.2) in
    absurd (no_other s bytes section n r (has.0) (has.1) (a.1))
one_keeping s bytes section n r group None (inr a) b =
    let has = subst (HasRewrite s bytes section n r)
    (one_scope s.architecture s.phase r.r_type (b.0) (IfGroupMatches group) (b.1) (a.0)) (b.2) in
    let e : true ≡ false = one_matched s bytes section n r true false has (a.1) in cc

cause_stays : (s : RelaxContext) (bytes section : List ℕ) (before after : List UnrelaxableGroups)
    (limit n : ℕ) (group : Group) (symbol : ℕ) → IsSurveyedIn s bytes section before after limit
    → n < limit → IsCause s bytes section n group symbol → IsTrue (stays_at after group symbol)
cause_stays s bytes section before after limit n group symbol surveyed less (inl cause) =
    let noted = surveyed.noted n less in
    let same = one_keeping s bytes section n (relocation_in bytes n) group noted.group (cause.0) noted.is_keeping in
    subst (λ y. IsTrue (stays_at after group y)) (sym (cause.1))
    (subst (StaysBy after (relocation_in bytes n).symbol) (sym same) noted.stays)
cause_stays s bytes section before after limit n group symbol surveyed less (inr cause) =
    let noted = surveyed.noted n less in
    let same : noted.unmarked ≡ true =
    noted.is_unmarked ∙ sym (cause.0) in
    subst (λ y. IsTrue (stays_at after group y)) (sym (cause.2))
    (subst (λ b. AllStayIf b after) same noted.all_stay group (cause.1))

stays_too : (s other : RelaxContext) (bytes section others_bytes others_section : List ℕ)
    (before mid after mid_too after_too : List UnrelaxableGroups) (limit others_limit : ℕ)
    → IsSurveyedIn s bytes section before mid limit
    → IsSurveyedIn other others_bytes others_section mid after others_limit
    → IsSurveyedIn other others_bytes others_section before mid_too others_limit
    → IsSurveyedIn s bytes section mid_too after_too limit
    → (group : Group) (symbol : ℕ) → IsTrue (stays_at after group symbol)
    → IsTrue (stays_at after_too group symbol)
stays_too s other bytes section others_bytes others_section before mid after mid_too after_too limit others_limit first second first_too second_too group symbol stays =
    elim (second.caused group symbol stays) [
      | inl in_mid ↦ elim (first.caused group symbol in_mid) [
        | inl in_before ↦ second_too.stayed group symbol (first_too.stayed group symbol in_before)
        | inr cause ↦ cause_stays s bytes section mid_too after_too limit (cause.0) group symbol second_too (cause.1) (cause.2)
      ]
      | inr cause ↦ second_too.stayed group symbol
          (cause_stays other others_bytes others_section before mid_too others_limit (cause.0) group symbol first_too (cause.1) (cause.2))
    ]

pub surveys_commute : SurveysCommute
surveys_commute s other bytes section others_bytes others_section before mid after mid_too after_too limit others_limit first second first_too second_too group symbol = (
  stays_too s other bytes section others_bytes others_section before mid after mid_too after_too limit others_limit first second first_too second_too group symbol,
  stays_too other s others_bytes others_section bytes section before mid_too after_too mid after others_limit limit first_too second_too first second group symbol,
)

-- ---- decisions

same_bool : (a b : Bool) → (IsTrue a ↔ IsTrue b) → a ≡ b
same_bool true true is = refl
same_bool false false is = refl
same_bool true false is = sym (is.0 refl)
same_bool false true is = is.1 refl

abbrev AreTheSame : List UnrelaxableGroups → List UnrelaxableGroups → Type 0
AreTheSame kept kept_too =
    (group : Group) (symbol : ℕ)
    → (IsTrue (stays_at kept group symbol) ↔ IsTrue (stays_at kept_too group symbol))

same_stays : (kept kept_too : List UnrelaxableGroups) (group : Group) (symbol : ℕ)
    → AreTheSame kept kept_too → group_stays kept_too group symbol ≡ group_stays kept group symbol
same_stays kept kept_too group symbol same =
    sym (ap (λ b. b || stays_at kept group (symbol_of_group group symbol))
    (same_bool (stays_at kept group 0) (stays_at kept_too group 0) (same group 0))
    ∙ ap (λ b. stays_at kept_too group 0 || b)
    (same_bool (stays_at kept group (symbol_of_group group symbol)) (stays_at kept_too group (symbol_of_group group symbol)) (same group (symbol_of_group group symbol))))

one_of_group : (s : RelaxContext) (bytes section : List ℕ) (n : ℕ) (r : Rela) (stays : Bool)
    (x y : Decision) → IsGroupDecision s bytes section n r stays x
    → IsGroupDecision s bytes section n r stays y → x ≡ y
one_of_group s bytes section n r true x y a b = a ∙ sym b
one_of_group s bytes section n r false x y a b =
    a.2 ∙ (ap decision_of (one_candidate s bytes section n r (Some (a.0)) (Some (b.0)) (a.1) (b.1)) ∙ sym (b.2))

one_of_matched : (s : RelaxContext) (bytes section : List ℕ) (n : ℕ) (r : Rela) (stays : Bool)
    (x y : Decision) → IsMatchedDecision s bytes section n r stays x
    → IsMatchedDecision s bytes section n r stays y → x ≡ y
one_of_matched s bytes section n r true x y a b = a ∙ sym b
one_of_matched s bytes section n r false x y a b =
    a.2 ∙ (ap decision_of (one_candidate s bytes section n r (a.0) (b.0) (a.1) (b.1)) ∙ sym (b.2))

one_alone : (s : RelaxContext) (bytes section : List ℕ) (n : ℕ) (r : Rela) (scope : Scope) (x y : Bool)
    → IsRewrittenAlone s bytes section n r scope x → IsRewrittenAlone s bytes section n r scope y
    → x ≡ y
one_alone s bytes section n r Independent x y a b =
    a.2 ∙ (ap is_some (one_candidate s bytes section n r (a.0) (b.0) (a.1) (b.1)) ∙ sym (b.2))
one_alone s bytes section n r NotRelaxable x y a b = a ∙ sym b
one_alone s bytes section n r (Grouped group) x y a b = a ∙ sym b
one_alone s bytes section n r (IfGroupMatches group) x y a b = a ∙ sym b
one_alone s bytes section n r Labelled x y a b = a ∙ sym b
one_alone s bytes section n r FirstOfPair x y a b = a ∙ sym b

one_rewritten : (s : RelaxContext) (bytes section : List ℕ) (n : ℕ) (r : Option Rela) (x y : Bool)
    → IsRewrittenAt s bytes section n r x → IsRewrittenAt s bytes section n r y → x ≡ y
one_rewritten s bytes section n None x y a b = a ∙ sym b
one_rewritten s bytes section n (Some r) x y a b =
    one_alone s bytes section n r (b.0) x y
    (subst (λ scope. IsRewrittenAlone s bytes section n r scope x)
    (one_scope s.architecture s.phase r.r_type (a.0) (b.0) (a.1) (b.1)) (a.2))
    (b.2)

one_of_scope : (s : RelaxContext) (kept kept_too : List UnrelaxableGroups) (bytes section : List ℕ) (n : ℕ)
    (r : Rela) (scope : Scope) (x y : Decision) → AreTheSame kept kept_too
    → IsScopeDecision s kept bytes section n r scope x
    → IsScopeDecision s kept_too bytes section n r scope y → x ≡ y
one_of_scope s kept kept_too bytes section n r NotRelaxable x y same a b = a ∙ sym b
one_of_scope s kept kept_too bytes section n r Independent x y same a b =
    a.2 ∙ (ap decision_of (one_candidate s bytes section n r (a.0) (b.0) (a.1) (b.1)) ∙ sym (b.2))
one_of_scope s kept kept_too bytes section n r (Grouped group) x y same a b =
    one_of_group s bytes section n r (group_stays kept group r.symbol) x y a
    (subst (λ stays. IsGroupDecision s bytes section n r stays y) (same_stays kept kept_too group r.symbol same) b)
one_of_scope s kept kept_too bytes section n r (IfGroupMatches group) x y same a b =
    one_of_matched s bytes section n r (group_stays kept group r.symbol) x y a
    (subst (λ stays. IsMatchedDecision s bytes section n r stays y) (same_stays kept kept_too group r.symbol same) b)
one_of_scope s kept kept_too bytes section n r Labelled x y same a b =
    one_label_decision s bytes section n r x y a b
one_of_scope s kept kept_too bytes section n r FirstOfPair x y same a b =
    a.2 ∙ (ap decision_ahead (one_rewritten s bytes section (n + 1) (relocation_at bytes (n + 1)) (a.0) (b.0) (a.1) (b.1)) ∙ sym (b.2))

one_decision : (s : RelaxContext) (kept kept_too : List UnrelaxableGroups) (bytes section : List ℕ) (n : ℕ)
    (taken : Bool) (x y : Decision) → AreTheSame kept kept_too
    → IsDecidedAfter s kept bytes section n taken x
    → IsDecidedAfter s kept_too bytes section n taken y → x ≡ y
one_decision s kept kept_too bytes section n true x y same a b = a ∙ sym b
one_decision s kept kept_too bytes section n false x y same a b =
    one_of_scope s kept kept_too bytes section n (relocation_in bytes n) (b.0) x y same
    (subst (λ scope. IsScopeDecision s kept bytes section n (relocation_in bytes n) scope x)
    (one_scope s.architecture s.phase (relocation_in bytes n).r_type (a.0) (b.0) (a.1) (b.1)) (a.2))
    (b.2)

pub decisions_follow : DecisionsFollow
decisions_follow s kept kept_too bytes section decisions others limit same are are_too zero less =
    one_decision s kept kept_too bytes section 0 false (decision_at decisions 0) (decision_at others 0) same
    (are 0 less) (are_too 0 less)
decisions_follow s kept kept_too bytes section decisions others limit same are are_too (suc n) less =
    let before = decisions_follow s kept kept_too bytes section decisions others limit same are are_too n (omega arith) in
    one_decision s kept kept_too bytes section (suc n) (is_taken others (suc n)) (decision_at decisions (suc n)) (decision_at others (suc n)) same
    (subst (λ t. IsDecidedAfter s kept bytes section (suc n) t (decision_at decisions (suc n))) (ap takes_next before) (are (suc n) less))
    (are_too (suc n) less)
