-- The rewrite of a decision is one that was chosen for its relocation.
use Rattle.linker_rewriting.proofs.Imports.{AArch64, Addresses, Architecture, AreDecidedIn, Bool, Choice, Consumed, Decision, FirstOfPair, Grouped, IfGroupMatches, Independent, IsArchitectureChoice, IsCandidate, IsCandidateWith, IsDecidedAfter, IsDecidedAlone, IsGroupDecision, IsLabelDecision, IsMatchedDecision, IsScopeDecision, IsScopeIn, IsUnchanged, Kept, Labelled, LinkFacts, List, LoongArch64, None, NotRelaxable, Option, OutputFacts, Phase, Ppc64, PreLayout, Rela, RelaxContext, Relaxation, Rewritten, RewrittenWithSymbol, RiscV, Scope, Some, Symbol, SymbolFacts, UnrelaxableGroups, X86_64, ap, decision_ahead, decision_at, decision_of, facts_at, facts_by, facts_with, false, group_stays, inl, inr, is_marked_in, is_taken, link_facts, refl, relocation_in, slice_get, subst, sym, true, ℕ, ℤ, ◌<◌, ◌∙◌, ◌≡◌, ◌⊎◌}

-- a relocation's rewrite, by facts with its addend
pub record IsChosen (s : RelaxContext) (section : List ℕ) (r : Rela) (chosen : Choice Relaxation ℕ)
    : Type 0 where
  pub facts : LinkFacts
  pub is_choice : IsArchitectureChoice s.architecture r.r_type section r.offset facts chosen
  pub changed : ¬ IsUnchanged r.r_type chosen
  pub addend : facts.operands.addend ≡ r.addend
  pub marked : Bool
  -- before addresses are known the calls of PowerPC64 alone are marked
  pub unmarked : s.phase ≡ PreLayout → (s.architecture ≡ Ppc64 → ⊥) → marked ≡ false
  pub facts_are : link_facts s r r marked ≡ Some facts

-- ---- the facts have the addend of their subject

abbrev addend_in : ℤ → Option LinkFacts → ℤ
addend_in other None = other
addend_in other (Some facts) = facts.operands.addend

HasAddend : ℤ → Option LinkFacts → Type 0
HasAddend addend f = (facts : LinkFacts) → f ≡ Some facts → facts.operands.addend ≡ addend

has_none : (addend : ℤ) → HasAddend addend None
unfolding HasAddend
has_none addend facts is = absurd (let e : None ≡ Some facts = is in cc)

has_some : (addend : ℤ) (mine : LinkFacts) → mine.operands.addend ≡ addend
    → HasAddend addend (Some mine)
unfolding HasAddend
has_some addend mine same facts is = sym (ap (addend_in addend) is) ∙ same

placed_has : (phase : Phase) (output : OutputFacts) (addresses : Addresses) (r subject : Rela)
    (marked : Bool) (symbol : SymbolFacts) (value : Option Symbol)
    → HasAddend subject.addend (facts_with phase output addresses r subject marked symbol value)
placed_has phase output addresses r subject marked symbol None = has_none subject.addend
placed_has phase output addresses r subject marked symbol (Some value) =
    has_some subject.addend _ refl

at_has : (phase : Phase) (output : OutputFacts) (addresses : Addresses) (values : List Symbol)
    (r subject : Rela) (marked : Bool) (symbol : SymbolFacts)
    → HasAddend subject.addend (facts_at phase output addresses values r subject marked symbol)
at_has PreLayout output addresses values r subject marked symbol = has_some subject.addend _ refl
at_has phase output addresses values r subject marked symbol =
    placed_has phase output addresses r subject marked symbol (slice_get values subject.symbol)

by_has : (phase : Phase) (output : OutputFacts) (addresses : Addresses) (values : List Symbol)
    (r subject : Rela) (marked : Bool) (symbol : Option SymbolFacts)
    → HasAddend subject.addend (facts_by phase output addresses values r subject marked symbol)
by_has phase output addresses values r subject marked None = has_none subject.addend
by_has phase output addresses values r subject marked (Some symbol) =
    at_has phase output addresses values r subject marked symbol

-- ---- candidates

unmarked_in : (bytes : List ℕ) (n : ℕ) (r : Rela) (architecture : Architecture)
    → (architecture ≡ Ppc64 → ⊥) → is_marked_in PreLayout architecture bytes n r ≡ false
unmarked_in bytes n r AArch64 isnt = refl
unmarked_in bytes n r RiscV isnt = refl
unmarked_in bytes n r LoongArch64 isnt = refl
unmarked_in bytes n r Ppc64 isnt = absurd (isnt refl)
unmarked_in bytes n r X86_64 isnt = refl

with_facts : (s : RelaxContext) (bytes section : List ℕ) (n : ℕ) (r : Rela)
    (chosen : Choice Relaxation ℕ) (marked : Bool) (f : Option LinkFacts)
    → (s.phase ≡ PreLayout → (s.architecture ≡ Ppc64 → ⊥) → marked ≡ false)
    → link_facts s r r marked ≡ f → HasAddend r.addend f
    → IsCandidateWith s bytes section n r f (Some chosen) → IsChosen s section r chosen
unfolding HasAddend
with_facts s bytes section n r chosen marked None unmarked facts_are has is =
    absurd (let e : Some chosen ≡ None = is in cc)
with_facts s bytes section n r chosen marked (Some facts) unmarked facts_are has is =
    record {
      facts = facts;
      is_choice = is.0;
      changed = is.1;
      addend = has facts refl;
      marked = marked;
      unmarked = unmarked;
      facts_are = facts_are;
    }

of_candidate : (s : RelaxContext) (bytes section : List ℕ) (n : ℕ) (r : Rela)
    (chosen : Choice Relaxation ℕ) → IsCandidate s bytes section n r (Some chosen)
    → IsChosen s section r chosen
of_candidate s bytes section n r chosen is =
    let marked = is_marked_in s.phase s.architecture bytes n r in
    with_facts s bytes section n r chosen marked
    (link_facts s r r marked)
    (λ early isnt. ap (λ p. is_marked_in p s.architecture bytes n r) early ∙ unmarked_in bytes n r s.architecture isnt)
    refl
    (by_has s.phase s.output s.addresses s.values r r marked (slice_get s.symbols r.symbol))
    is

-- ---- decisions

-- by which an instruction is rewritten
abbrev pub choice_of : Decision → Option (Choice Relaxation ℕ)
choice_of (Rewritten chosen) = Some chosen
choice_of (RewrittenWithSymbol chosen subject) = Some chosen
choice_of decision = None

abbrev choice_in : Choice Relaxation ℕ → Option (Choice Relaxation ℕ) → Choice Relaxation ℕ
choice_in other None = other
choice_in other (Some chosen) = chosen

-- what becomes of a relocation alone or with its group
pub record IsChosenAlone (s : RelaxContext) (section : List ℕ) (r : Rela) (decision : Decision)
    (mine : Choice Relaxation ℕ) : Type 0 where
  pub chosen : IsChosen s section r mine
  pub is : decision ≡ Rewritten mine

-- and by its label
pub record IsOfLabel (s : RelaxContext) (bytes section : List ℕ) (n : ℕ) (r : Rela) (decision : Decision)
    : Type 0 where
  pub scope_is : IsScopeIn s.architecture s.phase r.r_type Labelled
  pub label_is : IsLabelDecision s bytes section n r decision

module _ (s : RelaxContext) (bytes section : List ℕ) (n : ℕ) (r : Rela) (decision : Decision)
    (chosen : Choice Relaxation ℕ) (by : choice_of decision ≡ Some chosen) where
  isnt : (other : Decision) → choice_of other ≡ None → decision ≡ other → ⊥
  isnt other none same = let e : Some chosen ≡ None = sym by ∙ (ap choice_of same ∙ none) in cc

  of_some : (mine : Choice Relaxation ℕ) → IsCandidate s bytes section n r (Some mine)
      → decision ≡ Rewritten mine → IsChosenAlone s section r decision chosen
  of_some mine is same =
      let equal : mine ≡ chosen = ap (choice_in chosen) (sym (ap choice_of same) ∙ by) in
      record {
        chosen = of_candidate s bytes section n r chosen (subst (λ c. IsCandidate s bytes section n r (Some c)) equal is);
        is = same ∙ ap Rewritten equal;
      }

  of_option : (candidate : Option (Choice Relaxation ℕ)) → IsCandidate s bytes section n r candidate
      → decision ≡ decision_of candidate → IsChosenAlone s section r decision chosen
  of_option None is same = absurd (isnt Kept refl same)
  of_option (Some mine) is same = of_some mine is same

  of_group : (stays : Bool) → IsGroupDecision s bytes section n r stays decision
      → IsChosenAlone s section r decision chosen
  of_group true is = absurd (isnt Kept refl is)
  of_group false is = of_some (is.0) (is.1) (is.2)

  of_match : (stays : Bool) → IsMatchedDecision s bytes section n r stays decision
      → IsChosenAlone s section r decision chosen
  of_match true is = absurd (isnt Kept refl is)
  of_match false is = of_option (is.0) (is.1) (is.2)

  of_ahead : (is_rewritten : Bool) → decision ≡ decision_ahead is_rewritten
      → IsChosenAlone s section r decision chosen
  of_ahead true is = absurd (isnt Consumed refl is)
  of_ahead false is = absurd (isnt Kept refl is)

  of_scope : (kept : List UnrelaxableGroups) (scope : Scope) → IsScopeIn s.architecture s.phase r.r_type scope
      → IsScopeDecision s kept bytes section n r scope decision
      → IsChosenAlone s section r decision chosen ⊎ IsOfLabel s bytes section n r decision
  of_scope kept NotRelaxable of is = absurd (isnt Kept refl is)
  of_scope kept Independent of is = inl (of_option (is.0) (is.1) (is.2))
  of_scope kept (Grouped group) of is = inl (of_group (group_stays kept group r.symbol) is)
  of_scope kept (IfGroupMatches group) of is = inl (of_match (group_stays kept group r.symbol) is)
  of_scope kept Labelled of is = inr (record { scope_is = of; label_is = is })
  of_scope kept FirstOfPair of is = inl (of_ahead (is.0) (is.2))

  of_decided : (kept : List UnrelaxableGroups) (taken : Bool) → r ≡ relocation_in bytes n
      → IsDecidedAfter s kept bytes section n taken decision
      → IsChosenAlone s section r decision chosen ⊎ IsOfLabel s bytes section n r decision
  of_decided kept true is_there is = absurd (isnt Consumed refl is)
  of_decided kept false is_there is =
      let alone : IsDecidedAlone s kept bytes section n r decision =
      subst (λ x. IsDecidedAlone s kept bytes section n x decision) (sym is_there) is in
      of_scope kept (alone.0) (alone.1) (alone.2)

-- alone or with its group, or by its label
pub chosen_or_labelled : (s : RelaxContext) (kept : List UnrelaxableGroups) (bytes section : List ℕ)
    (decisions : List Decision) (limit n : ℕ) (decision : Decision) (chosen : Choice Relaxation ℕ)
    → AreDecidedIn s kept bytes section decisions limit → n < limit
    → decision_at decisions n ≡ decision → choice_of decision ≡ Some chosen
    → IsChosenAlone s section (relocation_in bytes n) decision chosen
    ⊎ IsOfLabel s bytes section n (relocation_in bytes n) decision
chosen_or_labelled s kept bytes section decisions limit n decision chosen decided below is by =
    of_decided s bytes section n (relocation_in bytes n) decision chosen by kept (is_taken decisions n) refl
    (subst (IsDecidedAfter s kept bytes section n (is_taken decisions n)) is (decided n below))

-- of a relocation whose scope is no label
pub chosen_at : (s : RelaxContext) (kept : List UnrelaxableGroups) (bytes section : List ℕ)
    (decisions : List Decision) (limit n : ℕ) (chosen : Choice Relaxation ℕ)
    → AreDecidedIn s kept bytes section decisions limit → n < limit
    → decision_at decisions n ≡ Rewritten chosen
    → ((scope : Scope) → IsScopeIn s.architecture s.phase (relocation_in bytes n).r_type scope
    → scope ≡ Labelled → ⊥)
    → IsChosen s section (relocation_in bytes n) chosen
chosen_at s kept bytes section decisions limit n chosen decided below is unlabelled =
    elim (chosen_or_labelled s kept bytes section decisions limit n (Rewritten chosen) chosen decided below is refl) [
      | inl alone ↦ alone.chosen
      | inr label ↦ absurd (unlabelled Labelled label.scope_is refl)
    ]
