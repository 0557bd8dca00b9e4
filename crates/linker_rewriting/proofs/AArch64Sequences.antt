-- Of a sequence of AArch64 all relocations are rewritten, or none is.
use Rattle.linker_rewriting.proofs.Imports.{AArch64, AArch64Applies, AArch64Choice, AArch64Relocation, Addresses, AreDecidedIn, Bool, Choice, Consumed, Decision, FirstOfPair, Group, Grouped, Independent, IsAArch64Choice, IsAddressRewritten, IsArchitectureChoice, IsBound, IsCandidate, IsCandidateWith, IsChosenBy, IsDecidedAfter, IsDecidedAlone, IsDescriptorRewritten, IsDescriptorWhole, IsFirst, IsGroupDecision, IsLoadRewritten, IsNameOf, IsNamed, IsPartAt, IsRewrittenAlone, IsRewrittenAt, IsRewrittenBy, IsScopeDecision, IsScopeIn, IsWhole, IsWholeBy, Kept, Labelled, LinkFacts, List, Member, None, NotRelaxable, Option, OutputFacts, Phase, Ppc64, Rela, RelaxContext, Relaxation, Rewritten, RewrittenWithSymbol, Scope, SequencesAreWhole, Some, Symbol, SymbolFacts, Tie, UnrelaxableGroups, aarch64_entries, aarch64_matches, aarch64_name, aarch64_scope_in, ap, are_members, arith, cases_Bool, choice, cond-false, cond-true, decision_ahead, decision_at, decision_of, descriptor, descriptor_entries, erased, facts_by, facts_of, false, got_load, group_stays, inl, inr, is_among, is_labelled, is_some, is_taken, is_typed, is_whole, length, ltb, member, page_and_offset, r_type_of, refl, relaxation_no_op, relaxation_skipped, relocation_at, relocation_in, slice_get, subst, suc, sym, takes_next, true, zero, ℕ, ⊤, ◌&&◌, ◌+◌, ◌-◌, ◌/◌, ◌<◌, ◌∙◌, ◌≡◌, ◌≢◌, ◌≤◌, ◌⊎◌}
use Rattle.linker_elf.specs.declared.aarch64.relocations.AArch64Relocation.TheVariants as names
use Rattle.linker_rewriting.proofs.Chosen.{IsChosen, chosen_at, chosen_or_labelled}
use Rattle.linker_rewriting.proofs.Entries.{IsOfOne, of_one}
use Rattle.linker_rewriting.proofs.LabelGroups.{aarch64_none}
use Rattle.linker_rewriting.proofs.SequenceMembers.{IsThere, among, are_there, at_first, there}
use Rattle.linker_rewriting.proofs.PreLayout.{are_early}
use Rattle.linker_rewriting.proofs.Unique.{one_candidate, one_scope}
use Rattle.linker_rewriting.specs.declared.groups.Group.TheVariants as groups
use Rattle.linker_rewriting.specs.declared.phases.Phase.TheVariants as phases
use Rattle.linker_rewriting.specs.declared.sequences.Tie.TheVariants as ties
use Rattle.linker_utils.specs.declared.aarch64.rewrites.RewriteKind.TheVariants as kinds
use Rattle.linker_utils.specs.declared.architecture.Relaxation.TheVariants as relaxations

-- ---- scopes

-- AArch64 has no labels
pub unlabelled : (phase : Phase) (r_type : ℕ) (scope : Scope) → IsScopeIn AArch64 phase r_type scope
    → scope ≡ Labelled → ⊥
unlabelled phase r_type scope is labelled =
    let no : is_labelled scope ≡ false = ap is_labelled is.value_is ∙ aarch64_none phase is.name in
    let yes : is_labelled scope ≡ true = ap is_labelled labelled in
    let e : true ≡ false = sym yes ∙ no in cc

-- a name has a scope in one phase alone
abbrev OnlyIn : Phase → Phase → AArch64Relocation → Type 0
OnlyIn phase other name = (other ≡ phase) ⊎ (aarch64_scope_in other name ≡ NotRelaxable)

only_in : (phase : Phase) (name : AArch64Relocation)
    → OnlyIn phase phases.PreLayout name × OnlyIn phase phases.TlsLocalExec name
    × OnlyIn phase phases.GotToPcRel name × OnlyIn phase phases.ShortPcRel name
    → (other : Phase) → OnlyIn phase other name
only_in phase name all phases.PreLayout = all.0
only_in phase name all phases.TlsLocalExec = all.1
only_in phase name all phases.GotToPcRel = all.2
only_in phase name all phases.ShortPcRel = all.3

-- what the first of a pair waits for
independent_is : (name : AArch64Relocation) → aarch64_scope_in phases.ShortPcRel name ≡ Independent
    → name ≡ names.R_AARCH64_ADD_ABS_LO12_NC
independent_is names.R_AARCH64_ADR_PREL_PG_HI21 is =
    absurd (let e : FirstOfPair ≡ Independent = is in cc)
independent_is names.R_AARCH64_ADD_ABS_LO12_NC is = refl
independent_is name is = absurd (let e : NotRelaxable ≡ Independent = is in cc)

-- ---- what a descriptor's instruction becomes

abbrev IsLocal : LinkFacts → Type 0
IsLocal f = IsBound f × (f.is_executable ≡ true)

abbrev IsMember : LinkFacts → AArch64Choice → AArch64Choice → AArch64Choice → Type 0
IsMember f local initial named =
    (IsLocal f × (named ≡ local)) ⊎ ((IsLocal f → ⊥) × (named ≡ initial))

one_of_two : (name : AArch64Relocation) (n : ℕ) (section : List ℕ) (at : ℕ) (f : LinkFacts)
    (local initial named : AArch64Choice) → f.has_addresses ≡ false
    → (aarch64_matches initial.kind section at → aarch64_matches local.kind section at)
    → (named ≡ choice kinds.NoOp name → ⊥)
    → IsFirst (AArch64Applies name section at f) (descriptor_entries n local initial) (choice kinds.NoOp name) named
    → IsMember f local initial named
one_of_two name n section at f local initial named early matches changed (inl h) =
    inl ((h.0.1.0, h.0.1.1.0), h.1)
one_of_two name n section at f local initial named early matches changed (inr (fails, inl h)) =
    inr (
      λ l. fails (
        (matches h.0.0.0, h.0.0.1),
        (l.0, (l.1, (λ known. absurd (let e : false ≡ true = sym early ∙ known in cc), tt))),
      ),
      h.1,
    )
one_of_two name n section at f local initial named early matches changed (inr (fails, inr h)) =
    absurd (changed h.1)

-- of one symbol and addend the facts are the same
same_by : (output : OutputFacts) (addresses : Addresses) (values : List Symbol) (r q : Rela)
    (entry : Option SymbolFacts) → q.addend ≡ r.addend
    → facts_by phases.PreLayout output addresses values q q false entry
    ≡ facts_by phases.PreLayout output addresses values r r false entry
same_by output addresses values r q None same = refl
same_by output addresses values r q (Some symbol) same =
    ap (λ a. Some (facts_of output symbol a false)) same

abbrev rela_in : Rela → Option Rela → Rela
rela_in other None = other
rela_in other (Some r) = r

abbrev facts_in : LinkFacts → Option LinkFacts → LinkFacts
facts_in other None = other
facts_in other (Some f) = f

-- ---- decisions

module _ (s : RelaxContext) (aarch64 : s.architecture ≡ AArch64) (kept : List UnrelaxableGroups)
    (bytes section : List ℕ) (decisions : List Decision)
    (decided : AreDecidedIn s kept bytes section decisions (length bytes / 24)) where
  no_labels : (r : Rela) (scope : Scope) → IsScopeIn s.architecture s.phase r.r_type scope
      → scope ≡ Labelled → ⊥
  no_labels r scope is =
      unlabelled s.phase r.r_type scope (subst (λ x. IsScopeIn x s.phase r.r_type scope) aarch64 is)

  chosen_there : (n : ℕ) (chosen : Choice Relaxation ℕ) → n < length bytes / 24
      → decision_at decisions n ≡ Rewritten chosen → IsChosen s section (relocation_in bytes n) chosen
  chosen_there n chosen below is =
      chosen_at s kept bytes section decisions (length bytes / 24) n chosen decided below is
      (no_labels (relocation_in bytes n))

  choice_there : (n : ℕ) (chosen : Choice Relaxation ℕ) (is : IsChosen s section (relocation_in bytes n) chosen)
      → IsChosenBy aarch64_name relaxations.AArch64
      (λ name. IsAArch64Choice name section (relocation_in bytes n).offset is.facts) (relocation_in bytes n).r_type chosen
  choice_there n chosen is =
      subst (λ x. IsArchitectureChoice x (relocation_in bytes n).r_type section (relocation_in bytes n).offset is.facts chosen)
      aarch64 is.is_choice

  -- no rewrite takes the next relocation along
  takes_none : (m : ℕ) → m < length bytes / 24 → (d : Decision) → decision_at decisions m ≡ d
      → takes_next d ≡ false
  takes_none m below Kept is = refl
  takes_none m below Consumed is = refl
  takes_none m below (Rewritten chosen) is =
      ap (λ k. is_some (relaxation_skipped k)) (choice_there m chosen (chosen_there m chosen below is)).kind_is
  takes_none m below (RewrittenWithSymbol chosen subject) is =
      elim (chosen_or_labelled s kept bytes section decisions (length bytes / 24) m (RewrittenWithSymbol chosen subject) chosen decided below is refl) [
        | inl alone ↦ absurd (let e : RewrittenWithSymbol chosen subject ≡ Rewritten chosen = alone.is in cc)
        | inr label ↦ absurd (no_labels (relocation_in bytes m) Labelled label.scope_is refl)
      ]

  untaken : (n : ℕ) → n < length bytes / 24 → is_taken decisions n ≡ false
  untaken zero below = refl
  untaken (suc n) below = takes_none n (omega (arith, below)) (decision_at decisions n) refl

  pub alone : (n : ℕ) → n < length bytes / 24
      → IsDecidedAlone s kept bytes section n (relocation_in bytes n) (decision_at decisions n)
  alone n below =
      subst (λ t. IsDecidedAfter s kept bytes section n t (decision_at decisions n)) (untaken n below) (decided n below)

  pub scope_there : (n : ℕ) (below : n < length bytes / 24)
      → IsScopeIn AArch64 s.phase (relocation_in bytes n).r_type (alone n below).0
  scope_there n below =
      subst (λ x. IsScopeIn x s.phase (relocation_in bytes n).r_type (alone n below).0) aarch64 (alone n below).1

  -- by the scope of its name
  scoped : (n : ℕ) (name : AArch64Relocation) → n < length bytes / 24
      → IsNameOf aarch64_name (relocation_in bytes n).r_type name
      → IsScopeDecision s kept bytes section n (relocation_in bytes n) (aarch64_scope_in s.phase name) (decision_at decisions n)
  scoped n name below is_name =
      subst (λ z. IsScopeDecision s kept bytes section n (relocation_in bytes n) z (decision_at decisions n))
      (one_scope AArch64 s.phase (relocation_in bytes n).r_type (alone n below).0 (aarch64_scope_in s.phase name)
      (scope_there n below) (record { name = name; is_name = is_name; value_is = refl }))
      (alone n below).2

  -- an `r_type` has its name
  pub named_at : (n : ℕ) (name : AArch64Relocation) → n < length bytes / 24 → IsNamed (aarch64_name name)
      → r_type_of (aarch64_name name) ≡ (relocation_in bytes n).r_type
      → IsNameOf aarch64_name (relocation_in bytes n).r_type name
  named_at n name below named r_type =
      let is = scope_there n below in
      subst (IsNameOf aarch64_name (relocation_in bytes n).r_type) (is.is_name.named name named r_type) is.is_name

  pub phase_is : (n : ℕ) (name : AArch64Relocation) (phase : Phase) → n < length bytes / 24
      → IsNameOf aarch64_name (relocation_in bytes n).r_type name
      → decision_at decisions n ≢ Kept → OnlyIn phase s.phase name → s.phase ≡ phase
  phase_is n name phase below is_name changed (inl is) = is
  phase_is n name phase below is_name changed (inr none) =
      absurd (changed (subst (λ z. IsScopeDecision s kept bytes section n (relocation_in bytes n) z (decision_at decisions n)) none
      (scoped n name below is_name)))

  pub in_phase : (n : ℕ) (name : AArch64Relocation) (phase : Phase) → n < length bytes / 24
      → IsNameOf aarch64_name (relocation_in bytes n).r_type name → s.phase ≡ phase
      → IsScopeDecision s kept bytes section n (relocation_in bytes n) (aarch64_scope_in phase name) (decision_at decisions n)
  in_phase n name phase below is_name is =
      subst (λ p. IsScopeDecision s kept bytes section n (relocation_in bytes n) (aarch64_scope_in p name) (decision_at decisions n)) is
      (scoped n name below is_name)

  -- a relocation that is rewritten
  pub record IsMade (n : ℕ) : Type 0 where
    pub chosen : Choice Relaxation ℕ
    pub is_candidate : IsCandidate s bytes section n (relocation_in bytes n) (Some chosen)
    pub decided_so : decision_at decisions n ≡ Rewritten chosen

  pub of_group : (n : ℕ) (stays : Bool)
      → IsGroupDecision s bytes section n (relocation_in bytes n) stays (decision_at decisions n)
      → decision_at decisions n ≢ Kept → (stays ≡ false) × IsMade n
  of_group n true is changed = absurd (changed is)
  of_group n false is changed =
      (refl, record { chosen = is.0; is_candidate = is.1; decided_so = is.2 })

  of_group_too : (n : ℕ) (stays : Bool)
      → IsGroupDecision s bytes section n (relocation_in bytes n) stays (decision_at decisions n)
      → stays ≡ false → IsMade n
  of_group_too n true is unkept = absurd (let e : true ≡ false = unkept in cc)
  of_group_too n false is unkept =
      record { chosen = is.0; is_candidate = is.1; decided_so = is.2 }

  pub of_option : (n : ℕ) (candidate : Option (Choice Relaxation ℕ))
      → IsCandidate s bytes section n (relocation_in bytes n) candidate
      → decision_at decisions n ≡ decision_of candidate → decision_at decisions n ≢ Kept → IsMade n
  of_option n None is same changed = absurd (changed same)
  of_option n (Some chosen) is same changed =
      record { chosen = chosen; is_candidate = is; decided_so = same }

  -- all of its sequence are there
  whole_with : (n : ℕ) (chosen : Choice Relaxation ℕ) (f : Option LinkFacts)
      → IsCandidateWith s bytes section n (relocation_in bytes n) f (Some chosen)
      → IsWhole s.architecture bytes n (relocation_in bytes n) true
  whole_with n chosen None is = absurd (let e : Some chosen ≡ None = is in cc)
  whole_with n chosen (Some f) is = is.3

  -- what a member of its name is among
  abbrev IsAmong : List Member → ℕ → ℕ → ℕ → AArch64Relocation → Type 0
  IsAmong all place distance n name =
      is_whole AArch64 bytes n (record (relocation_in bytes n) { r_type = r_type_of (aarch64_name name) })
      ≡ (is_among all place distance bytes n (relocation_in bytes n) && true)

  whole : (all : List Member) (place distance n : ℕ) (name : AArch64Relocation) (chosen : Choice Relaxation ℕ)
      → IsNameOf aarch64_name (relocation_in bytes n).r_type name
      → IsCandidate s bytes section n (relocation_in bytes n) (Some chosen)
      → IsAmong all place distance n name
      → (place ≤ n) × (are_members all bytes (n - place) 0 ((relocation_in bytes n).offset - distance) (relocation_in bytes n) ≡ true)
  whole all place distance n name chosen is_name is at =
      let r = relocation_in bytes n in
      among all place distance bytes n r
      (sym at
      ∙ (ap (λ c. is_whole AArch64 bytes n (record r { r_type = c })) is_name.r_type_is
      ∙ sym (let has : IsWhole AArch64 bytes n r true = subst (λ x. IsWhole x bytes n r true) aarch64 (whole_with n chosen _ is) in has)))

  part : (name : AArch64Relocation) (tie : Tie) (offset distance first i : ℕ) (head : Member) (one : Rela)
      → IsNamed (aarch64_name name) → is_typed tie ≡ true → is_typed head.tie ≡ true → head.distance ≡ 0
      → IsThere head offset one bytes first → IsThere (member (aarch64_name name) distance tie) offset one bytes i
      → IsPartAt bytes first distance i name
  part name tie offset distance first i head one named typed head_typed at_start begins there =
      let at = there.offset_is in
      let start = begins.offset_is in
      record {
        below = there.below;
        is_name = named_at i name there.below named (sym there.r_type_is);
        offset = omega (arith, at, start, at_start);
        symbol = (there.of typed).0 ∙ sym (begins.of head_typed).0;
        addend = (there.of typed).1 ∙ sym (begins.of head_typed).1;
      }

  -- the rewrite of a name
  kind_of : (n : ℕ) (name : AArch64Relocation) → IsNamed (aarch64_name name) → n < length bytes / 24
      → IsNameOf aarch64_name (relocation_in bytes n).r_type name → (made : IsMade n)
      → IsOfOne aarch64_name relaxations.AArch64 (λ e. ⊤) (aarch64_entries name) made.chosen
  kind_of n name named below is_name made =
      let is = chosen_there n made.chosen below made.decided_so in
      of_one aarch64_name relaxations.AArch64 (λ e. ⊤) made.chosen
      (λ m. AArch64Applies m section (relocation_in bytes n).offset is.facts) aarch64_entries kinds.NoOp refl
      (relocation_in bytes n).r_type name named is_name (λ e applies. tt) (choice_there n made.chosen is) is.changed

  -- ---- of a group that doesn't stay

  group_made : (phase : Phase) (group : Group) (i : ℕ) (name : AArch64Relocation)
      → aarch64_scope_in phase name ≡ Grouped group
      → i < length bytes / 24 → IsNameOf aarch64_name (relocation_in bytes i).r_type name
      → s.phase ≡ phase → group_stays kept group (relocation_in bytes i).symbol ≡ false → IsMade i
  group_made phase group i name scope below is_name is unkept =
      of_group_too i (group_stays kept group (relocation_in bytes i).symbol)
      (subst (λ z. IsScopeDecision s kept bytes section i (relocation_in bytes i) z (decision_at decisions i)) scope
      (in_phase i name phase below is_name is)) unkept

  -- ---- a load from the GOT

  load_rewritten : (first offset : ℕ) (one : Rela) → s.phase ≡ phases.GotToPcRel
      → group_stays kept groups.GotLoad one.symbol ≡ false
      → are_members got_load bytes first 0 offset one ≡ true
      → IsLoadRewritten bytes decisions first
  load_rewritten first offset one late unkept is =
      let all = are_there got_load offset one bytes first 0 is in
      let head = member (aarch64_name names.R_AARCH64_ADR_GOT_PAGE) 0 ties.Symbol in
      let high = at_first head offset one bytes first (all.0) in
      let low = all.1.0 in
      let page = part names.R_AARCH64_ADR_GOT_PAGE ties.Symbol offset 0 first first head one tt refl refl refl high high in
      let lower = part names.R_AARCH64_LD64_GOT_LO12_NC ties.Symbol offset 4 first (first + 1) head one tt refl refl refl high low in
      let page_made = group_made phases.GotToPcRel groups.GotLoad first names.R_AARCH64_ADR_GOT_PAGE refl page.below page.is_name late
      (ap (group_stays kept groups.GotLoad) (high.of refl).0 ∙ unkept) in
      let low_made = group_made phases.GotToPcRel groups.GotLoad (first + 1) names.R_AARCH64_LD64_GOT_LO12_NC refl lower.below lower.is_name late
      (ap (group_stays kept groups.GotLoad) (low.of refl).0 ∙ unkept) in
      record {
        page = page;
        low = lower;
        page_decided = elim (kind_of first names.R_AARCH64_ADR_GOT_PAGE tt page.below page.is_name page_made) [
          | inl this ↦ record { chosen = page_made.chosen; decided = page_made.decided_so; kind_is = this.kind_is }
          | inr nothing ↦ absurd nothing
        ];
        low_decided = elim (kind_of (first + 1) names.R_AARCH64_LD64_GOT_LO12_NC tt lower.below lower.is_name low_made) [
          | inl this ↦ record { chosen = low_made.chosen; decided = low_made.decided_so; kind_is = this.kind_is }
          | inr nothing ↦ absurd nothing
        ];
      }

  -- one of its two relocations doesn't stay
  of_load : (n place distance : ℕ) (name : AArch64Relocation) → n < length bytes / 24
      → IsNameOf aarch64_name (relocation_in bytes n).r_type name → decision_at decisions n ≢ Kept
      → OnlyIn phases.GotToPcRel s.phase name
      → aarch64_scope_in phases.GotToPcRel name ≡ Grouped groups.GotLoad
      → IsAmong got_load place distance n name
      → (place ≤ n) × IsLoadRewritten bytes decisions (n - place)
  of_load n place distance name below is_name changed only scope at =
      let r = relocation_in bytes n in
      let late = phase_is n name phases.GotToPcRel below is_name changed only in
      let made = of_group n (group_stays kept groups.GotLoad r.symbol)
      (subst (λ z. IsScopeDecision s kept bytes section n r z (decision_at decisions n)) scope
      (in_phase n name phases.GotToPcRel below is_name late)) changed in
      let all = whole got_load place distance n name made.1.chosen is_name made.1.is_candidate at in
      (all.0, load_rewritten (n - place) (r.offset - distance) r late (made.0) (all.1))

  -- ---- an address by its page

  of_alone : (i : ℕ) (r : Rela) (scope : Scope) (b : Bool) (chosen : Choice Relaxation ℕ)
      → scope ≡ Independent → IsCandidate s bytes section i r (Some chosen)
      → IsRewrittenAlone s bytes section i r scope b → b ≡ true
  of_alone i r scope b chosen is_scope candidate is =
      let by = subst (λ z. IsRewrittenAlone s bytes section i r z b) is_scope is in
      by.2 ∙ ap is_some (one_candidate s bytes section i r (by.0) (Some chosen) (by.1) candidate)

  of_alone_true : (i : ℕ) (r : Rela) (scope : Scope) → IsRewrittenAlone s bytes section i r scope true
      → (scope ≡ Independent) × (chosen : Choice Relaxation ℕ) × IsCandidate s bytes section i r (Some chosen)
  of_alone_true i r Independent is =
      let it = some (is.0) (is.1) (is.2) in (refl, it.0, it.1)
    where
      some : (candidate : Option (Choice Relaxation ℕ)) → IsCandidate s bytes section i r candidate
          → true ≡ is_some candidate
          → (chosen : Choice Relaxation ℕ) × IsCandidate s bytes section i r (Some chosen)
      some None is none = absurd (let e : true ≡ false = none in cc)
      some (Some chosen) is none = (chosen, is)
  of_alone_true i r scope is = absurd (let e : true ≡ false = is in cc)

  address_rewritten : (first offset : ℕ) (one : Rela) (chosen : Choice Relaxation ℕ)
      → s.phase ≡ phases.ShortPcRel
      → IsCandidate s bytes section (first + 1) (relocation_in bytes (first + 1)) (Some chosen)
      → are_members page_and_offset bytes first 0 offset one ≡ true
      → IsAddressRewritten bytes decisions first
  address_rewritten first offset one chosen late candidate is =
      let next = relocation_in bytes (first + 1) in
      let all = are_there page_and_offset offset one bytes first 0 is in
      let head = member (aarch64_name names.R_AARCH64_ADR_PREL_PG_HI21) 0 ties.Symbol in
      let high = at_first head offset one bytes first (all.0) in
      let page = part names.R_AARCH64_ADR_PREL_PG_HI21 ties.Symbol offset 0 first first head one tt refl refl refl high high in
      let lower = part names.R_AARCH64_ADD_ABS_LO12_NC ties.Symbol offset 4 first (first + 1) head one tt refl refl refl high (all.1.0) in
      let low_by = in_phase (first + 1) names.R_AARCH64_ADD_ABS_LO12_NC phases.ShortPcRel lower.below lower.is_name late in
      let low_same = one_candidate s bytes section (first + 1) next (low_by.0) (Some chosen) (low_by.1) candidate in
      let low_made : IsMade (first + 1) =
      record { chosen = chosen; is_candidate = candidate; decided_so = low_by.2 ∙ ap decision_of low_same } in
      let high_by = in_phase first names.R_AARCH64_ADR_PREL_PG_HI21 phases.ShortPcRel page.below page.is_name late in
      let at : IsRewrittenAt s bytes section (first + 1) (Some next) (high_by.0) =
      subst (λ x. IsRewrittenAt s bytes section (first + 1) x (high_by.0)) (there bytes (first + 1) lower.below) (high_by.1) in
      let scope_is : at.0 ≡ Independent =
      one_scope AArch64 s.phase next.r_type (at.0) (aarch64_scope_in s.phase names.R_AARCH64_ADD_ABS_LO12_NC)
      (subst (λ x. IsScopeIn x s.phase next.r_type (at.0)) aarch64 (at.1))
      (record { name = names.R_AARCH64_ADD_ABS_LO12_NC; is_name = lower.is_name; value_is = refl })
      ∙ ap (λ p. aarch64_scope_in p names.R_AARCH64_ADD_ABS_LO12_NC) late in
      record {
        page = page;
        low = lower;
        page_decided = high_by.2 ∙ ap decision_ahead (of_alone (first + 1) next (at.0) (high_by.0) chosen scope_is candidate (at.2));
        low_decided = elim (kind_of (first + 1) names.R_AARCH64_ADD_ABS_LO12_NC tt lower.below lower.is_name low_made) [
          | inl this ↦ record { chosen = chosen; decided = low_made.decided_so; kind_is = this.kind_is }
          | inr nothing ↦ absurd nothing
        ];
      }

  -- the second of the two has a rewrite
  of_second : (n : ℕ) (chosen : Choice Relaxation ℕ) → s.phase ≡ phases.ShortPcRel
      → IsNameOf aarch64_name (relocation_in bytes n).r_type names.R_AARCH64_ADD_ABS_LO12_NC
      → IsCandidate s bytes section n (relocation_in bytes n) (Some chosen)
      → (1 ≤ n) × IsAddressRewritten bytes decisions (n - 1)
  of_second n chosen late is_name candidate =
      let r = relocation_in bytes n in
      let all = whole page_and_offset 1 4 n names.R_AARCH64_ADD_ABS_LO12_NC chosen is_name candidate refl in
      let some = all.0 in
      let e : n ≡ n - 1 + 1 = omega (arith, some) in (
        some,
        address_rewritten (n - 1) (r.offset - 4) r chosen late
            (subst (λ m. IsCandidate s bytes section m (relocation_in bytes m) (Some chosen)) e candidate) (all.1),
      )

  of_low : (n : ℕ) → n < length bytes / 24
      → IsNameOf aarch64_name (relocation_in bytes n).r_type names.R_AARCH64_ADD_ABS_LO12_NC
      → decision_at decisions n ≢ Kept → (1 ≤ n) × IsAddressRewritten bytes decisions (n - 1)
  of_low n below is_name changed =
      let late = phase_is n names.R_AARCH64_ADD_ABS_LO12_NC phases.ShortPcRel below is_name changed (only_in phases.ShortPcRel names.R_AARCH64_ADD_ABS_LO12_NC (inr refl, inr refl, inr refl, inl refl) s.phase) in
      let by = in_phase n names.R_AARCH64_ADD_ABS_LO12_NC phases.ShortPcRel below is_name late in
      let made = of_option n (by.0) (by.1) (by.2) changed in
      of_second n made.chosen late is_name made.is_candidate

  ahead : (n : ℕ) (b : Bool) (r : Option Rela) → relocation_at bytes (n + 1) ≡ r
      → IsRewrittenAt s bytes section (n + 1) r b → decision_at decisions n ≡ decision_ahead b
      → decision_at decisions n ≢ Kept → s.phase ≡ phases.ShortPcRel
      → IsAddressRewritten bytes decisions n
  ahead n false r is_there at decided_so changed late = absurd (changed decided_so)
  ahead n true None is_there at decided_so changed late =
      absurd (let e : true ≡ false = at in cc)
  ahead n true (Some r) is_there at decided_so changed late =
      let next = relocation_in bytes (n + 1) in
      let same : r ≡ next = elim (cases_Bool (ltb (n + 1) (length bytes / 24))) [
        | inl within ↦
            ap (rela_in next)
            (sym is_there ∙ cond-true (ltb (n + 1) (length bytes / 24)) (Some next) None within)
        | inr out ↦
            let none : relocation_at bytes (n + 1) ≡ None = cond-false (ltb (n + 1) (length bytes / 24)) (Some next) None out in
            absurd (let e : Some r ≡ None = sym is_there ∙ none in cc)
      ] in
      let here : IsRewrittenAt s bytes section (n + 1) (Some next) true =
      subst (λ x. IsRewrittenAt s bytes section (n + 1) (Some x) true) same at in
      let it = of_alone_true (n + 1) next (here.0) (here.2) in
      let is = subst (λ x. IsScopeIn x s.phase next.r_type (here.0)) aarch64 (here.1) in
      let name_is : is.name ≡ names.R_AARCH64_ADD_ABS_LO12_NC =
      independent_is is.name (ap (λ p. aarch64_scope_in p is.name) (sym late) ∙ (sym is.value_is ∙ it.0)) in
      let by = of_second (n + 1) (it.1) late (subst (IsNameOf aarch64_name next.r_type) name_is is.is_name) (it.2) in
      let e : n + 1 - 1 ≡ n = omega arith in
      subst (IsAddressRewritten bytes decisions) e (by.1)

  of_high : (n : ℕ) → n < length bytes / 24
      → IsNameOf aarch64_name (relocation_in bytes n).r_type names.R_AARCH64_ADR_PREL_PG_HI21
      → decision_at decisions n ≢ Kept → IsAddressRewritten bytes decisions n
  of_high n below is_name changed =
      let late = phase_is n names.R_AARCH64_ADR_PREL_PG_HI21 phases.ShortPcRel below is_name changed (only_in phases.ShortPcRel names.R_AARCH64_ADR_PREL_PG_HI21 (inr refl, inr refl, inr refl, inl refl) s.phase) in
      let by = in_phase n names.R_AARCH64_ADR_PREL_PG_HI21 phases.ShortPcRel below is_name late in
      ahead n (by.0) (relocation_at bytes (n + 1)) refl (by.1) (by.2) changed late

  -- ---- a descriptor

  abbrev facts_in_phase : Phase → Bool → Rela → Option LinkFacts
  facts_in_phase phase marked r =
      facts_by phase s.output s.addresses s.values r r marked (slice_get s.symbols r.symbol)

  record IsDescribed (i : ℕ) (made : IsMade i) (local initial : AArch64Choice) : Type 0 where
    pub facts : LinkFacts
    pub facts_are : facts_in_phase phases.PreLayout false (relocation_in bytes i) ≡ Some facts
    pub named : AArch64Choice
    pub kind_is : made.chosen.kind ≡ relaxations.AArch64 named.kind
    pub is_member : IsMember facts local initial named

  described : (i : ℕ) (name : AArch64Relocation) (n : ℕ) (local initial : AArch64Choice)
      → IsNamed (aarch64_name name) → aarch64_entries name ≡ descriptor_entries n local initial
      → ((o : ℕ) → aarch64_matches initial.kind section o → aarch64_matches local.kind section o)
      → i < length bytes / 24 → IsNameOf aarch64_name (relocation_in bytes i).r_type name → (made : IsMade i)
      → s.phase ≡ phases.PreLayout → IsDescribed i made local initial
  described i name n local initial has_text entries matches below is_name made early =
      let r = relocation_in bytes i in
      let is = chosen_there i made.chosen below made.decided_so in
      let c = choice_there i made.chosen is in
      let same : c.name ≡ name = c.is_name.named name has_text is_name.r_type_is in
      let isnt : s.architecture ≡ Ppc64 → ⊥ = λ other. let e : AArch64 ≡ Ppc64 = sym aarch64 ∙ other in cc in
      let first : IsFirst (AArch64Applies name section r.offset is.facts) (descriptor_entries n local initial) (choice kinds.NoOp name) c.named =
      subst (λ es. IsFirst (AArch64Applies name section r.offset is.facts) es (choice kinds.NoOp name) c.named) entries
      (subst (λ z. IsAArch64Choice z section r.offset is.facts c.named) same c.is_choice) in
      record {
        facts = is.facts;
        facts_are =
            subst (λ m. facts_in_phase phases.PreLayout m r ≡ Some is.facts) (is.unmarked early isnt)
            (subst (λ p. facts_in_phase p is.marked r ≡ Some is.facts) early is.facts_are);
        named = c.named;
        kind_is = c.kind_is;
        is_member = one_of_two name n section r.offset is.facts local initial c.named
            (are_early s section r made.chosen early isnt is).unplaced (matches r.offset)
            (λ e. is.changed (
              subst relaxation_no_op (sym (c.kind_is ∙ ap (λ (q : AArch64Choice). relaxations.AArch64 q.kind) e)) refl,
              c.r_type_is ∙ (ap (λ (q : AArch64Choice). r_type_of (aarch64_name q.relocation)) e ∙ is_name.r_type_is),
            )) first;
      }

  same_facts : (i j : ℕ) (f g : LinkFacts) → (relocation_in bytes j).symbol ≡ (relocation_in bytes i).symbol
      → (relocation_in bytes j).addend ≡ (relocation_in bytes i).addend
      → facts_in_phase phases.PreLayout false (relocation_in bytes i) ≡ Some f
      → facts_in_phase phases.PreLayout false (relocation_in bytes j) ≡ Some g → f ≡ g
  same_facts i j f g symbol addend is_f is_g =
      let r = relocation_in bytes i in
      let q = relocation_in bytes j in
      ap (facts_in f)
      (sym is_f
      ∙ (sym (same_by s.output s.addresses s.values r q (slice_get s.symbols q.symbol) addend
      ∙ ap (λ x. facts_by phases.PreLayout s.output s.addresses s.values r r false (slice_get s.symbols x)) symbol)
      ∙ is_g))

  -- what goes, for local-exec as for initial-exec
  erased_by : (i : ℕ) (name : AArch64Relocation) (n : ℕ) → IsNamed (aarch64_name name)
      → aarch64_entries name ≡ descriptor_entries n erased erased → i < length bytes / 24
      → IsNameOf aarch64_name (relocation_in bytes i).r_type name → (made : IsMade i)
      → IsRewrittenBy kinds.ReplaceWithNop (decision_at decisions i)
  erased_by i name n named entries below is_name made =
      elim (subst (λ es. IsOfOne aarch64_name relaxations.AArch64 (λ e. ⊤) es made.chosen) entries (kind_of i name named below is_name made)) [
        | inl this ↦ record { chosen = made.chosen; decided = made.decided_so; kind_is = this.kind_is }
        | inr other ↦ elim other [
          | inl this ↦ record { chosen = made.chosen; decided = made.decided_so; kind_is = this.kind_is }
          | inr nothing ↦ absurd nothing
        ]
      ]

  descriptor_rewritten : (first offset : ℕ) (one : Rela) → s.phase ≡ phases.PreLayout
      → group_stays kept groups.Descriptor one.symbol ≡ false
      → are_members descriptor bytes first 0 offset one ≡ true
      → IsDescriptorWhole bytes decisions first
  descriptor_rewritten first offset one early unkept is =
      let all = are_there descriptor offset one bytes first 0 is in
      let head = member (aarch64_name names.R_AARCH64_TLSDESC_ADR_PAGE21) 0 ties.Subject in
      let high = at_first head offset one bytes first (all.0) in
      let second = all.1.0 in
      let third = all.1.1.0 in
      let fourth = all.1.1.1.0 in
      let page = part names.R_AARCH64_TLSDESC_ADR_PAGE21 ties.Subject offset 0 first first head one tt refl refl refl high high in
      let load = part names.R_AARCH64_TLSDESC_LD64_LO12 ties.Subject offset 4 first (first + 1) head one tt refl refl refl high second in
      let add = part names.R_AARCH64_TLSDESC_ADD_LO12 ties.Subject offset 8 first (first + 2) head one tt refl refl refl high third in
      let call = part names.R_AARCH64_TLSDESC_CALL ties.Subject offset 12 first (first + 3) head one tt refl refl refl high fourth in
      let page_made = group_made phases.PreLayout groups.Descriptor first names.R_AARCH64_TLSDESC_ADR_PAGE21 refl page.below page.is_name early
      (ap (group_stays kept groups.Descriptor) (high.of refl).0 ∙ unkept) in
      let load_made = group_made phases.PreLayout groups.Descriptor (first + 1) names.R_AARCH64_TLSDESC_LD64_LO12 refl load.below load.is_name early
      (ap (group_stays kept groups.Descriptor) (second.of refl).0 ∙ unkept) in
      let add_made = group_made phases.PreLayout groups.Descriptor (first + 2) names.R_AARCH64_TLSDESC_ADD_LO12 refl add.below add.is_name early
      (ap (group_stays kept groups.Descriptor) (third.of refl).0 ∙ unkept) in
      let call_made = group_made phases.PreLayout groups.Descriptor (first + 3) names.R_AARCH64_TLSDESC_CALL refl call.below call.is_name early
      (ap (group_stays kept groups.Descriptor) (fourth.of refl).0 ∙ unkept) in
      let p = described first names.R_AARCH64_TLSDESC_ADR_PAGE21 0
      (choice kinds.MovzX0Lsl16 names.R_AARCH64_TLSLE_MOVW_TPREL_G1) (choice kinds.AdrpX0 names.R_AARCH64_TLSIE_ADR_GOTTPREL_PAGE21)
      tt refl (λ o m. m) page.below page.is_name page_made early in
      let q = described (first + 1) names.R_AARCH64_TLSDESC_LD64_LO12 4
      (choice kinds.MovkX0 names.R_AARCH64_TLSLE_MOVW_TPREL_G0_NC) (choice kinds.LdrX0 names.R_AARCH64_TLSIE_LD64_GOTTPREL_LO12_NC)
      tt refl (λ o m. m) load.below load.is_name load_made early in
      let same : p.facts ≡ q.facts = same_facts first (first + 1) p.facts q.facts load.symbol load.addend p.facts_are q.facts_are in
      let nop_add = erased_by (first + 2) names.R_AARCH64_TLSDESC_ADD_LO12 8 tt refl add.below add.is_name add_made in
      let nop_call = erased_by (first + 3) names.R_AARCH64_TLSDESC_CALL 12 tt refl call.below call.is_name call_made in
      let by_both : (x y : AArch64Choice) → p.named ≡ x → q.named ≡ y → IsDescriptorRewritten x.kind y.kind bytes decisions first =
      λ x y a b. record {
        page = page;
        load = load;
        add = add;
        call = call;
        page_decided = record { chosen = page_made.chosen; decided = page_made.decided_so; kind_is = p.kind_is ∙ ap (λ (z : AArch64Choice). relaxations.AArch64 z.kind) a };
        load_decided = record { chosen = load_made.chosen; decided = load_made.decided_so; kind_is = q.kind_is ∙ ap (λ (z : AArch64Choice). relaxations.AArch64 z.kind) b };
        add_decided = nop_add;
        call_decided = nop_call;
      } in
      elim p.is_member [
        | inl to_local ↦ elim q.is_member [
          | inl too ↦ inl (by_both _ _ (to_local.1) (too.1))
          | inr not_too ↦ absurd (not_too.0 (subst IsLocal same (to_local.0)))
        ]
        | inr to_initial ↦ elim q.is_member [
          | inl too ↦ absurd (to_initial.0 (subst IsLocal (sym same) (too.0)))
          | inr not_too ↦ inr (by_both _ _ (to_initial.1) (not_too.1))
        ]
      ]

  of_descriptor : (n place distance : ℕ) (name : AArch64Relocation) → n < length bytes / 24
      → IsNameOf aarch64_name (relocation_in bytes n).r_type name → decision_at decisions n ≢ Kept
      → OnlyIn phases.PreLayout s.phase name
      → aarch64_scope_in phases.PreLayout name ≡ Grouped groups.Descriptor
      → IsAmong descriptor place distance n name
      → (place ≤ n) × IsDescriptorWhole bytes decisions (n - place)
  of_descriptor n place distance name below is_name changed only scope at =
      let r = relocation_in bytes n in
      let early = phase_is n name phases.PreLayout below is_name changed only in
      let made = of_group n (group_stays kept groups.Descriptor r.symbol)
      (subst (λ z. IsScopeDecision s kept bytes section n r z (decision_at decisions n)) scope
      (in_phase n name phases.PreLayout below is_name early)) changed in
      let all = whole descriptor place distance n name made.1.chosen is_name made.1.is_candidate at in
      (all.0, descriptor_rewritten (n - place) (r.offset - distance) r early (made.0) (all.1))

  -- ---- by the name

  pub by_name : (n : ℕ) → n < length bytes / 24 → decision_at decisions n ≢ Kept
      → (name : AArch64Relocation) → IsNameOf aarch64_name (relocation_in bytes n).r_type name
      → IsWholeBy name bytes decisions n
  by_name n below changed names.R_AARCH64_TLSDESC_ADR_PAGE21 is =
      of_descriptor n 0 0 names.R_AARCH64_TLSDESC_ADR_PAGE21 below is changed (only_in phases.PreLayout names.R_AARCH64_TLSDESC_ADR_PAGE21 (inl refl, inr refl, inr refl, inr refl) s.phase) refl refl
  by_name n below changed names.R_AARCH64_TLSDESC_LD64_LO12 is =
      of_descriptor n 1 4 names.R_AARCH64_TLSDESC_LD64_LO12 below is changed (only_in phases.PreLayout names.R_AARCH64_TLSDESC_LD64_LO12 (inl refl, inr refl, inr refl, inr refl) s.phase) refl refl
  by_name n below changed names.R_AARCH64_TLSDESC_ADD_LO12 is =
      of_descriptor n 2 8 names.R_AARCH64_TLSDESC_ADD_LO12 below is changed (only_in phases.PreLayout names.R_AARCH64_TLSDESC_ADD_LO12 (inl refl, inr refl, inr refl, inr refl) s.phase) refl refl
  by_name n below changed names.R_AARCH64_TLSDESC_CALL is =
      of_descriptor n 3 12 names.R_AARCH64_TLSDESC_CALL below is changed (only_in phases.PreLayout names.R_AARCH64_TLSDESC_CALL (inl refl, inr refl, inr refl, inr refl) s.phase) refl refl
  by_name n below changed names.R_AARCH64_ADR_GOT_PAGE is =
      of_load n 0 0 names.R_AARCH64_ADR_GOT_PAGE below is changed (only_in phases.GotToPcRel names.R_AARCH64_ADR_GOT_PAGE (inr refl, inr refl, inl refl, inr refl) s.phase) refl refl
  by_name n below changed names.R_AARCH64_LD64_GOT_LO12_NC is =
      of_load n 1 4 names.R_AARCH64_LD64_GOT_LO12_NC below is changed (only_in phases.GotToPcRel names.R_AARCH64_LD64_GOT_LO12_NC (inr refl, inr refl, inl refl, inr refl) s.phase) refl refl
  by_name n below changed names.R_AARCH64_ADR_PREL_PG_HI21 is =
      let e : n ≡ n - 0 = omega arith in
      (omega arith, subst (IsAddressRewritten bytes decisions) e (of_high n below is changed))
  by_name n below changed names.R_AARCH64_ADD_ABS_LO12_NC is = of_low n below is changed
  by_name n below changed name is = tt

pub sequences_are_whole : SequencesAreWhole
sequences_are_whole s kept bytes section decisions i name aarch64 decided below is changed =
    by_name s aarch64 kept bytes section decisions decided i below changed name is
