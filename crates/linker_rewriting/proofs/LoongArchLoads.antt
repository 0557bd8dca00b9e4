-- Of a marked load from LoongArch's GOT both instructions are rewritten, or neither is.
use Rattle.linker_rewriting.proofs.Imports.{Bool, Choice, Decision, Independent, IsArchitectureChoice, IsCandidate, IsCandidateBy, IsCandidateWith, IsDecidedAfter, IsDecidedAlone, IsLd, IsLoongArchChoice, IsNameOf, IsNamed, IsPair, IsRewritten, IsScopeDecision, IsTaken, IsUnchanged, IsWhole, LinkFacts, List, LoadsAreWhole, LoongArch64, LoongArch64Relocation, LoongArchChoice, None, Option, OutputFacts, PreLayout, Rela, RelaxContext, Relaxation, RewriteKind as LoongArchKind, Some, SymbolFacts, UnrelaxableGroups, [], ap, are_members, arith, choice, decision_at, decision_of, deletes_within, facts_by, facts_of, false, inl, inr, is_among, is_whole, loongarch_deleted, loongarch_name, loongarch_scope_in, marked_load, member, no_addresses, pre_layout, r_type_of, refl, relaxation_deleted, relaxation_no_op, relaxation_skipped, relocation_in, slice_get, subst, sym, true, true≢false, ℕ, ℤ, ◌&&◌, ◌+◌, ◌-◌, ◌↔◌, ◌∙◌, ◌≡◌, ◌≤◌, ◌⊎◌}
use Rattle.linker_rewriting.specs.declared.sequences.Tie.TheVariants.{Subject}
use Rattle.linker_elf.specs.declared.loongarch64.relocations.LoongArch64Relocation.TheVariants as r
use Rattle.linker_utils.specs.declared.loongarch64.rewrites.RewriteKind.TheVariants as kinds
use Rattle.linker_rewriting.proofs.SequenceMembers.{IsOf, among_is, are_there, at_first}
use Rattle.linker_utils.specs.declared.architecture.Relaxation.TheVariants as relaxations

-- ---- the choices of both

-- what both become, and what they are
abbrev AreChanged : LoongArchChoice → LoongArchChoice → Type 0
AreChanged a b =
    (a ≡ choice kinds.NoOp r.R_LARCH_PCALA_HI20) × (b ≡ choice kinds.LdToAddi r.R_LARCH_PCALA_LO12)

abbrev AreUnchanged : LoongArchChoice → LoongArchChoice → Type 0
AreUnchanged a b =
    (a ≡ choice kinds.NoOp r.R_LARCH_GOT_PC_HI20) × (b ≡ choice kinds.NoOp r.R_LARCH_GOT_PC_LO12)

isnt : {A : Type 0} → false ≡ true → A
isnt is = absurd (let e : false ≡ true = is in cc)

low_pattern : (section : List ℕ) (o : ℕ) → IsPair IsLd section o
    → (4 ≤ o + 4) × IsPair IsLd section (o + 4 - 4)
low_pattern section o pair =
    let e : o ≡ o + 4 - 4 = omega arith in (omega arith, subst (IsPair IsLd section) e pair)

high_pattern : (section : List ℕ) (o : ℕ) → (4 ≤ o + 4) × IsPair IsLd section (o + 4 - 4)
    → IsPair IsLd section o
high_pattern section o low =
    let e : o + 4 - 4 ≡ o = omega arith in subst (IsPair IsLd section) e (low.1)

-- without marks and addresses both are chosen by the same facts
alike : (section : List ℕ) (o : ℕ) (output : OutputFacts) (symbol : SymbolFacts) (addend : ℤ)
    (a b : LoongArchChoice)
    → IsLoongArchChoice r.R_LARCH_GOT_PC_HI20 section o (facts_of output symbol addend false) a
    → IsLoongArchChoice r.R_LARCH_GOT_PC_LO12 section (o + 4) (facts_of output symbol addend false) b
    → AreChanged a b ⊎ AreUnchanged a b
alike section o output symbol addend a b high low =
    elim high [
      | inl by_pcaddi ↦ isnt (by_pcaddi.0.1.1.1.0)
      | inr high_on ↦ elim low [
        | inl by_pcaddi ↦ isnt (by_pcaddi.0.1.1.1.0)
        | inr low_on ↦ elim (high_on.1) [
          | inl high_is ↦ elim (low_on.1) [
            | inl low_is ↦ inl (high_is.1, low_is.1)
            | inr low_isnt ↦
                let h = high_is.0.1 in
                absurd (low_isnt.0 (low_pattern section o (high_is.0.0), (h.0, (h.1.0, (h.1.1.0, (λ has. isnt has, tt))))))
          ]
          | inr high_isnt ↦ elim (low_on.1) [
            | inl low_is ↦
                let h = low_is.0.1 in
                absurd (high_isnt.0 (high_pattern section o (low_is.0.0), (h.0, (h.1.0, (h.1.1.0, (λ has. isnt has, tt))))))
            | inr low_isnt ↦ elim (low_isnt.1) [
              | inl of_entry ↦ isnt (of_entry.0.1.0)
              | inr nothing ↦ inr (high_isnt.1, nothing.1)
            ]
          ]
        ]
      ]
    ]

-- ---- their relocations

-- of a relocation it reads the symbol and the addend alone
abbrev load_of : List ℕ → ℕ → ℕ → ℕ → ℤ → Bool
load_of bytes n offset symbol addend =
    are_members marked_load bytes n 0 offset (record { offset = 0; r_type = 0; symbol = symbol; addend = addend })

same_load : (bytes : List ℕ) (n offset : ℕ) (one part : Rela) → IsOf one part
    → are_members marked_load bytes n 0 offset part ≡ are_members marked_load bytes n 0 offset one
same_load bytes n offset one part same =
    ap (λ x. load_of bytes n offset x part.addend) (same.0)
    ∙ ap (load_of bytes n offset one.symbol) (same.1)

-- a half of a name is among all of its load
half_whole : (bytes : List ℕ) (n : ℕ) (r : Rela) (r_type place distance : ℕ) → r_type ≡ r.r_type
    → is_whole LoongArch64 bytes n (record r { r_type = r_type })
    ≡ (is_among marked_load place distance bytes n r && true)
    → is_among marked_load place distance bytes n r ≡ true → IsWhole LoongArch64 bytes n r true
half_whole bytes n r r_type place distance same at all =
    sym (ap (λ c. is_whole LoongArch64 bytes n (record r { r_type = c })) (sym same)
    ∙ (at ∙ ap (λ b. b && true) all))

-- ---- candidates

-- a choice of a relocation with a name
record IsOfName (name : LoongArch64Relocation) (section : List ℕ) (o : ℕ) (facts : LinkFacts)
    (chosen : Choice Relaxation ℕ) : Type 0 where
  pub named : LoongArchChoice
  pub is_choice : IsLoongArchChoice name section o facts named
  pub kind_is : chosen.kind ≡ relaxations.LoongArch64 named.kind
  pub r_type_is : chosen.relocation ≡ r_type_of (loongarch_name named.relocation)

of_name : (r_type : ℕ) (name : LoongArch64Relocation) (section : List ℕ) (o : ℕ) (facts : LinkFacts)
    (chosen : Choice Relaxation ℕ) → IsNamed (loongarch_name name)
    → r_type_of (loongarch_name name) ≡ r_type
    → IsArchitectureChoice LoongArch64 r_type section o facts chosen
    → IsOfName name section o facts chosen
of_name r_type name section o facts chosen has_text r_type_is by =
    let same : by.name ≡ name = by.is_name.named name has_text r_type_is in
    record {
      named = by.named;
      is_choice = subst (λ z. IsLoongArchChoice z section o facts by.named) same by.is_choice;
      kind_is = by.kind_is;
      r_type_is = by.r_type_is;
    }

-- what keeps one from being rewritten
abbrev Lacks : List SymbolFacts → List ℕ → List ℕ → ℕ → Rela → Choice Relaxation ℕ → Type 0
Lacks symbols bytes section n one chosen =
    IsUnchanged one.r_type chosen
    ⊎ (IsTaken LoongArch64 symbols bytes n one.offset (relaxation_skipped chosen.kind) false
    ⊎ (IsWhole LoongArch64 bytes n one false
    ⊎ (deletes_within section one.offset (relaxation_deleted chosen.kind) ≡ false)))

lacks_nothing : (symbols : List SymbolFacts) (bytes section : List ℕ) (n : ℕ) (one : Rela)
    (chosen : Choice Relaxation ℕ) (kind : LoongArchKind)
    → chosen.kind ≡ relaxations.LoongArch64 kind → loongarch_deleted kind ≡ None
    → (IsUnchanged one.r_type chosen → ⊥) → IsWhole LoongArch64 bytes n one true
    → Lacks symbols bytes section n one chosen → ⊥
lacks_nothing symbols bytes section n one chosen kind is none changes whole lacks =
    elim lacks [
      | inl unchanged ↦ changes unchanged
      | inr other ↦ elim other [
        | inl taken ↦ isnt (subst (λ k. IsTaken LoongArch64 symbols bytes n one.offset (relaxation_skipped k) false) is taken)
        | inr less ↦ elim less [
          | inl lone ↦ true≢false (whole ∙ sym lone)
          | inr deletes ↦ true≢false
              (sym (ap (λ k. deletes_within section one.offset (relaxation_deleted k)) is
              ∙ ap (deletes_within section one.offset) none) ∙ deletes)
        ]
      ]
    ]

unchanged_high : (r_type : ℕ) (chosen : Choice Relaxation ℕ) (named : LoongArchChoice)
    (name : LoongArch64Relocation) → chosen.kind ≡ relaxations.LoongArch64 named.kind
    → chosen.relocation ≡ r_type_of (loongarch_name named.relocation)
    → r_type_of (loongarch_name name) ≡ r_type → named ≡ choice kinds.NoOp name
    → IsUnchanged r_type chosen
unchanged_high r_type chosen named name kind_is r_type_is is left = (
  subst relaxation_no_op (sym (kind_is ∙ ap (λ c. relaxations.LoongArch64 c.kind) left)) refl,
  r_type_is ∙ (ap (λ c. r_type_of (loongarch_name c.relocation)) left ∙ is),
)

-- both halves, and what is known of them
record AreHalves (bytes : List ℕ) (n : ℕ) (high low : Rela) : Type 0 where
  pub high_r_type : r_type_of (loongarch_name r.R_LARCH_GOT_PC_HI20) ≡ high.r_type
  pub low_r_type : r_type_of (loongarch_name r.R_LARCH_GOT_PC_LO12) ≡ low.r_type
  pub low_offset : low.offset ≡ high.offset + 4
  pub high_whole : IsWhole LoongArch64 bytes n high true
  pub low_whole : IsWhole LoongArch64 bytes (n + 2) low true

high_alone : (symbols : List SymbolFacts) (bytes section : List ℕ) (n : ℕ) (high low : Rela)
    (output : OutputFacts) (symbol : SymbolFacts) (addend : ℤ) (x : Choice Relaxation ℕ)
    → AreHalves bytes n high low
    → IsCandidateBy LoongArch64 symbols bytes section n high (facts_of output symbol addend false) (Some x)
    → IsCandidateBy LoongArch64 symbols bytes section (n + 2) low (facts_of output symbol addend false) None
    → ⊥
high_alone symbols bytes section n high low output symbol addend x are a b =
    let facts : LinkFacts = facts_of output symbol addend false in
    let p = of_name high.r_type r.R_LARCH_GOT_PC_HI20 section high.offset facts x tt are.high_r_type (a.0) in
    let q = of_name low.r_type r.R_LARCH_GOT_PC_LO12 section low.offset facts (b.0) tt are.low_r_type (b.1) in
    elim (alike section high.offset output symbol addend p.named q.named p.is_choice
    (subst (λ o. IsLoongArchChoice r.R_LARCH_GOT_PC_LO12 section o facts q.named) are.low_offset q.is_choice)) [
      | inl changed ↦
          let is : (b.0).kind ≡ relaxations.LoongArch64 kinds.LdToAddi =
          q.kind_is ∙ ap (λ c. relaxations.LoongArch64 c.kind) (changed.1) in
          lacks_nothing symbols bytes section (n + 2) low (b.0) kinds.LdToAddi is refl
          (λ u. let e : kinds.LdToAddi ≡ kinds.NoOp = subst relaxation_no_op is (u.0) in cc)
          are.low_whole (b.2)
      | inr left ↦ a.1 (unchanged_high high.r_type x p.named r.R_LARCH_GOT_PC_HI20 p.kind_is p.r_type_is are.high_r_type (left.0))
    ]

low_alone : (symbols : List SymbolFacts) (bytes section : List ℕ) (n : ℕ) (high low : Rela)
    (output : OutputFacts) (symbol : SymbolFacts) (addend : ℤ) (y : Choice Relaxation ℕ)
    → AreHalves bytes n high low
    → IsCandidateBy LoongArch64 symbols bytes section n high (facts_of output symbol addend false) None
    → IsCandidateBy LoongArch64 symbols bytes section (n + 2) low (facts_of output symbol addend false) (Some y)
    → ⊥
low_alone symbols bytes section n high low output symbol addend y are a b =
    let facts : LinkFacts = facts_of output symbol addend false in
    let p = of_name high.r_type r.R_LARCH_GOT_PC_HI20 section high.offset facts (a.0) tt are.high_r_type (a.1) in
    let q = of_name low.r_type r.R_LARCH_GOT_PC_LO12 section low.offset facts y tt are.low_r_type (b.0) in
    elim (alike section high.offset output symbol addend p.named q.named p.is_choice
    (subst (λ o. IsLoongArchChoice r.R_LARCH_GOT_PC_LO12 section o facts q.named) are.low_offset q.is_choice)) [
      | inl changed ↦
          let is : (a.0).kind ≡ relaxations.LoongArch64 kinds.NoOp =
          p.kind_is ∙ ap (λ c. relaxations.LoongArch64 c.kind) (changed.0) in
          lacks_nothing symbols bytes section n high (a.0) kinds.NoOp is refl
          (λ u. let e : r_type_of (loongarch_name r.R_LARCH_PCALA_HI20) ≡ r_type_of (loongarch_name r.R_LARCH_GOT_PC_HI20) =
          sym (p.r_type_is ∙ ap (λ c. r_type_of (loongarch_name c.relocation)) (changed.0)) ∙ (u.1 ∙ sym are.high_r_type) in
          omega (arith, e))
          are.high_whole (a.2)
      | inr left ↦ b.1 (unchanged_high low.r_type y q.named r.R_LARCH_GOT_PC_LO12 q.kind_is q.r_type_is are.low_r_type (left.1))
    ]

abbrev AreAlike : Option (Choice Relaxation ℕ) → Option (Choice Relaxation ℕ) → Type 0
AreAlike x y = IsRewritten (decision_of x) ↔ IsRewritten (decision_of y)

by_facts : (symbols : List SymbolFacts) (bytes section : List ℕ) (n : ℕ) (high low : Rela)
    (output : OutputFacts) (symbol : SymbolFacts) (addend : ℤ) (x y : Option (Choice Relaxation ℕ))
    → AreHalves bytes n high low
    → IsCandidateBy LoongArch64 symbols bytes section n high (facts_of output symbol addend false) x
    → IsCandidateBy LoongArch64 symbols bytes section (n + 2) low (facts_of output symbol addend false) y
    → AreAlike x y
by_facts symbols bytes section n high low output symbol addend None None are a b = (λ h. h, λ h. h)
by_facts symbols bytes section n high low output symbol addend (Some x) (Some y) are a b = (λ h. tt, λ h. tt)
by_facts symbols bytes section n high low output symbol addend (Some x) None are a b =
    absurd (high_alone symbols bytes section n high low output symbol addend x are a b)
by_facts symbols bytes section n high low output symbol addend None (Some y) are a b =
    absurd (low_alone symbols bytes section n high low output symbol addend y are a b)

by_symbol : (output : OutputFacts) (symbols : List SymbolFacts) (bytes section : List ℕ) (n : ℕ)
    (high low : Rela) (entry : Option SymbolFacts)
    (x y : Option (Choice Relaxation ℕ)) → AreHalves bytes n high low → low.addend ≡ high.addend
    → IsCandidateWith (pre_layout LoongArch64 output symbols) bytes section n high
    (facts_by PreLayout output no_addresses [] high high false entry) x
    → IsCandidateWith (pre_layout LoongArch64 output symbols) bytes section (n + 2) low
    (facts_by PreLayout output no_addresses [] low low false entry) y
    → AreAlike x y
by_symbol output symbols bytes section n high low None x y are addend a b =
    let is : x ≡ None = a in
    let is_too : y ≡ None = b in
    subst (λ z. AreAlike z y) (sym is) (subst (AreAlike None) (sym is_too) (λ h. h, λ h. h))
by_symbol output symbols bytes section n high low (Some symbol) x y are addend a b =
    by_facts symbols bytes section n high low output symbol high.addend x y are a
    (subst (λ z. IsCandidateBy LoongArch64 symbols bytes section (n + 2) low (facts_of output symbol z false) y) addend b)

-- ---- decisions

record IsAlone (s : RelaxContext) (bytes section : List ℕ) (n : ℕ) (one : Rela)
    (name : LoongArch64Relocation) (decision : Decision) : Type 0 where
  pub is_name : IsNameOf loongarch_name one.r_type name
  pub candidate : Option (Choice Relaxation ℕ)
  pub is_candidate : IsCandidate s bytes section n one candidate
  pub decided : decision ≡ decision_of candidate

alone : (output : OutputFacts) (symbols : List SymbolFacts) (kept : List UnrelaxableGroups)
    (bytes section : List ℕ) (n : ℕ) (one : Rela) (name : LoongArch64Relocation) (decision : Decision)
    → IsNamed (loongarch_name name) → r_type_of (loongarch_name name) ≡ one.r_type
    → loongarch_scope_in PreLayout name ≡ Independent
    → IsDecidedAlone (pre_layout LoongArch64 output symbols) kept bytes section n one decision
    → IsAlone (pre_layout LoongArch64 output symbols) bytes section n one name decision
alone output symbols kept bytes section n one name decision has_text r_type_is scope_is decided =
    let same : (decided.1).name ≡ name = (decided.1).is_name.named name has_text r_type_is in
    let is : decided.0 ≡ Independent = (decided.1).value_is ∙ (ap (loongarch_scope_in PreLayout) same ∙ scope_is) in
    let by = subst (λ z. IsScopeDecision (pre_layout LoongArch64 output symbols) kept bytes section n one z decision) is (decided.2) in
    record {
      is_name = subst (IsNameOf loongarch_name one.r_type) same (decided.1).is_name;
      candidate = by.0;
      is_candidate = by.1;
      decided = by.2;
    }

pub loads_are_whole : LoadsAreWhole
loads_are_whole output symbols kept bytes section decisions limit n decided within all is taken taken_too =
    let s : RelaxContext = pre_layout LoongArch64 output symbols in
    let high = relocation_in bytes n in
    let low = relocation_in bytes (n + 2) in
    let load = are_there marked_load high.offset high bytes n 0 is in
    let second = load.1.1.0 in
    let at = second.offset_is in
    let high_r_type : r_type_of (loongarch_name r.R_LARCH_GOT_PC_HI20) ≡ high.r_type =
    sym (at_first (member (loongarch_name r.R_LARCH_GOT_PC_HI20) 0 Subject) high.offset high bytes n (load.0)).r_type_is in
    let low_r_type : r_type_of (loongarch_name r.R_LARCH_GOT_PC_LO12) ≡ low.r_type = sym second.r_type_is in
    let a = alone output symbols kept bytes section n high r.R_LARCH_GOT_PC_HI20 (decision_at decisions n) tt high_r_type refl
    (subst (λ t. IsDecidedAfter s kept bytes section n t (decision_at decisions n)) taken (decided n (omega (arith, within)))) in
    let b = alone output symbols kept bytes section (n + 2) low r.R_LARCH_GOT_PC_LO12 (decision_at decisions (n + 2)) tt low_r_type refl
    (subst (λ t. IsDecidedAfter s kept bytes section (n + 2) t (decision_at decisions (n + 2))) taken_too (decided (n + 2) within)) in
    let are : AreHalves bytes n high low = record {
      high_r_type = high_r_type;
      low_r_type = low_r_type;
      low_offset = at;
      high_whole = half_whole bytes n high _ 0 0 high_r_type refl
          (among_is marked_load 0 0 bytes n n high.offset high (omega arith) (omega arith) (omega arith) (omega arith) is);
      low_whole = half_whole bytes (n + 2) low _ 2 4 low_r_type refl
          (among_is marked_load 2 4 bytes (n + 2) n high.offset low (omega arith) (omega (arith, at)) (omega arith) (omega (arith, at))
          (same_load bytes n high.offset high low (second.of refl) ∙ is));
    } in
    let both = by_symbol output symbols bytes section n high low (slice_get symbols high.symbol) a.candidate b.candidate are
    (second.of refl).1 a.is_candidate
    (subst (λ z. IsCandidateWith s bytes section (n + 2) low (facts_by PreLayout output no_addresses [] low low false (slice_get symbols z)) b.candidate)
    (second.of refl).0 b.is_candidate) in
    subst (λ d. IsRewritten d ↔ IsRewritten (decision_at decisions (n + 2))) (sym a.decided)
    (subst (λ d. IsRewritten (decision_of a.candidate) ↔ IsRewritten d) (sym b.decided) both)
