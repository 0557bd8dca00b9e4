-- What an `r_type`, a choice and a candidate are is one thing.
use Rattle.linker_rewriting.proofs.Imports.{AArch64, AArch64Relocation, Architecture, Bool, Choice, ElfName, Entry, IsAArch64Choice, IsArchitectureChoice, IsCallIn, IsCandidate, IsCandidateBy, IsCandidateWith, IsChosenBy, IsFirst, IsLoongArchChoice, IsMatched, IsNameOf, IsNamed, IsPpc64Choice, IsScopeIn, IsSkippable, IsTaken, IsUnchanged, IsWhole, LinkFacts, List, LoongArch64, LoongArch64Relocation, None, NotRelaxable, Option, Phase, Ppc64, Ppc64Relocation, Rela, RelaxContext, Relaxation, RewriteKind as LoongArchKind, RiscV, Scope, Some, SymbolFacts, X86_64, X86_64Relocation, [], aarch64_name, aarch64_scope_in, ap, at_base, calls_tls_get_addr, choice, deletes_within, false, inl, inr, is_some, loongarch_name, loongarch_scope_in, named, own_facts, ppc64_may_be_skipped, ppc64_name, ppc64_scope_in, r_type_of, refl, relaxation_deleted, relaxation_skipped, relocation_at, riscv_scope_in, slice_get, subst, sym, true, true≢false, unnamed, x86_64_scope_in, ℕ, ◌&&◌, ◌+◌, ◌==◌, ◌∙◌, ◌∷◌, ◌≡◌, ◌⊎◌}
use Rattle.linker_elf.specs.RiscVRelocations.{riscv_name}
use Rattle.linker_elf.specs.X86Relocations.{x86_64_name}
use Rattle.linker_elf.specs.declared.aarch64.relocations.AArch64Relocation.TheVariants as aarch64_names
use Rattle.linker_elf.specs.declared.loongarch64.relocations.LoongArch64Relocation.TheVariants as loongarch64_names
use Rattle.linker_elf.specs.declared.ppc64.relocations.Ppc64Relocation.TheVariants as ppc64_names
use Rattle.linker_elf.specs.declared.riscv64.relocations.RiscVRelocation.{RiscVRelocation}
use Rattle.linker_elf.specs.declared.riscv64.relocations.RiscVRelocation.TheVariants as riscv64_names
use Rattle.linker_elf.specs.declared.x86_64.relocations.X86_64Relocation.TheVariants as x86_64_names
use Rattle.linker_utils.specs.declared.aarch64.rewrites.RewriteKind.{RewriteKind as AArch64Kind}
use Rattle.linker_utils.specs.declared.aarch64.rewrites.RewriteKind.TheVariants as aarch64_kinds
use Rattle.linker_utils.specs.declared.loongarch64.rewrites.RewriteKind.TheVariants as loongarch64_kinds
use Rattle.linker_utils.specs.declared.ppc64.rewrites.RewriteKind.{RewriteKind as Ppc64Kind}
use Rattle.linker_utils.specs.declared.ppc64.rewrites.RewriteKind.TheVariants as ppc64_kinds
use Rattle.linker_utils.specs.RiscVRewrites.{IsRiscVChoice, riscv_may_be_skipped}
use Rattle.linker_utils.specs.declared.riscv64.rewrites.RewriteKind.{RewriteKind as RiscVKind}
use Rattle.linker_utils.specs.declared.riscv64.rewrites.RewriteKind.TheVariants as riscv64_kinds
use Rattle.linker_utils.specs.X86Rewrites.{IsX86Choice, x86_64_may_be_skipped}
use Rattle.linker_utils.specs.declared.x86_64.rewrites.RewriteKind.{RewriteKind as X86Kind}
use Rattle.linker_utils.specs.declared.x86_64.rewrites.RewriteKind.TheVariants as x86_64_kinds
use Rattle.linker_utils.specs.declared.architecture.Relaxation.TheVariants as relaxations
use Rattle.linker_rewriting.specs.declared.phases.Phase.TheVariants as phases
use Rattle.linker_elf.specs.Architectures.{IsNamedValue}

-- ---- one name

is_named_or_not : (elf : ElfName) → IsNamed elf ⊎ (IsNamed elf → ⊥)
is_named_or_not (named r_type text) = inl tt
is_named_or_not (unnamed r_type) = inr (λ is. is)

-- two names of an `r_type` are the same, or have no text
abbrev AreOfOne : {Name : Type 0} → (Name → ElfName) → Name → Name → Type 0
AreOfOne elf a b = (b ≡ a) ⊎ ((IsNamed (elf a) → ⊥) × (IsNamed (elf b) → ⊥))

one_name : {Name : Type 0} (elf : Name → ElfName) (r_type : ℕ) (a b : Name) → IsNameOf elf r_type a
    → IsNameOf elf r_type b → AreOfOne elf a b
one_name elf r_type a b is_a is_b =
    elim (is_named_or_not (elf a)) [
      | inl is ↦ inl (is_b.named a is is_a.r_type_is)
      | inr isnt ↦ elim (is_named_or_not (elf b)) [
        | inl is ↦ inl (sym (is_a.named b is is_b.r_type_is))
        | inr other ↦ inr (isnt, other)
      ]
    ]

of_one : {Name A : Type 0} (elf : Name → ElfName) (value_of : Name → A) (none : A) (r_type : ℕ)
    (x y : A) → ((name : Name) → (IsNamed (elf name) → ⊥) → value_of name ≡ none)
    → IsNamedValue elf value_of r_type x → IsNamedValue elf value_of r_type y → x ≡ y
of_one elf value_of none r_type x y nothing a b =
    elim (one_name elf r_type a.name b.name a.is_name b.is_name) [
      | inl same ↦ a.value_is ∙ (sym (ap value_of same) ∙ sym b.value_is)
      | inr isnt ↦ a.value_is ∙ (nothing a.name (isnt.0) ∙ (sym (nothing b.name (isnt.1)) ∙ sym b.value_is))
    ]

-- ---- names without a text have no scope

aarch64_unlisted : (phase : Phase) (name : AArch64Relocation) → (IsNamed (aarch64_name name) → ⊥) → aarch64_scope_in phase name ≡ NotRelaxable
aarch64_unlisted phases.PreLayout (aarch64_names.Other r_type) isnt = refl
aarch64_unlisted phase (aarch64_names.Other r_type) isnt = refl
aarch64_unlisted phase _ isnt = absurd (isnt tt)

riscv64_unlisted : (phase : Phase) (name : RiscVRelocation) → (IsNamed (riscv_name name) → ⊥) → riscv_scope_in phase name ≡ NotRelaxable
riscv64_unlisted phases.PreLayout (riscv64_names.Other r_type) isnt = refl
riscv64_unlisted phase (riscv64_names.Other r_type) isnt = refl
riscv64_unlisted phase _ isnt = absurd (isnt tt)

loongarch64_unlisted : (phase : Phase) (name : LoongArch64Relocation) → (IsNamed (loongarch_name name) → ⊥) → loongarch_scope_in phase name ≡ NotRelaxable
loongarch64_unlisted phases.PreLayout (loongarch64_names.Other r_type) isnt = refl
loongarch64_unlisted phase (loongarch64_names.Other r_type) isnt = refl
loongarch64_unlisted phase _ isnt = absurd (isnt tt)

ppc64_unlisted : (phase : Phase) (name : Ppc64Relocation) → (IsNamed (ppc64_name name) → ⊥) → ppc64_scope_in phase name ≡ NotRelaxable
ppc64_unlisted phases.PreLayout (ppc64_names.Other r_type) isnt = refl
ppc64_unlisted phase (ppc64_names.Other r_type) isnt = refl
ppc64_unlisted phase _ isnt = absurd (isnt tt)

x86_64_unlisted : (phase : Phase) (name : X86_64Relocation) → (IsNamed (x86_64_name name) → ⊥) → x86_64_scope_in phase name ≡ NotRelaxable
x86_64_unlisted phases.PreLayout (x86_64_names.Other r_type) isnt = refl
x86_64_unlisted phase (x86_64_names.Other r_type) isnt = refl
x86_64_unlisted phase _ isnt = absurd (isnt tt)

pub one_scope : (architecture : Architecture) (phase : Phase) (r_type : ℕ) (x y : Scope)
    → IsScopeIn architecture phase r_type x → IsScopeIn architecture phase r_type y → x ≡ y
one_scope AArch64 phase r_type x y = of_one aarch64_name (aarch64_scope_in phase) NotRelaxable r_type x y (aarch64_unlisted phase)
one_scope RiscV phase r_type x y = of_one riscv_name (riscv_scope_in phase) NotRelaxable r_type x y (riscv64_unlisted phase)
one_scope LoongArch64 phase r_type x y = of_one loongarch_name (loongarch_scope_in phase) NotRelaxable r_type x y (loongarch64_unlisted phase)
one_scope Ppc64 phase r_type x y = of_one ppc64_name (ppc64_scope_in phase) NotRelaxable r_type x y (ppc64_unlisted phase)
one_scope X86_64 phase r_type x y = of_one x86_64_name (x86_64_scope_in phase) NotRelaxable r_type x y (x86_64_unlisted phase)

-- ---- one choice

first_one : {K R : Type 0} (A : Entry K R → Type 0) (es : List (Entry K R)) (o x y : Choice K R)
    → IsFirst A es o x → IsFirst A es o y → x ≡ y
first_one A [] o x y a b = a ∙ sym b
first_one A (e ∷ es) o x y (inl a) (inl b) = a.1 ∙ sym (b.1)
first_one A (e ∷ es) o x y (inl a) (inr b) = absurd (b.0 (a.0))
first_one A (e ∷ es) o x y (inr a) (inl b) = absurd (a.0 (b.0))
first_one A (e ∷ es) o x y (inr a) (inr b) = first_one A es o x y (a.1) (b.1)

same_choice : (x y : Choice Relaxation ℕ) → x.kind ≡ y.kind → x.relocation ≡ y.relocation → x ≡ y
same_choice x y kind r_type =
    ap (λ k. choice k x.relocation) kind ∙ ap (choice y.kind) r_type

of_name : {Kind Name : Type 0} (elf : Name → ElfName) (relaxation : Kind → Relaxation)
    (IsChoice : Name → Choice Kind Name → Type 0) (r_type : ℕ) (x y : Choice Relaxation ℕ)
    → ((name : Name) (p q : Choice Kind Name) → IsChoice name p → IsChoice name q → p ≡ q)
    → (a : IsChosenBy elf relaxation IsChoice r_type x) → (b : IsChosenBy elf relaxation IsChoice r_type y)
    → b.name ≡ a.name → x ≡ y
of_name elf relaxation IsChoice r_type x y one a b same =
    let both = one a.name a.named b.named a.is_choice (subst (λ n. IsChoice n b.named) same b.is_choice) in
    same_choice x y
    (a.kind_is ∙ (ap (λ p. relaxation p.kind) both ∙ sym b.kind_is))
    (a.r_type_is ∙ (ap (λ p. r_type_of (elf p.relocation)) both ∙ sym b.r_type_is))

-- of an `r_type` without a name the choice changes nothing
of_none : {Kind Name : Type 0} (elf : Name → ElfName) (relaxation : Kind → Relaxation)
    (IsChoice : Name → Choice Kind Name → Type 0) (none : Kind) (r_type : ℕ) (x : Choice Relaxation ℕ)
    → ((name : Name) (p : Choice Kind Name) → (IsNamed (elf name) → ⊥) → IsChoice name p → p ≡ choice none name)
    → (a : IsChosenBy elf relaxation IsChoice r_type x) → (IsNamed (elf a.name) → ⊥)
    → x ≡ choice (relaxation none) r_type
of_none elf relaxation IsChoice none r_type x nothing a isnt =
    let is = nothing a.name a.named isnt a.is_choice in
    same_choice x (choice (relaxation none) r_type)
    (a.kind_is ∙ ap (λ p. relaxation p.kind) is)
    (a.r_type_is ∙ (ap (λ p. r_type_of (elf p.relocation)) is ∙ a.is_name.r_type_is))

by_name : {Kind Name : Type 0} (elf : Name → ElfName) (relaxation : Kind → Relaxation)
    (IsChoice : Name → Choice Kind Name → Type 0) (none : Kind) (r_type : ℕ) (x y : Choice Relaxation ℕ)
    → ((name : Name) (p q : Choice Kind Name) → IsChoice name p → IsChoice name q → p ≡ q)
    → ((name : Name) (p : Choice Kind Name) → (IsNamed (elf name) → ⊥) → IsChoice name p → p ≡ choice none name)
    → IsChosenBy elf relaxation IsChoice r_type x → IsChosenBy elf relaxation IsChoice r_type y → x ≡ y
by_name elf relaxation IsChoice none r_type x y one nothing a b =
    elim (one_name elf r_type a.name b.name a.is_name b.is_name) [
      | inl same ↦ of_name elf relaxation IsChoice r_type x y one a b same
      | inr isnt ↦ of_none elf relaxation IsChoice none r_type x nothing a (isnt.0)
          ∙ sym (of_none elf relaxation IsChoice none r_type y nothing b (isnt.1))
    ]

aarch64_nothing : (section : List ℕ) (o : ℕ) (facts : LinkFacts) (name : AArch64Relocation) (p : Choice AArch64Kind AArch64Relocation) → (IsNamed (aarch64_name name) → ⊥) → IsAArch64Choice name section o facts p → p ≡ choice aarch64_kinds.NoOp name
aarch64_nothing section o facts (aarch64_names.Other r_type) p isnt is = is
aarch64_nothing section o facts _ p isnt is = absurd (isnt tt)

riscv64_nothing : (section : List ℕ) (o : ℕ) (facts : LinkFacts) (name : RiscVRelocation) (p : Choice RiscVKind RiscVRelocation) → (IsNamed (riscv_name name) → ⊥) → IsRiscVChoice name section o facts p → p ≡ choice riscv64_kinds.NoOp name
riscv64_nothing section o facts (riscv64_names.Other r_type) p isnt is = is
riscv64_nothing section o facts _ p isnt is = absurd (isnt tt)

loongarch64_nothing : (section : List ℕ) (o : ℕ) (facts : LinkFacts) (name : LoongArch64Relocation) (p : Choice LoongArchKind LoongArch64Relocation) → (IsNamed (loongarch_name name) → ⊥) → IsLoongArchChoice name section o facts p → p ≡ choice loongarch64_kinds.NoOp name
loongarch64_nothing section o facts (loongarch64_names.Other r_type) p isnt is = is
loongarch64_nothing section o facts _ p isnt is = absurd (isnt tt)

ppc64_nothing : (section : List ℕ) (o : ℕ) (facts : LinkFacts) (name : Ppc64Relocation) (p : Choice Ppc64Kind Ppc64Relocation) → (IsNamed (ppc64_name name) → ⊥) → IsPpc64Choice name section o facts p → p ≡ choice ppc64_kinds.NoOp name
ppc64_nothing section o facts (ppc64_names.Other r_type) p isnt is = is
ppc64_nothing section o facts _ p isnt is = absurd (isnt tt)

x86_64_nothing : (section : List ℕ) (o : ℕ) (facts : LinkFacts) (name : X86_64Relocation) (p : Choice X86Kind X86_64Relocation) → (IsNamed (x86_64_name name) → ⊥) → IsX86Choice name section o facts p → p ≡ choice x86_64_kinds.NoOp name
x86_64_nothing section o facts (x86_64_names.Other r_type) p isnt is = is
x86_64_nothing section o facts _ p isnt is = absurd (isnt tt)

pub one_choice : (architecture : Architecture) (r_type : ℕ) (section : List ℕ) (o : ℕ)
    (facts : LinkFacts) (x y : Choice Relaxation ℕ)
    → IsArchitectureChoice architecture r_type section o facts x
    → IsArchitectureChoice architecture r_type section o facts y → x ≡ y
one_choice AArch64 r_type section o facts x y =
    by_name aarch64_name relaxations.AArch64 (λ name. IsAArch64Choice name section o facts) aarch64_kinds.NoOp r_type x y
    (λ name p q. first_one _ _ _ p q) (aarch64_nothing section o facts)
one_choice RiscV r_type section o facts x y =
    by_name riscv_name relaxations.RiscV (λ name. IsRiscVChoice name section o facts) riscv64_kinds.NoOp r_type x y
    (λ name p q. first_one _ _ _ p q) (riscv64_nothing section o facts)
one_choice LoongArch64 r_type section o facts x y =
    by_name loongarch_name relaxations.LoongArch64 (λ name. IsLoongArchChoice name section o facts) loongarch64_kinds.NoOp r_type x y
    (λ name p q. first_one _ _ _ p q) (loongarch64_nothing section o facts)
one_choice Ppc64 r_type section o facts x y =
    by_name ppc64_name relaxations.Ppc64 (λ name. IsPpc64Choice name section o facts) ppc64_kinds.NoOp r_type x y
    (λ name p q. first_one _ _ _ p q) (ppc64_nothing section o facts)
one_choice X86_64 r_type section o facts x y =
    by_name x86_64_name relaxations.X86_64 (λ name. IsX86Choice name section o facts) x86_64_kinds.NoOp r_type x y
    (λ name p q. first_one _ _ _ p q) (x86_64_nothing section o facts)

-- ---- one candidate

riscv64_kept : (name : RiscVRelocation) → (IsNamed (riscv_name name) → ⊥) → riscv_may_be_skipped name ≡ false
riscv64_kept (riscv64_names.Other r_type) isnt = refl
riscv64_kept _ isnt = absurd (isnt tt)

ppc64_kept : (name : Ppc64Relocation) → (IsNamed (ppc64_name name) → ⊥) → ppc64_may_be_skipped name ≡ false
ppc64_kept (ppc64_names.Other r_type) isnt = refl
ppc64_kept _ isnt = absurd (isnt tt)

x86_64_kept : (name : X86_64Relocation) → (IsNamed (x86_64_name name) → ⊥) → x86_64_may_be_skipped name ≡ false
x86_64_kept (x86_64_names.Other r_type) isnt = refl
x86_64_kept _ isnt = absurd (isnt tt)

one_skippable : (architecture : Architecture) (r_type : ℕ) (x y : Bool)
    → IsSkippable architecture r_type x → IsSkippable architecture r_type y → x ≡ y
one_skippable AArch64 r_type x y a b = a ∙ sym b
one_skippable LoongArch64 r_type x y a b = a ∙ sym b
one_skippable RiscV r_type x y a b = of_one riscv_name riscv_may_be_skipped false r_type x y riscv64_kept a b
one_skippable Ppc64 r_type x y a b = of_one ppc64_name ppc64_may_be_skipped false r_type x y ppc64_kept a b
one_skippable X86_64 r_type x y a b = of_one x86_64_name x86_64_may_be_skipped false r_type x y x86_64_kept a b

one_call : (architecture : Architecture) (symbols : List SymbolFacts) (offset distance : ℕ)
    (next : Option Rela) (x y : Bool) → IsCallIn architecture symbols offset distance next x
    → IsCallIn architecture symbols offset distance next y → x ≡ y
one_call architecture symbols offset distance None x y a b = a ∙ sym b
one_call architecture symbols offset distance (Some next) x y a b =
    a.2
    ∙ (ap (λ z. (next.offset == offset + distance) && (z && calls_tls_get_addr (slice_get symbols next.symbol)))
    (one_skippable architecture next.r_type (a.0) (b.0) (a.1) (b.1)) ∙ sym (b.2))

one_taken : (architecture : Architecture) (symbols : List SymbolFacts) (bytes : List ℕ)
    (n offset : ℕ) (skipped : Option ℕ) (x y : Bool)
    → IsTaken architecture symbols bytes n offset skipped x
    → IsTaken architecture symbols bytes n offset skipped y → x ≡ y
one_taken architecture symbols bytes n offset None x y a b = a ∙ sym b
one_taken architecture symbols bytes n offset (Some distance) x y a b =
    one_call architecture symbols offset distance (relocation_at bytes (n + 1)) x y a b

one_whole : (architecture : Architecture) (bytes : List ℕ) (n : ℕ) (r : Rela) (x y : Bool)
    → IsWhole architecture bytes n r x → IsWhole architecture bytes n r y → x ≡ y
one_whole AArch64 bytes n r x y a b = a ∙ sym b
one_whole LoongArch64 bytes n r x y a b = a ∙ sym b
one_whole RiscV bytes n r x y a b = a ∙ sym b
one_whole Ppc64 bytes n r x y a b = a ∙ sym b
one_whole X86_64 bytes n r x y a b = a ∙ sym b

-- one that can be rewritten doesn't lack what another one lacks
not_both : (architecture : Architecture) (symbols : List SymbolFacts) (bytes section : List ℕ)
    (n : ℕ) (r : Rela) (facts : LinkFacts) (x : Choice Relaxation ℕ)
    → IsCandidateBy architecture symbols bytes section n r facts (Some x)
    → IsCandidateBy architecture symbols bytes section n r facts None → ⊥
not_both architecture symbols bytes section n r facts x a b =
    let same : b.0 ≡ x = one_choice architecture r.r_type section r.offset facts (b.0) x (b.1) (a.0) in
    elim (b.2) [
      | inl unchanged ↦ a.1 (subst (IsUnchanged r.r_type) same unchanged)
      | inr lacks ↦ elim lacks [
        | inl taken ↦ true≢false
            (one_taken architecture symbols bytes n r.offset (relaxation_skipped x.kind) true false (a.2)
            (subst (λ z. IsTaken architecture symbols bytes n r.offset (relaxation_skipped z.kind) false) same taken))
        | inr less ↦ elim less [
          | inl whole ↦ true≢false (one_whole architecture bytes n r true false (a.3) whole)
          | inr deletes ↦ true≢false
              (sym (a.4) ∙ subst (λ z. deletes_within section r.offset (relaxation_deleted z.kind) ≡ false) same deletes)
        ]
      ]
    ]

not_both_with : (s : RelaxContext) (bytes section : List ℕ) (n : ℕ) (r : Rela)
    (facts : Option LinkFacts) (x : Choice Relaxation ℕ)
    → IsCandidateWith s bytes section n r facts (Some x)
    → IsCandidateWith s bytes section n r facts None → ⊥
not_both_with s bytes section n r None x a b = let e : Some x ≡ None = a in cc
not_both_with s bytes section n r (Some facts) x a b =
    not_both s.architecture s.symbols bytes section n r facts x a b

pub no_other : (s : RelaxContext) (bytes section : List ℕ) (n : ℕ) (r : Rela)
    (x : Choice Relaxation ℕ) → IsCandidate s bytes section n r (Some x)
    → IsCandidate s bytes section n r None → ⊥
no_other s bytes section n r x a b =
    not_both_with s bytes section n r
    (own_facts s bytes n r)
    x a b

pub one_candidate_with : (s : RelaxContext) (bytes section : List ℕ) (n : ℕ) (r : Rela)
    (facts : Option LinkFacts) (x y : Option (Choice Relaxation ℕ))
    → IsCandidateWith s bytes section n r facts x
    → IsCandidateWith s bytes section n r facts y → x ≡ y
one_candidate_with s bytes section n r None x y a b = a ∙ sym b
one_candidate_with s bytes section n r (Some facts) None None a b = refl
one_candidate_with s bytes section n r (Some facts) (Some x) None a b =
    absurd (not_both s.architecture s.symbols bytes section n r facts x a b)
one_candidate_with s bytes section n r (Some facts) None (Some y) a b =
    absurd (not_both s.architecture s.symbols bytes section n r facts y b a)
one_candidate_with s bytes section n r (Some facts) (Some x) (Some y) a b =
    ap Some (one_choice s.architecture r.r_type section r.offset facts x y (a.0) (b.0))

pub one_candidate : (s : RelaxContext) (bytes section : List ℕ) (n : ℕ) (r : Rela)
    (x y : Option (Choice Relaxation ℕ)) → IsCandidate s bytes section n r x
    → IsCandidate s bytes section n r y → x ≡ y
one_candidate s bytes section n r x y a b =
    one_candidate_with s bytes section n r
    (own_facts s bytes n r)
    x y a b

pub one_matched : (s : RelaxContext) (bytes section : List ℕ) (n : ℕ) (r : Rela) (x y : Bool)
    → IsMatched s bytes section n r x → IsMatched s bytes section n r y → x ≡ y
one_matched s bytes section n r x y a b =
    a.2
    ∙ (ap is_some (one_candidate_with s bytes section n r
    (at_base (own_facts s bytes n r))
    (a.0) (b.0) (a.1) (b.1)) ∙ sym (b.2))
