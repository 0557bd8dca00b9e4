-- Relocations that stay as they are by their `r_type`, or as calls by their symbol.
use Rattle.linker_rewriting.proofs.Imports.{AArch64, AArch64Relocation, Addresses, Architecture, Bool, Choice, Independent, IsAArch64Choice, IsCandidateWith, IsDecidedAlone, IsLeft, IsNameOf, IsPpc64Choice, IsScopeIn, Kept, LinkFacts, List, None, NotRelaxable, Option, OutputFacts, Phase, Ppc64, Ppc64Relocation, PreLayout, Rela, RelaxContext, Relaxation, Scope, Some, Symbol, SymbolFacts, UnrelaxableGroups, aarch64_keeps, aarch64_name, and_parts, cases_Bool, changes_toc, choice, context, eqb, eqb-true, facts_by, facts_of, false, inl, inr, is_marked_in, is_weak_zero, not, ppc64_keeps, ppc64_name, r_type_of, refl, slice_get, subst, sym, true, true≢false, ℕ, ◌||◌, ◌∙◌, ◌≡◌, ◌⊎◌}
use Rattle.linker_utils.specs.declared.aarch64.rewrites.RewriteKind.TheVariants as aarch64_kinds
use Rattle.linker_elf.specs.declared.aarch64.relocations.AArch64Relocation.TheVariants as aarch64
use Rattle.linker_elf.specs.declared.ppc64.relocations.Ppc64Relocation.TheVariants as ppc64
use Rattle.linker_utils.specs.declared.ppc64.rewrites.RewriteKind.TheVariants as ppc64_kinds
use Rattle.linker_utils.specs.declared.architecture.Relaxation.TheVariants as relaxations

not_both : (x : Bool) → x ≡ true → x ≡ false → ⊥
not_both x is isnt = true≢false (sym is ∙ isnt)

not_held : (x : Bool) → not x ≡ true → x ≡ false
not_held true is = absurd (true≢false (sym is))
not_held false is = refl

-- ---- AArch64

abbrev aarch64_left : ℕ → Choice Relaxation ℕ
aarch64_left r_type = record { kind = relaxations.AArch64 aarch64_kinds.NoOp; relocation = r_type }

-- a call with a name has no rewrite where its symbol has no use for one
aarch64_none : (output : OutputFacts) (symbols : List SymbolFacts) (addresses : Addresses)
    (values : List Symbol) (bytes section : List ℕ) (n : ℕ) (r : Rela) (name : AArch64Relocation)
    → IsNameOf aarch64_name r.r_type name
    → ((facts : LinkFacts) → facts.is_undefined_weak ≡ false
    → IsAArch64Choice name section r.offset facts (choice aarch64_kinds.NoOp name))
    → (marked : Bool) (symbol : Option SymbolFacts) → is_weak_zero symbol ≡ false
    → IsCandidateWith (context AArch64 PreLayout output symbols addresses values) bytes section n r
    (facts_by PreLayout output addresses values r r marked symbol) None
aarch64_none output symbols addresses values bytes section n r name is_name unchanged marked None isnt = refl
aarch64_none output symbols addresses values bytes section n r name is_name unchanged marked (Some symbol) isnt = (
  aarch64_left r.r_type,
  record {
    name = name;
    named = choice aarch64_kinds.NoOp name;
    is_name = is_name;
    is_choice = unchanged (facts_of output symbol r.addend marked) isnt;
    kind_is = refl;
    r_type_is = sym is_name.r_type_is;
  },
  inl (refl, refl),
)

call_stays : (section : List ℕ) (o : ℕ) (facts : LinkFacts) → facts.is_undefined_weak ≡ false
    → IsAArch64Choice aarch64.R_AARCH64_CALL26 section o facts (choice aarch64_kinds.NoOp aarch64.R_AARCH64_CALL26)
call_stays section o facts isnt = inr ((λ applies. not_both facts.is_undefined_weak (applies.1.0) isnt), refl)

jump_stays : (section : List ℕ) (o : ℕ) (facts : LinkFacts) → facts.is_undefined_weak ≡ false
    → IsAArch64Choice aarch64.R_AARCH64_JUMP26 section o facts (choice aarch64_kinds.NoOp aarch64.R_AARCH64_JUMP26)
jump_stays section o facts isnt = inr ((λ applies. not_both facts.is_undefined_weak (applies.1.0) isnt), refl)

aarch64_decided : (output : OutputFacts) (symbols : List SymbolFacts) (addresses : Addresses)
    (values : List Symbol) (kept : List UnrelaxableGroups) (bytes section : List ℕ) (n : ℕ) (r : Rela)
    (scope : Scope) → IsScopeIn AArch64 PreLayout r.r_type scope
    → aarch64_keeps (slice_get symbols r.symbol) r.r_type ≡ true
    → IsDecidedAlone (context AArch64 PreLayout output symbols addresses values) kept bytes section n r Kept
aarch64_decided output symbols addresses values kept bytes section n r scope of keeps =
    let symbol = slice_get symbols r.symbol in
    let marked = is_marked_in PreLayout AArch64 bytes n r in
    let is_call = eqb r.r_type (r_type_of (aarch64_name aarch64.R_AARCH64_CALL26)) in
    let is_jump = eqb r.r_type (r_type_of (aarch64_name aarch64.R_AARCH64_JUMP26)) in
    let parts = and_parts (is_call || is_jump) (not (is_weak_zero symbol)) keeps in
    let isnt = not_held (is_weak_zero symbol) (parts.1) in
    elim (cases_Bool is_call) [
      | inl call ↦
          let same : of.name ≡ aarch64.R_AARCH64_CALL26 = of.is_name.named aarch64.R_AARCH64_CALL26 tt (sym (eqb-true r.r_type _ call)) in
          let named : IsNameOf aarch64_name r.r_type aarch64.R_AARCH64_CALL26 = subst (IsNameOf aarch64_name r.r_type) same of.is_name in (
            Independent,
            record { name = aarch64.R_AARCH64_CALL26; is_name = named; value_is = refl },
            (None, aarch64_none output symbols addresses values bytes section n r aarch64.R_AARCH64_CALL26 named (call_stays section r.offset) marked symbol isnt, refl),
          )
      | inr other ↦
          let jump : is_jump ≡ true = subst (λ b. (b || is_jump) ≡ true) other (parts.0) in
          let same : of.name ≡ aarch64.R_AARCH64_JUMP26 = of.is_name.named aarch64.R_AARCH64_JUMP26 tt (sym (eqb-true r.r_type _ jump)) in
          let named : IsNameOf aarch64_name r.r_type aarch64.R_AARCH64_JUMP26 = subst (IsNameOf aarch64_name r.r_type) same of.is_name in (
            Independent,
            record { name = aarch64.R_AARCH64_JUMP26; is_name = named; value_is = refl },
            (None, aarch64_none output symbols addresses values bytes section n r aarch64.R_AARCH64_JUMP26 named (jump_stays section r.offset) marked symbol isnt, refl),
          )
    ]

-- ---- PowerPC64

abbrev ppc64_left : ℕ → Choice Relaxation ℕ
ppc64_left r_type = record { kind = relaxations.Ppc64 ppc64_kinds.NoOp; relocation = r_type }

-- a call with a name has no rewrite where its symbol has no use for one
ppc64_none : (output : OutputFacts) (symbols : List SymbolFacts) (addresses : Addresses)
    (values : List Symbol) (bytes section : List ℕ) (n : ℕ) (r : Rela) (name : Ppc64Relocation)
    → IsNameOf ppc64_name r.r_type name
    → ((facts : LinkFacts) → facts.may_change_toc ≡ false
    → IsPpc64Choice name section r.offset facts (choice ppc64_kinds.NoOp name))
    → (marked : Bool) (symbol : Option SymbolFacts) → changes_toc symbol ≡ false
    → IsCandidateWith (context Ppc64 PreLayout output symbols addresses values) bytes section n r
    (facts_by PreLayout output addresses values r r marked symbol) None
ppc64_none output symbols addresses values bytes section n r name is_name unchanged marked None isnt = refl
ppc64_none output symbols addresses values bytes section n r name is_name unchanged marked (Some symbol) isnt = (
  ppc64_left r.r_type,
  record {
    name = name;
    named = choice ppc64_kinds.NoOp name;
    is_name = is_name;
    is_choice = unchanged (facts_of output symbol r.addend marked) isnt;
    kind_is = refl;
    r_type_is = sym is_name.r_type_is;
  },
  inl (refl, refl),
)

branch_stays : (section : List ℕ) (o : ℕ) (facts : LinkFacts) → facts.may_change_toc ≡ false
    → IsPpc64Choice ppc64.R_PPC64_REL24 section o facts (choice ppc64_kinds.NoOp ppc64.R_PPC64_REL24)
branch_stays section o facts isnt = inr ((λ applies. not_both facts.may_change_toc (applies.1.0) isnt), refl)

ppc64_decided : (output : OutputFacts) (symbols : List SymbolFacts) (addresses : Addresses)
    (values : List Symbol) (kept : List UnrelaxableGroups) (bytes section : List ℕ) (n : ℕ) (r : Rela)
    (scope : Scope) → IsScopeIn Ppc64 PreLayout r.r_type scope
    → ppc64_keeps (slice_get symbols r.symbol) r.r_type ≡ true
    → IsDecidedAlone (context Ppc64 PreLayout output symbols addresses values) kept bytes section n r Kept
ppc64_decided output symbols addresses values kept bytes section n r scope of keeps =
    let symbol = slice_get symbols r.symbol in
    let marked = is_marked_in PreLayout Ppc64 bytes n r in
    let is_call = eqb r.r_type (r_type_of (ppc64_name ppc64.R_PPC64_REL24)) in
    let parts = and_parts is_call (not (changes_toc symbol)) keeps in
    let isnt = not_held (changes_toc symbol) (parts.1) in
    let same : of.name ≡ ppc64.R_PPC64_REL24 = of.is_name.named ppc64.R_PPC64_REL24 tt (sym (eqb-true r.r_type _ (parts.0))) in
    let named : IsNameOf ppc64_name r.r_type ppc64.R_PPC64_REL24 = subst (IsNameOf ppc64_name r.r_type) same of.is_name in (
      Independent,
      record { name = ppc64.R_PPC64_REL24; is_name = named; value_is = refl },
      (None, ppc64_none output symbols addresses values bytes section n r ppc64.R_PPC64_REL24 named (branch_stays section r.offset) marked symbol isnt, refl),
    )

-- ---- of any architecture

by_type : (s : RelaxContext) (kept : List UnrelaxableGroups) (bytes section : List ℕ) (n : ℕ) (r : Rela)
    (scope : Scope) → IsScopeIn s.architecture s.phase r.r_type scope
    → ((scope ≡ NotRelaxable) ⊎ (false ≡ true)) → IsDecidedAlone s kept bytes section n r Kept
by_type s kept bytes section n r scope of (inl is) =
    (NotRelaxable, subst (IsScopeIn s.architecture s.phase r.r_type) is of, refl)
by_type s kept bytes section n r scope of (inr is) = absurd (true≢false (sym is))

by_call : (s : RelaxContext) (kept : List UnrelaxableGroups) (bytes section : List ℕ) (n : ℕ) (r : Rela)
    (scope : Scope) (keeps : Bool) → IsScopeIn s.architecture s.phase r.r_type scope
    → (keeps ≡ true → IsDecidedAlone s kept bytes section n r Kept)
    → ((scope ≡ NotRelaxable) ⊎ (keeps ≡ true)) → IsDecidedAlone s kept bytes section n r Kept
by_call s kept bytes section n r scope keeps of call (inl is) = by_type s kept bytes section n r scope of (inl is)
by_call s kept bytes section n r scope keeps of call (inr is) = call is

pub left_decided : (phase : Phase) (architecture : Architecture) (output : OutputFacts)
    (symbols : List SymbolFacts) (addresses : Addresses) (values : List Symbol)
    (kept : List UnrelaxableGroups) (bytes section : List ℕ) (n : ℕ) (r : Rela)
    → IsLeft architecture phase symbols r
    → IsDecidedAlone (context architecture phase output symbols addresses values) kept bytes section n r Kept
left_decided PreLayout AArch64 output symbols addresses values kept bytes section n r left =
    by_call (context AArch64 PreLayout output symbols addresses values) kept bytes section n r (left.0)
    (aarch64_keeps (slice_get symbols r.symbol) r.r_type) (left.1)
    (aarch64_decided output symbols addresses values kept bytes section n r (left.0) (left.1)) (left.2)
left_decided PreLayout Ppc64 output symbols addresses values kept bytes section n r left =
    by_call (context Ppc64 PreLayout output symbols addresses values) kept bytes section n r (left.0)
    (ppc64_keeps (slice_get symbols r.symbol) r.r_type) (left.1)
    (ppc64_decided output symbols addresses values kept bytes section n r (left.0) (left.1)) (left.2)
left_decided phase architecture output symbols addresses values kept bytes section n r left =
    by_type (context architecture phase output symbols addresses values) kept bytes section n r (left.0) (left.1) (left.2)
