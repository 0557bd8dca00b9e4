-- LoongArch: each rewrite of a section is of one instruction or of a load, which is a group.
use Rattle.linker_final.proofs.Imports.{AbsoluteLowPart, Addresses, Architecture, AreDecidedIn, AreRewritten, BeginsRewritten, Bool, Choice, Consumed, Decision, GotRelative, GotTpOff, GotTpOffGot, Grouped, Independent, IsApplied, IsArchitectureChoice, IsCandidate, IsCandidateWith, IsChosen, IsDecidedAfter, IsDecidedAlone, IsGroupDecision, IsKeptInstruction, IsLinked, IsLoadAt, IsNameOf, IsNamed, IsOfEntry, IsOfOne, IsRewrittenAndPacked, IsRewrittenByNoOther, IsRow, IsScopeDecision, IsScopeIn, IsSomeAnd, IsTrue, IsWrittenByNoOther, Kept, Labelled, LinkFacts, Linked, List, LoongArch64 as loongarch64, LoongArch64Relocation, None, NotRelaxable, Ok, Operands, Option, Packed, Phase, Ppc64, Rela, Relative, RelaxContext, Relaxation, RewritesAreGroups, Rewritten, RewrittenWithSymbol, RowInfo, Scope, Some, Symbol, TpOff, UntouchedInstruction, UntouchedInstructions, addend_after, ap, architecture_of, arith, bytes_row, cases_Bool, chosen_at, cond, count, decision_at, decision_of, entry_pages, false, field, final_instruction, following, group_stays, high_row, inl, inr, instruction_at, is_some, is_taken, link_facts, loongarch_name, loongarch_row, loongarch_scope_in, low_row, of_one, offset_after, offset_of, operands_by, operands_in, operands_with, paged_row, place_pages, pre_layout, r_type_of, refl, relaxation_rewrite, relaxation_skipped, relocation_in, rounded_row, slice_get, subst, suc, sym, takes_next, true, value_of, word_of, zero, ℕ, ℤ, ⊤, ◌*◌, ◌+◌, ◌-◌, ◌/◌, ◌<◌, ◌^◌, ◌∙◌, ◌≡◌, ◌≢◌, ◌≤◌, ◌⊎◌}
use Rattle.linker_laws.specs.LoongArchGroups.{Becomes, CallGoes, GoneLaw, Groups, HasNop, HighOffset, InstructionLaw, IsRelocated, IsRewritten, LoadGoes, LoadsOffset, LowHalf, LowOfDescriptor, LowPart, MakesOffset, OffsetGoes, SumGoes, BecomesNop, IsDeleted, IsPair}
use Rattle.linker_final.specs.LoongArchSection.{AreOf, HasEntry, IsAlone, IsFinal, IsKept, IsLeft, IsLoad, IsNew, Left, LoadsTheSame, applied, by_itself, entry_by as entry_of_name, law_of, none, without_law, IsMade, Law, RelocationsAreLeft, anywhere, final, load, named_as, packed, rewriting, Rewrites}
use Rattle.linker_final.specs.LoongArchSection as section_laws
use Rattle.linker_utils.specs.LoongArchRewrites.{IsCallOfDescriptor, IsLoadOfDescriptor, IsLowOfDescriptor, IsLu12i, IsPcalau12i, LoongArchApplies, LoongArchEntry, loongarch_entries, loongarch_rewrite, rj_of, HasPattern, IsAddTp, IsLd, adds_low12, rd_of, rewrites_word, tp, word_at}
use Rattle.linker_rewriting.specs.Rewritten.{IsRewritten as PairIsRewritten}
use Rattle.linker_elf.specs.declared.elf.architecture.Architecture.TheVariants.{LoongArch64}
use Rattle.linker_elf.specs.declared.elf.RelocationKind.TheVariants.{None as NoValue}
use Rattle.linker_final.proofs.PackedBytes.{own_there, r_type_is, unwritten_there, within}
use Rattle.linker_final.proofs.SectionRuns.{AreIn, Cases, IsIn, IsRewrittenAt, beside_or, by_cases, is_linked, without_label}
use Rattle.linker_final.proofs.Written.{IsOfInstruction, IsRowOf, applied_after, by_name, made_there, of_bits, rela, rela_at, relocation_named, row_in, stays, unwritten_without, word_same}
use Rattle.linker_rewriting.proofs.LoongArchLoads.{loads_are_whole}
use Rattle.linker_rewriting.proofs.PreLayout.{AreEarly, IsListed, are_early, isnt, listed_at}
use Rattle.linker_rewriting.proofs.SequenceMembers.{among, are_there}
use Rattle.linker_rewriting.specs.Sequences.{IsWhole, are_members, is_marked_in, is_whole, marked_load}
use Rattle.linker_rewriting.specs.declared.phases.Phase.TheVariants.{PreLayout}
use Rattle.linker_utils.specs.declared.loongarch64.rewrites.RewriteKind.{RewriteKind}
use Rattle.linker_elf.specs.declared.loongarch64.relocations.LoongArch64Relocation.TheVariants as names
use Rattle.linker_utils.specs.declared.loongarch64.rewrites.RewriteKind.TheVariants as kinds
use Rattle.linker_utils.specs.declared.architecture.Relaxation.TheVariants as relaxations
use Rattle.linker_rewriting.specs.declared.phases.Phase.TheVariants as phases

-- ---- relocations that rewrites leave

-- of an instruction
pub record IsAfter (name : LoongArch64Relocation) : Type 0 where
  pub row : RowInfo
  pub is : loongarch_row name ≡ Some row
  pub named : IsNamed (loongarch_name name)
  pub of : IsOfInstruction 4 row

pub row_of : (architecture : Architecture) → architecture ≡ LoongArch64 → (name : LoongArch64Relocation)
    → IsNamed (loongarch_name name) → (row : RowInfo) → loongarch_row name ≡ Some row
    → IsRowOf architecture (r_type_of (loongarch_name name)) row
row_of architecture loongarch name named row is found there =
    by_name loongarch_name loongarch_row name named found
    (subst (λ x. IsRow x (r_type_of (loongarch_name name)) found) loongarch there) ∙ is

-- no rewrite moves the offset or changes the addend
unmoved : (kind : RewriteKind) (o : ℕ) → offset_after (loongarch_rewrite kind) o ≡ o
unmoved kinds.NoOp o = refl
unmoved kind o = refl

same_addend : (kind : RewriteKind) (a : ℤ) → addend_after (loongarch_rewrite kind) a ≡ a
same_addend kinds.NoOp a = refl
same_addend kind a = refl

-- a relocation that is rewritten
abbrev pub IsAt : Linked → ℕ → Type 0
IsAt = IsRewrittenAt rewriting

-- the relocation that is left has another name
pub named_after : (l : Linked) (i : ℕ) (at : IsAt l i) (kind : RewriteKind) → at.chosen.kind ≡ relaxations.LoongArch64 kind
    → (name : LoongArch64Relocation) → at.chosen.relocation ≡ r_type_of (loongarch_name name)
    → relocation_in l.relocations_after i ≡ named_as name (relocation_in l.relocations i)
named_after l i at kind kind_is name r_type_is =
    relocation_named l at.ensured i at.chosen at.below at.decided (loongarch_rewrite kind) (r_type_of (loongarch_name name))
    (ap relaxation_rewrite kind_is) r_type_is (unmoved kind) (same_addend kind)

module _ (l : Linked) (linked : IsLinked l) (loongarch : l.context.architecture ≡ LoongArch64) (i : ℕ)
    (below : i < count l) (name : LoongArch64Relocation) (a : IsAfter name)
    (after_is : relocation_in l.relocations_after i ≡ named_as name (relocation_in l.relocations i))
    (left : UntouchedInstruction l i) where
  -- is applied to what the rewrite leaves, by operands with the same value
  pub relocated_there : (symbol : Symbol) (got : ℕ)
      → operands_in LoongArch64 l.addresses a.row (named_as name (rela_at l i)) (Some symbol)
      ≡ Ok (operands_with LoongArch64 l.addresses a.row symbol (named_as name (rela_at l i)) got)
      → slice_get l.symbols (rela_at l i).symbol ≡ Some symbol → (y : Operands)
      → value_of a.row y ≡ value_of a.row (operands_with LoongArch64 l.addresses a.row symbol (named_as name (rela_at l i)) got)
      → IsRelocated name y (instruction_at l.rewritten (rela_at l i).offset) (instruction_at l.final (rela_at l i).offset)
  relocated_there symbol got taken is_symbol y same =
      applied_after l linked i below 4 (omega arith) a.row a.of (named_as name (rela_at l i)) after_is left
      (row_of l.context.architecture loongarch name a.named a.row a.is) symbol is_symbol got LoongArch64 loongarch taken y same (loongarch_row name) a.is

-- an instruction that becomes another
pub becomes : (l : Linked) (i : ℕ) (at : IsAt l i) (kind : RewriteKind) → at.chosen.kind ≡ relaxations.LoongArch64 kind
    → (new : ℕ → ℕ) → loongarch_rewrite kind ≡ Some (rewrites_word new)
    → IsRewritten kind (instruction_at l.section (offset_of l i)) (instruction_at l.rewritten (offset_of l i))
becomes l i at kind kind_is new is =
    let o = offset_of l i in
    subst (λ q. IsSomeAnd q (λ made. BeginsRewritten made (instruction_at l.section o) (instruction_at l.rewritten o))) (sym is)
    (made_there l at.ensured i at.chosen at.below at.decided (rewrites_word new) (ap relaxation_rewrite kind_is ∙ is) refl)

-- ---- instructions without a field

-- one whose relocation has no type then
pub unwritten_nop : (l : Linked) → IsLinked l → l.context.architecture ≡ LoongArch64 → (i : ℕ) → i < count l
    → relocation_in l.relocations_after i ≡ named_as names.R_LARCH_NONE (relocation_in l.relocations i)
    → UntouchedInstruction l i → IsWrittenByNoOther l i (relocation_in l.relocations i).offset
    → instruction_at l.final (relocation_in l.relocations i).offset
    ≡ instruction_at l.rewritten (relocation_in l.relocations i).offset
unwritten_nop l linked loongarch i below after_is left alone =
    unwritten_without l linked i below (relocation_in l.relocations i).offset left
    (row_of l.context.architecture loongarch names.R_LARCH_NONE tt (bytes_row NoValue 0) refl)
    (ap (λ (x : Rela). x.r_type) after_is) alone

-- ---- scopes

-- a relocation is decided by itself, or with its group
abbrev pub is_plain : Scope → Bool
is_plain NotRelaxable = true
is_plain Independent = true
is_plain (Grouped group) = true
is_plain scope = false

early_plain : (name : LoongArch64Relocation) → is_plain (loongarch_scope_in phases.PreLayout name) ≡ true
early_plain names.R_LARCH_GOT_PC_HI20 = refl
early_plain name = refl

thread_plain : (name : LoongArch64Relocation) → is_plain (loongarch_scope_in phases.TlsLocalExec name) ≡ true
thread_plain names.R_LARCH_TLS_LE_HI20_R = refl
thread_plain name = refl

plain_in : (phase : Phase) (name : LoongArch64Relocation) → is_plain (loongarch_scope_in phase name) ≡ true
plain_in phases.PreLayout name = early_plain name
plain_in phases.TlsLocalExec name = thread_plain name
plain_in phases.GotToPcRel name = refl
plain_in phases.ShortPcRel name = refl

pub plain : (phase : Phase) (code : ℕ) (scope : Scope) → IsScopeIn LoongArch64 phase code scope → is_plain scope ≡ true
plain phase code scope is = ap is_plain is.value_is ∙ plain_in phase is.name

-- LoongArch has no labels
pub unlabelled : (phase : Phase) (code : ℕ) (scope : Scope) → IsScopeIn LoongArch64 phase code scope
    → scope ≡ Labelled → ⊥
unlabelled phase code scope is labelled =
    let e : true ≡ false = sym (plain phase code scope is) ∙ ap is_plain labelled in cc

-- what has no scope in the phase of offsets from the thread pointer has one before addresses are
-- known
only_early : (name : LoongArch64Relocation)
    → loongarch_scope_in phases.TlsLocalExec name ≡ NotRelaxable → (phase : Phase)
    → (loongarch_scope_in phase name ≡ NotRelaxable → ⊥) → phase ≡ phases.PreLayout
only_early name without phases.PreLayout listed = refl
only_early name without phases.TlsLocalExec listed = absurd (listed without)
only_early name without phases.GotToPcRel listed = absurd (listed refl)
only_early name without phases.ShortPcRel listed = absurd (listed refl)

-- ---- the entry

-- one of its table
pub record IsByTable (name : LoongArch64Relocation) (section : List ℕ) (o : ℕ)
    (chosen : Choice Relaxation ℕ) : Type 0 where
  pub facts : LinkFacts
  pub one : IsOfOne loongarch_name relaxations.LoongArch64 (LoongArchApplies name section o facts)
      (loongarch_entries name) chosen
  pub early : loongarch_scope_in phases.TlsLocalExec name ≡ NotRelaxable → AreEarly facts

-- what its entries show
pub shown : {Q : Type 0} {name : LoongArch64Relocation} {section : List ℕ} {o : ℕ} {chosen : Choice Relaxation ℕ}
    (by : IsByTable name section o chosen)
    → Cases Q
    (λ e. IsOfEntry loongarch_name relaxations.LoongArch64 (LoongArchApplies name section o by.facts) e chosen)
    (loongarch_entries name) → Q
shown {Q} {name} {section} {o} {chosen} by =
    by_cases loongarch_name relaxations.LoongArch64 (LoongArchApplies name section o by.facts) chosen (loongarch_entries name) by.one

module _ (l : Linked) (i : ℕ) (at : IsAt l i) where
  abbrev made : AreRewritten l
  made = at.ensured

  pub is_chosen : IsChosen l.context l.section (rela_at l i) at.chosen
  is_chosen =
      chosen_at l.context l.kept l.relocations l.section l.decisions (count l) i at.chosen made.decided at.below at.decided
      (λ scope is. unlabelled l.context.phase (rela_at l i).r_type scope (subst (λ x. IsScopeIn x l.context.phase (rela_at l i).r_type scope) at.architecture is))

  pub choice_there : IsArchitectureChoice LoongArch64 (rela_at l i).r_type l.section (offset_of l i) is_chosen.facts at.chosen
  choice_there =
      subst (λ x. IsArchitectureChoice x (rela_at l i).r_type l.section (offset_of l i) is_chosen.facts at.chosen) at.architecture is_chosen.is_choice

  pub by_table : (name : LoongArch64Relocation) → IsNamed (loongarch_name name) → IsNameOf loongarch_name (rela_at l i).r_type name
      → IsByTable name l.section (offset_of l i) at.chosen
  by_table name named is_name =
      let facts = is_chosen.facts in
      let listed : IsListed l.context (rela_at l i) =
      listed_at l.context l.kept l.relocations l.section l.decisions (count l) i at.chosen made.decided at.below at.decided in
      let scope = subst (λ x. IsScopeIn x l.context.phase (rela_at l i).r_type listed.scope) at.architecture listed.is_scope in
      let same : scope.name ≡ name = scope.is_name.named name named is_name.r_type_is in
      record {
        facts = facts;
        one = of_one loongarch_name relaxations.LoongArch64 (LoongArchApplies name l.section (offset_of l i) facts) at.chosen
            (λ n. LoongArchApplies n l.section (offset_of l i) facts) loongarch_entries kinds.NoOp refl (rela_at l i).r_type name named is_name
            (λ e applies. applies) choice_there is_chosen.changed;
        early = λ without. are_early l.context l.section (rela_at l i) at.chosen
            (only_early name without l.context.phase
            (λ unlisted. listed.listed (scope.value_is ∙ (ap (loongarch_scope_in l.context.phase) same ∙ unlisted))))
            (λ ppc64. let e : LoongArch64 ≡ Ppc64 = sym at.architecture ∙ ppc64 in cc) is_chosen;
      }

-- one that was chosen
pub record IsEntry (kind : RewriteKind) (relocation name : LoongArch64Relocation) (section : List ℕ)
    (o : ℕ) (chosen : Choice Relaxation ℕ) : Type 0 where
  pub kind_is : chosen.kind ≡ relaxations.LoongArch64 kind
  pub r_type_is : chosen.relocation ≡ r_type_of (loongarch_name relocation)
  pub pattern : HasPattern name kind section o

pub entry_of_table : (name : LoongArch64Relocation) (section : List ℕ) (o : ℕ) (chosen : Choice Relaxation ℕ)
    (facts : LinkFacts) (e : LoongArchEntry)
    → IsOfEntry loongarch_name relaxations.LoongArch64 (LoongArchApplies name section o facts) e chosen
    → IsEntry e.kind e.relocation name section o chosen
entry_of_table name section o chosen facts e this =
    record { kind_is = this.kind_is; r_type_is = this.r_type_is; pattern = this.meant.0 }

-- ---- the relocations of a load from the GOT stand next to each other, and both are rewritten

-- The relocations at two indexes are those of a `pcalau12i` and of the `ld.d` after it, of one S +
-- A, and both are rewritten.
pub record AreOfLoad (l : Linked) (i j : ℕ) : Type 0 where
  pub next : (relocation_in l.relocations j).offset ≡ (relocation_in l.relocations i).offset + 4
  pub same_symbol : (relocation_in l.relocations j).symbol ≡ (relocation_in l.relocations i).symbol
  pub same_addend : (relocation_in l.relocations j).addend ≡ (relocation_in l.relocations i).addend
  pub page : IsNameOf loongarch_name (relocation_in l.relocations i).r_type names.R_LARCH_GOT_PC_HI20
  pub low : IsNameOf loongarch_name (relocation_in l.relocations j).r_type names.R_LARCH_GOT_PC_LO12
  pub page_at : IsAt l i
  pub low_at : IsAt l j

-- ---- the relocations of a load

-- the first of a sequence that is whole is that of a load
whole_is : (bytes : List ℕ) (n : ℕ)
    → IsNameOf loongarch_name (relocation_in bytes n).r_type names.R_LARCH_GOT_PC_HI20
    → IsWhole LoongArch64 bytes n (relocation_in bytes n) true → IsLoadAt bytes n
whole_is bytes n is_name whole =
    let r = relocation_in bytes n in
    let all = among marked_load 0 0 bytes n r (ap (λ c. is_whole LoongArch64 bytes n (record r { r_type = c })) is_name.r_type_is ∙ sym whole) in
    let first : n - 0 ≡ n = omega arith in
    let offset : r.offset - 0 ≡ r.offset = omega arith in
    subst (λ k. are_members marked_load bytes n 0 k r ≡ true) offset
    (subst (λ k. are_members marked_load bytes k 0 (r.offset - 0) r ≡ true) first (all.1))

-- ---- decisions

module _ (l : Linked) (all : AreDecidedIn l.context l.kept l.relocations l.section l.decisions (count l))
    (context : l.context ≡ pre_layout LoongArch64 l.context.output l.context.symbols) (n : ℕ) (below : n < count l) where
  abbrev decision : Decision
  decision = decision_at l.decisions n

  -- one of a name that nothing takes along is decided by its scope
  by_scope : (name : LoongArch64Relocation) → IsNamed (loongarch_name name)
      → (relocation_in l.relocations n).r_type ≡ r_type_of (loongarch_name name)
      → is_taken l.decisions n ≡ false → IsNameOf loongarch_name (relocation_in l.relocations n).r_type name
      × IsScopeDecision l.context l.kept l.relocations l.section n (relocation_in l.relocations n)
      (loongarch_scope_in PreLayout name) decision
  by_scope name named r_type_is taken =
      let r = relocation_in l.relocations n in
      let alone : IsDecidedAlone l.context l.kept l.relocations l.section n r decision =
      subst (λ t. IsDecidedAfter l.context l.kept l.relocations l.section n t decision) taken (all n below) in
      let scope = subst (λ (x : RelaxContext). IsScopeIn x.architecture x.phase r.r_type (alone.0)) context (alone.1) in
      let same : scope.name ≡ name = scope.is_name.named name named (sym r_type_is) in (
        subst (IsNameOf loongarch_name r.r_type) same scope.is_name,
        rw (← (scope.value_is ∙ ap (loongarch_scope_in PreLayout) same)) (alone.2),
      )

  -- a mark takes nothing along
  mark_takes : (relocation_in l.relocations n).r_type ≡ r_type_of (loongarch_name names.R_LARCH_RELAX)
      → takes_next decision ≡ false
  mark_takes r_type_is =
      elim (cases_Bool (is_taken l.decisions n)) [
        | inl taken ↦
            let along : decision ≡ Consumed =
            subst (λ t. IsDecidedAfter l.context l.kept l.relocations l.section n t decision) taken (all n below) in
            ap takes_next along
        | inr taken ↦
            let stays : decision ≡ Kept = (by_scope names.R_LARCH_RELAX tt r_type_is taken).1 in
            ap takes_next stays
      ]

  -- what is rewritten isn't taken along
  rewritten_alone : (chosen : Choice Relaxation ℕ) → decision ≡ Rewritten chosen → is_taken l.decisions n ≡ false
  rewritten_alone chosen decided =
      elim (cases_Bool (is_taken l.decisions n)) [
        | inl taken ↦
            let along : decision ≡ Consumed =
            subst (λ t. IsDecidedAfter l.context l.kept l.relocations l.section n t decision) taken (all n below) in
            absurd (let e : Rewritten chosen ≡ Consumed = sym decided ∙ along in cc)
        | inr taken ↦ taken
      ]

-- a candidate's sequence is whole
whole_with : (s : RelaxContext) (bytes section : List ℕ) (n : ℕ) (r : Rela) (chosen : Choice Relaxation ℕ)
    (facts : Option LinkFacts) → IsCandidateWith s bytes section n r facts (Some chosen)
    → IsWhole s.architecture bytes n r true
whole_with s bytes section n r chosen None is = absurd (let e : Some chosen ≡ None = is in cc)
whole_with s bytes section n r chosen (Some facts) is = is.3

whole_of : (s : RelaxContext) (bytes section : List ℕ) (n : ℕ) (r : Rela) (chosen : Choice Relaxation ℕ)
    → IsCandidate s bytes section n r (Some chosen) → IsWhole s.architecture bytes n r true
whole_of s bytes section n r chosen =
    whole_with s bytes section n r chosen (link_facts s r r (is_marked_in s.phase s.architecture bytes n r))

-- a decision of one candidate
record PairIsMade (d : Decision) (candidate : Option (Choice Relaxation ℕ)) : Type 0 where
  pub chosen : Choice Relaxation ℕ
  pub decided : d ≡ Rewritten chosen
  pub candidate_is : candidate ≡ Some chosen

of_candidate : (d : Decision) (candidate : Option (Choice Relaxation ℕ)) → d ≡ decision_of candidate
    → PairIsRewritten d → PairIsMade d candidate
of_candidate d (Some chosen) is rewritten = record { chosen = chosen; decided = is; candidate_is = refl }
of_candidate d None is rewritten = absurd (let none_is : PairIsRewritten Kept = subst PairIsRewritten is rewritten in none_is)

-- ---- a load

pub load_of : (l : Linked) → l.context ≡ pre_layout LoongArch64 l.context.output l.context.symbols → (i : ℕ) (at : IsAt l i)
    → IsNameOf loongarch_name (relocation_in l.relocations i).r_type names.R_LARCH_GOT_PC_HI20 → AreOfLoad l i (i + 2)
load_of l context i at is_name =
    let made : AreRewritten l = at.ensured in
    let all = made.decided in
    let decided = at.decided in
    let r = relocation_in l.relocations i in
    let taken : is_taken l.decisions i ≡ false = rewritten_alone l all context i at.below at.chosen decided in
    let page = by_scope l all context i at.below names.R_LARCH_GOT_PC_HI20 tt (sym is_name.r_type_is) taken in
    let page_made = of_candidate (decision_at l.decisions i) (page.1.0) (page.1.2) (subst PairIsRewritten (sym decided) tt) in
    let whole : IsWhole l.context.architecture l.relocations i r true =
    whole_of l.context l.relocations l.section i r page_made.chosen
    (subst (IsCandidate l.context l.relocations l.section i r) page_made.candidate_is (page.1.1)) in
    let is = whole_is l.relocations i is_name (subst (λ x. IsWhole x l.relocations i r true) at.architecture whole) in
    let load_is = are_there marked_load r.offset r l.relocations i 0 is in
    let second = load_is.1.1.0 in
    let within = second.below in
    let mark : i + 1 < count l = omega (arith, within) in
    let taken_low : is_taken l.decisions (i + 2) ≡ false =
    subst (λ k. is_taken l.decisions k ≡ false) (let e : suc (i + 1) ≡ i + 2 = omega arith in e)
    (mark_takes l all context (i + 1) mark (load_is.1.0).r_type_is) in
    let both = loads_are_whole l.context.output l.context.symbols l.kept l.relocations l.section l.decisions (count l) i
    (subst (λ x. AreDecidedIn x l.kept l.relocations l.section l.decisions (count l)) context all)
    within (omega arith) is taken taken_low in
    let by = by_scope l all context (i + 2) within names.R_LARCH_GOT_PC_LO12 tt second.r_type_is taken_low in
    let low_made = of_candidate (decision_at l.decisions (i + 2)) (by.1.0) (by.1.2)
    (both.0 (subst PairIsRewritten (sym decided) tt)) in
    record {
      next = second.offset_is;
      same_symbol = (second.of refl).0;
      same_addend = (second.of refl).1;
      page = is_name;
      low = by.0;
      page_at = at;
      low_at = record {
        ensured = made;
        architecture = at.architecture;
        below = within;
        chosen = low_made.chosen;
        decided = low_made.decided;
      };
    }

-- ---- rows

abbrev got_row : RowInfo
got_row = paged_row entry_pages (rounded_row GotRelative)

abbrev page_after : IsAfter names.R_LARCH_PCALA_HI20
page_after = record { row = paged_row place_pages (rounded_row Relative); is = refl; named = tt; of = of_bits refl refl refl refl refl (λ o. tt) }

abbrev low_after : IsAfter names.R_LARCH_PCALA_LO12
low_after = record { row = low_row AbsoluteLowPart; is = refl; named = tt; of = of_bits refl refl refl refl refl (λ o. tt) }

-- ---- a pair

module _ (groups : Groups) (l : Linked) (linked : IsLinked l) (loongarch : l.context.architecture ≡ LoongArch64)
    (i j : ℕ) (of : AreOfLoad l i j) (left : UntouchedInstructions l i j) (alone : IsRewrittenByNoOther l i (relocation_in l.relocations i).offset) where
  page : IsEntry kinds.NoOp names.R_LARCH_PCALA_HI20 names.R_LARCH_GOT_PC_HI20 l.section (rela_at l i).offset of.page_at.chosen
  page =
      let by = by_table l i of.page_at names.R_LARCH_GOT_PC_HI20 tt of.page in
      shown by (λ near. isnt by.facts.is_relaxable (by.early refl).unmarked (near.meant.1.1.1.0), (λ this. entry_of_table names.R_LARCH_GOT_PC_HI20 l.section (rela_at l i).offset of.page_at.chosen by.facts _ this, tt))

  low : IsEntry kinds.LdToAddi names.R_LARCH_PCALA_LO12 names.R_LARCH_GOT_PC_LO12 l.section (rela_at l j).offset of.low_at.chosen
  low =
      let by = by_table l j of.low_at names.R_LARCH_GOT_PC_LO12 tt of.low in
      shown by (
        λ near. isnt by.facts.is_relaxable (by.early refl).unmarked (near.meant.1.1.1.0),
        (
          λ this. entry_of_table names.R_LARCH_GOT_PC_LO12 l.section (rela_at l j).offset of.low_at.chosen by.facts _ this,
          (λ of_entry. isnt by.facts.is_relaxable (by.early refl).unmarked (of_entry.meant.1.0), tt),
        ),
      )

  pub loads_the_same : LoadsTheSame l i got_row
  loads_the_same symbol is_symbol got c k s loads fits page_stands low_stands =
      let o = (rela_at l i).offset in
      let w = operands_with LoongArch64 l.addresses got_row symbol (rela_at l i) got in
      let next = of.next in
      let there = page.pattern in
      let together : IsPair IsLd (instruction_at l.section o) (instruction_at l.section (o + 4)) =
      record {
        one_register = rw (← (word_same l.section o), ← (word_same l.section (o + 4))) there.one_register;
        second_is = subst IsLd (word_same l.section (o + 4)) there.second;
      } in
      let stayed : instruction_at l.rewritten o ≡ instruction_at l.section o =
      stays l linked.made i of.page_at.chosen of.page_at.below of.page_at.decided (ap relaxation_rewrite page.kind_is) alone in
      let low_r_type = r_type_of (loongarch_name names.R_LARCH_PCALA_LO12) in
      let page_written : IsApplied page_after.row w (instruction_at l.section o) (instruction_at l.final o) =
      rw (← stayed) (relocated_there l linked loongarch i of.page_at.below names.R_LARCH_PCALA_HI20 page_after
      (named_after l i of.page_at kinds.NoOp page.kind_is names.R_LARCH_PCALA_HI20 page.r_type_is)
      (left.0) symbol 0 refl is_symbol w refl) in
      let low_written : IsApplied low_after.row (following 4 w) (instruction_at l.rewritten (o + 4)) (instruction_at l.final (o + 4)) =
      rw (← next) (relocated_there l linked loongarch j of.low_at.below names.R_LARCH_PCALA_LO12 low_after
      (named_after l j of.low_at kinds.LdToAddi low.kind_is names.R_LARCH_PCALA_LO12 low.r_type_is)
      (left.1) symbol 0 refl (ap (slice_get l.symbols) of.same_symbol ∙ is_symbol) (following 4 w)
      (ap (λ x. value_of low_after.row (operands_with LoongArch64 l.addresses low_after.row symbol (rela (rela_at l j).offset low_r_type (rela_at l j).symbol x) 0)) (sym of.same_addend))) in
      let added : IsRewritten kinds.LdToAddi (instruction_at l.section (o + 4)) (instruction_at l.rewritten (o + 4)) =
      rw (← next)
      (becomes l j of.low_at kinds.LdToAddi low.kind_is
      (λ word. 0x02c00000 + field word 0 22) refl) in
      groups.got c w w k s (instruction_at l.section o) (instruction_at l.section (o + 4)) (instruction_at l.rewritten (o + 4))
      together loads added loads.small fits
      (record { relocated = instruction_at l.final o; applied = page_written; stands = page_stands })
      (record { relocated = instruction_at l.final (o + 4); applied = low_written; stands = low_stands })

pub load_is : Groups → (l : Linked) (i : ℕ) (at : IsAt l i) (name : LoongArch64Relocation)
    → IsNameOf loongarch_name (relocation_in l.relocations i).r_type name → IsLoad l i name
    → IsSomeAnd (loongarch_row names.R_LARCH_GOT_PC_HI20) (LoadsTheSame l i)
load_is groups l i at name is_name of =
    loads_the_same groups l of.linked at.architecture i (i + 2)
    (load_of l of.early i at (subst (IsNameOf loongarch_name (relocation_in l.relocations i).r_type) of.is is_name)) of.left of.alone

-- ---- what is left

-- the operands that a formula takes
pub record Takes (name : LoongArch64Relocation) : Type 0 where
  pub after : IsAfter name
  pub taken : (addresses : Addresses) (r : Rela) (symbol : Symbol) → HasEntry name addresses symbol
      → operands_in LoongArch64 addresses after.row r (Some symbol)
      ≡ Ok (operands_with LoongArch64 addresses after.row symbol r (entry_of_name name symbol))

abbrev takes : (name : LoongArch64Relocation) (row : RowInfo) → loongarch_row name ≡ Some row → IsNamed (loongarch_name name)
    → IsOfInstruction 4 row → ((addresses : Addresses) (r : Rela) (symbol : Symbol) → HasEntry name addresses symbol
    → operands_in LoongArch64 addresses row r (Some symbol)
    ≡ Ok (operands_with LoongArch64 addresses row symbol r (entry_of_name name symbol))) → Takes name
takes name row is named of taken = record { after = record { row = row; is = is; named = named; of = of }; taken = taken }

abbrev pub high_offset : Takes names.R_LARCH_TLS_LE_HI20
high_offset = takes names.R_LARCH_TLS_LE_HI20 (high_row TpOff) refl tt (of_bits refl refl refl refl refl (λ o. tt)) (λ addresses r symbol there. refl)

abbrev pub low_offset : Takes names.R_LARCH_TLS_LE_LO12
low_offset = takes names.R_LARCH_TLS_LE_LO12 (low_row TpOff) refl tt (of_bits refl refl refl refl refl (λ o. tt)) (λ addresses r symbol there. refl)

abbrev part_offset : Takes names.R_LARCH_TLS_LE_LO12_R
part_offset = takes names.R_LARCH_TLS_LE_LO12_R (low_row TpOff) refl tt (of_bits refl refl refl refl refl (λ o. tt)) (λ addresses r symbol there. refl)

-- of initial-exec
abbrev entry_high : Takes names.R_LARCH_TLS_IE_PC_HI20
entry_high =
    let row = paged_row entry_pages (rounded_row GotTpOff) in
    takes names.R_LARCH_TLS_IE_PC_HI20 row refl tt (of_bits refl refl refl refl refl (λ o. tt)) (λ addresses r symbol there.
    ap (λ b. operands_by LoongArch64 addresses row r symbol (cond b (Some symbol.thread_entry) None)) there)

abbrev entry_low : Takes names.R_LARCH_TLS_IE_PC_LO12
entry_low =
    let row = low_row GotTpOffGot in
    takes names.R_LARCH_TLS_IE_PC_LO12 row refl tt (of_bits refl refl refl refl refl (λ o. tt)) (λ addresses r symbol there.
    ap (λ b. operands_by LoongArch64 addresses row r symbol (cond b (Some symbol.thread_entry) None)) there)

-- ---- a rewrite

abbrev pub IsWritable : Left → Linked → ℕ → Type 0
IsWritable (applied name) l i = Takes name
IsWritable left l i = ⊤

pub record IsLawful (l : Linked) (i : ℕ) (kind : Relaxation) (law : Law) : Type 0 where
  pub writable : IsWritable law.left l i
  pub left : IsLeft law.left l i
  pub group : IsAlone kind l i → (u y : Operands) (after : List ℕ)
      → IsMade law.left y (instruction_at l.rewritten (offset_of l i)) after
      → law.IsGroup (instruction_at l.section (offset_of l i)) after u y

abbrev pub before : Linked → ℕ → List ℕ
before l i = instruction_at l.section (offset_of l i)

abbrev pub rewritten : Linked → ℕ → List ℕ
rewritten l i = instruction_at l.rewritten (offset_of l i)

module _ (l : Linked) (i : ℕ) (at : IsAt l i) where
  -- it is an entry of a name
  abbrev IsOf : LoongArch64Relocation → RewriteKind → LoongArch64Relocation → Type 0
  IsOf old kind name = IsEntry kind name old l.section (offset_of l i) at.chosen

  pub left_by : (old : LoongArch64Relocation) (kind : RewriteKind) (name : LoongArch64Relocation) → IsOf old kind name
      → relocation_in l.relocations_after i ≡ named_as name (relocation_in l.relocations i)
  left_by old kind name by = named_after l i at kind by.kind_is name by.r_type_is

  module _ (old : LoongArch64Relocation) (relaxation : Relaxation) (P : ℕ → Type 0) (is : P (word_at l.section (offset_of l i))) where
    there : P (word_of (before l i))
    there = subst P (word_same l.section (offset_of l i)) is

    -- the law of an instruction that becomes another, with a relocation
    pub law_by : (Law : InstructionLaw) (kind : RewriteKind) (name : LoongArch64Relocation) → Becomes P kind name Law → Takes name
        → IsOf old kind name → (new : ℕ → ℕ) → loongarch_rewrite kind ≡ Some (rewrites_word new)
        → IsLawful l i relaxation (section_laws.law name Law)
    law_by Law kind name group takes by new rewrites =
        record {
          writable = takes;
          left = left_by old kind name by;
          group = λ alone u y after.
              group u y (before l i) (rewritten l i) after there (becomes l i at kind by.kind_is new rewrites);
        }

    -- of one that becomes a `nop`
    pub nop_by : (Law : GoneLaw) → BecomesNop P Law → IsOf old kinds.ReplaceWithNop names.R_LARCH_NONE
        → IsLawful l i relaxation (section_laws.nop Law)
    nop_by Law group by =
        record {
          writable = tt;
          left = left_by old kinds.ReplaceWithNop names.R_LARCH_NONE by;
          group = λ alone u y after made_so. subst (λ nop. Law 1 (HasNop nop) (before l i)) (sym made_so)
              (group (before l i) (rewritten l i) there (becomes l i at kinds.ReplaceWithNop by.kind_is (λ _. 0x03400000) refl));
        }

    -- and of one that is deleted
    pub deleted_by : (Law : GoneLaw) → IsDeleted P Law → IsOf old kinds.Delete names.R_LARCH_NONE
        → IsLawful l i relaxation (section_laws.deleted Law)
    deleted_by Law group by =
        record {
          writable = tt;
          left = left_by old kinds.Delete names.R_LARCH_NONE by;
          group = λ alone u y after made_so. group (before l i) there;
        }

-- ---- laws

module _ (groups : Groups) (l : Linked) (i : ℕ) (at : IsAt l i) where
  abbrev HasLaw : LoongArch64Relocation → Type 0
  HasLaw name =
      IsNameOf loongarch_name (relocation_in l.relocations i).r_type name
      → IsLawful l i at.chosen.kind (law_of name at.chosen.kind)

  -- initial-exec
  high_half : HasLaw names.R_LARCH_TLS_IE_PC_HI20
  high_half is_name =
      let name = names.R_LARCH_TLS_IE_PC_HI20 in
      let t = by_table l i at name tt is_name in
      let by : IsOf l i at name kinds.PcalaToLu12i names.R_LARCH_TLS_LE_HI20 =
      shown t (λ short. isnt t.facts.has_addresses (t.early refl).unplaced (short.meant.1.1.1.1.1.0.0), (λ this. entry_of_table name l.section (offset_of l i) at.chosen t.facts _ this, tt)) in
      law_by l i at name at.chosen.kind IsPcalau12i (by.pattern.1) (HighOffset name) kinds.PcalaToLu12i names.R_LARCH_TLS_LE_HI20
      groups.high_halves high_offset by (λ word. 0x14000000 + rd_of word) refl

  low_half : HasLaw names.R_LARCH_TLS_IE_PC_LO12
  low_half is_name =
      let name = names.R_LARCH_TLS_IE_PC_LO12 in
      let t = by_table l i at name tt is_name in
      let by : IsOf l i at name kinds.LowToOri names.R_LARCH_TLS_LE_LO12 =
      shown t (λ short. isnt t.facts.has_addresses (t.early refl).unplaced (short.meant.1.1.1.1.1.0.0), (λ this. entry_of_table name l.section (offset_of l i) at.chosen t.facts _ this, tt)) in
      law_by l i at name at.chosen.kind IsLd (by.pattern.1) LowHalf kinds.LowToOri names.R_LARCH_TLS_LE_LO12
      groups.low_halves low_offset by (λ word. 0x03800000 + field word 0 10) refl

  -- local-exec
  high_part : HasLaw names.R_LARCH_TLS_LE_HI20_R
  high_part is_name =
      let name = names.R_LARCH_TLS_LE_HI20_R in
      let t = by_table l i at name tt is_name in
      let by : IsOf l i at name kinds.Delete names.R_LARCH_NONE =
      shown t (λ this. entry_of_table name l.section (offset_of l i) at.chosen t.facts _ this, tt) in
      deleted_by l i at name at.chosen.kind IsLu12i (by.pattern.1) OffsetGoes groups.high_offsets by

  sum : HasLaw names.R_LARCH_TLS_LE_ADD_R
  sum is_name =
      let name = names.R_LARCH_TLS_LE_ADD_R in
      let t = by_table l i at name tt is_name in
      let by : IsOf l i at name kinds.Delete names.R_LARCH_NONE =
      shown t (λ this. entry_of_table name l.section (offset_of l i) at.chosen t.facts _ this, tt) in
      deleted_by l i at name at.chosen.kind IsAddTp (by.pattern.1) SumGoes groups.sums by

  low_part : HasLaw names.R_LARCH_TLS_LE_LO12_R
  low_part is_name =
      let name = names.R_LARCH_TLS_LE_LO12_R in
      let t = by_table l i at name tt is_name in
      let by : IsOf l i at name kinds.BaseToTp names.R_LARCH_TLS_LE_LO12_R =
      shown t (λ this. entry_of_table name l.section (offset_of l i) at.chosen t.facts _ this, tt) in
      law_by l i at name at.chosen.kind (λ word. IsTrue (adds_low12 (word / 2 ^ 22))) (by.pattern.1.0) LowPart kinds.BaseToTp name
      groups.low_offsets part_offset by (λ word. word - rj_of word * 2 ^ 5 + tp * 2 ^ 5) refl

  -- descriptors
  by_kind : (name : LoongArch64Relocation) (kind : RewriteKind) → at.chosen.kind ≡ relaxations.LoongArch64 kind
      → IsLawful l i (relaxations.LoongArch64 kind) (law_of name (relaxations.LoongArch64 kind))
      → IsLawful l i at.chosen.kind (law_of name at.chosen.kind)
  by_kind name kind is = subst (λ k. IsLawful l i k (law_of name k)) (sym is)

  page_descriptor : HasLaw names.R_LARCH_TLS_DESC_PC_HI20
  page_descriptor is_name =
      let name = names.R_LARCH_TLS_DESC_PC_HI20 in
      let t = by_table l i at name tt is_name in
      let which : IsOf l i at name kinds.PcalaToLu12i names.R_LARCH_TLS_LE_HI20 ⊎ IsOf l i at name kinds.NoOp names.R_LARCH_TLS_IE_PC_HI20 =
      shown t (
        λ short. isnt t.facts.is_relaxable (t.early refl).unmarked (short.meant.1.1.1.0),
        (
          λ short. isnt t.facts.has_addresses (t.early refl).unplaced (short.meant.1.1.1.1.1.0.0),
          (λ this. inl (entry_of_table name l.section (offset_of l i) at.chosen t.facts _ this), (λ this. inr (entry_of_table name l.section (offset_of l i) at.chosen t.facts _ this), (λ near. isnt t.facts.is_relaxable (t.early refl).unmarked (near.meant.1.0), tt))),
        ),
      ) in
      elim which [
        | inl is ↦
            by_kind name kinds.PcalaToLu12i is.kind_is
            (law_by l i at name (relaxations.LoongArch64 kinds.PcalaToLu12i) IsPcalau12i (is.pattern.1.0) (HighOffset name)
            kinds.PcalaToLu12i names.R_LARCH_TLS_LE_HI20 groups.descriptor_high_halves high_offset is (λ word. 0x14000000 + rd_of word) refl)
        | inr is ↦ by_kind name kinds.NoOp is.kind_is (record {
          writable = entry_high;
          left = left_by l i at name kinds.NoOp names.R_LARCH_TLS_IE_PC_HI20 is;
          group = λ alone u y after made_so.
              groups.descriptor_entries u y (before l i) after (subst IsPcalau12i (word_same l.section (offset_of l i)) (is.pattern.1.0))
              (subst (λ bytes. IsRelocated names.R_LARCH_TLS_IE_PC_HI20 y bytes after)
              (stays l at.ensured i at.chosen at.below at.decided (ap relaxation_rewrite is.kind_is) alone) made_so);
        })
      ]

  low_descriptor : HasLaw names.R_LARCH_TLS_DESC_PC_LO12
  low_descriptor is_name =
      let name = names.R_LARCH_TLS_DESC_PC_LO12 in
      let t = by_table l i at name tt is_name in
      let which : IsOf l i at name kinds.LowToOri names.R_LARCH_TLS_LE_LO12 ⊎ IsOf l i at name kinds.AddiToLd names.R_LARCH_TLS_IE_PC_LO12 =
      shown t (
        λ short. isnt t.facts.has_addresses (t.early refl).unplaced (short.meant.1.1.1.1.1.0.0),
        (λ this. inl (entry_of_table name l.section (offset_of l i) at.chosen t.facts _ this), (λ this. inr (entry_of_table name l.section (offset_of l i) at.chosen t.facts _ this), (λ near. isnt t.facts.is_relaxable (t.early refl).unmarked (near.meant.1.0), tt))),
      ) in
      elim which [
        | inl is ↦
            by_kind name kinds.LowToOri is.kind_is
            (law_by l i at name (relaxations.LoongArch64 kinds.LowToOri) IsLowOfDescriptor (is.pattern.1) (LowOfDescriptor MakesOffset)
            kinds.LowToOri names.R_LARCH_TLS_LE_LO12 groups.descriptor_low_halves low_offset is (λ word. 0x03800000 + field word 0 10) refl)
        | inr is ↦
            by_kind name kinds.AddiToLd is.kind_is
            (law_by l i at name (relaxations.LoongArch64 kinds.AddiToLd) IsLowOfDescriptor (is.pattern.1) (LowOfDescriptor LoadsOffset)
            kinds.AddiToLd names.R_LARCH_TLS_IE_PC_LO12 groups.descriptor_entry_loads entry_low is (λ word. 0x28c00000 + field word 0 22) refl)
      ]

  load_law : HasLaw names.R_LARCH_TLS_DESC_LD
  load_law is_name =
      let name = names.R_LARCH_TLS_DESC_LD in
      let t = by_table l i at name tt is_name in
      let by : IsOf l i at name kinds.ReplaceWithNop names.R_LARCH_NONE =
      shown t (λ gone. isnt t.facts.is_relaxable (t.early refl).unmarked (gone.meant.1.1.0), (λ this. entry_of_table name l.section (offset_of l i) at.chosen t.facts _ this, tt)) in
      nop_by l i at name at.chosen.kind IsLoadOfDescriptor (by.pattern.1) LoadGoes groups.descriptor_loads by

  call : HasLaw names.R_LARCH_TLS_DESC_CALL
  call is_name =
      let name = names.R_LARCH_TLS_DESC_CALL in
      let t = by_table l i at name tt is_name in
      let by : IsOf l i at name kinds.ReplaceWithNop names.R_LARCH_NONE =
      shown t (λ gone. isnt t.facts.is_relaxable (t.early refl).unmarked (gone.meant.1.1.0), (λ this. entry_of_table name l.section (offset_of l i) at.chosen t.facts _ this, tt)) in
      nop_by l i at name at.chosen.kind IsCallOfDescriptor (by.pattern.1) CallGoes groups.descriptor_calls by

  pub law_there : (name : LoongArch64Relocation) → HasLaw name
  law_there names.R_LARCH_TLS_IE_PC_HI20 = high_half
  law_there names.R_LARCH_TLS_IE_PC_LO12 = low_half
  law_there names.R_LARCH_TLS_DESC_PC_HI20 = page_descriptor
  law_there names.R_LARCH_TLS_DESC_PC_LO12 = low_descriptor
  law_there names.R_LARCH_TLS_DESC_LD = load_law
  law_there names.R_LARCH_TLS_DESC_CALL = call
  law_there names.R_LARCH_TLS_LE_HI20_R = high_part
  law_there names.R_LARCH_TLS_LE_ADD_R = sum
  law_there names.R_LARCH_TLS_LE_LO12_R = low_part
  law_there name = λ is_name. record { writable = tt; left = tt; group = λ alone_so u y after made_so. made_so }

-- ---- an instruction that stays

module _ (l : Linked) (p : Packed) (joined : IsRewrittenAndPacked l p) (loongarch : p.machine ≡ loongarch64)
    (i : ℕ) (below : i < count l) (name : LoongArch64Relocation) (a : IsAfter name)
    (after_is : relocation_in l.relocations_after i ≡ named_as name (relocation_in l.relocations i))
    (kept : IsKeptInstruction p i) (left : UntouchedInstruction l i) where
  abbrev after : Rela
  after = relocation_in p.relocations_after i

  abbrev code : ℕ
  code = r_type_of (loongarch_name name)

  is : architecture_of p.machine ≡ LoongArch64
  is = ap architecture_of loongarch

  row_is : IsRow (architecture_of p.machine) after.r_type (Some a.row)
  row_is =
      let written = joined.packed.written in
      row_in (architecture_of p.machine) p.addresses p.relocations_after p.symbols after a.row
      (subst (λ c. IsRowOf (architecture_of p.machine) c a.row) (sym (r_type_is l p joined i below code (rela_at l i).symbol (rela_at l i).addend after_is kept left))
      (row_of (architecture_of p.machine) is name a.named a.row a.is))
      (written.can.found i) (written.can.are_found i (within l p joined i below code (rela_at l i).symbol (rela_at l i).addend after_is kept left))

  -- the relocation of its name is applied to it, by operands with the same value
  relocated_kept : (symbol : Symbol) (got : ℕ) → operands_in LoongArch64 p.addresses a.row after (Some symbol)
      ≡ Ok (operands_with LoongArch64 p.addresses a.row symbol after got)
      → slice_get p.symbols after.symbol ≡ Some symbol → (y : Operands)
      → value_of a.row y ≡ value_of a.row (operands_with LoongArch64 p.addresses a.row symbol after got)
      → IsRelocated name y (instruction_at l.rewritten (rela_at l i).offset) (final_instruction p (rela_at l i).offset)
  relocated_kept symbol got taken is_symbol y same =
      subst (λ q. IsSomeAnd q (λ row. IsApplied row y (instruction_at l.rewritten (rela_at l i).offset) (final_instruction p (rela_at l i).offset))) (sym a.is)
      (own_there l p joined i below code (rela_at l i).symbol (rela_at l i).addend after_is kept left a.row a.of row_is LoongArch64 is symbol got taken is_symbol y same)

-- ---- what new has

module _ (l : Linked) (loongarch : l.context.architecture ≡ LoongArch64) (i : ℕ) (below : i < count l) where
  in_final : (left : Left) → IsWritable left l i → IsLeft left l i → IsLinked l → UntouchedInstruction l i
      → (y : Operands) → IsFinal left l i y → IsMade left y (instruction_at l.rewritten (offset_of l i)) (instruction_at l.final (offset_of l i))
  in_final none writable after_is linked left y alone =
      unwritten_nop l linked loongarch i below after_is left alone
  in_final (applied name) takes after_is linked left y of =
      let after = named_as name (relocation_in l.relocations i) in
      let here : AreOf name l.addresses l.symbols after y = subst (λ q. AreOf name l.addresses l.symbols q y) after_is of in
      let are : y ≡ operands_with LoongArch64 l.addresses takes.after.row here.symbol after (entry_of_name name here.symbol) =
      subst (λ q. IsSomeAnd q (λ row. y ≡ operands_with LoongArch64 l.addresses row here.symbol after (entry_of_name name here.symbol))) takes.after.is here.are in
      relocated_there l linked loongarch i below name takes.after after_is left here.symbol (entry_of_name name here.symbol)
      (takes.taken l.addresses after here.symbol here.has_entry) here.is_symbol y (ap (value_of takes.after.row) are)
  in_final without_law writable after_is linked left y of = of

  in_packed : (left : Left) → IsWritable left l i → IsLeft left l i → (p : Packed) → IsRewrittenAndPacked l p
      → p.machine ≡ loongarch64 → UntouchedInstruction l i → (y : Operands) → IsKept left l p i y
      → IsMade left y (instruction_at l.rewritten (offset_of l i)) (final_instruction p (offset_of l i))
  in_packed none writable after_is p joined machine left y stays =
      unwritten_there l p joined i (offset_of l i) left (stays.0) (stays.1)
  in_packed (applied name) takes after_is p joined machine left y stays =
      let after = relocation_in p.relocations_after i in
      let of = stays.1 in
      let are : y ≡ operands_with LoongArch64 p.addresses takes.after.row of.symbol after (entry_of_name name of.symbol) =
      subst (λ q. IsSomeAnd q (λ row. y ≡ operands_with LoongArch64 p.addresses row of.symbol after (entry_of_name name of.symbol))) takes.after.is of.are in
      relocated_kept l p joined machine i below name takes.after after_is (stays.0) left of.symbol (entry_of_name name of.symbol)
      (takes.taken p.addresses after of.symbol of.has_entry) of.is_symbol y (ap (value_of takes.after.row) are)
  in_packed without_law writable after_is p joined machine left y stays = stays

  pub is_made : (left : Left) → IsWritable left l i → IsLeft left l i → (y : Operands) (bytes : List ℕ)
      → IsNew left l i y bytes → IsMade left y (instruction_at l.rewritten (offset_of l i)) bytes
  is_made left writable after_is y bytes (anywhere _ made) = made
  is_made left writable after_is y bytes (final linked alone of) = in_final left writable after_is linked alone y of
  is_made left writable after_is y bytes (packed p joined machine alone of) =
      in_packed left writable after_is p joined machine alone y of

-- ---- what stands at a place

module _ (l : Linked) (made : AreRewritten l) (loongarch : l.context.architecture ≡ LoongArch64) where
  -- no rewrite has the next relocation go
  takes_none : (i : ℕ) → i < count l → (d : Decision) → decision_at l.decisions i ≡ d → takes_next d ≡ false
  takes_none i below Kept _ = refl
  takes_none i below Consumed _ = refl
  takes_none i below (Rewritten chosen) is =
      ap (λ k. is_some (relaxation_skipped k))
      (choice_there l i (record { ensured = made; architecture = loongarch; below = below; chosen = chosen; decided = is })).kind_is
  takes_none i below (RewrittenWithSymbol chosen subject) is =
      absurd (without_label l made.decided loongarch unlabelled i chosen subject below is)

  untaken : (i : ℕ) → i < count l → is_taken l.decisions i ≡ false
  untaken zero below = refl
  untaken (suc i) below =
      let before : i < count l = omega (arith, below) in
      takes_none i before (decision_at l.decisions i) refl

  -- none goes with the one before
  by_option : (candidate : Option (Choice Relaxation ℕ)) → decision_of candidate ≢ Consumed
  by_option None = λ is. cc
  by_option (Some chosen) = λ is. cc

  by_group : (i : ℕ) (stays : Bool) → IsGroupDecision l.context l.relocations l.section i (relocation_in l.relocations i) stays Consumed → ⊥
  by_group i true is = let e : Consumed ≡ Kept = is in cc
  by_group i false is = let e : Consumed ≡ Rewritten (is.0) = is.2 in cc

  by_scope_section : (i : ℕ) (scope : Scope) → is_plain scope ≡ true
      → IsScopeDecision l.context l.kept l.relocations l.section i (relocation_in l.relocations i) scope Consumed → ⊥
  by_scope_section i NotRelaxable is_so is = let e : Consumed ≡ Kept = is in cc
  by_scope_section i Independent is_so is = by_option (is.0) (sym (is.2))
  by_scope_section i (Grouped group) is_so is = by_group i (group_stays l.kept group (relocation_in l.relocations i).symbol) is
  by_scope_section i scope is_so is = let e : false ≡ true = is_so in cc

  unconsumed : (i : ℕ) → i < count l → decision_at l.decisions i ≢ Consumed
  unconsumed i below is =
      let own = subst (λ t. IsDecidedAfter l.context l.kept l.relocations l.section i t (decision_at l.decisions i)) (untaken i below) (made.decided i below) in
      by_scope_section i (own.0)
      (plain l.context.phase (relocation_in l.relocations i).r_type (own.0)
      (subst (λ x. IsScopeIn x l.context.phase (relocation_in l.relocations i).r_type (own.0)) loongarch (own.1)))
      (subst (IsScopeDecision l.context l.kept l.relocations l.section i (relocation_in l.relocations i) (own.0)) is (own.2))

  is_in : (b i : ℕ) (below : i < count l) → offset_of l i ≤ b → b < offset_of l i + 4 → (d : Decision)
      → decision_at l.decisions i ≡ d → d ≢ Kept → IsIn rewriting l b
  is_in b i below from less Kept _ changed = absurd (changed refl)
  is_in b i below from less Consumed is changed = absurd (unconsumed i below is)
  is_in b i below from less (RewrittenWithSymbol chosen subject) is changed =
      absurd (without_label l made.decided loongarch unlabelled i chosen subject below is)
  is_in b i below from less (Rewritten chosen) is changed =
      let listed = listed_at l.context l.kept l.relocations l.section l.decisions (count l) i chosen made.decided below is in
      let scope = subst (λ x. IsScopeIn x l.context.phase (relocation_in l.relocations i).r_type listed.scope) loongarch listed.is_scope in
      record {
        g = record {
          i = i;
          below = below;
          name = scope.name;
          is_name = scope.is_name;
          scoped = λ none_is. listed.listed (scope.value_is ∙ none_is);
          chosen = chosen;
          decided = is;
        };
        first = from;
        last = less;
      }

pub are_in : AreIn rewriting
are_in l made loongarch b =
    beside_or l b (λ i below changed from less.
    is_in l made loongarch b i below from less (decision_at l.decisions i) refl changed)

-- ---- what was rewritten

abbrev at_rewrite : (l : Linked) → AreRewritten l → l.context.architecture ≡ LoongArch64 → (g : Rewrites l) → IsAt l g.i
at_rewrite l made loongarch g =
    record { ensured = made; architecture = loongarch; below = g.below; chosen = g.chosen; decided = g.decided }

pub relocations_are_left : Groups → RelocationsAreLeft
relocations_are_left groups l made loongarch g =
    (law_there groups l g.i (at_rewrite l made loongarch g) g.name g.is_name).left

pub rewrites_are_groups : Groups → RewritesAreGroups rewriting
rewrites_are_groups groups x c called l is k s g n k' s' (by_itself is_alone u y after new by_law) =
    let loongarch = called.architecture l is in
    let law = law_there groups l g.i (at_rewrite l (is_linked rewriting x called l is) loongarch g) g.name g.is_name in
    by_law (law.group is_alone u y after (is_made l loongarch g.i g.below (law_of g.name g.chosen.kind).left law.writable law.left y after new))
rewrites_are_groups groups x c called l is k s g n k' s' (load of by_law) =
    by_law (load_is groups l g.i (at_rewrite l (is_linked rewriting x called l is) (called.architecture l is) g) g.name g.is_name of)
