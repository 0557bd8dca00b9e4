-- RISC-V: what the rewrites of a section leave, and that those with a law are groups.
use Rattle.linker_final.proofs.Imports.{Absolute, Addresses, All-drop, All-from_get_or, All-take, AllHold, AppliesToRiscV, Architecture, AreBytes, AreRewritten, AreWritten, BitRange, Bool, Choice, Consumed, Decision, GotTpOff, Grouped, HasAddresses, HasWord, IType, IsApplied, IsArchitectureChoice, IsAuipc, IsCandidateWith, IsChosen, IsDecidedAfter, IsDone, IsGroupDecision, IsHighIn, IsKeptInstruction, IsLabelCandidate, IsLabelDecision, IsLinked, IsLoadFromGot, IsLowOffset, IsLui, IsMade, IsNameOf, IsNamed, IsOfEntry as IsOfEntryIn, IsOfOne as IsOfOneIn, IsRewrittenAndPacked, IsRewrittenByNoOther, IsRow, IsScopeDecision, IsScopeIn, IsSomeAnd, IsTrue, IsUnchanged, IsWithin, Kept, Labelled, LinkFacts, Linked, List, None, NotRelaxable, Ok, Operands, Option, Packed, Phase, Reaches, Rela, Relative, RelativeRiscVLow12, RelaxContext, Relaxation, RewritesAreGroups, Rewritten, RewrittenWithSymbol, RiscV, RiscVEntry, RiscVRelocation, RowInfo, SType, Scope, Some, Subject, Symbol, TpOff, UType, UntouchedInstruction, [], action_at, addend_after, address_in, adds_low12, after_rewrite, ap, architecture_of, arith, by_low_offset, cast_signed, cast_unsigned, choice_of, chosen_or_labelled, count, decision_at, deleted_of, difference_64, drop, entry, facts_at, facts_by, facts_with, false, far_entry, final_instruction, from_le_bytes, funct3_of, get_or, got_high_part, group_stays, if◌then◌else◌, inl, inr, instruction_at, ints, is_label_marked, is_labelled, is_some, is_taken, label_decision, label_facts, length, length-drop, length-take-le, link_facts, list_any, load_to_addi, low_12_bounds, ltb-true, nat_lt, negsuc, of_destination, of_entry as of_entry_in, of_one, offset_after, offset_at, offset_of, offset_row, one_index, opcode_of, operands_before, operands_in, operands_of, operands_with, or_parts, pair_row, place_of, placed_facts, pos, r_type_of, refl, relaxation_deleted, relaxation_rewrite, relaxation_skipped, relocation_in, rewritten, rewritten_by, riscv_entries, riscv_matches, riscv_name, riscv_pair_bounds, riscv_relocation, riscv_rewrite, riscv_row, riscv_row_of, riscv_scope_in, riscv_skipped, slice_get, subst, suc, sum_64, sym, take, takes_next, takes_symbol, to_le_bytes, true, unwrap_or, value_of, w32, w64, with_rs1, without_entry, without_got, word_of, zero, ℕ, ℤ, ◌*◌, ◌+◌, ◌-◌, ◌/◌, ◌<◌, ◌^◌, ◌∙◌, ◌∷◌, ◌≡◌, ◌≢◌, ◌≤◌, ◌⊎◌}
use Rattle.linker_laws.specs.RiscVMachine.{action_of}
use Rattle.linker_final.specs.RiscVSection.{AreOfPair, BecomesNop, Changes, HasLow, HasNamed, HasOwn, HasValue, IsAddiOfLoad, IsDeleted, IsLuiOfLoad, IsNamedAs, IsNop, IsNotRewrittenBy, IsOfDescriptor, IsRewrittenOf, Lawful, Leaves, New, NoneIsInitialExec, Nops, NopsOf, OffsetsAreLow, OffsetsAreLowOf, RelocationsAreLeft, anywhere, descriptor, final, fixed, high_part, law, load, low_address, low_law, low_part, low_store, named_as, object, packed, short_descriptor, sum, rewriting}
use Rattle.linker_laws.specs.RiscVGroups.{Groups, Has, Stands}
use Rattle.linker_utils.specs.RiscVRewrites.{HasPattern, IsAddTp, IsLd, rewrites_word, tp}
use Rattle.linker_base.proofs.Bits.{cast_negative}
use Rattle.linker_final.proofs.PackedBytes.{final_inside, place_is, r_type_is, rewritten_inside, same_kept, unwritten_there, within}
use Rattle.linker_final.proofs.SectionRuns.{AreIn, beside_or, is_linked, Cases, by_cases}
use Rattle.linker_final.proofs.Written.{IsOfInstruction, IsRowOf, applied, applied_found, by_name, bytes_left, last_length, last_within, later_bytes, low_found, mapped, of_bits, rela, rela_at, relocation_left, row_in, stays, unwritten_without, with_operands, word_same}
use Rattle.linker_rewriting.specs.declared.facts.OutputFacts.{OutputFacts}
use Rattle.linker_rewriting.specs.declared.facts.SymbolFacts.{SymbolFacts}
use Rattle.linker_utils.specs.declared.riscv64.rewrites.RewriteKind.{RewriteKind}
use mir.Val.{sel}
use Rattle.linker_utils.specs.declared.riscv64.rewrites.RewriteKind.TheVariants as kinds
use Rattle.linker_utils.specs.declared.architecture.Relaxation.TheVariants as relaxations
use Rattle.linker_elf.specs.declared.riscv64.relocations.RiscVRelocation.TheVariants as names
use Rattle.linker_rewriting.specs.declared.phases.Phase.TheVariants as phases
use Rattle.linker_elf.specs.declared.elf.AnyForm.TheVariants as insns

-- ---- subjects

abbrev subject_of : Rela → Subject
subject_of high = record { symbol = high.symbol; addend = high.addend }

of_phase : (phase : Phase) (chosen mine : Choice Relaxation ℕ) (subject : Subject) (high : Rela)
    → RewrittenWithSymbol chosen subject ≡ label_decision phase mine high → subject ≡ subject_of high
of_phase phase chosen mine subject high is = either (takes_symbol phase mine.relocation) is
  where
    either : (takes : Bool) → RewrittenWithSymbol chosen subject ≡ rewritten_by takes mine high
        → subject ≡ subject_of high
    either true same = let both : RewrittenWithSymbol chosen subject ≡ RewrittenWithSymbol mine (subject_of high) = same in cc
    either false same = absurd (let e : RewrittenWithSymbol chosen subject ≡ Rewritten mine = same in cc)

-- ---- choices by some facts

-- they are those of the high part at the label, whose symbol and addend are a subject
pub record IsOfHigh (s : RelaxContext) (bytes : List ℕ) (n : ℕ) (r : Rela) (facts : LinkFacts) (subject : Subject)
    : Type 0 where
  pub scope_is : IsScopeIn s.architecture s.phase r.r_type Labelled
  pub high : ℕ
  pub is_high : IsHighIn s bytes r (Some high)
  pub facts_are : label_facts s bytes n r high ≡ Some facts
  pub subject_is : subject ≡ subject_of (relocation_in bytes high)

-- a relocation's rewrite, by its own facts or by those of its label
pub record IsChosenAnyhow (s : RelaxContext) (bytes section : List ℕ) (n : ℕ) (r : Rela) (decision : Decision)
    (chosen : Choice Relaxation ℕ) : Type 0 where
  pub facts : LinkFacts
  pub is_choice : IsArchitectureChoice s.architecture r.r_type section r.offset facts chosen
  pub changed : ¬ IsUnchanged r.r_type chosen
  pub of_high : (subject : Subject) → decision ≡ RewrittenWithSymbol chosen subject → IsOfHigh s bytes n r facts subject

label_choice : (phase : Phase) (chosen : Choice Relaxation ℕ) (high : Rela)
    → choice_of (label_decision phase chosen high) ≡ Some chosen
label_choice phase chosen high = either (takes_symbol phase chosen.relocation)
  where
    either : (takes : Bool) → choice_of (rewritten_by takes chosen high) ≡ Some chosen
    either true = refl
    either false = refl

module _ (s : RelaxContext) (bytes section : List ℕ) (n : ℕ) (r : Rela) (decision : Decision)
    (chosen : Choice Relaxation ℕ) (by : choice_of decision ≡ Some chosen)
    (scope_is : IsScopeIn s.architecture s.phase r.r_type Labelled) where
  by_facts : (high : ℕ) → IsHighIn s bytes r (Some high)
      → ((subject : Subject) → decision ≡ RewrittenWithSymbol chosen subject → subject ≡ subject_of (relocation_in bytes high))
      → (facts : Option LinkFacts) → label_facts s bytes n r high ≡ facts → IsCandidateWith s bytes section n r facts (Some chosen)
      → IsChosenAnyhow s bytes section n r decision chosen
  by_facts high is_high subject_is None are is = absurd (let e : Some chosen ≡ None = is in cc)
  by_facts high is_high subject_is (Some facts) are is =
      record {
        facts = facts;
        is_choice = is.0;
        changed = is.1;
        of_high = λ subject to. record {
          scope_is = scope_is;
          high = high;
          is_high = is_high;
          facts_are = are;
          subject_is = subject_is subject to;
        };
      }

  by_label : IsLabelDecision s bytes section n r decision → IsChosenAnyhow s bytes section n r decision chosen
  by_label (inl stays) = absurd (let e : Some chosen ≡ None = sym by ∙ ap choice_of (stays.1) in cc)
  by_label (inr of) =
      let high = of.0 in
      let mine = of.3 in
      let both : Some mine ≡ Some chosen = sym (label_choice s.phase mine (relocation_in bytes high)) ∙ (sym (ap choice_of (of.5)) ∙ by) in
      let same : mine ≡ chosen = cc in
      by_facts high (of.1) (λ subject to. of_phase s.phase chosen mine subject (relocation_in bytes high) (sym to ∙ of.5))
      (label_facts s bytes n r high) refl
      (subst (λ c. IsLabelCandidate s bytes section n r high (Some c)) same (of.4))

pub anyhow : (l : Linked) → AreRewritten l → (i : ℕ) (decision : Decision) (chosen : Choice Relaxation ℕ) → i < count l
    → decision_at l.decisions i ≡ decision → choice_of decision ≡ Some chosen
    → IsChosenAnyhow l.context l.relocations l.section i (relocation_in l.relocations i) decision chosen
anyhow l made i decision chosen below decided by =
    elim (chosen_or_labelled l.context l.kept l.relocations l.section l.decisions (count l) i decision chosen made.decided below decided by) [
      | inl own ↦ record {
        facts = own.chosen.facts;
        is_choice = own.chosen.is_choice;
        changed = own.chosen.changed;
        of_high = λ subject to. absurd (let e : Rewritten chosen ≡ RewrittenWithSymbol chosen subject = sym own.is ∙ to in cc);
      }
      | inr label ↦
          by_label l.context l.relocations l.section i (relocation_in l.relocations i) decision chosen by label.scope_is label.label_is
    ]

-- a relocation gets the symbol and the addend of the high part at its label
pub of_subject : (l : Linked) → AreRewritten l → (n : ℕ) (chosen : Choice Relaxation ℕ) (subject : Subject)
    → n < count l → decision_at l.decisions n ≡ RewrittenWithSymbol chosen subject
    → (high : ℕ) → IsHighIn l.context l.relocations (relocation_in l.relocations n) (Some high)
    → subject ≡ subject_of (relocation_in l.relocations high)
of_subject l made n chosen subject below decided high is_high =
    let of = (anyhow l made n (RewrittenWithSymbol chosen subject) chosen below decided refl).of_high subject refl in
    cc (of.subject_is, one_index l.context l.relocations (relocation_in l.relocations n) of.high high of.is_high is_high)

-- ---- the entry

abbrev pub IsOfEntry : RiscVRelocation → RiscVEntry → List ℕ → ℕ → Choice Relaxation ℕ → Type 0
IsOfEntry name e section o = IsOfEntryIn riscv_name relaxations.RiscV (λ (e : RiscVEntry). HasPattern name e.kind section o) e

abbrev pub IsOfSome : RiscVRelocation → List RiscVEntry → List ℕ → ℕ → Choice Relaxation ℕ → Type 0
IsOfSome name es section o = IsOfOneIn riscv_name relaxations.RiscV (λ (e : RiscVEntry). HasPattern name e.kind section o) es

-- of one of the name, which applies
pub of_table : (architecture : Architecture) → architecture ≡ RiscV → (code : ℕ) (section : List ℕ) (o : ℕ)
    (facts : LinkFacts) (chosen : Choice Relaxation ℕ) → IsArchitectureChoice architecture code section o facts chosen
    → ¬ IsUnchanged code chosen → (name : RiscVRelocation) → IsNamed (riscv_name name) → IsNameOf riscv_name code name
    → (IsMeant : RiscVEntry → Type 0) → ((e : RiscVEntry) → AppliesToRiscV (HasPattern name) section o facts e → IsMeant e)
    → IsOfOneIn riscv_name relaxations.RiscV IsMeant (riscv_entries name) chosen
of_table architecture riscv code section o facts chosen is changed name named is_name IsMeant meant =
    of_one riscv_name relaxations.RiscV IsMeant chosen (λ n. AppliesToRiscV (HasPattern n) section o facts)
    riscv_entries kinds.NoOp refl code name named is_name meant
    (subst (λ x. IsArchitectureChoice x code section o facts chosen) riscv is) changed

-- ---- those of one kind

abbrev pub kind_in : RewriteKind → Relaxation → RewriteKind
kind_in other (relaxations.RiscV kind) = kind
kind_in other relaxation = other

-- the relocation after a rewrite, of an instruction in the section
pub record Becomes (name : RiscVRelocation) (section : List ℕ) (o : ℕ) (chosen : Choice Relaxation ℕ)
    : Type 0 where
  pub r_type_is : chosen.relocation ≡ r_type_of (riscv_name name)
  pub inside : o + 4 ≤ length section

-- Each entry is of another kind, or has a relocation and requires an instruction.
abbrev pub EachBecomes : RiscVRelocation → RewriteKind → RiscVRelocation → List RiscVEntry → Type 0
EachBecomes name kind after [] = Unit {0}
EachBecomes name kind after (e ∷ es) =
    ((kind ≡ e.kind → ⊥)
    ⊎ ((e.relocation ≡ after)
    × ((section : List ℕ) (o : ℕ) → HasPattern name e.kind section o → o + 4 ≤ length section)))
    × EachBecomes name kind after es

becomes_by : (name after : RiscVRelocation) (kind : RewriteKind) (section : List ℕ) (o : ℕ) (chosen : Choice Relaxation ℕ)
    → chosen.kind ≡ relaxations.RiscV kind → (es : List RiscVEntry) → EachBecomes name kind after es
    → IsOfSome name es section o chosen → Becomes after section o chosen
becomes_by name after kind section o chosen is [] each nothing = absurd nothing
becomes_by name after kind section o chosen is (e ∷ es) each (inl this) =
    elim (each.0) [
      | inl isnt ↦ absurd (isnt (ap (kind_in kind) (sym is ∙ this.kind_is)))
      | inr so ↦
          record { r_type_is = this.r_type_is ∙ ap (λ r. r_type_of (riscv_name r)) (so.0); inside = so.1 section o this.meant }
    ]
becomes_by name after kind section o chosen is (e ∷ es) each (inr other) =
    becomes_by name after kind section o chosen is es (each.1) other

module _ (l : Linked) (made : AreRewritten l) (riscv : l.context.architecture ≡ RiscV) (i : ℕ)
    (decision : Decision) (chosen : Choice Relaxation ℕ) (below : i < count l)
    (decided : decision_at l.decisions i ≡ decision) (by : choice_of decision ≡ Some chosen)
    (name : RiscVRelocation) (named : IsNamed (riscv_name name))
    (is_name : IsNameOf riscv_name (relocation_in l.relocations i).r_type name)
  where
    pub of_some : IsOfSome name (riscv_entries name) l.section (rela_at l i).offset chosen
    of_some =
        let c = anyhow l made i decision chosen below decided by in
        of_table l.context.architecture riscv (rela_at l i).r_type l.section (rela_at l i).offset c.facts chosen c.is_choice c.changed name named is_name
        (λ e. HasPattern name e.kind l.section (rela_at l i).offset) (λ e applies. applies.0)

    -- the only one
    pub of_riscv_entry : (e : RiscVEntry) → riscv_entries name ≡ (e ∷ [])
        → IsOfEntry name e l.section (rela_at l i).offset chosen
    of_riscv_entry e entries =
        of_entry_in riscv_name relaxations.RiscV (λ e. HasPattern name e.kind l.section (rela_at l i).offset) chosen e (riscv_entries name) entries of_some

    pub becomes_of : (after : RiscVRelocation) (kind : RewriteKind) → chosen.kind ≡ relaxations.RiscV kind
        → EachBecomes name kind after (riscv_entries name) → Becomes after l.section (rela_at l i).offset chosen
    becomes_of after kind is each =
        becomes_by name after kind l.section (rela_at l i).offset chosen is (riscv_entries name) each of_some

-- ---- bytes

word_bytes : (n : ℕ) → AreBytes (to_le_bytes w32 n)
word_bytes n = All-from_get_or (λ b. b < 2 ^ 8) (to_le_bytes w32 n) 0 (λ i below. each i below)
  where
    each : (i : ℕ) → i < length (to_le_bytes w32 n) → get_or (to_le_bytes w32 n) i 0 < 2 ^ 8
    each zero below = omega arith
    each (suc zero) below = omega arith
    each (suc (suc zero)) below = omega arith
    each (suc (suc (suc zero))) below = omega arith
    each (suc (suc (suc (suc i)))) below = absurd (omega (arith, below))

pub bytes_there : (bytes : List ℕ) (o : ℕ) → AreBytes bytes → AreBytes (instruction_at bytes o)
bytes_there bytes o are = All-take (λ b. b < 2 ^ 8) 4 (drop o bytes) (All-drop (λ b. b < 2 ^ 8) o bytes are)

pub long_there : (bytes : List ℕ) (o : ℕ) → o + 4 ≤ length bytes → length (instruction_at bytes o) ≡ 4
long_there bytes o inside =
    length-take-le 4 (drop o bytes) (let d = length-drop o bytes in omega (arith, d, inside))

-- what a rewrite of a word makes of four bytes
made_is : (new : ℕ → ℕ) (bytes : List ℕ) → length bytes ≡ 4
    → rewritten (Some (rewrites_word new)) bytes 0 ≡ to_le_bytes w32 (new (from_le_bytes w32 bytes))
made_is new (p ∷ q ∷ r ∷ s ∷ []) long = refl
made_is new bytes long = absurd (omega (arith, long))

-- ---- what a decision leaves of a relocation

module _ (l : Linked) (made : AreRewritten l) (i : ℕ) (chosen : Choice Relaxation ℕ) (below : i < count l)
    (kind : RewriteKind) (name : RiscVRelocation) (kind_is : chosen.kind ≡ relaxations.RiscV kind)
    (r_type_is : chosen.relocation ≡ r_type_of (riscv_name name))
    (unmoved : (o : ℕ) → offset_after (riscv_rewrite kind) o ≡ o)
    (same_addend : (a : ℤ) → addend_after (riscv_rewrite kind) a ≡ a) where
  after_is : (symbol : ℕ) (addend : ℤ)
      → rela (offset_after (relaxation_rewrite chosen.kind) (rela_at l i).offset) chosen.relocation symbol (addend_after (relaxation_rewrite chosen.kind) addend)
      ≡ rela (rela_at l i).offset (r_type_of (riscv_name name)) symbol addend
  after_is symbol addend = rw (kind_is, unmoved (rela_at l i).offset, r_type_is, same_addend addend)

  pub rewritten_after : decision_at l.decisions i ≡ Rewritten chosen
      → relocation_in l.relocations_after i ≡ rela (rela_at l i).offset (r_type_of (riscv_name name)) (rela_at l i).symbol (rela_at l i).addend
  rewritten_after decided = cc (made.relocations i below, after_is (rela_at l i).symbol (rela_at l i).addend)

  pub redirected_after : (subject : Subject) → decision_at l.decisions i ≡ RewrittenWithSymbol chosen subject
      → relocation_in l.relocations_after i
      ≡ rela (rela_at l i).offset (r_type_of (riscv_name name)) subject.symbol subject.addend
  redirected_after subject decided = cc (made.relocations i below, after_is subject.symbol subject.addend)

-- ---- what such a relocation writes

-- a name with a row
pub record IsAfter (name : RiscVRelocation) : Type 0 where
  pub row : RowInfo
  pub is : (riscv_relocation name).row ≡ Some row
  pub named : IsNamed (riscv_name name)

-- the value is that of its own symbol
pub record IsOwn (name : RiscVRelocation) : Type 0 where
  pub after : IsAfter name
  pub of : IsOfInstruction 4 after.row
  pub is_row : riscv_row name ≡ Some after.row
  pub no_entry : (addresses : Addresses) (r : Rela) (symbol : Symbol)
      → operands_in RiscV addresses after.row r (Some symbol)
      ≡ Ok (operands_with RiscV addresses after.row symbol r 0)

abbrev pub own_row : (name : RiscVRelocation) (row : RowInfo) → (riscv_relocation name).row ≡ Some row
    → IsNamed (riscv_name name) → IsOfInstruction 4 row → riscv_row name ≡ Some row
    → ((addresses : Addresses) (r : Rela) (symbol : Symbol)
    → operands_in RiscV addresses row r (Some symbol) ≡ Ok (operands_with RiscV addresses row symbol r 0))
    → IsOwn name
own_row name row is named of is_row no_entry =
    record { after = record { row = row; is = is; named = named }; of = of; is_row = is_row; no_entry = no_entry }

-- ---- instructions

-- one of which another word is made
module _ (l : Linked) (made : AreRewritten l) (i : ℕ) (below : i < count l) (decision : Decision)
    (decided : decision_at l.decisions i ≡ decision) (chosen : Choice Relaxation ℕ) (kind : RewriteKind)
    (kind_is : chosen.kind ≡ relaxations.RiscV kind) (new : ℕ → ℕ)
    (rewrites : riscv_rewrite kind ≡ Some (rewrites_word new))
    (by : IsDone decision (relocation_in l.relocations i).offset l.section l.rewritten
    → IsMade (relaxation_rewrite chosen.kind) (relocation_in l.relocations i).offset l.section l.rewritten) where
  word_is : instruction_at l.rewritten (offset_of l i) ≡ to_le_bytes w32 (new (from_le_bytes w32 (instruction_at l.section (offset_of l i))))
  word_is =
      cc (subst (λ n. instruction_at l.rewritten n ≡ to_le_bytes w32 (new (from_le_bytes w32 (instruction_at l.section n)))) (let e : (offset_of l i) - 0 ≡ (offset_of l i) = omega arith in e) (subst (λ q. IsMade q (offset_of l i) l.section l.rewritten) (ap relaxation_rewrite kind_is ∙ rewrites) (by (subst (λ d. IsDone d (offset_of l i) l.section l.rewritten) decided (made.done i below)))))

  pub becomes : (offset_of l i) + 4 ≤ length l.section → instruction_at l.rewritten (offset_of l i) ≡ after_rewrite kind (instruction_at l.section (offset_of l i)) 0
  becomes inside =
      word_is ∙ sym (made_is new (instruction_at l.section (offset_of l i)) (long_there l.section (offset_of l i) inside))
      ∙ ap (λ q. rewritten q (instruction_at l.section (offset_of l i)) 0) (sym rewrites)

  pub made_bytes : AreBytes (instruction_at l.rewritten (offset_of l i))
  made_bytes = subst AreBytes (sym word_is) (word_bytes (new (from_le_bytes w32 (instruction_at l.section (offset_of l i)))))

-- ---- the facts

-- those once addresses are known
record ArePlaced (phase : Phase) (output : OutputFacts) (addresses : Addresses) (values : List Symbol) (r : Rela)
    (marked : Bool) (facts : LinkFacts) : Type 0 where
  pub symbol : SymbolFacts
  pub value : Symbol
  pub is_value : slice_get values r.symbol ≡ Some value
  pub are : facts ≡ placed_facts phase output addresses symbol value r.offset r.addend marked

module _ (output : OutputFacts) (addresses : Addresses) (values : List Symbol) (r : Rela)
    (marked : Bool) (facts : LinkFacts) where
  by_value : (phase : Phase) (symbol : SymbolFacts) (value : Option Symbol) → slice_get values r.symbol ≡ value
      → facts_with phase output addresses r r marked symbol value ≡ Some facts
      → ArePlaced phase output addresses values r marked facts
  by_value phase symbol None there is = absurd (let e : None ≡ Some facts = is in cc)
  by_value phase symbol (Some value) there is =
      record { symbol = symbol; value = value; is_value = there; are = ap (λ f. unwrap_or f facts) (sym is) }

  -- an address is known, or it isn't the phase before
  by_phase : (phase : Phase) (symbol : SymbolFacts) → (facts.has_addresses ≡ true) ⊎ (phase ≢ phases.PreLayout)
      → facts_at phase output addresses values r r marked symbol ≡ Some facts
      → ArePlaced phase output addresses values r marked facts
  by_phase phases.PreLayout symbol (inl known) is =
      absurd (let e : false ≡ true = ap (λ (f : Option LinkFacts). (unwrap_or f facts).has_addresses) is ∙ known in cc)
  by_phase phases.PreLayout symbol (inr late) is = absurd (late refl)
  by_phase phases.TlsLocalExec symbol late is = by_value phases.TlsLocalExec symbol (slice_get values r.symbol) refl is
  by_phase phases.GotToPcRel symbol late is = by_value phases.GotToPcRel symbol (slice_get values r.symbol) refl is
  by_phase phases.ShortPcRel symbol late is = by_value phases.ShortPcRel symbol (slice_get values r.symbol) refl is

  by_symbol : (phase : Phase) (symbol : Option SymbolFacts) → (facts.has_addresses ≡ true) ⊎ (phase ≢ phases.PreLayout)
      → facts_by phase output addresses values r r marked symbol ≡ Some facts
      → ArePlaced phase output addresses values r marked facts
  by_symbol phase None late is = absurd (let e : None ≡ Some facts = is in cc)
  by_symbol phase (Some symbol) late is = by_phase phase symbol late is

-- ---- the offset

abbrev IsLowBy : Operands → Type 0
IsLowBy o =
    IsWithin (Some low_12_bounds)
    (cast_signed w64 (difference_64 (sum_64 o.symbol (cast_unsigned w64 o.addend)) o.tls_base))

-- what the formula of the low part computes, with a bias of 0
abbrev IsTested : Operands → Type 0
IsTested o =
    IsWithin (Some low_12_bounds)
    (cast_signed w64 (difference_64 (sum_64 (sum_64 o.symbol (cast_unsigned w64 o.addend)) 0) o.tls_base))

without_bias : (o : Operands) → IsTested o → IsLowBy o
without_bias o is =
    subst (λ n. IsWithin (Some low_12_bounds) (cast_signed w64 (difference_64 n o.tls_base)))
    (twice o.symbol (cast_unsigned w64 o.addend)) is
  where
    twice : (a b : ℕ) → sum_64 (sum_64 a b) 0 ≡ sum_64 a b
    twice a b = omega arith

-- S of a thread-local symbol
address_is : (addresses : Addresses) (value : Symbol) → value.is_thread_local ≡ true
    → address_in addresses value
    ≡ (if value.is_undefined_weak then addresses.thread_origin else value.address)
address_is addresses value is = cc

-- what the entry's last condition says
by_test : (s : RelaxContext) (section : List ℕ) (r : Rela) (chosen : Choice Relaxation ℕ)
    (c : IsChosen s section r chosen) (value : Symbol) → slice_get s.values r.symbol ≡ Some value
    → value.is_thread_local ≡ true → HasAddresses c.facts → IsTested c.facts.operands
    → IsLowOffset (operands_with RiscV s.addresses (pair_row TpOff 32 IType) value r 0)
by_test s section r chosen c value is_value thread_local known is =
    let placed = by_symbol s.output s.addresses s.values r c.marked c.facts s.phase (slice_get s.symbols r.symbol) (inl known) c.facts_are in
    let both : Some placed.value ≡ Some value = sym placed.is_value ∙ is_value in
    let same : placed.value ≡ value = cc in
    let low : IsLowBy (placed_facts s.phase s.output s.addresses placed.symbol placed.value r.offset r.addend c.marked).operands =
    subst (λ (f : LinkFacts). IsLowBy f.operands) placed.are (without_bias c.facts.operands is) in
    rw (← (ap (address_in s.addresses) same ∙ address_is s.addresses value thread_local)) low

module _ (name : RiscVRelocation) (named : IsNamed (riscv_name name)) (kind : RewriteKind)
    (after : RiscVRelocation) (entries : riscv_entries name ≡ (entry kind after by_low_offset ∷ []))
    (unlabelled : (phase : Phase) → is_labelled (riscv_scope_in phase name) ≡ false) where
  not_labelled : (phase : Phase) (code : ℕ) → IsNameOf riscv_name code name
      → IsScopeIn RiscV phase code Labelled → ⊥
  not_labelled phase code is_name scope =
      let same : scope.name ≡ name = scope.is_name.named name named is_name.r_type_is in
      let e : true ≡ false = ap is_labelled (scope.value_is ∙ ap (riscv_scope_in phase) same) ∙ unlabelled phase in cc

  low_of : OffsetsAreLowOf name
  low_of l rewriting riscv i chosen below is_name decided value is_value thread_local =
      let s = l.context in
      let r = relocation_in l.relocations i in
      let c : IsChosen s l.section r chosen =
      elim (chosen_or_labelled s l.kept l.relocations l.section l.decisions (count l) i (Rewritten chosen) chosen rewriting.decided below decided refl) [
        | inl alone ↦ alone.chosen
        | inr label ↦
            absurd (not_labelled s.phase r.r_type is_name (subst (λ x. IsScopeIn x s.phase r.r_type Labelled) riscv label.scope_is))
      ] in
      let applies = AppliesToRiscV (HasPattern name) l.section r.offset c.facts in
      let this = of_entry_in riscv_name relaxations.RiscV applies chosen (entry kind after by_low_offset) (riscv_entries name) entries
      (of_table s.architecture riscv r.r_type l.section r.offset c.facts chosen c.is_choice c.changed name named is_name applies (λ e is. is)) in
      let test = this.meant.1.1.0 in
      by_test s l.section r chosen c value is_value thread_local (test.0) (test.1)

no_label : (name : RiscVRelocation) → is_labelled (riscv_scope_in phases.TlsLocalExec name) ≡ false
    → is_labelled (riscv_scope_in phases.GotToPcRel name) ≡ false → (phase : Phase)
    → is_labelled (riscv_scope_in phase name) ≡ false
no_label name late placed phases.PreLayout = refl
no_label name late placed phases.TlsLocalExec = late
no_label name late placed phases.GotToPcRel = placed
no_label name late placed phases.ShortPcRel = refl

pub offsets_are_low : OffsetsAreLow
offsets_are_low = (
  low_of names.R_RISCV_TPREL_HI20 tt kinds.Delete names.R_RISCV_NONE refl (no_label names.R_RISCV_TPREL_HI20 refl refl),
  low_of names.R_RISCV_TPREL_LO12_I tt kinds.BaseToTp names.R_RISCV_TPREL_LO12_I refl (no_label names.R_RISCV_TPREL_LO12_I refl refl),
  low_of names.R_RISCV_TPREL_LO12_S tt kinds.BaseToTp names.R_RISCV_TPREL_LO12_S refl (no_label names.R_RISCV_TPREL_LO12_S refl refl),
)

-- ---- no entry of the GOT is in reach

abbrev entry_row : RowInfo
entry_row = pair_row GotTpOff 32 UType

-- what is read as a signed number has 64 bits
bits_below : (n : ℕ) → cast_unsigned w64 (cast_signed w64 n) < 2 ^ 64
bits_below n = by (nat_lt n (2 ^ 63)) (ltb-true n (2 ^ 63))
  where
    by : (b : Bool) → (b ≡ true → n < 2 ^ 63)
        → cast_unsigned w64 (sel b (pos n) (negsuc (2 ^ 64 - suc n))) < 2 ^ 64
    by true small = let h = small refl in omega (arith, h)
    by false small = omega arith

-- half of all addresses away
far : (o : Operands) → o.got_entry ≡ far_entry o → cast_unsigned w64 o.addend < 2 ^ 64
    → Reaches entry_row (operands_before 0 o) → ⊥
far o is small reaches =
    let n = difference_64 (sum_64 (sum_64 o.got_entry (cast_unsigned w64 o.addend)) 0) (difference_64 o.place 0) in
    let half : n ≡ 2 ^ 63 = omega (arith, is, small) in
    let b = (subst (IsWithin (Some riscv_pair_bounds)) (cast_negative n (omega (arith, half)) (omega (arith, half))) reaches.within).0 in
    omega (arith, ints, half)

without_entry_is : (f : Option LinkFacts) (facts : LinkFacts) → without_entry f ≡ Some facts → (mine : LinkFacts) × (f ≡ Some mine)
    × (facts ≡ record mine { operands = record mine.operands { got_entry = far_entry mine.operands } })
without_entry_is None facts is = absurd (let e : None ≡ Some facts = is in cc)
without_entry_is (Some mine) facts is = (mine, refl, ap (λ f. unwrap_or f facts) (sym is))

-- Each entry is of another kind, or requires one.
abbrev EachReaches : RewriteKind → List RiscVEntry → Type 0
EachReaches kind [] = Unit {0}
EachReaches kind (e ∷ es) =
    ((kind ≡ e.kind → ⊥)
    ⊎ ((facts : LinkFacts) → AllHold riscv_row_of facts.operands facts e.conditions → HasAddresses facts
    → Reaches entry_row (operands_before 0 facts.operands)))
    × EachReaches kind es

reaches : (name : RiscVRelocation) (kind : RewriteKind) (section : List ℕ) (o : ℕ) (facts : LinkFacts)
    (chosen : Choice Relaxation ℕ) → chosen.kind ≡ relaxations.RiscV kind → HasAddresses facts → (es : List RiscVEntry)
    → EachReaches kind es
    → IsOfOneIn riscv_name relaxations.RiscV (AppliesToRiscV (HasPattern name) section o facts) es chosen
    → Reaches entry_row (operands_before 0 facts.operands)
reaches name kind section o facts chosen is known [] each nothing = absurd nothing
reaches name kind section o facts chosen is known (e ∷ es) each (inl this) =
    elim (each.0) [
      | inl isnt ↦ absurd (isnt (ap (kind_in kind) (sym is ∙ this.kind_is)))
      | inr requires_one ↦ requires_one facts (this.meant.1) known
    ]
reaches name kind section o facts chosen is known (e ∷ es) each (inr other) =
    reaches name kind section o facts chosen is known es (each.1) other

never : (name : RiscVRelocation) → IsNamed (riscv_name name) → (kind : RewriteKind) → EachReaches kind (riscv_entries name)
    → IsNotRewrittenBy name kind
never name named kind each l rewriting riscv i chosen subject below is_name decided is =
    let s = l.context in
    let r = relocation_in l.relocations i in
    let c = anyhow l rewriting i (RewrittenWithSymbol chosen subject) chosen below decided refl in
    let of = c.of_high subject refl in
    let high = relocation_in l.relocations of.high in
    let scope = subst (λ x. IsScopeIn x s.phase r.r_type Labelled) riscv of.scope_is in
    let late : s.phase ≢ phases.PreLayout =
    λ early. let e : Labelled ≡ NotRelaxable = scope.value_is ∙ ap (λ (p : Phase). riscv_scope_in p scope.name) early in cc in
    let marked = is_label_marked s.architecture s.phase l.relocations i r of.high in
    let own = without_entry_is (link_facts s high high marked) c.facts of.facts_are in
    let placed = by_symbol s.output s.addresses s.values high marked (own.0) s.phase (slice_get s.symbols high.symbol) (inr late) (own.1) in
    let known : c.facts.has_addresses ≡ true =
    ap (λ (f : LinkFacts). f.has_addresses) (own.2) ∙ ap (λ (f : LinkFacts). f.has_addresses) placed.are in
    let addend : c.facts.operands.addend ≡ high.addend =
    ap (λ (f : LinkFacts). f.operands.addend) (own.2) ∙ ap (λ (f : LinkFacts). f.operands.addend) placed.are in
    let entry_is : c.facts.operands.got_entry ≡ far_entry c.facts.operands =
    ap (λ (f : LinkFacts). f.operands.got_entry) (own.2)
    ∙ sym (ap (λ (f : LinkFacts). far_entry f.operands) (own.2)) in
    far c.facts.operands entry_is (subst (λ z. cast_unsigned w64 z < 2 ^ 64) (sym addend) (bits_below (from_le_bytes w64 (drop 16 (take 24 (drop (of.high * 24) l.relocations))))))
    (reaches name kind l.section r.offset c.facts chosen is known (riscv_entries name) each
    (of_table s.architecture riscv r.r_type l.section r.offset c.facts chosen c.is_choice c.changed name named is_name
    (AppliesToRiscV (HasPattern name) l.section r.offset c.facts) (λ e is. is)))

pub none_is_initial_exec : NoneIsInitialExec
none_is_initial_exec = (
  never names.R_RISCV_TLSDESC_ADD_LO12 tt kinds.AddiToAuipc
      (inl (λ e. cc), (inl (λ e. cc), (inl (λ e. cc), (inr (λ facts holds known. holds.1.0 known), tt)))),
  never names.R_RISCV_TLSDESC_CALL tt kinds.CallToLd
      (inl (λ e. cc), (inl (λ e. cc), (inr (λ facts holds known. holds.1.0 known), tt))),
)

-- ---- an instruction where values are written

-- what values are written with
record Output : Type 0 where
  pub architecture : Architecture
  pub riscv : architecture ≡ RiscV
  pub addresses : Addresses
  pub symbols : List Symbol
  pub relocations : List ℕ
  pub before : List ℕ
  pub after : List ℕ
  pub written : AreWritten architecture addresses relocations symbols before after
  pub bytes : AreBytes after

-- The instruction of the relocation at an index is at a place, as it was rewritten. Its relocation
-- has a name.
record IsIn (l : Linked) (o : Output) (name : RiscVRelocation) (n place : ℕ) : Type 0 where
  pub within : n < length o.relocations / 24
  pub r_type : (relocation_in o.relocations n).r_type ≡ r_type_of (riscv_name name)
  pub place_is : offset_at o.relocations n ≡ place
  pub same : instruction_at o.before place ≡ instruction_at l.rewritten (offset_of l n)
  pub inside : place + 4 ≤ length o.after
  pub rewritten_inside : offset_of l n + 4 ≤ length l.rewritten
  pub old_bytes : AreBytes (instruction_at l.rewritten (offset_of l n))

module _ (l : Linked) (o : Output) (name : RiscVRelocation) (n place : ℕ) (there : IsIn l o name n place)
    (a : IsAfter name) where
  row_is : IsRow o.architecture (relocation_in o.relocations n).r_type (Some a.row)
  row_is =
      row_in o.architecture o.addresses o.relocations o.symbols (relocation_in o.relocations n) a.row
      (subst (λ code. IsRowOf o.architecture code a.row) (sym there.r_type) (λ found is.
      by_name riscv_name (λ (n : RiscVRelocation). (riscv_relocation n).row) name a.named found
      (subst (λ x. IsRow x (r_type_of (riscv_name name)) found) o.riscv is) ∙ a.is))
      (o.written.can.found n) (o.written.can.are_found n there.within)

  -- the instruction has the value of operands
  has : (row : Option RowInfo) → row ≡ Some a.row → (mine y : Operands) → value_of a.row y ≡ value_of a.row mine
      → IsApplied a.row mine (instruction_at o.before (offset_at o.relocations n)) (instruction_at o.after (offset_at o.relocations n))
      → (code : ℕ → ℕ) (at : ℕ) → Stands 4 code at (instruction_at o.after place)
      → Has 4 code at row y (instruction_at l.rewritten (offset_of l n))
  has row is mine y same written code at stands =
      let before = instruction_at l.rewritten (offset_of l n) in
      let after = instruction_at o.after place in
      let there_is : IsApplied a.row mine before after = rw (← there.same, ← there.place_is) written in
      record {
        relocated = after;
        applied = record {
          applied = rw is (with_operands a.row mine y before after same there_is);
          len = long_there o.after place there.inside ∙ sym (long_there l.rewritten (offset_of l n) there.rewritten_inside);
          old_bytes = there.old_bytes;
          bytes = bytes_there o.after place o.bytes;
        };
        stands = stands;
      }

-- what the value of a relocation's own symbol is computed from
module _ (o : Output) (name : RiscVRelocation) (w : IsOwn name) (n : ℕ) (row : Option RowInfo) (y : Operands)
    (v : HasValue name row n y o.addresses o.symbols o.relocations) where
  abbrev mine : Operands
  mine = operands_with RiscV o.addresses w.after.row (v.0) (relocation_in o.relocations n) 0

  is_row : row ≡ Some w.after.row
  is_row = v.2 ∙ w.is_row

  same_value : value_of w.after.row y ≡ value_of w.after.row mine
  same_value =
      subst (λ q. IsSomeAnd q (λ row.
      value_of row y ≡ value_of row (operands_with RiscV o.addresses row (v.0) (relocation_in o.relocations n) 0))) is_row (v.3)

  taken : operands_of o.architecture o.addresses o.symbols w.after.row (relocation_in o.relocations n) ≡ Ok mine
  taken =
      rw o.riscv (ap (operands_in RiscV o.addresses w.after.row (relocation_in o.relocations n)) (v.1)
      ∙ w.no_entry o.addresses (relocation_in o.relocations n) (v.0))

own : (l : Linked) (o : Output) (name : RiscVRelocation) (w : IsOwn name) (n place : ℕ) → IsIn l o name n place
    → (row : Option RowInfo) (y : Operands) → HasValue name row n y o.addresses o.symbols o.relocations
    → (code : ℕ → ℕ) (at : ℕ) → Stands 4 code at (instruction_at o.after place)
    → Has 4 code at row y (instruction_at l.rewritten (offset_of l n))
own l o name w n place there row y v =
    let a = w.after in
    has l o name n place there a row (is_row o name w n row y v) (mine o name w n row y v) y (same_value o name w n row y v)
    (applied o.architecture o.addresses o.relocations o.symbols o.before o.after o.written n there.within 4 (omega arith)
    a.row w.of (row_is l o name n place there a) (mine o name w n row y v) (taken o name w n row y v))

-- ---- a low part of an address

abbrev pub own_high_part : IsOwn names.R_RISCV_PCREL_HI20
own_high_part =
    own_row names.R_RISCV_PCREL_HI20 (pair_row Relative 32 UType) refl tt (of_bits refl refl refl refl refl (λ o. tt)) refl (λ addresses r symbol. refl)

abbrev own_low_part : IsAfter names.R_RISCV_PCREL_LO12_I
own_low_part = record { row = pair_row RelativeRiscVLow12 32 IType; is = refl; named = tt }

-- It has the value of the high part that its symbol labels.
low : (l : Linked) (o : Output) (i j place place' : ℕ) → IsIn l o names.R_RISCV_PCREL_HI20 i place
    → IsIn l o names.R_RISCV_PCREL_LO12_I j place' → (y : Operands)
    → HasValue names.R_RISCV_PCREL_HI20 (riscv_row names.R_RISCV_PCREL_HI20) i y o.addresses o.symbols o.relocations
    → (label : Symbol) → slice_get o.symbols (relocation_in o.relocations j).symbol ≡ Some label
    → difference_64 label.address o.addresses.section ≡ (relocation_in o.relocations i).offset
    → (code : ℕ → ℕ) (at : ℕ) → Stands 4 code at (instruction_at o.after place')
    → Has 4 code at (riscv_row names.R_RISCV_PCREL_LO12_I) y (instruction_at l.rewritten (offset_of l j))
low l o i j place place' high there y v label is_label labels =
    let name = names.R_RISCV_PCREL_HI20 in
    let row = riscv_row name in
    let operands = mine o name own_high_part i row y v in
    let bits : BitRange = record { start = 0; end = 32 } in
    has l o names.R_RISCV_PCREL_LO12_I j place' there own_low_part (Some own_low_part.row) refl operands y
    (same_value o name own_high_part i row y v)
    (applied_found o.architecture o.addresses o.relocations o.symbols o.before o.after o.written
    j there.within 4 (omega arith) own_low_part.row bits (insns.RiscV IType) refl refl refl refl operands
    (low_found o.architecture o.addresses o.relocations o.symbols o.before o.written.can.apart
    i high.within own_high_part.after.row (row_is l o name i place high own_high_part.after) refl operands (taken o name own_high_part i row y v)
    (relocation_in o.relocations j) own_low_part.row (row_is l o names.R_RISCV_PCREL_LO12_I j place' there own_low_part) refl refl
    label is_label labels tt (o.written.can.found j) (o.written.can.are_found j there.within)))

-- ---- what a rewrite leaves

-- a relocation with a name, and the symbol and the addend of that at an index
pub record IsPart (l : Linked) (name : RiscVRelocation) (subject n : ℕ) : Type 0 where
  pub below : n < count l
  pub left : IsNamedAs l n name subject
  pub inside : offset_of l n + 4 ≤ length l.section
  pub bytes : IsLinked l → AreBytes (instruction_at l.rewritten (offset_of l n))

-- and what it makes of an instruction
pub record MadePart (l : Linked) (name : RiscVRelocation) (subject n : ℕ) (kind : RewriteKind) (before : List ℕ)
    : Type 0 where
  pub part : IsPart l name subject n
  pub made : instruction_at l.rewritten (offset_of l n) ≡ after_rewrite kind before 0
  pub long : length before ≡ 4

module _ (l : Linked) (rewriting : AreRewritten l) (kind : RewriteKind) (new : ℕ → ℕ)
    (rewrites : riscv_rewrite kind ≡ Some (rewrites_word new)) where
  -- by some decision
  made_part : (n : ℕ) (decision : Decision) (chosen : Choice Relaxation ℕ) (below : n < count l) → decision_at l.decisions n ≡ decision
      → chosen.kind ≡ relaxations.RiscV kind
      → (IsDone decision (offset_of l n) l.section l.rewritten → IsMade (relaxation_rewrite chosen.kind) (offset_of l n) l.section l.rewritten)
      → (name : RiscVRelocation) (subject : ℕ) → IsNamedAs l n name subject → offset_of l n + 4 ≤ length l.section
      → MadePart l name subject n kind (instruction_at l.section (offset_of l n))
  made_part n decision chosen below decided kind_is by name subject left inside =
      record {
        part = record {
          below = below;
          left = left;
          inside = inside;
          bytes = λ _. made_bytes l rewriting n below decision decided chosen kind kind_is new rewrites by;
        };
        made = becomes l rewriting n below decision decided chosen kind kind_is new rewrites by inside;
        long = long_there l.section (offset_of l n) inside;
      }

  pub part_alone : (i : ℕ) (chosen : Choice Relaxation ℕ) → i < count l → decision_at l.decisions i ≡ Rewritten chosen
      → chosen.kind ≡ relaxations.RiscV kind → (name : RiscVRelocation) → chosen.relocation ≡ r_type_of (riscv_name name)
      → offset_of l i + 4 ≤ length l.section → MadePart l name i i kind (instruction_at l.section (offset_of l i))
  part_alone i chosen below decided kind_is name r_type_is inside =
      made_part i (Rewritten chosen) chosen below decided kind_is (λ done. done) name i
      (rewritten_after l rewriting i chosen below kind name kind_is r_type_is
      (λ o. ap (λ q. offset_after q o) rewrites) (λ a. ap (λ q. addend_after q a) rewrites) decided) inside

  -- for the high part of its label
  pub part_of : (high distance : ℕ) (name : RiscVRelocation) (n : ℕ) (of : IsOfDescriptor l high name distance kind n)
      (after : RiscVRelocation) → Becomes after l.section (offset_of l n) of.chosen
      → MadePart l after high n kind (instruction_at l.section (offset_of l high + distance))
  part_of high distance name n of after one =
      subst (λ m. MadePart l after high n kind (instruction_at l.section m)) of.following
      (made_part n (RewrittenWithSymbol of.chosen of.subject) of.chosen of.below of.decided of.kind_is (λ done. done) after high
      (redirected_after l rewriting n of.chosen of.below kind after of.kind_is one.r_type_is
      (λ o. ap (λ q. offset_after q o) rewrites) (λ a. ap (λ q. addend_after q a) rewrites) of.subject of.decided
      ∙ ap (λ (s : Subject). rela (offset_of l n) (r_type_of (riscv_name after)) s.symbol s.addend)
      (of_subject l rewriting n of.chosen of.subject of.below of.decided high of.labels)) one.inside)

  -- by the entries of its name
  pub part_by : l.context.architecture ≡ RiscV → (high distance : ℕ) (name : RiscVRelocation) → IsNamed (riscv_name name)
      → (n : ℕ) → IsOfDescriptor l high name distance kind n → (after : RiscVRelocation)
      → EachBecomes name kind after (riscv_entries name)
      → MadePart l after high n kind (instruction_at l.section (offset_of l high + distance))
  part_by riscv high distance name named n of after each =
      part_of high distance name n of after
      (becomes_of l rewriting riscv n (RewrittenWithSymbol of.chosen of.subject) of.chosen of.below of.decided refl name named of.name_is
      after kind of.kind_is each)

-- ---- what new has

module _ (l : Linked) (riscv : l.context.architecture ≡ RiscV) where
  abbrev final_output : IsLinked l → Output
  final_output linked =
      record {
        architecture = l.context.architecture;
        riscv = riscv;
        addresses = l.addresses;
        symbols = l.symbols;
        relocations = l.relocations_last;
        before = l.last;
        after = l.final;
        written = linked.written;
        bytes = linked.final_bytes;
      }

  abbrev packed_output : (p : Packed) → IsRewrittenAndPacked l p → architecture_of p.machine ≡ RiscV → Output
  packed_output p joined machine =
      record {
        architecture = architecture_of p.machine;
        riscv = machine;
        addresses = p.addresses;
        symbols = p.symbols;
        relocations = p.relocations_after;
        before = p.packed;
        after = p.final;
        written = joined.packed.written;
        bytes = joined.packed.final_bytes;
      }

  module _ (name : RiscVRelocation) (subject n : ℕ) (part : IsPart l name subject n) where
    in_final : (linked : IsLinked l) → UntouchedInstruction l n → IsIn l (final_output linked) name n (offset_of l n)
    in_final linked left =
        let last : relocation_in l.relocations_last n ≡ named_as name (relocation_in l.relocations n) (relocation_in l.relocations subject) =
        relocation_left l linked n (offset_of l n) 4 left part.below ∙ part.left in
        let inside = part.inside in
        let sl = linked.same_length in
        record {
          within = last_within l linked n part.below;
          r_type = ap (λ (x : Rela). x.r_type) last;
          place_is = ap (λ (x : Rela). x.offset) last;
          same = bytes_left l linked n (offset_of l n) 4 left;
          inside = omega (arith, inside, sl, linked.written.same_length, last_length l linked);
          rewritten_inside = omega (arith, inside, sl);
          old_bytes = part.bytes linked;
        }

    in_packed : (p : Packed) (joined : IsRewrittenAndPacked l p) (machine : architecture_of p.machine ≡ RiscV) → IsKeptInstruction p n
        → UntouchedInstruction l n → IsIn l (packed_output p joined machine) name n (place_of p (offset_of l n))
    in_packed p joined machine kept left =
        let code = r_type_of (riscv_name name) in
        let r = relocation_in l.relocations subject in
        record {
          within = within l p joined n part.below code r.symbol r.addend part.left kept left;
          r_type = r_type_is l p joined n part.below code r.symbol r.addend part.left kept left;
          place_is = place_is l p joined n part.below code r.symbol r.addend part.left kept left;
          same = same_kept l p joined n part.below code r.symbol r.addend part.left kept left;
          inside = final_inside l p joined n part.below code r.symbol r.addend part.left kept left;
          rewritten_inside = rewritten_inside l p joined n part.below code r.symbol r.addend part.left kept left;
          old_bytes = subst AreBytes (later_bytes l joined.later n (offset_of l n) 4 left)
              (bytes_there l.last (offset_of l n) (subst AreBytes joined.bytes joined.packed.section_bytes));
        }

    pub has_own : (w : IsOwn name) (new : New l) (row : Option RowInfo) (y : Operands) (code : ℕ → ℕ) (at : ℕ)
        → HasOwn l new name row n y code at → Has 4 code at row y (instruction_at l.rewritten (offset_of l n))
    has_own w anywhere row y code at is = is
    has_own w (final linked) row y code at is =
        own l (final_output linked) name w n (offset_of l n) (in_final linked (is.0)) row y (is.1) code at (is.2)
    has_own w (packed p joined machine) row y code at is =
        own l (packed_output p joined machine) name w n (place_of p (offset_of l n)) (in_packed p joined machine (is.0) (is.1))
        row y (is.2) code at (is.3)

    pub has_named : (w : IsOwn name) (new : New l) (y : Operands) (code : ℕ → ℕ) (at : ℕ) (made : List ℕ)
        → instruction_at l.rewritten (offset_of l n) ≡ made → HasNamed l new name n y code at
        → Has 4 code at (riscv_row name) y made
    has_named w new y code at made is has =
        subst (Has 4 code at (riscv_row name) y) is (has_own w new (riscv_row name) y code at has)

  pub has_low : (i j : ℕ) → IsPart l names.R_RISCV_PCREL_HI20 i i → IsPart l names.R_RISCV_PCREL_LO12_I j j
      → (new : New l) (y : Operands) (code : ℕ → ℕ) (at at' : ℕ) → HasNamed l new names.R_RISCV_PCREL_HI20 i y code at
      → HasLow l new i j y code at'
      → Has 4 code at' (riscv_row names.R_RISCV_PCREL_LO12_I) y (instruction_at l.rewritten (offset_of l j))
  has_low i j high part anywhere y code at at' first second = second
  has_low i j high part (final linked) y code at at' first second =
      low l (final_output linked) i j (offset_of l i) (offset_of l j) (in_final names.R_RISCV_PCREL_HI20 i i high linked (first.0))
      (in_final names.R_RISCV_PCREL_LO12_I j j part linked (second.0)) y (first.1) (second.1.0) (second.1.1) (second.1.2)
      code at' (second.2)
  has_low i j high part (packed p joined machine) y code at at' first second =
      low l (packed_output p joined machine) i j (place_of p (offset_of l i)) (place_of p (offset_of l j))
      (in_packed names.R_RISCV_PCREL_HI20 i i high p joined machine (first.0) (first.1))
      (in_packed names.R_RISCV_PCREL_LO12_I j j part p joined machine (second.0) (second.1)) y (first.2)
      (second.2.0) (second.2.1) (second.2.2) code at' (second.3)

-- what the entries of a name show
shown : {Q : Type 0} (name : RiscVRelocation) (section : List ℕ) (o : ℕ) (chosen : Choice Relaxation ℕ)
    → IsOfSome name (riscv_entries name) section o chosen → Cases Q (λ e. IsOfEntry name e section o chosen) (riscv_entries name) → Q
shown name section o chosen =
    by_cases riscv_name relaxations.RiscV (λ e. HasPattern name e.kind section o) chosen (riscv_entries name)

-- ---- a pair

module _ (groups : Groups) (l : Linked) (rewriting : AreRewritten l) (riscv : l.context.architecture ≡ RiscV)
    (i j : ℕ) (of : AreOfPair l i j) (alone : IsRewrittenByNoOther l i (offset_of l i)) where
  high_entry : IsOfEntry names.R_RISCV_GOT_HI20 (entry kinds.NoOp names.R_RISCV_PCREL_HI20 (without_got [])) l.section (offset_of l i) of.first.chosen
  high_entry =
      shown names.R_RISCV_GOT_HI20 l.section (offset_of l i) of.first.chosen
      (of_some l rewriting riscv i (Rewritten of.first.chosen) of.first.chosen of.first.below of.first.decided refl names.R_RISCV_GOT_HI20 tt of.first.is_name) (
        λ this. absurd (let e : 0 ≡ 23 = sym this.r_type_is ∙ of.high_becomes in omega (arith, e)),
        (λ this. this, (λ this. absurd (let e : 26 ≡ 23 = sym this.r_type_is ∙ of.high_becomes in omega (arith, e)), tt)),
      )

  low_entry : IsOfEntry names.R_RISCV_PCREL_LO12_I (entry kinds.LdToAddi names.R_RISCV_PCREL_LO12_I (without_got (got_high_part ∷ []))) l.section (offset_of l j) of.second.chosen
  low_entry =
      shown names.R_RISCV_PCREL_LO12_I l.section (offset_of l j) of.second.chosen
      (of_some l rewriting riscv j (Rewritten of.second.chosen) of.second.chosen of.second.below of.second.decided refl names.R_RISCV_PCREL_LO12_I tt of.second.is_name) (
        λ this. absurd (let e : 27 ≡ 24 = sym this.r_type_is ∙ of.low_becomes in omega (arith, e)),
        (λ this. this, (λ this. absurd (let e : 27 ≡ 24 = sym this.r_type_is ∙ of.low_becomes in omega (arith, e)), tt)),
      )

  -- the `auipc` stays
  auipc_there : instruction_at l.rewritten (offset_of l i) ≡ instruction_at l.section (offset_of l i)
  auipc_there =
      stays l rewriting i of.first.chosen of.first.below of.first.decided (ap relaxation_rewrite high_entry.kind_is) alone

  pub high : IsPart l names.R_RISCV_PCREL_HI20 i i
  high =
      record {
        below = of.first.below;
        left = rewritten_after l rewriting i of.first.chosen of.first.below kinds.NoOp names.R_RISCV_PCREL_HI20
            high_entry.kind_is high_entry.r_type_is (λ p. refl) (λ a. refl) of.first.decided;
        inside = high_entry.meant.0;
        bytes = λ linked. subst AreBytes (sym auipc_there) (bytes_there l.section (offset_of l i) linked.section_bytes);
      }

  pub low_load : MadePart l names.R_RISCV_PCREL_LO12_I j j kinds.LdToAddi (instruction_at l.section (offset_of l j))
  low_load =
      part_alone l rewriting kinds.LdToAddi load_to_addi refl j of.second.chosen of.second.below of.second.decided
      low_entry.kind_is names.R_RISCV_PCREL_LO12_I low_entry.r_type_is (low_entry.meant.0)

  pub loads : (new : New l) → law l i (load j of alone) new
  loads new over c x y k kind s at load_is are new_small has =
      let auipc = instruction_at l.section (offset_of l i) in
      let ld = instruction_at l.section ((offset_of l i) + 4) in
      let is_auipc : IsAuipc (word_of auipc) = subst IsAuipc (word_same l.section (offset_of l i)) (high_entry.meant.1) in
      let is_ld : IsLd (word_of ld) =
      subst (λ n. IsLd (word_of (instruction_at l.section n))) of.next (subst IsLd (word_same l.section (offset_of l j)) (low_entry.meant.1)) in
      let together : IsLoadFromGot (word_of auipc) (word_of ld) =
      record { first = is_auipc; second = is_ld; base = over.0; not_zero = over.1 } in
      let long : length ld ≡ 4 = subst (λ n. length (instruction_at l.section n) ≡ 4) of.next low_load.long in
      let addi : instruction_at l.rewritten (offset_of l j) ≡ after_rewrite kinds.LdToAddi ld 0 =
      subst (λ n. instruction_at l.rewritten (offset_of l j) ≡ after_rewrite kinds.LdToAddi (instruction_at l.section n) 0) of.next low_load.made in
      groups.got auipc ld (omega (arith, long)) together c x y k kind s at load_is are new_small (
        has_named l riscv names.R_RISCV_PCREL_HI20 i i high own_high_part new y c.new y.place auipc auipc_there (has.0),
        subst (Has 4 c.new (sum_64 y.place 4) (riscv_row names.R_RISCV_PCREL_LO12_I) y) addi
            (has_low l riscv i j high low_load.part new y c.new y.place (sum_64 y.place 4) (has.0) (has.1)),
      )

-- ---- rows

abbrev pub low_i : IsOwn names.R_RISCV_TPREL_LO12_I
low_i =
    own_row names.R_RISCV_TPREL_LO12_I (pair_row TpOff 32 IType) refl tt (of_bits refl refl refl refl refl (λ o. tt)) refl (λ addresses r symbol. refl)

-- ---- one instruction

-- a relocation of low parts, which has one rewrite
pub record IsLow (name : RiscVRelocation) : Type 0 where
  pub own : IsOwn name
  pub entries : riscv_entries name ≡ (entry kinds.BaseToTp name by_low_offset ∷ [])
  pub adds : (section : List ℕ) (o : ℕ) → HasPattern name kinds.BaseToTp section o → riscv_matches kinds.BaseToTp section o

abbrev pub of_load : IsLow names.R_RISCV_TPREL_LO12_I
of_load = record { own = low_i; entries = refl; adds = λ section o pattern. pattern }

abbrev pub of_store : IsLow names.R_RISCV_TPREL_LO12_S
of_store =
    record {
      own = own_row names.R_RISCV_TPREL_LO12_S (pair_row TpOff 32 SType) refl tt (of_bits refl refl refl refl refl (λ o. tt)) refl (λ addresses r symbol. refl);
      entries = refl;
      adds = λ section o pattern. (pattern.0, pattern.1.0);
    }

module _ (groups : Groups) (name : RiscVRelocation) (low : IsLow name) (l : Linked) (rewriting : AreRewritten l)
    (riscv : l.context.architecture ≡ RiscV) (i : ℕ) (is : IsRewrittenOf l name i) where
  abbrev instruction : List ℕ
  instruction = instruction_at l.section (offset_of l i)

  adds_low : riscv_matches kinds.BaseToTp l.section (offset_of l i) × (is.chosen.kind ≡ relaxations.RiscV kinds.BaseToTp)
      × (is.chosen.relocation ≡ r_type_of (riscv_name name))
  adds_low =
      let by : IsOfEntry name (entry kinds.BaseToTp name by_low_offset) l.section (offset_of l i) is.chosen =
      of_riscv_entry l rewriting riscv i (Rewritten is.chosen) is.chosen is.below is.decided refl name low.own.after.named is.is_name
      (entry kinds.BaseToTp name by_low_offset) low.entries in
      (low.adds l.section (offset_of l i) by.meant, by.kind_is, by.r_type_is)

  pub low_part_is : MadePart l name i i kinds.BaseToTp instruction
  low_part_is =
      part_alone l rewriting kinds.BaseToTp (with_rs1 tp) refl i is.chosen is.below is.decided (adds_low.1) name (adds_low.2)
      (adds_low.0.0)

  pub low_parts : (new : New l) → IsSomeAnd (action_at l.section (offset_of l i)) (low_law name l i new)
  low_parts new =
      let long = low_part_is.long in
      let matches : riscv_matches kinds.BaseToTp instruction 0 =
      (omega (arith, long), subst (λ word. IsTrue (adds_low12 (opcode_of word) (funct3_of word))) (word_same l.section (offset_of l i)) (adds_low.0.1)) in
      subst (λ word. IsSomeAnd (action_of (opcode_of word) (funct3_of word)) (low_law name l i new)) (sym (word_same l.section (offset_of l i)))
      (mapped (λ action group c x y k k' s at one small base known old has keeps.
      group c x y k k' s at one small base known old
      (subst (Has 4 c.new y.place (offset_row action) y) low_part_is.made
      (has_own l riscv name i i low_part_is.part low.own new (offset_row action) y c.new y.place has)) keeps)
      (action_at instruction 0) (groups.low_offsets instruction matches))

-- ---- what is deleted

module _ (groups : Groups) (l : Linked) (rewritten : AreRewritten l) (riscv : l.context.architecture ≡ RiscV) (i : ℕ)
  where
    abbrev at : ℕ
    at = (relocation_in l.relocations i).offset

    -- an instruction of a name whose entry deletes it
    gone_by : (name : RiscVRelocation) → IsNamed (riscv_name name)
        → riscv_entries name ≡ (entry kinds.Delete names.R_RISCV_NONE by_low_offset ∷ []) → (P : ℕ → Type 0)
        → (HasPattern name kinds.Delete l.section at → HasWord l.section at P)
        → IsRewrittenOf l name i → IsDeleted l i × HasWord (instruction_at l.section at) 0 P
    gone_by name named entries P has of =
        let by = of_riscv_entry l rewritten riscv i (Rewritten of.chosen) of.chosen of.below of.decided refl name named of.is_name
        (entry kinds.Delete names.R_RISCV_NONE by_low_offset) entries in
        let pattern = has by.meant in
        let long = long_there l.section at pattern.0 in (
          ap deleted_of of.decided ∙ ap relaxation_deleted by.kind_is,
          (omega (arith, long), subst P (word_same l.section at) pattern.1),
        )

    pub high_part_goes : (of : IsRewrittenOf l names.R_RISCV_TPREL_HI20 i) → IsDeleted l i × ((new : New l) → law l i (high_part of) new)
    high_part_goes of =
        let gone = gone_by names.R_RISCV_TPREL_HI20 tt refl IsLui (λ pattern. pattern) of in
        (gone.0, λ new. groups.high_offsets (instruction_at l.section at) (gone.1.0, tt) gone.1.1)

    pub sum_goes : (of : IsRewrittenOf l names.R_RISCV_TPREL_ADD i) → IsDeleted l i × ((new : New l) → law l i (sum of) new)
    sum_goes of =
        let gone = gone_by names.R_RISCV_TPREL_ADD tt refl IsAddTp (λ pattern. pattern) of in
        (gone.0, λ new. groups.sums (instruction_at l.section at) gone.1.1)

-- ---- TLS descriptors that became those of local-exec

abbrev high_tp : IsOwn names.R_RISCV_TPREL_HI20
high_tp =
    own_row names.R_RISCV_TPREL_HI20 (pair_row TpOff 32 UType) refl tt (of_bits refl refl refl refl refl (λ o. tt)) refl (λ addresses r symbol. refl)

module _ (groups : Groups) (l : Linked) (rewriting : AreRewritten l) (riscv : l.context.architecture ≡ RiscV) (high : ℕ)
  where
    -- an instruction after the first
    abbrev follow : ℕ → List ℕ
    follow n = instruction_at l.section ((offset_of l high) + n)

    pub lui : (add : ℕ) → IsOfDescriptor l high names.R_RISCV_TLSDESC_ADD_LO12 8 kinds.AddiToLui add
        → MadePart l names.R_RISCV_TPREL_HI20 high add kinds.AddiToLui (instruction_at l.section ((offset_of l high) + 8))
    lui add of =
        part_by l rewriting kinds.AddiToLui (λ _. 0x537) refl riscv high 8 names.R_RISCV_TLSDESC_ADD_LO12 tt add of names.R_RISCV_TPREL_HI20
        (inl (λ e. cc), (inl (λ e. cc), (inr (refl, λ section p is. is.0), (inl (λ e. cc), tt))))

    pub addi : (call : ℕ) → IsOfDescriptor l high names.R_RISCV_TLSDESC_CALL 12 kinds.CallToAddi call
        → MadePart l names.R_RISCV_TPREL_LO12_I high call kinds.CallToAddi (instruction_at l.section ((offset_of l high) + 12))
    addi call of =
        part_by l rewriting kinds.CallToAddi (λ _. 0x50513) refl riscv high 12 names.R_RISCV_TLSDESC_CALL tt call of names.R_RISCV_TPREL_LO12_I
        (inl (λ e. cc), (inr (refl, λ section p is. is.0), (inl (λ e. cc), tt)))

    pub addi_alone : (call : ℕ) → IsOfDescriptor l high names.R_RISCV_TLSDESC_CALL 12 kinds.CallToAddiZero call
        → MadePart l names.R_RISCV_TPREL_LO12_I high call kinds.CallToAddiZero (instruction_at l.section ((offset_of l high) + 12))
    addi_alone call of =
        part_by l rewriting kinds.CallToAddiZero (λ _. 0x513) refl riscv high 12 names.R_RISCV_TLSDESC_CALL tt call of names.R_RISCV_TPREL_LO12_I
        (inr (refl, λ section p is. is.0), (inl (λ e. cc), (inl (λ e. cc), tt)))

    pub descriptors : (add call : ℕ) (of_add : IsOfDescriptor l high names.R_RISCV_TLSDESC_ADD_LO12 8 kinds.AddiToLui add)
        (of_call : IsOfDescriptor l high names.R_RISCV_TLSDESC_CALL 12 kinds.CallToAddi call) (new : New l)
        → law l high (descriptor add call of_add of_call) new
    descriptors add call of_add of_call new c n at x y k k' s s' d one addresses nops has =
        let first = lui add of_add in
        let second = addi call of_call in
        groups.descriptor_to_local_exec (object l high) (follow 4) (follow 8) (follow 12) first.long second.long
        c n at x y k k' s s' d one addresses nops (
          has_named l riscv names.R_RISCV_TPREL_HI20 high add first.part high_tp new y c.new at _ first.made (has.0),
          has_named l riscv names.R_RISCV_TPREL_LO12_I high call second.part low_i new y c.new (sum_64 at 4) _ second.made (has.1),
        )

    pub short_descriptors : (call : ℕ) (of : IsOfDescriptor l high names.R_RISCV_TLSDESC_CALL 12 kinds.CallToAddiZero call)
        (new : New l) → law l high (short_descriptor call of) new
    short_descriptors call of new c n at x y k k' s s' d one is_low nops has =
        let only = addi_alone call of in
        groups.descriptor_to_short_local_exec (object l high) (follow 4) (follow 8) (follow 12) only.long
        c n at x y k k' s s' d one is_low nops
        (has_named l riscv names.R_RISCV_TPREL_LO12_I high call only.part low_i new y c.new at _ only.made has)

-- ---- loads of fixed addresses from the GOT that became `lui` and `addi`, or `addi` alone

abbrev high_row : IsOwn names.R_RISCV_HI20
high_row =
    own_row names.R_RISCV_HI20 (pair_row Absolute 32 UType) refl tt (of_bits refl refl refl refl refl (λ o. tt)) refl (λ addresses r symbol. refl)

abbrev low_row : IsOwn names.R_RISCV_LO12_I
low_row =
    own_row names.R_RISCV_LO12_I (pair_row Absolute 32 IType) refl tt (of_bits refl refl refl refl refl (λ o. tt)) refl (λ addresses r symbol. refl)

-- ---- laws

module _ (groups : Groups) (l : Linked) (rewriting : AreRewritten l) (riscv : l.context.architecture ≡ RiscV)
    (high low : ℕ) where
  pub lui_address : IsLuiOfLoad l high → MadePart l names.R_RISCV_HI20 high high kinds.AuipcToLui (instruction_at l.section (offset_of l high))
  lui_address of =
      let one = becomes_of l rewriting riscv high (Rewritten of.chosen) of.chosen of.below of.decided refl names.R_RISCV_GOT_HI20 tt of.is_name
      names.R_RISCV_HI20 kinds.AuipcToLui of.kind_is (inl (λ e. cc), (inl (λ e. cc), (inr (refl, λ section p is. is.0), tt))) in
      part_alone l rewriting kinds.AuipcToLui (of_destination 0x37) refl high of.chosen of.below of.decided of.kind_is
      names.R_RISCV_HI20 one.r_type_is one.inside

  pub addi_address : IsAddiOfLoad l high low → MadePart l names.R_RISCV_LO12_I high low kinds.LdToAddi (instruction_at l.section ((offset_of l high) + 4))
  addi_address of =
      let is = of.rewritten in
      part_of l rewriting kinds.LdToAddi load_to_addi refl high 4 names.R_RISCV_PCREL_LO12_I low is names.R_RISCV_LO12_I (record {
        r_type_is = of.becomes;
        inside = shown names.R_RISCV_PCREL_LO12_I l.section (offset_of l low) is.chosen
            (of_some l rewriting riscv low (RewrittenWithSymbol is.chosen is.subject) is.chosen is.below is.decided refl names.R_RISCV_PCREL_LO12_I tt is.name_is)
            (λ this. this.meant.0, (λ this. this.meant.0, (λ this. this.meant.0, tt)));
      })

  pub addi_alone_address : IsOfDescriptor l high names.R_RISCV_PCREL_LO12_I 4 kinds.LdToAddiZero low
      → MadePart l names.R_RISCV_LO12_I high low kinds.LdToAddiZero (instruction_at l.section ((offset_of l high) + 4))
  addi_alone_address of =
      part_by l rewriting kinds.LdToAddiZero (of_destination 0x13) refl riscv high 4 names.R_RISCV_PCREL_LO12_I tt low of names.R_RISCV_LO12_I
      (inr (refl, λ section p is. is.0), (inl (λ e. cc), (inl (λ e. cc), tt)))

  pub fixed_addresses : (of_high : IsLuiOfLoad l high) (of_low : IsAddiOfLoad l high low) (new : New l)
      → law l high (fixed low of_high of_low) new
  fixed_addresses of_high of_low new is c x y k kind s before load_is are addresses has =
      let first = lui_address of_high in
      let second = addi_address of_low in
      let auipc_long = first.long in
      let ld_long = second.long in
      groups.got_to_fixed_address (object l high) (instruction_at l.section ((offset_of l high) + 4))
      (omega (arith, auipc_long)) (omega (arith, ld_long)) is c x y k kind s before load_is are addresses (
        has_named l riscv names.R_RISCV_HI20 high high first.part high_row new y c.new y.place _ first.made (has.0),
        has_named l riscv names.R_RISCV_LO12_I high low second.part low_row new y c.new (sum_64 y.place 4) _ second.made (has.1),
      )

  pub low_addresses : (gone : IsDeleted l high) (of : IsOfDescriptor l high names.R_RISCV_PCREL_LO12_I 4 kinds.LdToAddiZero low)
      (new : New l) → law l high (low_address low gone of) new
  low_addresses gone of new is c x y k kind s before load_is are is_low has =
      let only = addi_alone_address of in
      let long = only.long in
      groups.got_to_low_address (object l high) (instruction_at l.section ((offset_of l high) + 4)) (omega (arith, long)) is
      c x y k kind s before load_is are is_low
      (has_named l riscv names.R_RISCV_LO12_I high low only.part low_row new y c.new y.place _ only.made has)

-- ---- nops of TLS descriptors

in_new : (l : Linked) → AreRewritten l → l.context.architecture ≡ RiscV → (i : ℕ) → i < count l
    → (relocation_in l.relocations_after i).r_type ≡ 0
    → ((bytes : List ℕ) → bytes ≡ instruction_at l.rewritten (offset_of l i) → IsNop (instruction_at l.section (offset_of l i)) bytes)
    → (new : New l) → BecomesNop l new i
in_new l _ riscv i below gone nop anywhere = nop (instruction_at l.rewritten (offset_of l i)) refl
in_new l _ riscv i below gone nop (final linked) =
    λ left alone. nop (instruction_at l.final (offset_of l i))
    (unwritten_without l linked i below (offset_of l i) left
    (λ found there. by_name riscv_name (λ (n : RiscVRelocation). (riscv_relocation n).row) names.R_RISCV_NONE tt found (subst (λ x. IsRow x 0 found) riscv there))
    gone alone)
in_new l _ riscv i below gone nop (packed p joined machine) =
    λ left stay free. nop (final_instruction p (offset_of l i)) (unwritten_there l p joined i (offset_of l i) left stay free)

nops_of : (name : RiscVRelocation) → IsNamed (riscv_name name)
    → EachBecomes name kinds.ReplaceWithLongNop names.R_RISCV_NONE (riscv_entries name) → NopsOf name
nops_of name named each l rewriting riscv new i chosen subject below is_name decided kind_is =
    let o = offset_of l i in
    let decision = RewrittenWithSymbol chosen subject in
    let one = becomes_of l rewriting riscv i decision chosen below decided refl name named is_name
    names.R_RISCV_NONE kinds.ReplaceWithLongNop kind_is each in
    in_new l rewriting riscv i below
    (ap (λ (x : Rela). x.r_type)
    (redirected_after l rewriting i chosen below kinds.ReplaceWithLongNop names.R_RISCV_NONE kind_is one.r_type_is (λ o. refl) (λ a. refl) subject decided))
    (λ bytes same. (
      (omega (arith, long_there l.section o one.inside), tt),
      same ∙ becomes l rewriting i below decision decided chosen kinds.ReplaceWithLongNop kind_is (λ _. 0x13) refl (λ done. done) one.inside,
    ))
    new

pub nops : Nops
nops = (
  nops_of names.R_RISCV_TLSDESC_HI20 tt
      (inl (λ e. cc), (inr (refl, λ section o is. is.0), (inl (λ e. cc), (inr (refl, λ section o is. is.0), tt)))),
  nops_of names.R_RISCV_TLSDESC_LOAD_LO12 tt
      (inl (λ e. cc), (inr (refl, λ section o is. is.0), (inl (λ e. cc), (inr (refl, λ section o is. is.0), tt)))),
  nops_of names.R_RISCV_TLSDESC_ADD_LO12 tt
      (inl (λ e. cc), (inr (refl, λ section o is. is.0), (inl (λ e. cc), (inl (λ e. cc), tt)))),
)

-- ---- what stands at a place

abbrev skips : List RiscVEntry → Bool
skips = list_any (λ (e : RiscVEntry). is_some (riscv_skipped e.kind))

-- no entry of a name that a phase rewrites has the next relocation go
skips_none : (phase : Phase) (name : RiscVRelocation) → riscv_scope_in phase name ≢ NotRelaxable
    → IsNamed (riscv_name name) × (skips (riscv_entries name) ≡ false)
skips_none phases.TlsLocalExec names.R_RISCV_TPREL_HI20 scoped = (tt, refl)
skips_none phases.TlsLocalExec names.R_RISCV_TPREL_ADD scoped = (tt, refl)
skips_none phases.TlsLocalExec names.R_RISCV_TPREL_LO12_I scoped = (tt, refl)
skips_none phases.TlsLocalExec names.R_RISCV_TPREL_LO12_S scoped = (tt, refl)
skips_none phases.TlsLocalExec names.R_RISCV_TLSDESC_HI20 scoped = (tt, refl)
skips_none phases.TlsLocalExec names.R_RISCV_TLSDESC_LOAD_LO12 scoped = (tt, refl)
skips_none phases.TlsLocalExec names.R_RISCV_TLSDESC_ADD_LO12 scoped = (tt, refl)
skips_none phases.TlsLocalExec names.R_RISCV_TLSDESC_CALL scoped = (tt, refl)
skips_none phases.GotToPcRel names.R_RISCV_GOT_HI20 scoped = (tt, refl)
skips_none phases.GotToPcRel names.R_RISCV_PCREL_LO12_I scoped = (tt, refl)
skips_none phases.GotToPcRel names.R_RISCV_PCREL_LO12_S scoped = (tt, refl)
skips_none phase name scoped = absurd (scoped refl)

changes_of_entry : (name : RiscVRelocation) (section : List ℕ) (o : ℕ) (chosen : Choice Relaxation ℕ) (es : List RiscVEntry)
    → skips es ≡ false → IsOfSome name es section o chosen → is_some (relaxation_skipped chosen.kind) ≡ false
changes_of_entry name section o chosen [] none nothing = absurd nothing
changes_of_entry name section o chosen (e ∷ es) none (inl this) =
    ap (λ k. is_some (relaxation_skipped k)) this.kind_is ∙ (or_parts (is_some (riscv_skipped e.kind)) (skips es) none).0
changes_of_entry name section o chosen (e ∷ es) none (inr other) =
    changes_of_entry name section o chosen es (or_parts (is_some (riscv_skipped e.kind)) (skips es) none).1 other

module _ (l : Linked) (made : AreRewritten l) (riscv : l.context.architecture ≡ RiscV) (i : ℕ) (below : i < count l)
  where
    abbrev By : Scope → Type 0
    By scope =
        IsScopeDecision l.context l.kept l.relocations l.section i (relocation_in l.relocations i) scope (decision_at l.decisions i)

    record IsScoped : Type 0 where
      pub name : RiscVRelocation
      pub is_name : IsNameOf riscv_name (relocation_in l.relocations i).r_type name
      pub by : By (riscv_scope_in l.context.phase name)

    scoped : is_taken l.decisions i ≡ false → IsScoped
    scoped free =
        let alone = subst (λ t. IsDecidedAfter l.context l.kept l.relocations l.section i t (decision_at l.decisions i)) free (made.decided i below) in
        let scope = subst (λ x. IsScopeIn x l.context.phase (relocation_in l.relocations i).r_type (alone.0)) riscv (alone.1) in
        record { name = scope.name; is_name = scope.is_name; by = subst By scope.value_is (alone.2) }

    skipped_by : IsScoped → (d : Decision) (chosen : Choice Relaxation ℕ) → decision_at l.decisions i ≡ d
        → choice_of d ≡ Some chosen → is_some (relaxation_skipped chosen.kind) ≡ false
    skipped_by w d chosen is by =
        let stays : riscv_scope_in l.context.phase w.name ≢ NotRelaxable = λ none.
        let e : None ≡ Some chosen = sym (ap choice_of (subst By none w.by)) ∙ (ap choice_of is ∙ by) in cc in
        let all = skips_none l.context.phase w.name stays in
        changes_of_entry w.name l.section (offset_of l i) chosen (riscv_entries w.name) (all.1)
        (of_some l made riscv i d chosen below is by w.name (all.0) w.is_name)

    takes_none : IsScoped → (d : Decision) → decision_at l.decisions i ≡ d → takes_next d ≡ false
    takes_none w Kept is = refl
    takes_none w Consumed is = refl
    takes_none w (Rewritten chosen) is = skipped_by w (Rewritten chosen) chosen is refl
    takes_none w (RewrittenWithSymbol chosen subject) is =
        skipped_by w (RewrittenWithSymbol chosen subject) chosen is refl

    by_group : (stays : Bool) → IsGroupDecision l.context l.relocations l.section i (relocation_in l.relocations i) stays (decision_at l.decisions i)
        → decision_at l.decisions i ≢ Kept → (chosen : Choice Relaxation ℕ) × (decision_at l.decisions i ≡ Rewritten chosen)
    by_group true is changed = absurd (changed is)
    by_group false is changed = (is.0, is.2)

    by_scope : (scope : Scope) → By scope → decision_at l.decisions i ≢ Kept → Changes scope (decision_at l.decisions i)
    by_scope NotRelaxable is changed = absurd (changed is)
    by_scope (Grouped group) is changed = by_group (group_stays l.kept group (relocation_in l.relocations i).symbol) is changed
    by_scope scope is changed = changed

untaken : (l : Linked) → AreRewritten l → l.context.architecture ≡ RiscV → (i : ℕ) → i < count l
    → is_taken l.decisions i ≡ false
untaken l made riscv zero below = refl
untaken l made riscv (suc i) below =
    let before : i < count l = omega (arith, below) in
    takes_none l made riscv i before (scoped l made riscv i before (untaken l made riscv i before)) (decision_at l.decisions i) refl

pub are_in : AreIn rewriting
are_in l made riscv b =
    beside_or l b (λ i below changed from less.
    let w = scoped l made riscv i below (untaken l made riscv i below) in
    record {
      g = record {
        i = i;
        below = below;
        name = w.name;
        is_name = w.is_name;
        changes = by_scope l made riscv i below (riscv_scope_in l.context.phase w.name) w.by changed;
      };
      first = from;
      last = less;
    })

-- ---- laws

module _ (groups : Groups) (l : Linked) (made : AreRewritten l) (riscv : l.context.architecture ≡ RiscV) where
  -- what a rewrite leaves, and its law
  lawful : (i : ℕ) (g : Lawful l i) → Leaves l i g × ((new : New l) → law l i g new)
  lawful i (load j of alone) =
      (((high groups l made riscv i j of alone).left, (low_load groups l made riscv i j of alone).part.left), loads groups l made riscv i j of alone)
  lawful i (fixed j high low) = (
    ((lui_address groups l made riscv i j high).part.left, (addi_address groups l made riscv i j low).part.left),
    fixed_addresses groups l made riscv i j high low,
  )
  lawful i (low_address j high low) =
      ((addi_alone_address groups l made riscv i j low).part.left, low_addresses groups l made riscv i j high low)
  lawful i (descriptor add call of_add of_call) = (
    ((lui groups l made riscv i add of_add).part.left, (addi groups l made riscv i call of_call).part.left),
    descriptors groups l made riscv i add call of_add of_call,
  )
  lawful i (short_descriptor call of) =
      ((addi_alone groups l made riscv i call of).part.left, short_descriptors groups l made riscv i call of)
  lawful i (low_part of) = (
    (low_part_is groups names.R_RISCV_TPREL_LO12_I of_load l made riscv i of).part.left,
    low_parts groups names.R_RISCV_TPREL_LO12_I of_load l made riscv i of,
  )
  lawful i (low_store of) = (
    (low_part_is groups names.R_RISCV_TPREL_LO12_S of_store l made riscv i of).part.left,
    low_parts groups names.R_RISCV_TPREL_LO12_S of_store l made riscv i of,
  )
  lawful i (high_part of) = high_part_goes groups l made riscv i of
  lawful i (sum of) = sum_goes groups l made riscv i of

pub relocations_are_left : Groups → RelocationsAreLeft
relocations_are_left groups l made riscv i g = (lawful groups l made riscv i g).0

pub rewrites_are_groups : Groups → RewritesAreGroups rewriting
rewrites_are_groups groups x c called l is k s g n k' s' begins =
    begins.by_law
    ((lawful groups l (is_linked rewriting x called l is) (called.architecture l is) g.i begins.lawful).1 begins.new)
