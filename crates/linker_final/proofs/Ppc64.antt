-- PowerPC64: each rewrite of a section is of words that are rewritten together, and these are
-- groups.
use Rattle.linker_final.proofs.Imports.{All-drop, All-take, AreBytes, AreRewritten, Bool, Choice, Consumed, Decision, Entry as GotEntry, GotTpOff, GotTpOffGotBase, IsArchitectureChoice, IsDecidedAfter, IsDone, IsLinked, IsMade, IsNameOf, IsNamed, IsOfApplied, IsOfEntry as IsOfEntryIn, IsOfOne as IsOfOneIn, IsOutside, IsRewrittenByNoOther, IsRow, IsScopeDecision, IsScopeIn, IsSomeAnd, IsTrue, IsWrittenByNoOther, Kept, Labelled, LinkFacts, Linked, List, None, NotRelaxable, Ok, Operands, Phase, Ppc64, Rela, Relative, RelaxContext, Relaxation, Rewrite, RewritesAreGroups, Rewritten, RewrittenWithSymbol, RowInfo, Scope, Some, SymRelGotBase, Symbol, ThreadOffset, TpOff, UnrelaxableGroups, UntouchedByOthers, UntouchedBytes, [], addend_after, and_parts, ap, arith, byte_at, bytes_row, cases_lt, changed_toc, choice, chosen_at, count, decision_at, drop, drop-drop, entry, entry_address, entry_of, eqb, false, from_le_bytes, get_or, inl, inr, instruction_at, is_labelled, is_taken, is_there, le_bytes_4, length, length-drop, not, of_first, offset_after, offset_of, operands_by, operands_with, ppc64_none, ppc64_scope_in, r_type_of, refl, relaxation_no_op, relaxation_rewrite, relocation_in, replaces, signed_row, slice_get, subst, sum_64, sym, take, take-take, to_le_bytes, true, two_at, value_of, w32, window_of_rewrite, word_below, word_of, word_of_front, ℕ, ◌&&◌, ◌*◌, ◌+◌, ◌-◌, ◌<◌, ◌^◌, ◌∙◌, ◌∷◌, ◌≡◌, ◌≤◌, ◌⊎◌}
use Rattle.linker_final.specs.Ppc64Section.{AreLeftAlone, HasApplied, NamesAreLeft, RewrittenAgain, kind_at, kind_by, kind_of, shape, IsMade as IsMadeThere, entry_by, rewriting, span}
use Rattle.linker_elf.specs.Choices.{Entry}
use Rattle.linker_elf.specs.Ppc64Relocations.{branch_row, high_adjusted_row, low_ds_row, low_row, ppc64_name, ppc64_row, prefixed_row}
use Rattle.linker_elf.specs.declared.elf.RelocationKind.TheVariants.{None as NoValue}
use Rattle.linker_elf.specs.declared.ppc64.forms.Ppc64Form.TheVariants.{Branch24}
use Rattle.linker_elf.specs.declared.ppc64.relocations.Ppc64Relocation.{Ppc64Relocation}
use Rattle.linker_final.proofs.SectionRuns.{AreIn, IsIn, each_or, is_linked, without_label}
use Rattle.linker_final.proofs.Written.{IsOfInstruction, IsRowOf, apart_with, applied_after, by_name, entry_is_there, first_same, left_within, made_there, mapped, of_bits, outside_of, rela, rela_at, relocation_is, relocation_left, second_same, small_byte, spared, stays, unwritten_but, unwritten_without, window_byte, window_length, word_same}
use Rattle.linker_laws.specs.Ppc64Groups.{AreGroup, Code, Groups, Has, IsPrefixed, Law, Left, Sort, Stands, applied, law, law_of, name_of, none, of_call, to_second, IsRelocated, IsRewritten}
use Rattle.linker_utils.specs.Ppc64Rewrites.{Conditions, HasTest, HasTwo, Ppc64Applies, addis_of_thread, by_displacement, by_word_displacement, called_to_initial_exec, called_to_local_exec, called_to_module, direct, is_add_of_thread, is_addi, is_addis_of_toc, is_addis_over, is_call, is_indexed, is_indexed_any, is_indexed_word, is_ld, is_pla, is_pld, nop, over_base, paddi, paddi_of_thread, pld, ppc64_entries, ppc64_matches, ppc64_rewrite, registers_of, restores_toc, rewrites_call, rewrites_marked, rewrites_word, rt_of, to_distance, to_initial_exec, to_local_exec, to_local_exec_words, to_module, to_move, to_near_initial_exec, to_prefixed_initial_exec, to_prefixed_local_exec, to_toc_distance, two_words, without_high_offset, without_high_part}
use Rattle.linker_utils.specs.declared.ppc64.rewrites.RewriteKind.{RewriteKind}
use Rattle.linker_elf.specs.declared.ppc64.relocations.Ppc64Relocation.TheVariants as names
use Rattle.linker_rewriting.specs.declared.phases.Phase.TheVariants as phases
use Rattle.linker_utils.specs.declared.ppc64.rewrites.RewriteKind.TheVariants as kinds
use Rattle.linker_utils.specs.declared.architecture.Relaxation.TheVariants as relaxations
use Rattle.linker_laws.specs.Ppc64Groups as groups

-- a scope in a phase that decides so
module _ (s : RelaxContext) (kept : List UnrelaxableGroups) (bytes section : List ℕ) (n : ℕ) (decision : Decision)
    (chosen : Choice Relaxation ℕ) (by : decision ≡ Rewritten chosen) where
  listed : (scope : Scope) → IsScopeDecision s kept bytes section n (relocation_in bytes n) scope decision
      → scope ≡ NotRelaxable → ⊥
  listed scope is unlisted =
      let same : decision ≡ Kept = subst (λ x. IsScopeDecision s kept bytes section n (relocation_in bytes n) x decision) unlisted is in
      let e : Rewritten chosen ≡ Kept = sym by ∙ same in cc

  of_scope : (taken : Bool) → IsDecidedAfter s kept bytes section n taken decision
      → (scope : Scope) × IsScopeIn s.architecture s.phase (relocation_in bytes n).r_type scope × (scope ≡ NotRelaxable → ⊥)
  of_scope true is = absurd (let e : Rewritten chosen ≡ Consumed = sym by ∙ is in cc)
  of_scope false is = (is.0, is.1, listed (is.0) (is.2))

-- the name has one in the phase that rewrites it
pub rewritten_again : RewrittenAgain
rewritten_again l rewriting ppc64 g named unlisted =
    let there = of_scope l.context l.kept l.relocations l.section g.i (decision_at l.decisions g.i) g.chosen g.decided (is_taken l.decisions g.i) (rewriting.decided g.i g.below) in
    let is = subst (λ x. IsScopeIn x l.context.phase (relocation_in l.relocations g.i).r_type (there.0)) ppc64 (there.1) in
    there.2 (is.value_is ∙ (ap (ppc64_scope_in l.context.phase) (is.is_name.named g.name named g.is_name.r_type_is) ∙ unlisted))

-- in no phase has a name one
in_none : (name : Ppc64Relocation) → ppc64_scope_in phases.PreLayout name ≡ NotRelaxable
    → ppc64_scope_in phases.TlsLocalExec name ≡ NotRelaxable → ppc64_scope_in phases.ShortPcRel name ≡ NotRelaxable
    → (phase : Phase) → ppc64_scope_in phase name ≡ NotRelaxable
in_none name early offsets distances phases.PreLayout = early
in_none name early offsets distances phases.TlsLocalExec = offsets
in_none name early offsets distances phases.GotToPcRel = refl
in_none name early offsets distances phases.ShortPcRel = distances

-- ---- scopes

-- PowerPC64 has no labels
pub unlabelled : (phase : Phase) (code : ℕ) (scope : Scope) → IsScopeIn Ppc64 phase code scope
    → scope ≡ Labelled → ⊥
unlabelled phase code scope is labelled =
    let e : true ≡ false = sym (ap is_labelled labelled) ∙ (ap is_labelled is.value_is ∙ ppc64_none phase is.name) in cc

-- ---- the entry

abbrev pub IsOfEntry : Entry RewriteKind Ppc64Relocation → List ℕ → ℕ → Choice Relaxation ℕ → Type 0
IsOfEntry e section o =
    IsOfEntryIn ppc64_name relaxations.Ppc64 (λ (e : Entry RewriteKind Ppc64Relocation). ppc64_matches e.kind section o) e

abbrev pub IsOfOne : List (Entry RewriteKind Ppc64Relocation) → List ℕ → ℕ → Choice Relaxation ℕ → Type 0
IsOfOne es section o =
    IsOfOneIn ppc64_name relaxations.Ppc64 (λ (e : Entry RewriteKind Ppc64Relocation). ppc64_matches e.kind section o) es

-- of the relocation at an index
pub record HasEntry (l : Linked) (i : ℕ) (chosen : Choice Relaxation ℕ) : Type 0 where
  pub name : Ppc64Relocation
  pub is_name : IsNameOf ppc64_name (relocation_in l.relocations i).r_type name
  pub of : IsOfOne (ppc64_entries name) l.section (relocation_in l.relocations i).offset chosen

module _ (section : List ℕ) (o : ℕ) (facts : LinkFacts) (chosen : Choice Relaxation ℕ)
    (named : Choice RewriteKind Ppc64Relocation) (kind_is : chosen.kind ≡ relaxations.Ppc64 named.kind)
    (r_type_is : chosen.relocation ≡ r_type_of (ppc64_name named.relocation)) where
  of_applied : (es : List (Entry RewriteKind Ppc64Relocation)) → IsOfApplied (Ppc64Applies section o facts) es named
      → IsOfOne es section o chosen
  of_applied [] nothing = absurd nothing
  of_applied (e ∷ es) (inl this) =
      inl (record {
        kind_is = kind_is ∙ ap (λ (q : Choice RewriteKind Ppc64Relocation). relaxations.Ppc64 q.kind) (this.1);
        r_type_is = r_type_is ∙ ap (λ (q : Choice RewriteKind Ppc64Relocation). r_type_of (ppc64_name q.relocation)) (this.1);
        meant = this.0.0;
      })
  of_applied (e ∷ es) (inr other) = inr (of_applied es other)

pub has_entry : (l : Linked) → IsLinked l → l.context.architecture ≡ Ppc64 → (i : ℕ) (chosen : Choice Relaxation ℕ)
    → i < count l → decision_at l.decisions i ≡ Rewritten chosen → HasEntry l i chosen
has_entry l linked ppc64 i chosen below decided =
    let r = relocation_in l.relocations i in
    let c = chosen_at l.context l.kept l.relocations l.section l.decisions (count l) i chosen linked.decided below decided
    (λ scope is. unlabelled l.context.phase r.r_type scope (subst (λ x. IsScopeIn x l.context.phase r.r_type scope) ppc64 is)) in
    let h = subst (λ x. IsArchitectureChoice x r.r_type l.section r.offset c.facts chosen) ppc64 c.is_choice in
    record {
      name = h.name;
      is_name = h.is_name;
      of = of_applied l.section r.offset c.facts chosen h.named h.kind_is h.r_type_is (ppc64_entries h.name)
          (of_first (Ppc64Applies l.section r.offset c.facts) (ppc64_entries h.name) (choice kinds.NoOp h.name) h.named
          (λ e. c.changed (
            subst relaxation_no_op (sym (h.kind_is ∙ ap (λ (q : Choice RewriteKind Ppc64Relocation). relaxations.Ppc64 q.kind) e)) refl,
            h.r_type_is ∙ (ap (λ (q : Choice RewriteKind Ppc64Relocation). r_type_of (ppc64_name q.relocation)) e ∙ h.is_name.r_type_is),
          ))
          h.is_choice);
    }

-- ---- relocations that rewrites leave

-- of an instruction of n bytes
pub record IsAfter (n : ℕ) (name : Ppc64Relocation) : Type 0 where
  pub row : RowInfo
  pub is : ppc64_row name ≡ Some row
  pub named : IsNamed (ppc64_name name)
  pub of : IsOfInstruction n row

pub row_of : (l : Linked) → l.context.architecture ≡ Ppc64 → (name : Ppc64Relocation)
    → IsNamed (ppc64_name name) → (row : RowInfo) → ppc64_row name ≡ Some row
    → IsRowOf l.context.architecture (r_type_of (ppc64_name name)) row
row_of l ppc64 name named row is found there =
    by_name ppc64_name ppc64_row name named found
    (subst (λ x. IsRow x (r_type_of (ppc64_name name)) found) ppc64 there) ∙ is

-- where the instruction begins whose second byte is at the relocation
abbrev pub marked_offset : Linked → ℕ → ℕ
marked_offset l i = offset_of l i - 1

-- ---- what a call of rewriting leaves

module _ (l : Linked) (rewriting : AreRewritten l) (i : ℕ) (chosen : Choice Relaxation ℕ)
    (below : i < count l) (decided : decision_at l.decisions i ≡ Rewritten chosen)
    (kind : RewriteKind) (kind_is : chosen.kind ≡ relaxations.Ppc64 kind) where
  abbrev after : Ppc64Relocation → Rela
  after name =
      rela (offset_after (ppc64_rewrite kind) (rela_at l i).offset) (r_type_of (ppc64_name name)) (rela_at l i).symbol
      (addend_after (ppc64_rewrite kind) (rela_at l i).addend)

  pub after_is : (name : Ppc64Relocation) → chosen.relocation ≡ r_type_of (ppc64_name name)
      → relocation_in l.relocations_after i ≡ after name
  after_is name r_type_is =
      relocation_is l rewriting i chosen below decided (ppc64_rewrite kind) (r_type_of (ppc64_name name))
      (ap relaxation_rewrite kind_is) r_type_is

  pub made_after : (name : Ppc64Relocation) → chosen.relocation ≡ r_type_of (ppc64_name name)
      → (made : Rewrite) → ppc64_rewrite kind ≡ Some made
      → relocation_in l.relocations_after i
      ≡ rela (made.offset (rela_at l i).offset) (r_type_of (ppc64_name name)) (rela_at l i).symbol (made.addend (rela_at l i).addend)
  made_after name r_type_is made is = rw is at (after_is name r_type_is)

  -- what becomes of the window of a rewrite
  pub becomes : (made : Rewrite) → ppc64_rewrite kind ≡ Some made → made.back ≡ 0
      → IsRewritten kind (take made.len (drop (rela_at l i).offset l.section)) (take made.len (drop (rela_at l i).offset l.rewritten))
  becomes made is back =
      rw is (made_there l rewriting i chosen below decided made (ap relaxation_rewrite kind_is ∙ is) back)

  -- of the instruction whose second byte is at the relocation
  pub becomes_marked : (new : ℕ → ℕ) → ppc64_rewrite kind ≡ Some (rewrites_marked new)
      → IsRewritten kind (instruction_at l.section (marked_offset l i)) (instruction_at l.rewritten (marked_offset l i))
  becomes_marked new is =
      let o = (rela_at l i).offset in
      let made = rewrites_marked new in
      let done : IsMade (relaxation_rewrite chosen.kind) o l.section l.rewritten =
      subst (λ d. IsDone d o l.section l.rewritten) decided (rewriting.done i below) in
      let there : IsMade (Some made) o l.section l.rewritten =
      subst (λ q. IsMade q o l.section l.rewritten) (ap relaxation_rewrite kind_is ∙ is) done in
      rw is (take-take 4 4 (drop (o - 1) l.rewritten) (omega arith)
      ∙ (there ∙ ap made.bytes (sym (take-take 4 4 (drop (o - 1) l.section) (omega arith)))))

-- what is in the instruction at an offset
pub test_at : (l : Linked) (p : ℕ) (test : ℕ → _) → HasTest test l.section p
    → IsTrue (test (word_of (instruction_at l.section p)))
test_at l p test is = subst (λ w. IsTrue (test w)) (word_same l.section p) (is.1)

-- ---- what a call that writes values does then

module _ (l : Linked) (linked : IsLinked l) (ppc64 : l.context.architecture ≡ Ppc64) (i : ℕ)
    (below : i < count l) where
  abbrev became : Rela
  became = relocation_in l.relocations_after i

  row_there : (n : ℕ) (name : Ppc64Relocation) (a : IsAfter n name) → became.r_type ≡ r_type_of (ppc64_name name)
      → IsRowOf l.context.architecture became.r_type a.row
  row_there n name a code =
      subst (λ x. IsRowOf l.context.architecture x a.row) (sym code) (row_of l ppc64 name a.named a.row a.is)

  -- the relocation that a rewrite left is applied to n bytes
  pub applied_there : (n : ℕ) → 0 < n → (name : Ppc64Relocation) (a : IsAfter n name) → became.r_type ≡ r_type_of (ppc64_name name)
      → UntouchedBytes l i became.offset n → (symbol : Symbol) → slice_get l.symbols became.symbol ≡ Some symbol → (got : ℕ)
      → operands_by Ppc64 l.addresses a.row became symbol
      (entry_address l.addresses symbol (entry_of a.row became.addend symbol.is_thread_local))
      ≡ Ok (operands_with Ppc64 l.addresses a.row symbol became got) → (o : Operands)
      → value_of a.row o ≡ value_of a.row (operands_with Ppc64 l.addresses a.row symbol became got)
      → IsRelocated name o (take n (drop became.offset l.rewritten)) (take n (drop became.offset l.final))
  applied_there n some name a code left symbol is_symbol got entry_is o same =
      applied_after l linked i below n some a.row a.of became refl left (row_there n name a code) symbol is_symbol got Ppc64 ppc64 entry_is
      o same (ppc64_row name) a.is

  -- the entry of its formula is there
  pub entry_there : (n : ℕ) (name : Ppc64Relocation) (a : IsAfter n name) → became.r_type ≡ r_type_of (ppc64_name name)
      → UntouchedBytes l i became.offset n → (symbol : Symbol) → slice_get l.symbols became.symbol ≡ Some symbol
      → (entry : GotEntry) → entry_of a.row became.addend symbol.is_thread_local ≡ Some entry
      → is_there l.addresses symbol entry ≡ true
  entry_there n name a code left symbol is_symbol entry is_entry =
      entry_is_there l linked i below a.row a.of.valued a.of.unlabelled became (relocation_left l linked i became.offset n left below)
      (row_there n name a code) symbol is_symbol entry is_entry

  -- an instruction is left that no other relocation writes, beside that of the own one
  pub left_beside : (name : Ppc64Relocation) (a : IsAfter 4 name) → became.r_type ≡ r_type_of (ppc64_name name)
      → (p : ℕ) → UntouchedBytes l i p 4
      → (p + 4 ≤ became.offset) ⊎ (became.offset + 4 ≤ p)
      → IsWrittenByNoOther l i p → instruction_at l.final p ≡ instruction_at l.rewritten p
  left_beside name a code p left beside alone =
      unwritten_but l linked i p left
      (apart_with l i became (relocation_left l linked i p 4 left below) a.row (row_there 4 name a code) 4 a.of p beside) alone

-- ---- rows

abbrev after_of : (n : ℕ) (name : Ppc64Relocation) (row : RowInfo) → ppc64_row name ≡ Some row
    → IsNamed (ppc64_name name) → IsOfInstruction n row → IsAfter n name
after_of n name row is named of = record { row = row; is = is; named = named; of = of }

-- ---- what the final bytes have

-- Where later phases leave it and n bytes alone, a relocation of a name that a rewrite left is
-- applied to them. A GOT entry is where a function of its symbol and of any address says.
abbrev pub Writes : ℕ → (Symbol → ℕ → ℕ) → Ppc64Relocation → Type 0
Writes n entry name =
    (l : Linked) → IsLinked l → l.context.architecture ≡ Ppc64 → (i : ℕ) → i < count l
    → let r = relocation_in l.relocations_after i in
    r.r_type ≡ r_type_of (ppc64_name name) → UntouchedBytes l i r.offset n
    → IsSomeAnd (ppc64_row name) (λ row. (symbol : Symbol) (any : ℕ)
    → slice_get l.symbols r.symbol ≡ Some symbol
    → IsRelocated name (operands_with Ppc64 l.addresses row symbol r (entry symbol any))
    (take n (drop r.offset l.rewritten)) (take n (drop r.offset l.final)))

-- of a relocation without an entry
written : (n : ℕ) → 0 < n → (name : Ppc64Relocation) (row : RowInfo) → ppc64_row name ≡ Some row
    → IsNamed (ppc64_name name) → IsOfInstruction n row
    → ((l : Linked) (r : Rela) (symbol : Symbol)
    → operands_by Ppc64 l.addresses row r symbol (entry_address l.addresses symbol (entry_of row r.addend symbol.is_thread_local))
    ≡ Ok (operands_with Ppc64 l.addresses row symbol r 0))
    → ((l : Linked) (r : Rela) (symbol : Symbol) (any : ℕ)
    → value_of row (operands_with Ppc64 l.addresses row symbol r any)
    ≡ value_of row (operands_with Ppc64 l.addresses row symbol r 0))
    → Writes n (λ symbol any. any) name
written n some name row is named of none_is same l linked ppc64 i below code left =
    let r = relocation_in l.relocations_after i in
    subst (λ q. IsSomeAnd q (λ row. (symbol : Symbol) (any : ℕ) → slice_get l.symbols r.symbol ≡ Some symbol
    → IsRelocated name (operands_with Ppc64 l.addresses row symbol r any)
    (take n (drop r.offset l.rewritten)) (take n (drop r.offset l.final)))) (sym is)
    (λ symbol any is_symbol.
    applied_there l linked ppc64 i below n some name (after_of n name row is named of) code left symbol is_symbol 0 (none_is l r symbol)
    (operands_with Ppc64 l.addresses row symbol r any) (same l r symbol any))

-- and of one with that of an offset
written_by_entry : (n : ℕ) → 0 < n → (name : Ppc64Relocation) (row : RowInfo) → ppc64_row name ≡ Some row
    → IsNamed (ppc64_name name) → IsOfInstruction n row
    → ((r : Rela) (symbol : Symbol) → entry_of row r.addend symbol.is_thread_local
    ≡ Some (record { class = ThreadOffset; addend = r.addend }))
    → Writes n (λ symbol any. symbol.thread_entry) name
written_by_entry n some name row is named of has l linked ppc64 i below code left =
    let r = relocation_in l.relocations_after i in
    subst (λ q. IsSomeAnd q (λ row. (symbol : Symbol) (any : ℕ) → slice_get l.symbols r.symbol ≡ Some symbol
    → IsRelocated name (operands_with Ppc64 l.addresses row symbol r symbol.thread_entry)
    (take n (drop r.offset l.rewritten)) (take n (drop r.offset l.final)))) (sym is)
    (λ symbol any is_symbol.
    applied_there l linked ppc64 i below n some name (after_of n name row is named of) code left symbol is_symbol symbol.thread_entry
    (rw (
      has r symbol,
      entry_there l linked ppc64 i below n name (after_of n name row is named of) code left symbol is_symbol
          (record { class = ThreadOffset; addend = r.addend }) (has r symbol),
    ))
    (operands_with Ppc64 l.addresses row symbol r symbol.thread_entry) refl)

-- each relocation that a rewrite leaves, of one instruction or of a prefixed one
record EachWrites : Type 0 where
  pub toc : Writes 4 (λ symbol any. any) names.R_PPC64_TOC16
  pub toc_words : Writes 4 (λ symbol any. any) names.R_PPC64_TOC16_DS
  pub toc_high : Writes 4 (λ symbol any. any) names.R_PPC64_TOC16_HA
  pub toc_low : Writes 4 (λ symbol any. any) names.R_PPC64_TOC16_LO
  pub distance : Writes 8 (λ symbol any. any) names.R_PPC64_PCREL34
  pub thread : Writes 4 (λ symbol any. any) names.R_PPC64_TPREL16
  pub thread_words : Writes 4 (λ symbol any. any) names.R_PPC64_TPREL16_DS
  pub thread_high : Writes 4 (λ symbol any. any) names.R_PPC64_TPREL16_HA
  pub thread_low : Writes 4 (λ symbol any. any) names.R_PPC64_TPREL16_LO
  pub thread_low_words : Writes 4 (λ symbol any. any) names.R_PPC64_TPREL16_LO_DS
  pub thread_prefixed : Writes 8 (λ symbol any. any) names.R_PPC64_TPREL34
  pub entry_high : Writes 4 (λ symbol any. symbol.thread_entry) names.R_PPC64_GOT_TPREL16_HA
  pub entry_low : Writes 4 (λ symbol any. symbol.thread_entry) names.R_PPC64_GOT_TPREL16_LO_DS
  pub near_entry : Writes 4 (λ symbol any. symbol.thread_entry) names.R_PPC64_GOT_TPREL16_DS
  pub entry_prefixed : Writes 8 (λ symbol any. symbol.thread_entry) names.R_PPC64_GOT_TPREL_PCREL34

writes : EachWrites
writes =
    record {
      toc = written 4 (omega arith) names.R_PPC64_TOC16 (signed_row 16 (low_row SymRelGotBase)) refl tt (of_bits refl refl refl refl refl (λ o. tt)) (λ l r s. refl) (λ l r s any. refl);
      toc_words = written 4 (omega arith) names.R_PPC64_TOC16_DS (signed_row 16 (low_ds_row SymRelGotBase)) refl tt (of_bits refl refl refl refl refl (λ o. tt)) (λ l r s. refl) (λ l r s any. refl);
      toc_high = written 4 (omega arith) names.R_PPC64_TOC16_HA (high_adjusted_row SymRelGotBase) refl tt (of_bits refl refl refl refl refl (λ o. tt)) (λ l r s. refl) (λ l r s any. refl);
      toc_low = written 4 (omega arith) names.R_PPC64_TOC16_LO (low_row SymRelGotBase) refl tt (of_bits refl refl refl refl refl (λ o. tt)) (λ l r s. refl) (λ l r s any. refl);
      distance = written 8 (omega arith) names.R_PPC64_PCREL34 (prefixed_row Relative) refl tt (of_bits refl refl refl refl refl (λ o. tt)) (λ l r s. refl) (λ l r s any. refl);
      thread = written 4 (omega arith) names.R_PPC64_TPREL16 (signed_row 16 (low_row TpOff)) refl tt (of_bits refl refl refl refl refl (λ o. tt)) (λ l r s. refl) (λ l r s any. refl);
      thread_words = written 4 (omega arith) names.R_PPC64_TPREL16_DS (signed_row 16 (low_ds_row TpOff)) refl tt (of_bits refl refl refl refl refl (λ o. tt)) (λ l r s. refl) (λ l r s any. refl);
      thread_high = written 4 (omega arith) names.R_PPC64_TPREL16_HA (high_adjusted_row TpOff) refl tt (of_bits refl refl refl refl refl (λ o. tt)) (λ l r s. refl) (λ l r s any. refl);
      thread_low = written 4 (omega arith) names.R_PPC64_TPREL16_LO (low_row TpOff) refl tt (of_bits refl refl refl refl refl (λ o. tt)) (λ l r s. refl) (λ l r s any. refl);
      thread_low_words = written 4 (omega arith) names.R_PPC64_TPREL16_LO_DS (low_ds_row TpOff) refl tt (of_bits refl refl refl refl refl (λ o. tt)) (λ l r s. refl) (λ l r s any. refl);
      thread_prefixed = written 8 (omega arith) names.R_PPC64_TPREL34 (prefixed_row TpOff) refl tt (of_bits refl refl refl refl refl (λ o. tt)) (λ l r s. refl) (λ l r s any. refl);
      entry_high = written_by_entry 4 (omega arith) names.R_PPC64_GOT_TPREL16_HA (high_adjusted_row GotTpOffGotBase) refl tt (of_bits refl refl refl refl refl (λ o. tt)) (λ r s. refl);
      entry_low = written_by_entry 4 (omega arith) names.R_PPC64_GOT_TPREL16_LO_DS (low_ds_row GotTpOffGotBase) refl tt (of_bits refl refl refl refl refl (λ o. tt)) (λ r s. refl);
      near_entry = written_by_entry 4 (omega arith) names.R_PPC64_GOT_TPREL16_DS (signed_row 16 (low_ds_row GotTpOffGotBase)) refl tt (of_bits refl refl refl refl refl (λ o. tt)) (λ r s. refl);
      entry_prefixed = written_by_entry 8 (omega arith) names.R_PPC64_GOT_TPREL_PCREL34 (prefixed_row GotTpOff) refl tt (of_bits refl refl refl refl refl (λ o. tt)) (λ r s. refl);
    }

-- ---- the bytes of the call

first_bytes : (a : ℕ) → a < 2 ^ 32 → take 4 (two_words a 0xe8410018) ≡ to_le_bytes w32 a
first_bytes a small =
    let n = a + 0xe8410018 * 2 ^ 32 in
    let e0 : byte_at 0 n ≡ byte_at 0 a = omega (arith, small) in
    let e1 : byte_at 1 n ≡ byte_at 1 a = omega (arith, small) in
    let e2 : byte_at 2 n ≡ byte_at 2 a = omega (arith, small) in
    let e3 : byte_at 3 n ≡ byte_at 3 a = omega (arith, small) in
    rw (e0, e1, e2, e3)

-- the `bl` stays
pub call_stays : (before left_after : List ℕ) (o : ℕ) → AreBytes before → o + 4 ≤ length before
    → take 8 (two_at left_after o) ≡ restores_toc (take 8 (two_at before o))
    → instruction_at left_after o ≡ instruction_at before o
call_stays before left_after o small inside made =
    let there = All-take (λ b. b < 2 ^ 8) 4 (drop o before) (All-drop (λ b. b < 2 ^ 8) o before small) in
    let long : length (instruction_at before o) ≡ 4 = window_length o 4 before inside in
    let a = word_of (take 8 (two_at before o)) in
    let same : a ≡ word_of (instruction_at before o) =
    ap word_of (take-take 8 8 (drop o before) (omega arith)) ∙ first_same before o in
    let below : word_of (instruction_at before o) < 2 ^ 32 = word_below (instruction_at before o) there (omega (arith, long)) in
    cc (
      take-take 4 8 (drop o left_after) (omega arith),
      take-take 8 8 (drop o left_after) (omega arith),
      first_bytes a (omega (arith, same, below)),
      le_bytes_4 (instruction_at before o) a long (small_byte (instruction_at before o) there) same,
    )

-- ---- words that stand

one_stands : (code : ℕ → ℕ) (at : ℕ) (xs ys : List ℕ) → take 4 xs ≡ take 4 ys → Stands 1 code at xs → Stands 1 code at ys
one_stands code at xs ys same is =
    (is.0 ∙ (sym (word_of_front xs) ∙ (ap (from_le_bytes w32) same ∙ word_of_front ys)), is.1)

two_stand : (code : ℕ → ℕ) (at : ℕ) (xs ys : List ℕ) → take 4 xs ≡ take 4 ys → take 4 (drop 4 xs) ≡ take 4 (drop 4 ys)
    → Stands 2 code at xs → Stands 2 code at ys
two_stand code at xs ys first second is =
    (is.0 ∙ (sym (word_of_front xs) ∙ (ap (from_le_bytes w32) first ∙ word_of_front ys)), one_stands code (sum_64 at 4) (drop 4 xs) (drop 4 ys) second is.1)

-- the second of two in bytes
second_in : (bytes : List ℕ) (o : ℕ) → take 4 (drop 4 (two_at bytes o)) ≡ instruction_at bytes (o + 4)
second_in bytes o = ap (take 4) (second_same bytes o) ∙ take-take 4 4 (drop (o + 4) bytes) (omega arith)

-- ---- what a rewrite leaves

-- n words from an offset on, where the final bytes stand in new and are left alone
abbrev pub Final : Linked → ℕ → ℕ → ℕ → Left → Type 0
Final l i at n left =
    AreLeftAlone left l i at (4 * n) → (c : Code) (pc : ℕ) → Stands n c.new pc (drop at l.final)
    → (symbol : Symbol) (any : ℕ) → slice_get l.symbols (relocation_in l.relocations_after i).symbol ≡ Some symbol
    → IsMadeThere left l i symbol any c n pc (take (4 * n) (drop at l.rewritten))

pub record IsLawful (l : Linked) (i : ℕ) (chosen : Choice Relaxation ℕ) (name : Ppc64Relocation) (kind : RewriteKind)
    (at n : ℕ) (law : Law) : Type 0 where
  pub kind_is : chosen.kind ≡ relaxations.Ppc64 kind
  pub r_type_is : chosen.relocation ≡ r_type_of (ppc64_name (name_of law.left))
  pub group : IsRewrittenByNoOther l i at
      → law.IsGroup name (name_of law.left) (take (4 * n) (drop at l.section)) (take (4 * n) (drop at l.rewritten))
  pub final : Final l i at n law.left
  -- a byte outside stays, or no rewrite has it
  pub others : (b : ℕ) → (b < at) ⊎ (at + 4 * n ≤ b)
      → IsOutside l.relocations l.decisions i b ⊎ (get_or l.rewritten b 0 ≡ get_or l.section b 0)

abbrev pub Lawful : Linked → ℕ → Choice Relaxation ℕ → Ppc64Relocation → Type 0
Lawful l i chosen name =
    (kind : RewriteKind)
    × IsLawful l i chosen name kind (shape kind (offset_of l i)).0 (shape kind (offset_of l i)).1 (law_of name kind)

only : {A : Type 0} → A ⊎ ⊥ → A
only (inl this) = this
only (inr nothing) = absurd nothing

module _ (l : Linked) (linked : IsLinked l) (ppc64 : l.context.architecture ≡ Ppc64) (i : ℕ)
    (chosen : Choice Relaxation ℕ) (below : i < count l) (decided : decision_at l.decisions i ≡ Rewritten chosen) where
  abbrev left_after : Rela
  left_after = relocation_in l.relocations_after i

  -- n words at an offset, from what is known of the relocation that is left
  record After (n : ℕ) : Type 0 where
    pub left : Left
    pub final : (at : ℕ) → left_after.offset ≡ at
        → left_after.r_type ≡ r_type_of (ppc64_name (name_of left)) → Final l i at n left

  unwritten : (start len p : ℕ) → start ≤ p → p + 4 ≤ start + len → UntouchedByOthers l i start len
      → IsWrittenByNoOther l i p
  unwritten start len p low high alone j at lj isnt from less row field =
      (alone.others j at lj isnt (omega (arith, low, from)) (omega (arith, high, less))).1 row field

  -- without a relocation
  left_word : (start len p : ℕ) → start ≤ p → p + 4 ≤ start + len → left_after.r_type ≡ 0
      → UntouchedByOthers l i start len → instruction_at l.final p ≡ instruction_at l.rewritten p
  left_word start len p low high gone alone =
      unwritten_without l linked i below p (left_within l i start len p 4 low high alone.left)
      (row_of l ppc64 names.R_PPC64_NONE tt (bytes_row NoValue 0) refl) gone (unwritten start len p low high alone)

  one_left : (at : ℕ) → left_after.r_type ≡ 0 → Final l i at 1 none
  one_left at gone alone c pc stands symbol any is_symbol =
      one_stands c.new pc (drop at l.final) (instruction_at l.rewritten at)
      (left_word at 4 at (omega arith) (omega arith) gone alone
      ∙ sym (take-take 4 4 (drop at l.rewritten) (omega arith))) stands

  two_left : (at : ℕ) → left_after.r_type ≡ 0 → Final l i at 2 none
  two_left at gone alone c pc stands symbol any is_symbol =
      two_stand c.new pc (drop at l.final) (two_at l.rewritten at)
      (left_word at 8 at (omega arith) (omega arith) gone alone
      ∙ sym (take-take 4 8 (drop at l.rewritten) (omega arith)))
      (ap (take 4) (drop-drop 4 at l.final)
      ∙ (left_word at 8 (at + 4) (omega arith) (omega arith) gone alone
      ∙ sym (second_in l.rewritten at))) stands

  -- with one of a name, to m bytes
  applied_left : (n m : ℕ) (name : Ppc64Relocation) → Writes m (entry_by name) name → (at : ℕ) → left_after.offset ≡ at
      → left_after.r_type ≡ r_type_of (ppc64_name name) → UntouchedBytes l i at m → (c : Code) (pc : ℕ)
      → Stands n c.new pc (take m (drop at l.final)) → (symbol : Symbol) (any : ℕ)
      → slice_get l.symbols left_after.symbol ≡ Some symbol
      → IsSomeAnd (ppc64_row name) (λ row. Has n c.new pc name (operands_with Ppc64 l.addresses row symbol left_after (entry_by name symbol any)) (take m (drop at l.rewritten)))
  applied_left n m name writes at offset code left c pc stands symbol any is_symbol =
      mapped (λ row has.
      record {
        relocated = take m (drop at l.final);
        applied = rw (← offset) (has symbol any is_symbol);
        stands = stands;
      })
      (ppc64_row name) (writes l linked ppc64 i below code (rw offset left))

  abbrev gone : After 1
  gone = record { left = none; final = λ at offset code. one_left at code }

  abbrev named : (name : Ppc64Relocation) → Writes 4 (entry_by name) name → After 1
  named name writes =
      record {
        left = applied name;
        final = λ at offset code alone c pc stands. applied_left 1 4 name writes at offset code alone c pc
            (one_stands c.new pc (drop at l.final) (instruction_at l.final at) (sym (take-take 4 4 (drop at l.final) (omega arith))) stands);
      }

  abbrev both_named : (name : Ppc64Relocation) → Writes 8 (entry_by name) name → After 2
  both_named name writes =
      record {
        left = applied name;
        final = λ at offset code alone c pc stands. applied_left 2 8 name writes at offset code alone c pc
            (two_stand c.new pc (drop at l.final) (two_at l.final at) (sym (take-take 4 8 (drop at l.final) (omega arith)))
            (ap (take 4) (drop-drop 4 at l.final) ∙ sym (second_in l.final at)) stands);
      }

  -- ---- bytes that it leaves

  -- no byte outside is of the rewrite
  others_at : (kind : RewriteKind) → chosen.kind ≡ relaxations.Ppc64 kind → (made : Rewrite) → ppc64_rewrite kind ≡ Some made
      → made.back ≡ 0 → (b : ℕ) → (b < (offset_of l i)) ⊎ ((offset_of l i) + made.len ≤ b) → IsOutside l.relocations l.decisions i b
  others_at kind kind_is made is back b apart =
      outside_of l i chosen (Some made) decided (ap relaxation_rewrite kind_is ∙ is) b (elim apart [
        | inl before ↦ inl (omega (arith, before, back))
        | inr past ↦ inr (omega (arith, past, back))
      ])

  -- ---- one rewrite

  -- the group of a row
  abbrev Of : Ppc64Relocation → RewriteKind → AreGroup
  Of name kind = (law_of name kind).IsGroup

  -- of n words, where the rewrite begins at the relocation
  replaced : (name : Ppc64Relocation) (kind : RewriteKind) (sort : Sort) (n : ℕ) (left : Left) (conditions : Conditions)
      (made : Rewrite) → ppc64_rewrite kind ≡ Some made → made.back ≡ 0 → made.len ≡ 4 * n
      → (left_after.offset ≡ made.offset (offset_of l i) → left_after.r_type ≡ r_type_of (ppc64_name (name_of left))
      → Final l i (offset_of l i) n left)
      → (ppc64_matches kind l.section (offset_of l i)
      → IsRewritten kind (take (4 * n) (drop (offset_of l i) l.section)) (take (4 * n) (drop (offset_of l i) l.rewritten))
      → Of name kind name (name_of left) (take (4 * n) (drop (offset_of l i) l.section)) (take (4 * n) (drop (offset_of l i) l.rewritten)))
      → IsOfEntry (entry kind (name_of left) conditions) l.section (offset_of l i) chosen
      → IsLawful l i chosen name kind (offset_of l i) n (law sort left (Of name kind))
  replaced name kind sort n left conditions made is back len final group by =
      let after = made_after l linked.made i chosen below decided kind by.kind_is (name_of left) by.r_type_is made is in
      record {
        kind_is = by.kind_is;
        r_type_is = by.r_type_is;
        group = λ alone. group by.meant
            (subst (λ m. IsRewritten kind (take m (drop (offset_of l i) l.section)) (take m (drop (offset_of l i) l.rewritten))) len
            (becomes l linked.made i chosen below decided kind by.kind_is made is back));
        final = final (ap (λ (r : Rela). r.offset) after) (ap (λ (r : Rela). r.r_type) after);
        others = λ b apart. inl (others_at kind by.kind_is made is back b
            (subst (λ m. (b < offset_of l i) ⊎ (offset_of l i + m ≤ b)) (sym len) apart));
      }

  -- of a word of a sort
  of_sort : (name : Ppc64Relocation) (kind : RewriteKind) (a : After 1) (conditions : Conditions) (test : ℕ → Bool)
      → groups.Holds (groups.word test) kind (Of name kind name (name_of a.left))
      → (new : ℕ → ℕ) → ppc64_rewrite kind ≡ Some (rewrites_word new)
      → (ppc64_matches kind l.section (offset_of l i) → HasTest test l.section (offset_of l i))
      → IsOfEntry (entry kind (name_of a.left) conditions) l.section (offset_of l i) chosen
      → IsLawful l i chosen name kind (offset_of l i) 1 (law (groups.word test) a.left (Of name kind))
  of_sort name kind a conditions test so new is meant =
      replaced name kind (groups.word test) 1 a.left conditions (rewrites_word new) is refl refl (a.final (offset_of l i))
      (λ m made. so (instruction_at l.section (offset_of l i)) (instruction_at l.rewritten (offset_of l i))
      (test_at l (offset_of l i) test (meant m)) made)

  -- of any
  of_any : (name : Ppc64Relocation) (kind : RewriteKind) (a : After 1) (conditions : Conditions)
      → groups.Holds groups.any kind (Of name kind name (name_of a.left))
      → (new : ℕ → ℕ) → ppc64_rewrite kind ≡ Some (rewrites_word new)
      → IsOfEntry (entry kind (name_of a.left) conditions) l.section (offset_of l i) chosen
      → IsLawful l i chosen name kind (offset_of l i) 1 (law groups.any a.left (Of name kind))
  of_any name kind a conditions so new is =
      replaced name kind groups.any 1 a.left conditions (rewrites_word new) is refl refl (a.final (offset_of l i))
      (λ m made. so (instruction_at l.section (offset_of l i)) (instruction_at l.rewritten (offset_of l i)) made)

  load : (name : Ppc64Relocation)
      → groups.Holds (groups.word is_ld) kinds.LdToAddisThread (Of name kinds.LdToAddisThread name names.R_PPC64_TPREL16_HA)
      → IsOfEntry (entry kinds.LdToAddisThread names.R_PPC64_TPREL16_HA to_local_exec) l.section (offset_of l i) chosen
      → IsLawful l i chosen name kinds.LdToAddisThread (offset_of l i) 1
      (law (groups.word is_ld) (applied names.R_PPC64_TPREL16_HA) (Of name kinds.LdToAddisThread))
  load name so =
      let w = word_of (instruction_at l.section (offset_of l i)) in
      replaced name kinds.LdToAddisThread (groups.word is_ld) 1 (applied names.R_PPC64_TPREL16_HA) to_local_exec
      (rewrites_word (λ word. addis_of_thread (rt_of word))) refl refl refl
      ((named names.R_PPC64_TPREL16_HA writes.thread_high).final (offset_of l i))
      (λ m made. so (instruction_at l.section (offset_of l i)) (instruction_at l.rewritten (offset_of l i))
      (and_parts (is_ld w) (not (eqb (rt_of w) 0)) (test_at l (offset_of l i) (λ word. is_ld word && not (eqb (rt_of word) 0)) m)).0 made)

  kept : (name : Ppc64Relocation) (a : After 1) (conditions : Conditions)
      → groups.Holds groups.kept kinds.KeepAddis (Of name kinds.KeepAddis name (name_of a.left))
      → IsOfEntry (entry kinds.KeepAddis (name_of a.left) conditions) l.section (offset_of l i) chosen
      → IsLawful l i chosen name kinds.KeepAddis (offset_of l i) 1 (law groups.kept a.left (Of name kinds.KeepAddis))
  kept name a conditions so by =
      let before = instruction_at l.section (offset_of l i) in
      let left = after_is l linked.made i chosen below decided kinds.KeepAddis by.kind_is (name_of a.left) by.r_type_is in
      let none_is : relaxation_rewrite chosen.kind ≡ None = ap relaxation_rewrite by.kind_is in
      record {
        kind_is = by.kind_is;
        r_type_is = by.r_type_is;
        group = λ alone. subst (Of name kinds.KeepAddis name (name_of a.left) before) (sym (stays l linked.made i chosen below decided none_is alone))
            (so before (test_at l (offset_of l i) is_addis_of_toc by.meant) refl);
        final = a.final (offset_of l i) (ap (λ (r : Rela). r.offset) left) (ap (λ (r : Rela). r.r_type) left);
        others = λ b apart. inl (spared l i (Rewritten chosen) decided (ap window_of_rewrite none_is) b);
      }

  -- two words
  both : (test : ℕ → ℕ → Bool) → HasTwo test l.section (offset_of l i) → IsPrefixed test (two_at l.section (offset_of l i))
  both test meant =
      let p = (offset_of l i) in
      let first : word_of (two_at l.section p) ≡ word_of (drop p l.section) =
      first_same l.section p ∙ sym (word_same l.section p) in
      let second : word_of (drop 4 (two_at l.section p)) ≡ word_of (drop (p + 4) l.section) =
      ap word_of (second_same l.section p) ∙ sym (word_same l.section (p + 4)) in
      let d1 = length-drop p l.section in
      let d2 = length-drop (p + 4) l.section in
      let small1 : word_of (drop p l.section) < 2 ^ 32 =
      word_below (drop p l.section) (All-drop (λ b. b < 2 ^ 8) p l.section linked.section_bytes) (omega (arith, meant.0, d1)) in
      let small2 : word_of (drop (p + 4) l.section) < 2 ^ 32 =
      word_below (drop (p + 4) l.section) (All-drop (λ b. b < 2 ^ 8) (p + 4) l.section linked.section_bytes) (omega (arith, meant.1.0, d2)) in
      record {
        prefix_below = omega (arith, first, small1);
        word_below = omega (arith, second, small2);
        is = rw (first, second) (meant.1.1);
      }

  -- of 8 bytes, by the rewrite of these
  of_two : (name : Ppc64Relocation) (kind : RewriteKind) (a : After 2) (conditions : Conditions) (test : ℕ → ℕ → Bool)
      → groups.Holds (groups.both test) kind (Of name kind name (name_of a.left))
      → (bytes : List ℕ → List ℕ) → ppc64_rewrite kind ≡ Some (replaces 0 8 bytes)
      → (ppc64_matches kind l.section (offset_of l i) → HasTwo test l.section (offset_of l i))
      → IsOfEntry (entry kind (name_of a.left) conditions) l.section (offset_of l i) chosen
      → IsLawful l i chosen name kind (offset_of l i) 2 (law (groups.both test) a.left (Of name kind))
  of_two name kind a conditions test so bytes is meant =
      replaced name kind (groups.both test) 2 a.left conditions (replaces 0 8 bytes) is refl refl (a.final (offset_of l i))
      (λ m made. so (two_at l.section (offset_of l i)) (two_at l.rewritten (offset_of l i)) (both test (meant m)) made)

  -- of a call and what follows it
  call : (name : Ppc64Relocation) (kind : RewriteKind) (left : Left) (conditions : Conditions)
      → groups.Holds groups.any kind (Of name kind name (name_of left)) → (new : ℕ) → ppc64_rewrite kind ≡ Some (rewrites_call new)
      → (left_after.offset ≡ (offset_of l i) + 4 → left_after.r_type ≡ r_type_of (ppc64_name (name_of left)) → Final l i (offset_of l i) 2 left)
      → IsOfEntry (entry kind (name_of left) conditions) l.section (offset_of l i) chosen
      → IsLawful l i chosen name kind (offset_of l i) 2 (law groups.any left (Of name kind))
  call name kind left conditions so new is final =
      replaced name kind groups.any 2 left conditions (rewrites_call new) is refl refl final
      (λ m made. so (two_at l.section (offset_of l i)) (two_at l.rewritten (offset_of l i)) made)

  -- the low half in its second word
  low_half : left_after.offset ≡ (offset_of l i) + 4 → left_after.r_type ≡ r_type_of (ppc64_name names.R_PPC64_TPREL16_LO)
      → Final l i (offset_of l i) 2 (to_second names.R_PPC64_TPREL16_LO)
  low_half offset code alone c pc stands symbol any is_symbol = (
    one_stands c.new pc (drop (offset_of l i) l.final) (two_at l.rewritten (offset_of l i))
        (left_beside l linked ppc64 i below names.R_PPC64_TPREL16_LO
        (after_of 4 names.R_PPC64_TPREL16_LO (low_row TpOff) refl tt (of_bits refl refl refl refl refl (λ o. tt))) code (offset_of l i)
        (left_within l i (offset_of l i) 8 (offset_of l i) 4 (omega arith) (omega arith) alone.left) (inl (omega (arith, offset)))
        (unwritten (offset_of l i) 8 (offset_of l i) (omega arith) (omega arith) alone)
        ∙ sym (take-take 4 8 (drop (offset_of l i) l.rewritten) (omega arith))) (stands.0, tt),
    subst (λ words. HasApplied names.R_PPC64_TPREL16_LO l i symbol any c 1 (sum_64 pc 4) words) (sym (second_same l.rewritten (offset_of l i)))
        (applied_left 1 4 names.R_PPC64_TPREL16_LO writes.thread_low ((offset_of l i) + 4) offset code
        (left_within l i (offset_of l i) 8 ((offset_of l i) + 4) 4 (omega arith) (omega arith) alone.left) c (sum_64 pc 4)
        (one_stands c.new (sum_64 pc 4) (drop 4 (drop (offset_of l i) l.final)) (instruction_at l.final ((offset_of l i) + 4))
        (ap (take 4) (drop-drop 4 (offset_of l i) l.final) ∙ sym (take-take 4 4 (drop ((offset_of l i) + 4) l.final) (omega arith))) (stands.1))
        symbol any is_symbol),
  )

  -- of an instruction that begins before its mark
  marked : (name : Ppc64Relocation) (kind : RewriteKind) (test : ℕ → Bool)
      → groups.Holds (groups.word test) kind (Of name kind name names.R_PPC64_NONE)
      → (new : ℕ → ℕ) → ppc64_rewrite kind ≡ Some (rewrites_marked new)
      → (ppc64_matches kind l.section (offset_of l i) → HasTest test l.section (marked_offset l i))
      → IsOfEntry (entry kind names.R_PPC64_NONE to_prefixed_local_exec) l.section (offset_of l i) chosen
      → IsLawful l i chosen name kind ((offset_of l i) - 1) 1 (law (groups.word test) none (Of name kind))
  marked name kind test so new is meant by =
      let left = made_after l linked.made i chosen below decided kind by.kind_is names.R_PPC64_NONE by.r_type_is (rewrites_marked new) is in
      record {
        kind_is = by.kind_is;
        r_type_is = by.r_type_is;
        group = λ alone.
            so (instruction_at l.section (marked_offset l i)) (instruction_at l.rewritten (marked_offset l i))
            (test_at l (marked_offset l i) test (meant by.meant)) (becomes_marked l linked.made i chosen below decided kind by.kind_is new is);
        final = one_left ((offset_of l i) - 1) (ap (λ (r : Rela). r.r_type) left);
        others = λ b apart. inl (outside_of l i chosen (Some (rewrites_marked new)) decided (ap relaxation_rewrite by.kind_is ∙ is) b apart);
      }

  -- of the `nop` after a call that may change the TOC pointer
  restores : groups.Holds groups.after_call kinds.NopToRestoreToc (groups.RestoresToc names.R_PPC64_REL24 names.R_PPC64_REL24)
      → IsOfEntry (entry kinds.NopToRestoreToc names.R_PPC64_REL24 (changed_toc ∷ [])) l.section (offset_of l i) chosen
      → IsLawful l i chosen names.R_PPC64_REL24 kinds.NopToRestoreToc ((offset_of l i) + 4) 1
      (law groups.after_call of_call groups.RestoresToc)
  restores so by =
      let left = made_after l linked.made i chosen below decided kinds.NopToRestoreToc by.kind_is names.R_PPC64_REL24 by.r_type_is (replaces 0 8 restores_toc) refl in
      let offset = ap (λ (r : Rela). r.offset) left in
      let made = becomes l linked.made i chosen below decided kinds.NopToRestoreToc by.kind_is (replaces 0 8 restores_toc) refl refl in
      let apart = others_at kinds.NopToRestoreToc by.kind_is (replaces 0 8 restores_toc) refl refl in
      record {
        kind_is = by.kind_is;
        r_type_is = by.r_type_is;
        group = λ alone c k s old new.
            so (two_at l.section (offset_of l i)) (two_at l.rewritten (offset_of l i)) (both is_call by.meant) made c k s
            (subst (Stands 1 c.old s.pc) (sym (second_same l.section (offset_of l i))) old)
            (subst (Stands 1 c.new s.pc) (sym (second_same l.rewritten (offset_of l i))) new);
        final = λ alone c pc stands symbol any is_symbol.
            one_stands c.new pc (drop ((offset_of l i) + 4) l.final) (instruction_at l.rewritten ((offset_of l i) + 4))
            (left_beside l linked ppc64 i below names.R_PPC64_REL24
            (after_of 4 names.R_PPC64_REL24 (branch_row Relative 26 Branch24) refl tt (of_bits refl refl refl refl refl (λ o. tt))) (ap (λ (r : Rela). r.r_type) left) ((offset_of l i) + 4)
            alone.left (inr (omega (arith, offset)))
            (unwritten ((offset_of l i) + 4) 4 ((offset_of l i) + 4) (omega arith) (omega arith) alone)
            ∙ sym (take-take 4 4 (drop ((offset_of l i) + 4) l.rewritten) (omega arith))) stands;
        others = λ b outside. elim outside [
          | inl before ↦ elim (cases_lt b (offset_of l i)) [
            | inl ahead ↦ inl (apart b (inl ahead))
            | inr from ↦ inr (sym (window_byte (offset_of l i) 4 b l.rewritten from before)
                ∙ (ap (λ xs. get_or xs (b - (offset_of l i)) 0) (call_stays l.section l.rewritten (offset_of l i) linked.section_bytes (by.meant.0) made)
                ∙ window_byte (offset_of l i) 4 b l.section from before))
          ]
          | inr past ↦ inl (apart b (inr (omega (arith, past))))
        ];
      }

  -- ---- by the name

  unlisted : (name : Ppc64Relocation) → IsNameOf ppc64_name (relocation_in l.relocations i).r_type name
      → IsNamed (ppc64_name name) → ((phase : Phase) → ppc64_scope_in phase name ≡ NotRelaxable) → ⊥
  unlisted name is_name named in_each =
      rewritten_again l linked.made ppc64
      (record { i = i; below = below; name = name; is_name = is_name; chosen = chosen; decided = decided }) named (in_each l.context.phase)

  pub law_of_name : Groups → (name : Ppc64Relocation) → IsNameOf ppc64_name (relocation_in l.relocations i).r_type name
      → IsOfOne (ppc64_entries name) l.section (offset_of l i) chosen → IsNamed (ppc64_name name) × Lawful l i chosen name
  law_of_name laws names.R_PPC64_REL24 is_name of = (tt, (kinds.NopToRestoreToc, restores (laws.rewrites names.R_PPC64_REL24 kinds.NopToRestoreToc) (only of)))
  law_of_name laws names.R_PPC64_TOC16_HA is_name of =
      (tt, (kinds.AddisToNop, of_sort names.R_PPC64_TOC16_HA kinds.AddisToNop gone without_high_part (is_addis_over 2) (laws.rewrites names.R_PPC64_TOC16_HA kinds.AddisToNop) (λ _. nop) refl (λ m. m) (only of)))
  law_of_name laws names.R_PPC64_TOC16_LO is_name of =
      (tt, (kinds.BaseToToc, of_any names.R_PPC64_TOC16_LO kinds.BaseToToc (named names.R_PPC64_TOC16 writes.toc) without_high_part (laws.rewrites names.R_PPC64_TOC16_LO kinds.BaseToToc) (over_base 2) refl (only of)))
  law_of_name laws names.R_PPC64_TOC16_LO_DS is_name of =
      (tt, (kinds.BaseToToc, of_any names.R_PPC64_TOC16_LO_DS kinds.BaseToToc (named names.R_PPC64_TOC16_DS writes.toc_words) without_high_part (laws.rewrites names.R_PPC64_TOC16_LO_DS kinds.BaseToToc) (over_base 2) refl (only of)))
  law_of_name laws names.R_PPC64_TPREL16_HA is_name of =
      (tt, (kinds.AddisThreadToNop, of_sort names.R_PPC64_TPREL16_HA kinds.AddisThreadToNop gone without_high_offset (is_addis_over 13) (laws.rewrites names.R_PPC64_TPREL16_HA kinds.AddisThreadToNop) (λ _. nop) refl (λ m. m) (only of)))
  law_of_name laws names.R_PPC64_TPREL16_LO is_name of =
      (tt, (kinds.BaseToThread, of_any names.R_PPC64_TPREL16_LO kinds.BaseToThread (named names.R_PPC64_TPREL16 writes.thread) without_high_offset (laws.rewrites names.R_PPC64_TPREL16_LO kinds.BaseToThread) (over_base 13) refl (only of)))
  law_of_name laws names.R_PPC64_TPREL16_LO_DS is_name of =
      (tt, (kinds.BaseToThread, of_any names.R_PPC64_TPREL16_LO_DS kinds.BaseToThread (named names.R_PPC64_TPREL16_DS writes.thread_words) without_high_offset (laws.rewrites names.R_PPC64_TPREL16_LO_DS kinds.BaseToThread) (over_base 13) refl (only of)))
  law_of_name laws names.R_PPC64_GOT_PCREL34 is_name of =
      (tt, (kinds.PldToPaddi, of_two names.R_PPC64_GOT_PCREL34 kinds.PldToPaddi (both_named names.R_PPC64_PCREL34 writes.distance) to_distance is_pld (laws.rewrites names.R_PPC64_GOT_PCREL34 kinds.PldToPaddi) paddi refl (λ m. m) (only of)))
  law_of_name laws names.R_PPC64_GOT16_HA is_name of =
      (tt, (kinds.KeepAddis, kept names.R_PPC64_GOT16_HA (named names.R_PPC64_TOC16_HA writes.toc_high) to_toc_distance (laws.rewrites names.R_PPC64_GOT16_HA kinds.KeepAddis) (only of)))
  law_of_name laws names.R_PPC64_GOT16_LO_DS is_name of =
      (tt, (kinds.LdToAddi, of_sort names.R_PPC64_GOT16_LO_DS kinds.LdToAddi (named names.R_PPC64_TOC16_LO writes.toc_low) to_toc_distance is_ld (laws.rewrites names.R_PPC64_GOT16_LO_DS kinds.LdToAddi) (λ word. 0x38000000 + registers_of word) refl (λ m. m) (only of)))
  law_of_name laws names.R_PPC64_GOT_TPREL16_HA is_name of =
      (tt, (kinds.AddisToNop, of_sort names.R_PPC64_GOT_TPREL16_HA kinds.AddisToNop gone to_local_exec (is_addis_over 2) (laws.rewrites names.R_PPC64_GOT_TPREL16_HA kinds.AddisToNop) (λ _. nop) refl (λ m. m) (only of)))
  law_of_name laws names.R_PPC64_GOT_TPREL16_LO_DS is_name of = (tt, (kinds.LdToAddisThread, load names.R_PPC64_GOT_TPREL16_LO_DS (laws.rewrites names.R_PPC64_GOT_TPREL16_LO_DS kinds.LdToAddisThread) (only of)))
  law_of_name laws names.R_PPC64_GOT_TPREL16_DS is_name of = (tt, (kinds.LdToAddisThread, load names.R_PPC64_GOT_TPREL16_DS (laws.rewrites names.R_PPC64_GOT_TPREL16_DS kinds.LdToAddisThread) (only of)))
  law_of_name laws names.R_PPC64_GOT_TPREL_PCREL34 is_name of =
      (tt, (kinds.PldToPaddiThread, of_two names.R_PPC64_GOT_TPREL_PCREL34 kinds.PldToPaddiThread (both_named names.R_PPC64_TPREL34 writes.thread_prefixed) to_prefixed_local_exec is_pld (laws.rewrites names.R_PPC64_GOT_TPREL_PCREL34 kinds.PldToPaddiThread) (paddi_of_thread 0) refl (λ m. m) (only of)))
  law_of_name laws names.R_PPC64_TLS is_name (inl by) =
      (tt, (kinds.AddToAddi, of_sort names.R_PPC64_TLS kinds.AddToAddi (named names.R_PPC64_TPREL16_LO writes.thread_low) to_local_exec is_add_of_thread (laws.rewrites names.R_PPC64_TLS kinds.AddToAddi) (λ word. 0x38000000 + registers_of word) refl (λ m. m.1) by))
  law_of_name laws names.R_PPC64_TLS is_name (inr (inl by)) =
      (tt, (kinds.IndexedToD, of_sort names.R_PPC64_TLS kinds.IndexedToD (named names.R_PPC64_TPREL16_LO writes.thread_low) to_local_exec is_indexed (laws.rewrites names.R_PPC64_TLS kinds.IndexedToD) by_displacement refl (λ m. m.1) by))
  law_of_name laws names.R_PPC64_TLS is_name (inr (inr (inl by))) =
      (tt, (kinds.IndexedToDs, of_sort names.R_PPC64_TLS kinds.IndexedToDs (named names.R_PPC64_TPREL16_LO_DS writes.thread_low_words) to_local_exec_words is_indexed_word (laws.rewrites names.R_PPC64_TLS kinds.IndexedToDs) by_word_displacement refl (λ m. m.1) by))
  law_of_name laws names.R_PPC64_TLS is_name (inr (inr (inr (inl by)))) =
      (tt, (kinds.AddToMove, marked names.R_PPC64_TLS kinds.AddToMove is_add_of_thread (laws.rewrites names.R_PPC64_TLS kinds.AddToMove) to_move refl (λ m. m.1) by))
  law_of_name laws names.R_PPC64_TLS is_name (inr (inr (inr (inr rest)))) =
      (tt, (kinds.IndexedToDirect, marked names.R_PPC64_TLS kinds.IndexedToDirect is_indexed_any (laws.rewrites names.R_PPC64_TLS kinds.IndexedToDirect) direct refl (λ m. m.1) (only rest)))
  law_of_name laws names.R_PPC64_GOT_TLSGD16_HA is_name (inl by) =
      (tt, (kinds.AddisToNop, of_sort names.R_PPC64_GOT_TLSGD16_HA kinds.AddisToNop gone to_local_exec (is_addis_over 2) (laws.rewrites names.R_PPC64_GOT_TLSGD16_HA kinds.AddisToNop) (λ _. nop) refl (λ m. m) by))
  law_of_name laws names.R_PPC64_GOT_TLSGD16_HA is_name (inr rest) =
      (tt, (kinds.KeepAddis, kept names.R_PPC64_GOT_TLSGD16_HA (named names.R_PPC64_GOT_TPREL16_HA writes.entry_high) to_initial_exec (laws.rewrites names.R_PPC64_GOT_TLSGD16_HA kinds.KeepAddis) (only rest)))
  law_of_name laws names.R_PPC64_GOT_TLSGD16_LO is_name (inl by) =
      (tt, (kinds.AddiToAddisThread, of_sort names.R_PPC64_GOT_TLSGD16_LO kinds.AddiToAddisThread (named names.R_PPC64_TPREL16_HA writes.thread_high) to_local_exec is_addi (laws.rewrites names.R_PPC64_GOT_TLSGD16_LO kinds.AddiToAddisThread) (λ word. addis_of_thread (rt_of word)) refl (λ m. m) by))
  law_of_name laws names.R_PPC64_GOT_TLSGD16_LO is_name (inr rest) =
      (tt, (kinds.AddiToLd, of_sort names.R_PPC64_GOT_TLSGD16_LO kinds.AddiToLd (named names.R_PPC64_GOT_TPREL16_LO_DS writes.entry_low) to_initial_exec is_addi (laws.rewrites names.R_PPC64_GOT_TLSGD16_LO kinds.AddiToLd) (λ word. 0xe8000000 + registers_of word) refl (λ m. m) (only rest)))
  law_of_name laws names.R_PPC64_GOT_TLSGD16 is_name (inl by) =
      (tt, (kinds.AddiToAddisThread, of_sort names.R_PPC64_GOT_TLSGD16 kinds.AddiToAddisThread (named names.R_PPC64_TPREL16_HA writes.thread_high) to_local_exec is_addi (laws.rewrites names.R_PPC64_GOT_TLSGD16 kinds.AddiToAddisThread) (λ word. addis_of_thread (rt_of word)) refl (λ m. m) by))
  law_of_name laws names.R_PPC64_GOT_TLSGD16 is_name (inr rest) =
      (tt, (kinds.AddiToLd, of_sort names.R_PPC64_GOT_TLSGD16 kinds.AddiToLd (named names.R_PPC64_GOT_TPREL16_DS writes.near_entry) to_near_initial_exec is_addi (laws.rewrites names.R_PPC64_GOT_TLSGD16 kinds.AddiToLd) (λ word. 0xe8000000 + registers_of word) refl (λ m. m) (only rest)))
  law_of_name laws names.R_PPC64_GOT_TLSGD_PCREL34 is_name (inl by) =
      (tt, (kinds.PaddiToPaddiThread, of_two names.R_PPC64_GOT_TLSGD_PCREL34 kinds.PaddiToPaddiThread (both_named names.R_PPC64_TPREL34 writes.thread_prefixed) to_prefixed_local_exec is_pla (laws.rewrites names.R_PPC64_GOT_TLSGD_PCREL34 kinds.PaddiToPaddiThread) (paddi_of_thread 0) refl (λ m. m) by))
  law_of_name laws names.R_PPC64_GOT_TLSGD_PCREL34 is_name (inr rest) =
      (tt, (kinds.PaddiToPld, of_two names.R_PPC64_GOT_TLSGD_PCREL34 kinds.PaddiToPld (both_named names.R_PPC64_GOT_TPREL_PCREL34 writes.entry_prefixed) to_prefixed_initial_exec is_pla (laws.rewrites names.R_PPC64_GOT_TLSGD_PCREL34 kinds.PaddiToPld) pld refl (λ m. m) (only rest)))
  law_of_name laws names.R_PPC64_TLSGD is_name (inl by) =
      (tt, (kinds.BranchToNop, of_any names.R_PPC64_TLSGD kinds.BranchToNop gone called_to_local_exec (laws.rewrites names.R_PPC64_TLSGD kinds.BranchToNop) (λ _. nop) refl by))
  law_of_name laws names.R_PPC64_TLSGD is_name (inr (inl by)) =
      (tt, (kinds.BranchToAdd, of_any names.R_PPC64_TLSGD kinds.BranchToAdd gone called_to_initial_exec (laws.rewrites names.R_PPC64_TLSGD kinds.BranchToAdd) (λ _. 0x7c636a14) refl by))
  law_of_name laws names.R_PPC64_TLSGD is_name (inr (inr (inl by))) =
      (tt, (kinds.CallToAddi, call names.R_PPC64_TLSGD kinds.CallToAddi (to_second names.R_PPC64_TPREL16_LO) to_local_exec (laws.rewrites names.R_PPC64_TLSGD kinds.CallToAddi) 0x38630000 refl low_half by))
  law_of_name laws names.R_PPC64_TLSGD is_name (inr (inr (inr rest))) =
      (tt, (kinds.CallToAdd, call names.R_PPC64_TLSGD kinds.CallToAdd none to_initial_exec (laws.rewrites names.R_PPC64_TLSGD kinds.CallToAdd) 0x7c636a14 refl (λ offset. two_left (offset_of l i)) (only rest)))
  law_of_name laws names.R_PPC64_GOT_TLSLD16_HA is_name of =
      (tt, (kinds.AddisToNop, of_sort names.R_PPC64_GOT_TLSLD16_HA kinds.AddisToNop gone to_module (is_addis_over 2) (laws.rewrites names.R_PPC64_GOT_TLSLD16_HA kinds.AddisToNop) (λ _. nop) refl (λ m. m) (only of)))
  law_of_name laws names.R_PPC64_GOT_TLSLD16_LO is_name of =
      (tt, (kinds.AddiToAddisThread, of_sort names.R_PPC64_GOT_TLSLD16_LO kinds.AddiToAddisThread gone to_module is_addi (laws.rewrites names.R_PPC64_GOT_TLSLD16_LO kinds.AddiToAddisThread) (λ word. addis_of_thread (rt_of word)) refl (λ m. m) (only of)))
  law_of_name laws names.R_PPC64_GOT_TLSLD16 is_name of =
      (tt, (kinds.AddiToAddisThread, of_sort names.R_PPC64_GOT_TLSLD16 kinds.AddiToAddisThread gone to_module is_addi (laws.rewrites names.R_PPC64_GOT_TLSLD16 kinds.AddiToAddisThread) (λ word. addis_of_thread (rt_of word)) refl (λ m. m) (only of)))
  law_of_name laws names.R_PPC64_GOT_TLSLD_PCREL34 is_name of =
      (tt, (kinds.PaddiToPaddi4096, of_two names.R_PPC64_GOT_TLSLD_PCREL34 kinds.PaddiToPaddi4096 (record { left = none; final = λ at offset code. two_left at code }) to_module is_pla (laws.rewrites names.R_PPC64_GOT_TLSLD_PCREL34 kinds.PaddiToPaddi4096) (paddi_of_thread 0x1000) refl (λ m. m) (only of)))
  law_of_name laws names.R_PPC64_TLSLD is_name (inl by) =
      (tt, (kinds.BranchToNop, of_any names.R_PPC64_TLSLD kinds.BranchToNop gone called_to_module (laws.rewrites names.R_PPC64_TLSLD kinds.BranchToNop) (λ _. nop) refl by))
  law_of_name laws names.R_PPC64_TLSLD is_name (inr rest) =
      (tt, (kinds.CallToAddi4096, call names.R_PPC64_TLSLD kinds.CallToAddi4096 none to_module (laws.rewrites names.R_PPC64_TLSLD kinds.CallToAddi4096) 0x38631000 refl (λ offset. two_left (offset_of l i)) (only rest)))
  law_of_name laws names.R_PPC64_REL16_HA is_name of = absurd (unlisted names.R_PPC64_REL16_HA is_name tt (in_none names.R_PPC64_REL16_HA refl refl refl))
  law_of_name laws names.R_PPC64_REL16_LO is_name of = absurd (unlisted names.R_PPC64_REL16_LO is_name tt (in_none names.R_PPC64_REL16_LO refl refl refl))
  law_of_name laws name is_name of = absurd of

-- ---- the law of a rewrite, and what stands at a place

-- the law of a rewrite, by its name
law_there : Groups → (l : Linked) → IsLinked l → l.context.architecture ≡ Ppc64 → (i : ℕ) (chosen : Choice Relaxation ℕ)
    → i < count l → decision_at l.decisions i ≡ Rewritten chosen → (name : Ppc64Relocation)
    → IsNameOf ppc64_name (relocation_in l.relocations i).r_type name
    → IsLawful l i chosen name (kind_at l i) (span l i).0 (shape (kind_at l i) (offset_of l i)).1 (law_of name (kind_at l i))
law_there laws l linked ppc64 i chosen below decided name is_name =
    let t = has_entry l linked ppc64 i chosen below decided in
    let made = law_of_name l linked ppc64 i chosen below decided laws t.name t.is_name t.of in
    let kind = made.1.0 in
    let law = made.1.1 in
    let same : name ≡ t.name = is_name.named t.name (made.0) t.is_name.r_type_is in
    let kind_is : kind_at l i ≡ kind = ap kind_of decided ∙ ap kind_by law.kind_is in
    rw (kind_is, same) law

-- ---- which bytes stay

module _ (laws : Groups) (l : Linked) (linked : IsLinked l) (ppc64 : l.context.architecture ≡ Ppc64) (b : ℕ) where
  -- those of a relocation that is kept, or taken along, are none
  in_span : (i : ℕ) → i < count l → (d : Decision) → decision_at l.decisions i ≡ d → (span l i).0 ≤ b → b < (span l i).1
      → (shape (kind_of d) (offset_of l i)).0 ≤ b
      → b < (shape (kind_of d) (offset_of l i)).0 + 4 * (shape (kind_of d) (offset_of l i)).1 → IsIn rewriting l b
  in_span i below (Rewritten chosen) is from less first last =
      let t = has_entry l linked ppc64 i chosen below is in
      record {
        g = record { i = i; below = below; name = t.name; is_name = t.is_name; chosen = chosen; decided = is };
        first = from;
        last = less;
      }
  in_span i below d is from less first last = absurd (omega (arith, first, last))

  apart_or_in : (i : ℕ) → i < count l → ((b < (span l i).0) ⊎ ((span l i).1 ≤ b)) ⊎ IsIn rewriting l b
  apart_or_in i below =
      elim (cases_lt b (span l i).0) [
        | inl before ↦ inl (inl before)
        | inr from ↦ elim (cases_lt b (span l i).1) [
          | inl less ↦ inr (in_span i below (decision_at l.decisions i) refl from less from less)
          | inr past ↦ inl (inr past)
        ]
      ]

  outside : (i : ℕ) → i < count l → (b < (span l i).0) ⊎ ((span l i).1 ≤ b) → (d : Decision) → decision_at l.decisions i ≡ d
      → IsOutside l.relocations l.decisions i b ⊎ (get_or l.rewritten b 0 ≡ get_or l.section b 0)
  outside i below apart Kept is = inl (spared l i Kept is refl b)
  outside i below apart Consumed is = inl (spared l i Consumed is refl b)
  outside i below apart (Rewritten chosen) is =
      let t = has_entry l linked ppc64 i chosen below is in
      (law_there laws l linked ppc64 i chosen below is t.name t.is_name).others b apart
  outside i below apart (RewrittenWithSymbol chosen subject) is =
      absurd (without_label l linked.decided ppc64 unlabelled i chosen subject below is)

pub are_in : Groups → AreIn rewriting
are_in laws l linked ppc64 b =
    elim (each_or (λ i. (b < (span l i).0) ⊎ ((span l i).1 ≤ b)) (count l) (apart_or_in laws l linked ppc64 b)) [
      | inl apart ↦ inl (record {
        same = elim (each_or (λ i. IsOutside l.relocations l.decisions i b) (count l)
            (λ i below. outside laws l linked ppc64 b i below (apart i below) (decision_at l.decisions i) refl)) [
              | inl none_is ↦ linked.others b none_is
              | inr same ↦ same
            ];
        apart = apart;
      })
      | inr one ↦ inr one
    ]

-- ---- groups

pub rewrites_are_groups : Groups → RewritesAreGroups rewriting
rewrites_are_groups laws x c called l is k s g n k' s' begins =
    let law = law_there laws l (is_linked rewriting x called l is) (called.architecture l is) g.i g.chosen g.below g.decided g.name g.is_name in
    elim begins.new [
      | inl final ↦ begins.by_law (law.group begins.alone)
          (law.final (final.0) c s.pc (final.1) begins.symbol begins.entry begins.is_symbol)
      | inr made ↦ begins.by_law (law.group begins.alone) made
    ]

pub names_are_left : Groups → NamesAreLeft
names_are_left laws l linked ppc64 g =
    (law_there laws l linked ppc64 g.i g.chosen g.below g.decided g.name g.is_name).r_type_is
