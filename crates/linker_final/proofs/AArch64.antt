-- AArch64: the rewrites of a section are of instructions that are rewritten together, and these are
-- groups.
use Rattle.linker_final.proofs.Imports.{AArch64, AArch64Relocation, AbsoluteLowPart, Agree, AreCalled, Begins, BeginsRewritten, Bool, Choice, ComesTo, Condition, Entry, GotRelative, GotTpOff, GotTpOffGot, Grouped, HasFinal, Independent, IsAddressRewritten, IsArchitectureChoice, IsDescriptorLeft, IsDescriptorRewritten, IsDone, IsLinked, IsLoadRewritten, IsMade, IsNameOf, IsNamed, IsOfEntry as IsOfEntryIn, IsOfOne as IsOfOneIn, IsPartAt, IsPhase, IsRewrittenAgain, IsRewrittenBy, IsRewrittenByNoOther, IsRewrittenOf, IsRow, IsScopeDecision, IsScopeIn, IsSomeAnd, IsWholeBy, IsWrittenByNoOther, Kept, Kinds, Linked, List, None, Ok, Operands, Phase, Rela, Relative, Relaxation, RewriteKind, Rewrites, RewritesAreGroups, RowInfo, Section, Some, State, Symbol, ThreadOffset, TpOff, UntouchedInstruction, UntouchedInstructions, [], aarch64_name, aarch64_row, aarch64_scope_in, addend_after, address, aligned_row, anything, ap, arith, at_address, at_call, at_high, at_initial, at_jump, at_load, at_local, at_low, bytes_row, chosen_at, cond, cond-false, count, decision_at, drop, entry, entry_address, entry_of, entry_pages, eq-eqb, eqb, false, field, following, go_to, group_stays, half, high, in_phase, inl, inr, insn_row, instruction_at, is_there, length, load, loaded, low, object, of_entry as of_entry_in, of_group, of_link, of_one as of_one_in, of_option, offset_after, offset_of, operands_by, operands_with, page, paged_row, place_pages, plt_address, put, r_type_of, refl, register, relaxation_rewrite, relocation_after, relocation_in, replaces, rewriting, scope_there, sequences_are_whole, signed_row, slice_get, span, subst, sum_64, sym, symbol_address, take, take-take, thread_offset, to_initial, to_local, true, two_at, unlabelled, value_of, weak_zero, with_register, word_of, ℕ, ℤ, ◌*◌, ◌+◌, ◌-◌, ◌<◌, ◌^◌, ◌∙◌, ◌∷◌, ◌≡◌, ◌≢◌, ◌≤◌, ◌⊎◌}
use Rattle.linker_final.specs.AArch64Section.{call, jump}
use Rattle.linker_laws.specs.AArch64Groups.{BranchToNop, Code, Descriptor, EndsInNops, Has, IsPair, Stands, go_and_link, link, seen, with_entry, Groups, Leaves, IsRewritten}
use Rattle.linker_utils.specs.AArch64Rewrites.{AArch64Applies, AArch64Entry, AreOfOneRegister, IsAdd64, IsAdrp, IsIntoOwnSource, IsLdr64, aarch64_entries, aarch64_matches, aarch64_rewrite, halves_to_local_exec, is_ldr64, nop, nop_adr, rewrites_where, rn_of, to_address, to_adr, to_initial_exec, to_local_exec, HasPattern, rd_of}
use Rattle.linker_elf.specs.declared.aarch64.forms.AArch64Instruction.TheVariants.{Add, Adr, LdrRegister, Movkz, Movnz}
use Rattle.linker_elf.specs.declared.elf.RelocationKind.TheVariants.{None as NoValue}
use Rattle.linker_final.proofs.SectionRuns.{AreIn, beside_or, final_in, is_linked, is_of, Cases, by_cases}
use Rattle.linker_final.proofs.Written.{IsOfInstruction, IsRowOf, applied_after, by_name, entry_is_there, first_same, last_length, made_there, of_bits, rela, relocation_left, relocation_named, second_same, stays, unwritten_without, word_same}
use Rattle.linker_laws.specs.AArch64Machine.{is_b, is_bl, load_64}
use Rattle.linker_laws.specs.Simulation.{Group}
use Rattle.linker_elf.specs.declared.aarch64.relocations.AArch64Relocation.TheVariants as names
use Rattle.linker_utils.specs.declared.aarch64.rewrites.RewriteKind.TheVariants as kinds
use Rattle.linker_utils.specs.declared.architecture.Relaxation.TheVariants as relaxations
use Rattle.linker_rewriting.specs.declared.groups.Group.TheVariants as groups
use Rattle.linker_rewriting.specs.declared.phases.Phase.TheVariants as phases

-- ---- relocations that rewrites leave

-- of an instruction
pub record IsAfter (name : AArch64Relocation) : Type 0 where
  pub row : RowInfo
  pub is : aarch64_row name ≡ Some row
  pub named : IsNamed (aarch64_name name)
  pub of : IsOfInstruction 4 row

abbrev pub after : Linked → ℕ → AArch64Relocation → Rela
after l i name =
    let r = relocation_in l.relocations i in rela r.offset (r_type_of (aarch64_name name)) r.symbol r.addend

-- the relocation at an index gets a name
abbrev pub IsNamedAs : AArch64Relocation → Linked → ℕ → Type 0
IsNamedAs name l i = relocation_in l.relocations_after i ≡ after l i name

-- Of a formula of S, A and P alone the value is that of other operands with these.
pub same_value : (row : RowInfo)
    → ((w v : Operands) → value_of row w ≡ value_of row (record v { symbol = w.symbol; addend = w.addend; place = w.place }))
    → (w v : Operands) → w.symbol ≡ v.symbol → w.addend ≡ v.addend → w.place ≡ v.place
    → value_of row w ≡ value_of row v
same_value row reads w v symbol addend place = reads w v ∙ rw (symbol, addend, place)

-- the place of another instruction
pub place_of : (l : Linked) (i j n : ℕ) (o : Operands) → o.place ≡ sum_64 l.addresses.section (offset_of l i)
    → offset_of l j ≡ offset_of l i + n → sum_64 o.place n ≡ sum_64 l.addresses.section (offset_of l j)
place_of l i j n o place next =
    let e : sum_64 (sum_64 l.addresses.section (offset_of l i)) n ≡ sum_64 l.addresses.section (offset_of l i + n) = omega arith in
    ap (λ p. sum_64 p n) place ∙ (e ∙ ap (sum_64 l.addresses.section) (sym next))

-- ---- the rewrite that is chosen

-- what an entry is meant for is there, and what the relocation requires
abbrev pub IsMeant : AArch64Relocation → List ℕ → ℕ → AArch64Entry → Type 0
IsMeant name section o e = aarch64_matches e.kind section o × HasPattern name section o

abbrev pub IsOfEntry : AArch64Relocation → AArch64Entry → List ℕ → ℕ → Choice Relaxation ℕ → Type 0
IsOfEntry name e section o = IsOfEntryIn aarch64_name relaxations.AArch64 (IsMeant name section o) e

abbrev pub IsOfOne : AArch64Relocation → List AArch64Entry → List ℕ → ℕ → Choice Relaxation ℕ → Type 0
IsOfOne name es section o = IsOfOneIn aarch64_name relaxations.AArch64 (IsMeant name section o) es

-- an instruction of a sequence is rewritten
abbrev pub of_part : (l : Linked) (first n i : ℕ) (name : AArch64Relocation) (kind : RewriteKind)
    → IsPartAt l.relocations first n i name → IsRewrittenBy kind (decision_at l.decisions i)
    → IsRewrittenOf l name i
of_part l first n i name kind part by =
    record { below = part.below; is_name = part.is_name; chosen = by.chosen; decided = by.decided }

-- ---- a phase

-- of a section that is linked, whose final bytes new has
pub record IsNew (l : Linked) (c : Code) : Type 0 where
  pub linked : IsLinked l
  pub aarch64 : l.context.architecture ≡ AArch64
  pub final : HasFinal l.addresses l.final c

module _ {l : Linked} {c : Code} (new : IsNew l c) where
  row_of : (name : AArch64Relocation) → IsNamed (aarch64_name name) → (row : RowInfo)
      → aarch64_row name ≡ Some row → IsRowOf l.context.architecture (r_type_of (aarch64_name name)) row
  row_of name named row is found there =
      by_name aarch64_name aarch64_row name named found
      (subst (λ x. IsRow x (r_type_of (aarch64_name name)) found) new.aarch64 there) ∙ is

  stands_at : (p : ℕ) (o : Operands) → o.place ≡ sum_64 l.addresses.section p → p + 4 ≤ length l.section
      → Stands c.new o (instruction_at l.final p)
  stands_at p o place inside =
      let long : length l.final ≡ length l.section =
      new.linked.written.same_length ∙ (last_length l new.linked ∙ new.linked.same_length) in
      ap (loaded 4 c.new) place ∙ new.final p (omega (arith, inside, long))

  -- an instruction is left that no other relocation writes, where the own one goes
  pub stands_left : (i : ℕ) → i < count l → IsNamedAs names.R_AARCH64_NONE l i
      → UntouchedInstruction l i → IsWrittenByNoOther l i (offset_of l i) → offset_of l i + 4 ≤ length l.section
      → (o : Operands) → o.place ≡ sum_64 l.addresses.section (offset_of l i)
      → Stands c.new o (instruction_at l.rewritten (offset_of l i))
  stands_left i below named left alone inside o place =
      subst (Stands c.new o)
      (unwritten_without l new.linked i below (offset_of l i) left
      (row_of names.R_AARCH64_NONE tt (bytes_row NoValue 0) refl)
      (ap (λ (x : Rela). x.r_type) named) alone)
      (stands_at (offset_of l i) o place inside)

  -- the entry of a formula is there
  pub entry_there : (i : ℕ) → i < count l → (name : AArch64Relocation) (a : IsAfter name) → IsNamedAs name l i
      → UntouchedInstruction l i → (symbol : Symbol)
      → slice_get l.symbols (relocation_in l.relocations i).symbol ≡ Some symbol → (entry : Entry)
      → entry_of a.row (relocation_in l.relocations i).addend symbol.is_thread_local ≡ Some entry
      → is_there l.addresses symbol entry ≡ true
  entry_there i below name a named left symbol is_symbol entry is_entry =
      cc (entry_is_there l new.linked i below a.row a.of.valued a.of.unlabelled (after l i name) (relocation_left l new.linked i (offset_of l i) 4 left below ∙ named) (row_of name a.named a.row a.is) symbol is_symbol entry is_entry)

  -- an instruction that is rewritten
  module _ (name : AArch64Relocation) (i : ℕ) (of : IsRewrittenOf l name i) where
    -- by one of the entries of its name
    pub of_one : IsNamed (aarch64_name name) → IsOfOne name (aarch64_entries name) l.section (offset_of l i) of.chosen
    of_one named =
        let r = relocation_in l.relocations i in
        let f = chosen_at l.context l.kept l.relocations l.section l.decisions (count l) i of.chosen new.linked.decided of.below of.decided
        (λ scope is. unlabelled l.context.phase r.r_type scope (subst (λ x. IsScopeIn x l.context.phase r.r_type scope) new.aarch64 is)) in
        of_one_in aarch64_name relaxations.AArch64 (IsMeant name l.section r.offset) of.chosen
        (λ n. AArch64Applies n l.section r.offset f.facts) aarch64_entries kinds.NoOp refl r.r_type name named of.is_name
        (λ e applies. applies.0)
        (subst (λ x. IsArchitectureChoice x r.r_type l.section r.offset f.facts of.chosen) new.aarch64 f.is_choice) f.changed

    -- the only one
    pub of_entry : IsNamed (aarch64_name name) → (e : AArch64Entry) → aarch64_entries name ≡ (e ∷ [])
        → IsOfEntry name e l.section (offset_of l i) of.chosen
    of_entry named e only =
        of_entry_in aarch64_name relaxations.AArch64 (IsMeant name l.section (offset_of l i)) of.chosen e
        (aarch64_entries name) only (of_one named)

    -- it becomes another
    pub becomes : (kind : RewriteKind) (test : ℕ → Bool) (word : ℕ → ℕ)
        → aarch64_rewrite kind ≡ Some (rewrites_where test word) → of.chosen.kind ≡ relaxations.AArch64 kind
        → IsRewritten kind (object l i) (instruction_at l.rewritten (offset_of l i))
    becomes kind test word is kind_is =
        subst (λ q. IsSomeAnd q (λ made. BeginsRewritten made (object l i) (instruction_at l.rewritten (offset_of l i)))) (sym is)
        (made_there l new.linked.made i of.chosen of.below of.decided (rewrites_where test word) (ap relaxation_rewrite kind_is ∙ is) refl)

    module _ (e : AArch64Entry) (by : IsOfEntry name e l.section (offset_of l i) of.chosen)
        (unmoved : (o : ℕ) → offset_after (aarch64_rewrite e.kind) o ≡ o)
        (same_addend : (a : ℤ) → addend_after (aarch64_rewrite e.kind) a ≡ a) where
      -- its relocation gets a name
      pub named_after : IsNamedAs e.relocation l i
      named_after =
          relocation_named l new.linked.made i of.chosen of.below of.decided (aarch64_rewrite e.kind) (r_type_of (aarch64_name e.relocation))
          (ap relaxation_rewrite by.kind_is) by.r_type_is unmoved same_addend

      -- and this is applied
      pub has_after : (a : IsAfter e.relocation) → UntouchedInstruction l i → (symbol : Symbol)
          → slice_get l.symbols (relocation_in l.relocations i).symbol ≡ Some symbol → (got : ℕ)
          → operands_by AArch64 l.addresses a.row (after l i e.relocation) symbol
          (entry_address l.addresses symbol (entry_of a.row (relocation_in l.relocations i).addend symbol.is_thread_local))
          ≡ Ok (operands_with AArch64 l.addresses a.row symbol (after l i e.relocation) got) → (o : Operands)
          → value_of a.row o ≡ value_of a.row (operands_with AArch64 l.addresses a.row symbol (after l i e.relocation) got)
          → o.place ≡ sum_64 l.addresses.section (offset_of l i) → offset_of l i + 4 ≤ length l.section
          → Has c.new e.relocation o (instruction_at l.rewritten (offset_of l i))
      has_after a left symbol is_symbol got entry_is o same place inside =
          let p = offset_of l i in
          record {
            relocated = instruction_at l.final p;
            applied = applied_after l new.linked i of.below 4 (omega arith) a.row a.of (after l i e.relocation) named_after left
                (row_of e.relocation a.named a.row a.is) symbol is_symbol got AArch64 new.aarch64 entry_is o same (aarch64_row e.relocation) a.is;
            stands = stands_at p o place inside;
          }

-- ---- instructions that are rewritten each by itself

abbrev pub high_after : IsAfter names.R_AARCH64_TLSLE_MOVW_TPREL_G1
high_after = record { row = insn_row TpOff 16 32 Movnz; is = refl; named = tt; of = of_bits refl refl refl refl refl (λ o. tt) }

abbrev pub low_after : IsAfter names.R_AARCH64_TLSLE_MOVW_TPREL_G0_NC
low_after = record { row = insn_row TpOff 0 16 Movkz; is = refl; named = tt; of = of_bits refl refl refl refl refl (λ o. tt) }

module _ (laws : Groups) {l : Linked} {c : Code} (new : IsNew l c) (i : ℕ) (left : UntouchedInstruction l i)
    (k : Kinds) (s : State) (o : Operands) where
  module _ (h : ℕ) (at : ComesTo l s names.R_AARCH64_TLSLE_MOVW_TPREL_G1 i o) (entry_is : c.entry h ≡ o.got_entry)
      (offset_is : c.offset h ≡ thread_offset o) where
    are : o ≡ operands_with AArch64 l.addresses high_after.row at.symbol (relocation_in l.relocations i) o.got_entry
    are = at.are

    place : o.place ≡ sum_64 l.addresses.section (offset_of l i)
    place = ap (λ (x : Operands). x.place) are

    pub high_is_group : IsRewrittenOf l names.R_AARCH64_TLSIE_ADR_GOTTPREL_PAGE21 i → register (object l i) ≢ 31
        → Has c.old names.R_AARCH64_TLSIE_ADR_GOTTPREL_PAGE21 o (object l i)
        → Group (of_link (link c)) 1 k s (with_register (register (object l i)) (half h) k)
        (put (register (object l i)) (page o.got_entry) (sum_64 o.place 4) s)
    high_is_group of not_31 has =
        let e = entry kinds.MovzXnLsl16 names.R_AARCH64_TLSLE_MOVW_TPREL_G1 halves_to_local_exec in
        let by = of_entry new names.R_AARCH64_TLSIE_ADR_GOTTPREL_PAGE21 i of tt e refl in
        laws.high_halves c h o k s (object l i) (instruction_at l.rewritten (offset_of l i)) at.small at.pc entry_is offset_is
        (subst IsAdrp (word_same l.section (offset_of l i)) (by.meant.0.1)) not_31
        (becomes new names.R_AARCH64_TLSIE_ADR_GOTTPREL_PAGE21 i of kinds.MovzXnLsl16 (λ _. true) (λ word. 0xd2a00000 + rd_of word) refl by.kind_is)
        has
        (has_after new names.R_AARCH64_TLSIE_ADR_GOTTPREL_PAGE21 i of e by (λ o. refl) (λ a. refl) high_after left
        at.symbol at.is_symbol 0 refl o (ap (value_of high_after.row) are) place (by.meant.0.0))

    pub low_is_group : IsRewrittenOf l names.R_AARCH64_TLSIE_LD64_GOTTPREL_LO12_NC i
        → load_64 s.memory o.got_entry ≡ thread_offset o → k.registers (register (object l i)) ≡ half h
        → s.registers (register (object l i)) ≡ page o.got_entry
        → Has c.old names.R_AARCH64_TLSIE_LD64_GOTTPREL_LO12_NC o (object l i)
        → Leaves 1 c o k s (register (object l i)) (thread_offset o)
    low_is_group of holds known has_page has =
        let e = entry kinds.MovkXn names.R_AARCH64_TLSLE_MOVW_TPREL_G0_NC halves_to_local_exec in
        let by = of_entry new names.R_AARCH64_TLSIE_LD64_GOTTPREL_LO12_NC i of tt e refl in
        let word = word_same l.section (offset_of l i) in
        laws.low_halves c h o k s (object l i) (instruction_at l.rewritten (offset_of l i)) at.small at.pc entry_is offset_is
        (subst IsLdr64 word (by.meant.0.1.0)) (subst IsIntoOwnSource word (by.meant.0.1.1))
        (becomes new names.R_AARCH64_TLSIE_LD64_GOTTPREL_LO12_NC i of kinds.MovkXn (λ word. eqb (rn_of word) (rd_of word)) (λ word. 0xf2800000 + rd_of word) refl by.kind_is)
        holds known has_page has
        (has_after new names.R_AARCH64_TLSIE_LD64_GOTTPREL_LO12_NC i of e by (λ o. refl) (λ a. refl) low_after left
        at.symbol at.is_symbol 0 refl o (ap (value_of low_after.row) are) place (by.meant.0.0))

  -- a branch, of a name with one entry
  pub branch_is_group : (name : AArch64Relocation) → IsNamed (aarch64_name name)
      → aarch64_entries name ≡ (entry kinds.ReplaceWithNop names.R_AARCH64_NONE (weak_zero ∷ []) ∷ [])
      → (is_branch : ℕ → Bool)
      → (HasPattern name l.section (offset_of l i) → is_branch (word_of (drop (offset_of l i) l.section)) ≡ true)
      → (known : Kinds → Kinds) (leaves : ℕ → State → State) → BranchToNop name is_branch known leaves
      → IsRewrittenOf l name i → ComesTo l s name i o → o.place ≡ sum_64 l.addresses.section (offset_of l i)
      → IsWrittenByNoOther l i (offset_of l i) → plt_address o ≡ sum_64 o.place 4 → Has c.old name o (object l i)
      → Group (of_link (link c)) 1 k s (known k) (leaves (sum_64 o.place 4) s)
  branch_is_group name named only is_branch is_one known leaves law of at place alone goes_on has =
      let e : AArch64Entry = entry kinds.ReplaceWithNop names.R_AARCH64_NONE (weak_zero ∷ []) in
      let by = of_entry new name i of named e only in
      law c o k s (object l i) (instruction_at l.rewritten (offset_of l i)) at.small at.pc goes_on
      (subst (λ word. is_branch word ≡ true) (word_same l.section (offset_of l i)) (is_one by.meant.1))
      (becomes new name i of kinds.ReplaceWithNop (λ _. true) (λ _. nop) refl by.kind_is) has
      (stands_left new i of.below (named_after new name i of e by (λ o. refl) (λ a. refl)) left alone (by.meant.0.0) o place)

-- ---- addresses by two instructions, of which `nop` and `adr` are made

abbrev pub page_after : IsAfter names.R_AARCH64_ADR_PREL_PG_HI21
page_after = record { row = paged_row place_pages (signed_row 33 (insn_row Relative 12 33 Adr)); is = refl; named = tt; of = of_bits refl refl refl refl refl (λ o. tt) }

abbrev adr_after : IsAfter names.R_AARCH64_ADR_PREL_LO21
adr_after = record { row = signed_row 21 (insn_row Relative 0 21 Adr); is = refl; named = tt; of = of_bits refl refl refl refl refl (λ o. tt) }

abbrev to_nop_adr : AArch64Entry
to_nop_adr = entry kinds.AdrpAddToNopAdr names.R_AARCH64_ADR_PREL_LO21 to_adr

-- what is made, in new
module _ {l : Linked} {c : Code} (new : IsNew l c) (i : ℕ) (of : IsAddressRewritten l.relocations l.decisions i) where
  abbrev low_of : IsRewrittenOf l names.R_AARCH64_ADD_ABS_LO12_NC (i + 1)
  low_of = of_part l i 4 (i + 1) names.R_AARCH64_ADD_ABS_LO12_NC kinds.AdrpAddToNopAdr of.low of.low_decided

  by : IsOfEntry names.R_AARCH64_ADD_ABS_LO12_NC to_nop_adr l.section (offset_of l (i + 1)) low_of.chosen
  by = of_entry new names.R_AARCH64_ADD_ABS_LO12_NC (i + 1) low_of tt to_nop_adr refl

  inside : offset_of l (i + 1) + 4 ≤ length l.section
  inside = by.meant.0.1.1.0

  back : offset_of l (i + 1) - 4 ≡ offset_of l i
  back = let next = of.low.offset in omega (arith, next)

  pub made_two : IsRewritten kinds.AdrpAddToNopAdr (two_at l.section (offset_of l i)) (two_at l.rewritten (offset_of l i))
  made_two =
      let o = offset_of l i in
      let made : IsMade (Some (replaces 4 8 nop_adr)) (offset_of l (i + 1)) l.section l.rewritten =
      subst (λ k. IsMade (relaxation_rewrite k) (offset_of l (i + 1)) l.section l.rewritten) by.kind_is
      (subst (λ d. IsDone d (offset_of l (i + 1)) l.section l.rewritten) low_of.decided (new.linked.done (i + 1) of.low.below)) in
      let here : two_at l.rewritten o ≡ nop_adr (two_at l.section o) =
      subst (λ n. take 8 (drop n l.rewritten) ≡ nop_adr (take 8 (drop n l.section))) back made in
      take-take 8 8 (drop o l.rewritten) (omega arith)
      ∙ (here ∙ ap nop_adr (sym (take-take 8 8 (drop o l.section) (omega arith))))

  module _ (left : UntouchedInstructions l i (i + 1)) (alone : IsWrittenByNoOther l i (offset_of l i))
      (o : Operands) (place : o.place ≡ sum_64 l.addresses.section (offset_of l i)) where
    pub nop_there : Stands c.new o (two_at l.rewritten (offset_of l i))
    nop_there =
        let gone : IsNamedAs names.R_AARCH64_NONE l i =
        new.linked.relocations i of.page.below ∙ ap (λ d. relocation_after d (relocation_in l.relocations i)) of.page_decided in
        stands_left new i of.page.below gone (left.0) alone (omega (arith, of.low.offset, inside)) o place
        ∙ sym (first_same l.rewritten (offset_of l i))

    pub adr_there : (symbol : Symbol) → slice_get l.symbols (relocation_in l.relocations i).symbol ≡ Some symbol
        → symbol.is_undefined_weak ≡ false → o.symbol ≡ symbol.address → o.addend ≡ (relocation_in l.relocations i).addend
        → Has c.new names.R_AARCH64_ADR_PREL_LO21 (following 4 o) (drop 4 (two_at l.rewritten (offset_of l i)))
    adr_there symbol is_symbol defined symbol_is addend_is =
        let at = place_of l i (i + 1) 4 o place of.low.offset in
        subst (Has c.new names.R_AARCH64_ADR_PREL_LO21 (following 4 o))
        (ap (instruction_at l.rewritten) of.low.offset ∙ sym (second_same l.rewritten (offset_of l i)))
        (has_after new names.R_AARCH64_ADD_ABS_LO12_NC (i + 1) low_of to_nop_adr by (λ o. refl) (λ a. refl) adr_after (left.1)
        symbol (ap (slice_get l.symbols) of.low.symbol ∙ is_symbol) 0 refl (following 4 o)
        (same_value adr_after.row (λ w v. refl) (following 4 o)
        (operands_with AArch64 l.addresses adr_after.row symbol (after l (i + 1) names.R_AARCH64_ADR_PREL_LO21) 0)
        (symbol_is ∙ sym (cond-false symbol.is_undefined_weak _ symbol.address defined)) (addend_is ∙ sym of.low.addend) at)
        at inside)

-- an address is a group
pub address_is_group : Groups → (l : Linked) (c : Code) (new : IsNew l c) (i : ℕ)
    (of : IsAddressRewritten l.relocations l.decisions i) → UntouchedInstructions l i (i + 1)
    → IsWrittenByNoOther l i (offset_of l i) → (k : Kinds) (s : State) (o : Operands)
    (at : ComesTo l s names.R_AARCH64_ADR_PREL_PG_HI21 i o) → at.symbol.is_undefined_weak ≡ false
    → Has c.old names.R_AARCH64_ADR_PREL_PG_HI21 o (two_at l.section (offset_of l i))
    → Has c.old names.R_AARCH64_ADD_ABS_LO12_NC (following 4 o) (object l (i + 1))
    → Leaves 2 c o k s (register (object l (i + 1))) (symbol_address o)
address_is_group laws l c new i of left alone k s o at defined page low_is =
    let p = offset_of l i in
    let are : o ≡ operands_with AArch64 l.addresses page_after.row at.symbol (relocation_in l.relocations i) o.got_entry = at.are in
    let place : o.place ≡ sum_64 l.addresses.section p = ap (λ (x : Operands). x.place) are in
    let second = second_same l.section p ∙ ap (instruction_at l.section) (sym of.low.offset) in
    let word_first : word_of (drop p l.section) ≡ word_of (two_at l.section p) = word_same l.section p ∙ sym (first_same l.section p) in
    let word_second : word_of (drop (offset_of l (i + 1)) l.section) ≡ word_of (drop 4 (two_at l.section p)) =
    word_same l.section (offset_of l (i + 1)) ∙ ap word_of (sym second) in
    let matches = (by new i of).meant.0.1.1.1 in
    let together : IsPair IsAdd64 o (seen s) (two_at l.section p) (drop 4 (two_at l.section p)) =
    record {
      small = at.small;
      at = at.pc;
      one_register =
          rw (← (ap (λ n. word_of (drop n l.section)) (back new i of) ∙ word_first))
          (subst (AreOfOneRegister (word_of (drop (offset_of l (i + 1) - 4) l.section))) word_second (matches.1));
      second_is = subst IsAdd64 word_second (matches.0);
    } in
    rw (← second)
    (laws.nop_and_adr.0 c o k s (two_at l.section p) (two_at l.rewritten p) together (made_two new i of) page
    (subst (Has c.old names.R_AARCH64_ADD_ABS_LO12_NC (following 4 o)) (sym second) low_is)
    (nop_there new i of left alone o place)
    (adr_there new i of left alone o place at.symbol at.is_symbol defined
    (ap (λ (x : Operands). x.symbol) are ∙ cond-false at.symbol.is_undefined_weak _ at.symbol.address defined)
    (ap (λ (x : Operands). x.addend) are)))

-- ---- loads from the GOT, of which a sum is made, or in two phases `nop` and `adr`

abbrev pub got_row : RowInfo
got_row = paged_row entry_pages (signed_row 33 (insn_row GotRelative 12 33 Adr))

abbrev low_after_load : IsAfter names.R_AARCH64_ADD_ABS_LO12_NC
low_after_load = record { row = insn_row AbsoluteLowPart 0 12 Add; is = refl; named = tt; of = of_bits refl refl refl refl refl (λ o. tt) }

abbrev page_kept : AArch64Entry
page_kept = entry kinds.NoOp names.R_AARCH64_ADR_PREL_PG_HI21 (to_address 0)

abbrev to_add : AArch64Entry
to_add = entry kinds.LdrToAdd names.R_AARCH64_ADD_ABS_LO12_NC (to_address 4)

module _ (laws : Groups) {l : Linked} {c : Code} (new : IsNew l c) (i : ℕ)
    (of : IsLoadRewritten l.relocations l.decisions i) (alone : IsRewrittenByNoOther l i (offset_of l i)) where
  abbrev page_of : IsRewrittenOf l names.R_AARCH64_ADR_GOT_PAGE i
  page_of = of_part l i 0 i names.R_AARCH64_ADR_GOT_PAGE kinds.NoOp of.page of.page_decided

  abbrev low_of_load : IsRewrittenOf l names.R_AARCH64_LD64_GOT_LO12_NC (i + 1)
  low_of_load = of_part l i 4 (i + 1) names.R_AARCH64_LD64_GOT_LO12_NC kinds.LdrToAdd of.low of.low_decided

  page_entry : IsOfEntry names.R_AARCH64_ADR_GOT_PAGE page_kept l.section (offset_of l i) page_of.chosen
  page_entry = of_entry new names.R_AARCH64_ADR_GOT_PAGE i page_of tt page_kept refl

  low_entry : IsOfEntry names.R_AARCH64_LD64_GOT_LO12_NC to_add l.section (offset_of l (i + 1)) low_of_load.chosen
  low_entry = of_entry new names.R_AARCH64_LD64_GOT_LO12_NC (i + 1) low_of_load tt to_add refl

  low_inside : offset_of l (i + 1) + 4 ≤ length l.section
  low_inside = low_entry.meant.1.1.1.0

  stayed : instruction_at l.rewritten (offset_of l i) ≡ object l i
  stayed =
      stays l new.linked.made i page_of.chosen page_of.below page_of.decided (ap relaxation_rewrite page_entry.kind_is) alone

  module _ (k : Kinds) (s : State) (o : Operands) (at : ComesTo l s names.R_AARCH64_ADR_GOT_PAGE i o)
      (defined : at.symbol.is_undefined_weak ≡ false) (holds : load_64 s.memory o.got_entry ≡ symbol_address o)
      (page : Has c.old names.R_AARCH64_ADR_GOT_PAGE o (object l i))
      (low_is : Has c.old names.R_AARCH64_LD64_GOT_LO12_NC (following 4 o) (object l (i + 1))) where
    are_load : o ≡ operands_with AArch64 l.addresses got_row at.symbol (relocation_in l.relocations i) o.got_entry
    are_load = at.are

    place_load : o.place ≡ sum_64 l.addresses.section (offset_of l i)
    place_load = ap (λ (x : Operands). x.place) are_load

    symbol_is : o.symbol ≡ at.symbol.address
    symbol_is = ap (λ (x : Operands). x.symbol) are_load ∙ cond-false at.symbol.is_undefined_weak _ at.symbol.address defined

    addend_is : o.addend ≡ (relocation_in l.relocations i).addend
    addend_is = ap (λ (x : Operands). x.addend) are_load

    together : IsPair IsLdr64 o (seen s) (object l i) (object l (i + 1))
    together =
        let back : offset_of l (i + 1) - 4 ≡ offset_of l i = omega (arith, of.low.offset) in
        let second = word_same l.section (offset_of l (i + 1)) in
        record {
          small = at.small;
          at = at.pc;
          one_register =
              rw (← (ap (λ n. word_of (drop n l.section)) back ∙ word_same l.section (offset_of l i)))
              (subst (AreOfOneRegister (word_of (drop (offset_of l (i + 1) - 4) l.section))) second (low_entry.meant.1.1.1.1.1));
          second_is = subst IsLdr64 second (low_entry.meant.1.1.1.1.0);
        }

    -- in one phase
    pub load_is_group : UntouchedInstructions l i (i + 1)
        → Leaves 2 c o k s (register (object l (i + 1))) (symbol_address o)
    load_is_group left =
        let next = place_of l i (i + 1) 4 o place_load of.low.offset in
        laws.loads c o k s (object l i) (object l (i + 1)) (instruction_at l.rewritten (offset_of l (i + 1))) together holds
        (becomes new names.R_AARCH64_LD64_GOT_LO12_NC (i + 1) low_of_load kinds.LdrToAdd is_ldr64 (λ word. 0x91000000 + field word 0 21) refl low_entry.kind_is)
        page low_is
        (subst (Has c.new names.R_AARCH64_ADR_PREL_PG_HI21 o) stayed
        (has_after new names.R_AARCH64_ADR_GOT_PAGE i page_of page_kept page_entry (λ o. refl) (λ a. refl) page_after (left.0)
        at.symbol at.is_symbol 0 refl o
        (same_value page_after.row (λ w v. refl) o
        (operands_with AArch64 l.addresses page_after.row at.symbol (after l i names.R_AARCH64_ADR_PREL_PG_HI21) 0)
        (symbol_is ∙ sym (cond-false at.symbol.is_undefined_weak _ at.symbol.address defined)) addend_is place_load)
        place_load (omega (arith, of.low.offset, low_inside))))
        (has_after new names.R_AARCH64_LD64_GOT_LO12_NC (i + 1) low_of_load to_add low_entry (λ o. refl) (λ a. refl) low_after_load (left.1)
        at.symbol (ap (slice_get l.symbols) of.low.symbol ∙ at.is_symbol) 0 refl (following 4 o)
        (same_value low_after_load.row (λ w v. refl) (following 4 o)
        (operands_with AArch64 l.addresses low_after_load.row at.symbol (after l (i + 1) names.R_AARCH64_ADD_ABS_LO12_NC) 0)
        (symbol_is ∙ sym (cond-false at.symbol.is_undefined_weak _ at.symbol.address defined)) (addend_is ∙ sym of.low.addend) next)
        next low_inside)

    -- in two
    pub load_again_is_group : (x : Section) (w : IsRewrittenAgain x l i) (in_again : IsNew w.again c)
        → w.again.addresses ≡ l.addresses → w.again.symbols ≡ l.symbols
        → Leaves 2 c o k s (register (object l (i + 1))) (symbol_address o)
    load_again_is_group x w in_again same_addresses same_symbols =
        let m = w.again in
        let named : relocation_in m.relocations i ≡ relocation_in l.relocations_after i = w.relocation in
        let was = named ∙ named_after new names.R_AARCH64_ADR_GOT_PAGE i page_of page_kept page_entry (λ o. refl) (λ a. refl) in
        let there : offset_of m i ≡ offset_of l i = ap (λ (r : Rela). r.offset) was in
        let here : o.place ≡ sum_64 m.addresses.section (offset_of m i) = cc in
        laws.load_to_nop_and_adr c o k s (object l i) (object l (i + 1)) (two_at m.section (offset_of m i)) (two_at m.rewritten (offset_of m i)) together holds
        (ap (λ n. word_of (two_at m.section n)) there
        ∙ (ap word_of w.bytes ∙ (first_same l.rewritten (offset_of l i) ∙ ap word_of stayed)))
        (made_two in_again i w.address) page low_is
        (nop_there in_again i w.address w.untouched w.alone o here)
        (adr_there in_again i w.address w.untouched w.alone o here at.symbol
        (ap (λ symbols. slice_get symbols (relocation_in m.relocations i).symbol) same_symbols
        ∙ (ap (λ (r : Rela). slice_get l.symbols r.symbol) was ∙ at.is_symbol))
        defined symbol_is (addend_is ∙ sym (ap (λ (r : Rela). r.addend) was)))

-- ---- choices

same_kind : (k : Relaxation) (x y : RewriteKind) → k ≡ relaxations.AArch64 x → k ≡ relaxations.AArch64 y
    → x ≡ y
same_kind k x y is_x is_y = let both : relaxations.AArch64 x ≡ relaxations.AArch64 y = sym is_x ∙ is_y in cc

-- what the entries of a name show
shown : {Q : Type 0} (name : AArch64Relocation) (section : List ℕ) (o : ℕ) (chosen : Choice Relaxation ℕ)
    → IsOfOne name (aarch64_entries name) section o chosen
    → Cases Q (λ e. IsOfEntry name e section o chosen) (aarch64_entries name) → Q
shown name section o chosen = by_cases aarch64_name relaxations.AArch64 (IsMeant name section o) chosen (aarch64_entries name)

abbrev erased_by : List (Condition AArch64Relocation) → AArch64Entry
erased_by conditions = entry kinds.ReplaceWithNop names.R_AARCH64_NONE conditions

-- one of those that put `nop` in its place
erased : (name : AArch64Relocation) (x : List (Condition AArch64Relocation)) (section : List ℕ) (o : ℕ) (chosen : Choice Relaxation ℕ)
    → IsOfEntry name (erased_by x) section o chosen → IsOfEntry name (erased_by []) section o chosen
erased name x section o chosen this = record { kind_is = this.kind_is; r_type_is = this.r_type_is; meant = this.meant }

-- ---- the sequence

-- an instruction that goes
module _ {l : Linked} {c : Code} (new : IsNew l c) (name : AArch64Relocation) (j : ℕ) (of : IsRewrittenOf l name j)
    (by : IsOfEntry name (erased_by []) l.section (offset_of l j) of.chosen) (left : UntouchedInstruction l j)
    (alone : IsWrittenByNoOther l j (offset_of l j)) (o : Operands)
    (place : o.place ≡ sum_64 l.addresses.section (offset_of l j)) where
  nop_there_descriptor : Stands c.new o (instruction_at l.rewritten (offset_of l j))
  nop_there_descriptor =
      stands_left new j of.below (named_after new name j of (erased_by []) by (λ o. refl) (λ a. refl)) left alone
      (by.meant.0.0) o place

module _ {l : Linked} {c : Code} (new : IsNew l c) (high_is low_is : RewriteKind) (i : ℕ)
    (of : IsDescriptorRewritten high_is low_is l.relocations l.decisions i) where
  abbrev page_of_descriptor : IsRewrittenOf l names.R_AARCH64_TLSDESC_ADR_PAGE21 i
  page_of_descriptor = of_part l i 0 i names.R_AARCH64_TLSDESC_ADR_PAGE21 high_is of.page of.page_decided

  abbrev load_of : IsRewrittenOf l names.R_AARCH64_TLSDESC_LD64_LO12 (i + 1)
  load_of = of_part l i 4 (i + 1) names.R_AARCH64_TLSDESC_LD64_LO12 low_is of.load of.load_decided

  abbrev add_of : IsRewrittenOf l names.R_AARCH64_TLSDESC_ADD_LO12 (i + 2)
  add_of = of_part l i 8 (i + 2) names.R_AARCH64_TLSDESC_ADD_LO12 kinds.ReplaceWithNop of.add of.add_decided

  abbrev call_of : IsRewrittenOf l names.R_AARCH64_TLSDESC_CALL (i + 3)
  call_of = of_part l i 12 (i + 3) names.R_AARCH64_TLSDESC_CALL kinds.ReplaceWithNop of.call of.call_decided

  ends : IsDescriptorLeft l i → (o : Operands) → o.place ≡ sum_64 l.addresses.section (offset_of l i)
      → EndsInNops c o (object l (i + 2)) (object l (i + 3)) (instruction_at l.rewritten (offset_of l (i + 2)))
      (instruction_at l.rewritten (offset_of l (i + 3)))
  ends left o place =
      let add = names.R_AARCH64_TLSDESC_ADD_LO12 in
      let call_is = names.R_AARCH64_TLSDESC_CALL in
      record {
        first_made = becomes new add (i + 2) add_of kinds.ReplaceWithNop (λ _. true) (λ _. nop) refl of.add_decided.kind_is;
        second_made = becomes new call_is (i + 3) call_of kinds.ReplaceWithNop (λ _. true) (λ _. nop) refl of.call_decided.kind_is;
        first =
            nop_there_descriptor new add (i + 2) add_of
            (shown add l.section (offset_of l (i + 2)) add_of.chosen (of_one new add (i + 2) add_of tt) (λ this. erased add to_local_exec l.section (offset_of l (i + 2)) add_of.chosen this, (λ this. erased add (to_initial_exec 8) l.section (offset_of l (i + 2)) add_of.chosen this, tt)))
            left.second.0 left.add (following 8 o) (place_of l i (i + 2) 8 o place of.add.offset);
        second =
            nop_there_descriptor new call_is (i + 3) call_of
            (shown call_is l.section (offset_of l (i + 3)) call_of.chosen (of_one new call_is (i + 3) call_of tt) (λ this. erased call_is to_local_exec l.section (offset_of l (i + 3)) call_of.chosen this, (λ this. erased call_is (to_initial_exec 12) l.section (offset_of l (i + 3)) call_of.chosen this, tt)))
            left.second.1 left.call (following 12 o) (place_of l i (i + 3) 12 o place of.call.offset);
      }

-- for local-exec
pub local_is_group : Groups → (l : Linked) (c : Code) (new : IsNew l c) (i : ℕ)
    (of : IsDescriptorRewritten kinds.MovzX0Lsl16 kinds.MovkX0 l.relocations l.decisions i) (k k' : Kinds)
    (s s' : State) (o : Operands) → ComesTo l s names.R_AARCH64_TLSLE_MOVW_TPREL_G1 i o → IsDescriptorLeft l i
    → Descriptor c o (thread_offset o) k s k' s' (object l i) (object l (i + 1)) (object l (i + 2)) (object l (i + 3))
    → Group (of_link (link c)) 4 k s k' s'
local_is_group laws l c new i of k k' s s' o at left described =
    let are : o ≡ operands_with AArch64 l.addresses high_after.row at.symbol (relocation_in l.relocations i) o.got_entry = at.are in
    let place : o.place ≡ sum_64 l.addresses.section (offset_of l i) = ap (λ (x : Operands). x.place) are in
    let page = names.R_AARCH64_TLSDESC_ADR_PAGE21 in
    let load_is = names.R_AARCH64_TLSDESC_LD64_LO12 in
    let to_high = entry kinds.MovzX0Lsl16 names.R_AARCH64_TLSLE_MOVW_TPREL_G1 to_local_exec in
    let to_low = entry kinds.MovkX0 names.R_AARCH64_TLSLE_MOVW_TPREL_G0_NC to_local_exec in
    let is_page = page_of_descriptor new kinds.MovzX0Lsl16 kinds.MovkX0 i of in
    let is_load = load_of new kinds.MovzX0Lsl16 kinds.MovkX0 i of in
    let by_high : IsOfEntry page to_high l.section (offset_of l i) is_page.chosen =
    shown page l.section (offset_of l i) is_page.chosen (of_one new page i is_page tt)
    (λ this. this, (λ this. absurd (let e : kinds.MovzX0Lsl16 ≡ kinds.AdrpX0 = same_kind is_page.chosen.kind kinds.MovzX0Lsl16 kinds.AdrpX0 of.page_decided.kind_is this.kind_is in cc), tt)) in
    let by_low : IsOfEntry load_is to_low l.section (offset_of l (i + 1)) is_load.chosen =
    shown load_is l.section (offset_of l (i + 1)) is_load.chosen (of_one new load_is (i + 1) is_load tt)
    (λ this. this, (λ this. absurd (let e : kinds.MovkX0 ≡ kinds.LdrX0 = same_kind is_load.chosen.kind kinds.MovkX0 kinds.LdrX0 of.load_decided.kind_is this.kind_is in cc), tt)) in
    laws.descriptor_to_local_exec c o k k' s s' (object l i) (object l (i + 1)) (object l (i + 2)) (object l (i + 3))
    (instruction_at l.rewritten (offset_of l i)) (instruction_at l.rewritten (offset_of l (i + 1)))
    (instruction_at l.rewritten (offset_of l (i + 2))) (instruction_at l.rewritten (offset_of l (i + 3))) described
    (ends new kinds.MovzX0Lsl16 kinds.MovkX0 i of left o place)
    (becomes new page i is_page kinds.MovzX0Lsl16 (λ _. true) (λ _. 0xd2a00000) refl of.page_decided.kind_is)
    (becomes new load_is (i + 1) is_load kinds.MovkX0 (λ _. true) (λ _. 0xf2800000) refl of.load_decided.kind_is)
    (has_after new page i is_page to_high by_high (λ o. refl) (λ a. refl) high_after (left.first.0)
    at.symbol at.is_symbol 0 refl o (ap (value_of high_after.row) are) place (by_high.meant.0.0))
    (has_after new load_is (i + 1) is_load to_low by_low (λ o. refl) (λ a. refl) low_after (left.first.1)
    at.symbol (ap (slice_get l.symbols) of.load.symbol ∙ at.is_symbol) 0 refl (following 4 o)
    (ap (λ w. value_of low_after.row (following 4 w)) are
    ∙ ap (λ x. value_of low_after.row (operands_with AArch64 l.addresses low_after.row at.symbol (record (after l (i + 1) names.R_AARCH64_TLSLE_MOVW_TPREL_G0_NC) { addend = x }) 0)) (sym of.load.addend))
    (place_of l i (i + 1) 4 o place of.load.offset) (by_low.meant.0.0))

-- ---- for initial-exec

abbrev page_after_descriptor : IsAfter names.R_AARCH64_TLSIE_ADR_GOTTPREL_PAGE21
page_after_descriptor = record { row = paged_row entry_pages (signed_row 33 (insn_row GotTpOff 12 33 Adr)); is = refl; named = tt; of = of_bits refl refl refl refl refl (λ o. tt) }

abbrev load_after : IsAfter names.R_AARCH64_TLSIE_LD64_GOTTPREL_LO12_NC
load_after = record { row = aligned_row 8 (insn_row GotTpOffGot 3 12 LdrRegister); is = refl; named = tt; of = of_bits refl refl refl refl refl (λ o. tt) }

pub initial_is_group : Groups → (l : Linked) (c : Code) (new : IsNew l c) (i : ℕ)
    (of : IsDescriptorRewritten kinds.AdrpX0 kinds.LdrX0 l.relocations l.decisions i) (k k' : Kinds)
    (s s' : State) (o : Operands) (offset : ℕ) (at : ComesTo l s names.R_AARCH64_TLSLE_MOVW_TPREL_G1 i o)
    → IsDescriptorLeft l i → at.symbol.thread_entry < 2 ^ 64
    → ((t : State) → Agree (link c) k s t → load_64 t.memory at.symbol.thread_entry ≡ offset)
    → Descriptor c o offset k s k' s' (object l i) (object l (i + 1)) (object l (i + 2)) (object l (i + 3))
    → Group (of_link (link c)) 4 k s k' s'
initial_is_group laws l c new i of k k' s s' o offset at left small holds described =
    let r = relocation_in l.relocations i in
    let symbol = at.symbol in
    let e = symbol.thread_entry in
    let are : o ≡ operands_with AArch64 l.addresses high_after.row symbol r o.got_entry = at.are in
    let place : o.place ≡ sum_64 l.addresses.section (offset_of l i) = ap (λ (x : Operands). x.place) are in
    let page = names.R_AARCH64_TLSDESC_ADR_PAGE21 in
    let load_is = names.R_AARCH64_TLSDESC_LD64_LO12 in
    let to_page = entry kinds.AdrpX0 names.R_AARCH64_TLSIE_ADR_GOTTPREL_PAGE21 (to_initial_exec 0) in
    let to_load = entry kinds.LdrX0 names.R_AARCH64_TLSIE_LD64_GOTTPREL_LO12_NC (to_initial_exec 4) in
    let is_page = page_of_descriptor new kinds.AdrpX0 kinds.LdrX0 i of in
    let is_load = load_of new kinds.AdrpX0 kinds.LdrX0 i of in
    let by_page : IsOfEntry page to_page l.section (offset_of l i) is_page.chosen =
    shown page l.section (offset_of l i) is_page.chosen (of_one new page i is_page tt)
    (λ this. absurd (let e : kinds.AdrpX0 ≡ kinds.MovzX0Lsl16 = same_kind is_page.chosen.kind kinds.AdrpX0 kinds.MovzX0Lsl16 of.page_decided.kind_is this.kind_is in cc), (λ this. this, tt)) in
    let by_load : IsOfEntry load_is to_load l.section (offset_of l (i + 1)) is_load.chosen =
    shown load_is l.section (offset_of l (i + 1)) is_load.chosen (of_one new load_is (i + 1) is_load tt)
    (λ this. absurd (let e : kinds.LdrX0 ≡ kinds.MovkX0 = same_kind is_load.chosen.kind kinds.LdrX0 kinds.MovkX0 of.load_decided.kind_is this.kind_is in cc), (λ this. this, tt)) in
    let there : is_there l.addresses symbol (record { class = ThreadOffset; addend = r.addend }) ≡ true =
    entry_there new i is_page.below names.R_AARCH64_TLSIE_ADR_GOTTPREL_PAGE21 page_after_descriptor
    (named_after new page i is_page to_page by_page (λ o. refl) (λ a. refl)) (left.first.0) symbol at.is_symbol
    (record { class = ThreadOffset; addend = r.addend }) refl in
    laws.descriptor_to_initial_exec c o offset e k k' s s' (object l i) (object l (i + 1)) (object l (i + 2)) (object l (i + 3))
    (instruction_at l.rewritten (offset_of l i)) (instruction_at l.rewritten (offset_of l (i + 1)))
    (instruction_at l.rewritten (offset_of l (i + 2))) (instruction_at l.rewritten (offset_of l (i + 3))) described
    (ends new kinds.AdrpX0 kinds.LdrX0 i of left o place) small holds
    (becomes new page i is_page kinds.AdrpX0 (λ _. true) (λ _. 0x90000000) refl of.page_decided.kind_is)
    (becomes new load_is (i + 1) is_load kinds.LdrX0 (λ _. true) (λ _. 0xf9400000) refl of.load_decided.kind_is)
    (has_after new page i is_page to_page by_page (λ o. refl) (λ a. refl) page_after_descriptor (left.first.0) symbol at.is_symbol e
    (ap (λ b. operands_by AArch64 l.addresses page_after_descriptor.row (after l i names.R_AARCH64_TLSIE_ADR_GOTTPREL_PAGE21) symbol (cond b (Some e) None)) there)
    (with_entry e o) (ap (λ w. value_of page_after_descriptor.row (with_entry e w)) are) place (by_page.meant.0.0))
    (has_after new load_is (i + 1) is_load to_load by_load (λ o. refl) (λ a. refl) load_after (left.first.1) symbol
    (ap (slice_get l.symbols) of.load.symbol ∙ at.is_symbol) e
    (ap (λ b. operands_by AArch64 l.addresses load_after.row (after l (i + 1) names.R_AARCH64_TLSIE_LD64_GOTTPREL_LO12_NC) symbol (cond b (Some e) None))
    (subst (λ x. is_there l.addresses symbol (record { class = ThreadOffset; addend = x }) ≡ true) (sym of.load.addend) there))
    (following 4 (with_entry e o))
    (ap (λ w. value_of load_after.row (following 4 (with_entry e w))) are
    ∙ ap (λ x. value_of load_after.row (operands_with AArch64 l.addresses load_after.row symbol (record (after l (i + 1) names.R_AARCH64_TLSIE_LD64_GOTTPREL_LO12_NC) { addend = x }) e)) (sym of.load.addend))
    (place_of l i (i + 1) 4 o place of.load.offset) (by_load.meant.0.0))

-- ---- what stands at a place

module _ (l : Linked) (linked : IsLinked l) (aarch64 : l.context.architecture ≡ AArch64) where
  -- the relocation at an index is that of one of the instructions that are rewritten together
  record IsPart (i : ℕ) : Type 0 where
    pub g : Rewrites l
    pub first : (span l g).0 ≤ offset_of l i
    pub last : offset_of l i + 4 ≤ (span l g).0 + 4 * (span l g).1

  abbrev IsLocal : ℕ → Type 0
  IsLocal = IsDescriptorRewritten kinds.MovzX0Lsl16 kinds.MovkX0 l.relocations l.decisions

  abbrev IsInitial : ℕ → Type 0
  IsInitial = IsDescriptorRewritten kinds.AdrpX0 kinds.LdrX0 l.relocations l.decisions

  in_at : (i j n : ℕ) → j ≡ i → (g : Rewrites l) → n < (span l g).1 → offset_of l j ≡ (span l g).0 + 4 * n
      → IsPart i
  in_at i j n e g less is =
      let there : offset_of l i ≡ (span l g).0 + 4 * n = ap (offset_of l) (sym e) ∙ is in
      record { g = g; first = omega (arith, there); last = omega (arith, there, less) }

  whole : (i : ℕ) (name : AArch64Relocation) → i < count l → decision_at l.decisions i ≢ Kept
      → IsNameOf aarch64_name (relocation_in l.relocations i).r_type name
      → IsWholeBy name l.relocations l.decisions i
  whole i name below changed is_name =
      sequences_are_whole l.context l.kept l.relocations l.section l.decisions i name aarch64 linked.decided below is_name changed

  decision_in : (i : ℕ) (name : AArch64Relocation) (phase : Phase) → i < count l
      → IsNameOf aarch64_name (relocation_in l.relocations i).r_type name → l.context.phase ≡ phase
      → IsScopeDecision l.context l.kept l.relocations l.section i (relocation_in l.relocations i) (aarch64_scope_in phase name) (decision_at l.decisions i)
  decision_in i name phase =
      in_phase l.context aarch64 l.kept l.relocations l.section l.decisions linked.decided i name phase

  -- an instruction that is rewritten by itself
  half_of : (i : ℕ) (name : AArch64Relocation) → i < count l → decision_at l.decisions i ≢ Kept
      → IsNameOf aarch64_name (relocation_in l.relocations i).r_type name
      → IsScopeDecision l.context l.kept l.relocations l.section i (relocation_in l.relocations i) (Grouped groups.InitialExec) (decision_at l.decisions i)
      → IsRewrittenOf l name i
  half_of i name below changed is_name is =
      let made = (of_group l.context aarch64 l.kept l.relocations l.section l.decisions linked.decided i
      (group_stays l.kept groups.InitialExec (relocation_in l.relocations i).symbol) is changed).1 in
      record { below = below; is_name = is_name; chosen = made.chosen; decided = made.decided_so }

  branch_of : (i : ℕ) (name : AArch64Relocation) → i < count l → decision_at l.decisions i ≢ Kept
      → IsNameOf aarch64_name (relocation_in l.relocations i).r_type name
      → IsScopeDecision l.context l.kept l.relocations l.section i (relocation_in l.relocations i) Independent (decision_at l.decisions i)
      → IsRewrittenOf l name i
  branch_of i name below changed is_name is =
      let made = of_option l.context aarch64 l.kept l.relocations l.section l.decisions linked.decided i (is.0) (is.1) (is.2) changed in
      record { below = below; is_name = is_name; chosen = made.chosen; decided = made.decided_so }

  -- an instruction of a descriptor
  in_descriptor : (i j n : ℕ) → (n ≤ i) × (IsLocal (i - n) ⊎ IsInitial (i - n)) → (n ≤ i → j ≡ i) → n < 4
      → (IsLocal (i - n) → offset_of l j ≡ offset_of l (i - n) + 4 * n)
      → (IsInitial (i - n) → offset_of l j ≡ offset_of l (i - n) + 4 * n) → IsPart i
  in_descriptor i j n (le, inl w) same less as_local as_initial = in_at i j n (same le) (to_local (i - n) w) less (as_local w)
  in_descriptor i j n (le, inr w) same less as_local as_initial = in_at i j n (same le) (to_initial (i - n) w) less (as_initial w)

  -- by the phase and the name
  early_in : (i : ℕ) → i < count l → decision_at l.decisions i ≢ Kept → l.context.phase ≡ phases.PreLayout
      → (name : AArch64Relocation) → IsNameOf aarch64_name (relocation_in l.relocations i).r_type name → IsPart i
  early_in i below changed early names.R_AARCH64_TLSDESC_ADR_PAGE21 is_name =
      in_descriptor i (i - 0) 0 (whole i names.R_AARCH64_TLSDESC_ADR_PAGE21 below changed is_name) (λ le. omega (arith, le)) (omega arith)
      (λ w. w.page.offset) (λ w. w.page.offset)
  early_in i below changed early names.R_AARCH64_TLSDESC_LD64_LO12 is_name =
      in_descriptor i (i - 1 + 1) 1 (whole i names.R_AARCH64_TLSDESC_LD64_LO12 below changed is_name) (λ le. omega (arith, le)) (omega arith)
      (λ w. w.load.offset) (λ w. w.load.offset)
  early_in i below changed early names.R_AARCH64_TLSDESC_ADD_LO12 is_name =
      in_descriptor i (i - 2 + 2) 2 (whole i names.R_AARCH64_TLSDESC_ADD_LO12 below changed is_name) (λ le. omega (arith, le)) (omega arith)
      (λ w. w.add.offset) (λ w. w.add.offset)
  early_in i below changed early names.R_AARCH64_TLSDESC_CALL is_name =
      in_descriptor i (i - 3 + 3) 3 (whole i names.R_AARCH64_TLSDESC_CALL below changed is_name) (λ le. omega (arith, le)) (omega arith)
      (λ w. w.call.offset) (λ w. w.call.offset)
  early_in i below changed early names.R_AARCH64_TLSIE_ADR_GOTTPREL_PAGE21 is_name =
      let name = names.R_AARCH64_TLSIE_ADR_GOTTPREL_PAGE21 in
      in_at i i 0 refl (high i (half_of i name below changed is_name (decision_in i name phases.PreLayout below is_name early)))
      (omega arith) (omega arith)
  early_in i below changed early names.R_AARCH64_TLSIE_LD64_GOTTPREL_LO12_NC is_name =
      let name = names.R_AARCH64_TLSIE_LD64_GOTTPREL_LO12_NC in
      in_at i i 0 refl (low i (half_of i name below changed is_name (decision_in i name phases.PreLayout below is_name early)))
      (omega arith) (omega arith)
  early_in i below changed early names.R_AARCH64_JUMP26 is_name =
      let name = names.R_AARCH64_JUMP26 in
      in_at i i 0 refl (jump i (branch_of i name below changed is_name (decision_in i name phases.PreLayout below is_name early)))
      (omega arith) (omega arith)
  early_in i below changed early names.R_AARCH64_CALL26 is_name =
      let name = names.R_AARCH64_CALL26 in
      in_at i i 0 refl (call i (branch_of i name below changed is_name (decision_in i name phases.PreLayout below is_name early)))
      (omega arith) (omega arith)
  early_in i below changed early name is_name =
      absurd (changed (decision_in i name phases.PreLayout below is_name early))

  late_in : (i : ℕ) → i < count l → decision_at l.decisions i ≢ Kept → l.context.phase ≡ phases.GotToPcRel
      → (name : AArch64Relocation) → IsNameOf aarch64_name (relocation_in l.relocations i).r_type name → IsPart i
  late_in i below changed late names.R_AARCH64_ADR_GOT_PAGE is_name =
      let w = (whole i names.R_AARCH64_ADR_GOT_PAGE below changed is_name).1 in
      in_at i (i - 0) 0 (omega arith) (load (i - 0) w) (omega arith) w.page.offset
  late_in i below changed late names.R_AARCH64_LD64_GOT_LO12_NC is_name =
      let w = whole i names.R_AARCH64_LD64_GOT_LO12_NC below changed is_name in
      in_at i (i - 1 + 1) 1 (omega (arith, w.0)) (load (i - 1) (w.1)) (omega arith) (w.1).low.offset
  late_in i below changed late name is_name =
      absurd (changed (decision_in i name phases.GotToPcRel below is_name late))

  short_in : (i : ℕ) → i < count l → decision_at l.decisions i ≢ Kept → l.context.phase ≡ phases.ShortPcRel
      → (name : AArch64Relocation) → IsNameOf aarch64_name (relocation_in l.relocations i).r_type name → IsPart i
  short_in i below changed short names.R_AARCH64_ADR_PREL_PG_HI21 is_name =
      let w = (whole i names.R_AARCH64_ADR_PREL_PG_HI21 below changed is_name).1 in
      in_at i (i - 0) 0 (omega arith) (address (i - 0) w) (omega arith) w.page.offset
  short_in i below changed short names.R_AARCH64_ADD_ABS_LO12_NC is_name =
      let w = whole i names.R_AARCH64_ADD_ABS_LO12_NC below changed is_name in
      in_at i (i - 1 + 1) 1 (omega (arith, w.0)) (address (i - 1) (w.1)) (omega arith) (w.1).low.offset
  short_in i below changed short name is_name =
      absurd (changed (decision_in i name phases.ShortPcRel below is_name short))

  by_phase : (i : ℕ) → i < count l → decision_at l.decisions i ≢ Kept → (p : Phase) → l.context.phase ≡ p
      → (name : AArch64Relocation) → IsNameOf aarch64_name (relocation_in l.relocations i).r_type name → IsPart i
  by_phase i below changed phases.PreLayout is = early_in i below changed is
  by_phase i below changed phases.TlsLocalExec is =
      λ name is_name. absurd (changed (decision_in i name phases.TlsLocalExec below is_name is))
  by_phase i below changed phases.GotToPcRel is = late_in i below changed is
  by_phase i below changed phases.ShortPcRel is = short_in i below changed is

pub are_in : AreIn rewriting
are_in l linked aarch64 b =
    beside_or l b (λ i below changed from less.
    let is = scope_there l.context aarch64 l.kept l.relocations l.section l.decisions linked.decided i below in
    let w = by_phase l linked aarch64 i below changed l.context.phase refl is.name is.is_name in
    record { g = w.g; first = omega (arith, w.first, from); last = omega (arith, w.last, less) })

-- ---- groups

module _ (laws : Groups) (x : Section) (called : AreCalled rewriting x) (c : Code)
    (final : HasFinal x.addresses x.final c) where
  is_new : (l : Linked) → IsPhase x l → IsNew l c
  is_new l is =
      record {
        linked = is_linked rewriting x called l is;
        aarch64 = called.architecture l is;
        final = final_in (λ addresses final. HasFinal addresses final c) x l is final;
      }

  group_of : (l : Linked) → IsPhase x l → (k : Kinds) (s : State) (g : Rewrites l) (k' : Kinds) (s' : State)
      → Begins x l c k s g k' s' → Group (of_link (link c)) (span l g).1 k s k' s'
  group_of l is k s g k' s' (at_load i of o at defined alone (inl left) holds page low_part) =
      load_is_group laws (is_new l is) i of alone k s o at defined holds page low_part left
  group_of l is k s g k' s' (at_load i of o at defined alone (inr w) holds page low_part) =
      let here = is_of x.phases x l is in
      let there = is_of x.phases x w.again w.is_phase in
      load_again_is_group laws (is_new l is) i of alone k s o at defined holds page low_part x w
      (is_new w.again w.is_phase) (there.addresses ∙ sym here.addresses) (there.symbols ∙ sym here.symbols)
  group_of l is k s g k' s' (at_address i of o at defined left alone page low_part) =
      address_is_group laws l c (is_new l is) i of left alone k s o at defined page low_part
  group_of l is k s g k' s' (at_local i of o k1 s1 at left described) =
      local_is_group laws l c (is_new l is) i of k k' s s' o at left described
  group_of l is k s g k' s' (at_initial i of o k1 s1 offset at left small holds described) =
      initial_is_group laws l c (is_new l is) i of k k' s s' o offset at left small holds described
  group_of l is k s g k' s' (at_high i h of o at left entry_is offset_is not_31 has) =
      high_is_group laws (is_new l is) i left k s o h at entry_is offset_is of not_31 has
  group_of l is k s g k' s' (at_low i h of o at left entry_is offset_is holds known has_page has) =
      low_is_group laws (is_new l is) i left k s o h at entry_is offset_is of holds known has_page has
  group_of l is k s g k' s' (at_jump i of o at left alone goes_on has) =
      branch_is_group laws (is_new l is) i left k s o names.R_AARCH64_JUMP26 tt refl is_b (λ pattern. eq-eqb _ _ (pattern.1))
      (λ k. k) go_to (laws.branches.0) of at (ap (λ (w : Operands). w.place) at.are) alone goes_on has
  group_of l is k s g k' s' (at_call i of o at left alone goes_on has) =
      branch_is_group laws (is_new l is) i left k s o names.R_AARCH64_CALL26 tt refl is_bl (λ pattern. eq-eqb _ _ (pattern.1))
      (with_register 30 anything) go_and_link (laws.branches.1) of at (ap (λ (w : Operands). w.place) at.are) alone goes_on has

pub rewrites_are_groups : Groups → RewritesAreGroups rewriting
rewrites_are_groups laws x c called l is k s g n k' s' begins =
    rw begins.0 (group_of laws x called c (begins.1) l is k s g k' s' (begins.2))
