-- The groups of AArch64's program that the calls link.
use Rattle.linker_final.proofs.Imports.{AARCH64_OBJECT, AARCH64_RELOCATIONS, AArch64, AArch64Relocation, Addresses, All-cons, All-nil, AreAddresses, AreLinked, Begins, ComesTo, Decision, Grouped, HasFinal, HasGroups, IsGroupDecision, IsGroupOf, IsLinked, IsLoadRewritten, IsNameOf, IsNamed, IsOutside, IsPhase, IsPhaseOf, IsRewrittenBy, IsRewrittenByNoOther, IsRewrittenOf, IsScopeDecision, Kept, Kinds, Linked, List, Operands, Phase, Rela, RewriteKind, Rewrites, RewritingPhase, Rewritten, Section, Some, State, Symbol, UntouchedInPhase, UntouchedInstruction, [], aarch64_name, aarch64_scope_in, addresses as small, ap, arith, at_high, at_load, at_low, cases_lt, code_at, count, decision_at, entry, eqb, eqb-true, false, following, group_stays, half, halves, high, in_phase, inl, inr, instruction_at, ints, length, linked_by, lit<, lit≤, load, loaded, low, named_at, no_addresses, none_stays, object, offset_of, operands_with, place_sum, pos, put, r_type_of, refl, register, relaxation_rewrite, relocated, relocation_in, replicate, rewriting, same, sequences_are_whole, slice_get, span, subst, suc, sum_64, sym, true, window_of, window_of_rewrite, with_register, word_of, zero, ℕ, ◌+◌, ◌/◌, ◌<◌, ◌∙◌, ◌∷◌, ◌≡◌, ◌≤◌, ◌⊎◌}
use Rattle.linker_laws.specs.AArch64Groups.{Has, IsRelocated}
use Rattle.linker_utils.specs.AArch64Rewrites.{AArch64Entry, halves_to_local_exec}
use Rattle.linker_final.proofs.AArch64.{IsNew, IsOfEntry, got_row, high_after as left_high, named_after, of_entry}
use Rattle.linker_final.proofs.Written.{rela, same_windows}
use Rattle.linker_laws.specs.AArch64GroupsWorked.{known, starting}
use Rattle.linker_laws.proofs.X86Bytes.{below as below_each}
use Rattle.linker_rewriting.specs.declared.groups.Group.{Group}
use Rattle.linker_elf.specs.declared.aarch64.relocations.AArch64Relocation.TheVariants as names
use Rattle.linker_rewriting.specs.declared.groups.Group.TheVariants as groups
use Rattle.linker_rewriting.specs.declared.phases.Phase.TheVariants as phases
use Rattle.linker_utils.specs.declared.aarch64.rewrites.RewriteKind.TheVariants as kinds
use Rattle.linker_utils.specs.declared.architecture.Relaxation.TheVariants as relaxations

-- ---- four relocations

four : (P : ℕ → Type 0) → P 0 → P 1 → P 2 → P 3 → (j : ℕ) → j < 4 → P j
four P a b c d zero below = a
four P a b c d (suc zero) below = b
four P a b c d (suc (suc zero)) below = c
four P a b c d (suc (suc (suc zero))) below = d
four P a b c d (suc (suc (suc (suc j)))) below = absurd (omega (arith, below))

-- a rewrite of n bytes at an offset has none there
outside_by : (relocations : List ℕ) (decisions : List Decision) (j at o n : ℕ)
    → window_of (decision_at decisions j) ≡ record { back = 0; len = n }
    → (relocation_in relocations j).offset ≡ o → (at < o) ⊎ (o + n ≤ at) → IsOutside relocations decisions j at
outside_by relocations decisions j at o n is there apart =
    rw is (elim apart [
      | inl before ↦ inl (omega (arith, there, before))
      | inr past ↦ inr (omega (arith, there, past))
    ])

window_by : (kind : RewriteKind) (d : Decision) → IsRewrittenBy kind d
    → window_of d ≡ window_of_rewrite (relaxation_rewrite (relaxations.AArch64 kind))
window_by kind d by = ap window_of by.decided ∙ ap (λ k. window_of_rewrite (relaxation_rewrite k)) by.kind_is

-- ---- a program

abbrev addresses : Addresses
addresses = record no_addresses { section = 0x400000; thread_origin = 0x420000; has_tls = true }

abbrev variable : Symbol
variable =
    record {
      address = 0x420120;
      size = 0;
      stub = 0;
      address_entry = 0x411010;
      thread_entry = 0;
      module_entry = 0;
      descriptor = 0;
      entry_addend = pos 0;
      other = 0;
      is_thread_local = false;
      is_undefined_weak = false;
    }

abbrev thread_variable : Symbol
thread_variable =
    record variable { address = 0x432344; address_entry = 0; thread_entry = 0x411018; is_thread_local = true }

abbrev relocation : ℕ → Rela
relocation = relocation_in AARCH64_RELOCATIONS

abbrev high_name : AArch64Relocation
high_name = names.R_AARCH64_TLSIE_ADR_GOTTPREL_PAGE21

abbrev low_name : AArch64Relocation
low_name = names.R_AARCH64_TLSIE_LD64_GOTTPREL_LO12_NC

abbrev high_after : AArch64Relocation
high_after = names.R_AARCH64_TLSLE_MOVW_TPREL_G1

abbrev low_after : AArch64Relocation
low_after = names.R_AARCH64_TLSLE_MOVW_TPREL_G0_NC

abbrev high_entry : AArch64Entry
high_entry = entry kinds.MovzXnLsl16 high_after halves_to_local_exec

abbrev low_entry : AArch64Entry
low_entry = entry kinds.MovkXn low_after halves_to_local_exec

-- ---- relocations that are applied

has : (name : AArch64Relocation) (o : Operands) (before after : List ℕ) → IsRelocated name o before after
    → loaded 4 halves.old o.place ≡ word_of after → Has halves.old name o before
has name o before after applied stands = record { relocated = after; applied = applied; stands = stands }

abbrev of_load : Operands
of_load = operands_with AArch64 addresses got_row variable (relocation 0) 0x411010

abbrev of_high : Operands
of_high = operands_with AArch64 addresses left_high.row thread_variable (relocation 2) 0x411018

abbrev of_low : Operands
of_low = operands_with AArch64 addresses left_high.row thread_variable (relocation 3) 0x411018

page_has : Has halves.old names.R_AARCH64_ADR_GOT_PAGE of_load (0x0 ∷ 0x0 ∷ 0x0 ∷ 0x90 ∷ [])
unfolding place_sum
page_has =
    has names.R_AARCH64_ADR_GOT_PAGE of_load _ (0x80 ∷ 0x0 ∷ 0x0 ∷ 0xb0 ∷ [])
    (relocated _ _ _ (pos 0x11000) 0x90000000 refl refl (lit≤ tt) (refl, tt, λ e. refl)
    ((omega (arith, ints), omega (arith, ints)), lit< tt, tt) refl refl) refl

rest_has : Has halves.old names.R_AARCH64_LD64_GOT_LO12_NC (following 4 of_load) (0x0 ∷ 0x0 ∷ 0x40 ∷ 0xf9 ∷ [])
unfolding place_sum
rest_has =
    has names.R_AARCH64_LD64_GOT_LO12_NC (following 4 of_load) _ (0x0 ∷ 0x8 ∷ 0x40 ∷ 0xf9 ∷ [])
    (relocated _ _ _ (pos 0x411010) 0xf9400000 refl refl (lit≤ tt) (refl, tt, λ e. refl)
    (tt, lit< tt, tt) refl refl) refl

high_has : Has halves.old high_name of_high (0x1 ∷ 0x0 ∷ 0x0 ∷ 0x90 ∷ [])
unfolding place_sum
high_has =
    has high_name of_high _ (0x81 ∷ 0x0 ∷ 0x0 ∷ 0xb0 ∷ [])
    (relocated _ _ _ (pos 0x11000) 0x90000001 refl refl (lit≤ tt) (refl, tt, λ e. refl)
    ((omega (arith, ints), omega (arith, ints)), lit< tt, tt) refl refl) refl

low_has : Has halves.old low_name of_low (0x42 ∷ 0x0 ∷ 0x40 ∷ 0xf9 ∷ [])
unfolding place_sum
low_has =
    has low_name of_low _ (0x42 ∷ 0xc ∷ 0x40 ∷ 0xf9 ∷ [])
    (relocated _ _ _ (pos 0x411018) 0xf9400042 refl refl (lit≤ tt) (refl, tt, λ e. refl)
    (tt, lit< tt, tt) refl refl) refl

-- ---- the final bytes

pub new_is_final : HasFinal addresses (code_at halves.new 0x400000 20) halves
new_is_final at inside =
    eqb-true _ _ (below_each 17
    (λ at. eqb (loaded 4 halves.new (sum_64 0x400000 at)) (word_of (instruction_at (code_at halves.new 0x400000 20) at)))
    refl at (let less : at + 4 ≤ 20 = inside in omega (arith, less)))

-- ---- states

abbrev s0 : State
s0 = starting 0x420120

abbrev s1 : State
s1 = put 0 0x420120 0x400008 s0

abbrev s3 : State
s3 = put 2 0x411000 0x400010 (put 1 0x411000 0x40000c s1)

abbrev k1 : Kinds
k1 = with_register 0 same known

abbrev k3 : Kinds
k3 = with_register 2 (half 0) (with_register 1 (half 0) k1)

-- what a phase decides of a relocation
module _ (l : Linked) (linked : IsLinked l) (phase : Phase) (is : IsPhaseOf AArch64 phase l.phase) (all : count l ≡ 4)
    (i : ℕ) (less : i < 4) (name : AArch64Relocation) (named : IsNamed (aarch64_name name)) (was : Rela)
    (there : relocation_in l.relocations i ≡ was) (code : r_type_of (aarch64_name name) ≡ was.r_type) where
  abbrev r : Rela
  r = relocation_in l.relocations i

  below : i < count l
  below = omega (arith, less, all)

  is_name : IsNameOf aarch64_name r.r_type name
  is_name =
      named_at l.context is.architecture_is l.kept l.relocations l.section l.decisions linked.decided i name below named
      (code ∙ ap (λ (r : Rela). r.r_type) (sym there))

  decided : IsScopeDecision l.context l.kept l.relocations l.section i r (aarch64_scope_in phase name) (decision_at l.decisions i)
  decided = in_phase l.context is.architecture_is l.kept l.relocations l.section l.decisions linked.decided i name phase below is_name is.phase_is

  -- with its group, of which nothing stays
  in_group : (group : Group) → aarch64_scope_in phase name ≡ Grouped group
      → group_stays (replicate 12 none_stays) group was.symbol ≡ false → IsRewrittenOf l name i
  in_group group of none =
      let by = subst (λ scope. IsScopeDecision l.context l.kept l.relocations l.section i r scope (decision_at l.decisions i)) of decided in
      let made = subst (λ b. IsGroupDecision l.context l.relocations l.section i r b (decision_at l.decisions i))
      (ap (λ k. group_stays k group r.symbol) is.kept_are ∙ (ap (λ (x : Rela). group_stays (replicate 12 none_stays) group x.symbol) there ∙ none)) by in
      record { below = below; is_name = is_name; chosen = made.0; decided = made.2 }

module _ (p q : RewritingPhase) (relocations_last last final : List ℕ) (symbols : List Symbol)
    (is_p : IsPhaseOf AArch64 phases.PreLayout p) (is_q : IsPhaseOf AArch64 phases.GotToPcRel q)
    (are : AreLinked (p ∷ q ∷ []) AARCH64_RELOCATIONS AARCH64_OBJECT relocations_last last addresses symbols final)
    (x_is : slice_get symbols 5 ≡ Some variable) (y_is : slice_get symbols 6 ≡ Some thread_variable)
    (has_final : HasFinal addresses final halves) where
  abbrev l : Linked
  l = linked_by p (q ∷ []) relocations_last last addresses symbols final

  abbrev m : Linked
  m = linked_by q [] relocations_last last addresses symbols final

  linked_l : IsLinked l
  linked_l = are.1

  linked_m : IsLinked m
  linked_m = are.2.1

  new_l : IsNew l halves
  new_l = record { linked = linked_l; aarch64 = is_p.architecture_is; final = has_final }

  -- ---- the first phase

  there : (i : ℕ) → relocation_in l.relocations i ≡ relocation i
  there i = ap (λ bytes. relocation_in bytes i) are.0.same_relocations

  count_l : count l ≡ 4
  count_l = ap (λ bytes. length bytes / 24) are.0.same_relocations

  page_stays : decision_at l.decisions 0 ≡ Kept
  page_stays = decided l linked_l phases.PreLayout is_p count_l 0 (lit< tt) names.R_AARCH64_ADR_GOT_PAGE tt (relocation 0) (there 0) refl

  load_stays : decision_at l.decisions 1 ≡ Kept
  load_stays = decided l linked_l phases.PreLayout is_p count_l 1 (lit< tt) names.R_AARCH64_LD64_GOT_LO12_NC tt (relocation 1) (there 1) refl

  high_of : IsRewrittenOf l high_name 2
  high_of =
      in_group l linked_l phases.PreLayout is_p count_l 2 (lit< tt) high_name tt (relocation 2) (there 2) refl groups.InitialExec refl refl

  low_of : IsRewrittenOf l low_name 3
  low_of =
      in_group l linked_l phases.PreLayout is_p count_l 3 (lit< tt) low_name tt (relocation 3) (there 3) refl groups.InitialExec refl refl

  high_by : IsOfEntry high_name high_entry l.section (offset_of l 2) high_of.chosen
  high_by = of_entry new_l high_name 2 high_of tt high_entry refl

  low_by : IsOfEntry low_name low_entry l.section (offset_of l 3) low_of.chosen
  low_by = of_entry new_l low_name 3 low_of tt low_entry refl

  -- ---- the second

  taken : (i : ℕ) → relocation_in m.relocations i ≡ relocation_in l.relocations_after i
  taken i = ap (λ bytes. relocation_in bytes i) are.2.0.same_relocations

  count_m : count m ≡ 4
  count_m = ap (λ bytes. length bytes / 24) are.2.0.same_relocations ∙ (ap (λ n. n / 24) linked_l.as_many ∙ count_l)

  as_it_was : (i : ℕ) → i < 4 → decision_at l.decisions i ≡ Kept → relocation_in m.relocations i ≡ relocation i
  as_it_was i below stays =
      taken i ∙ (rw stays at (linked_l.relocations i (omega (arith, below, count_l))) ∙ there i)

  page_there : relocation_in m.relocations 0 ≡ relocation 0
  page_there = as_it_was 0 (lit< tt) page_stays

  load_there : relocation_in m.relocations 1 ≡ relocation 1
  load_there = as_it_was 1 (lit< tt) load_stays

  high_there : relocation_in m.relocations 2 ≡ rela 8 (r_type_of (aarch64_name high_after)) 6 (pos 0)
  high_there =
      cc (taken 2, named_after new_l high_name 2 high_of high_entry high_by (λ o. refl) (λ a. refl), there 2)

  low_there : relocation_in m.relocations 3 ≡ rela 16 (r_type_of (aarch64_name low_after)) 6 (pos 0)
  low_there =
      cc (taken 3, named_after new_l low_name 3 low_of low_entry low_by (λ o. refl) (λ a. refl), there 3)

  high_stays : decision_at m.decisions 2 ≡ Kept
  high_stays = decided m linked_m phases.GotToPcRel is_q count_m 2 (lit< tt) high_after tt _ high_there refl

  low_stays : decision_at m.decisions 3 ≡ Kept
  low_stays = decided m linked_m phases.GotToPcRel is_q count_m 3 (lit< tt) low_after tt _ low_there refl

  load_of : IsLoadRewritten m.relocations m.decisions 0
  load_of =
      let name = names.R_AARCH64_ADR_GOT_PAGE in
      let made = in_group m linked_m phases.GotToPcRel is_q count_m 0 (lit< tt) name tt (relocation 0) page_there refl groups.GotLoad refl refl in
      (sequences_are_whole m.context m.kept m.relocations m.section m.decisions 0 name is_q.architecture_is linked_m.decided
      made.below made.is_name (λ e. (let f : Rewritten made.chosen ≡ Kept = sym made.decided ∙ e in cc))).1

  -- ---- which bytes are whose

  outside_l : (at : ℕ) → at < 8 → (j : ℕ) → j < count l → IsOutside l.relocations l.decisions j at
  outside_l at less j below =
      four (λ j. IsOutside l.relocations l.decisions j at)
      (outside_by l.relocations l.decisions 0 at 0 0 (ap window_of page_stays) (ap (λ (r : Rela). r.offset) (there 0)) (inr (omega arith)))
      (outside_by l.relocations l.decisions 1 at 4 0 (ap window_of load_stays) (ap (λ (r : Rela). r.offset) (there 1)) (elim (cases_lt at 4) [
        | inl before ↦ inl before
        | inr past ↦ inr (omega (arith, past))
      ]))
      (outside_by l.relocations l.decisions 2 at 8 4 (window_by kinds.MovzXnLsl16 (decision_at l.decisions 2) (record { chosen = high_of.chosen; decided = high_of.decided; kind_is = high_by.kind_is }))
      (ap (λ (r : Rela). r.offset) (there 2)) (inl less))
      (outside_by l.relocations l.decisions 3 at 16 4 (window_by kinds.MovkXn (decision_at l.decisions 3) (record { chosen = low_of.chosen; decided = low_of.decided; kind_is = low_by.kind_is }))
      (ap (λ (r : Rela). r.offset) (there 3)) (inl (omega (arith, less))))
      j (omega (arith, below, count_l))

  outside_m : (at : ℕ) → ((at < 4) ⊎ (8 ≤ at)) → (j : ℕ) → j < count m → IsOutside m.relocations m.decisions j at
  outside_m at apart j below =
      four (λ j. IsOutside m.relocations m.decisions j at)
      (outside_by m.relocations m.decisions 0 at 0 0 (window_by kinds.NoOp (decision_at m.decisions 0) load_of.page_decided) (ap (λ (r : Rela). r.offset) page_there) (inr (omega arith)))
      (outside_by m.relocations m.decisions 1 at 4 4 (window_by kinds.LdrToAdd (decision_at m.decisions 1) load_of.low_decided) (ap (λ (r : Rela). r.offset) load_there) apart)
      (outside_by m.relocations m.decisions 2 at 8 0 (ap window_of high_stays) (ap (λ (r : Rela). r.offset) high_there) (beside 8))
      (outside_by m.relocations m.decisions 3 at 16 0 (ap window_of low_stays) (ap (λ (r : Rela). r.offset) low_there) (beside 16))
      j (omega (arith, below, count_m))
    where
      beside : (o : ℕ) → (at < o) ⊎ (o + 0 ≤ at)
      beside o = elim (cases_lt at o) [ inl before ↦ inl before | inr past ↦ inr (omega (arith, past)) ]

  -- the second phase leaves the halves alone
  untouched : (i : ℕ) → decision_at m.decisions i ≡ Kept → 8 ≤ (relocation i).offset → UntouchedInstruction l i
  untouched i stays from =
      let o = ap (λ (r : Rela). r.offset) (there i) in
      All-cons (UntouchedInPhase i (offset_of l i) 4) q []
      (record { kept = stays; apart = λ at past less j below. outside_m at (inr (omega (arith, past, o, from))) j below })
      (All-nil (UntouchedInPhase i (offset_of l i) 4))

  -- ---- the groups

  abbrev x : Section
  x =
      record {
        phases = p ∷ q ∷ [];
        relocations = AARCH64_RELOCATIONS;
        section = AARCH64_OBJECT;
        relocations_last = relocations_last;
        last = last;
        addresses = addresses;
        symbols = symbols;
        final = final;
      }

  object_l : (i : ℕ) → object l i ≡ instruction_at AARCH64_OBJECT (relocation i).offset
  object_l i = cc (are.0.same_section, there i)

  object_m : (i : ℕ) → relocation_in m.relocations i ≡ relocation i → (relocation i).offset + 4 ≤ 8
      → object m i ≡ instruction_at AARCH64_OBJECT (relocation i).offset
  object_m i is inside =
      cc (
        are.2.0.same_section,
        same_windows (relocation i).offset 4 l.rewritten l.section (sym linked_l.same_length) (λ at from less. linked_l.others at (outside_l at (omega (arith, less, inside)))),
        are.0.same_section,
      )

  group_at : (phase : Linked) → IsPhase x phase → (n : ℕ) (k k' : Kinds) (t t' : State) (g : Rewrites phase)
      → n ≡ (span phase g).1 → Begins x phase halves k t g k' t' → IsGroupOf rewriting x halves n k t k' t'
  group_at phase is n k k' t t' g long begins = (phase, is, g, (long, has_final, begins))

  alone : IsRewrittenByNoOther m 0 (offset_of m 0)
  alone j at below other from less =
      outside_m at (inl (omega (arith, less, ap (λ (r : Rela). r.offset) page_there))) j below

  load_group : IsGroupOf rewriting x halves 2 known s0 k1 s1
  load_group =
      let load_comes : ComesTo m s0 names.R_AARCH64_ADR_GOT_PAGE 0 of_load =
      record {
        pc = refl;
        small = small of_load (lit< tt) (lit< tt) (lit< tt) (lit< tt) (lit< tt) (lit< tt);
        symbol = variable;
        is_symbol = ap (λ (r : Rela). slice_get symbols r.symbol) page_there ∙ x_is;
        are = ap (λ r. operands_with AArch64 addresses got_row variable r 0x411010) (sym page_there);
      } in
      group_at m (inr (inl refl)) 2 known k1 s0 s1 (load 0 load_of) refl
      (subst (λ r. Begins x m halves known s0 (load 0 load_of) (with_register r same known) (put r 0x420120 0x400008 s0))
      (ap register (object_m 1 load_there (lit≤ tt)))
      (at_load 0 load_of of_load load_comes refl alone (inl (All-nil _, All-nil _)) refl
      (subst (Has halves.old names.R_AARCH64_ADR_GOT_PAGE of_load) (sym (object_m 0 page_there (lit≤ tt))) page_has)
      (subst (Has halves.old names.R_AARCH64_LD64_GOT_LO12_NC (following 4 of_load)) (sym (object_m 1 load_there (lit≤ tt))) rest_has)))

  -- old comes to a half
  half_comes : (i : ℕ) (t : State)
      → let o = operands_with AArch64 addresses left_high.row thread_variable (relocation i) 0x411018 in
      t.pc ≡ o.place → AreAddresses o → slice_get symbols (relocation i).symbol ≡ Some thread_variable → ComesTo l t high_after i o
  half_comes i t at are_small is =
      record {
        pc = at;
        small = are_small;
        symbol = thread_variable;
        is_symbol = ap (λ (r : Rela). slice_get symbols r.symbol) (there i) ∙ is;
        are = ap (λ r. operands_with AArch64 addresses left_high.row thread_variable r 0x411018) (sym (there i));
      }

  high_register : register (object l 2) ≡ 1
  high_register = ap register (object_l 2)

  high_group : IsGroupOf rewriting x halves 1 k1 s1 (with_register 1 (half 0) k1) (put 1 0x411000 0x40000c s1)
  high_group =
      group_at l (inl refl) 1 k1 (with_register 1 (half 0) k1) s1 (put 1 0x411000 0x40000c s1) (high 2 high_of) refl
      (subst (λ r. Begins x l halves k1 s1 (high 2 high_of) (with_register r (half 0) k1) (put r 0x411000 0x40000c s1))
      high_register
      (at_high 2 0 high_of of_high (half_comes 2 s1 refl (small of_high (lit< tt) (lit< tt) (lit< tt) (lit< tt) (lit< tt) (lit< tt)) y_is) (untouched 2 high_stays (lit≤ tt)) refl refl
      (λ e. let f : 1 ≡ 31 = sym high_register ∙ e in omega (arith, f))
      (subst (Has halves.old high_name of_high) (sym (object_l 2)) high_has)))

  low_register : register (object l 3) ≡ 2
  low_register = ap register (object_l 3)

  low_group : IsGroupOf rewriting x halves 1 k3 s3 (with_register 2 same k3) (put 2 0x12344 0x400014 s3)
  low_group =
      group_at l (inl refl) 1 k3 (with_register 2 same k3) s3 (put 2 0x12344 0x400014 s3) (low 3 low_of) refl
      (subst (λ r. Begins x l halves k3 s3 (low 3 low_of) (with_register r same k3) (put r 0x12344 0x400014 s3))
      low_register
      (at_low 3 0 low_of of_low (half_comes 3 s3 refl (small of_low (lit< tt) (lit< tt) (lit< tt) (lit< tt) (lit< tt) (lit< tt)) y_is) (untouched 3 low_stays (lit≤ tt)) refl refl refl
      (ap k3.registers low_register) (ap s3.registers low_register)
      (subst (Has halves.old low_name of_low) (sym (object_l 3)) low_has)))

  pub has_groups : HasGroups x
  has_groups = (load_group, high_group, low_group)
