-- Entries of the tables of choices, as the code has them.
use Rattle.linker_elf.specs.Imports.{Choice, LinkFacts, Operands}
use Rattle.std.specs.Prelude.{Bool, IsTrue, List, None, Option, Some, [], bit_and, not, suc, zero}
use Rattle.std.specs.Prelude.{ℕ, ℤ, ⊤, ◌≡◌, ◌==◌, ◌++◌, ◌⊎◌, ◌↔◌, ◌&&◌, ◌||◌, if◌then◌else◌, ◌∷◌}
use Rattle.linker_elf.specs.Choices.{Condition, Entry, entry, choice, Applies, AllHold, IsFirst}
use Rattle.linker_elf.specs.Choices.{bound, weak_zero, fixed_address, class32, fixed_distance}
use Rattle.linker_elf.specs.Choices.{executable, local_exec_base, compressible, marked}
use Rattle.linker_elf.specs.Choices.{label_marked, got_high_part, private_base, changed_toc}
use Rattle.linker_elf.specs.Choices.{without_plt, group_fits}
use Rattle.linker_elf.specs.Choices.{addend, low_12, in_reach, in_reach_if_known}
use Rattle.linker_elf.specs.Choices.{within, within_if_known}
use Rattle.linker_elf.specs.declared.elf.RowInfo.{RowInfo}
use Rattle.linker_elf.specs.declared.elf.choice_table.ChoiceEntry.{ChoiceEntry}
use Rattle.linker_elf.specs.declared.elf.choice_table.ValueCondition.{ValueCondition}
use Rattle.linker_elf.specs.declared.elf.choice_table.ValueCondition.TheVariants as values
use Rattle.linker_elf.specs.declared.elf.choice_table.ValueConditions.{ValueConditions}
use Rattle.linker_elf.specs.declared.elf.choice_table.ValueConditions.TheVariants as some

-- ---- facts as masks

-- the condition of a fact, if a mask has its bit, and others
abbrev pub with_fact : {R : Type 0} → ℕ → ℕ → Condition R → List (Condition R) → List (Condition R)
with_fact mask bit c cs = if bit_and mask bit == 0 then cs else c ∷ cs

-- the conditions that a mask has a bit for
abbrev pub fact_conditions : {R : Type 0} → ℕ → List (Condition R)
fact_conditions mask =
    with_fact mask 1 bound
    (with_fact mask 2 weak_zero
    (with_fact mask 4 fixed_address
    (with_fact mask 0x4000 class32
    (with_fact mask 8 fixed_distance
    (with_fact mask 0x10 executable
    (with_fact mask 0x20 local_exec_base
    (with_fact mask 0x40 compressible
    (with_fact mask 0x80 marked
    (with_fact mask 0x100 label_marked
    (with_fact mask 0x200 got_high_part
    (with_fact mask 0x400 private_base
    (with_fact mask 0x800 changed_toc
    (with_fact mask 0x1000 without_plt
    (with_fact mask 0x2000 group_fits []))))))))))))))

-- a fact holds, if a mask has its bit
abbrev pub is_held : ℕ → ℕ → Bool → Bool
is_held mask bit holds = bit_and mask bit == 0 || holds

-- all facts hold that a mask has a bit for
abbrev pub facts_hold : ℕ → LinkFacts → Bool
facts_hold mask facts =
    is_held mask 1 (facts.is_local && not facts.is_ifunc)
    && is_held mask 2 facts.is_undefined_weak
    && is_held mask 4 facts.has_fixed_address
    && is_held mask 0x4000 facts.is_class32
    && is_held mask 8 facts.is_pcrel_link_time_constant
    && is_held mask 0x10 facts.is_executable
    && is_held mask 0x20 facts.has_local_exec_base
    && is_held mask 0x40 facts.may_compress
    && is_held mask 0x80 facts.is_relaxable
    && is_held mask 0x100 facts.is_label_relaxable
    && is_held mask 0x200 facts.has_got_high_part
    && is_held mask 0x400 facts.toc_base_is_exclusive
    && is_held mask 0x800 facts.may_change_toc
    && is_held mask 0x1000 (facts.operands.plt_entry == facts.operands.symbol)
    && is_held mask 0x2000 facts.group_fits

-- those of them hold that seldom do
abbrev pub seldom_facts_hold : ℕ → LinkFacts → Bool
seldom_facts_hold mask facts =
    is_held mask 2 facts.is_undefined_weak && is_held mask 4 facts.has_fixed_address
    && is_held mask 0x4000 facts.is_class32

-- ---- conditions

abbrev pub value_condition : {R : Type 0} → ValueCondition R → Condition R
value_condition values.Low12 = low_12
value_condition (values.InReach name back) = in_reach name back
value_condition (values.InReachIfKnown name back) = in_reach_if_known name back
value_condition (values.Within name bounds back) = within name bounds back
value_condition (values.WithinIfKnown name bounds back) = within_if_known name bounds back

abbrev pub value_conditions : {R : Type 0} → ValueConditions R → List (Condition R)
value_conditions some.None = []
value_conditions (some.One v) = value_condition v ∷ []
value_conditions (some.Both v w) = value_condition v ∷ value_condition w ∷ []

abbrev pub ValuesHold : {R : Type 0} → (R → Option RowInfo) → Operands → LinkFacts
    → ValueConditions R → Type 0
ValuesHold row after facts vs = AllHold row after facts (value_conditions vs)

abbrev pub addend_condition : {R : Type 0} → Option ℤ → List (Condition R)
addend_condition None = []
addend_condition (Some a) = addend a ∷ []

-- the conditions of an entry: facts, then the addend, then values
abbrev pub conditions_of : {O K R : Type 0} → ChoiceEntry O K R → List (Condition R)
conditions_of e =
    fact_conditions e.conditions.facts
    ++ (addend_condition e.conditions.addend ++ value_conditions e.conditions.values)

abbrev pub entry_of : {O K R : Type 0} → ChoiceEntry O K R → Entry K R
entry_of e = entry e.kind e.relocation (conditions_of e)

-- ---- which entry is chosen

-- the instructions of an entry are there, and its conditions hold
abbrev pub EntryApplies : {O K R : Type 0} → (O → K → List ℕ → ℕ → Type 0)
    → (R → Option RowInfo) → (K → ℕ → Operands → Operands) → List ℕ → ℕ → LinkFacts
    → ChoiceEntry O K R → Type 0
EntryApplies are_at row after section o facts e =
    Applies (are_at e.originals) row after section o facts (entry_of e)

-- the choice is that of the first entry that applies, and else the last one
abbrev pub IsFirstOf : {O K R : Type 0} → (ChoiceEntry O K R → Type 0) → List (ChoiceEntry O K R)
    → Choice K R → Choice K R → Type 0
IsFirstOf A [] otherwise chosen = chosen ≡ otherwise
IsFirstOf A (e ∷ es) otherwise chosen =
    (A e × (chosen ≡ choice e.kind e.relocation)) ⊎ (¬ A e × IsFirstOf A es otherwise chosen)

-- the choice of the entry with an index, or none if there isn't one that applies
abbrev pub IsChoiceAt : {O K R : Type 0} → (ChoiceEntry O K R → Type 0) → List (ChoiceEntry O K R)
    → ℕ → Option (Choice K R) → Type 0
IsChoiceAt A [] i chosen = chosen ≡ None
IsChoiceAt A (e ∷ es) zero chosen =
    (A e × (chosen ≡ Some (choice e.kind e.relocation))) ⊎ (¬ A e × (chosen ≡ None))
IsChoiceAt A (e ∷ es) (suc i) chosen = IsChoiceAt A es i chosen

-- ---- tables

-- the instructions that an entry of the code is for are those that the definition requires
abbrev pub IsPatternOf : {O K : Type 0} → (O → K → List ℕ → ℕ → Type 0) → (K → List ℕ → ℕ → Type 0)
    → O → K → Type 0
IsPatternOf are_at Required originals kind =
    (section : List ℕ) (o : ℕ) → are_at originals kind section o ↔ Required kind section o

-- The entries of the code are those of the definition, for the instructions that it requires.
abbrev pub IsTableOf : {O K R : Type 0} → (O → K → List ℕ → ℕ → Type 0)
    → (K → List ℕ → ℕ → Type 0) → List (ChoiceEntry O K R) → List (Entry K R) → Type 0
IsTableOf are_at Required [] [] = ⊤
IsTableOf are_at Required (e ∷ es) (d ∷ ds) =
    (entry_of e ≡ d) × (IsPatternOf are_at Required e.originals e.kind × IsTableOf are_at Required es ds)
IsTableOf are_at Required es ds = ⊥

-- ---- what an architecture brings

-- The tables of choices of an architecture. K are its rewrites, R the names of its relocations.
pub record Tables (K R : Type 0) : Type 1 where
  -- the entries of a relocation at an offset of a section
  pub entries : R → List ℕ → ℕ → List (Entry K R)
  -- what these require at an offset of a section, for a rewrite
  pub required : R → List ℕ → ℕ → K → List ℕ → ℕ → Type 0
  -- the operands after a rewrite, at an offset
  pub after : K → ℕ → Operands → Operands
  -- the rewrite that changes nothing
  pub no_op : K

-- A relocation without entries where the byte two before the offset is 0x8b, which is the opcode of
-- x86-64's `mov`, has none.
abbrev pub AreSampled : {K R : Type 0} → (R → List ℕ → ℕ → List (Entry K R)) → Type 0
AreSampled {K} {R} entries =
    (name : R) → entries name (0x8b ∷ []) 2 ≡ [] → (section : List ℕ) (o : ℕ)
    → entries name section o ≡ []

-- The choice at a relocation: that of the first of its entries that applies, and else to leave the
-- instruction and the relocation.
abbrev pub IsChoice : {K R : Type 0} → Tables K R → (R → Option RowInfo) → R → List ℕ → ℕ
    → LinkFacts → Choice K R → Type 0
IsChoice it row name section o facts chosen =
    IsFirst (Applies (it.required name section o) row it.after section o facts)
    (it.entries name section o) (choice it.no_op name) chosen

-- what changes nothing is equal to one rewrite, which is the default, and `==` of relocations'
-- names is equality
pub record AreEqualities {K R : Type 0} (no_op : K) (IsNoOp IsDefault : K → Type 0)
    (equal : R → R → Bool) : Type 0 where
  pub kinds : (kind : K) → IsNoOp kind ↔ (kind ≡ no_op)
  pub defaults : (kind : K) → IsDefault kind → kind ≡ no_op
  pub names : (a b : R) → IsTrue (equal a b) ↔ (a ≡ b)
