-- Choosing a rewrite: entries of tables, and which of them is chosen. The tables of an architecture
-- are in `specs/ARCHRewrites`.
use Rattle.linker_elf.specs.Imports.{Choice, LinkFacts, Operands, cast_signed, cast_unsigned, w64}
use Rattle.std.specs.Prelude.{List, None, Option, Some, [], false, neg_ℤ, pos, true, ℕ, ℤ, ⊤, ◌≡◌}
use Rattle.std.specs.Prelude.{◌⊎◌, ◌∷◌}
use Rattle.linker_base.specs.Rewrite.{Rewrite, offset_after, addend_after}
use Rattle.linker_elf.specs.Elf.{IsWithin}
use Rattle.linker_elf.specs.Relocate.{Reaches}
use Rattle.linker_elf.specs.Value.{sum_64, difference_64, value_of}
use Rattle.linker_elf.specs.declared.elf.RowInfo.{RowInfo}

-- What an entry of a table requires of what the linker knows.
pub data Condition (R : Type 0) : Type 0 where
  -- the definition in this output is the one at run time, and is no indirect function
  bound : Condition R
  -- undefined and weak, so that the address is 0
  weak_zero : Condition R
  fixed_address : Condition R
  -- the code is of ELFCLASS32
  class32 : Condition R
  fixed_distance : Condition R
  executable : Condition R
  -- the base of local-dynamic TLS is the thread pointer
  local_exec_base : Condition R
  compressible : Condition R
  marked : Condition R
  -- the high part of a load from the GOT, and all low parts of its label, are marked
  label_marked : Condition R
  -- the high part of a low part of RISC-V requires a GOT entry
  got_high_part : Condition R
  -- what reads a register for the high part of an address is of the same symbol
  private_base : Condition R
  -- a call may change the TOC pointer
  changed_toc : Condition R
  -- the address of the symbol's PLT entry is S: it has none
  without_plt : Condition R
  -- each relocation of the sequence can be rewritten
  group_fits : Condition R
  -- the addend before the rewrite
  addend : ℤ → Condition R
  -- S + A is known, and is a number of 12 bits in two's complement
  low_12 : Condition R
  -- the value of a relocation is known and can be written: after the rewrite, n bytes before
  -- the place
  in_reach : R → ℕ → Condition R
  -- the same, unless no address is known
  in_reach_if_known : R → ℕ → Condition R
  -- the value of a relocation is known, and is from one number up and below another: after the
  -- rewrite, n bytes before the place
  within : R → ℤ × ℤ → ℕ → Condition R
  -- the same, unless no address is known
  within_if_known : R → ℤ × ℤ → ℕ → Condition R

-- An entry: the rewrite, the relocation after it, and the conditions.
pub record Entry (K R : Type 0) : Type 0 where
  pub kind : K
  pub relocation : R
  pub conditions : List (Condition R)

abbrev pub entry : {K R : Type 0} → K → R → List (Condition R) → Entry K R
entry kind relocation conditions =
    record { kind = kind; relocation = relocation; conditions = conditions }

abbrev pub choice : {K R : Type 0} → K → R → Choice K R
choice kind relocation = record { kind = kind; relocation = relocation }

-- ---- values in reach

abbrev pub RowReaches : Option RowInfo → Operands → Type 0
RowReaches None operands = ⊥
RowReaches (Some row) operands = Reaches row operands

abbrev pub ValueIsWithin : ℤ × ℤ → Option ℤ → Type 0
ValueIsWithin bounds None = ⊥
ValueIsWithin bounds (Some v) = IsWithin (Some bounds) v

-- the relocation has a value, which is from one number up and below another
abbrev pub RowIsWithin : Option RowInfo → ℤ × ℤ → Operands → Type 0
RowIsWithin None bounds operands = ⊥
RowIsWithin (Some row) bounds operands = ValueIsWithin bounds (value_of row operands)

-- The operands after a rewrite at an offset: the place moves as the offset does.
abbrev pub operands_after : Option Rewrite → ℕ → Operands → Operands
operands_after rewrite o operands =
    record operands {
      place = difference_64 (sum_64 operands.place (offset_after rewrite o)) o;
      addend = addend_after rewrite operands.addend;
    }

-- those of a field n bytes before the place
abbrev pub operands_before : ℕ → Operands → Operands
operands_before n operands = record operands { place = difference_64 operands.place n }

-- the facts of a relocation n bytes on
abbrev pub facts_on : ℕ → LinkFacts → LinkFacts
facts_on n facts =
    record facts {
      operands = record facts.operands { place = sum_64 facts.operands.place n };
    }

-- the same facts, where each relocation of the sequence can be rewritten
abbrev pub with_group : LinkFacts → LinkFacts
with_group facts = record facts { group_fits = true }

-- ---- which entry is chosen

-- the definition in this output is what is used at run time
abbrev pub IsBound : LinkFacts → Type 0
IsBound facts = (facts.is_local ≡ true) × (facts.is_ifunc ≡ false)

abbrev pub HasAddresses : LinkFacts → Type 0
HasAddresses facts = facts.has_addresses ≡ true

abbrev pub low_12_bounds : ℤ × ℤ
low_12_bounds = (neg_ℤ (pos 0x800), pos 0x800)

abbrev pub symbol_and_addend : Operands → ℤ
symbol_and_addend operands =
    cast_signed w64 (sum_64 operands.symbol (cast_unsigned w64 operands.addend))

-- A condition holds of the facts, where `row` is that of a name, and `after` are the operands after
-- the rewrite.
abbrev pub ConditionHolds : {R : Type 0} → (R → Option RowInfo) → Operands → LinkFacts
    → Condition R → Type 0
ConditionHolds row after facts bound = IsBound facts
ConditionHolds row after facts weak_zero = facts.is_undefined_weak ≡ true
ConditionHolds row after facts fixed_address = facts.has_fixed_address ≡ true
ConditionHolds row after facts class32 = facts.is_class32 ≡ true
ConditionHolds row after facts fixed_distance = facts.is_pcrel_link_time_constant ≡ true
ConditionHolds row after facts executable = facts.is_executable ≡ true
ConditionHolds row after facts local_exec_base = facts.has_local_exec_base ≡ true
ConditionHolds row after facts compressible = facts.may_compress ≡ true
ConditionHolds row after facts marked = facts.is_relaxable ≡ true
ConditionHolds row after facts label_marked = facts.is_label_relaxable ≡ true
ConditionHolds row after facts got_high_part = facts.has_got_high_part ≡ true
ConditionHolds row after facts private_base = facts.toc_base_is_exclusive ≡ true
ConditionHolds row after facts changed_toc = facts.may_change_toc ≡ true
ConditionHolds row after facts without_plt = facts.operands.plt_entry ≡ facts.operands.symbol
ConditionHolds row after facts group_fits = facts.group_fits ≡ true
ConditionHolds row after facts (addend a) = facts.operands.addend ≡ a
ConditionHolds row after facts low_12 =
    HasAddresses facts × IsWithin (Some low_12_bounds) (symbol_and_addend facts.operands)
ConditionHolds row after facts (in_reach name n) =
    HasAddresses facts × RowReaches (row name) (operands_before n after)
ConditionHolds row after facts (in_reach_if_known name n) =
    HasAddresses facts → RowReaches (row name) (operands_before n after)
ConditionHolds row after facts (within name bounds n) =
    HasAddresses facts × RowIsWithin (row name) bounds (operands_before n after)
ConditionHolds row after facts (within_if_known name bounds n) =
    HasAddresses facts → RowIsWithin (row name) bounds (operands_before n after)

abbrev pub AllHold : {R : Type 0} → (R → Option RowInfo) → Operands → LinkFacts
    → List (Condition R) → Type 0
AllHold row after facts [] = ⊤
AllHold row after facts (c ∷ cs) = ConditionHolds row after facts c × AllHold row after facts cs

-- An entry applies: what is required with its rewrite is at an offset of the section, and its
-- conditions hold, where `after` gives the operands after a rewrite at an offset.
abbrev pub Applies : {K R : Type 0} → (K → List ℕ → ℕ → Type 0) → (R → Option RowInfo)
    → (K → ℕ → Operands → Operands) → List ℕ → ℕ → LinkFacts → Entry K R → Type 0
Applies Required row after section o facts e =
    Required e.kind section o × AllHold row (after e.kind o facts.operands) facts e.conditions

-- The choice is that of the first entry that applies, and else the last one.
abbrev pub IsFirst : {K R : Type 0} → (Entry K R → Type 0) → List (Entry K R) → Choice K R
    → Choice K R → Type 0
IsFirst Applies [] otherwise chosen = chosen ≡ otherwise
IsFirst Applies (e ∷ es) otherwise chosen =
    (Applies e × (chosen ≡ choice e.kind e.relocation))
    ⊎ (¬ Applies e × IsFirst Applies es otherwise chosen)

-- The relocation fits: if all others of its sequence can be rewritten, it is too.
abbrev pub Fits : {K R : Type 0} → (LinkFacts → Choice K R → Type 0) → Choice K R → LinkFacts
    → Type 0
Fits IsChosen unchanged facts = ¬ IsChosen (with_group facts) unchanged
