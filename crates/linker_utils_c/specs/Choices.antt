-- What a linker knows, and what it chooses, in the numbers that C sees.
use Rattle.std.specs.Prelude.{◌≡◌, ℕ, ◌==◌, not, Option, None, Some, Bool, pos, Result, Ok, Err}
use Rattle.linker_utils_c.specs.Imports.{Architecture, ChoiceNumbers, LinkFacts, Relaxation, Status}
use Rattle.linker_utils_c.specs.Imports.{relaxation_deleted, relaxation_modifier, relaxation_no_op}
use Rattle.linker_utils_c.specs.Imports.{relaxation_other, relaxation_skipped, rewrite_of_number}
use Rattle.linker_elf.specs.declared.elf.choice.Choice.{Choice}
use Rattle.linker_elf.specs.Value.{completed}
use Rattle.linker_elf.specs.declared.elf.choice.OtherRelocation.{OtherRelocation}
use Rattle.linker_base.specs.declared.rewrite.DeletedBytes.{DeletedBytes}
use Rattle.linker_utils_c.specs.declared.choices.LinkFactNumbers.{LinkFactNumbers}
use Rattle.linker_utils_c.specs.Rewrites.{modifier_number, named_rewrite}

-- a number that isn't 0 is true
abbrev pub is_set : ℕ → Bool
is_set n = not (n == 0)

abbrev pub facts_of : LinkFactNumbers → LinkFacts
facts_of facts =
    record {
      is_local = is_set facts.is_local;
      is_ifunc = is_set facts.is_ifunc;
      is_undefined_weak = is_set facts.is_undefined_weak;
      has_fixed_address = is_set facts.has_fixed_address;
      is_pcrel_link_time_constant = is_set facts.is_pcrel_link_time_constant;
      is_executable = is_set facts.is_executable;
      has_local_exec_base = is_set facts.has_local_exec_base;
      may_compress = is_set facts.may_compress;
      is_class32 = is_set facts.is_class32;
      is_relaxable = is_set facts.is_relaxable;
      has_got_high_part = is_set facts.has_got_high_part;
      is_label_relaxable = is_set facts.is_label_relaxable;
      toc_base_is_exclusive = is_set facts.toc_base_is_exclusive;
      may_change_toc = is_set facts.may_change_toc;
      group_fits = is_set facts.group_fits;
      has_addresses = is_set facts.has_addresses;
      operands = completed facts.operands;
    }

-- the bytes to be deleted; 0 of them where there are none
abbrev pub IsDeleted : Option DeletedBytes → ChoiceNumbers → Type 0
IsDeleted None numbers = (numbers.deleted_start ≡ 0) × (numbers.deleted_len ≡ 0)
IsDeleted (Some bytes) numbers =
    (numbers.deleted_start ≡ bytes.start) × (numbers.deleted_len ≡ bytes.count)

-- the other relocation, or none
abbrev pub IsOther : Option (OtherRelocation ℕ) → ChoiceNumbers → Type 0
IsOther None numbers =
    (numbers.has_other ≡ 0) × (numbers.other_offset ≡ pos 0) × (numbers.other_relocation ≡ 0)
IsOther (Some other) numbers =
    (numbers.has_other ≡ 1) × (numbers.other_offset ≡ other.offset)
    × (numbers.other_relocation ≡ other.relocation)

-- where the relocation is that is skipped; 0 where none is
abbrev pub IsSkippedAt : Option ℕ → ChoiceNumbers → Type 0
IsSkippedAt None numbers = numbers.skipped_offset ≡ 0
IsSkippedAt (Some offset) numbers = numbers.skipped_offset ≡ offset

-- a choice for an architecture, in numbers
pub record IsChoiceInNumbers (architecture : Architecture) (chosen : Choice Relaxation ℕ)
    (numbers : ChoiceNumbers) : Type 0 where
  pub rewrite : rewrite_of_number architecture numbers.rewrite numbers.opcode_len ≡ Some chosen.kind
  pub relocation : numbers.relocation ≡ chosen.relocation
  pub modifier : numbers.modifier ≡ modifier_number (relaxation_modifier chosen.kind)
  pub skipped : IsSkippedAt (relaxation_skipped chosen.kind) numbers
  pub deleted : IsDeleted (relaxation_deleted chosen.kind) numbers
  pub other : IsOther (relaxation_other chosen.kind) numbers

-- there is a rewrite, and it leaves the instruction as it is
abbrev pub IsNoOp : Result Relaxation Status → Type 0
IsNoOp (Ok rewrite) = relaxation_no_op rewrite
IsNoOp (Err status) = ⊥

-- a choice at a relocation, in numbers, leaves it and its instruction as they are
abbrev pub IsUnchanged : ℕ → ℕ → ChoiceNumbers → Type 0
IsUnchanged machine r_type choice =
    IsNoOp (named_rewrite machine choice.rewrite choice.opcode_len) × (choice.relocation ≡ r_type)
