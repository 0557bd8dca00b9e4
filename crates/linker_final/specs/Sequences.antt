-- What the definitions say of instructions in sequence, by their words as one number: the first
-- word is bits 0 to 31.
use Rattle.std.specs.Prelude.{ℕ, ◌+◌, ◌*◌, ◌++◌, ℤ, pos, false}
use Rattle.linker_final.specs.Imports.{Operands, UiType, field, five_instructions, riscv_form}
use Rattle.linker_final.specs.Imports.{to_le_bytes, upper_and_lower_value, w64, without_bit_0}
use Rattle.std.specs.Option.{unwrap_or}
use Rattle.linker_utils.specs.AArch64Rewrites.{moved4, rd_of}
use Rattle.linker_laws.specs.Schemes.{zero}
use Rattle.linker_elf.specs.Ppc64.{pair}
use Rattle.linker_elf.specs.declared.aarch64.forms.AArch64Instruction.TheVariants.{Add}
use Rattle.linker_laws.specs.AArch64RelocationLaws.{page_and_offset}
use Rattle.linker_laws.specs.LoongArchRelocationLaws.{four, page_and_low, upper_and_or}
use Rattle.linker_laws.specs.Ppc64RelocationLaws.{by_quarters, low_half, unadjusted}

abbrev pub word : ℕ → ℕ → ℕ
word k words = field words (32 * k) (32 * k + 32)

-- operands of a pc, of which nothing else is taken
abbrev pub at : ℕ → Operands
at pc =
    record {
      symbol = 0;
      addend = pos 0;
      place = pc;
      got_entry = 0;
      got_base = 0;
      plt_entry = 0;
      symbol_size = 0;
      tls_base = 0;
      has_got_entry = false;
      has_plt_entry = false;
      has_tls_base = false;
    }

-- `adrp` and `add`; the pc is bits 64 to 127
abbrev pub page_number : ℕ → ℤ
page_number words = page_and_offset Add 1 (at (field words 64 128)) (word 0 words) (word 1 words)

-- `auipc` and `jalr`, from the pc
abbrev pub call_number : ℕ → ℤ
call_number words = without_bit_0 ((riscv_form UiType).machine words)

-- `lu12i.w` and `ori`, and then `lu32i.d` and `lu52i.d`
abbrev pub upper_number : ℕ → ℤ
upper_number words = upper_and_or (word 0 words) (word 1 words)

abbrev pub four_number : ℕ → ℤ
four_number words = four (word 0 words) (word 1 words) (word 2 words) (word 3 words)

-- `pcalau12i` and `addi.d`; the pc is bits 64 to 127
abbrev pub near_number : ℕ → ℤ
near_number words = page_and_low (at (field words 64 128)) (word 0 words) (word 1 words)

-- `addis` from zero and `ori`
abbrev pub unadjusted_number : ℕ → ℤ
unadjusted_number words = unadjusted zero (at 0) (word 0 words) (word 1 words)

-- `lis` and `ori`, `sldi` by 32, `oris` and `ori`
abbrev pub quarters_number : ℕ → ℤ
quarters_number words =
    by_quarters zero low_half (at 0) (word 0 words) (word 1 words) (word 3 words) (word 4 words)

-- `movz` and three `movk`
abbrev pub moves_number : ℕ → ℤ
moves_number words =
    pos (unwrap_or
    (moved4 (rd_of words) (word 0 words) (word 1 words) (word 2 words) (word 3 words)) 0)

-- `addi.d` from zero, `lu32i.d` and `lu52i.d`
abbrev pub parts_number : ℕ → ℤ
parts_number words = upper_and_lower_value (word 0 words) (word 1 words) (word 2 words)

-- `pcalau12i`, `addi.d` from zero, `lu32i.d`, `lu52i.d` and `add.d`; the pc is bits 160 to 223
abbrev pub address_number : ℕ → ℤ
address_number words =
    five_instructions (field words 160 224)
    (to_le_bytes w64 (field words 0 64) ++ to_le_bytes w64 (field words 64 128))

-- `addis` and `addi`
abbrev pub halves_number : ℕ → ℤ
halves_number words = pair (word 0 words) (word 1 words)
