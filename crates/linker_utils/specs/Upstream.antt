-- What the types of the crate `linker-utils` stand for: forms and rows of this library, which has
-- more forms of PowerPC64.
use Rattle.linker_utils.specs.Imports.{Bool, Branch14, Branch24, D, Ds, Form, RowInfo, false, true}
use Rattle.std.specs.Prelude.{◌≡◌}
use Rattle.linker_elf.specs.Elf.{relocation_form}
use Rattle.linker_elf.specs.Ppc64.{ppc64_form}
use Rattle.linker_elf.specs.declared.elf.AnyForm.{AnyForm}
use Rattle.linker_elf.specs.declared.elf.AnyForm.TheVariants as forms
use Rattle.linker_elf.specs.declared.elf.RowSize.{RowSize}
use Rattle.linker_elf.specs.declared.elf.RowSize.TheVariants as sizes
use Rattle.linker_elf.specs.declared.ppc64.forms.Ppc64Form.{Ppc64Form}
use Rattle.linker_elf.specs.declared.ppc64.forms.Ppc64Form.TheVariants as ppc64
use Rattle.linker_utils.specs.declared.elf.RelocationInstruction.{RelocationInstruction}
use Rattle.linker_utils.specs.declared.elf.RelocationInstruction.TheVariants.{AArch64, RiscV}
use Rattle.linker_utils.specs.declared.elf.RelocationInstruction.TheVariants.{Ppc64, LoongArch64}
use Rattle.linker_utils.specs.declared.elf.RelocationKindInfo.{RelocationKindInfo}
use Rattle.linker_utils.specs.declared.elf.RelocationSize.{RelocationSize}
use Rattle.linker_utils.specs.declared.elf.RelocationSize.TheVariants.{ByteSize, BitMasking}
use Rattle.linker_utils.specs.declared.ppc64.instruction.Ppc64Instruction.{Ppc64Instruction}

abbrev pub ppc64_of : Ppc64Instruction → Ppc64Form
ppc64_of D = ppc64.D
ppc64_of Ds = ppc64.Ds
ppc64_of Branch14 = ppc64.Branch14
ppc64_of Branch24 = ppc64.Branch24

abbrev pub any_of : RelocationInstruction → AnyForm
any_of (AArch64 insn) = forms.AArch64 insn
any_of (RiscV insn) = forms.RiscV insn
any_of (Ppc64 insn) = forms.Ppc64 (ppc64_of insn)
any_of (LoongArch64 insn) = forms.LoongArch64 insn

abbrev pub ppc64_instruction : Ppc64Instruction → Form
ppc64_instruction insn = ppc64_form (ppc64_of insn)

abbrev pub any_instruction : RelocationInstruction → Form
any_instruction insn = relocation_form (any_of insn)

abbrev pub row_size : RelocationSize → RowSize
row_size (ByteSize n) = sizes.ByteSize n
row_size (BitMasking bits insn) = sizes.BitMasking bits (any_of insn)

abbrev pub row_of : RelocationKindInfo → RowInfo
row_of info =
    record {
      kind = info.kind;
      size = row_size info.size;
      mask = info.mask;
      range = info.range;
      alignment = info.alignment;
      bias = info.bias;
      thunkable = info.thunkable;
      implicit_addend = info.implicit_addend;
    }

-- whether that crate has the form of a row's instruction
abbrev pub is_upstream_form : AnyForm → Bool
is_upstream_form (forms.Ppc64 ppc64.Prefixed) = false
is_upstream_form (forms.Ppc64 ppc64.DUnsigned) = false
is_upstream_form form = true

abbrev pub is_upstream : RowSize → Bool
is_upstream (sizes.ByteSize n) = true
is_upstream (sizes.BitMasking bits form) = is_upstream_form form

abbrev pub IsUpstream : RowInfo → Type 0
IsUpstream row = is_upstream row.size ≡ true
