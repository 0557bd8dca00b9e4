-- A row's numbers are what C is promised of them.
use Rattle.linker_utils_c.proofs.Imports.{InNumbers, IsRange, IsSize, None, Ok, Option, RowInfo, Some, refl, ℤ, ◌≡◌}
use Rattle.linker_elf.specs.Numbers.{numbers_of, form_number, form_machine}
use Rattle.linker_elf.specs.declared.aarch64.forms.AArch64Instruction.{AArch64Instruction}
use Rattle.linker_elf.specs.declared.aarch64.forms.AArch64Instruction.TheVariants.{Adr}
use Rattle.linker_elf.specs.declared.riscv64.forms.RiscVInstruction.{RiscVInstruction}
use Rattle.linker_elf.specs.declared.riscv64.forms.RiscVInstruction.TheVariants.{UType}
use Rattle.linker_elf.specs.declared.loongarch64.forms.LoongArch64Instruction.{LoongArch64Instruction}
use Rattle.linker_elf.specs.declared.loongarch64.forms.LoongArch64Instruction.TheVariants.{Shift5}
use Rattle.linker_elf.specs.declared.ppc64.forms.Ppc64Form.{Ppc64Form}
use Rattle.linker_elf.specs.declared.ppc64.forms.Ppc64Form.TheVariants.{D}
use Rattle.linker_elf.specs.declared.elf.AnyForm.{AnyForm}
use Rattle.linker_elf.specs.declared.elf.AnyForm.TheVariants.{AArch64, RiscV, LoongArch64, Ppc64}
use Rattle.linker_elf.specs.declared.elf.RowSize.{RowSize}
use Rattle.linker_elf.specs.declared.elf.RowSize.TheVariants.{ByteSize, BitMasking}
use Rattle.linker_utils_c.specs.Forms.{named_form}

aarch64_named : (f : AArch64Instruction) → named_form (form_machine (AArch64 f)) (form_number (AArch64 f)) ≡ Ok (AArch64 f)
aarch64_named Adr = refl
aarch64_named f = refl

riscv_named : (f : RiscVInstruction) → named_form (form_machine (RiscV f)) (form_number (RiscV f)) ≡ Ok (RiscV f)
riscv_named UType = refl
riscv_named f = refl

loongarch_named : (f : LoongArch64Instruction) → named_form (form_machine (LoongArch64 f)) (form_number (LoongArch64 f)) ≡ Ok (LoongArch64 f)
loongarch_named Shift5 = refl
loongarch_named f = refl

ppc64_named : (f : Ppc64Form) → named_form (form_machine (Ppc64 f)) (form_number (Ppc64 f)) ≡ Ok (Ppc64 f)
ppc64_named D = refl
ppc64_named f = refl

form_named : (f : AnyForm) → named_form (form_machine f) (form_number f) ≡ Ok f
form_named (AArch64 f) = aarch64_named f
form_named (RiscV f) = riscv_named f
form_named (LoongArch64 f) = loongarch_named f
form_named (Ppc64 f) = ppc64_named f

size_is : (row : RowInfo) (size : RowSize) → row.size ≡ size → IsSize size (numbers_of row)
size_is row (ByteSize n) is = rw is (refl, refl, refl, refl, refl, refl)
size_is row (BitMasking bits insn) is = rw is (refl, refl, refl, refl, form_named insn)

range_is : (row : RowInfo) (bounds : Option (ℤ × ℤ)) → row.range.bounds ≡ bounds → IsRange bounds (numbers_of row)
range_is row None is = rw is (refl, refl, refl)
range_is row (Some b) is = rw is (refl, refl, refl)

pub are_numbers : (row : RowInfo) → InNumbers row (numbers_of row)
are_numbers row =
    record {
      kind = refl;
      size = size_is row row.size refl;
      mask = refl;
      range = range_is row row.range.bounds refl;
      alignment = refl;
      bias = refl;
      thunkable = refl;
      implicit_addend = refl;
    }
