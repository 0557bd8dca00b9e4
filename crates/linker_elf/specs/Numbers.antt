-- Relocations in numbers. The numbers of kinds of relocations and of forms of instructions are
-- their places in the enums, those of page masks their places and 1.
use Rattle.linker_elf.specs.Imports.{AnyForm, BitMasking, ByteSize, GotBase, GotEntryAndPosition}
use Rattle.linker_elf.specs.Imports.{PageMask, RelocationKind, RowSize, SymbolPlusAddendAndPosition}
use Rattle.std.specs.Prelude.{Bool, None, Option, Some, false, pos, true, ℕ, ℤ}
use denote.Enum.Declared.{tag_of}
use Rattle.linker_elf.specs.contracts.aarch64.forms.AArch64Instruction as aarch64
use Rattle.linker_elf.specs.contracts.riscv64.forms.RiscVInstruction as riscv
use Rattle.linker_elf.specs.contracts.loongarch64.forms.LoongArch64Instruction as loongarch64
use Rattle.linker_elf.specs.contracts.ppc64.forms.Ppc64Form as ppc64
use Rattle.linker_elf.specs.declared.elf.AnyForm.TheVariants as insns
use Rattle.linker_elf.specs.declared.elf.RowInfo.{RowInfo}
use Rattle.linker_elf.specs.declared.elf.numbers.RelocationNumbers.{RelocationNumbers}
use Rattle.linker_elf.specs.Elf.{em_aarch64, em_riscv, em_loongarch, em_ppc64}
use Rattle.linker_elf.specs.declared.elf.RelocationKind.TheVariants as kinds

abbrev pub kind_number : RelocationKind → ℕ
kind_number kinds.None = 0
kind_number kinds.Absolute = 1
kind_number kinds.AbsoluteLowPart = 2
kind_number kinds.AbsoluteSet = 3
kind_number kinds.AbsoluteSetWord6 = 4
kind_number kinds.AbsoluteAddition = 5
kind_number kinds.AbsoluteAdditionWord6 = 6
kind_number kinds.AbsoluteSubtraction = 7
kind_number kinds.AbsoluteSubtractionWord6 = 8
kind_number kinds.PairSubtractionULEB128RiscV = 9
kind_number kinds.PairSubtractionULEB128LoongArch = 10
kind_number kinds.Relative = 11
kind_number kinds.RelativeRiscVLow12 = 12
kind_number kinds.RelativeLoongArchHigh = 13
kind_number kinds.GotRelative = 14
kind_number kinds.GotRelativeLoongArch64 = 15
kind_number kinds.GotRelGotBase = 16
kind_number kinds.Got = 17
kind_number kinds.SymRelGotBase = 18
kind_number kinds.PltRelGotBase = 19
kind_number kinds.PltRelative = 20
kind_number kinds.SymbolSize = 21
kind_number kinds.Alignment = 22
kind_number kinds.TlsGd = 23
kind_number kinds.TlsGdGot = 24
kind_number kinds.TlsGdGotBase = 25
kind_number kinds.TlsLd = 26
kind_number kinds.TlsLdGot = 27
kind_number kinds.TlsLdGotBase = 28
kind_number kinds.DtpOff = 29
kind_number kinds.GotTpOff = 30
kind_number kinds.GotTpOffGot = 31
kind_number kinds.GotTpOffGotBase = 32
kind_number kinds.GotTpOffLoongArch64 = 33
kind_number kinds.TpOff = 34
kind_number kinds.TlsDesc = 35
kind_number kinds.TlsDescGot = 36
kind_number kinds.TlsDescGotBase = 37
kind_number kinds.TlsDescLoongArch64 = 38
kind_number kinds.TlsDescCall = 39

-- 0 of none
abbrev pub mask_number : Option PageMask → ℕ
mask_number None = 0
mask_number (Some (SymbolPlusAddendAndPosition pattern)) = 1
mask_number (Some (GotEntryAndPosition pattern)) = 2
mask_number (Some (GotBase pattern)) = 3

abbrev pub form_number : AnyForm → ℕ
form_number (insns.AArch64 form) = tag_of aarch64.the_type form
form_number (insns.RiscV form) = tag_of riscv.the_type form
form_number (insns.LoongArch64 form) = tag_of loongarch64.the_type form
form_number (insns.Ppc64 form) = tag_of ppc64.the_type form

-- e_machine of the files that have such instructions
abbrev pub form_machine : AnyForm → ℕ
form_machine (insns.AArch64 form) = em_aarch64
form_machine (insns.RiscV form) = em_riscv
form_machine (insns.LoongArch64 form) = em_loongarch
form_machine (insns.Ppc64 form) = em_ppc64

-- where the value goes; 0 of what a size doesn't have
pub record SizeNumbers : Type 0 where
  pub form : ℕ
  pub machine : ℕ
  pub is_bits : ℕ
  pub byte_size : ℕ
  pub first_bit : ℕ
  pub end_bit : ℕ

abbrev pub size_numbers : RowSize → SizeNumbers
size_numbers (ByteSize n) = record {
  form = 0;
  machine = 0;
  is_bits = 0;
  byte_size = n;
  first_bit = 0;
  end_bit = 0;
}
size_numbers (BitMasking bits insn) = record {
  form = form_number insn;
  machine = form_machine insn;
  is_bits = 1;
  byte_size = 0;
  first_bit = bits.start;
  end_bit = bits.end;
}

-- whether there are bounds, and which
abbrev pub range_numbers : Option (ℤ × ℤ) → ℕ × ℤ × ℤ
range_numbers None = (0, pos 0, pos 0)
range_numbers (Some b) = (1, b.0, b.1)

abbrev pub number_or_zero : Option ℕ → ℕ
number_or_zero None = 0
number_or_zero (Some n) = n

-- the number that stands for a flag
abbrev pub flag_number : Bool → ℕ
flag_number false = 0
flag_number true = 1

abbrev pub numbers_of : RowInfo → RelocationNumbers
numbers_of row = record {
  kind = kind_number row.kind;
  form = (size_numbers row.size).form;
  mask = mask_number row.mask;
  machine = (size_numbers row.size).machine;
  is_bits = (size_numbers row.size).is_bits;
  byte_size = (size_numbers row.size).byte_size;
  first_bit = (size_numbers row.size).first_bit;
  end_bit = (size_numbers row.size).end_bit;
  has_range = (range_numbers row.range.bounds).0;
  thunkable = flag_number row.thunkable;
  implicit_addend = flag_number row.implicit_addend;
  min = (range_numbers row.range.bounds).1;
  max = (range_numbers row.range.bounds).2;
  alignment = row.alignment;
  bias = number_or_zero row.bias;
}
