-- The names of other crates and of types that several files of definitions here use.
pub use Rattle.linker_base.specs.Bits.{field, signed}
pub use Rattle.linker_base.specs.Form.{BitsWritten, Field, Fits, Form, ImmediateBit, IsClear, IsSameModulo, Layout, Mark, Sign, WriteBackChangesNothing, WriteKeepsOtherBits, Written, bits_to, cleared, cleared_bits, exactly, field_form, form_of, is_of, is_placed, modulo, one_field, or_bits_to, ored, own_form, place_sum, replaced, signed_field, sum_bits_to, twos_complement, unclaimed, unsigned, values_apart, values_below, window_of}
pub use Rattle.linker_base.specs.declared.bit_misc.BitRange.{BitRange}
pub use Rattle.linker_elf.specs.declared.aarch64.forms.AArch64Instruction.{AArch64Instruction}
pub use Rattle.linker_elf.specs.declared.aarch64.forms.AArch64Instruction.TheVariants.{Add, Adr, Bcond, JumpCall, LdSt, Ldr, LdrRegister, MachOLow12, Movkz, Movnz, TstBr}
pub use Rattle.linker_elf.specs.declared.elf.AnyForm.{AnyForm}
pub use Rattle.linker_elf.specs.declared.elf.AnyForm.TheVariants.{AArch64, LoongArch64, Ppc64, RiscV}
pub use Rattle.linker_elf.specs.declared.elf.PageMask.{PageMask}
pub use Rattle.linker_elf.specs.declared.elf.PageMask.TheVariants.{GotBase, GotEntryAndPosition, SymbolPlusAddendAndPosition}
pub use Rattle.linker_elf.specs.declared.elf.RelocationKind.{RelocationKind}
pub use Rattle.linker_elf.specs.declared.elf.RelocationKind.TheVariants.{Absolute, AbsoluteAddition, AbsoluteAdditionWord6, AbsoluteLowPart, AbsoluteSet, AbsoluteSetWord6, AbsoluteSubtraction, AbsoluteSubtractionWord6, Alignment, DtpOff, Got, GotRelGotBase, GotRelative, GotRelativeLoongArch64, GotTpOff, GotTpOffGot, GotTpOffGotBase, GotTpOffLoongArch64, PairSubtractionULEB128LoongArch, PairSubtractionULEB128RiscV, PltRelGotBase, PltRelative, Relative, RelativeLoongArchHigh, RelativeRiscVLow12, SymRelGotBase, SymbolSize, TlsDesc, TlsDescCall, TlsDescGot, TlsDescGotBase, TlsDescLoongArch64, TlsGd, TlsGdGot, TlsGdGotBase, TlsLd, TlsLdGot, TlsLdGotBase, TpOff}
pub use Rattle.linker_elf.specs.declared.elf.RowSize.{RowSize}
pub use Rattle.linker_elf.specs.declared.elf.RowSize.TheVariants.{BitMasking, ByteSize}
pub use Rattle.linker_elf.specs.declared.elf.Sign.TheVariants.{Signed, Unsigned}
pub use Rattle.linker_elf.specs.declared.elf.Uleb128Role.{Uleb128Role}
pub use Rattle.linker_elf.specs.declared.elf.Uleb128Role.TheVariants.{Adds, Sets, Subtracts}
pub use Rattle.linker_elf.specs.declared.elf.architecture.Uleb128PairError.TheVariants.{NotFirst, Number}
pub use Rattle.linker_elf.specs.declared.elf.choice.Choice.{Choice}
pub use Rattle.linker_elf.specs.declared.elf.choice.LinkFacts.{LinkFacts}
pub use Rattle.linker_elf.specs.declared.elf.engine.Step.{Step}
pub use Rattle.linker_elf.specs.declared.elf.relocate.RelocateError.{RelocateError}
pub use Rattle.linker_elf.specs.declared.elf.value.FormulaError.{FormulaError}
pub use Rattle.linker_elf.specs.declared.elf.value.FormulaError.TheVariants.{NoEntry, NoTlsBase, NoValue}
pub use Rattle.linker_elf.specs.declared.elf.value.Operands.{Operands}
pub use Rattle.linker_elf.specs.declared.loongarch64.forms.LoongArch64Instruction.{LoongArch64Instruction}
pub use Rattle.linker_elf.specs.declared.loongarch64.forms.LoongArch64Instruction.TheVariants.{Branch21, Branch26, Call30, Call36, Shift10, Shift5}
pub use Rattle.linker_elf.specs.declared.loongarch64.relocations.LoongArch64Relocation.{LoongArch64Relocation}
pub use Rattle.linker_elf.specs.declared.loongarch64.relocations.LoongArch64Relocation.TheVariants.{R_LARCH_B16, R_LARCH_PCREL20_S2, R_LARCH_TLS_DESC_PCREL20_S2, R_LARCH_TLS_GD_PCREL20_S2, R_LARCH_TLS_LD_PCREL20_S2}
pub use Rattle.linker_elf.specs.declared.ppc64.forms.Ppc64Form.{Ppc64Form}
pub use Rattle.linker_elf.specs.declared.ppc64.forms.Ppc64Form.TheVariants.{Branch14, Branch24, D, DUnsigned, Ds, Prefixed}
pub use Rattle.linker_elf.specs.declared.riscv64.forms.RiscVInstruction.{RiscVInstruction}
pub use Rattle.linker_elf.specs.declared.riscv64.forms.RiscVInstruction.TheVariants.{BType, CbType, CjType, CluiType, IType, JType, SType, UType, UiType}
pub use Rattle.std.specs.Int.{Width, bit_at, byte_len, cast_signed, cast_unsigned, from_le_bytes, int_div_euclid, int_rem_euclid, rotate_left, to_le_bytes, w16, w32, w64}
pub use Rattle.std.specs.List.{All, list_all}
