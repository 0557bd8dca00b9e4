-- The names of other crates and of types that several files of definitions here use.
pub use Rattle.linker_base.specs.Bits.{field, signed}
pub use Rattle.linker_base.specs.Deletions.{is_kept, rank}
pub use Rattle.linker_elf.specs.ElfNames.{r_type_of}
pub use Rattle.linker_elf.specs.LoongArchRelocations.{loongarch_name, loongarch_row}
pub use Rattle.linker_elf.specs.RiscVRelocations.{riscv_name, riscv_row}
pub use Rattle.linker_elf.specs.Value.{sum_64, value_of}
pub use Rattle.linker_elf.specs.declared.loongarch64.forms.LoongArch64Instruction.TheVariants.{Branch26, Shift5}
pub use Rattle.linker_elf.specs.declared.riscv64.forms.RiscVInstruction.TheVariants.{CjType, JType, UiType}
pub use Rattle.linker_laws.specs.Schemes.{IsAddress}
pub use Rattle.linker_riscv64.specs.declared.calls.LinkRegister.TheVariants.{OfJalr}
pub use Rattle.linker_runs.specs.declared.items.Relocation.{Relocation}
pub use Rattle.linker_runs.specs.declared.items.rewritten.RewrittenItemsError.TheVariants.{Misplaced, Overlaps}
pub use Rattle.linker_runs.specs.declared.packing.ItemError.{ItemError}
pub use Rattle.linker_runs.specs.declared.packing.ItemError.TheVariants.{DeletedOutside, NoShape, NotItsFirstBytes, NotItsInstructions, OutOfReach, OutOfSection}
pub use Rattle.linker_runs.specs.declared.packing.Machine.{Machine}
pub use Rattle.linker_runs.specs.declared.packing.Machine.TheVariants.{LoongArch64, RiscV}
pub use Rattle.linker_runs.specs.declared.packing.loongarch64.Kind.{Kind}
pub use Rattle.linker_runs.specs.declared.packing.loongarch64.Kind.TheVariants.{Address, Call}
pub use Rattle.linker_runs.specs.declared.packing.riscv32.Isa.{Isa}
pub use Rattle.linker_runs.specs.declared.packing.riscv32.Isa.TheVariants.{Rv32, Rv64}
pub use Rattle.linker_runs.specs.declared.relaxation.Alignment.{Alignment}
pub use Rattle.linker_runs.specs.declared.relaxation.Item.{Item}
pub use Rattle.linker_runs.specs.declared.relaxation.Item.TheVariants.{Aligned, Site}
pub use Rattle.linker_runs.specs.declared.relaxation.Shape.{Shape}
pub use Rattle.linker_runs.specs.declared.relaxation.Shapes.{Shapes}
pub use Rattle.linker_runs.specs.declared.relaxation.faults.Fault.TheVariants.{AlignmentBelowGranularity, BadAlignment, BadGranularity, BadReach, MayBeMisaligned, Misaligned, ShapeTooLong, ShapesNotAscending, TargetInside, TooFewNops, TooHigh, TooManyShapes, UnevenEnd, UnevenNops, UnevenShape}
pub use Rattle.std.specs.Int.{IsNextPowerOfTwo, IsPowerOfTwo, from_le_bytes, to_le_bytes, w16, w32, w64}
pub use Rattle.std.specs.Prelude.{All, Bool, IsSomeAnd, IsTrue, List, MatchOption, None, Option, Some, [], count_by, drop, false, length, map, max, min, nat_eq, nat_le, nat_lt, pos, slice_index, slice_index_or, suc, take, true, zero, ℕ, ⊤}
