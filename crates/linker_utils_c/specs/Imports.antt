-- The names of other crates and of types that several files of definitions here use.
pub use Rattle.linker_base.specs.Deletions.{AreDisjoint, IsSortedUnion, IsValid, rank}
pub use Rattle.linker_base.specs.Deltas.{deletions_of}
pub use Rattle.linker_base.specs.Listed.{AreValidDeltas, IsFirstInvalid, IsFirstOverlapping}
pub use Rattle.linker_base.specs.declared.relaxation.RelaxDelta.{RelaxDelta}
pub use Rattle.linker_elf.specs.Architectures.{IsElfName, IsRow, form_of_number}
pub use Rattle.linker_elf.specs.Machines.{architecture_of, machine_of}
pub use Rattle.linker_elf.specs.Numbers.{flag_number, kind_number, mask_number, number_or_zero}
pub use Rattle.linker_elf.specs.Relocate.{RejectsValue, WritesRow, window_len}
pub use Rattle.linker_elf.specs.declared.elf.RowInfo.{RowInfo}
pub use Rattle.linker_elf.specs.declared.elf.RowSize.{RowSize}
pub use Rattle.linker_elf.specs.declared.elf.architecture.Architecture.{Architecture}
pub use Rattle.linker_elf.specs.declared.elf.architecture.Architecture.TheVariants.{RiscV, X86_64}
pub use Rattle.linker_elf.specs.declared.elf.choice.LinkFacts.{LinkFacts}
pub use Rattle.linker_elf.specs.declared.elf.value.Operands.{Operands}
pub use Rattle.linker_output.specs.declared.stubs.StubError.{StubError}
pub use Rattle.linker_output.specs.declared.stubs.StubKind.{StubKind}
pub use Rattle.linker_output.specs.declared.stubs.StubKind.TheVariants.{Far, FarRelative, Jump, LandingLoad, Load, PrefixedJump, PrefixedLoad, TocFar, TocLoad}
pub use Rattle.linker_rewriting.specs.Agreement.{Agree, IsContradiction}
pub use Rattle.linker_rewriting.specs.Facts.{RelaxContext}
pub use Rattle.linker_rewriting.specs.Numbers.{IsKeptDecision, IsWrittenDecision, decisions_in, numbers_in}
pub use Rattle.linker_rewriting.specs.declared.decisions.numbers.DecisionNumbers.{DecisionNumbers}
pub use Rattle.linker_rewriting.specs.declared.phases.Phase.TheVariants.{GotToPcRel, PreLayout, ShortPcRel, TlsLocalExec}
pub use Rattle.linker_runs.specs.declared.packing.Machine.{Machine}
pub use Rattle.linker_runs.specs.declared.relaxation.Item.{Item}
pub use Rattle.linker_section.specs.declared.facts.Addresses.{Addresses}
pub use Rattle.linker_section.specs.declared.facts.Symbol.{Symbol}
pub use Rattle.linker_section.specs.declared.needed.EntryClass.{EntryClass}
pub use Rattle.linker_section.specs.declared.needed.EntryClass.TheVariants.{Address, Descriptor, Module, ModuleOffset, ThreadOffset}
pub use Rattle.linker_section.specs.declared.needed.Requirements.{Requirements}
pub use Rattle.linker_section.specs.declared.relocations.Rela.{Rela}
pub use Rattle.linker_utils.specs.Relaxations.{IsArchitectureChoice, IsFit, relaxation_architecture, relaxation_deleted, relaxation_matches, relaxation_modifier, relaxation_no_op, relaxation_other, relaxation_skipped, rewrite_of_number}
pub use Rattle.linker_utils.specs.declared.architecture.Relaxation.{Relaxation}
pub use Rattle.linker_utils_c.specs.declared.choices.ChoiceNumbers.{ChoiceNumbers}
pub use Rattle.linker_utils_c.specs.declared.sections.RequirementNumbers.{RequirementNumbers}
pub use Rattle.linker_utils_c.specs.declared.status.Status.{Status}
pub use Rattle.linker_utils_c.specs.declared.status.Status.TheVariants.{AlignmentBelowGranularity, BadAlignment, BadFieldValue, BadGranularity, BadReach, CallsNotApart, CannotApply, CodeTooLong, CutOff, DeletedOutside, DifferentLengths, DifferentValues, DoesNotFit, DoesNotMatch, EndsTooHigh, FactsChanged, FactsContradict, HoldsNoValue, InvalidDeletions, ItemOutOfSection, ItemsOverlap, LeavesOtherBytes, MalformedRelocation, MayBeMisaligned, Misaligned, NoAddress, NoBoundary, NoEntry, NoHighPart, NoRoom, NoShape, NoSymbol, NoTarget, NoTlsBase, NoValue, NotABranch, NotACall, NotAscending, NotHalves, NotItsFirstBytes, NotItsInstructions, NotMergeable, NotProperties, NotProvided, NotSurveyed, OddDistance, OutOfReach, OutOfSection, ShapeTooLong, ShapesNotAscending, ShortMemory, SiteDeleted, StubTooFar, StubWithoutLength, Success, TargetInside, TargetOutOfReach, TooFar, TooFewNops, TooLarge, TooManyShapes, TooShort, Uleb128Ended, Uleb128TooLarge, UnalignedAddress, UnevenEnd, UnevenNops, UnevenShape, UnknownArchitecture, UnknownEntryClass, UnknownForm, UnknownProperty, UnknownRelocation, UnknownRewrite, UnknownStub, Unsupported, WindowTooLong, WrongSize}
pub use Rattle.std.specs.Int.{bit_at, byte_len, cast_unsigned, w64}
