-- The names of other crates, and of types declared here, that several files here use.
pub use Rattle.linker_base.specs.Rewrite.{CanRewrite, Rewrite, addend_after, offset_after, rewrite_window, rewritten}
pub use Rattle.linker_elf.specs.AArch64Relocations.{aarch64_name}
pub use Rattle.linker_elf.specs.ElfNames.{ElfName, IsNameOf, r_type_of}
pub use Rattle.linker_elf.specs.Ppc64Relocations.{ppc64_name}
pub use Rattle.linker_elf.specs.RiscVRelocations.{riscv_name}
pub use Rattle.linker_elf.specs.Value.{difference_64, sum_64}
pub use Rattle.linker_elf.specs.declared.elf.architecture.Architecture.{Architecture}
pub use Rattle.linker_elf.specs.declared.elf.architecture.Architecture.TheVariants.{AArch64, LoongArch64, Ppc64, RiscV, X86_64}
pub use Rattle.linker_elf.specs.declared.elf.choice.Choice.{Choice}
pub use Rattle.linker_elf.specs.declared.elf.choice.LinkFacts.{LinkFacts}
pub use Rattle.linker_rewriting.specs.declared.decisions.Decision.{Decision}
pub use Rattle.linker_rewriting.specs.declared.decisions.Decision.TheVariants.{Consumed, Kept, Rewritten, RewrittenWithSymbol}
pub use Rattle.linker_rewriting.specs.declared.decisions.Deletion.{Deletion}
pub use Rattle.linker_rewriting.specs.declared.decisions.RewritingError.{RewritingError}
pub use Rattle.linker_rewriting.specs.declared.decisions.RewritingError.TheVariants.{Contradiction, NotSurveyed, Overlaps, TooShort}
pub use Rattle.linker_rewriting.specs.declared.decisions.Subject.{Subject}
pub use Rattle.linker_rewriting.specs.declared.decisions.numbers.DecisionNumbers.{DecisionNumbers}
pub use Rattle.linker_rewriting.specs.declared.facts.OutputFacts.{OutputFacts}
pub use Rattle.linker_rewriting.specs.declared.facts.RelaxContext.{RelaxContext}
pub use Rattle.linker_rewriting.specs.declared.facts.SymbolFacts.{SymbolFacts}
pub use Rattle.linker_rewriting.specs.declared.groups.Group.{Group}
pub use Rattle.linker_rewriting.specs.declared.groups.Group.TheVariants.{Descriptor, GeneralDynamic, GotLoad, InitialExec, LocalDynamic}
pub use Rattle.linker_rewriting.specs.declared.groups.Scope.{Scope}
pub use Rattle.linker_rewriting.specs.declared.groups.Scope.TheVariants.{FirstOfPair, Grouped, IfGroupMatches, Independent, Labelled, NotRelaxable}
pub use Rattle.linker_rewriting.specs.declared.groups.UnrelaxableGroups.{UnrelaxableGroups}
pub use Rattle.linker_rewriting.specs.declared.phases.Phase.{Phase}
pub use Rattle.linker_rewriting.specs.declared.phases.Phase.TheVariants.{GotToPcRel, PreLayout, ShortPcRel, TlsLocalExec}
pub use Rattle.linker_section.specs.Relocations.{relocation_at, relocation_in}
pub use Rattle.linker_section.specs.Values.{IsAscending, offset_at}
pub use Rattle.linker_section.specs.declared.facts.Addresses.{Addresses}
pub use Rattle.linker_section.specs.declared.facts.Symbol.{Symbol}
pub use Rattle.linker_section.specs.declared.relocations.Rela.{Rela}
pub use Rattle.linker_utils.specs.Relaxations.{IsArchitectureChoice, IsSkippable, IsUnchanged, relaxation_deleted, relaxation_matches, relaxation_rewrite, relaxation_skipped, rewrite_of_number}
pub use Rattle.linker_utils.specs.declared.architecture.Relaxation.{Relaxation}
pub use Rattle.std.specs.Int.{cast_signed, cast_unsigned, w64}
