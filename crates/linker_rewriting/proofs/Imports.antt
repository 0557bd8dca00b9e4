-- The names of other crates, and of types declared here, that several files of proofs here use.
pub use Rattle.linker_base.specs.Rewrite.{CanRewrite, IsRewritable, Rewrite, rewrite_window, rewritten}
pub use Rattle.linker_base.specs.RewriteWindow.{window_of_rewrite}
pub use Rattle.linker_base.specs.declared.rewrite.DeletedBytes.{DeletedBytes}
pub use Rattle.linker_elf.specs.AArch64Relocations.{aarch64_name}
pub use Rattle.linker_elf.specs.Choices.{Entry, IsBound, IsFirst, choice}
pub use Rattle.linker_elf.specs.ElfNames.{ElfName, IsNameOf, IsNamed, named, r_type_of, unnamed}
pub use Rattle.linker_elf.specs.LoongArchRelocations.{loongarch_name}
pub use Rattle.linker_elf.specs.Ppc64Relocations.{ppc64_name}
pub use Rattle.linker_elf.specs.declared.aarch64.relocations.AArch64Relocation.{AArch64Relocation}
pub use Rattle.linker_elf.specs.declared.elf.architecture.Architecture.{Architecture}
pub use Rattle.linker_elf.specs.declared.elf.architecture.Architecture.TheVariants.{AArch64, LoongArch64, Ppc64, RiscV, X86_64}
pub use Rattle.linker_elf.specs.declared.elf.choice.Choice.{Choice}
pub use Rattle.linker_elf.specs.declared.elf.choice.LinkFacts.{LinkFacts}
pub use Rattle.linker_elf.specs.declared.loongarch64.relocations.LoongArch64Relocation.{LoongArch64Relocation}
pub use Rattle.linker_elf.specs.declared.ppc64.relocations.Ppc64Relocation.{Ppc64Relocation}
pub use Rattle.linker_elf.specs.declared.x86_64.relocations.X86_64Relocation.{X86_64Relocation}
pub use Rattle.linker_rewriting.specs.Agreement.{Agree, AgreeBelow, contradict_at}
pub use Rattle.linker_rewriting.specs.Candidates.{IsCallIn, IsCandidate, IsCandidateBy, IsCandidateWith, IsMatched, IsTaken, at_base, calls_tls_get_addr, deletes_within, own_facts}
pub use Rattle.linker_rewriting.specs.Decisions.{AllCanBeMade, AllKeepBytes, AllStillFit, AreAllDecided, AreApart, AreApartBy, AreBytes, AreClear, AreDecidedBy, AreDecidedIn, Bound, CanBeMade, DecisionsAreMade, DecisionsFollow, IsCovered, IsDecided, IsDecidedAfter, IsDecidedAlone, IsEndAfter, IsGroupDecision, IsLabelDecision, IsMadeBy, IsMatchedDecision, IsNotSurveyed, IsOverlapping, IsRejectedBy, IsRejectedFirst, IsRejectedIn, IsRejectedWith, IsRewrittenAlone, IsRewrittenAt, IsScopeDecision, IsSome, IsThere, IsUnmade, IsWithin, KeepsBytes, Matches, OneByteTells, StillFits, WordsTell, bound_at, by_index, bytes_number, decision_ahead, decision_at, decision_of, deleted_end, deleted_of, deletion_by, deletions_by, end_at, end_by, is_taken, label_decision, pair_of, pairs_in, rewritten_by, start_at, start_by, takes_next, takes_symbol, turned, window_number, window_of, written_end_at}
pub use Rattle.linker_rewriting.specs.Facts.{RelaxContext, context, context_of, facts_at, facts_by, facts_of, facts_with, link_facts, no_addresses, placed_facts, pre_layout}
pub use Rattle.linker_rewriting.specs.GlobalPointer.{ArePartsDecided, ArePartsRejected, ArePartsWhole, ArePartsWholeAcross, AreSymbolsSurveyed, DecidesPart, IsKeepingSymbol, IsLabelled, IsMember, IsMemberBy, IsPartDecided, IsSubject, KeepsSymbol, MeansSymbolsUnsurveyed, base_of, based_relocation, based_section, decided_by, fits, is_expected, is_placed, is_placed_by, is_reached, kept_by, low_r_type, part_decision, part_end, part_of, part_start, relative_high, relocation_by, section_based}
pub use Rattle.linker_rewriting.specs.Groups.{IsInGroupIn, IsNotRelaxableUnless, IsScopeIn, aarch64_scope_in, group_stays, has_rewrites, keeps, loongarch_scope_in, ppc64_scope_in, riscv_scope_in, stays_at, symbol_of_group, with_kept, x86_64_scope_in}
pub use Rattle.linker_rewriting.specs.Inner.Calls.{IsLeft, aarch64_keeps, changes_toc, is_weak_zero, ppc64_keeps}
pub use Rattle.linker_rewriting.specs.Inner.Places.{AreAbove, AreBelow, AreBounded, IsPlace, IsPlaceBeside, IsWindow}
pub use Rattle.linker_rewriting.specs.Inner.RelocationTypes.{KeepsNone, is_of_group}
pub use Rattle.linker_rewriting.specs.Kept.{AreAsKept, HaveStubs, IsAsKept, KeptFactsTell, bit_if, facts_now, kept_bits, lacks_stub}
pub use Rattle.linker_rewriting.specs.Notes.{AreHighsNoted, AreLabelsNoted, IsNoteAt, IsNoteOf, is_note}
pub use Rattle.linker_rewriting.specs.Numbers.{IsKeptDecision, IsWrittenAs, IsWrittenDecision, choice_in, choice_of, decision_by, decision_in, is_kept, number_of, of_fate, rewrite_in, subject_in}
pub use Rattle.linker_rewriting.specs.Rewritten.{AreDone, AreRelocationsAfter, GroupsAreWholeAcross, GroupsAreWholeIn, IsAddressRewritten, IsDescriptorRewritten, IsDescriptorWhole, IsDone, IsLoadRewritten, IsMade, IsPartAt, IsRewritten, IsRewrittenBy, IsWholeBy, LabelsAreWhole, LoadsAreWhole, OthersStay, SequencesAreWhole, relocation_after, section_after}
pub use Rattle.linker_rewriting.specs.RiscVPcrelGroups.{HasLacking, IsHighAt, IsHighFrom, IsHighIn, IsHighOf, IsInLabel, IsLabelCandidate, IsLabelNote, IsLacking, LabelFits, LabelStays, Lacks, has_labels, high_r_type, is_beyond, is_high, is_high_in, is_labelled, label_facts, label_offset, offset_of_label, searched}
pub use Rattle.linker_rewriting.specs.Sequences.{IsWhole, are_members, descriptor, got_load, is_among, is_marked_at, is_marked_in, is_member, is_place, is_tied, is_typed, is_whole, is_whole_in, marked_load, member, page_and_offset}
pub use Rattle.linker_rewriting.specs.Surveys.{AllStayIf, AreKeptToo, HasRewrite, IsCause, IsGroup, IsGroupOf, IsKeeping, IsNoted, IsOfThreads, IsSurveyedIn, IsUnmarked, MeansUnsurveyed, NotesStay, StaysBy, SurveysCommute, is_marked}
pub use Rattle.linker_rewriting.specs.TocIndirection.{AreLoadsDecided, AreLoadsRejected, AreLoadsSurveyed, AreSurveyedBy, HasLoadRewrite, IsDecisionBy, IsKeepingWord, IsLoad, IsLoadCandidate, IsLoadDecision, IsNotedBy, IsWordDecision, KeepsWord, MeansWordsUnsurveyed, WordUnchangedBy, WordsAreWhole, WordsAreWholeAcross, word_offset, word_r_type, word_stays}
pub use Rattle.linker_rewriting.specs.declared.decisions.Decision.{Decision}
pub use Rattle.linker_rewriting.specs.declared.decisions.Decision.TheVariants.{Consumed, Kept, Rewritten, RewrittenWithSymbol}
pub use Rattle.linker_rewriting.specs.declared.decisions.RewritingError.{RewritingError}
pub use Rattle.linker_rewriting.specs.declared.decisions.RewritingError.TheVariants.{Contradiction, NotSurveyed, Overlaps, TooShort}
pub use Rattle.linker_rewriting.specs.declared.decisions.numbers.DecisionNumbers.{DecisionNumbers}
pub use Rattle.linker_rewriting.specs.declared.facts.OutputFacts.{OutputFacts}
pub use Rattle.linker_rewriting.specs.declared.facts.SymbolFacts.{SymbolFacts}
pub use Rattle.linker_rewriting.specs.declared.groups.Group.{Group}
pub use Rattle.linker_rewriting.specs.declared.groups.Scope.{Scope}
pub use Rattle.linker_rewriting.specs.declared.groups.Scope.TheVariants.{FirstOfPair, Grouped, IfGroupMatches, Independent, Labelled, NotRelaxable}
pub use Rattle.linker_rewriting.specs.declared.groups.UnrelaxableGroups.{UnrelaxableGroups}
pub use Rattle.linker_rewriting.specs.declared.phases.Phase.{Phase}
pub use Rattle.linker_rewriting.specs.declared.phases.Phase.TheVariants.{GotToPcRel, PreLayout, ShortPcRel, TlsLocalExec}
pub use Rattle.linker_rewriting.specs.declared.sequences.Member.{Member}
pub use Rattle.linker_rewriting.specs.declared.sequences.Tie.{Tie}
pub use Rattle.linker_riscv64.proofs.Shrunk.{written_more}
pub use Rattle.linker_section.specs.Fields.{IsField, field_end, field_len}
pub use Rattle.linker_section.specs.Relocations.{relocation_at, relocation_in, relocation_of}
pub use Rattle.linker_section.specs.Values.{IsAscending, offset_at}
pub use Rattle.linker_section.specs.declared.facts.Addresses.{Addresses}
pub use Rattle.linker_section.specs.declared.facts.Symbol.{Symbol}
pub use Rattle.linker_section.specs.declared.relocations.Rela.{Rela}
pub use Rattle.linker_utils.specs.AArch64Rewrites.{AArch64Applies, AArch64Choice, IsAArch64Choice, aarch64_entries, aarch64_matches, descriptor_entries, erased}
pub use Rattle.linker_utils.specs.LoongArchRewrites.{IsLd, IsLoongArchChoice, IsPair, LoongArchChoice, loongarch_deleted}
pub use Rattle.linker_utils.specs.Ppc64Rewrites.{IsPpc64Choice, ppc64_may_be_skipped}
pub use Rattle.linker_utils.specs.Relaxations.{IsArchitectureChoice, IsChosenBy, IsSkippable, IsUnchanged, relaxation_architecture, relaxation_deleted, relaxation_no_op, relaxation_rewrite, relaxation_skipped, rewrite_of_number}
pub use Rattle.linker_utils.specs.declared.architecture.Relaxation.{Relaxation}
pub use Rattle.linker_utils.specs.declared.loongarch64.rewrites.RewriteKind.{RewriteKind}
pub use Rattle.std.proofs.Common.{Bool, IsTrue, List, None, Option, Some, [], add-one, ap, append-nil, arith, below_more, drop, drop-cons, eq-eqb, eqb, false, get_or, if◌then◌else◌, inl, inr, is_some, length, ltb, map, nat_le, nat_lt, not, pos, refl, rules, slice_get, slice_set, subst, suc, sym, take, true, true≢false, zero, ℕ, ℤ, ◌&&◌, ◌*◌, ◌++◌, ◌+◌, ◌-◌, ◌/◌, ◌<◌, ◌==◌, ◌^◌, ◌||◌, ◌↔◌, ◌∙◌, ◌∷◌, ◌≡◌, ◌≢◌, ◌≤◌, ◌⊎◌}
pub use Rattle.std.proofs.lemmas.Bool.{and_parts, cases_Bool, cases_eq, cases_lt, cond-false, cond-true, eqb-true, le-leb, le-ltb, leb-true, lt-ltb}
pub use Rattle.std.proofs.lemmas.Grind.{common_steps, drop_more_same}
pub use Rattle.std.proofs.lemmas.List.{drop-set-lt, get_or-drop, get_or-map, get_or-set_other, get_or-set_same, get_or-take, length-append, length-drop, length-map, length-set, length-take-le, map-set, set-get_or, take-take, take_more_set}
pub use Rattle.std.proofs.lemmas.Result.{err_from_is_err_and}
pub use Rattle.std.specs.Prelude.{All, IfNone, IfSome, cond, max, min, ⊤, ◌%◌}
