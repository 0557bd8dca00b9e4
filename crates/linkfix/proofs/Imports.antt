-- The names of definitions and of other crates that several files of proofs here use.
pub use Rattle.linker_base.proofs.Rank.{all_pairs_head, all_pairs_tail}
pub use Rattle.linker_utils.specs.CallError.{CallError}
pub use Rattle.linker_utils.specs.CallError.TheVariants.{OddDistance, OutOfSection, SiteDeleted, TooFar}
pub use Rattle.linker_utils.specs.JumpError.TheVariants.{Call}
pub use Rattle.linker_utils.specs.LinkRegister.TheVariants.{OfAuipc}
pub use Rattle.linker_utils.specs.Packing.{AreApart, CanJump, IsApart, IsFirstRejected, IsRejected}
pub use Rattle.linkfix.specs.AcceptedCalls.{AreBySite, IsFarFrom, placed}
pub use Rattle.linkfix.specs.DecodedHex.{decoded_hex}
pub use Rattle.linkfix.specs.Execution.{BeginWithLines, CallFailsWith, EndsWith, Executes, ExecutesInput, ExecutesLine, ExecutesLines, IsMemoryOrIoError, Rejects, RejectsLine, RunsTo}
pub use Rattle.linkfix.specs.RemainingInput.{IsNextLine, max_remaining, remaining_bytes}
pub use Rattle.linkfix.specs.Words.{begins_word, is_space, prepend_to_first}
unfoldable pub use Rattle.linkfix.specs.Words.{words_of}
pub use Rattle.linkfix.specs.declared.program.ReportedError.{ReportedError}
pub use Rattle.linkfix.specs.declared.program.RunError.TheVariants.{Io, Reported}
pub use Rattle.linkfix.specs.declared.program.SectionState.{SectionState}
pub use Rattle.std.proofs.Common.{All, Bool, Err, IfSome, IsTrue, List, None, Ok, Option, Some, Vec, [], ap, append-nil, append_assoc, arith, codes, cond, drop, drop-cons, false, get_or, inl, inr, length, nat_lt, ne_eqb, not, one-add, refl, rules, slice_index, slice_range, subst, suc, sym, take, take-append-drop, true, vec_items, vec_len, ℕ, ⊎_elim, ◌*◌, ◌++◌, ◌+◌, ◌-◌, ◌<◌, ◌==◌, ◌^◌, ◌↔◌, ◌∙◌, ◌∷◌, ◌≡◌, ◌≢◌, ◌≤◌, ◌⊎◌}
pub use Rattle.std.proofs.lemmas.Bool.{cases_Bool, cases_lt, cases_order, false≢true}
pub use Rattle.std.proofs.lemmas.Bool.Decides.{nat_tests}
pub use Rattle.std.proofs.lemmas.List.{drop-drop, drop-take, get_or-take, get_or_push, length-take, length_push, take_at, take_more}
pub use Rattle.std.proofs.lemmas.List.Elements.{All-append, All-cons, All-contains, All-head, All-nil, All-tail}
pub use Rattle.std.proofs.lemmas.List.Sorted.{All-permutation, Contains-permutation, IsPermutation-cons, IsPermutation-middle, IsPermutation-refl, IsPermutation-sym, IsPermutation-to_front, IsPermutation-trans}
pub use Rattle.std.proofs.lemmas.Result.{IfOk-weaker, err_from_is_err_and}
pub use Rattle.std.specs.BTreeMap.{insert_entry, is_at}
pub use Rattle.std.specs.Char.{digit_value}
pub use Rattle.std.specs.Io.BufRead.{drop_through, ends_with_byte, first_line, strip_last, take_through}
pub use Rattle.std.specs.Io.KnownBytes.{Appends, Consumes, prepend_known}
pub use Rattle.std.specs.Map.{remove_entry}
pub use Rattle.std.specs.Ordering.{nat_cmp}
pub use Rattle.std.specs.Prelude.{Contains, IsPermutation, Result, nat_eq}
pub use Rattle.std.specs.Str.Parse.{AllDigits, digits_value, digits_value_after}
