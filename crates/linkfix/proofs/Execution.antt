-- A run over the lines of an input, line by line.
use Rattle.linkfix.proofs.Imports.{Appends, BeginWithLines, Bool, EndsWith, Err, ExecutesInput, ExecutesLine, ExecutesLines, IfSome, Io, IsMemoryOrIoError, IsNextLine, IsTrue, List, None, Ok, Option, RejectsLine, Reported, ReportedError, Result, RunsTo, SectionState, Some, [], ap, append-nil, append_assoc, decoded_hex, drop_through, false, false≢true, first_line, inl, inr, refl, subst, sym, true, ℕ, ◌++◌, ◌↔◌, ◌∙◌, ◌∷◌, ◌≡◌, ◌≢◌, ◌⊎◌}
use Rattle.std.proofs.KnownBytes.{Appends-nil, Appends-trans}
use Rattle.linkfix.specs.ErrorLines.{error_line}
use Rattle.linkfix.specs.declared.input.InputError.{InputError}
use Rattle.linkfix.specs.declared.input.InputError.TheVariants.{Read as ReadFails, OutOfMemory as NoMemoryForInput}
use Rattle.linkfix.specs.declared.program.ReportedError.TheVariants.{BadSection, OutOfMemory}
use Rattle.linkfix.specs.declared.program.RunError.{RunError}
use Rattle.linkfix.specs.declared.sections.LineFault.{LineFault}
use Rattle.linkfix.specs.declared.sections.LineFault.TheVariants.{BadSection as LineIsBad, OutOfMemory as NoMemoryForLine}

-- one line more
begin_with_more : (lines : List (List ℕ)) (bytes rest line : List ℕ) → BeginWithLines lines bytes rest → rest ≢ [] → line ≡ first_line rest
    → BeginWithLines (lines ++ line ∷ []) bytes (drop_through 10 rest)
begin_with_more [] bytes rest line begin some is = rw (sym begin) (some, is, refl)
begin_with_more (first ∷ lines) bytes rest line begin some is = (begin.0, begin.1, begin_with_more lines (drop_through 10 bytes) rest line begin.2 some is)

executes_more : (lines : List (List ℕ)) (s0 s1 s2 : SectionState) (done printed line : List ℕ) → ExecutesLines lines s0 s1 done → ExecutesLine line s1 s2 printed
    → ExecutesLines (lines ++ line ∷ []) s0 s2 (done ++ printed)
executes_more [] s0 s1 s2 done printed line run one =
    (s2, printed, subst (λ s. ExecutesLine line s s2 printed) run.0 one, [], (refl, refl), ap (λ l. l ++ printed) run.1 ∙ sym (append-nil printed))
executes_more (first ∷ lines) s0 s1 s2 done printed line run one =
    (run.0, run.1, run.2, run.3 ++ printed, executes_more lines run.0 s1 s2 run.3 printed line run.4 one, ap (λ l. l ++ printed) run.5 ∙ append_assoc run.1 run.3 printed)

-- the lines from the first of these inputs up to what is left now are executed, and this is printed
abbrev AreExecuted : Option (List ℕ) → Option (List ℕ) → SectionState → SectionState → List ℕ → Type 0
AreExecuted first left s0 s1 done = IfSome first (λ bytes. (rest : List ℕ) × (left ≡ Some rest)
    × (lines : List (List ℕ)) × BeginWithLines lines bytes rest × ExecutesLines lines s0 s1 done)

abbrev pub IsRunSoFar : Option (List ℕ) → Option (List ℕ) → Option (List ℕ) → Option (List ℕ) → SectionState → SectionState → Type 0
IsRunSoFar first left written_first written s0 s1 = (done : List ℕ) × Appends written_first written done × AreExecuted first left s0 s1 done

-- the first line of the input is the section of this state, and this is left
pub record IsBegun (known left : Option (List ℕ)) (state : SectionState) : Type 0 where
  pub section : IfSome known (λ bytes. (decoded_hex (first_line bytes) ≡ Some state.section.items) × (left ≡ Some (drop_through 10 bytes)))
  pub no_deletions : state.deltas ≡ []
  pub no_calls : state.calls ≡ []

pub is_begun : (known new p0 : Option (List ℕ)) (state : SectionState) (line0 text : List ℕ) (found : Bool) → new ≡ known → IsNextLine new p0 line0 found → text ≡ line0
    → decoded_hex text ≡ Some state.section.items → state.deltas ≡ [] → state.calls ≡ [] → IsBegun known p0 state
is_begun None new p0 state line0 text found is first same hex no_deletions no_calls = record { section = tt; no_deletions = no_deletions; no_calls = no_calls }
is_begun (Some bytes) new p0 state line0 text found is first same hex no_deletions no_calls =
    let begun = rw is at first in record { section = (ap decoded_hex (sym (same ∙ begun.0)) ∙ hex, begun.1); no_deletions = no_deletions; no_calls = no_calls }

-- before the first command nothing is printed
pub run_begins : (left written : Option (List ℕ)) (state : SectionState) → IsRunSoFar left left written written state state
run_begins left written state = ([], Appends-nil written, all left)
  where
    all : (known : Option (List ℕ)) → AreExecuted known known state state []
    all None = tt
    all (Some bytes) = (bytes, refl, [], refl, (refl, refl))

module _ (p0 p1 p2 w0 w1 : Option (List ℕ)) (s0 s1 : SectionState) (line text : List ℕ) (same : text ≡ line) (found : Bool) (yes_found : found ≡ true)
    (running : IsRunSoFar p0 p1 w0 w1 s0 s1) (next : IsNextLine p1 p2 line found) where
  executed_more : (s2 : SectionState) (printed : List ℕ) → ExecutesLine text s1 s2 printed → (q : Option (List ℕ)) (done : List ℕ) → AreExecuted q p1 s0 s1 done → AreExecuted q p2 s0 s2 (done ++ printed)
  executed_more s2 printed one None done so_far = tt
  executed_more s2 printed one (Some bytes) done so_far =
      let here = rw so_far.1 at next in (
        drop_through 10 so_far.0,
        here.1,
        so_far.2 ++ text ∷ [],
        begin_with_more so_far.2 bytes so_far.0 text so_far.3 (here.2.0 yes_found) (same ∙ here.0),
        executes_more so_far.2 s0 s1 s2 done printed text so_far.4 one,
      )

  -- a line that prints nothing
  pub next_blank : ExecutesLine text s1 s1 [] → IsRunSoFar p0 p2 w0 w1 s0 s1
  next_blank one = (running.0, running.1, subst (AreExecuted p0 p2 s0 s1) (append-nil running.0) (executed_more s1 [] one p0 running.0 running.2))

  -- a line that prints its result
  pub next_executed : (w2 : Option (List ℕ)) (s2 : SectionState) (printed : List ℕ) → ExecutesLine text s1 s2 printed → Appends w1 w2 printed → IsRunSoFar p0 p2 w0 w2 s0 s2
  next_executed w2 s2 printed one appends = (running.0 ++ printed, Appends-trans w0 w1 w2 running.0 printed running.1 appends, executed_more s2 printed one p0 running.0 running.2)

module _ (known p0 p1 w0 w1 : Option (List ℕ)) (s0 s1 : SectionState) (begun : IsBegun known p0 s0) (running : IsRunSoFar p0 p1 w0 w1 s0 s1) where
  -- so far the input runs to here
  runs_to : IfSome known (λ bytes. (rest : List ℕ) × (p1 ≡ Some rest) × RunsTo bytes rest s1 running.0)
  runs_to = runs_at known begun.section
    where
      runs_at : (q : Option (List ℕ)) → IfSome q (λ bytes. (decoded_hex (first_line bytes) ≡ Some s0.section.items) × (p0 ≡ Some (drop_through 10 bytes)))
          → IfSome q (λ bytes. (rest : List ℕ) × (p1 ≡ Some rest) × RunsTo bytes rest s1 running.0)
      runs_at None section = tt
      runs_at (Some bytes) section =
          let run = rw section.1 at running.2 in (run.0, run.1, (s0, section.0, begun.no_deletions, begun.no_calls, run.2, run.3, run.4))

  -- an error where nothing more was printed
  ends_with : (w2 : Option (List ℕ)) (error : ReportedError) → w2 ≡ w1 → ((rest : List ℕ) → p1 ≡ Some rest → (error ≡ OutOfMemory) ⊎ ((rest ≢ []) × RejectsLine (first_line rest) s1 error))
      → IfSome known (λ bytes. (printed : List ℕ) × EndsWith bytes printed error × Appends w0 w2 printed)
  ends_with w2 error silent why = ends_at known runs_to
    where
      ends_at : (q : Option (List ℕ)) → IfSome q (λ bytes. (rest : List ℕ) × (p1 ≡ Some rest) × RunsTo bytes rest s1 running.0)
          → IfSome q (λ bytes. (printed : List ℕ) × EndsWith bytes printed error × Appends w0 w2 printed)
      ends_at None runs = tt
      ends_at (Some bytes) runs = (running.0, inr (s1, runs.0, runs.2, why runs.0 runs.1), rw silent running.1)

  pub ends_without_memory : (w2 : Option (List ℕ)) (error : ReportedError) → w2 ≡ w1 → error ≡ OutOfMemory
      → IfSome known (λ bytes. (printed : List ℕ) × EndsWith bytes printed error × Appends w0 w2 printed)
  ends_without_memory w2 error silent memory = ends_with w2 error silent (λ _ _. inl memory)

  pub ends_at_line : (p2 w2 : Option (List ℕ)) (error : ReportedError) (line text : List ℕ) (found : Bool) → IsNextLine p1 p2 line found → found ≡ true → text ≡ line → w2 ≡ w1
      → RejectsLine text s1 error → IfSome known (λ bytes. (printed : List ℕ) × EndsWith bytes printed error × Appends w0 w2 printed)
  ends_at_line p2 w2 error line text found next yes_found same silent rejects = ends_with w2 error silent (λ rest is.
      let here = rw is at next in inr (here.2.0 yes_found, subst (λ l. RejectsLine l s1 error) (same ∙ here.0) rejects))

  -- a run that comes to the end of the input executed all of it
  pub run_ends : (p2 : Option (List ℕ)) (line : List ℕ) (found : Bool) → IsNextLine p1 p2 line found → found ≡ false
      → IfSome known (λ bytes. (printed : List ℕ) × ExecutesInput bytes printed × Appends w0 w1 printed)
  run_ends p2 line found next ended = ends_at known runs_to
    where
      nothing_left : (xs : List ℕ) → (IsTrue found ↔ (xs ≢ [])) → xs ≡ []
      nothing_left [] some = refl
      nothing_left (c ∷ cs) some = absurd (false≢true (sym ended ∙ some.1 (λ none. cc none)))

      ends_at : (q : Option (List ℕ)) → IfSome q (λ bytes. (rest : List ℕ) × (p1 ≡ Some rest) × RunsTo bytes rest s1 running.0)
          → IfSome q (λ bytes. (printed : List ℕ) × ExecutesInput bytes printed × Appends w0 w1 printed)
      ends_at None runs = tt
      ends_at (Some bytes) runs =
          let here = rw runs.1 at next in
          (running.0, (s1, subst (λ rest. RunsTo bytes rest s1 running.0) (nothing_left runs.0 here.2) runs.2), running.1)

-- an error of the first line
pub ends_at_section : (known new p0 w : Option (List ℕ)) (error : ReportedError) (fault : LineFault) (line0 text : List ℕ) (found : Bool) → new ≡ known
    → IsNextLine new p0 line0 found → text ≡ line0 → (fault ≡ LineIsBad → (error ≡ BadSection) × (decoded_hex text ≡ None)) → (fault ≡ NoMemoryForLine → error ≡ OutOfMemory)
    → IfSome known (λ bytes. (printed : List ℕ) × EndsWith bytes printed error × Appends w w printed)
ends_at_section None new p0 w error fault line0 text found is first same bad memory = tt
ends_at_section (Some bytes) new p0 w error LineIsBad line0 text found is first same bad memory =
    let begun = rw is at first in
    ([], inl (refl, inr ((bad refl).0, ap decoded_hex (sym (same ∙ begun.0)) ∙ (bad refl).1)), Appends-nil w)
ends_at_section (Some bytes) new p0 w error NoMemoryForLine line0 text found is first same bad memory = ([], inl (refl, inl (memory refl)), Appends-nil w)

-- an error of a read that is reported is one of memory
pub input_memory : (fault : InputError) (stop : RunError) (error : ReportedError) → (fault ≡ ReadFails → stop ≡ Io) → (fault ≡ NoMemoryForInput → stop ≡ Reported OutOfMemory)
    → stop ≡ Reported error → error ≡ OutOfMemory
input_memory ReadFails stop error fails memory is = absurd (cc (fails refl, is))
input_memory NoMemoryForInput stop error fails memory is = cc (memory refl, is)

-- the result of a command that is executed
abbrev Succeeded : Result (Unit {0}) RunError
Succeeded = Ok tt

-- it is not rejected
pub not_rejected : (P Q : ReportedError → Type 0) → ((error : ReportedError) → P error → (Succeeded ≡ Err (Reported error)) ⊎ (Q error × (Succeeded ≡ Err (Reported OutOfMemory))))
    → (error : ReportedError) → ¬ P error
not_rejected P Q causes error rejects = elim (causes error rejects) [
  | inl failed ↦ cc failed
  | inr memory ↦ cc (memory.1)
]

-- an error of a command that is reported: it is rejected, or memory ran out; and nothing was
-- printed for it
pub reported_silent : (error : ReportedError) (w1 w2 : Option (List ℕ)) → (Reported error ≡ Io) ⊎ (w2 ≡ w1) → w2 ≡ w1
reported_silent error w1 w2 (inl io) = absurd (cc io)
reported_silent error w1 w2 (inr same) = same

pub reported_cause : (P : ReportedError → Type 0) (error : ReportedError) → ((e : ReportedError) × (Reported error ≡ Reported e) × P e) ⊎ IsMemoryOrIoError (Reported error)
    → P error ⊎ (error ≡ OutOfMemory)
reported_cause P error (inl rejected) = let same : error ≡ rejected.0 = cc (rejected.1) in inl (rw same rejected.2)
reported_cause P error (inr (inl io)) = absurd (cc io)
reported_cause P error (inr (inr memory)) = inr (cc memory)

-- the error's line is printed last
pub ends_with_its_line : (known w0 w1 w2 : Option (List ℕ)) (error : ReportedError) (line : List ℕ) → line ≡ error_line error
    → IfSome known (λ bytes. (printed : List ℕ) × EndsWith bytes printed error × Appends w0 w1 printed) → Appends w1 w2 line
    → IfSome known (λ bytes. (printed : List ℕ) × (error : ReportedError) × EndsWith bytes printed error × Appends w0 w2 (printed ++ error_line error))
ends_with_its_line None w0 w1 w2 error line is stopped appends = tt
ends_with_its_line (Some bytes) w0 w1 w2 error line is stopped appends =
    (stopped.0, error, stopped.1, Appends-trans w0 w1 w2 stopped.0 (error_line error) stopped.2 (subst (Appends w1 w2) is appends))
