-- What a command does to the section, which line it prints, which error it gives, and what a run
-- prints.
use Rattle.std.specs.Prelude.{◌≡◌, ℕ, List, [], ◌∷◌, ◌++◌, codes, decimal, ◌⊎◌, ◌≢◌, None, Some}
use Rattle.std.specs.Prelude.{All, length, ⊤}
use Rattle.std.specs.Io.BufRead.{drop_through, first_line}
use Rattle.hex.specs.Hex.{encode_lower}
use Rattle.linker_utils.specs.Deletions.{AreDisjoint, HasInput, IsSelected, IsSortedUnion, rank}
use Rattle.linker_utils.specs.Packing.{IsFirstRejected, IsPacked}
use Rattle.linker_utils.specs.RiscVCalls.{IsEven, IsInSection, IsJalDistance, IsSiteKept, JumpsAt}
use Rattle.linker_utils.specs.RiscVCalls.{output_distance}
use Rattle.linker_utils.specs.CallError.{CallError}
use Rattle.linker_utils.specs.CallError.TheVariants.{OutOfSection, SiteDeleted, OddDistance, TooFar}
use Rattle.linker_utils.specs.JumpError.TheVariants.{Call as JumpFailed}
use Rattle.linker_utils.specs.LinkRegister.TheVariants.{OfAuipc}
use Rattle.linkfix.specs.AcceptedCalls.{AreBySite, IsFarFrom}
use Rattle.linkfix.specs.DecodedHex.{decoded_hex}
use Rattle.linkfix.specs.CommandSyntax.{IsWrittenAs}
use Rattle.linkfix.specs.Words.{words_of}
use Rattle.linkfix.specs.declared.commands.Command.{Command}
use Rattle.linkfix.specs.declared.commands.Command.TheVariants.{Call, Delete, Pack, Show, ToInput}
use Rattle.linkfix.specs.declared.commands.Command.TheVariants.{ToOutput}
use Rattle.linkfix.specs.declared.program.ReportedError.{ReportedError}
use Rattle.linkfix.specs.declared.program.ReportedError.TheVariants.{BadSection, BadLine}
use Rattle.linkfix.specs.declared.program.ReportedError.TheVariants.{BadDeletion, TooLarge, BadCall}
use Rattle.linkfix.specs.declared.program.ReportedError.TheVariants.{Call as CallFailed}
use Rattle.linkfix.specs.declared.program.ReportedError.TheVariants.{OutOfMemory}
use Rattle.linkfix.specs.declared.program.RunError.{RunError}
use Rattle.linkfix.specs.declared.program.RunError.TheVariants.{Reported, Io}
use Rattle.linkfix.specs.declared.program.SectionState.{SectionState}

-- the command takes one state to the other and prints the line
abbrev pub Executes : Command → SectionState → SectionState → List ℕ → Type 0
Executes (Delete offset bytes) before after line = (line ≡ codes "ok")
    × (after.section ≡ before.section) × (after.calls ≡ before.calls)
    × IsSortedUnion (before.deltas ++ (offset, bytes) ∷ []) after.deltas
Executes (ToOutput i) before after line = (line ≡ decimal (rank before.deltas i)) × (after ≡ before)
Executes (ToInput y) before after line = (p : ℕ) × IsSelected before.deltas y p
    × (line ≡ decimal p) × (after ≡ before)
Executes (Call site target) before after line = (line ≡ codes "ok")
    × (after.deltas ≡ before.deltas)
    × AreBySite (before.calls ++ (site, target) ∷ []) after.calls
    × (length after.section.items ≡ length before.section.items)
    × JumpsAt before.section.items after.section.items site
    (output_distance before.deltas site target)
Executes Show before after line = (line ≡ encode_lower before.section.items) × (after ≡ before)
Executes Pack before after line = (packed : List ℕ)
    × IsPacked OfAuipc before.deltas before.section.items before.calls packed
    × (line ≡ encode_lower packed) × (after ≡ before)

-- the error of a call that cannot become a jump: the first that applies, in this order
abbrev pub CallFailsWith : CallError → List ℕ → List (ℕ × ℕ) → ℕ → ℕ → Type 0
CallFailsWith OutOfSection section deletions site target = ¬ IsInSection section site target
CallFailsWith SiteDeleted section deletions site target = IsInSection section site target
    × ¬ IsSiteKept deletions site
CallFailsWith OddDistance section deletions site target = IsInSection section site target
    × IsSiteKept deletions site
    × ¬ IsEven (output_distance deletions site target)
CallFailsWith TooFar section deletions site target = IsInSection section site target
    × IsSiteKept deletions site
    × IsEven (output_distance deletions site target)
    × ¬ IsJalDistance (output_distance deletions site target)

-- the command is rejected in this state, with this error
abbrev pub Rejects : Command → SectionState → ReportedError → Type 0
Rejects (Delete offset bytes) state error = (error ≡ BadDeletion)
    × ¬ AreDisjoint (state.deltas ++ (offset, bytes) ∷ [])
Rejects (ToOutput i) state error = ⊥
Rejects (ToInput y) state error = (error ≡ TooLarge) × ¬ HasInput state.deltas y
Rejects (Call site target) state error = ((error ≡ BadCall)
    × ¬ All (IsFarFrom site) state.calls)
    ⊎ (All (IsFarFrom site) state.calls × (cause : CallError) × (error ≡ CallFailed cause)
    × CallFailsWith cause state.section.items state.deltas site target)
Rejects Show state error = ⊥
Rejects Pack state error = (at : ℕ) × (cause : CallError) × (error ≡ CallFailed cause)
    × IsFirstRejected OfAuipc state.deltas state.section.items state.calls at
    (JumpFailed cause)

-- the command takes memory before it is known that it is rejected with this error
abbrev pub TakesMemoryFirst : Command → ReportedError → Type 0
TakesMemoryFirst (Delete offset bytes) error = ⊥
TakesMemoryFirst (ToOutput i) error = ⊥
TakesMemoryFirst (ToInput y) error = ⊥
TakesMemoryFirst (Call site target) error = error ≢ BadCall
TakesMemoryFirst Show error = ⊥
TakesMemoryFirst Pack error = ⊤

-- the bytes begin with these lines, in order, and the rest is what follows
abbrev pub BeginWithLines : List (List ℕ) → List ℕ → List ℕ → Type 0
BeginWithLines [] bytes rest = rest ≡ bytes
BeginWithLines (line ∷ lines) bytes rest = (bytes ≢ []) × (line ≡ first_line bytes)
    × BeginWithLines lines (drop_through 10 bytes) rest

-- the line is blank and prints nothing, or it is a command that isn't rejected, and prints its line
abbrev pub ExecutesLine : List ℕ → SectionState → SectionState → List ℕ → Type 0
ExecutesLine line before after printed =
    ((words_of line ≡ []) × (after ≡ before) × (printed ≡ []))
    ⊎ ((command : Command) × IsWrittenAs command (words_of line)
    × ((error : ReportedError) → ¬ Rejects command before error)
    × (text : List ℕ) × Executes command before after text × (printed ≡ text ++ 10 ∷ []))

-- the lines are executed one after the other, and this is printed
abbrev pub ExecutesLines : List (List ℕ) → SectionState → SectionState → List ℕ → Type 0
ExecutesLines [] before after printed = (after ≡ before) × (printed ≡ [])
ExecutesLines (line ∷ lines) before after printed = (between : SectionState)
    × (first : List ℕ) × ExecutesLine line before between first
    × (later : List ℕ) × ExecutesLines lines between after later × (printed ≡ first ++ later)

-- the line is no command, or one that is rejected
abbrev pub RejectsLine : List ℕ → SectionState → ReportedError → Type 0
RejectsLine line state error =
    ((error ≡ BadLine) × (words_of line ≢ [])
    × ((command : Command) → ¬ IsWrittenAs command (words_of line)))
    ⊎ ((command : Command) × IsWrittenAs command (words_of line) × Rejects command state error)

-- the first line of the input is a section, the lines after it up to the rest are executed, and
-- this is printed
abbrev pub RunsTo : List ℕ → List ℕ → SectionState → List ℕ → Type 0
RunsTo input rest after printed = (before : SectionState)
    × (decoded_hex (first_line input) ≡ Some before.section.items)
    × (before.deltas ≡ []) × (before.calls ≡ [])
    × (lines : List (List ℕ)) × BeginWithLines lines (drop_through 10 input) rest
    × ExecutesLines lines before after printed

-- all lines after the section are executed, and this is printed
abbrev pub ExecutesInput : List ℕ → List ℕ → Type 0
ExecutesInput input printed = (after : SectionState) × RunsTo input [] after printed

-- the run ends with this error: the first line is no section, or one after it is rejected; or it
-- runs out of memory. What is printed before is the output of the lines before.
abbrev pub EndsWith : List ℕ → List ℕ → ReportedError → Type 0
EndsWith input printed error =
    ((printed ≡ []) × ((error ≡ OutOfMemory)
    ⊎ ((error ≡ BadSection) × (decoded_hex (first_line input) ≡ None))))
    ⊎ ((state : SectionState) × (rest : List ℕ) × RunsTo input rest state printed
    × ((error ≡ OutOfMemory) ⊎ ((rest ≢ []) × RejectsLine (first_line rest) state error)))

-- out of memory, or a read or a write that failed
abbrev pub IsMemoryOrIoError : RunError → Type 0
IsMemoryOrIoError error = (error ≡ Io) ⊎ (error ≡ Reported OutOfMemory)
