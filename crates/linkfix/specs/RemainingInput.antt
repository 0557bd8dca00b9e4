-- The part of an input that no line has been taken from yet.
use Rattle.std.specs.Prelude.{◌≡◌, ◌≢◌, ◌↔◌, ℕ, ◌+◌, ◌-◌, ◌*◌, Bool, IsTrue, List, [], Option, Some}
use Rattle.std.specs.Prelude.{IfSome, slice_range, if◌then◌else◌}
use Rattle.std.specs.Io.BufRead.{drop_through, first_line}
use Rattle.std.specs.Io.KnownBytes.{prepend_known}
use Rattle.linkfix.specs.declared.input.Lines.{Lines}
use Rattle.linkfix.specs.declared.input.TheConstants.{BUFFER_LEN}

-- an upper bound on the bytes that are in no line yet: those in the buffer, and a full buffer for
-- each read that is left
abbrev pub max_remaining : {R : Type 0} → Lines R → ℕ
max_remaining lines = lines.reads_left * BUFFER_LEN + (lines.end - lines.start)

-- the bytes that are in no line yet: those in the buffer, and then those left in the reader, which
-- are none once a read gave none; None where it is not known what the reader has left
abbrev pub remaining_bytes : {R : Type 0} → Option (List ℕ) → Lines R → Option (List ℕ)
remaining_bytes left lines = prepend_known (slice_range lines.buffer lines.start lines.end)
    (if lines.has_ended then Some [] else left)

-- the next line, what remains after it, and that a line was found exactly where bytes remained
abbrev pub IsNextLine : Option (List ℕ) → Option (List ℕ) → List ℕ → Bool → Type 0
IsNextLine before after line found = IfSome before (λ bytes. (line ≡ first_line bytes)
    × (after ≡ Some (drop_through 10 bytes)) × (IsTrue found ↔ (bytes ≢ [])))
