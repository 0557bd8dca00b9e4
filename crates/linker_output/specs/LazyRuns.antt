-- Runs of words, and of the code of lazy PLTs.
use Rattle.std.specs.Prelude.{◌==◌, ℕ, zero, suc, List, [], ◌∷◌, drop, Option, Some, None}
use Rattle.std.specs.Prelude.{if◌then◌else◌}
use Rattle.linker_output.specs.Imports.{from_le_bytes, sum_64, w32}

-- the first words of code
abbrev pub words : ℕ → List ℕ → List ℕ
words zero code = []
words (suc n) code = from_le_bytes w32 code ∷ words n (drop 4 code)

-- what a machine, or its further instructions, make of one, or else the other
abbrev pub or_else : {S : Type 0} → Option S → Option S → Option S
or_else None further = further
or_else (Some s) further = Some s

-- what a run is after its first instruction, if that goes on to the next
abbrev pub continue_by : {S : Type 0} → (S → ℕ) → ℕ → (S → Option S) → Option S → Option S
continue_by pc next rest None = None
continue_by pc next rest (Some s) = if pc s == next then rest s else None

-- Words that stand one after the other from the state's address up are executed, each after the one
-- before it, and then the last, which may go anywhere.
abbrev pub run_by : {S : Type 0} → (S → ℕ) → (ℕ → S → Option S) → List ℕ → S → Option S
run_by pc step [] s = Some s
run_by pc step (word ∷ []) s = step word s
run_by pc step (word ∷ words) s =
    continue_by pc (sum_64 (pc s) 4) (run_by pc step words) (step word s)
