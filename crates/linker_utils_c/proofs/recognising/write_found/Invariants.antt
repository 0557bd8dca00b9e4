use Rattle.linker_utils_c.proofs.Imports.{AreInNumbers, RecognisedNumbers, get_or, length, present, take, ℕ, ◌≡◌, ◌≤◌}
use Rattle.linker_utils_c.proofs.recognising.write_found.Given as goal

abbrev pub invariant-loop-index : goal.invariant-loop-index
invariant-loop-index l = record {
  room : length l.found ≡ length l.initial.found;
  few : l.count ≤ l.index;
  written : AreInNumbers (present (take l.index l.made)) (take l.count l.found);
  left : (k : ℕ) (numbers : RecognisedNumbers) → l.count ≤ k → get_or l.found k numbers ≡ get_or l.initial.found k numbers;
}
