use Rattle.linker_reading.proofs.Imports.{IsOneOf, drop, ◌↔◌}
use Rattle.linker_reading.proofs.operands.is_one_of.Given as goal

-- none of the forms so far is it
abbrev pub invariant-loop-other : goal.invariant-loop-other
invariant-loop-other l = IsOneOf l.form l.forms ↔ IsOneOf l.form (drop l.other-index l.forms)
