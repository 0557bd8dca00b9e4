use Rattle.linker_base.proofs.Imports.{Bool, IsNonDecreasing, IsTrue, List, MatchBool, arith, false, false≢true, get_or, length, non_decreasing_from_is_sorted, refl, true, ℕ, ◌+◌, ◌<◌, ◌↔◌}
use Rattle.linker_base.proofs.relaxation.delta_slice.DeltaSlice.can_translate_all.Goals as goal

decides : (xs : List ℕ) (r : Bool) → MatchBool r (IsNonDecreasing xs) ((k : ℕ) × (k + 1 < length xs) × ((d : ℕ) → get_or xs (k + 1) d < get_or xs k d)) → IsTrue r ↔ IsNonDecreasing xs
decides xs true rises = (λ _. rises, λ _. refl)
decides xs false (k, within, falls) = (λ is. absurd (false≢true is), λ rises. absurd (omega (arith, falls 0, rises k (k + 1) 0 (omega arith) within)))

pub returns : goal.returns
returns c = decides c.args.queries.now c.is_sorted.result (non_decreasing_from_is_sorted c.args.queries.now c.is_sorted.result c.is_sorted.ensures.cases)
