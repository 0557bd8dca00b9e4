-- What was found, in the numbers that C sees.
use Rattle.linker_utils_c.proofs.Imports.{AreInNumbers, IsMadeInNumbers, List, None, Option, RecognisedNumbers, Relaxation, Some, [], ap, get_or, length, present, refl, set, take, take_more, take_more_set, ℕ, ◌++◌, ◌+◌, ◌<◌, ◌∷◌, ◌≡◌}
use Rattle.linker_reading.specs.declared.recognise.engine.Recognised.{Recognised}

-- one more at the end of both
pub one_more : (ms : List (Recognised Relaxation ℕ)) (ns : List RecognisedNumbers) (m : Recognised Relaxation ℕ) (n : RecognisedNumbers) → AreInNumbers ms ns → IsMadeInNumbers m n → AreInNumbers (ms ++ m ∷ []) (ns ++ n ∷ [])
one_more [] [] m n are is = (is, are)
one_more [] (o ∷ ns) m n are is = absurd are
one_more (l ∷ ms) [] m n are is = absurd are
one_more (l ∷ ms) (o ∷ ns) m n are is = (are.0, one_more ms ns m n are.1 is)

pub present_some : {A : Type 0} (xs : List (Option A)) (a : A) → present (xs ++ Some a ∷ []) ≡ present xs ++ a ∷ []
present_some [] a = refl
present_some (None ∷ xs) a = present_some xs a
present_some (Some x ∷ xs) a = ap (λ ys. x ∷ ys) (present_some xs a)

pub present_none : {A : Type 0} (xs : List (Option A)) → present (xs ++ None ∷ []) ≡ present xs
present_none [] = refl
present_none (None ∷ xs) = present_none xs
present_none (Some x ∷ xs) = ap (λ ys. x ∷ ys) (present_none xs)

-- the next place has one, which is written
pub found_more : (made : List (Option (Recognised Relaxation ℕ))) (found : List RecognisedNumbers) (i count : ℕ) (m : Recognised Relaxation ℕ) (n : RecognisedNumbers) → i < length made → count < length found → get_or made i None ≡ Some m → IsMadeInNumbers m n → AreInNumbers (present (take i made)) (take count found) → AreInNumbers (present (take (i + 1) made)) (take (count + 1) (set found count n))
found_more made found i count m n within room here is before =
    rw (take_more made i None within, here, present_some (take i made) m, take_more_set found count n room)
    (one_more (present (take i made)) (take count found) m n before is)

-- it has none
pub none_more : (made : List (Option (Recognised Relaxation ℕ))) (i : ℕ) (ns : List RecognisedNumbers) → i < length made → get_or made i None ≡ None → AreInNumbers (present (take i made)) ns → AreInNumbers (present (take (i + 1) made)) ns
none_more made i ns within here before =
    rw (take_more made i None within, here, present_none (take i made)) before
