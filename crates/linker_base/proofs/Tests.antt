-- Lemmas on tests.
use Rattle.linker_base.proofs.Imports.{Bool, and_parts, false, or_parts, sym, true, true≢false, ◌&&◌, ◌||◌, ◌≡◌}

pub never : {A : Type 0} → false ≡ true → A
never e = absurd (true≢false (sym e))

pub and_first : (a b : Bool) → (a && b) ≡ true → a ≡ true
and_first a b e = (and_parts a b e).0

pub and_second : (a b : Bool) → (a && b) ≡ true → b ≡ true
and_second a b e = (and_parts a b e).1

pub or_first : (a b : Bool) → (a || b) ≡ false → a ≡ false
or_first a b e = (or_parts a b e).0

pub or_second : (a b : Bool) → (a || b) ≡ false → b ≡ false
or_second a b e = (or_parts a b e).1
