-- What a status says of the outcome of the call that it is about.
use Rattle.linker_utils_c.proofs.Imports.{Err, IsOk, Ok, OnErr, OnOk, Result, refl, ◌↔◌}

pub via : {A B C : Type 0} → A ↔ B → B ↔ C → A ↔ C
via f g = (λ a. g.0 (f.0 a), λ c. f.1 (g.1 c))

pub on_ok : {A E P : Type 0} (outcome : Result A E) → IsOk outcome → OnOk outcome P → P
on_ok (Ok a) is p = p
on_ok (Err e) is p = absurd (let f = is in cc)

pub on_err : {A E P : Type 0} (outcome : Result A E) → ¬ IsOk outcome → OnErr outcome P → P
on_err (Ok a) other p = absurd (other refl)
on_err (Err e) other p = p
