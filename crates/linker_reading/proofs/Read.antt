-- What is read of linked bytes at an offset that may be after them.
use Rattle.linker_reading.proofs.Imports.{List, ap, arith, cases_lt, drop, drop_all, length, min, sym, take, take_rest, ℕ, ⊎_elim, ◌-◌, ◌∙◌, ◌≡◌}

pub read_from : (at start : ℕ) (bytes : List ℕ) → start ≡ min at (length bytes) → take (length bytes - start) (drop start bytes) ≡ drop at bytes
read_from at start bytes e =
    take_rest bytes start ∙ ⊎_elim
    (λ inside. ap (λ n. drop n bytes) (let same : start ≡ at = omega (arith, e) in same))
    (λ following. drop_all start bytes (omega (arith, e)) ∙ sym (drop_all at bytes following))
    (cases_lt at (length bytes))
