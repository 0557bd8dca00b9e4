-- The bytes that follow the number that was read.
use Rattle.linker_utils_c.proofs.Imports.{List, ap, arith, drop, length, length-drop, refl, subst, sym, ℕ, ◌+◌, ◌-◌, ◌∙◌, ◌≡◌}
use Rattle.linker_base.specs.Uleb.{Uleb}
use Rattle.linker_utils_c.proofs.readers.linker_utils_read_uleb128_nonnull.Goals as goal

taken : (bytes rest : List ℕ) (n : ℕ) → Uleb bytes n rest → drop (length bytes - length rest) bytes ≡ rest
taken bytes rest n read =
    let left : length rest ≡ length bytes - (read.last + 1) = ap length read.rest_is ∙ length-drop (read.last + 1) bytes in
    let count : length bytes - length rest ≡ read.last + 1 = omega (arith, left, read.there) in
    ap (λ k. drop k bytes) count ∙ sym read.rest_is

pub returns-in-Ok-clause-number : goal.returns-in-Ok-clause-number
returns-in-Ok-clause-number c success =
    subst (Uleb c.args.bytes.now c.in-Ok.number) (sym (taken _ _ _ c.in-Ok.ensures.number)) c.in-Ok.ensures.number

pub returns-in-Ok-clause-accepted : goal.returns-in-Ok-clause-accepted
returns-in-Ok-clause-accepted c n rest read =
    let is = c.in-Ok.ensures.accepted n rest read in
    (refl, (let e = is.0 in cc), taken _ _ _ c.in-Ok.ensures.number ∙ is.1)

pub returns-in-Err-clause-accepted : goal.returns-in-Err-clause-accepted
returns-in-Err-clause-accepted c n rest read = absurd (let e = (c.in-Err.ensures.accepted n rest read).0 in cc)

pub returns-in-Err-2-clause-accepted : goal.returns-in-Err-2-clause-accepted
returns-in-Err-2-clause-accepted c n rest read = absurd (let e = (c.in-Err.ensures.accepted n rest read).0 in cc)
