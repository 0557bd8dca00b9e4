-- Pieces of a lazy PLT's code that are written one after the other.
use Rattle.linker_output.proofs.Imports.{List, ap, append_assoc, arith, drop, drop_at, length, length-take-le, sym, take, take-append-drop, take-append-le, ℕ, ◌++◌, ◌+◌, ◌∙◌, ◌≡◌, ◌≤◌}

-- the bytes before a place, of those before a later one
fewer : (out : List ℕ) (at n : ℕ) → at + n ≤ length out → take at (take (at + n) out) ≡ take at out
fewer out at n less =
    sym (take-append-le at (take (at + n) out) (drop (at + n) out)
    (let e = length-take-le (at + n) out less in omega arith))
    ∙ ap (take at) (take-append-drop (at + n) out)

-- a piece of n bytes at a place, before m others
pub placed : (out middle new piece others : List ℕ) (at n m : ℕ) → at + (n + m) ≤ length out
    → length piece ≡ n → middle ≡ take (at + n) out ++ (others ++ drop (at + n + m) out)
    → new ≡ (take at middle ++ piece) ++ drop (at + length piece) middle
    → new ≡ take at out ++ ((piece ++ others) ++ drop (at + (n + m)) out)
placed out middle new piece others at n m less len later made =
    let rest = others ++ drop (at + n + m) out in
    let front_len : length (take (at + n) out) ≡ at + n = length-take-le (at + n) out (omega (arith, less)) in
    let before : take at middle ≡ take at out =
    ap (take at) later
    ∙ take-append-le at (take (at + n) out) rest (omega (arith, front_len))
    ∙ fewer out at n (omega (arith, less)) in
    let following : drop (at + length piece) middle ≡ rest =
    ap (λ k. drop (at + k) middle) len ∙ ap (drop (at + n)) later
    ∙ drop_at (take (at + n) out) rest (at + n) front_len in
    let same : at + n + m ≡ at + (n + m) = omega arith in
    made ∙ ap (λ b. (b ++ piece) ++ drop (at + length piece) middle) before
    ∙ ap (λ b. (take at out ++ piece) ++ b) following
    ∙ append_assoc (take at out) piece rest
    ∙ ap (λ b. take at out ++ b) (sym (append_assoc piece others (drop (at + n + m) out)))
    ∙ ap (λ k. take at out ++ ((piece ++ others) ++ drop k out)) same
