-- Words that are repeated, and nops.
use Rattle.linker_runs.proofs.Imports.{List, LoongArch64, Machine, RiscV, [], ap, append-nil, append_assoc, arith, cases_Bool, drop, drop-drop, drop_at, eqb-true, if◌then◌else◌, inl, inr, length, length-append, length-take, nat_tests, nop_len, nops, refl, repeated, suc, sym, take, take-append-drop, take_at, zero, ℕ, ◌%◌, ◌*◌, ◌++◌, ◌+◌, ◌/◌, ◌==◌, ◌∙◌, ◌∷◌, ◌≡◌, ◌≤◌}
use Rattle.linker_runs.specs.Machines.{RiscV64}

pub repeated_none : (word : List ℕ) → repeated word 0 ≡ []
unfolding repeated
repeated_none word = refl

repeated_suc : (word : List ℕ) (n : ℕ) → repeated word (suc n) ≡ word ++ repeated word n
unfolding repeated
repeated_suc word n = refl

-- one more at the end
pub repeated_more : (word : List ℕ) (n : ℕ) → repeated word (n + 1) ≡ repeated word n ++ word
repeated_more word zero = ap (repeated word) (let e : 0 + 1 ≡ suc zero = omega arith in e) ∙ repeated_suc word 0 ∙ ap (λ xs. word ++ xs) (repeated_none word) ∙ append-nil word ∙ sym (ap (λ xs. xs ++ word) (repeated_none word))
repeated_more word (suc n) =
    ap (repeated word) (let e : suc n + 1 ≡ suc (n + 1) = omega arith in e)
    ∙ repeated_suc word (n + 1)
    ∙ ap (λ xs. word ++ xs) (repeated_more word n)
    ∙ sym (append_assoc word (repeated word n) word)
    ∙ ap (λ xs. xs ++ word) (sym (repeated_suc word n))

pub repeated_length : (word : List ℕ) (n : ℕ) → length word ≡ 4 → length (repeated word n) ≡ 4 * n
repeated_length word zero four = ap length (repeated_none word)
repeated_length word (suc n) four = ap length (repeated_suc word n) ∙ length-append word (repeated word n) ∙ omega (arith, repeated_length word n four, four)

-- bytes put after others that were put
pub put_more : (xs ys zs now new : List ℕ) (at m n : ℕ) → at ≤ length xs → length ys ≡ m → length zs ≡ n
    → now ≡ take at xs ++ ys ++ drop (at + m) xs
    → new ≡ take (at + m) now ++ zs ++ drop (at + m + n) now
    → new ≡ take at xs ++ (ys ++ zs) ++ drop (at + (m + n)) xs
put_more xs ys zs now new at m n inside len len' was is =
    let front : length (take at xs ++ ys) ≡ at + m = length-append (take at xs) ys ∙ omega (arith, length-take at xs) in
    let rest : drop (at + m) now ≡ drop (at + m) xs = ap (drop (at + m)) was ∙ drop_at (take at xs ++ ys) (drop (at + m) xs) (at + m) front in
    let high : drop (at + m + n) now ≡ drop (at + (m + n)) xs =
    ap (λ k. drop k now) (let e : at + m + n ≡ at + m + n = refl in e)
    ∙ sym (drop-drop n (at + m) now) ∙ ap (drop n) rest ∙ drop-drop n (at + m) xs ∙ ap (λ k. drop k xs) (omega arith) in
    is ∙ ap (λ l. l ++ zs ++ drop (at + m + n) now) (ap (take (at + m)) was ∙ take_at (take at xs ++ ys) (drop (at + m) xs) (at + m) front) ∙ ap (λ l. (take at xs ++ ys) ++ zs ++ l) high
    ∙ ap (λ l. l ++ drop (at + (m + n)) xs) (append_assoc (take at xs) ys zs)

-- nothing is put
pub put_nothing : (xs : List ℕ) (at : ℕ) → xs ≡ take at xs ++ [] ++ drop (at + 0) xs
put_nothing xs at =
    sym (take-append-drop at xs) ∙ ap (λ l. l ++ drop at xs) (sym (append-nil (take at xs)))
    ∙ ap (λ k. take at xs ++ [] ++ drop k xs) (omega arith)

-- ---- nops

pub nops_length : (machine : Machine) (n : ℕ) → n % nop_len machine ≡ 0 → length (nops machine n) ≡ n
nops_length (RiscV _) n even =
    let word : List ℕ = 0x13 ∷ 0x00 ∷ 0x00 ∷ 0x00 ∷ [] in
    let short : List ℕ = 0x01 ∷ 0x00 ∷ [] in
    let none : List ℕ = [] in
    let tail : length (if n % 4 == 2 then short else none) ≡ n % 4 =
    elim (cases_Bool (n % 4 == 2)) [
      | inl two ↦ let e = eqb-true (n % 4) 2 two in ap (λ b. length (if b then short else none)) two ∙ sym e
      | inr other ↦ ap (λ b. length (if b then short else none)) other ∙ (let e : 0 ≡ n % 4 = grind (arith, nat_tests, other) in e)
    ] in
    length-append (repeated word (n / 4)) (if n % 4 == 2 then short else none) ∙ omega (arith, (repeated_length word (n / 4) refl), tail)
nops_length LoongArch64 n even = repeated_length (0x00 ∷ 0x00 ∷ 0x40 ∷ 0x03 ∷ []) (n / 4) refl ∙ omega arith

pub nops_two : (n : ℕ) → n % 4 ≡ 2 → nops RiscV64 n ≡ repeated (0x13 ∷ 0x00 ∷ 0x00 ∷ 0x00 ∷ []) (n / 4) ++ 0x01 ∷ 0x00 ∷ []
nops_two n two = ap (λ k. repeated (0x13 ∷ 0x00 ∷ 0x00 ∷ 0x00 ∷ []) (n / 4) ++ (if k == 2 then 0x01 ∷ 0x00 ∷ [] else [])) two
