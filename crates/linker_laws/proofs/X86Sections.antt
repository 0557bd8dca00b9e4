-- The code in a section before and after a rewrite.
use Rattle.linker_laws.proofs.Imports.{List, Rewrite, Some, ap, append_assoc, arith, drop, drop-append-add, length, length-take-le, rewritten, sym, take, take-append-add, take-append-drop, ℕ, ◌++◌, ◌+◌, ◌-◌, ◌∙◌, ◌≡◌, ◌≤◌}

-- what follows the first bytes, of which the rest is replaced from further bytes on
code_following : (front d rest : List ℕ) (n k : ℕ)
    → drop (length front + n) (take (length front + k) (front ++ d) ++ rest)
    ≡ drop n (take k d ++ rest)
code_following front d rest n k =
    ap (λ xs. drop (length front + n) (xs ++ rest)) (take-append-add front d k)
    ∙ ap (drop (length front + n)) (append_assoc front (take k d) rest)
    ∙ drop-append-add front (take k d ++ rest) n

rewritten_after : (front d : List ℕ) (r : Rewrite) (o k : ℕ) → o - r.back ≡ length front + k
    → rewritten (Some r) (front ++ d) o
    ≡ front ++ (take k d ++ r.bytes (take r.len (drop k d)) ++ drop (k + r.len) d)
rewritten_after front d r o k e =
    ap (λ i. take i (front ++ d) ++ r.bytes (take r.len (drop i (front ++ d)))
    ++ drop (i + r.len) (front ++ d)) e
    ∙ ap (λ xs. xs ++ r.bytes (take r.len (drop (length front + k) (front ++ d)))
    ++ drop (length front + k + r.len) (front ++ d)) (take-append-add front d k)
    ∙ ap (λ xs. (front ++ take k d) ++ r.bytes (take r.len xs)
    ++ drop (length front + k + r.len) (front ++ d)) (drop-append-add front d k)
    ∙ ap (λ i. (front ++ take k d) ++ r.bytes (take r.len (drop k d)) ++ drop i (front ++ d))
    (let e : length front + k + r.len ≡ length front + (k + r.len) = omega arith in e)
    ∙ ap (λ xs. (front ++ take k d) ++ r.bytes (take r.len (drop k d)) ++ xs)
    (drop-append-add front d (k + r.len))
    ∙ ap (λ xs. xs ++ drop (k + r.len) d) (append_assoc front (take k d)
    (r.bytes (take r.len (drop k d))))
    ∙ append_assoc front (take k d ++ r.bytes (take r.len (drop k d))) (drop (k + r.len) d)

module _ (section rest : List ℕ) (o b n : ℕ) (room : b ≤ o) (inside : o ≤ length section)
    (first : n ≤ b) where
  front : List ℕ
  front = take (o - b) section

  parts : section ≡ take (o - b) section ++ drop (o - b) section
  parts = sym (take-append-drop (o - b) section)

  long : length (take (o - b) section) ≡ o - b
  long = length-take-le (o - b) section (omega arith)

  -- the code from n bytes before an offset, with the field there replaced
  pub original_code : drop (o - n) (take o section ++ rest)
      ≡ drop (b - n) (take b (drop (o - b) section) ++ rest)
  original_code =
      let h = long in
      ap (λ xs. drop (o - n) (take o xs ++ rest)) parts
      ∙ ap (λ i. drop i (take o (take (o - b) section ++ drop (o - b) section) ++ rest))
      (let e : o - n ≡ length (take (o - b) section) + (b - n) = omega arith in e)
      ∙ ap (λ i. drop (length (take (o - b) section) + (b - n))
      (take i (take (o - b) section ++ drop (o - b) section) ++ rest))
      (let e : o ≡ length (take (o - b) section) + b = omega arith in e)
      ∙ code_following (take (o - b) section) (drop (o - b) section) rest (b - n) b

  -- the same after a rewrite, with the field at another offset
  pub rewritten_code : (r : Rewrite) (at k : ℕ) → r.back ≤ b → at ≡ o - b + k
      → drop (o - n) (take at (rewritten (Some r) section o) ++ rest)
      ≡ drop (b - n) (take k (take (b - r.back) (drop (o - b) section)
      ++ r.bytes (take r.len (drop (b - r.back) (drop (o - b) section)))
      ++ drop (b - r.back + r.len) (drop (o - b) section)) ++ rest)
  rewritten_code r at k within e =
      let h = long in
      let f = take (o - b) section in
      let d = drop (o - b) section in
      let x = take (b - r.back) d ++ r.bytes (take r.len (drop (b - r.back) d))
      ++ drop (b - r.back + r.len) d in
      ap (λ xs. drop (o - n) (take at (rewritten (Some r) xs o) ++ rest)) parts
      ∙ ap (λ xs. drop (o - n) (take at xs ++ rest)) (rewritten_after f d r o (b - r.back)
      (omega arith))
      ∙ ap (λ i. drop i (take at (f ++ x) ++ rest))
      (let e : o - n ≡ length f + (b - n) = omega arith in e)
      ∙ ap (λ i. drop (length f + (b - n)) (take i (f ++ x) ++ rest))
      (let same : at ≡ length f + k = omega arith in same)
      ∙ code_following f x rest (b - n) k

  -- the same with no field replaced
  pub code_after : (r : Rewrite) → r.back ≤ b
      → drop (o - n) (rewritten (Some r) section o)
      ≡ drop (b - n) (take (b - r.back) (drop (o - b) section)
      ++ r.bytes (take r.len (drop (b - r.back) (drop (o - b) section)))
      ++ drop (b - r.back + r.len) (drop (o - b) section))
  code_after r within =
      let h = long in
      let f = take (o - b) section in
      let d = drop (o - b) section in
      let x = take (b - r.back) d ++ r.bytes (take r.len (drop (b - r.back) d))
      ++ drop (b - r.back + r.len) d in
      ap (λ xs. drop (o - n) (rewritten (Some r) xs o)) parts
      ∙ ap (drop (o - n)) (rewritten_after f d r o (b - r.back) (omega arith))
      ∙ ap (λ i. drop i (f ++ x)) (let e : o - n ≡ length f + (b - n) = omega arith in e)
      ∙ drop-append-add f x (b - n)
