-- Choices that are there in a part of a window's bytes.
use Rattle.linker_reading.proofs.Imports.{HasEach, IsLeastWindow, IsRecognisable, List, Recogniser, [], ap, arith, cases_lt, drop, drop_all, length, length-drop, max, min, subst, sym, take, take_all, ℕ, ⊎_elim, ◌+◌, ◌-◌, ◌<◌, ◌∙◌, ◌≡◌, ◌≤◌}

none_taken : (n : ℕ) (l : List ℕ) → l ≡ [] → take n l ≡ []
none_taken n l e = take_all n l (let none : length l ≡ 0 = ap length e in omega (arith, none)) ∙ e

-- the part of bytes from b on, below e, by places that are in them
part_is : (b e : ℕ) (s : List ℕ)
    → take (max (min e (length s)) (min b (length s)) - min b (length s)) (drop (min b (length s)) s) ≡ take (e - b) (drop b s)
part_is b e s = ⊎_elim
    (λ inside.
    let here : min b (length s) ≡ b = omega (arith, inside) in
    ap (λ k. take (max (min e (length s)) k - k) (drop k s)) here
    ∙ ⊎_elim
    (λ before. ap (λ n. take n (drop b s)) (let same : max (min e (length s)) b - b ≡ e - b = omega (arith, before) in same))
    (λ following.
    let rest : length (drop b s) ≡ length s - b = length-drop b s in
    take_all (max (min e (length s)) b - b) (drop b s) (omega (arith, rest, following))
    ∙ sym (take_all (e - b) (drop b s) (omega (arith, rest, following))))
    (cases_lt e (length s)))
    (λ outside.
    let here : min b (length s) ≡ length s = omega (arith, outside) in
    let first : drop (min b (length s)) s ≡ [] = drop_all (min b (length s)) s (omega (arith, here)) in
    let second : drop b s ≡ [] = drop_all b s outside in
    none_taken (max (min e (length s)) (min b (length s)) - min b (length s)) (drop (min b (length s)) s) first ∙ sym (none_taken (e - b) (drop b s) second))
    (cases_lt b (length s))

pub part_by : (b e from low to : ℕ) (s : List ℕ) → from ≡ min b (length s) → low ≡ min e (length s) → to ≡ max low from
    → take (to - from) (drop from s) ≡ take (e - b) (drop b s)
part_by b e from low to s begins ends is =
    ap (λ k. take (k - from) (drop from s)) (is ∙ ap (λ k. max k from) ends)
    ∙ ap (λ k. take (max (min e (length s)) k - k) (drop k s)) begins ∙ part_is b e s

module _ {K R : Type 0} (it : Recogniser K R) (name : R) (s : List ℕ) (o : ℕ) where
  -- all bytes have each
  pub whole : HasEach it name s o 0 (length s)
  whole c is =
      subst (λ l. IsRecognisable it name l (o - 0) c) (sym (take_all (length s - 0) s (omega arith)))
      (subst (λ k. IsRecognisable it name s k c) (let same : o ≡ o - 0 = omega arith in same) is)

  -- there are no bytes further on
  pub further : (b e : ℕ) → HasEach it name s o b (length s) → length s ≤ e → HasEach it name s o b e
  further b e each end c is =
      let rest : length (drop b s) ≡ length s - b = length-drop b s in
      subst (λ l. IsRecognisable it name l (o - b) c)
      (take_all (length s - b) (drop b s) (omega (arith, rest)) ∙ sym (take_all (e - b) (drop b s) (omega (arith, rest, end)))) (each c is)

  pub least : (b e : ℕ) → b ≤ o → o ≤ e → HasEach it name s o b e
      → ((x : ℕ) → b < x → x ≤ o → HasEach it name s o x (length s) → ⊥)
      → ((x : ℕ) → o ≤ x → x < e → HasEach it name s o b x → ⊥)
      → IsLeastWindow it name s o (record { back = o - b; len = e - b })
  least b e low high each last first =
      let from : o - (o - b) ≡ b = omega (arith, low) in
      let to : o - (o - b) + (e - b) ≡ e = omega (arith, low, high) in
      record {
        back = omega arith;
        ahead = omega (arith, low, high);
        has = subst (λ x. HasEach it name s o x (o - (o - b) + (e - b))) (sym from) (subst (λ y. HasEach it name s o b y) (sym to) each);
        last = λ x h k. last x (omega (arith, h, from)) k;
        first = λ x h k has. first x h (omega (arith, k, to)) (subst (λ y. HasEach it name s o y x) from has);
      }
