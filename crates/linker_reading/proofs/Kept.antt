-- Those of a list that are so, kept at its front.
use Rattle.linker_reading.proofs.Imports.{IsOneOf, List, Some, [], ap, arith, get_or, inl, inr, length, length-take, refl, same_Some, set, slice_get, slice_get-get_or, subst, suc, sym, take, take_all, take_more, take_more_set, zero, ℕ, ⊎_elim, ◌++◌, ◌+◌, ◌<◌, ◌↔◌, ◌∙◌, ◌∷◌, ◌≡◌, ◌≤◌, ◌⊎◌}
use Rattle.linker_reading.proofs.Tables.{following, taken_at}

-- ---- one more at the end

into : {A : Type 0} (a c : A) (xs : List A) → IsOneOf a xs ⊎ (c ≡ a) → IsOneOf a (xs ++ c ∷ [])
into a c [] (inl h) = absurd h
into a c [] (inr e) = inl e
into a c (x ∷ xs) (inl (inl e)) = inl e
into a c (x ∷ xs) (inl (inr h)) = inr (into a c xs (inl h))
into a c (x ∷ xs) (inr e) = inr (into a c xs (inr e))

out : {A : Type 0} (a c : A) (xs : List A) → IsOneOf a (xs ++ c ∷ []) → IsOneOf a xs ⊎ (c ≡ a)
out a c [] (inl e) = inr e
out a c [] (inr h) = absurd h
out a c (x ∷ xs) (inl e) = inl (inl e)
out a c (x ∷ xs) (inr h) = ⊎_elim (λ i. inl (inr i)) (λ e. inr e) (out a c xs h)

next : {A : Type 0} (xs : List A) (n : ℕ) (c : A) → slice_get xs n ≡ Some c → take (n + 1) xs ≡ take n xs ++ c ∷ []
next xs n c at =
    let within = following c xs n at in
    take_more xs n c within ∙ ap (λ x. take n xs ++ x ∷ []) (same_Some (get_or xs n c) c (sym (slice_get-get_or xs n c within) ∙ at))

set_other : {A : Type 0} (xs : List A) (i j : ℕ) (c : A) → i < j → slice_get (set xs i c) j ≡ slice_get xs j
set_other [] i j c h = refl
set_other (x ∷ xs) i zero c h = absurd (omega (arith, h))
set_other (x ∷ xs) zero (suc j) c h = refl
set_other (x ∷ xs) (suc i) (suc j) c h = set_other xs i j c (omega (arith, h))

-- ---- those that are kept

-- The first `kept` of an array are those of the first n of a list that are so. The rest is that of
-- the list.
pub record AreKept {A : Type 0} (IsSo : A → Type 0) (list array : List A) (n kept : ℕ) : Type 0 where
  pub those : (a : A) → IsOneOf a (take kept array) ↔ (IsOneOf a (take n list) × IsSo a)
  pub rest : (i : ℕ) → n ≤ i → i < length list → slice_get array i ≡ slice_get list i

module _ {A : Type 0} (IsSo : A → Type 0) (list : List A) where
  pub none_kept : (array : List A) (n : ℕ) → take n array ≡ list → AreKept IsSo list array 0 0
  none_kept array n are =
      record {
        those = λ a. (λ h. absurd h, λ h. h.0);
        rest = λ i h within. sym (taken_at array list n are i (let few = ap length are in let taken = length-take n array in omega (arith, within, few, taken)));
      }

  module _ (array : List A) (n kept : ℕ) (c : A) (at : slice_get list n ≡ Some c) (were : AreKept IsSo list array n kept) where
    pub one_kept : kept ≤ n → kept < length array → IsSo c → AreKept IsSo list (set array kept c) (n + 1) (kept + 1)
    one_kept few room is =
        let front = take_more_set array kept c room in
        record {
          those = λ a. (
            (λ h. ⊎_elim
                (λ old. let both = (were.those a).0 old in (subst (IsOneOf a) (sym (next list n c at)) (into a c (take n list) (inl both.0)), both.1))
                (λ e. (subst (IsOneOf a) (sym (next list n c at)) (into a c (take n list) (inr e)), subst IsSo e is))
                (out a c (take kept array) (subst (IsOneOf a) front h))),
            (λ h. subst (IsOneOf a) (sym front) (⊎_elim
                (λ old. into a c (take kept array) (inl ((were.those a).1 (old, h.1))))
                (λ e. into a c (take kept array) (inr e))
                (out a c (take n list) (subst (IsOneOf a) (next list n c at) h.0)))),
          );
          rest = λ i h within. set_other array kept i c (omega (arith, few, h)) ∙ were.rest i (omega (arith, h)) within;
        }

    pub not_kept : (IsSo c → ⊥) → AreKept IsSo list array (n + 1) kept
    not_kept apart =
        record {
          those = λ a. (
            (λ h. let both = (were.those a).0 h in (subst (IsOneOf a) (sym (next list n c at)) (into a c (take n list) (inl both.0)), both.1)),
            (λ h. ⊎_elim
                (λ old. (were.those a).1 (old, h.1))
                (λ e. absurd (apart (subst IsSo (sym e) h.1)))
                (out a c (take n list) (subst (IsOneOf a) (next list n c at) h.0))),
          );
          rest = λ i h within. were.rest i (omega (arith, h)) within;
        }

  pub all_kept : (array : List A) (n kept : ℕ) → AreKept IsSo list array n kept → length list ≤ n
      → ((a : A) → IsSo a → IsOneOf a list) → (a : A) → IsOneOf a (take kept array) ↔ IsSo a
  all_kept array n kept are end listed a = (
    (λ h. ((are.those a).0 h).1),
    (λ is. (are.those a).1 (subst (IsOneOf a) (sym (take_all n list end)) (listed a is), is)),
  )
