-- The choices of the code's entries are those of the definition's.
use Rattle.linker_reading.proofs.Imports.{Bool, Choice, Entry, IsRepeated, List, None, Option, Some, [], and_parts, ap, arith, choice, choices_in, choices_of, false, false≢true, get_or, length, length-take, map, none-some, refl, replicate, set, slice_get, slice_get-get_or, subst, suc, sym, take, true, zero, ℕ, ◌&&◌, ◌++◌, ◌<◌, ◌↔◌, ◌∙◌, ◌∷◌, ◌≡◌, ◌≤◌}
use Rattle.std.specs.Option.{is_some}
use Rattle.linker_elf.specs.Inner.ChoiceTables.{IsTableOf}
use Rattle.linker_elf.specs.declared.elf.choice_table.ChoiceEntry.{ChoiceEntry}
use Rattle.linker_reading.specs.Inner.Equality.{IsEquality}

pub same_choices : {O K R : Type 0} → (are_at : O → K → List ℕ → ℕ → Type 0) (Asked : K → List ℕ → ℕ → Type 0)
    → (es : List (ChoiceEntry O K R)) (ds : List (Entry K R)) (otherwise : Choice K R) → IsTableOf are_at Asked es ds
    → choices_in es otherwise ≡ choices_of ds otherwise
same_choices are_at Asked [] [] otherwise table = refl
same_choices are_at Asked [] (d ∷ ds) otherwise table = absurd table
same_choices are_at Asked (e ∷ es) [] otherwise table = absurd table
same_choices are_at Asked (e ∷ es) (d ∷ ds) otherwise table =
    ap (λ x. choice x.kind x.relocation ∷ choices_in es otherwise) table.0
    ∙ ap (λ l. choice d.kind d.relocation ∷ l) (same_choices are_at Asked es ds otherwise table.1.1)

pub following : {A : Type 0} (a : A) (xs : List A) (i : ℕ) → slice_get xs i ≡ Some a → i < length xs
following a [] i e = absurd (none-some a e)
following a (x ∷ xs) zero e = omega arith
following a (x ∷ xs) (suc i) e = let h = following a xs i e in omega arith

-- the choice of the next entry
pub filled_more : {O K R : Type 0} → (es : List (ChoiceEntry O K R)) (otherwise : Choice K R) (i n : ℕ) (d e : ChoiceEntry O K R) → i < length es
    → set (choices_in (take i es) otherwise ++ replicate (suc n) otherwise) i (choice (get_or es i d).kind (get_or es i e).relocation)
    ≡ choices_in (take (suc i) es) otherwise ++ replicate n otherwise
filled_more [] otherwise i n d e within = absurd (omega (arith, within))
filled_more (x ∷ es) otherwise zero n d e within = refl
filled_more (x ∷ es) otherwise (suc i) n d e within =
    ap (λ l. choice x.kind x.relocation ∷ l) (filled_more es otherwise i n d e (omega (arith, within)))

pub filled_all : {O K R : Type 0} → (es : List (ChoiceEntry O K R)) (otherwise : Choice K R) (rest : List (Choice K R))
    → take (suc (length es)) (choices_in es otherwise ++ rest) ≡ choices_in es otherwise
filled_all [] otherwise rest = refl
filled_all (x ∷ es) otherwise rest = ap (λ l. choice x.kind x.relocation ∷ l) (filled_all es otherwise rest)

-- the next element that is mapped
pub mapped_more : {A B : Type 0} → (f : A → B) (xs : List A) (i n : ℕ) (d : A) (y : B) → i < length xs
    → set (map f (take i xs) ++ replicate (suc n) y) i (f (get_or xs i d)) ≡ map f (take (suc i) xs) ++ replicate n y
mapped_more f [] i n d y within = absurd (omega (arith, within))
mapped_more f (x ∷ xs) zero n d y within = refl
mapped_more f (x ∷ xs) (suc i) n d y within = ap (λ l. f x ∷ l) (mapped_more f xs i n d y (omega (arith, within)))

-- one that is mapped to what stands there
pub same_more : {A B : Type 0} → (f : A → B) (xs : List A) (i n : ℕ) (d : A) (y : B) → i < length xs → f (get_or xs i d) ≡ y
    → map f (take i xs) ++ replicate (suc n) y ≡ map f (take (suc i) xs) ++ replicate n y
same_more f [] i n d y within e = absurd (omega (arith, within))
same_more f (x ∷ xs) zero n d y within e = ap (λ z. z ∷ replicate n y) (sym e)
same_more f (x ∷ xs) (suc i) n d y within e = ap (λ l. f x ∷ l) (same_more f xs i n d y (omega (arith, within)) e)

pub none_of : {A : Type 0} (x : Option A) → is_some x ≡ false → x ≡ None
none_of None e = refl
none_of (Some a) e = absurd (false≢true (sym e))

-- ---- equal choices

pub same_got : {A : Type 0} (xs : List A) (i j : ℕ) (d e : A) → i < length xs → j < length xs → slice_get xs i ≡ slice_get xs j → get_or xs i d ≡ get_or xs j e
same_got xs i j d e h k same =
    let both : Some (get_or xs i d) ≡ Some (get_or xs j e) = sym (slice_get-get_or xs i d h) ∙ same ∙ slice_get-get_or xs j e k in cc

pub equal_choices : {K R : Type 0} (equal_kinds : K → K → Bool) (equal_names : R → R → Bool) → IsEquality equal_kinds → IsEquality equal_names
    → (x y : Choice K R) → (equal_kinds x.kind y.kind && equal_names x.relocation y.relocation) ≡ true ↔ (x ≡ y)
equal_choices {K} {R} equal_kinds equal_names kinds names x y = (
  (λ e.
      let parts = and_parts (equal_kinds x.kind y.kind) (equal_names x.relocation y.relocation) e in
      ap (λ k. choice k x.relocation) ((kinds x.kind y.kind).0 parts.0) ∙ ap (λ r. choice y.kind r) ((names x.relocation y.relocation).0 parts.1)),
  (λ e.
      ap (λ b. b && equal_names x.relocation y.relocation) ((kinds x.kind y.kind).1 (ap (λ (c : Choice K R). c.kind) e))
      ∙ (names x.relocation y.relocation).1 (ap (λ (c : Choice K R). c.relocation) e)),
)

-- ---- the first choices of an array

taken : {A : Type 0} (xs : List A) (n i : ℕ) → i < n → slice_get (take n xs) i ≡ slice_get xs i
taken xs zero i h = absurd (omega (arith, h))
taken [] (suc n) i h = refl
taken (x ∷ xs) (suc n) zero h = refl
taken (x ∷ xs) (suc n) (suc i) h = taken xs n i (omega (arith, h))

module _ {A : Type 0} (xs ys : List A) (n : ℕ) (are : take n xs ≡ ys) where
  pub taken_at : (i : ℕ) → i < n → slice_get ys i ≡ slice_get xs i
  taken_at i h = ap (λ l. slice_get l i) (sym are) ∙ taken xs n i h

  pub repeated_in : (i : ℕ) → i < n → IsRepeated ys i → IsRepeated xs i
  repeated_in i h again = (again.0, again.1, sym (taken_at again.0 (omega (arith, again.1, h))) ∙ again.2 ∙ taken_at i h)

  pub repeated_of : (i : ℕ) → i < n → IsRepeated xs i → IsRepeated ys i
  repeated_of i h again = (again.0, again.1, taken_at again.0 (omega (arith, again.1, h)) ∙ again.2 ∙ sym (taken_at i h))

  pub taken_few : length ys ≤ n
  taken_few = subst (λ l. length l ≤ n) are (omega (arith, length-take n xs))
