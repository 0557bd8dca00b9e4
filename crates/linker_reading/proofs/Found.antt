-- What was found of the choices of a table.
use Rattle.linker_reading.proofs.Imports.{AreDistinct, AreExactly, AreFoundOfFirst, ArePlaced, Choice, FieldBits, IsChosen, IsFirstPlace, IsFound, IsMade, IsMeant, IsOneOf, IsRepeated, List, None, Option, Recognised, Recogniser, Some, [], ap, arith, cases_eq, cases_lt, choice, choices_at, get_or, get_or-set_other, get_or-set_same, inl, inr, length, length-set, refl, replicate, same_Some, set, slice_get, suc, sym, zero, ℕ, ⊎_elim, ◌+◌, ◌<◌, ◌↔◌, ◌∙◌, ◌∷◌, ◌≡◌, ◌≢◌, ◌≤◌}
use Rattle.linker_reading.proofs.Tables.{following}
use Rattle.linker_elf.specs.declared.elf.choice.LinkFacts.{LinkFacts}
use Rattle.linker_reading.proofs.Chosen.{first_is_listed}
use Rattle.linker_reading.specs.Inner.Laws.{ChosenMatches}

-- ---- places in lists

pub not_none : {A : Type 0} (x : Option A) (a : A) → x ≡ None → x ≡ Some a → ⊥
not_none x a n e = let none : None ≡ Some a = sym n ∙ e in cc

-- what is in a list of options has a place
place_of : {A : Type 0} (a : A) (xs : List (Option A)) → IsOneOf (Some a) xs → (i : ℕ) × (get_or xs i None ≡ Some a)
place_of a [] h = absurd h
place_of a (x ∷ xs) (inl e) = (0, e)
place_of a (x ∷ xs) (inr h) = let rest = place_of a xs h in (suc rest.0, rest.1)

at_place : {A : Type 0} (a : A) (xs : List (Option A)) (i : ℕ) → get_or xs i None ≡ Some a → IsOneOf (Some a) xs
at_place a [] i e = absurd (not_none None a refl e)
at_place a (x ∷ xs) zero e = inl e
at_place a (x ∷ xs) (suc i) e = inr (at_place a xs i e)

pub place_in : {A : Type 0} (a : A) (xs : List A) → IsOneOf a xs → (i : ℕ) × (slice_get xs i ≡ Some a)
place_in a [] h = absurd h
place_in a (x ∷ xs) (inl e) = (0, ap Some e)
place_in a (x ∷ xs) (inr h) = let rest = place_in a xs h in (suc rest.0, rest.1)

pub one_of : {A : Type 0} (a : A) (xs : List A) (i : ℕ) → slice_get xs i ≡ Some a → IsOneOf a xs
one_of a [] i e = absurd (not_none None a refl e)
one_of a (x ∷ xs) zero e = inl (same_Some x a e)
one_of a (x ∷ xs) (suc i) e = inr (one_of a xs i e)

-- ---- one choice more

none_in : {B : Type 0} (n i : ℕ) (b : B) → get_or (replicate n None) i None ≡ Some b → ⊥
none_in zero i b e = not_none None b refl e
none_in (suc n) zero b e = not_none None b refl e
none_in (suc n) (suc i) b e = none_in n i b e

module _ {A B : Type 0} (of : B → A) (IsSo : B → Type 0) (choices : List A) where
  pub none_found : AreFoundOfFirst of IsSo choices (replicate 6 None) 0
  none_found =
      record {
        lengths = refl;
        first = λ i b e. absurd (none_in 6 i b e);
        placed = λ i b e. absurd (none_in 6 i b e);
        so = λ i b e. absurd (none_in 6 i b e);
        all = λ i b h. absurd (omega (arith, h));
      }

  -- the same choice has a place before
  pub same_again : (found : List (Option B)) (n : ℕ) → AreFoundOfFirst of IsSo choices found n → IsRepeated choices n
      → AreFoundOfFirst of IsSo choices found (n + 1)
  same_again found n were again =
      record {
        lengths = were.lengths;
        first = λ i b e. let h = were.first i b e in omega arith;
        placed = were.placed;
        so = were.so;
        all = λ i b h e is. ⊎_elim (λ below. were.all i b below e is)
            (λ from. were.all again.0 b again.1 (again.2 ∙ ap (slice_get choices) (let same : n ≡ i = omega (arith, h, from) in same) ∙ e) is)
            (cases_lt i n);
      }

  -- what is so of the next choice, if anything is
  pub one_more : (found : List (Option B)) (n : ℕ) (c : A) (y : Option B) → AreFoundOfFirst of IsSo choices found n → slice_get choices n ≡ Some c
      → (IsRepeated choices n → ⊥)
      → n < 6 → ((b : B) → (y ≡ Some b) ↔ ((of b ≡ c) × IsSo b)) → AreFoundOfFirst of IsSo choices (set found n y) (n + 1)
  one_more found n c y were at apart room test =
      record {
        lengths = length-set found n y ∙ were.lengths;
        first = λ i b e. either i b e (i < n + 1) (λ same is. omega (arith, same)) (λ other was. let h = were.first i b was in omega arith);
        placed = λ i b e. either i b e (IsFirstPlace (of b) choices i)
            (λ same is. first_here i b same is) (λ other was. were.placed i b was);
        so = λ i b e. either i b e (IsSo b) (λ same is. ((test b).0 is).1) (λ other was. were.so i b was);
        all = λ i b h e is. ⊎_elim
            (λ below. let had = were.all i b below e is in (had.0, get_or-set_other found n had.0 y None (let less = were.first had.0 b had.1 in λ s. omega (arith, less, s)) ∙ had.1))
            (λ from.
            let same : i ≡ n = omega (arith, h, from) in
            let of_c : of b ≡ c = sym (same_Some c (of b) (sym at ∙ ap (slice_get choices) (sym same) ∙ e)) in
            (n, get_or-set_same found n y None (omega (arith, were.lengths, room)) ∙ (test b).1 (of_c, is)))
            (cases_lt i n);
      }
    where
      either : (i : ℕ) (b : B) → get_or (set found n y) i None ≡ Some b → (T : Type 0) → (i ≡ n → y ≡ Some b → T)
          → (i ≢ n → get_or found i None ≡ Some b → T) → T
      either i b e T same other =
          ⊎_elim (λ h. same h (sym (get_or-set_same found n y None (omega (arith, were.lengths, room))) ∙ ap (λ k. get_or (set found n y) k None) (sym h) ∙ e))
          (λ h. other h (sym (get_or-set_other found n i y None h) ∙ e)) (cases_eq i n)

      first_here : (i : ℕ) (b : B) → i ≡ n → y ≡ Some b → IsFirstPlace (of b) choices i
      first_here i b same is = record {
        here = ap (slice_get choices) same ∙ at ∙ ap Some (sym ((test b).0 is).0);
        not_before = λ j below there. apart (j, omega (arith, below, same), there ∙ ap Some ((test b).0 is).0 ∙ sym at);
      }

  -- ---- all of them

  pub those_found : (found : List (Option B)) (n : ℕ) → AreFoundOfFirst of IsSo choices found n → length choices ≤ n → AreExactly (λ b. IsOneOf (of b) choices × IsSo b) found
  those_found found n were end =
      record {
        only = λ b h. let at = place_of b found h in (one_of (of b) choices at.0 (were.placed at.0 b at.1).here, were.so at.0 b at.1);
        all = λ b is.
            let at = place_in (of b) choices is.0 in
            let had = were.all at.0 b (let h = following (of b) choices at.0 at.1 in omega (arith, h, end)) at.1 is.1 in
            at_place b found had.0 had.1;
      }

-- ---- of a table

-- no two have the same choice
pub are_distinct : {K R : Type 0} (choices : List (Choice K R)) (found : List (Option (Recognised K R))) → ArePlaced choices found → AreDistinct found
are_distinct choices found placed i j m n e f same =
    ⊎_elim
    (λ before. absurd ((placed j n f).not_before i before ((placed i m e).here ∙ ap Some same)))
    (λ from. ⊎_elim
    (λ after. absurd ((placed i m e).not_before j after ((placed j n f).here ∙ ap Some (sym same))))
    (λ upto. omega (arith, from, upto))
    (cases_lt j i))
    (cases_lt i j)

pub found_in_table : {K R : Type 0} (it : Recogniser K R) (name : R) (original : List ℕ) (o : ℕ) (others : List FieldBits) (linked : List ℕ) (found : List (Option (Recognised K R))) (n : ℕ)
    → AreFoundOfFirst (λ (m : Recognised K R). m.choice) (IsMeant it original o others linked) (choices_at it name original o) found n
    → length (choices_at it name original o) ≤ n → AreExactly (IsFound it name original o others linked) found
found_in_table {K} {R} it name original o others linked found n were end =
    let those = those_found (λ (m : Recognised K R). m.choice) (IsMeant it original o others linked) (choices_at it name original o) found n were end in
    record {
      only = λ m h. let is = those.only m h in record { listed = is.0; matches = is.1.0; made = is.1.1 };
      all = λ m is. those.all m (is.listed, (is.matches, is.made));
    }

-- what is chosen is one of those that were found
pub chosen_found : {K R : Type 0} (it : Recogniser K R) (name : R) (original : List ℕ) (o : ℕ) (others : List FieldBits) (linked : List ℕ) (found : List (Option (Recognised K R)))
    → ChosenMatches it
    → AreExactly (IsFound it name original o others linked) found
    → (facts : LinkFacts) (m : Recognised K R) → IsChosen it name original o facts m.choice → IsMade it original o others linked m → IsOneOf (Some m) found
chosen_found it name original o others linked found chosen_matches those facts m is made =
    those.all m (record {
      listed = first_is_listed (it.applies name original o facts) (it.entries name original o) (choice it.no_op name) m.choice is;
      matches = chosen_matches name original o facts m.choice is;
      made = made;
    })
