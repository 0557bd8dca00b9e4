-- What is chosen is one of the table's choices, and nothing else is chosen by the same facts.
use Rattle.linker_reading.proofs.Imports.{Choice, Entry, IsFirst, IsOneOf, List, Option, Recognised, Some, [], choices_of, inl, inr, subst, sym, ◌↔◌, ◌∙◌, ◌∷◌, ◌≡◌}

pub first_is_listed : {K R : Type 0} (Applies : Entry K R → Type 0) (es : List (Entry K R)) (otherwise c : Choice K R)
    → IsFirst Applies es otherwise c → IsOneOf c (choices_of es otherwise)
first_is_listed Applies [] otherwise c is = inl (sym is)
first_is_listed Applies (e ∷ es) otherwise c (inl this) = inl (sym this.1)
first_is_listed Applies (e ∷ es) otherwise c (inr other) = inr (first_is_listed Applies es otherwise c other.1)

-- two that are chosen are the same
pub first_is_same : {K R : Type 0} (Applies : Entry K R → Type 0) (es : List (Entry K R)) (otherwise c d : Choice K R)
    → IsFirst Applies es otherwise c → IsFirst Applies es otherwise d → c ≡ d
first_is_same Applies [] otherwise c d one other = one ∙ sym other
first_is_same Applies (e ∷ es) otherwise c d (inl one) (inl other) = one.1 ∙ sym other.1
first_is_same Applies (e ∷ es) otherwise c d (inl one) (inr other) = absurd (other.0 one.0)
first_is_same Applies (e ∷ es) otherwise c d (inr one) (inl other) = absurd (one.0 other.0)
first_is_same Applies (e ∷ es) otherwise c d (inr one) (inr other) = first_is_same Applies es otherwise c d one.1 other.1

-- what was made of a choice that is meant is what was made of the one that is chosen
pub chosen_made : {K R : Type 0} (IsChoice : Choice K R → Type 0) (Matches : Choice K R → Type 0) (P : Recognised K R → Type 0) (chosen : Choice K R) (found : Option (Recognised K R))
    → IsChoice chosen → ((d : Choice K R) → IsChoice d → chosen ≡ d) → ((d : Choice K R) → IsChoice d → Matches d)
    → ((m : Recognised K R) → (found ≡ Some m) ↔ ((m.choice ≡ chosen) × (Matches m.choice × P m)))
    → (m : Recognised K R) → (found ≡ Some m) ↔ (IsChoice m.choice × P m)
chosen_made IsChoice Matches P chosen found is unique matches test m = (
  (λ e. let both = (test m).0 e in (subst IsChoice (sym both.0) is, both.1.1)),
  (λ both. (test m).1 (sym (unique m.choice both.0), (matches m.choice both.0, both.1))),
)
