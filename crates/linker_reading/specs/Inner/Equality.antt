-- `==` of rewrites and of relocations' names is true of one value exactly.
use Rattle.linker_reading.specs.Imports.{Bool, IsTrue, List, [], false, true, ℕ, ⊤}
use Rattle.std.proofs.Common.{◌≡◌, zero, suc, ◌∷◌, ◌&&◌, ◌⊎◌, inl, inr, ◌↔◌, refl, sym, ap}
use Rattle.std.proofs.lemmas.Bool.{and_parts, false≢true}
use Rattle.std.specs.Prelude.{◌==◌}
use Rattle.std.specs.Cmp.{unsigned_Decides}
use denote.Struct.Field.{Field}
use denote.Enum.Bare.{Bare, sameb, same_true, true_same}
use denote.Enum.Compared.{Each, by}
use denote.Enum.Declared.{Record, Declared, left_or, right_or, values_one}

-- the comparison is true of one value exactly
abbrev pub IsEquality : {A : Type 0} → (A → A → Bool) → Type 0
IsEquality {A} equal = (a b : A) → IsTrue (equal a b) ↔ (a ≡ b)

-- ---- enums of variants without fields

pub bare_is_equality : (N : Declared) → Bare N.parts → IsEquality (sameb N)
bare_is_equality N bare a b = (same_true N bare a b, true_same N a b)

-- ---- enums of which some variants have fields

-- the variants without fields are equal to themselves
abbrev bare_are_equal : (Fss : List (List Field)) → Each Bool Fss → Bool
bare_are_equal [] equal = true
bare_are_equal ([] ∷ Fss) equal = equal.0 tt tt && bare_are_equal Fss equal.1
bare_are_equal ((F ∷ Fs) ∷ Fss) equal = bare_are_equal Fss equal.1

-- the others are compared by their fields
abbrev AreByFields : (Fss : List (List Field)) → Each Bool Fss → Type 0
AreByFields [] equal = ⊤
AreByFields ([] ∷ Fss) equal = AreByFields Fss equal.1
AreByFields ((F ∷ Fs) ∷ Fss) equal = IsEquality equal.0 × AreByFields Fss equal.1

is_first : {A B : Type 0} → A ⊎ B → Bool
is_first (inl x) = true
is_first (inr y) = false

first≢other : {A B : Type 0} (x : A) (y : B) → inl x ≡ inr y → ⊥
unfolding is_first
first≢other x y e = false≢true (sym (ap is_first e))

variants_are_equality : (Fss : List (List Field)) (equal : Each Bool Fss)
    → bare_are_equal Fss equal ≡ true → AreByFields Fss equal
    → IsEquality (by false false Fss equal)
variants_are_equality [] equal bare fields c d = absurd c
variants_are_equality ([] ∷ Fss) equal bare fields (inl x) (inl y) =
    (λ e. refl, λ e. (and_parts (equal.0 tt tt) (bare_are_equal Fss equal.1) bare).0)
variants_are_equality ([] ∷ Fss) equal bare fields (inl x) (inr y) =
    (λ e. absurd (false≢true e), λ e. absurd (first≢other x y e))
variants_are_equality ([] ∷ Fss) equal bare fields (inr x) (inl y) =
    (λ e. absurd (false≢true e), λ e. absurd (first≢other y x (sym e)))
variants_are_equality ([] ∷ Fss) equal bare fields (inr x) (inr y) =
    let others = (and_parts (equal.0 tt tt) (bare_are_equal Fss equal.1) bare).1 in
    let both = variants_are_equality Fss equal.1 others fields x y in
    (λ e. ap inr (both.0 e), λ e. both.1 (ap (right_or x) e))
variants_are_equality ((F ∷ Fs) ∷ Fss) equal bare fields (inl x) (inl y) =
    let both = fields.0 x y in (λ e. ap inl (both.0 e), λ e. both.1 (ap (left_or x) e))
variants_are_equality ((F ∷ Fs) ∷ Fss) equal bare fields (inl x) (inr y) =
    (λ e. absurd (false≢true e), λ e. absurd (first≢other x y e))
variants_are_equality ((F ∷ Fs) ∷ Fss) equal bare fields (inr x) (inl y) =
    (λ e. absurd (false≢true e), λ e. absurd (first≢other y x (sym e)))
variants_are_equality ((F ∷ Fs) ∷ Fss) equal bare fields (inr x) (inr y) =
    let both = variants_are_equality Fss equal.1 bare fields.1 x y in
    (λ e. ap inr (both.0 e), λ e. both.1 (ap (right_or x) e))

pub enum_is_equality : (N : Record) (equal : Each Bool N.parts)
    → bare_are_equal N.parts equal ≡ true → AreByFields N.parts equal
    → IsEquality (λ (a b : N.D). by false false N.parts equal (N.as_values a) (N.as_values b))
enum_is_equality N equal bare fields a b =
    let both = variants_are_equality N.parts equal bare fields (N.as_values a) (N.as_values b) in
    (λ e. values_one N a b (both.0 e), λ e. both.1 (ap N.as_values e))

-- a variant whose field is a number
abbrev equal_number : ℕ × ⊤ → ℕ × ⊤ → Bool
equal_number x y = x.0 == y.0

number_is_equality : IsEquality equal_number
number_is_equality x y =
    let both = unsigned_Decides x.0 y.0 in
    (λ e i. (both.0 e i, tt), λ e. both.1 (ap (λ (v : ℕ × ⊤). v.0) e))

-- n of these
abbrev Numbers : ℕ → Type 0
Numbers zero = ⊤
Numbers (suc n) = IsEquality equal_number × Numbers n

pub numbers : (n : ℕ) → Numbers n
numbers zero = tt
numbers (suc n) = (number_is_equality, numbers n)
