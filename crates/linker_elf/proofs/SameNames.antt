-- Names of relocations: a derived `==` is equality.
use Rattle.linker_elf.proofs.Imports.{AreEqualities, Bool, IsTrue, List, Record, [], ap, eq-eqb, eqb-true, false, inl, inr, refl, subst, sym, true, true≢false, values_one, ℕ, ◌==◌, ◌↔◌, ◌∷◌, ◌≡◌}
use denote.Struct.Field.{Field}
use denote.Struct.Values.{Values}
use denote.Enum.Declared.{Choice}
use denote.Enum.Compared.{Each, by}

-- how the values of each variant with fields are compared
abbrev pub Tests : List (List Field) → Type 0
Tests [] = Unit {0}
Tests ([] ∷ Fss) = Tests Fss
Tests ((F ∷ Fs) ∷ Fss) = (Values (F ∷ Fs) → Values (F ∷ Fs) → Bool) × Tests Fss

abbrev each_by : (Fss : List (List Field)) → Tests Fss → Each Bool Fss
each_by [] tests = tt
each_by ([] ∷ Fss) tests = (λ x y. true, each_by Fss tests)
each_by ((F ∷ Fs) ∷ Fss) tests = (tests.0, each_by Fss tests.1)

abbrev pub AreExact : (Fss : List (List Field)) → Tests Fss → Type 0
AreExact [] tests = Unit {0}
AreExact ([] ∷ Fss) tests = AreExact Fss tests
AreExact ((F ∷ Fs) ∷ Fss) tests =
    ((x y : Values (F ∷ Fs)) → IsTrue (tests.0 x y) ↔ (x ≡ y)) × AreExact Fss tests.1

same_choice : (Fss : List (List Field)) (tests : Tests Fss) → AreExact Fss tests → (a b : Choice Fss)
    → IsTrue (by false false Fss (each_by Fss tests) a b) → a ≡ b
same_choice [] tests exact a b h = absurd a
same_choice ([] ∷ Fss) tests exact (inl x) (inl y) h = refl
same_choice ([] ∷ Fss) tests exact (inl x) (inr y) h = absurd (true≢false (sym h))
same_choice ([] ∷ Fss) tests exact (inr x) (inl y) h = absurd (true≢false (sym h))
same_choice ([] ∷ Fss) tests exact (inr x) (inr y) h = ap inr (same_choice Fss tests exact x y h)
same_choice ((F ∷ Fs) ∷ Fss) tests exact (inl x) (inl y) h = ap inl ((exact.0 x y).0 h)
same_choice ((F ∷ Fs) ∷ Fss) tests exact (inl x) (inr y) h = absurd (true≢false (sym h))
same_choice ((F ∷ Fs) ∷ Fss) tests exact (inr x) (inl y) h = absurd (true≢false (sym h))
same_choice ((F ∷ Fs) ∷ Fss) tests exact (inr x) (inr y) h = ap inr (same_choice Fss tests.1 exact.1 x y h)

itself : (Fss : List (List Field)) (tests : Tests Fss) → AreExact Fss tests → (a : Choice Fss)
    → IsTrue (by false false Fss (each_by Fss tests) a a)
itself [] tests exact a = absurd a
itself ([] ∷ Fss) tests exact (inl x) = refl
itself ([] ∷ Fss) tests exact (inr x) = itself Fss tests exact x
itself ((F ∷ Fs) ∷ Fss) tests exact (inl x) = (exact.0 x x).1 refl
itself ((F ∷ Fs) ∷ Fss) tests exact (inr x) = itself Fss tests.1 exact.1 x

-- the derived `==` of an enum
abbrev pub AreSame : (N : Record) → Tests N.parts → N.D → N.D → Type 0
AreSame N tests a b = IsTrue (by false false N.parts (each_by N.parts tests) (N.as_values a) (N.as_values b))

-- it is equality
same_value : (N : Record) (tests : Tests N.parts) → AreExact N.parts tests → (a b : N.D)
    → AreSame N tests a b ↔ (a ≡ b)
same_value N tests exact a b = (
  λ h. values_one N a b (same_choice N.parts tests exact (N.as_values a) (N.as_values b) h),
  λ e. subst (λ x. IsTrue (by false false N.parts (each_by N.parts tests) (N.as_values a) (N.as_values x))) e
      (itself N.parts tests exact (N.as_values a)),
)

-- the `r_type` of a name without one is compared by `==`
pub exact_r_type : (x y : ℕ × Unit {0}) → IsTrue (x.0 == y.0) ↔ (x ≡ y)
exact_r_type x y = (λ h. ap (λ n. (n, tt)) (eqb-true x.0 y.0 h), λ e. eq-eqb x.0 y.0 (ap (λ v. v.0) e))

-- what an architecture's rewrites and names keep
pub equalities : {K : Type 0} (none : K) (N : Record) (tests : Tests N.parts) → AreExact N.parts tests
    → AreEqualities none (λ kind. kind ≡ none) (λ kind. kind ≡ none) (λ (a b : N.D). by false false N.parts (each_by N.parts tests) (N.as_values a) (N.as_values b))
equalities none N tests exact =
    record { kinds = λ kind. (λ h. h, λ h. h); defaults = λ kind h. h; names = same_value N tests exact }
