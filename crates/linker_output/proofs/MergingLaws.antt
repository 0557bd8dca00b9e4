-- The order in which properties are merged doesn't matter.
use Rattle.linker_output.proofs.Imports.{All, Any, AnyOfAll, Architecture, Largest, List, MergesAlike, None, Ok, Option, Present, Property, PropertyRule, Same, Some, and_assoc, and_comm, ap, arith, bit_and, bit_or, max, merged_by, merged_kind, merged_to, merged_with, nat_tests, of_kind, of_value, or_comm, refl, rule_of, same_value, sym, unless_zero, ℕ, ◌∙◌, ◌≡◌}
use Rattle.linker_output.specs.Properties.{value_of}
use Rattle.linker_output.proofs.JoinedFlags.{or_assoc}

max_comm : (a b : ℕ) → max a b ≡ max b a
max_comm a b = omega arith

max_assoc : (a b c : ℕ) → max (max a b) c ≡ max a (max b c)
max_assoc a b c = omega arith

pub commutes : (rule : Option PropertyRule) (kind : ℕ) (a b : Option Property)
    → merged_by rule kind a b ≡ merged_by rule kind b a
commutes (Some All) kind a b = ap (λ n. Ok (unless_zero kind n)) (and_comm (value_of a) (value_of b))
commutes (Some Any) kind a b = ap (λ n. Ok (unless_zero kind n)) (or_comm (value_of a) (value_of b))
commutes (Some AnyOfAll) kind None (Some b) = refl
commutes (Some AnyOfAll) kind (Some a) (Some b) = ap (λ n. Ok (Some (of_value kind n))) (or_comm a.value b.value)
commutes (Some Largest) kind None (Some b) = refl
commutes (Some Largest) kind (Some a) (Some b) = ap (λ n. Ok (Some (of_value kind n))) (max_comm a.value b.value)
commutes (Some Present) kind None (Some b) = refl
commutes (Some Present) kind (Some a) (Some b) = refl
commutes (Some Same) kind None (Some b) = refl
commutes (Some Same) kind (Some a) (Some b) = grind (arith, nat_tests)
commutes rule kind a b = refl

unless_value : (kind n : ℕ) → value_of (unless_zero kind n) ≡ n
unless_value kind n = grind (arith, nat_tests)

-- of PAuth's values

-- with no property before those of two, and after
none_first : (kind : ℕ) (b c : Property)
    → same_value kind b c ≡ merged_with (Some Same) kind None (same_value kind b c)
none_first kind b c = grind (arith, nat_tests)

none_last : (kind : ℕ) (a b : Property)
    → merged_to (Some Same) kind (same_value kind a b) None ≡ same_value kind a b
none_last kind a b = grind (arith, nat_tests)

three_same : (kind : ℕ) (a b c : Property)
    → merged_to (Some Same) kind (same_value kind a b) (Some c)
    ≡ merged_with (Some Same) kind (Some a) (same_value kind b c)
three_same kind a b c = grind (arith, nat_tests)

pub associates : (rule : Option PropertyRule) (kind : ℕ) (a b c : Option Property)
    → merged_to rule kind (merged_by rule kind a b) c ≡ merged_with rule kind a (merged_by rule kind b c)
associates (Some All) kind a b c =
    ap (λ n. Ok (unless_zero kind n))
    (ap (λ n. bit_and n (value_of c)) (unless_value kind (bit_and (value_of a) (value_of b)))
    ∙ and_assoc (value_of c) (value_of a) (value_of b)
    ∙ sym (ap (bit_and (value_of a)) (unless_value kind (bit_and (value_of b) (value_of c)))))
associates (Some Any) kind a b c =
    ap (λ n. Ok (unless_zero kind n))
    (ap (λ n. bit_or n (value_of c)) (unless_value kind (bit_or (value_of a) (value_of b)))
    ∙ or_assoc (value_of a) (value_of b) (value_of c)
    ∙ sym (ap (bit_or (value_of a)) (unless_value kind (bit_or (value_of b) (value_of c)))))
associates (Some AnyOfAll) kind None None (Some c) = refl
associates (Some AnyOfAll) kind None (Some b) (Some c) = refl
associates (Some AnyOfAll) kind (Some a) None (Some c) = refl
associates (Some AnyOfAll) kind (Some a) (Some b) (Some c) = ap (λ n. Ok (Some (of_value kind n))) (or_assoc a.value b.value c.value)
associates (Some Largest) kind None None (Some c) = refl
associates (Some Largest) kind None (Some b) (Some c) = refl
associates (Some Largest) kind (Some a) None (Some c) = refl
associates (Some Largest) kind (Some a) (Some b) (Some c) = ap (λ n. Ok (Some (of_value kind n))) (max_assoc a.value b.value c.value)
associates (Some Present) kind None None (Some c) = refl
associates (Some Present) kind None (Some b) (Some c) = refl
associates (Some Present) kind (Some a) None (Some c) = refl
associates (Some Present) kind (Some a) (Some b) (Some c) = refl
associates (Some Same) kind None None (Some c) = refl
associates (Some Same) kind None (Some b) (Some c) = none_first kind b c
associates (Some Same) kind (Some a) None (Some c) = refl
associates (Some Same) kind (Some a) (Some b) None = none_last kind a b
associates (Some Same) kind (Some a) (Some b) (Some c) = three_same kind a b c
associates rule kind a b c = refl

pub commutative : (architecture : Architecture) (first second : List Property) (kind : ℕ)
    → merged_kind architecture first second kind ≡ merged_kind architecture second first kind
commutative architecture first second kind =
    commutes (rule_of architecture kind) kind (of_kind kind first) (of_kind kind second)

pub associative : (architecture : Architecture) (first second third : List Property) (kind : ℕ)
    → MergesAlike architecture first second third kind
associative architecture first second third kind =
    associates (rule_of architecture kind) kind (of_kind kind first) (of_kind kind second) (of_kind kind third)
