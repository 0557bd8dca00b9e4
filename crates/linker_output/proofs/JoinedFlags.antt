-- `e_flags` that are joined: the order of objects doesn't matter.
use Rattle.linker_output.proofs.Imports.{IfSome, None, Some, ap, arith, bit_and, bit_at, bit_at-zero, bit_at_and, bit_at_or, bit_or, cond-true, false, if◌then◌else◌, inl, inr, option_and_then, or_comm, refl, same_from_bits, subst, sym, true, ℕ, ◌∙◌, ◌≡◌, ◌⊎◌}
use Rattle.std.specs.Int.Bits.{or_self}
use Rattle.linker_output.specs.Flags.{go_together, undefined, joined_flags, JoinsAlike, KeepsItself}
use Rattle.linker_output.specs.declared.flags.FlagRules.{FlagRules}

-- ---- bits

pub or_assoc : (a b c : ℕ) → bit_or (bit_or a b) c ≡ bit_or a (bit_or b c)
or_assoc a b c =
    same_from_bits _ _ (λ i.
    omega (arith, bit_at_or (bit_or a b) c i, bit_at_or a b i, bit_at_or a (bit_or b c) i, bit_at_or b c i))

and_of_or : (a b m : ℕ) → bit_and (bit_or a b) m ≡ bit_or (bit_and a m) (bit_and b m)
and_of_or a b m =
    same_from_bits _ _ (λ i.
    omega (arith, bit_at_and (bit_or a b) m i, bit_at_or a b i, bit_at_or (bit_and a m) (bit_and b m) i, bit_at_and a m i, bit_at_and b m i))

left_zero : (a b : ℕ) → bit_or a b ≡ 0 → a ≡ 0
left_zero a b none =
    same_from_bits _ _ (λ i.
    omega (arith, ap (λ n. bit_at n i) none ∙ bit_at-zero i, bit_at_or a b i, bit_at-zero i))

right_zero : (a b : ℕ) → bit_or a b ≡ 0 → b ≡ 0
right_zero a b none = left_zero b a (or_comm b a ∙ none)

-- ---- objects that go together

-- what the test says
record Together (rules : FlagRules) (a b : ℕ) : Type 0 where
  pub left : bit_and a (undefined rules) ≡ 0
  pub right : bit_and b (undefined rules) ≡ 0
  pub same : bit_and a rules.same ≡ bit_and b rules.same

together : (rules : FlagRules) (a b : ℕ) → go_together rules a b ≡ true → Together rules a b
together rules a b holds =
    let e : bit_and (bit_or a b) (undefined rules) ≡ 0 = grind (arith) in
    let both = sym (and_of_or a b (undefined rules)) ∙ e in
    record {
      left = left_zero _ _ both;
      right = right_zero _ _ both;
      same = grind (arith);
    }

is_together : (rules : FlagRules) (a b : ℕ) → Together rules a b → go_together rules a b ≡ true
is_together rules a b t =
    let none : bit_and (bit_or a b) (undefined rules) ≡ 0 =
    and_of_or a b (undefined rules) ∙ ap (λ n. bit_or n (bit_and b (undefined rules))) t.left
    ∙ ap (λ n. bit_or 0 n) t.right in
    let same = t.same in
    grind (arith)

joins : (rules : FlagRules) (a b : ℕ) → Together rules a b
    → joined_flags rules a b ≡ Some (bit_or a b)
joins rules a b t = cond-true _ _ _ (is_together rules a b t)

apart : (rules : FlagRules) (a b : ℕ) → ¬ Together rules a b → joined_flags rules a b ≡ None
apart rules a b not =
    elim (go_together rules a b) as (λ t. t ≡ go_together rules a b
    → (if t then Some (bit_or a b) else None) ≡ None)
    [ true ↦ λ e. absurd (not (together rules a b (sym e))) | false ↦ λ e. refl ] refl

are_together : (rules : FlagRules) (a b : ℕ) → Together rules a b ⊎ ¬ Together rules a b
are_together rules a b =
    elim (go_together rules a b) as (λ t. t ≡ go_together rules a b
    → Together rules a b ⊎ ¬ Together rules a b) [
      | true ↦ λ e. inl (together rules a b (sym e))
      | false ↦ λ e. inr (λ t. (let f = is_together rules a b t in cc))
    ] refl

turned : (rules : FlagRules) (a b : ℕ) → Together rules a b → Together rules b a
turned rules a b t = record { left = t.right; right = t.left; same = sym t.same }

-- ---- the laws

pub commutes : (rules : FlagRules) (a b : ℕ) → joined_flags rules a b ≡ joined_flags rules b a
commutes rules a b =
    elim (are_together rules a b) [
      | inl t ↦ joins rules a b t ∙ ap Some (or_comm a b) ∙ sym (joins rules b a (turned rules a b t))
      | inr not ↦ apart rules a b not ∙ sym (apart rules b a (λ t. not (turned rules b a t)))
    ]

pub keeps_itself : (rules : FlagRules) (a : ℕ) → KeepsItself rules a
keeps_itself rules a =
    elim (go_together rules a a)
    as (λ t. IfSome (if t then Some (bit_or a a) else None) (λ both. both ≡ a))
    [ true ↦ or_self a | false ↦ tt ]

-- the bits that are the same, of two that go together
same_of_both : (rules : FlagRules) (a b : ℕ) → Together rules a b
    → bit_and (bit_or a b) rules.same ≡ bit_and a rules.same
same_of_both rules a b t =
    and_of_or a b rules.same
    ∙ ap (λ n. bit_or (bit_and a rules.same) n) (sym t.same) ∙ or_self (bit_and a rules.same)

none_of_both : (rules : FlagRules) (a b : ℕ) → Together rules a b
    → bit_and (bit_or a b) (undefined rules) ≡ 0
none_of_both rules a b t =
    and_of_or a b (undefined rules) ∙ ap (λ n. bit_or n (bit_and b (undefined rules))) t.left
    ∙ ap (λ n. bit_or 0 n) t.right

-- a third goes with both as with the second
with_both : (rules : FlagRules) (a b c : ℕ) → Together rules a b → Together rules b c
    → Together rules (bit_or a b) c
with_both rules a b c t u =
    record {
      left = none_of_both rules a b t;
      right = u.right;
      same = same_of_both rules a b t ∙ t.same ∙ u.same;
    }

of_both : (rules : FlagRules) (a b c : ℕ) → Together rules a b → Together rules (bit_or a b) c
    → Together rules b c
of_both rules a b c t u =
    record {
      left = t.right;
      right = u.right;
      same = sym t.same ∙ sym (same_of_both rules a b t) ∙ u.same;
    }

-- three, from the last on
from_last : (rules : FlagRules) (a b c : ℕ) → Together rules b c
    → Together rules a (bit_or b c) → Together rules a b
from_last rules a b c t u =
    turned rules b a (of_both rules c b a (turned rules b c t)
    (subst (λ n. Together rules n a) (or_comm b c) (turned rules a (bit_or b c) u)))

all_three : (rules : FlagRules) (a b c : ℕ) → Together rules a b → Together rules b c
    → JoinsAlike rules a b c
all_three rules a b c t u =
    ap (option_and_then (λ ab. joined_flags rules ab c)) (joins rules a b t)
    ∙ joins rules (bit_or a b) c (with_both rules a b c t u)
    ∙ ap Some (or_assoc a b c)
    ∙ sym (ap (option_and_then (joined_flags rules a)) (joins rules b c u)
    ∙ joins rules a (bit_or b c)
    (subst (λ n. Together rules a n) (or_comm c b)
    (turned rules (bit_or c b) a
    (with_both rules c b a (turned rules b c u) (turned rules a b t)))))

first_alone : (rules : FlagRules) (a b c : ℕ) → ¬ Together rules a b → JoinsAlike rules a b c
first_alone rules a b c not =
    ap (option_and_then (λ ab. joined_flags rules ab c)) (apart rules a b not)
    ∙ (elim (are_together rules b c) [
      | inl u ↦ sym (ap (option_and_then (joined_flags rules a)) (joins rules b c u)
          ∙ apart rules a (bit_or b c) (λ v. not (from_last rules a b c u v)))
      | inr n ↦ sym (ap (option_and_then (joined_flags rules a)) (apart rules b c n))
    ])

last_alone : (rules : FlagRules) (a b c : ℕ) → Together rules a b → ¬ Together rules b c
    → JoinsAlike rules a b c
last_alone rules a b c t not =
    ap (option_and_then (λ ab. joined_flags rules ab c)) (joins rules a b t)
    ∙ apart rules (bit_or a b) c (λ u. not (of_both rules a b c t u))
    ∙ sym (ap (option_and_then (joined_flags rules a)) (apart rules b c not))

pub associates : (rules : FlagRules) (a b c : ℕ) → JoinsAlike rules a b c
associates rules a b c =
    elim (are_together rules a b) [
      | inl t ↦ elim (are_together rules b c)
          [ inl u ↦ all_three rules a b c t u | inr not ↦ last_alone rules a b c t not ]
      | inr not ↦ first_alone rules a b c not
    ]
