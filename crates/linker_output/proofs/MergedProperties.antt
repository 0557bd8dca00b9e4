-- Properties that are merged type by type.
use Rattle.linker_output.proofs.Imports.{All, Any, AnyOfAll, Architecture, Largest, List, Merges, None, Ok, Option, Present, Property, PropertyRule, Same, Some, X86_64, [], ap, are_ascending, arith, cases_lt, drop, inl, inr, length, merged, merged_by, merged_kind, nat_tests, of_kind, put_all, refl, rule_of, set, subst, sym, true, ℕ, ◌++◌, ◌+◌, ◌<◌, ◌^◌, ◌∙◌, ◌∷◌, ◌≡◌, ◌≢◌, ◌≤◌}

-- ---- lists

of_own : (p : Property) (xs : List Property) → of_kind p.kind (p ∷ xs) ≡ Some p
of_own p xs = grind (arith, nat_tests)

pub of_kind_is : (kind : ℕ) (ps : List Property) (p : Property) → of_kind kind ps ≡ Some p → p.kind ≡ kind
of_kind_is kind [] p e = absurd (cc)
of_kind_is kind (q ∷ ps) p e = (let h = of_kind_is kind ps p in grind (arith, nat_tests))

of_kind_other : (kind : ℕ) (ps : List Property) (p : Property) → p.kind ≢ kind → of_kind kind (ps ++ p ∷ []) ≡ of_kind kind ps
of_kind_other kind [] p ne = grind (arith, nat_tests)
of_kind_other kind (q ∷ ps) p ne = (let h = of_kind_other kind ps p ne in grind (arith, nat_tests))

of_kind_last : (kind : ℕ) (ps : List Property) (p : Property) → p.kind ≡ kind → of_kind kind ps ≡ None → of_kind kind (ps ++ p ∷ []) ≡ Some p
of_kind_last kind [] p same e = grind (arith, nat_tests)
of_kind_last kind (q ∷ ps) p same e = (let h = of_kind_last kind ps p same in grind (arith, nat_tests))

-- a property above all others
ascends_last : (ps : List Property) (least : ℕ) (p : Property) → are_ascending least ps ≡ true → least ≤ p.kind → ((kind : ℕ) → p.kind ≤ kind → of_kind kind ps ≡ None) → are_ascending least (ps ++ p ∷ []) ≡ true
ascends_last [] least p h le above = grind (arith, nat_tests)
ascends_last (q ∷ ps) least p h le above =
    let lt : q.kind < p.kind = elim (cases_lt q.kind p.kind) [
      | inl below ↦ below
      | inr le ↦ (let none = above q.kind le in let own = of_own q ps in absurd (cc))
    ] in
    let k = ascends_last ps (q.kind + 1) p (grind (arith, nat_tests)) (omega arith) (λ kind le. (let none = above kind le in grind (arith, nat_tests))) in
    grind (arith, nat_tests)

-- ---- properties in a slice

pub put_more : (done before : List Property) (p : Property) → set (put_all done before) (length done) p ≡ put_all (done ++ p ∷ []) before
put_more [] [] p = refl
put_more [] (q ∷ qs) p = refl
put_more (d ∷ ds) [] p = refl
put_more (d ∷ ds) (q ∷ qs) p = ap (λ xs. d ∷ xs) (put_more ds qs p)

pub put_within : (done before : List Property) → length done ≤ length before → put_all done before ≡ done ++ drop (length done) before
put_within [] before le = refl
put_within (d ∷ ds) [] le = absurd (omega arith)
put_within (d ∷ ds) (q ∷ qs) le = ap (λ xs. d ∷ xs) (put_within ds qs (omega arith))

-- ---- what is merged

none_made : (rule : Option PropertyRule) (kind : ℕ) → merged_by rule kind None None ≡ Ok None
none_made None kind = refl
none_made (Some All) kind = refl
none_made (Some other) kind = refl

-- the merged properties so far
pub record SoFar (architecture : Architecture) (first second done : List Property) (bound : ℕ) : Type 0 where
  pub ascending : are_ascending 0 done ≡ true
  pub above : (kind : ℕ) → bound ≤ kind → of_kind kind done ≡ None
  pub exact : (kind : ℕ) → kind < bound → merged_kind architecture first second kind ≡ Ok (of_kind kind done)

pub skip : (architecture : Architecture) (first second done : List Property) (bound next : ℕ) → bound ≤ next
    → ((k : ℕ) → bound ≤ k → k < next → of_kind k first ≡ None)
    → ((k : ℕ) → bound ≤ k → k < next → of_kind k second ≡ None)
    → SoFar architecture first second done bound → SoFar architecture first second done next
skip architecture first second done bound next le one two s = record {
  ascending = s.ascending;
  above = λ kind over. s.above kind (omega arith);
  exact = λ kind lt. elim (cases_lt kind bound) [
    | inl below ↦ s.exact kind below
    | inr above ↦
        rw (one kind above lt, two kind above lt, s.above kind above)
        (none_made (rule_of architecture kind) kind)
  ];
}

pub begun : (architecture : Architecture) (first second : List Property) → SoFar architecture first second [] 0
begun architecture first second = record { ascending = refl; above = λ kind le. refl; exact = λ kind lt. absurd (omega arith) }

pub without : (architecture : Architecture) (first second done : List Property) (kind : ℕ)
    → merged_kind architecture first second kind ≡ Ok None
    → SoFar architecture first second done kind → SoFar architecture first second done (kind + 1)
without architecture first second done kind e s = record {
  ascending = s.ascending;
  above = λ k over. s.above k (omega arith);
  exact = λ k lt. elim (cases_lt k kind) [
    | inl below ↦ s.exact k below
    | inr above ↦
        let same : k ≡ kind = omega arith in
        rw (same, s.above kind (omega arith)) e
  ];
}

pub with : (architecture : Architecture) (first second done : List Property) (kind : ℕ) (p : Property)
    → merged_kind architecture first second kind ≡ Ok (Some p) → p.kind ≡ kind
    → SoFar architecture first second done kind → SoFar architecture first second (done ++ p ∷ []) (kind + 1)
with architecture first second done kind p e is s = record {
  ascending = ascends_last done 0 p s.ascending (omega arith) (λ k le. s.above k (omega arith));
  above = λ k over. of_kind_other k done p (λ h. (omega arith)) ∙ s.above k (omega arith);
  exact = λ k lt. elim (cases_lt k kind) [
    | inl below ↦ s.exact k below ∙ sym (ap Ok (of_kind_other k done p (λ h. (omega arith))))
    | inr above ↦
        let same : k ≡ kind = omega arith in
        rw (same, of_kind_last kind done p is (s.above kind (omega arith))) e
  ];
}

-- a merged property has its type
made_kind : (rule : PropertyRule) (kind : ℕ) (first second : Option Property) (p : Property)
    → ((q : Property) → first ≡ Some q → q.kind ≡ kind) → ((q : Property) → second ≡ Some q → q.kind ≡ kind)
    → merged rule kind first second ≡ Ok (Some p) → p.kind ≡ kind
made_kind All kind first second p one two e = grind (arith, nat_tests)
made_kind Any kind first second p one two e = grind (arith, nat_tests)
made_kind AnyOfAll kind (Some a) (Some b) p one two e = grind (arith, nat_tests)
made_kind AnyOfAll kind None second p one two e = absurd (cc)
made_kind AnyOfAll kind (Some a) None p one two e = absurd (cc)
made_kind Largest kind None second p one two e = two p (cc)
made_kind Largest kind (Some a) None p one two e = one p (cc)
made_kind Largest kind (Some a) (Some b) p one two e = grind (arith, nat_tests)
made_kind Present kind None second p one two e = two p (cc)
made_kind Present kind (Some a) None p one two e = one p (cc)
made_kind Present kind (Some a) (Some b) p one two e = grind (arith, nat_tests)
made_kind Same kind None second p one two e = two p (cc)
made_kind Same kind (Some a) None p one two e = one p (cc)
made_kind Same kind (Some a) (Some b) p one two e = grind (arith, nat_tests)

pub merged_is : (rule : PropertyRule) (kind : ℕ) (first second : List Property) (p : Property)
    → merged rule kind (of_kind kind first) (of_kind kind second) ≡ Ok (Some p) → p.kind ≡ kind
merged_is rule kind first second p e =
    made_kind rule kind (of_kind kind first) (of_kind kind second) p
    (of_kind_is kind first) (of_kind_is kind second) e

-- a type of more than 32 bits has no rule
no_rule : (architecture : Architecture) (kind : ℕ) → 2 ^ 32 ≤ kind → rule_of architecture kind ≡ None
no_rule X86_64 kind le = grind (arith, nat_tests)
no_rule other kind le = grind (arith, nat_tests)

pub whole : (architecture : Architecture) (first second done : List Property) (bound : ℕ) → 2 ^ 32 ≤ bound
    → SoFar architecture first second done bound → Merges architecture first second done
whole architecture first second done bound le s = record {
  ascending = s.ascending;
  exact = λ kind. elim (cases_lt kind bound) [
    | inl below ↦ s.exact kind below
    | inr above ↦
        rw (no_rule architecture kind (omega arith), s.above kind above) refl
  ];
}

-- ---- what merges is one list

low_none : (xs : List Property) (least kind : ℕ) → are_ascending least xs ≡ true → kind < least → of_kind kind xs ≡ None
low_none [] least kind h lt = refl
low_none (p ∷ xs) least kind h lt = (let k = low_none xs (p.kind + 1) kind in grind (arith, nat_tests))

-- two lists' heads have one type
heads : (p q : Property) (xs ys : List Property) (one two : ℕ)
    → are_ascending one (p ∷ xs) ≡ true → are_ascending two (q ∷ ys) ≡ true
    → ((kind : ℕ) → of_kind kind (p ∷ xs) ≡ of_kind kind (q ∷ ys)) → q.kind ≤ p.kind
heads p q xs ys one two h k same =
    elim (cases_lt p.kind q.kind) [
      | inr le ↦ le
      | inl lt ↦
          let e : of_kind p.kind (q ∷ ys) ≡ Some p = sym (same p.kind) ∙ of_own p xs in
          let n : of_kind p.kind (q ∷ ys) ≡ None = low_none (q ∷ ys) q.kind p.kind (grind (arith, nat_tests)) lt in
          absurd (cc)
    ]

tails : (p : Property) (xs ys : List Property) (one two : ℕ)
    → are_ascending one (p ∷ xs) ≡ true → are_ascending two (p ∷ ys) ≡ true
    → ((kind : ℕ) → of_kind kind (p ∷ xs) ≡ of_kind kind (p ∷ ys))
    → (kind : ℕ) → of_kind kind xs ≡ of_kind kind ys
tails p xs ys one two h k same kind =
    grind (arith, low_none xs (p.kind + 1) kind, low_none ys (p.kind + 1) kind, same kind, nat_tests)

pub same_lists : (xs ys : List Property) (one two : ℕ)
    → are_ascending one xs ≡ true → are_ascending two ys ≡ true
    → ((kind : ℕ) → of_kind kind xs ≡ of_kind kind ys) → xs ≡ ys
same_lists [] [] one two h k same = refl
same_lists [] (q ∷ ys) one two h k same = (let e : None ≡ Some q = same q.kind ∙ of_own q ys in absurd (cc))
same_lists (p ∷ xs) [] one two h k same = (let e : None ≡ Some p = sym (same p.kind) ∙ of_own p xs in absurd (cc))
same_lists (p ∷ xs) (q ∷ ys) one two h k same =
    let le : q.kind ≤ p.kind = heads p q xs ys one two h k same in
    let ge : p.kind ≤ q.kind = heads q p ys xs two one k h (λ kind. sym (same kind)) in
    let kinds : q.kind ≡ p.kind = omega arith in
    let e : Some p ≡ Some q = sym (of_own p xs) ∙ same p.kind ∙ subst (λ k. of_kind k (q ∷ ys) ≡ Some q) kinds (of_own q ys) in
    let one_head : p ≡ q = cc in
    let after_p : are_ascending (p.kind + 1) xs ≡ true = grind (arith, nat_tests) in
    let after_q : are_ascending (q.kind + 1) ys ≡ true = grind (arith, nat_tests) in
    let same_p : (kind : ℕ) → of_kind kind (p ∷ xs) ≡ of_kind kind (p ∷ ys) = subst (λ r. (kind : ℕ) → of_kind kind (p ∷ xs) ≡ of_kind kind (r ∷ ys)) (sym one_head) same in
    let rest : xs ≡ ys = same_lists xs ys (p.kind + 1) (q.kind + 1) after_p after_q (tails p xs ys one two h (subst (λ r. are_ascending two (r ∷ ys) ≡ true) (sym one_head) k) same_p) in
    cc

pub one_merged : (architecture : Architecture) (first second : List Property) (x y : List Property)
    → Merges architecture first second x → Merges architecture first second y → x ≡ y
one_merged architecture first second x y m n =
    same_lists x y 0 0 m.ascending n.ascending (λ kind. (let a = m.exact kind in let b = n.exact kind in cc))
