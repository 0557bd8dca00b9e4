-- Masks of facts, and the first entry of a table.
use Rattle.linker_elf.proofs.Imports.{AllHold, Applies, AreEqualities, AreSampled, Bool, Condition, ConditionHolds, Entry, EntryApplies, IfSome, IsChoiceAt, IsFirst, IsFirstOf, IsTableOf, IsTrue, LinkFacts, List, None, Operands, Option, RowInfo, Some, ValuesHold, [], addend_condition, and_left, ap, arith, bit_and, bound, changed_toc, choice, class32, compressible, conditions_of, drop, drop_all, eq-eqb, eqb-true, executable, fact_conditions, facts_hold, false, fixed_address, fixed_distance, get_or, got_high_part, group_fits, if◌then◌else◌, inl, inr, is_held, label_marked, length, local_exec_base, marked, none-some, not, private_base, refl, seldom_facts_hold, subst, suc, sym, true, true≢false, value_conditions, weak_zero, with_fact, without_plt, zero, ℕ, ℤ, ⊤, ◌&&◌, ◌++◌, ◌<◌, ◌==◌, ◌||◌, ◌↔◌, ◌∙◌, ◌∷◌, ◌≡◌, ◌≤◌}
use Rattle.linker_elf.specs.declared.elf.choice.Choice.{Choice}
use Rattle.linker_elf.specs.declared.elf.choice_table.ChoiceEntry.{ChoiceEntry}

-- ---- lists of conditions

pub all_hold_both : {R : Type 0} → (row : R → Option RowInfo) (after : Operands) (facts : LinkFacts)
    → (cs ds : List (Condition R))
    → AllHold row after facts (cs ++ ds) ↔ (AllHold row after facts cs × AllHold row after facts ds)
all_hold_both row after facts [] ds = (λ h. (tt, h), λ h. h.1)
all_hold_both row after facts (c ∷ cs) ds =
    let rest = all_hold_both row after facts cs ds in
    (λ h. ((h.0, (rest.0 h.1).0), (rest.0 h.1).1), λ h. (h.0.0, rest.1 (h.0.1, h.1)))

-- ---- masks

pub same : (P : Type 0) → P ↔ P
same P = (λ h. h, λ h. h)

is_bound : (l i : Bool) → IsTrue (l && not i) ↔ ((l ≡ true) × (i ≡ false))
is_bound true true = (λ h. absurd (true≢false (sym h)), λ h. absurd (true≢false h.1))
is_bound true false = (λ h. (refl, refl), λ h. refl)
is_bound false i = (λ h. absurd (true≢false (sym h)), λ h. absurd (true≢false (sym h.0)))

is_same : (p s : ℕ) → IsTrue (p == s) ↔ (p ≡ s)
is_same p s = (λ h. eqb-true p s h, λ h. eq-eqb p s h)

both : (a b : Bool) → IsTrue (a && b) ↔ (IsTrue a × IsTrue b)
both true b = (λ h. (refl, h), λ h. h.1)
both false b = (λ h. absurd (true≢false (sym h)), λ h. absurd (true≢false (sym h.0)))

-- by whether a mask lacks the bit, and whether the condition holds
by_bit : {R : Type 0} → (row : R → Option RowInfo) (after : Operands) (facts : LinkFacts)
    → (c : Condition R) (cs : List (Condition R)) (lacks b : Bool) → (IsTrue b ↔ ConditionHolds row after facts c)
    → AllHold row after facts (if lacks then cs else c ∷ cs) ↔ (IsTrue (lacks || b) × AllHold row after facts cs)
by_bit row after facts c cs true b known = (λ h. (refl, h), λ h. h.1)
by_bit row after facts c cs false b known = (λ h. (known.1 h.0, h.1), λ h. (known.0 h.0, h.1))

first : {R : Type 0} → (row : R → Option RowInfo) (after : Operands) (facts : LinkFacts) (mask bit : ℕ)
    → (c : Condition R) (cs : List (Condition R)) (b : Bool) → (IsTrue b ↔ ConditionHolds row after facts c)
    → AllHold row after facts (with_fact mask bit c cs) ↔ (IsTrue (is_held mask bit b) × AllHold row after facts cs)
first row after facts mask bit c cs b known = by_bit row after facts c cs (bit_and mask bit == 0) b known

next : {R A : Type 0} → (row : R → Option RowInfo) (after : Operands) (facts : LinkFacts) (mask bit : ℕ)
    → (c : Condition R) (cs : List (Condition R)) (p b : Bool)
    → (A ↔ (IsTrue p × AllHold row after facts (with_fact mask bit c cs))) → (IsTrue b ↔ ConditionHolds row after facts c)
    → A ↔ (IsTrue (p && is_held mask bit b) × AllHold row after facts cs)
next row after facts mask bit c cs p b so_far known =
    let one = first row after facts mask bit c cs b known in
    let two = both p (is_held mask bit b) in (
      λ h. (two.1 ((so_far.0 h).0, (one.0 (so_far.0 h).1).0), (one.0 (so_far.0 h).1).1),
      λ h. so_far.1 ((two.0 h.0).0, one.1 ((two.0 h.0).1, h.1)),
    )

all_facts : {R : Type 0} → (row : R → Option RowInfo) (after : Operands) (facts : LinkFacts) (mask : ℕ)
    → AllHold row after facts (fact_conditions mask) ↔ (IsTrue (facts_hold mask facts) × ⊤)
all_facts {R} row after facts mask =
    let f13 : List (Condition R) = with_fact mask 8192 group_fits [] in
    let f12 : List (Condition R) = with_fact mask 4096 without_plt f13 in
    let f11 : List (Condition R) = with_fact mask 2048 changed_toc f12 in
    let f10 : List (Condition R) = with_fact mask 1024 private_base f11 in
    let f9 : List (Condition R) = with_fact mask 512 got_high_part f10 in
    let f8 : List (Condition R) = with_fact mask 256 label_marked f9 in
    let f7 : List (Condition R) = with_fact mask 128 marked f8 in
    let f6 : List (Condition R) = with_fact mask 64 compressible f7 in
    let f5 : List (Condition R) = with_fact mask 32 local_exec_base f6 in
    let f4 : List (Condition R) = with_fact mask 16 executable f5 in
    let f3 : List (Condition R) = with_fact mask 8 fixed_distance f4 in
    let f32 : List (Condition R) = with_fact mask 16384 class32 f3 in
    let f2 : List (Condition R) = with_fact mask 4 fixed_address f32 in
    let f1 : List (Condition R) = with_fact mask 2 weak_zero f2 in
    next row after facts mask 8192 group_fits [] _ _
    (next row after facts mask 4096 without_plt f13 _ _
    (next row after facts mask 2048 changed_toc f12 _ _
    (next row after facts mask 1024 private_base f11 _ _
    (next row after facts mask 512 got_high_part f10 _ _
    (next row after facts mask 256 label_marked f9 _ _
    (next row after facts mask 128 marked f8 _ _
    (next row after facts mask 64 compressible f7 _ _
    (next row after facts mask 32 local_exec_base f6 _ _
    (next row after facts mask 16 executable f5 _ _
    (next row after facts mask 8 fixed_distance f4 _ _
    (next row after facts mask 16384 class32 f3 _ _
    (next row after facts mask 4 fixed_address f32 _ _
    (next row after facts mask 2 weak_zero f2 _ _
    (first row after facts mask 1 bound f1 _ (is_bound facts.is_local facts.is_ifunc))
    (same (facts.is_undefined_weak ≡ true)))
    (same (facts.has_fixed_address ≡ true)))
    (same (facts.is_class32 ≡ true)))
    (same (facts.is_pcrel_link_time_constant ≡ true)))
    (same (facts.is_executable ≡ true)))
    (same (facts.has_local_exec_base ≡ true)))
    (same (facts.may_compress ≡ true)))
    (same (facts.is_relaxable ≡ true)))
    (same (facts.is_label_relaxable ≡ true)))
    (same (facts.has_got_high_part ≡ true)))
    (same (facts.toc_base_is_exclusive ≡ true)))
    (same (facts.may_change_toc ≡ true)))
    (is_same facts.operands.plt_entry facts.operands.symbol))
    (same (facts.group_fits ≡ true))

addend_holds : {R : Type 0} → (row : R → Option RowInfo) (after : Operands) (facts : LinkFacts) (a : Option ℤ)
    → IfSome a (λ x. facts.operands.addend ≡ x) ↔ AllHold row after facts (addend_condition a)
addend_holds row after facts None = (λ h. tt, λ h. tt)
addend_holds row after facts (Some a) = (λ h. (h, tt), λ h. h.0)

abbrev AreHeld : {O K R : Type 0} → (R → Option RowInfo) → Operands → LinkFacts → ChoiceEntry O K R → Type 0
AreHeld row after facts e = AllHold row after facts (conditions_of e)

parts : {O K R : Type 0} → (row : R → Option RowInfo) (after : Operands) (facts : LinkFacts) (e : ChoiceEntry O K R)
    → (IsTrue (facts_hold e.conditions.facts facts)
    × (IfSome e.conditions.addend (λ x. facts.operands.addend ≡ x) × ValuesHold row after facts e.conditions.values))
    ↔ AreHeld row after facts e
parts row after facts e =
    let f = all_facts row after facts e.conditions.facts in
    let a = addend_holds row after facts e.conditions.addend in
    let second = all_hold_both row after facts (addend_condition e.conditions.addend) (value_conditions e.conditions.values) in
    let first = all_hold_both row after facts (fact_conditions e.conditions.facts) (addend_condition e.conditions.addend ++ value_conditions e.conditions.values) in (
      λ h. first.1 (f.1 (h.0, tt), second.1 (a.0 h.1.0, h.1.1)),
      λ h. ((f.0 (first.0 h).0).0, (a.1 (second.0 (first.0 h).1).0, (second.0 (first.0 h).1).1)),
    )

-- whether an entry applies, where a test fails, and where only those of values are left
pub without_fact : {O K R : Type 0} → (row : R → Option RowInfo) (after : Operands) (facts : LinkFacts) (e : ChoiceEntry O K R)
    → (M : Type 0) → facts_hold e.conditions.facts facts ≡ false → IsTrue false ↔ (M × AllHold row after facts (conditions_of e))
without_fact row after facts e M n =
    (λ h. absurd (true≢false (sym h)), λ h. absurd (true≢false (sym ((parts row after facts e).1 h.1).0 ∙ n)))

-- of the first four the last three fail
all_but_first : (a b c d : Bool) → (b && c && d) ≡ false → (a && b && c && d) ≡ false
all_but_first true b c d n = n
all_but_first false b c d n = refl

-- where facts fail that seldom hold, all do
seldom_fails : (mask : ℕ) (facts : LinkFacts) → seldom_facts_hold mask facts ≡ false → facts_hold mask facts ≡ false
seldom_fails mask facts n =
    and_left _ _ (and_left _ _ (and_left _ _ (and_left _ _ (and_left _ _ (and_left _ _
    (and_left _ _ (and_left _ _ (and_left _ _ (and_left _ _ (and_left _ _ (all_but_first
    (is_held mask 1 (facts.is_local && not facts.is_ifunc)) (is_held mask 2 facts.is_undefined_weak)
    (is_held mask 4 facts.has_fixed_address) (is_held mask 16384 facts.is_class32) n)))))))))))

pub without_seldom_fact : {O K R : Type 0} → (row : R → Option RowInfo) (after : Operands) (facts : LinkFacts)
    → (e : ChoiceEntry O K R) (M : Type 0) → seldom_facts_hold e.conditions.facts facts ≡ false
    → IsTrue false ↔ (M × AllHold row after facts (conditions_of e))
without_seldom_fact row after facts e M n =
    without_fact row after facts e M (seldom_fails e.conditions.facts facts n)

pub without_instructions : {M N : Type 0} → (M → ⊥) → IsTrue false ↔ (M × N)
without_instructions n = (λ h. absurd (true≢false (sym h)), λ h. absurd (n h.0))

pub without_addend : {O K R : Type 0} → (row : R → Option RowInfo) (after : Operands) (facts : LinkFacts) (e : ChoiceEntry O K R)
    → (M : Type 0) → (IfSome e.conditions.addend (λ x. facts.operands.addend ≡ x) → ⊥) → IsTrue false ↔ (M × AllHold row after facts (conditions_of e))
without_addend row after facts e M n =
    (λ h. absurd (true≢false (sym h)), λ h. absurd (n ((parts row after facts e).1 h.1).1.0))

pub by_values : {O K R : Type 0} → (row : R → Option RowInfo) (after : Operands) (facts : LinkFacts) (e : ChoiceEntry O K R)
    → (M : Type 0) (r : Bool) → facts_hold e.conditions.facts facts ≡ true → IfSome e.conditions.addend (λ x. facts.operands.addend ≡ x) → M
    → (IsTrue r ↔ ValuesHold row after facts e.conditions.values) → IsTrue r ↔ (M × AllHold row after facts (conditions_of e))
by_values row after facts e M r f a m v =
    (λ h. (m, (parts row after facts e).0 (f, (a, v.0 h))), λ h. v.1 ((parts row after facts e).1 h.1).1.1)

-- ---- the choice of an index

some_or : {A : Type 0} → A → Option A → A
some_or a None = a
some_or a (Some b) = b

some_same : {A : Type 0} → (a b : A) → Some a ≡ Some b → a ≡ b
unfolding some_or
some_same a b e = ap (some_or a) e

chosen_at : {O K R : Type 0} → (A : ChoiceEntry O K R → Type 0) (es : List (ChoiceEntry O K R)) (i : ℕ) (d : ChoiceEntry O K R)
    → i < length es → A (get_or es i d) → IsChoiceAt A es i (Some (choice (get_or es i d).kind (get_or es i d).relocation))
chosen_at A [] i d within applies = absurd (omega (arith, within))
chosen_at A (e ∷ es) zero d within applies = inl (applies, refl)
chosen_at A (e ∷ es) (suc i) d within applies = chosen_at A es i d (omega (arith, within)) applies

not_chosen_at : {O K R : Type 0} → (A : ChoiceEntry O K R → Type 0) (es : List (ChoiceEntry O K R)) (i : ℕ) (d : ChoiceEntry O K R)
    → i < length es → (A (get_or es i d) → ⊥) → IsChoiceAt A es i None
not_chosen_at A [] i d within fails = refl
not_chosen_at A (e ∷ es) zero d within fails = inr (fails, refl)
not_chosen_at A (e ∷ es) (suc i) d within fails = not_chosen_at A es i d (omega (arith, within)) fails

pub item_chosen : {O K R : Type 0} → (A : ChoiceEntry O K R → Type 0) (es : List (ChoiceEntry O K R)) (i : ℕ) (e : ChoiceEntry O K R)
    → i < length es → e ≡ get_or es i e → A e → IsChoiceAt A es i (Some (choice e.kind e.relocation))
item_chosen A es i e within is applies =
    subst (λ x. IsChoiceAt A es i (Some (choice x.kind x.relocation))) (sym is) (chosen_at A es i e within (subst A is applies))

pub item_not_chosen : {O K R : Type 0} → (A : ChoiceEntry O K R → Type 0) (es : List (ChoiceEntry O K R)) (i : ℕ) (e : ChoiceEntry O K R)
    → i < length es → e ≡ get_or es i e → (A e → ⊥) → IsChoiceAt A es i None
item_not_chosen A es i e within is fails = not_chosen_at A es i e within (λ a. fails (subst A (sym is) a))

pub none_at : {O K R : Type 0} → (A : ChoiceEntry O K R → Type 0) (es : List (ChoiceEntry O K R)) (i : ℕ)
    → length es ≤ i → IsChoiceAt A es i None
none_at A [] i is = refl
none_at A (e ∷ es) zero is = absurd (omega (arith, is))
none_at A (e ∷ es) (suc i) is = none_at A es i (omega (arith, is))

-- ---- the first entry

-- from the entry of an index on it is the one after, or the choice of the index
pub following : {O K R : Type 0} → (A : ChoiceEntry O K R → Type 0) (es : List (ChoiceEntry O K R)) (otherwise c : Choice K R) (i : ℕ)
    → IsChoiceAt A es i None → IsFirstOf A (drop (suc i) es) otherwise c → IsFirstOf A (drop i es) otherwise c
following A [] otherwise c zero none later = later
following A [] otherwise c (suc i) none later = later
following A (e ∷ es) otherwise c zero (inl h) later = absurd (none-some _ h.1)
following A (e ∷ es) otherwise c zero (inr h) later = inr (h.0, later)
following A (e ∷ es) otherwise c (suc i) none later = following A es otherwise c i none later

pub here : {O K R : Type 0} → (A : ChoiceEntry O K R → Type 0) (es : List (ChoiceEntry O K R)) (otherwise c : Choice K R) (i : ℕ)
    → IsChoiceAt A es i (Some c) → IsFirstOf A (drop i es) otherwise c
here A [] otherwise c i found = absurd (none-some c (sym found))
here A (e ∷ es) otherwise c zero (inl h) = inl (h.0, some_same c _ h.1)
here A (e ∷ es) otherwise c zero (inr h) = absurd (none-some c (sym h.1))
here A (e ∷ es) otherwise c (suc i) found = here A es otherwise c i found

pub nowhere : {O K R : Type 0} → (A : ChoiceEntry O K R → Type 0) (es : List (ChoiceEntry O K R)) (otherwise : Choice K R)
    → length es ≤ 5 → IsFirstOf A (drop 5 es) otherwise otherwise
nowhere A es otherwise few = subst (λ l. IsFirstOf A l otherwise otherwise) (sym (drop_all 5 es few)) refl

-- ---- tables

-- where the code's entries are the definition's, the first one of both is the same
pub first_of_table : {O K R : Type 0} → (are_at : O → K → List ℕ → ℕ → Type 0) (Required : K → List ℕ → ℕ → Type 0)
    → (row : R → Option RowInfo) (after : K → ℕ → Operands → Operands) (section : List ℕ) (o : ℕ) (facts : LinkFacts)
    → (es : List (ChoiceEntry O K R)) (ds : List (Entry K R)) (otherwise chosen : Choice K R) → IsTableOf are_at Required es ds
    → IsFirstOf (EntryApplies are_at row after section o facts) es otherwise chosen
    → IsFirst (Applies Required row after section o facts) ds otherwise chosen
first_of_table are_at Required row after section o facts [] [] otherwise chosen table first = first
first_of_table are_at Required row after section o facts (e ∷ es) [] otherwise chosen table first = absurd table
first_of_table are_at Required row after section o facts [] (d ∷ ds) otherwise chosen table first = absurd table
first_of_table {O} {K} {R} are_at Required row after section o facts (e ∷ es) (d ∷ ds) otherwise chosen table (inl h) =
    subst (λ x. IsFirst (Applies Required row after section o facts) (x ∷ ds) otherwise chosen) table.0
    (inl (((table.1.0 section o).0 h.0.0, h.0.1), h.1))
first_of_table {O} {K} {R} are_at Required row after section o facts (e ∷ es) (d ∷ ds) otherwise chosen table (inr h) =
    subst (λ x. IsFirst (Applies Required row after section o facts) (x ∷ ds) otherwise chosen) table.0
    (inr (
      λ a. h.0 ((table.1.0 section o).1 a.0, a.1),
      first_of_table are_at Required row after section o facts es ds otherwise chosen table.1.1 h.1,
    ))

-- whether the code's table is empty is whether the definition's is
is_empty_table : {O K R : Type 0} → (are_at : O → K → List ℕ → ℕ → Type 0) (Required : K → List ℕ → ℕ → Type 0)
    → (es : List (ChoiceEntry O K R)) (ds : List (Entry K R)) (is : Bool) → IsTableOf are_at Required es ds → is ≡ (length es == 0)
    → (not is ≡ false) ↔ (ds ≡ [])
is_empty_table are_at Required [] [] is table known = (λ h. refl, λ h. ap not known)
is_empty_table are_at Required [] (d ∷ ds) is table known = absurd table
is_empty_table are_at Required (e ∷ es) [] is table known = absurd table
is_empty_table are_at Required (e ∷ es) (d ∷ ds) true table known =
    absurd (let none : length (e ∷ es) ≡ 0 = eqb-true (length (e ∷ es)) 0 (sym known) in omega (arith, none))
is_empty_table are_at Required (e ∷ es) (d ∷ ds) false table known =
    (λ h. absurd (true≢false h), λ h. absurd (let none : length (d ∷ ds) ≡ 0 = ap length h in omega (arith, none)))

-- whether the code's table for the sample has entries is whether the definition has some somewhere
pub is_listed : {O K R : Type 0} → (are_at : O → K → List ℕ → ℕ → Type 0) (required : R → List ℕ → ℕ → K → List ℕ → ℕ → Type 0)
    → (entries : R → List ℕ → ℕ → List (Entry K R)) → AreSampled entries → (name : R) (es : List (ChoiceEntry O K R)) (is : Bool)
    → IsTableOf are_at (required name (0x8b ∷ []) 2) es (entries name (0x8b ∷ []) 2) → is ≡ not (length es == 0)
    → (is ≡ false) ↔ ((section : List ℕ) (o : ℕ) → entries name section o ≡ [])
is_listed are_at required entries sampled name es is table known =
    let here = is_empty_table are_at (required name (0x8b ∷ []) 2) es (entries name (0x8b ∷ []) 2) (length es == 0) table refl in
    (λ none. sampled name (here.0 (sym known ∙ none)), λ all. known ∙ here.1 (all (0x8b ∷ []) 2))

-- what holds of the choice of each entry that applies, and of the other choice, holds of what is
-- chosen
pub holds_of_first : {K R : Type 0} → (A : Entry K R → Type 0) (P : Choice K R → Type 0) (es : List (Entry K R))
    → (otherwise chosen : Choice K R) → ((e : Entry K R) → A e → P (choice e.kind e.relocation)) → P otherwise
    → IsFirst A es otherwise chosen → P chosen
holds_of_first A P [] otherwise chosen each last first = subst P (sym first) last
holds_of_first A P (e ∷ es) otherwise chosen each last (inl h) = subst P (sym h.1) (each e h.0)
holds_of_first A P (e ∷ es) otherwise chosen each last (inr h) =
    holds_of_first A P es otherwise chosen each last h.1

-- only one choice is chosen
only_one : {K R : Type 0} → (A : Entry K R → Type 0) (es : List (Entry K R)) (otherwise a b : Choice K R)
    → IsFirst A es otherwise a → IsFirst A es otherwise b → a ≡ b
only_one A [] otherwise a b first other = first ∙ sym other
only_one A (e ∷ es) otherwise a b (inl h) (inl g) = h.1 ∙ sym g.1
only_one A (e ∷ es) otherwise a b (inl h) (inr g) = absurd (g.0 h.0)
only_one A (e ∷ es) otherwise a b (inr h) (inl g) = absurd (h.0 g.0)
only_one A (e ∷ es) otherwise a b (inr h) (inr g) = only_one A es otherwise a b h.1 g.1

-- whether it isn't the last one
pub isnt_last : {K R : Type 0} → (A : Entry K R → Type 0) (es : List (Entry K R)) (otherwise chosen : Choice K R) (is : Bool)
    → IsFirst A es otherwise chosen → (IsTrue is ↔ (chosen ≡ otherwise)) → IsTrue (not is) ↔ ¬ IsFirst A es otherwise otherwise
isnt_last A es otherwise chosen true first known =
    (λ h. absurd (true≢false (sym h)), λ fits. absurd (fits (subst (IsFirst A es otherwise) (known.0 refl) first)))
isnt_last A es otherwise chosen false first known =
    (λ h. λ last. true≢false (sym (known.1 (only_one A es otherwise chosen otherwise first last))), λ fits. refl)

-- the choice that changes nothing is the last one
pub unchanged_is : {K R : Type 0} → {none : K} {IsNoOp IsDefault : K → Type 0} {equal : R → R → Bool} → AreEqualities none IsNoOp IsDefault equal
    → (name : R) (c : Choice K R) (is : Bool) → (IsTrue is ↔ (IsNoOp c.kind × IsTrue (equal c.relocation name)))
    → IsTrue is ↔ (c ≡ choice none name)
unchanged_is {K} {R} {none} {IsNoOp} {IsDefault} {equal} laws name c is known = (
  λ h. subst (λ k. c ≡ choice k name) ((laws.kinds c.kind).0 (known.0 h).0)
      (subst (λ r. c ≡ choice c.kind r) ((laws.names c.relocation name).0 (known.0 h).1) refl),
  λ e. known.1 ((laws.kinds c.kind).1 (ap (λ x. x.kind) e), (laws.names c.relocation name).1 (ap (λ x. x.relocation) e)),
)
