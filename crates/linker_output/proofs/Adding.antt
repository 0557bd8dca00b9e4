-- What holds after a stub is added, or a branch goes by another stub.
use Rattle.linker_output.proofs.Imports.{AreLists, AreOfTwo, AreTwo, Back, Branch, Code, Direct, Far, Front, Group, HasNoFar, HasNoneAt, HasOwner, HasPart, HasSpare, IsCode, IsFar, IsFarFrom, IsFirst, IsNear, IsNew, IsState, IsWay, List, Middle, Near, Part, State, StaysUnshared, StubAt, Vec, Way, [], ap, arith, at, branch_at, cases_lt, cases_order, get_or-set_other, get_or-set_same, get_or_push, group_at, inl, inr, length, length-set, length_push, level, level_of, list_at, list_of, new_way, part_of, refl, set, stub_at, stubs_in, subst, sum_by, sum_by-set, sym, true, way_at, with_one, ℕ, ⊎_elim, ◌++◌, ◌+◌, ◌<◌, ◌∙◌, ◌∷◌, ◌≡◌, ◌≢◌, ◌≤◌, ◌⊎◌}
use Rattle.std.proofs.Math.ListN.{get_or-append}
use Rattle.linker_output.proofs.Bounds.{level_most}

part_grows : (p part : Part) (g : Group) → part_of p g ≤ part_of p (with_one part g)
part_grows Front Front g = omega arith
part_grows Middle Front g = omega arith
part_grows Back Front g = omega arith
part_grows p other g = omega arith

part_more : (part : Part) (g : Group) → part_of part (with_one part g) ≡ part_of part g + 1
part_more Front g = refl
part_more other g = refl

stubs_more : (part : Part) (g : Group) → stubs_in (with_one part g) ≡ stubs_in g + 1
stubs_more Front g = omega arith
stubs_more other g = omega arith

level_new : (part : Part) (s : ℕ) → level (new_way part s) ≡ level_of part
level_new Front s = refl
level_new other s = refl

-- a stub that there was is as it was
old_stub : (stubs new : List StubAt) (s : StubAt) (j : ℕ) → new ≡ stubs ++ (s ∷ []) → j < length stubs → stub_at new j ≡ stub_at stubs j
old_stub stubs new s j is within = rw is (get_or-append stubs (s ∷ []) _ j within)

new_stub : (stubs new : List StubAt) (s : StubAt) → new ≡ stubs ++ (s ∷ []) → stub_at new (length stubs) ≡ s
new_stub stubs new s is = rw is (get_or_push stubs s _ (length stubs) refl)

way_kept : (code : Code) (stubs new : List StubAt) (s : StubAt) (branch : Branch) (way : Way) → new ≡ stubs ++ (s ∷ []) → IsWay code stubs branch way → IsWay code new branch way
way_kept code stubs new s branch Direct is h = tt
way_kept code stubs new s branch (Far j) is h =
    (omega (arith, ap length is ∙ length_push stubs s, h.0), ap (λ t. t.target) (old_stub stubs new s j is (h.0)) ∙ h.1)
way_kept code stubs new s branch (Near j) is h =
    let e = old_stub stubs new s j is (h.0) in
    (omega (arith, ap length is ∙ length_push stubs s, h.0), ap (λ t. t.target) e ∙ h.1, subst (IsNear code branch) (sym e) (h.2))

way_new : (code : Code) (state : State) (new : List StubAt) (index boundary : ℕ) (part : Part) (s : StubAt)
    → s ≡ record { boundary = boundary; part = part; index = part_of part (group_at state.groups.items boundary); target = (branch_at code.branches.now index).target }
    → new ≡ state.stubs.items ++ (s ∷ []) → IsNew code state (branch_at code.branches.now index) boundary part → IsWay code new (branch_at code.branches.now index) (new_way part (length state.stubs.items))
way_new code state new index boundary Front s s_is is place =
    let e = new_stub state.stubs.items new s is ∙ s_is in
    (omega (arith, ap length is ∙ length_push state.stubs.items s), ap (λ t. t.target) e, subst (IsNear code (branch_at code.branches.now index)) (sym e) place.0)
way_new code state new index boundary Middle s s_is is place =
    (omega (arith, ap length is ∙ length_push state.stubs.items s), ap (λ t. t.target) (new_stub state.stubs.items new s is ∙ s_is))
way_new code state new index boundary Back s s_is is place =
    let e = new_stub state.stubs.items new s is ∙ s_is in
    (omega (arith, ap length is ∙ length_push state.stubs.items s), ap (λ t. t.target) e, subst (IsNear code (branch_at code.branches.now index)) (sym e) place.0)

-- the lists of stubs with one more
module _ (lists : ℕ) (stubs new : List StubAt) (s : StubAt) (heads nexts heads_new nexts_new : List ℕ) (l : ℕ)
    (are : AreLists lists stubs heads nexts) (l_is : l ≡ list_of lists s.boundary s.target) (l_within : l < lists)
    (new_is : new ≡ stubs ++ (s ∷ [])) (heads_are : heads_new ≡ set heads l (length stubs + 1)) (nexts_are : nexts_new ≡ nexts ++ (at heads l ∷ [])) where
  more : length new ≡ length stubs + 1
  more = ap length new_is ∙ length_push stubs s

  more_next : length nexts_new ≡ length nexts + 1
  more_next = ap length nexts_are ∙ length_push nexts (at heads l)

  same_list : (j : ℕ) → j < length stubs → list_at lists new j ≡ list_at lists stubs j
  same_list j within = ap (λ t. list_of lists t.boundary t.target) (old_stub stubs new s j new_is within)

  last_list : list_at lists new (length stubs) ≡ l
  last_list = ap (λ t. list_of lists t.boundary t.target) (new_stub stubs new s new_is) ∙ sym l_is

  head_here : at heads_new l ≡ length stubs + 1
  head_here = let e = are.one_each in ap (λ hs. at hs l) heads_are ∙ get_or-set_same heads l (length stubs + 1) 0 (omega arith)

  head_other : (k : ℕ) → k ≢ l → at heads_new k ≡ at heads k
  head_other k ne = ap (λ hs. at hs k) heads_are ∙ get_or-set_other heads l k (length stubs + 1) 0 ne

  next_old : (j : ℕ) → j < length stubs → at nexts_new j ≡ at nexts j
  next_old j within = let e = are.one_next in ap (λ ns. at ns j) nexts_are ∙ get_or-append nexts (at heads l ∷ []) 0 j (omega arith)

  next_last : at nexts_new (length stubs) ≡ at heads l
  next_last = ap (λ ns. at ns (length stubs)) nexts_are ∙ get_or_push nexts (at heads l) 0 (length stubs) are.one_next

  by_list : (k : ℕ) → (k ≡ l) ⊎ (k ≢ l)
  by_list k = ⊎_elim (λ (same : k ≡ l). inl same) (λ (apart : (k < l) ⊎ (l < k)). inr (λ e. (omega arith))) (cases_order k l)

  by_stub : (j : ℕ) → j < length new → (j < length stubs) ⊎ (j ≡ length stubs)
  by_stub j within = let m = more in ⊎_elim (λ (old : j < length stubs). inl old) (λ (last : length stubs ≤ j). inr (omega arith)) (cases_lt j (length stubs))

  pub lists_added : AreLists lists new heads_new nexts_new
  lists_added = record {
    one_each = ap length heads_are ∙ length-set heads l (length stubs + 1) ∙ are.one_each;
    one_next = (let m = more in let n = more_next in let e = are.one_next in omega arith);
    within = λ k. ⊎_elim
        (λ (same : k ≡ l). let h = head_here in let m = more in rw same (omega arith))
        (λ (other : k ≢ l). let h = head_other k other in let w = are.within k in let m = more in omega arith)
        (by_list k);
    lower = λ j within. ⊎_elim
        (λ (old : j < length stubs). let n = next_old j old in let w = are.lower j old in omega arith)
        (λ (last : j ≡ length stubs). let n = next_last in let w = are.within l in rw last (omega arith))
        (by_stub j within);
    first = λ j within. ⊎_elim
        (λ (old : j < length stubs). rw (same_list j old) (⊎_elim
        (λ (same : list_at lists stubs j ≡ l). let h = head_here in rw same (omega arith))
        (λ (other : list_at lists stubs j ≢ l). let h = head_other (list_at lists stubs j) other in let f = are.first j old in omega arith)
        (by_list (list_at lists stubs j))))
        (λ (last : j ≡ length stubs). rw (last, last_list) (let h = head_here in omega arith))
        (by_stub j within);
    next = λ i j below within e. ⊎_elim
        (λ (old : j < length stubs).
        let n = next_old j old in
        let f = are.next i j below old (sym (same_list i (omega arith)) ∙ e ∙ same_list j old) in
        omega arith)
        (λ (last : j ≡ length stubs).
        let here : list_at lists stubs i ≡ l = sym (same_list i (omega arith)) ∙ e ∙ ap (list_at lists new) last ∙ last_list in
        let f : i < at heads l = subst (λ k. i < at heads k) here (are.first i (omega arith)) in
        let n = next_last in
        rw last (omega arith))
        (by_stub j within);
    first_is = λ k j e. ⊎_elim
        (λ (same : k ≡ l).
        let h = head_here in
        let there : j ≡ length stubs = (let f : at heads_new l ≡ j + 1 = rw same at e in omega arith) in
        rw there (last_list ∙ sym same))
        (λ (other : k ≢ l).
        let h = head_other k other in
        let w = are.within k in
        let old : j < length stubs = omega arith in
        same_list j old ∙ are.first_is k j (omega arith))
        (by_list k);
    next_is = λ i j within e. ⊎_elim
        (λ (old : j < length stubs).
        let n = next_old j old in
        let w = are.lower j old in
        let there : i < length stubs = omega arith in
        same_list i there ∙ are.next_is i j old (omega arith) ∙ sym (same_list j old))
        (λ (last : j ≡ length stubs).
        let n = next_last in
        let w = are.within l in
        let f : at heads l ≡ i + 1 = (let g : at nexts_new (length stubs) ≡ i + 1 = rw last at e in omega arith) in
        let there : i < length stubs = omega arith in
        same_list i there ∙ are.first_is l i f ∙ sym last_list ∙ ap (list_at lists new) (sym last))
        (by_stub j within);
  }

-- what is of another target than a new stub
apart_by : (stubs : List StubAt) (boundary target : ℕ) (part : Part) (i : ℕ) → HasNoneAt stubs boundary part target → i < length stubs
    → (stub_at stubs i).boundary ≡ boundary → (stub_at stubs i).part ≡ part → (stub_at stubs i).target ≢ target
apart_by stubs boundary target part i none within b p t = none i (record { within = within; there = record { at_boundary = b; in_part = p; of_target = t } })

level_of_most : (part : Part) → level_of part ≤ 2
level_of_most Front = omega arith
level_of_most other = omega arith

-- of a new stub that is its target's first one there were none
left_first : (code : Code) (state new : State) (index : ℕ) (s : StubAt) → new.may_share ≡ state.may_share → s.target ≡ (branch_at code.branches.now index).target → new.stubs.items ≡ state.stubs.items ++ (s ∷ [])
    → StaysUnshared code state (branch_at code.branches.now index) → new.may_share ≡ true → IsFirst new.stubs.items (length state.stubs.items) → HasNoFar code (branch_at code.branches.now index)
left_first code state new index s share t is left shares first = left (sym share ∙ shares)
    (λ j below e. first j below (ap (λ x. x.target) (old_stub state.stubs.items new.stubs.items s j is below) ∙ e ∙ sym (ap (λ x. x.target) (new_stub state.stubs.items new.stubs.items s is) ∙ t)))

-- a new stub's branch
owned : (code : Code) (state new : State) (index boundary : ℕ) (part : Part) (s : StubAt) → index < length code.branches.now → ¬ HasSpare code (branch_at code.branches.now index) → new.may_share ≡ state.may_share
    → s.boundary ≡ boundary → s.target ≡ (branch_at code.branches.now index).target → new.stubs.items ≡ state.stubs.items ++ (s ∷ []) → way_at new.ways.items index ≡ new_way part (length state.stubs.items)
    → IsNew code state (branch_at code.branches.now index) boundary part → HasOwner code new (length state.stubs.items)
owned code state new index boundary Middle s within needed share b t is way place =
    let e = new_stub state.stubs.items new.stubs.items s is in
    inl (share ∙ place.0, (index, subst (λ x. IsFarFrom code x index) (sym e) (record { within = within; target = t; needed = needed; far = subst (IsFar code (branch_at code.branches.now index)) (sym b) place.1 })))
owned code state new index boundary Front s within needed share b t is way place = inr (index, within, way, left_first code state new index s share t is place.1)
owned code state new index boundary Back s within needed share b t is way place = inr (index, within, way, left_first code state new index s share t is place.1)

module _ (code : Code) (state new : State) (index boundary : ℕ) (part : Part) (s : StubAt)
    (is_code : IsCode code) (is : IsState code state) (within : index < length code.branches.now) (inside : boundary < length code.boundaries.now)
    (higher : level (way_at state.ways.items index) < level_of part) (place : IsNew code state (branch_at code.branches.now index) boundary part)
    (s_is : s ≡ record { boundary = boundary; part = part; index = part_of part (group_at state.groups.items boundary); target = (branch_at code.branches.now index).target })
    (stubs_are : new.stubs.items ≡ state.stubs.items ++ (s ∷ []))
    (groups_are : new.groups.items ≡ set state.groups.items boundary (with_one part (group_at state.groups.items boundary)))
    (ways_are : new.ways.items ≡ set state.ways.items index (new_way part (length state.stubs.items)))
    (last_is : length new.last.items ≡ length state.last.items)
    (none : HasNoneAt state.stubs.items boundary part (branch_at code.branches.now index).target) (needed : ¬ HasSpare code (branch_at code.branches.now index)) (l : ℕ)
    (l_is : l ≡ list_of (length code.branches.now) boundary (branch_at code.branches.now index).target) (l_within : l < length code.branches.now)
    (heads_are : new.heads.items ≡ set state.heads.items l (length state.stubs.items + 1)) (nexts_are : new.nexts.items ≡ state.nexts.items ++ (at state.heads.items l ∷ []))
    (share_is : new.may_share ≡ state.may_share) where
  stubs_len : length new.stubs.items ≡ length state.stubs.items + 1
  stubs_len = ap length stubs_are ∙ length_push state.stubs.items s

  groups_len : length new.groups.items ≡ length state.groups.items
  groups_len = ap length groups_are ∙ length-set state.groups.items boundary (with_one part (group_at state.groups.items boundary))

  ways_len : length new.ways.items ≡ length state.ways.items
  ways_len = ap length ways_are ∙ length-set state.ways.items index (new_way part (length state.stubs.items))

  here : group_at new.groups.items boundary ≡ with_one part (group_at state.groups.items boundary)
  here = let g = is.groups in ap (λ gs. group_at gs boundary) groups_are ∙ get_or-set_same state.groups.items boundary (with_one part (group_at state.groups.items boundary)) _ (omega arith)

  grown : (p : Part) (k : ℕ) → part_of p (group_at state.groups.items k) ≤ part_of p (group_at new.groups.items k)
  grown p k = ⊎_elim
      (λ (same : k ≡ boundary). rw (same, here) (part_grows p part (group_at state.groups.items boundary)))
      (λ (apart : (k < boundary) ⊎ (boundary < k)).
      let e : group_at new.groups.items k ≡ group_at state.groups.items k = ap (λ gs. group_at gs k) groups_are ∙ get_or-set_other state.groups.items boundary k (with_one part (group_at state.groups.items boundary)) _ (omega arith) in
      rw e (omega arith))
      (cases_order k boundary)

  part_kept : (t : StubAt) → HasPart code state.groups.items t → HasPart code new.groups.items t
  part_kept t h = record { boundary = h.boundary; index = (let a = grown t.part t.boundary in let b = h.index in omega arith); target = h.target }

  part_new : HasPart code new.groups.items s
  part_new = rw s_is (record { boundary = inside; index = rw (here, part_more part (group_at state.groups.items boundary)) (omega arith); target = is_code.in_table index within })

  two_new : (t : StubAt) → HasPart code state.groups.items t → AreTwo t s
  two_new t h = rw s_is (λ b p e. (let i = h.index in let g : part_of t.part (group_at state.groups.items t.boundary) ≡ part_of part (group_at state.groups.items boundary) = rw (b, p) refl in omega arith))

  way_here : way_at new.ways.items index ≡ new_way part (length state.stubs.items)
  way_here = let w = is.ways in ap (λ ws. way_at ws index) ways_are ∙ get_or-set_same state.ways.items index (new_way part (length state.stubs.items)) _ (omega arith)

  way_other : (i : ℕ) → i ≢ index → way_at new.ways.items i ≡ way_at state.ways.items i
  way_other i ne = ap (λ ws. way_at ws i) ways_are ∙ get_or-set_other state.ways.items index i (new_way part (length state.stubs.items)) _ ne

  old_is : (j : ℕ) → j < length state.stubs.items → stub_at new.stubs.items j ≡ stub_at state.stubs.items j
  old_is j within = old_stub state.stubs.items new.stubs.items s j stubs_are within

  new_is : stub_at new.stubs.items (length state.stubs.items) ≡ s
  new_is = new_stub state.stubs.items new.stubs.items s stubs_are

  by_index : (j : ℕ) → j < length new.stubs.items → (j < length state.stubs.items) ⊎ (j ≡ length state.stubs.items)
  by_index j within = let l = stubs_len in ⊎_elim (λ (old : j < length state.stubs.items). inl old) (λ (last : length state.stubs.items ≤ j). inr (omega arith)) (cases_lt j (length state.stubs.items))

  owner_kept : (j : ℕ) → j < length state.stubs.items → HasOwner code state j → HasOwner code new j
  owner_kept j within owner = ⊎_elim
      (λ (shares : (state.may_share ≡ true) × ((i : ℕ) × IsFarFrom code (stub_at state.stubs.items j) i)).
      inl (share_is ∙ shares.0, (shares.1.0, subst (λ t. IsFarFrom code t shares.1.0) (sym (old_is j within)) shares.1.1)))
      (λ (goes : (i : ℕ) × (i < length code.branches.now) × (way_at state.ways.items i ≡ Near j) × (state.may_share ≡ true → IsFirst state.stubs.items j → HasNoFar code (branch_at code.branches.now i))).
      let i = goes.0 in
      let most = level_of_most part in
      let high = ap level goes.2 in
      let ne : i ≢ index = λ e. (let same : level (way_at state.ways.items i) ≡ level (way_at state.ways.items index) = ap (λ k. level (way_at state.ways.items k)) e in omega arith) in
      inr (
        i,
        goes.1,
        way_other i ne ∙ goes.2,
        λ shares first. goes.3 (sym share_is ∙ shares)
            (λ k below e. first k below (ap (λ t. t.target) (old_is k (omega arith)) ∙ e ∙ sym (ap (λ t. t.target) (old_is j within)))),
      ))
      owner

  owner_new : HasOwner code new (length state.stubs.items)
  owner_new = owned code state new index boundary part s within needed share_is (ap (λ t. t.boundary) s_is) (ap (λ t. t.target) s_is) stubs_are way_here place

  of_two : (t : StubAt) (i : ℕ) → i < length state.stubs.items → t ≡ stub_at state.stubs.items i → AreOfTwo t s
  of_two t i within e = rw (e, s_is) (apart_by state.stubs.items boundary (branch_at code.branches.now index).target part i none within)

  pub added : IsState code new
  added = record {
    groups = groups_len ∙ is.groups;
    ways = ways_len ∙ is.ways;
    last = last_is ∙ is.last;
    parts = λ j h. ⊎_elim
        (λ (old : j < length state.stubs.items). subst (HasPart code new.groups.items) (sym (old_stub state.stubs.items new.stubs.items s j stubs_are old)) (part_kept _ (is.parts j old)))
        (λ (last : length state.stubs.items ≤ j).
        let l = stubs_len in
        let e : j ≡ length state.stubs.items = omega arith in
        rw e (subst (HasPart code new.groups.items) (sym (new_stub state.stubs.items new.stubs.items s stubs_are)) part_new))
        (cases_lt j (length state.stubs.items));
    two = λ i j below h.
        (let l = stubs_len in
        let old_i = old_stub state.stubs.items new.stubs.items s i stubs_are (omega arith) in
        ⊎_elim
        (λ (old : j < length state.stubs.items). rw (old_i, old_stub state.stubs.items new.stubs.items s j stubs_are old) (is.two i j below old))
        (λ (last : length state.stubs.items ≤ j).
        let e : j ≡ length state.stubs.items = omega arith in
        rw (old_i, e, new_stub state.stubs.items new.stubs.items s stubs_are) (two_new _ (is.parts i (omega arith))))
        (cases_lt j (length state.stubs.items)));
    total = (let g = is.groups in
        let a = sum_by-set stubs_in state.groups.items boundary (with_one part (group_at state.groups.items boundary)) (record { front = 0; middle = 0; back = 0 }) (omega arith) in
        omega (arith, stubs_more part (group_at state.groups.items boundary), ap (sum_by stubs_in) groups_are, stubs_len, is.total));
    few = (let w = is.ways in
        let a = sum_by-set level state.ways.items index (new_way part (length state.stubs.items)) Direct (omega arith) in
        omega (arith, level_new part (length state.stubs.items), ap (sum_by level) ways_are, stubs_len, is.few));
    way = λ i h. ⊎_elim
        (λ (same : i ≡ index).
        rw (same, way_here) (way_new code state new.stubs.items index boundary part s s_is stubs_are place))
        (λ (apart : (i < index) ⊎ (index < i)).
        rw (way_other i (omega arith)) (way_kept code state.stubs.items new.stubs.items s (branch_at code.branches.now i) (way_at state.ways.items i) stubs_are (is.way i h)))
        (cases_order i index);
    lists = lists_added (length code.branches.now) state.stubs.items new.stubs.items s state.heads.items state.nexts.items new.heads.items new.nexts.items l is.lists (l_is ∙ ap (λ t. list_of (length code.branches.now) t.boundary t.target) (sym s_is)) l_within stubs_are heads_are nexts_are;
    shared = λ i j below h. ⊎_elim
        (λ (old : j < length state.stubs.items). rw (old_is i (omega arith), old_is j old) (is.shared i j below old))
        (λ (last : j ≡ length state.stubs.items). rw (last, new_is) (of_two (stub_at new.stubs.items i) i (omega arith) (old_is i (omega arith))))
        (by_index j h);
    owners = λ j h. ⊎_elim
        (λ (old : j < length state.stubs.items). owner_kept j old (is.owners j old))
        (λ (last : j ≡ length state.stubs.items). rw last owner_new)
        (by_index j h);
    spared = λ i h spare. ⊎_elim
        (λ (same : i ≡ index). absurd (needed (subst (λ k. HasSpare code (branch_at code.branches.now k)) same spare)))
        (λ (apart : (i < index) ⊎ (index < i)). way_other i (omega arith) ∙ is.spared i h spare)
        (cases_order i index);
  }

-- a branch goes by another stub that there is
module _ (code : Code) (state : State) (ways : Vec Way) (index : ℕ) (way : Way) (is : IsState code state) (within : index < length code.branches.now)
    (is_way : IsWay code state.stubs.items (branch_at code.branches.now index) way) (higher : level (way_at state.ways.items index) < level way) (needed : ¬ HasSpare code (branch_at code.branches.now index))
    (ways_are : ways.items ≡ set state.ways.items index way) where
  taken_here : way_at ways.items index ≡ way
  taken_here = let w = is.ways in ap (λ ws. way_at ws index) ways_are ∙ get_or-set_same state.ways.items index way _ (omega arith)

  taken_other : (i : ℕ) → i ≢ index → way_at ways.items i ≡ way_at state.ways.items i
  taken_other i ne = ap (λ ws. way_at ws i) ways_are ∙ get_or-set_other state.ways.items index i way _ ne

  level_now : sum_by level ways.items + level (way_at state.ways.items index) ≡ sum_by level state.ways.items + level way
  level_now = let w = is.ways in let a = sum_by-set level state.ways.items index way Direct (omega arith) in let c = ap (sum_by level) ways_are in omega arith

  pub taken : IsState code (record state { ways = ways })
  taken = record {
    groups = is.groups;
    ways = ap length ways_are ∙ length-set state.ways.items index way ∙ is.ways;
    last = is.last;
    parts = is.parts;
    two = is.two;
    total = is.total;
    few = (let l = level_now in let f = is.few in omega arith);
    way = λ i h. ⊎_elim
        (λ (same : i ≡ index). rw (same, taken_here) is_way)
        (λ (apart : (i < index) ⊎ (index < i)). rw (taken_other i (omega arith)) (is.way i h))
        (cases_order i index);
    lists = is.lists;
    shared = is.shared;
    owners = λ j h. ⊎_elim
        (λ (shares : (state.may_share ≡ true) × ((i : ℕ) × IsFarFrom code (stub_at state.stubs.items j) i)). inl shares)
        (λ (goes : (i : ℕ) × (i < length code.branches.now) × (way_at state.ways.items i ≡ Near j) × (state.may_share ≡ true → IsFirst state.stubs.items j → HasNoFar code (branch_at code.branches.now i))).
        let i = goes.0 in
        let most = level_most way in
        let high = ap level goes.2 in
        let ne : i ≢ index = λ e. (let same : level (way_at state.ways.items i) ≡ level (way_at state.ways.items index) = ap (λ k. level (way_at state.ways.items k)) e in omega arith) in
        inr (i, goes.1, taken_other i ne ∙ goes.2, goes.3))
        (is.owners j h);
    spared = λ i h spare. ⊎_elim
        (λ (same : i ≡ index). absurd (needed (subst (λ k. HasSpare code (branch_at code.branches.now k)) same spare)))
        (λ (apart : (i < index) ⊎ (index < i)). taken_other i (omega arith) ∙ is.spared i h spare)
        (cases_order i index);
  }

-- another stub was used last
pub noted : (code : Code) (state : State) (last : Vec ℕ) → IsState code state → length last.items ≡ length state.last.items → IsState code (record state { last = last })
noted code state last is e = record {
  groups = is.groups;
  ways = is.ways;
  last = e ∙ is.last;
  parts = is.parts;
  two = is.two;
  total = is.total;
  few = is.few;
  way = is.way;
  lists = is.lists;
  shared = is.shared;
  owners = is.owners;
  spared = is.spared;
}
