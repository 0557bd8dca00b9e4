-- Stubs don't overlap, and are at their boundaries.
use Rattle.linker_output.proofs.Imports.{ArePlaces, AreTwo, Back, Code, Front, Group, HasPart, IsCode, IsLaidOut, IsLayout, IsState, Layout, List, Middle, Part, State, StubAt, StubShape, add-one, ap, arith, at, cases_lt, cases_order, end_of, group_at, inl, inr, length, mul-le-mul_left, part_of, place_in, place_of, refl, start_of, stub_at, stubs_in, subst, suc, sum_by, sym, zero, ℕ, ⊎_elim, ◌*◌, ◌+◌, ◌-◌, ◌<◌, ◌∙◌, ◌≡◌, ◌≢◌, ◌≤◌, ◌⊎◌}
use Rattle.linker_output.proofs.Groups.{size_least}

-- before and after a stub of a part are its boundary's ends
pub inside_in : (part : Part) (s e len : ℕ) (g : Group) (i : ℕ) → i < part_of part g → s + len * stubs_in g ≤ e → (s ≤ place_in part s e len g i) × (place_in part s e len g i + len ≤ e)
inside_in Front s e len g i within fits = let a : i + 1 ≤ stubs_in g = omega arith in let h = mul-le-mul_left len a in (omega arith, omega arith)
inside_in Middle s e len g i within fits = let a : g.front + i + 1 ≤ stubs_in g = omega arith in let h = mul-le-mul_left len a in (omega arith, omega arith)
inside_in Back s e len g i within fits = let a : i + 1 ≤ stubs_in g = omega arith in let h = mul-le-mul_left len a in (omega arith, omega arith)

up_front : (s len i j : ℕ) → i < j → s + len * i + len ≤ s + len * j
up_front s len i j h = let p = mul-le-mul_left len h in omega arith

down_back : (e len i j : ℕ) → i < j → len * (j + 1) ≤ e → e - len * (j + 1) + len ≤ e - len * (i + 1)
down_back e len i j h fits = let p = mul-le-mul_left len h in omega arith

order : (i j : ℕ) → i ≢ j → (i < j) ⊎ (j < i)
order i j ne = ⊎_elim (λ (h : i < j). inl h) (λ (h : j ≤ i). inr (omega arith)) (cases_lt i j)

module _ (s e len : ℕ) (g : Group) (i j : ℕ) (fits : s + len * stubs_in g ≤ e) where
  fronts : i ≢ j → (s + len * i + len ≤ s + len * j) ⊎ (s + len * j + len ≤ s + len * i)
  fronts ne = ⊎_elim (λ (h : i < j). inl (up_front s len i j h)) (λ (h : j < i). inr (up_front s len j i h)) (order i j ne)

  middles : i ≢ j → (s + len * (g.front + i) + len ≤ s + len * (g.front + j)) ⊎ (s + len * (g.front + j) + len ≤ s + len * (g.front + i))
  middles ne = ⊎_elim (λ (h : i < j). inl (up_front s len (g.front + i) (g.front + j) (omega arith))) (λ (h : j < i). inr (up_front s len (g.front + j) (g.front + i) (omega arith))) (order i j ne)

  backs : i < g.back → j < g.back → i ≢ j → (e - len * (i + 1) + len ≤ e - len * (j + 1)) ⊎ (e - len * (j + 1) + len ≤ e - len * (i + 1))
  backs within there ne =
      let a : i + 1 ≤ stubs_in g = omega arith in
      let b : j + 1 ≤ stubs_in g = omega arith in
      let p = mul-le-mul_left len a in
      let q = mul-le-mul_left len b in
      ⊎_elim (λ (h : i < j). inr (down_back e len i j h (omega arith))) (λ (h : j < i). inl (down_back e len j i h (omega arith))) (order i j ne)

  front_middle : i < g.front → s + len * i + len ≤ s + len * (g.front + j)
  front_middle within = let a : i + 1 ≤ g.front + j = omega arith in let p = mul-le-mul_left len a in omega arith

  front_back : i < g.front → j < g.back → s + len * i + len ≤ e - len * (j + 1)
  front_back within there = let a : i + 1 + (j + 1) ≤ stubs_in g = omega arith in let p = mul-le-mul_left len a in omega arith

  middle_back : i < g.middle → j < g.back → s + len * (g.front + i) + len ≤ e - len * (j + 1)
  middle_back within there = let a : g.front + i + 1 + (j + 1) ≤ stubs_in g = omega arith in let p = mul-le-mul_left len a in omega arith

pub apart_in : (p q : Part) (s e len : ℕ) (g : Group) (i j : ℕ) → i < part_of p g → j < part_of q g → (p ≡ q → i ≢ j) → s + len * stubs_in g ≤ e
    → (place_in p s e len g i + len ≤ place_in q s e len g j) ⊎ (place_in q s e len g j + len ≤ place_in p s e len g i)
apart_in Front Front s e len g i j within there ne fits = fronts s e len g i j fits (ne refl)
apart_in Front Middle s e len g i j within there ne fits = inl (front_middle s e len g i j fits within)
apart_in Front Back s e len g i j within there ne fits = inl (front_back s e len g i j fits within there)
apart_in Middle Front s e len g i j within there ne fits = inr (front_middle s e len g j i fits there)
apart_in Middle Middle s e len g i j within there ne fits = middles s e len g i j fits (ne refl)
apart_in Middle Back s e len g i j within there ne fits = inl (middle_back s e len g i j fits within there)
apart_in Back Front s e len g i j within there ne fits = inr (front_back s e len g j i fits there within)
apart_in Back Middle s e len g i j within there ne fits = inr (middle_back s e len g j i fits there within)
apart_in Back Back s e len g i j within there ne fits = backs s e len g i j fits within there (ne refl)

-- layouts ascend
pub before_ascends : (shape : StubShape) (groups : List Group) (before : List ℕ) → IsLaidOut shape groups before → (i j : ℕ) → i ≤ j → j ≤ length groups → at before i ≤ at before j
before_ascends shape groups before laid i zero h within = let e : i ≡ 0 = omega arith in rw e (omega arith)
before_ascends shape groups before laid i (suc j) h within = ⊎_elim
    (λ (less : i ≤ j).
    let rest = before_ascends shape groups before laid i j less (omega arith) in
    let next = laid.next j (omega arith) in
    let size = size_least shape (group_at groups j) in
    let bound : at before i ≤ at before (j + 1) = omega arith in
    rw add-one at bound)
    (λ (same : j < i). let e : i ≡ suc j = omega arith in rw e (omega arith))
    (le_or j i)
  where
    le_or : (j i : ℕ) → (i ≤ j) ⊎ (j < i)
    le_or j i = ⊎_elim (λ (h : j < i). inr h) (λ (h : i ≤ j). inl h) (cases_lt j i)

module _ (code : Code) (groups : List Group) (before : List ℕ) (is_code : IsCode code) (laid : IsLaidOut code.shape groups before) (len : length groups ≡ length code.boundaries.now) where
  pub fits_at : (k : ℕ) → k < length code.boundaries.now → start_of code.boundaries.now before k + code.shape.len * stubs_in (group_at groups k) ≤ end_of code.boundaries.now before k
  fits_at k within = let next = laid.next k (omega arith) in let size = size_least code.shape (group_at groups k) in omega arith

  -- those of a boundary are before those of a later one
  pub ends_before : (k l : ℕ) → k < l → l < length code.boundaries.now → end_of code.boundaries.now before k ≤ start_of code.boundaries.now before l
  ends_before k l below within =
      omega (arith, is_code.ascending k l (omega arith) within, before_ascends code.shape groups before laid (k + 1) l (omega arith) (omega arith))

  pub stub_inside : (s : StubAt) → HasPart code groups s → (start_of code.boundaries.now before s.boundary ≤ place_of code groups before s) × (place_of code groups before s + code.shape.len ≤ end_of code.boundaries.now before s.boundary)
  stub_inside s has = inside_in s.part _ _ code.shape.len (group_at groups s.boundary) s.index has.index (fits_at s.boundary has.boundary)

  pub stubs_apart : (s t : StubAt) → HasPart code groups s → HasPart code groups t → AreTwo s t → (place_of code groups before s + code.shape.len ≤ place_of code groups before t) ⊎ (place_of code groups before t + code.shape.len ≤ place_of code groups before s)
  stubs_apart s t has there two = ⊎_elim
      (λ (same : s.boundary ≡ t.boundary). one s t has there two same)
      (λ (other : (s.boundary < t.boundary) ⊎ (t.boundary < s.boundary)). ⊎_elim
      (λ (h : s.boundary < t.boundary). let a = stub_inside s has in let b = stub_inside t there in let e = ends_before s.boundary t.boundary h there.boundary in inl (omega (arith, a.1, b.0)))
      (λ (h : t.boundary < s.boundary). let a = stub_inside s has in let b = stub_inside t there in let e = ends_before t.boundary s.boundary h has.boundary in inr (omega (arith, b.1, a.0)))
      other)
      (cases_order s.boundary t.boundary)
    where
      one : (s t : StubAt) → HasPart code groups s → HasPart code groups t → AreTwo s t → s.boundary ≡ t.boundary → (place_of code groups before s + code.shape.len ≤ place_of code groups before t) ⊎ (place_of code groups before t + code.shape.len ≤ place_of code groups before s)
      one s t has there two same =
          let there-2 : t.index < part_of t.part (group_at groups s.boundary) = subst (λ b. t.index < part_of t.part (group_at groups b)) (sym same) there.index in
          subst (λ b. (place_of code groups before s + code.shape.len ≤ place_in t.part (start_of code.boundaries.now before b) (end_of code.boundaries.now before b) code.shape.len (group_at groups b) t.index)
          ⊎ (place_in t.part (start_of code.boundaries.now before b) (end_of code.boundaries.now before b) code.shape.len (group_at groups b) t.index + code.shape.len ≤ place_of code groups before s)) same
          (apart_in s.part t.part _ _ code.shape.len (group_at groups s.boundary) s.index t.index has.index there-2 (two same) (fits_at s.boundary has.boundary))

pub layout_is : (code : Code) (state : State) (layout : Layout) → IsCode code → IsState code state → IsLaidOut code.shape state.groups.items layout.before.items → ArePlaces code state layout.before.items layout.places.items
    → layout.stubs ≡ state.stubs → layout.groups ≡ state.groups → IsLayout code layout
layout_is code state layout is_code is laid are stubs groups =
    let laid-2 : IsLaidOut code.shape layout.groups.items layout.before.items = subst (λ g. IsLaidOut code.shape g.items layout.before.items) (sym groups) laid in
    let len : length layout.groups.items ≡ length code.boundaries.now = ap (λ g. length g.items) groups ∙ is.groups in
    let stubs_len : length layout.stubs.items ≡ length state.stubs.items = ap (λ v. length v.items) stubs in
    let has : (j : ℕ) → j < length layout.stubs.items → HasPart code layout.groups.items (stub_at layout.stubs.items j) = λ j h. subst (λ v. HasPart code layout.groups.items (stub_at v.items j)) (sym stubs) (subst (λ g. HasPart code g.items (stub_at state.stubs.items j)) (sym groups) (is.parts j (omega arith))) in
    let places : (j : ℕ) → j < length layout.stubs.items → at layout.places.items j ≡ place_of code layout.groups.items layout.before.items (stub_at layout.stubs.items j) = λ j h. (let l = are.len in are.each j (omega arith) ∙ ap (λ g. place_of code g.items layout.before.items (stub_at state.stubs.items j)) (sym groups) ∙ ap (λ v. place_of code layout.groups.items layout.before.items (stub_at v.items j)) (sym stubs)) in
    let two : (i j : ℕ) → i < j → j < length layout.stubs.items → AreTwo (stub_at layout.stubs.items i) (stub_at layout.stubs.items j) = λ i j below h. subst (λ v. AreTwo (stub_at v.items i) (stub_at v.items j)) (sym stubs) (is.two i j below (omega arith)) in
    record {
      boundaries = len;
      laid_out = laid-2;
      total = ap (λ g. sum_by stubs_in g.items) groups ∙ is.total ∙ sym stubs_len;
      stubs = has;
      two = two;
      one_each = are.len ∙ sym stubs_len;
      places = places;
      inside = λ j h. (let a = stub_inside code layout.groups.items layout.before.items is_code laid-2 len (stub_at layout.stubs.items j) (has j h) in let p = places j h in (omega (arith, a.0), omega (arith, a.1)));
      apart = λ i j below h. rw (places i (omega arith), places j h) (stubs_apart code layout.groups.items layout.before.items is_code laid-2 len _ _ (has i (omega arith)) (has j h) (two i j below h));
    }
