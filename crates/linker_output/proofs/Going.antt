-- The stubs by which branches go.
use Rattle.linker_output.proofs.Imports.{AllGo, ArePlaces, AreServed, AreStubsOf, AreUsed, Back, Branch, Code, Direct, Far, Front, Goes, HasNoFar, HasSpare, IsFarFrom, IsFirst, IsLaidOut, IsNearIn, IsNextTo, IsServedBy, IsShared, IsState, IsStubOf, IsWay, Layout, List, Middle, Near, None, Option, Part, Placement, ReachesAt, Some, State, StubAt, Way, ap, arith, at, branch_at, false, false≢true, inl, inr, length, most_bytes, passed, refl, slice_index_or, stub_at, subst, sym, target_place, true, way_at, ℕ, ⊎_elim, ◌<◌, ◌∙◌, ◌≡◌, ◌≤◌, ◌⊎◌}
use Rattle.linker_output.proofs.Near.{near_reached}

-- a branch with bytes to spare reaches its target
pub spare_reaches : (code : Code) (before : List ℕ) (branch : Branch) → ((k : ℕ) → at before k ≤ most_bytes code)
    → HasSpare code branch → ReachesAt code before branch (target_place code before branch.target)
spare_reaches code before branch most spare =
    let a = most (passed code.boundaries.now branch.offset) in
    let b = most (passed code.boundaries.now (at code.targets.now branch.target)) in
    record { forward = omega (arith, spare.forward); backward = omega (arith, spare.backward) }

module _ (code : Code) (state : State) (layout : Layout) (is : IsState code state) (same : layout.stubs ≡ state.stubs)
    (laid : IsLaidOut code.shape state.groups.items layout.before.items) (are : ArePlaces code state layout.before.items layout.places.items) where
  one_place : length layout.places.items ≡ length layout.stubs.items
  one_place = are.len ∙ ap (λ v. length v.items) (sym same)

  goes_by : (i : ℕ) (way : Way) (stub : Option ℕ) → i < length code.branches.now → way_at state.ways.items i ≡ way → IsWay code layout.stubs.items (branch_at code.branches.now i) way
      → IsServedBy code layout.before.items layout.places.items (branch_at code.branches.now i) way
      → IsStubOf code layout.before.items (branch_at code.branches.now i) way stub → Goes code layout (branch_at code.branches.now i) stub
  goes_by i Direct stub within here is_way served of = subst (Goes code layout (branch_at code.branches.now i)) (sym of) served
  goes_by i (Near s) stub within here is_way served of =
      subst (Goes code layout (branch_at code.branches.now i)) (sym of)
      (is_way.0, is_way.1, near_reached code state layout.before.items layout.places.items i s is laid are within here (omega (arith, one_place, is_way.0)))
  goes_by i (Far s) stub within here is_way served of = ⊎_elim
      (λ (none : (stub ≡ None) × ReachesAt code layout.before.items (branch_at code.branches.now i) (target_place code layout.before.items (branch_at code.branches.now i).target)).
      subst (Goes code layout (branch_at code.branches.now i)) (sym none.0) none.1)
      (λ (some : (stub ≡ Some s) × ¬ ReachesAt code layout.before.items (branch_at code.branches.now i) (target_place code layout.before.items (branch_at code.branches.now i).target)).
      subst (Goes code layout (branch_at code.branches.now i)) (sym some.0) (
        is_way.0,
        is_way.1,
        ⊎_elim
            (λ (f : s < length layout.places.items → ReachesAt code layout.before.items (branch_at code.branches.now i) (at layout.places.items s)). f (omega (arith, one_place, is_way.0)))
            (λ (t : ReachesAt code layout.before.items (branch_at code.branches.now i) (target_place code layout.before.items (branch_at code.branches.now i).target)). absurd (some.1 t))
            served,
      ))
      of

  way_of : (i : ℕ) → i < length code.branches.now → IsWay code layout.stubs.items (branch_at code.branches.now i) (way_at state.ways.items i)
  way_of i within = subst (λ v. IsWay code v.items (branch_at code.branches.now i) (way_at state.ways.items i)) (sym same) (is.way i within)

  pub goes_all : (stubs : List (Option ℕ)) → AreServed code layout.before.items layout.places.items state.ways.items (length code.branches.now) → AreStubsOf code layout.before.items state.ways.items stubs
      → (i : ℕ) → i < length code.branches.now → Goes code layout (branch_at code.branches.now i) (slice_index_or stubs i None)
  goes_all stubs served of i within =
      goes_by i (way_at state.ways.items i) (slice_index_or stubs i None) within refl (way_of i within) (served i within) (of.each i (omega (arith, of.len)))

  -- those that are served go somewhere
  go_by : (branch : Branch) (s : ℕ) → s < length layout.stubs.items → (stub_at layout.stubs.items s).target ≡ branch.target
      → (s < length layout.places.items → ReachesAt code layout.before.items branch (at layout.places.items s)) ⊎ ReachesAt code layout.before.items branch (target_place code layout.before.items branch.target)
      → (stub : Option ℕ) × Goes code layout branch stub
  go_by branch s there target served =
      ⊎_elim
      (λ (f : s < length layout.places.items → ReachesAt code layout.before.items branch (at layout.places.items s)). (Some s, (there, target, f (omega (arith, one_place)))))
      (λ (t : ReachesAt code layout.before.items branch (target_place code layout.before.items branch.target)). (None, t))
      served

  somewhere : (branch : Branch) (way : Way) → IsWay code layout.stubs.items branch way → IsServedBy code layout.before.items layout.places.items branch way
      → (stub : Option ℕ) × Goes code layout branch stub
  somewhere branch Direct is_way served = (None, served)
  somewhere branch (Near s) is_way served = go_by branch s is_way.0 is_way.1 served
  somewhere branch (Far s) is_way served = go_by branch s is_way.0 is_way.1 served

  pub all_go : (limit : ℕ) → limit ≤ length code.branches.now → AreServed code layout.before.items layout.places.items state.ways.items limit → AllGo code layout limit
  all_go limit most served i below = somewhere (branch_at code.branches.now i) (way_at state.ways.items i) (way_of i (omega arith)) (served i below)

-- ---- what holds of the stubs

spare_none : (code : Code) (before : List ℕ) (branch : Branch) (way : Way) (stub : Option ℕ) → way ≡ Direct → IsStubOf code before branch way stub → stub ≡ None
spare_none code before branch way stub e of = subst (λ w. IsStubOf code before branch w stub) e of

pub spared_all : (code : Code) (state : State) (before : List ℕ) (stubs : List (Option ℕ)) → IsState code state → AreStubsOf code before state.ways.items stubs
    → (i : ℕ) → i < length code.branches.now → HasSpare code (branch_at code.branches.now i) → slice_index_or stubs i None ≡ None
spared_all code state before stubs is of i within spare =
    spare_none code before (branch_at code.branches.now i) (way_at state.ways.items i) (slice_index_or stubs i None) (is.spared i within spare) (of.each i (omega (arith, of.len)))

near_some : (code : Code) (before : List ℕ) (branch : Branch) (way : Way) (stub : Option ℕ) (s : ℕ) → way ≡ Near s → IsStubOf code before branch way stub → stub ≡ Some s
near_some code before branch way stub s e of = subst (λ w. IsStubOf code before branch w stub) e of

-- where none are shared, each has a branch
pub used_all : (code : Code) (state : State) (before : List ℕ) (stubs : List (Option ℕ)) → IsState code state → state.may_share ≡ false → AreStubsOf code before state.ways.items stubs
    → AreUsed stubs (length state.stubs.items)
used_all code state before stubs is alone of j within = ⊎_elim
    (λ (far : (state.may_share ≡ true) × ((i : ℕ) × IsFarFrom code (stub_at state.stubs.items j) i)). absurd (false≢true (sym alone ∙ far.0)))
    (λ (goes : (i : ℕ) × (i < length code.branches.now) × (way_at state.ways.items i ≡ Near j) × (state.may_share ≡ true → IsFirst state.stubs.items j → HasNoFar code (branch_at code.branches.now i))).
    let l = of.len in
    let below = goes.1 in
    (goes.0, omega arith, near_some code before (branch_at code.branches.now goes.0) (way_at state.ways.items goes.0) (slice_index_or stubs goes.0 None) j goes.2 (of.each goes.0 (omega arith))))
    (is.owners j within)

next_to : (part : Part) (code : Code) (branch : Branch) (stub : StubAt) → IsNearIn part code branch stub → IsNextTo code branch.offset stub.boundary
next_to Front code branch stub near = inl near.0
next_to Middle code branch stub near = absurd near
next_to Back code branch stub near = inr near.0

-- where some may be
pub shared_all : (code : Code) (state : State) (placement : Placement) (before : List ℕ) → IsState code state → state.may_share ≡ true → placement.layout.stubs ≡ state.stubs
    → AreStubsOf code before state.ways.items placement.stubs.items → IsShared code placement
shared_all code state placement before is shares same of j below = subst
    (λ stubs. ((i : ℕ) × IsFarFrom code (stub_at stubs.items j) i)
    ⊎ ((i : ℕ) × (i < length code.branches.now) × (slice_index_or placement.stubs.items i None ≡ Some j)
    × IsNextTo code (branch_at code.branches.now i).offset (stub_at stubs.items j).boundary × (IsFirst stubs.items j → HasNoFar code (branch_at code.branches.now i))))
    (sym same)
    (⊎_elim
    (λ (far : (state.may_share ≡ true) × ((i : ℕ) × IsFarFrom code (stub_at state.stubs.items j) i)). inl far.1)
    (λ (goes : (i : ℕ) × (i < length code.branches.now) × (way_at state.ways.items i ≡ Near j) × (state.may_share ≡ true → IsFirst state.stubs.items j → HasNoFar code (branch_at code.branches.now i))).
    let i = goes.0 in
    let inside = goes.1 in
    let stub = stub_at state.stubs.items j in
    inr (
      i,
      inside,
      near_some code before (branch_at code.branches.now i) (way_at state.ways.items i) (slice_index_or placement.stubs.items i None) j goes.2 (of.each i (omega (arith, of.len))),
      next_to stub.part code (branch_at code.branches.now i) stub (subst (IsWay code state.stubs.items (branch_at code.branches.now i)) goes.2 (is.way i inside)).2,
      goes.3 shares,
    ))
    (is.owners j (subst (λ stubs. j < length stubs.items) same below)))
