use Rattle.linker_output.proofs.Imports.{AllGo, ArePlaces, AreServed, AreStubsOf, Code, IsCode, IsLaidOut, IsLayout, IsState, IsStuckIn, Layout, List, Placement, State, Vec, arith, length, refl, subst, sym, with_items_is, ℕ, ◌∙◌, ◌≡◌, ◌≤◌}
use Rattle.std.specs.Vec.{with_items}
use Rattle.linker_output.proofs.Apart.{layout_is}
use Rattle.linker_output.proofs.Bounds.{few_stubs}
use Rattle.linker_output.proofs.Going.{all_go, goes_all, shared_all, spared_all, used_all}
use Rattle.linker_output.proofs.Stuck.{stuck}
use Rattle.linker_output.proofs.placement.place_by.Goals as goal

-- the layout that is returned, whose `before` is written in place
module _ (code : Code) (state : State) (places was : Vec ℕ) (before : List ℕ) (is_code : IsCode code) (is : IsState code state)
    (laid : IsLaidOut code.shape state.groups.items before) (are : ArePlaces code state before places.items) (e : was.items ≡ before) where
  abbrev layout : Layout
  layout = record { stubs = state.stubs; places = places; groups = state.groups; before = was }

  laid_out : IsLaidOut code.shape state.groups.items was.items
  laid_out = subst (IsLaidOut code.shape state.groups.items) (sym e) laid

  are_placed : ArePlaces code state was.items places.items
  are_placed = subst (λ b. ArePlaces code state b places.items) (sym e) are

  is_layout : IsLayout code layout
  is_layout = layout_is code state layout is_code is laid_out are_placed refl refl

  are_served : (limit : ℕ) → AreServed code before places.items state.ways.items limit → AreServed code was.items places.items state.ways.items limit
  are_served limit served = subst (λ b. AreServed code b places.items state.ways.items limit) (sym e) served

  go : (limit : ℕ) → limit ≤ length code.branches.now → AreServed code before places.items state.ways.items limit → AllGo code layout limit
  go limit most served = all_go code state layout is refl laid_out are_placed limit most (are_served limit served)

pub first_short-requires-clause-layout : goal.first_short-requires-clause-layout
first_short-requires-clause-layout c =
    let s = c.in_ok-stuck.ensures in
    let len = c.in_ok-before.ensures in
    is_layout c.args.code.now c.settle.new.self c.settle.new.places (with_items c.in_ok-before.before c.settle.new.before) c.settle.new.before c.requires s.state s.laid_out s.places (with_items_is c.in_ok-before.before c.settle.new.before (omega arith))

pub returns-in-Some-clause-err : goal.returns-in-Some-clause-err
returns-in-Some-clause-err c =
    let code = c.args.code.now in
    let state = c.settle.new.self in
    let places = c.settle.new.places in
    let s = c.in_ok-stuck.ensures in
    let was = with_items c.in_ok-before.before c.settle.new.before in
    let e : was.items ≡ c.settle.new.before = with_items_is c.in_ok-before.before c.settle.new.before (omega arith) in
    let out = rw c.in-Some.is at s.settled in
    let stuck_in : IsStuckIn code c.settle.new.before places.items state c.in-Some.index = out.0 in
    let is = is_layout code state places was c.settle.new.before c.requires s.state s.laid_out s.places e in (
      c.requires,
      stuck_in.within,
      is,
      stuck code state (layout code state places was c.settle.new.before c.requires s.state s.laid_out s.places e) c.in-Some.index c.requires s.state is refl refl (subst (λ b. IsStuckIn code b places.items state c.in-Some.index) (sym e) stuck_in),
      go code state places was c.settle.new.before c.requires s.state s.laid_out s.places e c.in-Some.index (omega (arith, c.in_ok-before.ensures, stuck_in.within)) out.1,
    )

pub returns-in-Some-first_short-clause-err : goal.returns-in-Some-first_short-clause-err
returns-in-Some-first_short-clause-err c =
    let code = c.args.code.now in
    let state = c.settle.new.self in
    let places = c.settle.new.places in
    let s = c.in_ok-stuck.ensures in
    let was = with_items c.in_ok-before.before c.settle.new.before in
    let e : was.items ≡ c.settle.new.before = with_items_is c.in_ok-before.before c.settle.new.before (omega arith) in
    let served : AreServed code c.settle.new.before places.items state.ways.items (length code.branches.now) = rw c.in-None.is at s.settled in
    let short = c.in-Some-first_short.ensures.some in (
      short.0,
      c.requires,
      is_layout code state places was c.settle.new.before c.requires s.state s.laid_out s.places e,
      short.1,
      short.2,
      go code state places was c.settle.new.before c.requires s.state s.laid_out s.places e (length code.branches.now) (omega (arith, c.in_ok-before.ensures)) served,
    )

pub returns-clause-few : goal.returns-clause-few
returns-clause-few c = few_stubs c.args.code.now c.settle.new.self c.in_ok-stuck.ensures.state

pub returns-clause-ok : goal.returns-clause-ok
returns-clause-ok c =
    let code = c.args.code.now in
    let state = c.settle.new.self in
    let places = c.settle.new.places in
    let s = c.in_ok-stuck.ensures in
    let len = c.in_ok-before.ensures in
    let was = with_items c.in_ok-before.before c.settle.new.before in
    let e : was.items ≡ c.settle.new.before = with_items_is c.in_ok-before.before c.settle.new.before (omega arith) in
    let served : AreServed code c.settle.new.before places.items state.ways.items (length code.branches.now) = rw c.in-None.is at s.settled in
    let stubs = c.in_ok-stubs.stubs.items in
    let of : AreStubsOf code was.items state.ways.items stubs = subst (λ b. AreStubsOf code b state.ways.items stubs) c.deref.ensures.value c.in_ok-stubs.ensures in
    record {
      is_code = c.requires;
      layout = is_layout code state places was c.settle.new.before c.requires s.state s.laid_out s.places e;
      one_each = of.len;
      goes = goes_all code state (layout code state places was c.settle.new.before c.requires s.state s.laid_out s.places e) s.state refl (laid_out code state places was c.settle.new.before c.requires s.state s.laid_out s.places e) (are_placed code state places was c.settle.new.before c.requires s.state s.laid_out s.places e)
          stubs (are_served code state places was c.settle.new.before c.requires s.state s.laid_out s.places e (length code.branches.now) served) of;
      stubs_reach = c.in-None-first_short.ensures.none;
      shared = s.state.shared;
      spared = spared_all code state was.items stubs s.state of;
    }

pub returns-clause-used : goal.returns-clause-used
returns-clause-used c alone =
    used_all c.args.code.now c.settle.new.self c.deref.result.now c.in_ok-stubs.stubs.items c.in_ok-stuck.ensures.state
    (c.in_ok-stuck.ensures.may_share ∙ c.in_ok-state.ensures.may_share ∙ alone) c.in_ok-stubs.ensures

pub returns-clause-shared : goal.returns-clause-shared
returns-clause-shared c shares =
    let placement : Placement = record {
      layout = record { stubs = c.settle.new.self.stubs; places = c.settle.new.places; groups = c.settle.new.self.groups; before = with_items c.in_ok-before.before c.settle.new.before };
      stubs = c.in_ok-stubs.stubs;
    } in
    shared_all c.args.code.now c.settle.new.self placement c.deref.result.now c.in_ok-stuck.ensures.state
    (c.in_ok-stuck.ensures.may_share ∙ c.in_ok-state.ensures.may_share ∙ shares) refl c.in_ok-stubs.ensures
