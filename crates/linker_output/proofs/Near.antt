-- Stubs at the boundary next to a branch stay in its reach.
use Rattle.linker_output.proofs.Imports.{ArePlaces, Back, Branch, Code, Front, Group, HasPart, IsLaidOut, IsNear, IsNearIn, IsServedBy, IsState, IsWay, List, Middle, Near, Part, ReachesAt, SameStubs, State, StubAt, ap, arith, at, branch_at, end_of, group_at, inl, length, mul-le-mul_left, passed, place_in, place_of, start_of, stub_at, stubs_in, subst, sym, way_at, ℕ, ◌*◌, ◌+◌, ◌<◌, ◌∙◌, ◌≡◌, ◌≤◌}
use Rattle.linker_output.proofs.Bounds.{part_most}
use Rattle.linker_output.proofs.Groups.{size_least}

-- what a part takes at a boundary is within what all stubs there take
pub within_group : (code : Code) (groups : List Group) (before : List ℕ) (stub : StubAt) → IsLaidOut code.shape groups before → length groups ≡ length code.boundaries.now → HasPart code groups stub
    → at before stub.boundary + code.shape.len * (stub.index + 1) ≤ at before (stub.boundary + 1)
within_group code groups before stub laid len has =
    let b = has.boundary in
    let next = laid.next stub.boundary (omega arith) in
    let size = size_least code.shape (group_at groups stub.boundary) in
    let part = part_most stub.part (group_at groups stub.boundary) in
    let i = has.index in
    let within : stub.index + 1 ≤ stubs_in (group_at groups stub.boundary) = omega arith in
    let product = mul-le-mul_left code.shape.len within in
    omega arith

near_in : (part : Part) (code : Code) (group : Group) (before : List ℕ) (branch : Branch) (stub : StubAt)
    → at before stub.boundary + code.shape.len * (stub.index + 1) ≤ at before (stub.boundary + 1)
    → IsNearIn part code branch stub
    → ReachesAt code before branch (place_in part (start_of code.boundaries.now before stub.boundary) (end_of code.boundaries.now before stub.boundary) code.shape.len group stub.index)
near_in Front code group before branch stub fits near =
    let r = near.1 in
    record { forward = omega (arith, ap (at before) (near.0), r.forward); backward = omega (arith, ap (at before) (near.0), r.backward) }
near_in Middle code group before branch stub fits near = absurd near
near_in Back code group before branch stub fits near =
    let r = near.1 in
    record { forward = omega (arith, ap (at before) (near.0), r.forward); backward = omega (arith, ap (at before) (near.0), r.backward) }

pub near_reaches : (code : Code) (groups : List Group) (before : List ℕ) (branch : Branch) (stub : StubAt) → IsLaidOut code.shape groups before → length groups ≡ length code.boundaries.now → HasPart code groups stub
    → IsNear code branch stub → ReachesAt code before branch (place_of code groups before stub)
near_reaches code groups before branch stub laid len has near =
    near_in stub.part code (group_at groups stub.boundary) before branch stub (within_group code groups before stub laid len has) near

pub places_kept : (code : Code) (old new : State) (before places : List ℕ) → SameStubs old new → ArePlaces code old before places → ArePlaces code new before places
places_kept code old new before places same are = record {
  len = are.len ∙ ap (λ v. length v.items) (sym same.stubs);
  each = λ j h. are.each j h ∙ ap (λ g. place_of code g.items before (stub_at old.stubs.items j)) (sym same.groups) ∙ ap (λ v. place_of code new.groups.items before (stub_at v.items j)) (sym same.stubs);
}

pub laid_kept : (code : Code) (old new : State) (before : List ℕ) → SameStubs old new → IsLaidOut code.shape old.groups.items before → IsLaidOut code.shape new.groups.items before
laid_kept code old new before same laid = subst (λ g. IsLaidOut code.shape g.items before) (sym same.groups) laid

-- A branch that goes by a stub next to it reaches that.
pub near_reached : (code : Code) (state : State) (before places : List ℕ) (i s : ℕ) → IsState code state → IsLaidOut code.shape state.groups.items before → ArePlaces code state before places → i < length code.branches.now
    → way_at state.ways.items i ≡ Near s → s < length places → ReachesAt code before (branch_at code.branches.now i) (at places s)
near_reached code state before places i s is laid are within e h =
    let way : IsWay code state.stubs.items (branch_at code.branches.now i) (Near s) = subst (IsWay code state.stubs.items (branch_at code.branches.now i)) e (is.way i within) in
    let reached = near_reaches code state.groups.items before (branch_at code.branches.now i) (stub_at state.stubs.items s) laid is.groups (is.parts s (way.0)) (way.2) in
    subst (ReachesAt code before (branch_at code.branches.now i)) (sym (are.each s h)) reached

pub near_served : (code : Code) (state : State) (before places : List ℕ) (i s : ℕ) → IsState code state → IsLaidOut code.shape state.groups.items before → ArePlaces code state before places → i < length code.branches.now
    → way_at state.ways.items i ≡ Near s → IsServedBy code before places (branch_at code.branches.now i) (way_at state.ways.items i)
near_served code state before places i s is laid are within e =
    subst (IsServedBy code before places (branch_at code.branches.now i)) (sym e) (inl (near_reached code state before places i s is laid are within e))

-- A stub with a lower index in its part is nearer.
pub nearer : (part : Part) (code : Code) (branch : Branch) (stub other : StubAt) → 0 < code.shape.len → stub.boundary ≡ other.boundary → stub.index ≤ other.index
    → (other.boundary ≡ passed code.boundaries.now branch.offset → branch.offset < at code.boundaries.now other.boundary)
    → (other.boundary < passed code.boundaries.now branch.offset → at code.boundaries.now other.boundary ≤ branch.offset)
    → IsNearIn part code branch other → IsNearIn part code branch stub
nearer Front code branch stub other some same less above below near =
    let p = mul-le-mul_left code.shape.len less in
    let b = ap (at code.boundaries.now) same in
    (same ∙ near.0, record { forward = omega (arith, above near.0, near.1.forward); backward = omega (arith, above near.0) })
nearer Middle code branch stub other some same less above below near = absurd near
nearer Back code branch stub other some same less above below near =
    let more : stub.index + 1 ≤ other.index + 1 = omega arith in
    let p = mul-le-mul_left code.shape.len more in
    let one : 1 ≤ stub.index + 1 = omega arith in
    let q = mul-le-mul_left code.shape.len one in
    let b = ap (at code.boundaries.now) same in
    (ap (λ n. n + 1) same ∙ near.0, record { forward = omega (arith, near.0, below (omega arith)); backward = omega (arith, near.0, below (omega arith), near.1.backward) })
