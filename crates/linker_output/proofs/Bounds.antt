-- How many stubs there can be.
use Rattle.linker_output.proofs.Imports.{Code, Direct, Front, Group, IsCode, IsState, List, Part, State, Way, [], arith, get_or-le-sum_by, group_at, length, level, most_bytes, mul-le-mul_left, part_of, stub_at, stubs_in, sum_by, sum_by-cons, ℕ, ◌*◌, ◌+◌, ◌<◌, ◌^◌, ◌∷◌, ◌≤◌}

pub level_most : (w : Way) → level w ≤ 2
level_most Direct = omega arith
level_most other = omega arith

pub levels_most : (ws : List Way) → sum_by level ws ≤ 2 * length ws
levels_most [] = omega arith
levels_most (w ∷ ws) =
    omega (arith, levels_most ws, level_most w, sum_by-cons level w ws)

pub part_most : (part : Part) (group : Group) → part_of part group ≤ stubs_in group
part_most Front group = omega arith
part_most other group = omega arith

pub few_stubs : (code : Code) (state : State) → IsState code state → length state.stubs.items ≤ 2 * length code.branches.now
few_stubs code state is = let h = levels_most state.ways.items in let f = is.few in let w = is.ways in omega arith

-- a part at a boundary has no more stubs than there are in all
pub few_in_part : (code : Code) (state : State) (k : ℕ) (part : Part) → IsState code state → k < length state.groups.items → part_of part (group_at state.groups.items k) ≤ length state.stubs.items
few_in_part code state k part is within =
    omega (arith, part_most part (group_at state.groups.items k), get_or-le-sum_by stubs_in state.groups.items k (record { front = 0; middle = 0; back = 0 }) within, is.total)

pub part_fits : (code : Code) (state : State) (k : ℕ) (part : Part) → IsCode code → IsState code state → k < length code.boundaries.now → code.shape.len * (part_of part (group_at state.groups.items k) + 1) < 2 ^ 62
part_fits code state k part is_code is within =
    let g = is.groups in
    let a = few_in_part code state k part is (omega arith) in
    let b = few_stubs code state is in
    let c : part_of part (group_at state.groups.items k) + 1 ≤ 2 * length code.branches.now + 1 = omega arith in
    let d = mul-le-mul_left code.shape.len c in
    let r = is_code.room in
    omega arith

pub index_fits : (code : Code) (state : State) (j : ℕ) → IsCode code → IsState code state → j < length state.stubs.items → code.shape.len * ((stub_at state.stubs.items j).index + 1) < 2 ^ 62
index_fits code state j is_code is within =
    let p = is.parts j within in
    omega (arith, part_fits code state (stub_at state.stubs.items j).boundary (stub_at state.stubs.items j).part is_code is p.boundary, mul-le-mul_left code.shape.len p.index)

-- the bytes of all stubs fit
pub room_most : (code : Code) (state : State) → IsState code state → code.shape.unit * length state.groups.items + code.shape.len * sum_by stubs_in state.groups.items ≤ most_bytes code
room_most code state is =
    let b = few_stubs code state is in
    let t = is.total in
    let c : sum_by stubs_in state.groups.items ≤ 2 * length code.branches.now + 1 = omega arith in
    let d = mul-le-mul_left code.shape.len c in
    rw is.groups (omega arith)

pub room_for : (code : Code) (state : State) → IsCode code → IsState code state → code.shape.unit * length state.groups.items + code.shape.len * sum_by stubs_in state.groups.items < 2 ^ 62
room_for code state is_code is =
    omega (arith, room_most code state is, is_code.room)
