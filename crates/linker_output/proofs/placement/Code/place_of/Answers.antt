use Rattle.linker_output.proofs.Imports.{Code, Group, IsCode, IsLaidOut, List, arith, at, group_at, length, stubs_in, ℕ, ◌*◌, ◌+◌, ◌<◌, ◌^◌, ◌≤◌}
use Rattle.linker_output.proofs.Groups.{some_least}
use Rattle.linker_output.proofs.Products.{le_product}
use Rattle.linker_output.proofs.placement.Code.place_of.Goals as goal

-- how many bytes n of the stubs at a boundary take, and where these end
room : (code : Code) (groups : List Group) (before : List ℕ) (b n : ℕ) → IsCode code → IsLaidOut code.shape groups before → ((k : ℕ) → at before k < 2 ^ 62)
    → b < length groups → n ≤ stubs_in (group_at groups b)
    → (at before b + code.shape.len * n ≤ at before (b + 1)) × (n ≤ code.shape.len * n) × (at before (b + 1) < 2 ^ 62) × (at code.boundaries.now b < 2 ^ 62)
room code groups before b n is_code laid fits within few =
    (omega (arith, some_least code.shape (group_at groups b) n few, laid.next b within), le_product code.shape.len n is_code.len, fits (b + 1), is_code.boundaries b)

pub overflow_mul-result : goal.overflow_mul-result
overflow_mul-result c =
    let a = c.args in
    let index = rw c.in-Front.is at c.requires.part.index in
    omega (arith, room a.self.now a.groups.now a.before.now a.stub.now.boundary a.stub.now.index c.requires.code c.requires.laid_out c.requires.fits (omega arith) (omega arith))

pub overflow_add-result : goal.overflow_add-result
overflow_add-result c =
    let a = c.args in
    let index = rw c.in-Front.is at c.requires.part.index in
    omega (arith, room a.self.now a.groups.now a.before.now a.stub.now.boundary a.stub.now.index c.requires.code c.requires.laid_out c.requires.fits (omega arith) (omega arith))

pub overflow_add-result-in-Middle : goal.overflow_add-result-in-Middle
overflow_add-result-in-Middle c =
    let a = c.args in
    let index = rw c.in-Middle.is at c.requires.part.index in
    omega (arith, room a.self.now a.groups.now a.before.now a.stub.now.boundary ((group_at a.groups.now a.stub.now.boundary).front + a.stub.now.index) c.requires.code c.requires.laid_out c.requires.fits (omega arith) (omega arith))

pub overflow_mul-result-in-Middle : goal.overflow_mul-result-in-Middle
overflow_mul-result-in-Middle c =
    let a = c.args in
    let index = rw c.in-Middle.is at c.requires.part.index in
    omega (arith, room a.self.now a.groups.now a.before.now a.stub.now.boundary ((group_at a.groups.now a.stub.now.boundary).front + a.stub.now.index) c.requires.code c.requires.laid_out c.requires.fits (omega arith) (omega arith))

pub overflow_add-result-in-Middle-2 : goal.overflow_add-result-in-Middle-2
overflow_add-result-in-Middle-2 c =
    let a = c.args in
    let index = rw c.in-Middle.is at c.requires.part.index in
    omega (arith, room a.self.now a.groups.now a.before.now a.stub.now.boundary ((group_at a.groups.now a.stub.now.boundary).front + a.stub.now.index) c.requires.code c.requires.laid_out c.requires.fits (omega arith) (omega arith))

pub overflow_add-result-in-Back : goal.overflow_add-result-in-Back
overflow_add-result-in-Back c =
    let a = c.args in
    let index = rw c.in-Back.is at c.requires.part.index in
    omega (arith, room a.self.now a.groups.now a.before.now a.stub.now.boundary (a.stub.now.index + 1) c.requires.code c.requires.laid_out c.requires.fits (omega arith) (omega arith))

pub overflow_mul-result-in-Back : goal.overflow_mul-result-in-Back
overflow_mul-result-in-Back c =
    let a = c.args in
    let index = rw c.in-Back.is at c.requires.part.index in
    omega (arith, room a.self.now a.groups.now a.before.now a.stub.now.boundary (a.stub.now.index + 1) c.requires.code c.requires.laid_out c.requires.fits (omega arith) (omega arith))

pub overflow_sub-result : goal.overflow_sub-result
overflow_sub-result c =
    let a = c.args in
    let index = rw c.in-Back.is at c.requires.part.index in
    omega (arith, room a.self.now a.groups.now a.before.now a.stub.now.boundary (a.stub.now.index + 1) c.requires.code c.requires.laid_out c.requires.fits (omega arith) (omega arith))
