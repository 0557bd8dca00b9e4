-- Bytes of the stubs at boundaries.
use Rattle.linker_output.proofs.Imports.{Group, IsLaidOut, List, StubShape, add-one, ap, arith, bytes_before, cases_lt, get_or, get_or_past, group_at, length, mul-le-mul_left, refl, stubs_in, suc, sum_by, sum_by-take-le, sum_by_more, sym, take, zero, ℕ, ⊎_elim, ◌*◌, ◌+◌, ◌<◌, ◌∙◌, ◌≡◌, ◌≤◌}
use Rattle.linker_output.specs.Placement.{padded, size_of}

pub padded_least : (unit n : ℕ) → n ≤ padded unit n
padded_least unit n = omega arith

pub padded_most : (unit n : ℕ) → 0 < unit → padded unit n < n + unit
padded_most unit n h = omega arith

pub size_least : (shape : StubShape) (group : Group) → shape.len * stubs_in group ≤ size_of shape group
size_least shape group = padded_least shape.unit (shape.len * stubs_in group)

-- some of the stubs at a boundary take no more bytes than all
pub some_least : (shape : StubShape) (group : Group) (n : ℕ) → n ≤ stubs_in group
    → shape.len * n ≤ size_of shape group
some_least shape group n few =
    omega (arith, mul-le-mul_left shape.len few, size_least shape group)

pub bytes_next : (shape : StubShape) (groups : List Group) (k : ℕ) → bytes_before shape groups (k + 1) ≡ bytes_before shape groups k + size_of shape (group_at groups k)
unfolding bytes_before
bytes_next shape groups k = rw add-one refl

pub bytes_none : (shape : StubShape) (groups : List Group) → bytes_before shape groups 0 ≡ 0
unfolding bytes_before
bytes_none shape groups = refl

pub bytes_most : (shape : StubShape) (groups : List Group) (k : ℕ) → 0 < shape.unit → k ≤ length groups → bytes_before shape groups k ≤ shape.unit * k + shape.len * sum_by stubs_in (take k groups)
unfolding bytes_before
bytes_most shape groups zero h within = omega arith
bytes_most shape groups (suc k) h within =
    let rest = bytes_most shape groups k h (omega arith) in
    let size = padded_most shape.unit (shape.len * stubs_in (group_at groups k)) h in
    let e = ap (λ x. shape.len * x) (sum_by_more stubs_in groups k (record { front = 0; middle = 0; back = 0 }) (omega arith)) in
    rw (sym (add-one k)) (omega arith)

pub bytes_bound : (shape : StubShape) (groups : List Group) (k : ℕ) → 0 < shape.unit → k ≤ length groups → bytes_before shape groups k ≤ shape.unit * length groups + shape.len * sum_by stubs_in groups
bytes_bound shape groups k h within =
    omega (arith, bytes_most shape groups k h within, mul-le-mul_left shape.unit within, mul-le-mul_left shape.len (sum_by-take-le stubs_in groups k))

pub bytes_laid_out : (shape : StubShape) (groups : List Group) (before : List ℕ) → length before ≡ length groups + 1 → ((k : ℕ) → k < length groups + 1 → get_or before k 0 ≡ bytes_before shape groups k) → IsLaidOut shape groups before
bytes_laid_out shape groups before len written = record {
  len = len;
  first = written 0 (omega arith) ∙ bytes_none shape groups;
  next = λ k h. (let a = written (k + 1) (omega arith) in let b = written k (omega arith) in let c = bytes_next shape groups k in omega arith);
}

pub bytes_fit : (shape : StubShape) (groups : List Group) (before : List ℕ) → 0 < shape.unit → length before ≡ length groups + 1 → ((k : ℕ) → k < length groups + 1 → get_or before k 0 ≡ bytes_before shape groups k) → (k : ℕ) → get_or before k 0 ≤ shape.unit * length groups + shape.len * sum_by stubs_in groups
bytes_fit shape groups before unit len written k = ⊎_elim
    (λ (inside : k < length groups + 1). let a = written k inside in let b = bytes_bound shape groups k unit (omega arith) in omega arith)
    (λ (past : length groups + 1 ≤ k). let e = get_or_past before k 0 (omega arith) in omega arith)
    (cases_lt k (length groups + 1))
