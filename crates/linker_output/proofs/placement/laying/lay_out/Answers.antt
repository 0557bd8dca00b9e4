use Rattle.linker_output.proofs.Imports.{List, ap, arith, below_more, bytes_before, get_or, get_or-le-sum_by, get_or-set_other, get_or-set_same, length, mul-le-mul_left, refl, rules, set, stubs_in, sym, ℕ, ◌+◌, ◌<◌, ◌∙◌, ◌≡◌, ◌≢◌, ◌≤◌}
use Rattle.linker_output.proofs.Groups.{bytes_next, bytes_none, bytes_bound, bytes_laid_out, bytes_fit}
use Rattle.linker_output.proofs.placement.laying.lay_out.Goals as goal

pub loop-index-init : goal.loop-index-init
loop-index-init c = record { bytes = sym (bytes_none c.args.shape.now c.args.groups.now); written = λ k h. absurd (omega arith) }

pub size_of-bytes-requires-clause-fits : goal.size_of-bytes-requires-clause-fits
size_of-bytes-requires-clause-fits c =
    let h = mul-le-mul_left c.args.shape.now.len (get_or-le-sum_by stubs_in c.args.groups.now c.loop-index.index (record { front = 0; middle = 0; back = 0 }) (omega arith)) in
    let n : 1 ≤ length c.args.groups.now = omega arith in
    omega (arith, mul-le-mul_left c.args.shape.now.unit n, c.requires.fits)

pub overflow_add-bytes : goal.overflow_add-bytes
overflow_add-bytes c =
    let i = c.loop-index.index in
    let next = bytes_next c.args.shape.now c.args.groups.now i in
    omega (arith, bytes_bound c.args.shape.now c.args.groups.now (i + 1) c.requires.unit (omega arith), c.size_of-bytes.ensures, c.loop-index.invariant.bytes)

pub loop-index-preserved : goal.loop-index-preserved
loop-index-preserved c =
    let i = c.loop-index.index in
    record {
      bytes = (let next = bytes_next c.args.shape.now c.args.groups.now i in
          omega (arith, c.size_of-bytes.ensures, c.loop-index.invariant.bytes));
      written = below_more _ _
          (λ k h. let ne : k ≢ i = omega arith in rw get_or-set_other (c.loop-index.invariant.written k h))
          (let lt : i < length c.loop-index.before = omega arith in rw get_or-set_same c.loop-index.invariant.bytes);
    }

all_written : (before new : List ℕ) (n bytes : ℕ) (f : ℕ → ℕ) → new ≡ set before n bytes → n < length before → bytes ≡ f n → ((k : ℕ) → k < n → get_or before k 0 ≡ f k) → (k : ℕ) → k < n + 1 → get_or new k 0 ≡ f k
all_written before new n bytes f is lt here below = below_more _ _
    (λ k h. let ne : k ≢ n = omega arith in rw is (rw get_or-set_other (below k h)))
    (rw is (rw get_or-set_same here))

pub returns-clause-laid_out : goal.returns-clause-laid_out
returns-clause-laid_out c =
    let n = length c.args.groups.now in
    let written = all_written c.loop-index.before (set c.loop-index.before n c.loop-index.bytes) n c.loop-index.bytes (bytes_before c.args.shape.now c.args.groups.now) refl (omega arith) (c.loop-index.invariant.bytes ∙ ap (bytes_before c.args.shape.now c.args.groups.now) (omega arith)) (λ k h. c.loop-index.invariant.written k (omega arith)) in
    bytes_laid_out c.args.shape.now c.args.groups.now (set c.loop-index.before n c.loop-index.bytes) (search rules) written

pub returns-clause-most : goal.returns-clause-most
returns-clause-most c =
    let n = length c.args.groups.now in
    let written = all_written c.loop-index.before (set c.loop-index.before n c.loop-index.bytes) n c.loop-index.bytes (bytes_before c.args.shape.now c.args.groups.now) refl (omega arith) (c.loop-index.invariant.bytes ∙ ap (bytes_before c.args.shape.now c.args.groups.now) (omega arith)) (λ k h. c.loop-index.invariant.written k (omega arith)) in
    bytes_fit c.args.shape.now c.args.groups.now (set c.loop-index.before n c.loop-index.bytes) c.requires.unit (search rules) written

pub returns-clause-fits : goal.returns-clause-fits
returns-clause-fits c = λ k. (let m = returns-clause-most c k in let f = c.requires.fits in omega arith)
