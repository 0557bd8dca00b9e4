use Rattle.linker_output.proofs.Imports.{List, [], ap, arith, below_more, get_or, get_or_append_left, get_or_push, length, length-append, place_of, stub_at, ℕ, ◌++◌, ◌+◌, ◌<◌, ◌∙◌, ◌∷◌, ◌≡◌}
use Rattle.linker_output.proofs.placement.State.find_places.Goals as goal

-- what holds of each number, and of one more after them, holds of all
each_pushed : (xs : List ℕ) (x n : ℕ) (f : ℕ → ℕ) → length xs ≡ n
    → ((j : ℕ) → j < n → get_or xs j 0 ≡ f j) → x ≡ f n
    → (j : ℕ) → j < n + 1 → get_or (xs ++ (x ∷ [])) j 0 ≡ f j
each_pushed xs x n f len each last =
    below_more (λ j. get_or (xs ++ (x ∷ [])) j 0 ≡ f j) n
    (λ j below. get_or_append_left xs (x ∷ []) 0 j (omega (arith, len, below)) ∙ each j below)
    (get_or_push xs x 0 n len ∙ last)

pub loop-stub-preserved : goal.loop-stub-preserved
loop-stub-preserved c =
    let a = c.args in
    let l = c.loop-stub in
    let items = c.in_ok-push.ensures.items in
    let place : ℕ → ℕ = λ j. place_of a.code.now a.self.now.groups.items a.before.now (stub_at a.self.now.stubs.items j) in
    let last : c.place_of.result ≡ place l.stub-index = cc (c.place_of.ensures, c.deref.ensures.value, c.deref-stub-items.ensures.value) in
    record {
      len = let one = length-append l.places.items (c.place_of.result ∷ []) in let same = ap length items in omega (arith, one, same, l.invariant.len);
      each = rw items (each_pushed l.places.items c.place_of.result l.stub-index place l.invariant.len l.invariant.each last);
    }
