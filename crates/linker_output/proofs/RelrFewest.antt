-- No fewer words relocate the addresses.
use Rattle.linker_output.proofs.Imports.{Bool, List, [], arith, cond, false, length, marked, nat_le, nat_lt, nat_tests, refl, relocated, suc, true, zero, ℕ, ◌*◌, ◌++◌, ◌+◌, ◌<◌, ◌∷◌, ◌≡◌, ◌≤◌}

-- how many words more are needed for addresses where those below an end are in words already
unfoldable pub cost_next : ℕ → ℕ → (ℕ → ℕ) → ℕ
cost_next end a f = cond (nat_lt a end) (f end) (cond (nat_le (a + 8) (end + 504)) (1 + f (end + 504)) (1 + f (a + 8)))

unfoldable pub cost : List ℕ → ℕ → ℕ
cost [] end = 0
cost (a ∷ xs) end = cost_next end a (cost xs)

-- a higher end never costs more, and one bitmap less costs one more at most
record Saves (f : ℕ → ℕ) : Type 0 where
  higher : (e d : ℕ) → e ≤ d → f d ≤ f e
  lower : (e d : ℕ) → e ≤ d + 504 → f d ≤ 1 + f e

next_higher : (a : ℕ) (f : ℕ → ℕ) (e d : ℕ) → Saves f → e ≤ d → cost_next d a f ≤ cost_next e a f
unfolding cost_next
next_higher a f e d s h =
    let l2 = s.lower (a + 8) d in grind (arith, nat_tests, (s.higher e d), (s.higher (e + 504) (d + 504)), (s.higher (a + 8) (d + 504)), (s.lower (e + 504) d), l2)

next_lower : (a : ℕ) (f : ℕ → ℕ) (e d : ℕ) → Saves f → e ≤ d + 504 → cost_next d a f ≤ 1 + cost_next e a f
unfolding cost_next
next_lower a f e d s h =
    let l0 = s.lower e d in
    let l1 = s.lower (e + 504) d in
    let l2 = s.lower (a + 8) d in
    let l5 = s.lower (e + 504) (a + 8) in grind (arith, nat_tests, l0, l1, l2, (s.higher e (d + 504)), (s.lower (e + 504) (d + 504)), (s.lower (a + 8) (d + 504)), (s.higher e (a + 8)), l5)

saves : (xs : List ℕ) → Saves (cost xs)
unfolding cost
saves [] = record { higher = λ e d h. omega arith; lower = λ e d h. omega arith }
saves (a ∷ xs) =
    let s = saves xs in
    record { higher = λ e d h. next_higher a (cost xs) e d s h; lower = λ e d h. next_lower a (cost xs) e d s h }

-- ---- words

-- an address among the 63 words from a base on
pub record IsWithin (base a : ℕ) : Type 0 where
  pub least : base ≤ a
  pub most : a + 8 ≤ base + 504

-- each is
pub AreWithin : ℕ → List ℕ → Type 0
AreWithin base [] = Unit {0}
AreWithin base (a ∷ xs) = IsWithin base a × AreWithin base xs

within_append : (base : ℕ) (xs ys : List ℕ) → AreWithin base xs → AreWithin base ys → AreWithin base (xs ++ ys)
unfolding AreWithin
within_append base [] ys p q = q
within_append base (x ∷ xs) ys p q = (p.0, within_append base xs ys p.1 q)

one_within : (base n : ℕ) (b : Bool) → n < 63 → AreWithin base (cond b ((base + 8 * n) ∷ []) [])
unfolding AreWithin
one_within base n true h = (record { least = omega arith; most = omega arith }, tt)
one_within base n false h = tt

marked_within : (n base word : ℕ) → n ≤ 63 → AreWithin base (marked n base word)
unfolding AreWithin marked
marked_within zero base word h = tt
marked_within (suc n) base word h = within_append base (marked n base word) _ (marked_within n base word (omega arith)) (one_within base n _ (omega arith))

-- addresses below the end cost nothing
free : (base : ℕ) (xs ys : List ℕ) → AreWithin base xs → cost (xs ++ ys) (base + 504) ≡ cost ys (base + 504)
unfolding AreWithin cost cost_next
free base [] ys h = refl
free base (x ∷ xs) ys h =
    let m = h.0.most in
    let below : nat_lt x (base + 504) ≡ true = grind (arith, nat_tests) in rw below (free base xs ys h.1)

-- a bitmap costs one
one_more : (base : ℕ) (xs ys : List ℕ) → AreWithin base xs → cost (xs ++ ys) base ≤ 1 + cost ys (base + 504)
unfolding AreWithin cost cost_next
one_more base [] ys h = (saves ys).lower (base + 504) base (omega arith)
one_more base (x ∷ xs) ys h =
    let above : nat_lt x base ≡ false = let m = h.0.least in grind (arith, nat_tests) in
    let near : nat_le (x + 8) (base + 504) ≡ true = let m = h.0.most in grind (arith, nat_tests) in rw (above, near, (free base xs ys h.1)) (omega arith)

-- an address costs one
one_address : (base a : ℕ) (ys : List ℕ) → cost (a ∷ ys) base ≤ 1 + cost ys (a + 8)
unfolding cost cost_next
one_address base a ys =
    let s = saves ys in
    let h = s.higher (a + 8) (base + 504) in grind (arith, nat_tests, (s.lower (a + 8) base), h)

cost_none : (base : ℕ) → cost [] base ≤ 0
unfolding cost
cost_none base = omega arith

cost_word : (base word : ℕ) (words : List ℕ) → cost (relocated (word + 8) words) (word + 8) ≤ length words → cost (relocated (base + 504) words) (base + 504) ≤ length words → cost (relocated base (word ∷ words)) base ≤ suc (length words)
cost_word base word words h k =
    let a = one_address base word (relocated (word + 8) words) in
    let b = one_more base (marked 63 base word) (relocated (base + 504) words) (marked_within 63 base word (omega arith)) in grind (arith, nat_tests, a, b)

-- words cost their number at most
pub cost_words : (base : ℕ) (words : List ℕ) → cost (relocated base words) base ≤ length words
cost_words base [] = cost_none base
cost_words base (word ∷ words) = cost_word base word words (cost_words (word + 8) words) (cost_words (base + 504) words)
