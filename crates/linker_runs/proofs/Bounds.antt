-- What the rounds of a run that can be relaxed never exceed.
use Rattle.linker_runs.proofs.Imports.{Aligned, AreItems, Item, ItemSuits, List, Shape, Shapes, ShapesSuit, Site, ap, arith, cases_Bool, cases_lt, cases_order, cond, end_of, false, freed_before, is_in_reach, is_reached, item_at, item_reaches, least_len, length, lengthened, nat_lt, nat_tests, offset_of, place_of, refl, run_granularity, shape_len, shape_reaches, short_shape, suc, sym, target_of, true, zero, ℕ, ⊎_elim, ◌+◌, ◌-◌, ◌<◌, ◌∙◌, ◌≡◌, ◌≤◌, ◌⊎◌}
use Rattle.linker_runs.proofs.Units.{item_suits}
use Rattle.linker_runs.proofs.Layouts.{lengthened_in, lengthened_out}
use Rattle.linker_runs.proofs.Multiples.{Multiple, multiple_of}
use Rattle.linker_runs.proofs.Nearer.{Frees, FreesLess, IsPlace, shape_nearer}

-- a shape at a higher index keeps no fewer bytes
pub lens_ascend : (u len : ℕ) (shapes : Shapes) → ShapesSuit u len shapes → (j d : ℕ) → shape_len shapes j ≤ shape_len shapes (j + d)
lens_ascend u len shapes fit j zero = let z : j + 0 ≡ j = omega arith in let a = ap (shape_len shapes) z in omega arith
lens_ascend u len shapes fit j (suc d) =
    let z : j + suc d ≡ j + d + 1 = omega arith in
    omega (arith, ap (shape_len shapes) z, fit.ascending (j + d), lens_ascend u len shapes fit j d)

-- no shape of a site keeps more bytes than it has
pub len_fits : (shapes : Shapes) (len k : ℕ) → shapes.longest ≤ len → ((k : ℕ) → k < shapes.count → (short_shape shapes k).kept ≤ len) → shape_len shapes k ≤ len
len_fits shapes len k longest short =
    ⊎_elim
    (λ (below : k < shapes.count). let h = short k below in grind (arith, nat_tests))
    (λ (past : shapes.count ≤ k). grind (arith, nat_tests))
    (cases_lt k shapes.count)

pub is_short : (k count : ℕ) → k < count → nat_lt k count ≡ true
is_short k count below = grind (arith, nat_tests)

pub is_past : (k count : ℕ) → count ≤ k → nat_lt k count ≡ false
is_past k count past = grind (arith, nat_tests)

-- an item that reaches its target where less is freed reaches it where more is freed
pub item_nearer : (u start : ℕ) (item : Item) → ItemSuits u start item → (k less_here less_there here there : ℕ)
    → ((shape : Shape) → 0 < shape.max_forward → Multiple shape.granularity u → is_reached shape (offset_of item - less_here) (target_of item - less_there) ≡ true → is_reached shape (offset_of item - here) (target_of item - there) ≡ true)
    → item_reaches item k less_here less_there ≡ true → item_reaches item k here there ≡ true
item_nearer u start (Aligned alignment) fit k less_here less_there here there nearer reached = refl
item_nearer u start (Site site) fit k less_here less_there here there nearer reached = by_target (target_of (Site site)) nearer reached
  where
    by_target : (target : ℕ) → ((shape : Shape) → 0 < shape.max_forward → Multiple shape.granularity u → is_reached shape (site.offset - less_here) (target - less_there) ≡ true → is_reached shape (site.offset - here) (target - there) ≡ true)
        → shape_reaches site.shapes k (site.offset - less_here) (target - less_there) ≡ true → shape_reaches site.shapes k (site.offset - here) (target - there) ≡ true
    by_target target nearer reached = ⊎_elim
        (λ (below : k < site.shapes.count).
        let shape = short_shape site.shapes k in
        let test = is_short k site.shapes.count below in
        let was = sym (ap (λ b. cond b (is_reached shape (site.offset - less_here) (target - less_there)) true) test) ∙ reached in
        ap (λ b. cond b (is_reached shape (site.offset - here) (target - there)) true) test
        ∙ nearer shape (fit.ahead k below) (multiple_of shape.granularity u (fit.units k below)) was)
        (λ (past : site.shapes.count ≤ k).
        ap (λ b. cond b (is_reached (short_shape site.shapes k) (site.offset - here) (target - there)) true) (is_past k site.shapes.count past))
        (cases_lt k site.shapes.count)

-- what is in reach where less is freed is in reach where more is
pub all_nearer : (start : ℕ) (items : List Item) (less more : ℕ → ℕ) (k : ℕ) → AreItems start items → Frees (run_granularity items) items less → Frees (run_granularity items) items more → FreesLess items less more
    → ((t : ℕ) → IsPlace items t (place_of items t)) → (i : ℕ) → i < length items
    → item_reaches (item_at items i) k (less i) (less (place_of items (target_of (item_at items i)))) ≡ true
    → item_reaches (item_at items i) k (more i) (more (place_of items (target_of (item_at items i)))) ≡ true
all_nearer start items less more k are g f no_more places i within reached =
    let item = item_at items i in
    let t = target_of item in
    let p = place_of items t in
    let place = places t in
    let clear : p < length items → t ≤ offset_of (item_at items p) + least_len (item_at items p) = λ below.
    ⊎_elim (λ (h : t ≤ offset_of (item_at items p) + least_len (item_at items p)). h)
    (λ (h : end_of (item_at items p) ≤ t). let o = place.others p (omega arith) below in absurd (omega arith))
    (are.clear i p within below) in
    item_nearer (run_granularity items) start item (item_suits start items are i within) k (less i) (less p) (more i) (more p)
    (λ shape some d. shape_nearer start (run_granularity items) items less more are.in_order g f no_more shape some d i t p within place clear)
    reached

-- While a choice is no longer than another, which is in reach where less is freed, so is the next.
-- The place of each target is given.
pub bound_next : (start : ℕ) (items : List Item) (choice other : ℕ → ℕ) (less : ℕ → ℕ) → AreItems start items
    → Frees (run_granularity items) items less → Frees (run_granularity items) items (freed_before start items choice) → FreesLess items less (freed_before start items choice)
    → ((t : ℕ) → IsPlace items t (place_of items t))
    → ((i : ℕ) → i < length items → choice i ≤ other i)
    → ((i : ℕ) → i < length items → item_reaches (item_at items i) (other i) (less i) (less (place_of items (target_of (item_at items i)))) ≡ true)
    → (i : ℕ) → i < length items → lengthened start items choice i ≤ other i
bound_next start items choice other less are g f no_more places bound reached i within =
    let c = bound i within in
    let in_reach = lengthened_in start items choice i in
    ⊎_elim
    (λ (same : choice i ≡ other i).
    let there = all_nearer start items less (freed_before start items choice) (choice i) are g f no_more places i within
    (ap (λ k. item_reaches (item_at items i) k (less i) (less (place_of items (target_of (item_at items i))))) same ∙ reached i within) in
    omega (arith, in_reach there))
    (λ (other_case : (choice i < other i) ⊎ (other i < choice i)).
    ⊎_elim
    (λ (into : is_in_reach start items choice i ≡ true). let e = in_reach into in omega arith)
    (λ (gone : is_in_reach start items choice i ≡ false). let e = (lengthened_out start items choice i) gone in omega arith)
    (cases_Bool (is_in_reach start items choice i)))
    (cases_order (choice i) (other i))
