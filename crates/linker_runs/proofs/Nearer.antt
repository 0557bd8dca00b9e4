-- Where more is freed nothing is farther away, so that a choice which is in reach stays an upper
-- bound.
use Rattle.linker_runs.proofs.Imports.{AreInOrder, Item, List, Shape, add-mul-mod_self_right, ap, arith, cases_lt, cases_order, end_of, is_reached, item_at, least_len, len_of, length, mul-sub, mul_assoc, mul_comm, nat_tests, offset_of, refl, suc, sym, true, zero, zero-mod, ℕ, ⊎_elim, ◌%◌, ◌*◌, ◌+◌, ◌-◌, ◌<◌, ◌∙◌, ◌≡◌, ◌≤◌}
use Rattle.linker_runs.proofs.Multiples.{Multiple}

-- what is freed up to each index: from item to item a multiple of u more, and at most what may go
pub record Frees (u : ℕ) (items : List Item) (freed : ℕ → ℕ) : Type 0 where
  pub none : freed 0 ≡ 0
  pub step : (j : ℕ) → j < length items → (m : ℕ) × (freed (j + 1) ≡ freed j + m * u) × (m * u + least_len (item_at items j) ≤ len_of (item_at items j))

-- from each item to the next the one frees no more than the other
abbrev pub FreesLess : List Item → (ℕ → ℕ) → (ℕ → ℕ) → Type 0
FreesLess items less more = (j : ℕ) → j < length items → less (j + 1) + more j ≤ more (j + 1) + less j

-- between two indices a multiple of u is freed
between_multiple : (u : ℕ) (items : List Item) (freed : ℕ → ℕ) → Frees u items freed → (i d : ℕ) → i + d ≤ length items → (m : ℕ) × (freed (i + d) ≡ freed i + m * u)
between_multiple u items freed f i zero within = (0, (let z : i + 0 ≡ i = omega arith in ap freed z ∙ omega arith))
between_multiple u items freed f i (suc d) within =
    let rest = between_multiple u items freed f i d (omega arith) in
    let next = f.step (i + d) (omega arith) in
    let z : i + suc d ≡ i + d + 1 = omega arith in
    (rest.0 + next.0, omega (arith, ap freed z, next.1, rest.1))

-- and no more by the one than by the other
between_less : (items : List Item) (less more : ℕ → ℕ) → FreesLess items less more → (i d : ℕ) → i + d ≤ length items → less (i + d) + more i ≤ more (i + d) + less i
between_less items less more f i zero within = let z : i + 0 ≡ i = omega arith in let a = ap less z in let b = ap more z in omega arith
between_less items less more f i (suc d) within =
    let z : i + suc d ≡ i + d + 1 = omega arith in
    omega (arith, between_less items less more f i d (omega arith), f (i + d) (omega arith), ap less z, ap more z)

-- and no more than lies there
between_fits : (start u : ℕ) (items : List Item) (freed : ℕ → ℕ) → AreInOrder start items → Frees u items freed → (i d : ℕ) → i + d < length items → freed (i + d + 1) + offset_of (item_at items i) ≤ freed i + end_of (item_at items (i + d))
between_fits start u items freed order f i zero within =
    let z : i + 0 ≡ i = omega arith in
    let next = f.step i (omega arith) in
    omega (arith, ap (λ n. freed (n + 1)) z, ap (λ n. end_of (item_at items n)) z, next.1, next.2)
between_fits start u items freed order f i (suc d) within =
    let rest = between_fits start u items freed order f i d (omega arith) in
    let z : i + suc d ≡ i + d + 1 = omega arith in
    let next = f.step (i + d + 1) (omega arith) in
    omega (arith, ap (λ n. freed (n + 1)) z, ap (λ n. end_of (item_at items n)) z, next.1, next.2, order.apart (i + d) (omega arith))

-- a distance less a multiple of the granularity is a multiple of it where that was one
multiple_less : (granularity far near e : ℕ) → far ≡ near + e → Multiple granularity e → far % granularity ≡ 0 → near % granularity ≡ 0
multiple_less granularity far near e is m none =
    sym (add-mul-mod_self_right near m.0 granularity) ∙ ap (λ n. n % granularity) (let k = m.1 in let h : near + m.0 * granularity ≡ far = omega arith in h) ∙ none

-- what it is that a shape reaches a target above, or one below
pub above_is : (shape : Shape) (from to : ℕ) → from ≤ to → is_reached shape from to ≡ true → (to - from < shape.max_forward) × ((to - from) % shape.granularity ≡ 0)
above_is shape from to up reached = (grind (arith, nat_tests), grind (arith, nat_tests))

pub is_above : (shape : Shape) (from to : ℕ) → from ≤ to → to - from < shape.max_forward → (to - from) % shape.granularity ≡ 0 → is_reached shape from to ≡ true
is_above shape from to up ahead none = grind (arith, nat_tests)

pub below_is : (shape : Shape) (from to : ℕ) → to < from → is_reached shape from to ≡ true → (from - to ≤ shape.max_backward) × ((from - to) % shape.granularity ≡ 0)
below_is shape from to down reached = (grind (arith, nat_tests), grind (arith, nat_tests))

pub is_below : (shape : Shape) (from to : ℕ) → to < from → from - to ≤ shape.max_backward → (from - to) % shape.granularity ≡ 0 → is_reached shape from to ≡ true
is_below shape from to down following none = grind (arith, nat_tests)

-- a nearer target above is reached too, and one below
reached_above : (shape : Shape) (from to from' to' : ℕ) → from ≤ to → from' ≤ to' → to' - from' ≤ to - from → Multiple shape.granularity ((to - from) - (to' - from')) → is_reached shape from to ≡ true → is_reached shape from' to' ≡ true
reached_above shape from to from' to' up up' near m reached =
    let old = above_is shape from to up reached in
    is_above shape from' to' up' (omega (arith, old.0)) (multiple_less shape.granularity (to - from) (to' - from') ((to - from) - (to' - from')) (omega arith) m old.1)

reached_below : (shape : Shape) (from to from' to' : ℕ) → to ≤ from → to' ≤ from' → from' - to' ≤ from - to → 0 < shape.max_forward → Multiple shape.granularity ((from - to) - (from' - to')) → is_reached shape from to ≡ true → is_reached shape from' to' ≡ true
reached_below shape from to from' to' down down' near some m reached =
    ⊎_elim
    (λ (strict : to' < from').
    let old = below_is shape from to (omega arith) reached in
    is_below shape from' to' strict (omega (arith, old.0)) (multiple_less shape.granularity (from - to) (from' - to') ((from - to) - (from' - to')) (omega arith) m old.1))
    (λ (level : from' ≤ to'). is_level from' to' (omega arith))
    (cases_lt to' from')
  where
    is_level : (from to : ℕ) → from ≡ to → is_reached shape from to ≡ true
    is_level from to same =
        let e : to - from ≡ 0 = omega arith in
        is_above shape from to (omega arith) (omega arith) (ap (λ n. n % shape.granularity) e ∙ zero-mod shape.granularity)

-- the difference of two multiples of u is a multiple of what divides u
pub multiple_between : (u granularity a b : ℕ) → Multiple granularity u → Multiple u a → Multiple u b → Multiple granularity (a - b)
multiple_between u granularity a b d m n = (
  (m.0 - n.0) * d.0,
  (ap (λ x. x - b) m.1 ∙ ap (λ y. m.0 * u - y) n.1 ∙ ap (λ x. x - n.0 * u) (mul_comm m.0 u) ∙ ap (λ x. u * m.0 - x) (mul_comm n.0 u)
      ∙ sym (mul-sub u m.0 n.0) ∙ mul_comm u (m.0 - n.0) ∙ ap (λ x. (m.0 - n.0) * x) d.1 ∙ sym (mul_assoc (m.0 - n.0) d.0 granularity)),
)

-- the same over what is freed before a site (i) and before its target (p)
nearer_above : (shape : Shape) (o t fi fp gi gp : ℕ) → fi ≤ o → fp ≤ t → gi ≤ o → gp ≤ t → o + fp ≤ t + fi → gp + fi ≤ fp + gi → Multiple shape.granularity ((fp + gi) - (gp + fi)) → is_reached shape (o - gi) (t - gp) ≡ true → is_reached shape (o - fi) (t - fp) ≡ true
nearer_above shape o t fi fp gi gp a b c d up less m reached =
    let same : (fp + gi) - (gp + fi) ≡ ((t - gp) - (o - gi)) - ((t - fp) - (o - fi)) = omega arith in
    reached_above shape (o - gi) (t - gp) (o - fi) (t - fp) (omega arith) (omega arith) (omega arith) (m.0, (let e = m.1 in omega arith)) reached

nearer_below : (shape : Shape) (o t fi fp gi gp : ℕ) → fi ≤ o → fp ≤ t → gi ≤ o → gp ≤ t → t + fi ≤ o + fp → gi + fp ≤ fi + gp → 0 < shape.max_forward → Multiple shape.granularity ((fi + gp) - (gi + fp)) → is_reached shape (o - gi) (t - gp) ≡ true → is_reached shape (o - fi) (t - fp) ≡ true
nearer_below shape o t fi fp gi gp a b c d down less some m reached =
    let same : (fi + gp) - (gi + fp) ≡ ((o - gi) - (t - gp)) - ((o - fi) - (t - fp)) = omega arith in
    reached_below shape (o - gi) (t - gp) (o - fi) (t - fp) (omega arith) (omega arith) (omega arith) some (m.0, (let e = m.1 in omega arith)) reached

-- up to the end of an item, and before it, no more is freed than lies there
frees_end : (start u : ℕ) (items : List Item) (freed : ℕ → ℕ) → AreInOrder start items → Frees u items freed → (j : ℕ) → j < length items → freed (j + 1) ≤ end_of (item_at items j)
frees_end start u items freed order f j within =
    let z : 0 + j ≡ j = omega arith in
    omega (arith, between_fits start u items freed order f 0 j (omega arith), ap (λ n. freed (n + 1)) z, ap (λ n. end_of (item_at items n)) z, f.none)

frees_fit : (start u : ℕ) (items : List Item) (freed : ℕ → ℕ) → AreInOrder start items → Frees u items freed → (i : ℕ) → i < length items → freed i ≤ offset_of (item_at items i)
frees_fit start u items freed order f zero within = let none = f.none in omega arith
frees_fit start u items freed order f (suc i) within =
    let z : i + 1 ≡ suc i = omega arith in
    omega (arith, frees_end start u items freed order f i (omega arith), order.apart i (omega arith), ap freed z, ap (λ n. offset_of (item_at items n)) z)

-- An index is the place of an offset: the items before it end at or below the offset, and the
-- others don't.
pub record IsPlace (items : List Item) (offset p : ℕ) : Type 0 where
  pub within : p ≤ length items
  pub below : (j : ℕ) → j < p → end_of (item_at items j) ≤ offset
  pub others : (j : ℕ) → p ≤ j → j < length items → offset < end_of (item_at items j)

pub place_fits : (start u : ℕ) (items : List Item) (freed : ℕ → ℕ) → AreInOrder start items → Frees u items freed → (offset p : ℕ) → IsPlace items offset p → freed p ≤ offset
place_fits start u items freed order f offset zero at = let none = f.none in omega arith
place_fits start u items freed order f offset (suc p) at =
    let z : p + 1 ≡ suc p = omega arith in
    omega (arith, at.within, frees_end start u items freed order f p (omega arith), at.below p (omega arith), ap freed z)

-- from a target below a site up to the site no more is freed than lies there
below_fits : (start u : ℕ) (items : List Item) (freed : ℕ → ℕ) → AreInOrder start items → Frees u items freed → (offset p d : ℕ) → p + d + 1 < length items → offset ≤ offset_of (item_at items p) + least_len (item_at items p) → freed (p + d + 1) + offset ≤ freed p + offset_of (item_at items (p + d + 1))
below_fits start u items freed order f offset p zero within clear =
    let z : p + 0 ≡ p = omega arith in
    let next = f.step p (omega arith) in
    omega (arith, ap (λ n. freed (n + 1)) z, ap (λ n. offset_of (item_at items (n + 1))) z, order.apart p (omega arith), next.1, next.2)
below_fits start u items freed order f offset p (suc d) within clear =
    let rest = below_fits start u items freed order f offset p d (omega arith) clear in
    let z : p + suc d ≡ p + d + 1 = omega arith in
    let next = f.step (p + d + 1) (omega arith) in
    omega (arith, ap (λ n. freed (n + 1)) z, ap (λ n. offset_of (item_at items (n + 1))) z, order.apart (p + d + 1) (omega arith), next.1, next.2)

-- the same by the index up to which it goes
multiple_to : (u : ℕ) (items : List Item) (freed : ℕ → ℕ) → Frees u items freed → (i p : ℕ) → i ≤ p → p ≤ length items → (m : ℕ) × (freed p ≡ freed i + m * u)
multiple_to u items freed f i p up within =
    let z : i + (p - i) ≡ p = omega arith in
    let m = between_multiple u items freed f i (p - i) (omega arith) in
    (m.0, omega (arith, m.1, ap freed z))

less_to : (items : List Item) (less more : ℕ → ℕ) → FreesLess items less more → (i p : ℕ) → i ≤ p → p ≤ length items → less p + more i ≤ more p + less i
less_to items less more f i p up within =
    let z : i + (p - i) ≡ p = omega arith in
    omega (arith, between_less items less more f i (p - i) (omega arith), ap less z, ap more z)

-- the difference between what the one frees between two indices and what the other frees
multiple_difference : (u granularity : ℕ) (items : List Item) (less more : ℕ → ℕ) → Multiple granularity u → Frees u items less → Frees u items more → (i p : ℕ) → i ≤ p → p ≤ length items → Multiple granularity ((more p + less i) - (less p + more i))
multiple_difference u granularity items less more d g f i p up within =
    let a = multiple_to u items more f i p up within in
    let b = multiple_to u items less g i p up within in
    let m = multiple_between u granularity (a.0 * u) (b.0 * u) d (a.0, refl) (b.0, refl) in
    let same : (more p + less i) - (less p + more i) ≡ a.0 * u - b.0 * u = omega (arith, a.1, b.1) in
    (m.0, same ∙ m.1)

-- a shape that reaches a target where less is freed reaches it where more is freed
pub shape_nearer : (start u : ℕ) (items : List Item) (less more : ℕ → ℕ) → AreInOrder start items → Frees u items less → Frees u items more → FreesLess items less more
    → (shape : Shape) → 0 < shape.max_forward → Multiple shape.granularity u → (i t p : ℕ) → i < length items → IsPlace items t p → (p < length items → t ≤ offset_of (item_at items p) + least_len (item_at items p))
    → is_reached shape (offset_of (item_at items i) - less i) (t - less p) ≡ true → is_reached shape (offset_of (item_at items i) - more i) (t - more p) ≡ true
shape_nearer start u items less more order g f no_more shape some d i t p within at clear reached =
    let o = offset_of (item_at items i) in
    let fi = frees_fit start u items more order f i within in
    let gi = frees_fit start u items less order g i within in
    let fp = place_fits start u items more order f t p at in
    let gp = place_fits start u items less order g t p at in
    let end = at.within in
    ⊎_elim
    (λ (same : p ≡ i).
    let a = ap more same in
    let b = ap less same in
    ⊎_elim
    (λ (below : t < o). nearer_below shape o t (more i) (more p) (less i) (less p) fi fp gi gp (omega arith) (omega arith) some (0, omega arith) reached)
    (λ (above : o ≤ t). nearer_above shape o t (more i) (more p) (less i) (less p) fi fp gi gp (omega arith) (omega arith) (0, omega arith) reached)
    (cases_lt t o))
    (⊎_elim
    (λ (below : p < i).
    let z : p + (i - p - 1) + 1 ≡ i = omega arith in
    let fits = below_fits start u items more order f t p (i - p - 1) (omega arith) (clear (omega arith)) in
    let a = ap more z in
    let b = ap (λ n. offset_of (item_at items n)) z in
    let up : p ≤ i = omega arith in
    let upto : i ≤ length items = omega arith in
    let fewer = less_to items less more no_more p i up upto in
    nearer_below shape o t (more i) (more p) (less i) (less p) fi fp gi gp (omega arith) (omega arith) some (multiple_difference u shape.granularity items less more d g f p i up upto) reached)
    (λ (above : i < p).
    let z : i + (p - i - 1) + 1 ≡ p = omega arith in
    let fits = between_fits start u items more order f i (p - i - 1) (omega arith) in
    let a = ap more z in
    let last = at.below (i + (p - i - 1)) (omega arith) in
    let up : i ≤ p = omega arith in
    let fewer = less_to items less more no_more i p up end in
    nearer_above shape o t (more i) (more p) (less i) (less p) fi fp gi gp (omega arith) (omega arith) (multiple_difference u shape.granularity items less more d g f i p up end) reached))
    (cases_order p i)
