-- Addresses that are multiples of a number in every layout, and the nops that are then enough.
use Rattle.linker_runs.proofs.Imports.{Aligned, AreInOrder, AreItems, FreesMultiples, IsAlwaysMultiple, IsAnchor, IsNextPowerOfTwo, IsPowerOfTwo, IsSound, Item, List, MatchOption, None, Option, Site, Some, ap, arith, cases_lt, cond, end_of, freed_before, item_at, kept_by, le-div, len_of, length, limit_of, max, mul-le-mul_left, mul_assoc, nat_le, nat_tests, needed, offset_of, pow_pos, shape_len, suc, sym, zero, ℕ, ⊎_elim, ⊤, ◌*◌, ◌+◌, ◌-◌, ◌/◌, ◌<◌, ◌∙◌, ◌≡◌, ◌≤◌}
use Rattle.linker_runs.proofs.Units.{power_divides}
use Rattle.linker_runs.proofs.Layouts.{freed_next, freed_none, freed_fits, ends_ascend}
use Rattle.linker_runs.proofs.Multiples.{Multiple, multiple_of, needed_fills, needed_below}
use Rattle.linker_runs.proofs.Nearer.{multiple_between}

-- the next multiple is a granularity away
pub next_multiple : (a b u : ℕ) → a * u < b * u → a * u + u ≤ b * u
next_multiple a b u below = ⊎_elim
    (λ (less : a < b). let h : u * (a + 1) ≤ u * b = mul-le-mul_left u (omega arith) in omega arith)
    (λ (more : b ≤ a). let h : u * b ≤ u * a = mul-le-mul_left u more in absurd (omega arith))
    (cases_lt a b)

-- what stays where so much is needed and at most so much may stay
abbrev pub padding : ℕ → ℕ → ℕ
padding need limit = cond (nat_le need limit) need 0

pub padding_all : (need limit : ℕ) → need ≤ limit → padding need limit ≡ need
padding_all need limit h = grind (arith, nat_tests)

pub padding_none : (need limit : ℕ) → limit < need → padding need limit ≡ 0
padding_none need limit h = grind (arith, nat_tests)

-- An alignment without a limit, before which n bytes are freed, has as many nops as it needs.
abbrev pub HoldsAt : ℕ → Item → ℕ → Type 0
HoldsAt start (Site site) freed = ⊤
HoldsAt start (Aligned alignment) freed = MatchOption alignment.max_skip (needed alignment.alignment (start + alignment.offset - freed) ≤ alignment.nops) (λ most. ⊤)

-- a multiple of a multiple, and the difference of two
of_multiple : (w power x : ℕ) → Multiple w power → Multiple power x → Multiple w x
of_multiple w power x p m = (m.0 * p.0, m.1 ∙ ap (λ y. m.0 * y) p.1 ∙ sym (mul_assoc m.0 p.0 w))

less_multiple : (w a b : ℕ) → Multiple w a → Multiple w b → Multiple w (a - b)
less_multiple w a b m n = multiple_between w w a b (1, omega arith) m n

more_multiple : (w a b : ℕ) → Multiple w a → Multiple w b → Multiple w (a + b)
more_multiple w a b m n = (m.0 + n.0, (let e = m.1 in let f = n.1 in omega arith))

same_multiple : (w a b : ℕ) → a ≡ b → Multiple w a → Multiple w b
same_multiple w a b same m = (m.0, sym same ∙ m.1)

-- what an alignment keeps without a limit, if it has its nops
keeps_need : (nops need : ℕ) (most : Option ℕ) → most ≡ None → MatchOption most (need ≤ nops) (λ most. ⊤) → padding need (limit_of nops most) ≡ need
keeps_need nops need None none holds = padding_all need nops holds
keeps_need nops need (Some most) none holds = cc

-- an address after an anchor
after_anchor : (w start o : ℕ) (item : Item) (k freed : ℕ) → IsSound item → freed ≤ offset_of item → end_of item ≤ o → HoldsAt start item freed → IsAnchor w o item
    → Multiple w (start + o - (freed + (len_of item - kept_by start item k freed)))
after_anchor w start o (Site site) k freed sound below past holds anchor = absurd anchor
after_anchor w start o (Aligned alignment) k freed sound below past holds anchor =
    let at = start + alignment.offset - freed in
    let need = needed alignment.alignment at in
    let kept : kept_by start (Aligned alignment) k freed ≡ need = keeps_need alignment.nops need alignment.max_skip anchor.0 holds in
    let enough = need_fits alignment.nops need alignment.max_skip anchor.0 holds in
    let filled = of_multiple w alignment.alignment (need + at) (multiple_of w alignment.alignment anchor.1) (needed_fills alignment.alignment at sound) in
    same_multiple w (need + at + (o - (alignment.offset + alignment.nops))) (start + o - (freed + (alignment.nops - kept_by start (Aligned alignment) k freed))) (omega arith)
    (more_multiple w (need + at) (o - (alignment.offset + alignment.nops)) filled (multiple_of w (o - (alignment.offset + alignment.nops)) anchor.2))
  where
    need_fits : (nops need : ℕ) (most : Option ℕ) → most ≡ None → MatchOption most (need ≤ nops) (λ most. ⊤) → need ≤ nops
    need_fits nops need None none holds = holds
    need_fits nops need (Some most) none holds = cc

-- an address after an item that frees multiples
after_multiple : (w start o : ℕ) (item : Item) (k freed : ℕ) → IsSound item → freed ≤ offset_of item → end_of item ≤ o → FreesMultiples w o item → Multiple w (start + o - freed)
    → Multiple w (start + o - (freed + (len_of item - kept_by start item k freed)))
after_multiple w start o (Site site) k freed sound below past frees before =
    let gone = site.len - shape_len site.shapes k in
    same_multiple w (start + o - freed - gone) (start + o - (freed + gone)) (omega arith)
    (less_multiple w (start + o - freed) gone before (multiple_of w gone (frees k)))
after_multiple w start o (Aligned alignment) k freed sound below past frees before =
    let at = start + alignment.offset - freed in
    let need = needed alignment.alignment at in
    let limit = limit_of alignment.nops alignment.max_skip in
    let here : Multiple w at = same_multiple w (start + o - freed - (o - alignment.offset)) at (omega arith) (less_multiple w (start + o - freed) (o - alignment.offset) before (multiple_of w (o - alignment.offset) frees.0)) in
    let filled = of_multiple w alignment.alignment (need + at) (multiple_of w alignment.alignment frees.1) (needed_fills alignment.alignment at sound) in
    let needs : Multiple w need = same_multiple w (need + at - at) need (omega arith) (less_multiple w (need + at) at filled here) in
    let kept : Multiple w (padding need limit) = ⊎_elim
    (λ (above : limit < need). same_multiple w 0 (padding need limit) (sym (padding_none need limit above)) (0, omega arith))
    (λ (fits : need ≤ limit). same_multiple w need (padding need limit) (sym (padding_all need limit fits)) needs)
    (cases_lt limit need) in
    let gone = alignment.nops - padding need limit in
    same_multiple w (start + o - freed - gone) (start + o - (freed + gone)) (omega arith)
    (less_multiple w (start + o - freed) gone before (less_multiple w alignment.nops (padding need limit) (multiple_of w alignment.nops frees.2) kept))

-- each item before an index ends at or below it
pub ends_by : (start : ℕ) (items : List Item) → AreInOrder start items → (i j : ℕ) → i < length items → j < i → end_of (item_at items j) ≤ offset_of (item_at items i)
ends_by start items order i j within before =
    let z : i - 1 + 1 ≡ i = omega arith in
    omega (arith, ends_ascend start items order j (i - 1) (omega arith) (omega arith), ap (λ n. offset_of (item_at items n)) z, order.apart (i - 1) (omega arith))

-- what is always a multiple is one
pub address_multiple : (start : ℕ) (items : List Item) (choice : ℕ → ℕ) → AreItems start items → (w o : ℕ) → 0 < w → (i : ℕ) → i ≤ length items
    → ((j : ℕ) → j < i → end_of (item_at items j) ≤ o)
    → ((j : ℕ) → j < i → HoldsAt start (item_at items j) (freed_before start items choice j))
    → IsAlwaysMultiple w start o items i → Multiple w (start + o - freed_before start items choice i)
address_multiple start items choice are w o some zero within past holds always =
    same_multiple w (start + o) (start + o - freed_before start items choice 0) (omega (arith, freed_none start items choice)) (multiple_of w (start + o) always)
address_multiple start items choice are w o some (suc i) within past holds always =
    let freed = freed_before start items choice i in
    let item = item_at items i in
    let sound = are.in_order.sound i (omega arith) in
    let below = freed_fits start items choice are.in_order i (omega arith) in
    let next = freed_next start items choice i in
    let z : i + 1 ≡ suc i = omega arith in
    let a = ap (freed_before start items choice) z in
    same_multiple w (start + o - (freed + (len_of item - kept_by start item (choice i) freed))) (start + o - freed_before start items choice (suc i)) (omega arith)
    (⊎_elim
    (λ (anchor : IsAnchor w o item). after_anchor w start o item (choice i) freed sound below (past i (omega arith)) (holds i (omega arith)) anchor)
    (λ (other : FreesMultiples w o item × IsAlwaysMultiple w start o items i).
    after_multiple w start o item (choice i) freed sound below (past i (omega arith)) other.0
    (address_multiple start items choice are w o some i (omega arith) (λ j before. past j (omega arith)) (λ j before. holds j (omega arith)) other.1))
    always)

-- ---- the least power of two from a number up

pub next_positive : (n w : ℕ) → IsNextPowerOfTwo n w → 0 < w
next_positive n w next = let some = pow_pos next.0.0 in let e = next.0.1 in omega arith

-- it is at most each power of two from the number up
next_least : (n w p : ℕ) → IsNextPowerOfTwo n w → IsPowerOfTwo p → n ≤ p → w ≤ p
next_least n w p next power up = ⊎_elim
    (λ (above : p < w).
    let d = multiple_of p w (power_divides p w power next.0 (omega arith)) in
    let twice : 2 ≤ d.0 = two_or_more d.0 d.1 above in
    let h : p * 2 ≤ p * d.0 = mul-le-mul_left p twice in
    let half : p ≤ w / 2 = le-div p w 2 (omega arith) (omega arith) in
    let most : max 1 n ≤ p = grind (arith, nat_tests) in
    absurd (omega (arith, pow_pos power.0, power.1, next.2)))
    (λ (within : w ≤ p). within)
    (cases_lt p w)
  where
    two_or_more : (m : ℕ) → w ≡ m * p → p < w → 2 ≤ m
    two_or_more zero e above = absurd (omega arith)
    two_or_more (suc zero) e above = absurd (omega arith)
    two_or_more (suc (suc m)) e above = omega arith

pub next_unique : (n a b : ℕ) → IsNextPowerOfTwo n a → IsNextPowerOfTwo n b → a ≡ b
next_unique n a b x y =
    omega (arith, next_least n a b x y.0 y.1, next_least n b a y x.0 x.1)

-- At a multiple of it no more is needed than there are nops.
pub filled_by : (power nops w at : ℕ) → IsPowerOfTwo power → IsNextPowerOfTwo (power - nops) w → Multiple w at → needed power at ≤ nops
filled_by power nops w at is next address =
    let some = pow_pos is.0 in
    let e = is.1 in
    let below = needed_below power at (omega arith) in
    let parts = multiple_of w power (power_divides w power next.0 is (next_least (power - nops) w power next is (omega arith))) in
    let need = less_multiple w (needed power at + at) at (of_multiple w power (needed power at + at) parts (needed_fills power at (omega arith))) address in
    let f = need.1 in
    let g = parts.1 in
    omega (arith, next_multiple need.0 parts.0 w (omega arith), next.1)
