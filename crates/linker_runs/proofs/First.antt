-- The bytes that stay of an item of a relaxed run are its first ones.
use Rattle.linker_runs.proofs.Imports.{Aligned, AreInOrder, Bool, IsSound, Item, List, None, Option, Site, Some, ap, arith, cases_Bool, cases_lt, choice_of, cond-false, cond-true, covers, deletion_at, deletions_before, end_of, false, false≢true, freed_before, get_or, is_kept, item_at, kept_by, leb-true, len_of, length, limit_of, ltb-true, nat_le, nat_lt, nat_tests, needed, not, offset_of, rank, rank-gone, rank-kept, refl, short_shape, sym, true, ℕ, ⊎_elim, ◌+◌, ◌-◌, ◌<◌, ◌∙◌, ◌≡◌, ◌≤◌}
use Rattle.linker_runs.proofs.Layouts.{ends_ascend}
use Rattle.linker_runs.specs.FirstBytes.{FirstBytesAreKept}
use Rattle.linker_runs.proofs.Covering.{takes, losing, lost}
use Rattle.linker_runs.proofs.Reaching.{loses_some, loses_none}

-- ---- what an item loses

lost_from : (item : Item) (kept p : ℕ) → takes (deletion_at item kept) p ≡ true → (offset_of item + kept ≤ p) × (p < end_of item)
lost_from item kept p h = ⊎_elim
    (λ (less : kept < len_of item).
    let c : covers (offset_of item + kept, len_of item - kept) p ≡ true = sym (loses_some item kept p less) ∙ h in
    (grind (arith, nat_tests, c), grind (arith, nat_tests, c)))
    (λ (all : len_of item ≤ kept). absurd (false≢true (sym (loses_none item kept p all) ∙ h)))
    (cases_lt kept (len_of item))

lost_there : (item : Item) (kept p : ℕ) → offset_of item + kept ≤ p → p < end_of item → takes (deletion_at item kept) p ≡ true
lost_there item kept p low high =
    loses_some item kept p (omega arith) ∙ (let c : covers (offset_of item + kept, len_of item - kept) p ≡ true = grind (arith, nat_tests) in c)

-- an item keeps no more bytes than it has
kept_most : (start : ℕ) (item : Item) (k freed : ℕ) → IsSound item → kept_by start item k freed ≤ len_of item
kept_most start (Site site) k freed sound = ⊎_elim
    (λ (short : nat_lt k site.shapes.count ≡ true).
    omega (arith, (cond-true (nat_lt k site.shapes.count) (short_shape site.shapes k).kept site.shapes.longest short), (sound.2 k (ltb-true k site.shapes.count short))))
    (λ (long : nat_lt k site.shapes.count ≡ false).
    omega (arith, (cond-false (nat_lt k site.shapes.count) (short_shape site.shapes k).kept site.shapes.longest long), sound.1))
    (cases_Bool (nat_lt k site.shapes.count))
kept_most start (Aligned alignment) k freed sound =
    let need = needed alignment.alignment (start + alignment.offset - freed) in
    let limit = limit_of alignment.nops alignment.max_skip in
    ⊎_elim
    (λ (fits : nat_le need limit ≡ true).
    omega (arith, (cond-true (nat_le need limit) need 0 fits), leb-true need limit fits, limited alignment.max_skip))
    (λ (more : nat_le need limit ≡ false). let e = cond-false (nat_le need limit) need 0 more in omega (arith, e))
    (cases_Bool (nat_le need limit))
  where
    limited : (most : Option ℕ) → limit_of alignment.nops most ≤ alignment.nops
    limited None = omega arith
    limited (Some most) = omega arith

-- ---- what the run loses of it

not_taken : (b : Bool) → (b ≡ true → ⊥) → not b ≡ true
not_taken true h = absurd (h refl)
not_taken false h = refl

module _ (start : ℕ) (items : List Item) (kept : List ℕ) (order : AreInOrder start items) (i : ℕ) (within : i < length items)
    (most : get_or kept i 0 ≤ len_of (item_at items i)) where
  -- an item before this one ends at its offset or below
  before : (j : ℕ) → j < i → end_of (item_at items j) ≤ offset_of (item_at items i)
  before j up =
      let z : i - 1 + 1 ≡ i = omega arith in
      omega (arith, ends_ascend start items order j (i - 1) (omega arith) (omega arith), ap (λ n. offset_of (item_at items n)) z, order.apart (i - 1) (omega arith))

  -- and one after it begins at its end or above
  following : (j : ℕ) → i < j → j < length items → end_of (item_at items i) ≤ offset_of (item_at items j)
  following j up there =
      let z : j - 1 + 1 ≡ j = omega arith in
      omega (arith, ends_ascend start items order i (j - 1) (omega arith) (omega arith), ap (λ n. offset_of (item_at items n)) z, order.apart (j - 1) (omega arith))

  kept_there : (p : ℕ) → offset_of (item_at items i) ≤ p → p < offset_of (item_at items i) + get_or kept i 0
      → is_kept (deletions_before items kept (length items)) p ≡ true
  kept_there p low high =
      not_taken (takes (deletions_before items kept (length items)) p) (λ taken.
      let found = losing items kept p (length items) taken in
      let j = found.0 in
      let from = lost_from (item_at items j) (get_or kept j 0) p found.2 in
      ⊎_elim
      (λ (first : j < i). let up = before j first in omega (arith, low, up, from.1))
      (λ (later : i ≤ j). ⊎_elim
      (λ (after : i < j). let up = following j after found.1 in omega (arith, high, most, up, from.0))
      (λ (same : j ≤ i).
      let e : j ≡ i = omega (arith, later, same) in
      omega (arith, high, (ap (λ n. offset_of (item_at items n)) e), (ap (λ n. get_or kept n 0) e), from.0))
      (cases_lt i j))
      (cases_lt j i))

  gone_there : (p : ℕ) → offset_of (item_at items i) + get_or kept i 0 ≤ p → p < end_of (item_at items i)
      → is_kept (deletions_before items kept (length items)) p ≡ false
  gone_there p low high = ap not (lost items kept p (length items) i within (lost_there (item_at items i) (get_or kept i 0) p low high))

  pub first : rank (deletions_before items kept (length items)) (offset_of (item_at items i) + get_or kept i 0)
      ≡ rank (deletions_before items kept (length items)) (offset_of (item_at items i)) + get_or kept i 0
  first = rank-kept (deletions_before items kept (length items)) (offset_of (item_at items i)) (get_or kept i 0) kept_there

  pub whole : rank (deletions_before items kept (length items)) (end_of (item_at items i))
      ≡ rank (deletions_before items kept (length items)) (offset_of (item_at items i)) + get_or kept i 0
  whole =
      let z : end_of (item_at items i) ≡ offset_of (item_at items i) + get_or kept i 0 + (len_of (item_at items i) - get_or kept i 0) = omega (arith, most) in
      ap (rank (deletions_before items kept (length items))) z
      ∙ rank-gone (deletions_before items kept (length items)) (offset_of (item_at items i) + get_or kept i 0) (len_of (item_at items i) - get_or kept i 0)
      (λ p low high. gone_there p low (omega (arith, high, z)))
      ∙ first

-- ---- the law

pub first_bytes : FirstBytesAreKept
first_bytes start items shapes kept freed are is i within =
    let order = are.in_order in
    let item = item_at items i in
    let most : get_or kept i 0 ≤ len_of (item_at items i) =
    omega (arith, (kept_most start (item_at items i) (choice_of shapes i) (freed_before start items (choice_of shapes) i) (order.sound i within)), (is.kept_bytes.each i within)) in
    let d = deletions_before items kept (length items) in
    let len : rank d (end_of item) - rank d (offset_of item) ≡ get_or kept i 0 = omega (arith, (whole start items kept order i within most)) in (
      len,
      λ machine bytes base unwritable. unwritable
          (ap (λ n. rank d (offset_of item + n)) len ∙ (first start items kept order i within most) ∙ ap (λ n. rank d (offset_of item) + n) (sym len)),
    )
