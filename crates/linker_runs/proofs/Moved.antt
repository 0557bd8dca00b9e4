-- The relocations of a packed section.
use Rattle.linker_runs.proofs.Imports.{AreApart, BeginsAt, IsApart, Item, List, None, Some, ap, arith, cases_Bool, cases_order, cond-true, drop, drop-append-le, end_of, false, inl, inr, is_kept, item_at, length, length-drop, nat_lt, nat_tests, offset_of, place_of, rank, rank_gone, rank_kept, relocation_in, relocation_of, sym, take, take-append-le, true, ℕ, ⊎_elim, ◌*◌, ◌++◌, ◌+◌, ◌-◌, ◌/◌, ◌<◌, ◌∙◌, ◌≡◌, ◌≢◌, ◌≤◌, ◌⊎◌}
use Rattle.linker_runs.proofs.Choices.{place_apart}
use Rattle.linker_runs.proofs.Layouts.{ends_apart}
use Rattle.linker_section.specs.Relocations.{relocation_at}
use Rattle.linker_section.proofs.Fielded.{next_index}

-- ---- items

-- items that can be written are apart
pub apart_items : (items : List Item) → ((i : ℕ) → i < length items → IsApart items i) → AreApart items
apart_items items apart i within =
    let z : i + 1 - 1 ≡ i = omega arith in
    omega (arith, ap (λ n. end_of (item_at items n)) z, apart (i + 1) within (omega arith))

module _ (items : List Item) (apart : AreApart items) (o p : ℕ) (is : p ≡ place_of items o) where
  place_below : (i : ℕ) → i < p → end_of (item_at items i) ≤ o
  place_below i below = (place_apart items apart o).below i (omega arith)

  -- after the place no item begins
  pub none_past : length items ≤ p → (i : ℕ) → i < length items → ¬ BeginsAt (item_at items i) o
  none_past past i within begins = let h = place_below i (omega arith) in absurd (omega (arith, h, begins.1))

  -- where the item there doesn't, none does
  pub none_at : p < length items → (offset_of (item_at items p) ≢ o) → (i : ℕ) → i < length items → ¬ BeginsAt (item_at items i) o
  none_at inside other i within begins = ⊎_elim
      (λ (same : i ≡ p). other (ap (λ n. offset_of (item_at items n)) (sym same) ∙ begins.0))
      (λ (apart_case : (i < p) ⊎ (p < i)). ⊎_elim
      (λ (below : i < p). let h = place_below i below in absurd (omega (arith, h, begins.1)))
      (λ (above : p < i).
      let past = (place_apart items apart o).others p (omega arith) inside in
      let z : i - 1 + 1 ≡ i = omega arith in
      absurd (omega (arith, past, (ends_apart items apart p (i - 1) (omega arith) (omega arith)), (ap (λ n. offset_of (item_at items n)) z), (apart (i - 1) (omega arith)), begins.0)))
      apart_case)
      (cases_order i p)

  pub some_at : p < length items → offset_of (item_at items p) ≡ o → BeginsAt (item_at items p) o
  some_at inside here = (here, (place_apart items apart o).others p (omega arith) inside)

-- ---- bytes that stay

pub gone_of : (ds : List (ℕ × ℕ)) (p n : ℕ) → n ≡ p + 1 → rank ds n ≡ rank ds p → is_kept ds p ≡ false
gone_of ds p n is same = elim (cases_Bool (is_kept ds p)) [
  | inl kept ↦ absurd (omega (arith, rank_kept ds p kept, ap (rank ds) (is ∙ next_index p), same))
  | inr gone ↦ gone
]

pub kept_of : (ds : List (ℕ × ℕ)) (p n : ℕ) → n ≡ p + 1 → (rank ds n ≡ rank ds p → ⊥) → is_kept ds p ≡ true
kept_of ds p n is other = elim (cases_Bool (is_kept ds p)) [
  | inl kept ↦ kept
  | inr gone ↦ absurd (other (ap (rank ds) (is ∙ next_index p) ∙ rank_gone ds p gone))
]

-- ---- relocations in their bytes

pub there_at : (xs : List ℕ) (i : ℕ) → i < length xs / 24 → relocation_at xs i ≡ Some (relocation_in xs i)
there_at xs i low =
    cond-true (nat_lt i (length xs / 24)) (Some (relocation_in xs i)) None (grind (arith, nat_tests))

-- those of the first bytes
pub front_in : (xs ys : List ℕ) (i : ℕ) → i < length xs / 24 → relocation_in (xs ++ ys) i ≡ relocation_in xs i
front_in xs ys i low =
    ap (λ bytes. relocation_of (take 24 bytes)) (drop-append-le (i * 24) xs ys (omega (arith, length-drop (i * 24) xs, low)))
    ∙ ap relocation_of (take-append-le 24 (drop (i * 24) xs) ys (omega (arith, length-drop (i * 24) xs, low)))
