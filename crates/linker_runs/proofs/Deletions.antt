-- The deletions of a run are valid, and translate offsets as the layout does.
use Rattle.linker_runs.proofs.Imports.{AreInOrder, IsValid, Item, List, [], add-one, ap, append-nil, arith, cases_lt, common_steps, cond, deletion_at, deletions_before, end_of, false, get_or, item_at, len_of, length, length-append, nat_lt, nat_tests, offset_of, refl, subst, suc, sym, true, zero, ℕ, ⊎_elim, ◌++◌, ◌+◌, ◌-◌, ◌<◌, ◌^◌, ◌∙◌, ◌∷◌, ◌≡◌, ◌≤◌}
use Rattle.linker_base.proofs.Listed.{IsValid-push, IsValid-nil}

pub deletions_none : (items : List Item) (kept : List ℕ) → deletions_before items kept 0 ≡ []
unfolding deletions_before
deletions_none items kept = refl

pub deletions_next : (items : List Item) (kept : List ℕ) (i : ℕ) → deletions_before items kept (i + 1) ≡ deletions_before items kept i ++ deletion_at (item_at items i) (get_or kept i 0)
unfolding deletions_before
deletions_next items kept i = rw add-one refl

-- an item that loses bytes has a deletion, and another none
pub deletion_some : (item : Item) (kept : ℕ) → kept < len_of item → deletion_at item kept ≡ (offset_of item + kept, len_of item - kept) ∷ []
deletion_some item kept h = let e : nat_lt kept (len_of item) ≡ true = grind (arith, nat_tests) in ap (λ b. cond b ((offset_of item + kept, len_of item - kept) ∷ []) []) e

pub deletion_none : (item : Item) (kept : ℕ) → len_of item ≤ kept → deletion_at item kept ≡ []
deletion_none item kept h = let e : nat_lt kept (len_of item) ≡ false = grind (arith, nat_tests) in ap (λ b. cond b ((offset_of item + kept, len_of item - kept) ∷ []) []) e

-- a valid list, whose last deletion has bytes and ends at or below an offset
record EndsBy (ds : List (ℕ × ℕ)) (offset : ℕ) : Type 0 where
  valid : IsValid ds
  last : (e : ℕ × ℕ) → 0 < length ds → ((get_or ds (length ds - 1) e).0 + (get_or ds (length ds - 1) e).1 ≤ offset) × (0 < (get_or ds (length ds - 1) e).1)

ends_more : (ds : List (ℕ × ℕ)) (a b : ℕ) → a ≤ b → EndsBy ds a → EndsBy ds b
ends_more ds a b up h = record { valid = h.valid; last = λ e some. (let l = h.last e some in (omega arith, l.1)) }

ends_push : (ds : List (ℕ × ℕ)) (offset at bytes : ℕ) → EndsBy ds offset → offset ≤ at → 0 < bytes → at + bytes < 2 ^ 64 → EndsBy (ds ++ (at, bytes) ∷ []) (at + bytes)
ends_push ds offset at bytes h up some fits = record {
  valid = IsValid-push ds (at, bytes) h.valid fits (λ e there. (let l = h.last e there in (omega arith, omega arith)));
  last = λ e there.
      let long = length-append ds ((at, bytes) ∷ []) in
      let z : length (ds ++ (at, bytes) ∷ []) - 1 ≡ length ds = omega arith in
      let g : get_or (ds ++ (at, bytes) ∷ []) (length ds) e ≡ (at, bytes) = grind (arith, common_steps) in
      let f : get_or (ds ++ (at, bytes) ∷ []) (length (ds ++ (at, bytes) ∷ []) - 1) e ≡ (at, bytes) = ap (λ n. get_or (ds ++ (at, bytes) ∷ []) n e) z ∙ g in
      (omega (arith, ap (λ (d : ℕ × ℕ). d.0) f, ap (λ (d : ℕ × ℕ). d.1) f), omega (arith, ap (λ (d : ℕ × ℕ). d.0) f, ap (λ (d : ℕ × ℕ). d.1) f));
}

-- one item more
ends_item : (start : ℕ) (items : List Item) (kept : List ℕ) (i offset : ℕ) → AreInOrder start items → i < length items → offset ≤ offset_of (item_at items i) → EndsBy (deletions_before items kept i) offset → EndsBy (deletions_before items kept (i + 1)) (end_of (item_at items i))
ends_item start items kept i offset order within up h =
    let item = item_at items i in
    let ds = deletions_before items kept i in
    let next = deletions_next items kept i in
    ⊎_elim
    (λ (less : get_or kept i 0 < len_of item).
    let e = next ∙ ap (λ xs. ds ++ xs) (deletion_some item (get_or kept i 0) less) in
    let fits = order.ends i within in
    let pushed = ends_push ds offset (offset_of item + get_or kept i 0) (len_of item - get_or kept i 0) h (omega arith) (omega arith) (omega arith) in
    subst (λ xs. EndsBy xs (end_of item)) (sym e) (ends_more (ds ++ (offset_of item + get_or kept i 0, len_of item - get_or kept i 0) ∷ []) (offset_of item + get_or kept i 0 + (len_of item - get_or kept i 0)) (end_of item) (omega arith) pushed))
    (λ (all : len_of item ≤ get_or kept i 0).
    subst (λ xs. EndsBy xs (end_of item)) (sym (next ∙ ap (λ xs. ds ++ xs) (deletion_none item (get_or kept i 0) all) ∙ append-nil ds)) (ends_more ds offset (end_of item) (omega arith) h))
    (cases_lt (get_or kept i 0) (len_of item))

ends_all : (start : ℕ) (items : List Item) (kept : List ℕ) → AreInOrder start items → (i : ℕ) → i < length items → EndsBy (deletions_before items kept (i + 1)) (end_of (item_at items i))
ends_all start items kept order zero within =
    ends_item start items kept 0 0 order within (omega arith) (subst (λ xs. EndsBy xs 0) (sym (deletions_none items kept)) (record { valid = IsValid-nil; last = λ e some. absurd (omega arith) }))
ends_all start items kept order (suc i) within =
    let rest = ends_all start items kept order i (omega arith) in
    let apart = order.apart i (omega arith) in
    let z : suc i ≡ i + 1 = omega arith in
    let a = ap (λ n. offset_of (item_at items n)) z in
    ends_item start items kept (suc i) (end_of (item_at items i)) order within (omega arith) (subst (λ n. EndsBy (deletions_before items kept n) (end_of (item_at items i))) (sym z) rest)

pub deletions_valid : (start : ℕ) (items : List Item) (kept : List ℕ) → AreInOrder start items → (n : ℕ) → n ≤ length items → IsValid (deletions_before items kept n)
deletions_valid start items kept order zero within = subst IsValid (sym (deletions_none items kept)) IsValid-nil
deletions_valid start items kept order (suc i) within =
    let z : suc i ≡ i + 1 = omega arith in
    subst (λ n. IsValid (deletions_before items kept n)) (sym z) (ends_all start items kept order i (omega arith)).valid
