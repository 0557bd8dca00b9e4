-- The deletions of a relaxed run translate offsets as the layout does.
use Rattle.linker_runs.proofs.Imports.{Aligned, AreInOrder, AreItems, Item, ItemSuits, List, Site, TranslationsAreExact, ap, arith, cases_lt, choice_of, deletion_at, deletions_before, end_of, freed_before, get_or, inl, item_at, kept_by, least_len, len_of, length, offset_of, place_of, rank, rank-removed, removed, removed_by, run_granularity, suc, sum_by-append, sym, target_of, zero, ℕ, ⊎_elim, ◌+◌, ◌-◌, ◌<◌, ◌∙◌, ◌≡◌, ◌≤◌}
use Rattle.linker_runs.proofs.Units.{item_suits}
use Rattle.linker_runs.proofs.Layouts.{freed_next, freed_none, ends_ascend}
use Rattle.linker_runs.proofs.Bounds.{lens_ascend}
use Rattle.linker_runs.proofs.Choices.{place_is}
use Rattle.linker_runs.proofs.Deletions.{deletions_none, deletions_next, deletion_some, deletion_none, deletions_valid}

-- what one item loses below an offset
removed_whole : (item : Item) (kept offset : ℕ) → end_of item ≤ offset → removed (deletion_at item kept) offset ≡ len_of item - kept
removed_whole item kept offset h = ⊎_elim
    (λ (less : kept < len_of item).
    omega (arith, ap (λ ds. removed ds offset) (deletion_some item kept less)))
    (λ (all : len_of item ≤ kept).
    omega (arith, ap (λ ds. removed ds offset) (deletion_none item kept all)))
    (cases_lt kept (len_of item))

removed_nothing : (item : Item) (kept offset : ℕ) → offset ≤ offset_of item + kept → removed (deletion_at item kept) offset ≡ 0
removed_nothing item kept offset h = ⊎_elim
    (λ (less : kept < len_of item).
    omega (arith, ap (λ ds. removed ds offset) (deletion_some item kept less)))
    (λ (all : len_of item ≤ kept). ap (λ ds. removed ds offset) (deletion_none item kept all))
    (cases_lt kept (len_of item))

-- the bytes of each item that stay are those of the layout
abbrev pub KeepsLayout : ℕ → List Item → (ℕ → ℕ) → List ℕ → Type 0
KeepsLayout start items choice kept = (i : ℕ) → i < length items → get_or kept i 0 ≡ kept_by start (item_at items i) (choice i) (freed_before start items choice i)

removed_next : (items : List Item) (kept : List ℕ) (i offset : ℕ) → removed (deletions_before items kept (i + 1)) offset ≡ removed (deletions_before items kept i) offset + removed (deletion_at (item_at items i) (get_or kept i 0)) offset
removed_next items kept i offset = ap (λ ds. removed ds offset) (deletions_next items kept i) ∙ sum_by-append (removed_by offset) (deletions_before items kept i) (deletion_at (item_at items i) (get_or kept i 0))

-- the items that end at or below an offset lose all of their deletions below it
removed_below : (start : ℕ) (items : List Item) (choice : ℕ → ℕ) (kept : List ℕ) → KeepsLayout start items choice kept → (offset n : ℕ) → n ≤ length items → ((j : ℕ) → j < n → end_of (item_at items j) ≤ offset) → removed (deletions_before items kept n) offset ≡ freed_before start items choice n
removed_below start items choice kept keeps offset zero within below = ap (λ ds. removed ds offset) (deletions_none items kept) ∙ sym (freed_none start items choice)
removed_below start items choice kept keeps offset (suc i) within below =
    let rest = removed_below start items choice kept keeps offset i (omega arith) (λ j h. below j (omega arith)) in
    let here = removed_whole (item_at items i) (get_or kept i 0) offset (below i (omega arith)) in
    let step = removed_next items kept i offset in
    let z : suc i ≡ i + 1 = omega arith in
    omega (arith, freed_next start items choice i, keeps i (omega arith), ap (λ n. removed (deletions_before items kept n) offset) z, ap (freed_before start items choice) z)

-- and the others none
removed_past : (items : List Item) (kept : List ℕ) (offset p d : ℕ) → p + d ≤ length items → ((j : ℕ) → p ≤ j → j < length items → offset ≤ offset_of (item_at items j) + get_or kept j 0) → removed (deletions_before items kept (p + d)) offset ≡ removed (deletions_before items kept p) offset
removed_past items kept offset p zero within above = let z : p + 0 ≡ p = omega arith in ap (λ n. removed (deletions_before items kept n) offset) z
removed_past items kept offset p (suc d) within above =
    let here = removed_nothing (item_at items (p + d)) (get_or kept (p + d) 0) offset (above (p + d) (omega arith) (omega arith)) in
    let z : p + suc d ≡ p + d + 1 = omega arith in
    omega (arith, removed_past items kept offset p d (omega arith) above, removed_next items kept (p + d) offset, ap (λ n. removed (deletions_before items kept n) offset) z)

translated : (start : ℕ) (items : List Item) (choice : ℕ → ℕ) (kept : List ℕ) → AreInOrder start items → KeepsLayout start items choice kept → (offset p : ℕ) → p ≤ length items
    → ((j : ℕ) → j < p → end_of (item_at items j) ≤ offset) → ((j : ℕ) → p ≤ j → j < length items → offset ≤ offset_of (item_at items j) + get_or kept j 0)
    → rank (deletions_before items kept (length items)) offset ≡ offset - freed_before start items choice p
translated start items choice kept order keeps offset p within below above =
    let valid = deletions_valid start items kept order (length items) (omega arith) in
    let all = rank-removed (deletions_before items kept (length items)) offset (λ i j d lt there. inl (valid.ascending i j d lt there)) in
    let z : p + (length items - p) ≡ length items = omega arith in
    let a = ap (λ n. removed (deletions_before items kept n) offset) z in
    omega (arith, removed_past items kept offset p (length items - p) (omega arith) above, removed_below start items choice kept keeps offset p within below)

-- an item keeps no less than in each choice
keeps_least : (u start : ℕ) (item : Item) (k freed : ℕ) → ItemSuits u start item → least_len item ≤ kept_by start item k freed
keeps_least u start (Site site) k freed fit = let z : 0 + k ≡ k = omega arith in let a = ap (λ n. kept_by start (Site site) n freed) z in let h = lens_ascend u site.len site.shapes fit 0 k in omega arith
keeps_least u start (Aligned alignment) k freed fit = omega arith

-- offsets of items ascend
offsets_ascend : (start : ℕ) (items : List Item) → AreInOrder start items → (i j : ℕ) → i < j → j < length items → end_of (item_at items i) ≤ offset_of (item_at items j)
offsets_ascend start items order i j up within =
    let z : j - 1 + 1 ≡ j = omega arith in
    omega (arith, ends_ascend start items order i (j - 1) (omega arith) (omega arith), ap (λ n. offset_of (item_at items n)) z, order.apart (j - 1) (omega arith))

-- the same of any choice
pub translations_of : (start : ℕ) (items : List Item) (choice : ℕ → ℕ) (kept : List ℕ) → AreItems start items → KeepsLayout start items choice kept → (i : ℕ) → i < length items
    → (rank (deletions_before items kept (length items)) (offset_of (item_at items i)) ≡ offset_of (item_at items i) - freed_before start items choice i)
    × (rank (deletions_before items kept (length items)) (target_of (item_at items i)) ≡ target_of (item_at items i) - freed_before start items choice (place_of items (target_of (item_at items i))))
translations_of start items choice kept are keeps i within =
    let order = are.in_order in
    let target = target_of (item_at items i) in
    let place = place_is start items order target in (
      translated start items choice kept order keeps (offset_of (item_at items i)) i (omega arith)
          (λ j h. offsets_ascend start items order j i h within)
          (λ j h there. ⊎_elim
          (λ (after : i < j). let g = offsets_ascend start items order i j after there in omega arith)
          (λ (same : j ≤ i). let e : j ≡ i = omega arith in let a = ap (λ n. offset_of (item_at items n)) e in omega arith)
          (cases_lt i j)),
      translated start items choice kept order keeps target (place_of items target) place.within place.below
          (λ j h there. ⊎_elim
          (λ (into : target ≤ offset_of (item_at items j) + least_len (item_at items j)).
          omega (arith, keeps_least (run_granularity items) start (item_at items j) (choice j) (freed_before start items choice j) (item_suits start items are j there), keeps j there))
          (λ (ended : end_of (item_at items j) ≤ target). let o = place.others j h there in absurd (omega arith))
          (are.clear i j within there)),
    )

pub translations_exact : TranslationsAreExact
translations_exact start items shapes kept freed are is i within = translations_of start items (choice_of shapes) kept are is.kept_bytes.each i within
