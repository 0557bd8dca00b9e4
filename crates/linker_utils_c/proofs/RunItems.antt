-- Runs of items as C passes them, and the deltas of what they lose.
use Rattle.linker_utils_c.proofs.Imports.{AreInOrder, Bool, List, RecordsDeletions, RecordsDeletions-push, RelaxDelta, [], ap, append-nil, arith, bytes_of, bytes_of-take_fit, cond, deletion_none, deletion_of, deletion_some, deletions_before, deletions_next, deletions_none, deletions_valid, false, get_or, get_or-map, item_at, item_of, items_in, len_of, length, no_item, offset_of, refl, set, subst, sum_by-append, sym, take, take_all, take_more_set, true, ℕ, ◌++◌, ◌+◌, ◌-◌, ◌<◌, ◌^◌, ◌∙◌, ◌∷◌, ◌≡◌, ◌≤◌}
use Rattle.std.specs.Prelude.{◌==◌}
use Rattle.linker_runs.specs.declared.relaxation.Item.{Item}
use Rattle.linker_runs.specs.declared.items.numbers.ItemNumbers.{ItemNumbers}

-- what a read past the end gives
abbrev pub no_numbers : ItemNumbers
no_numbers = record {
  offset = 0;
  target = 0;
  alignment = 0;
  max_skip = 0;
  len = 0;
  kind = 0;
  shapes = record { short = []; longest = 0; count = 0 };
}

-- the item at a place is that of the struct there
pub item_in : (items : List ItemNumbers) (k : ℕ) → k < length items → item_at (items_in items) k ≡ item_of (get_or items k no_numbers)
item_in items k within = get_or-map item_of items k no_numbers no_item within

either : {A : Type 0} (f : Item → A) (b : Bool) (x y : Item) (a : A) → f x ≡ a → f y ≡ a → f (cond b x y) ≡ a
either f true x y a e g = e
either f false x y a e g = g

pub offset_in : (numbers : ItemNumbers) → offset_of (item_of numbers) ≡ numbers.offset
offset_in numbers = either offset_of (numbers.kind == 0) _ _ numbers.offset refl refl

pub len_in : (numbers : ItemNumbers) → len_of (item_of numbers) ≡ numbers.len
len_in numbers = either len_of (numbers.kind == 0) _ _ numbers.len refl refl

-- the deletions before an item that loses bytes, with its own
pub run_next : (items : List Item) (kept : List ℕ) (i : ℕ) → get_or kept i 0 < len_of (item_at items i) → deletions_before items kept (i + 1) ≡ deletions_before items kept i ++ (offset_of (item_at items i) + get_or kept i 0, len_of (item_at items i) - get_or kept i 0) ∷ []
run_next items kept i less = deletions_next items kept i ∙ ap (λ xs. deletions_before items kept i ++ xs) (deletion_some (item_at items i) (get_or kept i 0) less)

-- an item that loses none has none
pub run_same : (items : List Item) (kept : List ℕ) (i : ℕ) → len_of (item_at items i) ≤ get_or kept i 0 → deletions_before items kept (i + 1) ≡ deletions_before items kept i
run_same items kept i all = deletions_next items kept i ∙ ap (λ xs. deletions_before items kept i ++ xs) (deletion_none (item_at items i) (get_or kept i 0) all) ∙ append-nil (deletions_before items kept i)

-- the bytes with those of an item that loses some, which 64 bits hold
pub run_sum : (start : ℕ) (items : List Item) (kept : List ℕ) (i : ℕ) → AreInOrder start items → i < length items → get_or kept i 0 < len_of (item_at items i) → (bytes_of (deletions_before items kept (i + 1)) ≡ bytes_of (deletions_before items kept i) + (len_of (item_at items i) - get_or kept i 0)) × (bytes_of (deletions_before items kept (i + 1)) < 2 ^ 64)
run_sum start items kept i order within less =
    let ds = deletions_before items kept i in
    let all = deletions_before items kept (i + 1) in
    let own : List (ℕ × ℕ) = (offset_of (item_at items i) + get_or kept i 0, len_of (item_at items i) - get_or kept i 0) ∷ [] in
    let valid = deletions_valid start items kept order (i + 1) (omega arith) in
    let fits = bytes_of-take_fit all (length all) valid in
    let whole : take (length all) all ≡ all = take_all (length all) all (omega arith) in
    let more = sum_by-append (λ (d : ℕ × ℕ). d.1) ds own in
    let last : bytes_of own ≡ len_of (item_at items i) - get_or kept i 0 = omega arith in
    (ap bytes_of (run_next items kept i less) ∙ more ∙ ap (λ n. bytes_of ds + n) last, subst (λ xs. bytes_of xs < 2 ^ 64) whole fits)

-- one more delta
pub run_listed : (items : List Item) (kept : List ℕ) (i k : ℕ) (deltas : List RelaxDelta) (delta : RelaxDelta) → get_or kept i 0 < len_of (item_at items i) → k < length deltas → RecordsDeletions (deletions_before items kept i) (take k deltas) → deletion_of delta ≡ (offset_of (item_at items i) + get_or kept i 0, len_of (item_at items i) - get_or kept i 0) → delta.cumulative_deleted ≡ bytes_of (deletions_before items kept i) + delta.bytes_deleted → RecordsDeletions (deletions_before items kept (i + 1)) (take (k + 1) (set deltas k delta))
run_listed items kept i k deltas delta less within listing same sum =
    let ds = deletions_before items kept i in
    let pushed = RecordsDeletions-push ds (take k deltas) delta listing sum in
    subst (λ xs. RecordsDeletions xs (take (k + 1) (set deltas k delta))) (sym (run_next items kept i less ∙ ap (λ d. ds ++ d ∷ []) (sym same)))
    (subst (λ ys. RecordsDeletions (ds ++ deletion_of delta ∷ []) ys) (sym (take_more_set deltas k delta within)) pushed)

pub run_none : (items : List Item) (kept : List ℕ) → RecordsDeletions (deletions_before items kept 0) []
run_none items kept = subst (λ xs. RecordsDeletions xs []) (sym (deletions_none items kept)) (record { same = refl; sums = λ k d within. absurd (omega arith) })
