-- What a call loses, and what its `jal` reaches.
use Rattle.linker_runs.proofs.Imports.{Aligned, Bool, IsCallItem, IsDeletedItem, IsEven, IsJalDistance, IsSite, Item, Site, ap, arith, call_shapes, cases_lt, cond, covers, deletion_at, false, ints, item_reaches, kept_by, len_of, nat_lt, nat_tests, offset_of, pos, refl, shape_len, shape_reaches, shrinking, sym, target_of, true, ℕ, ⊎_elim, ◌+◌, ◌-ℤ◌, ◌-◌, ◌<◌, ◌||◌, ◌↔◌, ◌∙◌, ◌≡◌, ◌≤◌}
use Rattle.linker_runs.proofs.Deletions.{deletion_some, deletion_none}
use Rattle.linker_runs.proofs.Covering.{takes}
use Rattle.linker_runs.proofs.Reaches.{reached_is, is_within, twos}

or_none : (a : Bool) → (a || false) ≡ a
or_none true = refl
or_none false = refl

covers_same : (p a b c d : ℕ) → a ≡ c → b ≡ d → covers (a, b) p ≡ covers (c, d) p
covers_same p a b c d e f = ap (λ x. covers (x, b) p) e ∙ ap (λ y. covers (c, y) p) f

pub loses_some : (item : Item) (kept p : ℕ) → kept < len_of item → takes (deletion_at item kept) p ≡ covers (offset_of item + kept, len_of item - kept) p
loses_some item kept p less = ap (λ ds. takes ds p) (deletion_some item kept less) ∙ or_none (covers (offset_of item + kept, len_of item - kept) p)

pub loses_none : (item : Item) (kept p : ℕ) → len_of item ≤ kept → takes (deletion_at item kept) p ≡ false
loses_none item kept p all = ap (λ ds. takes ds p) (deletion_none item kept all)

-- a call that has its `jal` loses its last four bytes
pub call_loses : (start : ℕ) (item : Item) (call : ℕ × ℕ) (k freed kept p : ℕ) → IsCallItem call item → kept ≡ kept_by start item k freed → k ≡ 0 → takes (deletion_at item kept) p ≡ covers (shrinking call) p
call_loses start (Site site) call k freed kept p is keeps short =
    let four : kept ≡ 4 = keeps ∙ ap (λ s. shape_len s k) is.3 ∙ ap (shape_len call_shapes) short in
    let offset = is.0 in
    let len = is.2 in
    loses_some (Site site) kept p (omega arith) ∙ covers_same p (site.offset + kept) (site.len - kept) (call.0 + 4) 4 (omega arith) (omega arith)
call_loses start (Aligned alignment) call k freed kept p is keeps short = absurd is

-- and another none
pub call_keeps : (start : ℕ) (item : Item) (call : ℕ × ℕ) (k freed kept p : ℕ) → IsCallItem call item → kept ≡ kept_by start item k freed → 0 < k → takes (deletion_at item kept) p ≡ false
call_keeps start (Site site) call k freed kept p is keeps long =
    let past : nat_lt k 1 ≡ false = grind (arith, nat_tests) in
    let eight : kept ≡ 8 = keeps ∙ ap (λ s. shape_len s k) is.3 ∙ grind (arith, nat_tests) in
    loses_none (Site site) kept p (omega (arith, is.2))
call_keeps start (Aligned alignment) call k freed kept p is keeps long = absurd is

-- a decided deletion loses all
pub deleted_loses : (start : ℕ) (item : Item) (deletion : ℕ × ℕ) (k freed kept p : ℕ) → IsDeletedItem deletion item → kept ≡ kept_by start item k freed → takes (deletion_at item kept) p ≡ covers deletion p
deleted_loses start (Site site) deletion k freed kept p is keeps =
    let nothing : kept ≡ 0 = keeps ∙ is.2 k in
    let offset = is.0 in
    let len = is.1 in
    ⊎_elim
    (λ (some : 0 < site.len). loses_some (Site site) kept p (omega arith) ∙ covers_same p (site.offset + kept) (site.len - kept) deletion.0 deletion.1 (omega arith) (omega arith))
    (λ (empty : site.len ≤ 0). loses_none (Site site) kept p (omega arith) ∙ sym (covers_nothing deletion.0 deletion.1 p (omega arith)))
    (cases_lt 0 site.len)
  where
    covers_nothing : (a b p : ℕ) → b ≡ 0 → covers (a, b) p ≡ false
    covers_nothing a b p e = grind (arith, nat_tests)
deleted_loses start (Aligned alignment) deletion k freed kept p is keeps = absurd is

pub jal_reaches : (from to : ℕ) → (shape_reaches call_shapes 0 from to ≡ true) ↔ (IsEven (pos to -ℤ pos from) × IsJalDistance (pos to -ℤ pos from))
jal_reaches from to = (
  λ h. (let r = reached_is 4 1048576 2 twos from to h in let above = r.1 in let below = r.2 in (r.0, (omega (arith, ints), omega (arith, ints)))),
  λ h. is_within 4 1048576 2 twos from to h.0 (omega (arith, ints, h.1.1)) (omega (arith, ints, h.1.0)),
)

-- the item of a call, whatever it reaches
pub call_reaches : (item : Item) (call : ℕ × ℕ) (k here there : ℕ) → IsCallItem call item → k ≡ 0 → item_reaches item k here there ≡ shape_reaches call_shapes 0 (offset_of item - here) (target_of item - there)
call_reaches (Site site) call k here there is short = ap (λ s. shape_reaches s k (site.offset - here) (target_of (Site site) - there)) is.3 ∙ ap (λ n. shape_reaches call_shapes n (site.offset - here) (target_of (Site site) - there)) short
call_reaches (Aligned alignment) call k here there is short = absurd is

pub long_reaches : (item : Item) (call : ℕ × ℕ) (k here there : ℕ) → IsCallItem call item → 0 < k → item_reaches item k here there ≡ true
long_reaches (Site site) call k here there is long = ap (λ s. shape_reaches s k (site.offset - here) (target_of (Site site) - there)) is.3 ∙ grind (arith, nat_tests)
long_reaches (Aligned alignment) call k here there is long = absurd is

pub deleted_reaches : (item : Item) (deletion : ℕ × ℕ) (k here there : ℕ) → IsDeletedItem deletion item → item_reaches item k here there ≡ true
deleted_reaches (Site site) deletion k here there is = is.3 k (site.offset - here) (target_of (Site site) - there)
deleted_reaches (Aligned alignment) deletion k here there is = absurd is

pub call_place : (item : Item) (call : ℕ × ℕ) → IsCallItem call item → (offset_of item ≡ call.0) × (target_of item ≡ call.1) × IsSite item
call_place (Site site) call is = (is.0, ap (λ s. cond (nat_lt 0 s.count) site.target site.offset) is.3 ∙ is.1, tt)
call_place (Aligned alignment) call is = absurd is

pub deleted_site : (item : Item) (deletion : ℕ × ℕ) → IsDeletedItem deletion item → IsSite item
deleted_site (Site site) deletion is = tt
deleted_site (Aligned alignment) deletion is = absurd is
