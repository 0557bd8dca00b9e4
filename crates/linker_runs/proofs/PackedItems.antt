-- What is written of each item.
use Rattle.linker_runs.proofs.Imports.{Aligned, AreReady, DeletedOutside, IsApart, IsCause, IsFilledTo, IsInReach, IsInside, IsNotIn, IsPackedRun, IsPieceOf, IsSomeAnd, IsUnwritable, IsWhole, IsWritable, IsWrittenTo, Item, ItemAccepts, ItemBecomes, ItemCause, ItemError, KeepsGap, List, LoongArch64, LosesItems, Machine, NoShape, NotItsFirstBytes, NotItsInstructions, OutOfReach, OutOfSection, Overlaps, RiscV, RiscVAccepts, RiscVCause, Section, Site, ap, append_assoc, arith, cases_Bool, cases_lt, drop, drop_at, end_of, false, gap_start, get_or, get_or-append_right, get_or-drop, get_or-take, get_or_default, if◌then◌else◌, inl, inr, is_fixed, is_kept, item_at, kept_len, len_of, length, length-append, length-drop, length-take, offset_of, packed_offset, piece_bytes, put_below, rank, rank-mono, rank_kept, rank_steps, refl, riscv_template, same_lists, subst, suc, sym, take, take_at, true, written_len, zero, ℕ, ◌++◌, ◌+◌, ◌-◌, ◌<◌, ◌↔◌, ◌∙◌, ◌≡◌, ◌≤◌}
use Rattle.linker_runs.proofs.LoongArch.{loongarch_excludes}
use Rattle.linker_runs.specs.declared.packing.Piece.{Piece}
use Rattle.linker_runs.proofs.Sites.{both_some, in_reach}

-- ---- what is accepted isn't rejected

riscv_excludes : (machine : Machine) (section : List ℕ) (o kept place target : ℕ) (error : ItemError) → RiscVAccepts machine section o kept place target → RiscVCause machine section o kept place target error → ⊥
riscv_excludes machine section o kept place target NotItsInstructions a cause = cause a.call
riscv_excludes machine section o kept place target NoShape a cause = subst (λ t. IsSomeAnd t (λ t. IsInReach t place target)) cause.1 a.reached
riscv_excludes machine section o kept place target OutOfReach a cause = both_some (riscv_template machine section o kept) _ _ a.reached cause.1 (λ t p q. in_reach t place target p q)
riscv_excludes machine section o kept place target other a cause = cause

item_excludes : (machine : Machine) (s : Section) (item : Item) (kept : ℕ) (error : ItemError) → ItemAccepts machine s item kept → ItemCause machine s item kept error → ⊥
item_excludes (RiscV isa) s (Site site) kept NotItsInstructions a cause = riscv_excludes (RiscV isa) _ _ kept _ _ NotItsInstructions a.1 (cause a.0)
item_excludes (RiscV isa) s (Site site) kept other a cause = riscv_excludes (RiscV isa) _ _ kept _ _ other a.1 cause.1
item_excludes LoongArch64 s (Site site) kept NotItsInstructions a cause = loongarch_excludes _ _ kept _ _ NotItsInstructions a.1 (cause a.0)
item_excludes LoongArch64 s (Site site) kept other a cause = loongarch_excludes _ _ kept _ _ other a.1 cause.1
item_excludes machine s (Aligned alignment) kept NoShape a cause = cause a
item_excludes machine s (Aligned alignment) kept other a cause = cause

pub writable_excludes : (machine : Machine) (s : Section) (item : Item) (error : ItemError) → IsWritable machine s item → IsUnwritable machine s item error → ⊥
writable_excludes machine s item NotItsFirstBytes w u = u w.keeps
writable_excludes machine s item other w u = item_excludes machine s item _ other w.accepts u.1

-- an item in its place that isn't written
not_own : (machine : Machine) (s : Section) (item : Item) (kept : ℕ) → (ItemCause machine s item kept Overlaps → ⊥) × (ItemCause machine s item kept OutOfSection → ⊥) × (ItemCause machine s item kept DeletedOutside → ⊥)
not_own (RiscV _) s (Site site) kept = (λ c. c.1, λ c. c.1, λ c. c.1)
not_own LoongArch64 s (Site site) kept = (λ c. c.1, λ c. c.1, λ c. c.1)
not_own machine s (Aligned alignment) kept = (λ c. c, λ c. c, λ c. c)

pub cause_of : (machine : Machine) (s : Section) (items : List Item) (i : ℕ) (error : ItemError) → IsApart items i → IsInside s (item_at items i) → KeepsGap s items i → is_fixed (item_at items i) ≡ false → IsUnwritable machine s (item_at items i) error → IsCause machine s items i error
cause_of machine s items i Overlaps apart inside gap free u = absurd ((not_own machine s (item_at items i) _).0 u.1)
cause_of machine s items i OutOfSection apart inside gap free u = absurd ((not_own machine s (item_at items i) _).1 u.1)
cause_of machine s items i DeletedOutside apart inside gap free u = absurd ((not_own machine s (item_at items i) _).2 u.1)
cause_of machine s items i other apart inside gap free u = (apart, inside, gap, free, u)

-- the bytes before an item begin where the item before it ends
pub gap_next : (s : Section) (items : List Item) (i : ℕ) → gap_start s items (i + 1) ≡ end_of (item_at items i)
gap_next s items i = ap (gap_start s items) (let same : i + 1 ≡ suc i = omega arith in same)

gap_before : (s : Section) (items : List Item) (i : ℕ) → 0 < i → gap_start s items i ≡ end_of (item_at items (i - 1))
gap_before s items zero some = absurd (omega arith)
gap_before s items (suc i) some = ap (λ n. end_of (item_at items n)) (let same : i ≡ suc i - 1 = omega arith in same)

-- an item that begins there or above is apart from the one before
pub apart_from : (s : Section) (items : List Item) (i following : ℕ) → following ≡ gap_start s items i → (0 < i → following ≤ offset_of (item_at items i)) ↔ IsApart items i
apart_from s items i following is = (
  λ begins some. omega (arith, gap_before s items i some, is, begins some),
  λ apart some. omega (arith, gap_before s items i some, is, apart some),
)

-- where the bytes before an item begin, at or below it
pub gap_below : (s : Section) (items : List Item) (i : ℕ) → IsApart items i → IsInside s (item_at items i) → gap_start s items i ≤ offset_of (item_at items i)
gap_below s items zero apart inside = inside.0
gap_below s items (suc i) apart inside =
    let z : suc i - 1 ≡ i = omega arith in
    omega (arith, ap (λ n. end_of (item_at items n)) z, apart (omega arith))

-- ---- bytes put over others

module _ (xs ys : List ℕ) (at : ℕ) (room : at + length ys ≤ length xs) where
  front : length (take at xs) ≡ at
  front = length-take at xs ∙ omega arith

  both : length (take at xs ++ ys) ≡ at + length ys
  both = length-append (take at xs) ys ∙ omega (arith, front)

  pub put_above : (y : ℕ) → at + length ys ≤ y → get_or (take at xs ++ ys ++ drop (at + length ys) xs) y 0 ≡ get_or xs y 0
  put_above y high =
      get_or-append_right (take at xs ++ ys) (drop (at + length ys) xs) (at + length ys) y 0 both high
      ∙ get_or-drop (at + length ys) xs (y - (at + length ys)) 0
      ∙ ap (λ k. get_or xs k 0) (omega arith)

  pub window_at : take (length ys) (drop at (take at xs ++ ys ++ drop (at + length ys) xs)) ≡ ys
  window_at =
      ap (λ l. take (length ys) (drop at l)) (append_assoc (take at xs) ys (drop (at + length ys) xs))
      ∙ ap (take (length ys)) (drop_at (take at xs) (ys ++ drop (at + length ys) xs) at front)
      ∙ take_at ys (drop (at + length ys) xs) (length ys) refl

-- windows of lists that agree are the same
pub same_window : (xs ys : List ℕ) (o k : ℕ) → length xs ≡ length ys → ((y : ℕ) → y < o + k → get_or xs y 0 ≡ get_or ys y 0) → take k (drop o xs) ≡ take k (drop o ys)
same_window xs ys o k len same =
    let a = length-take k (drop o xs) in
    let b = length-take k (drop o ys) in
    let c = length-drop o xs in
    let d = length-drop o ys in
    same_lists (take k (drop o xs)) (take k (drop o ys)) (omega arith) (λ i e h.
    get_or_default (take k (drop o xs)) i e 0 h
    ∙ get_or-take k (drop o xs) i 0 (omega arith) ∙ get_or-drop o xs i 0
    ∙ same (o + i) (omega arith)
    ∙ sym (get_or_default (take k (drop o ys)) i e 0 (omega arith) ∙ get_or-take k (drop o ys) i 0 (omega arith) ∙ get_or-drop o ys i 0))

-- ---- items in their order

ends_below : (items : List Item) → ((i : ℕ) → i < length items → IsApart items i) → (i d : ℕ) → i + d + 1 < length items → end_of (item_at items i) ≤ offset_of (item_at items (i + d + 1))
ends_below items apart i zero within =
    let e = ap (λ n. end_of (item_at items n)) (let z : i + 0 + 1 - 1 ≡ i = omega arith in z) in
    omega (arith, apart (i + 0 + 1) within (omega arith))
ends_below items apart i (suc d) within =
    let e = ap (λ n. end_of (item_at items n)) (let z : i + suc d + 1 - 1 ≡ i + d + 1 = omega arith in z) in
    omega (arith, ends_below items apart i d (omega arith), apart (i + suc d + 1) within (omega arith))

pub earlier_ends : (items : List Item) → ((i : ℕ) → i < length items → IsApart items i) → (i n : ℕ) → i < n → n < length items → end_of (item_at items i) ≤ offset_of (item_at items n)
earlier_ends items apart i n below within =
    let z : i + (n - i - 1) + 1 ≡ n = omega arith in
    omega (arith, ends_below items apart i (n - i - 1) (omega arith), ap (λ m. offset_of (item_at items m)) z)

-- ---- one item

kept_within : (ds : List (ℕ × ℕ)) (item : Item) → kept_len ds item ≤ len_of item
kept_within ds item = let h = rank_steps ds (offset_of item) (len_of item) in omega arith

-- nothing of the section is written yet
pub written_start : (machine : Machine) (s : Section) (items : List Item) (p : List ℕ) → IsFilledTo s.deletions s.base s.bytes (s.base + length s.bytes) p → IsWrittenTo machine s items 0 p
written_start machine s items p filled = record {
  kept = λ q low kept off. filled q low (omega arith) kept;
  written = λ i low free. absurd (omega arith);
}

module _ (machine : Machine) (s : Section) (items : List Item) (n at : ℕ) (p0 p1 bytes : List ℕ)
    (within : n < length items)
    (ready : AreReady machine s items (length items))
    (room : length p0 ≡ packed_offset s (s.base + length s.bytes))
    (len : length p1 ≡ length p0)
    (before : IsWrittenTo machine s items n p0)
    (at_is : at ≡ packed_offset s (offset_of (item_at items n)))
    (long : length bytes ≡ written_len s.deletions (item_at items n))
    (put : at + length bytes ≤ length p0 → p1 ≡ take at p0 ++ bytes ++ drop (at + length bytes) p0)
    (becomes : is_fixed (item_at items n) ≡ false → ItemBecomes machine s (item_at items n) bytes) where
  item : Item
  item = item_at items n

  ds : List (ℕ × ℕ)
  ds = s.deletions

  free_len : is_fixed (item_at items n) ≡ false → written_len s.deletions (item_at items n) ≡ kept_len s.deletions (item_at items n)
  free_len free = ap (λ b. if b then 0 else kept_len s.deletions (item_at items n)) free

  fixed_len : is_fixed (item_at items n) ≡ true → written_len s.deletions (item_at items n) ≡ 0
  fixed_len fixed = ap (λ b. if b then 0 else kept_len s.deletions (item_at items n)) fixed

  -- the bytes that are written go where those that stay go
  first : rank s.deletions (offset_of (item_at items n) + written_len s.deletions (item_at items n)) ≡ rank s.deletions (offset_of (item_at items n)) + written_len s.deletions (item_at items n)
  first = elim (cases_Bool (is_fixed (item_at items n))) [
    | inl fixed ↦
        let z = fixed_len fixed in
        let e = ap (rank s.deletions) (let f : offset_of (item_at items n) + written_len s.deletions (item_at items n) ≡ offset_of (item_at items n) = omega arith in f) in
        omega arith
    | inr free ↦
        let keeps = ((ready n within).writable free).keeps in
        let z = free_len free in
        let e = ap (λ k. rank s.deletions (offset_of (item_at items n) + k)) z in
        omega arith
  ]

  short : written_len s.deletions (item_at items n) ≤ len_of (item_at items n)
  short = elim (cases_Bool (is_fixed (item_at items n))) [
    | inl fixed ↦ let z = fixed_len fixed in omega arith
    | inr free ↦ let z = free_len free in let k = kept_within s.deletions (item_at items n) in omega arith
  ]

  inside : IsInside s (item_at items n)
  inside = (ready n within).inside

  from_base : rank s.deletions s.base ≤ rank s.deletions (offset_of (item_at items n))
  from_base = rank-mono s.deletions s.base (offset_of (item_at items n)) inside.0

  fits : at + length bytes ≤ length p0
  fits =
      let i = inside in
      let m = rank-mono s.deletions (offset_of (item_at items n) + written_len s.deletions (item_at items n)) (s.base + length s.bytes) (let k = short in omega arith) in
      let f = first in
      let b = from_base in
      omega arith

  is_put : p1 ≡ take at p0 ++ bytes ++ drop (at + length bytes) p0
  is_put = put fits

  below : (y : ℕ) → y < at → get_or p1 y 0 ≡ get_or p0 y 0
  below y low = ap (λ l. get_or l y 0) is_put ∙ put_below p0 bytes at (at + length bytes) fits refl y low

  above : (y : ℕ) → at + length bytes ≤ y → get_or p1 y 0 ≡ get_or p0 y 0
  above y high = ap (λ l. get_or l y 0) is_put ∙ put_above p0 bytes at fits y high

  stays : (p : ℕ) → is_kept s.deletions (s.base + p) ≡ true → IsNotIn s.deletions (s.base + p) (item_at items n) → get_or p1 (packed_offset s (s.base + p)) 0 ≡ get_or p0 (packed_offset s (s.base + p)) 0
  stays p kept off = elim (cases_lt (s.base + p) (offset_of (item_at items n))) [
    | inl low ↦
        let b = rank-mono s.deletions (suc (s.base + p)) (offset_of (item_at items n)) (omega arith) in
        below (packed_offset s (s.base + p)) (omega (arith, rank_kept s.deletions (s.base + p) kept, rank-mono s.deletions s.base (s.base + p) (omega arith)))
    | inr high ↦
        let a = rank-mono s.deletions (offset_of (item_at items n) + written_len s.deletions (item_at items n)) (s.base + p) (off high) in
        above (packed_offset s (s.base + p)) (omega (arith, first, from_base))
  ]

  earlier : (i : ℕ) → i < n → is_fixed (item_at items i) ≡ false → packed_offset s (offset_of (item_at items i)) + kept_len s.deletions (item_at items i) ≤ at
  earlier i low free =
      let keeps = ((ready i (omega arith)).writable free).keeps in
      let ends = earlier_ends items (λ j h. (ready j h).apart) i n low within in
      let k = kept_within s.deletions (item_at items i) in
      let m = rank-mono s.deletions (offset_of (item_at items i) + kept_len s.deletions (item_at items i)) (offset_of (item_at items n)) (omega arith) in
      omega (arith, rank-mono s.deletions s.base (offset_of (item_at items i)) (ready i (omega arith)).inside.0)

  here : is_fixed (item_at items n) ≡ false → take (kept_len s.deletions (item_at items n)) (drop (packed_offset s (offset_of (item_at items n))) p1) ≡ bytes
  here free =
      ap (λ k. take k (drop (packed_offset s (offset_of (item_at items n))) p1)) (sym (free_len free) ∙ sym long)
      ∙ ap (λ o. take (length bytes) (drop o p1)) (sym at_is)
      ∙ ap (λ l. take (length bytes) (drop at l)) is_put
      ∙ window_at p0 bytes at fits

  pub written_step : IsWrittenTo machine s items (n + 1) p1
  written_step = record {
    kept = λ p low kept off. stays p kept (off n (omega arith)) ∙ before.kept p low kept (λ i h. off i (omega arith));
    written = λ i low free. elim (cases_lt i n) [
      | inl early ↦
          subst (ItemBecomes machine s (item_at items i))
          (same_window p0 p1 (packed_offset s (offset_of (item_at items i))) (kept_len s.deletions (item_at items i)) (sym len) (λ y h. sym (below y (omega (arith, earlier i early free)))))
          (before.written i early free)
      | inr late ↦
          let same : i ≡ n = omega arith in
          subst (λ j. is_fixed (item_at items j) ≡ false → ItemBecomes machine s (item_at items j) (take (kept_len s.deletions (item_at items j)) (drop (packed_offset s (offset_of (item_at items j))) p1))) (sym same)
          (λ free. subst (ItemBecomes machine s (item_at items n)) (sym (here free)) (becomes free)) free
    ];
  }

-- with all items written, the section is packed
pub written_end : (machine : Machine) (s : Section) (items : List Item) (n : ℕ) (p : List ℕ) → length items ≡ n → length p ≡ packed_offset s (s.base + length s.bytes) → LosesItems s items → IsWrittenTo machine s items n p → IsPackedRun machine s items p
written_end machine s items n p past room lost all = record {
  len = room;
  lost = lost;
  kept = λ q low kept off. all.kept q low kept (λ i h. off i (omega arith));
  written = λ i low free. all.written i (omega arith) free;
}

-- ---- pieces

module _ (machine : Machine) (s : Section) (item : Item) (piece : Piece) (is : IsPieceOf machine s item piece) where
  pub piece_len : length (piece_bytes machine piece) ≡ written_len s.deletions item
  piece_len = elim (cases_Bool (is_fixed item)) [
    | inl fixed ↦ ap (λ p. length (piece_bytes machine p)) (is.fixed fixed) ∙ ap (λ b. if b then 0 else kept_len s.deletions item) (sym fixed)
    | inr free ↦ (is.anew free).len ∙ ap (λ b. if b then 0 else kept_len s.deletions item) (sym free)
  ]

  pub piece_whole : IsWhole machine piece
  piece_whole = elim (cases_Bool (is_fixed item)) [
    | inl fixed ↦ subst (IsWhole machine) (sym (is.fixed fixed)) tt
    | inr free ↦ (is.anew free).whole
  ]

  pub piece_becomes : is_fixed item ≡ false → ItemBecomes machine s item (piece_bytes machine piece)
  piece_becomes free = (is.anew free).becomes
