-- What runs that can be relaxed free: multiples of their granularity. What their alignments keep.
use Rattle.linker_runs.proofs.Imports.{Aligned, Alignment, AlignmentFits, AreAlwaysEnough, AreItems, HasItsNops, IsAlwaysMultiple, IsExact, IsExactItem, IsFormed, IsNextPowerOfTwo, IsSound, IsStill, Item, ItemSuits, List, MatchOption, None, Option, Site, Some, add-mul-mod_self_right, ap, arith, below_more, cases_lt, freed_before, item_at, kept_by, least_len, len_of, length, limit_of, min, mul_assoc, needed, offset_of, refl, run_granularity, shape_len, subst, suc, sym, zero, ℕ, ⊎_elim, ⊤, ◌%◌, ◌*◌, ◌+◌, ◌-◌, ◌<◌, ◌∙◌, ◌≡◌, ◌≤◌, ◌⊎◌}
use Rattle.linker_runs.proofs.Units.{item_suits}
use Rattle.linker_runs.proofs.Layouts.{freed_next, freed_none, freed_fits}
use Rattle.linker_runs.proofs.Multiples.{Multiple, multiple_of, needed_fills, needed_below}
use Rattle.linker_runs.proofs.Nearer.{Frees, multiple_between}
use Rattle.linker_runs.proofs.Bounds.{lens_ascend, len_fits}
use Rattle.linker_runs.proofs.Addresses.{HoldsAt, padding, padding_all, padding_none, next_multiple, address_multiple, filled_by, next_positive, ends_by}

-- what an alignment needs at the output address `at`, where `freed` bytes go before it
record Needs (u : ℕ) (power nops input freed need : ℕ) : Type 0 where
  pub below : need < power
  pub fits : freed ≤ input
  pub gone : Multiple u freed
  pub following : Multiple u (input + nops)
  pub filled : Multiple u (need + (input - freed))

-- where the nops are as many as the power less the granularity, there are enough
enough_nops : (u power nops input freed need : ℕ) → Needs u power nops input freed need → power ≤ nops + u → need ≤ nops
enough_nops u power nops input freed need n many = ⊎_elim
    (λ (short : nops < need).
    absurd (omega (arith, n.gone.1, n.following.1, n.filled.1, n.below, n.fits, next_multiple n.following.0 (n.filled.0 + n.gone.0) u (omega arith))))
    (λ (done : need ≤ nops). done)
    (cases_lt nops need)

-- and then what is freed is a multiple of the granularity
rest_multiple : (u power nops input freed need : ℕ) → Needs u power nops input freed need → need ≤ nops → Multiple u (nops - need)
rest_multiple u power nops input freed need n enough =
    let m = multiple_between u u (n.following.0 * u) ((n.filled.0 + n.gone.0) * u) (1, omega arith) (n.following.0, refl) (n.filled.0 + n.gone.0, refl) in
    (m.0, (let same : nops - need ≡ n.following.0 * u - (n.filled.0 + n.gone.0) * u = omega (arith, n.gone.1, n.following.1, n.filled.1, n.fits) in same ∙ m.1))

-- without a limit there are as many nops as are needed
abbrev pub Enough : ℕ → ℕ → ℕ → ℕ → Option ℕ → Type 0
Enough u power nops need most = MatchOption most (need ≤ nops) (λ most. (nops % u ≡ 0) × ((power ≤ nops + u) ⊎ (most ≤ nops)))

padding_frees : (u power nops input freed need : ℕ) (most : Option ℕ) → Needs u power nops input freed need → Enough u power nops need most → Multiple u (nops - padding need (limit_of nops most)) × (padding need (limit_of nops most) ≤ nops)
padding_frees u power nops input freed need None n many =
    let e = padding_all need nops many in
    let m = rest_multiple u power nops input freed need n many in
    let h = m.1 in
    ((m.0, ap (λ k. nops - k) e ∙ h), omega arith)
padding_frees u power nops input freed need (Some most) n many =
    ⊎_elim
    (λ (above : min most nops < need).
    let e = padding_none need (min most nops) above in
    let m = multiple_of u nops many.0 in
    let h = m.1 in
    let z : nops - 0 ≡ nops = omega arith in
    ((m.0, ap (λ k. nops - k) e ∙ z ∙ h), omega arith))
    (λ (within : need ≤ min most nops).
    let e = padding_all need (min most nops) within in
    let m = rest_multiple u power nops input freed need n (omega arith) in
    let h = m.1 in
    ((m.0, ap (λ k. nops - k) e ∙ h), omega arith))
    (cases_lt (min most nops) need)

padding_exact : (u power nops input freed need : ℕ) (most : Option ℕ) → Needs u power nops input freed need → Enough u power nops need most → (kept : ℕ) → kept ≡ padding need (limit_of nops most)
    → MatchOption most (kept ≡ need) (λ most. (need ≤ most → kept ≡ need) × (most < need → kept ≡ 0))
padding_exact u power nops input freed need None n many kept is = is ∙ padding_all need nops many
padding_exact u power nops input freed need (Some most) n many kept is = (
  (λ within. is ∙ padding_all need (min most nops) (⊎_elim
      (λ (h : power ≤ nops + u). let e = enough_nops u power nops input freed need n h in omega arith)
      (λ (h : most ≤ nops). omega arith)
      many.1)),
  (λ above. is ∙ padding_none need (min most nops) (omega arith)),
)

needs : (u start : ℕ) (alignment : Alignment) (freed : ℕ) → AlignmentFits u start alignment → 0 < alignment.alignment → freed ≤ alignment.offset → Multiple u freed → Needs u alignment.alignment alignment.nops (start + alignment.offset) freed (needed alignment.alignment (start + alignment.offset - freed))
needs u start alignment freed fit some within gone =
    let at = start + alignment.offset - freed in
    let whole = needed_fills alignment.alignment at some in
    let power = multiple_of u alignment.alignment fit.power in
    record {
      below = needed_below alignment.alignment at some;
      fits = omega arith;
      gone = gone;
      following = multiple_of u (start + alignment.offset + alignment.nops) fit.following;
      filled = (whole.0 * power.0, whole.1 ∙ ap (λ x. whole.0 * x) power.1 ∙ sym (mul_assoc whole.0 power.0 u));
    }

enough_at : (u power nops need : ℕ) (most : Option ℕ) → MatchOption most ⊤ (λ most. (nops % u ≡ 0) × ((power ≤ nops + u) ⊎ (most ≤ nops))) → MatchOption most (need ≤ nops) (λ most. ⊤) → Enough u power nops need most
enough_at u power nops need None limited holds = holds
enough_at u power nops need (Some most) limited holds = limited

-- a still alignment needs what its input address needs
still_need : (u power input freed : ℕ) → u % power ≡ 0 → freed ≤ input → Multiple u freed → needed power (input - freed) ≡ needed power input
still_need u power input freed divides within gone =
    let parts = multiple_of power u divides in
    let whole : input - freed + gone.0 * parts.0 * power ≡ input = omega (arith, gone.1 ∙ ap (λ x. gone.0 * x) parts.1 ∙ sym (mul_assoc gone.0 parts.0 power)) in
    ap (λ r. (power - r) % power) (sym (add-mul-mod_self_right (input - freed) (gone.0 * parts.0) power) ∙ ap (λ n. n % power) whole)

-- and keeps that
still_keeps : (nops need here : ℕ) (most : Option ℕ) → most ≡ None → need ≤ nops → here ≡ need → padding here (limit_of nops most) ≡ need
still_keeps nops need here None none enough same = padding_all here nops (omega arith) ∙ same
still_keeps nops need here (Some most) none enough same = cc

still_padding : (u start : ℕ) (alignment : Alignment) (freed : ℕ) → IsStill u start alignment → freed ≤ alignment.offset → Multiple u freed → padding (needed alignment.alignment (start + alignment.offset - freed)) (limit_of alignment.nops alignment.max_skip) ≡ needed alignment.alignment (start + alignment.offset)
still_padding u start alignment freed still within gone =
    still_keeps alignment.nops (needed alignment.alignment (start + alignment.offset)) (needed alignment.alignment (start + alignment.offset - freed)) alignment.max_skip still.unlimited still.enough
    (still_need u alignment.alignment (start + alignment.offset) freed still.divides (omega arith) gone)

-- what one item frees
abbrev pub ItemFrees : ℕ → Item → ℕ → Type 0
ItemFrees u item freed = (m : ℕ) × (freed ≡ m * u) × (m * u + least_len item ≤ len_of item)

item_frees : (u start : ℕ) (item : Item) (k freed : ℕ) → ItemSuits u start item → IsSound item → freed ≤ offset_of item → Multiple u freed → HoldsAt start item freed → ItemFrees u item (len_of item - kept_by start item k freed)
item_frees u start (Site site) k freed fit sound within gone holds =
    let m = multiple_of u (site.len - shape_len site.shapes k) (fit.freed k) in
    let z : 0 + k ≡ k = omega arith in
    (m.0, m.1, omega (arith, ap (shape_len site.shapes) z, lens_ascend u site.len site.shapes fit 0 k, len_fits site.shapes site.len k sound.1 sound.2))
item_frees u start (Aligned alignment) k freed fit sound within gone holds = ⊎_elim
    (λ (fits : AlignmentFits u start alignment).
    let need = needed alignment.alignment (start + alignment.offset - freed) in
    let h = padding_frees u alignment.alignment alignment.nops (start + alignment.offset) freed need alignment.max_skip (needs u start alignment freed fits sound within gone)
    (enough_at u alignment.alignment alignment.nops need alignment.max_skip fits.limited holds) in
    (h.0.0, h.0.1, omega arith))
    (λ (still : IsStill u start alignment).
    let m = multiple_of u (alignment.nops - needed alignment.alignment (start + alignment.offset)) still.others in
    (m.0, ap (λ k. alignment.nops - k) (still_padding u start alignment freed still within gone) ∙ m.1, omega arith))
    fit

-- Up to an index the items free a multiple of the granularity, and each alignment has its nops.
record Upto (start : ℕ) (items : List Item) (choice : ℕ → ℕ) (i : ℕ) : Type 0 where
  multiple : Multiple (run_granularity items) (freed_before start items choice i)
  holds : (j : ℕ) → j < i → HoldsAt start (item_at items j) (freed_before start items choice j)

-- an alignment has its nops where it has them in every layout
item_holds : (start : ℕ) (items : List Item) (choice : ℕ → ℕ) → AreItems start items → (i : ℕ) → i < length items → Upto start items choice i → HoldsAt start (item_at items i) (freed_before start items choice i)
item_holds start items choice are i within upto = by_item (item_at items i) refl (item_suits start items are i within) (are.in_order.sound i within) (are.formed i within) (freed_fits start items choice are.in_order i within) (are.enough i within)
  where
    u : ℕ
    u = run_granularity items

    freed : ℕ
    freed = freed_before start items choice i

    by_item : (item : Item) → item_at items i ≡ item → ItemSuits u start item → IsSound item → IsFormed item → freed ≤ offset_of item → HasItsNops u start items i item → HoldsAt start item freed
    by_item (Site site) is fit sound formed below enough = tt
    by_item (Aligned alignment) is fit sound formed below enough = by_limit alignment.max_skip enough
      where
        need : ℕ
        need = needed alignment.alignment (start + alignment.offset - freed)

        by_limit : (most : Option ℕ) → MatchOption most (AreAlwaysEnough u start items i alignment) (λ most. ⊤) → MatchOption most (need ≤ alignment.nops) (λ most. ⊤)
        by_limit (Some most) enough = tt
        by_limit None enough = ⊎_elim
            (λ (many : alignment.alignment ≤ alignment.nops + u). ⊎_elim
            (λ (fits : AlignmentFits u start alignment). enough_nops u alignment.alignment alignment.nops (start + alignment.offset) freed need (needs u start alignment freed fits sound below upto.multiple) many)
            (λ (still : IsStill u start alignment).
            omega (arith, still_need u alignment.alignment (start + alignment.offset) freed still.divides (omega arith) upto.multiple, still.enough))
            fit)
            (λ (other : (w : ℕ) × IsNextPowerOfTwo (alignment.alignment - alignment.nops) w × IsAlwaysMultiple w start alignment.offset items i).
            let o = ap offset_of is in
            let address = address_multiple start items choice are other.0 alignment.offset (next_positive (alignment.alignment - alignment.nops) other.0 other.1) i (omega arith) (λ j before. (let s = ends_by start items are.in_order i j within before in omega arith)) upto.holds other.2 in
            filled_by alignment.alignment alignment.nops other.0 (start + alignment.offset - freed) formed other.1 address)
            enough

upto_next : (start : ℕ) (items : List Item) (choice : ℕ → ℕ) → AreItems start items → (i : ℕ) → i < length items → Upto start items choice i → Upto start items choice (i + 1)
upto_next start items choice are i within upto =
    let holds = item_holds start items choice are i within upto in
    let here = item_frees (run_granularity items) start (item_at items i) (choice i) (freed_before start items choice i) (item_suits start items are i within) (are.in_order.sound i within) (freed_fits start items choice are.in_order i within) upto.multiple holds in
    record {
      multiple = (upto.multiple.0 + here.0, omega (arith, freed_next start items choice i, upto.multiple.1, here.1));
      holds = below_more (λ j. HoldsAt start (item_at items j) (freed_before start items choice j)) i upto.holds holds;
    }

all_upto : (start : ℕ) (items : List Item) (choice : ℕ → ℕ) → AreItems start items → (i : ℕ) → i ≤ length items → Upto start items choice i
all_upto start items choice are zero within = record { multiple = (0, freed_none start items choice ∙ omega arith); holds = λ j below. absurd (omega arith) }
all_upto start items choice are (suc i) within =
    let z : i + 1 ≡ suc i = omega arith in
    subst (Upto start items choice) z (upto_next start items choice are i (omega arith) (all_upto start items choice are i (omega arith)))

pub exact_frees : (start : ℕ) (items : List Item) (choice : ℕ → ℕ) → AreItems start items → Frees (run_granularity items) items (freed_before start items choice)
exact_frees start items choice are = record {
  none = freed_none start items choice;
  step = λ j within.
      let upto = all_upto start items choice are j (omega arith) in
      let here = item_frees (run_granularity items) start (item_at items j) (choice j) (freed_before start items choice j) (item_suits start items are j within) (are.in_order.sound j within) (freed_fits start items choice are.in_order j within) upto.multiple (item_holds start items choice are j within upto) in
      (here.0, freed_next start items choice j ∙ ap (λ x. freed_before start items choice j + x) here.1, here.2);
}

-- each alignment of the run is exact
item_exact : (u start : ℕ) (item : Item) (k freed kept : ℕ) → ItemSuits u start item → IsSound item → freed ≤ offset_of item → Multiple u freed → HoldsAt start item freed → kept ≡ kept_by start item k freed → IsExactItem item start freed kept
item_exact u start (Site site) k freed kept fit sound within gone holds is = tt
item_exact u start (Aligned alignment) k freed kept fit sound within gone holds is = ⊎_elim
    (λ (fits : AlignmentFits u start alignment).
    let need = needed alignment.alignment (start + alignment.offset - freed) in
    padding_exact u alignment.alignment alignment.nops (start + alignment.offset) freed need alignment.max_skip (needs u start alignment freed fits sound within gone)
    (enough_at u alignment.alignment alignment.nops need alignment.max_skip fits.limited holds) kept is)
    (λ (still : IsStill u start alignment).
    still_exact alignment.max_skip still.unlimited (is ∙ still_padding u start alignment freed still within gone ∙ sym (still_need u alignment.alignment (start + alignment.offset) freed still.divides (omega arith) gone)))
    fit
  where
    still_exact : (most : Option ℕ) → most ≡ None → kept ≡ needed alignment.alignment (start + alignment.offset - freed) → IsExact (record alignment { max_skip = most }) (needed alignment.alignment (start + alignment.offset - freed)) kept
    still_exact None none same = same
    still_exact (Some most) none same = cc

pub all_exact : (start : ℕ) (items : List Item) (choice : ℕ → ℕ) → AreItems start items → (i : ℕ) → i < length items → (kept : ℕ) → kept ≡ kept_by start (item_at items i) (choice i) (freed_before start items choice i) → IsExactItem (item_at items i) start (freed_before start items choice i) kept
all_exact start items choice are i within kept is =
    let upto = all_upto start items choice are i (omega arith) in
    item_exact (run_granularity items) start (item_at items i) (choice i) (freed_before start items choice i) kept (item_suits start items are i within) (are.in_order.sound i within) (freed_fits start items choice are.in_order i within) upto.multiple (item_holds start items choice are i within upto) is
