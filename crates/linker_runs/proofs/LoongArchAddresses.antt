-- An address of LoongArch that stays long can be written in a run of less than 2 GiB less 8 KiB.
use Rattle.linker_runs.proofs.Imports.{Address, Aligned, ArePagesNear, CALL36, HasItsInstructions, IsAddressOutOfReach, IsCall36At, IsNearAddress, IsOutOfReach, IsPcalaAt, IsWithin, Item, ItemError, List, LoongArch64, LoongArchCause, NearAddressesAreWritable, PCALA, R_LARCH_PCALA_HI20, R_LARCH_PCALA_LO12, Shift10, Shift5, Signed, Site, Some, ap, arith, bit_bounds, cases_lt, cast_negative, cast_signed, choice_of, difference_64, drop, false, false≢true, far_high, far_low, far_pages, freed_before, high_template, holds, inr, ints, item_at, length, length-drop, length-take, loongarch_fits, low_template, offset_of, page, place_of, pos, refl, subst, sum_64, sym, take, target_of, to_z_pos, w64, ℕ, ⊎_elim, ◌%◌, ◌+◌, ◌-ℤ◌, ◌-◌, ◌<◌, ◌^◌, ◌∙◌, ◌≡◌, ◌≤◌}
use Rattle.linker_elf.specs.declared.elf.AnyForm.TheVariants.{LoongArch64 as OfLoongArch}
use Rattle.linker_elf.specs.declared.elf.RowSize.TheVariants.{BitMasking}
use Rattle.linker_runs.proofs.LoongArch.{code_not, no_jirl}
use Rattle.linker_runs.proofs.RiscVLongCalls.{whole}
use Rattle.linker_runs.proofs.LoongArchCalls36.{shapes_differ}
use Rattle.linker_runs.proofs.LongSites.{LongCause, is_long, long_sites}

-- ---- the distance of the pages

-- the pages of two numbers, and what their distance is modulo 2 ^ 64
module _ (a b : ℕ) where
  abbrev distance : ℕ
  distance = difference_64 (page (b % 2 ^ 64)) (page (a % 2 ^ 64))

  up : page a ≤ page b → page b - page a < 2 ^ 63 → distance ≡ page b - page a
  up above small = omega arith

  down : page b < page a → page a - page b ≤ 2 ^ 63 → distance ≡ 2 ^ 64 - (page a - page b)
  down below small = omega arith

  near : page b - page a < 2 ^ 31 → page a - page b ≤ 2 ^ 31 → IsWithin (Some (bit_bounds 32 Signed)) (cast_signed w64 distance)
  near high low = ⊎_elim
      (λ (less : page b < page a).
      let e : cast_signed w64 distance ≡ pos (page b) -ℤ pos (page a) =
      ap (cast_signed w64) (down less (omega arith)) ∙ cast_negative (2 ^ 64 - (page a - page b)) (omega arith) (omega arith) ∙ omega (arith, ints) in
      subst (IsWithin (Some (bit_bounds 32 Signed))) (sym e) (omega (arith, ints), omega (arith, ints)))
      (λ (more : page a ≤ page b).
      let e : cast_signed w64 distance ≡ pos (page b - page a) =
      ap (cast_signed w64) (up more (omega arith)) ∙ to_z_pos w64 (page b - page a) (omega arith) in
      subst (IsWithin (Some (bit_bounds 32 Signed))) (sym e) (omega (arith, ints), omega (arith, ints)))
      (cases_lt (page b) (page a))

-- ---- the pair

module _ (section : List ℕ) (o start from to : ℕ) (here : IsPcalaAt section o) (there : o + 8 ≤ length section) (low : from < 2 ^ 31 - 2 ^ 13) (high : to < 2 ^ 31 - 2 ^ 13) where
  pages_near : ArePagesNear (sum_64 start from) (sum_64 start to)
  pages_near =
      let rounded : sum_64 (sum_64 (sum_64 start to) 0) 0x800 ≡ (start + to + 0x800) % 2 ^ 64 = omega arith in
      subst (λ n. IsWithin (Some (bit_bounds 32 Signed)) (cast_signed w64 (difference_64 (page n) (page (sum_64 start from))))) (sym rounded)
      (near (start + from) (start + to + 0x800) (omega arith) (omega arith))

  high_near : IsOutOfReach (high_template section o) (sum_64 start from) (sum_64 start to) → ⊥
  high_near far =
      let v = cast_signed w64 (difference_64 (page (sum_64 (sum_64 (sum_64 start to) 0) 0x800)) (page (sum_64 start from))) in
      far v refl
      (record { supported = refl; long = long; aligned = (whole v, tt, λ e. absurd (false≢true e)); reached = (tt, holds (BitMasking (record { start = 12; end = 32 }) (OfLoongArch Shift5)) v (take 4 (drop o section)) (loongarch_fits R_LARCH_PCALA_HI20).size, tt) })
    where
      long : 4 ≤ length (take 4 (drop o section))
      long = let a = length-take 4 (drop o section) in let b = length-drop o section in omega arith

  low_near : IsOutOfReach (low_template section o) (sum_64 (sum_64 start from) 4) (sum_64 start to) → ⊥
  low_near far =
      let v = cast_signed w64 (sum_64 (sum_64 (sum_64 start to) 0) 0) in
      far v refl
      (record {
        supported = refl;
        long = long;
        aligned = (whole v, tt, λ e. absurd (false≢true (sym (no_jirl section o here) ∙ e)));
        reached = (tt, holds (BitMasking (record { start = 0; end = 12 }) (OfLoongArch Shift10)) v (take 4 (drop (o + 4) section)) (loongarch_fits R_LARCH_PCALA_LO12).size, tt);
      })
    where
      long : 4 ≤ length (take 4 (drop (o + 4) section))
      long = let a = length-take 4 (drop (o + 4) section) in let b = length-drop (o + 4) section in omega arith

  pair_near : IsAddressOutOfReach section o (sum_64 start from) (sum_64 start to) → ⊥
  pair_near (far_pages out) = out pages_near
  pair_near (far_high out) = high_near out
  pair_near (far_low out) = low_near out

  long_not : (error : ItemError) → LoongArchCause section o 8 (sum_64 start from) (sum_64 start to) error → ⊥
  long_not = code_not section o 8 (sum_64 start from) (sum_64 start to) Address here (inr refl) (λ four. absurd (omega (arith, four))) (λ _. pair_near)

module _ (bytes : List ℕ) (base start here there : ℕ) where
  address_not : (item : Item) → IsNearAddress item → HasItsInstructions LoongArch64 bytes base item
      → (error : ItemError) → LongCause LoongArch64 bytes base start item (offset_of item - here) (target_of item - there) error → ⊥
  address_not (Aligned alignment) near has error cause = cause
  address_not (Site site) near has error cause =
      long_not bytes (site.offset - base) start (site.offset - here) (target_of (Site site) - there) pair (omega (arith, has.1, has.2)) (let b = near.offset in omega arith) (let b = near.target in omega arith) error cause
    where
      pair : IsPcalaAt bytes (site.offset - base)
      pair = ⊎_elim
          (λ (is : IsCall36At bytes (site.offset - base) × (site.shapes ≡ CALL36)). absurd (shapes_differ (sym is.1 ∙ near.shapes)))
          (λ (is : IsPcalaAt bytes (site.offset - base) × (site.shapes ≡ PCALA)). is.0)
          has.3

pub near_addresses : NearAddressesAreWritable
near_addresses start base items shapes kept freed bytes are is i within near has =
    let before = freed_before start items (choice_of shapes) in
    long_sites LoongArch64 start base items shapes kept freed bytes are is i within (is_long PCALA (omega arith) refl (item_at items i) near.shapes) has
    (address_not bytes base start (before i) (before (place_of items (target_of (item_at items i)))) (item_at items i) near has)
