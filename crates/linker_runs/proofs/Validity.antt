-- What is tested of a run, and what runs that can be relaxed are.
use Rattle.linker_runs.proofs.Imports.{Aligned, Alignment, AlignmentFits, AlignmentMeets, AreInOrder, AreItems, AreSound, Fault, HasItsNops, IsClear, IsClearRun, IsFirstAt, IsFirstFault, IsFirstOf, IsFormed, IsInWords, IsSound, IsStill, Item, ItemFits, ItemMeets, List, MatchOption, None, Option, OwnMeets, RunMeets, Site, Some, UnitMeets, ap, arith, cases_lt, end_of, inl, inr, item_at, least_len, length, number_of, offset_of, place_of, pow_pos, run_granularity, target_of, ℕ, ⊎_elim, ⊤, ◌%◌, ◌+◌, ◌-◌, ◌<◌, ◌≡◌, ◌≤◌, ◌⊎◌}
use Rattle.linker_runs.specs.declared.relaxation.faults.Fault.TheVariants.{TooHigh, TooManyShapes, ShapeTooLong, ShapesNotAscending, BadGranularity, BadReach, BadAlignment, UnevenShape, Misaligned, AlignmentBelowGranularity, UnevenEnd, TooFewNops, UnevenNops, TargetInside, MayBeMisaligned, Overlaps}
use Rattle.linker_runs.specs.declared.relaxation.faults.ItemFault.{ItemFault}
use Rattle.linker_runs.proofs.Choices.{place_is}

-- an offset is clear of all items where it is clear of that at its place
clear_all : (start : ℕ) (items : List Item) (offset : ℕ) → AreInOrder start items → IsClearRun items offset → (j : ℕ) → j < length items → IsClear (item_at items j) offset
clear_all start items offset order clear j within =
    let place = place_is start items order offset in
    let p = place_of items offset in
    ⊎_elim
    (λ (below : j < p). inr (place.below j below))
    (λ (others : p ≤ j). ⊎_elim
    (λ (after : p < j).
    let z : j - 1 + 1 ≡ j = omega arith in
    inl (omega (arith, place.others (j - 1) (omega arith) (omega arith), ap (λ n. offset_of (item_at items n)) z, order.apart (j - 1) (omega arith))))
    (λ (same : j ≤ p).
    let e : p ≡ j = omega arith in
    inl (omega (arith, ap (λ n. offset_of (item_at items n) + least_len (item_at items n)) e, clear (omega arith))))
    (cases_lt p j))
    (cases_lt j p)

pub clear_of : (start : ℕ) (items : List Item) (offset : ℕ) → AreInOrder start items → ((j : ℕ) → j < length items → IsClear (item_at items j) offset) → IsClearRun items offset
clear_of start items offset order clear = λ within.
    let p = place_of items offset in
    ⊎_elim (λ (h : offset ≤ offset_of (item_at items p) + least_len (item_at items p)). h)
    (λ (h : end_of (item_at items p) ≤ offset). let o = (place_is start items order offset).others p (omega arith) within in absurd (omega arith))
    (clear p within)

-- what an item meets by itself makes it sound and formed
item_sound : (item : Item) → ((fault : Fault) → ItemMeets item fault) → IsSound item
item_sound (Site site) met = (
  met TooManyShapes,
  (met ShapeTooLong).0,
  (met ShapeTooLong).1,
  λ k short. (let power = ((met BadGranularity).0 k short).power in let some = pow_pos power.0 in let e = power.1 in omega arith),
)
item_sound (Aligned alignment) met = let power = met BadAlignment in let some = pow_pos power.0 in let e = power.1 in omega arith

item_formed : (item : Item) → ((fault : Fault) → ItemMeets item fault) → IsFormed item
item_formed (Site site) met = record {
  ascending = met ShapesNotAscending;
  powers = (met BadGranularity).0;
  units = (met BadGranularity).1;
  ahead = (met BadReach).0;
  reaches = (met BadReach).1;
}
item_formed (Aligned alignment) met = met BadAlignment

-- what an item meets by its place aside
pub own_item : (start : ℕ) (items : List Item) (i : ℕ) → ((fault : Fault) → OwnMeets start items i fault) → (fault : Fault) → ItemMeets (item_at items i) fault
own_item start items i met Overlaps = by_place (item_at items i)
  where
    by_place : (item : Item) → ItemMeets item Overlaps
    by_place (Site site) = tt
    by_place (Aligned alignment) = tt
own_item start items i met TooHigh = by_place (item_at items i)
  where
    by_place : (item : Item) → ItemMeets item TooHigh
    by_place (Site site) = tt
    by_place (Aligned alignment) = tt
own_item start items i met other = met other

pub own_formed : (start : ℕ) (items : List Item) → AreSound start items → (i : ℕ) → i < length items → IsFormed (item_at items i)
own_formed start items sound i within = item_formed (item_at items i) (own_item start items i (sound i within))

pub in_order : (start : ℕ) (items : List Item) → AreSound start items → AreInOrder start items
in_order start items sound = record {
  apart = λ i within.
      let z : i + 1 - 1 ≡ i = omega arith in
      omega (arith, ap (λ n. end_of (item_at items n)) z, sound (i + 1) (omega arith) Overlaps (omega arith));
  ends = λ i within. sound i within TooHigh;
  sound = λ i within. item_sound (item_at items i) (own_item start items i (sound i within));
}

-- what an item meets in a run of a granularity is what fits
limited : (u power nops : ℕ) (most : Option ℕ) → MatchOption most ⊤ (λ most. (power ≤ nops + u) ⊎ (most ≤ nops)) → MatchOption most ⊤ (λ most. nops % u ≡ 0)
    → MatchOption most ⊤ (λ most. (nops % u ≡ 0) × ((power ≤ nops + u) ⊎ (most ≤ nops)))
limited u power nops None many even = tt
limited u power nops (Some most) many even = (even, many)

alignment_fits : (u start : ℕ) (alignment : Alignment) → ((fault : Fault) → AlignmentMeets u start alignment fault) → AlignmentFits u start alignment ⊎ IsStill u start alignment
alignment_fits u start alignment met = ⊎_elim
    (λ (power : alignment.alignment % u ≡ 0). ⊎_elim
    (λ (following : (start + alignment.offset + alignment.nops) % u ≡ 0). inl (record {
      power = power;
      following = following;
      limited = limited u alignment.alignment alignment.nops alignment.max_skip (met TooFewNops) (met UnevenNops);
    }))
    (λ (still : IsStill u start alignment). inr still)
    (met UnevenEnd))
    (λ (still : IsStill u start alignment). inr still)
    (met AlignmentBelowGranularity)

item_fits : (u start : ℕ) (item : Item) → ((fault : Fault) → UnitMeets u start item fault) → ItemFits u start item
item_fits u start (Site site) met = met UnevenShape
item_fits u start (Aligned alignment) met = alignment_fits u start alignment met

item_in_words : (u start : ℕ) (item : Item) → ((fault : Fault) → UnitMeets u start item fault) → IsInWords item
item_in_words u start (Site site) met = met Misaligned
item_in_words u start (Aligned alignment) met = tt

-- an alignment without a limit has no fault of one with a limit
no_limit : (u power nops : ℕ) (most : Option ℕ) → most ≡ None → MatchOption most ⊤ (λ most. (power ≤ nops + u) ⊎ (most ≤ nops)) × MatchOption most ⊤ (λ most. nops % u ≡ 0)
no_limit u power nops None none = (tt, tt)
no_limit u power nops (Some most) none = cc

pub still_meets : (u start : ℕ) (alignment : Alignment) → IsStill u start alignment → (fault : Fault) → AlignmentMeets u start alignment fault
still_meets u start alignment still AlignmentBelowGranularity = inr still
still_meets u start alignment still UnevenEnd = inr still
still_meets u start alignment still TooFewNops = (no_limit u alignment.alignment alignment.nops alignment.max_skip still.unlimited).0
still_meets u start alignment still UnevenNops = (no_limit u alignment.alignment alignment.nops alignment.max_skip still.unlimited).1
still_meets u start alignment still other = tt

no_target : (u start : ℕ) (item : Item) → UnitMeets u start item TargetInside
no_target u start (Site site) = tt
no_target u start (Aligned alignment) = tt

no_nops : (u start : ℕ) (item : Item) → UnitMeets u start item MayBeMisaligned
no_nops u start (Site site) = tt
no_nops u start (Aligned alignment) = tt

-- what an item meets among the others, its target and its nops aside
of_unit : (u start : ℕ) (items : List Item) (i : ℕ) → ((fault : Fault) → RunMeets u start items i fault) → (fault : Fault) → UnitMeets u start (item_at items i) fault
of_unit u start items i met TargetInside = no_target u start (item_at items i)
of_unit u start items i met MayBeMisaligned = no_nops u start (item_at items i)
of_unit u start items i met other = met other

pub run_met : (u start : ℕ) (items : List Item) (i : ℕ) → AreInOrder start items → ((fault : Fault) → UnitMeets u start (item_at items i) fault) → IsClearRun items (target_of (item_at items i)) → HasItsNops u start items i (item_at items i) → (fault : Fault) → RunMeets u start items i fault
run_met u start items i order met clear enough TargetInside = clear_all start items (target_of (item_at items i)) order clear
run_met u start items i order met clear enough MayBeMisaligned = enough
run_met u start items i order met clear enough other = met other

-- where all before the target is met, and that too
pub run_earlier : (u start : ℕ) (items : List Item) (i n : ℕ) → ((fault : Fault) → UnitMeets u start (item_at items i) fault) → n < 16 → (14 < n → RunMeets u start items i TargetInside) → (fault : Fault) → number_of fault < n → RunMeets u start items i fault
run_earlier u start items i n met few clear TargetInside below = clear below
run_earlier u start items i n met few clear MayBeMisaligned below = absurd (omega arith)
run_earlier u start items i n met few clear other below = met other

pub clear_met : (u start : ℕ) (items : List Item) (i : ℕ) → AreInOrder start items → IsClearRun items (target_of (item_at items i)) → RunMeets u start items i TargetInside
clear_met u start items i order clear = clear_all start items (target_of (item_at items i)) order clear

-- an item's own fault in a run of a granularity comes before those
few : (u start : ℕ) (item : Item) (fault : Fault) → ¬ UnitMeets u start item fault → number_of fault < 14
few u start item TargetInside not_met = absurd (not_met (no_target u start item))
few u start item MayBeMisaligned not_met = absurd (not_met (no_nops u start item))
few u start item other not_met = omega arith

pub first_unit : (u start : ℕ) (items : List Item) (i : ℕ) (fault : Fault) → IsFirstOf (UnitMeets u start (item_at items i)) fault → IsFirstOf (RunMeets u start items i) fault
first_unit u start items i fault first = record {
  here = λ met. first.here (of_run fault met);
  earlier = λ other below. run_before other (let least = few u start (item_at items i) fault first.here in omega arith) (first.earlier other below);
}
  where
    of_run : (fault : Fault) → RunMeets u start items i fault → UnitMeets u start (item_at items i) fault
    of_run TargetInside met = no_target u start (item_at items i)
    of_run MayBeMisaligned met = no_nops u start (item_at items i)
    of_run other met = met

    run_before : (other : Fault) → number_of other < 14 → UnitMeets u start (item_at items i) other → RunMeets u start items i other
    run_before TargetInside below met = absurd (omega arith)
    run_before MayBeMisaligned below met = absurd (omega arith)
    run_before other below met = met

pub all_items : (start : ℕ) (items : List Item) → AreSound start items → ((i : ℕ) → i < length items → (fault : Fault) → RunMeets (run_granularity items) start items i fault) → AreItems start items
all_items start items sound run = record {
  in_order = in_order start items sound;
  formed = λ i within. item_formed (item_at items i) (own_item start items i (sound i within));
  fit = λ i within. item_fits (run_granularity items) start (item_at items i) (of_unit (run_granularity items) start items i (run i within));
  in_words = λ i within. item_in_words (run_granularity items) start (item_at items i) (of_unit (run_granularity items) start items i (run i within));
  clear = λ i j within there. run i within TargetInside j there;
  enough = λ i within. run i within MayBeMisaligned;
}

-- the first faults of both kinds are the first of all
pub own_first : (start : ℕ) (items : List Item) (found : ItemFault) → IsFirstAt (OwnMeets start items) (length items) found → IsFirstFault start items found
own_first start items found first =
    let none : ¬ AreSound start items = λ sound. first.first.here (sound found.index first.within found.fault) in
    record {
      within = first.within;
      before = λ i below fault. (first.before i below fault, λ sound. absurd (none sound));
      first = record {
        here = λ met. first.first.here met.0;
        earlier = λ other below. (first.first.earlier other below, λ sound. absurd (none sound));
      };
    }

run_first : (start : ℕ) (items : List Item) (found : ItemFault) → AreSound start items → IsFirstAt (RunMeets (run_granularity items) start items) (length items) found → IsFirstFault start items found
run_first start items found sound first =
    record {
      within = first.within;
      before = λ i below fault. (sound i (omega (arith, first.within)) fault, λ _. first.before i below fault);
      first = record {
        here = λ met. first.first.here (met.1 sound);
        earlier = λ other below. (sound found.index first.within other, λ _. first.first.earlier other below);
      };
    }

pub first_of_run : (start : ℕ) (items : List Item) (found : Option ItemFault) → AreSound start items
    → MatchOption found ((i : ℕ) → i < length items → (fault : Fault) → RunMeets (run_granularity items) start items i fault) (IsFirstAt (RunMeets (run_granularity items) start items) (length items))
    → MatchOption found (AreItems start items) (IsFirstFault start items)
first_of_run start items None sound run = all_items start items sound run
first_of_run start items (Some found) sound first = run_first start items found sound first
