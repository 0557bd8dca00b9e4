-- A call of RISC-V that stays long can be written in a run of less than 2 GiB less 2 KiB.
use Rattle.linker_runs.proofs.Imports.{Aligned, CALL, HasItsInstructions, HasRiscVShapes, IsAligned, IsNear, IsOutOfReach, IsSite, IsSomeAnd, Isa, Item, ItemError, List, Machine, NearCallsAreWritable, NoShape, NotItsInstructions, OutOfReach, R_RISCV_CALL_PLT, RiscV, RiscVCause, Shapes, Site, TAIL_C, ap, arith, choice_of, drop, false, false≢true, freed_before, has_short_jump, ints, item_at, length, length-drop, length-take, negsuc, offset_of, place_of, pos, refl, riscv_fits, riscv_template, subst, sum_64, sym, take, target_of, true, ℕ, ℤ, ⊎_elim, ◌%◌, ◌+◌, ◌-ℤ◌, ◌-◌, ◌<◌, ◌^◌, ◌≡◌, ◌≤◌}
use Rattle.linker_runs.proofs.LongSites.{IsLongSite, LongCause, long_sites}
use Rattle.linker_runs.proofs.Distances.{not_rejected}

-- each number is a multiple of 1
pub whole : (v : ℤ) → IsAligned 1 v
whole (pos n) = ap pos (let e : n % 1 ≡ 0 = omega arith in e)
whole (negsuc n) = ap pos (let e : 0 - n % 1 ≡ 0 = omega arith in e)

-- the shapes of calls
longest : (machine : Machine) (section : List ℕ) (o : ℕ) (shapes : Shapes) → HasRiscVShapes machine section o shapes → (0 < shapes.count) × (shapes.longest ≡ 8)
longest machine section o shapes has = ⊎_elim
    (λ (call : shapes ≡ CALL). (subst (λ s. 0 < s.count) (sym call) (omega arith), ap (λ s. s.longest) call))
    (λ (tail : (shapes ≡ TAIL_C) × (has_short_jump machine section o ≡ true)). (subst (λ s. 0 < s.count) (sym tail.0) (omega arith), ap (λ s. s.longest) tail.0))
    has.1

module _ (machine : Machine) (section : List ℕ) (o start from to : ℕ) (there : o + 8 ≤ length section) (low : from < 2 ^ 31 - 2 ^ 11) (high : to < 2 ^ 31 - 2 ^ 11) where
  call_near : IsSomeAnd (riscv_template machine section o 8) (λ t. IsOutOfReach t (sum_64 start from) (sum_64 start to)) → ⊥
  call_near far =
      not_rejected start from to _ (take 8 (drop o section)) (riscv_fits R_RISCV_CALL_PLT) long (λ v. tt) (λ v e. absurd (false≢true e))
      (λ v w. (omega (arith, ints, w.0), omega (arith, ints, w.1))) refl
      (record { supported = refl; within = (omega (arith, ints), omega (arith, ints)); encoded = tt; aligned = whole (pos to -ℤ pos from) }) far
    where
      long : 8 ≤ length (take 8 (drop o section))
      long = let a = length-take 8 (drop o section) in let b = length-drop o section in omega arith

  long_not : (shapes : Shapes) → HasRiscVShapes machine section o shapes → (error : ItemError) → RiscVCause machine section o 8 (sum_64 start from) (sum_64 start to) error → ⊥
  long_not shapes has NotItsInstructions cause = cause has.0
  long_not shapes has NoShape cause = let no = cause.1 in cc
  long_not shapes has OutOfReach cause = call_near cause.1
  long_not shapes has other cause = cause

module _ (isa : Isa) (bytes : List ℕ) (base start here there : ℕ) where
  is_long : (item : Item) → IsSite item → HasItsInstructions (RiscV isa) bytes base item → IsLongSite item
  is_long (Site site) is has = longest (RiscV isa) bytes (site.offset - base) site.shapes has.3
  is_long (Aligned alignment) is has = is

  call_not : (item : Item) → IsNear item → HasItsInstructions (RiscV isa) bytes base item → (error : ItemError)
      → LongCause (RiscV isa) bytes base start item (offset_of item - here) (target_of item - there) error → ⊥
  call_not (Site site) near has error cause =
      long_not (RiscV isa) bytes (site.offset - base) start (site.offset - here) (target_of (Site site) - there) (omega (arith, has.1, has.2)) (omega (arith, near.0)) (omega (arith, near.1)) site.shapes has.3 error cause
  call_not (Aligned alignment) near has error cause = cause

pub near_calls : NearCallsAreWritable
near_calls isa start base items shapes kept freed bytes are is i within near has =
    let here = freed_before start items (choice_of shapes) i in
    let there = freed_before start items (choice_of shapes) (place_of items (target_of (item_at items i))) in
    long_sites (RiscV isa) start base items shapes kept freed bytes are is i within (is_long isa bytes base start here there (item_at items i) near.0 has) has
    (call_not isa bytes base start here there (item_at items i) near.1 has)
