-- Which items of a relaxed run are never out of reach where they are packed.
use Rattle.linker_runs.proofs.Imports.{Aligned, AreItems, DeletedOutside, HasItsInstructions, IsCause, IsNearAddress, IsNearCall36, IsNearSite, IsRelaxation, IsShortened, IsSite, IsUnwritable, Item, ItemError, KeepsEnd, List, LoongArch64, Machine, MayBePacked, NoneIsOutOfReach, OutOfReach, RiscV, Section, Site, arith, cases_lt, choice_of, deletions_of_run, false, is_fixed, item_at, length, nat_tests, section_of, subst, sym, ℕ, ⊎_elim, ◌<◌, ◌∙◌, ◌≡◌, ◌≤◌}
use Rattle.linker_runs.specs.declared.relaxation.Site.{Site as sites}
use Rattle.linker_runs.proofs.LoongArchAddresses.{near_addresses}
use Rattle.linker_runs.proofs.RiscVLongCalls.{near_calls}
use Rattle.linker_runs.proofs.LoongArchCalls36.{near_calls_36}
use Rattle.linker_runs.proofs.Writable.{short_sites}

module _ (start base : ℕ) (items : List Item) (shapes kept freed bytes : List ℕ) (are : AreItems start items) (is : IsRelaxation start items shapes kept freed)
    (i : ℕ) (within : i < length items) where
  abbrev s : Section
  s = section_of bytes base (deletions_of_run items kept) start

  -- a site that stays long
  near_site : (machine : Machine) → IsSite (item_at items i) → IsNearSite machine (item_at items i) → HasItsInstructions machine bytes base (item_at items i)
      → (error : ItemError) → IsUnwritable machine s (item_at items i) error → ⊥
  near_site (RiscV isa) site near has = near_calls isa start base items shapes kept freed bytes are is i within (site, near) has
  near_site LoongArch64 site near has = ⊎_elim
      (λ (call : IsNearCall36 (item_at items i)). near_calls_36 start base items shapes kept freed bytes are is i within call has)
      (λ (pair : IsNearAddress (item_at items i)). near_addresses start base items shapes kept freed bytes are is i within pair has)
      near

  packed_site : (machine : Machine) (site : sites) → item_at items i ≡ Site site → 0 < site.shapes.count → MayBePacked machine bytes base (Site site) (choice_of shapes i)
      → IsUnwritable machine s (Site site) OutOfReach → ⊥
  packed_site machine site e some may_be unwritable =
      let may = may_be some in
      let has : HasItsInstructions machine bytes base (item_at items i) = subst (HasItsInstructions machine bytes base) (sym e) may.0 in
      let far : IsUnwritable machine s (item_at items i) OutOfReach = subst (λ item. IsUnwritable machine s item OutOfReach) (sym e) unwritable in
      ⊎_elim
      (λ (short : choice_of shapes i < site.shapes.count).
      short_sites machine start base items shapes kept freed bytes are is i within (subst (λ item. IsShortened item (choice_of shapes i)) (sym e) short) has OutOfReach far)
      (λ (near : IsNearSite machine (Site site)).
      near_site machine (subst IsSite (sym e) tt) (subst (IsNearSite machine) (sym e) near) has OutOfReach far)
      may.1

  packed_item : (machine : Machine) (item : Item) → item_at items i ≡ item → is_fixed item ≡ false → MayBePacked machine bytes base item (choice_of shapes i)
      → IsUnwritable machine s item OutOfReach → ⊥
  packed_item machine (Aligned alignment) e written may_be unwritable = unwritable.1
  packed_item machine (Site site) e written may_be unwritable = packed_site machine site e some may_be unwritable
    where
      some : 0 < site.shapes.count
      some = ⊎_elim (λ (h : 0 < site.shapes.count). h) (λ (nothing : site.shapes.count ≤ 0). absurd (grind (arith, nat_tests))) (cases_lt 0 site.shapes.count)

no_other : DeletedOutside ≡ OutOfReach → ⊥
no_other e = cc

pub none_out_of_reach : NoneIsOutOfReach
none_out_of_reach machine start base items shapes kept freed bytes are is packed of_run rejected first e =
    let s = section_of bytes base (deletions_of_run items kept) start in
    ⊎_elim
    (λ (here : (rejected.index < length packed) × IsCause machine s packed rejected.index rejected.error).
    let item = of_run rejected.index here.0 in
    let cause : IsCause machine s packed rejected.index OutOfReach = subst (IsCause machine s packed rejected.index) e here.1 in
    packed_item start base items shapes kept freed bytes are is item.index item.within machine (item_at packed rejected.index) item.is cause.3 item.may_be cause.4)
    (λ (end : (rejected.index ≡ length packed) × (rejected.error ≡ DeletedOutside) × ¬ KeepsEnd s packed). no_other (sym end.1 ∙ e))
    first.here
