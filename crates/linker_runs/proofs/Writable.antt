-- A site that a relaxation made shorter can be written.
use Rattle.linker_runs.proofs.Imports.{Aligned, CodeCause, DeletedOutside, HasItsInstructions, IsShortened, IsUnwritable, Item, ItemError, List, LoongArch64, Machine, NoShape, NotItsFirstBytes, NotItsInstructions, OutOfReach, OutOfSection, Overlaps, RiscV, Section, ShortSitesAreWritable, Site, ap, arith, choice_of, cond-true, deletions_of_run, freed_before, is_reached, item_at, item_reaches, kept_by, kept_len, nat_lt, nat_tests, offset_of, place_of, rank, section_of, short_shape, sum_64, sym, target_of, true, ℕ, ◌-◌, ◌<◌, ◌∙◌, ◌≡◌}
use Rattle.linker_runs.specs.declared.relaxation.Site.{Site as sites}
use Rattle.linker_runs.proofs.Translations.{translations_exact}
use Rattle.linker_runs.proofs.First.{first_bytes}
use Rattle.linker_runs.proofs.RiscVWritable.{riscv_not}
use Rattle.linker_runs.proofs.LoongArchWritable.{loongarch_not}

-- ---- sites

module _ (bytes : List ℕ) (base : ℕ) (d : List (ℕ × ℕ)) (start : ℕ) where
  abbrev s : Section
  s = section_of bytes base d start

  -- a site can be written where its instructions can
  pub site_free : (machine : Machine) (site : sites) → HasItsInstructions machine bytes base (Site site) → (IsUnwritable machine s (Site site) NotItsFirstBytes → ⊥)
      → ((error : ItemError) → CodeCause machine bytes (site.offset - base) (kept_len d (Site site)) (sum_64 start (rank d site.offset)) (sum_64 start (rank d site.target)) error → ⊥)
      → (error : ItemError) → IsUnwritable machine s (Site site) error → ⊥
  site_free machine site has first not NotItsFirstBytes u = first u
  site_free machine site has first not NotItsInstructions u = not NotItsInstructions (u.1 has.0)
  site_free machine site has first not NoShape u = not NoShape u.1.1
  site_free machine site has first not OutOfReach u = not OutOfReach u.1.1
  site_free machine site has first not Overlaps u = not Overlaps u.1.1
  site_free machine site has first not OutOfSection u = not OutOfSection u.1.1
  site_free machine site has first not DeletedOutside u = not DeletedOutside u.1.1

  -- those of a site that has a short shape, and reaches its target by the deletions, can
  code_not : (machine : Machine) (site : sites) (kept k : ℕ) → HasItsInstructions machine bytes base (Site site) → k < site.shapes.count → kept ≡ (short_shape site.shapes k).kept
      → is_reached (short_shape site.shapes k) (rank d site.offset) (rank d site.target) ≡ true
      → (error : ItemError) → CodeCause machine bytes (site.offset - base) kept (sum_64 start (rank d site.offset)) (sum_64 start (rank d site.target)) error → ⊥
  code_not (RiscV isa) site kept k has short len near = riscv_not (RiscV isa) bytes (site.offset - base) start _ _ kept site.shapes k has.3 short len near
  code_not LoongArch64 site kept k has short len near = loongarch_not bytes (site.offset - base) start _ _ kept site.shapes k has.3 short len near

  -- the same of an item of a run, by its layout
  item_not : (machine : Machine) (item : Item) (freed k here there : ℕ) → IsShortened item k → HasItsInstructions machine bytes base item
      → (IsUnwritable machine s item NotItsFirstBytes → ⊥) → kept_len d item ≡ kept_by start item k freed → item_reaches item k here there ≡ true
      → rank d (offset_of item) ≡ offset_of item - here → rank d (target_of item) ≡ target_of item - there
      → (error : ItemError) → IsUnwritable machine s item error → ⊥
  item_not machine (Aligned alignment) freed k here there short has first kept reached at goes = absurd short
  item_not machine (Site site) freed k here there short has first kept reached at goes = site_free machine site has first (code_not machine site (kept_len d (Site site)) k has short len near)
    where
      test : nat_lt k site.shapes.count ≡ true
      test = grind (arith, nat_tests)

      target : target_of (Site site) ≡ site.target
      target = cond-true (nat_lt 0 site.shapes.count) site.target site.offset (let some : 0 < site.shapes.count = omega arith in grind (arith, nat_tests))

      len : kept_len d (Site site) ≡ (short_shape site.shapes k).kept
      len = kept ∙ cond-true (nat_lt k site.shapes.count) (short_shape site.shapes k).kept site.shapes.longest test

      near : is_reached (short_shape site.shapes k) (rank d site.offset) (rank d site.target) ≡ true
      near =
          ap (λ n. is_reached (short_shape site.shapes k) n (rank d site.target)) at
          ∙ ap (is_reached (short_shape site.shapes k) (site.offset - here)) (ap (rank d) (sym target) ∙ goes)
          ∙ sym (cond-true (nat_lt k site.shapes.count) (is_reached (short_shape site.shapes k) (site.offset - here) (target_of (Site site) - there)) true test)
          ∙ reached

pub short_sites : ShortSitesAreWritable
short_sites machine start base items shapes kept freed bytes are is i within short has error unwritable =
    let first = first_bytes start items shapes kept freed are is i within in
    let places = translations_exact start items shapes kept freed are is i within in
    item_not bytes base (deletions_of_run items kept) start machine (item_at items i) (freed_before start items (choice_of shapes) i) (choice_of shapes i)
    (freed_before start items (choice_of shapes) i) (freed_before start items (choice_of shapes) (place_of items (target_of (item_at items i))))
    short has (first.1 machine bytes base) (first.0 ∙ is.kept_bytes.each i within) (is.reached i within) places.0 places.1 error unwritable
