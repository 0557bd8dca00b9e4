-- A site of a relaxed run can be written if its eight bytes can where it stays long.
use Rattle.linker_runs.proofs.Imports.{Aligned, AreItems, CodeCause, HasItsInstructions, HasShapesOf, IsRelaxation, IsShortened, IsUnwritable, Item, ItemError, List, Machine, NotItsFirstBytes, Shapes, Site, ap, arith, cases_lt, choice_of, cond-false, cond-true, deletions_of_run, freed_before, inl, inr, item_at, kept_by, kept_len, length, nat_lt, nat_tests, offset_of, place_of, rank, section_of, short_shape, subst, sum_64, sym, target_of, ℕ, ⊎_elim, ◌-◌, ◌<◌, ◌∙◌, ◌≡◌, ◌≤◌, ◌⊎◌}
use Rattle.linker_runs.proofs.First.{first_bytes}
use Rattle.linker_runs.proofs.Translations.{translations_exact}
use Rattle.linker_runs.proofs.Writable.{site_free, short_sites}

-- a site with a short shape that has eight bytes where it stays long
abbrev pub IsLongSite : Item → Type 0
IsLongSite (Site site) = (0 < site.shapes.count) × (site.shapes.longest ≡ 8)
IsLongSite (Aligned alignment) = ⊥

pub is_long : (shapes : Shapes) → 0 < shapes.count → shapes.longest ≡ 8 → (item : Item) → HasShapesOf shapes item → IsLongSite item
is_long shapes some longest (Site site) is = (subst (λ t. 0 < t.count) (sym is) some, ap (λ t. t.longest) is ∙ longest)
is_long shapes some longest (Aligned alignment) is = is

-- why its eight bytes aren't written that go from an output offset to another
abbrev pub LongCause : Machine → List ℕ → ℕ → ℕ → Item → ℕ → ℕ → ItemError → Type 0
LongCause machine bytes base start (Site site) from to error = CodeCause machine bytes (site.offset - base) 8 (sum_64 start from) (sum_64 start to) error
LongCause machine bytes base start (Aligned alignment) from to error = ⊥

-- an item has a short shape, or none
short_or_long : (item : Item) (k : ℕ) → IsShortened item k ⊎ (IsShortened item k → ⊥)
short_or_long (Site site) k = ⊎_elim (λ (short : k < site.shapes.count). inl short) (λ (long : site.shapes.count ≤ k). inr (λ short. omega arith)) (cases_lt k site.shapes.count)
short_or_long (Aligned alignment) k = inr (λ short. short)

module _ (machine : Machine) (bytes : List ℕ) (base : ℕ) (d : List (ℕ × ℕ)) (start : ℕ) where
  long_free : (item : Item) (freed k here there : ℕ) → IsLongSite item → HasItsInstructions machine bytes base item → (IsShortened item k → ⊥)
      → (IsUnwritable machine (section_of bytes base d start) item NotItsFirstBytes → ⊥) → kept_len d item ≡ kept_by start item k freed
      → rank d (offset_of item) ≡ offset_of item - here → rank d (target_of item) ≡ target_of item - there
      → ((error : ItemError) → LongCause machine bytes base start item (offset_of item - here) (target_of item - there) error → ⊥)
      → (error : ItemError) → IsUnwritable machine (section_of bytes base d start) item error → ⊥
  long_free (Aligned alignment) freed k here there is has long first kept at goes not = absurd is
  long_free (Site site) freed k here there is has long first kept at goes not = site_free bytes base d start machine site has first (λ error cause. not error (moved error cause))
    where
      target : target_of (Site site) ≡ site.target
      target = cond-true (nat_lt 0 site.shapes.count) site.target site.offset (let some = is.0 in grind (arith, nat_tests))

      to : rank d site.target ≡ target_of (Site site) - there
      to = ap (rank d) (sym target) ∙ goes

      eight : kept_len d (Site site) ≡ 8
      eight = kept ∙ cond-false (nat_lt k site.shapes.count) (short_shape site.shapes k).kept site.shapes.longest
          (⊎_elim (λ (short : k < site.shapes.count). absurd (long short)) (λ (past : site.shapes.count ≤ k). grind (arith, nat_tests)) (cases_lt k site.shapes.count))
          ∙ is.1

      moved : (error : ItemError) → CodeCause machine bytes (site.offset - base) (kept_len d (Site site)) (sum_64 start (rank d site.offset)) (sum_64 start (rank d site.target)) error
          → CodeCause machine bytes (site.offset - base) 8 (sum_64 start (site.offset - here)) (sum_64 start (target_of (Site site) - there)) error
      moved error cause =
          let a = subst (λ n. CodeCause machine bytes (site.offset - base) n (sum_64 start (rank d site.offset)) (sum_64 start (rank d site.target)) error) eight cause in
          let b = subst (λ x. CodeCause machine bytes (site.offset - base) 8 (sum_64 start x) (sum_64 start (rank d site.target)) error) at a in
          subst (λ x. CodeCause machine bytes (site.offset - base) 8 (sum_64 start (site.offset - here)) (sum_64 start x) error) to b

pub long_sites : (machine : Machine) (start base : ℕ) (items : List Item) (shapes kept freed bytes : List ℕ) → AreItems start items → IsRelaxation start items shapes kept freed
    → (i : ℕ) → i < length items → IsLongSite (item_at items i) → HasItsInstructions machine bytes base (item_at items i)
    → ((error : ItemError) → LongCause machine bytes base start (item_at items i) (offset_of (item_at items i) - freed_before start items (choice_of shapes) i)
    (target_of (item_at items i) - freed_before start items (choice_of shapes) (place_of items (target_of (item_at items i)))) error → ⊥)
    → (error : ItemError) → IsUnwritable machine (section_of bytes base (deletions_of_run items kept) start) (item_at items i) error → ⊥
long_sites machine start base items shapes kept freed bytes are is i within site has not error unwritable =
    let first = first_bytes start items shapes kept freed are is i within in
    let places = translations_exact start items shapes kept freed are is i within in
    ⊎_elim
    (λ (short : IsShortened (item_at items i) (choice_of shapes i)). short_sites machine start base items shapes kept freed bytes are is i within short has error unwritable)
    (λ (long : IsShortened (item_at items i) (choice_of shapes i) → ⊥).
    long_free machine bytes base (deletions_of_run items kept) start (item_at items i) (freed_before start items (choice_of shapes) i) (choice_of shapes i)
    (freed_before start items (choice_of shapes) i) (freed_before start items (choice_of shapes) (place_of items (target_of (item_at items i))))
    site has long (first.1 machine bytes base) (first.0 ∙ is.kept_bytes.each i within) places.0 places.1 not error unwritable)
    (short_or_long (item_at items i) (choice_of shapes i))
