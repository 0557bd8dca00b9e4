-- The items of a section that was rewritten: their instructions, and what stays of deletions.
use Rattle.linker_runs.proofs.Imports.{Aligned, AreListed, HasItsInstructions, IsDeleted, Item, List, Makes, Site, arith, both_ways, common_steps, deleted_at, false, is_fixed, item_at, kept_by, length, refl, subst, suc, sym, true, ℕ, ◌<◌, ◌==◌, ◌∙◌, ◌≡◌}
use Rattle.linker_runs.specs.RewrittenItems.AreListed.{none, left_out, made, deleted}
use Rattle.linker_runs.specs.RewrittenLaws.{RewrittenSitesHaveInstructions, DeletedBytesGo}
use Rattle.linker_runs.proofs.First.{first_bytes}
use Rattle.linker_runs.proofs.MadeSites.{pushed, site}

-- what holds of each item that a relocation makes, and of each deletion, holds of each item
each_listed : (M : ℕ → Item → Type 0) (base n : ℕ) (ds : List (ℕ × ℕ)) (P : Item → Type 0) (i g end : ℕ) (items : List Item) (makers : List ℕ) → AreListed M base n ds i g end items makers
    → ((k : ℕ) (item : Item) → k < i → M k item → P item) → ((d : ℕ × ℕ) (item : Item) → IsDeleted base d item → P item) → (j : ℕ) → j < length items → P (item_at items j)
each_listed M base n ds P i g end items makers none each gone j below = absurd (omega arith)
each_listed M base n ds P (suc i) g end items makers (left_out before not) each gone j below = each_listed M base n ds P i g end items makers before (λ k item h. each k item (omega arith)) gone j below
each_listed M base n ds P (suc i) g end all all_makers (made {end = last} {items = items} {makers = makers} item before is following) each gone j below =
    pushed P items item (each_listed M base n ds P i g last items makers before (λ k item h. each k item (omega arith)) gone) (each i item (omega arith) is) j below
each_listed M base n ds P i (suc g) end all all_makers (deleted {end = last} {items = items} {makers = makers} item before is following) each gone j below =
    pushed P items item (each_listed M base n ds P i g last items makers before each gone) (gone (deleted_at ds g) item is) j below

deleted_is_fixed : (base : ℕ) (d : ℕ × ℕ) (item : Item) → IsDeleted base d item → is_fixed item ≡ true
deleted_is_fixed base d (Site site) is = subst (λ n. (n == 0) ≡ true) (sym is.2) refl
deleted_is_fixed base d (Aligned alignment) is = absurd is

pub rewritten_sites : RewrittenSitesHaveInstructions
rewritten_sites machine section base relocations deletions items makers listed formed =
    each_listed (Makes machine section base relocations) base (length relocations) deletions (λ item. is_fixed item ≡ false → HasItsInstructions machine section base item)
    (length relocations) (length deletions) listed.0 items makers listed.1
    (λ k item below makes short. site machine section base relocations k item (formed k below) makes)
    (λ d item is short. absurd (both_ways (is_fixed item) short (deleted_is_fixed base d item is)))

keeps_none : (start base : ℕ) (d : ℕ × ℕ) (item : Item) (k freed : ℕ) → IsDeleted base d item → kept_by start item k freed ≡ 0
keeps_none start base d (Site site) k freed is = grind (arith, common_steps, is.2, is.3)
keeps_none start base d (Aligned alignment) k freed is = absurd is

pub deleted_bytes : DeletedBytesGo
deleted_bytes start items shapes kept freed are relaxed j base d below is =
    (first_bytes start items shapes kept freed are relaxed j below).0 ∙ relaxed.kept_bytes.each j below ∙ keeps_none start base d (item_at items j) _ _ is
