-- What a relaxation made shorter can be written where the run is packed.
use Rattle.linker_runs.specs.Imports.{Aligned, Isa, Item, ItemError, List, LoongArch64, Machine}
use Rattle.linker_runs.specs.Imports.{OutOfReach, Relocation, RiscV, Shapes, Site, length, ℕ, ⊤}
use Rattle.std.specs.Prelude.{◌≡◌, ◌≢◌, ◌⊎◌, ◌-◌, ◌^◌, ◌<◌}
use Rattle.linker_runs.specs.declared.shapes.loongarch64.TheConstants.{CALL36, PCALA}
use Rattle.linker_runs.specs.Relaxing.{item_at, offset_of, target_of, choice_of}
use Rattle.linker_runs.specs.Choosing.{AreItems, IsRelaxation, IsSite}
use Rattle.linker_runs.specs.Deleting.{deletions_of_run}
use Rattle.linker_runs.specs.Relocations.{AreMade, AreWellFormed}
use Rattle.linker_runs.specs.SectionItems.{Makes, IsFormed}
use Rattle.linker_runs.specs.Origins.{HasItsInstructions}
use Rattle.linker_runs.specs.Packing.{section_of, IsUnwritable, IsFirstRejected}
use Rattle.linker_runs.specs.declared.packing.RejectedItem.{RejectedItem}

-- An item of a relaxed run can be written with the deletions of the run, if `IsSo` holds for it and
-- for the index of its shape, and the section has its instructions: `pack_run` doesn't reject it,
-- so it reaches its target.
abbrev pub AreWritable : Machine → (Item → ℕ → Type 0) → Type 0
AreWritable machine IsSo = (start base : ℕ) (items : List Item) (shapes kept freed bytes : List ℕ)
    → AreItems start items → IsRelaxation start items shapes kept freed
    → (i : ℕ) → i < length items → IsSo (item_at items i) (choice_of shapes i)
    → HasItsInstructions machine bytes base (item_at items i) → (error : ItemError)
    → ¬ IsUnwritable machine (section_of bytes base (deletions_of_run items kept) start)
    (item_at items i) error

-- a site that has a short shape
abbrev pub IsShortened : Item → ℕ → Type 0
IsShortened (Site site) k = k < site.shapes.count
IsShortened (Aligned alignment) k = ⊥

-- each site that the relaxation made shorter can be written
abbrev pub ShortSitesAreWritable : Type 0
ShortSitesAreWritable = (machine : Machine) → AreWritable machine IsShortened

-- a site with the shapes
abbrev pub HasShapesOf : Shapes → Item → Type 0
HasShapesOf shapes (Site site) = site.shapes ≡ shapes
HasShapesOf shapes (Aligned alignment) = ⊥

-- A site and its target lie in the first 2 ^ 31 - 2 ^ 11 bytes of the run: `auipc` and `jalr` reach
-- from one to the other, whatever is deleted.
abbrev pub IsNear : Item → Type 0
IsNear item = (offset_of item < 2 ^ 31 - 2 ^ 11) × (target_of item < 2 ^ 31 - 2 ^ 11)

-- each such call of RISC-V can be written, whichever shape it has
abbrev pub NearCallsAreWritable : Type 0
NearCallsAreWritable = (isa : Isa) → AreWritable (RiscV isa) (λ item k. IsSite item × IsNear item)

-- The site is an `R_LARCH_CALL36`. It and its target lie in the first 2 ^ 37 - 2 ^ 17 bytes of the
-- run: `pcaddu18i` and `jirl` reach from one to the other, whatever is deleted.
pub record IsNearCall36 (item : Item) : Type 0 where
  pub shapes : HasShapesOf CALL36 item
  pub offset : offset_of item < 2 ^ 37 - 2 ^ 17
  pub target : target_of item < 2 ^ 37 - 2 ^ 17

-- each such call of LoongArch can be written, whichever shape it has
abbrev pub NearCalls36AreWritable : Type 0
NearCalls36AreWritable = AreWritable LoongArch64 (λ item k. IsNearCall36 item)

-- The site is a pair of LoongArch that computes an address. It and its target lie in the
-- first 2 ^ 31 - 2 ^ 13 bytes of the run: the pages of `pcalau12i` reach from one to the
-- other, whatever is deleted.
pub record IsNearAddress (item : Item) : Type 0 where
  pub shapes : HasShapesOf PCALA item
  pub offset : offset_of item < 2 ^ 31 - 2 ^ 13
  pub target : target_of item < 2 ^ 31 - 2 ^ 13

-- each such pair can be written, whichever shape it has
abbrev pub NearAddressesAreWritable : Type 0
NearAddressesAreWritable = AreWritable LoongArch64 (λ item k. IsNearAddress item)

-- what a site has to be where it stays long
abbrev pub IsNearSite : Machine → Item → Type 0
IsNearSite (RiscV _) item = IsNear item
IsNearSite LoongArch64 item = IsNearCall36 item ⊎ IsNearAddress item

-- The item at an index of the run is an alignment, a site without short shapes, or a site that has
-- its instructions and is short or near.
abbrev pub MayBePacked : Machine → List ℕ → ℕ → Item → ℕ → Type 0
MayBePacked machine bytes base (Site site) k = 0 < site.shapes.count
    → HasItsInstructions machine bytes base (Site site)
    × ((k < site.shapes.count) ⊎ IsNearSite machine (Site site))
MayBePacked machine bytes base (Aligned alignment) k = ⊤

-- an item of the run that may be packed
pub record IsOfRun (machine : Machine) (bytes : List ℕ) (base : ℕ) (items : List Item)
    (shapes : List ℕ) (item : Item) : Type 0 where
  pub index : ℕ
  pub within : index < length items
  pub is : item_at items index ≡ item
  pub may_be : MayBePacked machine bytes base item (choice_of shapes index)

-- `pack_run` rejects none of such items of a relaxed run for its reach, with
-- the deletions of the run.
abbrev pub NoneIsOutOfReach : Type 0
NoneIsOutOfReach = (machine : Machine) (start base : ℕ) (items : List Item)
    (shapes kept freed bytes : List ℕ) → AreItems start items
    → IsRelaxation start items shapes kept freed
    → (packed : List Item)
    → ((j : ℕ) → j < length packed → IsOfRun machine bytes base items shapes (item_at packed j))
    → (rejected : RejectedItem)
    → IsFirstRejected machine (section_of bytes base (deletions_of_run items kept) start) packed
    rejected
    → rejected.error ≢ OutOfReach

-- The items that relocations of a section make, as `section_items` returns them, have their
-- instructions.
abbrev pub MadeSitesHaveInstructions : Type 0
MadeSitesHaveInstructions = (machine : Machine) (section : List ℕ) (base : ℕ)
    (relocations : List Relocation) (items : List Item) (makers : List ℕ)
    → AreMade (Makes machine section base relocations) (length relocations) items makers
    → AreWellFormed (IsFormed machine section) relocations (length relocations)
    → (j : ℕ) → j < length items → HasItsInstructions machine section base (item_at items j)
