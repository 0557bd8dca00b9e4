use Rattle.linker_runs.proofs.Imports.{Bool, HasItsInstructions, HasRiscVShapes, HasShapes, IsInside, IsTrue, Item, List, LoongArch64, Machine, Site, [], arith, false, false≢true, length, section_of, subst, sym, ℕ, ◌+◌, ◌-◌, ◌↔◌, ◌∙◌, ◌≡◌, ◌≤◌}
use Rattle.linker_runs.proofs.packing.has_its_instructions.Goals as goal
use Rattle.linker_runs.proofs.packing.has_its_instructions.Goals.{then-site-ne8-via-then-site-ne8, then-site-ne8-via-else-site-ne8+then-not-is_inside}
use Rattle.linker_runs.specs.declared.relaxation.Site.{Site as sites}

module _ (bytes : List ℕ) (base : ℕ) (item : Item) (site : sites) (is : item ≡ Site site) where
  placed : IsInside (section_of bytes base [] 0) item → (base ≤ site.offset) × (site.offset + site.len ≤ base + length bytes)
  placed inside = subst (IsInside (section_of bytes base [] 0)) is inside

  has : (machine : Machine) (same : Bool) → site.len ≡ 8 → IsInside (section_of bytes base [] 0) item → (IsTrue same ↔ HasShapes machine bytes (site.offset - base) site.shapes) → IsTrue same ↔ HasItsInstructions machine bytes base item
  has machine same len inside shapes =
      let at = placed inside in (
        λ h. subst (HasItsInstructions machine bytes base) (sym is) (len, at.0, omega (arith, at.1, len), shapes.0 h),
        λ h. (let own = subst (HasItsInstructions machine bytes base) is h in shapes.1 own.3),
      )

  has_not : (machine : Machine) → (site.len ≡ 8 → IsInside (section_of bytes base [] 0) item → ⊥) → IsTrue false ↔ HasItsInstructions machine bytes base item
  has_not machine out = (
    λ h. absurd (no h),
    λ h.
        let own = subst (HasItsInstructions machine bytes base) is h in
        let inside : IsInside (section_of bytes base [] 0) item = subst (IsInside (section_of bytes base [] 0)) (sym is) (own.1, omega (arith, own.0, own.2)) in
        absurd (out own.0 inside),
  )
    where
      no : IsTrue false → ⊥
      no e = cc

pub overflow_sub-offset : goal.overflow_sub-offset
overflow_sub-offset c =
    (placed c.args.section.now c.args.base c.args.item.now c.in-Site.site c.in-Site.is ((c.is_inside.ensures [] 0).0 c.if-not-is_inside.false)).0

pub has_shapes-requires : goal.has_shapes-requires
has_shapes-requires c =
    let at = placed c.args.section.now c.args.base c.args.item.now c.in-Site.site c.in-Site.is ((c.is_inside.ensures [] 0).0 c.if-not-is_inside.false) in
    omega (arith, at.0, at.1, c.if-site-ne8.false)

pub returns-in-RiscV : goal.returns-in-RiscV
returns-in-RiscV c =
    let bytes = c.args.section.now in
    let site = c.in-Site.site in
    let same = c.has_shapes.result in
    has bytes c.args.base c.args.item.now site c.in-Site.is c.args.machine same c.if-site-ne8.false ((c.is_inside.ensures [] 0).0 c.if-not-is_inside.false)
    (subst (λ m. (IsTrue same ↔ HasRiscVShapes m bytes (site.offset - c.args.base) site.shapes) → (IsTrue same ↔ HasShapes m bytes (site.offset - c.args.base) site.shapes))
    (sym c.in-RiscV.is) (λ h. h) c.has_shapes.ensures)

pub returns-in-LoongArch64 : goal.returns-in-LoongArch64
returns-in-LoongArch64 c =
    rw c.in-LoongArch64.is
    (has c.args.section.now c.args.base c.args.item.now c.in-Site.site c.in-Site.is LoongArch64 c.has_shapes-in-LoongArch64.result c.if-site-ne8.false ((c.is_inside.ensures [] 0).0 c.if-not-is_inside.false) c.has_shapes-in-LoongArch64.ensures)

pub returns-then-site-ne8 : goal.returns-then-site-ne8
returns-then-site-ne8 c = elim c.then-site-ne8.branch [
  | then-site-ne8-via-then-site-ne8 w ↦
      has_not c.args.section.now c.args.base c.args.item.now c.in-Site.site c.in-Site.is c.args.machine (λ len inside. w.if-site-ne8.true len)
  | then-site-ne8-via-else-site-ne8+then-not-is_inside w ↦
      has_not c.args.section.now c.args.base c.args.item.now c.in-Site.site c.in-Site.is c.args.machine
      (λ len inside. false≢true (sym w.if-not-is_inside.true ∙ (w.is_inside.ensures [] 0).1 inside))
]
