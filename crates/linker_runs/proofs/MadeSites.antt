-- The sites that relocations make are of the section's bytes.
use Rattle.linker_runs.proofs.Imports.{Aligned, AreMade, CALL, CALL36, HasItsInstructions, HasLoongArchShapes, HasRiscVShapes, HasShapes, IsCall36, IsCallAt, IsPcala, IsShapesOf, Item, List, LoongArch64, LoongArchMakes, Machine, MadeSitesHaveInstructions, Makes, MayBeShort, PCALA, Relocation, RiscV, Shapes, Site, TAIL_C, [], ap, arith, cases_lt, get_or-append, inl, inr, item_at, left_out, length, length-append, made, no_item, none, relocation_at, subst, suc, sym, zero, ℕ, ⊎_elim, ◌++◌, ◌+◌, ◌-◌, ◌<◌, ◌∙◌, ◌∷◌, ◌≡◌, ◌≤◌}
use Rattle.std.proofs.Math.Seq.{get_or-append_seam}
use Rattle.linker_runs.specs.SectionItems.{IsFormed}

-- what holds of each item, and of one after them
pub pushed : (P : Item → Type 0) (items : List Item) (item : Item) → ((j : ℕ) → j < length items → P (item_at items j)) → P item → (j : ℕ) → j < length (items ++ item ∷ []) → P (item_at (items ++ item ∷ []) j)
pushed P items item each is j below = ⊎_elim
    (λ (first : j < length items). subst P (sym (get_or-append items (item ∷ []) no_item j first)) (each j first))
    (λ (last : length items ≤ j).
    let at : length items ≡ j = omega (arith, length-append items (item ∷ [])) in
    subst P (sym (get_or-append_seam items item [] no_item) ∙ ap (item_at (items ++ item ∷ [])) at) is)
    (cases_lt j (length items))

-- what holds of each item that a relocation makes holds of each item
each_made : (Makes : ℕ → Item → Type 0) (P : Item → Type 0) (n : ℕ) (items : List Item) (makers : List ℕ) → AreMade Makes n items makers → ((i : ℕ) (item : Item) → i < n → Makes i item → P item) → (j : ℕ) → j < length items → P (item_at items j)
each_made Makes P zero [] makers none each j below = absurd (omega arith)
each_made Makes P zero (_ ∷ _) makers impossible each j below = elim impossible [ ]
each_made Makes P (suc i) items makers (left_out before not) each j below = each_made Makes P i items makers before (λ k item h. each k item (omega arith)) j below
each_made Makes P (suc i) all all_makers (made {items = items} {makers = makers} {item = item} before is) each j below =
    pushed P items item (each_made Makes P i items makers before (λ k item h. each k item (omega arith))) (each i item (omega arith) is) j below

riscv_shapes : (machine : Machine) (section : List ℕ) (relocations : List Relocation) (i : ℕ) (shapes : Shapes) → IsCallAt section (relocation_at relocations i).offset
    → IsShapesOf machine section relocations i shapes → HasRiscVShapes machine section (relocation_at relocations i).offset shapes
riscv_shapes machine section relocations i shapes is_call are = (
  is_call,
  ⊎_elim
      (λ (short : MayBeShort machine section relocations i × (shapes ≡ TAIL_C)). inr (short.1, short.0.links))
      (λ (other : (MayBeShort machine section relocations i → ⊥) × (shapes ≡ CALL)). inl other.1)
      are,
)

loongarch_site : (section : List ℕ) (base : ℕ) (relocations : List Relocation) (i : ℕ) (item : Item) → LoongArchMakes section base relocations i item → HasItsInstructions LoongArch64 section base item
loongarch_site section base relocations i (Aligned alignment) makes = tt
loongarch_site section base relocations i (Site here) makes =
    let o = (relocation_at relocations i).offset in
    let place : here.offset ≡ base + o = makes.0.place in
    let at : o ≡ here.offset - base = omega (arith, place) in
    let site : (o + 8 ≤ length section) × HasLoongArchShapes section o here.shapes = ⊎_elim
    (λ (call : IsCall36 section relocations i × (here.shapes ≡ CALL36)). (⊎_elim (λ one. one.within) (λ jump. jump.within) call.0.call, inl (call.0.call, call.1)))
    (λ (pair : IsPcala section relocations i × (here.shapes ≡ PCALA)). (pair.0.pair.within, inr (pair.0.pair, pair.1)))
    makes.1 in
    (makes.0.len, omega (arith, place), omega (arith, place, site.0), subst (λ n. HasLoongArchShapes section n here.shapes) at site.1)

pub site : (machine : Machine) (section : List ℕ) (base : ℕ) (relocations : List Relocation) (i : ℕ) (item : Item) → IsFormed machine section (relocation_at relocations i) → Makes machine section base relocations i item → HasItsInstructions machine section base item
site (RiscV _) section base relocations i (Aligned alignment) formed makes = tt
site (RiscV isa) section base relocations i (Site call) formed makes =
    let place : call.offset ≡ base + (relocation_at relocations i).offset = makes.place in
    let at : (relocation_at relocations i).offset ≡ call.offset - base = omega (arith, place) in
    let shapes = riscv_shapes (RiscV isa) section relocations i call.shapes makes.is_call makes.shapes in
    (makes.len, omega (arith, place), omega (arith, place, (formed.call makes.name)), subst (λ n. HasShapes (RiscV isa) section n call.shapes) at shapes)
site LoongArch64 section base relocations i item formed makes = loongarch_site section base relocations i item makes

pub made_sites : MadeSitesHaveInstructions
made_sites machine section base relocations items makers all formed =
    each_made (Makes machine section base relocations) (HasItsInstructions machine section base) (length relocations) items makers all (λ i item below makes. site machine section base relocations i item (formed i below) makes)
