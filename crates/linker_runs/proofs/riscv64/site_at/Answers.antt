use Rattle.linker_runs.proofs.Imports.{Aligned, HasRiscVName, IsCallAt, IsMarked, IsOfCall, Item, List, Machine, MayFree, Relocation, RiscVMakes, Site, ap, arith, map, refl, relocation_at, rules, subst, ℕ, ⊎_elim, ◌+◌}
use Rattle.linker_elf.specs.declared.riscv64.relocations.RiscVRelocation.TheVariants as r
use Rattle.linker_runs.proofs.riscv64.site_at.Goals as goal

-- a call's relocation makes no site where it may free nothing, and never an alignment
no_item : (machine : Machine) (section : List ℕ) (base : ℕ) (relocations : List Relocation) (i : ℕ) → IsOfCall (relocation_at relocations i) → ¬ MayFree 4 relocations i → (item : Item) → ¬ RiscVMakes machine section base relocations i item
no_item machine section base relocations i called not_free (Site call) made = not_free made.frees
no_item machine section base relocations i called not_free (Aligned alignment) made =
    ⊎_elim
    (λ (call : HasRiscVName r.R_RISCV_CALL (relocation_at relocations i)). absurd (omega (arith, made.name)))
    (λ (plt : HasRiscVName r.R_RISCV_CALL_PLT (relocation_at relocations i)). absurd (omega (arith, made.name)))
    called

pub returns-then-not-may_free-clause-none : goal.returns-then-not-may_free-clause-none
returns-then-not-may_free-clause-none g c =
    no_item c.args.machine c.args.section.now c.args.base (map g.R.AsRelocation.relocation c.args.relocations.now) c.args.index c.requires.called
    (λ free. (let h = c.may_free.ensures.1 free in let g = c.if-not-may_free.true in cc))

pub returns-clause-some : goal.returns-clause-some
returns-clause-some g c = record {
  name = c.requires.called;
  marked = subst (λ r_type. IsMarked r_type (map g.R.AsRelocation.relocation c.args.relocations.now) c.args.index) c.r_type.ensures (c.is_marked.ensures.0 (search rules));
  frees = c.may_free.ensures.0 (search rules);
  place = ap (λ r. c.args.base + r.offset) c.relocation_at-relocation.ensures;
  is_call = subst (λ r. IsCallAt c.args.section.now r.offset) c.relocation_at-relocation.ensures c.in_ok-link.ensures.0;
  len = refl;
  target = search rules;
  shapes = c.shapes_of.ensures;
}
