use Rattle.linker_utils_c.proofs.Imports.{AreWays, arith, inl, refl, subst, ◌∙◌}
use Rattle.linker_utils_c.proofs.placement.place.Goals as goal

pub returns-in-Ok : goal.returns-in-Ok
returns-in-Ok c = inl (
  c.in-Ok.placement,
  refl,
  c.in-Ok.ensures.ok,
  c.in-Ok.ensures.shared,
  record {
    stubs = c.put_stubs.ensures;
    stubs_used = (let e = c.len.ensures in omega (arith, e));
    ways = subst (λ l. AreWays l c.put_ways.new.ways) c.deref.ensures.value c.put_ways.ensures;
    before = c.copy_from_slice.ensures.after ∙ c.deref-in-Ok.ensures.value;
  },
  refl,
)
