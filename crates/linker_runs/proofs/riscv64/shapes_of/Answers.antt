use Rattle.linker_runs.proofs.Imports.{ap, inl, refl, rules, subst, sym, true, ◌∙◌, ◌≡◌}
use Rattle.linker_runs.specs.RiscV32.{links_short}
use Rattle.linker_runs.proofs.riscv64.shapes_of.Goals as goal

pub returns-then-may_free : goal.returns-then-may_free
returns-then-may_free g c = inl (
  record {
    c_extension = ap (λ r. r.may_compress) (sym c.relocation_at-may_compress.ensures) ∙ c.if-may_compress.true;
    links = subst (λ n. links_short c.args.machine n ≡ true) c.requires.link (sym c.links_short.ensures ∙ c.if-links_short.true);
    frees = c.may_free.ensures.0 (search rules);
  },
  refl,
)
