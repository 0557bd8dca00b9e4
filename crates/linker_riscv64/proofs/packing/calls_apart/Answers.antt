use Rattle.linker_riscv64.proofs.Imports.{AreApart, IsTrue, map-id, none_decides, subst, ◌+◌, ◌↔◌}
use Rattle.linker_riscv64.proofs.Packed.{apart_take}
use Rattle.linker_riscv64.proofs.packing.calls_apart.Goals as goal

pub returns : goal.returns
returns c =
    subst (λ calls. IsTrue c.is_none.result ↔ AreApart calls) (map-id c.args.calls.now)
    (none_decides c.first_not_apart.result c.is_none.result _ _ c.is_none.ensures c.first_not_apart.ensures (λ k first apart. first.here (apart_take _ (k + 1) apart)))
