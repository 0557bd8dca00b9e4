use Rattle.linker_utils.proofs.Imports.{IfSome, IsUpstream, subst, sym, ◌∙◌}
use Rattle.linker_utils.proofs.Upstream.{upstream_is}
use Rattle.linker_utils.proofs.elf.upstream.Goals as goal

pub returns-in-Some : goal.returns-in-Some
returns-in-Some c =
    upstream_is _ _ c.of.ensures.row c.of.ensures.known
    (subst (λ row. IfSome row IsUpstream) c.in-Some.is c.requires)
    ∙ sym c.in-Some.is
