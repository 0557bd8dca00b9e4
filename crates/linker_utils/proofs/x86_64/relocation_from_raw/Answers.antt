use Rattle.linker_utils.proofs.Imports.{IfSome, IsUpstream, subst, sym, ◌∙◌}
use Rattle.linker_utils.proofs.Upstream.{upstream_form, x86_64_upstream}
use Rattle.linker_utils.proofs.x86_64.relocation_from_raw.Goals as goal

pub upstream-requires : goal.upstream-requires
upstream-requires c =
    subst (λ row. IfSome row IsUpstream) (sym c.upstream_row.ensures)
    (upstream_form _ (x86_64_upstream c.args.name))

pub returns : goal.returns
returns c = c.upstream.ensures ∙ c.upstream_row.ensures
