use Rattle.linker_utils.proofs.Imports.{IfSome, IsUpstream, RowAgrees, RowFits, RowReadsNoOther, subst, sym, ◌∙◌}
use Rattle.linker_utils.proofs.Upstream.{upstream_form, upstream_has, aarch64_upstream}
use Rattle.linker_utils.proofs.aarch64.relocation_type_from_raw.Goals as goal

pub upstream-requires : goal.upstream-requires
upstream-requires c =
    subst (λ row. IfSome row IsUpstream) (sym c.upstream_row.ensures.row)
    (upstream_form _ (aarch64_upstream c.args.name))

pub returns-clause-row : goal.returns-clause-row
returns-clause-row c = c.upstream.ensures ∙ c.upstream_row.ensures.row

pub returns-clause-agrees : goal.returns-clause-agrees
returns-clause-agrees c =
    upstream_has RowAgrees c.upstream.result _ c.upstream.ensures c.upstream_row.ensures.agrees

pub returns-clause-others : goal.returns-clause-others
returns-clause-others c =
    upstream_has RowReadsNoOther c.upstream.result _ c.upstream.ensures c.upstream_row.ensures.others

pub returns-clause-fits : goal.returns-clause-fits
returns-clause-fits c =
    upstream_has RowFits c.upstream.result _ c.upstream.ensures c.upstream_row.ensures.fits
