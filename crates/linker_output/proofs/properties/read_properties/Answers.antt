use Rattle.linker_output.proofs.Imports.{IfOk-weaker, WritesRead, ap, arith, err_from_is_err_and, inl, inr, length, sym, ◌∙◌, ◌≡◌, ◌≤◌}
use Rattle.linker_output.proofs.MergedProperties.{put_within}
use Rattle.linker_output.proofs.properties.read_properties.Goals as goal

pub returns-in_err-needed-clause-err : goal.returns-in_err-needed-clause-err
returns-in_err-needed-clause-err c =
    let p = err_from_is_err_and c.from_residual.result c.from_residual.ensures.1 in
    rw (p.1, p.2) (inl c.in_err-needed.ensures.err)

pub returns-then-properties-needed-clause-err : goal.returns-then-properties-needed-clause-err
returns-then-properties-needed-clause-err c =
    let e = c.in_ok-needed.ensures.ok in
    inr (e.0, e.1, omega arith, cc)

pub returns-clause-ok : goal.returns-clause-ok
returns-clause-ok c =
    let e = c.in_ok-needed.ensures.ok in
    let before = c.args.properties.now in
    IfOk-weaker c.read_into-2.result _ (WritesRead c.args.architecture c.args.section.now before c.read_into-2.new.properties)
    (λ n h.
    let lists : e.0 ≡ h.0 = cc (e.1, h.1) in
    let same = ap length lists in
    let within : length h.0 ≤ length before = omega arith in
    (h.0, h.1, sym h.2, omega arith, h.3 ∙ put_within h.0 before within))
    c.read_into-2.ensures.ok
