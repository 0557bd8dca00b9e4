use Rattle.linker_output.proofs.Imports.{IfOk-weaker, WritesMerged, ap, arith, length, sym, ◌∙◌, ◌≤◌}
use Rattle.linker_output.proofs.MergedProperties.{put_within, one_merged}
use Rattle.linker_output.proofs.properties.merge_properties.Goals as goal

pub returns-clause-ok : goal.returns-clause-ok
returns-clause-ok c =
    let a = c.args.architecture in
    let f = c.args.first.now in
    let s = c.args.second.now in
    let before = c.args.properties.now in
    let e = c.in_ok-needed.ensures.ok in
    IfOk-weaker c.merge_into-2.result _ (WritesMerged a f s before c.merge_into-2.new.properties)
    (λ n h.
    let same = ap length (one_merged a f s e.0 h.0 e.1 h.1) in
    let within : length h.0 ≤ length before = omega arith in
    (h.0, h.1, sym h.2, omega arith, h.4 ∙ put_within h.0 before within))
    c.merge_into-2.ensures.ok

pub returns-then-properties-needed-clause-one_list : goal.returns-then-properties-needed-clause-one_list
returns-then-properties-needed-clause-one_list c = one_merged c.args.architecture c.args.first.now c.args.second.now

pub returns-clause-one_list : goal.returns-clause-one_list
returns-clause-one_list c = one_merged c.args.architecture c.args.first.now c.args.second.now
