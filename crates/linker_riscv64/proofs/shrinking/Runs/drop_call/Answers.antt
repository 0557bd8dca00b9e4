use Rattle.linker_riscv64.proofs.Imports.{AreRunsOf, ap, arith, false, get_or, length-map, map, map-set, set, subst, sym, ◌-◌, ◌/◌, ◌∙◌, ◌≡◌}
use Rattle.linker_riscv64.proofs.Shrunk.{runs_dropped}
use Rattle.linker_riscv64.proofs.shrinking.Runs.drop_call.Goals as goal

pub returns-clause-runs : goal.returns-clause-runs
returns-clause-runs g c =
    let h = g.A.AsChoice.choice in
    let bs = c.args.answer.now in
    let k = c.args.index in
    let runs = c.args.self.now in
    let now : set (map h bs) k false ≡ map h (set bs k c.from_choice.result) = ap (set (map h bs) k) (sym c.from_choice.ensures.tells) ∙ sym (map-set h bs k c.from_choice.result) in
    subst (AreRunsOf (record { len = runs.len; counts = set runs.counts (k / runs.len) (get_or runs.counts (k / runs.len) 0 - 1) })) now
    (runs_dropped runs (map h bs) k c.requires.runs (omega (arith, c.requires.within, length-map bs h)) c.requires.chosen)

pub returns-clause-dropped : goal.returns-clause-dropped
returns-clause-dropped g c =
    let h = g.A.AsChoice.choice in
    map-set h c.args.answer.now c.args.index c.from_choice.result ∙ ap (set (map h c.args.answer.now) c.args.index) c.from_choice.ensures.tells
