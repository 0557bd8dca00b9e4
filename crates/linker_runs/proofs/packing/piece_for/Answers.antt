use Rattle.linker_runs.proofs.Imports.{ItemBecomes, ap, deletions_of, nop_len, nops, section_of, subst, sym, ◌%◌, ◌∙◌}
use Rattle.linker_runs.proofs.Nops.{nops_length}
use Rattle.linker_runs.proofs.packing.piece_for.Goals as goal

pub returns-then-kept-nop_len-eq0-clause-becomes :
    goal.returns-then-kept-nop_len-eq0-clause-becomes
returns-then-kept-nop_len-eq0-clause-becomes c = λ valid position.
    let machine = c.args.machine in
    let n = c.args.kept in
    subst (λ item. ItemBecomes machine (section_of c.args.section.now c.args.base (deletions_of c.args.deltas.now) c.args.start) item (nops machine n)) (sym c.in-Aligned.is)
    (ap (nops machine) (sym (nops_length machine n (ap (λ k. n % k) (sym c.nop_len.ensures.len) ∙ c.if-kept-nop_len-eq0.true))))

pub returns-then-kept-nop_len-eq0-clause-len : goal.returns-then-kept-nop_len-eq0-clause-len
returns-then-kept-nop_len-eq0-clause-len c =
    nops_length c.args.machine c.args.kept (ap (λ k. c.args.kept % k) (sym c.nop_len.ensures.len) ∙ c.if-kept-nop_len-eq0.true)
